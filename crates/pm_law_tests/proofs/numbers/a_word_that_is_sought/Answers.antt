use Rattle.pm_law_tests.proofs.numbers.a_word_that_is_sought.Goals as goal

pub returns-in-Ok : goal.returns-in-Ok
returns-in-Ok g c = λ word sought.
    g.met.F.NumFormat.one c.args.format.now c.args.x word c.in-Ok.word
    (c.found_words_are_nearest.ensures (g.F.NumFormat.value c.args.format.now) (g.F.NumFormat.rank c.args.format.now) c.args.x word sought)
    c.in-Ok.ensures.word
