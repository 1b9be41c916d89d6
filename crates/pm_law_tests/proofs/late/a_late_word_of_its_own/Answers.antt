use Rattle.pm_law_tests.proofs.late.a_late_word_of_its_own.Goals as goal

pub returns-clause-holds : goal.returns-clause-holds
returns-clause-holds g c = let life = g.life in
    c.late_words_are_own.ensures.held life.frames life.setup life.held life.stored life.events c.args.cell c.requires.late c.requires.there

pub returns-clause-stores : goal.returns-clause-stores
returns-clause-stores g c = let life = g.life in
    c.late_words_are_own.ensures.stored life.frames life.setup life.held life.stored life.events c.args.cell c.requires.late c.requires.there
