use Rattle.pm_law_tests.proofs.numbers.a_limit_beyond_the_range.Goals as goal

pub returns-in-Ok : goal.returns-in-Ok
returns-in-Ok g c = λ beyond. c.bounds_hold.ensures.end_down c.args.limit c.in-Ok.word beyond c.in-Ok.ensures.word
