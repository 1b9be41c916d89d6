use Rattle.pm_law_tests.proofs.Uses.{few}
use Rattle.pm_law_tests.proofs.progress.a_chain_has_an_end.Goals as goal

pub returns-clause-begins : goal.returns-clause-begins
returns-clause-begins g c chain =
    let d = g.d in
    c.chains_end.ensures.begins d.0 d.1 28 d.2 d.3 d.4 d.6 c.requires.0 c.requires.1.0 c.requires.1.1.0 c.requires.1.1.1 (few _) chain

pub returns-clause-goes_on : goal.returns-clause-goes_on
returns-clause-goes_on g c way many chain =
    let d = g.d in
    c.chains_end.ensures.goes_on d.0 d.1 d.2 d.3 d.4 d.5 d.6 c.requires.0 c.requires.1.0 c.requires.1.1.0 c.requires.1.1.1 way many chain
