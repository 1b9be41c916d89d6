use Rattle.std.specs.Prelude.{false}
use Rattle.pm_law_tests.proofs.exports.a_list_that_heard.Goals as goal

-- the course that heard stands in the memory
pub returns : goal.returns
returns c = λ q named is entry. c.sequences_are_kept.ensures.heard.heard c.args.was.now q named is false entry
