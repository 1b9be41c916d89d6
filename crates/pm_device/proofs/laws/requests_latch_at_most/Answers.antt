use Rattle.pm_device.proofs.Replies.{request-alone, request-kept, request-rises, past-without_requests}
use Rattle.pm_device.proofs.laws.requests_latch_at_most.Goals as goal

pub returns : goal.returns
returns c = record {
  alone = request-alone;
  kept = request-kept;
  rises = request-rises;
  past = past-without_requests c.pasts_are_followed.ensures;
}
