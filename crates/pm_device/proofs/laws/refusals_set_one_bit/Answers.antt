use Rattle.pm_device.proofs.Replies.{next-refused, next-silent, next-answered, next-taken}
use Rattle.pm_device.proofs.laws.refusals_set_one_bit.Goals as goal

pub returns : goal.returns
returns c = record { refused = next-refused; silent = next-silent; answered = next-answered; taken = next-taken }
