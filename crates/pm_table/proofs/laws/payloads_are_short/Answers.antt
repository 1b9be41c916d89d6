use Rattle.pm_table.proofs.TableLaws.{payload_length-short}
use Rattle.pm_table.proofs.laws.payloads_are_short.Goals as goal

pub returns : goal.returns
returns c = payload_length-short
