use Rattle.std.proofs.Common.{◌∙◌, ap}
use Rattle.pm_sequence.specs.declared.sequence.Rules.{Rules}
use Rattle.pm_sequence.specs.declared.sequence.Sequence.{Sequence}
use Rattle.pm_sequence.specs.Sequence.{new_sequence}
use Rattle.pm_memory.specs.SequenceImage.{sequence_image}
use Rattle.pm_memory.specs.SequenceSaid.{nothing_said}
use Rattle.pm_memory.proofs.sequence.begun.Goals as goal

pub returns : goal.returns
returns c = c.of.ensures ∙ ap (λ (q : Sequence). sequence_image q nothing_said)
    (c.new.ensures ∙ ap (λ (r : Rules). new_sequence c.args.tries r) c.rules_of.ensures)
