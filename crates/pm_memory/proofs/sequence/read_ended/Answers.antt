use Rattle.std.proofs.Common.{◌≡◌, ◌∙◌, true, false, Option, ap, subst, sym}
use Rattle.pm_host.specs.declared.stage.Stage.{Stage}
use Rattle.pm_host.specs.Transcript.{Got}
use Rattle.pm_memory.specs.declared.sequence_image.SequenceImage.{SequenceImage}
use Rattle.pm_memory.specs.Hosted.{guard_in}
use Rattle.pm_memory.specs.SequenceImage.{sequence_meant}
use Rattle.pm_memory.specs.declared.host_step.HostStep.{HostStep}
use Rattle.pm_memory.specs.Host.{refused_step}
use Rattle.pm_memory.specs.Numbers.{accepted}
use Rattle.pm_memory.specs.Sequence.{is_look, of_a_job, of_a_look, refused_read, ReadIn}
use Rattle.pm_memory.proofs.sequence.read_ended.Goals as goal

pub returns-in-Err : goal.returns-in-Err
returns-in-Err c =
    subst (λ (s : HostStep). ReadIn c.args.host.now c.args.sequence.now c.args.bytes.now s c.args.host.now c.args.sequence.now)
    (sym c.no_step.ensures) (refused_read c.in-Err.number (sym c.in-Err.ensures.fault))

pub returns-then-not-is_look : goal.returns-then-not-is_look
returns-then-not-is_look c =
    let image = c.args.sequence.now in
    let g = guard_in c.args.host.now in
    let q = sequence_meant image in
    let look : is_look q g.host.stage ≡ false =
    ap (λ (at : Option Stage). is_look q at) (sym c.in-Ok.ensures.stage) ∙ sym c.is_look.ensures ∙ c.if-not-is_look.true in
    of_a_job g q c.hear.result c.hear.new.host c.hear.new.sequence c.in-Ok.ensures.both look c.hear.ensures

pub returns : goal.returns
returns c =
    let host = c.args.host.now in
    let image = c.args.sequence.now in
    let bytes = c.args.bytes.now in
    let g = guard_in host in
    let q = sequence_meant image in
    let look : is_look q g.host.stage ≡ true =
    ap (λ (at : Option Stage). is_look q at) (sym c.in-Ok.ensures.stage) ∙ sym c.is_look.ensures ∙ c.if-not-is_look.false in
    subst (λ (s : HostStep). ReadIn host image bytes s host c.look_hears.new.sequence) (sym c.no_step-2.ensures)
    (subst (λ (i : SequenceImage). ReadIn host image bytes (refused_step accepted) host i) (sym c.look_hears.ensures)
    (of_a_look g q c.in-Ok.ensures.both look))
