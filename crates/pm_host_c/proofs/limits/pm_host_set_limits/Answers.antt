use Rattle.std.proofs.Common.{◌≡◌, ◌∙◌, true, [], ◌∷◌, w64, to_z, of_z, ap, sym, arith, rules}
use Rattle.std.proofs.lemmas.Int.{ints}
use Rattle.std.specs.Prelude.{nat_lt, slice_index_or}
use Rattle.std.specs.Result.{result_err}
use Rattle.pm_table.specs.Rules.{first}
use Rattle.pm_host.specs.Image.{held}
use Rattle.pm_limits.specs.declared.part_registers.PartRegisters.{PartRegisters}
use Rattle.pm_limits.specs.declared.output_limits.OutputLimits.{OutputLimits}
use Rattle.pm_limits.specs.declared.output_limits.OutputLimits.TheVariants.{Unlimited}
use Rattle.pm_limits.specs.Guard.{narrower_fault, open_fault}
use Rattle.pm_memory.specs.Guard.{limits_kept}
use Rattle.pm_host_c.proofs.Narrows.{refused}
use Rattle.pm_host_c.proofs.limits.pm_host_set_limits.Goals as goal

pub returns-in-Err-clause-number : goal.returns-in-Err-clause-number
returns-in-Err-clause-number c =
    let image = c.args.host.now in
    let s = held c.in-Ok.stage image.host.state in
    let least = c.args.least in
    let most = c.args.most in
    let below : nat_lt c.args.output s.setup.outputs ≡ true = search rules in
    let old = ap (λ (l : OutputLimits). first (narrower_fault l least most
    ∷ open_fault c.registers-registers.result (record { least = least; most = most }) s c.args.output ∷ [])) (sym c.limits-old.ensures) in
    let part = ap (λ (r : PartRegisters). first (narrower_fault (slice_index_or (limits_kept image) c.args.output Unlimited) least most
    ∷ open_fault r (record { least = least; most = most }) s c.args.output ∷ [])) (sym c.registers-registers.ensures) in
    let least_is : to_z w64 (of_z w64 least) ≡ least = omega (arith, ints) in
    let most_is : to_z w64 (of_z w64 most) ≡ most = omega (arith, ints) in
    let told = rw (least_is, most_is) at (sym c.narrower_limits.ensures.fault ∙ ap result_err c.in-Err.is) in
    let why = part ∙ old ∙ told in
    c.number-in-Err.ensures.number ∙ sym (refused image s c.args.output least most c.in-Err.fault c.in-Ok.ensures.found below why)
