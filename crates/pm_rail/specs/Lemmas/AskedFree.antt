-- What a survey asks for is refused by nothing where no job is open.
use Rattle.std.specs.Prelude.{◌≡◌, ◌<◌, Bool, true, false, not, nat_lt, refl, Some, None, [], ◌∷◌}
use Rattle.std.proofs.Common.{arith}
use Rattle.std.proofs.lemmas.Bool.Decides.{nat_tests}
use Rattle.pm_table.specs.Rules.{first, rule}
use Rattle.pm_host.specs.declared.fault.HostFault.TheVariants.{Busy, UnknownOutput}
use Rattle.pm_host.specs.declared.job.Job.{Job as Asked}
use Rattle.pm_host.specs.Refusals.{is_busy}
use Rattle.pm_limits.specs.declared.fault.LimitFault.TheVariants.{MissingRegister}
use Rattle.pm_limits.specs.Guard.{Guarded, guard_fault, of_host}
use Rattle.pm_limits.specs.Part.{has_register}
use Rattle.pm_rail.specs.declared.survey.Survey.{Survey}
use Rattle.pm_rail.specs.Survey.{next_job}
use Rattle.pm_rail.specs.Lemmas.Says.{asks-so}

-- a host that is idle asks for what is there
not-refused : (busy there : Bool) → busy ≡ false → there ≡ true →
    of_host (first (rule busy Busy ∷ rule (not there) UnknownOutput ∷ [])) ≡ None
not-refused true there idle is = cc
not-refused false true idle is = refl
not-refused false false idle is = cc

check-free : (busy there has : Bool) → busy ≡ false → there ≡ true → has ≡ true →
    first (of_host (first (rule busy Busy ∷ rule (not there) UnknownOutput ∷ [])) ∷ rule (not has) MissingRegister ∷ []) ≡ None
check-free true there has idle is own = cc
check-free false true true idle is own = refl
check-free false true false idle is own = cc
check-free false false has idle is own = cc

pub asked-free : (v : Survey) (g : Guarded) (job : Asked) → is_busy g.host ≡ false → v.output < g.host.setup.outputs →
    next_job g.registers v g.host ≡ Some job → guard_fault g job ≡ None
asked-free v g job idle there is =
    let in_range : nat_lt v.output g.host.setup.outputs ≡ true = grind (arith, nat_tests) in
    asks-so (λ (j : Asked). guard_fault g j ≡ None) g.registers v g.host
    (not-refused (is_busy g.host) (nat_lt v.output g.host.setup.outputs) idle in_range)
    (λ r has. check-free (is_busy g.host) (nat_lt v.output g.host.setup.outputs) (has_register g.registers r) idle in_range has)
    (check-free (is_busy g.host) true true idle refl refl) job is
