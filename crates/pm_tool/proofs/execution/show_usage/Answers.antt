use Rattle.std.proofs.Common.{List, ℕ, refl, inl, inr, subst, sym}
use Rattle.pm_tool.specs.Usage.{IsSaid}
use Rattle.pm_tool.specs.Execution.{Misused, wants_memory}
use Rattle.pm_tool.proofs.execution.show_usage.Goals as goal

pub returns-in-Misused : goal.returns-in-Misused
returns-in-Misused g c =
    let P : List ℕ → Type 0 = λ text. IsSaid text in (
      Misused c.as_str-in-Misused.result.now,
      inl (c.in-Misused.ensures.0, subst P (sym c.as_str-in-Misused.ensures.value) c.in-Misused.ensures.1),
      record { status_is = c.misuse.ensures.status; printed = refl; said = c.misuse.ensures.said },
    )

pub returns-in-NoMemory : goal.returns-in-NoMemory
returns-in-NoMemory g c =
    let e = c.refuse_memory.ensures in
    (wants_memory, inr refl, record { status_is = e.status; printed = refl; said = e.said })
