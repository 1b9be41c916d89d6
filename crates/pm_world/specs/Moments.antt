-- Two moments of a list of events, and what an output commands at them.
use Rattle.std.specs.Prelude.{◌≡◌, ◌⊎◌, ℕ, refl, List, [], ◌∷◌, ◌++◌}
use Rattle.std.proofs.Common.{inl, inr, sym, ap}
use Rattle.pm_model.specs.Commanded.{commanded, selected}
use Rattle.pm_device.specs.declared.config.Config.{Config}
use Rattle.pm_device.specs.Held.{value_for}
use Rattle.pm_rail.specs.Plan.{commands_by}
use Rattle.pm_rail.specs.Registers.{Held}
use Rattle.pm_world.specs.declared.event.Event.{Event}
use Rattle.pm_world.specs.Limited.{commands}
use Rattle.pm_world.specs.Plans.{held_at}

-- what a list ends with ends the later part of it, or goes beyond
pub record Beyond (middle newer later : List Event) : Type 0 where
  pub piece : List Event
  pub rest : List Event
  pub newer_is : newer ≡ rest ++ piece
  pub middle_is : middle ≡ piece ++ later

pub split-at : (rest middle newer later : List Event) → rest ++ middle ≡ newer ++ later →
    ((y : List Event) × (later ≡ y ++ middle)) ⊎ Beyond middle newer later
split-at [] middle newer later e = inr (record { piece = newer; rest = []; newer_is = refl; middle_is = e })
split-at (r ∷ rest) middle [] later e = inl (r ∷ rest, sym e)
split-at (r ∷ rest) middle (n ∷ newer) later e =
    let below : rest ++ middle ≡ newer ++ later = cc in
    elim (split-at rest middle newer later below) [
      | inl within ↦ inl within
      | inr beyond ↦ inr (record {
        piece = beyond.piece;
        rest = n ∷ beyond.rest;
        newer_is = ap (λ (es : List Event). n ∷ es) beyond.newer_is;
        middle_is = beyond.middle_is;
      })
    ]

-- an output commands the same by the same words
pub same-commands : (config : Config) (passes output : ℕ) (one other : List Event) →
    held_at config passes one output ≡ held_at config passes other output →
    commands config passes one output ≡ commands config passes other output
unfolding commanded selected
same-commands config passes output one other same = ap (λ (h : Held). commands_by (value_for config output) h) same
