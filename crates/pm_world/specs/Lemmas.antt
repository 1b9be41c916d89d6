-- Facts on a life, on legal hearings and on limits that proofs above take by name. Each stands for a clause of its
-- definition: what one more event adds, what no event changes, and that what is heard whole is legal.
pub mod Formats
pub mod Hosts
pub mod Limits
pub mod Orders
pub mod Plans
pub mod SinceRestart
use Rattle.std.specs.Prelude.{◌≡◌, ◌++◌, ℕ, true, List, [], ◌∷◌, Option, Some, None, IsSomeAnd, option_to_list, refl}
use Rattle.std.specs.List.{starts_with}
use Rattle.std.proofs.Common.{eqb, subst, sym}
use Rattle.std.proofs.lemmas.Bool.{or_left}
use Rattle.std.proofs.lemmas.Bool.Decides.{Decides-eqb}
use Rattle.std.proofs.lemmas.List.{append-nil}
use Rattle.std.proofs.lemmas.Slice.Eq.{starts_is}
use Rattle.pm_num.specs.AnyFormat.{Shape, shape_value}
use Rattle.pm_frame.specs.Betrayal.{is_betrayed}
use Rattle.pm_device.specs.declared.config.Config.{Config}
use Rattle.pm_device.specs.declared.converter.Ending.TheVariants.{Restart, Stop}
use Rattle.pm_device.specs.History.{device_now}
use Rattle.pm_limits.specs.Bounds.{Bounds, IsWithin}
use Rattle.pm_world.specs.declared.event.Event.{Event}
use Rattle.pm_world.specs.Legal.{is_legal_hearing}
use Rattle.pm_world.specs.Life.{life, now, state_of}
use Rattle.pm_world.specs.State.{share_of}

-- The converter of a life stays that of its configuration.
pub now-config : (config : Config) (passes : ℕ) (events : List Event) → (now config passes events).device.config ≡ config
unfolding now state_of device_now
now-config config passes events = refl

-- One more event adds to the entries what the host was told of it.
pub entries-more : (config : Config) (passes : ℕ) (before : List Event) (event : Event) →
    (life config passes (event ∷ before)).entries
    ≡ option_to_list (share_of (now config passes before) event).told ++ (life config passes before).entries
unfolding life now
entries-more config passes before event = refl

-- A frame that is heard whole and ended by a stop is heard legally.
pub write-heard : (frame : List ℕ) → is_legal_hearing frame frame Stop ≡ true
unfolding is_legal_hearing
write-heard frame = or_left (starts_with eqb frame frame) (is_betrayed [] frame) whole where
  whole : starts_with eqb frame frame ≡ true
  whole = (starts_is Decides-eqb frame frame (starts_with eqb frame frame) refl).1 [] (sym (append-nil frame))

-- What a repeated start ended is heard legally.
pub whole-hearing : (frame : List ℕ) → is_legal_hearing frame frame Restart ≡ true
unfolding is_legal_hearing
whole-hearing frame = refl

-- A word within limits in the format that a host knows lies within them in the converter's own, which is the same.
pub in-format : (known : Option Shape) (own : Shape) (word : ℕ) (bounds : Bounds) →
    ((shape : Shape) → known ≡ Some shape → shape ≡ own) →
    IsSomeAnd known (λ shape. IsWithin bounds (shape_value shape word)) → IsWithin bounds (shape_value own word)
in-format None own word bounds agree within = absurd within
in-format (Some shape) own word bounds agree within =
    subst (λ (s : Shape). IsWithin bounds (shape_value s word)) (agree shape refl) within
