-- How a part is made, which nothing changes that happens beside it.
use Rattle.std.proofs.Common.{◌≡◌, ℕ, List, [], ◌∷◌, Option, Some, None, refl, ◌∙◌}
use Rattle.pm_device.specs.Effect as device
use Rattle.pm_device.specs.Held.{Held}
use Rattle.pm_device.specs.History.{after_outcome as device_after_outcome, device_next}
use Rattle.pm_world.specs.State.{device_after, next, share_of}
use Rattle.pm_part_laws.specs.Happenings.{Happening, Happens, Hears, beside}

-- no event changes how a converter is made
told-config : (held : Held) (heard : Option device.Event) → (device_after held heard).config ≡ held.config
unfolding device_next device_after_outcome
told-config held None = refl
told-config held (Some event) = refl

pub made-so : (held : Held) (passes : ℕ) (happened : List Happening) → (beside held passes happened).device.config ≡ held.config
unfolding beside next device_next device_after_outcome
made-so held passes [] = refl
made-so held passes (Happens event ∷ before) =
    told-config (beside held passes before).device (share_of (beside held passes before) event).heard ∙ made-so held passes before
made-so held passes (Hears bytes ending ∷ before) = made-so held passes before
