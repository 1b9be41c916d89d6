-- A line that is cut: this project's own choice.
use Rattle.std.specs.Prelude.{◌≡◌, false, []}
use Rattle.pm_device.specs.Held.{Held}
use Rattle.pm_device.specs.History.{device_next}
use Rattle.pm_device.specs.Effect.{Hearing}
use Rattle.pm_device.specs.declared.converter.Ending.TheVariants.{Stop}
use Rattle.pm_driver.specs.Acts.{Call, Wrote, Read}

-- Over it nothing is acknowledged, and nothing comes back; the converter hears nothing of a write, and of a request a frame of no
-- byte.
abbrev pub gives_nothing : Held → Call → Held → Type 0
gives_nothing old (Wrote frame acked) new = (acked ≡ false) × (new ≡ old)
gives_nothing old (Read request room came) new = (came ≡ []) × (new ≡ device_next old (Hearing [] Stop))
