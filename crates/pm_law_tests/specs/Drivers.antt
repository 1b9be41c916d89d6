-- What a course over a bus is worth for a caller: of each life that led to the driver before.
use Rattle.std.specs.Prelude.{◌≡◌, ◌<◌, ℕ, Some}
use Rattle.pm_table.specs.declared.cell.Cell.TheVariants.{Out}
use Rattle.pm_table.specs.declared.reg.Reg.{Reg}
use Rattle.pm_model.specs.Settings.{word_at}
use Rattle.pm_device.specs.Held.{Held}
use Rattle.pm_rail.specs.declared.wanted.Wanted.{Wanted}
use Rattle.pm_rail.specs.Registers.{wants_of}
use Rattle.pm_course.specs.declared.course_end.CourseEnd.{CourseEnd}
use Rattle.pm_course.specs.declared.course_end.CourseEnd.TheVariants.{Reached}
use Rattle.pm_course.specs.declared.wish.Wishes.{Wishes}
use Rattle.pm_course.specs.Wishes.{voltages_in, words_in}
use Rattle.pm_course_laws.specs.FrameLives.{Means}
use Rattle.pm_driver.specs.Driven.{Driving, HasLife}

-- the converter holds the word of each wish after a course to wishes that ended Reached, if the bus counted no restart
abbrev pub WishesAreHeld : {B : Type 0} → (B → Held) → (B → ℕ) → ℕ → Wishes → Driving B → CourseEnd → Driving B → Type 0
WishesAreHeld held restarts output wishes old end new = end ≡ Reached → restarts new.bus ≡ restarts old.bus →
    (led : HasLife old.guard.host (held old.bus)) → output < led.config.count →
    (wanted : Wanted) → Means led.config output (words_in wishes) (voltages_in wishes) wanted →
    (register : Reg) (word : ℕ) → wants_of wanted register ≡ Some word → word_at (held new.bus).words (Out output register) ≡ word
