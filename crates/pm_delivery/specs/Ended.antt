-- What a delivery says once nothing is left to ask. This project's own choice.
use Rattle.std.specs.Prelude.{ℕ, ◌==◌, if◌then◌else◌}
use Rattle.pm_rail.specs.declared.power.Power.{Power}
use Rattle.pm_rail.specs.declared.power.Power.TheVariants as power
use Rattle.pm_delivery.specs.declared.delivery.Delivery.{Delivery}
use Rattle.pm_delivery.specs.declared.due.Due.{Due}
use Rattle.pm_delivery.specs.declared.due.Due.TheVariants.{Ask, Again, Nothing}
use Rattle.pm_delivery.specs.declared.reading.Reading.{Reading}
use Rattle.pm_delivery.specs.declared.verdict.Verdict.{Verdict}
use Rattle.pm_delivery.specs.declared.verdict.Verdict.TheVariants.{NotYet, CommandedOff, NotKnownOn}
use Rattle.pm_delivery.specs.Deliveries.{look_off, looks_on}
use Rattle.pm_delivery.specs.Due.{due_of}
use Rattle.pm_delivery.specs.Verdict.{verdict_off, verdict_on}

-- a verdict, where nothing is due
abbrev pub once_over : Due → Verdict → Verdict
once_over Nothing verdict = verdict
once_over (Ask question) verdict = NotYet
once_over Again verdict = NotYet

-- an output that is commanded off, or isn't known to be on, isn't asked
abbrev pub verdict_at : Power → Due → Verdict → Verdict
verdict_at power.Off due verdict = CommandedOff
verdict_at power.NotKnown due verdict = NotKnownOn
verdict_at power.On due verdict = once_over due verdict

-- what the rail does, of an output with this power whose last reading stands so
abbrev pub delivery_verdict_of : Delivery → ℕ → Power → Reading → Verdict
delivery_verdict_of d passes power reading =
    if looks_on d then verdict_at power (due_of d passes power reading) (verdict_on d reading)
    else (if d.look == look_off then once_over (due_of d passes power reading) (verdict_off d) else NotYet)
