-- How READ_VOUT stands beside what an output commands and beside its limits, by exact fractions. This project's own choice.
use Rattle.std.specs.Prelude.{ℕ, ◌*◌, ℤ, pos, ◌*ℤ◌, ◌-ℤ◌, int_lt, nat_lt, unsigned_abs, ◌||◌, if◌then◌else◌, Bool, false, Option, Some, None}
use Rattle.pm_num.specs.AnyFormat.{Shape, shape_value}
use Rattle.pm_num.specs.Ratio.{Ratio, is_above, micros}
use Rattle.pm_host.specs.Summary.{Summary, format_at}
use Rattle.pm_limits.specs.Band.{band_at, is_no, within_of}
use Rattle.pm_limits.specs.declared.output_limits.OutputLimits.{OutputLimits}
use Rattle.pm_limits.specs.declared.output_limits.OutputLimits.TheVariants.{Unknown, Unlimited, Between}
use Rattle.pm_limits.specs.declared.band.Band.{Band}
use Rattle.pm_limits.specs.declared.part_registers.PartRegisters.{PartRegisters}
use Rattle.pm_delivery.specs.declared.delivery.Delivery.{Delivery}
use Rattle.pm_delivery.specs.declared.reading.Reading.{Reading}
use Rattle.pm_delivery.specs.declared.reading.Reading.TheVariants.{NotKnown, Outside, Above, Beyond, Right}
use Rattle.pm_delivery.specs.Heard.{is_good}

-- a reading may be so many thousandths away, 1000 at most
abbrev pub share : ℕ → ℕ
share within = if nat_lt 1000 within then 1000 else within

-- the numerator of the first of two fractions over the product of their denominators
abbrev pub numerator_over : Ratio → Ratio → ℤ
numerator_over p q = p.num *ℤ pos q.den

-- a gap is more than so many thousandths of a number's size
abbrev pub is_more : ℕ → ℤ → ℤ → Bool
is_more within of gap = int_lt (pos (unsigned_abs of * share within)) (pos 1000 *ℤ gap)

-- a value is below another one, or above it, by more than so many thousandths of that one
abbrev pub is_below : ℕ → Ratio → Ratio → Bool
is_below within value from = is_more within (numerator_over from value) (numerator_over from value -ℤ numerator_over value from)

abbrev pub lies_beyond : ℕ → Ratio → Ratio → Bool
lies_beyond within value from = is_more within (numerator_over from value) (numerator_over value from -ℤ numerator_over from value)

-- the band of one value
abbrev pub alone : Ratio → Band
alone value = record { least = value; greatest = value }

-- a value beside limits, and beside what the output commands
abbrev pub is_over : OutputLimits → Ratio → Bool
is_over Unknown value = false
is_over Unlimited value = false
is_over (Between bounds) value = is_above value (micros bounds.most)

abbrev pub reading_of : OutputLimits → ℕ → Ratio → Band → Reading
reading_of limits within value band =
    if is_no (within_of limits (Some (alone value))) then (if is_over limits value then Above else Outside)
    else (if is_below within value band.least || lies_beyond within value band.greatest then Beyond else Right)

abbrev pub reading_by : OutputLimits → Delivery → Option Shape → Option Band → Reading
reading_by limits d None band = NotKnown
reading_by limits d (Some shape) None = NotKnown
reading_by limits d (Some shape) (Some band) = reading_of limits d.within (shape_value shape d.read_vout.word) band

-- how the last good answer of READ_VOUT stands, by what the host knows
abbrev pub reading_in : PartRegisters → OutputLimits → Summary → Delivery → Reading
reading_in part limits s d = if is_good d.read_vout
    then reading_by limits d (format_at s d.output) (band_at part s d.output) else NotKnown
