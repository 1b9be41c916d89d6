-- The word of a voltage and the voltage of a word, in the format that an image means.
use Rattle.std.specs.Prelude.{ℕ, ℤ, pos, neg_ℤ, ◌≤ℤ◌, ◌^◌, Bool, ◌||◌, nat_lt, if◌then◌else◌, Option, Some, None}
use Rattle.std.specs.Option.{option_map_or}
use Rattle.pm_num.specs.declared.fault.NumFault.TheVariants.{TooLarge}
use Rattle.pm_num.specs.AnyFormat.{Shape, shape_highest, shape_lowest, shape_value}
use Rattle.pm_num.specs.Bounds.{at_least_fault, at_most_fault}
use Rattle.pm_num.specs.Ratio.{Ratio, AtMost, is_above, micros, is_far}
use Rattle.pm_host.specs.declared.fault.HostFault.TheVariants.{FormatUnknown, UnknownOutput}
use Rattle.pm_host.specs.Refusals.{range_fault}
use Rattle.pm_host.specs.Summary.{Summary}
use Rattle.pm_memory.specs.Numbers.{accepted, no_host, outcome}
use Rattle.pm_num.specs.FaultWords.{num_fault_number}
use Rattle.pm_host.specs.FaultWords.{host_fault_number}

-- H7 where there is no format, then N5, N3 and N4
abbrev pub word_number : Option Shape → ℤ → ℕ
word_number None x = host_fault_number FormatUnknown
word_number (Some shape) x = outcome (range_fault shape x)

-- a word for a bound: H7 where there is no format, then N5, and N3 from above or N4 from below
abbrev pub at_most_number : Option Shape → ℤ → ℕ
at_most_number None x = host_fault_number FormatUnknown
at_most_number (Some shape) x = option_map_or num_fault_number (at_most_fault (shape_lowest shape) x) accepted

abbrev pub at_least_number : Option Shape → ℤ → ℕ
at_least_number None x = host_fault_number FormatUnknown
at_least_number (Some shape) x = option_map_or num_fault_number (at_least_fault (shape_highest shape) x) accepted

-- this many whole microvolts are the most that aren't above the value
pub record IsFloor (value : Ratio) (x : ℤ) : Type 0 where
  pub reached : AtMost (micros x) value
  pub greatest : (k : ℤ) → AtMost (micros k) value → k ≤ℤ x

-- this many are the least that aren't below it
pub record IsCeil (value : Ratio) (x : ℤ) : Type 0 where
  pub reached : AtMost value (micros x)
  pub least : (k : ℤ) → AtMost value (micros k) → x ≤ℤ k

-- within 10^15 in size
pub record IsNear (x : ℤ) : Type 0 where
  pub above : neg_ℤ (pos (10 ^ 15)) ≤ℤ x
  pub below : x ≤ℤ pos (10 ^ 15)

-- within 10^16 in size
pub record IsSmall (x : ℤ) : Type 0 where
  pub above : neg_ℤ (pos (10 ^ 16)) ≤ℤ x
  pub below : x ≤ℤ pos (10 ^ 16)

-- the whole microvolts of a value are asked: N5 where it is that far
abbrev pub floor_number : Ratio → ℕ
floor_number value = if is_far value then num_fault_number TooLarge else accepted

-- those of a word: H7 where there is no format
abbrev pub value_number : Option Shape → ℕ → ℕ
value_number None word = host_fault_number FormatUnknown
value_number (Some shape) word = floor_number (shape_value shape word)

-- what is asked of an output
abbrev pub output_number : Option Summary → ℕ → ℕ
output_number None output = no_host
output_number (Some s) output =
    if nat_lt output s.setup.outputs then accepted else host_fault_number UnknownOutput
