-- What the laws of this crate say, each by a name that a crate above takes it by.
use Rattle.std.specs.Prelude.{◌≡◌, ◌^◌, ◌<◌, ℕ, true, false, Some, None, IsSomeAnd}
use Rattle.pm_num.specs.AnyFormat.{Shape, shape_value}
use Rattle.pm_num.specs.Ratio.{is_above}
use Rattle.pm_table.specs.declared.reg.Reg.{Reg}
use Rattle.pm_table.specs.declared.cell.Cell.{Cell}
use Rattle.pm_table.specs.declared.cell.Cell.TheVariants.{Out}
use Rattle.pm_table.specs.declared.reg.Reg.TheVariants.{Operation}
use Rattle.pm_table.specs.Cell.{is_voltage}
use Rattle.pm_table.specs.Operation.{has_on}
use Rattle.pm_model.specs.Commanded.{commanded}
use Rattle.pm_model.specs.Settings.{Words, word_at}
use Rattle.pm_host.specs.declared.job.Job.{Job}
use Rattle.pm_host.specs.declared.job.Job.TheVariants as job
use Rattle.pm_host.specs.Jobs.{accepted_job, begin_fault}
use Rattle.pm_host.specs.Possible.{is_possible}
use Rattle.pm_host.specs.Summary.{Summary, format_at, possible_at}
use Rattle.pm_host.specs.Transcript.{Order}
use Rattle.pm_limits.specs.declared.output_limits.OutputLimits.TheVariants.{Unlimited, Between}
use Rattle.pm_limits.specs.declared.ends.Side.{Side}
use Rattle.pm_limits.specs.declared.ends.Side.TheVariants.{Lowest, Highest}
use Rattle.pm_limits.specs.Band.{HasDens, Known, band_on, decides, end_choice, end_with, known_of_output, lets_on, operations}
use Rattle.pm_limits.specs.Bounds.{Bounds, IsWithin}
use Rattle.pm_limits.specs.Ends.{Reaches, format_end}
use Rattle.pm_limits.specs.Guard.{Guarded, guard_fault, limits_at, missing_cell, missing_ordered, of_host}
use Rattle.pm_limits.specs.OutputLimits.{are_known}
use Rattle.pm_limits.specs.Part.{all_registers}

-- What a guard lets through: as a word or in microvolts, a voltage of an output with limits within them, in the
-- format that the host learned (`voltage`), and none of an output of which no limits are known (`known`); and a byte of
-- OPERATION that leaves it on only where the limits let it be on with the band of that byte (`on`). A byte that turns an output off is
-- refused for the host's reasons alone (`off`), and so is any order for an output that is said to have no limits, where the
-- part has the register (`free`). An order of a register that the
-- part doesn't have isn't let through, nor one of OPERATION whose byte selects such a register (`missing`), nor a
-- check of one (`unread`).
pub record GuardedOrdersAreWithin : Type 0 where
  pub voltage : (g : Guarded) (asked : Job) (output : ℕ) (register : Reg) (word : ℕ) (bounds : Bounds) →
      guard_fault g asked ≡ None → accepted_job g.host asked ≡ Some (Order (Out output register) word) →
      is_voltage register ≡ true → limits_at g output ≡ Between bounds →
      IsSomeAnd (format_at g.host output) (λ shape. IsWithin bounds (shape_value shape word))
  pub known : (g : Guarded) (asked : Job) (output : ℕ) (register : Reg) (word : ℕ) →
      guard_fault g asked ≡ None → accepted_job g.host asked ≡ Some (Order (Out output register) word) →
      is_voltage register ≡ true → are_known (limits_at g output) ≡ true
  pub on : (g : Guarded) (output byte : ℕ) →
      guard_fault g (job.Order (Out output Operation) byte) ≡ None → has_on byte ≡ true →
      lets_on (limits_at g output) (band_on g.registers g.host output byte) ≡ true
  pub off : (g : Guarded) (output byte : ℕ) → has_on byte ≡ false →
      guard_fault g (job.Order (Out output Operation) byte)
      ≡ of_host (begin_fault g.host (job.Order (Out output Operation) byte))
  pub free : (g : Guarded) (output : ℕ) (register : Reg) (word : ℕ) → limits_at g output ≡ Unlimited →
      missing_ordered g.registers (Out output register) word ≡ None →
      guard_fault g (job.Order (Out output register) word)
      ≡ of_host (begin_fault g.host (job.Order (Out output register) word))
  pub missing : (g : Guarded) (asked : Job) (cell : Cell) (word : ℕ) → guard_fault g asked ≡ None →
      accepted_job g.host asked ≡ Some (Order cell word) → missing_ordered g.registers cell word ≡ None
  pub unread : (g : Guarded) (cell : Cell) → guard_fault g (job.Check cell) ≡ None → missing_cell g.registers cell ≡ None

-- Each register of a part that has every one may hold what the host knows of it (`known`), and no order and no check is of a missing one
-- (`ordered`, `checked`).
pub record WholePartsMissNothing : Type 0 where
  pub known : (shape : Shape) (s : Summary) (output : ℕ) →
      known_of_output all_registers shape s output ≡ (λ register. possible_at s (Out output register))
  pub ordered : (cell : Cell) (word : ℕ) → missing_ordered all_registers cell word ≡ None
  pub checked : (cell : Cell) → missing_cell all_registers cell ≡ None

-- The words at which a missing VOUT_MIN and a missing VOUT_MAX stand cut no word of 16 bits: with either, a selected
-- value is cut as the other alone cuts it.
pub record MissingLimitsCutNothing : Type 0 where
  pub least : (shape : Shape) (word : ℕ) → HasDens shape → word < 2 ^ 16 →
      is_above (shape_value shape (format_end Lowest shape)) (shape_value shape word) ≡ false
  pub greatest : (shape : Shape) (word : ℕ) → HasDens shape → word < 2 ^ 16 →
      is_above (shape_value shape word) (shape_value shape (format_end Highest shape)) ≡ false

-- The ends of a band are those of what an output can command. With words of its registers that may be there, where
-- they decide, it commands no value beyond either end (`held`); and with those of an end it commands that very
-- fraction (`reached`).
pub record BandsAreEnds : Type 0 where
  pub held : (side : Side) (shape : Shape) (known : Known) (words : Words) (output : ℕ) → HasDens shape →
      ((register : Reg) → decides known register ≡ true → is_possible (word_at words (Out output register)) (known register) ≡ true) →
      ((register : Reg) → word_at words (Out output register) < 2 ^ 16) →
      Reaches side (end_with side shape known (operations (known Operation))) (commanded (shape_value shape) words output)
  pub reached : (side : Side) (shape : Shape) (known : Known) (words : Words) (output : ℕ) →
      ((register : Reg) → word_at words (Out output register) ≡ end_choice side shape known register) →
      commanded (shape_value shape) words output ≡ end_with side shape known (operations (known Operation))
