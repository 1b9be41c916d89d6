-- What a guard holds and when it refuses: this project's own choice.
use Rattle.std.specs.Prelude.{◌≡◌, ◌*◌, ◌≤◌, ◌==◌, ℕ, ℤ, Bool, false, not, ◌&&◌, nat_lt, List, [], ◌∷◌, slice_index_or, slice_set, Option}
use Rattle.std.specs.Prelude.{Some, None, option_map, option_and_then, is_none, is_some, IsSomeAnd, IfOk, IfErr, Result, OnOk, OnErr}
use Rattle.std.specs.Option.{option_map_or}
use Rattle.std.specs.Result.{result_err}
use Rattle.pm_num.specs.AnyFormat.{Shape, shape_value}
use Rattle.pm_table.specs.declared.cell.Cell.{Cell}
use Rattle.pm_table.specs.declared.cell.Cell.TheVariants.{Out, Protect}
use Rattle.pm_table.specs.declared.reg.Reg.TheVariants.{Operation}
use Rattle.pm_table.specs.Cell.{is_voltage_cell, output_of}
use Rattle.pm_table.specs.Operation.{has_on, selected_register}
use Rattle.pm_table.specs.Rules.{first, rule}
use Rattle.pm_host.specs.declared.fault.HostFault.{HostFault}
use Rattle.pm_host.specs.declared.fault.HostFault.TheVariants.{Busy, UnknownOutput, BadWord}
use Rattle.pm_host.specs.declared.fault.HostFault.TheVariants as host
use Rattle.pm_host.specs.declared.job.Job.{Job}
use Rattle.pm_host.specs.declared.job.Job.TheVariants.{Order, OrderMicro, Check}
use Rattle.pm_host.specs.Ended.{job_in}
use Rattle.pm_host.specs.Frames.{frames_left}
use Rattle.pm_host.specs.Jobs.{HasNearestWord, accepted_job, begin_fault}
use Rattle.pm_host.specs.Refusals.{cell_fault, micro_word, order_fault, range_fault}
use Rattle.pm_host.specs.Summary.{Summary, format_at, host_next}
use Rattle.pm_host.specs.Transcript as accepted
use Rattle.pm_limits.specs.declared.fault.LimitFault.{LimitFault}
use Rattle.pm_limits.specs.declared.fault.LimitFault.TheVariants.{Host, FormatUnknown, NotKnownWithin, LimitsWidened, MissingRegister, NoLimits}
use Rattle.pm_limits.specs.declared.output_limits.OutputLimits.{OutputLimits}
use Rattle.pm_limits.specs.declared.output_limits.OutputLimits.TheVariants.{Unknown, Unlimited, Between}
use Rattle.pm_limits.specs.declared.part_registers.PartRegisters.{PartRegisters}
use Rattle.pm_limits.specs.Band.{band_on, lets_on}
use Rattle.pm_limits.specs.Bounds.{Bounds, bounds_fault, outside_fault}
use Rattle.pm_limits.specs.OutputLimits.{are_wider, is_limited}
use Rattle.pm_limits.specs.Part.{has_register}

-- the host, what is said of the limits of each output, and which registers the part has
pub record Guarded : Type 0 where
  pub host : Summary
  pub limits : List OutputLimits
  pub registers : PartRegisters

abbrev pub limits_at : Guarded → ℕ → OutputLimits
limits_at g output = slice_index_or g.limits output Unlimited

-- a refusal of the host's own
abbrev pub of_host : Option HostFault → Option LimitFault
of_host fault = option_map (λ f. Host f) fault

-- L8 where no limits are known of an output; where it has limits L2 if its format isn't known, otherwise L3 or L4 by the
-- value of the word
abbrev pub voltage_limit : OutputLimits → Option Shape → ℕ → Option LimitFault
voltage_limit Unknown shape word = Some NoLimits
voltage_limit Unlimited shape word = None
voltage_limit (Between bounds) None word = Some FormatUnknown
voltage_limit (Between bounds) (Some shape) word = outside_fault bounds (shape_value shape word)

-- why a band isn't known to lie within limits: L8 where no limits are known, L2 where the format isn't known, otherwise L5
abbrev pub unsure_fault : OutputLimits → Option Shape → LimitFault
unsure_fault Unknown shape = NoLimits
unsure_fault limits None = FormatUnknown
unsure_fault limits (Some shape) = NotKnownWithin

-- L8, L2 or L5 for a byte that leaves the output on, unless the limits let it be on with the band of this byte
abbrev pub operation_limit : PartRegisters → OutputLimits → Summary → ℕ → ℕ → Option LimitFault
operation_limit registers limits s output byte =
    rule (has_on byte && not (lets_on limits (band_on registers s output byte))) (unsure_fault limits (format_at s output))

-- what the limits of a cell's output say of a word for it
abbrev pub judged : PartRegisters → OutputLimits → Summary → Cell → ℕ → Option LimitFault
judged registers limits s (Out output Operation) byte = operation_limit registers limits s output byte
judged registers limits s (Out output register) word = voltage_limit limits (format_at s output) word
judged registers limits s Protect word = None

-- L7 for a register that the part doesn't have
abbrev pub missing_cell : PartRegisters → Cell → Option LimitFault
missing_cell registers (Out output register) = rule (not (has_register registers register)) MissingRegister
missing_cell registers Protect = None

-- an order of OPERATION is one of the register that its byte selects too
abbrev pub missing_ordered : PartRegisters → Cell → ℕ → Option LimitFault
missing_ordered registers (Out output Operation) byte = missing_cell registers (Out output (selected_register byte))
missing_ordered registers cell word = missing_cell registers cell

-- Why an order is refused: H3, H4, L7, then what the limits say, then H5 and H6. L8, L2 and L5 are said of accepted
-- bytes of OPERATION alone, so after H5.
abbrev pub guarded_order : PartRegisters → OutputLimits → Summary → Cell → ℕ → Option LimitFault
guarded_order registers limits s cell word = first (
    of_host (cell_fault s cell) ∷
    missing_ordered registers cell word ∷
    judged registers limits s cell word ∷
    of_host (order_fault s cell word) ∷
    [])

-- why a cell that is there has no word for a number of microvolts: H5 where it is no voltage, H7, N5, N3, N4
abbrev pub word_fault : Summary → Cell → ℤ → Option LimitFault
word_fault s cell x = first (
    rule (not (is_voltage_cell cell)) (Host BadWord) ∷
    rule (is_none (format_at s (output_of cell))) (Host (host.FormatUnknown)) ∷
    of_host (option_and_then (λ shape. range_fault shape x) (format_at s (output_of cell))) ∷
    [])

-- In microvolts: H3, H4, L7, H5, H7, then N5, N3, N4, then what an order of the nearest word is refused for, L8, L3, L4
-- and H6.
abbrev pub guarded_micro : PartRegisters → OutputLimits → Summary → Cell → ℤ → Option LimitFault
guarded_micro registers limits s cell x = first (
    of_host (cell_fault s cell) ∷
    missing_cell registers cell ∷
    word_fault s cell x ∷
    option_and_then (λ word. guarded_order registers limits s cell word) (micro_word s cell x) ∷
    [])

-- a check: H3, H4, L7
abbrev pub guarded_check : PartRegisters → Summary → Cell → Option LimitFault
guarded_check registers s cell = first (
    of_host (cell_fault s cell) ∷
    missing_cell registers cell ∷
    [])

-- why a job is refused whose output has these limits; a learn and a command as the host refuses it
abbrev pub limited_fault : PartRegisters → OutputLimits → Summary → Job → Option LimitFault
limited_fault registers limits s (Order cell word) = guarded_order registers limits s cell word
limited_fault registers limits s (OrderMicro cell x) = guarded_micro registers limits s cell x
limited_fault registers limits s (Check cell) = guarded_check registers s cell
limited_fault registers limits s job = of_host (begin_fault s job)

-- the limits of the output whose cell a job orders
abbrev pub ordered_output : Job → Option ℕ
ordered_output (Order cell word) = Some (output_of cell)
ordered_output (OrderMicro cell x) = Some (output_of cell)
ordered_output job = None

abbrev pub limits_for : Guarded → Job → OutputLimits
limits_for g job = option_map_or (limits_at g) (ordered_output job) Unlimited

abbrev pub guard_fault : Guarded → Job → Option LimitFault
guard_fault g job = limited_fault g.registers (limits_for g job) g.host job

-- How a job is judged before the host is asked: it is refused, or the host is asked for another that means the same
-- and that it refuses for all that is left.
pub record IsJudged (registers : PartRegisters) (limits : OutputLimits) (s : Summary) (job : Job)
    (result : Result Job LimitFault) : Type 0 where
  pub refused : IfErr result (λ fault. limited_fault registers limits s job ≡ Some fault)
  pub passed : IfOk result (λ asked. limited_fault registers limits s job ≡ of_host (begin_fault s asked))
  pub same : IfOk result (λ asked. accepted_job s asked ≡ accepted_job s job)
  pub nearest : OnOk result (HasNearestWord s job)

-- how a job begins that is refused exactly for this
pub record BeginsUnless (refusal : Option LimitFault) (old : Guarded) (job : Job) (result : Result (Unit {0}) LimitFault) (new : Guarded) :
    Type 0 where
  pub fault : result_err result ≡ refusal
  -- otherwise the host accepts it
  pub ok : OnOk result (IsSomeAnd (accepted_job old.host job) (λ begun. new.host ≡ host_next old.host (accepted.Accepted begun)))
  pub nearest : OnOk result (HasNearestWord old.host job)
  -- a refused job changes nothing
  pub err : OnErr result (new ≡ old)
  -- the limits stay, and so does which registers the part has
  pub limits : new.limits ≡ old.limits
  pub registers : new.registers ≡ old.registers
  -- the host stays that of its device
  pub kept : new.host.setup ≡ old.host.setup
  -- it sends at most twice as many frames as it has passes
  pub left : OnOk result (frames_left new.host ≤ 2 * new.host.setup.passes)

-- how a guard begins a job that it is asked for
abbrev pub LetsBegin : Guarded → Job → Result (Unit {0}) LimitFault → Guarded → Type 0
LetsBegin old job result new = BeginsUnless (guard_fault old job) old job result new

-- why an output's limits can't be narrowed: N5, L1, then L6 where the new ones let through what the old ones don't
abbrev pub narrower_fault : OutputLimits → ℤ → ℤ → Option LimitFault
narrower_fault old least most = first (
    bounds_fault least most ∷
    rule (are_wider old (record { least = least; most = most })) LimitsWidened ∷
    [])

-- an order of a word for this output that these limits refuse
abbrev pub is_beyond : PartRegisters → Bounds → Summary → ℕ → accepted.Job → Bool
is_beyond registers bounds s output (accepted.Order cell word) =
    output_of cell == output && is_some (judged registers (Between bounds) s cell word)
is_beyond registers bounds s output job = false

-- H3 where such an order is open: its frame may be sent again
abbrev pub open_fault : PartRegisters → Bounds → Summary → ℕ → Option LimitFault
open_fault registers bounds s output =
    rule (option_map_or (is_beyond registers bounds s output) (job_in s) false) (Host Busy)

-- those of an output that isn't there, H4; last H3 where they refuse an order of the output that is open
abbrev pub narrow_fault : Guarded → ℕ → ℤ → ℤ → Option LimitFault
narrow_fault g output least most = first (
    rule (not (nat_lt output g.host.setup.outputs)) (Host UnknownOutput) ∷
    narrower_fault (limits_at g output) least most ∷
    open_fault g.registers (record { least = least; most = most }) g.host output ∷
    [])

-- the guard with other limits for an output
abbrev pub narrowed : Guarded → ℕ → ℤ → ℤ → Guarded
narrowed g output least most =
    record g { limits = slice_set g.limits output (Between (record { least = least; most = most })) }

-- why it isn't said that an output has no limits: H4 where it isn't there, L6 where it has some
abbrev pub unlimited_fault : Guarded → ℕ → Option LimitFault
unlimited_fault g output = first (
    rule (not (nat_lt output g.host.setup.outputs)) (Host UnknownOutput) ∷
    rule (is_limited (limits_at g output)) LimitsWidened ∷
    [])

-- the guard once it was said that an output has none
abbrev pub unlimited : Guarded → ℕ → Guarded
unlimited g output = record g { limits = slice_set g.limits output Unlimited }
