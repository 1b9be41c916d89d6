-- The next order by what a host knows, and when none is given: this project's own choice.
use Rattle.std.specs.Prelude.{◌≡◌, ℕ, Bool, true, false, not, ◌&&◌, ◌||◌, if◌then◌else◌, List, [], ◌∷◌, find, Option, Some, None, is_none}
use Rattle.std.specs.Prelude.{is_some, option_map, Result, Ok, Err}
use Rattle.std.specs.Option.{option_map_or, option_or}
use Rattle.pm_num.specs.AnyFormat.{Shape, shape_value}
use Rattle.pm_num.specs.Ratio.{Ratio, is_above, micros}
use Rattle.pm_limits.specs.declared.output_limits.OutputLimits.{OutputLimits}
use Rattle.pm_limits.specs.declared.output_limits.OutputLimits.TheVariants.{Unknown, Unlimited, Between}
use Rattle.pm_table.specs.declared.cell.Cell.TheVariants.{Out, Protect}
use Rattle.pm_table.specs.declared.reg.Reg.{Reg}
use Rattle.pm_table.specs.declared.reg.Reg.TheVariants.{Operation, VoutCommand, VoutMax, MarginHigh, MarginLow, VoutMin}
use Rattle.pm_table.specs.Cell.{register_code, registers, same_register}
use Rattle.pm_table.specs.Operation.{selected_register}
use Rattle.pm_table.specs.Protection.{is_allowed}
use Rattle.pm_table.specs.Rules.{first, rule}
use Rattle.pm_model.specs.Commanded.{Scale}
use Rattle.pm_host.specs.Refusals.{is_busy}
use Rattle.pm_host.specs.Summary.{Summary, format_at, host_next}
use Rattle.pm_host.specs.Transcript.{Accepted, Order}
use Rattle.pm_limits.specs.declared.part_registers.PartRegisters.{PartRegisters}
use Rattle.pm_limits.specs.Guard.{Guarded}
use Rattle.pm_limits.specs.Part.{has_register}
use Rattle.pm_rail.specs.declared.fault.PlanFault.{PlanFault}
use Rattle.pm_rail.specs.declared.fault.PlanFault.TheVariants.{Busy, MissingRegister, FormatUnknown, BelowLimit, AboveLimit, NotKnown}
use Rattle.pm_rail.specs.declared.fault.PlanFault.TheVariants.{BelowMin, AboveMax, NoLimits, Protected}
use Rattle.pm_rail.specs.declared.orders.PlanOrder.{PlanOrder}
use Rattle.pm_rail.specs.Known.{Cells, cells_of, known_at, known_of, known_or}
use Rattle.pm_rail.specs.Plan.{goal_of, is_due, next_register}
use Rattle.pm_rail.specs.Registers.{Held, Wants}

-- the register is selected by OPERATION, or a word is wanted of it
abbrev pub is_meant : Held → Wants → Reg → Bool
is_meant held wants register = same_register register (selected_register (held Operation)) || is_some (wants register)

-- what is to be known: OPERATION, both limits, and the registers that are meant
abbrev pub is_needed : Held → Wants → Reg → Bool
is_needed held wants Operation = true
is_needed held wants VoutMax = true
is_needed held wants VoutMin = true
is_needed held wants register = is_meant held wants register

-- the fault of the first of several registers of which a test holds
abbrev pub first_of : List Reg → (Reg → PlanFault) → (Reg → Bool) → Option PlanFault
first_of listed fault test = option_map fault (find test listed)

-- the registers that hold a voltage, in their order
abbrev pub voltages : List Reg
voltages = VoutCommand ∷ VoutMax ∷ MarginHigh ∷ MarginLow ∷ VoutMin ∷ []

-- the registers that a byte of OPERATION may select
abbrev pub selectable : List Reg
selectable = VoutCommand ∷ MarginHigh ∷ MarginLow ∷ []

-- a wanted word's value lies below another, or above
abbrev pub is_wanted_below : Ratio → Scale → Wants → Reg → Bool
is_wanted_below least value wants register = option_map_or (λ word. is_above least (value word)) (wants register) false

abbrev pub is_wanted_above : Ratio → Scale → Wants → Reg → Bool
is_wanted_above most value wants register = option_map_or (λ word. is_above (value word) most) (wants register) false

-- L3 for a wanted word below the output's limits, L4 for one above
abbrev pub below_limit_fault : Ratio → Scale → Wants → Option PlanFault
below_limit_fault least value wants = first_of voltages (λ register. BelowLimit register) (is_wanted_below least value wants)

abbrev pub above_limit_fault : Ratio → Scale → Wants → Option PlanFault
above_limit_fault most value wants = first_of voltages (λ register. AboveLimit register) (is_wanted_above most value wants)

-- L8 for a wanted word where no limits of the output are known
abbrev pub is_wanted : Wants → Reg → Bool
is_wanted wants register = is_some (wants register)

abbrev pub limits_fault : OutputLimits → Scale → Wants → Option PlanFault
limits_fault Unknown value wants = first_of voltages (λ register. NoLimits register) (is_wanted wants)
limits_fault Unlimited value wants = None
limits_fault (Between bounds) value wants =
    option_or (below_limit_fault (micros bounds.least) value wants) (above_limit_fault (micros bounds.most) value wants)

-- P4 for a register that is needed and isn't known
abbrev pub is_unknown : Cells → ℕ → Held → Wants → Reg → Bool
is_unknown cells output held wants register =
    is_needed held wants register && is_none (known_at cells (Out output register))

abbrev pub unknown_fault : Cells → ℕ → Held → Wants → Option PlanFault
unknown_fault cells output held wants =
    first_of registers (λ register. NotKnown (Out output register)) (is_unknown cells output held wants)

-- P5 for a word that is meant and is below VOUT_MIN at the end, P6 for one above VOUT_MAX
abbrev pub is_below_min : Scale → Held → Wants → Reg → Bool
is_below_min value held wants register = is_meant held wants register
    && is_above (value (goal_of held wants VoutMin)) (value (goal_of held wants register))

abbrev pub is_above_max : Scale → Held → Wants → Reg → Bool
is_above_max value held wants register = is_meant held wants register
    && is_above (value (goal_of held wants register)) (value (goal_of held wants VoutMax))

abbrev pub words_fault : Scale → Held → Wants → Option PlanFault
words_fault value held wants = first (
    first_of selectable (λ register. BelowMin register) (is_below_min value held wants) ∷
    first_of selectable (λ register. AboveMax register) (is_above_max value held wants) ∷
    [])

-- P4 for WRITE_PROTECT, where an order is due
abbrev pub protect_fault : Cells → Scale → Held → Wants → Option PlanFault
protect_fault cells value held wants =
    rule (is_some (next_register value held wants) && is_none (known_at cells Protect)) (NotKnown Protect)

-- P7 for a register that is still to get its word, where WRITE_PROTECT doesn't allow it
abbrev pub is_protected : ℕ → Held → Wants → Reg → Bool
is_protected protect held wants register =
    is_due held wants register && not (is_allowed protect (register_code register))

abbrev pub protection_fault : ℕ → Held → Wants → Option PlanFault
protection_fault protect held wants =
    first_of voltages (λ register. Protected register) (is_protected protect held wants)

-- a fault, or else the answer
abbrev pub answer : {X : Type 0} → Option PlanFault → X → Result X PlanFault
answer None x = Ok x
answer (Some fault) x = Err fault

-- the order of a register's wanted word
abbrev pub order_of : Held → Wants → Reg → PlanOrder
order_of held wants register = record { register = register; word = goal_of held wants register }

-- L8, L3 and L4 by what is wanted alone, then P4, P5, P6 and P7
abbrev pub planned_fault : Cells → OutputLimits → ℕ → Held → Wants → Scale → Option PlanFault
planned_fault cells limits output held wants value = first (
    limits_fault limits value wants ∷
    unknown_fault cells output held wants ∷
    protect_fault cells value held wants ∷
    words_fault value held wants ∷
    protection_fault (known_or cells Protect) held wants ∷
    [])

-- The next order by the words that are known to be held. None where each register has its wanted word.
abbrev pub planned : Cells → OutputLimits → ℕ → Held → Wants → Scale → Result (Option PlanOrder) PlanFault
planned cells limits output held wants value = answer (planned_fault cells limits output held wants value)
    (option_map (order_of held wants) (next_register value held wants))

-- P1 before these
abbrev pub planned_in : PartRegisters → Summary → OutputLimits → ℕ → Wants → Option Shape → Result (Option PlanOrder) PlanFault
planned_in part s limits output wants None = Err FormatUnknown
planned_in part s limits output wants (Some shape) =
    let cells = cells_of part shape s in
    planned cells limits output (known_of cells output) wants (shape_value shape)

-- L7 for a word that is wanted of a register that the part doesn't have
abbrev pub is_wanted_missing : PartRegisters → Wants → Reg → Bool
is_wanted_missing part wants register = is_some (wants register) && not (has_register part register)

abbrev pub missing_fault : PartRegisters → Wants → Option PlanFault
missing_fault part wants = first_of voltages (λ register. MissingRegister register) (is_wanted_missing part wants)

-- a fault comes before an answer
abbrev pub unless : {X : Type 0} → Option PlanFault → Result X PlanFault → Result X PlanFault
unless None result = result
unless (Some fault) result = Err fault

-- The next order of an output with these limits, by what a host knows of a part with these registers; H3 before all
-- where a job is open, then L7.
abbrev pub plan_of : PartRegisters → Summary → OutputLimits → ℕ → Wants → Result (Option PlanOrder) PlanFault
plan_of part s limits output wants = if is_busy s then Err Busy
    else unless (missing_fault part wants) (planned_in part s limits output wants (format_at s output))

-- the order has begun, and the limits stay; where there is none, nothing has
abbrev pub Begun : Guarded → ℕ → Option PlanOrder → Guarded → Type 0
Begun old output None new = new ≡ old
Begun old output (Some order) new =
    (new.host ≡ host_next old.host (Accepted (Order (Out output order.register) order.word)))
    × ((new.limits ≡ old.limits) × (new.registers ≡ old.registers))
