-- What a guard lets through.
use Rattle.std.specs.Prelude.{◌≡◌, ℕ, Bool, true, false, cond, not, ◌&&◌, Option, Some, None, IsSomeAnd, refl, option_map, option_and_then}
use Rattle.std.specs.Option.{option_map_or, option_or}
use Rattle.std.proofs.Common.{◌∙◌, ap, sym, subst}
use Rattle.pm_num.specs.AnyFormat.{Shape, shape_value}
use Rattle.pm_num.specs.Ratio.{Ratio, is_above, micros}
use Rattle.pm_table.specs.declared.cell.Cell.{Cell}
use Rattle.pm_table.specs.declared.cell.Cell.TheVariants.{Out}
use Rattle.pm_table.specs.declared.reg.Reg.{Reg}
use Rattle.pm_table.specs.declared.operation.Operation.{Operation as Selection}
use Rattle.pm_table.specs.declared.operation.Operation.TheVariants as selection
use Rattle.pm_table.specs.declared.reg.Reg.TheVariants.{Operation, VoutCommand}
use Rattle.pm_table.specs.Cell.{is_voltage, output_of}
use Rattle.pm_table.specs.Operation.{has_on, is_on, operation_of, register_for, selected_register}
use Rattle.pm_table.specs.Rules.{rule}
use Rattle.pm_table.specs.RuleLemmas.{or-none}
use Rattle.pm_host.specs.declared.fault.HostFault.{HostFault}
use Rattle.pm_host.specs.declared.job.Job.{Job}
use Rattle.pm_host.specs.declared.job.Job.TheVariants as job
use Rattle.pm_host.specs.Jobs.{accepted_job, begin_fault}
use Rattle.pm_host.specs.Refusals.{cell_fault, micro_word, order_fault}
use Rattle.pm_host.specs.Summary.{format_at}
use Rattle.pm_host.specs.Transcript.{Order}
use Rattle.pm_limits.specs.declared.fault.LimitFault.{LimitFault}
use Rattle.pm_limits.specs.declared.fault.LimitFault.TheVariants.{BelowLimit, AboveLimit, MissingRegister}
use Rattle.pm_limits.specs.declared.output_limits.OutputLimits.{OutputLimits}
use Rattle.pm_limits.specs.declared.output_limits.OutputLimits.TheVariants.{Unknown, Unlimited, Between}
use Rattle.pm_limits.specs.Band.{band_on, lets_on}
use Rattle.pm_limits.specs.Bounds.{Bounds, IsWithin, outside_fault}
use Rattle.pm_limits.specs.Guard.{Guarded, guard_fault, guarded_order, judged, limits_at, missing_cell, missing_ordered, of_host}
use Rattle.pm_limits.specs.Guard.{operation_limit, unsure_fault, voltage_limit}
use Rattle.pm_limits.specs.Guard.{word_fault}
use Rattle.pm_limits.specs.OutputLimits.{are_known}
use Rattle.pm_limits.specs.Part.{has_register}
use Rattle.pm_num.specs.Lemmas.Order.{at-most}

-- a value that isn't refused lies within the limits
inside : (bounds : Bounds) (value : Ratio) → outside_fault bounds value ≡ None → IsWithin bounds value
inside bounds value h = go (is_above (micros bounds.least) value) (is_above value (micros bounds.most)) refl refl h where
  go : (below above : Bool) → is_above (micros bounds.least) value ≡ below → is_above value (micros bounds.most) ≡ above →
      cond below (Some BelowLimit) (cond above (Some AboveLimit) None) ≡ None → IsWithin bounds value
  go true above b a free = cc
  go false true b a free = cc
  go false false b a free =
      record { from_least = at-most (micros bounds.least) value b; to_greatest = at-most value (micros bounds.most) a }

-- a word that the limits let through
let-through : (limits : OutputLimits) (shape : Option Shape) (word : ℕ) (bounds : Bounds) → limits ≡ Between bounds →
    voltage_limit limits shape word ≡ None → IsSomeAnd shape (λ s. IsWithin bounds (shape_value s word))
let-through Unknown shape word bounds is free = cc
let-through Unlimited shape word bounds is free = cc
let-through (Between own) None word bounds is free = cc
let-through (Between own) (Some shape) word bounds is free =
    let same : own ≡ bounds = cc in
    subst (λ (b : Bounds). IsWithin b (shape_value shape word)) same (inside own (shape_value shape word) free)

-- An order of a voltage is judged by the limits of voltages.
judged-voltage : (g : Guarded) (output : ℕ) (register : Reg) (word : ℕ) → is_voltage register ≡ true →
    judged g.registers (limits_at g output) g.host (Out output register) word
    ≡ voltage_limit (limits_at g output) (format_at g.host output) word
judged-voltage g output Operation word h = cc
judged-voltage g output register word h = refl

-- The limits say nothing of an order of a voltage that is let through.
order-judged : (g : Guarded) (cell : Cell) (output : ℕ) (register : Reg) (word : ℕ) →
    guarded_order g.registers (limits_at g (output_of cell)) g.host cell word ≡ None → cell ≡ Out output register
    → is_voltage register ≡ true → voltage_limit (limits_at g output) (format_at g.host output) word ≡ None
order-judged g cell output register word free is voltage =
    let judge = (or-none (judged g.registers (limits_at g (output_of cell)) g.host cell word) _
    (or-none (missing_ordered g.registers cell word) _ (or-none (of_host (cell_fault g.host cell)) _ free).1).1).0 in
    sym (judged-voltage g output register word voltage)
    ∙ ap (λ (c : Cell). judged g.registers (limits_at g (output_of c)) g.host c word) (sym is) ∙ judge

-- The limits say nothing of a job that orders one, as a word or in microvolts, and is let through.
job-judged : (g : Guarded) (asked : Job) (output : ℕ) (register : Reg) (word : ℕ) →
    guard_fault g asked ≡ None → accepted_job g.host asked ≡ Some (Order (Out output register) word) →
    is_voltage register ≡ true → voltage_limit (limits_at g output) (format_at g.host output) word ≡ None
job-judged g (job.Order cell w) output register word free is voltage =
    let same_cell : cell ≡ Out output register = cc in
    let same_word : w ≡ word = cc in
    subst (λ n. voltage_limit (limits_at g output) (format_at g.host output) n ≡ None) same_word
    (order-judged g cell output register w free same_cell voltage)
job-judged g (job.OrderMicro cell x) output register word free is voltage =
    let third = (or-none (word_fault g.host cell x) _
    (or-none (missing_cell g.registers cell) _ (or-none (of_host (cell_fault g.host cell)) _ free).1).1).1 in
    go (micro_word g.host cell x)
    (or-none (option_and_then (λ n. guarded_order g.registers (limits_at g (output_of cell)) g.host cell n) (micro_word g.host cell x))
    None third).0 is
  where
    go : (found : Option ℕ) →
        option_and_then (λ n. guarded_order g.registers (limits_at g (output_of cell)) g.host cell n) found ≡ None →
        option_map (λ n. Order cell n) found ≡ Some (Order (Out output register) word) →
        voltage_limit (limits_at g output) (format_at g.host output) word ≡ None
    go None none is' = cc
    go (Some w) none is' =
        let same_cell : cell ≡ Out output register = cc in
        let same_word : w ≡ word = cc in
        subst (λ n. voltage_limit (limits_at g output) (format_at g.host output) n ≡ None) same_word
        (order-judged g cell output register w none same_cell voltage)
job-judged g (job.Check cell) output register word free is voltage = cc
job-judged g (job.Learn o) output register word free is voltage = cc
job-judged g (job.Send command) output register word free is voltage = cc

-- A voltage that is let through of an output with limits lies within them.
pub guarded-voltage : (g : Guarded) (asked : Job) (output : ℕ) (register : Reg) (word : ℕ) (bounds : Bounds) →
    guard_fault g asked ≡ None → accepted_job g.host asked ≡ Some (Order (Out output register) word) →
    is_voltage register ≡ true → limits_at g output ≡ Between bounds →
    IsSomeAnd (format_at g.host output) (λ shape. IsWithin bounds (shape_value shape word))
guarded-voltage g asked output register word bounds free is voltage limits =
    let-through (limits_at g output) (format_at g.host output) word bounds limits (job-judged g asked output register word free is voltage)

-- None is let through of an output of which no limits are known.
pub guarded-known : (g : Guarded) (asked : Job) (output : ℕ) (register : Reg) (word : ℕ) →
    guard_fault g asked ≡ None → accepted_job g.host asked ≡ Some (Order (Out output register) word) →
    is_voltage register ≡ true → are_known (limits_at g output) ≡ true
guarded-known g asked output register word free is voltage =
    go (limits_at g output) (format_at g.host output) (job-judged g asked output register word free is voltage)
  where
    go : (limits : OutputLimits) (shape : Option Shape) → voltage_limit limits shape word ≡ None → are_known limits ≡ true
    go Unknown shape none = cc
    go Unlimited shape none = refl
    go (Between bounds) shape none = refl

-- A byte of OPERATION that leaves the output on is let through only where the limits let it be on with its band.
pub guarded-on : (g : Guarded) (output byte : ℕ) → guard_fault g (job.Order (Out output Operation) byte) ≡ None →
    has_on byte ≡ true → lets_on (limits_at g output) (band_on g.registers g.host output byte) ≡ true
guarded-on g output byte free on =
    go (has_on byte) (lets_on (limits_at g output) (band_on g.registers g.host output byte)) on
    (or-none (operation_limit g.registers (limits_at g output) g.host output byte) _
    (or-none (missing_ordered g.registers (Out output Operation) byte) _
    (or-none (of_host (cell_fault g.host (Out output Operation))) _ free).1).1).0
  where
    go : (b lets : Bool) → b ≡ true →
        cond (b && not lets) (Some (unsure_fault (limits_at g output) (format_at g.host output))) None ≡ None → lets ≡ true
    go false lets on' none = cc
    go true true on' none = refl
    go true false on' none = cc

-- the host alone refuses an order if the limits say nothing and the part doesn't lack what it needs
alone : (g : Guarded) (cell : Cell) (word : ℕ) → missing_ordered g.registers cell word ≡ None →
    judged g.registers (limits_at g (output_of cell)) g.host cell word ≡ None →
    guarded_order g.registers (limits_at g (output_of cell)) g.host cell word ≡ of_host (order_fault g.host cell word)
alone g cell word there none =
    ap (λ (m : Option LimitFault). option_or (of_host (cell_fault g.host cell))
    (option_or m (option_or (judged g.registers (limits_at g (output_of cell)) g.host cell word)
    (option_or (of_host (order_fault g.host cell word)) None))))
    there
    ∙ ap (λ (j : Option LimitFault). option_or (of_host (cell_fault g.host cell))
    (option_or None (option_or j (option_or (of_host (order_fault g.host cell word)) None))))
    none
    ∙ merge (cell_fault g.host cell) _
  where
    merge : (here later : Option HostFault) →
        option_or (of_host here) (option_or None (option_or None (option_or (of_host (option_or here later)) None)))
        ≡ of_host (option_or here later)
    merge (Some f) later = refl
    merge None (Some f) = refl
    merge None None = refl

-- a byte that leaves the output off selects VOUT_COMMAND
off-selects : (byte : ℕ) → has_on byte ≡ false → selected_register byte ≡ VoutCommand
off-selects byte = go (operation_of byte) where
  go : (o : Option Selection) → option_map_or is_on o false ≡ false → option_map_or register_for o VoutCommand ≡ VoutCommand
  go None off = refl
  go (Some selection.Off) off = refl
  go (Some selection.On) off = refl
  go (Some selection.MarginLow) off = cc
  go (Some selection.MarginHigh) off = cc

-- an order of a byte of OPERATION that leaves the output off is refused as the host refuses it, whatever its limits are
pub guarded-off : (g : Guarded) (output byte : ℕ) → has_on byte ≡ false →
    guard_fault g (job.Order (Out output Operation) byte)
    ≡ of_host (begin_fault g.host (job.Order (Out output Operation) byte))
guarded-off g output byte off = alone g (Out output Operation) byte
    (ap (λ (r : Reg). rule (not (has_register g.registers r)) MissingRegister) (off-selects byte off))
    (ap (λ (b : Bool). cond (b && not (lets_on (limits_at g output) (band_on g.registers g.host output byte)))
    (Some (unsure_fault (limits_at g output) (format_at g.host output))) None)
    off)

-- the limits of an output that has none say nothing
judged-free : (g : Guarded) (output : ℕ) (register : Reg) (word : ℕ) → limits_at g output ≡ Unlimited →
    judged g.registers (limits_at g output) g.host (Out output register) word ≡ None
judged-free g output Operation word none =
    ap (λ (l : OutputLimits). cond (has_on word && not (lets_on l (band_on g.registers g.host output word)))
    (Some (unsure_fault l (format_at g.host output))) None)
    none
    ∙ go (has_on word)
  where
    go : (b : Bool) → cond (b && false) (Some (unsure_fault Unlimited (format_at g.host output))) None ≡ None
    go true = refl
    go false = refl
judged-free g output register word none = ap (λ (l : OutputLimits). voltage_limit l (format_at g.host output) word) none

-- an order for a register of an output without limits is refused as the host refuses it
pub guarded-free : (g : Guarded) (output : ℕ) (register : Reg) (word : ℕ) → limits_at g output ≡ Unlimited →
    missing_ordered g.registers (Out output register) word ≡ None →
    guard_fault g (job.Order (Out output register) word)
    ≡ of_host (begin_fault g.host (job.Order (Out output register) word))
guarded-free g output register word none there =
    alone g (Out output register) word there (judged-free g output register word none)

-- no order of a register that the part doesn't have is let through, as a word or in microvolts
pub guarded-missing : (g : Guarded) (asked : Job) (cell : Cell) (word : ℕ) → guard_fault g asked ≡ None →
    accepted_job g.host asked ≡ Some (Order cell word) → missing_ordered g.registers cell word ≡ None
guarded-missing g (job.Order own w) cell word free is =
    let same_cell : own ≡ cell = cc in
    let same_word : w ≡ word = cc in
    let there = (or-none (missing_ordered g.registers own w) _ (or-none (of_host (cell_fault g.host own)) _ free).1).0 in
    subst (λ (n : ℕ). missing_ordered g.registers cell n ≡ None) same_word
    (subst (λ (c : Cell). missing_ordered g.registers c w ≡ None) same_cell there)
guarded-missing g (job.OrderMicro own x) cell word free is =
    let third = (or-none (word_fault g.host own x) _
    (or-none (missing_cell g.registers own) _ (or-none (of_host (cell_fault g.host own)) _ free).1).1).1 in
    go (micro_word g.host own x)
    (or-none (option_and_then (λ n. guarded_order g.registers (limits_at g (output_of own)) g.host own n) (micro_word g.host own x))
    None third).0 is
  where
    go : (found : Option ℕ) →
        option_and_then (λ n. guarded_order g.registers (limits_at g (output_of own)) g.host own n) found ≡ None →
        option_map (λ n. Order own n) found ≡ Some (Order cell word) → missing_ordered g.registers cell word ≡ None
    go None none is' = cc
    go (Some w) none is' =
        let same_cell : own ≡ cell = cc in
        let same_word : w ≡ word = cc in
        let there = (or-none (missing_ordered g.registers own w) _ (or-none (of_host (cell_fault g.host own)) _ none).1).0 in
        subst (λ (n : ℕ). missing_ordered g.registers cell n ≡ None) same_word
        (subst (λ (c : Cell). missing_ordered g.registers c w ≡ None) same_cell there)
guarded-missing g (job.Check own) cell word free is = cc
guarded-missing g (job.Learn o) cell word free is = cc
guarded-missing g (job.Send command) cell word free is = cc

-- No check of a register that the part doesn't have is let through.
pub guarded-unread : (g : Guarded) (cell : Cell) → guard_fault g (job.Check cell) ≡ None → missing_cell g.registers cell ≡ None
guarded-unread g cell free = (or-none (missing_cell g.registers cell) None (or-none (of_host (cell_fault g.host cell)) _ free).1).0
