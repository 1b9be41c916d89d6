-- What an answer of the plan says, by what a host knows, and that it is the one for the words that are held.
use Rattle.std.specs.Prelude.{◌≡◌, ◌≢◌, ℕ, Bool, true, false, not, ◌&&◌, ◌||◌, ◌==◌, refl, Option, Some, None, if◌then◌else◌, find, is_none}
use Rattle.std.specs.Prelude.{is_some, unwrap_or, option_and_then, option_map, List, [], ◌∷◌, Ok, Err}
use Rattle.std.proofs.Common.{sym, ◌∙◌, ap, arith}
use Rattle.std.proofs.lemmas.Bool.Decides.{nat_tests}
use Rattle.std.proofs.lemmas.Bool.{eq-eqb, or_left, or_right}
use Rattle.pm_num.specs.AnyFormat.{Shape, shape_value}
use Rattle.pm_num.specs.Ratio.{is_above}
use Rattle.pm_table.specs.declared.reg.Reg.{Reg}
use Rattle.pm_table.specs.declared.reg.Reg.TheVariants.{Operation, VoutCommand, VoutMax, MarginHigh, MarginLow, VoutMin}
use Rattle.pm_table.specs.declared.cell.Cell.{Cell}
use Rattle.pm_table.specs.declared.cell.Cell.TheVariants.{Out}
use Rattle.pm_table.specs.Cell.{cell_accepts, is_voltage, registers, same_register}
use Rattle.pm_table.specs.Operation.{selected_register}
use Rattle.pm_table.specs.Rules.{first, rule}
use Rattle.pm_table.specs.RuleLemmas.{map-none, or-none}
use Rattle.pm_model.specs.Commanded.{Scale}
use Rattle.pm_limits.specs.declared.output_limits.OutputLimits.{OutputLimits}
use Rattle.pm_limits.specs.Lemmas.Selected.{each-selected}
use Rattle.pm_host.specs.declared.knowledge.Possible.{Possible}
use Rattle.pm_host.specs.declared.knowledge.Possible.TheVariants.{Any, Words}
use Rattle.pm_host.specs.Possible.{is_listed, is_possible}
use Rattle.pm_host.specs.Refusals.{is_busy}
use Rattle.pm_host.specs.Summary.{Summary, format_at}
use Rattle.pm_limits.specs.declared.part_registers.PartRegisters.{PartRegisters}
use Rattle.pm_rail.specs.declared.fault.PlanFault.{PlanFault}
use Rattle.pm_rail.specs.declared.fault.PlanFault.TheVariants.{Busy, BelowMin}
use Rattle.pm_rail.specs.declared.orders.PlanOrder.{PlanOrder}
use Rattle.pm_rail.specs.Known.{Cells, cells_of, known_at, known_of, known_or, sole, sole_of}
use Rattle.pm_rail.specs.Orders.{answer, first_of, is_above_max, is_below_min, is_meant, is_needed, is_unknown, limits_fault, missing_fault}
use Rattle.pm_rail.specs.Orders.{order_of, plan_of, planned_in, selectable, unknown_fault, unless, voltages, words_fault}
use Rattle.pm_rail.specs.Plan.{goal_of, is_cut_by, is_due, next_register}
use Rattle.pm_rail.specs.Registers.{Held, Wants}

pub not-second : (a b : Bool) → (a && b) ≡ false → a ≡ true → b ≡ false
not-second true b h e = h
not-second false b h e = cc

unfound : {A : Type 0} (test : A → Bool) (a : A) (rest : List A) → find test (a ∷ rest) ≡ None →
    (test a ≡ false) × (find test rest ≡ None)
unfound test a rest h = go (test a) refl h where
  go : (b : Bool) → test a ≡ b → (if b then Some a else find test rest) ≡ None → (test a ≡ false) × (find test rest ≡ None)
  go true e n = cc
  go false e n = (e, n)

-- A test that finds no register holds of none.
pub all-off : (test : Reg → Bool) → find test registers ≡ None → (register : Reg) → test register ≡ false
all-off test free register =
    let one = unfound test Operation voltages free in
    let two = unfound test VoutCommand (VoutMax ∷ MarginHigh ∷ MarginLow ∷ VoutMin ∷ []) one.1 in
    let three = unfound test VoutMax (MarginHigh ∷ MarginLow ∷ VoutMin ∷ []) two.1 in
    let four = unfound test MarginHigh (MarginLow ∷ VoutMin ∷ []) three.1 in
    let five = unfound test MarginLow (VoutMin ∷ []) four.1 in
    let six = unfound test VoutMin [] five.1 in
    elim register as (λ r. test r ≡ false) [
      | Operation ↦ one.0
      | VoutCommand ↦ two.0
      | VoutMax ↦ three.0
      | MarginHigh ↦ four.0
      | MarginLow ↦ five.0
      | VoutMin ↦ six.0
    ]

-- The test holds of no voltage register, if no fault is found of the voltages.
pub none-voltage : (fault : Reg → PlanFault) (test : Reg → Bool) → first_of voltages fault test ≡ None →
    (register : Reg) → is_voltage register ≡ true → test register ≡ false
none-voltage fault test free register volt =
    let one = unfound test VoutCommand (VoutMax ∷ MarginHigh ∷ MarginLow ∷ VoutMin ∷ []) (map-none fault (find test voltages) free) in
    let two = unfound test VoutMax (MarginHigh ∷ MarginLow ∷ VoutMin ∷ []) one.1 in
    let three = unfound test MarginHigh (MarginLow ∷ VoutMin ∷ []) two.1 in
    let four = unfound test MarginLow (VoutMin ∷ []) three.1 in
    let five = unfound test VoutMin [] four.1 in
    (elim register as (λ r. is_voltage r ≡ true → test r ≡ false) [
      | Operation ↦ λ v. absurd (let bad : false ≡ true = v in cc)
      | VoutCommand ↦ λ v. one.0
      | VoutMax ↦ λ v. two.0
      | MarginHigh ↦ λ v. three.0
      | MarginLow ↦ λ v. four.0
      | VoutMin ↦ λ v. five.0
    ]) volt

-- The test holds of no register that a byte may select, if no fault is found of the selectable ones.
none-selected : (fault : Reg → PlanFault) (test : Reg → Bool) → first_of selectable fault test ≡ None →
    (byte : ℕ) → test (selected_register byte) ≡ false
none-selected fault test free byte =
    let one = unfound test VoutCommand (MarginHigh ∷ MarginLow ∷ []) (map-none fault (find test selectable) free) in
    let two = unfound test MarginHigh (MarginLow ∷ []) one.1 in
    let three = unfound test MarginLow [] two.1 in
    each-selected (λ r. test r ≡ false) (one.0) (two.0) (three.0) byte

-- an answer that is no refusal
pub record IsPlanned (part : PartRegisters) (s : Summary) (limits : OutputLimits) (output : ℕ) (wants : Wants)
    (order : Option PlanOrder) : Type 0 where
  pub idle : is_busy s ≡ false
  pub there : missing_fault part wants ≡ None
  pub shape : Shape
  pub format : format_at s output ≡ Some shape
  pub within : limits_fault limits (shape_value shape) wants ≡ None
  pub known : let cells = cells_of part shape s in unknown_fault cells output (known_of cells output) wants ≡ None
  pub words : words_fault (shape_value shape) (known_of (cells_of part shape s) output) wants ≡ None
  pub next : let known = known_of (cells_of part shape s) output in
      option_map (order_of known wants) (next_register (shape_value shape) known wants) ≡ order

pub is-planned : (part : PartRegisters) (s : Summary) (limits : OutputLimits) (output : ℕ) (wants : Wants) (order : Option PlanOrder) →
    plan_of part s limits output wants ≡ Ok order → IsPlanned part s limits output wants order
is-planned part s limits output wants order is = either (is_busy s) refl is where
  by : (shape : Shape) (within unknown protect words protected : Option PlanFault) (next : Option PlanOrder) →
      is_busy s ≡ false → missing_fault part wants ≡ None → format_at s output ≡ Some shape →
      limits_fault limits (shape_value shape) wants ≡ within →
      unknown_fault (cells_of part shape s) output (known_of (cells_of part shape s) output) wants ≡ unknown →
      words_fault (shape_value shape) (known_of (cells_of part shape s) output) wants ≡ words →
      option_map (order_of (known_of (cells_of part shape s) output) wants)
      (next_register (shape_value shape) (known_of (cells_of part shape s) output) wants) ≡ next →
      answer (first (within ∷ unknown ∷ protect ∷ words ∷ protected ∷ [])) next ≡ Ok order →
      IsPlanned part s limits output wants order
  by shape None None None None None next i m f l u w n ok =
      record { idle = i; there = m; shape = shape; format = f; within = l; known = u; words = w; next = n ∙ cc }
  by shape None None None None (Some fault) next i m f l u w n ok = cc
  by shape None None None (Some fault) protected next i m f l u w n ok = cc
  by shape None None (Some fault) words protected next i m f l u w n ok = cc
  by shape None (Some fault) protect words protected next i m f l u w n ok = cc
  by shape (Some fault) unknown protect words protected next i m f l u w n ok = cc

  go : (format : Option Shape) → is_busy s ≡ false → missing_fault part wants ≡ None → format_at s output ≡ format →
      planned_in part s limits output wants format ≡ Ok order → IsPlanned part s limits output wants order
  go None i m f ok = cc
  go (Some shape) i m f ok = by shape _ _ _ _ _ _ i m f refl refl refl refl ok

  here : (missing : Option PlanFault) → is_busy s ≡ false → missing_fault part wants ≡ missing →
      unless missing (planned_in part s limits output wants (format_at s output)) ≡ Ok order →
      IsPlanned part s limits output wants order
  here None i m ok = go (format_at s output) i m refl ok
  here (Some fault) i m ok = cc

  either : (busy : Bool) → is_busy s ≡ busy →
      (if busy then Err Busy else unless (missing_fault part wants) (planned_in part s limits output wants (format_at s output)))
      ≡ Ok order →
      IsPlanned part s limits output wants order
  either true b ok = cc
  either false b ok = here (missing_fault part wants) b refl ok

-- what is needed is known
pub known-all : (cells : Cells) (output : ℕ) (held : Held) (wants : Wants) → unknown_fault cells output held wants ≡ None →
    (register : Reg) → is_needed held wants register ≡ true → is_none (known_at cells (Out output register)) ≡ false
known-all cells output held wants free register needed =
    not-second (is_needed held wants register) _
    (all-off (is_unknown cells output held wants) (map-none _ (find (is_unknown cells output held wants) registers) free) register) needed

-- one word alone is possible for a cell that is known
pub sole-known : (cell : Cell) (word : Option ℕ) →
    is_none (option_and_then (λ w. rule (cell_accepts cell w) w) word) ≡ false → is_none word ≡ false
sole-known cell None h = cc
sole-known cell (Some word) h = refl

-- The word that is known of a cell is the one word that alone is possible.
known-sole : (cell : Cell) (word : Option ℕ) →
    is_none (option_and_then (λ w. rule (cell_accepts cell w) w) word) ≡ false →
    unwrap_or (option_and_then (λ w. rule (cell_accepts cell w) w) word) 0 ≡ unwrap_or word 0
known-sole cell None h = cc
known-sole cell (Some word) h = go (cell_accepts cell word) h where
  go : (b : Bool) → is_none (rule b word) ≡ false → unwrap_or (rule b word) 0 ≡ word
  go true n = refl
  go false n = cc

-- the only word that is possible is the one that is held
only-listed : (held : ℕ) (words : List ℕ) → is_listed held words ≡ true → is_none (sole_of words) ≡ false →
    unwrap_or (sole_of words) 0 ≡ held
only-listed held [] listed some = cc
only-listed held (word ∷ []) listed some = grind (arith, nat_tests)
only-listed held (word ∷ other ∷ words) listed some = cc

pub only-possible : (held : ℕ) (possible : Possible) → is_possible held possible ≡ true → is_none (sole possible) ≡ false →
    unwrap_or (sole possible) 0 ≡ held
only-possible held Any is some = cc
only-possible held (Words words) is some = only-listed held words.items is some

pub known-held : (cells : Cells) (cell : Cell) (held : ℕ) → is_possible held (cells cell) ≡ true →
    is_none (known_at cells cell) ≡ false → known_or cells cell ≡ held
known-held cells cell held is some = known-sole cell (sole (cells cell)) some
    ∙ only-possible held (cells cell) is (sole-known cell (sole (cells cell)) some)

-- a register is itself
one-register : (byte : ℕ) → same_register (selected_register byte) (selected_register byte) ≡ true
one-register byte = each-selected (λ r. same_register r r ≡ true) refl refl refl byte

-- the register that is selected is needed
selected-needed : (held : Held) (wants : Wants) → is_needed held wants (selected_register (held Operation)) ≡ true
selected-needed held wants = each-selected (λ r. r ≡ selected_register (held Operation) → is_needed held wants r ≡ true)
    (λ e. ap (λ (q : Reg). same_register VoutCommand q || is_some (wants VoutCommand)) (sym e))
    (λ e. ap (λ (q : Reg). same_register MarginHigh q || is_some (wants MarginHigh)) (sym e))
    (λ e. ap (λ (q : Reg). same_register MarginLow q || is_some (wants MarginLow)) (sym e)) (held Operation) refl

-- A register of which a word is wanted is needed.
pub wanted-needed : (held : Held) (wants : Wants) (register : Reg) → is_some (wants register) ≡ true →
    is_needed held wants register ≡ true
wanted-needed held wants Operation h = refl
wanted-needed held wants VoutMax h = refl
wanted-needed held wants VoutMin h = refl
wanted-needed held wants VoutCommand h = or_right (same_register VoutCommand (selected_register (held Operation))) _ h
wanted-needed held wants MarginHigh h = or_right (same_register MarginHigh (selected_register (held Operation))) _ h
wanted-needed held wants MarginLow h = or_right (same_register MarginLow (selected_register (held Operation))) _ h

due-same : (o : Option ℕ) (k w : ℕ) → (is_some o ≡ true → k ≡ w) → not (unwrap_or o k == k) ≡ not (unwrap_or o w == w)
due-same None k w h = ap not (eq-eqb k k refl ∙ sym (eq-eqb w w refl))
due-same (Some v) k w h = ap (λ n. not (v == n)) (h refl)

pub goal-same : (o : Option ℕ) (k w : ℕ) → unwrap_or o k ≢ k → unwrap_or o k ≡ unwrap_or o w
goal-same None k w differ = absurd (differ refl)
goal-same (Some v) k w differ = refl

-- known words that are held where they are needed
module _ (value : Scale) (known held : Held) (wants : Wants) (none : wants Operation ≡ None)
    (agree : (register : Reg) → is_needed known wants register ≡ true → known register ≡ held register) where
  pub operation-same : known Operation ≡ held Operation
  operation-same = agree Operation refl

  selected-same : known (selected_register (known Operation)) ≡ held (selected_register (held Operation))
  selected-same = agree (selected_register (known Operation)) (selected-needed known wants)
      ∙ ap (λ (byte : ℕ). held (selected_register byte)) operation-same

  due-agrees : (register : Reg) → is_due known wants register ≡ is_due held wants register
  due-agrees register = due-same (wants register) (known register) (held register)
      (λ some. agree register (wanted-needed known wants register some))

  -- the plan's next order is the same
  pub next-same : next_register value known wants ≡ next_register value held wants
  next-same =
      let max = agree VoutMax refl in
      let min = agree VoutMin refl in
      let c = due-agrees VoutCommand in
      let h = due-agrees MarginHigh in
      let l = due-agrees MarginLow in
      let s = selected-same in
      cc

  -- what is known is cut at the end of a plan exactly where what is held is
  pub uncut-same : is_cut_by value (goal_of known wants) ≡ is_cut_by value (goal_of held wants)
  uncut-same =
      let max = agree VoutMax refl in
      let min = agree VoutMin refl in
      let op = operation-same in
      let byte = ap (λ (o : Option ℕ). unwrap_or o (known Operation)) none in
      let byte' = ap (λ (o : Option ℕ). unwrap_or o (held Operation)) none in
      let there = agree (selected_register (known Operation)) (selected-needed known wants) in
      let goals : goal_of known wants (selected_register (goal_of known wants Operation))
      ≡ goal_of held wants (selected_register (goal_of held wants Operation))
      = ap (λ (b : ℕ). goal_of known wants (selected_register b)) byte
      ∙ ap (λ (w : ℕ). unwrap_or (wants (selected_register (known Operation))) w) there
      ∙ ap (λ (b : ℕ). goal_of held wants (selected_register b)) (op ∙ sym byte')
      in
      cc

-- the output isn't cut at the end, if no word is out of order
pub uncut-goal : (value : Scale) (known : Held) (wants : Wants) → wants Operation ≡ None → words_fault value known wants ≡ None →
    is_cut_by value (goal_of known wants) ≡ false
uncut-goal value known wants none free =
    let meant : is_meant known wants (selected_register (known Operation)) ≡ true
    = or_left _ (is_some (wants (selected_register (known Operation)))) (one-register (known Operation)) in
    let below = not-second (is_meant known wants (selected_register (known Operation))) _
    (none-selected _ (is_below_min value known wants) (or-none _ _ free).0 (known Operation)) meant in
    let above = not-second (is_meant known wants (selected_register (known Operation))) _
    (none-selected _ (is_above_max value known wants)
    (or-none _ _ (or-none (first_of selectable (λ r. BelowMin r) (is_below_min value known wants)) _ free).1).0 (known Operation)) meant in
    let byte = ap (λ (o : Option ℕ). unwrap_or o (known Operation)) none in
    ap (λ (b : ℕ). is_above (value (goal_of known wants (selected_register b))) (value (goal_of known wants VoutMax))
    || is_above (value (goal_of known wants VoutMin)) (value (goal_of known wants (selected_register b)))) byte
    ∙ both _ _ above below
  where
    both : (a b : Bool) → a ≡ false → b ≡ false → (a || b) ≡ false
    both true b h k = cc
    both false b h k = k
