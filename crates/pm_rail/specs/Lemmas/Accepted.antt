-- An order that the plan gives is one that a guard lets through, and its host accepts.
use Rattle.std.specs.Prelude.{◌≡◌, ◌≢◌, ◌<◌, ℕ, Bool, true, false, cond, if◌then◌else◌, not, ◌||◌, nat_lt, refl, Option, Some, None}
use Rattle.std.specs.Prelude.{is_none, is_some, option_map, unwrap_or, List, [], ◌∷◌, length, Ok}
use Rattle.std.specs.Option.{option_map_or}
use Rattle.std.proofs.Common.{sym, ◌∙◌, ap, subst}
use Rattle.std.proofs.lemmas.Bool.{lt-ltb, not-false, or_right}
use Rattle.pm_num.specs.AnyFormat.{Shape, shape_value}
use Rattle.pm_num.specs.Ratio.{is_above, micros}
use Rattle.pm_table.specs.declared.cell.Cell.TheVariants.{Out}
use Rattle.pm_table.specs.declared.reg.Reg.{Reg}
use Rattle.pm_table.specs.declared.reg.Reg.TheVariants.{Operation, VoutMax, VoutMin}
use Rattle.pm_table.specs.Cell.{is_voltage, register_accepts}
use Rattle.pm_table.specs.Operation.{is_operation}
use Rattle.pm_table.specs.Rules.{first, rule}
use Rattle.pm_table.specs.RuleLemmas.{or-none, none-rule}
use Rattle.pm_host.specs.declared.job.Job.TheVariants.{Order}
use Rattle.pm_host.specs.declared.fault.HostFault.{HostFault}
use Rattle.pm_host.specs.declared.fault.HostFault.TheVariants.{Busy, UnknownOutput, BadWord, TooUncertain}
use Rattle.pm_host.specs.declared.knowledge.Possible.{Possible}
use Rattle.pm_host.specs.declared.knowledge.Possible.TheVariants.{Any, Words}
use Rattle.pm_host.specs.Possible.{has_room, is_listed, only}
use Rattle.pm_host.specs.Refusals.{cell_fault, is_busy, order_fault}
use Rattle.pm_host.specs.Summary.{Summary, format_at, possible_at}
use Rattle.pm_limits.specs.declared.fault.LimitFault.TheVariants as limit
use Rattle.pm_limits.specs.declared.output_limits.OutputLimits.{OutputLimits}
use Rattle.pm_limits.specs.declared.output_limits.OutputLimits.TheVariants.{Unknown, Unlimited, Between}
use Rattle.pm_limits.specs.declared.part_registers.PartRegisters.{PartRegisters}
use Rattle.pm_limits.specs.declared.ends.Side.TheVariants.{Lowest, Highest}
use Rattle.pm_limits.specs.Ends.{format_end}
use Rattle.pm_limits.specs.Guard.{Guarded, guard_fault, judged, limits_at, missing_ordered, of_host, voltage_limit}
use Rattle.pm_limits.specs.Part.{has_register, missing_word}
use Rattle.pm_rail.specs.declared.orders.PlanOrder.{PlanOrder}
use Rattle.pm_rail.specs.Known.{Cells, cells_of, known_of, sole, sole_of}
use Rattle.pm_rail.specs.Orders.{below_limit_fault, is_wanted, is_wanted_above, is_wanted_below, is_wanted_missing, limits_fault, order_of, plan_of}
use Rattle.pm_rail.specs.Plan.{goal_of, next_register}
use Rattle.pm_rail.specs.Registers.{Held, Wants}
use Rattle.pm_rail.specs.Lemmas.Ends.{due}
use Rattle.pm_rail.specs.Lemmas.Known.{IsPlanned, is-planned, known-all, none-voltage, not-second, sole-known, wanted-needed}

-- there is room for another word beside one that is known
room-listed : (word : ℕ) (words : List ℕ) → is_none (sole_of words) ≡ false →
    (is_listed word words || nat_lt (length words) 16) ≡ true
room-listed word [] h = cc
room-listed word (x ∷ []) h = or_right (is_listed word (x ∷ [])) _ refl
room-listed word (x ∷ y ∷ words) h = cc

room : (word : ℕ) (possible : Possible) → is_none (sole possible) ≡ false → has_room word possible ≡ true
room word Any h = refl
room word (Words words) h = room-listed word words.items h

-- a limit says nothing of a wanted word that the plan judged
limit-says : (limits : OutputLimits) (shape : Shape) (wants : Wants) (register : Reg) (word : ℕ) →
    limits_fault limits (shape_value shape) wants ≡ None → is_voltage register ≡ true → wants register ≡ Some word →
    voltage_limit limits (Some shape) word ≡ None
limit-says Unlimited shape wants register word free volt is = refl
limit-says Unknown shape wants register word free volt is =
    let bad = sym (none-voltage _ (is_wanted wants) free register volt) ∙ ap (λ (o : Option ℕ). is_some o) is in cc
limit-says (Between bounds) shape wants register word free volt is =
    let below = none-voltage _ (is_wanted_below (micros bounds.least) (shape_value shape) wants) (or-none _ _ free).0 register volt in
    let above = none-voltage _ (is_wanted_above (micros bounds.most) (shape_value shape) wants)
    (or-none (below_limit_fault (micros bounds.least) (shape_value shape) wants) _ free).1 register volt in
    by (is_above (micros bounds.least) (shape_value shape word)) (is_above (shape_value shape word) (micros bounds.most))
    (sym (ap (λ (o : Option ℕ). option_map_or (λ w. is_above (micros bounds.least) (shape_value shape w)) o false) is) ∙ below)
    (sym (ap (λ (o : Option ℕ). option_map_or (λ w. is_above (shape_value shape w) (micros bounds.most)) o false) is) ∙ above)
  where
    by : (below above : Bool) → below ≡ false → above ≡ false →
        cond below (Some limit.BelowLimit) (cond above (Some limit.AboveLimit) None) ≡ None
    by true above h k = cc
    by false true h k = cc
    by false false h k = refl

-- A word that is wanted and differs from the one that is held was asked for.
wanted-word : (o : Option ℕ) (w : ℕ) → unwrap_or o w ≢ w → o ≡ Some (unwrap_or o w)
wanted-word None w differ = absurd (differ refl)
wanted-word (Some v) w differ = refl

a-voltage : (wants : Wants) (register : Reg) (word : ℕ) → wants Operation ≡ None → wants register ≡ Some word → is_voltage register ≡ true
a-voltage wants Operation word none is = absurd (let bad = sym none ∙ is in cc)
a-voltage wants register word none is = refl

judged-voltage : (part : PartRegisters) (limits : OutputLimits) (s : Summary) (output : ℕ) (register : Reg) (word : ℕ) →
    is_voltage register ≡ true → judged part limits s (Out output register) word ≡ voltage_limit limits (format_at s output) word
judged-voltage part limits s output Operation word h = cc
judged-voltage part limits s output register word h = refl

-- An order of a voltage isn't refused for a missing register where the part has the register.
there-ordered : (part : PartRegisters) (output : ℕ) (register : Reg) (word : ℕ) → is_voltage register ≡ true →
    has_register part register ≡ true → missing_ordered part (Out output register) word ≡ None
there-ordered part output Operation word volt has = cc
there-ordered part output register word volt has =
    ap (λ (b : Bool). rule (not b) limit.MissingRegister) has

four-none : {A : Type 0} (a b c d : Option A) → a ≡ None → b ≡ None → c ≡ None → d ≡ None → first (a ∷ b ∷ c ∷ d ∷ []) ≡ None
four-none None None None None p q r t = refl
four-none None None None (Some x) p q r t = cc
four-none None None (Some x) d p q r t = cc
four-none None (Some x) c d p q r t = cc
four-none (Some x) b c d p q r t = cc

first-none : {A : Type 0} (a b c : Option A) → a ≡ None → b ≡ None → c ≡ None → first (a ∷ b ∷ c ∷ []) ≡ None
first-none None None None p q r = refl
first-none None None (Some x) p q r = cc
first-none None (Some x) c p q r = cc
first-none (Some x) b c p q r = cc

-- a register that the part has may hold one word alone by what the host knows, if it may by `cells_of`
sole-there : (part : PartRegisters) (shape : Shape) (s : Summary) (output : ℕ) (register : Reg) → has_register part register ≡ true →
    is_none (sole (cells_of part shape s (Out output register))) ≡ false →
    is_none (sole (possible_at s (Out output register))) ≡ false
sole-there part shape s output register has some =
    subst (λ (o : Option ℕ). is_none (sole (option_map_or only o (possible_at s (Out output register)))) ≡ false)
    (stands-not register has) some
  where
    stands-not : (r : Reg) → has_register part r ≡ true → missing_word part shape r ≡ None
    stands-not VoutMax h = ap (λ (b : Bool). if b then None else Some (format_end Highest shape)) h
    stands-not VoutMin h = ap (λ (b : Bool). if b then None else Some (format_end Lowest shape)) h
    stands-not r h = refl

pub planned_order_is_accepted : (g : Guarded) (output : ℕ) (wants : Wants) (register : Reg) (word : ℕ) →
    output < g.host.setup.outputs → wants Operation ≡ None →
    plan_of g.registers g.host (limits_at g output) output wants ≡ Ok (Some (record { register = register; word = word })) →
    guard_fault g (Order (Out output register) word) ≡ None
planned_order_is_accepted g output wants register word here none is =
    go (next_register (shape_value planned.shape) known wants) refl planned.next
  where
    s : Summary
    s = g.host

    limits : OutputLimits
    limits = limits_at g output

    planned : IsPlanned g.registers s limits output wants (Some (record { register = register; word = word }))
    planned = is-planned g.registers s limits output wants (Some (record { register = register; word = word })) is

    cells : Cells
    cells = cells_of g.registers planned.shape s

    known : Held
    known = known_of cells output

    free-cell : cell_fault s (Out output register) ≡ None
    free-cell = first-two (is_busy s) (nat_lt output s.setup.outputs) planned.idle (lt-ltb output s.setup.outputs here) where
      first-two : (busy there : Bool) → busy ≡ false → there ≡ true →
          first (rule busy Busy ∷ rule (not there) UnknownOutput ∷ []) ≡ None
      first-two true there h k = cc
      first-two false true h k = refl
      first-two false false h k = cc

    of : (a : Option HostFault) → a ≡ None → of_host a ≡ None
    of None h = refl
    of (Some f) h = cc

    by : (r : Reg) → next_register (shape_value planned.shape) known wants ≡ Some r → r ≡ register → goal_of known wants r ≡ word →
        guard_fault g (Order (Out output register) word) ≡ None
    by r next same goal =
        let asked : wants register ≡ Some word
        = ap wants (sym same) ∙ wanted-word (wants r) (known r) (due (shape_value planned.shape) known wants r next)
        ∙ ap (λ (w : ℕ). Some w) goal in
        let volt = a-voltage wants register word none asked in
        let needed = wanted-needed known wants register (ap (λ (o : Option ℕ). is_some o) asked) in
        let has = not-false (has_register g.registers register)
        (not-second (is_some (wants register)) (not (has_register g.registers register))
        (none-voltage _ (is_wanted_missing g.registers wants) planned.there register volt)
        (ap (λ (o : Option ℕ). is_some o) asked)) in
        let sure = sole-known (Out output register) (sole (cells (Out output register)))
        (known-all cells output known wants planned.known register needed) in
        let some = sole-there g.registers planned.shape s output register has sure in
        let here' = limit-says limits planned.shape wants register word planned.within volt asked in
        four-none (of_host (cell_fault s (Out output register))) (missing_ordered g.registers (Out output register) word)
        (judged g.registers limits s (Out output register) word) (of_host (order_fault s (Out output register) word))
        (of _ free-cell)
        (there-ordered g.registers output register word volt has)
        (judged-voltage g.registers limits s output register word volt
        ∙ ap (λ (f : Option Shape). voltage_limit limits f word) planned.format ∙ here')
        (of _ (first-none (cell_fault s (Out output register)) _ _ free-cell
        (none-rule (not (register_accepts register word)) BadWord
        (ap not (ap (λ (b : Bool). b || is_operation word) volt)))
        (none-rule (not (has_room word (possible_at s (Out output register)))) TooUncertain
        (ap not (room word (possible_at s (Out output register)) some)))))

    go : (next : Option Reg) → next_register (shape_value planned.shape) known wants ≡ next →
        option_map (order_of known wants) next ≡ Some (record { register = register; word = word }) →
        guard_fault g (Order (Out output register) word) ≡ None
    go None e n = cc
    go (Some r) e n =
        let one : order_of known wants r ≡ record { register = register; word = word } = cc in
        by r e (ap (λ (o : PlanOrder). o.register) one) (ap (λ (o : PlanOrder). o.word) one)
