-- What a plan answers by what is known is what it answers for the words that are held.
use Rattle.std.specs.Prelude.{◌≡◌, ℕ, true, false, refl, Option, Some, None, IsSomeAnd, option_map, unwrap_or, Ok}
use Rattle.std.proofs.Common.{sym, ◌∙◌, ap, subst}
use Rattle.pm_num.specs.AnyFormat.{shape_value}
use Rattle.pm_table.specs.declared.cell.Cell.TheVariants.{Out}
use Rattle.pm_table.specs.declared.reg.Reg.{Reg}
use Rattle.pm_table.specs.declared.reg.Reg.TheVariants.{Operation}
use Rattle.pm_model.specs.Commanded.{Scale}
use Rattle.pm_host.specs.Summary.{Summary, format_at}
use Rattle.pm_limits.specs.declared.part_registers.PartRegisters.{PartRegisters}
use Rattle.pm_limits.specs.declared.output_limits.OutputLimits.{OutputLimits}
use Rattle.pm_rail.specs.declared.orders.PlanOrder.{PlanOrder}
use Rattle.pm_rail.specs.Known.{cells_of, known_of}
use Rattle.pm_rail.specs.Laws.{MayHold}
use Rattle.pm_rail.specs.Orders.{is_needed, order_of, plan_of}
use Rattle.pm_rail.specs.Plan.{goal_of, is_cut_by, next_register}
use Rattle.pm_rail.specs.Registers.{Held, Wants}
use Rattle.pm_rail.specs.Lemmas.Ends.{done, due}
use Rattle.pm_rail.specs.Lemmas.Known.{IsPlanned, goal-same, is-planned, known-all, known-held, next-same, uncut-goal, uncut-same}

-- a fact of an option that is known to be something
at-some : {A : Type 0} (P : A → Type 0) (o : Option A) (a : A) → o ≡ Some a → P a → IsSomeAnd o P
at-some {A = A} P o a is p = subst (λ (q : Option A). IsSomeAnd q P) (sym is) p

module _ (part : PartRegisters) (s : Summary) (limits : OutputLimits) (output : ℕ) (wants : Wants) (order : Option PlanOrder) (held : Held)
    (none : wants Operation ≡ None) (may : MayHold part s output wants held)
    (is : plan_of part s limits output wants ≡ Ok order) where
  planned : IsPlanned part s limits output wants order
  planned = is-planned part s limits output wants order is

  value : Scale
  value = shape_value planned.shape

  agree : (register : Reg) → is_needed (known_of (cells_of part planned.shape s) output) wants register ≡ true →
      known_of (cells_of part planned.shape s) output register ≡ held register
  agree register needed = known-held (cells_of part planned.shape s) (Out output register) (held register)
      (may planned.shape planned.format register needed)
      (known-all (cells_of part planned.shape s) output (known_of (cells_of part planned.shape s) output) wants planned.known
      register needed)

  -- the orders are one
  orders : (next : Option Reg) → next_register (shape_value planned.shape) (known_of (cells_of part planned.shape s) output) wants ≡ next →
      option_map (order_of (known_of (cells_of part planned.shape s) output) wants) next ≡ option_map (order_of held wants) next
  orders None e = refl
  orders (Some register) e = ap (λ (word : ℕ). Some (record { register = register; word = word }))
      (goal-same (wants register) (known_of (cells_of part planned.shape s) output register) (held register)
      (due (shape_value planned.shape) (known_of (cells_of part planned.shape s) output) wants register e))

  of-held : option_map (order_of held wants) (next_register (shape_value planned.shape) held wants) ≡ order
  of-held = ap (λ (next : Option Reg). option_map (order_of held wants) next)
      (sym (next-same (shape_value planned.shape) (known_of (cells_of part planned.shape s) output) held wants none agree))
      ∙ sym (orders (next_register (shape_value planned.shape) (known_of (cells_of part planned.shape s) output) wants) refl)
      ∙ planned.next

  pub next : IsSomeAnd (format_at s output)
      (λ shape. option_map (order_of held wants) (next_register (shape_value shape) held wants) ≡ order)
  next = at-some (λ shape. option_map (order_of held wants) (next_register (shape_value shape) held wants) ≡ order)
      (format_at s output) planned.shape planned.format of-held

  pub uncut : IsSomeAnd (format_at s output) (λ shape. is_cut_by (shape_value shape) (goal_of held wants) ≡ false)
  uncut = at-some (λ shape. is_cut_by (shape_value shape) (goal_of held wants) ≡ false)
      (format_at s output) planned.shape planned.format
      (sym (uncut-same (shape_value planned.shape) (known_of (cells_of part planned.shape s) output) held wants none agree)
      ∙ uncut-goal (shape_value planned.shape) (known_of (cells_of part planned.shape s) output) wants none planned.words)

unordered : (held : Held) (wants : Wants) (next : Option Reg) → option_map (order_of held wants) next ≡ None → next ≡ None
unordered held wants None h = refl
unordered held wants (Some register) h = cc

wanted-goal : (held : Held) (wants : Wants) (register : Reg) (word : ℕ) → wants register ≡ Some word → goal_of held wants register ≡ word
wanted-goal held wants register word is = ap (λ (o : Option ℕ). unwrap_or o (held register)) is

pub done-held : (part : PartRegisters) (s : Summary) (limits : OutputLimits) (output : ℕ) (wants : Wants) (held : Held) (register : Reg)
    (word : ℕ) →
    wants Operation ≡ None → MayHold part s output wants held → plan_of part s limits output wants ≡ Ok None →
    wants register ≡ Some word → held register ≡ word
done-held part s limits output wants held register word none may is wanted =
    let answer = planned part s limits output wants None held none may is in
    done (shape_value answer.shape) held wants none
    (unordered held wants _ (of-held part s limits output wants None held none may is)) register
    ∙ wanted-goal held wants register word wanted
