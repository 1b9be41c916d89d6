-- One order of a plan, and any number of them.
use Rattle.std.specs.Prelude.{◌≡◌, ◌⊎◌, ℕ, zero, suc, Bool, true, false, not, ◌&&◌, ◌||◌, ◌==◌, refl, Option, Some, None, unwrap_or, []}
use Rattle.std.specs.Prelude.{◌∷◌}
use Rattle.std.specs.Option.{option_map_or}
use Rattle.std.proofs.Common.{inl, inr, sym, ◌∙◌, ap, arith}
use Rattle.std.proofs.Math.Path.{fun_ext}
use Rattle.std.proofs.lemmas.Bool.Decides.{nat_tests}
use Rattle.std.proofs.lemmas.Bool.{not-true}
use Rattle.pm_num.specs.Ratio.{Ratio, is_above}
use Rattle.pm_table.specs.declared.reg.Reg.{Reg}
use Rattle.pm_table.specs.declared.reg.Reg.TheVariants.{Operation, VoutCommand, VoutMax, MarginHigh, MarginLow, VoutMin}
use Rattle.pm_table.specs.Operation.{selected_register}
use Rattle.pm_table.specs.Rules.{first, rule}
use Rattle.pm_model.specs.Commanded.{Scale, limited}
use Rattle.pm_limits.specs.Lemmas.Selected.{each-selected}
use Rattle.pm_rail.specs.Laws.{ScaleHasDens, IsStep}
use Rattle.pm_rail.specs.Plan.{words_after_orders, commands_by, goal_of, is_cut_by, is_due, max_first, max_rises, min_falls, min_first}
use Rattle.pm_rail.specs.Plan.{next_register}
use Rattle.pm_rail.specs.Plan.{put, words_after_next_order}
use Rattle.pm_rail.specs.Registers.{Held, Wants}
use Rattle.pm_rail.specs.Lemmas.Limits.{Moves, at-goal, greatest-behind, lowered, lowered-behind, raised, written}

-- numbers whose test says so are one
pub equal_by_test : (x y : ℕ) → not (x == y) ≡ false → x ≡ y
equal_by_test x y h = grind (arith, nat_tests)

-- neither of two tests holds
pub left_test_fails : (a b : Bool) → (a || b) ≡ false → a ≡ false
left_test_fails true b h = h
left_test_fails false b h = refl

pub right : (a b : Bool) → (a || b) ≡ false → b ≡ false
right true b h = cc
right false b h = h

-- both of two tests hold
pub first-of : (a b : Bool) → (a && b) ≡ true → a ≡ true
first-of true b h = refl
first-of false b h = h

pub second-of : (a b : Bool) → (a && b) ≡ true → b ≡ true
second-of true b h = h
second-of false b h = cc

-- a word that is wanted is wanted still, and one that stays stays
again : (o : Option ℕ) (w : ℕ) → unwrap_or o (unwrap_or o w) ≡ unwrap_or o w
again None w = refl
again (Some v) w = refl

-- an order doesn't change the words at the end
pub goal-put : (held : Held) (wants : Wants) (q r : Reg) →
    goal_of (put held q (goal_of held wants q)) wants r ≡ goal_of held wants r
goal-put held wants Operation Operation = again (wants Operation) (held Operation)
goal-put held wants VoutCommand VoutCommand = again (wants VoutCommand) (held VoutCommand)
goal-put held wants VoutMax VoutMax = again (wants VoutMax) (held VoutMax)
goal-put held wants MarginHigh MarginHigh = again (wants MarginHigh) (held MarginHigh)
goal-put held wants MarginLow MarginLow = again (wants MarginLow) (held MarginLow)
goal-put held wants VoutMin VoutMin = again (wants VoutMin) (held VoutMin)
goal-put held wants q r = refl

goal-stays : (held : Held) (wants : Wants) (next : Option Reg) →
    goal_of (option_map_or (λ register. put held register (goal_of held wants register)) next held) wants ≡ goal_of held wants
goal-stays held wants None = refl
goal-stays held wants (Some q) = fun_ext (λ (r : Reg). goal-put held wants q r)

pub goal-after : (value : Scale) (held : Held) (wants : Wants) (n : ℕ) →
    goal_of (words_after_orders value wants held n) wants ≡ goal_of held wants
goal-after value held wants zero = refl
goal-after value held wants (suc n) =
    goal-stays (words_after_orders value wants held n) wants (next_register value (words_after_orders value wants held n) wants)
    ∙ goal-after value held wants n

-- nothing is wanted of OPERATION
pub goal-operation : (held : Held) (wants : Wants) → wants Operation ≡ None → goal_of held wants Operation ≡ held Operation
goal-operation held wants none = ap (λ (o : Option ℕ). unwrap_or o (held Operation)) none

module _ (value : Scale) (held : Held) (wants : Wants) (dens : ScaleHasDens value) (none : wants Operation ≡ None)
    (uncut : is_cut_by value (goal_of held wants) ≡ false) where
  chosen : Reg
  chosen = selected_register (held Operation)

  wanted : ℕ
  wanted = goal_of held wants chosen

  -- the selected word at the end is that of the register that is selected now
  selects : goal_of held wants (selected_register (goal_of held wants Operation)) ≡ wanted
  unfolding wanted chosen
  selects = ap (λ (byte : ℕ). goal_of held wants (selected_register byte)) (goal-operation held wants none)

  outside : (is_above (value wanted) (value (goal_of held wants VoutMax))
      || is_above (value (goal_of held wants VoutMin)) (value wanted)) ≡ false
  outside = ap (λ (w : ℕ). is_above (value w) (value (goal_of held wants VoutMax))
      || is_above (value (goal_of held wants VoutMin)) (value w)) (sym selects) ∙ uncut

  moves : Moves
  moves = record {
    s = value (held chosen);
    l = value (held VoutMin);
    g = value (held VoutMax);
    s' = value wanted;
    l' = value (goal_of held wants VoutMin);
    g' = value (goal_of held wants VoutMax);
    s_den = dens (held chosen);
    l_den = dens (held VoutMin);
    g_den = dens (held VoutMax);
    s'_den = dens wanted;
    l'_den = dens (goal_of held wants VoutMin);
    g'_den = dens (goal_of held wants VoutMax);
    below = left_test_fails (is_above (value wanted) (value (goal_of held wants VoutMax))) _ outside;
    above = right (is_above (value wanted) (value (goal_of held wants VoutMax))) _ outside;
  }

  -- what is commanded at the end
  end : commands_by value (goal_of held wants) ≡ value wanted
  unfolding moves
  end = ap (λ (w : ℕ). limited (value w) (value (goal_of held wants VoutMin)) (value (goal_of held wants VoutMax))) selects
      ∙ at-goal moves

  -- a limit's order leaves the selected word
  max-beside : put held VoutMax (goal_of held wants VoutMax) chosen ≡ held chosen
  unfolding chosen
  max-beside = each-selected (λ r. put held VoutMax (goal_of held wants VoutMax) r ≡ held r) refl refl refl (held Operation)

  min-beside : put held VoutMin (goal_of held wants VoutMin) chosen ≡ held chosen
  unfolding chosen
  min-beside = each-selected (λ r. put held VoutMin (goal_of held wants VoutMin) r ≡ held r) refl refl refl (held Operation)

  -- a word's order leaves the selected word, or is its own
  Written : Reg → Type 0
  Written q = (put held q (goal_of held wants q) chosen ≡ held chosen) ⊎ (put held q (goal_of held wants q) chosen ≡ wanted)

  command-written : Written VoutCommand
  unfolding Written wanted chosen
  command-written = each-selected (λ r. (put held VoutCommand (goal_of held wants VoutCommand) r ≡ held r)
      ⊎ (put held VoutCommand (goal_of held wants VoutCommand) r ≡ goal_of held wants r))
      (inr refl) (inl refl) (inl refl) (held Operation)

  high-written : Written MarginHigh
  unfolding Written wanted chosen
  high-written = each-selected (λ r. (put held MarginHigh (goal_of held wants MarginHigh) r ≡ held r)
      ⊎ (put held MarginHigh (goal_of held wants MarginHigh) r ≡ goal_of held wants r))
      (inl refl) (inr refl) (inl refl) (held Operation)

  low-written : Written MarginLow
  unfolding Written wanted chosen
  low-written = each-selected (λ r. (put held MarginLow (goal_of held wants MarginLow) r ≡ held r)
      ⊎ (put held MarginLow (goal_of held wants MarginLow) r ≡ goal_of held wants r))
      (inl refl) (inl refl) (inr refl) (held Operation)

  -- no word is due: the selected word is the wanted one
  arrived : is_due held wants VoutCommand ≡ false → is_due held wants MarginHigh ≡ false →
      is_due held wants MarginLow ≡ false → held chosen ≡ wanted
  unfolding wanted chosen
  arrived c h l = each-selected (λ r. held r ≡ goal_of held wants r)
      (sym (equal_by_test (goal_of held wants VoutCommand) (held VoutCommand) c))
      (sym (equal_by_test (goal_of held wants MarginHigh) (held MarginHigh) h))
      (sym (equal_by_test (goal_of held wants MarginLow) (held MarginLow) l)) (held Operation)

  Steps : Ratio → Type 0
  Steps new = IsStep (commands_by value (goal_of held wants)) (commands_by value held) new

  -- a limit that is widened first
  max-raised : max_first value held wants ≡ true →
      Steps (limited (value (put held VoutMax (goal_of held wants VoutMax) chosen)) (value (held VoutMin))
      (value (goal_of held wants VoutMax)))
  unfolding Steps moves chosen
  max-raised a =
      let parts = second-of (max_rises value held wants) _ a in
      let over = not-true _ (first-of _ _ parts) in
      let crossed = not-true _ (second-of _ _ parts) in
      inl (ap (λ (w : ℕ). limited (value w) (value (held VoutMin)) (value (goal_of held wants VoutMax))) max-beside
      ∙ raised moves (first-of _ _ a) over crossed)

  min-lowered : min_first value held wants ≡ true →
      Steps (limited (value (put held VoutMin (goal_of held wants VoutMin) chosen)) (value (goal_of held wants VoutMin))
      (value (held VoutMax)))
  unfolding Steps moves chosen
  min-lowered b =
      inl (ap (λ (w : ℕ). limited (value w) (value (goal_of held wants VoutMin)) (value (held VoutMax))) min-beside
      ∙ lowered moves (first-of _ _ b) (not-true _ (second-of (min_falls value held wants) _ b)))

  -- a word
  word-written : (q : Reg) → max_first value held wants ≡ false → min_first value held wants ≡ false → Written q →
      Steps (limited (value (put held q (goal_of held wants q) chosen)) (value (held VoutMin)) (value (held VoutMax)))
  unfolding Steps Written moves chosen
  word-written q a b is = elim is [
    | inl e ↦ inl (ap (λ (w : ℕ). limited (value w) (value (held VoutMin)) (value (held VoutMax))) e)
    | inr e ↦
        let there = ap (λ (w : ℕ). limited (value w) (value (held VoutMin)) (value (held VoutMax))) e in
        elim (written moves a b) [
          | inl x ↦ inl (there ∙ x)
          | inr x ↦ inr (there ∙ x ∙ sym end)
        ]
  ]

  -- a limit behind the words
  min-behind : held chosen ≡ wanted →
      Steps (limited (value (put held VoutMin (goal_of held wants VoutMin) chosen)) (value (goal_of held wants VoutMin))
      (value (held VoutMax)))
  unfolding Steps moves chosen
  min-behind at =
      let there = ap (λ (w : ℕ). limited (value w) (value (goal_of held wants VoutMin)) (value (held VoutMax))) (min-beside ∙ at) in
      let now = ap (λ (w : ℕ). limited (value w) (value (held VoutMin)) (value (held VoutMax))) at in
      elim (lowered-behind moves) [
        | inl x ↦ inl (there ∙ x ∙ sym now)
        | inr x ↦ inr (there ∙ x ∙ sym end)
      ]

  max-behind : held chosen ≡ wanted → min_falls value held wants ≡ false →
      Steps (limited (value (put held VoutMax (goal_of held wants VoutMax) chosen)) (value (held VoutMin))
      (value (goal_of held wants VoutMax)))
  unfolding Steps moves chosen
  max-behind at f =
      inr (ap (λ (w : ℕ). limited (value w) (value (held VoutMin)) (value (goal_of held wants VoutMax))) (max-beside ∙ at)
      ∙ greatest-behind moves f ∙ sym end)

  min-last : held chosen ≡ wanted → is_due held wants VoutMax ≡ false →
      Steps (limited (value (put held VoutMin (goal_of held wants VoutMin) chosen)) (value (goal_of held wants VoutMin))
      (value (held VoutMax)))
  unfolding Steps moves chosen
  min-last at m =
      inr (ap (λ (w : ℕ). limited (value w) (value (goal_of held wants VoutMin)) (value (held VoutMax))) (min-beside ∙ at)
      ∙ ap (λ (w : ℕ). limited (value wanted) (value (goal_of held wants VoutMin)) (value w))
      (sym (equal_by_test (goal_of held wants VoutMax) (held VoutMax) m))
      ∙ at-goal moves ∙ sym end)

  step : Steps (commands_by value (words_after_next_order value wants held))
  unfolding Steps chosen
  step = go (max_first value held wants) (min_first value held wants) (is_due held wants VoutCommand)
      (is_due held wants MarginHigh) (is_due held wants MarginLow) (min_falls value held wants)
      (is_due held wants VoutMax) (is_due held wants VoutMin) refl refl refl refl refl refl refl
    where
      go : (a b c d e f g h : Bool) → max_first value held wants ≡ a → min_first value held wants ≡ b →
          is_due held wants VoutCommand ≡ c → is_due held wants MarginHigh ≡ d → is_due held wants MarginLow ≡ e →
          min_falls value held wants ≡ f → is_due held wants VoutMax ≡ g →
          Steps (commands_by value (option_map_or (λ register. put held register (goal_of held wants register))
          (first (rule a VoutMax ∷ rule b VoutMin ∷ rule c VoutCommand ∷ rule d MarginHigh ∷ rule e MarginLow ∷
          rule f VoutMin ∷ rule g VoutMax ∷ rule h VoutMin ∷ [])) held))
      go true b c d e f g h a' b' c' d' e' f' g' = max-raised a'
      go false true c d e f g h a' b' c' d' e' f' g' = min-lowered b'
      go false false true d e f g h a' b' c' d' e' f' g' = word-written VoutCommand a' b' command-written
      go false false false true e f g h a' b' c' d' e' f' g' = word-written MarginHigh a' b' high-written
      go false false false false true f g h a' b' c' d' e' f' g' = word-written MarginLow a' b' low-written
      go false false false false false true g h a' b' c' d' e' f' g' = min-behind (arrived c' d' e')
      go false false false false false false true h a' b' c' d' e' f' g' = max-behind (arrived c' d' e') f'
      go false false false false false false false true a' b' c' d' e' f' g' = min-last (arrived c' d' e') g'
      go false false false false false false false false a' b' c' d' e' f' g' = inl refl

pub uncut_goal_is_step : (value : Scale) (held : Held) (wants : Wants) → ScaleHasDens value → wants Operation ≡ None →
    is_cut_by value (goal_of held wants) ≡ false →
    IsStep (commands_by value (goal_of held wants)) (commands_by value held) (commands_by value (words_after_next_order value wants held))
unfolding Steps
uncut_goal_is_step value held wants dens none uncut = step value held wants dens none uncut

-- two steps are one
pub chain : (goal a b c : Ratio) → IsStep goal a b → IsStep goal b c → IsStep goal a c
chain goal a b c ab (inr x) = inr x
chain goal a b c (inl y) (inl x) = inl (x ∙ y)
chain goal a b c (inr y) (inl x) = inr (x ∙ y)

from-any : (value : Scale) (held : Held) (wants : Wants) (more : ℕ) → ScaleHasDens value → wants Operation ≡ None →
    is_cut_by value (goal_of held wants) ≡ false →
    IsStep (commands_by value (goal_of held wants)) (commands_by value held) (commands_by value (words_after_orders value wants held more))
from-any value held wants zero dens none uncut = inl refl
from-any value held wants (suc more) dens none uncut =
    let here = words_after_orders value wants held more in
    let goes = goal-after value held wants more in
    let newest = uncut_goal_is_step value here wants dens none (ap (λ (h : Held). is_cut_by value h) goes ∙ uncut) in
    chain (commands_by value (goal_of held wants)) (commands_by value held) (commands_by value here)
    (commands_by value (words_after_next_order value wants here)) (from-any value held wants more dens none uncut)
    (elim newest [
      | inl x ↦ inl x
      | inr x ↦ inr (x ∙ ap (λ (h : Held). commands_by value h) goes)
    ])

pub any : (value : Scale) (held : Held) (wants : Wants) (n more : ℕ) → ScaleHasDens value → wants Operation ≡ None →
    is_cut_by value (goal_of held wants) ≡ false →
    IsStep (commands_by value (goal_of held wants)) (commands_by value (words_after_orders value wants held n))
    (commands_by value (words_after_orders value wants (words_after_orders value wants held n) more))
any value held wants n more dens none uncut =
    let goes = goal-after value held wants n in
    elim (from-any value (words_after_orders value wants held n) wants more dens none (ap (λ (h : Held). is_cut_by value h) goes ∙ uncut)) [
      | inl x ↦ inl x
      | inr x ↦ inr (x ∙ ap (λ (h : Held). commands_by value h) goes)
    ]
