-- A plan ends.
use Rattle.std.specs.Prelude.{◌≡◌, ◌≢◌, ◌⊎◌, ◌+◌, ◌≤◌, ℕ, zero, suc, Bool, true, false, cond, not, ◌==◌, refl, Option, Some, None}
use Rattle.std.specs.Prelude.{unwrap_or, [], ◌∷◌}
use Rattle.std.specs.Option.{option_map_or}
use Rattle.std.proofs.Common.{inl, inr, sym, ◌∙◌, ap, arith, subst}
use Rattle.std.proofs.lemmas.Bool.Decides.{nat_tests}
use Rattle.pm_num.specs.Ratio.{is_above}
use Rattle.pm_num.specs.Lemmas.Order.{not-above-itself}
use Rattle.pm_table.specs.declared.reg.Reg.{Reg}
use Rattle.pm_table.specs.declared.reg.Reg.TheVariants.{Operation, VoutCommand, VoutMax, MarginHigh, MarginLow, VoutMin}
use Rattle.pm_table.specs.Rules.{first, rule}
use Rattle.pm_model.specs.Commanded.{Scale}
use Rattle.pm_rail.specs.Plan.{words_after_orders, goal_of, is_due, max_first, min_falls, min_first, next_register, put}
use Rattle.pm_rail.specs.Registers.{Held, Wants}
use Rattle.pm_rail.specs.Lemmas.Steps.{first-of, goal-after, goal-operation, equal_by_test}

-- Words of which one has a value above the other's differ.
apart : (value : Scale) (x y : ℕ) → is_above (value x) (value y) ≡ true → not (x == y) ≡ true
apart value x y h = go (not (x == y)) refl where
  go : (b : Bool) → not (x == y) ≡ b → b ≡ true
  go true e = refl
  go false e =
      let bad : is_above (value y) (value y) ≡ true = subst (λ (w : ℕ). is_above (value w) (value y) ≡ true) (equal_by_test x y e) h in
      absurd (let never = not-above-itself (value y) in cc)

-- a limit that is widened is due
falls-due : (value : Scale) (held : Held) (wants : Wants) → min_falls value held wants ≡ true → is_due held wants VoutMin ≡ true
falls-due value held wants h =
    turned (goal_of held wants VoutMin) (held VoutMin) (apart value (held VoutMin) (goal_of held wants VoutMin) h)
  where
    turned : (x y : ℕ) → not (y == x) ≡ true → not (x == y) ≡ true
    turned x y d = grind (arith, nat_tests)

-- The register that is ordered next is due; where none is, none is due.
abbrev pub IsNext : Held → Wants → Option Reg → Type 0
IsNext held wants (Some Operation) = ⊥
IsNext held wants (Some register) = is_due held wants register ≡ true
IsNext held wants None = (is_due held wants VoutCommand ≡ false) × (is_due held wants MarginHigh ≡ false)
    × (is_due held wants MarginLow ≡ false) × (is_due held wants VoutMax ≡ false) × (is_due held wants VoutMin ≡ false)

pub is-next : (value : Scale) (held : Held) (wants : Wants) → IsNext held wants (next_register value held wants)
is-next value held wants = go (max_first value held wants) (min_first value held wants) (is_due held wants VoutCommand)
    (is_due held wants MarginHigh) (is_due held wants MarginLow) (min_falls value held wants)
    (is_due held wants VoutMax) (is_due held wants VoutMin) refl refl refl refl refl refl refl refl
  where
    go : (a b c d e f g h : Bool) → max_first value held wants ≡ a → min_first value held wants ≡ b →
        is_due held wants VoutCommand ≡ c → is_due held wants MarginHigh ≡ d → is_due held wants MarginLow ≡ e →
        min_falls value held wants ≡ f → is_due held wants VoutMax ≡ g → is_due held wants VoutMin ≡ h →
        IsNext held wants (first (rule a VoutMax ∷ rule b VoutMin ∷ rule c VoutCommand ∷ rule d MarginHigh ∷
        rule e MarginLow ∷ rule f VoutMin ∷ rule g VoutMax ∷ rule h VoutMin ∷ []))
    go true b c d e f g h a' b' c' d' e' f' g' h' =
        apart value (goal_of held wants VoutMax) (held VoutMax) (first-of _ _ a')
    go false true c d e f g h a' b' c' d' e' f' g' h' =
        falls-due value held wants (first-of (min_falls value held wants) _ b')
    go false false true d e f g h a' b' c' d' e' f' g' h' = c'
    go false false false true e f g h a' b' c' d' e' f' g' h' = d'
    go false false false false true f g h a' b' c' d' e' f' g' h' = e'
    go false false false false false true g h a' b' c' d' e' f' g' h' = falls-due value held wants f'
    go false false false false false false true h a' b' c' d' e' f' g' h' = g'
    go false false false false false false false true a' b' c' d' e' f' g' h' = h'
    go false false false false false false false false a' b' c' d' e' f' g' h' = (c', d', e', g', h')

not-same : (x y : ℕ) → not (x == y) ≡ true → x ≢ y
not-same x y h e = grind (arith, nat_tests)

next-due : (held : Held) (wants : Wants) (register : Reg) → IsNext held wants (Some register) →
    goal_of held wants register ≢ held register
next-due held wants Operation is = absurd is
next-due held wants register is = not-same (goal_of held wants register) (held register) is

pub due : (value : Scale) (held : Held) (wants : Wants) (register : Reg) →
    next_register value held wants ≡ Some register → goal_of held wants register ≢ held register
due value held wants register is = next-due held wants register (subst (λ o. IsNext held wants o) is (is-next value held wants))

-- nothing is due: each register has its word
none-due : (held : Held) (wants : Wants) → wants Operation ≡ None → IsNext held wants None → (register : Reg) →
    held register ≡ goal_of held wants register
none-due held wants none free Operation = sym (goal-operation held wants none)
none-due held wants none free VoutCommand = sym (equal_by_test (goal_of held wants VoutCommand) (held VoutCommand) free.0)
none-due held wants none free MarginHigh = sym (equal_by_test (goal_of held wants MarginHigh) (held MarginHigh) free.1)
none-due held wants none free MarginLow = sym (equal_by_test (goal_of held wants MarginLow) (held MarginLow) free.2)
none-due held wants none free VoutMax = sym (equal_by_test (goal_of held wants VoutMax) (held VoutMax) free.3)
none-due held wants none free VoutMin = sym (equal_by_test (goal_of held wants VoutMin) (held VoutMin) free.4)

pub done : (value : Scale) (held : Held) (wants : Wants) → wants Operation ≡ None →
    next_register value held wants ≡ None → (register : Reg) → held register ≡ goal_of held wants register
done value held wants none is =
    none-due held wants none (subst (λ o. IsNext held wants o) is (is-next value held wants))

-- how many registers are due
abbrev one : Bool → ℕ
one b = cond b 1 0

left : Held → Wants → ℕ
left held wants = one (is_due held wants VoutCommand) + one (is_due held wants MarginHigh)
    + one (is_due held wants MarginLow) + one (is_due held wants VoutMax) + one (is_due held wants VoutMin)

-- A register that was ordered isn't due any more.
gone : (o : Option ℕ) (w : ℕ) → not (unwrap_or o (unwrap_or o w) == unwrap_or o w) ≡ false
gone None w = grind (arith, nat_tests)
gone (Some v) w = grind (arith, nat_tests)

-- Each order leaves one register fewer that is due.
fewer : (held : Held) (wants : Wants) (next : Option Reg) → IsNext held wants next →
    (left (option_map_or (λ register. put held register (goal_of held wants register)) next held) wants + 1 ≤ left held wants)
    ⊎ (left (option_map_or (λ register. put held register (goal_of held wants register)) next held) wants ≡ 0)
unfolding left
fewer held wants None free = inr (rw (free.0) (rw (free.1) (rw (free.2) (rw (free.3) (rw (free.4) refl)))))
fewer held wants (Some VoutCommand) is = inl (rw is (rw (gone (wants VoutCommand) (held VoutCommand)) (omega arith)))
fewer held wants (Some MarginHigh) is = inl (rw is (rw (gone (wants MarginHigh) (held MarginHigh)) (omega arith)))
fewer held wants (Some MarginLow) is = inl (rw is (rw (gone (wants MarginLow) (held MarginLow)) (omega arith)))
fewer held wants (Some VoutMax) is = inl (rw is (rw (gone (wants VoutMax) (held VoutMax)) (omega arith)))
fewer held wants (Some VoutMin) is = inl (rw is (rw (gone (wants VoutMin) (held VoutMin)) (omega arith)))
fewer held wants (Some Operation) is = absurd is

five-at-most : (held : Held) (wants : Wants) → left held wants ≤ 5
unfolding left
five-at-most held wants = go (is_due held wants VoutCommand) (is_due held wants MarginHigh)
    (is_due held wants MarginLow) (is_due held wants VoutMax) (is_due held wants VoutMin)
  where
    small : (b : Bool) → one b ≤ 1
    small true = omega arith
    small false = omega arith

    go : (a b c d e : Bool) → one a + one b + one c + one d + one e ≤ 5
    go a b c d e = let a' = small a in let b' = small b in let c' = small c in let d' = small d in let e' = small e in omega arith

runs-down : (value : Scale) (held : Held) (wants : Wants) (n : ℕ) →
    (left (words_after_orders value wants held n) wants + n ≤ 5) ⊎ (left (words_after_orders value wants held n) wants ≡ 0)
runs-down value held wants zero = inl (let few = five-at-most held wants in omega arith)
runs-down value held wants (suc n) =
    let here = words_after_orders value wants held n in
    elim (fewer here wants (next_register value here wants) (is-next value here wants)) [
      | inr z ↦ inr z
      | inl less ↦ elim (runs-down value held wants n) [
        | inl low ↦ inl (omega arith)
        | inr z ↦ inr (omega arith)
      ]
    ]

none-left : (held : Held) (wants : Wants) → left held wants ≡ 0 → IsNext held wants None
unfolding left
none-left held wants z = go (is_due held wants VoutCommand) (is_due held wants MarginHigh)
    (is_due held wants MarginLow) (is_due held wants VoutMax) (is_due held wants VoutMin) z
  where
    go : (a b c d e : Bool) → cond a 1 0 + cond b 1 0 + cond c 1 0 + cond d 1 0 + cond e 1 0 ≡ 0 →
        (a ≡ false) × (b ≡ false) × (c ≡ false) × (d ≡ false) × (e ≡ false)
    go false false false false false h = (refl, refl, refl, refl, refl)
    go a b c d e h = absurd (omega arith)

pub five : (value : Scale) (held : Held) (wants : Wants) → wants Operation ≡ None →
    (register : Reg) → words_after_orders value wants held 5 register ≡ goal_of held wants register
five value held wants none register =
    let here = words_after_orders value wants held 5 in
    let zero_left : left here wants ≡ 0 = elim (runs-down value held wants 5) [
      | inl low ↦ omega arith
      | inr z ↦ z
    ] in
    none-due here wants none (none-left here wants zero_left) register
    ∙ ap (λ (h : Held). h register) (goal-after value held wants 5)
