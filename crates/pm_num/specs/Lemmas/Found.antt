-- The word that is nearest is the one that is found.
use Rattle.std.specs.Prelude.{◌≡◌, ℕ, zero, suc, ◌^◌, ◌<◌, ◌≤◌, Bool, true, false, not, ◌||◌, cond, nat_le, Some, refl}
use Rattle.std.specs.Bool.{Decides}
use Rattle.std.proofs.Common.{T, sym, ◌∙◌, ap, subst, arith}
use Rattle.std.proofs.lemmas.Bool.{leb-true, le-leb}
use Rattle.std.proofs.lemmas.Bool.Decides.{Decides-int_eq, Decides-and, Decides-below_and}
use Rattle.pm_num.specs.Ratio.{Ratio, AtMost, SameValue}
use Rattle.pm_num.specs.Nearest.{Near, IsNearest}
use Rattle.pm_num.specs.NearestWord.{is_near, is_at_most, is_same, each_below, found_below, is_nearest, nearest_word}

-- A test that holds is true.
pub from_T : (b : Bool) → T b → b ≡ true
from_T true h = refl
from_T false h = absurd h

-- The test of being as near is true exactly where it is as near.
Decides-near : (x v u : Ratio) → Decides (is_near x v u) (Near x v u)
Decides-near x v u = (leb-true _ _, le-leb _ _)

-- The test of being at most is true exactly where it is at most.
Decides-at_most : (p q : Ratio) → Decides (is_at_most p q) (AtMost p q)
Decides-at_most p q = (λ e. record { le = subst T (sym e) tt }, λ h. from_T _ h.le)

-- The test that one fact follows from another is true exactly where it does.
Decides-implies : {P Q : Type 0} (a b : Bool) → Decides a P → Decides b Q → Decides (not a || b) (P → Q)
Decides-implies true b p q = (λ e h. q.0 e, λ f. q.1 (f (p.0 refl)))
Decides-implies false b p q = (λ e h. let no : false ≡ true = p.1 h in cc, λ f. refl)

-- The test of each number below n is true exactly where each passes.
Decides-each : (test : ℕ → Bool) (P : ℕ → Type 0) → ((k : ℕ) → Decides (test k) (P k)) → (n : ℕ)
    → Decides (each_below test n) ((k : ℕ) → k < n → P k)
unfolding each_below
Decides-each test P each n = Decides-below_and test P (each_below test) each refl (λ m. refl) n

-- a format in which there is one word for x at most
abbrev pub IsOneFor : (ℕ → Ratio) → (ℕ → ℕ) → Ratio → Type 0
IsOneFor value rank x = (u w : ℕ) → IsNearest value rank x u → IsNearest value rank x w → u ≡ w

-- the test of a word tells whether it is the nearest
Decides-is_nearest : (value : ℕ → Ratio) (rank : ℕ → ℕ) (x : Ratio) (w : ℕ) → w < 2 ^ 16
    → Decides (is_nearest value rank x w) (IsNearest value rank x w)
unfolding is_nearest
Decides-is_nearest value rank x w word = (
  λ e. let parts = (Decides-and _ _ near (Decides-and _ _ low spelled)).0 e in
      record { word = word; nearest = parts.0; lowest = parts.1.0; spelling = parts.1.1 },
  λ is. (Decides-and _ _ near (Decides-and _ _ low spelled)).1 (is.nearest, (is.lowest, is.spelling)),
)
  where
    near : Decides (each_below (λ u. is_near x (value w) (value u)) (2 ^ 16)) ((u : ℕ) → u < 2 ^ 16 → Near x (value w) (value u))
    near = Decides-each (λ u. is_near x (value w) (value u)) (λ u. Near x (value w) (value u)) (λ u. Decides-near x (value w) (value u))
        (2 ^ 16)

    low : Decides (each_below (λ u. not (is_near x (value u) (value w)) || is_at_most (value w) (value u)) (2 ^ 16))
        ((u : ℕ) → u < 2 ^ 16 → Near x (value u) (value w) → AtMost (value w) (value u))
    low = Decides-each (λ u. not (is_near x (value u) (value w)) || is_at_most (value w) (value u))
        (λ u. Near x (value u) (value w) → AtMost (value w) (value u))
        (λ u. Decides-implies _ _ (Decides-near x (value u) (value w)) (Decides-at_most (value w) (value u))) (2 ^ 16)

    spelled : Decides (each_below (λ u. not (is_same (value u) (value w)) || nat_le (rank w) (rank u)) (2 ^ 16))
        ((u : ℕ) → u < 2 ^ 16 → SameValue (value u) (value w) → rank w ≤ rank u)
    spelled = Decides-each (λ u. not (is_same (value u) (value w)) || nat_le (rank w) (rank u))
        (λ u. SameValue (value u) (value w) → rank w ≤ rank u)
        (λ u. Decides-implies _ _ (Decides-int_eq _ _) (leb-true _ _, le-leb _ _)) (2 ^ 16)

-- the only number below n that passes a test is the one that is found
found_below-only : (test : ℕ → Bool) (n w : ℕ) → w < n → test w ≡ true → ((u : ℕ) → u < n → test u ≡ true → u ≡ w)
    → found_below test n ≡ Some w
unfolding found_below
found_below-only test zero w below passes only = absurd (omega arith)
found_below-only test (suc n) w below passes only =
    go (test n) refl (λ less. found_below-only test n w less passes (λ u h. only u (omega arith)))
  where
    go : (b : Bool) → test n ≡ b → (w < n → found_below test n ≡ Some w) → cond b (Some n) (found_below test n) ≡ Some w
    go true e more = ap (λ (u : ℕ). Some u) (only n (omega arith) e)
    go false e more = more (smaller differ) where
      differ : n ≡ w → ⊥
      differ same = let t : false ≡ true = sym e ∙ (ap test same ∙ passes) in cc

      smaller : (n ≡ w → ⊥) → w < n
      smaller ne = omega (arith, below, ne)

-- The word that is nearest is the one that is found, and what is found is the nearest.
pub nearest_word-found : (value : ℕ → Ratio) (rank : ℕ → ℕ) (x : Ratio) (w : ℕ) → IsOneFor value rank x → IsNearest value rank x w
    → nearest_word value rank x ≡ Some w
unfolding nearest_word
nearest_word-found value rank x w one is =
    found_below-only (is_nearest value rank x) (2 ^ 16) w is.word ((Decides-is_nearest value rank x w is.word).1 is)
    (λ u h e. one u w ((Decides-is_nearest value rank x u h).0 e) is)

-- what is found below n passes the test
found_below-passes : (test : ℕ → Bool) (n w : ℕ) → found_below test n ≡ Some w → (w < n) × (test w ≡ true)
unfolding found_below
found_below-passes test zero w e = cc
found_below-passes test (suc n) w e = go (test n) refl e (found_below-passes test n w) where
  go : (b : Bool) → test n ≡ b → cond b (Some n) (found_below test n) ≡ Some w → (found_below test n ≡ Some w → (w < n) × (test w ≡ true))
      → (w < suc n) × (test w ≡ true)
  go true passes e more = let same : n ≡ w = cc in (omega (arith, same), ap test (sym same) ∙ passes)
  go false fails e more = let below = more e in (omega (arith, below.0), below.1)

-- The word that is found is the nearest.
pub IsNearest-found : (value : ℕ → Ratio) (rank : ℕ → ℕ) (x : Ratio) (w : ℕ) → nearest_word value rank x ≡ Some w → IsNearest value rank x w
unfolding nearest_word
IsNearest-found value rank x w e =
    let passes = found_below-passes (is_nearest value rank x) (2 ^ 16) w e in
    (Decides-is_nearest value rank x w passes.0).0 passes.1
