-- Fractions over one denominator c: there the talk of order and nearness is one of whole numbers.
use Rattle.std.specs.Prelude.{◌≡◌, ℕ, ◌*◌, ◌<◌, ◌≤◌, ℤ, pos, ◌-ℤ◌, ◌*ℤ◌, ◌≤ℤ◌, unsigned_abs}
use Rattle.std.proofs.Common.{arith, ap, sym, ◌∙◌}
use Rattle.std.proofs.Math.Nat.{mul-le-mul_right, le_of_mul-le-mul_right}
use Rattle.std.proofs.lemmas.Int.{ints, unsigned_abs-mul}
use Rattle.pm_num.specs.Ratio.{Ratio, AtMost, SameValue}
use Rattle.pm_num.specs.Nearest.{gap, Near}
use Rattle.pm_num.specs.Lemmas.Integers.{sub-times, times-swap, le-times, le_from_times}

-- v is s / c.
pub record Over (c : ℕ) (s : ℤ) (v : Ratio) : Type 0 where
  pub common : 0 < c
  pub den : 0 < v.den
  pub is : v.num *ℤ pos c ≡ s *ℤ pos v.den

-- How far s / c is from x, in units of one over both denominators.
abbrev pub apart : ℕ → Ratio → ℤ → ℕ
apart c x s = unsigned_abs (x.num *ℤ pos c -ℤ s *ℤ pos x.den)

-- the distance over the denominators of v and x, and the one over c
moved : (x v : Ratio) (c : ℕ) (s : ℤ) → Over c s v
    → (x.num *ℤ pos v.den -ℤ v.num *ℤ pos x.den) *ℤ pos c ≡ (x.num *ℤ pos c -ℤ s *ℤ pos x.den) *ℤ pos v.den
moved x v c s h =
    let e = ap (λ (z : ℤ). z *ℤ pos x.den) h.is in
    let f = sub-times (x.num *ℤ pos v.den) (v.num *ℤ pos x.den) c in
    let g = sub-times (x.num *ℤ pos c) (s *ℤ pos x.den) v.den in
    let i = times-swap x.num v.den c in
    let j = times-swap v.num x.den c in
    let k = times-swap s x.den v.den in
    omega (arith, ints)

-- The sizes of both distances stand in the same proportion.
pub gap-over : (x v : Ratio) (c : ℕ) (s : ℤ) → Over c s v → gap x v * c ≡ apart c x s * v.den
gap-over x v c s h =
    sym (unsigned_abs-mul (x.num *ℤ pos v.den -ℤ v.num *ℤ pos x.den) (pos c))
    ∙ ap unsigned_abs (moved x v c s h)
    ∙ unsigned_abs-mul (x.num *ℤ pos c -ℤ s *ℤ pos x.den) (pos v.den)

-- Two distances g and k, each over its own denominator, that are a and b over one c.
record Crossed (g k a b d e c : ℕ) : Type 0 where
  left : g * c ≡ a * d
  right : k * c ≡ b * e

-- Their cross products stand in the order in which a and b do.
crossed : {g k a b d e c : ℕ} → Crossed g k a b d e c → 0 < c → a ≤ b → g * e ≤ k * d
crossed {g} {k} {a} {b} {d} {e} {c} h positive le =
    let i = ap (λ (n : ℕ). n * e) h.left in
    let j = ap (λ (n : ℕ). n * d) h.right in
    let l : a * (d * e) ≤ b * (d * e) = mul-le-mul_right (d * e) le in
    let w : g * e * c ≤ k * d * c = omega arith in
    le_of_mul-le-mul_right w positive

-- The numbers a and b stand in the order in which the cross products do.
crossed_back : {g k a b d e c : ℕ} → Crossed g k a b d e c → 0 < d → 0 < e → g * e ≤ k * d → a ≤ b
crossed_back {g} {k} {a} {b} {d} {e} {c} h dp ep le =
    let i = ap (λ (n : ℕ). n * e) h.left in
    let j = ap (λ (n : ℕ). n * d) h.right in
    let l : g * e * c ≤ k * d * c = mul-le-mul_right c le in
    let w : a * d * e ≤ b * d * e = omega arith in
    le_of_mul-le-mul_right (le_of_mul-le-mul_right w ep) dp

-- The distances of v and u from x are two such distances.
crossed_gaps : {v u : Ratio} {c : ℕ} {s t : ℤ} (x : Ratio) → Over c s v → Over c t u
    → Crossed (gap x v) (gap x u) (apart c x s) (apart c x t) v.den u.den c
crossed_gaps {v} {u} {c} {s} {t} x p q = record { left = gap-over x v c s p; right = gap-over x u c t q }

-- The number that is nearer over one c is nearer.
pub near_over : {v u : Ratio} {c : ℕ} {s t : ℤ} (x : Ratio) → Over c s v → Over c t u → apart c x s ≤ apart c x t → Near x v u
near_over x p q le = crossed (crossed_gaps x p q) p.common le

-- The number that is nearer is nearer over one c.
pub near_over_back : {v u : Ratio} {c : ℕ} {s t : ℤ} (x : Ratio) → Over c s v → Over c t u → Near x v u → apart c x s ≤ apart c x t
near_over_back x p q near = crossed_back (crossed_gaps x p q) p.den q.den near

-- Both cross products, times c.
pub cross_over : (v u : Ratio) (c : ℕ) (s : ℤ) → Over c s v → (v.num *ℤ pos u.den) *ℤ pos c ≡ (s *ℤ pos v.den) *ℤ pos u.den
cross_over v u c s h =
    let e = ap (λ (z : ℤ). z *ℤ pos u.den) h.is in
    let f = times-swap v.num u.den c in
    omega (arith, ints)

-- The number that is at most another over one c is at most it.
pub at_most_over : {v u : Ratio} {c : ℕ} {s t : ℤ} → Over c s v → Over c t u → s ≤ℤ t → AtMost v u
at_most_over {v} {u} {c} {s} {t} p q le =
    let e = cross_over v u c s p in
    let f = cross_over u v c t q in
    let g = le-times (s *ℤ pos v.den) (t *ℤ pos v.den) u.den (le-times s t v.den le) in
    let h = times-swap t v.den u.den in
    le_from_times (v.num *ℤ pos u.den) (u.num *ℤ pos v.den) c p.common (omega (arith, ints))

-- The number that is at most another is at most it over one c.
pub at_most_over_back : {v u : Ratio} {c : ℕ} {s t : ℤ} → Over c s v → Over c t u → AtMost v u → s ≤ℤ t
at_most_over_back {v} {u} {c} {s} {t} p q le =
    let e = cross_over v u c s p in
    let f = cross_over u v c t q in
    let g = le-times (v.num *ℤ pos u.den) (u.num *ℤ pos v.den) c le in
    let h = times-swap t v.den u.den in
    le_from_times s t v.den p.den (le_from_times (s *ℤ pos v.den) (t *ℤ pos v.den) u.den q.den (omega (arith, ints)))

-- Two numbers of one value are one number over c.
pub same_over_back : {v u : Ratio} {c : ℕ} {s t : ℤ} → Over c s v → Over c t u → SameValue v u → s ≡ t
same_over_back {v} {u} {c} {s} {t} p q same =
    let l : s ≤ℤ t = at_most_over_back p q (omega (arith, ints)) in
    let g : t ≤ℤ s = at_most_over_back q p (omega (arith, ints)) in
    omega (arith, ints)

-- A number over c is at most x where its cross product with x is.
pub at_most_from_cross : {v : Ratio} {c : ℕ} {s : ℤ} (x : Ratio) → Over c s v → (s *ℤ pos x.den) ≤ℤ (x.num *ℤ pos c) → AtMost v x
at_most_from_cross {v} {c} {s} x p le =
    let e = cross_over v x c s p in
    let f = le-times (s *ℤ pos x.den) (x.num *ℤ pos c) v.den le in
    let g = times-swap s v.den x.den in
    let h = times-swap x.num c v.den in
    le_from_times (v.num *ℤ pos x.den) (x.num *ℤ pos v.den) c p.common (omega (arith, ints))

-- s times x.den is at most x.num times c if the number s over c is at most x.
pub cross_from_at_most : {v : Ratio} {c : ℕ} {s : ℤ} (x : Ratio) → Over c s v → AtMost v x → (s *ℤ pos x.den) ≤ℤ (x.num *ℤ pos c)
cross_from_at_most {v} {c} {s} x p le =
    let e = cross_over v x c s p in
    let f = le-times (v.num *ℤ pos x.den) (x.num *ℤ pos v.den) c le in
    let g = times-swap s v.den x.den in
    let h = times-swap x.num c v.den in
    le_from_times (s *ℤ pos x.den) (x.num *ℤ pos c) v.den p.den (omega (arith, ints))

-- The fraction x is at most a number over c where its cross product with that is.
pub at_least_from_cross : {v : Ratio} {c : ℕ} {s : ℤ} (x : Ratio) → Over c s v → (x.num *ℤ pos c) ≤ℤ (s *ℤ pos x.den) → AtMost x v
at_least_from_cross {v} {c} {s} x p le =
    let e = cross_over v x c s p in
    let f = le-times (x.num *ℤ pos c) (s *ℤ pos x.den) v.den le in
    let g = times-swap s v.den x.den in
    let h = times-swap x.num c v.den in
    le_from_times (x.num *ℤ pos v.den) (v.num *ℤ pos x.den) c p.common (omega (arith, ints))

-- x.num times c is at most s times x.den if x is at most the number s over c.
pub cross_from_at_least : {v : Ratio} {c : ℕ} {s : ℤ} (x : Ratio) → Over c s v → AtMost x v → (x.num *ℤ pos c) ≤ℤ (s *ℤ pos x.den)
cross_from_at_least {v} {c} {s} x p le =
    let e = cross_over v x c s p in
    let f = le-times (x.num *ℤ pos v.den) (v.num *ℤ pos x.den) c le in
    let g = times-swap s v.den x.den in
    let h = times-swap x.num c v.den in
    le_from_times (x.num *ℤ pos c) (s *ℤ pos x.den) v.den p.den (omega (arith, ints))

-- What is at most a value with a positive denominator is at most what that is at most.
pub at_most-trans : (p q r : Ratio) → 0 < q.den → AtMost p q → AtMost q r → AtMost p r
at_most-trans p q r den h k =
    let e = le-times (p.num *ℤ pos q.den) (q.num *ℤ pos p.den) r.den h in
    let f = le-times (q.num *ℤ pos r.den) (r.num *ℤ pos q.den) p.den k in
    let g = times-swap p.num q.den r.den in
    let i = times-swap q.num p.den r.den in
    let j = times-swap r.num q.den p.den in
    le_from_times (p.num *ℤ pos r.den) (r.num *ℤ pos p.den) q.den den (omega (arith, ints))
