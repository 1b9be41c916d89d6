-- Whole numbers times positive ones, which `omega` does not multiply by itself.
use Rattle.std.specs.Prelude.{◌≡◌, ℕ, ◌+◌, ◌*◌, ◌<◌, ◌≤◌, ℤ, pos, negsuc, ◌+ℤ◌, ◌-ℤ◌, ◌*ℤ◌, ◌<ℤ◌, ◌≤ℤ◌, unsigned_abs, int_lt, false, refl}
use Rattle.std.proofs.Common.{arith, ap}
use Rattle.std.proofs.Math.Nat.{mul-le-mul_right}
use Rattle.std.proofs.lemmas.Int.{ints, by_lt_z}
use borrow.Author.Differences.{up, down, product_is, le_out, lt_out}

-- A positive whole number is its size again.
pub back_from_size : {A : Type 0} (f : ℤ → A) (d : ℤ) → pos 1 ≤ℤ d → f (pos (unsigned_abs d)) ≡ f d
back_from_size f (pos n) h = refl
back_from_size f (negsuc n) h = absurd (omega (arith, ints))

-- a difference, by the parts above and below 0 of its numbers
difference_is : (a b : ℤ) → up (a -ℤ b) + down a + up b ≡ down (a -ℤ b) + up a + down b
difference_is a b = omega (arith, ints)

-- A product goes through a difference.
pub sub-times : (a b : ℤ) (n : ℕ) → (a -ℤ b) *ℤ pos n ≡ a *ℤ pos n -ℤ b *ℤ pos n
sub-times a b n = let e = ap (λ (k : ℕ). k * n) (difference_is a b) in omega (arith, ints)

-- Two factors are one, which is their product.
pub times-times : (a : ℤ) (m n : ℕ) → (a *ℤ pos m) *ℤ pos n ≡ a *ℤ pos (m * n)
times-times a m n =
    let e = ap (λ (k : ℕ). k * n) (product_is a (pos m)).0 in
    let f = ap (λ (k : ℕ). k * n) (product_is a (pos m)).1 in
    omega (arith, ints)

-- Two factors stand in either order.
pub times-swap : (a : ℤ) (m n : ℕ) → (a *ℤ pos m) *ℤ pos n ≡ (a *ℤ pos n) *ℤ pos m
times-swap a m n = let e = times-times a m n in let f = times-times a n m in omega (arith, ints)

-- A product with the same factor keeps the order.
pub le-times : (a b : ℤ) (n : ℕ) → a ≤ℤ b → (a *ℤ pos n) ≤ℤ (b *ℤ pos n)
le-times a b n h =
    let k : (up a + down b) * n ≤ (up b + down a) * n = mul-le-mul_right n (le_out a b h) in
    omega (arith, ints)

-- A product with the same factor keeps what is less apart by the factor at least.
pub lt-times : (a b : ℤ) (n : ℕ) → a <ℤ b → (a *ℤ pos n +ℤ pos n) ≤ℤ (b *ℤ pos n)
lt-times a b n h =
    let j : up a + down b + 1 ≤ up b + down a = omega (arith, lt_out a b h) in
    let k : (up a + down b + 1) * n ≤ (up b + down a) * n = mul-le-mul_right n j in
    omega (arith, ints)

-- A positive factor that stands on both sides of an order can be left out.
pub le_from_times : (a b : ℤ) (n : ℕ) → 0 < n → (a *ℤ pos n) ≤ℤ (b *ℤ pos n) → a ≤ℤ b
le_from_times a b n h le = by_lt_z b a (λ less. let k = lt-times b a n less in absurd (omega (arith, ints))) (λ p. p)

-- A positive factor that stands on both sides of an equation can be left out.
pub same_from_times : (a b : ℤ) (n : ℕ) → 0 < n → a *ℤ pos n ≡ b *ℤ pos n → a ≡ b
same_from_times a b n h e =
    let p : a ≤ℤ b = le_from_times a b n h (omega (arith, ints)) in
    let q : b ≤ℤ a = le_from_times b a n h (omega (arith, ints)) in
    omega (arith, ints)

-- What isn't less is at least as great.
pub not_less : (a b : ℤ) → int_lt b a ≡ false → a ≤ℤ b
not_less a b h = grind (arith, ints)
