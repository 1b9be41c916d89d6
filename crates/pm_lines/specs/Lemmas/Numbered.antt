-- Texts of numbered things, one after another.
use Rattle.std.proofs.Common.{◌≡◌, ◌∙◌, ◌+◌, ◌<◌, ◌≤◌, ℕ, List, [], ◌∷◌, ◌++◌, take, drop, get_or, sym, ap, append-nil, zero-add, arith}
use Rattle.std.specs.List.{flat_map, range_with_len}
use Rattle.std.proofs.lemmas.List.{take_all, take_more}
use Rattle.std.proofs.lemmas.List.FromFn.{get_or-range_with_len, length-range_with_len}
use Rattle.std.proofs.lemmas.List.Concat.{flat_map-append}
use Rattle.pm_lines.specs.Lemmas.Writing.{flat_map-at}

-- those before one of them, this one, and those after it
pub numbered-at : (f : ℕ → List ℕ) (n i : ℕ) → i < n
    → flat_map f (range_with_len 0 n) ≡ flat_map f (take i (range_with_len 0 n)) ++ (f i ++ flat_map f (drop (i + 1) (range_with_len 0 n)))
numbered-at f n i within =
    let xs = range_with_len 0 n in
    let here : get_or xs i 0 ≡ i = get_or-range_with_len 0 n i 0 within ∙ zero-add i in
    flat_map-at f xs i 0 (omega (arith, length-range_with_len 0 n))
    ∙ ap (λ k. flat_map f (take i xs) ++ (f k ++ flat_map f (drop (i + 1) xs))) here

-- one of them more
pub numbered-more : (f : ℕ → List ℕ) (n i : ℕ) → i < n
    → flat_map f (take i (range_with_len 0 n)) ++ f i ≡ flat_map f (take (i + 1) (range_with_len 0 n))
numbered-more f n i within =
    let xs = range_with_len 0 n in
    let here : get_or xs i 0 ≡ i = get_or-range_with_len 0 n i 0 within ∙ zero-add i in
    let more : take (i + 1) xs ≡ take i xs ++ get_or xs i 0 ∷ [] = take_more xs i 0 (omega (arith, length-range_with_len 0 n)) in
    sym (ap (flat_map f) more ∙ flat_map-append f (take i xs) (get_or xs i 0 ∷ [])
    ∙ ap (λ l. flat_map f (take i xs) ++ l) (append-nil (f (get_or xs i 0)))
    ∙ ap (λ k. flat_map f (take i xs) ++ f k) here)

-- all of them
pub numbered-all : (f : ℕ → List ℕ) (n i : ℕ) → n ≤ i → flat_map f (take i (range_with_len 0 n)) ≡ flat_map f (range_with_len 0 n)
numbered-all f n i past = ap (flat_map f) (take_all i (range_with_len 0 n) (omega (arith, length-range_with_len 0 n)))
