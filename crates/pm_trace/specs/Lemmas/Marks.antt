-- A list that is cut at its marks, with one byte more at its end.
use Rattle.std.proofs.Common.{◌≡◌, ℕ, ◌<◌, Bool, true, false, cond, List, [], ◌∷◌, ◌++◌, length, refl, ap, ◌∙◌, arith, ◌||◌}
use Rattle.std.specs.List.{list_any, slice_split, onto_first}
use Rattle.std.proofs.Math.Bool.{or-true, or-false}
use Rattle.std.proofs.lemmas.List.Folds.{list_any-append}
use Rattle.pm_trace.specs.Marks.{onto_next, ended_pieces, since, before, after_first_mark}

-- ---- no mark

-- without a mark no piece ends
pub ended_none : (mark : ℕ → Bool) (xs : List ℕ) → list_any mark xs ≡ false → ended_pieces mark xs ≡ []
ended_none mark [] none = refl
ended_none mark (x ∷ xs) none = by (mark x) refl (ended_none mark xs)
  where
    by : (b : Bool) → mark x ≡ b → (list_any mark xs ≡ false → ended_pieces mark xs ≡ []) → ended_pieces mark (x ∷ xs) ≡ []
    by true is rest = let marked = rw is at none in absurd (cc)
    by false is rest = rw (is, rest (rw is at none)) refl

-- without a mark all stands since the last one
pub since_none : (mark : ℕ → Bool) (xs : List ℕ) → list_any mark xs ≡ false → since mark xs ≡ xs
since_none mark [] none = refl
since_none mark (x ∷ xs) none = rw none refl

-- without a mark all stands before the first one
pub before_none : (mark : ℕ → Bool) (xs : List ℕ) → list_any mark xs ≡ false → before mark xs ≡ xs
before_none mark [] none = refl
before_none mark (x ∷ xs) none = by (mark x) refl (before_none mark xs)
  where
    by : (b : Bool) → mark x ≡ b → (list_any mark xs ≡ false → before mark xs ≡ xs) → before mark (x ∷ xs) ≡ x ∷ xs
    by true is rest = let marked = rw is at none in absurd (cc)
    by false is rest = rw is (ap (λ l. x ∷ l) (rest (rw is at none)))

-- without a mark nothing follows the first one
pub after_none : (mark : ℕ → Bool) (xs : List ℕ) → list_any mark xs ≡ false → after_first_mark mark xs ≡ []
after_none mark [] none = refl
after_none mark (x ∷ xs) none = by (mark x) refl (after_none mark xs)
  where
    by : (b : Bool) → mark x ≡ b → (list_any mark xs ≡ false → after_first_mark mark xs ≡ []) → after_first_mark mark (x ∷ xs) ≡ []
    by true is rest = let marked = rw is at none in absurd (cc)
    by false is rest = rw is (rest (rw is at none))

-- ---- the pieces

-- a mark makes a piece
some_ended : (mark : ℕ → Bool) (xs : List ℕ) → list_any mark xs ≡ true → 0 < length (ended_pieces mark xs)
some_ended mark [] some = absurd (cc)
some_ended mark (x ∷ xs) some = by (mark x) refl (some_ended mark xs)
  where
    onto_some : (ls : List (List ℕ)) → 0 < length ls → 0 < length (onto_next x ls)
    onto_some [] few = absurd (omega arith)
    onto_some (l ∷ ls) few = omega arith

    by : (b : Bool) → mark x ≡ b → (list_any mark xs ≡ true → 0 < length (ended_pieces mark xs)) → 0 < length (ended_pieces mark (x ∷ xs))
    by true is rest = rw is (omega arith)
    by false is rest = rw is (onto_some (ended_pieces mark xs) (rest (rw is at some)))

-- the first piece is that of the front
onto_next-append : (x : ℕ) (ls ms : List (List ℕ)) → 0 < length ls → onto_next x (ls ++ ms) ≡ onto_next x ls ++ ms
onto_next-append x [] ms some = absurd (omega arith)
onto_next-append x (l ∷ ls) ms some = refl

-- one byte before the pieces and what stands since the last mark
onto_last : (mark : ℕ → Bool) (x : ℕ) (xs : List ℕ) → mark x ≡ false
    → onto_next x (ended_pieces mark xs ++ since mark xs ∷ []) ≡ onto_next x (ended_pieces mark xs)
    ++ cond (list_any mark xs) (since mark xs)
    (x ∷ xs) ∷ []
onto_last mark x xs other = by (list_any mark xs) refl
  where
    by : (b : Bool) → list_any mark xs ≡ b
        → onto_next x (ended_pieces mark xs ++ since mark xs ∷ []) ≡ onto_next x (ended_pieces mark xs)
        ++ cond (list_any mark xs) (since mark xs)
        (x ∷ xs) ∷ []
    by true some = rw some (onto_next-append x (ended_pieces mark xs) (since mark xs ∷ []) (some_ended mark xs some))
    by false none = rw (none, ended_none mark xs none, since_none mark xs none) refl

-- a mark ends a piece
-- Stands for `stops` of `OpenLine::take_line`.
pub ended-mark : (mark : ℕ → Bool) (xs : List ℕ) (b : ℕ) → mark b ≡ true → ended_pieces mark (xs ++ b ∷ []) ≡ ended_pieces mark xs
    ++ since mark xs ∷ []
ended-mark mark [] b is = rw is refl
ended-mark mark (x ∷ xs) b is = by (mark x) refl (ended-mark mark xs b is)
  where
    by : (c : Bool) → mark x ≡ c → ended_pieces mark (xs ++ b ∷ []) ≡ ended_pieces mark xs ++ since mark xs ∷ []
        → ended_pieces mark ((x ∷ xs) ++ b ∷ []) ≡ ended_pieces mark (x ∷ xs) ++ since mark (x ∷ xs) ∷ []
    by true marked rest = rw (marked, rest) refl
    by false other rest = rw (other, rest) (onto_last mark x xs other)

-- another byte ends none
-- Stands for `stops` of `OpenLine::take_line`.
pub ended-other : (mark : ℕ → Bool) (xs : List ℕ) (b : ℕ) → mark b ≡ false → ended_pieces mark (xs ++ b ∷ []) ≡ ended_pieces mark xs
ended-other mark [] b other = rw other refl
ended-other mark (x ∷ xs) b other = rw (ended-other mark xs b other) refl

-- nothing stands after a mark yet
-- Stands for `stops` of `OpenLine::take_line`.
pub since-mark : (mark : ℕ → Bool) (xs : List ℕ) (b : ℕ) → mark b ≡ true → since mark (xs ++ b ∷ []) ≡ []
since-mark mark [] b is = rw is refl
since-mark mark (x ∷ xs) b is = rw (list_any-append mark xs (b ∷ []), is, or-true (list_any mark xs), or-true (mark x))
    (since-mark mark xs b is)

-- another byte goes on
-- Stands for `stops` of `OpenLine::take_line`.
pub since-other : (mark : ℕ → Bool) (xs : List ℕ) (b : ℕ) → mark b ≡ false → since mark (xs ++ b ∷ []) ≡ since mark xs ++ b ∷ []
since-other mark [] b other = rw other refl
since-other mark (x ∷ xs) b other =
    let same : list_any mark (xs ++ b ∷ []) ≡ list_any mark xs = list_any-append mark xs (b ∷ [])
    ∙ rw other (or-false (list_any mark xs)) in
    rw same (by (mark x || list_any mark xs) (since-other mark xs b other))
  where
    by : (c : Bool) → since mark (xs ++ b ∷ []) ≡ since mark xs ++ b ∷ []
        → cond c (since mark (xs ++ b ∷ [])) (x ∷ (xs ++ b ∷ [])) ≡ cond c (since mark xs) (x ∷ xs) ++ b ∷ []
    by true rest = rest
    by false rest = refl

-- cut at the marks: the pieces that end, and what stands since
pub split-ended : (mark : ℕ → Bool) (xs : List ℕ) → slice_split mark xs ≡ ended_pieces mark xs ++ since mark xs ∷ []
split-ended mark [] = refl
split-ended mark (x ∷ xs) = by (mark x) refl (split-ended mark xs)
  where
    first_next : (ls : List (List ℕ)) (l : List ℕ) → onto_first x (ls ++ l ∷ []) ≡ onto_next x (ls ++ l ∷ [])
    first_next [] l = refl
    first_next (m ∷ ms) l = refl

    by : (c : Bool) → mark x ≡ c → slice_split mark xs ≡ ended_pieces mark xs ++ since mark xs ∷ []
        → slice_split mark (x ∷ xs) ≡ ended_pieces mark (x ∷ xs) ++ since mark (x ∷ xs) ∷ []
    by true marked rest = rw (marked, rest) refl
    by false other rest = rw (other, rest) (first_next (ended_pieces mark xs) (since mark xs) ∙ onto_last mark x xs other)

-- ---- before and after the first mark

-- a mark in the front comes first
pub before-marked : (mark : ℕ → Bool) (xs ys : List ℕ) → list_any mark xs ≡ true → before mark (xs ++ ys) ≡ before mark xs
before-marked mark [] ys some = absurd (cc)
before-marked mark (x ∷ xs) ys some = by (mark x) refl (before-marked mark xs ys)
  where
    by : (c : Bool) → mark x ≡ c → (list_any mark xs ≡ true → before mark (xs ++ ys) ≡ before mark xs)
        → before mark ((x ∷ xs) ++ ys) ≡ before mark (x ∷ xs)
    by true is rest = rw is refl
    by false is rest = rw is (ap (λ l. x ∷ l) (rest (rw is at some)))

-- what stands before a mark of the rest
pub before-unmarked : (mark : ℕ → Bool) (xs ys : List ℕ) → list_any mark xs ≡ false → before mark (xs ++ ys) ≡ xs ++ before mark ys
before-unmarked mark [] ys none = refl
before-unmarked mark (x ∷ xs) ys none = by (mark x) refl (before-unmarked mark xs ys)
  where
    by : (c : Bool) → mark x ≡ c → (list_any mark xs ≡ false → before mark (xs ++ ys) ≡ xs ++ before mark ys)
        → before mark ((x ∷ xs) ++ ys) ≡ (x ∷ xs) ++ before mark ys
    by true is rest = let marked = rw is at none in absurd (cc)
    by false is rest = rw is (ap (λ l. x ∷ l) (rest (rw is at none)))

-- what follows a mark of the front
pub after-marked : (mark : ℕ → Bool) (xs ys : List ℕ) → list_any mark xs ≡ true → after_first_mark mark (xs ++ ys)
    ≡ after_first_mark mark xs ++ ys
after-marked mark [] ys some = absurd (cc)
after-marked mark (x ∷ xs) ys some = by (mark x) refl (after-marked mark xs ys)
  where
    by : (c : Bool) → mark x ≡ c → (list_any mark xs ≡ true → after_first_mark mark (xs ++ ys) ≡ after_first_mark mark xs ++ ys)
        → after_first_mark mark ((x ∷ xs) ++ ys) ≡ after_first_mark mark (x ∷ xs) ++ ys
    by true is rest = rw is refl
    by false is rest = rw is (rest (rw is at some))

-- nothing follows a mark that comes last
pub after-unmarked : (mark : ℕ → Bool) (xs : List ℕ) (b : ℕ) → list_any mark xs ≡ false → after_first_mark mark (xs ++ b ∷ []) ≡ []
after-unmarked mark [] b none = by (mark b) []
  where
    by : (c : Bool) (l : List ℕ) → cond c l l ≡ l
    by true l = refl
    by false l = refl
after-unmarked mark (x ∷ xs) b none = by (mark x) refl (after-unmarked mark xs b)
  where
    by : (c : Bool) → mark x ≡ c → (list_any mark xs ≡ false → after_first_mark mark (xs ++ b ∷ []) ≡ []) →
        after_first_mark mark ((x ∷ xs) ++ b ∷ []) ≡ []
    by true is rest = let marked = rw is at none in absurd (cc)
    by false is rest = rw is (rest (rw is at none))
