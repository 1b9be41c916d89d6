-- A list that is cut at its marks: the pieces that end at a mark, and what stands since the last
-- mark; what stands before the first mark, and after it.
use Rattle.std.specs.Prelude.{ℕ, Bool, cond, List, [], ◌∷◌, ◌++◌}
use Rattle.std.specs.List.{list_any}

-- the first of the pieces begins with this byte
abbrev pub onto_next : ℕ → List (List ℕ) → List (List ℕ)
onto_next byte [] = []
onto_next byte (piece ∷ pieces) = (byte ∷ piece) ∷ pieces

-- the pieces that end at a mark, without the marks
abbrev pub ended_pieces : (ℕ → Bool) → List ℕ → List (List ℕ)
ended_pieces mark [] = []
ended_pieces mark (byte ∷ bytes) =
    cond (mark byte) ([] ∷ ended_pieces mark bytes) (onto_next byte (ended_pieces mark bytes))

-- what stands since the last mark: all, where there is none
abbrev pub since : (ℕ → Bool) → List ℕ → List ℕ
since mark [] = []
since mark (byte ∷ bytes) = cond (list_any mark (byte ∷ bytes)) (since mark bytes) (byte ∷ bytes)

-- what stands before the first mark: all, where there is none
abbrev pub before : (ℕ → Bool) → List ℕ → List ℕ
before mark [] = []
before mark (byte ∷ bytes) = cond (mark byte) [] (byte ∷ before mark bytes)

-- what stands after the first mark: nothing, where there is none
abbrev pub after_first_mark : (ℕ → Bool) → List ℕ → List ℕ
after_first_mark mark [] = []
after_first_mark mark (byte ∷ bytes) = cond (mark byte) bytes (after_first_mark mark bytes)

-- what is told of bytes that are taken one after another: at each mark what was kept before it tells
abbrev pub told_at_marks : {K A : Type 0} → (ℕ → Bool) → (K → ℕ → K) → (K → List A) → K → List ℕ → List A
told_at_marks mark takes tells kept [] = []
told_at_marks mark takes tells kept (byte ∷ bytes) =
    cond (mark byte) (tells kept) [] ++ told_at_marks mark takes tells (takes kept byte) bytes
