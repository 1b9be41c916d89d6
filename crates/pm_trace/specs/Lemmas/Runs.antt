-- How bytes are taken one after another where some of them are marks. A decoder's `feed` and a capture's `take` rest on
-- these, whose marks are line feeds.
use Rattle.std.proofs.Common.{◌≡◌, ◌∙◌, ℕ, Bool, true, false, cond, List, [], ◌∷◌, ◌++◌, refl, sym, ap, append_assoc}
use Rattle.std.specs.List.{fold, list_any}
use Rattle.pm_trace.specs.Marks.{told_at_marks}

module _ {K A : Type 0} (mark : ℕ → Bool) (takes : K → ℕ → K) (tells : K → List A) where
  -- bytes without a mark tell nothing
  pub told-unmarked : (kept : K) (bytes : List ℕ) → list_any mark bytes ≡ false → told_at_marks mark takes tells kept bytes ≡ []
  told-unmarked kept [] none = refl
  told-unmarked kept (x ∷ xs) none = by (mark x) refl (told-unmarked (takes kept x) xs)
    where
      by : (b : Bool) → mark x ≡ b → (list_any mark xs ≡ false → told_at_marks mark takes tells (takes kept x) xs ≡ [])
          → told_at_marks mark takes tells kept (x ∷ xs) ≡ []
      by true is rest = let marked = rw is at none in absurd (cc)
      by false is rest = rw is (rest (rw is at none))

  -- what bytes and further ones tell is what the first tell, and what the others tell after these
  pub told-append : (kept : K) (xs ys : List ℕ) → told_at_marks mark takes tells kept (xs ++ ys)
      ≡ told_at_marks mark takes tells kept xs ++ told_at_marks mark takes tells (fold takes kept xs) ys
  told-append kept [] ys = refl
  told-append kept (x ∷ xs) ys =
      ap (λ l. cond (mark x) (tells kept) [] ++ l) (told-append (takes kept x) xs ys)
      ∙ sym (append_assoc (cond (mark x) (tells kept) []) (told_at_marks mark takes tells (takes kept x) xs)
      (told_at_marks mark takes tells (fold takes (takes kept x) xs) ys))

-- if each byte that is no mark is taken as `with` says, all of them are
pub taken-unmarked : {K : Type 0} (mark : ℕ → Bool) (takes : K → ℕ → K) (with : K → List ℕ → K) → ((kept : K) → kept ≡ with kept [])
    → ((kept : K) (x : ℕ) (xs : List ℕ) → mark x ≡ false → with (takes kept x) xs ≡ with kept (x ∷ xs))
    → (kept : K) (bytes : List ℕ) → list_any mark bytes ≡ false → fold takes kept bytes ≡ with kept bytes
taken-unmarked mark takes with none more kept [] unmarked = none kept
taken-unmarked mark takes with none more kept (x ∷ xs) unmarked = by (mark x) refl (taken-unmarked mark takes with none more (takes kept x) xs)
  where
    by : (b : Bool) → mark x ≡ b → (list_any mark xs ≡ false → fold takes (takes kept x) xs ≡ with (takes kept x) xs)
        → fold takes kept (x ∷ xs) ≡ with kept (x ∷ xs)
    by true is rest = let marked = rw is at unmarked in absurd (cc)
    by false is rest = rest (rw is at unmarked) ∙ more kept x xs is
