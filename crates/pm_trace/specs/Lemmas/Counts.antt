-- Codes and how often each was carried: what an insert into the map makes of them.
use Rattle.std.proofs.Common.{◌≡◌, ◌∙◌, ℕ, zero, suc, ◌+◌, ◌≤◌, eqb, Bool, true, false, List, [], ◌∷◌, Option, None, Some, position, refl, sym, ap, subst, arith}
use Rattle.std.specs.Prelude.{unwrap_or, nat_eq, option_map, slice_get}
use Rattle.std.specs.Map.{lookup, keys_of, values_of}
use Rattle.std.specs.List.{IsDistinct}
use Rattle.std.specs.Cmp.{nat_eq_equiv}
use Rattle.indexmap.proofs.RemoveLemmas.{own_first}
use Rattle.indexmap.specs.IndexMap.{insert_entry, set_value_at}
use Rattle.indexmap.proofs.MapLemmas.{Found-position, index-first, insert_entry-first}
use Rattle.pm_trace.specs.Counts.{one_more, has_code, total_of}

-- an insert of one more than the number that was found
pub one_more_is : (es : List (ℕ × ℕ)) (code : ℕ)
    → insert_entry nat_eq es code (unwrap_or (lookup (nat_eq code) es) 0 + 1) ≡ one_more es code
one_more_is [] code = refl
one_more_is (e ∷ es) code = by (eqb code e.0) refl (one_more_is es code)
  where
    by : (b : Bool) → eqb code e.0 ≡ b
        → insert_entry nat_eq es code (unwrap_or (lookup (nat_eq code) es) 0 + 1) ≡ one_more es code
        → insert_entry nat_eq (e ∷ es) code (unwrap_or (lookup (nat_eq code) (e ∷ es)) 0 + 1) ≡ one_more (e ∷ es) code
    by true is rest = rw is refl
    by false is rest = rw is (ap (λ l. e ∷ l) rest)

-- an insert of a code that isn't found
pub new_is : (es : List (ℕ × ℕ)) (code : ℕ) → lookup (nat_eq code) es ≡ None
    → insert_entry nat_eq es code 1 ≡ one_more es code
new_is es code none = ap (λ found. insert_entry nat_eq es code (unwrap_or found 0 + 1)) (sym none) ∙ one_more_is es code

-- the number at the place of a code that was found, and one more
pub placed_is : (es : List (ℕ × ℕ)) (code place count : ℕ) → position (nat_eq code) (keys_of es) ≡ Some place
    → lookup (nat_eq code) es ≡ Some count → set_value_at es place (count + 1) ≡ one_more es code
placed_is es code place count at found =
    sym (insert_entry-first nat_eq code (count + 1) es place (Found-position (nat_eq code) es place at).first)
    ∙ ap (λ number. insert_entry nat_eq es code (unwrap_or number 0 + 1)) (sym found) ∙ one_more_is es code

-- the count of a code that stands at the place that is looked at, since none stands at two
pub count_at_place : (es : List (ℕ × ℕ)) (code place count : ℕ) → IsDistinct nat_eq (keys_of es)
    → option_map (λ e. e.0) (slice_get es place) ≡ Some code → slice_get (values_of es) place ≡ Some count
    → set_value_at es place (count + 1) ≡ one_more es code
count_at_place es code place count distinct key value = by (slice_get es place) refl
  where
    by : (found : Option (ℕ × ℕ)) → slice_get es place ≡ found → set_value_at es place (count + 1) ≡ one_more es code
    by None is = let none : Some code ≡ None = sym key ∙ ap (option_map (λ e. e.0)) is in absurd (cc)
    by (Some e) is =
        let same : Some e.0 ≡ Some code = sym (ap (option_map (λ e. e.0)) is) ∙ key in
        let own = own_first nat_eq nat_eq_equiv es place e.0 e.1 distinct is in
        let at : position (nat_eq code) (keys_of es) ≡ Some place =
        subst (λ k. position (nat_eq k) (keys_of es) ≡ Some place) (cc) (index-first (nat_eq e.0) es place own) in
        placed_is es code place count at ((Found-position (nat_eq code) es place at).value ∙ value)

-- a number that was found is no more than all of them
pub found_bound : (es : List (ℕ × ℕ)) (code count : ℕ) → lookup (nat_eq code) es ≡ Some count → count ≤ total_of es
found_bound es code count found = omega (arith, ap (λ number. unwrap_or number 0) found, most es code)
  where
    most : (es : List (ℕ × ℕ)) (code : ℕ) → unwrap_or (lookup (nat_eq code) es) 0 ≤ total_of es
    most [] code = omega arith
    most (e ∷ es) code = by (eqb code e.0) refl (most es code)
      where
        by : (b : Bool) → eqb code e.0 ≡ b → unwrap_or (lookup (nat_eq code) es) 0 ≤ total_of es
            → unwrap_or (lookup (nat_eq code) (e ∷ es)) 0 ≤ total_of (e ∷ es)
        by true is rest = rw is (omega arith)
        by false is rest = rw is (omega (arith, rest))

-- no number at a place is more than the total
pub place_bound : (es : List (ℕ × ℕ)) (place count : ℕ) → slice_get (values_of es) place ≡ Some count → count ≤ total_of es
place_bound [] zero count is = absurd (cc)
place_bound [] (suc place) count is = absurd (cc)
place_bound (e ∷ es) zero count is = let same : e.1 ≡ count = cc in omega (arith, same)
place_bound (e ∷ es) (suc place) count is = omega (arith, place_bound es place count is)

-- one more
-- Stands for `ok` of `count_code`.
pub total_one_more : (es : List (ℕ × ℕ)) (code : ℕ) → total_of (one_more es code) ≡ total_of es + 1
total_one_more [] code = refl
total_one_more (e ∷ es) code = by (eqb code e.0) refl (total_one_more es code)
  where
    by : (b : Bool) → eqb code e.0 ≡ b → total_of (one_more es code) ≡ total_of es + 1
        → total_of (one_more (e ∷ es) code) ≡ total_of (e ∷ es) + 1
    by true is rest = rw is (omega arith)
    by false is rest = rw is (omega (arith, rest))

-- a code that isn't found wasn't counted
pub absent_code : (es : List (ℕ × ℕ)) (code : ℕ) → lookup (nat_eq code) es ≡ None → has_code es code ≡ false
absent_code [] code none = refl
absent_code (e ∷ es) code none = by (eqb code e.0) refl (absent_code es code)
  where
    by : (b : Bool) → eqb code e.0 ≡ b → (lookup (nat_eq code) es ≡ None → has_code es code ≡ false) → has_code (e ∷ es) code ≡ false
    by true is rest = let found = rw is at none in absurd (cc)
    by false is rest = rw is (rest (rw is at none))
