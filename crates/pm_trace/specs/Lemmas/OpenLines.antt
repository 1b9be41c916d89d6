-- What is kept of a line with its carriage return, with one byte more at its end.
use Rattle.std.proofs.Common.{◌≡◌, ℕ, ◌-◌, eqb, Bool, true, false, cond, List, [], ◌∷◌, ◌++◌, length, take, drop, refl, sym, ap, subst}
use Rattle.std.proofs.Common.{◌∙◌, arith, length-append, eq-eqb, ne_eqb}
use Rattle.std.specs.Prelude.{nat_eq}
use Rattle.std.specs.List.{ends_with}
use Rattle.std.proofs.Math.Bool.{and-true}
use lib.Pointwise.{pointwise}
use Rattle.std.proofs.lemmas.Bool.Decides.{nat_tests}
use Rattle.std.proofs.Math.Seq.{drop-append_seam, take-append_seam}
use Rattle.pm_lines.specs.Lines.{without_return, carriage_return}
use Rattle.pm_trace.specs.OpenLines.{plain_line, plain_takes, open_line_of, line_takes, with_return}
use Rattle.pm_trace.specs.declared.decoder.open_line.OpenLine.{OpenLine}
use Rattle.pm_trace.specs.Lemmas.PlainLines.{plain_line-snoc}

-- a list that isn't empty has a last byte
pub record HasLast (xs : List ℕ) : Type 0 where
  pub front : List ℕ
  pub last : ℕ
  pub is : xs ≡ front ++ last ∷ []

-- a list with an element has a last one
-- Stands for the clause of `OpenLine::take`.
pub has_last : (x : ℕ) (xs : List ℕ) → HasLast (x ∷ xs)
has_last x [] = record { front = []; last = x; is = refl }
has_last x (y ∷ ys) =
    let tail = has_last y ys in
    record { front = x ∷ tail.front; last = tail.last; is = ap (λ l. x ∷ l) tail.is }

-- one element more
one_less : (xs : List ℕ) (b : ℕ) → length (xs ++ b ∷ []) - 1 ≡ length xs
one_less xs b = omega (arith, length-append xs (b ∷ []))

-- equality in either order
-- Stands for the clause of `OpenLine::take`.
pub eqb_is_symmetric : (m n : ℕ) → eqb m n ≡ eqb n m
eqb_is_symmetric m n = by (eqb m n) refl
  where
    by : (c : Bool) → eqb m n ≡ c → eqb m n ≡ eqb n m
    by true is =
        let same : m ≡ n = grind (arith, nat_tests) in
        is ∙ sym (eq-eqb n m (sym same))
    by false other =
        is-not ∙ sym (ne_eqb n m (λ same. let yes : eqb m n ≡ true = eq-eqb m n (sym same) in absurd (cc)))
      where
        is-not : eqb m n ≡ false
        is-not = other

-- the last byte decides whether a carriage return ends the line
ends-snoc : (xs : List ℕ) (b : ℕ) → ends_with nat_eq (xs ++ b ∷ []) carriage_return ≡ eqb b 13
ends-snoc xs b =
    ap (λ n. pointwise nat_eq carriage_return (drop n (xs ++ b ∷ []))) (one_less xs b)
    ∙ ap (pointwise nat_eq carriage_return) (drop-append_seam xs (b ∷ []))
    ∙ and-true (eqb 13 b) ∙ eqb_is_symmetric 13 b

-- the line without a carriage return that comes last
-- Stands for the clause of `OpenLine::take`.
pub without_return-snoc : (xs : List ℕ) (b : ℕ) → without_return (xs ++ b ∷ []) ≡ cond (eqb b 13) xs (xs ++ b ∷ [])
without_return-snoc xs b =
    ap (λ c. cond c (take (length (xs ++ b ∷ []) - 1) (xs ++ b ∷ [])) (xs ++ b ∷ [])) (ends-snoc xs b)
    ∙ ap (λ l. cond (eqb b 13) l (xs ++ b ∷ [])) (ap (λ n. take n (xs ++ b ∷ [])) (one_less xs b) ∙ take-append_seam xs (b ∷ []))

-- a line with its carriage return held back, or without one
abbrev line_held_back : OpenLine → Bool → OpenLine
line_held_back line returned = record line { is_returned = returned }

-- a line with one byte more
line_snoc : (xs : List ℕ) (b : ℕ) → open_line_of (xs ++ b ∷ []) ≡ line_held_back (plain_line (cond (eqb b 13) xs (xs ++ b ∷ []))) (eqb b 13)
unfolding open_line_of
line_snoc xs b = λ i. line_held_back (plain_line (without_return-snoc xs b i)) (ends-snoc xs b i)

-- a plain line holds nothing back
unheld : (xs : List ℕ) → line_held_back (plain_line xs) false ≡ plain_line xs
unfolding plain_line
unheld xs = refl

-- the carriage return that is held back stands at the end
returned-snoc : (xs : List ℕ) (b : ℕ) → with_return (open_line_of (xs ++ b ∷ [])) ≡ plain_line (xs ++ b ∷ [])
returned-snoc xs b = ap with_return (line_snoc xs b) ∙ by (eqb b 13) refl
  where
    by : (c : Bool) → eqb b 13 ≡ c
        → with_return (line_held_back (plain_line (cond c xs (xs ++ b ∷ []))) c) ≡ plain_line (xs ++ b ∷ [])
    by true is =
        let same : b ≡ 13 = grind (arith, nat_tests) in
        ap (λ l. plain_takes l 13) (unheld xs) ∙ ap (plain_takes (plain_line xs)) (sym same) ∙ sym (plain_line-snoc xs b)
    by false other = unheld (xs ++ b ∷ [])

-- the line with the carriage return that was held back
returned : (xs : List ℕ) → with_return (open_line_of xs) ≡ plain_line xs
unfolding open_line_of
returned [] = unheld []
returned (x ∷ xs) =
    let last = has_last x xs in
    let P : List ℕ → Type 0 = λ l. with_return (open_line_of l) ≡ plain_line l in
    subst P (sym last.is) (returned-snoc last.front last.last)

-- one byte more, where the last one is a carriage return or not
line_took : (xs : List ℕ) (b : ℕ)
    → line_takes (open_line_of xs) b ≡ cond (eqb b 13) (line_held_back (plain_line xs) true) (plain_takes (plain_line xs) b)
unfolding line_takes
line_took xs b = ap (λ l. cond (eqb b 13) (line_held_back l true) (plain_takes l b)) (returned xs)

-- the law of the line: one byte more at its end is one step
-- Stands for the clause of `OpenLine::take`.
pub line_of-snoc : (xs : List ℕ) (b : ℕ) → open_line_of (xs ++ b ∷ []) ≡ line_takes (open_line_of xs) b
line_of-snoc xs b = line_snoc xs b ∙ by (eqb b 13) ∙ sym (line_took xs b)
  where
    by : (c : Bool) → line_held_back (plain_line (cond c xs (xs ++ b ∷ []))) c
        ≡ cond c (line_held_back (plain_line xs) true) (plain_takes (plain_line xs) b)
    by true = refl
    by false = unheld (xs ++ b ∷ []) ∙ plain_line-snoc xs b

-- a line without bytes holds nothing back
pub empty_line_is_plain : open_line_of [] ≡ plain_line []
unfolding open_line_of plain_line
empty_line_is_plain = refl
