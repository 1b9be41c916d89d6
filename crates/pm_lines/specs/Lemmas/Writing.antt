-- What a writer got in several calls, of which one failed.
use Rattle.std.proofs.Common.{◌≡◌, ◌∙◌, ◌+◌, ◌<◌, ℕ, List, ◌++◌, length, take, drop, get_or, Option, Result, Ok, Err, OnErr, sym, ap}
use Rattle.std.proofs.Common.{append_assoc, take-append-drop, arith, length-append}
use Rattle.std.specs.List.{flat_map}
use Rattle.std.specs.Io.KnownBytes.{Appends}
use Rattle.std.proofs.KnownBytes.{Appends-trans}
use Rattle.std.proofs.lemmas.List.{drop_more}
use Rattle.std.proofs.lemmas.List.Concat.{flat_map-append}
use Rattle.pm_lines.specs.Streams.{AppendsFront}

-- a prefix of a later part was written after what was written before
pub record IsLater (a b c : Option (List ℕ)) (before part later all : List ℕ) : Type 0 where
  pub written : Appends a b before
  pub short : AppendsFront b c part
  pub parts : all ≡ before ++ (part ++ later)

-- a prefix of the whole was written if a prefix of a later part was
pub AppendsFront-later : (a b c : Option (List ℕ)) (before part later all : List ℕ) → IsLater a b c before part later all
    → AppendsFront a c all
AppendsFront-later a b c before part later all is =
    let (front, rest, split, some, appended) = is.short in
    let whole : all ≡ (before ++ front) ++ (rest ++ later) =
    is.parts ∙ ap (λ p. before ++ (p ++ later)) split ∙ ap (λ q. before ++ q) (append_assoc front rest later)
    ∙ sym (append_assoc before front (rest ++ later)) in
    (before ++ front, rest ++ later, whole, omega (arith, length-append rest later), Appends-trans a b c before front is.written appended)

-- a prefix of the first of two parts
pub AppendsFront-first : (old new : Option (List ℕ)) (part later : List ℕ) → AppendsFront old new part
    → AppendsFront old new (part ++ later)
AppendsFront-first old new part later short =
    let (front, rest, split, some, appended) = short in
    (front, rest ++ later, ap (λ p. p ++ later) split ∙ append_assoc front rest later, omega (arith, length-append rest later), appended)

-- pieces one after another, at one of them
pub flat_map-at : {X : Type 0} (f : X → List ℕ) (xs : List X) (i : ℕ) (d : X) → i < length xs
    → flat_map f xs ≡ flat_map f (take i xs) ++ (f (get_or xs i d) ++ flat_map f (drop (i + 1) xs))
flat_map-at f xs i d within =
    ap (flat_map f) (sym (take-append-drop i xs)) ∙ flat_map-append f (take i xs) (drop i xs)
    ∙ ap (λ ys. flat_map f (take i xs) ++ flat_map f ys) (drop_more xs i d within)

-- a fact, of a result that is a fault
pub on_err : {T E : Type 0} (r : Result T E) (P : Type 0) → P → OnErr r P
on_err (Ok x) P p = tt
on_err (Err e) P p = p
