-- The farthest of several words lies at least as far out as each of them, and is one of them.
use Rattle.std.specs.Prelude.{◌≡◌, ℕ, ◌<◌, ◌==◌, Bool, true, false, cond, ◌||◌, List, [], ◌∷◌, refl}
use Rattle.std.proofs.Common.{arith, subst}
use Rattle.std.proofs.lemmas.Bool.Decides.{nat_tests}
use Rattle.pm_num.specs.Ratio.{Ratio}
use Rattle.pm_host.specs.Possible.{is_listed}
use Rattle.pm_limits.specs.declared.ends.Side.{Side}
use Rattle.pm_limits.specs.declared.ends.Side.TheVariants.{Lowest, Highest}
use Rattle.pm_limits.specs.Ends.{Reaches, farther, farthest, farthest_of, is_farther}
use Rattle.pm_num.specs.Lemmas.Order.{above-at-most, at-most, same}
use Rattle.pm_num.specs.Lemmas.Over.{at_most-trans}

-- the values of a list of words have positive denominators
abbrev pub HaveDens : (ℕ → Ratio) → List ℕ → Type 0
HaveDens value [] = Unit {0}
HaveDens value (word ∷ words) = (0 < (value word).den) × HaveDens value words

-- a value reaches as far as itself
pub reaches-same : (side : Side) (p : Ratio) → Reaches side p p
reaches-same Lowest p = same p
reaches-same Highest p = same p

-- A value reaches as far as another that is reached by one that it reaches.
pub reaches-through : (side : Side) (p q r : Ratio) → 0 < q.den → Reaches side p q → Reaches side q r → Reaches side p r
reaches-through Lowest p q r positive pq qr = at_most-trans p q r positive pq qr
reaches-through Highest p q r positive pq qr = at_most-trans r q p positive qr pq

-- The farther of two values reaches as far as the other.
reaches-farther : (side : Side) (p q : Ratio) → is_farther side p q ≡ true → Reaches side q p
reaches-farther Lowest p q h = above-at-most p q h
reaches-farther Highest p q h = above-at-most q p h

-- a value reaches as far as another that doesn't lie farther out
reaches-not : (side : Side) (p q : Ratio) → is_farther side p q ≡ false → Reaches side p q
reaches-not Lowest p q h = at-most p q h
reaches-not Highest p q h = at-most q p h

-- The farther of two words reaches as far as the first.
farther-first : (side : Side) (value : ℕ → Ratio) (word other : ℕ) →
    Reaches side (value (farther side value word other)) (value word)
farther-first side value word other = go (is_farther side (value word) (value other)) refl where
  go : (b : Bool) → is_farther side (value word) (value other) ≡ b → Reaches side (value (cond b other word)) (value word)
  go true h = reaches-farther side (value word) (value other) h
  go false h = reaches-same side (value word)

-- the farther of two words reaches as far as the second
farther-second : (side : Side) (value : ℕ → Ratio) (word other : ℕ) →
    Reaches side (value (farther side value word other)) (value other)
farther-second side value word other = go (is_farther side (value word) (value other)) refl where
  go : (b : Bool) → is_farther side (value word) (value other) ≡ b → Reaches side (value (cond b other word)) (value other)
  go true h = reaches-same side (value other)
  go false h = reaches-not side (value word) (value other) h

-- the value of the farther of two words has a positive denominator where the values of both have
farther-den : (side : Side) (value : ℕ → Ratio) (word other : ℕ) → 0 < (value word).den → 0 < (value other).den →
    0 < (value (farther side value word other)).den
farther-den side value word other h k = go (is_farther side (value word) (value other)) where
  go : (b : Bool) → 0 < (value (cond b other word)).den
  go true = k
  go false = h

-- The farthest of a word and others reaches as far as the word.
farthest-first : (side : Side) (value : ℕ → Ratio) (word : ℕ) (words : List ℕ) → 0 < (value word).den → HaveDens value words →
    Reaches side (value (farthest side value word words)) (value word)
farthest-first side value word [] h dens = reaches-same side (value word)
farthest-first side value word (other ∷ words) h (d, dens) =
    let next = farther side value word other in
    let positive = farther-den side value word other h d in
    reaches-through side (value (farthest side value next words)) (value next) (value word) positive
    (farthest-first side value next words positive dens) (farther-first side value word other)

-- the value of the farthest of a word and others has a positive denominator where the values of all have
farthest-den : (side : Side) (value : ℕ → Ratio) (word : ℕ) (words : List ℕ) → 0 < (value word).den → HaveDens value words →
    0 < (value (farthest side value word words)).den
farthest-den side value word [] h dens = h
farthest-den side value word (other ∷ words) h (d, dens) =
    farthest-den side value (farther side value word other) words (farther-den side value word other h d) dens

-- the farthest of a word and others reaches as far as each of the others
farthest-others : (side : Side) (value : ℕ → Ratio) (word : ℕ) (words : List ℕ) (listed : ℕ) → 0 < (value word).den →
    HaveDens value words → is_listed listed words ≡ true →
    Reaches side (value (farthest side value word words)) (value listed)
farthest-others side value word [] listed h dens is = absurd (let bad : false ≡ true = is in (cc))
farthest-others side value word (other ∷ words) listed h (d, dens) is =
    let next = farther side value word other in
    let positive = farther-den side value word other h d in
    go positive (farthest-others side value next words listed positive dens) (other == listed) refl is
  where
    go : 0 < (value (farther side value word other)).den →
        (is_listed listed words ≡ true → Reaches side (value (farthest side value (farther side value word other) words)) (value listed)) →
        (b : Bool) → (other == listed) ≡ b →
        (b || is_listed listed words) ≡ true →
        Reaches side (value (farthest side value (farther side value word other) words)) (value listed)
    go positive later true e is' =
        let it : other ≡ listed = grind (arith, nat_tests) in
        reaches-through side (value (farthest side value (farther side value word other) words))
        (value (farther side value word other)) (value listed) positive
        (farthest-first side value (farther side value word other) words positive dens)
        (subst (λ w. Reaches side (value (farther side value word other)) (value w)) it (farther-second side value word other))
    go positive later false e is' = later is'

-- The farthest of a list of words reaches as far as each that is listed.
pub farthest_of-listed : (side : Side) (value : ℕ → Ratio) (words : List ℕ) (listed : ℕ) → HaveDens value words →
    is_listed listed words ≡ true → Reaches side (value (farthest_of side value words)) (value listed)
farthest_of-listed side value [] listed dens is = absurd (let bad : false ≡ true = is in (cc))
farthest_of-listed side value (word ∷ words) listed (d, dens) is = go (word == listed) refl is where
  go : (b : Bool) → (word == listed) ≡ b → (b || is_listed listed words) ≡ true →
      Reaches side (value (farthest side value word words)) (value listed)
  go true e is' =
      let it : word ≡ listed = grind (arith, nat_tests) in
      subst (λ w. Reaches side (value (farthest side value word words)) (value w)) it (farthest-first side value word words d dens)
  go false e is' = farthest-others side value word words listed d dens is'

-- the value of the farthest word has a positive denominator if the listed words' have one and some word is listed
pub farthest_of-den : (side : Side) (value : ℕ → Ratio) (words : List ℕ) (listed : ℕ) → HaveDens value words →
    is_listed listed words ≡ true → 0 < (value (farthest_of side value words)).den
farthest_of-den side value [] listed dens is = absurd (let bad : false ≡ true = is in (cc))
farthest_of-den side value (word ∷ words) listed (d, dens) is = farthest-den side value word words d dens

-- A word that is listed still is with another word in the second place.
listed-again : (a b listed : ℕ) (words : List ℕ) → is_listed listed (a ∷ words) ≡ true → is_listed listed (a ∷ b ∷ words) ≡ true
listed-again a b listed words is = go (a == listed) (b == listed) (is_listed listed words) is where
  go : (p q r : Bool) → (p || r) ≡ true → (p || (q || r)) ≡ true
  go true q r h = refl
  go false true r h = refl
  go false false r h = h

-- a word that is listed still is with another word in front of the list
listed-later : (a listed : ℕ) (words : List ℕ) → is_listed listed words ≡ true → is_listed listed (a ∷ words) ≡ true
listed-later a listed words is = go (a == listed) (is_listed listed words) is where
  go : (p r : Bool) → r ≡ true → (p || r) ≡ true
  go true r h = refl
  go false r h = h

-- the farthest of a word and others is that word or one of the others
farthest-is : (side : Side) (value : ℕ → Ratio) (word : ℕ) (words : List ℕ) →
    is_listed (farthest side value word words) (word ∷ words) ≡ true
farthest-is side value word [] = grind (arith, nat_tests)
farthest-is side value word (other ∷ words) =
    go (farthest-is side value other words) (farthest-is side value word words) (is_farther side (value word) (value other))
  where
    go : is_listed (farthest side value other words) (other ∷ words) ≡ true →
        is_listed (farthest side value word words) (word ∷ words) ≡ true → (b : Bool) →
        is_listed (farthest side value (cond b other word) words) (word ∷ other ∷ words) ≡ true
    go second first true = listed-later word (farthest side value other words) (other ∷ words) second
    go second first false = listed-again word other (farthest side value word words) words first

-- the farthest word of a list that has any stands in the list
pub farthest_of-is : (side : Side) (value : ℕ → Ratio) (word : ℕ) (words : List ℕ) →
    is_listed (farthest_of side value (word ∷ words)) (word ∷ words) ≡ true
farthest_of-is = farthest-is
