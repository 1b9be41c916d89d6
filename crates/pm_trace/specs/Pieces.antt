-- A decoder that is called again and again. This project's own choice.
use Rattle.std.specs.Prelude.{◌≡◌, ◌⊎◌, ℕ, Bool, List, [], ◌∷◌, ◌++◌, take, drop}
use Rattle.pm_lines.specs.declared.fault.TextFault.{TextFault}
use Rattle.pm_trace.specs.declared.fed.Fed.{Fed}
use Rattle.pm_trace.specs.Trace.{ToldLine}
use Rattle.pm_trace.specs.Decoding.{Holding, Fails, Feeds, Finishes, some_told}

-- a call of `feed` that isn't refused
pub record Call : Type 0 where
  pub piece : List ℕ
  pub fed : Fed

-- the bytes that it took
abbrev pub taken_in : Call → List ℕ
taken_in call = take call.fed.taken call.piece

-- calls one after another, with the lines that were shown after each
abbrev pub Calls : Holding → List Call → List ToldLine → Holding → Type 0
Calls old [] lines new = (lines ≡ []) × (new ≡ old)
Calls old (call ∷ calls) lines new = (mid : Holding) × (rest : List ToldLine)
    × Feeds old call.piece call.fed mid × (lines ≡ some_told mid.shown ++ rest)
    × Calls mid calls rest new

-- the calls take the first bytes of a piece, each is given what those before it left, and this is
-- left then
abbrev pub TakesFront : List ℕ → List Call → List ℕ → Type 0
TakesFront piece [] left = piece ≡ left
TakesFront piece (call ∷ calls) left =
    (call.piece ≡ piece) × TakesFront (drop call.fed.taken piece) calls left

-- the calls take a piece whole
abbrev pub TakesWhole : List ℕ → List Call → Type 0
TakesWhole piece calls = TakesFront piece calls []

-- each piece is fed on until it is taken whole, and then the bytes end
abbrev pub Decodes : Holding → List (List ℕ) → List ToldLine → Holding → Type 0
Decodes old [] lines new = (ended : Bool) × Finishes old ended new × (lines ≡ some_told new.shown)
Decodes old (piece ∷ pieces) lines new = (calls : List Call) × (mid : Holding)
    × (front : List ToldLine) × (rest : List ToldLine)
    × Calls old calls front mid × TakesWhole piece calls × (lines ≡ front ++ rest)
    × Decodes mid pieces rest new

-- pieces up to a call that is refused: one within a piece, or the end of the bytes
abbrev pub Stops : Holding → List (List ℕ) → List ToldLine → Holding → Type 0
Stops old [] lines new = (lines ≡ []) × (fault : TextFault) × Fails old fault new
Stops old (piece ∷ pieces) lines new = (calls : List Call) × (left : List ℕ) × (mid : Holding)
    × (front : List ToldLine) × (rest : List ToldLine)
    × Calls old calls front mid × TakesFront piece calls left × (lines ≡ front ++ rest)
    × (((rest ≡ []) × (fault : TextFault) × Fails mid fault new)
    ⊎ ((left ≡ []) × Stops mid pieces rest new))
