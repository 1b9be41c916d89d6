-- The word among several whose value lies farthest on one side. This project's own choice.
use Rattle.std.specs.Prelude.{ℕ, Bool, List, [], ◌∷◌, if◌then◌else◌}
use Rattle.pm_num.specs.AnyFormat.{Shape, InLinear11, InUlinear16, InDirect, shape_value}
use Rattle.pm_num.specs.Ratio.{Ratio, AtMost, is_above}
use Rattle.pm_num.specs.Value.{linear11_least, linear11_greatest}
use Rattle.pm_host.specs.declared.knowledge.Possible.{Possible}
use Rattle.pm_host.specs.declared.knowledge.Possible.TheVariants.{Any, Words}
use Rattle.pm_limits.specs.declared.ends.Side.{Side}
use Rattle.pm_limits.specs.declared.ends.Side.TheVariants.{Lowest, Highest}

-- the other value lies farther out on this side
abbrev pub is_farther : Side → Ratio → Ratio → Bool
is_farther Lowest value other = is_above value other
is_farther Highest value other = is_above other value

-- the first value lies at least as far out as the other
abbrev pub Reaches : Side → Ratio → Ratio → Type 0
Reaches Lowest value other = AtMost value other
Reaches Highest value other = AtMost other value

-- the one of two words whose value lies farther out, and the one of several; the first of equals
abbrev pub farther : Side → (ℕ → Ratio) → ℕ → ℕ → ℕ
farther side value word other = if is_farther side (value word) (value other) then other else word

abbrev pub farthest : Side → (ℕ → Ratio) → ℕ → List ℕ → ℕ
farthest side value word [] = word
farthest side value word (other ∷ words) = farthest side value (farther side value word other) words

abbrev pub farthest_of : Side → (ℕ → Ratio) → List ℕ → ℕ
farthest_of side value [] = 0
farthest_of side value (word ∷ words) = farthest side value word words

-- the words of the least and of the greatest value of a format, in one order or the other
abbrev pub shape_ends : Shape → List ℕ
shape_ends InLinear11 = linear11_least ∷ linear11_greatest ∷ []
shape_ends (InUlinear16 n) = 0 ∷ 0xFFFF ∷ []
shape_ends (InDirect m b r) = 0x7FFF ∷ 0x8000 ∷ []

-- the words among which those that a voltage may hold reach farthest: those that are listed, or the ends of the
-- format where it may be any
abbrev pub candidates : Shape → Possible → List ℕ
candidates shape Any = shape_ends shape
candidates shape (Words words) = words.items

-- the word of a voltage, of those that it may hold, whose value lies farthest out
abbrev pub farthest_word : Side → Shape → (ℕ → Ratio) → Possible → ℕ
farthest_word side shape value possible = farthest_of side value (candidates shape possible)

-- the word of a format's least value, and of its greatest
abbrev pub format_end : Side → Shape → ℕ
format_end side shape = farthest_of side (shape_value shape) (shape_ends shape)
