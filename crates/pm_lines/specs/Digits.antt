-- Numbers as the texts of this project write them. A decimal number is one or more digits, with a
-- `-` before them where it is negative: leading zeros and `-0` are read, and a `+` is a fault.
-- Hexadecimal digits are read in either case.
use Rattle.std.specs.Prelude.{ℕ, ◌+◌, ◌-◌, ◌*◌, ◌^◌, ◌==◌, ◌&&◌, Bool, nat_lt, if◌then◌else◌}
use Rattle.std.specs.Prelude.{List, [], ◌∷◌, length, Option, Some, None, option_map}
use Rattle.std.specs.Prelude.{option_and_then, ℤ, pos, negsuc, neg_ℤ}
use Rattle.std.specs.List.{list_all}
use Rattle.std.specs.Int.{is_in_range}

-- the value of a digit, and 16 for a character that is none: `0` to `9` are 48 to 57, `A` to `F`
-- are 65 to 70, `a` to `f` are 97 to 102
abbrev pub digit : ℕ → ℕ
digit c = if is_in_range 48 57 c then c - 48
    else if is_in_range 65 70 c then c - 55
    else if is_in_range 97 102 c then c - 87
    else 16

-- each digit times the power of the base that belongs to its place
abbrev pub place_sum : ℕ → List ℕ → ℕ
place_sum base [] = 0
place_sum base (c ∷ cs) = digit c * base ^ length cs + place_sum base cs

abbrev pub are_digits : ℕ → List ℕ → Bool
are_digits base text = list_all (λ c. nat_lt (digit c) base) text

-- the number that one or more digits write
abbrev pub natural_of : ℕ → List ℕ → Option ℕ
natural_of base text =
    if nat_lt 0 (length text) && are_digits base text then Some (place_sum base text) else None

-- the decimal number of a text: 45 is `-`
abbrev pub decimal_of : List ℕ → Option ℤ
decimal_of [] = None
decimal_of (c ∷ cs) = if c == 45 then option_map (λ n. neg_ℤ (pos n)) (natural_of 10 cs)
    else option_map (λ n. pos n) (natural_of 10 (c ∷ cs))

-- z has this many bits in two's complement
abbrev pub fits : ℕ → ℤ → Bool
fits bits (pos n) = nat_lt n (2 ^ (bits - 1))
fits bits (negsuc n) = nat_lt n (2 ^ (bits - 1))

-- the decimal number of a text, where it has this many bits
abbrev pub signed_of : ℕ → List ℕ → Option ℤ
signed_of bits text =
    option_and_then (λ z. if fits bits z then Some z else None) (decimal_of text)

-- the number of exactly this many hexadecimal digits
abbrev pub hex_of : ℕ → List ℕ → Option ℕ
hex_of count text = if length text == count then natural_of 16 text else None

-- the decimal number of a text, where it is 0 to 255 and has no sign
abbrev pub small_of : List ℕ → Option ℕ
small_of text = option_and_then (λ n. if nat_lt n 256 then Some n else None) (natural_of 10 text)
