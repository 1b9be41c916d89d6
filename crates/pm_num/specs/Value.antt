-- The fraction that a word stands for, in each of the three numeric formats of PMBus 1.3 Part II.
use Rattle.std.specs.Prelude.{ℕ, ◌-◌, ◌*◌, ◌/◌, ◌%◌, ◌^◌, suc, ℤ, pos, negsuc, ◌-ℤ◌, ◌*ℤ◌, unsigned_abs, nat_lt, if◌then◌else◌}
use Rattle.pm_num.specs.Ratio.{Ratio}

-- base^n as the fraction upper/lower of whole numbers: one of the two is 1.
abbrev pub upper : ℕ → ℤ → ℕ
upper base (pos n) = base ^ n
upper base (negsuc n) = 1

abbrev pub lower : ℕ → ℤ → ℕ
lower base (pos n) = 1
lower base (negsuc n) = base ^ suc n

-- n, of that many bits, read in two's complement.
abbrev pub signed : ℕ → ℕ → ℤ
signed bits n = if nat_lt n (2 ^ (bits - 1)) then pos n else pos n -ℤ pos (2 ^ bits)

-- LINEAR11: the exponent stands in bits 15:11 and the mantissa in bits 10:0, both two's complement.
abbrev pub exponent : ℕ → ℤ
exponent word = signed 5 (word / 2 ^ 11)

abbrev pub mantissa : ℕ → ℤ
mantissa word = signed 11 (word % 2 ^ 11)

-- LINEAR11: mantissa * 2^exponent, over 1 for an exponent from 0 on, otherwise mantissa over
-- 2^-exponent.
abbrev pub linear11_value : ℕ → Ratio
linear11_value word = record {
  num = mantissa word *ℤ pos (upper 2 (exponent word));
  den = lower 2 (exponent word);
}

-- LINEAR11: the words of the least and of the greatest value, -1024 * 2^15 and 1023 * 2^15.
abbrev pub linear11_least : ℕ
linear11_least = 0x7C00

abbrev pub linear11_greatest : ℕ
linear11_greatest = 0x7BFF

-- ULINEAR16: word * 2^n likewise, where n comes from VOUT_MODE.
abbrev pub ulinear16_value : ℤ → ℕ → Ratio
ulinear16_value n word = record { num = pos word *ℤ pos (upper 2 n); den = lower 2 n }

-- 1 for a number from 0 on, -1 for one below.
abbrev pub sign : ℤ → ℤ
sign (pos n) = pos 1
sign (negsuc n) = negsuc 0

-- DIRECT: the x for which y = (m * x + b) * 10^r, where y is the word in two's complement: (y - b *
-- 10^r) over m * 10^r for r from 0 on, otherwise (y * 10^-r - b) over m. The sign of m stands in
-- the numerator, its size in the denominator.
abbrev pub direct_value : ℤ → ℤ → ℤ → ℕ → Ratio
direct_value m b r word = record {
  num = sign m *ℤ (signed 16 word *ℤ pos (lower 10 r) -ℤ b *ℤ pos (upper 10 r));
  den = unsigned_abs m * upper 10 r;
}

-- The words of the least and of the greatest DIRECT value: for m below 0 the greater word is the
-- lower value.
abbrev pub direct_least : ℤ → ℕ
direct_least (pos n) = 0x8000
direct_least (negsuc n) = 0x7FFF

abbrev pub direct_greatest : ℤ → ℕ
direct_greatest (pos n) = 0x7FFF
direct_greatest (negsuc n) = 0x8000
