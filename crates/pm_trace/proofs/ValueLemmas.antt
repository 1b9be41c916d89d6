-- Letters that may stand in a text, entries of maps, and the whole millionths of a fraction with their text.
use Rattle.std.specs.{List.list_all, Prelude.unsigned_abs, Str.IsAscii}
use Rattle.std.specs.Map.{lookup, set_value}
use Rattle.std.proofs.lemmas.Bool.Decides.{nat_tests}
use Rattle.std.proofs.Common.{◌≡◌, ◌<◌, ◌≤◌, ◌&&◌, ℕ, List, [], ◌∷◌, true, not, eqb, nat_le, arith, Bool, false, None, Some, nat_eq, length}
use Rattle.std.proofs.Common.{slice_get, cond, ◌∙◌, sym, ap, refl, ◌≢◌, Option, ◌*ℤ◌, ◌<ℤ◌, ◌≤ℤ◌, ◌++◌, ℤ, pos, negsuc, neg_ℤ, add-one}
use Rattle.std.proofs.lemmas.Bool.{and_parts, leb-true}
use Rattle.std.proofs.lemmas.Int.{ints, by_lt_z}
use Rattle.std.proofs.lemmas.Option.{none-some, same_Some}
use Rattle.std.proofs.lemmas.Str.Ascii.{IsAscii-cons, IsAscii-nil}
use Rattle.indexmap.specs.IndexMap.{insert_entry}
use Rattle.pm_num.specs.Lemmas.Integers.{lt-times}
use Rattle.pm_num.specs.Ratio.{IsMicroFloor, Ratio}
use Rattle.pm_table.specs.Codes as command
use Rattle.pm_frame.specs.{View.message_code, declared.message.Message.Message}
use Rattle.pm_frame.specs.declared.message.Message.TheVariants.{SendByte, WriteByte, WriteWord, PagePlusWrite, ReadCommand, PagePlusRead}
use Rattle.pm_frame.specs.declared.message.Message.TheVariants.{ReadCoefficients}
use Rattle.pm_trace.specs.{Otherwise.is_told_letter, Values.millionths, declared.answers.WrittenOnes.WrittenOnes}
use Rattle.pm_trace.specs.Lemmas.Floor.{passed, quotient_is_reached}
use Rattle.pm_trace.specs.TraceText.{message_text, plain_text}
use Rattle.pm_trace.specs.ValueText.{millionths_text, minus, size_text}

-- Letters that may stand in a text are ASCII.

-- such a letter is below 128
letter_below : (byte : ℕ) → is_told_letter byte ≡ true → byte < 128
letter_below byte told =
    let parts = and_parts (nat_le 32 byte) (nat_le byte 126 && (not (eqb byte 34) && not (eqb byte 92))) told in
    let most = and_parts (nat_le byte 126) (not (eqb byte 34) && not (eqb byte 92)) parts.1 in
    let below : byte ≤ 126 = leb-true byte 126 most.0 in omega arith

pub letters_are_ascii : (letters : List ℕ) → list_all is_told_letter letters ≡ true → IsAscii letters
letters_are_ascii [] all = IsAscii-nil
letters_are_ascii (letter ∷ letters) all =
    let parts = and_parts (is_told_letter letter) (list_all is_told_letter letters) all in
    IsAscii-cons letter letters (letter_below letter parts.0) (letters_are_ascii letters parts.1)

-- Entries of maps: nothing is found if nothing was said, and an entry is set in its place.

pub none_said : {V : Type 0} (test : ℕ → Bool) (entries : List (ℕ × V)) → length entries ≡ 0 → lookup test entries ≡ None
none_said test [] none = refl
none_said test (entry ∷ entries) none = absurd (omega arith)

-- a value that is set over a known one is inserted
pub set_known : {V : Type 0} (key : ℕ) (value kept : V) (entries : List (ℕ × V)) → lookup (nat_eq key) entries ≡ Some kept
    → set_value (nat_eq key) entries value ≡ insert_entry nat_eq entries key value
set_known key value kept [] is = absurd (none-some kept is)
set_known {V} key value kept (entry ∷ entries) is = by (nat_eq key entry.0) is (set_known key value kept entries)
  where
    by : (found : Bool) → cond found (Some entry.1) (lookup (nat_eq key) entries) ≡ Some kept
        → (lookup (nat_eq key) entries ≡ Some kept → set_value (nat_eq key) entries value ≡ insert_entry nat_eq entries key value)
        → cond found ((entry.0, value) ∷ entries) (entry ∷ set_value (nat_eq key) entries value)
        ≡ cond found ((entry.0, value) ∷ entries) (entry ∷ insert_entry nat_eq entries key value)
    by true is rest = refl
    by false is rest = ap (λ l. entry ∷ l) (rest is)

-- the first entry stays if its own value is inserted
pub kept_first : (entries : List (ℕ × WrittenOnes)) (key first : ℕ) (said written : WrittenOnes) → slice_get entries 0 ≡ Some (first, said)
    → nat_eq first key ≡ true → nat_eq said.ones written.ones ≡ true → nat_eq said.bytes written.bytes ≡ true
    → insert_entry nat_eq entries key written ≡ entries
kept_first [] key first said written is own ones bytes = absurd (none-some (first, said) is)
kept_first (entry ∷ entries) key first said written is own ones bytes =
    let same = same_Some entry (first, said) is in
    let key_is : key ≡ first = grind (arith, nat_tests, own) in
    let ones_is : written.ones ≡ said.ones = grind (arith, nat_tests, ones) in
    let bytes_is : written.bytes ≡ said.bytes = grind (arith, nat_tests, bytes) in
    let found : nat_eq key entry.0 ≡ true = grind (arith, nat_tests, key_is, ap (λ e. e.0) same) in
    rw found (λ i. (entry.0, record { ones = ones_is i; bytes = bytes_is i }) ∷ entries)
    ∙ λ i. (entry.0, (sym same i).1) ∷ entries

-- The whole millionths of a fraction, and their text; the text of a packet that asks for no coefficients.

-- the millionths of a fraction with a denominator above 0 are the most whole ones that aren't above it
pub floor_of : (value : Ratio) → 0 < value.den → IsMicroFloor value (millionths value)
floor_of value some =
    let a = value.num *ℤ pos 1000000 in
    let next = passed a value.den some in
    record {
      reached = quotient_is_reached a value.den some;
      greatest = λ k le. by_lt_z (millionths value) k
          (λ less. let over = lt-times (millionths value) k value.den less in absurd (omega (arith, ints))) (λ down. down);
    }

-- the text of a number below 0, and of another
pub negative_text : (size : ℤ) → size <ℤ pos 0 → millionths_text size ≡ minus ++ size_text (unsigned_abs (neg_ℤ size))
negative_text (pos n) less = absurd (omega (arith, ints))
negative_text (negsuc below) less = ap (λ n. minus ++ size_text n) (add-one below)

pub positive_text : (size : ℤ) → pos 0 ≤ℤ size → millionths_text size ≡ size_text (unsigned_abs size)
positive_text (pos n) above = refl
positive_text (negsuc below) above = absurd (omega (arith, ints))

-- coefficients are asked for by their own code alone
pub other_code : (message : Message) (answer : Option (List ℕ)) → message_code message ≢ command.coefficients
    → message_text message answer ≡ plain_text message answer
other_code (ReadCoefficients code side) answer other = absurd (other refl)
other_code (SendByte code) answer other = refl
other_code (WriteByte code byte) answer other = refl
other_code (WriteWord code word) answer other = refl
other_code (PagePlusWrite page code payload) answer other = refl
other_code (ReadCommand code) answer other = refl
other_code (PagePlusRead page code) answer other = refl
