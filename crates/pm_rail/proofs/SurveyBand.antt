-- An output has a band once a survey of it has ended by its own rule.
use Rattle.std.specs.Prelude.{◌≡◌, ◌&&◌, ◌||◌, ◌/◌, ◌%◌, ◌==◌, ℕ, Bool, true, false, not, if◌then◌else◌, refl, List, [], ◌∷◌, Option, Some, None, is_none, option_map}
use Rattle.std.specs.List.{list_any}
use Rattle.std.proofs.Common.{ap, ap₂}
use Rattle.pm_num.specs.AnyFormat.{Shape}
use Rattle.pm_table.specs.declared.cell.Cell.TheVariants.{Out}
use Rattle.pm_table.specs.declared.reg.Reg.TheVariants.{Operation}
use Rattle.pm_table.specs.Cell.{is_operation}
use Rattle.pm_table.specs.Rules.{rule}
use Rattle.pm_host.specs.declared.knowledge.Possible.{Possible}
use Rattle.pm_host.specs.declared.knowledge.Possible.TheVariants.{Any, Words}
use Rattle.pm_host.specs.Summary.{Summary, format_at, possible_at}
use Rattle.pm_limits.specs.declared.part_registers.PartRegisters.{PartRegisters}
use Rattle.pm_limits.specs.Band.{band_at, band_with, known_of_output, may_select_avsbus, operations, selects_avsbus}
use Rattle.pm_rail.specs.declared.survey.Survey.{Survey}
use Rattle.pm_rail.specs.Known.{known_word}
use Rattle.pm_rail.specs.Survey.{is_surveyed}
use Rattle.pm_rail.specs.Lemmas.Surveyed.{format, known}

-- a byte that OPERATION takes hands nothing to AVSBus
taken-byte : (taken other : Bool) (byte : ℕ) → is_none (rule taken byte) ≡ false → (not taken && other) ≡ false
taken-byte true other byte h = refl
taken-byte false other byte h = cc

known-byte : (output : ℕ) (words : List ℕ) → is_none (known_word (Out output Operation) (Words (record { items = words }))) ≡ false →
    list_any selects_avsbus words ≡ false
known-byte output [] h = cc
known-byte output (byte ∷ []) h =
    ap (λ (b : Bool). b || false) (taken-byte (is_operation byte) ((byte / 16) % 4 == 0b11) byte h)
known-byte output (byte ∷ other ∷ words) h = cc

no-avsbus : (output : ℕ) (possible : Possible) → is_none (known_word (Out output Operation) possible) ≡ false →
    may_select_avsbus possible ≡ false
no-avsbus output Any h = cc
no-avsbus output (Words words) h = known-byte output words.items h

pub band : (part : PartRegisters) (v : Survey) (s : Summary) → is_surveyed part v s ≡ true → is_none (band_at part s v.output) ≡ false
band part v s is = go (format_at s v.output) refl (format part v s is).1 where
  go : (format : Option Shape) → format_at s v.output ≡ format → is_none format ≡ false → is_none (band_at part s v.output) ≡ false
  go None e n = cc
  go (Some shape) e n = ap₂ (λ (b : Bool) (f : Option Shape). is_none (if b then None else option_map
      (λ x. band_with x (known_of_output part x s v.output) (operations (possible_at s (Out v.output Operation)))) f))
      (no-avsbus v.output (possible_at s (Out v.output Operation)) (known part v s shape Operation is e refl).1) e
