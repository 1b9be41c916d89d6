-- What the verdict of a look says of the part: this project's own choice. Lists are newest first.
use Rattle.std.specs.Prelude.{◌≡◌, ◌<◌, ℕ, Bool, true, false, not, List, ◌∷◌, ◌++◌}
use Rattle.pm_frame.specs.PagedRead.{paged_request}
use Rattle.pm_table.specs.Codes as command
use Rattle.pm_device.specs.declared.converter.Ending.TheVariants.{Restart}
use Rattle.pm_device.specs.Held.{Held}
use Rattle.pm_device.specs.Reply.{register_word}
use Rattle.pm_device.specs.Status.{is_output_on}
use Rattle.pm_rail.specs.declared.power.Power.{Power}
use Rattle.pm_delivery.specs.declared.delivery.Delivery.{Delivery}
use Rattle.pm_delivery.specs.declared.reading.Reading.{Reading}
use Rattle.pm_delivery.specs.declared.verdict.Verdict.TheVariants.{Delivers, WentOff}
use Rattle.pm_delivery.specs.Ended.{delivery_verdict_of}
use Rattle.pm_delivery.specs.Heard.{is_good}
use Rattle.pm_delivery.specs.StatusBits.{has_bit, off, power_good_not}
use Rattle.pm_part_laws.specs.Happenings.{Happening, Hears, beside}
use Rattle.pm_sequence_laws.specs.Looks.{IsLook}

-- At one of the later moments the part heard the whole request of a code of an output, and the code read as this word.
pub record WasAnswered (held : Held) (passes : ℕ) (output code word : ℕ) (later before : List Happening) : Type 0 where
  pub newer : List Happening
  pub older : List Happening
  pub is : later ≡ newer ++ Hears (paged_request held.config.addr output code) Restart ∷ older
  pub word_is : register_word (beside held passes (older ++ before)).device output code ≡ word

-- At one of the later moments OFF of the part's own STATUS_WORD of an output was 0 and POWER_GOOD# was, or OFF was 1; and so was OPERATION on,
-- or off.
pub record WasOn (held : Held) (passes : ℕ) (output : ℕ) (on : Bool) (later before : List Happening) : Type 0 where
  pub newer : List Happening
  pub older : List Happening
  pub is : later ≡ newer ++ older
  pub off_is : has_bit (register_word (beside held passes (older ++ before)).device output command.status_word) off ≡ not on
  pub power_good : on ≡ true →
      has_bit (register_word (beside held passes (older ++ before)).device output command.status_word) power_good_not ≡ false
  pub on_is : is_output_on (beside held passes (older ++ before)).device output ≡ on

-- what holds of each look at an output of a part
abbrev pub OfALook : (Held → ℕ → Delivery → List Happening → List Happening → Type 0) → Type 0
OfALook P = (held : Held) (passes : ℕ) (d : Delivery) (later before : List Happening) → d.output < held.config.count →
    IsLook held passes before d later → P held passes d later before

-- A look that counts a word of STATUS_WORD (`status`) or READ_VOUT (`voltage`) as read was answered it by the part since it began. At a
-- verdict `Delivers` the part's own STATUS_WORD had OFF and POWER_GOOD# 0 at such a moment, and OPERATION the output on (`delivers`); at
-- `WentOff` it had OFF 1, and OPERATION the output off (`went_off`).
pub record VerdictsAreOfAnswers : Type 0 where
  pub status : OfALook (λ held passes d later before. is_good d.status_word ≡ true →
      WasAnswered held passes d.output command.status_word d.status_word.word later before)
  pub voltage : OfALook (λ held passes d later before. is_good d.read_vout ≡ true →
      WasAnswered held passes d.output command.read_vout d.read_vout.word later before)
  pub delivers : OfALook (λ held passes d later before. (most : ℕ) (power : Power) (reading : Reading) →
      delivery_verdict_of d most power reading ≡ Delivers → WasOn held passes d.output true later before)
  pub went_off : OfALook (λ held passes d later before. (most : ℕ) (power : Power) (reading : Reading) →
      delivery_verdict_of d most power reading ≡ WentOff → WasOn held passes d.output false later before)
