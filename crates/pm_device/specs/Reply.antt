-- What a converter answers: silence, that a write is taken, a refusal, or the bytes that answer a
-- read, whose payload is the named register's (PMBus 1.3 Part II). That CAPABILITY answers 80h and
-- PMBUS_REVISION 33h is this project's own choice.
use Rattle.std.specs.Prelude.{ℕ, ◌/◌, ◌%◌, ◌==◌, if◌then◌else◌, List, [], ◌∷◌, take}
use Rattle.std.specs.Option.{option_map_or}
use Rattle.pm_table.specs.Cell.{cell_at}
use Rattle.pm_table.specs.Codes as command
use Rattle.pm_table.specs.Commands.{payload_length}
use Rattle.pm_table.specs.Coefficients.{coefficient_bytes}
use Rattle.pm_frame.specs.declared.message.Message.{Message}
use Rattle.pm_frame.specs.declared.message.Message.TheVariants.{ReadCommand, PagePlusRead, ReadCoefficients}
use Rattle.pm_frame.specs.Layout.{sent, answered, with_pec}
use Rattle.pm_model.specs.Settings.{word_at}
use Rattle.pm_device.specs.declared.converter.Ending.{Ending}
use Rattle.pm_device.specs.declared.converter.Heard.{Heard}
use Rattle.pm_device.specs.declared.converter.Heard.TheVariants.{Silent, Taken, Answer, Refused}
use Rattle.pm_device.specs.declared.verdict.Verdict.{Verdict}
use Rattle.pm_device.specs.declared.verdict.Verdict.TheVariants.{Ignores, Refuses, Takes, Answers}
use Rattle.pm_device.specs.Held.{Held, mode_for, reading_at}
use Rattle.pm_device.specs.Verdict.{verdict_of}
use Rattle.pm_device.specs.Status.{status_byte_of, status_word_of, status_vout_of, status_cml_of}

-- the word of a code that isn't a cell's
abbrev pub plain_register : Held → ℕ → ℕ → ℕ
plain_register held output code =
    if code == command.page then held.page
    else (if code == command.capability then 0x80
    else (if code == command.vout_mode then mode_for held.config output
    else (if code == command.status_byte then status_byte_of held output
    else (if code == command.status_word then status_word_of held output
    else (if code == command.status_vout then status_vout_of held output
    else (if code == command.status_cml then status_cml_of held
    else (if code == command.pmbus_revision then 0x33
    else reading_at held.readings output code)))))))

-- the word that a code reads as, at an output
abbrev pub register_word : Held → ℕ → ℕ → ℕ
register_word held output code = option_map_or (λ cell. word_at held.words cell)
    (cell_at code output) (plain_register held output code)

-- the bytes of a word, low byte first, as many as a code has
abbrev pub register_bytes : ℕ → ℕ → List ℕ
register_bytes code word = take (payload_length code) (word % 256 ∷ word / 256 ∷ [])

-- the payload that answers a request
abbrev pub payload_for : Held → Message → List ℕ
payload_for held (ReadCoefficients code side) = coefficient_bytes held.config.coefficients
payload_for held (PagePlusRead page code) = register_bytes code (register_word held page code)
payload_for held (ReadCommand code) = register_bytes code (register_word held held.page code)
payload_for held _ = []

-- the bytes that answer a request
abbrev pub answer_bytes : Held → Message → List ℕ
answer_bytes held request = with_pec (sent held.config.addr request)
    (answered held.config.addr request (payload_for held request))

-- the answer to what a hearing came to
abbrev pub reply_to : Held → Verdict → Heard
reply_to held Ignores = Silent
reply_to held (Refuses fault) = Refused fault
reply_to held (Takes act) = Taken
reply_to held (Answers request) = Answer (record { items = answer_bytes held request })

-- what a converter that holds this answers to bytes
unfoldable pub reply_of : Held → List ℕ → Ending → Heard
reply_of held bytes ending =
    reply_to held (verdict_of held.config held.words held.page bytes ending)
