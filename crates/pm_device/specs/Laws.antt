-- What the laws of this crate say, each by a name that a crate above takes it by. A past is a list
-- of events, newest first.
use Rattle.std.specs.Prelude.{◌≡◌, ◌≢◌, ◌⊎◌, ◌↔◌, ◌<◌, ◌≤◌, ℕ, false, List, [], ◌∷◌, not, ◌&&◌, ◌||◌, true, nat_lt, if◌then◌else◌}
use Rattle.std.specs.Prelude.{Some, None}
use Rattle.pm_table.specs.declared.cell.Cell.{Cell}
use Rattle.pm_table.specs.declared.cell.Cell.TheVariants.{Protect}
use Rattle.pm_table.specs.Cell.{cell_at, cell_accepts, cell_code, IsCell}
use Rattle.pm_table.specs.Codes as command
use Rattle.pm_table.specs.Coefficients.{coefficient_bytes}
use Rattle.pm_table.specs.Protection.{is_allowed}
use Rattle.pm_frame.specs.declared.message.Message.{Message}
use Rattle.pm_frame.specs.declared.message.Message.TheVariants.{WriteByte, PagePlusWrite, ReadCommand, PagePlusRead, ReadCoefficients}
use Rattle.pm_frame.specs.declared.message.Payload.{Payload}
use Rattle.pm_frame.specs.Fault.{write_fault}
use Rattle.pm_frame.specs.Layout.{IsWrite, IsRequest, IsAnswer, write_address, read_address}
use Rattle.pm_frame.specs.View.{payload_in, message_code}
use Rattle.pm_model.specs.Settings.{AreWords, word_at, with_word, with_outputs}
use Rattle.pm_model.specs.Commanded.{is_cut}
use Rattle.pm_device.specs.declared.config.Config.{Config}
use Rattle.pm_device.specs.declared.fault.DeviceFault.{DeviceFault}
use Rattle.pm_device.specs.declared.fault.DeviceFault.TheVariants.{UnsupportedData}
use Rattle.pm_device.specs.declared.converter.Ending.{Ending}
use Rattle.pm_device.specs.declared.converter.Ending.TheVariants.{Stop, Restart}
use Rattle.pm_device.specs.declared.converter.Heard.TheVariants.{Silent, Taken, Answer, Refused}
use Rattle.pm_device.specs.Held.{Held, is_device_reading, is_output_reading, mode_for, reading_at, value_for}
use Rattle.pm_device.specs.Start.{IsSound, config_fault, has_direct}
use Rattle.pm_device.specs.Verdict.{is_answered, names_no_output, output_in, payload_word, verdict_of, write_verdict, written_word}
use Rattle.pm_device.specs.Effect.{Event, Hearing, kept_in, kept_after}
use Rattle.pm_device.specs.Status.{CmlBit, fault_bit, with_bit, cml_at, cml_in, vout_in, bit_if_set, status_byte_of, status_cml_of}
use Rattle.pm_device.specs.Status.{status_vout_of, status_word_of}
use Rattle.pm_device.specs.Reply.{payload_for, register_bytes, register_word, reply_of}
use Rattle.pm_device.specs.History.{AreHeard, IsEverHad, WasCarried, loaded_word, stored_word, device_next, device_now, start_of}
use Rattle.pm_device.specs.History.{is_for_other, without_others, without_requests}

-- What a converter with 1 to 8 outputs holds after any past is what one event after another makes of
-- its start (`none`, `more`), so the status bits that are latched are those that are found by looking
-- back (`vout`, `cml`). A cause that holds now shows at once (`shows`). PAGE always names an output
-- that exists (`page`), and there is always a word for each cell, in the store too (`words`, `store`).
pub record PastsAreFollowed : Type 0 where
  pub none : (config : Config) → device_now config [] ≡ start_of config
  pub more : (config : Config) (past : List Event) (event : Event) →
      1 ≤ config.count → config.count ≤ 8 →
      device_now config (event ∷ past) ≡ device_next (device_now config past) event
  pub vout : (config : Config) (past : List Event) (output : ℕ) → output < 8 →
      status_vout_of (device_now config past) output ≡ bit_if_set 0x08 (vout_in config past output)
  pub cml : (config : Config) (past : List Event) (bit : CmlBit) →
      cml_at (device_now config past).faults bit ≡ cml_in config past bit
  pub shows : (config : Config) (past : List Event) (output : ℕ) →
      config.count ≤ 8 → output < config.count →
      is_cut (value_for config output) (device_now config past).words output ≡ true →
      status_vout_of (device_now config past) output ≡ 0x08
  pub page : (config : Config) (past : List Event) →
      1 ≤ config.count → (device_now config past).page < config.count
  pub words : (config : Config) (past : List Event) → AreWords (device_now config past).words
  pub store : (config : Config) (past : List Event) → AreWords (device_now config past).store

-- a configuration is sound exactly where it has no fault, so a converter is made of each sound one
abbrev pub SoundConfigurationsHaveNoFault : Type 0
SoundConfigurationsHaveNoFault = (config : Config) → IsSound config ↔ (config_fault config ≡ None)

-- Over any past each cell's word is the one that it was last loaded with, at a restart or by
-- RESTORE_USER_ALL, or at the start, or one that a frame which was taken since carried for that very cell
-- (`origin`). Its word in the store is the one that it had at the last STORE_USER_ALL, or its start word
-- (`stored`). Both are the cell's start word or one that a frame which was taken carried for that very cell
-- (`ever`, `stored_ever`), and words that the cell accepts (`accepted`, `stored_accepted`).
pub record WordsHaveAnOrigin : Type 0 where
  pub origin : (config : Config) (past : List Event) (cell : Cell) →
      1 ≤ config.count → config.count ≤ 8 → AreHeard past → IsCell config.count cell →
      (word_at (device_now config past).words cell ≡ loaded_word config past cell)
      ⊎ WasCarried config past cell (word_at (device_now config past).words cell)
  pub stored : (config : Config) (past : List Event) (cell : Cell) →
      1 ≤ config.count → config.count ≤ 8 → IsCell config.count cell →
      word_at (device_now config past).store cell ≡ stored_word config past cell
  pub ever : (config : Config) (past : List Event) (cell : Cell) →
      1 ≤ config.count → config.count ≤ 8 → AreHeard past → IsCell config.count cell →
      IsEverHad config past cell (word_at (device_now config past).words cell)
  pub stored_ever : (config : Config) (past : List Event) (cell : Cell) →
      1 ≤ config.count → config.count ≤ 8 → AreHeard past → IsCell config.count cell →
      IsEverHad config past cell (word_at (device_now config past).store cell)
  pub accepted : (config : Config) (past : List Event) (cell : Cell) →
      IsSound config → IsCell config.count cell →
      cell_accepts cell (word_at (device_now config past).words cell) ≡ true
  pub stored_accepted : (config : Config) (past : List Event) (cell : Cell) →
      IsSound config → IsCell config.count cell →
      cell_accepts cell (word_at (device_now config past).store cell) ≡ true

-- A refusal sets the one bit of STATUS_CML of its kind, and changes nothing else (`refused`).
-- Silence and a read that is answered change nothing (`silent`, `answered`). A write that is taken
-- sets no bit of STATUS_CML (`taken`).
pub record RefusalsSetOneBit : Type 0 where
  pub refused : (held : Held) (bytes : List ℕ) (ending : Ending) (fault : DeviceFault) →
      reply_of held bytes ending ≡ Refused fault →
      device_next held (Hearing bytes ending)
      ≡ record held { faults = with_bit held.faults (fault_bit fault) }
  pub silent : (held : Held) (bytes : List ℕ) (ending : Ending) →
      reply_of held bytes ending ≡ Silent → device_next held (Hearing bytes ending) ≡ held
  pub answered : (held : Held) (bytes : List ℕ) (ending : Ending) →
      reply_of held bytes ending ≢ Silent → reply_of held bytes ending ≢ Taken →
      ((fault : DeviceFault) → reply_of held bytes ending ≢ Refused fault) →
      device_next held (Hearing bytes ending) ≡ held
  pub taken : (held : Held) (bytes : List ℕ) (ending : Ending) (bit : CmlBit) →
      reply_of held bytes ending ≡ Taken →
      cml_at (device_next held (Hearing bytes ending)).faults bit ≡ true →
      cml_at held.faults bit ≡ true

-- What a converter keeps of what an event makes of it, the words of the cells, the store and PAGE, is
-- `kept_after` the event (`kept`), so the rest speaks of each call of `hear`. A request and a faulty write
-- leave all (`request`, `faulty`); a write results in what its message results in (`write`). A write of a
-- cell's code, plain by PAGE or carried, gives that cell the word where the output is there, WRITE_PROTECT
-- allows the code and the cell accepts the word, otherwise all stays (`cell`); so does a
-- PAGE_PLUS_WRITE (`carried`), and a plain write of WRITE_PROTECT (`plain`). A write of PAGE selects
-- an output that exists, where WRITE_PROTECT allows it (`selects`). CLEAR_FAULTS leaves all (`clears`).
-- STORE_USER_ALL, plain or carried with a page that is there, copies the outputs' words to the store, and
-- RESTORE_USER_ALL brings them back, where WRITE_PROTECT allows it (`stores`, `restores`).
pub record WritesReachOneCell : Type 0 where
  pub kept : (held : Held) (event : Event) → kept_in (device_next held event) ≡ kept_after held event
  pub request : (held : Held) (bytes : List ℕ) →
      kept_after held (Hearing bytes Restart) ≡ kept_in held
  pub faulty : (held : Held) (bytes : List ℕ) →
      write_fault held.config.addr bytes ≢ None →
      kept_after held (Hearing bytes Stop) ≡ kept_in held
  pub write : (held : Held) (message : Message) (bytes : List ℕ) →
      IsWrite held.config.addr message bytes →
      verdict_of held.config held.words held.page bytes Stop
      ≡ write_verdict held.config held.words held.page message
  pub cell : (held : Held) (message : Message) (cell : Cell) (bytes : List ℕ) →
      IsWrite held.config.addr message bytes →
      cell_at (message_code message) (output_in held.page message) ≡ Some cell →
      kept_after held (Hearing bytes Stop) ≡ record (kept_in held) {
        words = if not (names_no_output held.config.count message)
            && is_allowed (word_at held.words Protect) (message_code message)
            && cell_accepts cell (written_word message)
            then with_word held.words cell (written_word message) else held.words;
      }
  pub carried : (held : Held) (output code : ℕ) (payload : Payload) (cell : Cell)
      (bytes : List ℕ) →
      IsWrite held.config.addr (PagePlusWrite output code payload) bytes →
      cell_at code output ≡ Some cell →
      kept_after held (Hearing bytes Stop) ≡ record (kept_in held) {
        words = if nat_lt output held.config.count && is_allowed (word_at held.words Protect) code
            && cell_accepts cell (payload_word payload)
            then with_word held.words cell (payload_word payload) else held.words;
      }
  pub plain : (held : Held) (byte : ℕ) (bytes : List ℕ) →
      IsWrite held.config.addr (WriteByte command.write_protect byte) bytes →
      kept_after held (Hearing bytes Stop) ≡ record (kept_in held) {
        words = if is_allowed (word_at held.words Protect) command.write_protect
            && cell_accepts Protect byte
            then with_word held.words Protect byte else held.words;
      }
  pub selects : (held : Held) (byte : ℕ) (bytes : List ℕ) →
      IsWrite held.config.addr (WriteByte command.page byte) bytes →
      kept_after held (Hearing bytes Stop) ≡ record (kept_in held) {
        page = if nat_lt byte held.config.count
            && is_allowed (word_at held.words Protect) command.page
            then byte else held.page;
      }
  pub clears : (held : Held) (output : ℕ) (payload : Payload) (bytes : List ℕ) →
      IsWrite held.config.addr (PagePlusWrite output command.clear_faults payload) bytes →
      kept_after held (Hearing bytes Stop) ≡ kept_in held
  pub stores : (held : Held) (message : Message) (bytes : List ℕ) →
      IsWrite held.config.addr message bytes → message_code message ≡ command.store_user_all →
      kept_after held (Hearing bytes Stop) ≡ record (kept_in held) {
        store = if not (names_no_output held.config.count message)
            && is_allowed (word_at held.words Protect) command.store_user_all
            then with_outputs held.store held.words else held.store;
      }
  pub restores : (held : Held) (message : Message) (bytes : List ℕ) →
      IsWrite held.config.addr message bytes → message_code message ≡ command.restore_user_all →
      kept_after held (Hearing bytes Stop) ≡ record (kept_in held) {
        words = if not (names_no_output held.config.count message)
            && is_allowed (word_at held.words Protect) command.restore_user_all
            then with_outputs held.words held.store else held.words;
      }

-- bytes that a repeated start ended are answered by an answer to this request with this payload
abbrev pub AnswersWith : Held → List ℕ → Message → List ℕ → Type 0
AnswersWith held bytes request payload =
    (frame : List ℕ) × (reply_of held bytes Restart ≡ Answer (record { items = frame }))
    × IsAnswer held.config.addr request payload frame

-- What is answered after a repeated start is an answer, of the length that its layout has, to a
-- request that was heard (`answer`), and a whole request whose page is there, or whose coefficients
-- are, is answered (`answered`). So a PAGE_PLUS_READ of a cell's code at an output that exists
-- is answered with that cell's word (`cell`), a plain read of WRITE_PROTECT with its word
-- (`protect`), VOUT_MODE with the output's byte (`mode`), and COEFFICIENTS of VOUT_COMMAND with the
-- coefficients where some output is DIRECT (`coefficients`), and otherwise refused (`no_coefficients`). A word
-- that its cell accepts is the number of the bytes that answer it (`number`).
pub record ReadsAreAnswered : Type 0 where
  pub answer : (held : Held) (bytes items : List ℕ) →
      reply_of held bytes Restart ≡ Answer (record { items = items }) →
      (request : Message) × IsRequest held.config.addr request bytes
      × IsAnswer held.config.addr request (payload_for held request) items
  pub answered : (held : Held) (request : Message) (bytes : List ℕ) →
      IsRequest held.config.addr request bytes → is_answered held.config request ≡ true →
      AnswersWith held bytes request
      (payload_for held request)
  pub cell : (held : Held) (output code : ℕ) (cell : Cell) (bytes : List ℕ) →
      IsRequest held.config.addr (PagePlusRead output code) bytes →
      output < held.config.count → cell_at code output ≡ Some cell →
      AnswersWith held bytes (PagePlusRead output code)
      (register_bytes code (word_at held.words cell))
  pub protect : (held : Held) (bytes : List ℕ) →
      IsRequest held.config.addr (ReadCommand command.write_protect) bytes →
      AnswersWith held bytes (ReadCommand command.write_protect)
      (register_bytes command.write_protect (word_at held.words Protect))
  pub mode : (held : Held) (output : ℕ) (bytes : List ℕ) →
      IsRequest held.config.addr (PagePlusRead output command.vout_mode) bytes →
      output < held.config.count →
      AnswersWith held bytes (PagePlusRead output command.vout_mode)
      (register_bytes command.vout_mode (mode_for held.config output))
  pub coefficients : (held : Held) (bytes : List ℕ) →
      IsRequest held.config.addr (ReadCoefficients command.vout_command 0x00) bytes →
      has_direct held.config ≡ true →
      AnswersWith held bytes (ReadCoefficients command.vout_command 0x00)
      (coefficient_bytes held.config.coefficients)
  pub no_coefficients : (held : Held) (bytes : List ℕ) →
      IsRequest held.config.addr (ReadCoefficients command.vout_command 0x00) bytes →
      has_direct held.config ≡ false → reply_of held bytes Restart ≡ Refused UnsupportedData
  pub number : (cell : Cell) (word : ℕ) → cell_accepts cell word ≡ true →
      payload_word (payload_in (register_bytes (cell_code cell) word)) ≡ word

-- A register that is read over the bus says what the call of its name answers. What a request is
-- answered is made of this word (`ReadsAreAnswered.answered`).
pub record RegistersSayWhatCallsSay : Type 0 where
  pub page : (held : Held) (output : ℕ) → register_word held output command.page ≡ held.page
  pub status_byte : (held : Held) (output : ℕ) →
      register_word held output command.status_byte ≡ status_byte_of held output
  pub status_word : (held : Held) (output : ℕ) →
      register_word held output command.status_word ≡ status_word_of held output
  pub status_vout : (held : Held) (output : ℕ) →
      register_word held output command.status_vout ≡ status_vout_of held output
  pub status_cml : (held : Held) (output : ℕ) →
      register_word held output command.status_cml ≡ status_cml_of held
  pub readings : (held : Held) (output code : ℕ) →
      (is_device_reading code || is_output_reading code) ≡ true →
      register_word held output code ≡ reading_at held.readings output code

-- Nothing is answered after a stop, and nothing taken after a repeated start.
pub record RepliesFollowEndings : Type 0 where
  pub stop : (held : Held) (bytes items : List ℕ) →
      reply_of held bytes Stop ≢ Answer (record { items = items })
  pub restart : (held : Held) (bytes : List ℕ) → reply_of held bytes Restart ≢ Taken

-- A hearing that a repeated start ended, whatever its bytes, changes nothing but latched bits of STATUS_CML (`alone`), of
-- which it clears none (`rises`): so every setting, the store and PAGE stay (`kept`), and the readings and the latches of
-- STATUS_VOUT. What a converter with 1 to 8 outputs holds after any past is, but for these bits, what it holds after the
-- past without those hearings (`past`).
pub record RequestsLatchAtMost : Type 0 where
  pub alone : (held : Held) (bytes : List ℕ) →
      device_next held (Hearing bytes Restart) ≡ record held { faults = (device_next held (Hearing bytes Restart)).faults }
  pub kept : (held : Held) (bytes : List ℕ) → kept_in (device_next held (Hearing bytes Restart)) ≡ kept_in held
  pub rises : (held : Held) (bytes : List ℕ) (bit : CmlBit) → cml_at held.faults bit ≡ true →
      cml_at (device_next held (Hearing bytes Restart)).faults bit ≡ true
  pub past : (config : Config) (past : List Event) → 1 ≤ config.count → config.count ≤ 8 →
      device_now config past ≡ record (device_now config (without_requests past)) { faults = (device_now config past).faults }

-- Bytes are met with silence exactly where they are for another device (`silent`, `only`), and then change nothing that is
-- held, however they end (`unchanged`). So do all that begin with the address of another device, with either direction,
-- and with the own address and the read bit (`neighbour`, `read_bit`). What a converter with 1 to 8 outputs holds after
-- any past is what it holds after the past without the bytes for other devices (`past`).
pub record FramesForOthersAreSilent : Type 0 where
  pub silent : (held : Held) (bytes : List ℕ) (ending : Ending) →
      is_for_other held.config.addr bytes ≡ true → reply_of held bytes ending ≡ Silent
  pub only : (held : Held) (bytes : List ℕ) (ending : Ending) →
      reply_of held bytes ending ≡ Silent → is_for_other held.config.addr bytes ≡ true
  pub unchanged : (held : Held) (bytes : List ℕ) (ending : Ending) →
      is_for_other held.config.addr bytes ≡ true → device_next held (Hearing bytes ending) ≡ held
  pub neighbour : (addr other : ℕ) (rest : List ℕ) → other ≢ addr →
      (is_for_other addr (write_address other ∷ rest) ≡ true) × (is_for_other addr (read_address other ∷ rest) ≡ true)
  pub read_bit : (addr : ℕ) (rest : List ℕ) → is_for_other addr (read_address addr ∷ rest) ≡ true
  pub past : (config : Config) (past : List Event) → 1 ≤ config.count → config.count ≤ 8 →
      device_now config past ≡ device_now config (without_others config.addr past)
