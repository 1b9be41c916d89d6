-- What a hearing results in, from the words of the cells and PAGE: silence, the first refusal that
-- applies, an act that is taken, or a read that is answered. Which refusal stands for which fault,
-- and their order, are this project's own choice; the acts are those of PMBus 1.3 Part II.
use Rattle.std.specs.Prelude.{◌≡◌, ℕ, ◌<◌, Bool, true, false, not, ◌&&◌, ◌||◌, ◌==◌, nat_lt, if◌then◌else◌, List, Option, Some, None}
use Rattle.std.specs.Prelude.{unwrap_or}
use Rattle.std.specs.Option.{option_map, option_map_or}
use Rattle.pm_table.specs.declared.cell.Cell.TheVariants.{Out, Protect}
use Rattle.pm_table.specs.Cell.{cell_at, cell_accepts, is_voltage_code, IsCell}
use Rattle.pm_table.specs.Codes as command
use Rattle.pm_table.specs.Protection.{is_allowed}
use Rattle.pm_frame.specs.declared.fault.FrameFault.{FrameFault}
use Rattle.pm_frame.specs.declared.fault.FrameFault.TheVariants as frame
use Rattle.pm_frame.specs.declared.message.Message.{Message}
use Rattle.pm_frame.specs.declared.message.Message.TheVariants.{WriteByte, WriteWord, PagePlusWrite, ReadCommand, PagePlusRead}
use Rattle.pm_frame.specs.declared.message.Message.TheVariants.{ReadCoefficients}
use Rattle.pm_frame.specs.declared.message.Payload.{Payload}
use Rattle.pm_frame.specs.declared.message.Payload.TheVariants.{Empty, Byte, Word}
use Rattle.pm_frame.specs.Fault.{write_fault, request_fault}
use Rattle.pm_frame.specs.Layout.{is_read_message, fits_layout}
use Rattle.pm_frame.specs.View.{message_in, message_page, message_code}
use Rattle.pm_model.specs.Settings.{Words, word_at}
use Rattle.pm_device.specs.declared.act.Act.{Act}
use Rattle.pm_device.specs.declared.act.Act.TheVariants.{Put, Select, ClearFaults, ClearVout, ClearCml, Store, Restore}
use Rattle.pm_device.specs.declared.config.Config.{Config}
use Rattle.pm_device.specs.declared.fault.DeviceFault.TheVariants.{Frame, UnsupportedCode, UnsupportedData, BadPage, Protected, Nested}
use Rattle.pm_device.specs.declared.fault.DeviceFault.TheVariants.{ReadOnly}
use Rattle.pm_device.specs.declared.converter.Ending.{Ending}
use Rattle.pm_device.specs.declared.converter.Ending.TheVariants.{Stop, Restart}
use Rattle.pm_device.specs.declared.verdict.Verdict.{Verdict}
use Rattle.pm_device.specs.declared.verdict.Verdict.TheVariants.{Ignores, Refuses, Takes, Answers}
use Rattle.pm_device.specs.Start.{has_direct}

-- the number that a payload is, 0 for no byte
abbrev pub payload_word : Payload → ℕ
payload_word Empty = 0
payload_word (Byte byte) = byte
payload_word (Word word) = word

-- the number that a write carries, 0 for none
abbrev pub written_word : Message → ℕ
written_word (WriteByte code byte) = byte
written_word (WriteWord code word) = word
written_word (PagePlusWrite page code payload) = payload_word payload
written_word _ = 0

-- the output that a message acts on: the page that PAGE_PLUS names, otherwise PAGE
abbrev pub output_in : ℕ → Message → ℕ
output_in page message = unwrap_or (message_page message) page

-- the message names a page that has no output
abbrev pub names_no_output : ℕ → Message → Bool
names_no_output count message =
    option_map_or (λ named. not (nat_lt named count)) (message_page message) false

-- what the write of a code asks for, at an output and with a number: a word of a cell, another
-- page, CLEAR_FAULTS, that status bits are cleared, or a store or restore of the outputs' words
abbrev pub act_in : ℕ → ℕ → ℕ → Option Act
act_in code output word =
    if code == command.page then Some (Select word)
    else (if code == command.clear_faults then Some (ClearFaults output)
    else (if code == command.status_vout then Some (ClearVout output word)
    else (if code == command.status_cml then Some (ClearCml word)
    else (if code == command.store_user_all then Some Store
    else (if code == command.restore_user_all then Some Restore
    else option_map (λ cell. Put cell word) (cell_at code output))))))

-- the act asks for a page that has no output
abbrev pub selects_no_output : ℕ → Act → Bool
selects_no_output count (Select page) = not (nat_lt page count)
selects_no_output count _ = false

-- the cell accepts the word; every other act is accepted
abbrev pub is_act_accepted : Act → Bool
is_act_accepted (Put cell word) = cell_accepts cell word
is_act_accepted _ = true

-- what an act results in with this many outputs, while WRITE_PROTECT has this value: K4 where there is no
-- such output, K5 where WRITE_PROTECT blocks the code, K3 where the cell doesn't accept the word
abbrev pub act_verdict : ℕ → ℕ → Message → Act → Verdict
act_verdict count protect message act =
    if names_no_output count message || selects_no_output count act then Refuses BadPage
    else (if not (is_allowed protect (message_code message)) then Refuses Protected
    else (if not (is_act_accepted act) then Refuses UnsupportedData
    else Takes act))

-- what a write without a fault results in; K2 where there is no act for its code, which never comes: each
-- code that is written has one, but for PAGE_PLUS_WRITE, whose message has the code that it carries
abbrev pub write_verdict : Config → Words → ℕ → Message → Verdict
write_verdict config words page message =
    option_map_or (λ act. act_verdict config.count (word_at words Protect) message act)
    (act_in (message_code message) (output_in page message) (written_word message))
    (Refuses UnsupportedCode)

-- the codes that the coefficients are for: those of the voltages that are set, and READ_VOUT
abbrev pub has_coefficients : ℕ → Bool
has_coefficients code = is_voltage_code code || code == command.read_vout

-- COEFFICIENTS is answered for such a code, for values written or read, where some output is DIRECT
abbrev pub answers_coefficients : Config → ℕ → ℕ → Bool
answers_coefficients config code side =
    has_coefficients code && (side == 0x00 || side == 0x01) && has_direct config

-- a request without a fault is answered: its page is there, or its coefficients are
abbrev pub is_answered : Config → Message → Bool
is_answered config (ReadCommand code) = true
is_answered config (PagePlusRead page code) = nat_lt page config.count
is_answered config (ReadCoefficients code side) = answers_coefficients config code side
is_answered config _ = false

-- what a request without a fault results in: K4 where there is no such output, K3 where there are no
-- coefficients to answer; no message that writes is a request, and K2 stands for it
abbrev pub read_verdict : Config → Message → Verdict
read_verdict config (ReadCoefficients code side) =
    if answers_coefficients config code side then Answers (ReadCoefficients code side)
    else Refuses UnsupportedData
read_verdict config (PagePlusRead page code) =
    if nat_lt page config.count then Answers (PagePlusRead page code) else Refuses BadPage
read_verdict config (ReadCommand code) = Answers (ReadCommand code)
read_verdict config _ = Refuses UnsupportedCode

-- silence for a frame to another device, K1 for a faulty one, K2 for an unknown code, K6 for one
-- that isn't carried, K7 for one of the other direction
abbrev pub fault_verdict : FrameFault → Verdict
fault_verdict frame.NotOurs = Ignores
fault_verdict (frame.Short place) = Refuses (Frame (frame.Short place))
fault_verdict (frame.Long place) = Refuses (Frame (frame.Long place))
fault_verdict (frame.WrongCount place) = Refuses (Frame (frame.WrongCount place))
fault_verdict (frame.WrongPec place) = Refuses (Frame (frame.WrongPec place))
fault_verdict (frame.UnknownCode place) = Refuses UnsupportedCode
fault_verdict (frame.WrongDirection place) = Refuses ReadOnly
fault_verdict (frame.Nested place) = Refuses Nested

-- the fault's verdict where there is a fault, otherwise this one
abbrev pub unless_faulty : Option FrameFault → Verdict → Verdict
unless_faulty (Some fault) verdict = fault_verdict fault
unless_faulty None verdict = verdict

-- what bytes come to at a converter of this configuration, with these words and this PAGE: a write
-- where a stop ended them, a request where a repeated start did
unfoldable pub verdict_of : Config → Words → ℕ → List ℕ → Ending → Verdict
verdict_of config words page bytes Stop = unless_faulty (write_fault config.addr bytes)
    (write_verdict config words page (message_in bytes))
verdict_of config words page bytes Restart = unless_faulty (request_fault config.addr bytes)
    (read_verdict config (message_in bytes))

-- what an act may name at a converter with this many outputs: an output that exists, and a word that
-- its cell accepts
abbrev pub CanAct : ℕ → Act → Type 0
CanAct count (Put cell word) = IsCell count cell × (cell_accepts cell word ≡ true)
CanAct count (Select page) = page < count
CanAct count (ClearFaults output) = output < count
CanAct count (ClearVout output byte) = output < count
CanAct count _ = Unit {0}

-- the output that an act names, where it names one, is this one
abbrev pub ActsOn : ℕ → Act → Type 0
ActsOn output (Put (Out named register) word) = named ≡ output
ActsOn output (ClearFaults named) = named ≡ output
ActsOn output (ClearVout named byte) = named ≡ output
ActsOn output _ = Unit {0}

-- what can be done of what a hearing came to; a request that is answered is one, and fits its layout
abbrev pub IsFit : ℕ → Verdict → Type 0
IsFit count (Takes act) = CanAct count act
IsFit count (Answers request) =
    (names_no_output count request ≡ false) × (is_read_message request ≡ true)
    × (fits_layout request ≡ true)
IsFit count _ = Unit {0}
