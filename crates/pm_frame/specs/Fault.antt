-- What is wrong with the bytes of a packet: the first rule that applies, with its place. A place is
-- the number of a byte, from 0, or how many bytes there are. The rules, their order and their
-- places are this project's own choice. A byte past the end counts as 0 here; no rule that asks for
-- one applies before the rules on the length.
use Rattle.std.specs.Prelude.{ℕ, ◌+◌, ◌-◌, Bool, not, ◌&&◌, ◌||◌, ◌==◌, nat_lt, if◌then◌else◌, List, [], ◌∷◌, ◌++◌, length, take}
use Rattle.std.specs.Prelude.{slice_index, Option, Some, None}
use Rattle.std.specs.Option.{option_or}
use Rattle.pm_table.specs.Codes as command
use Rattle.pm_table.specs.Commands.{is_known, is_read, is_written, payload_length}
use Rattle.pm_table.specs.Rules.{first, rule}
use Rattle.pm_frame.specs.declared.rules.Direction.{Direction}
use Rattle.pm_frame.specs.declared.rules.Direction.TheVariants.{Write, Read}
use Rattle.pm_frame.specs.declared.fault.FrameFault.{FrameFault}
use Rattle.pm_frame.specs.declared.fault.FrameFault.TheVariants.{NotOurs, Short, Long, WrongCount, WrongPec, UnknownCode, WrongDirection}
use Rattle.pm_frame.specs.declared.fault.FrameFault.TheVariants.{Nested}
use Rattle.pm_frame.specs.declared.message.Message.{Message}
use Rattle.pm_frame.specs.Layout.{write_address, read_address, is_carried, is_plain_write, sent, answer_length, has_count}
use Rattle.pm_frame.specs.Pec.{pec_of}

-- F1 for no byte, or another first one than wanted
unfoldable pub address_fault : ℕ → List ℕ → Option FrameFault
address_fault wanted bytes = rule (length bytes == 0 || not (slice_index bytes 0 == wanted)) NotOurs

-- F1 for no byte or another first one than wanted, and F2 if nothing follows the first byte
unfoldable pub opening_fault : ℕ → List ℕ → Option FrameFault
opening_fault wanted bytes =
    option_or (address_fault wanted bytes) (rule (length bytes == 1) (Short 1))

-- F2 or F3 for another number of bytes than this
unfoldable pub length_fault : ℕ → List ℕ → Option FrameFault
length_fault wanted bytes = first (
    rule (nat_lt (length bytes) wanted) (Short (length bytes)) ∷
    rule (nat_lt wanted (length bytes)) (Long wanted) ∷
    [])

-- F4 for a count of a PAGE_PLUS_WRITE below 2, which has no room for page and code, or another than
-- its carried code asks for
unfoldable pub carried_count_fault : List ℕ → Option FrameFault
carried_count_fault bytes =
    let count = slice_index bytes 2 in
    let code = slice_index bytes 4 in
    let asked = payload_length code + 2 in
    first (
    rule (nat_lt count 2) (WrongCount 2) ∷
    rule (is_carried code && is_written code && not (count == asked)) (WrongCount 2) ∷
    [])

-- F2, F3 or F4 for another number of bytes than the code of a write asks for, or than its count
-- says
unfoldable pub size_fault : List ℕ → Option FrameFault
size_fault bytes =
    let code = slice_index bytes 1 in
    if is_plain_write code then length_fault (payload_length code + 3) bytes
    else (if length bytes == 2 then Some (Short 2)
    else (if code == command.page_plus_write
    then option_or (length_fault (slice_index bytes 2 + 4) bytes) (carried_count_fault bytes)
    else None))

-- F5 where the last byte isn't the PEC of what came before
unfoldable pub pec_fault : List ℕ → List ℕ → Option FrameFault
pec_fault before bytes =
    let last = length bytes - 1 in
    rule (not (slice_index bytes last == pec_of (before ++ take last bytes))) (WrongPec last)

-- the codes that go one way, those that are written or those that are read
abbrev pub codes_of : Direction → ℕ → Bool
codes_of Write = is_written
codes_of Read = is_read

-- F8 for a carried code that PAGE_PLUS doesn't carry, F6 for one that isn't in the table, F7 for
-- one of the other direction
unfoldable pub carried_fault : Direction → ℕ → Option FrameFault
carried_fault direction code = first (
    rule (not (is_carried code)) (Nested 4) ∷
    rule (not (is_known code)) (UnknownCode 4) ∷
    rule (not (codes_of direction code)) (WrongDirection 4) ∷
    [])

-- F6 for a plain code that isn't in the table, F7 for one of the other direction
unfoldable pub plain_fault : Direction → ℕ → Option FrameFault
plain_fault direction code = first (
    rule (not (is_known code)) (UnknownCode 1) ∷
    rule (not (codes_of direction code)) (WrongDirection 1) ∷
    [])

-- what is wrong with bytes that a stop ended
unfoldable pub write_fault : ℕ → List ℕ → Option FrameFault
write_fault addr bytes = first (
    opening_fault (write_address addr) bytes ∷
    size_fault bytes ∷
    pec_fault [] bytes ∷
    (let code = slice_index bytes 1 in
    if code == command.page_plus_write then carried_fault Write (slice_index bytes 4)
    else plain_fault Write code) ∷
    [])

-- what is wrong with the five bytes of a read whose request has a count
unfoldable pub block_request_fault : List ℕ → Option FrameFault
block_request_fault bytes = first (
    length_fault 5 bytes ∷
    rule (not (slice_index bytes 2 == 2)) (WrongCount 2) ∷
    (if slice_index bytes 1 == command.page_plus_read
    then carried_fault Read (slice_index bytes 4) else None) ∷
    [])

-- what is wrong with bytes that a repeated start ended
unfoldable pub request_fault : ℕ → List ℕ → Option FrameFault
request_fault addr bytes =
    let code = slice_index bytes 1 in
    option_or (opening_fault (write_address addr) bytes)
    (if code == command.page_plus_read || code == command.coefficients
    then block_request_fault bytes
    else option_or (plain_fault Read code) (rule (nat_lt 2 (length bytes)) (Long 2)))

-- how many bytes a whole answer has: the address, a count where there is one, the payload and the
-- PEC
abbrev pub whole_answer : Message → ℕ
whole_answer request = (if has_count request then 3 else 2) + answer_length request

-- what is wrong with bytes that came back for a request
unfoldable pub answer_fault : ℕ → Message → List ℕ → Option FrameFault
answer_fault addr request bytes = first (
    address_fault (read_address addr) bytes ∷
    length_fault (whole_answer request) bytes ∷
    rule (has_count request && not (slice_index bytes 1 == answer_length request)) (WrongCount 1) ∷
    pec_fault (sent addr request) bytes ∷
    [])
