-- What a whole packet says, read from its bytes by their places, and what a message has: its page,
-- its code, its payload.
use Rattle.std.specs.Prelude.{ℕ, ◌+◌, ◌*◌, ◌-◌, ◌==◌, if◌then◌else◌, List, [], ◌∷◌, length, slice_index, slice_range, Option, Some, None}
use Rattle.pm_table.specs.Codes as command
use Rattle.pm_frame.specs.declared.message.Message.{Message}
use Rattle.pm_frame.specs.declared.message.Message.TheVariants.{SendByte, WriteByte, WriteWord, PagePlusWrite, ReadCommand, PagePlusRead}
use Rattle.pm_frame.specs.declared.message.Message.TheVariants.{ReadCoefficients}
use Rattle.pm_frame.specs.declared.message.Payload.{Payload}
use Rattle.pm_frame.specs.declared.message.Payload.TheVariants.{Empty, Byte, Word}
use Rattle.pm_frame.specs.Layout.{payload_bytes, has_count}

-- the payload that bytes are, at most two
abbrev pub payload_in : List ℕ → Payload
payload_in [] = Empty
payload_in (byte ∷ []) = Byte byte
payload_in (low ∷ high ∷ rest) = Word (low + 256 * high)

-- the plain packet that writes a payload
abbrev pub plain_write : ℕ → Payload → Message
plain_write code Empty = SendByte code
plain_write code (Byte byte) = WriteByte code byte
plain_write code (Word word) = WriteWord code word

-- the payload of a whole answer to a request: between the address, or the count where there is one,
-- and the PEC
abbrev pub answer_payload : Message → List ℕ → List ℕ
answer_payload request bytes =
    slice_range bytes (if has_count request then 2 else 1) (length bytes - 1)

-- the message that bytes are, where they are those of a packet that writes, or of the request of
-- one that reads
unfoldable pub message_in : List ℕ → Message
message_in bytes =
    let code = slice_index bytes 1 in
    let third = slice_index bytes 3 in
    let fourth = slice_index bytes 4 in
    let last = length bytes - 1 in
    if code == command.page_plus_write
    then PagePlusWrite third fourth (payload_in (slice_range bytes 5 last))
    else (if code == command.page_plus_read then PagePlusRead third fourth
    else (if code == command.coefficients then ReadCoefficients third fourth
    else (if length bytes == 2 then ReadCommand code
    else plain_write code (payload_in (slice_range bytes 2 last)))))

-- the page that a message names
abbrev pub message_page : Message → Option ℕ
message_page (PagePlusWrite page code payload) = Some page
message_page (PagePlusRead page code) = Some page
message_page (SendByte code) = None
message_page (WriteByte code byte) = None
message_page (WriteWord code word) = None
message_page (ReadCommand code) = None
message_page (ReadCoefficients code side) = None

-- the code that is meant: the carried one, otherwise the packet's own, which is 30h where
-- coefficients are read
abbrev pub message_code : Message → ℕ
message_code (SendByte code) = code
message_code (WriteByte code byte) = code
message_code (WriteWord code word) = code
message_code (PagePlusWrite page code payload) = code
message_code (ReadCommand code) = code
message_code (PagePlusRead page code) = code
message_code (ReadCoefficients code side) = command.coefficients

-- the payload of a write; none of a request, but the code and the side where coefficients are read
abbrev pub message_payload : Message → List ℕ
message_payload (SendByte code) = []
message_payload (WriteByte code byte) = payload_bytes (Byte byte)
message_payload (WriteWord code word) = payload_bytes (Word word)
message_payload (PagePlusWrite page code payload) = payload_bytes payload
message_payload (ReadCommand code) = []
message_payload (PagePlusRead page code) = []
message_payload (ReadCoefficients code side) = code ∷ side ∷ []
