-- The packets of SMBus and PMBus 1.3 Part II as relations between an address, a message and its
-- bytes. A packet that writes is one list of bytes, ended by a stop. A packet that reads is two,
-- the request and the answer, with a repeated start between them, which is no byte; one packet
-- error code stands at the end of the answer and covers both. That each packet has a PEC and an exact
-- length is this project's own choice, and so are the four codes that PAGE_PLUS doesn't carry.
use Rattle.std.specs.Prelude.{◌≡◌, ℕ, ◌+◌, ◌*◌, ◌/◌, ◌%◌, Bool, true, false, not, ◌&&◌, ◌||◌, ◌==◌, if◌then◌else◌, List, [], ◌∷◌, ◌++◌}
use Rattle.std.specs.Prelude.{length, slice_index, ◌<◌, ◌^◌}
use Rattle.pm_table.specs.Codes as command
use Rattle.pm_table.specs.Commands.{is_read, is_written, payload_length}
use Rattle.pm_frame.specs.declared.message.Message.{Message}
use Rattle.pm_frame.specs.declared.message.Message.TheVariants.{SendByte, WriteByte, WriteWord, PagePlusWrite, ReadCommand, PagePlusRead}
use Rattle.pm_frame.specs.declared.message.Message.TheVariants.{ReadCoefficients}
use Rattle.pm_frame.specs.declared.message.Payload.{Payload}
use Rattle.pm_frame.specs.declared.message.Payload.TheVariants.{Empty, Byte, Word}
use Rattle.pm_frame.specs.Pec.{pec_of}

-- the first byte where the host writes, and where it reads: the seven-bit address, and then the
-- direction
abbrev pub write_address : ℕ → ℕ
write_address addr = addr * 2

abbrev pub read_address : ℕ → ℕ
read_address addr = addr * 2 + 1

-- what a write carries, a word low byte first
abbrev pub payload_bytes : Payload → List ℕ
payload_bytes Empty = []
payload_bytes (Byte byte) = byte ∷ []
payload_bytes (Word word) = (word % 256) ∷ (word / 256) ∷ []

-- what the host sends before the PEC of a write, or before the repeated start of a read
abbrev pub sent : ℕ → Message → List ℕ
sent addr (SendByte code) = write_address addr ∷ code ∷ []
sent addr (WriteByte code byte) = write_address addr ∷ code ∷ payload_bytes (Byte byte)
sent addr (WriteWord code word) = write_address addr ∷ code ∷ payload_bytes (Word word)
sent addr (PagePlusWrite page code payload) =
    write_address addr ∷ command.page_plus_write ∷ (2 + length (payload_bytes payload))
    ∷ page ∷ code ∷ payload_bytes payload
sent addr (ReadCommand code) = write_address addr ∷ code ∷ []
sent addr (PagePlusRead page code) =
    write_address addr ∷ command.page_plus_read ∷ 0x02 ∷ page ∷ code ∷ []
sent addr (ReadCoefficients code side) =
    write_address addr ∷ command.coefficients ∷ 0x02 ∷ code ∷ side ∷ []

-- a read, and not a write
abbrev pub is_read_message : Message → Bool
is_read_message (SendByte code) = false
is_read_message (WriteByte code byte) = false
is_read_message (WriteWord code word) = false
is_read_message (PagePlusWrite page code payload) = false
is_read_message (ReadCommand code) = true
is_read_message (PagePlusRead page code) = true
is_read_message (ReadCoefficients code side) = true

-- how many bytes of payload the answer to a read has, and whether a count stands before them
abbrev pub answer_length : Message → ℕ
answer_length (PagePlusRead page code) = payload_length code
answer_length (ReadCommand code) = payload_length code
answer_length (ReadCoefficients code side) = 5
answer_length (SendByte code) = 0
answer_length (WriteByte code byte) = 0
answer_length (WriteWord code word) = 0
answer_length (PagePlusWrite page code payload) = 0

abbrev pub has_count : Message → Bool
has_count (PagePlusRead page code) = true
has_count (ReadCoefficients code side) = true
has_count (ReadCommand code) = false
has_count (SendByte code) = false
has_count (WriteByte code byte) = false
has_count (WriteWord code word) = false
has_count (PagePlusWrite page code payload) = false

-- what the device sends before the PEC
abbrev pub answered : ℕ → Message → List ℕ → List ℕ
answered addr request payload =
    if has_count request then read_address addr ∷ length payload ∷ payload
    else read_address addr ∷ payload

-- PAGE_PLUS carries every code but PAGE, PAGE_PLUS_WRITE, PAGE_PLUS_READ and COEFFICIENTS
abbrev pub is_carried : ℕ → Bool
is_carried code = not (
    code == command.page || code == command.page_plus_write || code == command.page_plus_read
    || code == command.coefficients)

-- a code that a plain packet writes, and one that a plain packet reads
abbrev pub is_plain_write : ℕ → Bool
is_plain_write code = is_written code && not (code == command.page_plus_write)

abbrev pub is_plain_read : ℕ → Bool
is_plain_read code =
    is_read code && not (code == command.page_plus_read || code == command.coefficients)

-- the code has the layout
abbrev pub fits_layout : Message → Bool
fits_layout (SendByte code) = is_plain_write code && payload_length code == 0
fits_layout (WriteByte code byte) = is_plain_write code && payload_length code == 1
fits_layout (WriteWord code word) = is_plain_write code && payload_length code == 2
fits_layout (PagePlusWrite page code payload) =
    is_carried code && is_written code && payload_length code == length (payload_bytes payload)
fits_layout (ReadCommand code) = is_plain_read code
fits_layout (PagePlusRead page code) = is_carried code && is_read code
fits_layout (ReadCoefficients code side) = true

-- each element of the list is a byte
abbrev pub AreBytes : List ℕ → Type 0
AreBytes bytes = (place : ℕ) → slice_index bytes place < 2 ^ 8

-- bytes, and the PEC of those before them and of these
abbrev pub with_pec : List ℕ → List ℕ → List ℕ
with_pec before bytes = bytes ++ pec_of (before ++ bytes) ∷ []

-- the bytes are all those of a packet that writes
pub record IsWrite (addr : ℕ) (message : Message) (bytes : List ℕ) : Type 0 where
  pub writes : is_read_message message ≡ false
  pub fits : fits_layout message ≡ true
  pub spelled : bytes ≡ with_pec [] (sent addr message)

-- the bytes are those of a read before its repeated start
pub record IsRequest (addr : ℕ) (message : Message) (bytes : List ℕ) : Type 0 where
  pub reads : is_read_message message ≡ true
  pub fits : fits_layout message ≡ true
  pub spelled : bytes ≡ sent addr message

-- the bytes are those of a read after its repeated start
pub record IsAnswer (addr : ℕ) (request : Message) (payload bytes : List ℕ) : Type 0 where
  pub reads : is_read_message request ≡ true
  pub fits : fits_layout request ≡ true
  pub counted : length payload ≡ answer_length request
  pub spelled : bytes ≡ with_pec (sent addr request) (answered addr request payload)
