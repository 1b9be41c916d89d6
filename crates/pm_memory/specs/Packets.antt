-- A packet as plain numbers, and what they mean: the message that stands in pm_frame's layouts.
use Rattle.std.specs.Prelude.{◌≡◌, ◌≤◌, ◌+◌, ◌*◌, ℕ, nat_lt, if◌then◌else◌, ◌==◌, ◌&&◌, List, drop, replicate, take, slice_index}
use Rattle.std.specs.Prelude.{Option, Some, None}
use Rattle.std.specs.Option.{option_map, option_map_or}
use Rattle.pm_frame.specs.declared.fault.FrameFault.{FrameFault}
use Rattle.pm_frame.specs.declared.message.Message.{Message}
use Rattle.pm_frame.specs.declared.message.Message.TheVariants.{SendByte, WriteByte, WriteWord, PagePlusWrite, ReadCommand, PagePlusRead}
use Rattle.pm_frame.specs.declared.message.Message.TheVariants.{ReadCoefficients}
use Rattle.pm_frame.specs.declared.message.Payload.{Payload}
use Rattle.pm_frame.specs.declared.message.Payload.TheVariants.{Empty, Byte, Word}
use Rattle.pm_frame.specs.Fault.{answer_fault}
use Rattle.pm_frame.specs.FaultWords.{frame_fault_number}
use Rattle.pm_frame.specs.Layout.{fits_layout, is_read_message}
use Rattle.pm_frame.specs.PlainRead.{most_read, plain_read_fault}
use Rattle.pm_host.specs.Refusals.{is_within}
use Rattle.pm_memory.specs.declared.answer.PayloadImage.{PayloadImage}
use Rattle.pm_memory.specs.declared.other_read.BlockImage.{BlockImage}
use Rattle.pm_memory.specs.declared.packet.PacketImage.{PacketImage}
use Rattle.pm_memory.specs.Numbers.{accepted, no_address, no_packet}

-- a byte is a word below 256
abbrev pub byte_of_word : ℕ → Option ℕ
byte_of_word word = if nat_lt word 256 then Some word else None

-- what a write carries, by how many bytes that is
abbrev pub payload_of_numbers : ℕ → ℕ → Option Payload
payload_of_numbers count word =
    if count == 0 then Some Empty
    else (if count == 1 then option_map (λ byte. Byte byte) (byte_of_word word)
    else (if count == 2 then Some (Word word) else None))

-- the message; None where the numbers mean none
abbrev pub packet_message : PacketImage → Option Message
packet_message p =
    if p.kind == 1 then Some (SendByte p.code)
    else (if p.kind == 2 then option_map (λ byte. WriteByte p.code byte) (byte_of_word p.word)
    else (if p.kind == 3 then Some (WriteWord p.code p.word)
    else (if p.kind == 4
    then option_map (λ payload. PagePlusWrite p.page p.code payload) (payload_of_numbers p.count p.word)
    else (if p.kind == 5 then Some (ReadCommand p.code)
    else (if p.kind == 6 then Some (PagePlusRead p.page p.code)
    else (if p.kind == 7 then Some (ReadCoefficients p.code p.page) else None))))))

-- a packet is written: the device has an address, and the message its layout
abbrev pub written_number : ℕ → Option Message → ℕ
written_number address message =
    if is_within 0x08 0x77 address
    then option_map_or (λ m. if fits_layout m then accepted else no_packet) message no_packet
    else no_address

-- a packet is read: it is refused with this fault, or it isn't
abbrev pub read_number : ℕ → Option FrameFault → ℕ
read_number address fault =
    if is_within 0x08 0x77 address then option_map_or frame_fault_number fault accepted
    else no_address

-- an answer is read: the message is a request that has its layout, and the bytes are refused with this fault, or
-- they aren't
abbrev pub request_number : ℕ → Message → List ℕ → ℕ
request_number address message bytes =
    if is_read_message message && fits_layout message
    then option_map_or frame_fault_number (answer_fault address message bytes) accepted
    else no_packet

abbrev pub answer_number : ℕ → Option Message → List ℕ → ℕ
answer_number address message bytes =
    if is_within 0x08 0x77 address then option_map_or (λ m. request_number address m bytes) message no_packet
    else no_address

-- the bytes of a payload
abbrev pub payload_of : PayloadImage → List ℕ
payload_of payload = take payload.length payload.bytes

-- A payload's count is that of its bytes, zeros stand behind these, and it has the word that its first two are, the low one first.
pub record HasPayload (payload : PayloadImage) : Type 0 where
  pub count : payload.length ≤ 5
  pub rest : drop payload.length payload.bytes ≡ drop payload.length (replicate 5 0)
  pub word : payload.word ≡ slice_index payload.bytes 0 + 256 * slice_index payload.bytes 1

-- the payload of a block read and of a plain read
abbrev pub block_of : BlockImage → List ℕ
block_of block = take block.length block.bytes

-- its count is that of its bytes, and zeros stand behind these
pub record HasBlock (block : BlockImage) : Type 0 where
  pub count : block.length ≤ 32
  pub rest : drop block.length block.bytes ≡ drop block.length (replicate 32 0)

-- the number that a read of `size` bytes of a code answers: at most 32 are asked for
abbrev pub plain_read_number : ℕ → ℕ → ℕ → List ℕ → ℕ
plain_read_number address code size bytes =
    if is_within 0x08 0x77 address
    then (if nat_lt most_read size then no_packet
    else option_map_or frame_fault_number (plain_read_fault address code size bytes) accepted)
    else no_address
