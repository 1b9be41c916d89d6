-- Reads of any code by PAGE_PLUS, as C asks for them: the definitions of pm_frame. This project's own choice.
use Rattle.std.specs.Prelude.{◌≡◌, ℕ, ◌+◌, ◌==◌, ◌&&◌, not, nat_lt, if◌then◌else◌, Bool, List, take, Option, Some, None}
use Rattle.std.specs.Option.{option_map_or}
use Rattle.pm_frame.specs.FaultWords.{frame_fault_number}
use Rattle.pm_frame.specs.Layout.{is_carried}
use Rattle.pm_frame.specs.PagedRead.{paged_fault, paged_request}
use Rattle.pm_frame.specs.PlainRead.{most_read}
use Rattle.pm_host.specs.Refusals.{is_within}
use Rattle.pm_memory.specs.declared.sending_image.SendingImage.{SendingImage}
use Rattle.pm_memory.specs.Numbers.{accepted, no_address, no_packet}

-- the size that is asked for; none of a block, which 0 asks for
abbrev pub size_asked : ℕ → Option ℕ
size_asked size = if size == 0 then None else Some size

-- how many bytes a whole answer has at most: the read address, the count, the payload and the packet error code
abbrev pub paged_answer : ℕ → ℕ
paged_answer size = if size == 0 then 35 else size + 3

-- PAGE_PLUS carries the code, and so many bytes are read at once
abbrev pub is_page_plus_read : ℕ → ℕ → Bool
is_page_plus_read code size = is_carried code && not (nat_lt most_read size)

abbrev pub paged_number : ℕ → ℕ → ℕ → ℕ
paged_number address code size =
    if is_within 0x08 0x77 address then (if is_page_plus_read code size then accepted else no_packet) else no_address

-- the number that such a read answers
abbrev pub read_paged_number : ℕ → ℕ → ℕ → ℕ → List ℕ → ℕ
read_paged_number address page code size bytes =
    if is_within 0x08 0x77 address
    then (if is_page_plus_read code size
    then option_map_or frame_fault_number (paged_fault address page code (size_asked size) bytes) accepted
    else no_packet)
    else no_address

-- the request is to be sent, to which a whole answer has so many bytes
pub record IsPagedSending (address page code whole : ℕ) (sending : SendingImage) : Type 0 where
  pub kind : sending.kind ≡ 2
  pub answer : sending.answer ≡ whole
  pub frame : take sending.length sending.bytes ≡ paged_request address page code
