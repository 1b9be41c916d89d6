-- Which messages share their packet error code, so that neither it nor a host that trusts it can tell them apart. The PEC
-- is SMBus's; the layouts are those of this crate.
use Rattle.std.specs.Prelude.{◌≡◌, ◌↔◌, ◌<◌, ◌^◌, ℕ, List, [], ◌∷◌, length, bit_xor}
use Rattle.pm_frame.specs.declared.message.Message.TheVariants.{PagePlusWrite, ReadCommand, PagePlusRead}
use Rattle.pm_frame.specs.declared.message.Payload.{Payload}
use Rattle.pm_frame.specs.LateAnswers.{request_code}
use Rattle.pm_frame.specs.Layout.{payload_bytes, sent}
use Rattle.pm_frame.specs.Pec.{pec_of}

-- what changed from one list of bytes to another of its length, byte by byte
abbrev pub changes : List ℕ → List ℕ → List ℕ
changes [] other = []
changes (x ∷ bytes) [] = []
changes (x ∷ bytes) (y ∷ other) = bit_xor x y ∷ changes bytes other

-- Two messages of one length share their PEC exactly where what changed between them has the PEC 0 (`messages`). So two
-- reads of outputs' registers share it exactly where the PEC of what changed in the page is what changed in the code
-- (`reads`), as 01h and 07h, 02h and 0Eh are; two plain reads of codes never do (`plain`); and two PAGE_PLUS_WRITEs of one
-- length do exactly where page, code and payload, as far as they changed, have the PEC 0 (`writes`).
pub record CodesAreShared : Type 0 where
  pub messages : (bytes other : List ℕ) → length bytes ≡ length other →
      (pec_of bytes ≡ pec_of other ↔ pec_of (changes bytes other) ≡ 0)
  pub reads : (addr page other_page code other_code : ℕ) → code < 2 ^ 8 → other_code < 2 ^ 8 →
      page < 2 ^ 8 → other_page < 2 ^ 8 →
      (request_code addr (PagePlusRead page code) ≡ request_code addr (PagePlusRead other_page other_code)
      ↔ pec_of (bit_xor page other_page ∷ []) ≡ bit_xor code other_code)
  pub plain : (addr code other_code : ℕ) → code < 2 ^ 8 → other_code < 2 ^ 8 →
      request_code addr (ReadCommand code) ≡ request_code addr (ReadCommand other_code) → code ≡ other_code
  pub writes : (addr page other_page code other_code : ℕ) (payload other : Payload) →
      length (payload_bytes payload) ≡ length (payload_bytes other) →
      (pec_of (sent addr (PagePlusWrite page code payload)) ≡ pec_of (sent addr (PagePlusWrite other_page other_code other))
      ↔ pec_of (bit_xor page other_page ∷ bit_xor code other_code ∷ changes (payload_bytes payload) (payload_bytes other)) ≡ 0)
