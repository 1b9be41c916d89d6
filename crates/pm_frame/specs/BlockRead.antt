-- The SMBus block read of one command code, with PEC. The host sends the address and the code; after a repeated start the
-- device answers a count, so many bytes, and the PEC, which covers the request too. A count is at most 32, as in SMBus 2.0
-- (later versions allow more). That, the order of the faults and their places are this project's own choice.
use Rattle.std.specs.Prelude.{◌≡◌, ◌≤◌, ℕ, ◌+◌, ◌-◌, nat_lt, List, [], ◌∷◌, length, slice_index, slice_range, Option}
use Rattle.pm_table.specs.Rules.{first, rule}
use Rattle.pm_frame.specs.declared.fault.FrameFault.{FrameFault}
use Rattle.pm_frame.specs.declared.fault.FrameFault.TheVariants.{WrongCount}
use Rattle.pm_frame.specs.Fault.{opening_fault, length_fault, pec_fault}
use Rattle.pm_frame.specs.Layout.{read_address, with_pec}
use Rattle.pm_frame.specs.PlainRead.{code_request, most_read}

-- the bytes are those after the repeated start of a block read, with this payload
pub record IsBlockAnswer (addr code : ℕ) (payload bytes : List ℕ) : Type 0 where
  pub counted : length payload ≤ most_read
  pub spelled : bytes ≡ with_pec (code_request addr code) (read_address addr ∷ length payload ∷ payload)

-- the payload of a whole answer: between the count and the PEC
abbrev pub block_payload : List ℕ → List ℕ
block_payload bytes = slice_range bytes 2 (length bytes - 1)

-- what is wrong with the bytes that came back: F1 for no byte or another address, F2 where no count follows it, F4 where
-- that is above 32, F2 and F3 for another number of bytes than it says, F5 for a wrong PEC
unfoldable pub block_fault : ℕ → ℕ → List ℕ → Option FrameFault
block_fault addr code bytes =
    let count = slice_index bytes 1 in
    first (
    opening_fault (read_address addr) bytes ∷
    rule (nat_lt most_read count) (WrongCount 1) ∷
    length_fault (count + 3) bytes ∷
    pec_fault (code_request addr code) bytes ∷
    [])
