-- The read of any command code and any number of bytes, with PEC: SMBus's read byte and read word, and longer ones of
-- the same form. The host sends the address and the code; after a repeated start the device answers the bytes and the
-- PEC, which covers the request too. The order of the faults and their places are this project's own choice.
use Rattle.std.specs.Prelude.{◌≡◌, ℕ, ◌+◌, ◌-◌, List, [], ◌∷◌, length, slice_range, Option}
use Rattle.pm_table.specs.Rules.{first}
use Rattle.pm_frame.specs.declared.fault.FrameFault.{FrameFault}
use Rattle.pm_frame.specs.Fault.{address_fault, length_fault, pec_fault}
use Rattle.pm_frame.specs.Layout.{write_address, read_address, with_pec}

-- the most bytes of payload that are read at once
abbrev pub most_read : ℕ
most_read = 32

-- the bytes before the repeated start
abbrev pub code_request : ℕ → ℕ → List ℕ
code_request addr code = write_address addr ∷ code ∷ []

-- the bytes are those after the repeated start of a read of `size` bytes, with this payload
pub record IsPlainAnswer (addr code size : ℕ) (payload bytes : List ℕ) : Type 0 where
  pub counted : length payload ≡ size
  pub spelled : bytes ≡ with_pec (code_request addr code) (read_address addr ∷ payload)

-- the payload of a whole answer: between the address and the PEC
abbrev pub plain_payload : List ℕ → List ℕ
plain_payload bytes = slice_range bytes 1 (length bytes - 1)

-- what is wrong with the bytes that came back: F1 for no byte or another address, F2 and F3 for another number of bytes
-- than asked for, F5 for a wrong PEC
unfoldable pub plain_read_fault : ℕ → ℕ → ℕ → List ℕ → Option FrameFault
plain_read_fault addr code size bytes = first (
    address_fault (read_address addr) bytes ∷
    length_fault (size + 2) bytes ∷
    pec_fault (code_request addr code) bytes ∷
    [])
