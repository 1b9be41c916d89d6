-- The read of one command code of an output by PAGE_PLUS_READ, with PEC, of any code that PAGE_PLUS carries (PMBus 1.3 Part II,
-- PAGE_PLUS_READ): a block write of page and code, and after a repeated start a block read, whose count stands before the
-- payload. A byte has the count 1, a word 2. The PEC covers the request too. A count is at most 32, as in SMBus 2.0. That, the
-- order of the faults and their places are this project's own choice.
use Rattle.std.specs.Prelude.{◌≡◌, ◌≤◌, ℕ, ◌+◌, Bool, not, ◌||◌, ◌==◌, nat_lt, List, [], ◌∷◌, length, slice_index, Option, IfSome, false}
use Rattle.std.specs.Option.{option_map_or}
use Rattle.pm_table.specs.Codes as command
use Rattle.pm_table.specs.Rules.{first, rule}
use Rattle.pm_frame.specs.declared.fault.FrameFault.{FrameFault}
use Rattle.pm_frame.specs.declared.fault.FrameFault.TheVariants.{WrongCount}
use Rattle.pm_frame.specs.Fault.{opening_fault, length_fault, pec_fault}
use Rattle.pm_frame.specs.Layout.{read_address, write_address, with_pec}
use Rattle.pm_frame.specs.PlainRead.{most_read}

-- the bytes before the repeated start: the block that is written has two bytes, the page and the code
abbrev pub paged_request : ℕ → ℕ → ℕ → List ℕ
paged_request addr page code = write_address addr ∷ command.page_plus_read ∷ 0x02 ∷ page ∷ code ∷ []

-- the bytes are those after the repeated start, with this payload, which has the size that was asked for, where one was
pub record IsPagedAnswer (addr page code : ℕ) (size : Option ℕ) (payload bytes : List ℕ) : Type 0 where
  pub counted : length payload ≤ most_read
  pub asked : IfSome size (λ n. length payload ≡ n)
  pub spelled : bytes ≡ with_pec (paged_request addr page code) (read_address addr ∷ length payload ∷ payload)

-- a count isn't the one that was asked for, or is above the most
abbrev pub is_other_count : Option ℕ → ℕ → Bool
is_other_count size count = option_map_or (λ n. not (count == n)) size false || nat_lt most_read count

-- what is wrong with the bytes that came back: F1 for no byte or another address, F2 where no count follows it, F4 where that
-- is above 32 or not the one asked for, F2 and F3 for another number of bytes than it says, F5 for a wrong PEC
unfoldable pub paged_fault : ℕ → ℕ → ℕ → Option ℕ → List ℕ → Option FrameFault
paged_fault addr page code size bytes =
    let count = slice_index bytes 1 in
    first (
    opening_fault (read_address addr) bytes ∷
    rule (is_other_count size count) (WrongCount 1) ∷
    length_fault (count + 3) bytes ∷
    pec_fault (paged_request addr page code) bytes ∷
    [])
