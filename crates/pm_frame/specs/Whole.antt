-- What a view of a packet's bytes keeps of them. No public clause speaks of this.
use Rattle.std.specs.Prelude.{◌≡◌, ◌≢◌, ◌≤◌, ℕ, List, length, slice_index}
use Rattle.pm_table.specs.Codes as command
use Rattle.pm_frame.specs.Layout.{AreBytes}

-- the bytes are bytes, as many as a packet that writes has, or the request of one that reads
pub record IsWhole (bytes : List ℕ) : Type 0 where
  pub are_bytes : AreBytes bytes
  pub two : 2 ≤ length bytes
  pub carries : slice_index bytes 1 ≡ command.page_plus_write → 6 ≤ length bytes
  pub carries_word : slice_index bytes 1 ≡ command.page_plus_write → length bytes ≤ 8
  pub reads_page : slice_index bytes 1 ≡ command.page_plus_read → length bytes ≡ 5
  pub reads_coefficients : slice_index bytes 1 ≡ command.coefficients → length bytes ≡ 5
  pub plain : slice_index bytes 1 ≢ command.page_plus_write → length bytes ≤ 5
