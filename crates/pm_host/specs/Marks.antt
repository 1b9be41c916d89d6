-- The marks of what a host did and learned about its cells, newest first, and those of a transcript:
-- this project's own choice.
use Rattle.std.specs.Prelude.{ℕ, if◌then◌else◌, List, [], ◌∷◌, ◌++◌, Option, Some, None, option_map, option_and_then, option_to_list}
use Rattle.pm_table.specs.declared.cell.Cell.{Cell}
use Rattle.pm_host.specs.declared.command.Command.{Command}
use Rattle.pm_host.specs.declared.command.Command.TheVariants.{RestoreUserAll}
use Rattle.pm_host.specs.Answers.{good_word}
use Rattle.pm_host.specs.Transcript.{Setup, Job, Order, Check, Send, Entry, Accepted, Finished, Got, Restarted, open_job, told_since}
use Rattle.pm_host.specs.Transcript.{is_write_turn}

pub data Mark : Type 0 where
  -- a write of the cell began to be sent
  Put : (cell : Cell) (word : ℕ) → Mark
  -- a good answer for the cell came
  Good : (cell : Cell) (word : ℕ) → Mark
  -- a restore of the outputs' settings began to be sent
  Restored : Mark
  -- the host restarted
  Restart : Mark

-- the mark of a command that begins to be sent: a restore leaves one
abbrev pub send_marks : Command → List Mark
send_marks RestoreUserAll = Restored ∷ []
send_marks _ = []

-- the write of a cell, or the restore, that an open job sends, and the cell that it reads
abbrev pub put_by : Option Job → List Entry → List Mark
put_by (Some (Order cell word)) told = if is_write_turn told then Put cell word ∷ [] else []
put_by (Some (Send command)) told = send_marks command
put_by job told = []

abbrev pub read_by : Option Job → List Entry → Option Cell
read_by (Some (Order cell word)) told = if is_write_turn told then None else Some cell
read_by (Some (Check cell)) told = Some cell
read_by job told = None

-- the write of a cell, or the restore, that begins to be sent with the newest entry
unfoldable pub puts : Setup → List Entry → List Mark
puts setup entries = put_by (open_job setup entries) (told_since entries)

-- the good answer for a cell that bytes are, which came back after these entries
unfoldable pub goods : Setup → List Entry → List ℕ → List Mark
goods setup before bytes = option_to_list (option_and_then
    (λ cell. option_map (λ word. Good cell word) (good_word setup.addr cell bytes))
    (read_by (open_job setup before) (told_since before)))

-- the marks of a transcript: a good answer stands before the write that its entry causes
abbrev pub marks : Setup → List Entry → List Mark
marks setup [] = []
marks setup (Accepted job ∷ before) = puts setup (Accepted job ∷ before) ++ marks setup before
marks setup (Finished acked ∷ before) = puts setup (Finished acked ∷ before) ++ marks setup before
marks setup (Got bytes ∷ before) =
    puts setup (Got bytes ∷ before) ++ (goods setup before bytes ++ marks setup before)
marks setup (Restarted ∷ before) = Restart ∷ marks setup before
