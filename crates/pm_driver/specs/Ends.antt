-- What the end of a job is worth at the moment when the call returns it: this project's own choice.
use Rattle.std.specs.Prelude.{◌≡◌, ℕ, Option, Some, None, IsSomeAnd}
use Rattle.pm_table.specs.declared.cell.Cell.{Cell}
use Rattle.pm_model.specs.Settings.{word_at}
use Rattle.pm_device.specs.Held.{Held, shape_for}
use Rattle.pm_host.specs.declared.job.JobEnd.{JobEnd}
use Rattle.pm_host.specs.declared.job.JobEnd.TheVariants.{Done, Differs, Learned}
use Rattle.pm_host.specs.declared.knowledge.Standing.TheVariants.{Confirmed}
use Rattle.pm_host.specs.Summary.{Summary, standing_at, format_at}
use Rattle.pm_host.specs.Transcript.{Job, Order, Check, Learn}

-- the host calls the word confirmed, and the converter holds it
abbrev pub Stands : Summary → Held → Cell → ℕ → Type 0
Stands host held cell word =
    (standing_at host cell ≡ Confirmed word) × (word_at held.words cell ≡ word)

-- An order that is done stands with its word, one that differs with the word that was read. A check that is done
-- stands with some word. A learn that learned has the host hold the converter's own format.
abbrev pub EndSays : Job → Summary → Held → JobEnd → Type 0
EndSays (Order cell word) host held Done = Stands host held cell word
EndSays (Order cell word) host held (Differs read) = Stands host held cell read
EndSays (Check cell) host held Done = (word : ℕ) × Stands host held cell word
EndSays (Learn output) host held Learned =
    IsSomeAnd (format_at host output) (λ shape. shape ≡ shape_for held.config output)
EndSays job host held end = Unit {0}

-- the cell whose word an end tells, by the good answer with which the job ended
abbrev pub cell_of_end : Job → JobEnd → Option Cell
cell_of_end (Order cell word) Done = Some cell
cell_of_end (Order cell word) (Differs read) = Some cell
cell_of_end (Check cell) Done = Some cell
cell_of_end job end = None
