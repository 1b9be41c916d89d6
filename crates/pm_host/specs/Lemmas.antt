-- Facts on messages and on what is known that proofs above take by name. Each stands for a clause of its definition: which
-- way the message of a cell or of a question goes, and what another cell's write leaves.
use Rattle.std.specs.Prelude.{◌≡◌, ℕ, ℤ, true, false, List, ◌∷◌, Option, Some, None, length, option_map}
use Rattle.std.specs.Option.{option_and_then}
use Rattle.std.proofs.Common.{rules, subst}
use Rattle.std.proofs.lemmas.List.{length-replicate}
use Rattle.std.proofs.lemmas.Option.{same_Some}
use Rattle.pm_table.specs.declared.cell.Cell.{Cell}
use Rattle.pm_table.specs.Cell.{output_of, places, same_cell}
use Rattle.pm_table.specs.RuleLemmas.{or-none}
use Rattle.pm_frame.specs.Layout.{is_read_message}
use Rattle.pm_host.specs.declared.job.Job.{Job}
use Rattle.pm_host.specs.declared.job.Job.TheVariants as job
use Rattle.pm_host.specs.declared.knowledge.Possible.TheVariants.{Any}
use Rattle.pm_host.specs.declared.question.Question.{Question}
use Rattle.pm_host.specs.Jobs.{accepted_job, begin_fault}
use Rattle.pm_host.specs.Known.{all_any}
use Rattle.pm_host.specs.Marks.{Mark, Put}
use Rattle.pm_host.specs.Messages.{cell_read, cell_write}
use Rattle.pm_host.specs.Possible.{possible_of}
use Rattle.pm_host.specs.Question.{question_message}
use Rattle.pm_host.specs.Refusals.{job_fault, micro_fault, micro_word, order_fault, range_fault, voltage_fault}
use Rattle.pm_host.specs.Summary.{Summary, format_at}
use Rattle.pm_host.specs.Transcript as host

-- The message that reads a cell is a request.
pub cell_read_is_request : (cell : Cell) → is_read_message (cell_read cell) ≡ true
cell_read_is_request = search rules

-- The message that writes a cell is no request.
pub writes_cell : (cell : Cell) (word : ℕ) → is_read_message (cell_write cell word) ≡ false
writes_cell = search rules

-- The message of a question is a request.
pub reads_question : (question : Question) → is_read_message (question_message question) ≡ true
reads_question = search rules

-- A write leaves the possible words of another cell.
pub possible_of-put_other : (before : List Mark) (cell d : Cell) (word : ℕ) → same_cell cell d ≡ false
    → possible_of (Put cell word ∷ before) d ≡ possible_of before d
unfolding possible_of
possible_of-put_other = search rules

-- The list of places at which any word is possible has as many elements as there are places.
pub all_any-length : length all_any ≡ places
unfolding all_any
all_any-length = length-replicate places Any

-- An order in microvolts that isn't refused has no fault as the order of its word: by the word that it has.
word-free : (s : Summary) (cell : Cell) (word : Option ℕ) (job : host.Job) →
    option_map (λ w. host.Order cell w) word ≡ Some job →
    option_and_then (λ w. order_fault s cell w) word ≡ None → job_fault s job ≡ None
word-free s cell None job is h = cc
word-free s cell (Some word) job is h = subst (λ j. job_fault s j ≡ None) (same_Some (host.Order cell word) job is) h

-- An order in microvolts that isn't refused has no fault as the order of its word.
micro-free : (s : Summary) (cell : Cell) (x : ℤ) (job : host.Job) →
    option_map (λ w. host.Order cell w) (micro_word s cell x) ≡ Some job → micro_fault s cell x ≡ None →
    job_fault s job ≡ None
micro-free s cell x job is h =
    let past_voltage = (or-none (voltage_fault s cell) _ h).1 in
    let past_range = (or-none (option_and_then (λ shape. range_fault shape x) (format_at s (output_of cell))) _ past_voltage).1 in
    word-free s cell (micro_word s cell x) job is
    (or-none (option_and_then (λ w. order_fault s cell w) (micro_word s cell x)) None past_range).0

-- A job that isn't refused has no fault as the one that is accepted.
pub accepted-free : (s : Summary) (asked : Job) (accepted : host.Job) → accepted_job s asked ≡ Some accepted →
    begin_fault s asked ≡ None → job_fault s accepted ≡ None
accepted-free s (job.OrderMicro cell x) accepted is h = micro-free s cell x accepted is h
accepted-free s asked accepted is h = subst (λ o. option_and_then (job_fault s) o ≡ None) is h
