-- What the host holds after its transcript: its marks, and its job from one frame to the next.
use Rattle.std.specs.{List.range_with_len, Result.result_ok}
use Rattle.std.specs.Option.{option_map_or, option_or}
use Rattle.std.proofs.{lemmas.List.Elements.filter-append, lemmas.List.Folds.list_any-append}
use Rattle.std.proofs.Common.{rules, ◌≡◌, ℕ, suc, ◌+◌, ◌*◌, ◌/◌, ◌%◌, ◌≤◌, Bool, true, false, not, cond, eqb, List, [], ◌∷◌, length, set}
use Rattle.std.proofs.Common.{Option, Some, None, Result, Ok, Err, is_none, option_map, option_and_then, option_to_list, refl, add-one, ◌<◌}
use Rattle.std.proofs.Common.{get_or, replicate, sym, ap, ◌∙◌, inl, inr, arith, ◌||◌, ◌++◌, filter, reverse, map, subst, is_some, ◌-◌, ◌≢◌}
use Rattle.std.proofs.lemmas.Bool.{false≢true, cases_eq, eq-eqb, ne_eqb, or_right, eqb-true}
use Rattle.std.proofs.lemmas.List.{same_lists, length-set, get_or-set_same, get_or-set_other, length-replicate, get_or-replicate}
use Rattle.std.proofs.lemmas.List.{append-nil, reverse-append}
use Rattle.std.proofs.lemmas.List.FromFn.{length-map-range_with_len, get_or-map-range_with_len}
use Rattle.std.proofs.lemmas.Option.{none-some, same_Some}
use Rattle.pm_num.specs.AnyFormat.{Shape, InUlinear16}
use Rattle.pm_table.specs.{Coefficients.coefficients_of, Format.shape_in, Laws.CellsHavePlaces, RuleLemmas.or-none, VoutMode.mode_of}
use Rattle.pm_table.specs.{declared.cell.Cell.Cell, declared.fault.TableFault.TableFault, declared.reg.Reg.Reg}
use Rattle.pm_table.specs.{declared.vout_mode.VoutMode.VoutMode}
use Rattle.pm_table.specs.Cell.{IsCell, cell_in, place_of, places, same_cell, cell_accepts, is_output_cell}
use Rattle.pm_table.specs.Lemmas.{same_cell-itself, IsCell-eight}
use Rattle.pm_table.specs.declared.cell.Cell.TheVariants.{Protect, Out}
use Rattle.pm_table.specs.declared.vout_mode.VoutMode.TheVariants.{Linear, Direct}
use Rattle.pm_frame.specs.{Layout.is_read_message, declared.message.Message.Message}
use Rattle.pm_host.specs.{Laws.TranscriptsAreFollowed, Standing.standing_of, declared.command.Command.Command}
use Rattle.pm_host.specs.{declared.command.Command.TheVariants.RestoreUserAll, declared.host.Step.Step, declared.host.Told.Told}
use Rattle.pm_host.specs.{declared.job.JobEnd.JobEnd, declared.knowledge.Possible.Possible, declared.knowledge.Standing.Standing}
use Rattle.pm_host.specs.{declared.question.Question.Question, declared.stage.Stage.Stage}
use Rattle.pm_host.specs.Answers.{good_payload, good_word, good_mode, word_in}
use Rattle.pm_host.specs.Cells.{table, is_command}
use Rattle.pm_host.specs.Ended.{IsRead, StepTells, job_in, stage_job}
use Rattle.pm_host.specs.Frames.{CanSend, writes_output, writes_protect, reads_output, reads_protect, reads_mode, reads_coefficients}
use Rattle.pm_host.specs.Frames.{sends_command as frames_sends_command, frames_of, frames_from, frames_left}
use Rattle.pm_host.specs.Known.{known_more, Known, known_possible, known_standing, all_any, all_unknown, nothing_known, known_after}
use Rattle.pm_host.specs.Known.{known_now, HasPlaces}
use Rattle.pm_host.specs.Lemmas.{possible_of-put_other, all_any-length, cell_read_is_request, reads_question, writes_cell}
use Rattle.pm_host.specs.Marks.{Mark, Good, put_by, read_by, Put, Restored, Restart, marks, puts, goods}
use Rattle.pm_host.specs.Messages.{cell_read, mode_read, coefficients_read, cell_write, command_message}
use Rattle.pm_host.specs.Now.{job_stage, host_now, stage_of, AreTold}
use Rattle.pm_host.specs.Possible.{is_listed, once, is_possible, possible_from, words_since, possible_of, restart_seen_of, only, joined}
use Rattle.pm_host.specs.Question.{question_message, IsQuestion}
use Rattle.pm_host.specs.Refusals.{IsSetup, may_come, is_busy, sends_read, sends_write}
use Rattle.pm_host.specs.Sound.{IsOrdering, IsStage, IsSound}
use Rattle.pm_host.specs.Summary.{Summary, Change, stage_message, step_by, begins, finished, request_answered, change, idle, start}
use Rattle.pm_host.specs.Summary.{no_formats}
use Rattle.pm_host.specs.Summary.{format_at, read_back, question_answered, sending_in, marked, another, learned, mode_taken, read_another}
use Rattle.pm_host.specs.Summary.{answer_taken}
use Rattle.pm_host.specs.Summary.{host_next, step_of}
use Rattle.pm_host.specs.Told.{entry_told, is_of_frame}
use Rattle.pm_host.specs.Transcript.{Setup, Job, Order, Check, Learn, Send, Entry, Accepted, Finished, Got, Restarted, is_write_turn}
use Rattle.pm_host.specs.Transcript.{order_end, check_end, send_end, learn_end, job_end, vout_mode_told, coefficients_told}
use Rattle.pm_host.specs.Transcript.{coefficients_tries}
use Rattle.pm_host.specs.Transcript.{found, last_job, told_since, last_job_end, open_job, found_for, format_of_output, sending_of}
use Rattle.pm_host.specs.Transcript.{job_message}
use Rattle.pm_host.specs.declared.knowledge.Possible.TheVariants.{Any, Words}
use Rattle.pm_host.specs.declared.knowledge.Standing.TheVariants as standing
use Rattle.pm_host.specs.declared.knowledge.Standing.TheVariants.{Confirmed, Unknown}
use Rattle.pm_host.specs.declared.question.Question.TheVariants.{Mode, Coefficients, Word}
use Rattle.pm_host.specs.declared.stage.Stage.TheVariants.{Writes, Reads, Asks, Sends}

-- What one more entry makes of a job, by the look back and by the summary: the two agree.

-- the end of a job, the open job, its stage and its marks, by the last job and what was told since
abbrev pub end_by : Setup → Option Job → List Entry → Option JobEnd
end_by setup job told = option_and_then (λ j. job_end setup j told) job

-- the job while it is open
abbrev pub open_by : Setup → Option Job → List Entry → Option Job
open_by setup job told = cond (is_none (end_by setup job told)) job None

-- its stage
abbrev pub stage_by : Setup → Option Job → List Entry → Option Stage
stage_by setup job told = option_map (λ j. job_stage setup j told) (open_by setup job told)

-- the write that begins to be sent, and the good answer, as marks
abbrev pub puts_by : Setup → Option Job → List Entry → List Mark
puts_by setup job told = put_by (open_by setup job told) told

-- the good answer that came
abbrev pub goods_by : Setup → Option Job → List Entry → List ℕ → List Mark
goods_by setup job told bytes = option_to_list (option_and_then
    (λ cell. option_map (λ word. Good cell word) (good_word setup.addr cell bytes))
    (read_by (open_by setup job told) told))

-- the formats with the one that a learn found
abbrev pub formats_set : List (Option Shape) → ℕ → Option Shape → List (Option Shape)
formats_set formats output None = formats
formats_set formats output (Some shape) = set formats output (Some shape)

-- the formats after one more entry
abbrev pub formats_more : Setup → List (Option Shape) → Option Job → List Entry → List (Option Shape)
formats_more setup formats None told = formats
formats_more setup formats (Some (Order cell word)) told = formats
formats_more setup formats (Some (Check cell)) told = formats
formats_more setup formats (Some (Learn output)) told =
    formats_set formats output (option_and_then (λ shape. shape) (found setup output told))
formats_more setup formats (Some (Send sent)) told = formats

-- what the look back says of one more answer
abbrev pub got_change : Summary → Option Job → List Entry → List ℕ → Change
got_change s job told bytes = record {
  after = record {
    setup = s.setup;
    stage = stage_by s.setup job (Got bytes ∷ told);
    formats = formats_more s.setup s.formats job (Got bytes ∷ told);
    known = known_more (known_more s.known (goods_by s.setup job told bytes)) (puts_by s.setup job (Got bytes ∷ told));
  };
  step = step_by (end_by s.setup job (Got bytes ∷ told));
}

-- what the look back says of a write that was sent
abbrev pub finished_change : Summary → Option Job → List Entry → Bool → Change
finished_change s job told acked = record {
  after = record {
    setup = s.setup;
    stage = stage_by s.setup job (Finished acked ∷ told);
    formats = s.formats;
    known = known_more s.known (puts_by s.setup job (Finished acked ∷ told));
  };
  step = step_by (end_by s.setup job (Finished acked ∷ told));
}

-- what the look back says of a job that is accepted
abbrev pub accepted_change : Summary → Job → Change
accepted_change s job = record {
  after = record {
    setup = s.setup;
    stage = stage_by s.setup (Some job) [];
    formats = s.formats;
    known = known_more s.known (puts_by s.setup (Some job) []);
  };
  step = step_by (end_by s.setup (Some job) []);
}

-- a write is sent at this stage, a read is
abbrev pub writes_at : Option Stage → Bool
writes_at stage = option_map_or (λ message. not (is_read_message message)) (option_map stage_message stage) false

-- a read is sent at this stage
abbrev pub reads_at : Option Stage → Bool
reads_at stage = option_map_or is_read_message (option_map stage_message stage) false

-- the job is open and its next frame is a write
abbrev pub WritesBy : Setup → Option Job → List Entry → Type 0
WritesBy setup None told = ⊥
WritesBy setup (Some (Order cell word)) told = (is_none (order_end setup cell word told) ≡ true) × (is_write_turn told ≡ true)
WritesBy setup (Some (Check cell)) told = ⊥
WritesBy setup (Some (Learn output)) told = ⊥
WritesBy setup (Some (Send sent)) told = is_none (send_end setup told) ≡ true

-- the job is open and its next frame is a read
abbrev pub ReadsBy : Setup → Option Job → List Entry → Type 0
ReadsBy setup None told = ⊥
ReadsBy setup (Some (Order cell word)) told = (is_none (order_end setup cell word told) ≡ true) × (is_write_turn told ≡ false)
ReadsBy setup (Some (Check cell)) told = is_none (check_end setup cell told) ≡ true
ReadsBy setup (Some (Learn output)) told = is_none (learn_end setup output told) ≡ true
ReadsBy setup (Some (Send sent)) told = ⊥

-- the job's next frame is a write if the stage's is
pub WritesBy-from : (setup : Setup) (job : Option Job) (told : List Entry) → writes_at (stage_by setup job told) ≡ true
    → WritesBy setup job told
WritesBy-from = search rules

-- the job's next frame is a read if the stage's is
pub ReadsBy-from : (setup : Setup) (job : Option Job) (told : List Entry) → reads_at (stage_by setup job told) ≡ true
    → ReadsBy setup job told
ReadsBy-from = search rules

-- after a read comes a write, of the next pass
pub turn_after_read : (n passes : ℕ) → eqb (n % 2) 0 ≡ false
    → (eqb (suc n % 2) 0 ≡ true) × ((suc n / 2 ≡ n / 2 + 1) × (eqb (n / 2 + 1) passes ≡ eqb (suc n) (2 * passes)))
turn_after_read = search rules

-- what the summary makes of the end of a write is what the look back says
abbrev pub FinishedFollows : Summary → Option Job → List Entry → Bool → Type 0
FinishedFollows s job told acked = finished s (stage_by s.setup job told) acked ≡ finished_change s job told acked

-- what the summary makes of an answer is what the look back says
abbrev pub GotFollows : Summary → Option Job → List Entry → List ℕ → Type 0
GotFollows s job told bytes = request_answered s (stage_by s.setup job told) bytes ≡ got_change s job told bytes

-- a write was sent, of any job
pub finished_follows : (s : Summary) (job : Option Job) (told : List Entry) (acked : Bool) → WritesBy s.setup job told
    → FinishedFollows s job told acked
finished_follows = search rules

-- no frame was sent yet, and there is a pass
none_of : (passes : ℕ) → 1 ≤ passes → eqb 0 passes ≡ false
none_of = search rules

-- a job is accepted
pub accepted_follows : (s : Summary) (job : Job) → 1 ≤ s.setup.passes → begins s job ≡ accepted_change s job
accepted_follows = search rules

-- what came back for the read of an order: its word, whether that is the ordered one, and whether this
-- was the last pass
record OrderRead (s : Summary) (cell : Cell) (word : ℕ) (told : List Entry) (bytes : List ℕ) (read : Option ℕ) (done last : Bool) : Type 0
  where
    is : good_word s.setup.addr cell bytes ≡ read
    done_is : option_map_or (λ found. eqb found word) read false ≡ done
    last_is : eqb (suc (length told)) (2 * s.setup.passes) ≡ last
    reads : ReadsBy s.setup (Some (Order cell word)) told

-- an order read its cell back
order_read : {s : Summary} {cell : Cell} {word : ℕ} {told : List Entry} {bytes : List ℕ} (read : Option ℕ) (done last : Bool)
    → OrderRead s cell word told bytes read done last → GotFollows s (Some (Order cell word)) told bytes
order_read None true last facts = absurd (false≢true facts.done_is)
order_read {s = s} {told = told} None false true facts =
    let after = turn_after_read (length told) s.setup.passes facts.reads.1 in
    rw (facts.reads.0, facts.reads.1, facts.is, after.0, after.1.1, facts.last_is) refl
order_read {s = s} {told = told} None false false facts =
    let after = turn_after_read (length told) s.setup.passes facts.reads.1 in
    rw (facts.reads.0, facts.reads.1, facts.is, after.0, after.1.1, facts.last_is) (rw (after.0, after.1.0) refl)
order_read {s = s} {told = told} (Some found) true last facts =
    let after = turn_after_read (length told) s.setup.passes facts.reads.1 in
    rw (facts.reads.0, facts.reads.1, facts.is, after.0, facts.done_is) refl
order_read {s = s} {told = told} (Some found) false true facts =
    let after = turn_after_read (length told) s.setup.passes facts.reads.1 in
    rw (facts.reads.0, facts.reads.1, facts.is, after.0, facts.done_is, facts.last_is) (rw (after.1.1, facts.last_is) refl)
order_read {s = s} {told = told} (Some found) false false facts =
    let after = turn_after_read (length told) s.setup.passes facts.reads.1 in
    rw (facts.reads.0, facts.reads.1, facts.is, after.0, facts.done_is, facts.last_is)
    (rw (after.1.1, facts.last_is, after.0, after.1.0) refl)

-- what came back for the read of a check: its payload, and whether this was the last try
record CheckRead (s : Summary) (cell : Cell) (told : List Entry) (bytes : List ℕ) (payload : Option (List ℕ)) (last : Bool) : Type 0 where
  is : good_payload s.setup.addr (cell_read cell) bytes ≡ payload
  last_is : eqb (suc (length told)) s.setup.passes ≡ last
  reads : ReadsBy s.setup (Some (Check cell)) told

-- a check read its cell
check_read : {s : Summary} {cell : Cell} {told : List Entry} {bytes : List ℕ} (payload : Option (List ℕ)) (last : Bool)
    → CheckRead s cell told bytes payload last → GotFollows s (Some (Check cell)) told bytes
check_read = search rules

-- coefficients are read only after a mode
no_coefficients : (setup : Setup) (output : ℕ) (told : List Entry) → vout_mode_told setup output told ≡ None
    → coefficients_told setup output told ≡ None
no_coefficients setup output [] none = refl
no_coefficients setup output (Got bytes ∷ told) none =
    let before : vout_mode_told setup output told ≡ None =
    (or-none (vout_mode_told setup output told) (good_mode setup.addr output bytes) none).0 in
    rw (no_coefficients setup output told before, before) refl
no_coefficients setup output (Finished acked ∷ told) none = no_coefficients setup output told none
no_coefficients setup output (Accepted job ∷ told) none = no_coefficients setup output told none
no_coefficients setup output (Restarted ∷ told) none = no_coefficients setup output told none

-- a learn has told the mode in this byte, and is open
record ModeIsKnown (setup : Setup) (output : ℕ) (told : List Entry) (byte : ℕ) : Type 0 where
  mode : vout_mode_told setup output told ≡ Some byte
  direct : mode_of byte ≡ Ok Direct
  none : coefficients_told setup output told ≡ None
  open' : is_none (learn_end setup output told) ≡ true

-- every open learn that has its mode knows that mode
mode_is_known : (setup : Setup) (output : ℕ) (told : List Entry) (byte : ℕ) → vout_mode_told setup output told ≡ Some byte
    → is_none (learn_end setup output told) ≡ true → ModeIsKnown setup output told byte
mode_is_known = search rules

-- what came back for a read of VOUT_MODE: its payload, and whether this was the last try
record ModeRead (s : Summary) (output : ℕ) (told : List Entry) (bytes : List ℕ) (payload : Option (List ℕ)) (last : Bool) : Type 0 where
  is : good_payload s.setup.addr (mode_read output) bytes ≡ payload
  last_is : eqb (suc (length told)) s.setup.passes ≡ last
  some : 1 ≤ s.setup.passes
  none : vout_mode_told s.setup output told ≡ None
  open' : is_none (learn_end s.setup output told) ≡ true

-- a learn read VOUT_MODE
mode_read_follows : {s : Summary} {output : ℕ} {told : List Entry} {bytes : List ℕ} (payload : Option (List ℕ)) (last : Bool)
    → ModeRead s output told bytes payload last → GotFollows s (Some (Learn output)) told bytes
mode_read_follows {told = told} None true facts =
    rw (facts.open', facts.none, facts.is, add-one (length told), facts.last_is) refl
mode_read_follows {told = told} None false facts =
    rw (facts.open', facts.none, facts.is, add-one (length told), facts.last_is) (rw (facts.none, facts.is) refl)
mode_read_follows {s = s} {output = output} {told = told} {bytes = bytes} (Some payload) last facts =
    by_mode (mode_of (word_in payload)) refl where
      by_mode : (mode : Result VoutMode TableFault) → mode_of (word_in payload) ≡ mode → GotFollows s (Some (Learn output)) told bytes
      by_mode (Err fault) mode = rw (facts.open', facts.none, facts.is, mode) refl
      by_mode (Ok (Linear exponent)) mode = rw (facts.open', facts.none, facts.is, mode) refl
      by_mode (Ok Direct) mode =
          let no_more = no_coefficients s.setup output told facts.none in
          rw (facts.open', facts.none, facts.is, mode, no_more, none_of s.setup.passes facts.some) (rw (facts.none, facts.is) refl)

-- what came back for a read of COEFFICIENTS: its payload, and whether this was the last try
record CoefficientsRead (s : Summary) (output byte : ℕ) (told : List Entry) (bytes : List ℕ) (payload : Option (List ℕ)) (last : Bool) :
    Type 0 where
  is : good_payload s.setup.addr coefficients_read bytes ≡ payload
  last_is : eqb (suc (coefficients_tries s.setup output told)) s.setup.passes ≡ last
  known : ModeIsKnown s.setup output told byte

-- a learn read COEFFICIENTS
coefficients_read_follows : {s : Summary} {output byte : ℕ} {told : List Entry} {bytes : List ℕ} (payload : Option (List ℕ)) (last : Bool)
    → CoefficientsRead s output byte told bytes payload last → GotFollows s (Some (Learn output)) told bytes
coefficients_read_follows = search rules

-- a learn read what it asked for
learn_follows : (s : Summary) (output : ℕ) (told : List Entry) (bytes : List ℕ) (mode : Option ℕ)
    → vout_mode_told s.setup output told ≡ mode → 1 ≤ s.setup.passes → is_none (learn_end s.setup output told) ≡ true
    → GotFollows s (Some (Learn output)) told bytes
learn_follows s output told bytes None mode some open' =
    mode_read_follows {s = s} (good_payload s.setup.addr (mode_read output) bytes) (eqb (suc (length told)) s.setup.passes)
    (record { is = refl; last_is = refl; some = some; none = mode; open' = open' })
learn_follows s output told bytes (Some byte) mode some open' =
    coefficients_read_follows {s = s} (good_payload s.setup.addr coefficients_read bytes)
    (eqb (suc (coefficients_tries s.setup output told)) s.setup.passes)
    (record { is = refl; last_is = refl; known = mode_is_known s.setup output told byte mode open' })

-- a read was answered, of any job
pub got_follows : (s : Summary) (job : Option Job) (told : List Entry) (bytes : List ℕ) → 1 ≤ s.setup.passes
    → ReadsBy s.setup job told → GotFollows s job told bytes
got_follows s None told bytes some reads = absurd reads
got_follows s (Some (Order cell word)) told bytes some reads =
    let read = good_word s.setup.addr cell bytes in
    order_read {s = s} read (option_map_or (λ found. eqb found word) read false) (eqb (suc (length told)) (2 * s.setup.passes))
    (record { is = refl; done_is = refl; last_is = refl; reads = reads })
got_follows s (Some (Check cell)) told bytes some reads =
    check_read {s = s} (good_payload s.setup.addr (cell_read cell) bytes) (eqb (suc (length told)) s.setup.passes)
    (record { is = refl; last_is = refl; reads = reads })
got_follows s (Some (Learn output)) told bytes some reads =
    learn_follows s output told bytes (vout_mode_told s.setup output told) refl some reads
got_follows s (Some (Send sent)) told bytes some reads = absurd reads

-- Cells, their places, and lists with an element for each place.

-- the cell of another place is another cell
other_place : (cell : Cell) (place : ℕ) → place < places → (place ≡ place_of cell → ⊥) → same_cell cell (cell_in place) ≡ false
other_place = search rules

-- a list with an element for each of n places, and its element at one
pub length-table : {X : Type 0} (n : ℕ) (f : Cell → X) → length (table n f) ≡ n
unfolding table
length-table n f = length-map-range_with_len (λ place. f (cell_in place)) 0 n

-- the element at a place
get_or-table : {X : Type 0} (n : ℕ) (f : Cell → X) (k : ℕ) (d : X) → k < n → get_or (table n f) k d ≡ f (cell_in k)
unfolding table
get_or-table n f k d below = get_or-map-range_with_len (λ place. f (cell_in place)) 0 n k k d below (omega arith)

-- what a list has at a cell's place
pub table-at : {X : Type 0} → CellsHavePlaces → (f : Cell → X) (c : Cell) (d : X) → IsCell 8 c
    → get_or (table places f) (place_of c) d ≡ f c
table-at law f c d there = get_or-table places f (place_of c) d (law.below c there) ∙ ap f (law.back c there)

-- two lists that differ at one cell
pub table-set : {X : Type 0} → CellsHavePlaces → (f g : Cell → X) (c : Cell) (v : X) → IsCell 8 c → g c ≡ v
    → ((d : Cell) → same_cell c d ≡ false → g d ≡ f d) → table places g ≡ set (table places f) (place_of c) v
table-set law f g c v there at others =
    let n = places in
    let below = law.below c there in
    same_lists _ _ (length-table n g ∙ sym (length-set (table n f) (place_of c) v ∙ length-table n f)) (λ k d h.
    let within : k < n = let l = length-table n g in omega arith in
    let inside : place_of c < length (table n f) = let l = length-table n f in omega arith in
    elim (cases_eq k (place_of c)) [
      | inl e ↦ rw e (table-at law g c d there ∙ at ∙ sym (get_or-set_same (table n f) (place_of c) v d inside))
      | inr apart ↦
          get_or-table n g k d within ∙ others (cell_in k) (other_place c k within apart) ∙ sym (get_or-table n f k d within)
          ∙ sym (get_or-set_other (table n f) (place_of c) k v d apart)
    ])

-- a table of one element for every cell is a list of that element alone
pub table-same : {X : Type 0} (n : ℕ) (f : Cell → X) (v : X) → ((c : Cell) → f c ≡ v) → table n f ≡ replicate n v
table-same n f v same =
    same_lists _ _ (length-table n f ∙ sym (length-replicate n v)) (λ k d h.
    let within : k < n = let l = length-table n f in omega arith in
    get_or-table n f k d within ∙ same (cell_in k) ∙ sym (get_or-replicate n k v d within))

-- two lists with equal elements
pub table-agree : {X : Type 0} (n : ℕ) (f g : Cell → X) → ((c : Cell) → f c ≡ g c) → table n f ≡ table n g
table-agree = search rules

-- Lists in which each word stands once.

-- words other than x stay listed where x is left out
is_listed-filter : (w x : ℕ) → (x ≡ w → ⊥) → (ys : List ℕ) → is_listed w (filter (λ y. not (eqb y x)) ys) ≡ is_listed w ys
is_listed-filter w x differ [] = refl
is_listed-filter w x differ (y ∷ ys) =
    elim (cases_eq y x) [
      | inl same ↦
          let other : y ≡ w → ⊥ = λ e. differ (sym same ∙ e) in
          rw (eq-eqb y x same, ne_eqb y w other) (is_listed-filter w x differ ys)
      | inr apart ↦ rw (ne_eqb y x apart) (ap (λ b. eqb y w || b) (is_listed-filter w x differ ys))
    ]

-- nothing that is listed is lost
pub is_listed-once : (w : ℕ) (xs : List ℕ) → is_listed w (once xs) ≡ is_listed w xs
is_listed-once w [] = refl
is_listed-once w (x ∷ xs) =
    elim (cases_eq x w) [
      | inl same ↦ rw (eq-eqb x w same) refl
      | inr apart ↦ ap (λ b. eqb x w || b) (is_listed-filter w x apart (once xs) ∙ is_listed-once w xs)
    ]

-- one more word at the end
once_step : (w x : ℕ) (xs : List ℕ) (listed : Bool) → once (xs ++ w ∷ []) ≡ cond listed (once xs) (once xs ++ w ∷ [])
    → once (x ∷ (xs ++ w ∷ [])) ≡ cond (eqb x w || listed) (once (x ∷ xs)) (once (x ∷ xs) ++ w ∷ [])
once_step w x xs true h = rw (h, or_right (eqb x w) true refl) refl
once_step w x xs false h =
    rw (h, filter-append (λ y. not (eqb y x)) (once xs) (w ∷ [])) (elim (cases_eq x w) [
      | inl same ↦ rw (eq-eqb x w same, eq-eqb w x (sym same)) (ap (λ ys. x ∷ ys) (append-nil _))
      | inr apart ↦ rw (ne_eqb x w apart, ne_eqb w x (λ e. apart (sym e))) refl
    ])

-- one more word at the end of a list of any length comes in only if it isn't listed
pub once-push : (w : ℕ) (xs : List ℕ) → once (xs ++ w ∷ []) ≡ cond (is_listed w xs) (once xs) (once xs ++ w ∷ [])
once-push w [] = refl
once-push w (x ∷ xs) = once_step w x xs (is_listed w xs) (once-push w xs)

-- What the definitions say of the marks, one mark after another.

-- a mark that names a cell of eight outputs
abbrev pub IsMark : Mark → Type 0
IsMark (Put cell word) = IsCell 8 cell
IsMark (Good cell word) = IsCell 8 cell
IsMark Restored = Unit {0}
IsMark Restart = Unit {0}

-- a word that is listed leaves the list, and another is put at its end
listed_step : (word : ℕ) (xs : List ℕ) (listed : Bool) → is_listed word (once xs) ≡ listed
    → once (xs ++ word ∷ []) ≡ cond listed (once xs) (once xs ++ word ∷ [])
    → ◌≡◌ {A = Possible} (Words (record { items = once (xs ++ word ∷ []) })) (joined (Words (record { items = once xs })) word)
listed_step = search rules

-- one more write joins its word to those that were found
pub joined-from : (word : ℕ) (found : Option (List ℕ)) →
    possible_from (option_map (λ ws. word ∷ ws) found) ≡ joined (possible_from found) word
joined-from word None = refl
joined-from word (Some ws) =
    ap (λ xs. Words (record { items = once xs })) (reverse-append (word ∷ []) ws)
    ∙ listed_step word (reverse ws) (is_listed word (reverse ws)) (is_listed-once word (reverse ws)) (once-push word (reverse ws))

-- a write joins its word to those of its cell
pub possible_of-put_same : (before : List Mark) (cell : Cell) (word : ℕ)
    → possible_of (Put cell word ∷ before) cell ≡ joined (possible_of before cell) word
unfolding possible_of
possible_of-put_same before cell word = rw (same_cell-itself cell) (joined-from word (words_since before cell))

-- a good answer leaves its word alone
possible_of-good_same : (before : List Mark) (cell : Cell) (word : ℕ) → possible_of (Good cell word ∷ before) cell ≡ only word
unfolding possible_of
possible_of-good_same = search rules

-- it leaves the words of another cell where it was possible, and any word where it wasn't
possible_of-good_other : (before : List Mark) (cell d : Cell) (word : ℕ) → same_cell cell d ≡ false
    → possible_of (Good cell word ∷ before) d ≡ cond (is_possible word (possible_of before cell)) (possible_of before d) Any
unfolding possible_of
possible_of-good_other = search rules

-- what is said of a cell stays with the marks of another
standing_of-other : (before : List Mark) (cell d : Cell) (word : ℕ) → same_cell cell d ≡ false
    → (standing_of (Put cell word ∷ before) d ≡ standing_of before d) × (standing_of (Good cell word ∷ before) d ≡ standing_of before d)
standing_of-other = search rules

-- what is held of a cell
pub known_now-possible : CellsHavePlaces → (before : List Mark) (cell : Cell) → IsCell 8 cell
    → known_possible (known_now before) cell ≡ possible_of before cell
unfolding known_now
known_now-possible law before cell there = table-at law (possible_of before) cell Any there

-- what is said of it
pub known_now-standing : CellsHavePlaces → (before : List Mark) (cell : Cell) → IsCell 8 cell
    → known_standing (known_now before) cell ≡ standing_of before cell
unfolding known_now
known_now-standing law before cell there = table-at law (standing_of before) cell Unknown there

-- whether a restart was seen
pub known_now-seen : (before : List Mark) → (known_now before).seen ≡ restart_seen_of before
unfolding known_now
known_now-seen = search rules

-- what is known in equal parts is equal
same_known : {p q : List Possible} {s t : List Standing} {seen other : Bool} → p ≡ q → s ≡ t → seen ≡ other
    → ◌≡◌ {A = Known} (record { possible = p; standing = s; seen = seen }) (record { possible = q; standing = t; seen = other })
same_known = search rules

-- any word in each place
any_table : table places (λ _. Any) ≡ all_any
unfolding all_any table
any_table = search rules

-- without a mark nothing is known
pub known_now-nil : known_now [] ≡ nothing_known
unfolding known_now nothing_known all_any all_unknown table possible_of
known_now-nil = search rules

-- the list of possible words after a write
put_possible : CellsHavePlaces → (before : List Mark) (cell : Cell) (word : ℕ) → IsCell 8 cell
    → table places (possible_of (Put cell word ∷ before))
    ≡ set (table places (possible_of before)) (place_of cell) (joined (possible_of before cell) word)
put_possible law before cell word there =
    table-set law (possible_of before) (possible_of (Put cell word ∷ before)) cell (joined (possible_of before cell) word) there
    (possible_of-put_same before cell word) (λ d other. possible_of-put_other before cell d word other)

-- the list after a good answer, which was possible or not
good_possible : CellsHavePlaces → (before : List Mark) (cell : Cell) (word : ℕ) → IsCell 8 cell → (expected : Bool)
    → is_possible word (possible_of before cell) ≡ expected
    → table places (possible_of (Good cell word ∷ before))
    ≡ set (cond expected (table places (possible_of before)) all_any) (place_of cell) (only word)
good_possible law before cell word there true e =
    table-set law (possible_of before) (possible_of (Good cell word ∷ before)) cell (only word) there
    (possible_of-good_same before cell word)
    (λ d other. possible_of-good_other before cell d word other ∙ ap (λ b. cond b (possible_of before d) Any) e)
good_possible law before cell word there false e =
    table-set law (λ _. Any) (possible_of (Good cell word ∷ before)) cell (only word) there
    (possible_of-good_same before cell word)
    (λ d other. possible_of-good_other before cell d word other ∙ ap (λ b. cond b (possible_of before d) Any) e)
    ∙ ap (λ xs. set xs (place_of cell) (only word)) any_table

-- what is said of the cells after a write
put_standing : CellsHavePlaces → (before : List Mark) (cell : Cell) (word : ℕ) → IsCell 8 cell
    → table places (standing_of (Put cell word ∷ before)) ≡ set (table places (standing_of before)) (place_of cell) Unknown
put_standing law before cell word there =
    table-set law (standing_of before) (standing_of (Put cell word ∷ before)) cell Unknown there
    (rw (same_cell-itself cell) refl) (λ d other. (standing_of-other before cell d word other).0)

-- after a good answer
good_standing : CellsHavePlaces → (before : List Mark) (cell : Cell) (word : ℕ) → IsCell 8 cell
    → table places (standing_of (Good cell word ∷ before)) ≡ set (table places (standing_of before)) (place_of cell) (Confirmed word)
good_standing law before cell word there =
    table-set law (standing_of before) (standing_of (Good cell word ∷ before)) cell (Confirmed word) there
    (rw (same_cell-itself cell) refl) (λ d other. (standing_of-other before cell d word other).1)

-- after a restart it is as without a mark
restart_possible : (before : List Mark) (cell : Cell) → possible_of (Restart ∷ before) cell ≡ possible_of [] cell
unfolding possible_of
restart_possible = search rules

-- that is any word in each place
nil_possible : table places (possible_of []) ≡ all_any
unfolding all_any table possible_of
nil_possible = search rules

-- with no marks nothing is said of any cell
unknown_all : replicate places Unknown ≡ all_unknown
unfolding all_unknown
unknown_all = search rules

-- after a restore nothing is known of another cell than WRITE_PROTECT, and of that as much as before
restored_cell : (before : List Mark) (cell : Cell) → same_cell Protect cell ≡ false
    → (possible_of (Restored ∷ before) cell ≡ Any) × (standing_of (Restored ∷ before) cell ≡ Unknown)
unfolding possible_of
restored_cell = search rules

-- the list of possible words after a restore
restored_possible : CellsHavePlaces → (before : List Mark)
    → table places (possible_of (Restored ∷ before)) ≡ set all_any (place_of Protect) (known_possible (known_now before) Protect)
unfolding possible_of
restored_possible law before =
    table-set law (λ _. Any) (possible_of (Restored ∷ before)) Protect (possible_of before Protect) tt refl
    (λ d other. (restored_cell before d other).0)
    ∙ ap (λ xs. set xs (place_of Protect) (possible_of before Protect)) any_table
    ∙ ap (λ p. set all_any (place_of Protect) p) (sym (known_now-possible law before Protect tt))

-- what is said of the cells after a restore
restored_standing : CellsHavePlaces → (before : List Mark)
    → table places (standing_of (Restored ∷ before)) ≡ set all_unknown (place_of Protect) (known_standing (known_now before) Protect)
restored_standing law before =
    table-set law (λ _. Unknown) (standing_of (Restored ∷ before)) Protect (standing_of before Protect) tt refl
    (λ d other. (restored_cell before d other).1)
    ∙ ap (λ xs. set xs (place_of Protect) (standing_of before Protect)) (table-same places (λ _. Unknown) Unknown (λ _. refl) ∙ unknown_all)
    ∙ ap (λ s. set all_unknown (place_of Protect) s) (sym (known_now-standing law before Protect tt))

-- one more mark makes of what is known what `known_after` says
pub known_now-next : CellsHavePlaces → (before : List Mark) (m : Mark) → IsMark m
    → known_now (m ∷ before) ≡ known_after (known_now before) m
unfolding known_now nothing_known
known_now-next law before (Put cell word) there =
    same_known
    (put_possible law before cell word there
    ∙ ap (λ p. set (table places (possible_of before)) (place_of cell) (joined p word)) (sym (known_now-possible law before cell there)))
    (put_standing law before cell word there) refl
known_now-next law before (Good cell word) there =
    let held = known_now-possible law before cell there in
    same_known
    (good_possible law before cell word there (is_possible word (possible_of before cell)) refl
    ∙ ap (λ p. set (cond (is_possible word p) (table places (possible_of before)) all_any) (place_of cell) (only word)) (sym held))
    (good_standing law before cell word there)
    (ap (λ p. not (is_possible word p) || restart_seen_of before) (sym held))
known_now-next law before Restored there = same_known (restored_possible law before) (restored_standing law before) refl
known_now-next law before Restart there =
    same_known
    (table-agree places (possible_of (Restart ∷ before)) (possible_of []) (λ cell. restart_possible before cell) ∙ nil_possible)
    (table-same places (standing_of (Restart ∷ before)) Unknown (λ _. refl) ∙ unknown_all) refl

-- What a host holds after its transcript, one entry after another.

-- a job that wasn't refused for its cell, its word or its output
abbrev pub IsJob : Setup → Option Job → Type 0
IsJob setup None = Unit {0}
IsJob setup (Some (Order cell word)) = IsCell setup.outputs cell × (cell_accepts cell word ≡ true)
IsJob setup (Some (Check cell)) = IsCell setup.outputs cell
IsJob setup (Some (Learn output)) = output < setup.outputs
IsJob setup (Some (Send sent)) = is_command setup.outputs sent ≡ true

-- marks of cells that there are
abbrev pub AreMarks : List Mark → Type 0
AreMarks [] = Unit {0}
AreMarks (mark ∷ marks) = IsMark mark × AreMarks marks

-- what is known after marks is what they make, one after another, of what was known before
pub known_now-more : CellsHavePlaces → (later before : List Mark) → AreMarks later
    → known_now (later ++ before) ≡ known_more (known_now before) later
known_now-more law [] before are = refl
known_now-more law (mark ∷ later) before are =
    known_now-next law (later ++ before) mark are.0 ∙ ap (λ known. known_after known mark) (known_now-more law later before are.1)

-- the marks of an entry name cells of eight outputs: the write that begins
put_by-marks : (setup : Setup) (job : Option Job) (told : List Entry) → setup.outputs ≤ 8 → IsJob setup job → (open' : Bool)
    → AreMarks (put_by (cond open' job None) told)
put_by-marks = search rules

-- the good answer
goods_by-marks : (setup : Setup) (job : Option Job) (told : List Entry) (bytes : List ℕ) → setup.outputs ≤ 8 → IsJob setup job
    → (open' : Bool)
    → AreMarks (option_to_list
    (option_and_then (λ cell. option_map (λ word. Good cell word) (good_word setup.addr cell bytes))
    (read_by (cond open' job None) told)))
goods_by-marks = search rules

-- what a job found is put among the formats, and nothing by another job than a learn
formats_found : (setup : Setup) (job : Option Job) (told : List Entry) (f : ℕ → Option Shape) → setup.outputs ≤ 8 → IsJob setup job
    → map (λ output. option_or (option_and_then (λ j. found_for setup output j told) job) (f output)) (range_with_len 0 8)
    ≡ formats_more setup (map f (range_with_len 0 8)) job told
formats_found = search rules

-- nothing is found yet where a job is accepted
formats_accepted : (setup : Setup) (job : Job) (formats : List (Option Shape)) → formats_more setup formats (Some job) [] ≡ formats
formats_accepted = search rules

-- the end of a write changes no format
formats_finished : (setup : Setup) (job : Option Job) (told : List Entry) (entry : Entry) (formats : List (Option Shape))
    → WritesBy setup job told
    → formats_more setup formats job (entry ∷ told) ≡ formats
formats_finished = search rules

-- a job that may come is one
IsJob-from : (s : Summary) (job : Job) → may_come s (Accepted job) ≡ true → IsJob s.setup (Some job)
IsJob-from = search rules

-- the last job of a transcript is one
pub IsJob-told : (setup : Setup) (entries : List Entry) → AreTold setup entries → IsJob setup (last_job entries)
unfolding host_now
IsJob-told setup [] h = tt
IsJob-told setup (Accepted job ∷ entries) h = IsJob-from (host_now setup entries) job h.0
IsJob-told setup (Finished acked ∷ entries) h = IsJob-told setup entries h.1
IsJob-told setup (Got bytes ∷ entries) h = IsJob-told setup entries h.1
IsJob-told setup (Restarted ∷ entries) h = tt

-- two changes with equal formats and equal knowledge are one
same_change : {setup : Setup} {stage : Option Stage} {f g : List (Option Shape)} {k l : Known} {step : Step} → f ≡ g → k ≡ l
    → ◌≡◌ {A = Change} (record { after = record { setup = setup; stage = stage; formats = f; known = k }; step = step })
    (record { after = record { setup = setup; stage = stage; formats = g; known = l }; step = step })
same_change = search rules

-- what the call that brings an entry does, and what the look back says after it
pub change-now : CellsHavePlaces → (setup : Setup) (entries : List Entry) (entry : Entry) → IsSetup setup → IsJob setup (last_job entries)
    → may_come (host_now setup entries) entry ≡ true
    → change (host_now setup entries) entry
    ≡ record { after = host_now setup (entry ∷ entries); step = step_by (last_job_end setup (entry ∷ entries)) }
unfolding host_now stage_of last_job_end open_job puts goods no_formats
change-now law setup entries (Accepted job) made there may =
    let job_there = IsJob-from (host_now setup entries) job may in
    let formats = formats_found setup (Some job) [] (format_of_output setup entries) made.few_outputs job_there in
    let are = put_by-marks setup (Some job) [] made.few_outputs job_there (is_none (end_by setup (Some job) [])) in
    accepted_follows (host_now setup entries) job made.one_pass
    ∙ same_change (sym (formats ∙ formats_accepted setup job _))
    (sym (known_now-more law (puts_by setup (Some job) []) (marks setup entries) are))
change-now law setup entries (Finished acked) made there may =
    let last = last_job entries in
    let told = told_since entries in
    let writes = WritesBy-from setup last told may in
    let begun = puts_by setup last (Finished acked ∷ told) in
    let formats = formats_found setup last (Finished acked ∷ told) (format_of_output setup entries) made.few_outputs there in
    let are =
    put_by-marks setup last (Finished acked ∷ told) made.few_outputs there (is_none (end_by setup last (Finished acked ∷ told))) in
    finished_follows (idle (host_now setup entries)) last told acked writes
    ∙ same_change (sym (formats ∙ formats_finished setup last told (Finished acked) _ writes))
    (sym (known_now-more law begun (marks setup entries) are))
change-now law setup entries (Got bytes) made there may =
    let last = last_job entries in
    let told = told_since entries in
    let begun = puts_by setup last (Got bytes ∷ told) in
    let reads = ReadsBy-from setup last told may in
    let formats = formats_found setup last (Got bytes ∷ told) (format_of_output setup entries) made.few_outputs there in
    let are_begun =
    put_by-marks setup last (Got bytes ∷ told) made.few_outputs there (is_none (end_by setup last (Got bytes ∷ told))) in
    let are_read = goods_by-marks setup last told bytes made.few_outputs there (is_none (end_by setup last told)) in
    got_follows (idle (host_now setup entries)) last told bytes made.one_pass reads
    ∙ same_change (sym formats)
    (sym (known_now-more law begun _ are_begun
    ∙ ap (λ known. known_more known begun) (known_now-more law (goods_by setup last told bytes) (marks setup entries) are_read)))
change-now law setup entries Restarted made there may =
    same_change refl (sym (known_now-next law (marks setup entries) Restart tt))

-- no entry
pub now-nil : (setup : Setup) → IsSetup setup → host_now setup [] ≡ start setup
unfolding host_now stage_of last_job_end open_job no_formats
now-nil setup made =
    ap (λ (known : Known). record { setup = setup; stage = None; formats = no_formats; known = known }) known_now-nil

-- the format that is held is the one that the look back finds
pub now-format : (setup : Setup) (entries : List Entry) (output : ℕ) → output < 8
    → format_at (host_now setup entries) output ≡ format_of_output setup entries output
unfolding host_now
now-format = search rules

-- A pass or a try is left at each stage of a job.

-- a pass or a try is left at the stage
abbrev pub IsLeft : ℕ → Option Stage → Type 0
IsLeft passes None = Unit {0}
IsLeft passes (Some (Writes cell word pass)) = pass < passes
IsLeft passes (Some (Reads cell word pass)) = pass < passes
IsLeft passes (Some (Asks question tries)) = tries < passes
IsLeft passes (Some (Sends sent tries)) = tries < passes

-- a pass is left after the read of an order, where it goes on
read-left : (s : Summary) (cell : Cell) (word pass : ℕ) (read : Option ℕ) → pass < s.setup.passes
    → IsLeft s.setup.passes (read_back s cell word pass read).after.stage
read-left = search rules

-- after a question
asked-left : (s : Summary) (question : Question) (tries : ℕ) (payload : Option (List ℕ)) → tries < s.setup.passes
    → IsLeft s.setup.passes (question_answered s question tries payload).after.stage
asked-left = search rules

-- after each answer
answered-left : (s : Summary) (stage : Option Stage) (bytes : List ℕ) → IsLeft s.setup.passes stage
    → IsLeft s.setup.passes (request_answered s stage bytes).after.stage
answered-left s None bytes left = tt
answered-left s (Some (Writes cell word pass)) bytes left = left
answered-left s (Some (Reads cell word pass)) bytes left = read-left s cell word pass (good_word s.setup.addr cell bytes) left
answered-left s (Some (Asks question tries)) bytes left =
    asked-left s question tries (good_payload s.setup.addr (question_message question) bytes) left
answered-left s (Some (Sends sent tries)) bytes left = left

-- after each end of a write
finished-left : (s : Summary) (stage : Option Stage) (acked : Bool) → IsLeft s.setup.passes stage
    → IsLeft s.setup.passes (finished s stage acked).after.stage
finished-left = search rules

-- a pass or a try is left after a job begins
begins-left : (s : Summary) (job : Job) → 1 ≤ s.setup.passes → IsLeft s.setup.passes (change s (Accepted job)).after.stage
begins-left = search rules

-- a pass or a try is left after each entry if a job is open
turn-left : (s : Summary) (e : Entry) → 1 ≤ s.setup.passes → IsLeft s.setup.passes s.stage → IsLeft s.setup.passes (change s e).after.stage
turn-left s (Accepted job) some left = begins-left s job some
turn-left s (Finished acked) some left = finished-left (idle s) s.stage acked left
turn-left s (Got bytes) some left = answered-left (idle s) s.stage bytes left
turn-left s Restarted some left = tt

-- the frames that are left are bounded in each transcript
pub told-left : CellsHavePlaces → (setup : Setup) (entries : List Entry) → IsSetup setup → AreTold setup entries
    → IsLeft setup.passes (stage_of setup entries)
unfolding host_now
told-left law setup [] made told = unfold stage_of in unfold open_job in unfold last_job_end in tt
told-left law setup (e ∷ entries) made told =
    subst (λ (t : Change). IsLeft setup.passes t.after.stage) (change-now law setup entries e made (IsJob-told setup entries told.1) told.0)
    (turn-left (host_now setup entries) e made.one_pass (told-left law setup entries made told.1))

-- What holds while a job is open.

-- an open job is the last one, and hasn't ended
pub open_is_last : (setup : Setup) (entries : List Entry) (job : Job) → open_job setup entries ≡ Some job
    → (last_job entries ≡ Some job) × (is_none (end_by setup (last_job entries) (told_since entries)) ≡ true)
unfolding open_job last_job_end
open_is_last = search rules

-- a joined word is possible
listed_end : (word : ℕ) (xs : List ℕ) → is_listed word (xs ++ word ∷ []) ≡ true
listed_end word [] = rw (eq-eqb word word refl) refl
listed_end word (x ∷ xs) = or_right (eqb x word) (is_listed word (xs ++ word ∷ [])) (listed_end word xs)

-- whether it was listed or not
joined_step : (word : ℕ) (xs : List ℕ) (listed : Bool) → is_listed word xs ≡ listed
    → is_possible word (joined (Words (record { items = xs })) word) ≡ true
joined_step word xs true e = rw (e, e) refl
joined_step word xs false e = rw e (listed_end word xs)

-- in any list, and where any word is possible
joined-possible : (p : Possible) (word : ℕ) → is_possible word (joined p word) ≡ true
joined-possible Any word = refl
joined-possible (Words words) word = joined_step word words.items (is_listed word words.items) refl

-- after its write a word is possible, and no word of the cell is confirmed
put_facts : (before : List Mark) (cell : Cell) (word : ℕ)
    → (is_possible word (possible_of (Put cell word ∷ before) cell) ≡ true) × (standing_of (Put cell word ∷ before) cell ≡ standing.Unknown)
put_facts before cell word = (
  ap (is_possible word) (possible_of-put_same before cell word)
      ∙ joined-possible (possible_of before cell) word,
  rw (same_cell-itself cell) refl,
)

-- the newest mark is an order's write while that write is sent
put_newest : (job : Option Job) (told : List Entry) (cell : Cell) (word : ℕ) (before : List Mark) → job ≡ Some (Order cell word)
    → is_write_turn told ≡ true
    → put_by job told ++ before ≡ Put cell word ∷ before
put_newest = search rules

-- a word is possible and no word of its cell is confirmed if the newest mark is its write
marked_facts : (marks' before : List Mark) (cell : Cell) (word : ℕ) → marks' ≡ Put cell word ∷ before
    → (is_possible word (possible_of marks' cell) ≡ true) × (standing_of marks' cell ≡ standing.Unknown)
marked_facts marks' before cell word is = rw is (put_facts before cell word)

-- no mark is new while an order's read is sent
put_none : (job : Option Job) (told : List Entry) (cell : Cell) (word : ℕ) (before : List Mark) → job ≡ Some (Order cell word)
    → is_write_turn told ≡ false
    → put_by job told ++ before ≡ before
put_none = search rules

-- after a write comes a read
turn_after_write : (entry : Entry) (told : List Entry) → is_write_turn told ≡ true → is_write_turn (entry ∷ told) ≡ false
turn_after_write = search rules

-- what held of the marks before still holds where they are the same
same_facts : (marks' before : List Mark) (cell : Cell) (word : ℕ) → marks' ≡ before
    → (is_possible word (possible_of before cell) ≡ true) × (standing_of before cell ≡ standing.Unknown)
    → (is_possible word (possible_of marks' cell) ≡ true) × (standing_of marks' cell ≡ standing.Unknown)
same_facts marks' before cell word is facts = rw is facts

-- an order that is open writes in its turn
writes_order : (setup : Setup) (job : Option Job) (told : List Entry) (cell : Cell) (word : ℕ) → job ≡ Some (Order cell word)
    → WritesBy setup job told
    → (is_none (order_end setup cell word told) ≡ true) × (is_write_turn told ≡ true)
writes_order = search rules

-- an order reads in the other turn
reads_order : (setup : Setup) (job : Option Job) (told : List Entry) (cell : Cell) (word : ℕ) → job ≡ Some (Order cell word)
    → ReadsBy setup job told
    → (is_none (order_end setup cell word told) ≡ true) × (is_write_turn told ≡ false)
reads_order = search rules

-- an order that hasn't ended is open
still_open : (setup : Setup) (entries : List Entry) (cell : Cell) (word : ℕ) → last_job entries ≡ Some (Order cell word)
    → is_none (order_end setup cell word (told_since entries)) ≡ true
    → open_job setup entries ≡ Some (Order cell word)
unfolding open_job last_job_end
still_open = search rules

-- while an order is open its word is possible, and no word of its cell is confirmed
pub open_order : (setup : Setup) (entries : List Entry) (cell : Cell) (word : ℕ) → IsSetup setup → AreTold setup entries
    → open_job setup entries ≡ Some (Order cell word)
    → (is_possible word (possible_of (marks setup entries) cell) ≡ true) × (standing_of (marks setup entries) cell ≡ standing.Unknown)
unfolding puts
open_order setup [] cell word made told is = absurd (none-some (Order cell word) (open_is_last setup [] (Order cell word) is).0)
open_order setup (Accepted job ∷ entries) cell word made told is =
    marked_facts _ (marks setup entries) cell word
    (put_newest (open_job setup (Accepted job ∷ entries)) [] cell word (marks setup entries) is refl)
open_order setup (Finished acked ∷ entries) cell word made told is =
    let last = (open_is_last setup (Finished acked ∷ entries) (Order cell word) is).0 in
    let writes = WritesBy-from setup (last_job entries) (told_since entries)
    (unfold host_now in unfold stage_of in unfold open_job in unfold last_job_end in told.0) in
    let turn' = writes_order setup (last_job entries) (told_since entries) cell word last writes in
    same_facts _ (marks setup entries) cell word
    (put_none (open_job setup (Finished acked ∷ entries)) (told_since (Finished acked ∷ entries)) cell word (marks setup entries) is
    (turn_after_write (Finished acked) (told_since entries) turn'.1))
    (open_order setup entries cell word made told.1 (still_open setup entries cell word last turn'.0))
open_order setup (Got bytes ∷ entries) cell word made told is =
    let last = (open_is_last setup (Got bytes ∷ entries) (Order cell word) is).0 in
    let reads = ReadsBy-from setup (last_job entries) (told_since entries)
    (unfold host_now in unfold stage_of in unfold open_job in unfold last_job_end in told.0) in
    let odd = (reads_order setup (last_job entries) (told_since entries) cell word last reads).1 in
    marked_facts _ (goods setup entries bytes ++ marks setup entries) cell word
    (put_newest (open_job setup (Got bytes ∷ entries)) (told_since (Got bytes ∷ entries)) cell word
    (goods setup entries bytes ++ marks setup entries) is
    (turn_after_read (length (told_since entries)) setup.passes odd).0)
open_order setup (Restarted ∷ entries) cell word made told is =
    absurd (none-some (Order cell word) (open_is_last setup (Restarted ∷ entries) (Order cell word) is).0)

-- the newest mark is a restore while that restore is sent
restore_newest : (job : Option Job) (told : List Entry) (before : List Mark) → job ≡ Some (Send RestoreUserAll)
    → put_by job told ++ before ≡ Restored ∷ before
restore_newest = search rules

-- after a restore nothing is known of an output's cell
restored_facts : (marks' before : List Mark) (output : ℕ) (register : Reg) → marks' ≡ Restored ∷ before
    → (possible_of marks' (Out output register) ≡ Any) × (standing_of marks' (Out output register) ≡ standing.Unknown)
unfolding possible_of
restored_facts marks' before output register is = rw is (refl, refl)

-- nothing is known of an output's cell while a restore is open
pub open_restore : (setup : Setup) (entries : List Entry) (output : ℕ) (register : Reg)
    → open_job setup entries ≡ Some (Send RestoreUserAll)
    → (possible_of (marks setup entries) (Out output register) ≡ Any)
    × (standing_of (marks setup entries) (Out output register) ≡ standing.Unknown)
unfolding puts
open_restore setup [] output register is =
    absurd (none-some (Send RestoreUserAll) (open_is_last setup [] (Send RestoreUserAll) is).0)
open_restore setup (Accepted job ∷ entries) output register is =
    restored_facts _ (marks setup entries) output register
    (restore_newest (open_job setup (Accepted job ∷ entries)) [] (marks setup entries) is)
open_restore setup (Finished acked ∷ entries) output register is =
    restored_facts _ (marks setup entries) output register
    (restore_newest (open_job setup (Finished acked ∷ entries)) (told_since (Finished acked ∷ entries)) (marks setup entries) is)
open_restore setup (Got bytes ∷ entries) output register is =
    restored_facts _ (goods setup entries bytes ++ marks setup entries) output register
    (restore_newest (open_job setup (Got bytes ∷ entries)) (told_since (Got bytes ∷ entries))
    (goods setup entries bytes ++ marks setup entries) is)
open_restore setup (Restarted ∷ entries) output register is =
    absurd (none-some (Send RestoreUserAll) (open_is_last setup (Restarted ∷ entries) (Send RestoreUserAll) is).0)

-- what a host holds of its open job is sound
job_there : (setup : Setup) (last : Option Job) (job : Job) → last ≡ Some job → IsJob setup last → IsJob setup (Some job)
job_there = search rules

-- the cell of an open order exists and accepts its word
pub order_there : (setup : Setup) (entries : List Entry) (cell : Cell) (word : ℕ) → AreTold setup entries
    → open_job setup entries ≡ Some (Order cell word)
    → IsCell setup.outputs cell × (cell_accepts cell word ≡ true)
order_there setup entries cell word told is =
    job_there setup (last_job entries) (Order cell word) (open_is_last setup entries (Order cell word) is).0 (IsJob-told setup entries told)

-- what holds of an open order, in a pass that is left
ordering : {setup : Setup} {cell : Cell} {word : ℕ} → CellsHavePlaces → (entries : List Entry) (pass : ℕ) → IsSetup setup
    → AreTold setup entries → open_job setup entries ≡ Some (Order cell word) → pass < setup.passes
    → IsOrdering (host_now setup entries) cell word pass
unfolding host_now
ordering {setup = setup} {cell = cell} {word = word} law entries pass made told is left =
    let there = order_there setup entries cell word told is in
    let facts = open_order setup entries cell word made told is in
    let eight = IsCell-eight setup.outputs cell made.few_outputs there.0 in
    record {
      there = there.0;
      accepted = there.1;
      possible = ap (is_possible word) (known_now-possible law (marks setup entries) cell eight) ∙ facts.0;
      unknown = known_now-standing law (marks setup entries) cell eight ∙ facts.1;
      left = left;
    }

-- the stage of an order is sound, whichever turn it is
order_sound : (s : Summary) (cell : Cell) (word pass : ℕ) (turn' : Bool) → (pass < s.setup.passes → IsOrdering s cell word pass)
    → IsLeft s.setup.passes (Some (cond turn' (Writes cell word pass) (Reads cell word pass)))
    → IsStage s (Some (cond turn' (Writes cell word pass) (Reads cell word pass)))
order_sound = search rules

-- the stage of an open learn is sound
learning : (setup : Setup) (entries : List Entry) (output m n : ℕ) (known : Bool) → output < setup.outputs
    → IsLeft setup.passes (Some (cond known (Asks (Coefficients output) m) (Asks (Mode output) n)))
    → IsStage (host_now setup entries) (Some (cond known (Asks (Coefficients output) m) (Asks (Mode output) n)))
unfolding host_now
learning = search rules

-- the stage of each open job is sound
stage_sound : CellsHavePlaces → (setup : Setup) (entries : List Entry) (job : Option Job) → IsSetup setup → AreTold setup entries
    → open_job setup entries ≡ job
    → IsLeft setup.passes (option_map (λ j. job_stage setup j (told_since entries)) job)
    → IsStage (host_now setup entries) (option_map (λ j. job_stage setup j (told_since entries)) job)
unfolding host_now
stage_sound law setup entries None made told is left = tt
stage_sound law setup entries (Some (Order cell word)) made told is left =
    let pass = length (told_since entries) / 2 in
    order_sound (host_now setup entries) cell word pass (is_write_turn (told_since entries)) (ordering law entries pass made told is) left
stage_sound law setup entries (Some (Check cell)) made told is left =
    record {
      there = job_there setup (last_job entries) (Check cell) (open_is_last setup entries (Check cell) is).0
          (IsJob-told setup entries told);
      left = left;
    }
stage_sound law setup entries (Some (Learn output)) made told is left =
    learning setup entries output (coefficients_tries setup output (told_since entries)) (length (told_since entries))
    (is_some (vout_mode_told setup output (told_since entries)))
    (job_there setup (last_job entries) (Learn output) (open_is_last setup entries (Learn output) is).0 (IsJob-told setup entries told))
    left
stage_sound law setup entries (Some (Send sent)) made told is left =
    record {
      there = job_there setup (last_job entries) (Send sent) (open_is_last setup entries (Send sent) is).0
          (IsJob-told setup entries told);
      left = left;
    }

-- what the host holds is sound after each transcript
pub now-sound : CellsHavePlaces → (setup : Setup) (entries : List Entry) → IsSetup setup → AreTold setup entries
    → IsSound (host_now setup entries)
unfolding host_now stage_of
now-sound law setup entries made told = record {
  setup = made;
  formats = length-map-range_with_len (format_of_output setup entries) 0 8;
  stage = stage_sound law setup entries (open_job setup entries) made told refl (told-left law setup entries made told);
}

-- the frames that are sent
write_sent : (setup : Setup) (cell : Cell) (word : ℕ) → IsCell setup.outputs cell → cell_accepts cell word ≡ true
    → CanSend setup (cell_write cell word)
write_sent setup (Out output read) word there accepted = writes_output output read word there accepted
write_sent setup Protect word there accepted = writes_protect word accepted

-- the read of a cell
read_sent : (setup : Setup) (cell : Cell) → IsCell setup.outputs cell → CanSend setup (cell_read cell)
read_sent setup (Out output read) there = reads_output output read there
read_sent setup Protect there = reads_protect

-- the frame of an order
order_sent : (setup : Setup) (cell : Cell) (word : ℕ) (turn' : Bool) → IsCell setup.outputs cell → cell_accepts cell word ≡ true
    → CanSend setup (cond turn' (cell_write cell word) (cell_read cell))
order_sent setup cell word true there accepted = write_sent setup cell word there accepted
order_sent setup cell word false there accepted = read_sent setup cell there

-- the frame of a learn
learn_sent : (setup : Setup) (output : ℕ) (known : Bool) → output < setup.outputs
    → CanSend setup (cond known coefficients_read (mode_read output))
learn_sent setup output true there = reads_coefficients
learn_sent setup output false there = reads_mode output there

-- the frame of each job
job_sent : (setup : Setup) (job : Job) (told : List Entry) → IsJob setup (Some job) → CanSend setup (job_message setup job told)
job_sent setup (Order cell word) told there = order_sent setup cell word (is_write_turn told) there.0 there.1
job_sent setup (Check cell) told there = read_sent setup cell there
job_sent setup (Learn output) told there = learn_sent setup output (is_some (vout_mode_told setup output told)) there
job_sent setup (Send sent) told there = frames_sends_command sent there

-- each frame of an open job can be sent
sent_step : (setup : Setup) (entries : List Entry) (job : Option Job) (m : Message) → AreTold setup entries → open_job setup entries ≡ job
    → option_map (λ j. job_message setup j (told_since entries)) job ≡ Some m → CanSend setup m
sent_step setup entries None m told is sent = absurd (none-some m sent)
sent_step setup entries (Some j) m told is sent =
    let there = job_there setup (last_job entries) j (open_is_last setup entries j is).0 (IsJob-told setup entries told) in
    subst (CanSend setup) (same_Some _ _ sent) (job_sent setup j (told_since entries) there)

-- each frame that a transcript sends is one that the host can send
pub sent-named : (setup : Setup) (entries : List Entry) (m : Message) → IsSetup setup → AreTold setup entries
    → sending_of setup entries ≡ Some m → CanSend setup m
unfolding sending_of
sent-named setup entries m made told sent = sent_step setup entries (open_job setup entries) m told refl sent

-- what the host answers is what the look back finds
pub now-sending : (setup : Setup) (entries : List Entry) → sending_in (host_now setup entries) ≡ sending_of setup entries
unfolding host_now stage_of sending_of
now-sending = search rules

-- a job is open where the look back finds one
pub now-busy : (setup : Setup) (entries : List Entry) → is_busy (host_now setup entries) ≡ is_some (open_job setup entries)
unfolding host_now stage_of
now-busy = search rules

-- How many frames a job sends: with each that was sent fewer are left.

-- an order that read its cell has its later passes left
read-spends : (s : Summary) (cell : Cell) (word pass : ℕ) (read : Option ℕ) → pass < s.setup.passes
    → frames_left (read_back s cell word pass read).after < 2 * (s.setup.passes - pass) - 1
read-spends = search rules

-- a question that was asked has its later tries left, and a learn that knows VOUT_MODE those of the coefficients
asked-spends : (s : Summary) (question : Question) (tries : ℕ) (payload : Option (List ℕ)) → tries < s.setup.passes
    → frames_left (question_answered s question tries payload).after < frames_from s.setup.passes (Asks question tries)
asked-spends = search rules

-- a write that was sent leaves fewer frames, whatever became of it
finished-spends : (s : Summary) (stage : Option Stage) (acked : Bool) → IsLeft s.setup.passes stage
    → sends_write (record s { stage = stage }) ≡ true
    → frames_left (finished s stage acked).after < frames_left (record s { stage = stage })
finished-spends = search rules

-- a request that was sent spends a frame too, whatever came back
answered-spends : (s : Summary) (stage : Option Stage) (bytes : List ℕ) → IsLeft s.setup.passes stage
    → sends_read (record s { stage = stage }) ≡ true
    → frames_left (request_answered s stage bytes).after < frames_left (record s { stage = stage })
answered-spends s None bytes left reads = search rules
answered-spends s (Some (Writes cell word pass)) bytes left reads = search rules
answered-spends s (Some (Reads cell word pass)) bytes left reads = read-spends s cell word pass (good_word s.setup.addr cell bytes) left
answered-spends s (Some (Asks question tries)) bytes left reads =
    asked-spends s question tries (good_payload s.setup.addr (question_message question) bytes) left
answered-spends s (Some (Sends sent tries)) bytes left reads = search rules

-- a job begins with at most twice as many as it has passes, and one is left while it is open
begins-bounded : (s : Summary) (job : Job) → frames_left (change s (Accepted job)).after ≤ 2 * s.setup.passes
begins-bounded = search rules

-- while a job is open, a frame is left
one_left : (s : Summary) → IsLeft s.setup.passes s.stage → cond (is_busy s) 1 0 ≤ frames_left s
one_left = search rules

-- what was sent of the last job, and what it has left, is at most that
sent_and_left : CellsHavePlaces → (setup : Setup) (entries : List Entry) → IsSetup setup → AreTold setup entries
    → length (told_since entries) + frames_left (host_now setup entries) ≤ 2 * setup.passes
unfolding host_now
sent_and_left law setup [] made told = unfold stage_of in unfold open_job in unfold last_job_end in omega arith
sent_and_left law setup (Accepted job ∷ entries) made told =
    subst (λ (t : Change). 0 + frames_left t.after ≤ 2 * setup.passes)
    (change-now law setup entries (Accepted job) made (IsJob-told setup entries told.1) told.0)
    (let bound = begins-bounded (host_now setup entries) job in omega arith)
sent_and_left law setup (Finished acked ∷ entries) made told =
    let before = sent_and_left law setup entries made told.1 in
    let spends = finished-spends (idle (host_now setup entries)) (stage_of setup entries) acked
    (told-left law setup entries made told.1) told.0 in
    subst (λ (t : Change). length (told_since (Finished acked ∷ entries)) + frames_left t.after ≤ 2 * setup.passes)
    (change-now law setup entries (Finished acked) made (IsJob-told setup entries told.1) told.0) (omega arith)
sent_and_left law setup (Got bytes ∷ entries) made told =
    let before = sent_and_left law setup entries made told.1 in
    let spends = answered-spends (idle (host_now setup entries)) (stage_of setup entries) bytes
    (told-left law setup entries made told.1) told.0 in
    subst (λ (t : Change). length (told_since (Got bytes ∷ entries)) + frames_left t.after ≤ 2 * setup.passes)
    (change-now law setup entries (Got bytes) made (IsJob-told setup entries told.1) told.0) (omega arith)
sent_and_left law setup (Restarted ∷ entries) made told = unfold stage_of in unfold open_job in unfold last_job_end in omega arith

-- no job sends more than twice as many frames as it has passes
pub frames-bound : CellsHavePlaces → (setup : Setup) (entries : List Entry) → IsSetup setup → AreTold setup entries
    → frames_of setup entries ≤ 2 * setup.passes
unfolding host_now
frames-bound law setup entries made told =
    let bound = sent_and_left law setup entries made told in
    let one = one_left (host_now setup entries) (told-left law setup entries made told) in
    rw (← now-busy setup entries) (omega arith)

-- What the call that tells a host of a frame says of the job, over the definitions alone: by the stage, by what was
-- told, and by whether a try is left.

-- what a change says of the job, from this stage on
abbrev Tells : Summary → Option Stage → Entry → Change → Type 0
Tells s stage entry change = StepTells (record s { stage = stage }) entry change.step change.after

-- there is a place for each cell, whether the answer was possible or not
before-length : (known : Known) (expected : Bool) → HasPlaces known → length (cond expected known.possible all_any) ≡ places
before-length known true whole = whole.possible
before-length known false whole = all_any-length

-- after a good answer its word is confirmed, and the cell may hold no other
marked-read : CellsHavePlaces → (s : Summary) (cell : Cell) (word : ℕ) → HasPlaces s.known → IsCell 8 cell
    → IsRead (marked s (Good cell word)) cell word
marked-read law s cell word whole there = record {
  confirmed = get_or-set_same s.known.standing (place_of cell) (Confirmed word) Unknown
      (let l = whole.standing in let below = law.below cell there in omega arith);
  alone =
      let before = cond (is_possible word (known_possible s.known cell)) s.known.possible all_any in
      get_or-set_same before (place_of cell) (only word) Any
      (let l : length before ≡ places = before-length s.known (is_possible word (known_possible s.known cell)) whole in
      let below = law.below cell there in omega arith);
}

-- an order read its cell back: the word, and no try is left, or one is
read_tells : CellsHavePlaces → (s : Summary) (cell : Cell) (word pass read : ℕ) (bytes : List ℕ) (same last : Bool) → HasPlaces s.known
    → IsCell 8 cell → good_word s.setup.addr cell bytes ≡ Some read → eqb read word ≡ same → eqb (pass + 1) s.setup.passes ≡ last
    → Tells s (Some (Reads cell word pass)) (Got bytes) (read_another (marked (idle s) (Good cell read)) cell word pass read)
read_tells law s cell word pass read bytes true last whole there is e l =
    let same : read ≡ word = eqb-true read word e in
    rw e (
      refl,
      (
        (
          is ∙ ap Some same,
          subst (IsRead (marked (idle s) (Good cell read)) cell) same
              (marked-read law (idle s) cell read whole there),
        ),
        refl,
      ),
    )
read_tells law s cell word pass read bytes false true whole there is e l =
    rw (e, l) (refl, ((is, (λ same. false≢true (sym e ∙ eq-eqb read word same)), marked-read law (idle s) cell read whole there), refl))
read_tells law s cell word pass read bytes false false whole there is e l = rw (e, l) (refl, refl)

-- what came back for an order's read, a good answer or none, tells what the step says
back_tells : CellsHavePlaces → (s : Summary) (cell : Cell) (word pass : ℕ) (bytes : List ℕ) (read : Option ℕ) → HasPlaces s.known
    → IsCell 8 cell → IsOrdering s cell word pass → good_word s.setup.addr cell bytes ≡ read
    → Tells s (Some (Reads cell word pass)) (Got bytes) (read_back (idle s) cell word pass read)
back_tells law s cell word pass bytes (Some read) whole there ordering is =
    read_tells law s cell word pass read bytes (eqb read word) (eqb (pass + 1) s.setup.passes) whole there is refl refl
back_tells law s cell word pass bytes None whole there ordering is = go (eqb (pass + 1) s.setup.passes) refl where
  go : (last : Bool) → eqb (pass + 1) s.setup.passes ≡ last
      → Tells s (Some (Reads cell word pass)) (Got bytes) (read_back (idle s) cell word pass None)
  go true l = rw l (refl, ((is, record { unknown = ordering.unknown; possible = ordering.possible }), refl))
  go false l = rw l (refl, refl)

-- a question that got no good answer
another_tells : (s : Summary) (question : Question) (tries : ℕ) (bytes : List ℕ) (last : Bool)
    → good_payload s.setup.addr (question_message question) bytes ≡ None → eqb (tries + 1) s.setup.passes ≡ last
    → Tells s (Some (Asks question tries)) (Got bytes) (another (idle s) question tries)
another_tells s (Word cell) tries bytes true is l = rw l (refl, ((ap (option_map word_in) is, refl), refl))
another_tells s (Mode output) tries bytes true is l = rw l (refl, (refl, refl))
another_tells s (Coefficients output) tries bytes true is l = rw l (refl, (refl, refl))
another_tells s question tries bytes false is l = rw l (refl, refl)

-- the format that a learn found is there
set-some : (formats : List (Option Shape)) (output : ℕ) (shape : Shape) → output < length formats
    → get_or (set formats output (Some shape)) output None ≡ Some shape
set-some formats output shape there = get_or-set_same formats output (Some shape) None there

-- the formats of the other outputs stay
set-others : (formats : List (Option Shape)) (output : ℕ) (shape : Shape) (other : ℕ) → other ≢ output
    → get_or (set formats output (Some shape)) other None ≡ get_or formats other None
set-others formats output shape other apart = get_or-set_other formats output other (Some shape) None apart

-- the output of a host has a place for its format
output-there : (s : Summary) (output : ℕ) → IsSound s → output < s.setup.outputs → output < length s.formats
output-there s output sound there = let few = sound.setup.few_outputs in let l = sound.formats in omega arith

-- a learn that ends leaves a format, or the one of before
learned_tells : (s : Summary) (output tries : ℕ) (asks : Bool) (entry : Entry) (shape : Option Shape) → output < length s.formats
    → Tells s (Some (Asks (cond asks (Mode output) (Coefficients output)) tries)) entry (learned (idle s) output shape)
learned_tells s output tries true entry None there = (refl, (refl, refl))
learned_tells s output tries false entry None there = (refl, (refl, refl))
learned_tells s output tries true entry (Some shape) there =
    (refl, (ap is_some (set-some s.formats output shape there), set-others s.formats output shape, refl))
learned_tells s output tries false entry (Some shape) there =
    (refl, (ap is_some (set-some s.formats output shape there), set-others s.formats output shape, refl))

-- a learn read VOUT_MODE
mode_tells : (s : Summary) (output tries : ℕ) (entry : Entry) (mode : Result VoutMode TableFault) → output < length s.formats
    → Tells s (Some (Asks (Mode output) tries)) entry (mode_taken (idle s) output mode)
mode_tells s output tries entry (Err fault) there = learned_tells s output tries true entry None there
mode_tells s output tries entry (Ok (Linear exponent)) there =
    learned_tells s output tries true entry (Some (InUlinear16 exponent)) there
mode_tells s output tries entry (Ok Direct) there = (refl, refl)

-- a good answer to a question
answer_tells : CellsHavePlaces → (s : Summary) (question : Question) (tries : ℕ) (bytes payload : List ℕ) → IsSound s → HasPlaces s.known
    → IsQuestion s.setup.outputs question → good_payload s.setup.addr (question_message question) bytes ≡ Some payload
    → Tells s (Some (Asks question tries)) (Got bytes) (answer_taken (idle s) question payload)
answer_tells law s (Word cell) tries bytes payload sound whole there is = (
  refl,
  (
    rw is (marked-read law (idle s) cell (word_in payload) whole (IsCell-eight s.setup.outputs cell sound.setup.few_outputs there)),
    refl,
  ),
)
answer_tells law s (Mode output) tries bytes payload sound whole there is =
    mode_tells s output tries (Got bytes) (mode_of (word_in payload)) (output-there s output sound there)
answer_tells law s (Coefficients output) tries bytes payload sound whole there is =
    learned_tells s output tries false (Got bytes) (result_ok (shape_in Direct (coefficients_of payload)))
    (output-there s output sound there)

-- a question was asked
asked_tells : CellsHavePlaces → (s : Summary) (question : Question) (tries : ℕ) (bytes : List ℕ) (payload : Option (List ℕ)) → IsSound s
    → HasPlaces s.known → IsQuestion s.setup.outputs question → good_payload s.setup.addr (question_message question) bytes ≡ payload
    → Tells s (Some (Asks question tries)) (Got bytes) (question_answered (idle s) question tries payload)
asked_tells law s question tries bytes None sound whole there is =
    another_tells s question tries bytes (eqb (tries + 1) s.setup.passes) is refl
asked_tells law s question tries bytes (Some payload) sound whole there is =
    answer_tells law s question tries bytes payload sound whole there is

-- a command was sent, acknowledged or not
sent_tells : (s : Summary) (command : Command) (tries : ℕ) (acked last : Bool) → eqb (tries + 1) s.setup.passes ≡ last
    → Tells s (Some (Sends command tries)) (Finished acked) (finished (idle s) (Some (Sends command tries)) acked)
sent_tells s command tries true last l = (refl, ((refl, refl), refl))
sent_tells s command tries false true l = rw l (refl, ((refl, refl), refl))
sent_tells s command tries false false l = rw l (refl, refl)

-- the message of a command is no request
sends_command : (command : Command) → is_read_message (command_message command) ≡ false
sends_command = search rules

-- the end of a write
finished_tells : (s : Summary) (stage : Option Stage) (acked : Bool)
    → option_map_or (λ message. not (is_read_message message)) (option_map stage_message stage) false ≡ true
    → Tells s stage (Finished acked) (finished (idle s) stage acked)
finished_tells s None acked comes = absurd (false≢true comes)
finished_tells s (Some (Writes cell word pass)) acked comes = (refl, refl)
finished_tells s (Some (Reads cell word pass)) acked comes = absurd (false≢true (sym (ap not (cell_read_is_request cell)) ∙ comes))
finished_tells s (Some (Asks question tries)) acked comes = absurd (false≢true (sym (ap not (reads_question question)) ∙ comes))
finished_tells s (Some (Sends command tries)) acked comes = sent_tells s command tries acked (eqb (tries + 1) s.setup.passes) refl

-- bytes that came back
got_tells : CellsHavePlaces → (s : Summary) (stage : Option Stage) (bytes : List ℕ) → IsSound s → HasPlaces s.known → IsStage s stage
    → option_map_or is_read_message (option_map stage_message stage) false ≡ true
    → Tells s stage (Got bytes) (request_answered (idle s) stage bytes)
got_tells law s None bytes sound whole at comes = absurd (false≢true comes)
got_tells law s (Some (Writes cell word pass)) bytes sound whole at comes = absurd (false≢true (sym (writes_cell cell word) ∙ comes))
got_tells law s (Some (Reads cell word pass)) bytes sound whole at comes =
    back_tells law s cell word pass bytes (good_word s.setup.addr cell bytes) whole
    (IsCell-eight s.setup.outputs cell sound.setup.few_outputs at.there) at refl
got_tells law s (Some (Asks question tries)) bytes sound whole at comes =
    asked_tells law s question tries bytes (good_payload s.setup.addr (question_message question) bytes) sound whole at.there refl
got_tells law s (Some (Sends command tries)) bytes sound whole at comes = absurd (false≢true (sym (sends_command command) ∙ comes))

-- whatever a host is told of a frame
frame_tells : CellsHavePlaces → (s : Summary) (entry : Entry) → HasPlaces s.known → IsSound s → may_come s entry ≡ true
    → is_of_frame entry ≡ true → StepTells s entry (step_of s entry) (host_next s entry)
unfolding host_next step_of
frame_tells law s (Accepted job) whole sound comes frame = absurd (false≢true frame)
frame_tells law s (Finished acked) whole sound comes frame = finished_tells s s.stage acked comes
frame_tells law s (Got bytes) whole sound comes frame = got_tells law s s.stage bytes sound whole sound.stage comes
frame_tells law s Restarted whole sound comes frame = absurd (false≢true frame)

-- what a host is told is of a frame
told_frame : (told : Told) → is_of_frame (entry_told told) ≡ true
told_frame = search rules

-- the step and the host after a call that is told of a frame are those that the frame tells
pub told-tells : (s new : Summary) (told : Told) (step : Step) → new ≡ host_next s (entry_told told) → step ≡ step_of s (entry_told told)
    → CellsHavePlaces → HasPlaces s.known → IsSound s → may_come s (entry_told told) ≡ true
    → StepTells s (entry_told told) step new
told-tells s new told step after is law whole sound comes =
    rw (after, is) (frame_tells law s (entry_told told) whole sound comes (told_frame told))

-- there is a place for each cell
now_places : (setup : Setup) (entries : List Entry) → HasPlaces (host_now setup entries).known
unfolding host_now known_now
now_places setup entries = record {
  possible = length-table places (possible_of (marks setup entries));
  standing = length-table places (standing_of (marks setup entries));
}

-- the step and the host after an entry of a frame in a transcript are those that the frame tells
pub entry-tells : CellsHavePlaces → TranscriptsAreFollowed → (setup : Setup) (entries : List Entry) (entry : Entry) → IsSetup setup
    → AreTold setup (entry ∷ entries) → is_of_frame entry ≡ true
    → StepTells (host_now setup entries) entry (step_by (last_job_end setup (entry ∷ entries))) (host_now setup (entry ∷ entries))
entry-tells law followed setup entries entry made told frame =
    rw (followed.more setup entries entry made told, ← followed.step setup entries entry made told)
    (frame_tells law (host_now setup entries) entry (now_places setup entries) (followed.sound setup entries made told.1) told.0 frame)

-- the job of the stage is the open one
stage_of-job : (setup : Setup) (job : Job) (told : List Entry) → stage_job (job_stage setup job told) ≡ job
stage_of-job setup (Order cell word) told = go (is_write_turn told) where
  go : (turn' : Bool) → stage_job (cond turn' (Writes cell word (length told / 2)) (Reads cell word (length told / 2))) ≡ Order cell word
  go true = refl
  go false = refl
stage_of-job setup (Check cell) told = refl
stage_of-job setup (Learn output) told = go (is_some (vout_mode_told setup output told)) where
  go : (known : Bool) → stage_job
      (cond known (Asks (Coefficients output) (coefficients_tries setup output told)) (Asks (Mode output) (length told)))
      ≡ Learn output
  go true = refl
  go false = refl
stage_of-job setup (Send command) told = refl

-- the job of an open job's stage is that job; None if none is open
open_of-job : (setup : Setup) (job : Option Job) (told : List Entry)
    → option_map stage_job (option_map (λ j. job_stage setup j told) job) ≡ job
open_of-job setup None told = refl
open_of-job setup (Some job) told = ap Some (stage_of-job setup job told)

-- the job that a host has open after a transcript is the transcript's open job
pub now-job : (setup : Setup) (entries : List Entry) → job_in (host_now setup entries) ≡ open_job setup entries
unfolding host_now stage_of
now-job setup entries = open_of-job setup (open_job setup entries) (told_since entries)

-- No entry changes what a host was made with.

-- what a host was made with stays after an entry, by the definition of each change
pub next-keeps : (s : Summary) (e : Entry) → (host_next s e).setup ≡ s.setup
unfolding host_next
next-keeps = search rules

-- Which words are possible, one mark after another.

-- a word that is listed already adds nothing
listed-too : (word other : ℕ) (words : List ℕ) → is_listed word words ≡ true →
    is_listed other words ≡ (is_listed other words || eqb word other)
listed-too word other words h = go (is_listed other words) (eqb word other) refl refl where
  go : (a b : Bool) → is_listed other words ≡ a → eqb word other ≡ b → a ≡ (a || b)
  go true b e f = refl
  go false false e f = refl
  go false true e f = let both : true ≡ false = sym h ∙ (ap (λ w. is_listed w words) (eqb-true word other f) ∙ e) in cc

-- a word at the end of a list
listed-end : (word other : ℕ) (words : List ℕ) → is_listed other (words ++ word ∷ []) ≡ (is_listed other words || eqb word other)
listed-end word other words =
    list_any-append (λ listed. eqb listed other) words (word ∷ [])
    ∙ ap (λ b. is_listed other words || b) (last (eqb word other))
  where
    last : (b : Bool) → (b || false) ≡ b
    last true = refl
    last false = refl

-- a word that joins others is possible too
joined-words : (word other : ℕ) (possible : Possible) →
    is_possible other (joined possible word) ≡ (is_possible other possible || eqb word other)
joined-words word other Any = refl
joined-words word other (Words words) = go (is_listed word words.items) refl where
  go : (b : Bool) → is_listed word words.items ≡ b →
      is_possible other (cond b (Words words) (Words (record { items = words.items ++ word ∷ [] })))
      ≡ (is_listed other words.items || eqb word other)
  go true e = listed-too word other words.items e
  go false e = listed-end word other words.items

-- without a mark
pub none-words : (cell : Cell) (other : ℕ) → is_possible other (possible_of [] cell) ≡ true
unfolding possible_of
none-words cell other = refl

-- after a write that begins
pub put-words : (before : List Mark) (put cell : Cell) (word other : ℕ) →
    is_possible other (possible_of (Put put word ∷ before) cell)
    ≡ cond (same_cell put cell) (is_possible other (possible_of before cell) || eqb word other)
    (is_possible other (possible_of before cell))
unfolding possible_of
put-words before put cell word other = go (same_cell put cell) where
  found : Option (List ℕ)
  found = words_since before cell

  go : (b : Bool) →
      is_possible other (possible_from (cond b (option_map (λ ws. word ∷ ws) (words_since before cell)) (words_since before cell)))
      ≡ cond b (is_possible other (possible_from (words_since before cell)) || eqb word other)
      (is_possible other (possible_from (words_since before cell)))
  go true = ap (is_possible other) (joined-from word found) ∙ joined-words word other (possible_from found)
  go false = refl

-- after a good answer
pub good-words : (before : List Mark) (read cell : Cell) (word other : ℕ) →
    is_possible other (possible_of (Good read word ∷ before) cell)
    ≡ cond (same_cell read cell) (eqb word other)
    (cond (is_possible word (possible_of before read)) (is_possible other (possible_of before cell)) true)
unfolding possible_of
good-words before read cell word other = go (same_cell read cell) (is_possible word (possible_from (words_since before read))) where
  last : (b : Bool) → (b || false) ≡ b
  last true = refl
  last false = refl

  go : (b c : Bool) →
      is_possible other (possible_from (cond b (Some (word ∷ [])) (cond c (words_since before cell) None)))
      ≡ cond b (eqb word other) (cond c (is_possible other (possible_from (words_since before cell))) true)
  go true c = last (eqb word other)
  go false true = refl
  go false false = refl

-- after a restore that begins
pub restored-words : (before : List Mark) (cell : Cell) (other : ℕ) →
    is_possible other (possible_of (Restored ∷ before) cell)
    ≡ cond (is_output_cell cell) true (is_possible other (possible_of before cell))
unfolding possible_of
restored-words before cell other = go (is_output_cell cell) where
  go : (b : Bool) →
      is_possible other (possible_from (cond b None (words_since before cell)))
      ≡ cond b true (is_possible other (possible_from (words_since before cell)))
  go true = refl
  go false = refl

-- after a restart
pub restart-words : (before : List Mark) (cell : Cell) (other : ℕ) → is_possible other (possible_of (Restart ∷ before) cell) ≡ true
unfolding possible_of
restart-words before cell other = refl
