-- A job over a life: its frames, its good answers, and what its end is worth.
use Rattle.std.specs.{List.list_any, Result.result_ok}
use Rattle.std.specs.Option.{option_map_or, option_and_then, option_or}
use Rattle.std.specs.Prelude.{IsSomeAnd, option_to_list, replicate, ◌≢◌, nat_lt, IfSome}
use Rattle.std.proofs.Common.{◌≡◌, ◌<◌, ◌⊎◌, inl, inr, ℕ, suc, Bool, true, false, not, cond, eqb, arith, ◌*◌, ◌/◌, ◌%◌, List, ◌∷◌, length}
use Rattle.std.proofs.Common.{Option, Some, None, is_none, is_some, option_map, refl, sym, ◌∙◌, ap, subst, ◌||◌, [], ◌++◌, ap₂, ◌+◌, Result}
use Rattle.std.proofs.Common.{Ok, Err, rules, ◌≤◌, zero, take, drop}
use Rattle.std.proofs.lemmas.Bool.{eqb-true, eq-eqb, lt-ltb}
use Rattle.std.proofs.lemmas.List.{length-replicate, length-take, take-append-drop}
use Rattle.pm_num.specs.AnyFormat.{Shape, InUlinear16}
use Rattle.pm_table.specs.{Coefficients.coefficients_of, Format.shape_in, Laws.CellsAreToldApart, VoutMode.mode_of, declared.cell.Cell.Cell}
use Rattle.pm_table.specs.{declared.fault.TableFault.TableFault, declared.vout_mode.VoutMode.VoutMode}
use Rattle.pm_table.specs.Cell.{IsCell, same_cell, output_of}
use Rattle.pm_table.specs.Codes as command
use Rattle.pm_table.specs.Commands.{is_written, line_of, payload_length}
use Rattle.pm_table.specs.declared.vout_mode.VoutMode.TheVariants.{Linear, Direct}
use Rattle.pm_frame.specs.{declared.fault.FrameFault.FrameFault, declared.message.Message.Message}
use Rattle.pm_frame.specs.Fault.{whole_answer, address_fault, length_fault, opening_fault, pec_fault, plain_fault, request_fault}
use Rattle.pm_frame.specs.Fault.{size_fault, write_fault}
use Rattle.pm_frame.specs.Laws.{DamageIsRefused, RequestsAreExact}
use Rattle.pm_frame.specs.Layout.{is_read_message, IsRequest, IsWrite, sent, with_pec, is_plain_write, write_address}
use Rattle.pm_frame.specs.declared.fault.FrameFault.TheVariants.{NotOurs, Short, WrongDirection}
use Rattle.pm_device.specs.{Effect.kept_in, Reply.reply_of, declared.config.Config.Config}
use Rattle.pm_device.specs.Effect as device
use Rattle.pm_device.specs.Held.{shape_for, Held}
use Rattle.pm_device.specs.History.{device_next, after_outcome}
use Rattle.pm_device.specs.declared.converter.Ending.TheVariants.{Stop, Restart}
use Rattle.pm_host.specs.{Jobs.accepted_job, Laws.TranscriptsAreFollowed, Question.question_message, Standing.standing_of}
use Rattle.pm_host.specs.{declared.fault.HostFault.HostFault, declared.fault.HostFault.TheVariants.Busy, declared.host.Step.Step}
use Rattle.pm_host.specs.{declared.job.Job.Job as HostJob, declared.job.JobEnd.JobEnd, declared.knowledge.Standing.TheVariants.Confirmed}
use Rattle.pm_host.specs.{declared.question.Question.Question, declared.stage.Stage.Stage}
use Rattle.pm_host.specs.Answers.{good_word, good_payload, word_in}
use Rattle.pm_host.specs.Frames.{frames_from, frames_left}
use Rattle.pm_host.specs.Marks.{read_by, Good, goods, marks, put_by, puts}
use Rattle.pm_host.specs.Now.{AreTold, job_stage, host_now, stage_of}
use Rattle.pm_host.specs.Refusals.{IsSetup, sends_read, is_busy, may_come, sends_write, cell_fault, job_fault, micro_word, order_fault}
use Rattle.pm_host.specs.Sound.{IsStage, IsSound}
use Rattle.pm_host.specs.Summary.{sending_in, format_at, standing_at, Change, Summary, answer_taken, request_answered as summary_answered}
use Rattle.pm_host.specs.Summary.{question_answered}
use Rattle.pm_host.specs.Summary.{ends, finished as summary_finished, goes_on_at, idle, learned, marked, mode_taken, read_back}
use Rattle.pm_host.specs.Summary.{host_next, sends, stage_message, step_of, writes}
use Rattle.pm_host.specs.Transcript as host
use Rattle.pm_host.specs.Transcript.{Setup, Job, Order, Check, Entry, Finished, Got, Learn, check_end, coefficients_tries, vout_mode_told}
use Rattle.pm_host.specs.Transcript.{last_job_end, is_write_turn, job_end, job_message, last_pass_end, last_job, open_job, order_end}
use Rattle.pm_host.specs.Transcript.{sending_of}
use Rattle.pm_host.specs.Transcript.{told_since, Accepted, Restarted, Send, found, found_for, format_of_output, learn_end}
use Rattle.pm_host.specs.declared.host.Step.TheVariants.{Next, Ended}
use Rattle.pm_host.specs.declared.job.Job.TheVariants as job
use Rattle.pm_host.specs.declared.job.JobEnd.TheVariants.{Done, Differs, Unknown, Learned}
use Rattle.pm_host.specs.declared.question.Question.TheVariants.{Coefficients, Mode, Word}
use Rattle.pm_host.specs.declared.stage.Stage.TheVariants.{Asks, Reads, Writes, Sends}
use Rattle.pm_limits.specs.{declared.output_limits.OutputLimits.OutputLimits, declared.part_registers.PartRegisters.PartRegisters}
use Rattle.pm_limits.specs.Guard.{Guarded, LetsBegin, guard_fault, guarded_order, judged, limits_at, missing_cell, missing_ordered, of_host}
use Rattle.pm_limits.specs.Guard.{word_fault}
use Rattle.pm_world.specs.{Ended.begins_other, Honest.IsSpelled, Job.asked_by, Setup.setup_of, declared.event.Arrival.Arrival}
use Rattle.pm_world.specs.{declared.event.Back.Back, declared.event.Event.Event}
use Rattle.pm_world.specs.Confirmed.{is_good_for, reads, reads_cell, restarted_since, restarts_converter}
use Rattle.pm_world.specs.Legal.{frame_of, heard_bytes, ending_of, is_legal_hearing, is_legal_return, is_heard_whole, answer_in, back_bytes}
use Rattle.pm_world.specs.Lemmas.{entries-more, now-config}
use Rattle.pm_world.specs.Life.{life, now, state_of}
use Rattle.pm_world.specs.State.{State, event_cause, exchange_cause, exchanged, share_of, Share, delivered, delivery_cause, end_by}
use Rattle.pm_world.specs.State.{finish_cause, hears, rule, tells}
use Rattle.pm_world.specs.declared.cause.Cause.TheVariants.{WrongKind, NotBetrayed}
use Rattle.pm_world.specs.declared.event.Event.TheVariants.{Exchange, Finish, Deliver, Reading, RestartDevice}
use Rattle.pm_part_laws.specs.Alike.{back_of}
use Rattle.pm_part_laws.specs.Lemmas.Pageless.{ComesBack, IsHeardPageless, comes-same, own-same, request-pageless, write-pageless, answer_of}
use Rattle.pm_course_laws.specs.FrameLives.{goes_on as still}
use Rattle.pm_driver.specs.Acts.{Call, Read, Wrote, told_of_call, Called, MayDo, IsNoWrite, Looked, Began}
use Rattle.pm_driver.specs.Bus.{AreAll, restarts_in, held_after_one, is_beside_bus, may_hear, IsAsked, held_after}
use Rattle.pm_driver.specs.Driven.{Driving, HasLife, driven, HasNoRestartSince, Runs}
use Rattle.pm_driver.specs.Ends.{Stands, EndSays, cell_of_end}
use Rattle.pm_driver.specs.Laws.{EndIsTrue, EndsAreTrue, LawsOfLives, LeadsCompose}
use Rattle.pm_driver.specs.Lives.{IsLife, newest_tells, EndsSo, EndsTold, Goes, Leads, jobs_asked, with_job}
use Rattle.pm_driver.specs.Looks.{Looks, RequestsAreNoWrites}
use Rattle.pm_driver.specs.Steps.{FramesLead, IsCalled, StaysOpen, LooksLead, JobsLead}
use Rattle.pm_driver.proofs.Lives.{beside-one, goes-on, grown, heard-one, of-life, own-address, quiet, IsSameButFaults, hears-same}
use Rattle.pm_driver.proofs.Lives.{same-by-faults, same-on, IsBegun, job-leads, leads-say, leads-read}

-- The good answer with which an order or a check ended, by the transcript.

-- a host reads a cell, and got a good answer with this word
pub record WasRead (setup : Setup) (before : List Entry) (bytes : List ℕ) (cell : Cell) (word : ℕ) : Type 0 where
  pub good : good_word setup.addr cell bytes ≡ Some word
  pub asked : read_by (open_job setup before) (told_since before) ≡ Some cell
  pub there : IsCell setup.outputs cell

-- the word that an end of an order says was read
abbrev pub word_in_end : ℕ → JobEnd → Option ℕ
word_in_end word Done = Some word
word_in_end word (Differs read) = Some read
word_in_end word Unknown = None
word_in_end word Learned = None

-- an order that ends so: it isn't the turn of a read, and the newest answer has that word
order-end : (turn found_is last : Bool) (found : Option ℕ) (word : ℕ) (end : JobEnd) (read : ℕ) →
    option_map_or (λ w. eqb w word) found false ≡ found_is →
    cond (not turn) None (cond found_is (Some Done) (cond last (Some (last_pass_end found)) None)) ≡ Some end →
    word_in_end word end ≡ Some read → (turn ≡ true) × (found ≡ Some read)
order-end false found_is last found word end read is h says = cc
order-end true true last None word end read is h says = cc
order-end true true last (Some w) word Done read is h says =
    (refl, ap (λ x. Some x) (eqb-true w word is) ∙ says)
order-end true true last (Some w) word end read is h says = cc
order-end true false true None word Unknown read is h says = cc
order-end true false true None word end read is h says = cc
order-end true false true (Some w) word (Differs other) read is h says = (refl, cc)
order-end true false true (Some w) word end read is h says = cc
order-end true false false found word end read is h says = cc

-- a read comes after an odd number of frames
odd-before : (n : ℕ) → eqb (suc n % 2) 0 ≡ true → eqb (n % 2) 0 ≡ false
odd-before n h = go (eqb (n % 2) 0) refl where
  go : (b : Bool) → eqb (n % 2) 0 ≡ b → b ≡ false
  go true e =
      let here = eqb-true (suc n % 2) 0 h in
      let there = eqb-true (n % 2) 0 e in
      absurd (omega arith)
  go false e = refl

-- the job that is open while a read is being sent
opened : (setup : Setup) (entries : List Entry) (job : Job) → open_job setup entries ≡ Some job → last_job entries ≡ Some job
unfolding open_job
opened setup entries job is = go (is_none (last_job_end setup entries)) is where
  go : (b : Bool) → cond b (last_job entries) None ≡ Some job → last_job entries ≡ Some job
  go true e = e
  go false e = cc

-- the last job is open where the host is sending a message, of whatever kind
open-sending : TranscriptsAreFollowed → (setup : Setup) (entries : List Entry) (job : Job) (test : Message → Bool) →
    option_map_or test (sending_in (host_now setup entries)) false ≡ true →
    last_job entries ≡ Some job → open_job setup entries ≡ Some job
unfolding sending_of
open-sending laws setup entries job test sends last = go (open_job setup entries) refl where
  go : (o : Option Job) → open_job setup entries ≡ o → o ≡ Some job
  go None e =
      let nothing : sending_in (host_now setup entries) ≡ None = laws.sending setup entries
      ∙ ap (option_map (λ j. job_message setup j (told_since entries))) e in
      let none : false ≡ true = ap (λ o. option_map_or test o false) (sym nothing) ∙ sends in cc
  go (Some other) e = sym (opened setup entries other e) ∙ last

-- the last job is open where the host is sending a read
open-job : TranscriptsAreFollowed → (setup : Setup) (entries : List Entry) (job : Job) → sends_read (host_now setup entries) ≡ true →
    last_job entries ≡ Some job → open_job setup entries ≡ Some job
open-job laws setup entries job reads last = open-sending laws setup entries job is_read_message reads last

-- the stage of an open job
stage-is : (setup : Setup) (entries : List Entry) (job : Job) → open_job setup entries ≡ Some job →
    (host_now setup entries).stage ≡ Some (job_stage setup job (told_since entries))
unfolding host_now stage_of
stage-is setup entries job is = ap (option_map (λ j. job_stage setup j (told_since entries))) is

-- the cell of an open job is there
stage-sound : TranscriptsAreFollowed → (setup : Setup) (entries : List Entry) (job : Job) → IsSetup setup → AreTold setup entries →
    open_job setup entries ≡ Some job → IsStage (host_now setup entries) (Some (job_stage setup job (told_since entries)))
stage-sound laws setup entries job made told is =
    subst (IsStage (host_now setup entries)) (stage-is setup entries job is) (laws.sound setup entries made told).stage

-- the cell of an open order is a cell that there is
order-there : TranscriptsAreFollowed → (setup : Setup) (entries : List Entry) (cell : Cell) (word : ℕ) → IsSetup setup →
    AreTold setup entries →
    open_job setup entries ≡ Some (Order cell word) → IsCell setup.outputs cell
unfolding host_now
order-there laws setup entries cell word made told is =
    go (is_write_turn (told_since entries)) (stage-sound laws setup entries (Order cell word) made told is) where
      go : (b : Bool) → IsStage (host_now setup entries) (Some (cond b (Writes cell word (length (told_since entries) / 2))
          (Reads cell word (length (told_since entries) / 2)))) → IsCell setup.outputs cell
      go true stage = stage.there
      go false stage = stage.there

-- the cell of an open check is a cell that there is
check-there : TranscriptsAreFollowed → (setup : Setup) (entries : List Entry) (cell : Cell) → IsSetup setup → AreTold setup entries →
    open_job setup entries ≡ Some (Check cell) → IsCell setup.outputs cell
unfolding host_now
check-there laws setup entries cell made told is = (stage-sound laws setup entries (Check cell) made told is).there

-- the output of an open learn is there
learn-open : TranscriptsAreFollowed → (setup : Setup) (entries : List Entry) (output : ℕ) → IsSetup setup → AreTold setup entries →
    open_job setup entries ≡ Some (Learn output) → output < setup.outputs
unfolding host_now
learn-open laws setup entries output made told is =
    let T = told_since entries in
    go (is_some (vout_mode_told setup output T)) (stage-sound laws setup entries (Learn output) made told is) where
      go : (b : Bool) → IsStage (host_now setup entries) (Some (cond b (Asks (Coefficients output) (coefficients_tries setup output
          (told_since entries)))
          (Asks (Mode output) (length (told_since entries))))) → output < setup.outputs
      go true stage = stage.there
      go false stage = stage.there

-- the output of a learn is there that is told the end of a write, or bytes
pub learn-there : TranscriptsAreFollowed → (setup : Setup) (before : List Entry) (entry : Entry) (output : ℕ) → IsSetup setup →
    AreTold setup (entry ∷ before) → last_job (entry ∷ before) ≡ Some (Learn output) →
    ((acked : Bool) × (entry ≡ Finished acked)) ⊎ ((bytes : List ℕ) × (entry ≡ Got bytes)) → output < setup.outputs
unfolding host_now
learn-there laws setup before (Finished acked) output made told last kind =
    learn-open laws setup before output made told.1 (open-sending laws setup before (Learn output) (λ m. not
    (is_read_message m)) told.0 last)
learn-there laws setup before (Got bytes) output made told last kind =
    learn-open laws setup before output made told.1 (open-sending laws setup before (Learn output) is_read_message told.0 last)
learn-there laws setup before entry output made told last (inl is) = cc
learn-there laws setup before entry output made told last (inr is) = cc

-- an order that says which word was read read it
pub order-read : TranscriptsAreFollowed → (setup : Setup) (before : List Entry) (bytes : List ℕ) (cell : Cell) (word : ℕ)
    (end : JobEnd) (read : ℕ) →
    IsSetup setup → AreTold setup (Got bytes ∷ before) → last_job before ≡ Some (Order cell word) →
    last_job_end setup (Got bytes ∷ before) ≡ Some end → word_in_end word end ≡ Some read → WasRead setup before bytes cell read
unfolding last_job_end
order-read laws setup before bytes cell word end read made told last ended says =
    let T = told_since before in
    let here : order_end setup cell word (Got bytes ∷ T) ≡ Some end =
    ap (option_and_then (λ job. job_end setup job (Got bytes ∷ T))) (sym last) ∙ ended in
    let found = order-end (is_write_turn (Got bytes ∷ T))
    (option_map_or (λ w. eqb w word) (good_word setup.addr cell bytes) false)
    (eqb (length (Got bytes ∷ T)) (2 * setup.passes)) (good_word setup.addr cell bytes) word end read refl here says in
    let is = open-job laws setup before (Order cell word) told.0 last in
    record {
      good = found.1;
      asked = ap (λ job. read_by job T) is ∙ ap (λ b. cond b None (Some cell)) (odd-before (length T) found.0);
      there = order-there laws setup before cell word made told.1 is;
    }

-- no order that reads back ends with a write
pub order-wrote : (setup : Setup) (before : List Entry) (acked : Bool) (cell : Cell) (word : ℕ) (end : JobEnd) (read : ℕ) →
    last_job before ≡ Some (Order cell word) →
    last_job_end setup (Finished acked ∷ before) ≡ Some end → word_in_end word end ≡ Some read → ⊥
unfolding last_job_end
order-wrote setup before acked cell word end read last ended says =
    let T = told_since before in
    let here : order_end setup cell word (Finished acked ∷ T) ≡ Some end =
    ap (option_and_then (λ job. job_end setup job (Finished acked ∷ T))) (sym last) ∙ ended in
    let found = order-end (is_write_turn (Finished acked ∷ T)) false (eqb (length (Finished acked ∷ T))
    (2 * setup.passes)) None word end read
    refl here says in
    let none = found.1 in cc

-- a check that is done read a word
check-end : (found : Option ℕ) (last : Bool) → cond (is_some found) (Some Done) (cond last (Some Unknown) None) ≡ Some Done →
    (word : ℕ) × (found ≡ Some word)
check-end (Some word) last h = (word, refl)
check-end None true h = cc
check-end None false h = cc

-- a check that is done once bytes came back read a word of its cell
pub check-read : TranscriptsAreFollowed → (setup : Setup) (before : List Entry) (bytes : List ℕ) (cell : Cell) →
    IsSetup setup → AreTold setup (Got bytes ∷ before) → last_job before ≡ Some (Check cell) →
    last_job_end setup (Got bytes ∷ before) ≡ Some Done → (word : ℕ) × WasRead setup before bytes cell word
unfolding last_job_end
check-read laws setup before bytes cell made told last ended =
    let T = told_since before in
    let here : check_end setup cell (Got bytes ∷ T) ≡ Some Done =
    ap (option_and_then (λ job. job_end setup job (Got bytes ∷ T))) (sym last) ∙ ended in
    let found = check-end (good_word setup.addr cell bytes) (eqb (length (Got bytes ∷ T)) setup.passes) here in
    let is = open-job laws setup before (Check cell) told.0 last in (
      found.0,
      record {
        good = found.1;
        asked = ap (λ job. read_by job T) is;
        there = check-there laws setup before cell made told.1 is;
      },
    )

-- no check is done with the end of a write
pub check-wrote : (setup : Setup) (before : List Entry) (acked : Bool) (cell : Cell) → last_job before ≡ Some (Check cell) →
    last_job_end setup (Finished acked ∷ before) ≡ Some Done → ⊥
unfolding last_job_end
check-wrote setup before acked cell last ended =
    let T = told_since before in
    let here : check_end setup cell (Finished acked ∷ T) ≡ Some Done =
    ap (option_and_then (λ job. job_end setup job (Finished acked ∷ T))) (sym last) ∙ ended in
    let found = check-end None (eqb (length (Finished acked ∷ T)) setup.passes) here in
    let none = found.1 in cc

-- What the end of a job is worth, in every life.

-- what the newest event told the host
data Told (s : State) (event : Event) : Type 0 where
  wrote : (acked : Bool) → (share_of s event).told ≡ Some (Finished acked) → Told s event
  jobs_came : (bytes : List ℕ) → (share_of s event).told ≡ Some (Got bytes) → Told s event

-- a finish or an exchange that no cause is against tells the host the end of a write, or bytes that came back
told-by : (s : State) (event : Event) (before : List Event) → newest_tells (event ∷ before) ≡ true → event_cause s event ≡ None →
    Told s event
told-by s (Finish acked) before tells free = wrote acked refl
told-by s (Exchange arrival back) before tells free = go (sending_in s.host) refl free where
  go : (sending : Option Message) → sending_in s.host ≡ sending → exchange_cause s arrival back sending ≡ None →
      Told s (Exchange arrival back)
  go None e h = cc
  go (Some message) e h = jobs_came _ (ap (λ o. (exchanged s arrival back o).told) e)
told-by s event before tells free = cc

-- a cell is itself
same-self : CellsAreToldApart → (cell : Cell) → same_cell cell cell ≡ true
same-self laws cell = (laws cell cell).1 refl

-- the good answer
goods-so : (setup : Setup) (before : List Entry) (bytes : List ℕ) (cell : Cell) (word : ℕ) →
    WasRead setup before bytes cell word → goods setup before bytes ≡ Good cell word ∷ []
unfolding goods
goods-so setup before bytes cell word was =
    ap (λ o. option_to_list (option_and_then (λ c. option_map (λ w. Good c w) (good_word setup.addr c bytes)) o)) was.asked
    ∙ ap (λ o. option_to_list (option_map (λ w. Good cell w) o)) was.good

-- the marks of a good answer that ended its job
marks-so : (setup : Setup) (before : List Entry) (bytes : List ℕ) (cell : Cell) (word : ℕ) (end : JobEnd) →
    WasRead setup before bytes cell word → last_job_end setup (Got bytes ∷ before) ≡ Some end →
    marks setup (Got bytes ∷ before) ≡ Good cell word ∷ marks setup before
unfolding goods puts open_job
marks-so setup before bytes cell word end was ended =
    ap₂ (λ new good. new ++ (good ++ marks setup before))
    (ap (λ e. put_by (cond (is_none e) (last_job before) None) (told_since (Got bytes ∷ before))) ended)
    (goods-so setup before bytes cell word was)

-- a word stands that was read, and the converter didn't restart since
record StandsRead (config : Config) (passes : ℕ) (events : List Event) (cell : Cell) (word : ℕ) : Type 0 where
  stands : Stands (now config passes events).host (now config passes events).device cell word
  fresh : restarted_since config passes cell events ≡ false

-- the host calls a word that it just read confirmed, and the converter holds it
stands : CellsAreToldApart → LawsOfLives → (config : Config) (passes : ℕ) (before : List Event) (event : Event)
    (bytes : List ℕ) (cell : Cell) (word : ℕ) (end : JobEnd) →
    (is : IsLife config passes (event ∷ before) (now config passes (event ∷ before)).host (now config passes (event ∷ before)).device) →
    (share_of (now config passes before) event).told ≡ Some (Got bytes) →
    WasRead (setup_of config passes) (life config passes before).entries bytes cell word →
    last_job_end (setup_of config passes) (Got bytes ∷ (life config passes before).entries) ≡ Some end →
    StandsRead config passes (event ∷ before) cell word
unfolding restarted_since
stands apart laws config passes before event bytes cell word end is told was ended =
    let setup = setup_of config passes in
    let entries = (life config passes before).entries in
    let true_of = laws.confirmed config passes (event ∷ before) is.lived in
    let all : (life config passes (event ∷ before)).entries ≡ Got bytes ∷ entries =
    entries-more config passes before event ∙ ap (λ o. option_to_list o ++ entries) told in
    let says : standing_at (now config passes (event ∷ before)).host cell ≡ Confirmed word =
    true_of.standing cell was.there ∙ (ap (λ e. standing_of (marks setup e) cell) all
    ∙ (ap (λ m. standing_of m cell) (marks-so setup entries bytes cell word end was ended)
    ∙ ap (λ b. cond b (Confirmed word) (standing_of (marks setup entries) cell)) (same-self apart cell))) in
    let read : reads_cell config passes cell before event ≡ true =
    ap (reads setup entries cell) told
    ∙ (ap (list_any (is_good_for cell)) (goods-so setup entries bytes cell word was)
    ∙ ap (λ b. b || false) (same-self apart cell)) in
    let fresh : restarted_since config passes cell (event ∷ before) ≡ false =
    ap (λ b. cond b false (restarts_converter event || restarted_since config passes cell before)) read in
    record { stands = (says, true_of.held cell word was.there says fresh); fresh = fresh }

-- an order that says which word was read stands with it
order-says : CellsAreToldApart → TranscriptsAreFollowed → LawsOfLives →
    (config : Config) (passes : ℕ) (before : List Event) (event : Event) (cell : Cell) (word : ℕ) (end : JobEnd) (read : ℕ) →
    (is : IsLife config passes (event ∷ before) (now config passes (event ∷ before)).host (now config passes (event ∷ before)).device) →
    newest_tells (event ∷ before) ≡ true →
    last_job (life config passes (event ∷ before)).entries ≡ Some (Order cell word) →
    last_job_end (setup_of config passes) (life config passes (event ∷ before)).entries ≡ Some end → word_in_end word end ≡ Some read →
    StandsRead config passes (event ∷ before) cell read
order-says apart host laws config passes before event cell word end read is tells last ended says =
    go (told-by (now config passes before) event before tells is.lived.legal.0.free) where
      setup : Setup
      setup = setup_of config passes

      entries : List Entry
      entries = (life config passes before).entries

      all : (entry : Entry) → (share_of (now config passes before) event).told ≡ Some entry →
          (life config passes (event ∷ before)).entries ≡ entry ∷ entries
      all entry told = entries-more config passes before event ∙ ap (λ o. option_to_list o ++ entries) told

      go : Told (now config passes before) event →
          StandsRead config passes (event ∷ before) cell read
      go (wrote acked told) = absurd (order-wrote setup entries acked cell word end read
          (subst (λ e. last_job e ≡ Some (Order cell word)) (all (Finished acked) told) last)
          (subst (λ e. last_job_end setup e ≡ Some end) (all (Finished acked) told) ended) says)
      go (jobs_came bytes told) =
          let over = subst (λ e. last_job_end setup e ≡ Some end) (all (Got bytes) told) ended in
          stands apart laws config passes before event bytes cell read end is told
          (order-read host setup entries bytes cell word end read is.lived.made
          (subst (AreTold setup) (all (Got bytes) told) (laws.followed.told config passes (event ∷ before) is.lived))
          (subst (λ e. last_job e ≡ Some (Order cell word)) (all (Got bytes) told) last) over says) over

-- what a check says that is done with some word
check-says : CellsAreToldApart → TranscriptsAreFollowed → LawsOfLives →
    (config : Config) (passes : ℕ) (before : List Event) (event : Event) (cell : Cell) →
    (is : IsLife config passes (event ∷ before) (now config passes (event ∷ before)).host (now config passes (event ∷ before)).device) →
    newest_tells (event ∷ before) ≡ true →
    last_job (life config passes (event ∷ before)).entries ≡ Some (Check cell) →
    last_job_end (setup_of config passes) (life config passes (event ∷ before)).entries ≡ Some Done →
    (word : ℕ) × StandsRead config passes (event ∷ before) cell word
check-says apart host laws config passes before event cell is tells last ended =
    go (told-by (now config passes before) event before tells is.lived.legal.0.free) where
      setup : Setup
      setup = setup_of config passes

      entries : List Entry
      entries = (life config passes before).entries

      all : (entry : Entry) → (share_of (now config passes before) event).told ≡ Some entry →
          (life config passes (event ∷ before)).entries ≡ entry ∷ entries
      all entry told = entries-more config passes before event ∙ ap (λ o. option_to_list o ++ entries) told

      go : Told (now config passes before) event →
          (word : ℕ) × StandsRead config passes (event ∷ before) cell word
      go (wrote acked told) = absurd (check-wrote setup entries acked cell
          (subst (λ e. last_job e ≡ Some (Check cell)) (all (Finished acked) told) last)
          (subst (λ e. last_job_end setup e ≡ Some Done) (all (Finished acked) told) ended))
      go (jobs_came bytes told) =
          let over = subst (λ e. last_job_end setup e ≡ Some Done) (all (Got bytes) told) ended in
          let found = check-read host setup entries bytes cell is.lived.made
          (subst (AreTold setup) (all (Got bytes) told) (laws.followed.told config passes (event ∷ before) is.lived))
          (subst (λ e. last_job e ≡ Some (Check cell)) (all (Got bytes) told) last) over in
          (found.0, stands apart laws config passes before event bytes cell found.0 Done is told found.1 over)

-- a learn that learned found a format
learned-so : (o : Option (Option Shape)) → option_map (λ shape. cond (is_some shape) Learned Unknown) o ≡ Some Learned →
    (shape : Shape) × (o ≡ Some (Some shape))
learned-so None h = cc
learned-so (Some None) h = cc
learned-so (Some (Some shape)) h = (shape, refl)

-- a format that the last job found is the output's
format-in : (setup : Setup) (before told : List Entry) (output : ℕ) (shape : Shape) (last : Option Job) → last ≡ Some (Learn output) →
    found setup output told ≡ Some (Some shape) →
    option_or (option_and_then (λ job. found_for setup output job told) last) (format_of_output setup before output) ≡ Some shape
format-in setup before told output shape last is so =
    ap (λ o. option_or (option_and_then (λ job. found_for setup output job told) o) (format_of_output setup before output)) is
    ∙ (ap (λ b. option_or (cond b (option_and_then (λ s. s) (found setup output told)) None) (format_of_output setup before output))
    (eq-eqb output output refl)
    ∙ ap (λ o. option_or (option_and_then (λ s. s) o) (format_of_output setup before output)) so)

-- before the first frame nothing was found
nothing-found : (b : Bool) (shape : Shape) → cond b (Some None) None ≡ Some (Some shape) → ⊥
nothing-found true shape h = cc
nothing-found false shape h = cc

-- the output has the format that was found
learned-format : (setup : Setup) (entries : List Entry) (output : ℕ) (shape : Shape) → last_job entries ≡ Some (Learn output) →
    found setup output (told_since entries) ≡ Some (Some shape) → format_of_output setup entries output ≡ Some shape
learned-format setup [] output shape last so = cc
learned-format setup (Restarted ∷ before) output shape last so = cc
learned-format setup (Accepted job ∷ before) output shape last so = absurd (nothing-found (eqb 0 setup.passes) shape so)
learned-format setup (Finished acked ∷ before) output shape last so =
    format-in setup before (Finished acked ∷ told_since before) output shape (last_job before) last so
learned-format setup (Got bytes ∷ before) output shape last so =
    format-in setup before (Got bytes ∷ told_since before) output shape (last_job before) last so

-- the host holds the converter's format after a learn
learn-says : TranscriptsAreFollowed → LawsOfLives →
    (config : Config) (passes : ℕ) (before : List Event) (event : Event) (output : ℕ) →
    (is : IsLife config passes (event ∷ before) (now config passes (event ∷ before)).host (now config passes (event ∷ before)).device) →
    IsSpelled config → newest_tells (event ∷ before) ≡ true →
    last_job (life config passes (event ∷ before)).entries ≡ Some (Learn output) →
    last_job_end (setup_of config passes) (life config passes (event ∷ before)).entries ≡ Some Learned →
    IsSomeAnd (format_at (now config passes (event ∷ before)).host output) (λ shape. shape ≡ shape_for config output)
unfolding last_job_end
learn-says host laws config passes before event output is spelled tells last ended =
    let entries = (life config passes (event ∷ before)).entries in
    let setup = setup_of config passes in
    let agree = laws.formats.agree config passes (event ∷ before) spelled is.lived in
    let so : learn_end setup output (told_since entries) ≡ Some Learned =
    ap (option_and_then (λ job. job_end setup job (told_since entries))) (sym last) ∙ ended in
    let shape = learned-so (found setup output (told_since entries)) so in
    let told = laws.followed.told config passes (event ∷ before) is.lived in
    let has = agree.learned output shape.0 (there told (told-by (now config passes before) event before tells is.lived.legal.0.free))
    (learned-format setup entries output shape.0 last shape.1) in
    subst (λ o. IsSomeAnd o (λ s. s ≡ shape_for config output)) (sym has) (agree.held output shape.0 has) where
      all : (entry : Entry) → (share_of (now config passes before) event).told ≡ Some entry →
          (life config passes (event ∷ before)).entries ≡ entry ∷ (life config passes before).entries
      all entry told = entries-more config passes before event ∙ ap (λ o. option_to_list o ++ (life config passes before).entries) told

      there : AreTold (setup_of config passes) (life config passes (event ∷ before)).entries → Told (now config passes before) event →
          output < config.count
      there told (wrote acked said) =
          learn-there host (setup_of config passes) (life config passes before).entries (Finished acked) output is.lived.made
          (subst (AreTold (setup_of config passes)) (all (Finished acked) said) told)
          (subst (λ e. last_job e ≡ Some (Learn output)) (all (Finished acked) said) last) (inl (acked, refl))
      there told (jobs_came bytes said) =
          learn-there host (setup_of config passes) (life config passes before).entries (Got bytes) output is.lived.made
          (subst (AreTold (setup_of config passes)) (all (Got bytes) said) told)
          (subst (λ e. last_job e ≡ Some (Learn output)) (all (Got bytes) said) last) (inr (bytes, refl))

-- the end of the last job is that of the transcript
pub now-end : (config : Config) (passes : ℕ) (events : List Event) →
    (now config passes events).end ≡ last_job_end (setup_of config passes) (life config passes events).entries
unfolding now state_of
now-end config passes events = refl

-- what the end of a job is worth
pub ends-are-true : CellsAreToldApart → TranscriptsAreFollowed → LawsOfLives → EndsAreTrue
ends-are-true apart host laws config passes [] job end spelled lived tells last ended = cc
ends-are-true apart host laws config passes (event ∷ before) job end spelled lived tells last ended =
    go job end last (sym (now-end config passes (event ∷ before)) ∙ ended) where
      is : IsLife config passes (event ∷ before) (now config passes (event ∷ before)).host (now config passes (event ∷ before)).device
      is = record { lived = lived; host_is = refl; held_is = record { same = refl; modes = refl } }

      go : (j : Job) (e : JobEnd) → last_job (life config passes (event ∷ before)).entries ≡ Some j →
          last_job_end (setup_of config passes) (life config passes (event ∷ before)).entries ≡ Some e →
          EndIsTrue config passes (event ∷ before) j e
      go (Order cell word) Done l so =
          let one = order-says apart host laws config passes before event cell word Done word is tells l so refl in
          record { says = one.stands; read = one.fresh }
      go (Order cell word) (Differs read) l so =
          let one = order-says apart host laws config passes before event cell word (Differs read) read is tells l so refl in
          record { says = one.stands; read = one.fresh }
      go (Order cell word) Unknown l so = record { says = tt; read = tt }
      go (Order cell word) Learned l so = record { says = tt; read = tt }
      go (Check cell) Done l so =
          let one = check-says apart host laws config passes before event cell is tells l so in
          record { says = (one.0, one.1.stands); read = one.1.fresh }
      go (Check cell) (Differs read) l so = record { says = tt; read = tt }
      go (Check cell) Unknown l so = record { says = tt; read = tt }
      go (Check cell) Learned l so = record { says = tt; read = tt }
      go (Learn output) Learned l so = record {
        says = subst (λ c. IsSomeAnd (format_at (now config passes (event ∷ before)).host output) (λ shape. shape ≡ shape_for c output))
            (sym (now-config config passes (event ∷ before)))
            (learn-says host laws config passes before event output is spelled tells l so);
        read = tt;
      }
      go (Learn output) Done l so = record { says = tt; read = tt }
      go (Learn output) (Differs read) l so = record { says = tt; read = tt }
      go (Learn output) Unknown l so = record { says = tt; read = tt }
      go (Send command) e l so = record { says = tt; read = tt }

-- A job stays open until it ends, and each frame of it leaves fewer.

-- a change leaves a job open exactly if it doesn't end it
abbrev IsOpen : Change → Type 0
IsOpen change = still change.step ≡ is_some change.after.stage

-- whichever of two changes is chosen leaves a job open, if both do
open-cond : (b : Bool) (one other : Change) → IsOpen one → IsOpen other → IsOpen (cond b one other)
open-cond true one other first second = first
open-cond false one other first second = second

-- the end of a job isn't one that leaves it open
ended-open : (s : Summary) (end : JobEnd) → IsOpen (ends s end)
ended-open s end = refl

-- a write was finished
finished-open : (s : Summary) (stage : Stage) (acked : Bool) → IsOpen (summary_finished s (Some stage) acked)
finished-open s (Sends command tries) acked =
    let more = cond (eqb (tries + 1) s.setup.passes) (ends s Unknown) (sends s command (tries + 1)) in
    open-cond acked (ends s Done) more (ended-open s Done)
    (open-cond (eqb (tries + 1) s.setup.passes) (ends s Unknown) (sends s command (tries + 1)) (ended-open s Unknown) refl)
finished-open s stage acked = refl

-- an order read its cell back
read-open : (s : Summary) (cell : Cell) (word pass : ℕ) (read : Option ℕ) → IsOpen (read_back s cell word pass read)
read-open s cell word pass None =
    open-cond (eqb (pass + 1) s.setup.passes) (ends s Unknown) (writes s cell word (pass + 1)) (ended-open s Unknown) refl
read-open s cell word pass (Some read) =
    let t = marked s (Good cell read) in
    let more = cond (eqb (pass + 1) t.setup.passes) (ends t (Differs read)) (writes t cell word (pass + 1)) in
    open-cond (eqb read word) (ends t Done) more (ended-open t Done)
    (open-cond (eqb (pass + 1) t.setup.passes) (ends t (Differs read)) (writes t cell word (pass + 1)) (ended-open t (Differs read))
    refl)

-- a learn found a format, or none
learned-open : (s : Summary) (output : ℕ) (shape : Option Shape) → IsOpen (learned s output shape)
learned-open s output None = ended-open s Unknown
learned-open s output (Some shape) = refl

-- a learn read VOUT_MODE
mode-open : (s : Summary) (output : ℕ) (mode : Result VoutMode TableFault) → IsOpen (mode_taken s output mode)
mode-open s output (Err fault) = learned-open s output None
mode-open s output (Ok (Linear exponent)) = learned-open s output (Some (InUlinear16 exponent))
mode-open s output (Ok Direct) = refl

-- a question was answered
taken-open : (s : Summary) (question : Question) (payload : List ℕ) → IsOpen (answer_taken s question payload)
taken-open s (Word cell) payload = ended-open (marked s (Good cell (word_in payload))) Done
taken-open s (Mode output) payload = mode-open s output (mode_of (word_in payload))
taken-open s (Coefficients output) payload = learned-open s output (result_ok (shape_in Direct (coefficients_of payload)))

-- what an answered or unanswered question leaves open
asked-open : (s : Summary) (question : Question) (tries : ℕ) (payload : Option (List ℕ)) →
    IsOpen (question_answered s question tries payload)
asked-open s question tries None =
    open-cond (eqb (tries + 1) s.setup.passes) (ends s Unknown) (goes_on_at s (Asks question (tries + 1))) (ended-open s Unknown) refl
asked-open s question tries (Some payload) = taken-open s question payload

-- bytes came back
answered-open : (s : Summary) (stage : Stage) (bytes : List ℕ) → IsOpen (summary_answered s (Some stage) bytes)
answered-open s (Reads cell word pass) bytes = read-open s cell word pass (good_word s.setup.addr cell bytes)
answered-open s (Asks question tries) bytes =
    asked-open s question tries (good_payload s.setup.addr (question_message question) bytes)
answered-open s stage bytes = refl

-- a call leaves the job open exactly if it doesn't end it
pub still-busy : (s : Summary) (call : Call) → is_busy s ≡ true → still (step_of s (told_of_call call))
    ≡ is_busy (host_next s (told_of_call call))
unfolding host_next step_of
still-busy s (Wrote frame acked) busy = go s.stage busy where
  go : (stage : Option Stage) → is_some stage ≡ true → IsOpen (summary_finished (idle s) stage acked)
  go None b = cc
  go (Some stage) b = finished-open (idle s) stage acked
still-busy s (Read request room came) busy = go s.stage busy where
  go : (stage : Option Stage) → is_some stage ≡ true → IsOpen (summary_answered (idle s) stage came)
  go None b = cc
  go (Some stage) b = answered-open (idle s) stage came

-- one that doesn't end it leaves it open
pub stays-open : (s : Summary) (call : Call) → is_busy s ≡ true → step_of s (told_of_call call) ≡ Next →
    is_busy (host_next s (told_of_call call)) ≡ true
stays-open s call busy next = sym (still-busy s call busy) ∙ ap still next

-- a frame that was sent leaves fewer
pub spends : (s : Summary) (call : Call) → IsSound s → may_come s (told_of_call call) ≡ true →
    frames_left (host_next s (told_of_call call)) < frames_left s
unfolding host_next
spends s (Wrote frame acked) sound may = go s.stage sound.stage may where
  go : (stage : Option Stage) → IsStage s stage → sends_write (record s { stage = stage }) ≡ true →
      frames_left (summary_finished (idle s) stage acked).after < frames_left (record s { stage = stage })
  go = search rules
spends s (Read request room came) sound may = go s.stage sound.stage may where
  reads-back : (cell : Cell) (word pass : ℕ) (read : Option ℕ) → pass < s.setup.passes →
      frames_left (read_back (idle s) cell word pass read).after < frames_from s.setup.passes (Reads cell word pass)
  reads-back = search rules

  asks : (question : Question) (tries : ℕ) (payload : Option (List ℕ)) → tries < s.setup.passes →
      frames_left (question_answered (idle s) question tries payload).after < frames_from s.setup.passes (Asks question tries)
  asks question tries None some = search rules
  asks (Word cell) tries (Some payload) some = search rules
  asks (Mode output) tries (Some payload) some = search rules
  asks (Coefficients output) tries (Some payload) some = search rules

  go : (stage : Option Stage) → IsStage s stage → sends_read (record s { stage = stage }) ≡ true →
      frames_left (summary_answered (idle s) stage came).after < frames_left (record s { stage = stage })
  go None is reads = cc
  go (Some (Writes cell word pass)) is reads = search rules
  go (Some (Reads cell word pass)) is reads = reads-back cell word pass (good_word s.setup.addr cell came) is.left
  go (Some (Asks question tries)) is reads = asks question tries (good_payload s.setup.addr (question_message question) came) is.left
  go (Some (Sends command tries)) is reads = search rules

-- a host that sends something has an open job
pub busy-host : (P : Message → Type 0) (s : Summary) → IsSomeAnd (sending_in s) P → is_busy s ≡ true
busy-host P s h = go s.stage h where
  go : (stage : Option Stage) → IsSomeAnd (option_map stage_message stage) P → is_some stage ≡ true
  go None e = absurd e
  go (Some stage) e = refl

-- A call of the bus, as the events of a life.

-- the room for the whole answer to a message that is being sent
pub room-empty : (sending : Option Message) (bytes : ℕ) (room : List ℕ) → room ≡ replicate bytes 0 →
    IsSomeAnd sending (λ message. bytes ≡ whole_answer message) →
    IsSomeAnd sending (λ message. room ≡ replicate (whole_answer message) 0)
room-empty None bytes room empty is = absurd is
room-empty (Some message) bytes room empty is = empty ∙ ap (λ n. replicate n 0) is

-- a message that the host is sending, with its frame
record SendsWrite (host : Summary) (frame : List ℕ) : Type 0 where
  message : Message
  sending : sending_in host ≡ Some message
  is : IsWrite host.setup.addr message frame

record SendsRequest (host : Summary) (request : List ℕ) (needed : ℕ) : Type 0 where
  message : Message
  sending : sending_in host ≡ Some message
  is : IsRequest host.setup.addr message request
  long : needed ≡ whole_answer message

-- the host sends this write, by the message that it shows
sends-write : (host : Summary) (frame : List ℕ) → IsSomeAnd (sending_in host) (λ message. IsWrite host.setup.addr message frame) →
    SendsWrite host frame
sends-write host frame shown = go (sending_in host) refl shown where
  go : (sending : Option Message) → sending_in host ≡ sending →
      IsSomeAnd sending (λ message. IsWrite host.setup.addr message frame) → SendsWrite host frame
  go None e is = absurd is
  go (Some message) e is = record { message = message; sending = e; is = is }

-- a request and the room for its whole answer, as a host shows them, are those of the message that it is sending
sends-request : (host : Summary) (request room : List ℕ) →
    IsSomeAnd (sending_in host) (λ message. IsRequest host.setup.addr message request)
    × IsSomeAnd (sending_in host) (λ message. room ≡ replicate (whole_answer message) 0) → SendsRequest host request (length room)
sends-request host request room shown = go (sending_in host) refl shown where
  go : (sending : Option Message) → sending_in host ≡ sending →
      IsSomeAnd sending (λ message. IsRequest host.setup.addr message request)
      × IsSomeAnd sending (λ message. room ≡ replicate (whole_answer message) 0) → SendsRequest host request (length room)
  go None e is = absurd is.0
  go (Some message) e is = record {
    message = message;
    sending = e;
    is = is.0;
    long = ap length is.1 ∙ length-replicate (whole_answer message) 0;
  }

-- the frame of a write, and of a request
write-frame : {addr : ℕ} {message : Message} {frame : List ℕ} → IsWrite addr message frame → frame_of addr message ≡ frame
unfolding frame_of
write-frame {addr = addr} {message = message} is =
    ap (λ b. cond b (sent addr message) (with_pec [] (sent addr message))) is.writes ∙ sym is.spelled

-- the frame that a host sends for a message that reads is the request of that message
request-frame : {addr : ℕ} {message : Message} {frame : List ℕ} → IsRequest addr message frame → frame_of addr message ≡ frame
unfolding frame_of
request-frame {addr = addr} {message = message} is =
    ap (λ b. cond b (sent addr message) (with_pec [] (sent addr message))) is.reads ∙ sym is.spelled

-- the converter hears a write that is being sent
deliver-free : (s : State) (frame : List ℕ) (arrival : Arrival) → SendsWrite s.host frame →
    is_legal_hearing frame (heard_bytes frame arrival) (ending_of Stop arrival) ≡ true →
    event_cause s (Deliver arrival) ≡ None
deliver-free s frame arrival sends legal =
    let hears_so : Bool → List ℕ → Bool = λ b f. is_legal_hearing f (heard_bytes f arrival) (ending_of (cond b Restart Stop) arrival) in
    ap (delivery_cause s arrival) sends.sending
    ∙ (ap₂ (λ b f. option_or (rule b WrongKind) (rule (not (hears_so b f)) NotBetrayed)) sends.is.writes (write-frame sends.is)
    ∙ ap (λ b. rule (not b) NotBetrayed) legal)

-- a delivery of the write that is being sent lets the converter hear it as it arrives, and the host is told nothing
deliver-tells : (s : State) (frame : List ℕ) (arrival : Arrival) → SendsWrite s.host frame →
    share_of s (Deliver arrival) ≡ hears (device.Hearing (heard_bytes frame arrival) (ending_of Stop arrival))
deliver-tells s frame arrival sends =
    ap (delivered s arrival) sends.sending
    ∙ ap₂ (λ b f. hears (device.Hearing (heard_bytes f arrival) (ending_of (cond b Restart Stop) arrival))) sends.is.writes
    (write-frame sends.is)

-- while a write is being sent
hear-one : LawsOfLives → {config : Config} {passes : ℕ} {host : Summary} (frame : List ℕ) → SendsWrite host frame →
    (earlier : List Event) (event : Event) (then : Held) → IsLife config passes earlier host then → may_hear frame event ≡ true →
    Goes config passes earlier (event ∷ []) [] None host (held_after_one frame then event)
hear-one laws {config = config} {passes = passes} {host = host} frame sends earlier (Deliver arrival) then is so =
    let shown = of-life (λ h. SendsWrite h frame) is sends in
    let s = now config passes earlier in
    heard-one (grown laws (Deliver arrival) (hears (device.Hearing (heard_bytes frame arrival) (ending_of Stop arrival))) is
    (deliver-free s frame arrival shown so) tt (deliver-tells s frame arrival shown)
    (subst (λ a. IsHeardPageless a (Some (device.Hearing (heard_bytes frame arrival) (ending_of Stop arrival)))) (own-address is)
    (write-pageless laws.writes laws.damage laws.betrayal host sends.message frame (heard_bytes frame arrival) (ending_of Stop arrival)
    sends.sending sends.is so)))
hear-one laws frame sends earlier RestartDevice then is so = beside-one laws frame earlier RestartDevice then is refl
hear-one laws frame sends earlier (Reading output code word) then is so =
    beside-one laws frame earlier (Reading output code word) then is refl
hear-one laws frame sends earlier event then is so = cc

-- how the job stands is what the last event says
ends-so : (end last : Option JobEnd) → last ≡ end → EndsSo end last
ends-so None last is = tt
ends-so (Some end) last is = is

-- an end is that of the newest event
pub ends-told : (end : Option JobEnd) (events : List Event) → newest_tells events ≡ true → EndsTold end events
ends-told None events tells = tt
ends-told (Some end) events tells = tells

-- a write is over
finish-free : (s : State) (frame : List ℕ) (acked : Bool) → SendsWrite s.host frame → event_cause s (Finish acked) ≡ None
finish-free s frame acked sends = ap finish_cause sends.sending ∙ ap (λ b. rule b WrongKind) sends.is.writes

-- a life goes on by the end of a write that was being sent: the host is told of it, and the converter stays as it was
finished : LawsOfLives → {config : Config} {passes : ℕ} {before : List Event} {host : Summary} {held : Held} →
    (frame : List ℕ) (acked : Bool) → SendsWrite host frame → IsLife config passes before host held →
    Goes config passes before (Finish acked ∷ []) (Called (Wrote frame acked) ∷ []) (end_by (step_of host (Finished acked)))
    (host_next host (Finished acked)) held
finished laws {config = config} {passes = passes} {before = before} {host = host} frame acked sends is =
    let one = grown laws (Finish acked) (tells (Finished acked)) is
    (finish-free (now config passes before) frame acked (of-life (λ h. SendsWrite h frame) is sends)) tt refl tt in
    record { is_life = one.is_life; told = one.told; ended = ends-so (end_by (step_of host (Finished acked))) _ one.ended }

-- what an exchange of this request is, of a life
exchange-free : (s : State) (request : List ℕ) (needed : ℕ) (arrival : Arrival) (back : Back) → SendsRequest s.host request needed →
    is_legal_hearing request (heard_bytes request arrival) (ending_of Restart arrival) ≡ true →
    is_legal_return request needed (is_heard_whole request (heard_bytes request arrival) (ending_of Restart arrival))
    (answer_of s.device request arrival) (back_bytes (answer_of s.device request arrival) back) ≡ true →
    event_cause s (Exchange arrival back) ≡ None
exchange-free s request needed arrival back sends legal returned =
    let bytes : List ℕ → List ℕ = λ f. heard_bytes f arrival in
    let answer : Bool → List ℕ → List ℕ = λ b f. answer_in (reply_of s.device (bytes f) (ending_of (cond b Restart Stop) arrival)) in
    let heard : Bool → List ℕ → Bool = λ b f. is_legal_hearing f (bytes f) (ending_of (cond b Restart Stop) arrival) in
    let came : Bool → List ℕ → ℕ → Bool = λ b f n. is_legal_return f n (is_heard_whole f (bytes f) (ending_of
    (cond b Restart Stop) arrival))
    (answer b f) (back_bytes (answer b f) back) in
    ap (exchange_cause s arrival back) sends.sending
    ∙ (ap₂ (λ b f. option_or (rule (not b) WrongKind) (option_or (rule (not (heard b f)) NotBetrayed)
    (rule (not (came b f (whole_answer sends.message))) NotBetrayed))) sends.is.reads (request-frame sends.is)
    ∙ (ap (λ n. option_or (rule (not (heard true request)) NotBetrayed) (rule (not (came true request n)) NotBetrayed)) (sym sends.long)
    ∙ ap₂ (λ x y. option_or (rule (not x) NotBetrayed) (rule (not y) NotBetrayed)) legal returned))

-- an exchange of the request that is being sent lets the converter hear it as it arrives, and the host is told what comes
-- back of the answer
exchange-tells : (s : State) (request : List ℕ) (needed : ℕ) (arrival : Arrival) (back : Back) → SendsRequest s.host request needed →
    share_of s (Exchange arrival back)
    ≡ record {
      heard = Some (device.Hearing (heard_bytes request arrival) (ending_of Restart arrival));
      told = Some (Got (back_bytes (answer_of s.device request arrival) back));
    }
exchange-tells s request needed arrival back sends =
    let share : Bool → List ℕ → Share = λ b f. record {
      heard = Some (device.Hearing (heard_bytes f arrival) (ending_of (cond b Restart Stop) arrival));
      told = Some (Got (back_bytes (answer_in (reply_of s.device (heard_bytes f arrival) (ending_of
          (cond b Restart Stop) arrival))) back));
    } in
    ap (exchanged s arrival back) sends.sending ∙ ap₂ share sends.is.reads (request-frame sends.is)

-- what an exchange makes of both ends, of a life whose converter answers alike
answer-tells : LawsOfLives → {config : Config} {passes : ℕ} {before : List Event} {host : Summary} {held : Held} →
    (request room came : List ℕ) (arrival : Arrival) (back : Back) → SendsRequest host request (length room) →
    IsLife config passes before host held → ComesBack request (length room) held arrival back came →
    share_of (now config passes before) (Exchange arrival (back_of arrival back came)) ≡ record {
      heard = Some (device.Hearing (heard_bytes request arrival) (ending_of Restart arrival));
      told = Some (Got came);
    }
answer-tells laws {config = config} {passes = passes} {before = before} {host = host} {held = held} request room came arrival back
    sends is comes =
    let s = now config passes before in
    let alike = own-same laws.requests s.device held host sends.message request is.held_is sends.sending sends.is in
    let same = comes-same request (length room) held s.device arrival back came alike comes in
    exchange-tells s request (length room) arrival (back_of arrival back came)
    (of-life (λ h. SendsRequest h request (length room)) is sends)
    ∙ ap (λ (b : List ℕ). record {
      heard = Some (device.Hearing (heard_bytes request arrival) (ending_of Restart arrival));
      told = Some (Got b);
    }) same.came_is

-- a request came back
answered : LawsOfLives → {config : Config} {passes : ℕ} {before : List Event} {host : Summary} {held new : Held} →
    (request room came : List ℕ) (arrival : Arrival) (back : Back) → SendsRequest host request (length room) →
    IsLife config passes before host held →
    is_legal_hearing request (heard_bytes request arrival) (ending_of Restart arrival) ≡ true →
    ComesBack request (length room) held arrival back came →
    device_next held (device.Hearing (heard_bytes request arrival) (ending_of Restart arrival)) ≡ new →
    Goes config passes before (Exchange arrival (back_of arrival back came) ∷ []) (Called (Read request room came) ∷ [])
    (end_by (step_of host (Got came))) (host_next host (Got came)) new
answered laws {config = config} {passes = passes} {before = before} {host = host} {held = held} {new = new} request room came arrival
    back sends is legal comes after =
    let needed = length room in
    let s = now config passes before in
    let so = back_of arrival back came in
    let shown = of-life (λ h. SendsRequest h request needed) is sends in
    let hears_so : device.Event = device.Hearing (heard_bytes request arrival) (ending_of Restart arrival) in
    let share : Share = record { heard = Some hears_so; told = Some (Got came) } in
    let alike = own-same laws.requests s.device held host sends.message request is.held_is sends.sending sends.is in
    let same = comes-same request needed held s.device arrival back came alike comes in
    let told : share_of s (Exchange arrival so) ≡ share = answer-tells laws request room came arrival back sends is comes in
    let one = grown laws (Exchange arrival so) share is
    (exchange-free s request needed arrival so shown legal same.returned) tt told
    (subst (λ a. IsHeardPageless a (Some hears_so)) (own-address is)
    (request-pageless laws.requests laws.damage laws.betrayal host.setup.addr sends.message request (heard_bytes request arrival)
    (ending_of Restart arrival) sends.is legal)) in
    record {
      is_life = subst (λ d. IsLife config passes (Exchange arrival so ∷ before) (host_next host (Got came)) d) after one.is_life;
      told = one.told;
      ended = ends-so (end_by (step_of host (Got came))) _ one.ended;
    }

-- what the converter hears, and what happens beside the bus, asks for no job
hears-none : (frame : List ℕ) (event : Event) → may_hear frame event ≡ true → asked_by event ≡ None
hears-none frame RestartDevice is = refl
hears-none frame (Reading output code word) is = refl
hears-none frame (Deliver arrival) is = refl
hears-none frame event is = cc

-- what happens to a converter beside the bus asks for no job
pub beside-none : (event : Event) → is_beside_bus event ≡ true → asked_by event ≡ None
beside-none RestartDevice is = refl
beside-none (Reading output code word) is = refl
beside-none event is = cc

-- events of a kind that asks for no job ask for no jobs, however many they are
pub none-asked : (may : Event → Bool) → ((event : Event) → may event ≡ true → asked_by event ≡ None) → (events : List Event) →
    AreAll may events → jobs_asked events ≡ []
none-asked may none [] all = refl
none-asked may none (event ∷ events) all =
    ap (λ o. with_job o (jobs_asked events)) (none event all.0) ∙ none-asked may none events all.1

-- what the converter hears, and what happens to it beside the bus
abbrev pub is_of_bus : Event → Bool
is_of_bus RestartDevice = true
is_of_bus (Reading output code word) = true
is_of_bus (Deliver arrival) = true
is_of_bus event = false

hears-of-bus : (frame : List ℕ) (event : Event) → may_hear frame event ≡ true → is_of_bus event ≡ true
hears-of-bus frame RestartDevice is = refl
hears-of-bus frame (Reading output code word) is = refl
hears-of-bus frame (Deliver arrival) is = refl
hears-of-bus frame event is = cc

beside-of-bus : (event : Event) → is_beside_bus event ≡ true → is_of_bus event ≡ true
beside-of-bus RestartDevice is = refl
beside-of-bus (Reading output code word) is = refl
beside-of-bus event is = cc

all-so : (may other : Event → Bool) → ((event : Event) → may event ≡ true → other event ≡ true) → (events : List Event) →
    AreAll may events → AreAll other events
all-so may other so [] all = tt
all-so may other so (event ∷ events) all = (so event all.0, all-so may other so events all.1)

-- The events of a call of the frame that the host was sending: the newest tells the host what the call answered, and those
-- before it tell it nothing.
pub record CallEvents (call : Call) (host : Summary) (old : Held) (was : ℕ) (new : Held) (is : ℕ) : Type 0 where
  pub newest : Event
  pub older : List Event
  pub tells_so : newest_tells (newest ∷ older) ≡ true
  pub alone : begins_other newest ≡ false
  pub of_bus : AreAll is_of_bus older
  pub orders : jobs_asked (newest ∷ older) ≡ []
  pub count : restarts_in (newest ∷ older) + was ≡ is
  pub told : (config : Config) (passes : ℕ) (before : List Event) → IsLife config passes before host old →
      ((now config passes (older ++ before)).host ≡ host)
      × ((share_of (now config passes (older ++ before)) newest).told ≡ Some (told_of_call call))
  pub goes : (config : Config) (passes : ℕ) (before : List Event) → IsLife config passes before host old →
      Goes config passes before (newest ∷ older) (Called call ∷ []) (end_by (step_of host (told_of_call call))) (host_next host (told_of_call call)) new

-- there are such
pub call-events : LawsOfLives → (call : Call) (host : Summary) (old : Held) (was : ℕ) (new : Held) (count : ℕ) → MayDo host (Called call) →
    IsCalled call old was new count →
    CallEvents call host old was new count
call-events laws (Wrote frame acked) host old was new count may is =
    let sends = sends-write host frame may in
    record {
      newest = Finish acked;
      older = is.events;
      tells_so = refl;
      alone = refl;
      of_bus = all-so (may_hear frame) is_of_bus (hears-of-bus frame) is.events is.may;
      orders = none-asked (may_hear frame) (hears-none frame) is.events is.may;
      count = (let rose = is.count in omega arith);
      told = λ config passes before life.
          ((quiet frame (may_hear frame) (hear-one laws frame sends) is.events is.may life).is_life.host_is, refl);
      goes = λ config passes before life.
          let heard = subst (λ d. Goes config passes before is.events [] None host d) is.after
          (quiet frame (may_hear frame) (hear-one laws frame sends) is.events is.may life) in
          goes-on heard (finished laws frame acked sends heard.is_life);
    }
call-events laws (Read request room came) host old was new count may is =
    let sends = sends-request host request room may in
    record {
      newest = Exchange is.arrival (back_of is.arrival is.back came);
      older = is.before;
      tells_so = refl;
      alone = refl;
      of_bus = all-so is_beside_bus is_of_bus beside-of-bus is.before is.beside_before;
      orders = none-asked is_beside_bus beside-none is.before is.beside_before;
      count = (let rose = is.count in omega arith);
      told = λ config passes before life.
          let beside = quiet request is_beside_bus (beside-one laws request) is.before is.beside_before life in (
            beside.is_life.host_is,
            ap (λ (w : Share). w.told) (answer-tells laws request room came is.arrival is.back sends beside.is_life
                (record { returned = is.returned; came_is = is.came_is })),
          );
      goes = λ config passes before life.
          let beside = quiet request is_beside_bus (beside-one laws request) is.before is.beside_before life in
          goes-on beside (answered laws request room came is.arrival is.back sends beside.is_life is.legal
          (record { returned = is.returned; came_is = is.came_is }) is.after);
    }

-- frames lead on
pub frames-lead : LawsOfLives → {B : Type 0} → (gives : B → Call → B → Type 0) → (held : B → Held) → (restarts : B → ℕ)
    → FramesLead gives held restarts
frames-lead laws gives held restarts call host old new may is so =
    let e = call-events laws call host (held old) (restarts old) (held new) (restarts new) may is in
    record {
      acts = Called call ∷ [];
      events = e.newest ∷ e.older;
      asks = refl;
      calls = (old, refl, so);
      may = (may, tt);
      host = refl;
      newest = ends-told (end_by (step_of host (told_of_call call))) (e.newest ∷ e.older) e.tells_so;
      count = e.count;
      orders = e.orders;
      lives = e.goes;
    }

-- what `told` leaves and answers after a call leads on
pub told-leads : {B : Type 0} (gives : B → Call → B → Type 0) (held : B → Held) (restarts : B → ℕ) → FramesLead gives held restarts →
    (call : Call) (host after : Summary) (step : Step) (old new : B) → MayDo host (Called call)
    → IsCalled call (held old) (restarts old) (held new) (restarts new) →
    gives old call new → after ≡ host_next host (told_of_call call) → step ≡ step_of host (told_of_call call) →
    Leads gives held restarts [] (end_by step) (record { host = host; bus = old }) (record { host = after; bus = new })
told-leads gives held restarts lead call host after step old new may is so next_is step_is =
    subst (λ s. Leads gives held restarts [] (end_by s) (record { host = host; bus = old }) (record { host = after; bus = new }))
    (sym step_is)
    (subst (λ h. Leads gives held restarts [] (end_by (step_of host (told_of_call call))) (record { host = host; bus = old })
    (record { host = h; bus = new })) (sym next_is) (lead call host old new may is so))

-- a frame leaves the job open where it didn't end
pub told-open : (call : Call) (host after : Summary) (step : Step) → is_busy host ≡ true → after ≡ host_next host (told_of_call call) →
    step ≡ step_of host (told_of_call call) → StaysOpen (Some step) after
told-open call host after Next busy next_is step_is =
    subst (λ h. is_busy h ≡ true) (sym next_is) (stays-open host call busy (sym step_is))
told-open call host after (Ended end) busy next_is step_is = tt

-- A read that is no job, as the events of a life.

-- the converter then holds what it held behind the events beside the bus, but for latched bits
look-latches : LawsOfLives → (request room came : List ℕ) (host : Summary) (old : Held) (was : ℕ) (new : Held) (count : ℕ) →
    IsNoWrite host.setup.addr request → (is : IsAsked request (length room) old was came new count) →
    {config : Config} {passes : ℕ} {before : List Event} → IsLife config passes before host (held_after request old is.before) →
    IsSameButFaults new (held_after request old is.before)
look-latches laws request room came host old was new count plain is lived =
    let middle = held_after request old is.before in
    subst (λ d. IsSameButFaults d middle) is.after
    (hears-same laws.betrayal laws.latch middle request (heard_bytes request is.arrival) (ending_of Restart is.arrival)
    (subst (λ a. IsNoWrite a request) (own-address lived) plain) is.legal)

-- a life goes on by what happened beside the bus, and the read latches bits at most
look-goes : LawsOfLives → (request room came : List ℕ) (host : Summary) (old : Held) (was : ℕ) (new : Held) (count : ℕ) →
    IsNoWrite host.setup.addr request → (is : IsAsked request (length room) old was came new count) →
    (config : Config) (passes : ℕ) (before : List Event) → IsLife config passes before host old →
    Goes config passes before is.before (Looked request room came ∷ []) None host new
look-goes laws request room came host old was new count plain is config passes before life =
    let beside = quiet request is_beside_bus (beside-one laws request) is.before is.beside_before life in
    let lived = beside.is_life in
    record {
      is_life = record {
        lived = lived.lived;
        host_is = lived.host_is;
        held_is = same-on (now config passes (is.before ++ before)).device (held_after request old is.before) new lived.held_is
            (same-by-faults new (held_after request old is.before) (look-latches laws request room came host old was new count plain is lived));
      };
      told = beside.told;
      ended = tt;
    }

-- a reading changes no setting
reading-kept : (held : Held) (output code word : ℕ) → kept_in (device_next held (device.Reading output code word)) ≡ kept_in held
unfolding device_next after_outcome
reading-kept held output code word = refl

-- Events beside the bus without a restart move no setting either.
beside-kept : (request : List ℕ) (held : Held) (events : List Event) → AreAll is_beside_bus events → restarts_in events ≡ 0 →
    kept_in (held_after request held events) ≡ kept_in held
beside-kept request held [] all none = refl
beside-kept request held (RestartDevice ∷ events) all none = absurd (omega arith)
beside-kept request held (Reading output code word ∷ events) all none =
    reading-kept (held_after request held events) output code.0 word ∙ beside-kept request held events all.1 (omega arith)
beside-kept request held (event ∷ events) all none = let is = all.0 in cc

-- Settings, store and PAGE stay where the count of restarts does.
settings-so : LawsOfLives → (request room came : List ℕ) (host : Summary) (old : Held) (was : ℕ) (new : Held) (count : ℕ) →
    IsNoWrite host.setup.addr request → IsAsked request (length room) old was came new count → HasLife host old → count ≡ was →
    kept_in new ≡ kept_in old
settings-so laws request room came host old was new count plain is has same =
    let beside = quiet request is_beside_bus (beside-one laws request) is.before is.beside_before has.life in
    let rose = is.count in
    ap kept_in (look-latches laws request room came host old was new count plain is beside.is_life)
    ∙ beside-kept request old is.before is.beside_before (omega arith)

-- a read that is no job leads on
pub looks-lead : LawsOfLives → {B : Type 0} → (gives : B → Call → B → Type 0) → (held : B → Held) → (restarts : B → ℕ) →
    LooksLead gives held restarts
looks-lead laws gives held restarts request room came host old new may is so = record {
  acts = Looked request room came ∷ [];
  events = is.before;
  asks = refl;
  calls = (old, refl, so);
  may = (may, tt);
  host = refl;
  newest = tt;
  count = is.count;
  orders = none-asked is_beside_bus beside-none is.before is.beside_before;
  lives = look-goes laws request room came host (held old) (restarts old) (held new) (restarts new) may.1 is;
}

-- ---- what the call does

-- a read while no job is open
pub record IsLooked {B : Type 0} (gives : B → Call → B → Type 0) (held : B → Held) (restarts : B →
    ℕ) (request room answer : List ℕ) (count : ℕ)
    (old : Driving B) (bus : B) : Type 0 where
  pub idle : is_busy old.guard.host ≡ false
  pub plain : IsNoWrite old.guard.host.setup.addr request
  pub fits : count ≤ length answer
  pub asked : IsAsked request (length room) (held old.bus) (restarts old.bus) (take count answer) (held bus) (restarts bus)
  pub once : gives old.bus (Read request room (take count answer)) bus
  pub has : HasLife old.guard.host (held old.bus)

-- it leads on
pub looked-leads : {B : Type 0} (gives : B → Call → B → Type 0) (held : B → Held) (restarts : B → ℕ) → LooksLead gives held restarts →
    {request room answer : List ℕ} {count : ℕ} {old : Driving B} {bus : B} →
    IsLooked gives held restarts request room answer count old bus →
    Leads gives held restarts (Looked request room (take count answer) ∷ []) None (driven old) (record { host = old.guard.host; bus = bus })
looked-leads gives held restarts lead {request = request} {room = room} {answer = answer} {count = count} {old = old} {bus = bus} is =
    lead request room (take count answer) old.guard.host old.bus bus (is.idle, is.plain) is.asked is.once

-- A read that is no job does what is said of it.
pub looks-so : LawsOfLives → {B : Type 0} (gives : B → Call → B → Type 0) (held : B → Held) (restarts : B → ℕ) →
    LooksLead gives held restarts →
    {request room answer : List ℕ} {count : ℕ} {old : Driving B} {bus : B} →
    IsLooked gives held restarts request room answer count old bus →
    Looks gives held restarts request room old (Ok count) answer (record { guard = old.guard; bus = bus })
looks-so laws gives held restarts lead {request = request} {room = room} {answer = answer} {count = count} {old = old} {bus = bus} is =
    record {
      fault = ap (λ b. rule b Busy) (sym is.idle);
      fits = is.fits;
      once = is.once;
      leads = looked-leads gives held restarts lead is;
      err = tt;
      guard = refl;
      settings = settings-so laws request room (take count answer) old.guard.host (held old.bus) (restarts old.bus) (held bus)
          (restarts bus) is.plain is.asked is.has;
    }

-- ---- requests are no writes

-- what is there isn't none, first or second of two
some-so : {X : Type 0} (o : Option X) (x : X) → o ≡ Some x → o ≢ None
some-so o x is none = cc

first-so : {X : Type 0} (one other : Option X) → one ≢ None → option_or one other ≢ None
first-so None other some = absurd (some refl)
first-so (Some x) other some = some-so (Some x) x refl

second-so : {X : Type 0} (one other : Option X) → other ≢ None → option_or one other ≢ None
second-so None other some = some
second-so (Some x) other some = some-so (Some x) x refl

-- two bytes are too few for a write
pair-short : (start code : ℕ) → size_fault (start ∷ code ∷ []) ≢ None
unfolding size_fault length_fault
pair-short start code = go (is_plain_write code) where
  go : (plain : Bool) → cond plain (length_fault (payload_length code + 3) (start ∷ code ∷ [])) (Some (Short 2)) ≢ None
  go true = first-so (rule (nat_lt 2 (payload_length code + 3)) (Short 2)) _
      (some-so _ (Short 2) (ap (λ b. rule b (Short 2)) (lt-ltb 2 (payload_length code + 3) (omega arith))))
  go false = some-so (Some (Short 2)) (Short 2) refl

two-short : (addr start code : ℕ) → write_fault addr (start ∷ code ∷ []) ≢ None
unfolding write_fault
two-short addr start code =
    second-so (opening_fault (write_address addr) (start ∷ code ∷ [])) _ (first-so _ _ (pair-short start code))

-- no byte, and one
none-short : (addr : ℕ) → write_fault addr [] ≢ None
unfolding write_fault opening_fault address_fault
none-short addr = some-so _ NotOurs refl

one-short : (addr start : ℕ) → write_fault addr (start ∷ []) ≢ None
unfolding write_fault opening_fault address_fault
one-short addr start = first-so _ _ (second-so (address_fault (write_address addr) (start ∷ [])) _ (some-so _ (Short 1) refl))

-- Up to two bytes are no write.
few-short : (addr : ℕ) (bytes : List ℕ) → length bytes ≤ 2 → write_fault addr bytes ≢ None
few-short addr [] few = none-short addr
few-short addr (start ∷ []) few = one-short addr start
few-short addr (start ∷ code ∷ []) few = two-short addr start code
few-short addr (start ∷ code ∷ third ∷ rest) few = absurd (omega arith)

-- wherever they are cut
short-no-write : (addr : ℕ) (bytes : List ℕ) → length bytes ≤ 2 → IsNoWrite addr bytes
short-no-write addr bytes few = record { cut = λ count. few-short addr (take count bytes) (omega (arith, length-take count bytes)) }

-- the second of two faults stands, if the first doesn't come
other-so : (first : Bool) (one other : Option FrameFault) → (first ≡ true → ⊥) → other ≢ None → cond first one other ≢ None
other-so true one other never some = absurd (never refl)
other-so false one other never some = some

-- bytes whose code isn't written
unwritten-so : (addr start code : ℕ) (rest : List ℕ) → is_written code ≡ false → write_fault addr (start ∷ code ∷ rest) ≢ None
unfolding write_fault plain_fault line_of
unwritten-so addr start code rest unwritten =
    second-so (opening_fault (write_address addr) (start ∷ code ∷ rest)) _ (second-so (size_fault (start ∷ code ∷ rest)) _
    (second-so (pec_fault [] (start ∷ code ∷ rest)) _ (first-so _ _ (other-so (eqb code command.page_plus_write) _ _
    (λ e.
    let written : is_written code ≡ true = ap is_written (eqb-true code command.page_plus_write e) in cc)
    (second-so _ _ (first-so _ _
    (some-so _ (WrongDirection 1) (ap (λ b. rule (not b) (WrongDirection 1)) unwritten))))))))

unwritten-no-write : (addr start code : ℕ) (rest : List ℕ) → is_written code ≡ false → (count : ℕ) →
    write_fault addr (take count (start ∷ code ∷ rest)) ≢ None
unwritten-no-write addr start code rest unwritten zero = none-short addr
unwritten-no-write addr start code rest unwritten (suc zero) = one-short addr start
unwritten-no-write addr start code rest unwritten (suc (suc count)) = unwritten-so addr start code (take count rest) unwritten

-- the request of a message that reads
message-no-write : RequestsAreExact → DamageIsRefused → (addr own : ℕ) (request : Message) (bytes : List ℕ) →
    IsRequest own request bytes → IsNoWrite addr bytes
message-no-write exact damage addr own request bytes is = record {
  cut = λ count. damage.request_written own addr (take count bytes) (drop count bytes)
      (subst (λ l. request_fault own l ≡ None) (sym (take-append-drop count bytes)) (exact.spelled own request bytes is));
}

pub no-writes : RequestsAreExact → DamageIsRefused → RequestsAreNoWrites
no-writes exact damage = record {
  short = short-no-write;
  unwritten = λ addr start code rest bytes is unwritten.
      subst (IsNoWrite addr) (sym is) (record { cut = unwritten-no-write addr start code rest unwritten });
  message = message-no-write exact damage;
}

-- What a call does that asks for a job.

-- the first of two faults is none, if neither comes
first-none : {A : Type 0} (one other : Option A) → option_or one other ≡ None → one ≡ None
first-none None other h = refl
first-none (Some x) other h = cc

-- the second of two faults is none where neither comes
later-none : {A : Type 0} (one other : Option A) → option_or one other ≡ None → other ≡ None
later-none None other h = h
later-none (Some x) other h = cc

-- the host refuses nothing, if a guard has nothing to say of its refusal
host-none : (fault : Option HostFault) → of_host fault ≡ None → fault ≡ None
host-none None h = refl
host-none (Some f) h = cc

-- an order that a guard doesn't refuse isn't refused by its host
order-free : (part : PartRegisters) (limits : OutputLimits) (s : Summary) (cell : Cell) (word : ℕ) →
    guarded_order part limits s cell word ≡ None → order_fault s cell word ≡ None
order-free part limits s cell word free =
    host-none (order_fault s cell word) (first-none (of_host (order_fault s cell word)) None
    (later-none (judged part limits s cell word) _
    (later-none (missing_ordered part cell word) _ (later-none (of_host (cell_fault s cell)) _ free))))

-- a job that is let begin isn't refused by the host
guard-free : (g : Guarded) (asked : HostJob) (begun : host.Job) → guard_fault g asked ≡ None → accepted_job g.host asked ≡ Some begun →
    job_fault g.host begun ≡ None
guard-free g (job.Order cell word) begun free is =
    let same : host.Order cell word ≡ begun = cc in
    subst (λ j. job_fault g.host j ≡ None) same (order-free g.registers (limits_at g (output_of cell)) g.host cell word free)
guard-free g (job.OrderMicro cell x) begun free is =
    let third = later-none (word_fault g.host cell x) _
    (later-none (missing_cell g.registers cell) _ (later-none (of_host (cell_fault g.host cell)) _ free)) in
    go (micro_word g.host cell x)
    (first-none (option_and_then (λ n. guarded_order g.registers (limits_at g (output_of cell)) g.host cell n) (micro_word g.host cell x))
    None third) is
  where
    go : (found : Option ℕ) →
        option_and_then (λ n. guarded_order g.registers (limits_at g (output_of cell)) g.host cell n) found ≡ None →
        option_map (λ n. host.Order cell n) found ≡ Some begun → job_fault g.host begun ≡ None
    go None none is' = cc
    go (Some w) none is' =
        let same : host.Order cell w ≡ begun = cc in
        subst (λ j. job_fault g.host j ≡ None) same (order-free g.registers (limits_at g (output_of cell)) g.host cell w none)
guard-free g (job.Check cell) begun free is =
    let same : host.Check cell ≡ begun = cc in
    subst (λ j. job_fault g.host j ≡ None) same (host-none (job_fault g.host (host.Check cell))
    (first-none (of_host (cell_fault g.host cell)) _ free))
guard-free g (job.Learn output) begun free is =
    let same : host.Learn output ≡ begun = cc in
    subst (λ j. job_fault g.host j ≡ None) same (host-none (job_fault g.host (host.Learn output)) free)
guard-free g (job.Send command) begun free is =
    let same : host.Send command ≡ begun = cc in
    subst (λ j. job_fault g.host j ≡ None) same (host-none (job_fault g.host (host.Send command)) free)

-- the host of a guard that lets a job begin began one that it didn't refuse
pub guard-begun : (g middle : Guarded) (asked : HostJob) → LetsBegin g asked (Ok tt) middle → IsBegun g.host asked middle.host
guard-begun g middle asked begins = record {
  free = λ begun is. guard-free g asked begun (sym begins.fault) is;
  ok = begins.ok;
}

-- a job that is carried out, which nothing refused and which its guard began
runs-by : EndsAreTrue → {B : Type 0} (gives : B → Call → B → Type 0) (held : B → Held) (restarts : B → ℕ) →
    JobsLead gives held restarts → LeadsCompose gives held restarts
    → (asked : HostJob) (end : JobEnd) (old new : Driving B) (middle : Guarded)
    →
    HasLife old.guard.host (held old.bus) → guard_fault old.guard asked ≡ None → IsBegun old.guard.host asked middle.host →
    Leads gives held restarts [] (Some end) (record { host = middle.host; bus = old.bus }) (driven new) → frames_left new.guard.host ≡ 0 →
    new.guard.limits ≡ old.guard.limits → new.guard.registers ≡ old.guard.registers → new.guard.host.setup ≡ old.guard.host.setup →
    Runs gives held restarts asked old (Ok end) new
runs-by law gives held restarts jobs compose asked end old new middle has free begun leads over limits registers kept =
    let led = job-leads gives held restarts jobs compose asked end (driven old) (driven new) middle.host begun leads in
    record {
      fault = sym free;
      leads = led;
      says = says (accepted_job old.guard.host asked) led;
      read = read (accepted_job old.guard.host asked) led;
      over = over;
      err = tt;
      limits = limits;
      registers = registers;
      kept = kept;
    } where
      says : (o : Option host.Job) →
          IsSomeAnd o (λ begun. Leads gives held restarts (Began begun ∷ []) (Some end) (driven old) (driven new)) →
          IsSomeAnd o (λ begun. EndSays begun new.guard.host (held new.bus) end)
      says None is = absurd is
      says (Some begun) is = leads-say law gives held restarts begun end (driven old) (driven new) has is

      read : (o : Option host.Job) →
          IsSomeAnd o (λ begun. Leads gives held restarts (Began begun ∷ []) (Some end) (driven old) (driven new)) →
          IsSomeAnd o (λ begun. IfSome (cell_of_end begun end) (λ cell. HasNoRestartSince cell new.guard.host (held new.bus)))
      read None is = absurd is
      read (Some begun) is = leads-read law gives held restarts begun end (driven old) (driven new) has is

-- one that its guard let begin
pub runs-so : EndsAreTrue → {B : Type 0} (gives : B → Call → B → Type 0) (held : B → Held) (restarts : B → ℕ) →
    JobsLead gives held restarts → LeadsCompose gives held restarts
    → (asked : HostJob) (end : JobEnd) (old new : Driving B) (middle : Guarded)
    →
    HasLife old.guard.host (held old.bus) → LetsBegin old.guard asked (Ok tt) middle →
    Leads gives held restarts [] (Some end) (record { host = middle.host; bus = old.bus }) (driven new) → frames_left new.guard.host ≡ 0 →
    new.guard.limits ≡ middle.limits → new.guard.registers ≡ middle.registers → new.guard.host.setup ≡ middle.host.setup →
    Runs gives held restarts asked old (Ok end) new
runs-so law gives held restarts jobs compose asked end old new middle has begins leads over limits registers kept =
    runs-by law gives held restarts jobs compose asked end old new middle has (sym begins.fault)
    (guard-begun old.guard middle asked begins) leads over (limits ∙ begins.limits) (registers ∙ begins.registers) (kept ∙ begins.kept)
