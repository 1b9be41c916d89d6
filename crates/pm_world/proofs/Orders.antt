-- The open order, store or restore, and what each event makes of the converter's words and of its store.
use Rattle.std.specs.{List.Contains, Result.result_ok}
use Rattle.std.specs.Option.{option_and_then, option_map, option_or, option_map_or}
use Rattle.std.specs.Prelude.{Result, Ok, Err, bytes_eq, nat_lt}
use Rattle.std.proofs.{lemmas.List.Elements.Contains-append_cases, lemmas.Slice.Eq.bytes_eq-Decides}
use Rattle.std.proofs.Common.{◌≡◌, ◌⊎◌, inl, inr, ℕ, ◌+◌, Bool, true, false, cond, eqb, List, Option, Some, None, refl, sym, not, ◌&&◌}
use Rattle.std.proofs.Common.{is_some, unwrap_or, ◌∙◌, ap, ap₂, subst, [], ◌∷◌, ◌++◌, IsSome, zero, suc, ◌<◌, is_none, arith}
use Rattle.std.proofs.lemmas.Bool.{and_parts, lt-ltb}
use Rattle.pm_num.specs.AnyFormat.{Shape}
use Rattle.pm_table.specs.{Coefficients.coefficients_of, Format.shape_in, Lemmas.is_cell-there, Protection.is_allowed, VoutMode.mode_of}
use Rattle.pm_table.specs.{declared.cell.Cell.Cell, declared.fault.TableFault.TableFault, declared.reg.Reg.Reg}
use Rattle.pm_table.specs.{declared.vout_mode.VoutMode.VoutMode}
use Rattle.pm_table.specs.Cell.{cell_accepts, is_cell, is_voltage, register_code, IsCell, same_cell}
use Rattle.pm_table.specs.Codes as command
use Rattle.pm_table.specs.declared.cell.Cell.TheVariants.{Out, Protect}
use Rattle.pm_table.specs.declared.reg.Reg.TheVariants.{Operation, VoutMax, VoutMin}
use Rattle.pm_table.specs.declared.vout_mode.VoutMode.TheVariants.{Linear, Direct}
use Rattle.pm_frame.specs.{declared.message.Message.Message, declared.message.Message.TheVariants.SendByte}
use Rattle.pm_frame.specs.{declared.message.Payload.TheVariants.Empty}
use Rattle.pm_frame.specs.Layout.{IsWrite, is_read_message, fits_layout}
use Rattle.pm_model.specs.declared.order_machine.PendingJob.{PendingJob}
use Rattle.pm_model.specs.Commanded.{selected_register, selected, is_cut, commanded}
use Rattle.pm_model.specs.OrderMachine.{words_taken, store_taken, Step, Accept, Take, End, Back, IsRun, machine_of, CanAccept, CanTake}
use Rattle.pm_model.specs.OrderMachine.{IsOwnWordOfMachine as IsMachineOwn, IsAccepted}
use Rattle.pm_model.specs.Settings.{Words, with_outputs, with_word, word_at, Settings, AreWords}
use Rattle.pm_model.specs.declared.order_machine.PendingJob.TheVariants as pending
use Rattle.pm_model.specs.declared.order_machine.PendingJob.TheVariants.{Order, Store, Restore}
use Rattle.pm_device.specs.{declared.config.Config.Config, declared.converter.Ending.Ending, declared.converter.Ending.TheVariants.Stop}
use Rattle.pm_device.specs.Effect as device
use Rattle.pm_device.specs.Effect.{Hearing, Kept, kept_in, kept_after}
use Rattle.pm_device.specs.Held.{Held, value_for}
use Rattle.pm_device.specs.History.{device_next, start_of, device_now}
use Rattle.pm_device.specs.Start.{IsSound, start_word, start_words}
use Rattle.pm_host.specs.{Lemmas.reads_question, Marks.Good, Question.question_message, Sound.IsStage, declared.command.Command.Command}
use Rattle.pm_host.specs.{declared.job.JobEnd.JobEnd, declared.question.Question.Question, declared.stage.Stage.Stage}
use Rattle.pm_host.specs.Answers.{good_payload, good_word, word_in}
use Rattle.pm_host.specs.Messages.{cell_read, cell_write, command_message, register_payload}
use Rattle.pm_host.specs.Now.{host_now, stage_of, job_stage}
use Rattle.pm_host.specs.Refusals.{is_busy, asking_fault, cell_fault, order_fault, job_fault, IsSetup}
use Rattle.pm_host.specs.Summary.{Summary, another, learned, read_back, mode_taken, answer_taken, question_answered, finished}
use Rattle.pm_host.specs.Summary.{request_answered, marked, writes}
use Rattle.pm_host.specs.Summary.{ends, goes_on_at, sends as summary_sends, host_next, sending_in, stage_message, idle}
use Rattle.pm_host.specs.Transcript as host
use Rattle.pm_host.specs.declared.command.Command.TheVariants.{ClearFaults, StoreUserAll, RestoreUserAll}
use Rattle.pm_host.specs.declared.job.JobEnd.TheVariants.{Done, Differs, Unknown}
use Rattle.pm_host.specs.declared.question.Question.TheVariants.{Word, Mode, Coefficients}
use Rattle.pm_host.specs.declared.stage.Stage.TheVariants.{Writes, Reads, Asks, Sends}
use Rattle.pm_world.specs.{Below.Below, Honest.is_whole, Lemmas.Hosts.same-outputs, Lemmas.now-config, declared.event.Arrival.Arrival}
use Rattle.pm_world.specs.{declared.event.Back.Back as Return, declared.event.Event.Event}
use Rattle.pm_world.specs.Legal.{ending_of, frame_of, heard_bytes, heard_ending, is_legal_hearing, is_restart}
use Rattle.pm_world.specs.Life.{life, now, state_of}
use Rattle.pm_world.specs.Moves.{JobTakes, MovesBy, MovesByTheOpenJob, StoreIsOfOneMoment, StoresBy, came_back, ordered, restored, stored}
use Rattle.pm_world.specs.Moves.{before_store, is_store, store_at, words_at}
use Rattle.pm_world.specs.Retelling.{command_pending, pending_of, open_pending, pending_code, job_taken_by, takes_frame, start_settings}
use Rattle.pm_world.specs.Retelling.{accepts, ends_between, steps_of_event, told_beside, retold, takes, taken_at, IsOrderRun, WasOrdered}
use Rattle.pm_world.specs.Retelling.{IsOwnWord}
use Rattle.pm_world.specs.Retelling.{CommandsOwn, pending_message}
use Rattle.pm_world.specs.Setup.{setup_of, world_start}
use Rattle.pm_world.specs.State.{State, rule, device_after, host_after, delivered, exchanged, delivery_cause, exchange_cause, hearing_cause}
use Rattle.pm_world.specs.State.{return_cause, asked as state_asked, event_cause, next}
use Rattle.pm_world.specs.declared.cause.Cause.TheVariants.{NotBetrayed, WrongKind}
use Rattle.pm_world.specs.declared.event.Event.TheVariants.{Deliver, Finish, Exchange, RestartDevice, RestartHost, Reading}
use Rattle.pm_world.proofs.Events.{or-none, rule-none, not-false, heard_ending-write, frame-write, hears-write, hears-request}
use Rattle.pm_world.proofs.Events.{payload-number, stop-is, job-free, asked-next, beside-next, IsLived, earlier, newest, life-told}
use Rattle.pm_world.proofs.Events.{now-next, now-nil, now-sound, eight, lived-before, now-are}
use Rattle.pm_world.proofs.Standings.{same-cells}

-- The order, store or restore that is open, event by event.

-- the order, store or restore of a stage
abbrev pub stage_pending : Option Stage → Option PendingJob
stage_pending (Some (Writes cell word pass)) = Some (pending.Order cell word)
stage_pending (Some (Reads cell word pass)) = Some (pending.Order cell word)
stage_pending (Some (Sends command tries)) = command_pending command
stage_pending stage = None

-- it is that of the open job
pub pending-of_stage : (setup : host.Setup) (entries : List host.Entry) →
    stage_pending (host_now setup entries).stage ≡ option_and_then pending_of (host.open_job setup entries)
unfolding host_now stage_of
pending-of_stage setup entries = go (host.open_job setup entries) where
  by_turn : (b : Bool) (cell : Cell) (word n : ℕ) →
      stage_pending (Some (cond b (Writes cell word n) (Reads cell word n))) ≡ Some (pending.Order cell word)
  by_turn true cell word n = refl
  by_turn false cell word n = refl

  by_mode : (b : Bool) (output m n : ℕ) → stage_pending (Some (cond b (Asks (Coefficients output) m) (Asks (Mode output) n))) ≡ None
  by_mode true output m n = refl
  by_mode false output m n = refl

  go : (job : Option host.Job) → stage_pending (option_map (λ j. job_stage setup j (host.told_since entries)) job) ≡ option_and_then
      pending_of job
  go (Some (host.Order cell word)) = by_turn _ cell word _
  go (Some (host.Learn output)) = by_mode _ output _ _
  go (Some (host.Check cell)) = refl
  go job = refl

-- the order, store or restore that is open in a life
pub open_pending-is : (config : Config) (passes : ℕ) (events : List Event) →
    open_pending config passes events ≡ stage_pending (now config passes events).host.stage
unfolding open_pending now state_of
open_pending-is config passes events = sym (pending-of_stage (setup_of config passes) (life config passes events).entries)

-- it stays open, or ends
abbrev pub Goes : Option PendingJob → Option PendingJob → Type 0
Goes before after = (after ≡ before) ⊎ (after ≡ None)

-- the end of a write leaves an order, and leaves or ends a store or restore
pub finished-order : (s : Summary) (stage : Option Stage) (acked : Bool) →
    Goes (stage_pending stage) (stage_pending (finished s stage acked).after.stage)
finished-order s (Some (Sends sent tries)) true = inr refl
finished-order s (Some (Sends sent tries)) false = go (eqb (tries + 1) s.setup.passes) where
  go : (b : Bool) → Goes (command_pending sent) (stage_pending (cond b (ends s Unknown) (summary_sends s sent (tries + 1))).after.stage)
  go true = inr refl
  go false = inl refl
finished-order s stage acked = inl refl

-- a question that is asked again is no order
another-order : (s : Summary) (question : Question) (tries : ℕ) → stage_pending (another s question tries).after.stage ≡ None
another-order s question tries = go (eqb (tries + 1) s.setup.passes) where
  go : (b : Bool) → stage_pending (cond b (ends s Unknown) (goes_on_at s (Asks question (tries + 1)))).after.stage ≡ None
  go true = refl
  go false = refl

-- what follows a good answer to a question is no order
taken-order : (s : Summary) (question : Question) (payload : List ℕ) → stage_pending (answer_taken s question payload).after.stage ≡ None
taken-order s (Word cell) payload = refl
taken-order s (Mode output) payload = go (mode_of (word_in payload)) where
  go : (mode : Result VoutMode TableFault) → stage_pending (mode_taken s output mode).after.stage ≡ None
  go (Err fault) = refl
  go (Ok (Linear exponent)) = refl
  go (Ok Direct) = refl
taken-order s (Coefficients output) payload = go (result_ok (shape_in Direct (coefficients_of payload))) where
  go : (shape : Option Shape) → stage_pending (learned s output shape).after.stage ≡ None
  go None = refl
  go (Some shape) = refl

-- what came back leaves an order open, or ends it
pub answered-order : (s : Summary) (stage : Option Stage) (bytes : List ℕ) →
    Goes (stage_pending stage) (stage_pending (request_answered s stage bytes).after.stage)
answered-order s (Some (Reads cell word pass)) bytes = go (good_word s.setup.addr cell bytes) where
  last : (b : Bool) (t : Summary) (e : JobEnd) →
      Goes (Some (pending.Order cell word)) (stage_pending (cond b (ends t e) (writes t cell word (pass + 1))).after.stage)
  last true t e = inr refl
  last false t e = inl refl

  same : (b c : Bool) (t : Summary) (e : JobEnd) →
      Goes (Some (pending.Order cell word))
      (stage_pending (cond b (ends t Done) (cond c (ends t e) (writes t cell word (pass + 1)))).after.stage)
  same true c t e = inr refl
  same false c t e = last c t e

  go : (read : Option ℕ) → Goes (Some (pending.Order cell word)) (stage_pending (read_back s cell word pass read).after.stage)
  go None = last (eqb (pass + 1) s.setup.passes) s Unknown
  go (Some read) = same (eqb read word) (eqb (pass + 1) s.setup.passes) (marked s (Good cell read)) (Differs read)
answered-order s (Some (Asks question tries)) bytes = go (good_payload s.setup.addr (question_message question) bytes) where
  go : (good : Option (List ℕ)) → Goes None (stage_pending (question_answered s question tries good).after.stage)
  go None = inr (another-order s question tries)
  go (Some payload) = inr (taken-order s question payload)
answered-order s stage bytes = inl refl

-- What an event makes of the converter's words, of its store and of the open job, in a world that takes it.

-- the message that exists
some-is : (a b : Message) → Some a ≡ Some b → a ≡ b
some-is a b e = ap (λ o. unwrap_or o a) e

-- a request is no write
reads : (request message : Message) → is_read_message request ≡ true → Some request ≡ Some message → is_read_message message ≡ false → ⊥
reads request message is e writes =
    let both : true ≡ false = sym is ∙ (ap is_read_message (some-is request message e) ∙ writes) in cc

-- the read of a cell is no write
reads-cell : (cell : Cell) (message : Message) → Some (cell_read cell) ≡ Some message → is_read_message message ≡ false → ⊥
reads-cell (Out output register) message e writes = reads (cell_read (Out output register)) message refl e writes
reads-cell Protect message e writes = reads (cell_read Protect) message refl e writes

-- what is kept after a job took, or none
abbrev pub kept_taken : Held → Option PendingJob → Kept
kept_taken held job = record (kept_in held) {
  words = words_taken held.words held.store job;
  store = store_taken held.words held.store job;
}

-- the job where a test says so
abbrev where_so : Bool → Option PendingJob → Option PendingJob
where_so b job = option_and_then (λ open_one. cond b (Some open_one) None) job

-- a whole write of a cell that is there and accepts the word: by whether WRITE_PROTECT allows it
cell-kept : (held : Held) (cell : Cell) (word : ℕ) (there allowed fits : Bool) → there ≡ true → fits ≡ true →
    record (kept_in held) { words = cond (there && allowed && fits) (with_word held.words cell word) held.words }
    ≡ kept_taken held (where_so allowed (Some (pending.Order cell word)))
cell-kept held cell word there true fits p q = rw (p, q) refl
cell-kept held cell word there false fits p q = rw p refl

-- a whole write of WRITE_PROTECT with a word that it accepts: by whether it allows that write
plain-kept : (held : Held) (word : ℕ) (allowed fits : Bool) → fits ≡ true →
    record (kept_in held) { words = cond (allowed && fits) (with_word held.words Protect word) held.words }
    ≡ kept_taken held (where_so allowed (Some (pending.Order Protect word)))
plain-kept held word true fits q = rw q refl
plain-kept held word false fits q = refl

-- a whole write of a store makes what the store does, if WRITE_PROTECT allows it
store-kept : (held : Held) (allowed : Bool) →
    record (kept_in held) { store = cond allowed (with_outputs held.store held.words) held.store }
    ≡ kept_taken held (where_so allowed (Some pending.Store))
store-kept held true = refl
store-kept held false = refl

-- a whole write of a restore makes what the restore does, if WRITE_PROTECT allows it
restore-kept : (held : Held) (allowed : Bool) →
    record (kept_in held) { words = cond allowed (with_outputs held.words held.store) held.words }
    ≡ kept_taken held (where_so allowed (Some pending.Restore))
restore-kept held true = refl
restore-kept held false = refl

-- whether WRITE_PROTECT allows the frame of a job
abbrev allows : Held → PendingJob → Bool
allows held job = is_allowed (word_at held.words Protect) (pending_code job)

-- what a whole write of an order's cell makes, and of a command
abbrev Makes : Held → Message → Option PendingJob → Type 0
Makes held message job = (bytes : List ℕ) → IsWrite held.config.addr message bytes →
    kept_after held (Hearing bytes Stop) ≡ kept_taken held job

-- a whole write of an order's cell makes what the order does, if WRITE_PROTECT allows it
order-makes : Below → (held : Held) (cell : Cell) (word : ℕ) → IsCell held.config.count cell → cell_accepts cell word ≡ true →
    Makes held (cell_write cell word) (where_so (allows held (pending.Order cell word)) (Some (pending.Order cell word)))
order-makes laws held (Out output register) word there accepted bytes h =
    let found = laws.registers_are_in_the_table.found register output in
    let cell = Out output register in
    let same = payload-number (is_voltage register) word in
    laws.writes_reach_one_cell.carried held output (register_code register) (register_payload register word) cell bytes h found
    ∙ (ap (λ w. record (kept_in held) {
      words = cond (nat_lt output held.config.count && is_allowed (word_at held.words Protect) (register_code register)
          && cell_accepts cell w) (with_word held.words cell w) held.words;
    }) same
    ∙ cell-kept held cell word _ _ _ (lt-ltb output held.config.count there) accepted)
order-makes laws held Protect word there accepted bytes h =
    laws.writes_reach_one_cell.plain held word bytes h ∙ plain-kept held word _ _ accepted

-- a whole write of a command makes what the command does, if WRITE_PROTECT allows it
command-makes : Below → (held : Held) (sent : Command) →
    Makes held (command_message sent) (option_and_then (λ job. where_so (allows held job) (Some job)) (command_pending sent))
command-makes laws held (ClearFaults output) bytes h = laws.writes_reach_one_cell.clears held output Empty bytes h
command-makes laws held StoreUserAll bytes h =
    laws.writes_reach_one_cell.stores held (SendByte command.store_user_all) bytes h refl ∙ store-kept held _
command-makes laws held RestoreUserAll bytes h =
    laws.writes_reach_one_cell.restores held (SendByte command.restore_user_all) bytes h refl ∙ restore-kept held _

-- a write that was heard whole is so by the test
whole-so : (frame bytes : List ℕ) (ending : Ending) → ending ≡ Stop → bytes ≡ frame →
    (bytes_eq bytes frame && not (is_restart ending)) ≡ true
whole-so frame bytes ending e is = rw (e, is) (ap (λ b. b && true) ((bytes_eq-Decides frame frame).1 refl))

-- What a legal hearing of a write's frame leaves: what its whole makes where it is heard whole, and all where it isn't.
heard-kept : Below → (held : Held) (message : Message) (arrival : Arrival) (job : Option PendingJob) →
    is_read_message message ≡ false → fits_layout message ≡ true →
    is_legal_hearing (frame_of held.config.addr message) (heard_bytes (frame_of held.config.addr message) arrival)
    (ending_of Stop arrival) ≡ true →
    Makes held message job →
    kept_after held (Hearing (heard_bytes (frame_of held.config.addr message) arrival) (ending_of Stop arrival))
    ≡ kept_taken held (where_so (is_whole (frame_of held.config.addr message) arrival) job)
heard-kept laws held message arrival job writes fits legal makes = go (is_whole frame arrival) refl where
  frame : List ℕ
  frame = frame_of held.config.addr message

  bytes : List ℕ
  bytes = heard_bytes (frame_of held.config.addr message) arrival

  is_frame : IsWrite held.config.addr message (frame_of held.config.addr message)
  is_frame = record { writes = writes; fits = fits; spelled = frame-write held.config.addr message writes }

  some : (o : Option PendingJob) → where_so true o ≡ o
  some None = refl
  some (Some one) = refl

  none : (o : Option PendingJob) → where_so false o ≡ None
  none None = refl
  none (Some one) = refl

  go : (b : Bool) → is_whole (frame_of held.config.addr message) arrival ≡ b →
      kept_after held (Hearing (heard_bytes (frame_of held.config.addr message) arrival) (ending_of Stop arrival))
      ≡ kept_taken held (where_so b job)
  go true e =
      let parts = and_parts (bytes_eq bytes frame) (not (is_restart (ending_of Stop arrival))) e in
      ap₂ (λ b s. kept_after held (Hearing b s)) ((bytes_eq-Decides bytes frame).0 parts.0) (stop-is (ending_of Stop arrival) parts.1)
      ∙ (makes frame is_frame ∙ ap (kept_taken held) (sym (some job)))
  go false e = elim (hears-write laws held message bytes (ending_of Stop arrival) writes fits legal) [
    | inl same ↦ same ∙ ap (kept_taken held) (sym (none job))
    | inr (stop, whole) ↦
        (let so : is_whole frame arrival ≡ true =
        whole-so frame bytes (ending_of Stop arrival) stop (whole.spelled ∙ sym (frame-write held.config.addr message writes)) in
        let bad : true ≡ false = sym so ∙ e in cc)
  ]

-- two tests, one after the other
both-so : (a b : Bool) (job : PendingJob) → where_so a (where_so b (Some job)) ≡ cond (a && b) (Some job) None
both-so true true job = refl
both-so true false job = refl
both-so false true job = refl
both-so false false job = refl

-- what takes is the job that is open
pub taken-open : (addr : ℕ) (words : Words) (arrival : Arrival) (open_one : Option PendingJob) (job : PendingJob) →
    job_taken_by addr words arrival open_one ≡ Some job → open_one ≡ Some job
taken-open addr words arrival None job e = cc
taken-open addr words arrival (Some one) job e = go (takes_frame addr words arrival one) e where
  go : (b : Bool) → cond b (Some one) None ≡ Some job → Some one ≡ Some job
  go true h = h
  go false h = cc

-- what is known of a world whose host sends
pub record Sending (s : State) : Type 0 where
  pub addr : s.host.setup.addr ≡ s.device.config.addr
  pub outputs : s.host.setup.outputs ≡ s.device.config.count
  pub stage : IsStage s.host s.host.stage
  pub fits : (message : Message) → sending_in s.host ≡ Some message → fits_layout message ≡ true

-- what is kept after the frame that a stage sends was heard as it arrives
stage-kept : Below → (s : State) (arrival : Arrival) (stage : Option Stage) (message : Message) →
    s.host.setup.outputs ≡ s.device.config.count → IsStage s.host stage → option_map stage_message stage ≡ Some message →
    fits_layout message ≡ true →
    is_read_message message ≡ false →
    is_legal_hearing (frame_of s.device.config.addr message) (heard_bytes (frame_of s.device.config.addr message) arrival)
    (ending_of Stop arrival) ≡ true →
    kept_after s.device (Hearing (heard_bytes (frame_of s.device.config.addr message) arrival) (ending_of Stop arrival))
    ≡ kept_taken s.device (job_taken_by s.device.config.addr s.device.words arrival (stage_pending stage))
stage-kept laws s arrival None message outputs is e fits writes legal = cc
stage-kept laws s arrival (Some (Writes cell word pass)) message outputs is e fits writes legal =
    subst (λ m. kept_after s.device (Hearing (heard_bytes (frame_of s.device.config.addr m) arrival) (ending_of Stop arrival))
    ≡ kept_taken s.device (job_taken_by s.device.config.addr s.device.words arrival (Some (pending.Order cell word))))
    (some-is (cell_write cell word) message e)
    (heard-kept laws s.device (cell_write cell word) arrival _ (ap is_read_message same ∙ writes) (ap fits_layout same ∙ fits)
    (subst (λ m. is_legal_hearing (frame_of s.device.config.addr m) (heard_bytes (frame_of s.device.config.addr m) arrival)
    (ending_of Stop arrival) ≡ true) (sym same) legal)
    (order-makes laws s.device cell word (subst (λ n. IsCell n cell) outputs is.there) is.accepted)
    ∙ ap (kept_taken s.device) (both-so _ _ (pending.Order cell word)))
  where
    same : cell_write cell word ≡ message
    same = some-is (cell_write cell word) message e
stage-kept laws s arrival (Some (Sends sent tries)) message outputs is e fits writes legal =
    subst (λ m. kept_after s.device (Hearing (heard_bytes (frame_of s.device.config.addr m) arrival) (ending_of Stop arrival))
    ≡ kept_taken s.device (job_taken_by s.device.config.addr s.device.words arrival (command_pending sent)))
    same
    (heard-kept laws s.device (command_message sent) arrival _ (ap is_read_message same ∙ writes) (ap fits_layout same ∙ fits)
    (subst (λ m. is_legal_hearing (frame_of s.device.config.addr m) (heard_bytes (frame_of s.device.config.addr m) arrival)
    (ending_of Stop arrival) ≡ true) (sym same) legal)
    (command-makes laws s.device sent)
    ∙ ap (kept_taken s.device) (by_command sent))
  where
    same : command_message sent ≡ message
    same = some-is (command_message sent) message e

    by_command : (sent : Command) →
        where_so (is_whole (frame_of s.device.config.addr (command_message sent)) arrival)
        (option_and_then (λ job. where_so (allows s.device job) (Some job)) (command_pending sent))
        ≡ job_taken_by s.device.config.addr s.device.words arrival (command_pending sent)
    by_command (ClearFaults output) = refl
    by_command StoreUserAll = both-so _ _ pending.Store
    by_command RestoreUserAll = both-so _ _ pending.Restore
stage-kept laws s arrival (Some (Reads cell word pass)) message outputs is e fits writes legal = absurd (reads-cell cell message e writes)
stage-kept laws s arrival (Some (Asks question tries)) message outputs is e fits writes legal =
    absurd (reads (question_message question) message (reads_question question) e writes)

-- the words of the cells, and those in the store, are what a job makes of them, or stay where it is none
pub record TookJob (old new : Held) (job : Option PendingJob) : Type 0 where
  pub words : new.words ≡ words_taken old.words old.store job
  pub store : new.store ≡ store_taken old.words old.store job

-- they stay
abbrev pub Stays : Held → Held → Type 0
Stays old new = TookJob old new None

-- an event by which a job took, or none
event-took : Below → (held : Held) (event : device.Event) (job : Option PendingJob) → kept_after held event ≡ kept_taken held job →
    TookJob held (device_next held event) job
event-took laws held event job e =
    let same = laws.writes_reach_one_cell.kept held event ∙ e in
    record { words = ap (λ (k : Kept). k.words) same; store = ap (λ (k : Kept). k.store) same }

-- an event that leaves all that is kept
pub event-stays : Below → (held : Held) (event : device.Event) → kept_after held event ≡ kept_in held →
    Stays held (device_next held event)
event-stays laws held event e = event-took laws held event None e

-- A delivery lets the open job take where its frame is heard whole and its code is allowed, and leaves all where not.
pub delivered-takes : Below → (s : State) (arrival : Arrival) (sending : Option Message) → Sending s →
    sending_in s.host ≡ sending → delivery_cause s arrival sending ≡ None →
    TookJob s.device (device_after s.device (delivered s arrival sending).heard)
    (job_taken_by s.device.config.addr s.device.words arrival (stage_pending s.host.stage))
delivered-takes laws s arrival None is e h = cc
delivered-takes laws s arrival (Some message) is e h =
    event-took laws s.device
    (Hearing (heard_bytes (frame_of s.host.setup.addr message) arrival) (heard_ending message arrival)) _
    (subst (λ a. kept_after s.device (Hearing (heard_bytes (frame_of a message) arrival) (heard_ending message arrival))
    ≡ kept_taken s.device (job_taken_by s.device.config.addr s.device.words arrival (stage_pending s.host.stage))) (sym is.addr)
    (ap (λ n. kept_after s.device (Hearing (heard_bytes (frame_of s.device.config.addr message) arrival) n)) (sym ending)
    ∙ stage-kept laws s arrival s.host.stage message is.outputs is.stage e (is.fits message e) writes legal))
  where
    parts : (rule (is_read_message message) WrongKind ≡ None) × (hearing_cause s.host.setup.addr message arrival ≡ None)
    parts = or-none (rule (is_read_message message) WrongKind) (hearing_cause s.host.setup.addr message arrival) h

    writes : is_read_message message ≡ false
    writes = rule-none (is_read_message message) WrongKind parts.0

    ending : ending_of Stop arrival ≡ heard_ending message arrival
    ending = heard_ending-write message arrival writes

    legal : is_legal_hearing (frame_of s.device.config.addr message) (heard_bytes (frame_of s.device.config.addr message) arrival)
        (ending_of Stop arrival) ≡ true
    legal = subst (λ a. is_legal_hearing (frame_of a message) (heard_bytes (frame_of a message) arrival)
        (ending_of Stop arrival) ≡ true) is.addr
        (ap (is_legal_hearing (frame_of s.host.setup.addr message) (heard_bytes (frame_of s.host.setup.addr message) arrival)) ending
        ∙ not-false _ (rule-none _ NotBetrayed parts.1))

-- a delivery leaves the host
pub delivered-stage : (s : State) (arrival : Arrival) (sending : Option Message) →
    stage_pending (host_after s.host (delivered s arrival sending).told).stage ≡ stage_pending s.host.stage
delivered-stage s arrival None = refl
delivered-stage s arrival (Some message) = refl

-- an exchange leaves them
pub exchanged-stays : Below → (s : State) (arrival : Arrival) (back : Return) (sending : Option Message) →
    ((message : Message) → sending ≡ Some message → fits_layout message ≡ true) → exchange_cause s arrival back sending ≡ None →
    Stays s.device (device_after s.device (exchanged s arrival back sending).heard)
exchanged-stays laws s arrival back None fits h = cc
exchanged-stays laws s arrival back (Some message) fits h =
    let kinds = or-none (rule (not (is_read_message message)) WrongKind)
    (option_or (hearing_cause s.host.setup.addr message arrival) (return_cause s.device s.host.setup.addr message arrival back)) h in
    let hears = or-none (hearing_cause s.host.setup.addr message arrival) (return_cause s.device s.host.setup.addr message arrival back)
    kinds.1 in
    event-stays laws s.device
    (Hearing (heard_bytes (frame_of s.host.setup.addr message) arrival) (heard_ending message arrival))
    (hears-request laws s.device s.host.setup.addr message (heard_bytes (frame_of s.host.setup.addr message) arrival)
    (heard_ending message arrival)
    (not-false (is_read_message message) (rule-none (not (is_read_message message)) WrongKind kinds.0), fits message refl)
    (not-false _ (rule-none _ NotBetrayed hears.0)))

-- an exchange keeps a job open, or ends it
pub exchanged-order : (s : State) (arrival : Arrival) (back : Return) (sending : Option Message) →
    Goes (stage_pending s.host.stage) (stage_pending (host_after s.host (exchanged s arrival back sending).told).stage)
unfolding host_next
exchanged-order s arrival back None = inl refl
exchanged-order s arrival back (Some message) = answered-order (idle s.host) s.host.stage _

-- a job that isn't refused comes where none is open
idle-order : (s : Summary) → is_busy s ≡ false → stage_pending s.stage ≡ None
idle-order s free = go s.stage free where
  go : (stage : Option Stage) → is_some stage ≡ false → stage_pending stage ≡ None
  go None h = refl
  go (Some stage) h = cc

-- no order, store or restore is open if `asking_fault` names no fault
asking-order : (s : Summary) (there : Bool) → asking_fault s there ≡ None → stage_pending s.stage ≡ None
asking-order s there h = idle-order s (rule-none (is_busy s) _ (or-none (rule (is_busy s) _) _ h).0)

-- the order of each job that is accepted
pub job-order : (s : Summary) (job : host.Job) → job_fault s job ≡ None → stage_pending s.stage ≡ None
job-order s (host.Order cell word) h = asking-order s _ (or-none (cell_fault s cell) _ h).0
job-order s (host.Check cell) h = asking-order s _ h
job-order s (host.Learn output) h = asking-order s _ h
job-order s (host.Send sent) h = asking-order s _ h

-- an order that isn't refused may be accepted
pub record IsFree (s : Summary) (cell : Cell) (word : ℕ) : Type 0 where
  pub free : stage_pending s.stage ≡ None
  pub there : IsCell s.setup.outputs cell
  pub fits : cell_accepts cell word ≡ true

-- an order without a fault may be accepted
pub order-free : (s : Summary) (cell : Cell) (word : ℕ) → order_fault s cell word ≡ None → IsFree s cell word
order-free s cell word h =
    let first = or-none (cell_fault s cell) _ h in
    let cells = or-none (rule (is_busy s) _) _ first.0 in
    let words = or-none (rule (not (cell_accepts cell word)) _) _ first.1 in
    record {
      free = asking-order s _ first.0;
      there = is_cell-there s.setup.outputs cell
          (not-false _ (rule-none (not (is_cell s.setup.outputs cell)) _
          (or-none (rule (not (is_cell s.setup.outputs cell)) _) _ cells.1).0));
      fits = not-false _ (rule-none (not (cell_accepts cell word)) _ words.0);
    }

-- A life is a run of the order machine, event by event.

-- the message whose frame is being sent fits its layout
pub sent-fits : Below → (config : Config) (passes : ℕ) (events : List Event) → IsLived config passes events → (message : Message) →
    sending_in (now config passes events).host ≡ Some message → fits_layout message ≡ true
unfolding now state_of
sent-fits laws config passes events lived message e =
    let setup = setup_of config passes in
    let entries = (life config passes events).entries in
    laws.frames_are_named.fits setup message
    (laws.frames_are_named.named setup entries message lived.made (life-told config passes events lived.legal)
    (sym (laws.transcripts_are_followed.sending setup entries) ∙ e))

-- what no event changes
same-addr : (config : Config) (passes : ℕ) (events : List Event) →
    (now config passes events).host.setup.addr ≡ (now config passes events).device.config.addr
unfolding now state_of host_now device_now
same-addr config passes events = refl

-- what is known of a world whose host sends
pub sends : Below → (config : Config) (passes : ℕ) (events : List Event) → IsLived config passes events →
    Sending (now config passes events)
sends laws config passes events lived = record {
  addr = same-addr config passes events;
  outputs = same-outputs config passes events ∙ sym (ap (λ (k : Config). k.count) (now-config config passes events));
  stage = (now-sound laws config passes events lived).stage;
  fits = sent-fits laws config passes events lived;
}

-- a delivery lets the open job take where it hears its frame whole
pub delivered-took : Below → (config : Config) (passes : ℕ) (before : List Event) (arrival : Arrival) → IsLived config passes before →
    event_cause (now config passes before) (Deliver arrival) ≡ None →
    TookJob (now config passes before).device (next (now config passes before) (Deliver arrival)).device
    (job_taken_by config.addr (now config passes before).device.words arrival (stage_pending (now config passes before).host.stage))
unfolding next
delivered-took laws config passes before arrival lived free =
    let s = now config passes before in
    subst (λ (k : Config). TookJob s.device (next s (Deliver arrival)).device
    (job_taken_by k.addr s.device.words arrival (stage_pending s.host.stage))) (now-config config passes before)
    (delivered-takes laws s arrival (sending_in s.host) (sends laws config passes before lived) refl free)

-- an event that asks for a job is told as the order, store or restore that it is
pub asked-told : (config : Config) (passes : ℕ) (before : List Event) (event : Event) (job : host.Job) →
    state_asked (now config passes before) event ≡ Some job → steps_of_event config passes before event ≡ accepts (pending_of job)
unfolding steps_of_event
asked-told config passes before event job is =
    ap (λ o. option_map_or (λ j. accepts (pending_of j)) o (told_beside config passes before event)) is

-- any other is told as what it does
beside-told : (config : Config) (passes : ℕ) (before : List Event) (event : Event) →
    state_asked (now config passes before) event ≡ None → steps_of_event config passes before event ≡ told_beside config passes before event
unfolding steps_of_event
beside-told config passes before event is =
    ap (λ o. option_map_or (λ j. accepts (pending_of j)) o (told_beside config passes before event)) is

-- after these events the converter's words, and those in its store, are those of a run
abbrev pub Runs : Config → ℕ → List Event → Type 0
Runs config passes events =
    IsOrderRun config passes events (now config passes events).device.words (now config passes events).device.store

-- an event that is taken after events whose run of the order machine is known
record Follows (config : Config) (passes : ℕ) (before : List Event) (event : Event) : Type 0 where
  free : event_cause (now config passes before) event ≡ None
  same : now config passes (event ∷ before) ≡ next (now config passes before) event
  run : Runs config passes before

-- the steps go on by those that the event is told as
retold-on : (config : Config) (passes : ℕ) (before : List Event) (event : Event) (new : List Step) →
    steps_of_event config passes before event ≡ new → retold config passes (event ∷ before) ≡ new ++ retold config passes before
unfolding retold
retold-on config passes before event new e = ap (λ (x : List Step). x ++ retold config passes before) e

-- the steps are a run that leaves the converter's words, those in its store, and the open job
record Leaves (config : Config) (passes : ℕ) (events : List Event) (steps : List Step) : Type 0 where
  run : IsRun (start_settings config) steps
  words_are : (machine_of (start_settings config) steps).words ≡ (now config passes events).device.words
  store_is : (machine_of (start_settings config) steps).store ≡ (now config passes events).device.store
  job_is : (machine_of (start_settings config) steps).pending ≡ open_pending config passes events

-- a run of these steps retells the events
runs-by : {config : Config} {passes : ℕ} {events : List Event} {steps : List Step} → retold config passes events ≡ steps →
    Leaves config passes events steps → Runs config passes events
runs-by {config = config} e l = record {
  run = subst (IsRun (start_settings config)) (sym e) l.run;
  words_are = ap (λ (x : List Step). (machine_of (start_settings config) x).words) e ∙ l.words_are;
  store_is = ap (λ (x : List Step). (machine_of (start_settings config) x).store) e ∙ l.store_is;
  job_is = ap (λ (x : List Step). (machine_of (start_settings config) x).pending) e ∙ l.job_is;
}

-- the job that is open after the event
open-after : {config : Config} {passes : ℕ} {before : List Event} {event : Event} → (f : Follows config passes before event) →
    open_pending config passes (event ∷ before) ≡ stage_pending (next (now config passes before) event).host.stage
open-after {config = config} {passes = passes} {before = before} {event = event} f =
    open_pending-is config passes (event ∷ before) ∙ ap (λ (s : State). stage_pending s.host.stage) f.same

-- the job that pends in the run
pends : {config : Config} {passes : ℕ} {before : List Event} {event : Event} → (f : Follows config passes before event) →
    (machine_of (start_settings config) (retold config passes before)).pending ≡ stage_pending (now config passes before).host.stage
pends {config = config} {passes = passes} {before = before} f = f.run.job_is ∙ open_pending-is config passes before

-- nothing is told: words, store and job stay
stays : (config : Config) (passes : ℕ) (before : List Event) (event : Event) → (f : Follows config passes before event) →
    steps_of_event config passes before event ≡ [] →
    Stays (now config passes before).device (next (now config passes before) event).device →
    stage_pending (next (now config passes before) event).host.stage ≡ stage_pending (now config passes before).host.stage →
    Runs config passes (event ∷ before)
stays config passes before event f none same job = runs-by (retold-on config passes before event [] none) (record {
  run = f.run.run;
  words_are = f.run.words_are ∙ sym (ap (λ (s : State). s.device.words) f.same ∙ same.words);
  store_is = f.run.store_is ∙ sym (ap (λ (s : State). s.device.store) f.same ∙ same.store);
  job_is = pends f ∙ sym (open-after f ∙ job);
})

-- a job is accepted
accepted : Below → {config : Config} {passes : ℕ} {before : List Event} {event : Event} (job : PendingJob) →
    (f : Follows config passes before event) → steps_of_event config passes before event ≡ Accept job ∷ [] →
    Stays (now config passes before).device (next (now config passes before) event).device →
    stage_pending (next (now config passes before) event).host.stage ≡ Some job →
    stage_pending (now config passes before).host.stage ≡ None →
    CanTake (now config passes before).host.setup.outputs (Some job) →
    Runs config passes (event ∷ before)
unfolding machine_of
accepted laws {config = config} {passes = passes} {before = before} {event = event} job f is same begun free can =
    let steps = retold config passes before in
    let at_start = laws.orders_stay_in_their_cells.start (start_settings config) steps in
    let may : CanAccept (machine_of (start_settings config) steps) job = record {
      free = pends f ∙ free;
      can = subst (λ (s : Settings). CanTake s.count (Some job)) (sym at_start)
          (subst (λ n. CanTake n (Some job)) (same-outputs config passes before) can);
    } in
    runs-by (retold-on config passes before event (Accept job ∷ []) is) (record {
      run = (may, f.run.run);
      words_are = f.run.words_are ∙ sym (ap (λ (s : State). s.device.words) f.same ∙ same.words);
      store_is = f.run.store_is ∙ sym (ap (λ (s : State). s.device.store) f.same ∙ same.store);
      job_is = sym (open-after f ∙ begun);
    })

-- a job ends
ended : (config : Config) (passes : ℕ) (before : List Event) (event : Event) → (f : Follows config passes before event) →
    steps_of_event config passes before event ≡ End ∷ [] →
    Stays (now config passes before).device (next (now config passes before) event).device →
    stage_pending (next (now config passes before) event).host.stage ≡ None →
    Runs config passes (event ∷ before)
unfolding machine_of
ended config passes before event f is same over = runs-by (retold-on config passes before event (End ∷ []) is) (record {
  run = (tt, f.run.run);
  words_are = f.run.words_are ∙ sym (ap (λ (s : State). s.device.words) f.same ∙ same.words);
  store_is = f.run.store_is ∙ sym (ap (λ (s : State). s.device.store) f.same ∙ same.store);
  job_is = sym (open-after f ∙ over);
})

-- the converter starts again
came-back : Below → (config : Config) (passes : ℕ) (before : List Event) → (f : Follows config passes before RestartDevice) →
    Runs config passes (RestartDevice ∷ before)
unfolding machine_of told_beside next
came-back laws config passes before f =
    let kept = laws.writes_reach_one_cell.kept (now config passes before).device device.Restarted in
    runs-by (retold-on config passes before RestartDevice (Back ∷ []) (beside-told config passes before RestartDevice refl)) (record {
      run = (tt, f.run.run);
      words_are = f.run.store_is ∙ sym (ap (λ (s : State). s.device.words) f.same ∙ ap (λ (k : Kept). k.words) kept);
      store_is = f.run.store_is ∙ sym (ap (λ (s : State). s.device.store) f.same ∙ ap (λ (k : Kept). k.store) kept);
      job_is = pends f ∙ sym (open-after f);
    })

-- what a job makes of the same words and store is the same
same-taken : {words words' store store' : Words} {job job' : Option PendingJob} → words ≡ words' → store ≡ store' → job ≡ job' →
    (words_taken words store job ≡ words_taken words' store' job') × (store_taken words store job ≡ store_taken words' store' job')
same-taken w s j = (cc, cc)

-- the pending job takes
took : {config : Config} {passes : ℕ} {before : List Event} {arrival : Arrival} (job : PendingJob) →
    (f : Follows config passes before (Deliver arrival)) → steps_of_event config passes before (Deliver arrival) ≡ Take ∷ [] →
    TookJob (now config passes before).device (next (now config passes before) (Deliver arrival)).device (Some job) →
    stage_pending (now config passes before).host.stage ≡ Some job →
    stage_pending (next (now config passes before) (Deliver arrival)).host.stage ≡ stage_pending (now config passes before).host.stage →
    Runs config passes (Deliver arrival ∷ before)
unfolding machine_of
took {config = config} {passes = passes} {before = before} {arrival = arrival} job f is by open_one stay =
    let taken = same-taken f.run.words_are f.run.store_is (pends f ∙ open_one) in
    runs-by (retold-on config passes before (Deliver arrival) (Take ∷ []) is) (record {
      run = (ap is_some (pends f ∙ open_one), f.run.run);
      words_are = taken.0 ∙ sym (ap (λ (s : State). s.device.words) f.same ∙ by.words);
      store_is = taken.1 ∙ sym (ap (λ (s : State). s.device.store) f.same ∙ by.store);
      job_is = pends f ∙ sym (open-after f ∙ stay);
    })

-- what ends the open job, or leaves it
ends-same : (p q : Option PendingJob) → q ≡ p → ends_between p q ≡ []
ends-same None q e = refl
ends-same (Some job) q e = ap (λ o. ends_between (Some job) o) e

-- a job that isn't open any more
ends-none : (p q : Option PendingJob) → q ≡ None → IsSome p → ends_between p q ≡ End ∷ []
ends-none None q e some = cc
ends-none (Some job) q e some = ap (λ o. ends_between (Some job) o) e

-- the run goes on over an exchange, and over the end of a write
gone-on : (config : Config) (passes : ℕ) (before : List Event) (event : Event) (f : Follows config passes before event) →
    steps_of_event config passes before event
    ≡ ends_between (open_pending config passes before) (open_pending config passes (event ∷ before)) →
    Stays (now config passes before).device (next (now config passes before) event).device →
    Goes (stage_pending (now config passes before).host.stage) (stage_pending (next (now config passes before) event).host.stage) →
    Runs config passes (event ∷ before)
gone-on config passes before event f is_told same (inl on) =
    stays config passes before event f
    (is_told ∙ ends-same (open_pending config passes before) (open_pending config passes (event ∷ before))
    (open-after f ∙ (on ∙ sym (open_pending-is config passes before))))
    same on
gone-on config passes before event f is_told same (inr over) = go (open_pending config passes before) refl where
  after : open_pending config passes (event ∷ before) ≡ None
  after = open-after f ∙ over

  go : (p : Option PendingJob) → open_pending config passes before ≡ p → Runs config passes (event ∷ before)
  go None e = stays config passes before event f
      (is_told ∙ ends-same (open_pending config passes before) (open_pending config passes (event ∷ before)) (after ∙ sym e))
      same (over ∙ (sym e ∙ open_pending-is config passes before))
  go (Some job) e = ended config passes before event f
      (is_told ∙ ends-none (open_pending config passes before) (open_pending config passes (event ∷ before)) after
      (ap is_some e))
      same over

-- a run goes on over a delivery
delivered-on : {config : Config} {passes : ℕ} {before : List Event} {arrival : Arrival} →
    (f : Follows config passes before (Deliver arrival)) →
    TookJob (now config passes before).device (next (now config passes before) (Deliver arrival)).device
    (job_taken_by config.addr (now config passes before).device.words arrival (stage_pending (now config passes before).host.stage)) →
    stage_pending (next (now config passes before) (Deliver arrival)).host.stage ≡ stage_pending (now config passes before).host.stage →
    Runs config passes (Deliver arrival ∷ before)
unfolding told_beside taken_at
delivered-on {config = config} {passes = passes} {before = before} {arrival = arrival} f by stay =
    go (job_taken_by config.addr words arrival stage) refl by
  where
    words : Words
    words = (now config passes before).device.words

    stage : Option PendingJob
    stage = stage_pending (now config passes before).host.stage

    told_so : (o : Option PendingJob) →
        job_taken_by config.addr (now config passes before).device.words arrival (stage_pending (now config passes before).host.stage) ≡ o →
        steps_of_event config passes before (Deliver arrival) ≡ takes o
    told_so o e = beside-told config passes before (Deliver arrival) refl
        ∙ ap takes (ap (job_taken_by config.addr words arrival) (open_pending-is config passes before) ∙ e)

    go : (o : Option PendingJob) →
        job_taken_by config.addr (now config passes before).device.words arrival (stage_pending (now config passes before).host.stage) ≡ o →
        TookJob (now config passes before).device (next (now config passes before) (Deliver arrival)).device o →
        Runs config passes (Deliver arrival ∷ before)
    go None e h = stays config passes before (Deliver arrival) f (told_so None e) h stay
    go (Some job) e h = took job f (told_so (Some job) e) h (taken-open config.addr words arrival stage job e) stay

-- one more event, which asks for a job
one-asked : Below → (config : Config) (passes : ℕ) (before : List Event) (event : Event) (job : host.Job) →
    (f : Follows config passes before event) → state_asked (now config passes before) event ≡ Some job →
    Runs config passes (event ∷ before)
unfolding host_next
one-asked laws config passes before event job f is = go job is where
  s : State
  s = now config passes before

  same : (job : host.Job) → state_asked s event ≡ Some job → Stays s.device (next s event).device
  same job is = record {
    words = ap (λ (t : State). t.device.words) (asked-next s event job is);
    store = ap (λ (t : State). t.device.store) (asked-next s event job is);
  }

  free : (job : host.Job) → state_asked s event ≡ Some job → stage_pending s.host.stage ≡ None
  free job is = job-order s.host job (job-free s event job is f.free)

  stage : (job : host.Job) → state_asked s event ≡ Some job →
      stage_pending (next s event).host.stage ≡ stage_pending (host_next s.host (host.Accepted job)).stage
  stage job is = ap (λ (t : State). stage_pending t.host.stage) (asked-next s event job is)

  -- an order, a store and a restore are accepted
  begins : (job : host.Job) (found : PendingJob) → state_asked s event ≡ Some job → pending_of job ≡ Some found →
      stage_pending (host_next s.host (host.Accepted job)).stage ≡ Some found → CanTake s.host.setup.outputs (Some found) →
      Runs config passes (event ∷ before)
  begins job found is e on can =
      accepted laws found f (asked-told config passes before event job is ∙ ap accepts e) (same job is) (stage job is ∙ on)
      (free job is) can

  -- any other job leaves what is open
  leaves : (job : host.Job) → state_asked s event ≡ Some job → pending_of job ≡ None →
      stage_pending (host_next s.host (host.Accepted job)).stage ≡ None → Runs config passes (event ∷ before)
  leaves job is e on =
      stays config passes before event f (asked-told config passes before event job is ∙ ap accepts e) (same job is)
      (stage job is ∙ (on ∙ sym (free job is)))

  go : (job : host.Job) → state_asked s event ≡ Some job → Runs config passes (event ∷ before)
  go (host.Order cell word) is =
      let may = order-free s.host cell word (job-free s event (host.Order cell word) is f.free) in
      begins (host.Order cell word) (pending.Order cell word) is refl refl (may.there, may.fits)
  go (host.Send StoreUserAll) is = begins (host.Send StoreUserAll) pending.Store is refl refl tt
  go (host.Send RestoreUserAll) is = begins (host.Send RestoreUserAll) pending.Restore is refl refl tt
  go job is = leaves job is refl refl

-- one event that asks for no job
one-beside : Below → (config : Config) (passes : ℕ) (before : List Event) (event : Event) →
    IsLived config passes before →
    (f : Follows config passes before event) → state_asked (now config passes before) event ≡ None →
    Runs config passes (event ∷ before)
unfolding told_beside next host_next
one-beside laws config passes before (Deliver arrival) lived f is =
    delivered-on f (delivered-took laws config passes before arrival lived f.free)
    (delivered-stage (now config passes before) arrival (sending_in (now config passes before).host))
one-beside laws config passes before (Finish acked) lived f is =
    gone-on config passes before (Finish acked) f (beside-told config passes before (Finish acked) refl)
    (record { words = refl; store = refl })
    (finished-order (idle (now config passes before).host) (now config passes before).host.stage acked)
one-beside laws config passes before (Exchange arrival back) lived f is =
    gone-on config passes before (Exchange arrival back) f (beside-told config passes before (Exchange arrival back) refl)
    (exchanged-stays laws (now config passes before) arrival back (sending_in (now config passes before).host)
    (sent-fits laws config passes before lived) f.free)
    (exchanged-order (now config passes before) arrival back (sending_in (now config passes before).host))
one-beside laws config passes before RestartDevice lived f is = came-back laws config passes before f
one-beside laws config passes before RestartHost lived f is =
    ended config passes before RestartHost f (beside-told config passes before RestartHost refl)
    (record { words = refl; store = refl }) refl
one-beside laws config passes before (Reading output code word) lived f is =
    stays config passes before (Reading output code word) f (beside-told config passes before (Reading output code word) refl)
    (event-stays laws (now config passes before).device (device.Reading output code.0 word) refl) refl
one-beside laws config passes before event lived f is =
    let alone = beside-next (now config passes before) event is in
    stays config passes before event f (beside-told config passes before event is)
    (record { words = ap (λ (t : State). t.device.words) alone; store = ap (λ (t : State). t.device.store) alone })
    (ap (λ (t : State). stage_pending t.host.stage) alone)

-- any event
one : Below → (config : Config) (passes : ℕ) (before : List Event) (event : Event) → IsLived config passes before →
    (f : Follows config passes before event) → Runs config passes (event ∷ before)
one laws config passes before event lived f = go (state_asked (now config passes before) event) refl where
  go : (job : Option host.Job) → state_asked (now config passes before) event ≡ job → Runs config passes (event ∷ before)
  go None is = one-beside laws config passes before event lived f is
  go (Some job) is = one-asked laws config passes before event job f is

-- nothing has happened
first-run : Below → (config : Config) (passes : ℕ) → IsSetup (setup_of config passes) → Runs config passes []
unfolding machine_of retold open_pending life host.open_job host.last_job_end world_start start_of
first-run laws config passes made = record {
  run = tt;
  words_are = sym (ap (λ (s : State). s.device.words) (now-nil laws config passes made));
  store_is = sym (ap (λ (s : State). s.device.store) (now-nil laws config passes made));
  job_is = refl;
}

-- a whole life
pub life-run : Below → (config : Config) (passes : ℕ) (events : List Event) → IsLived config passes events →
    Runs config passes events
life-run laws config passes [] lived = first-run laws config passes lived.made
life-run laws config passes (event ∷ before) lived =
    one laws config passes before event (earlier lived) (record {
      free = newest lived;
      same = now-next laws config passes before event lived;
      run = life-run laws config passes before (earlier lived);
    })

-- Each cell's word is its own, in use and in the store: the start word, or that of an order for this very cell.

-- an order is accepted
abbrev Ordered : Cell → ℕ → Step
Ordered cell word = Accept (pending.Order cell word)

-- the elements of no step, and of one
none : (x : Step) → Contains [] x → ⊥
none x h = absurd (omega (arith, h.1))

-- the one element
single : (s x : Step) → Contains (s ∷ []) x → s ≡ x
single s x (zero, below, e) = e
single s x (suc k, below, e) = absurd (omega (arith, below))

-- an event that asks for no job is told as no order
told-nothing : (config : Config) (passes : ℕ) (before : List Event) (event : Event) (cell : Cell) (word : ℕ) →
    Contains (told_beside config passes before event) (Ordered cell word) → told_beside config passes before event ≡ Ordered cell word ∷ []
unfolding told_beside
told-nothing config passes before (Exchange arrival back) cell word h =
    go (is_some (open_pending config passes before) && is_none (open_pending config passes (Exchange arrival back ∷ before))) h
  where
    go : (b : Bool) → Contains (cond b (End ∷ []) []) (Ordered cell word) → cond b (End ∷ []) [] ≡ Ordered cell word ∷ []
    go true h = let bad : End ≡ Ordered cell word = single End (Ordered cell word) h in cc
    go false h = absurd (none (Ordered cell word) h)
told-nothing config passes before (Finish acked) cell word h =
    go (is_some (open_pending config passes before) && is_none (open_pending config passes (Finish acked ∷ before))) h
  where
    go : (b : Bool) → Contains (cond b (End ∷ []) []) (Ordered cell word) →
        cond b (End ∷ []) [] ≡ Ordered cell word ∷ []
    go true h = let bad : End ≡ Ordered cell word = single End (Ordered cell word) h in cc
    go false h = absurd (none (Ordered cell word) h)
told-nothing config passes before (Deliver arrival) cell word h = go (taken_at config passes before (Deliver arrival)) h where
  go : (o : Option PendingJob) → Contains (takes o) (Ordered cell word) → takes o ≡ Ordered cell word ∷ []
  go (Some job) h = let bad : Take ≡ Ordered cell word = single Take (Ordered cell word) h in cc
  go None h = absurd (none (Ordered cell word) h)
told-nothing config passes before RestartHost cell word h = let bad : End ≡ Ordered cell word = single End (Ordered cell word) h in cc
told-nothing config passes before RestartDevice cell word h = let bad : Back ≡ Ordered cell word = single Back (Ordered cell word) h in cc
told-nothing config passes before event cell word h = absurd (none (Ordered cell word) h)

-- only orders are told as accepted
told-accept : (config : Config) (passes : ℕ) (before : List Event) (event : Event) (cell : Cell) (word : ℕ) →
    Contains (steps_of_event config passes before event) (Ordered cell word) → steps_of_event config passes before event
    ≡ Ordered cell word ∷ []
unfolding steps_of_event
told-accept config passes before event cell word h = go (state_asked (now config passes before) event) h where
  by_job : (job : host.Job) → Contains (accepts (pending_of job)) (Ordered cell word) → accepts (pending_of job) ≡ Ordered cell word ∷ []
  by_job (host.Order c w) h = ap (λ (s : Step). s ∷ []) (single (Ordered c w) (Ordered cell word) h)
  by_job (host.Send StoreUserAll) h =
      let bad : Accept pending.Store ≡ Ordered cell word =
      single (Accept pending.Store) (Ordered cell word) h in cc
  by_job (host.Send RestoreUserAll) h =
      let bad : Accept pending.Restore ≡ Ordered cell word =
      single (Accept pending.Restore) (Ordered cell word) h in cc
  by_job job h = absurd (none (Ordered cell word) h)

  go : (o : Option host.Job) →
      Contains (option_map_or (λ job. accepts (pending_of job)) o (told_beside config passes before event)) (Ordered cell word) →
      option_map_or (λ job. accepts (pending_of job)) o (told_beside config passes before event) ≡ Ordered cell word ∷ []
  go (Some job) h = by_job job h
  go None h = told-nothing config passes before event cell word h

-- what was accepted in steps that retell events was ordered among them
later-ordered : (config : Config) (passes : ℕ) (event : Event) (events : List Event) (cell : Cell) (word : ℕ) →
    WasOrdered config passes events cell word → WasOrdered config passes (event ∷ events) cell word
later-ordered config passes event events cell word h = record {
  later = event ∷ h.later;
  event = h.event;
  before = h.before;
  is = ap (λ (l : List Event). event ∷ l) h.is;
  orders = h.orders;
}

-- an order that the steps accept
retold-ordered : (config : Config) (passes : ℕ) (events : List Event) (cell : Cell) (word : ℕ) →
    Contains (retold config passes events) (Ordered cell word) → WasOrdered config passes events cell word
unfolding retold
retold-ordered config passes [] cell word h = absurd (none (Ordered cell word) h)
retold-ordered config passes (event ∷ before) cell word h =
    elim (Contains-append_cases (steps_of_event config passes before event) (retold config passes before) (Ordered cell word) h) [
      | inl now_told ↦ record
          { later = []; event = event; before = before; is = refl; orders = told-accept config passes before event cell word now_told }
      | inr earlier ↦ later-ordered config passes event before cell word (retold-ordered config passes before cell word earlier)
    ]

-- there is a start word for each cell
pub full : Below → (config : Config) → AreWords (start_words config)
unfolding start_words
full laws config = (laws.settings_are_a_map.made (start_word config)).0

-- which is the configuration's
pub start-at : Below → (config : Config) (cell : Cell) → IsCell 8 cell → word_at (start_words config) cell ≡ start_word config cell
unfolding start_words
start-at laws config cell here = (laws.settings_are_a_map.made (start_word config)).1 cell here

-- a word of a run that is the cell's own there is so among the events
run-own : Below → (config : Config) (passes : ℕ) (events : List Event) (cell : Cell) (word : ℕ) → IsSound config →
    IsCell config.count cell → IsMachineOwn (start_settings config) (retold config passes events) cell word
    → IsOwnWord config passes events cell word
run-own laws config passes events cell word sound here (inl e) =
    inl (e ∙ start-at laws config cell (eight config.count cell sound.few here))
run-own laws config passes events cell word sound here (inr h) = inr (retold-ordered config passes events cell word h)

-- each cell of a life's converter has a word of its own
pub life-own : Below → (config : Config) (passes : ℕ) (events : List Event) (cell : Cell) → IsLived config passes events →
    IsCell config.count cell →
    IsOwnWord config passes events cell (word_at (now config passes events).device.words cell)
life-own laws config passes events cell lived here =
    let r = life-run laws config passes events lived in
    subst (λ (w : Words). IsOwnWord config passes events cell (word_at w cell)) r.words_are
    (run-own laws config passes events cell _ lived.sound here
    (laws.orders_stay_in_their_cells.own (start_settings config) (retold config passes events) cell lived.sound.few (full laws config) r.run
    here))

-- each cell has a word of its own in the store
pub life-stored : Below → (config : Config) (passes : ℕ) (events : List Event) (cell : Cell) → IsLived config passes events →
    IsCell config.count cell →
    IsOwnWord config passes events cell (word_at (now config passes events).device.store cell)
life-stored laws config passes events cell lived here =
    let r = life-run laws config passes events lived in
    subst (λ (w : Words). IsOwnWord config passes events cell (word_at w cell)) r.store_is
    (run-own laws config passes events cell _ lived.sound here
    (laws.orders_stay_in_their_cells.stored (start_settings config) (retold config passes events) cell lived.sound.few (full laws config)
    r.run here))

-- each output commands a value of its own
pub life-commands : Below → (config : Config) (passes : ℕ) (events : List Event) (output : ℕ) → IsLived config passes events →
    output < config.count →
    CommandsOwn config passes events output
    (commanded (value_for (now config passes events).device.config output) (now config passes events).device.words output)
unfolding commanded is_cut selected
life-commands laws config passes events output lived here =
    let words = (now config passes events).device.words in
    let operation = word_at words (Out output Operation) in
    record {
      operation = operation;
      selected = word_at words (Out output (selected_register operation));
      least = word_at words (Out output VoutMin);
      most = word_at words (Out output VoutMax);
      own_operation = life-own laws config passes events (Out output Operation) lived here;
      own_selected = life-own laws config passes events (Out output (selected_register operation)) lived here;
      own_least = life-own laws config passes events (Out output VoutMin) lived here;
      own_most = life-own laws config passes events (Out output VoutMax) lived here;
      cut = ap (λ (k : Config). commanded (value_for k output) words output) (now-config config passes events);
    }

-- What one event makes of the converter's words and of its store, and what the store has after a whole life.

-- the cells have the words in the store, which stay there
pub record CameBack (old new : Held) : Type 0 where
  pub words : new.words ≡ old.store
  pub store : new.store ≡ old.store

-- what an event makes of a converter: it restarted, or a job took, or none
abbrev pub Went : Config → ℕ → List Event → Event → Held → Held → Type 0
Went config passes before event old new =
    ((event ≡ RestartDevice) × CameBack old new) ⊎ TookJob old new (taken_at config passes before event)

-- one that stays
stayed : (old new : Held) → new ≡ old → TookJob old new None
stayed old new e = record { words = ap (λ (h : Held). h.words) e; store = ap (λ (h : Held). h.store) e }

-- an event that asks for a job takes none
asked-takes : (config : Config) (passes : ℕ) (before : List Event) (event : Event) (job : host.Job) →
    state_asked (now config passes before) event ≡ Some job → taken_at config passes before event ≡ None
unfolding taken_at
asked-takes config passes before (Deliver arrival) job is = cc
asked-takes config passes before event job is = refl

-- an event that asks for no job makes of the converter what `Went` says
went-beside : Below → (config : Config) (passes : ℕ) (before : List Event) (event : Event) → IsLived config passes before →
    event_cause (now config passes before) event ≡ None → state_asked (now config passes before) event ≡ None →
    Went config passes before event (now config passes before).device (next (now config passes before) event).device
unfolding next taken_at
went-beside laws config passes before (Deliver arrival) lived free is =
    inr (subst (λ o. TookJob (now config passes before).device (next (now config passes before) (Deliver arrival)).device
    (job_taken_by config.addr (now config passes before).device.words arrival o)) (sym (open_pending-is config passes before))
    (delivered-took laws config passes before arrival lived free))
went-beside laws config passes before (Exchange arrival back) lived free is =
    inr (exchanged-stays laws (now config passes before) arrival back (sending_in (now config passes before).host)
    (sent-fits laws config passes before lived) free)
went-beside laws config passes before RestartDevice lived free is =
    let kept = laws.writes_reach_one_cell.kept (now config passes before).device device.Restarted in
    inl (refl, record { words = ap (λ (k : Kept). k.words) kept; store = ap (λ (k : Kept). k.store) kept })
went-beside laws config passes before (Reading output code word) lived free is =
    inr (event-stays laws (now config passes before).device (device.Reading output code.0 word) refl)
went-beside laws config passes before event lived free is =
    inr (stayed _ _ (ap (λ (s : State). s.device) (beside-next (now config passes before) event is)))

-- each event of a life makes of the converter what `Went` says
pub went : Below → (config : Config) (passes : ℕ) (before : List Event) (event : Event) → IsLived config passes (event ∷ before) →
    Went config passes before event (now config passes before).device (now config passes (event ∷ before)).device
went laws config passes before event lived =
    subst (λ (s : State). Went config passes before event (now config passes before).device s.device)
    (sym (now-next laws config passes before event lived)) (go (state_asked (now config passes before) event) refl)
  where
    go : (job : Option host.Job) → state_asked (now config passes before) event ≡ job →
        Went config passes before event (now config passes before).device (next (now config passes before) event).device
    go None is = went-beside laws config passes before event (earlier lived) (newest lived) is
    go (Some job) is = inr (subst (TookJob (now config passes before).device (next (now config passes before) event).device)
        (sym (asked-takes config passes before event job is))
        (stayed _ _ (ap (λ (s : State). s.device) (asked-next (now config passes before) event job is))))

-- a restart of the converter lets no job take
restart-takes : (config : Config) (passes : ℕ) (before : List Event) → taken_at config passes before RestartDevice ≡ None
unfolding taken_at
restart-takes config passes before = refl

-- there is a word for each cell in the store
now-stored : Below → (config : Config) (passes : ℕ) (events : List Event) → AreWords (store_at config passes events)
unfolding now state_of
now-stored laws config passes events = laws.pasts_are_followed.store config (life config passes events).past

-- what takes is the open job, heard whole and allowed
pub takes-by : (config : Config) (passes : ℕ) (before : List Event) (arrival : Arrival) (job : PendingJob) →
    taken_at config passes before (Deliver arrival) ≡ Some job → JobTakes config passes before arrival job
unfolding taken_at
takes-by config passes before arrival job is = go (open_pending config passes before) refl is where
  words : Words
  words = (now config passes before).device.words

  same : (b : Bool) (one : PendingJob) → cond b (Some one) None ≡ Some job → (b ≡ true) × (one ≡ job)
  same true one e = (refl, cc)
  same false one e = cc

  go : (o : Option PendingJob) → open_pending config passes before ≡ o →
      job_taken_by config.addr (now config passes before).device.words arrival o ≡ Some job → JobTakes config passes before arrival job
  go None e h = cc
  go (Some one) e h =
      let found = same (takes_frame config.addr words arrival one) one h in
      let so = subst (λ j. takes_frame config.addr words arrival j ≡ true) found.1 found.0 in
      let parts = and_parts (is_whole (frame_of config.addr (pending_message job)) arrival)
      (is_allowed (word_at words Protect) (pending_code job)) so in
      record { opened = e ∙ ap (λ j. Some j) found.1; whole = parts.0; allowed = parts.1 }

-- a job that is open, heard whole and allowed takes
pub takes-back : (config : Config) (passes : ℕ) (before : List Event) (arrival : Arrival) (job : PendingJob) →
    JobTakes config passes before arrival job → taken_at config passes before (Deliver arrival) ≡ Some job
unfolding taken_at
takes-back config passes before arrival job t =
    let words = (now config passes before).device.words in
    let whole = is_whole (frame_of config.addr (pending_message job)) arrival in
    let allowed = is_allowed (word_at words Protect) (pending_code job) in
    ap (job_taken_by config.addr words arrival) t.opened
    ∙ (ap (λ b. cond (b && allowed) (Some job) None) t.whole ∙ ap (λ b. cond (true && b) (Some job) None) t.allowed)

-- which leaves what it makes of the words and the store
took-so : {config : Config} {passes : ℕ} {before : List Event} {arrival : Arrival} (job : PendingJob) (old new : Held) →
    JobTakes config passes before arrival job → Went config passes before (Deliver arrival) old new → TookJob old new (Some job)
took-so job old new t (inl (is, back)) = cc
took-so {config = config} {passes = passes} {before = before} {arrival = arrival} job old new t (inr took) =
    subst (TookJob old new) (takes-back config passes before arrival job t) took

-- the cell of an open order is there
order-there : Below → {config : Config} {passes : ℕ} {before : List Event} {arrival : Arrival} {cell : Cell} {word : ℕ} →
    IsLived config passes before → JobTakes config passes before arrival (Order cell word) → IsCell 8 cell
order-there laws {config = config} {passes = passes} {before = before} {cell = cell} {word = word} lived takes =
    let r = life-run laws config passes before lived in
    let steps = retold config passes before in
    let accepted = laws.orders_stay_in_their_cells.pending (start_settings config) steps r.run in
    eight config.count cell lived.sound.few
    (subst (IsAccepted (start_settings config) steps) (r.job_is ∙ takes.opened) accepted).0.0

-- how a cell moves where a job took
cell-moves : Below → {config : Config} {passes : ℕ} {before : List Event} {arrival : Arrival} {cell : Cell} {word : ℕ} →
    IsLived config passes before → IsCell 8 cell →
    (job : Option PendingJob) → taken_at config passes before (Deliver arrival) ≡ job →
    word ≡ word_at (words_taken (words_at config passes before) (store_at config passes before) job) cell →
    (word ≡ word_at (words_at config passes before) cell) ⊎ MovesBy config passes before cell word (Deliver arrival)
cell-moves laws lived here None is e = inl e
cell-moves laws lived here (Some Store) is e = inl e
cell-moves laws {config = config} {passes = passes} {before = before} {arrival = arrival} {cell = Out output register} lived here
    (Some Restore) is e =
    inr (restored arrival (takes-by config passes before arrival Restore is) refl
    (e ∙ laws.settings_are_a_map.outputs (words_at config passes before) (store_at config passes before) output register
    (now-stored laws config passes before) here))
cell-moves laws {config = config} {passes = passes} {before = before} {cell = Protect} lived here (Some Restore) is e =
    inl (e ∙ laws.settings_are_a_map.protect (words_at config passes before) (store_at config passes before)
    (now-stored laws config passes before))
cell-moves laws {config = config} {passes = passes} {before = before} {arrival = arrival} {cell = cell} {word = word} lived here
    (Some (Order put w)) is e =
    go (same_cell put cell) refl
    (e ∙ laws.settings_are_a_map.read (words_at config passes before) put cell w (now-are laws config passes before)
    (order-there laws lived takes) here)
  where
    takes : JobTakes config passes before arrival (Order put w)
    takes = takes-by config passes before arrival (Order put w) is

    go : (b : Bool) → same_cell put cell ≡ b → word ≡ cond b w (word_at (words_at config passes before) cell) →
        (word ≡ word_at (words_at config passes before) cell) ⊎ MovesBy config passes before cell word (Deliver arrival)
    go false s h = inl h
    go true s h = inr (ordered arrival (subst (λ v. JobTakes config passes before arrival (Order cell v)) (sym h)
        (subst (λ c. JobTakes config passes before arrival (Order c w)) (same-cells laws put cell s) takes)))

-- how a cell moves at an event by which a job took, or none
moves-taken : Below → {config : Config} {passes : ℕ} {before : List Event} (event : Event) {cell : Cell} {word : ℕ} →
    IsLived config passes before → IsCell 8 cell →
    word ≡ word_at (words_taken (words_at config passes before) (store_at config passes before) (taken_at config passes before event))
    cell →
    (word ≡ word_at (words_at config passes before) cell) ⊎ MovesBy config passes before cell word event
unfolding taken_at
moves-taken laws {config = config} {passes = passes} {before = before} (Deliver arrival) lived here e =
    cell-moves laws lived here (taken_at config passes before (Deliver arrival)) refl e
moves-taken laws event lived here e = inl e

-- how the store moves by a job that takes
store-taken : {config : Config} {passes : ℕ} {before : List Event} {arrival : Arrival} {store : Words} →
    (job : Option PendingJob) → taken_at config passes before (Deliver arrival) ≡ job →
    store ≡ store_taken (words_at config passes before) (store_at config passes before) job →
    (store ≡ store_at config passes before) ⊎ StoresBy config passes before store (Deliver arrival)
store-taken None is e = inl e
store-taken (Some (Order cell word)) is e = inl e
store-taken (Some Restore) is e = inl e
store-taken {config = config} {passes = passes} {before = before} {arrival = arrival} (Some Store) is e =
    inr (stored arrival (takes-by config passes before arrival Store is) e)

-- at any event
stores-taken : {config : Config} {passes : ℕ} {before : List Event} (event : Event) {store : Words} →
    store ≡ store_taken (words_at config passes before) (store_at config passes before) (taken_at config passes before event) →
    (store ≡ store_at config passes before) ⊎ StoresBy config passes before store event
unfolding taken_at
stores-taken {config = config} {passes = passes} {before = before} (Deliver arrival) e =
    store-taken (taken_at config passes before (Deliver arrival)) refl e
stores-taken event e = inl e

-- a cell keeps its word at an event, or moves
cell-went : Below → {config : Config} {passes : ℕ} {before : List Event} {event : Event} {cell : Cell} →
    IsLived config passes before → IsCell 8 cell →
    Went config passes before event (now config passes before).device (now config passes (event ∷ before)).device →
    (word_at (words_at config passes (event ∷ before)) cell ≡ word_at (words_at config passes before) cell)
    ⊎ MovesBy config passes before cell (word_at (words_at config passes (event ∷ before)) cell) event
cell-went laws {config = config} {passes = passes} {before = before} {event = event} {cell = cell} lived here (inl (is, back)) =
    inr (subst (MovesBy config passes before cell (word_at (words_at config passes (event ∷ before)) cell)) (sym is)
    (came_back (ap (λ w. word_at w cell) back.words)))
cell-went laws {event = event} {cell = cell} lived here (inr took) =
    moves-taken laws event lived here (ap (λ w. word_at w cell) took.words)

-- how the store moves at an event
store-went : {config : Config} {passes : ℕ} {before : List Event} {event : Event} →
    Went config passes before event (now config passes before).device (now config passes (event ∷ before)).device →
    (store_at config passes (event ∷ before) ≡ store_at config passes before)
    ⊎ StoresBy config passes before (store_at config passes (event ∷ before)) event
store-went (inl (is, back)) = inl back.store
store-went {event = event} (inr took) = stores-taken event took.store

-- after a job that is no store the store is what it was
other-store : (words store : Words) (job : Option PendingJob) → is_store job ≡ false → store_taken words store job ≡ store
other-store words store None e = refl
other-store words store (Some (Order cell word)) e = refl
other-store words store (Some Restore) e = refl
other-store words store (Some Store) e = cc

-- after a store the store has the outputs' words
own-store : (words store : Words) (job : Option PendingJob) → is_store job ≡ true →
    store_taken words store job ≡ with_outputs store words
own-store words store None e = cc
own-store words store (Some (Order cell word)) e = cc
own-store words store (Some Restore) e = cc
own-store words store (Some Store) e = refl

-- the store has each output's words of the moment before the last store that took
abbrev Holds : Config → ℕ → List Event → List Event → Type 0
Holds config passes events moment = (output : ℕ) (register : Reg) → output < config.count →
    word_at (store_at config passes events) (Out output register) ≡ word_at (words_at config passes moment) (Out output register)

-- after one more event
holds-more : Below → (config : Config) (passes : ℕ) (event : Event) (before : List Event) → IsLived config passes (event ∷ before) →
    Holds config passes before (before_store config passes before) →
    Holds config passes (event ∷ before) (before_store config passes (event ∷ before))
unfolding before_store
holds-more laws config passes event before lived so_far output register here =
    by_event (went laws config passes before event lived)
  where
    cell : Cell
    cell = Out output register

    kept : store_at config passes (event ∷ before) ≡ store_at config passes before →
        word_at (store_at config passes (event ∷ before)) (Out output register)
        ≡ word_at (words_at config passes (before_store config passes before)) (Out output register)
    kept same = ap (λ w. word_at w cell) same ∙ so_far output register here

    by_job : (b : Bool) → is_store (taken_at config passes before event) ≡ b →
        store_at config passes (event ∷ before)
        ≡ store_taken (words_at config passes before) (store_at config passes before) (taken_at config passes before event) →
        word_at (store_at config passes (event ∷ before)) (Out output register)
        ≡ word_at (words_at config passes (cond b before (before_store config passes before))) (Out output register)
    by_job false e is = kept (is ∙ other-store _ _ (taken_at config passes before event) e)
    by_job true e is = ap (λ w. word_at w cell) (is ∙ own-store _ _ (taken_at config passes before event) e)
        ∙ laws.settings_are_a_map.outputs (store_at config passes before) (words_at config passes before) output register
        (now-are laws config passes before) (eight config.count cell lived.sound.few here)

    none : event ≡ RestartDevice → taken_at config passes before event ≡ None
    none is = ap (taken_at config passes before) is ∙ restart-takes config passes before

    by_event : Went config passes before event (now config passes before).device (now config passes (event ∷ before)).device →
        word_at (store_at config passes (event ∷ before)) (Out output register)
        ≡ word_at (words_at config passes (before_store config passes (event ∷ before))) (Out output register)
    by_event (inl (is, back)) = by_job (is_store (taken_at config passes before event)) refl
        (back.store ∙ sym (ap (store_taken (words_at config passes before) (store_at config passes before)) (none is)))
    by_event (inr took) = by_job (is_store (taken_at config passes before event)) refl took.store

-- at the start
holds-first : Below → (config : Config) (passes : ℕ) → IsSetup (setup_of config passes) → Holds config passes [] []
unfolding world_start start_of
holds-first laws config passes made output register here =
    let is = now-nil laws config passes made in
    ap (λ (s : State). word_at s.device.store (Out output register)) is
    ∙ sym (ap (λ (s : State). word_at s.device.words (Out output register)) is)

-- after a whole life
holds : Below → (config : Config) (passes : ℕ) (events : List Event) → IsLived config passes events →
    Holds config passes events (before_store config passes events)
unfolding before_store
holds laws config passes [] lived = holds-first laws config passes lived.made
holds laws config passes (event ∷ before) lived =
    holds-more laws config passes event before lived (holds laws config passes before (earlier lived))

-- that moment is one of these events
moment-before : (config : Config) (passes : ℕ) (events : List Event) →
    (later : List Event) × (events ≡ later ++ before_store config passes events)
unfolding before_store
moment-before config passes [] = ([], refl)
moment-before config passes (event ∷ before) =
    let earlier_one = moment-before config passes before in
    go (is_store (taken_at config passes before event)) earlier_one.0 earlier_one.1
  where
    go : (b : Bool) (later : List Event) → before ≡ later ++ before_store config passes before →
        (longer : List Event) × (event ∷ before ≡ longer ++ cond b before (before_store config passes before))
    go true later e = (event ∷ [], refl)
    go false later e = (event ∷ later, ap (λ (l : List Event). event ∷ l) e)

-- the store after a life
pub one-moment : Below → {config : Config} {passes : ℕ} {events : List Event} → IsLived config passes events →
    StoreIsOfOneMoment config passes events
one-moment laws {config = config} {passes = passes} {events = events} lived =
    let found = moment-before config passes events in
    let r = life-run laws config passes events lived in
    record {
      later = found.0;
      is = found.1;
      words = holds laws config passes events lived;
      protect = sym (ap (λ w. word_at w Protect) r.store_is)
          ∙ (laws.orders_stay_in_their_cells.protection (start_settings config) (retold config passes events) lived.sound.few
          (full laws config) r.run
          ∙ start-at laws config Protect tt);
    }

-- how settings and store move in a life
pub moves-so : Below → (config : Config) (passes : ℕ) (events : List Event) → IsLived config passes events →
    MovesByTheOpenJob config passes events
moves-so laws config passes events lived = record {
  moves = λ later before event cell is here.
      let one = lived-before config passes later (event ∷ before) (subst (IsLived config passes) is lived) in
      cell-went laws (earlier one) (eight config.count cell lived.sound.few here) (went laws config passes before event one);
  stores = λ later before event is.
      store-went (went laws config passes before event
      (lived-before config passes later (event ∷ before) (subst (IsLived config passes) is lived)));
  takes = λ later before arrival job is t.
      let took = took-so job _ _ t (went laws config passes before (Deliver arrival)
      (lived-before config passes later (Deliver arrival ∷ before) (subst (IsLived config passes) is lived))) in
      (took.words, took.store);
  moment = λ later before is. one-moment laws (lived-before config passes later before (subst (IsLived config passes) is lived));
}
