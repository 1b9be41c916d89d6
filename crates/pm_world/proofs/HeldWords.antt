-- The converter's words are those that its host calls confirmed or possible, event by event.
use Rattle.std.specs.List.{list_any}
use Rattle.std.specs.Option.{option_and_then, option_or}
use Rattle.std.specs.Prelude.{option_to_list, IsSomeAnd}
use Rattle.std.proofs.Common.{◌≡◌, ℕ, Bool, true, false, cond, ◌||◌, List, [], ◌∷◌, ◌++◌, Option, Some, None, option_map, refl, sym, ◌∙◌}
use Rattle.std.proofs.Common.{ap, subst, ◌≤◌, ◌<◌, length, ap₂, arith, ◌≢◌, ◌⊎◌, inl, inr, is_some, ℤ, not, ◌&&◌, eqb}
use Rattle.std.proofs.lemmas.Bool.{false≢true, or_parts, and_right, and_parts, cases_Bool, not-true, or_right, true≢false}
use Rattle.std.proofs.lemmas.Option.{none-some, same_Some}
use Rattle.pm_table.specs.{declared.cell.Cell.Cell, declared.reg.Reg.Reg}
use Rattle.pm_table.specs.Cell.{cell_accepts, IsCell, same_cell}
use Rattle.pm_table.specs.declared.cell.Cell.TheVariants.{Out, Protect}
use Rattle.pm_frame.specs.declared.message.Message.{Message}
use Rattle.pm_frame.specs.Layout.{is_read_message}
use Rattle.pm_model.specs.{OrderMachine.words_taken, declared.order_machine.PendingJob.PendingJob}
use Rattle.pm_model.specs.Settings.{Words, AreWords, word_at, with_outputs, with_word}
use Rattle.pm_model.specs.declared.order_machine.PendingJob.TheVariants as pending
use Rattle.pm_device.specs.{Held.Held, History.device_now, declared.config.Config.Config}
use Rattle.pm_device.specs.Effect as device
use Rattle.pm_host.specs.{Standing.standing_of, Told.is_of_frame, Transcript.Setup, declared.command.Command.Command}
use Rattle.pm_host.specs.{declared.fault.HostFault.HostFault, declared.job.JobEnd.JobEnd, declared.job.JobEnd.TheVariants.Differs}
use Rattle.pm_host.specs.{declared.knowledge.Possible.Possible, declared.stage.Stage.Stage}
use Rattle.pm_host.specs.Answers.{good_payload, good_word, word_in}
use Rattle.pm_host.specs.Ended.{job_in, stage_job, EndTells, StepTells, word_told}
use Rattle.pm_host.specs.Lemmas.{cell_read_is_request as is-request, writes_cell}
use Rattle.pm_host.specs.Marks.{read_by, marks, Mark, Put, Good, put_by, puts, goods}
use Rattle.pm_host.specs.Messages.{cell_read, cell_write}
use Rattle.pm_host.specs.Now.{host_now, job_stage, stage_of, AreTold}
use Rattle.pm_host.specs.Possible.{is_possible, possible_of, restart_seen_of}
use Rattle.pm_host.specs.Refusals.{IsSetup, cell_fault, micro_fault, micro_word, voltage_fault}
use Rattle.pm_host.specs.Sound.{IsOrdering, IsStage}
use Rattle.pm_host.specs.Summary.{Summary, sending_in, stage_message, possible_at, standing_at, step_by}
use Rattle.pm_host.specs.Transcript as host
use Rattle.pm_host.specs.declared.command.Command.TheVariants.{StoreUserAll, RestoreUserAll, ClearFaults}
use Rattle.pm_host.specs.declared.knowledge.Possible.TheVariants.{Any, Words as PossibleWords}
use Rattle.pm_host.specs.declared.knowledge.Standing.TheVariants.{Confirmed, Unknown}
use Rattle.pm_host.specs.declared.question.Question.TheVariants.{Word, Mode, Coefficients}
use Rattle.pm_host.specs.declared.stage.Stage.TheVariants.{Writes, Reads, Sends, Asks}
use Rattle.pm_world.specs.{Below.Below, Lemmas.Hosts.like-setup, Lemmas.SinceRestart.since-same, Setup.setup_of}
use Rattle.pm_world.specs.{declared.event.Arrival.Arrival, declared.event.Back.Back}
use Rattle.pm_world.specs.{declared.event.Event.Event}
use Rattle.pm_world.specs.Confirmed.{reads_cell, restarts_converter, restarted_since, ConfirmedIsHeld, is_good_for, reads}
use Rattle.pm_world.specs.Ended.{begins_other, DiffersNeverTook}
use Rattle.pm_world.specs.Legal.{back_bytes}
use Rattle.pm_world.specs.Lemmas.{entries-more, now-config}
use Rattle.pm_world.specs.Life.{life, now, state_of, AreTaken}
use Rattle.pm_world.specs.OpenLists.{are_open, closes, lists_other, stays_open}
use Rattle.pm_world.specs.Possible.{restarts_host, host_has_read, is_surprise_for, answer_surprises, surprises_by, restarted_between}
use Rattle.pm_world.specs.Possible.{restarted_since_host, PossibleIsHeld, SeenIsTrue}
use Rattle.pm_world.specs.Retelling.{command_pending, pending_of, job_taken_by, open_pending, taken_at}
use Rattle.pm_world.specs.State.{Share, State, share_of, exchanged, delivered, device_after, next, event_cause, exchange_cause, answer_to}
use Rattle.pm_world.specs.State.{event_limit, asked, refused}
use Rattle.pm_world.specs.Uncertainty.{AreLegal, ArePossible, AreSteady, Choice, Leaves, may_hold, since_restart}
use Rattle.pm_world.specs.declared.event.Event.TheVariants.{Deliver, Finish, Exchange, RestartDevice, Reading, Order, OrderMicro, Check}
use Rattle.pm_world.specs.declared.event.Event.TheVariants.{Learn, Clear, Store, Restore, RestartHost}
use Rattle.pm_world.proofs.Events.{IsShare, shares_begins, delivers, exchanges, finishes, measures, restarts_device}
use Rattle.pm_world.proofs.Events.{restarts_host as host_restarts, share-is, tells_none, asked-restarts, IsLived, earlier, newest}
use Rattle.pm_world.proofs.Events.{life-told, now-next, read-word, eight, told-nothing, free, now-taken, exchange-reads, lived-before}
use Rattle.pm_world.proofs.Events.{asked-share, or-none, same_cell-itself}
use Rattle.pm_world.proofs.Formats.{from_some, good-same, IsOrOver, TellsFrame, any-parts, beside-tells, by-acceptance, by-frame}
use Rattle.pm_world.proofs.Formats.{by-silence, open-end, none-other, open-is, beside-frame}
use Rattle.pm_world.proofs.Orders.{pending-of_stage, stage_pending, Sending, TookJob, delivered-takes, event-stays, exchanged-stays}
use Rattle.pm_world.proofs.Orders.{taken-open, sends, open_pending-is, went}
use Rattle.pm_world.proofs.Standings.{IsKnown, IsKnownAfter, ReadsTrue, same-cells, accepted-known, finished-known, got-known}
use Rattle.pm_world.proofs.Standings.{restarted-known as host_restarted-known, open-append, open-lists, other-lists, AreGoods, no_good}
use Rattle.pm_world.proofs.Standings.{one_good, are-goods, are-puts, ArePuts, no_put, one_put, one_restore, listed-read, restart-told}

-- A word that the host calls confirmed is the converter's, event by event.

-- the order that is open: its word is possible, and no word of its cell is confirmed
pub record IsOrdered (setup : host.Setup) (entries : List host.Entry) (cell : Cell) (word : ℕ) : Type 0 where
  pub there : IsCell 8 cell
  pub unknown : standing_of (marks setup entries) cell ≡ Unknown
  pub possible : is_possible word (possible_of (marks setup entries) cell) ≡ true

-- the restore that is open: any word is possible for each output's cell, and none is confirmed
pub record IsRestoring (setup : host.Setup) (entries : List host.Entry) : Type 0 where
  pub unknown : (output : ℕ) (register : Reg) → standing_of (marks setup entries) (Out output register) ≡ Unknown
  pub possible : (output : ℕ) (register : Reg) → possible_of (marks setup entries) (Out output register) ≡ Any

-- what is known while a job is open; a store changes no word of a cell
abbrev pub IsPending : host.Setup → List host.Entry → PendingJob → Type 0
IsPending setup entries (pending.Order cell word) = IsOrdered setup entries cell word
IsPending setup entries pending.Store = Unit {0}
IsPending setup entries pending.Restore = IsRestoring setup entries

-- what is known of a world and of what its host was told
pub record Knows (s : State) (setup : host.Setup) (entries : List host.Entry) : Type 0 where
  pub sends : Sending s
  pub address : setup.addr ≡ s.device.config.addr
  -- the cell that the open job reads is there, and its read is being sent
  pub asks : (read : Cell) → read_by (host.open_job setup entries) (host.told_since entries) ≡ Some read →
      (sending_in s.host ≡ Some (cell_read read)) × IsCell s.device.config.count read
  pub accepted : (cell : Cell) → IsCell s.device.config.count cell → cell_accepts cell (word_at s.device.words cell) ≡ true
  pub pending : (job : PendingJob) → stage_pending s.host.stage ≡ Some job → IsPending setup entries job
  pub are : AreWords s.device.words
  pub stored : AreWords s.device.store

-- a good answer that is legal has the cell's word
good-read : Below → {s : State} {setup : host.Setup} {entries : List host.Entry} {word : ℕ} (arrival : Arrival) (back : Back)
    (read : Cell) → Knows s setup entries → read_by (host.open_job setup entries) (host.told_since entries) ≡ Some read →
    exchange_cause s arrival back (Some (cell_read read)) ≡ None →
    good_word s.device.config.addr read (back_bytes (answer_to s.device s.host.setup.addr (cell_read read) arrival) back) ≡ Some word →
    word_at s.device.words read ≡ word
good-read laws {s = s} {word = word} arrival back read knows asked free good =
    let asks = knows.asks read asked in
    let bytes = back_bytes (answer_to s.device s.host.setup.addr (cell_read read) arrival) back in
    let payload = from_some word_in (good_payload s.device.config.addr (cell_read read) bytes) word good in
    let same = good-same laws s arrival back (cell_read read) bytes
    (record { addr = knows.sends.addr; reads = is-request read; free = free; is = refl }) payload.1 in
    same_Some (word_at s.device.words read) word
    (sym (read-word laws s.device read asks.1 (knows.accepted read asks.1) (knows.sends.fits (cell_read read) asks.0))
    ∙ (ap (good_word s.device.config.addr read) (sym same) ∙ good))

-- what comes back is true of the cell that is read
pub reads-true : Below → {s : State} {setup : host.Setup} {entries : List host.Entry} (arrival : Arrival) (back : Back)
    (message : Message) → Knows s setup entries →
    sending_in s.host ≡ Some message → exchange_cause s arrival back (Some message) ≡ None →
    ReadsTrue setup entries (back_bytes (answer_to s.device s.host.setup.addr message arrival) back) s.device.words
reads-true laws {s = s} {setup = setup} arrival back message knows sending free = λ read word asked good.
    let asks = knows.asks read asked in
    let is : message ≡ cell_read read = same_Some message (cell_read read) (sym sending ∙ asks.0) in
    good-read laws arrival back read knows asked
    (subst (λ m. exchange_cause s arrival back (Some m) ≡ None) is free)
    (subst (λ m. good_word s.device.config.addr read (back_bytes (answer_to s.device s.host.setup.addr m arrival) back) ≡ Some word) is
    (subst (λ a. good_word a read (back_bytes (answer_to s.device s.host.setup.addr message arrival) back) ≡ Some word) knows.address good))

-- an exchange
exchange-known : Below → {s : State} {setup : host.Setup} {entries : List host.Entry} {cell : Cell} {restarted : Bool} (arrival : Arrival)
    (back : Back) (sending : Option Message) →
    Knows s setup entries → sending_in s.host ≡ sending → exchange_cause s arrival back sending ≡ None →
    IsKnown (marks setup entries) cell restarted s.device.words →
    IsKnownAfter setup entries cell restarted (exchanged s arrival back sending).told
    (device_after s.device (exchanged s arrival back sending).heard).words
exchange-known laws arrival back None knows e free so_far = cc
exchange-known laws {s = s} {setup = setup} {entries = entries} {cell = cell} {restarted = restarted} arrival back (Some message) knows e
    free so_far =
    subst (λ (w : Words). IsKnownAfter setup entries cell restarted (exchanged s arrival back (Some message)).told w)
    (sym (exchanged-stays laws s arrival back (Some message) (λ m is. knows.sends.fits m (e ∙ is)) free).words)
    (got-known laws setup entries (back_bytes (answer_to s.device s.host.setup.addr message arrival) back)
    (reads-true laws arrival back message knows e free) so_far)

-- an order that takes: its cell gets its word, which is possible and not confirmed
written-known : Below → {s : State} {setup : host.Setup} {entries : List host.Entry} {cell : Cell} {restarted : Bool}
    (ordered : Cell) (word : ℕ) → Knows s setup entries → IsCell 8 cell →
    IsOrdered setup entries ordered word → IsKnown (marks setup entries) cell restarted s.device.words →
    IsKnown (marks setup entries) cell restarted (with_word s.device.words ordered word)
written-known laws {s = s} {setup = setup} {entries = entries} {cell = cell} {restarted = restarted} ordered word knows there is so_far =
    by_cell (same_cell ordered cell) refl where
      has : word_at (with_word s.device.words ordered word) cell ≡ cond (same_cell ordered cell) word (word_at s.device.words cell)
      has = laws.settings_are_a_map.read s.device.words ordered cell word knows.are is.there there

      by_cell : (b : Bool) → same_cell ordered cell ≡ b →
          IsKnown (marks setup entries) cell restarted (with_word s.device.words ordered word)
      by_cell true e = record {
        held = λ found confirmed fresh.
            let both : Unknown ≡ Confirmed found = sym is.unknown
            ∙ (ap (standing_of (marks setup entries)) (same-cells laws ordered cell e) ∙ confirmed) in cc;
        among = λ fresh.
            ap (λ w. is_possible w (possible_of (marks setup entries) cell))
            (has ∙ ap (λ b. cond b word (word_at s.device.words cell)) e)
            ∙ (ap (λ c. is_possible word (possible_of (marks setup entries) c)) (sym (same-cells laws ordered cell e))
            ∙ is.possible);
      }
      by_cell false e =
          let left = has ∙ ap (λ b. cond b word (word_at s.device.words cell)) e in
          record {
            held = λ found confirmed fresh. left ∙ so_far.held found confirmed fresh;
            among = λ fresh. ap (λ w. is_possible w (possible_of (marks setup entries) cell)) left ∙ so_far.among fresh;
          }

-- a restore that takes: an output's cell gets its word in the store, where any word is possible and none is confirmed
restored-known : Below → {s : State} {setup : host.Setup} {entries : List host.Entry} (cell : Cell) {restarted : Bool} →
    Knows s setup entries → IsRestoring setup entries → IsKnown (marks setup entries) cell restarted s.device.words →
    IsKnown (marks setup entries) cell restarted (with_outputs s.device.words s.device.store)
restored-known laws {s = s} {setup = setup} {entries = entries} (Out output register) knows is so_far = record {
  held = λ found confirmed fresh.
      let both : Unknown ≡ Confirmed found = sym (is.unknown output register) ∙ confirmed in cc;
  among = λ fresh.
      ap (is_possible (word_at (with_outputs s.device.words s.device.store) (Out output register))) (is.possible output register);
}
restored-known laws {s = s} {setup = setup} {entries = entries} Protect knows is so_far =
    let left = laws.settings_are_a_map.protect s.device.words s.device.store knows.stored in
    record {
      held = λ found confirmed fresh. left ∙ so_far.held found confirmed fresh;
      among = λ fresh. ap (λ w. is_possible w (possible_of (marks setup entries) Protect)) left ∙ so_far.among fresh;
    }

-- the open job takes
took-known : Below → {s : State} {setup : host.Setup} {entries : List host.Entry} {cell : Cell} {restarted : Bool}
    (job : Option PendingJob) → Knows s setup entries → IsCell 8 cell →
    stage_pending s.host.stage ≡ job → IsKnown (marks setup entries) cell restarted s.device.words →
    IsKnown (marks setup entries) cell restarted (words_taken s.device.words s.device.store job)
took-known laws None knows there is so_far = so_far
took-known laws (Some (pending.Order ordered word)) knows there is so_far =
    written-known laws ordered word knows there (knows.pending (pending.Order ordered word) is) so_far
took-known laws (Some pending.Store) knows there is so_far = so_far
took-known laws {cell = cell} (Some pending.Restore) knows there is so_far =
    restored-known laws cell knows (knows.pending pending.Restore is) so_far

-- what is known stays true by a delivery, whichever job takes or none
taken-known : Below → {s : State} {setup : host.Setup} {entries : List host.Entry} {cell : Cell} {restarted : Bool}
    (arrival : Arrival) (new : Held) → Knows s setup entries → IsCell 8 cell →
    TookJob s.device new (job_taken_by s.device.config.addr s.device.words arrival (stage_pending s.host.stage)) →
    IsKnown (marks setup entries) cell restarted s.device.words → IsKnown (marks setup entries) cell restarted new.words
taken-known laws {s = s} {setup = setup} {entries = entries} {cell = cell} {restarted = restarted} arrival new knows there took so_far =
    subst (IsKnown (marks setup entries) cell restarted) (sym took.words)
    (go (job_taken_by s.device.config.addr s.device.words arrival (stage_pending s.host.stage)) refl)
  where
    go : (job : Option PendingJob) → job_taken_by s.device.config.addr s.device.words arrival (stage_pending s.host.stage) ≡ job →
        IsKnown (marks setup entries) cell restarted (words_taken s.device.words s.device.store job)
    go None e = so_far
    go (Some job) e = took-known laws (Some job) knows there
        (taken-open s.device.config.addr s.device.words arrival (stage_pending s.host.stage) job e) so_far

-- a delivery leaves what is known
deliver-known : Below → {s : State} {setup : host.Setup} {entries : List host.Entry} {cell : Cell} {restarted : Bool}
    (arrival : Arrival) → Knows s setup entries → IsCell 8 cell →
    event_cause s (Deliver arrival) ≡ None → IsKnown (marks setup entries) cell restarted s.device.words →
    IsKnownAfter setup entries cell restarted (delivered s arrival (sending_in s.host)).told
    (device_after s.device (delivered s arrival (sending_in s.host)).heard).words
deliver-known laws {s = s} {setup = setup} {entries = entries} {cell = cell} {restarted = restarted} arrival knows there free so_far =
    subst (λ told. IsKnownAfter setup entries cell restarted told
    (device_after s.device (delivered s arrival (sending_in s.host)).heard).words)
    (sym (told-nothing s arrival (sending_in s.host)))
    (taken-known laws arrival (device_after s.device (delivered s arrival (sending_in s.host)).heard) knows there
    (delivered-takes laws s arrival (sending_in s.host) knows.sends refl free) so_far)

-- one event
event-known : Below → {s : State} (event : Event) {setup : host.Setup} {entries : List host.Entry} {cell : Cell} {restarted : Bool} →
    Knows s setup entries → IsCell 8 cell →
    event_cause s event ≡ None → IsKnown (marks setup entries) cell restarted s.device.words →
    IsKnownAfter setup entries cell (restarts_converter event || restarted) (share_of s event).told (next s event).device.words
unfolding next
event-known laws {s = s} event {setup = setup} {entries = entries} {cell = cell} {restarted = restarted} knows there free so_far =
    by (share-is s event) free where
      silent : (restarts : Bool) → IsKnown (marks setup entries) cell (restarts || restarted) s.device.words
      silent true = record { held = λ word confirmed fresh. cc; among = λ fresh. cc }
      silent false = so_far

      by : {event : Event} {share : Share} → IsShare s event share → event_cause s event ≡ None →
          IsKnownAfter setup entries cell (restarts_converter event || restarted) share.told (device_after s.device share.heard).words
      by (shares_begins event job is) free =
          subst (λ b. IsKnownAfter setup entries cell (b || restarted) (Some (host.Accepted job)) s.device.words)
          (sym (asked-restarts s event job is)) (accepted-known laws setup entries cell restarted s.device.words job so_far)
      by (delivers arrival message sends) free =
          subst (λ o. IsKnownAfter setup entries cell restarted (delivered s arrival o).told
          (device_after s.device (delivered s arrival o).heard).words) sends
          (deliver-known laws arrival knows there free so_far)
      by (exchanges arrival back message sends) free =
          exchange-known laws arrival back (Some message) knows sends (sym (ap (exchange_cause s arrival back) sends) ∙ free) so_far
      by (finishes acked) free = finished-known laws setup entries cell restarted s.device.words acked so_far
      by restarts_device free = record { held = λ word confirmed fresh. cc; among = λ fresh. cc }
      by host_restarts free = host_restarted-known setup entries cell restarted s.device.words
      by (measures output code word) free =
          subst (IsKnown (marks setup entries) cell restarted)
          (sym (event-stays laws s.device (device.Reading output code.0 word) refl).words) so_far
      by (tells_none event) free = silent (restarts_converter event)

-- the read that an open job sends
read-sent : (setup : host.Setup) (s : Summary) (job : Option host.Job) (told : List host.Entry) (read : Cell) →
    read_by job told ≡ Some read →
    IsStage s (option_map (λ j. job_stage setup j told) job) →
    (option_map stage_message (option_map (λ j. job_stage setup j told) job) ≡ Some (cell_read read)) × IsCell s.setup.outputs read
read-sent setup s (Some (host.Order cell word)) told read e is = by_turn (host.is_write_turn told) _ e is where
  by_turn : (b : Bool) (pass : ℕ) → cond b None (Some cell) ≡ Some read →
      IsStage s (Some (cond b (Writes cell word pass) (Reads cell word pass))) →
      (option_map stage_message (Some (cond b (Writes cell word pass) (Reads cell word pass))) ≡ Some (cell_read read)) × IsCell
      s.setup.outputs read
  by_turn true pass e is = absurd (none-some read e)
  by_turn false pass e is = (ap (option_map cell_read) e, subst (IsCell s.setup.outputs) (same_Some cell read e) is.there)
read-sent setup s (Some (host.Check cell)) told read e is =
    (ap (option_map cell_read) e, subst (IsCell s.setup.outputs) (same_Some cell read e) is.there)
read-sent setup s job told read e is = absurd (none-some read e)

-- the order of a stage
stage-ordering : (s : Summary) (stage : Option Stage) (cell : Cell) (word : ℕ) → IsStage s stage →
    stage_pending stage ≡ Some (pending.Order cell word) →
    IsCell s.setup.outputs cell × (standing_at s cell ≡ Unknown) × (is_possible word (possible_at s cell) ≡ true)
stage-ordering s stage cell word is e = by_stage stage is e where
  Says : Cell → ℕ → Type 0
  Says c w = IsCell s.setup.outputs c × (standing_at s c ≡ Unknown) × (is_possible w (possible_at s c) ≡ true)

  by_order : (c : Cell) (w pass : ℕ) → IsOrdering s c w pass → Some (pending.Order c w) ≡ Some (pending.Order cell word) → Says cell word
  by_order c w pass is e =
      let same : (c ≡ cell) × (w ≡ word) = (cc, cc) in
      subst (λ x. Says x word) same.0 (subst (Says c) same.1 (is.there, is.unknown, is.possible))

  by_command : (sent : Command) → command_pending sent ≡ Some (pending.Order cell word) → Says cell word
  by_command StoreUserAll e = cc
  by_command _ e = cc

  by_stage : (stage : Option Stage) → IsStage s stage → stage_pending stage ≡ Some (pending.Order cell word) → Says cell word
  by_stage (Some (Writes c w pass)) is e = by_order c w pass is e
  by_stage (Some (Reads c w pass)) is e = by_order c w pass is e
  by_stage (Some (Sends sent tries)) is e = by_command sent e
  by_stage stage is e = absurd (none-some (pending.Order cell word) e)

-- the job that is a restore
restoring-job : (job : Option host.Job) → option_and_then pending_of job ≡ Some pending.Restore →
    job ≡ Some (host.Send RestoreUserAll)
restoring-job (Some (host.Send RestoreUserAll)) e = refl
restoring-job _ e = cc

-- what is known while a job is open
job-known : Below → (config : Config) (passes : ℕ) (events : List Event) → IsLived config passes events → (job : PendingJob) →
    stage_pending (host_now (setup_of config passes) (life config passes events).entries).stage ≡ Some job →
    IsPending (setup_of config passes) (life config passes events).entries job
unfolding host_now stage_of
job-known laws config passes events lived (pending.Order cell word) e =
    let setup = setup_of config passes in
    let entries = (life config passes events).entries in
    let told = life-told config passes events lived.legal in
    let is = laws.transcripts_are_followed.sound setup entries lived.made told in
    let at = stage-ordering (host_now setup entries) (host_now setup entries).stage cell word is.stage e in
    let there = eight config.count cell lived.sound.few at.0 in
    record {
      there = there;
      unknown = sym (laws.transcripts_are_followed.standing setup entries cell there) ∙ at.1;
      possible = ap (is_possible word) (sym (laws.transcripts_are_followed.possible setup entries cell there)) ∙ at.2;
    }
job-known laws config passes events lived pending.Store e = tt
job-known laws config passes events lived pending.Restore e =
    let setup = setup_of config passes in
    let entries = (life config passes events).entries in
    let told = life-told config passes events lived.legal in
    let open' = restoring-job (host.open_job setup entries) (sym (pending-of_stage setup entries) ∙ e) in
    record {
      unknown = λ output register. laws.open_restores_are_uncertain.unknown setup entries output register told open';
      possible = λ output register. laws.open_restores_are_uncertain.possible setup entries output register told open';
    }

-- what is known holds after each life
pub knows : Below → (config : Config) (passes : ℕ) (events : List Event) → IsLived config passes events →
    Knows (now config passes events) (setup_of config passes) (life config passes events).entries
unfolding now state_of host_now device_now stage_of
knows laws config passes events lived =
    let setup = setup_of config passes in
    let entries = (life config passes events).entries in
    let past = (life config passes events).past in
    let told = life-told config passes events lived.legal in
    let is = laws.transcripts_are_followed.sound setup entries lived.made told in
    record {
      sends = sends laws config passes events lived;
      address = refl;
      asks = λ read e. read-sent setup (host_now setup entries) (host.open_job setup entries) (host.told_since entries) read e is.stage;
      accepted = λ cell there. laws.words_have_an_origin.accepted config past cell lived.sound there;
      pending = job-known laws config passes events lived;
      are = laws.pasts_are_followed.words config past;
      stored = laws.pasts_are_followed.store config past;
    }

-- the look back after one more event
restarted-more : (config : Config) (passes : ℕ) (cell : Cell) (before : List Event) (event : Event) →
    restarted_since config passes cell (event ∷ before)
    ≡ cond (reads_cell config passes cell before event) false (restarts_converter event || restarted_since config passes cell before)
unfolding restarted_since
restarted-more config passes cell before event = refl

-- nothing is confirmed at the start, and any word is possible
nothing-known : (config : Config) (passes : ℕ) (cell : Cell) (restarted : Bool) (words : Words) →
    IsKnown (marks (setup_of config passes) (life config passes []).entries) cell restarted words
unfolding life possible_of
nothing-known config passes cell restarted words = record { held = λ word confirmed fresh. cc; among = λ fresh. refl }

-- what is known stays true over a life
pub life-known : Below → (config : Config) (passes : ℕ) (events : List Event) (cell : Cell) → IsLived config passes events →
    IsCell config.count cell →
    IsKnown (marks (setup_of config passes) (life config passes events).entries) cell (restarted_since config passes cell events)
    (now config passes events).device.words
life-known laws config passes [] cell lived there = nothing-known config passes cell _ _
life-known laws config passes (event ∷ before) cell lived there =
    let s = now config passes before in
    let setup = setup_of config passes in
    let entries = (life config passes before).entries in
    let after = event-known laws event
    (knows laws config passes before (earlier lived))
    (eight config.count cell lived.sound.few there) (newest lived) (life-known laws config passes before cell (earlier lived) there) in
    subst (λ (t : State). IsKnown (marks setup (life config passes (event ∷ before)).entries) cell
    (restarted_since config passes cell (event ∷ before)) t.device.words)
    (sym (now-next laws config passes before event lived))
    (subst (λ es. IsKnown (marks setup es) cell (restarted_since config passes cell (event ∷ before)) (next s event).device.words)
    (sym (entries-more config passes before event))
    (subst (λ b. IsKnown (marks setup (option_to_list (share_of s event).told ++ entries)) cell b (next s event).device.words)
    (sym (restarted-more config passes cell before event)) after))

-- the promise on confirmed words
pub confirmed-held : Below → (config : Config) (passes : ℕ) (events : List Event) → IsLived config passes events →
    ConfirmedIsHeld config passes events (now config passes events)
unfolding now state_of
confirmed-held laws config passes events lived =
    let standing = λ (cell : Cell) (there : IsCell config.count cell). laws.transcripts_are_followed.standing (setup_of config passes)
    (life config passes events).entries cell (eight config.count cell lived.sound.few there) in
    record {
      standing = standing;
      held = λ cell word there confirmed fresh. (life-known laws config passes events cell lived there).held word
          (sym (standing cell there) ∙ confirmed) fresh;
    }

-- Words that a life leaves which tells the host just the same are all possible; and legal events are those that
-- are taken.

-- the converter didn't restart since any answer if neither end restarts
steady-fresh : (config : Config) (passes : ℕ) (cell : Cell) (events : List Event) → AreSteady events →
    restarted_since config passes cell events ≡ false
unfolding restarted_since
steady-fresh config passes cell [] steady = refl
steady-fresh config passes cell (event ∷ before) (steady, all) =
    go (reads_cell config passes cell before event) (restarts_host event) (restarts_converter event) steady
    (steady-fresh config passes cell before all)
  where
    go : (read hosts converters : Bool) → (hosts || converters) ≡ false → restarted_since config passes cell before ≡ false →
        cond read false (converters || restarted_since config passes cell before) ≡ false
    go true hosts converters h older = refl
    go false false false h older = older
    go false hosts converters h older = cc

-- a word that is possible, and that the cell accepts, is one that it may hold
holds : (cell : Cell) (word : ℕ) (possible : Possible) → is_possible word possible ≡ true → cell_accepts cell word ≡ true →
    may_hold cell word possible ≡ true
holds cell word Any possible accepted = accepted
holds cell word (PossibleWords words) possible accepted = possible

-- what the host calls possible goes by the marks of what it was told since its last restart
pub now-possible : Below → (config : Config) (passes : ℕ) (events : List Event) (cell : Cell) → IsLived config passes events →
    IsCell config.count cell →
    possible_at (now config passes events).host cell
    ≡ possible_of (marks (setup_of config passes) (since_restart (life config passes events).entries)) cell
unfolding now state_of
now-possible laws config passes events cell lived there =
    let setup = setup_of config passes in
    let entries = (life config passes events).entries in
    ap (λ (s : Summary). possible_at s cell)
    (since-same laws.transcripts_are_followed setup entries lived.made (life-told config passes events lived.legal)).same
    ∙ laws.transcripts_are_followed.possible setup (since_restart entries) cell (eight config.count cell lived.sound.few there)

-- the words that are left are possible
pub left-possible : Below → {config : Config} {passes : ℕ} {events retold : List Event} {chosen : Choice} {other : Config} →
    IsLived config passes events →
    Leaves config passes (since_restart (life config passes events).entries) chosen other retold →
    ArePossible config (now config passes events).host chosen
left-possible laws {config = config} {passes = passes} {events = events} {retold = retold} {chosen = chosen} {other = other} lived leaves
    output register below =
    let cell = Out output register in
    let setup = like-setup config other passes leaves.alike.addr leaves.alike.count in
    let there : IsCell other.count cell = subst (λ n. output < n) (sym leaves.alike.count) below in
    let again : IsLived other passes retold =
    record { sound = leaves.sound; made = subst IsSetup (sym setup) lived.made; legal = leaves.legal } in
    let among = (life-known laws other passes retold cell again there).among (steady-fresh other passes cell retold leaves.steady) in
    let left = leaves.left output register below in
    let same : possible_at (now config passes events).host cell
    ≡ possible_of (marks (setup_of other passes) (life other passes retold).entries) cell =
    now-possible laws config passes events cell lived below
    ∙ ap₂ (λ (s : Setup) es. possible_of (marks s es) cell) (sym setup) (sym leaves.told) in
    holds cell (chosen cell) (possible_at (now config passes events).host cell)
    (ap₂ is_possible (sym left) same ∙ among)
    (ap (cell_accepts cell) (sym left) ∙ (knows laws other passes retold again).accepted cell
    (subst (λ (c : Config). IsCell c.count cell) (sym (now-config other passes retold)) there))

-- the words that are left are ones that their cells accept
pub chosen-accepted : Below → {config : Config} {passes : ℕ} {events retold : List Event} {chosen : Choice} {other : Config} →
    IsLived config passes events →
    Leaves config passes (since_restart (life config passes events).entries) chosen other retold →
    (output : ℕ) (register : Reg) → output < config.count → cell_accepts (Out output register) (chosen (Out output register)) ≡ true
chosen-accepted laws {config = config} {passes = passes} {events = events} {retold = retold} {chosen = chosen} {other = other} lived leaves
    output register below =
    let cell = Out output register in
    let setup = like-setup config other passes leaves.alike.addr leaves.alike.count in
    let there : IsCell other.count cell = subst (λ n. output < n) (sym leaves.alike.count) below in
    let again : IsLived other passes retold =
    record { sound = leaves.sound; made = subst IsSetup (sym setup) lived.made; legal = leaves.legal } in
    ap (cell_accepts cell) (sym (leaves.left output register below)) ∙ (knows laws other passes retold again).accepted cell
    (subst (λ (c : Config). IsCell c.count cell) (sym (now-config other passes retold)) there)

-- legal events are taken, where there is room for them
pub legal-taken : (config : Config) (passes : ℕ) (events : List Event) → length events ≤ event_limit → AreLegal config passes events →
    AreTaken config passes events
legal-taken config passes [] room legal = tt
legal-taken config passes (event ∷ before) room (legal, all) =
    let count = now-taken config passes before in (
      record { free = free (now config passes before) event (omega arith) legal.free; word = legal.word },
      legal-taken config passes before (omega arith) all,
    )

-- An order that differs never took: while it is open its cell has the word of before, or the ordered one, which it
-- then keeps; and the word that was read is the cell's.

-- the job that may take is that of the stage
pending-job : (stage : Option Stage) → stage_pending stage ≡ option_and_then pending_of (option_map stage_job stage)
pending-job None = refl
pending-job (Some (Writes cell word pass)) = refl
pending-job (Some (Reads cell word pass)) = refl
pending-job (Some (Asks (Word cell) tries)) = refl
pending-job (Some (Asks (Mode output) tries)) = refl
pending-job (Some (Asks (Coefficients output) tries)) = refl
pending-job (Some (Sends command tries)) = refl

-- an event that doesn't restart the converter lets the open job take, or none
event-takes : Below → (config : Config) (passes : ℕ) (before : List Event) (event : Event) → IsLived config passes (event ∷ before) →
    restarts_converter event ≡ false →
    TookJob (now config passes before).device (now config passes (event ∷ before)).device (taken_at config passes before event)
event-takes laws config passes before event lived steady = elim (went laws config passes before event lived) [
  | inl (is, back) ↦ (let bad : true ≡ false = sym (ap restarts_converter is) ∙ steady in cc)
  | inr took ↦ took
]

-- the job that takes is that of the stage
taken-pends : (config : Config) (passes : ℕ) (before : List Event) (event : Event) (job : PendingJob) →
    taken_at config passes before event ≡ Some job → stage_pending (now config passes before).host.stage ≡ Some job
unfolding taken_at
taken-pends config passes before (Deliver arrival) job is =
    sym (open_pending-is config passes before)
    ∙ taken-open config.addr (now config passes before).device.words arrival (open_pending config passes before) job is
taken-pends config passes before event job is = cc

-- the words stay while no job is open and the converter doesn't restart
pub idle-moves : Below → (config : Config) (passes : ℕ) (before : List Event) (event : Event) (cell : Cell) →
    IsLived config passes (event ∷ before) → restarts_converter event ≡ false →
    job_in (now config passes before).host ≡ None →
    word_at (now config passes (event ∷ before)).device.words cell ≡ word_at (now config passes before).device.words cell
idle-moves laws config passes before event cell lived steady over = go (taken_at config passes before event) refl where
  go : (job : Option PendingJob) → taken_at config passes before event ≡ job →
      word_at (now config passes (event ∷ before)).device.words cell ≡ word_at (now config passes before).device.words cell
  go None is =
      let held = (now config passes before).device in
      ap (λ w. word_at w cell)
      ((event-takes laws config passes before event lived steady).words ∙ ap (words_taken held.words held.store) is)
  go (Some job) is =
      let nothing = pending-job (now config passes before).host.stage ∙ ap (option_and_then pending_of) over in
      absurd (none-other _ nothing (taken-pends config passes before event job is))

-- the word of an open order's cell stays, or is then the ordered one, if the converter doesn't restart
order-moves : Below → (config : Config) (passes : ℕ) (before : List Event) (event : Event) (cell : Cell) (word : ℕ) →
    IsLived config passes (event ∷ before) → restarts_converter event ≡ false →
    job_in (now config passes before).host ≡ Some (host.Order cell word) →
    (word_at (now config passes (event ∷ before)).device.words cell ≡ word_at (now config passes before).device.words cell)
    ⊎ (word_at (now config passes (event ∷ before)).device.words cell ≡ word)
order-moves laws config passes before event cell word lived steady is = go (taken_at config passes before event) refl where
  s : State
  s = now config passes before

  pends : stage_pending (now config passes before).host.stage ≡ Some (pending.Order cell word)
  pends = pending-job (now config passes before).host.stage ∙ ap (option_and_then pending_of) is

  go : (job : Option PendingJob) → taken_at config passes before event ≡ job →
      (word_at (now config passes (event ∷ before)).device.words cell ≡ word_at (now config passes before).device.words cell)
      ⊎ (word_at (now config passes (event ∷ before)).device.words cell ≡ word)
  go None none =
      inl (ap (λ w. word_at w cell)
      ((event-takes laws config passes before event lived steady).words ∙ ap (words_taken s.device.words s.device.store) none))
  go (Some job) took =
      let known = knows laws config passes before (earlier lived) in
      let there = (known.pending (pending.Order cell word) pends).there in
      let same = took ∙ (sym (taken-pends config passes before event job took) ∙ pends) in
      inr (ap (λ w. word_at w cell)
      ((event-takes laws config passes before event lived steady).words ∙ ap (words_taken s.device.words s.device.store) same)
      ∙ (laws.settings_are_a_map.read s.device.words cell cell word known.are there there
      ∙ ap (λ b. cond b word (word_at s.device.words cell)) ((laws.cells_are_told_apart cell cell).1 refl)))

-- the turn is that of a read while a read is sent
turn-reads : (cell : Cell) (word : ℕ) (turn : Bool) (message : Message)
    → Some message ≡ Some (cond turn (cell_write cell word) (cell_read cell)) →
    is_read_message message ≡ true → cond turn None (Some cell) ≡ Some cell
turn-reads cell word false message is reads = refl
turn-reads cell word true message is reads =
    absurd (false≢true (sym (ap is_read_message (same_Some message (cell_write cell word) is) ∙ writes_cell cell word) ∙ reads))

-- the cell that an open order reads, while a request is being sent
asks-cell : Below → (setup : host.Setup) (entries : List host.Entry) (cell : Cell) (word : ℕ) (message : Message) →
    host.open_job setup entries ≡ Some (host.Order cell word) → sending_in (host_now setup entries) ≡ Some message →
    is_read_message message ≡ true → read_by (host.open_job setup entries) (host.told_since entries) ≡ Some cell
unfolding host.sending_of
asks-cell laws setup entries cell word message is sends reads =
    ap (λ job. read_by job (host.told_since entries)) is
    ∙ turn-reads cell word (host.is_write_turn (host.told_since entries)) message
    (sym sends ∙ (laws.transcripts_are_followed.sending setup entries
    ∙ ap (option_map (λ job. host.job_message setup job (host.told_since entries))) is)) reads

-- a good answer of an order's cell has the word that the cell has
exchange-read : Below → (config : Config) (passes : ℕ) (before : List Event) (arrival : Arrival) (back : Back) (cell : Cell)
    (word read : ℕ) (entry : host.Entry) → IsLived config passes (Exchange arrival back ∷ before) →
    job_in (now config passes before).host ≡ Some (host.Order cell word) →
    (share_of (now config passes before) (Exchange arrival back)).told ≡ Some entry →
    word_told (now config passes before).host.setup.addr cell entry ≡ Some read →
    word_at (now config passes before).device.words cell ≡ read
unfolding now state_of host_now
exchange-read laws config passes before arrival back cell word read entry lived is told good =
    go (sending_in (now config passes before).host) refl (newest lived) told where
      setup : host.Setup
      setup = setup_of config passes

      entries : List host.Entry
      entries = (life config passes before).entries

      opened : host.open_job setup entries ≡ Some (host.Order cell word)
      opened = sym (laws.ends_are_told.job setup entries) ∙ is

      go : (sending : Option Message) → sending_in (now config passes before).host ≡ sending →
          exchange_cause (now config passes before) arrival back sending ≡ None →
          (exchanged (now config passes before) arrival back sending).told ≡ Some entry →
          word_at (now config passes before).device.words cell ≡ read
      go None sends free came = cc
      go (Some message) sends free came =
          reads-true laws arrival back message (knows laws config passes before (earlier lived)) sends free cell read
          (asks-cell laws setup entries cell word message opened sends
          (exchange-reads (now config passes before) arrival back message free))
          (ap (word_told setup.addr cell) (same_Some _ entry came) ∙ good)

-- an order that is open, or over; and where it differs, the cell has the word that was read
abbrev OrderGoes : Cell → ℕ → State → Type 0
OrderGoes cell word s = (job_in s.host ≡ Some (host.Order cell word))
    ⊎ ((job_in s.host ≡ None) × ((read : ℕ) → s.end ≡ Some (Differs read) →
    (read ≢ word) × (word_at s.device.words cell ≡ read)))

-- over an event that tells the host nothing
goes-silent : Below → (config : Config) (passes : ℕ) (before : List Event) (event : Event) (cell : Cell) (word : ℕ) →
    IsLived config passes (event ∷ before) → begins_other event ≡ false → restarts_converter event ≡ false →
    (share_of (now config passes before) event).told ≡ None → OrderGoes cell word (now config passes before) →
    OrderGoes cell word (now config passes (event ∷ before))
goes-silent laws config passes before event cell word lived alone steady told (inl is) =
    inl (ap job_in (by-silence config passes before event told).0 ∙ is)
goes-silent laws config passes before event cell word lived alone steady told (inr (over, differs)) =
    let same = by-silence config passes before event told in
    inr (
      ap job_in same.0 ∙ over,
      λ read ended.
          let was = differs read (sym same.1 ∙ ended) in
          (was.0, idle-moves laws config passes before event cell lived steady over ∙ was.1),
    )

-- the end of an order that differs
end-differs : (cell : Cell) (word read : ℕ) (entry : host.Entry) (old new : Summary) → job_in old ≡ Some (host.Order cell word) →
    StepTells old entry (step_by (Some (Differs read))) new → (word_told old.setup.addr cell entry ≡ Some read) × (read ≢ word)
end-differs cell word read entry old new is tells =
    let order = subst (λ o. IsSomeAnd o (λ j. EndTells j entry (Differs read) old new)) is tells.1 in (order.0.0, order.0.1)

-- the word that the cell had is the one that was told, and an exchange leaves it
pub frame-read : Below → (config : Config) (passes : ℕ) (before : List Event) (event : Event) (cell : Cell) (word read : ℕ)
    (entry : host.Entry) → IsLived config passes (event ∷ before) → begins_other event ≡ false →
    job_in (now config passes before).host ≡ Some (host.Order cell word) →
    (share_of (now config passes before) event).told ≡ Some entry →
    word_told (now config passes before).host.setup.addr cell entry ≡ Some read →
    word_at (now config passes (event ∷ before)).device.words cell ≡ read
unfolding next
frame-read laws config passes before (Exchange arrival back) cell word read entry lived alone is told good =
    let same = exchanged-stays laws (now config passes before) arrival back (sending_in (now config passes before).host)
    (knows laws config passes before (earlier lived)).sends.fits (newest lived) in
    ap (λ (s : State). word_at s.device.words cell) (now-next laws config passes before (Exchange arrival back) lived)
    ∙ (ap (λ (w : Words). word_at w cell) same.words
    ∙ exchange-read laws config passes before arrival back cell word read entry lived is told good)
frame-read laws config passes before (Finish acked) cell word read entry lived alone is told good =
    absurd (none-other _ (ap (word_told (now config passes before).host.setup.addr cell) (sym (same_Some _ entry told))) good)
frame-read laws config passes before (Deliver arrival) cell word read entry lived alone is told good =
    absurd (none-other _ (told-nothing (now config passes before) arrival (sending_in (now config passes before).host)) told)
frame-read laws config passes before RestartDevice cell word read entry lived alone is told good = cc
frame-read laws config passes before (Reading output code reading) cell word read entry lived alone is told good = cc
frame-read laws config passes before event cell word read entry lived alone is told good = cc

-- over one that tells it what came of a frame
goes-frame : Below → (config : Config) (passes : ℕ) (before : List Event) (event : Event) (cell : Cell) (word : ℕ) (entry : host.Entry) →
    IsLived config passes (event ∷ before) → begins_other event ≡ false →
    (share_of (now config passes before) event).told ≡ Some entry →
    job_in (now config passes before).host ≡ Some (host.Order cell word) → (end : Option JobEnd) →
    (now config passes (event ∷ before)).end ≡ end →
    StepTells (now config passes before).host entry (step_by end) (now config passes (event ∷ before)).host →
    OrderGoes cell word (now config passes (event ∷ before))
goes-frame laws config passes before event cell word entry lived alone told is None ended tells = inl (tells.0 ∙ is)
goes-frame laws config passes before event cell word entry lived alone told is (Some end) ended tells =
    inr (
      tells.0,
      λ read differs.
          let found = end-differs cell word read entry (now config passes before).host (now config passes (event ∷ before)).host is
          (subst (λ e. StepTells (now config passes before).host entry (step_by e) (now config passes (event ∷ before)).host)
          (sym ended ∙ differs) tells) in
          (found.1, frame-read laws config passes before event cell word read entry lived alone is told found.0),
    )

-- the job is open where it goes
goes-open : (cell : Cell) (word : ℕ) (s : State) → OrderGoes cell word s → IsOrOver (host.Order cell word) s.host
goes-open cell word s (inl is) = inl is
goes-open cell word s (inr is) = inr is.0

-- over one event
goes-once : Below → (config : Config) (passes : ℕ) (before : List Event) (event : Event) (cell : Cell) (word : ℕ) →
    IsLived config passes (event ∷ before) → begins_other event ≡ false → restarts_converter event ≡ false →
    OrderGoes cell word (now config passes before) → OrderGoes cell word (now config passes (event ∷ before))
goes-once laws config passes before event cell word lived alone steady so_far =
    go _ refl (beside-tells (now config passes before) event alone) where
      go : (told : Option host.Entry) → (share_of (now config passes before) event).told ≡ told → TellsFrame told →
          OrderGoes cell word (now config passes (event ∷ before))
      go None is frame = goes-silent laws config passes before event cell word lived alone steady is so_far
      go (Some entry) is frame =
          let told = by-frame laws config passes before event entry lived is frame in
          goes-frame laws config passes before event cell word entry lived alone is
          (open-is (host.Order cell word) _ told.open' (goes-open cell word (now config passes before) so_far)) _ refl told.tells

-- an order that didn't take goes on so over any number of events
goes-on : Below → (config : Config) (passes : ℕ) (span before : List Event) (cell : Cell) (word : ℕ) →
    IsLived config passes (span ++ before) → list_any begins_other span ≡ false → list_any restarts_converter span ≡ false →
    OrderGoes cell word (now config passes before) → OrderGoes cell word (now config passes (span ++ before))
goes-on laws config passes [] before cell word lived alone steady so_far = so_far
goes-on laws config passes (event ∷ span) before cell word lived alone steady so_far =
    let apart = or_parts (begins_other event) (list_any begins_other span) alone in
    let still = or_parts (restarts_converter event) (list_any restarts_converter span) steady in
    goes-once laws config passes (span ++ before) event cell word lived apart.0 still.0
    (goes-on laws config passes span before cell word (earlier lived) apart.1 still.1 so_far)

-- one event leaves the cell's word or gives it the ordered one
moves-once : Below → (config : Config) (passes : ℕ) (before : List Event) (event : Event) (cell : Cell) (word : ℕ) →
    IsLived config passes (event ∷ before) → begins_other event ≡ false → restarts_converter event ≡ false →
    OrderGoes cell word (now config passes before) →
    (word_at (now config passes (event ∷ before)).device.words cell ≡ word_at (now config passes before).device.words cell)
    ⊎ (word_at (now config passes (event ∷ before)).device.words cell ≡ word)
moves-once laws config passes before event cell word lived alone steady (inl is) =
    order-moves laws config passes before event cell word lived steady is
moves-once laws config passes before event cell word lived alone steady (inr (over, differs)) =
    inl (idle-moves laws config passes before event cell lived steady over)

-- a cell that has another word than the ordered one at the end had it throughout
had-before : Below → (config : Config) (passes : ℕ) (later before : List Event) (cell : Cell) (word read : ℕ) →
    IsLived config passes (later ++ before) → list_any begins_other later ≡ false → list_any restarts_converter later ≡ false →
    OrderGoes cell word (now config passes before) → read ≢ word →
    word_at (now config passes (later ++ before)).device.words cell ≡ read →
    word_at (now config passes before).device.words cell ≡ read
had-before laws config passes [] before cell word read lived alone steady so_far other has = has
had-before laws config passes (event ∷ later) before cell word read lived alone steady so_far other has =
    let apart = or_parts (begins_other event) (list_any begins_other later) alone in
    let still = or_parts (restarts_converter event) (list_any restarts_converter later) steady in
    had-before laws config passes later before cell word read (earlier lived) apart.1 still.1 so_far other
    (elim (moves-once laws config passes (later ++ before) event cell word lived apart.0 still.0
    (goes-on laws config passes later before cell word (earlier lived) apart.1 still.1 so_far)) [
      | inl same ↦ sym same ∙ has
      | inr took ↦ absurd (other (sym has ∙ took))
    ])

-- an order that isn't over hasn't differed
open-differs : Below → (config : Config) (passes : ℕ) (events : List Event) (job : host.Job) (end : JobEnd) →
    job_in (now config passes events).host ≡ Some job → (now config passes events).end ≡ Some end → ⊥
unfolding now state_of
open-differs laws config passes events job end is ended =
    none-other _ (open-end (setup_of config passes) (life config passes events).entries
    (ap is_some (sym (laws.ends_are_told.job (setup_of config passes) (life config passes events).entries) ∙ is))) ended

-- an order that differs never took, over the whole life
pub differs-never : Below → (config : Config) (passes : ℕ) (events : List Event) → IsLived config passes events →
    DiffersNeverTook config passes events
differs-never laws config passes events lived = record {
  never = λ newer later since before order cell word read is asks alone steady ended.
      let all = lived-before config passes newer (later ++ (since ++ order ∷ before)) (subst (IsLived config passes) is lived) in
      let some = lived-before config passes later (since ++ order ∷ before) all in
      let first = lived-before config passes since (order ∷ before) some in
      let apart = any-parts begins_other later since alone in
      let still = any-parts restarts_converter later since steady in
      let begun : OrderGoes cell word (now config passes (order ∷ before)) =
      inl (by-acceptance laws config passes before order (host.Order cell word) first asks).open' in
      let going = goes-on laws config passes since (order ∷ before) cell word some apart.1 still.1 begun in
      elim (goes-on laws config passes later (since ++ order ∷ before) cell word all apart.0 still.0 going) [
        | inl open' ↦ absurd (open-differs laws config passes (later ++ (since ++ order ∷ before)) _ _ open' ended)
        | inr over ↦
            let was = over.1 read ended in
            (was.0, had-before laws config passes later (since ++ order ∷ before) cell word read all apart.0 still.0 going was.0 was.1)
      ];
}

-- Whether WRITE_PROTECT was left open goes by one event after another: by what is asked for, and by what is possible
-- for it then.

-- what was told since the host's last restart, and whether it left WRITE_PROTECT open
abbrev pub since : Config → ℕ → List Event → List host.Entry
since config passes events = since_restart (life config passes events).entries

-- the marks since the host's last restart leave WRITE_PROTECT open
abbrev pub left_open : Config → ℕ → List Event → Bool
left_open config passes events = are_open (marks (setup_of config passes) (since config passes events))

-- both a test and true
and-true : (b : Bool) → (b && true) ≡ b
and-true true = refl
and-true false = refl

-- a job whose marks leave it open
abbrev opens_job : host.Job → Bool
opens_job (host.Order Protect word) = eqb word 0
opens_job (host.Order (Out output register) word) = true
opens_job (host.Send RestoreUserAll) = false
opens_job _ = true

-- the open job is such a one, or none is open
abbrev opens_by : Option host.Job → Bool
opens_by None = true
opens_by (Some job) = opens_job job

-- what begins to be sent then leaves it open
put-open : (job : Option host.Job) (told : List host.Entry) → opens_by job ≡ true → are_open (put_by job told) ≡ true
put-open None told h = refl
put-open (Some (host.Order Protect word)) told h = go (host.is_write_turn told) where
  go : (turn : Bool) → are_open (cond turn (Put Protect word ∷ []) []) ≡ true
  go true = ap (λ b. b && true) h
  go false = refl
put-open (Some (host.Order (Out output register) word)) told h = go (host.is_write_turn told) where
  go : (turn : Bool) → are_open (cond turn (Put (Out output register) word ∷ []) []) ≡ true
  go true = refl
  go false = refl
put-open (Some (host.Check cell)) told h = refl
put-open (Some (host.Learn output)) told h = refl
put-open (Some (host.Send (ClearFaults output))) told h = refl
put-open (Some (host.Send StoreUserAll)) told h = refl
put-open (Some (host.Send RestoreUserAll)) told h = absurd (false≢true h)

-- what a job that begins sends leaves WRITE_PROTECT open exactly if the job does
first-open : (job : host.Job) → are_open (put_by (Some job) []) ≡ opens_job job
first-open (host.Order Protect word) = and-true (eqb word 0)
first-open (host.Order (Out output register) word) = refl
first-open (host.Check cell) = refl
first-open (host.Learn output) = refl
first-open (host.Send (ClearFaults output)) = refl
first-open (host.Send StoreUserAll) = refl
first-open (host.Send RestoreUserAll) = refl

-- a frame keeps the open job, or ends it
frame-opens : (old new : Summary) (entry : host.Entry) (end : Option JobEnd) → StepTells old entry (step_by end) new →
    opens_by (job_in old) ≡ true → opens_by (job_in new) ≡ true
frame-opens old new entry None tells h = ap opens_by tells.0 ∙ h
frame-opens old new entry (Some end) tells h = ap opens_by tells.0

-- the open job by what was told since the host's last restart
since-job : Below → (setup : host.Setup) (entries : List host.Entry) → IsSetup setup → AreTold setup entries →
    host.open_job setup (since_restart entries) ≡ job_in (host_now setup entries)
since-job laws setup entries made told =
    sym (laws.ends_are_told.job setup (since_restart entries)) ∙ ap job_in (sym (since-same laws.transcripts_are_followed setup entries made told).same)

-- in a life
life-job : Below → (config : Config) (passes : ℕ) (events : List Event) → IsLived config passes events →
    host.open_job (setup_of config passes) (since config passes events) ≡ job_in (now config passes events).host
unfolding now state_of
life-job laws config passes events lived =
    since-job laws (setup_of config passes) (life config passes events).entries lived.made (life-told config passes events lived.legal)

-- nothing but 00h is listed for WRITE_PROTECT if it is left open
left-lists : Below → (config : Config) (passes : ℕ) (events : List Event) → IsLived config passes events →
    left_open config passes events ≡ true → lists_other (possible_at (now config passes events).host Protect) ≡ false
left-lists laws config passes events lived h =
    ap lists_other (now-possible laws config passes events Protect lived tt)
    ∙ open-lists (marks (setup_of config passes) (since config passes events)) h

-- marks together are open if each part is
open-all : (new ms : List Mark) → are_open new ≡ true → are_open ms ≡ true → are_open (new ++ ms) ≡ true
open-all new ms a b = open-append new ms ∙ ap₂ (λ x y. x && y) a b

-- what begins to be sent by the open job leaves it open, where the job does
put-open' : (setup : host.Setup) (entries : List host.Entry) → opens_by (host.open_job setup entries) ≡ true
    → are_open (puts setup entries) ≡ true
unfolding puts
put-open' setup entries h = put-open (host.open_job setup entries) (host.told_since entries) h

-- what one more frame's answer makes of it
goods-step : (setup : host.Setup) (before : List host.Entry) (bytes : List ℕ) (new good ms : List Mark) (possible : Possible) →
    AreGoods setup before bytes good → new ≡ puts setup (host.Got bytes ∷ before) → are_open new ≡ true → are_open ms ≡ true →
    possible ≡ possible_of (new ++ (good ++ ms)) Protect → are_open (new ++ (good ++ ms)) ≡ not (lists_other possible)
goods-step setup before bytes new good ms possible no_good same fresh old is =
    let all = open-all new ms fresh old in all ∙ sym (ap not (ap lists_other is ∙ open-lists (new ++ ms) all))
goods-step setup before bytes new good ms possible (one_good (Out output register) word asks has) same fresh old is =
    let all = open-all new (Good (Out output register) word ∷ ms) fresh old in
    all ∙ sym (ap not (ap lists_other is ∙ open-lists (new ++ (Good (Out output register) word ∷ ms)) all))
goods-step setup before bytes new good ms possible (one_good Protect word asks has) same fresh old is = go (eqb word 0) refl where
  go : (b : Bool) → eqb word 0 ≡ b → are_open (new ++ (Good Protect word ∷ ms)) ≡ not (lists_other possible)
  go true e =
      let all = open-all new (Good Protect word ∷ ms) fresh (ap (λ b. b && are_open ms) e ∙ old) in
      all ∙ sym (ap not (ap lists_other is ∙ open-lists (new ++ (Good Protect word ∷ ms)) all))
  go false e =
      open-append new (Good Protect word ∷ ms)
      ∙ (ap (λ b. are_open new && (b && are_open ms)) e ∙ and_right (are_open new) false refl
      ∙ sym (ap not (ap lists_other is
      ∙ subst (λ n. lists_other (possible_of (n ++ (Good Protect word ∷ ms)) Protect) ≡ true) (sym same)
      (other-lists (puts setup (host.Got bytes ∷ before)) (are-puts setup (host.Got bytes ∷ before)) word ms (ap not e)))))

-- what one more frame makes of it
frame-step : (setup : host.Setup) (before : List host.Entry) (entry : host.Entry) (possible : Possible) (b : Bool)
    → is_of_frame entry ≡ true →
    are_open (marks setup before) ≡ b → (b ≡ true → are_open (puts setup (entry ∷ before)) ≡ true) →
    possible ≡ possible_of (marks setup (entry ∷ before)) Protect →
    are_open (marks setup (entry ∷ before)) ≡ (b && not (lists_other possible))
frame-step setup before (host.Finished acked) possible true frame old fresh is =
    let new = puts setup (host.Finished acked ∷ before) in
    let all = open-all new (marks setup before) (fresh refl) old in
    all ∙ sym (ap not (ap lists_other is ∙ open-lists (new ++ marks setup before) all))
frame-step setup before (host.Finished acked) possible false frame old fresh is =
    let new = puts setup (host.Finished acked ∷ before) in
    open-append new (marks setup before) ∙ (ap (λ b. are_open new && b) old ∙ and_right (are_open new) false refl)
frame-step setup before (host.Got bytes) possible true frame old fresh is =
    goods-step setup before bytes (puts setup (host.Got bytes ∷ before)) (goods setup before bytes) (marks setup before) possible
    (are-goods setup before bytes) refl (fresh refl) old is
frame-step setup before (host.Got bytes) possible false frame old fresh is =
    let new = puts setup (host.Got bytes ∷ before) in
    let good = goods setup before bytes in
    open-append new (good ++ marks setup before)
    ∙ (ap (λ b. are_open new && b)
    (open-append good (marks setup before) ∙ (ap (λ b. are_open good && b) old ∙ and_right (are_open good) false refl))
    ∙ and_right (are_open new) false refl)
frame-step setup before (host.Accepted job) possible b frame old fresh is = absurd (false≢true frame)
frame-step setup before host.Restarted possible b frame old fresh is = absurd (false≢true frame)

-- what was told since then, with a frame
frame-since : (entry : host.Entry) (entries : List host.Entry) → is_of_frame entry ≡ true →
    since_restart (entry ∷ entries) ≡ entry ∷ since_restart entries
frame-since (host.Finished acked) entries frame = refl
frame-since (host.Got bytes) entries frame = refl
frame-since (host.Accepted job) entries frame = absurd (false≢true frame)
frame-since host.Restarted entries frame = absurd (false≢true frame)

-- no test of an event that asks for nothing says that it closes
quiet : (b r c l : Bool) → r ≡ false → c ≡ false → (r || b && not (c || l)) ≡ (b && not l)
quiet b r c l e f = ap₂ (λ x y. x || b && not (y || l)) e f

-- an order in microvolts is of no WRITE_PROTECT
micro-protect : (s : Summary) (x : ℤ) → micro_fault s Protect x ≡ None → ⊥
micro-protect s x h =
    let voltage = (or-none (voltage_fault s Protect) _ h).0 in
    let kind = (or-none (cell_fault s Protect) _ voltage).1 in
    cc

-- the marks of a job that an event asks for leave it open exactly where the event doesn't close it
closes-micro : (s : Summary) (cell : Cell) (x : ℤ) (word : Option ℕ) (job : host.Job) → micro_fault s cell x ≡ None →
    option_map (λ w. host.Order cell w) word ≡ Some job → opens_job job ≡ true
closes-micro s Protect x word job free is = absurd (micro-protect s x free)
closes-micro s (Out output register) x None job free is = cc
closes-micro s (Out output register) x (Some word) job free is =
    ap opens_job (sym (same_Some (host.Order (Out output register) word) job is))

-- the job that an event asks for leaves WRITE_PROTECT open exactly if the event doesn't close it
closes-job : (s : State) (event : Event) (job : host.Job) → asked s event ≡ Some job → event_cause s event ≡ None →
    opens_job job ≡ not (closes event)
closes-job s (Order Protect word) job is free = ap opens_job (sym (same_Some (host.Order Protect word) job is)) ∙ twice (eqb word 0) where
  twice : (b : Bool) → b ≡ not (not b)
  twice true = refl
  twice false = refl
closes-job s (Order (Out output register) word) job is free = ap opens_job (sym (same_Some (host.Order (Out output register) word) job is))
closes-job s (OrderMicro cell x) job is free =
    closes-micro s.host cell x (micro_word s.host cell x) job (micro-free' (micro_fault s.host cell x) free) is where
      micro-free' : (fault : Option HostFault) → option_or (refused fault) None ≡ None → fault ≡ None
      micro-free' None h = refl
      micro-free' (Some fault) h = cc
closes-job s (Check cell) job is free = ap opens_job (sym (same_Some (host.Check cell) job is))
closes-job s (Learn output) job is free = ap opens_job (sym (same_Some (host.Learn output) job is))
closes-job s (Clear output) job is free = ap opens_job (sym (same_Some (host.Send (ClearFaults output)) job is))
closes-job s Store job is free = ap opens_job (sym (same_Some (host.Send StoreUserAll) job is))
closes-job s Restore job is free = ap opens_job (sym (same_Some (host.Send RestoreUserAll) job is))
closes-job s event job is free = cc

-- an event that asks for a job doesn't restart the host
asks-stays : (s : State) (event : Event) (job : host.Job) → asked s event ≡ Some job → restarts_host event ≡ false
asks-stays s RestartHost job is = cc
asks-stays s event job is = refl

-- an event that asks for no job closes nothing
asks-none : (s : State) (event : Event) → asked s event ≡ None → closes event ≡ false
asks-none s (Order cell word) is = cc
asks-none s Restore is = cc
asks-none s event is = refl

-- the marks after a job that was accepted
accepted-marks : Below → (config : Config) (passes : ℕ) (before : List Event) (event : Event) (job : host.Job) →
    IsLived config passes (event ∷ before) → asked (now config passes before) event ≡ Some job →
    left_open config passes (event ∷ before) ≡ (opens_job job && left_open config passes before)
unfolding puts
accepted-marks laws config passes before event job lived asks =
    let setup = setup_of config passes in
    let entries = (life config passes before).entries in
    let all : (life config passes (event ∷ before)).entries ≡ host.Accepted job ∷ entries =
    entries-more config passes before event
    ∙ ap (λ (share : Share). option_to_list share.told ++ entries) (asked-share (now config passes before) event job asks) in
    let opened : host.open_job setup (host.Accepted job ∷ since config passes before) ≡ Some job =
    ap (λ es. host.open_job setup (since_restart es)) (sym all)
    ∙ (life-job laws config passes (event ∷ before) lived ∙ (by-acceptance laws config passes before event job lived asks).open') in
    ap (λ es. are_open (marks setup (since_restart es))) all
    ∙ (open-append (puts setup (host.Accepted job ∷ since config passes before)) (marks setup (since config passes before))
    ∙ ap (λ b. b && left_open config passes before)
    (ap (λ j. are_open (put_by j [])) opened ∙ first-open job))

-- whether it is left open then
accepted-step : (open' opens closing listed : Bool) (after : Bool) → after ≡ (opens && open') → opens ≡ not closing →
    (after ≡ true → listed ≡ false) → after ≡ (open' && not (closing || listed))
accepted-step open' opens true listed after is by lists = is ∙ (ap (λ b. b && open') by ∙ sym (and_right open' false refl))
accepted-step true opens false listed after is by lists =
    let all : after ≡ true = is ∙ ap (λ b. b && true) by in all ∙ sym (ap not (lists all))
accepted-step false opens false listed after is by lists = is ∙ (ap (λ b. b && false) by)

-- one more event, and that the open job leaves it open where all before did
pub record Opens (config : Config) (passes : ℕ) (before : List Event) (event : Event) : Type 0 where
  pub is : left_open config passes (event ∷ before)
      ≡ stays_open (left_open config passes before) event (possible_at (now config passes (event ∷ before)).host Protect)
  pub job : left_open config passes (event ∷ before) ≡ true → opens_by (job_in (now config passes (event ∷ before)).host) ≡ true

-- an event that asks for a job
by-asked : Below → (config : Config) (passes : ℕ) (before : List Event) (event : Event) (job : host.Job) →
    IsLived config passes (event ∷ before) → asked (now config passes before) event ≡ Some job → Opens config passes before event
by-asked laws config passes before event job lived asks =
    let s = now config passes before in
    let marked = accepted-marks laws config passes before event job lived asks in
    let listed = lists_other (possible_at (now config passes (event ∷ before)).host Protect) in
    record {
      is = accepted-step (left_open config passes before) (opens_job job) (closes event) listed _ marked
          (closes-job s event job asks (newest lived)) (left-lists laws config passes (event ∷ before) lived)
          ∙ sym (ap (λ r. r || left_open config passes before && not (closes event || listed)) (asks-stays s event job asks));
      job = λ all. ap opens_by (by-acceptance laws config passes before event job lived asks).open'
          ∙ (and_parts (opens_job job) (left_open config passes before) (sym marked ∙ all)).0;
    }

-- a restart of the host
by-restart : (config : Config) (passes : ℕ) (before : List Event) → Opens config passes before RestartHost
unfolding now state_of host_now stage_of host.open_job host.last_job_end
by-restart config passes before =
    let all : (life config passes (RestartHost ∷ before)).entries ≡ host.Restarted ∷ (life config passes before).entries =
    entries-more config passes before RestartHost in
    record {
      is = ap (λ es. are_open (marks (setup_of config passes) (since_restart es))) all;
      job = λ ok. ap (λ es. opens_by (job_in (host_now (setup_of config passes) es))) all;
    }

-- any other event, by what it tells the host
by-told : Below → (config : Config) (passes : ℕ) (before : List Event) (event : Event) → IsLived config passes (event ∷ before) →
    asked (now config passes before) event ≡ None → restarts_host event ≡ false →
    (left_open config passes before ≡ true → opens_by (job_in (now config passes before).host) ≡ true) →
    (told : Option host.Entry) → (share_of (now config passes before) event).told ≡ told → TellsFrame told →
    Opens config passes before event
by-told laws config passes before event lived none stays job None told frame =
    let setup = setup_of config passes in
    let same : left_open config passes (event ∷ before) ≡ left_open config passes before =
    ap (λ es. are_open (marks setup (since_restart es)))
    (entries-more config passes before event ∙ ap (λ o. option_to_list o ++ (life config passes before).entries) told) in
    let listed = lists_other (possible_at (now config passes (event ∷ before)).host Protect) in
    record {
      is = silent (left_open config passes before) _ listed same (left-lists laws config passes (event ∷ before) lived)
          ∙ sym (quiet (left_open config passes before) (restarts_host event) (closes event) listed stays
          (asks-none (now config passes before) event none));
      job = λ all. ap (λ (h : Summary). opens_by (job_in h)) (by-silence config passes before event told).0 ∙ job (sym same ∙ all);
    } where
      silent : (b after listed : Bool) → after ≡ b → (after ≡ true → listed ≡ false) → after ≡ (b && not listed)
      silent true after listed e lists = e ∙ sym (ap not (lists e))
      silent false after listed e lists = e
by-told laws config passes before event lived none stays job (Some entry) told frame =
    let setup = setup_of config passes in
    let entries = (life config passes before).entries in
    let all : since config passes (event ∷ before) ≡ entry ∷ since config passes before =
    ap since_restart (entries-more config passes before event ∙ ap (λ o. option_to_list o ++ entries) told)
    ∙ frame-since entry entries frame in
    let says = by-frame laws config passes before event entry lived told frame in
    let opens : left_open config passes before ≡ true → opens_by (job_in (now config passes (event ∷ before)).host) ≡ true =
    λ ok. frame-opens _ _ entry _ says.tells (job ok) in
    let possible = possible_at (now config passes (event ∷ before)).host Protect in
    let stepped = frame-step setup (since config passes before) entry possible (left_open config passes before) frame refl
    (λ ok. put-open' setup (entry ∷ since config passes before)
    (ap opens_by (ap (host.open_job setup) (sym all) ∙ life-job laws config passes (event ∷ before) lived) ∙ opens ok))
    (now-possible laws config passes (event ∷ before) Protect lived tt ∙ ap (λ es. possible_of (marks setup es) Protect) all) in
    let marked = ap (λ es. are_open (marks setup es)) all in
    record {
      is = marked ∙ (stepped ∙ sym (quiet (left_open config passes before) (restarts_host event) (closes event) (lists_other possible) stays
          (asks-none (now config passes before) event none)));
      job = λ ok. opens ((and_parts (left_open config passes before) _ (sym (marked ∙ stepped) ∙ ok)).0);
    }

-- the one that is a restart
restart-only : (config : Config) (passes : ℕ) (before : List Event) (event : Event) → restarts_host event ≡ true →
    Opens config passes before event
restart-only config passes before RestartHost h = by-restart config passes before
restart-only config passes before event h = cc

-- one more event
pub opens-step : Below → (config : Config) (passes : ℕ) (before : List Event) (event : Event) → IsLived config passes (event ∷ before) →
    (left_open config passes before ≡ true → opens_by (job_in (now config passes before).host) ≡ true) → Opens config passes before event
opens-step laws config passes before event lived job = go (asked (now config passes before) event) refl where
  go : (asks : Option host.Job) → asked (now config passes before) event ≡ asks → Opens config passes before event
  go (Some asks) is = by-asked laws config passes before event asks lived is
  go None is = by_restart (restarts_host event) refl where
    by_restart : (b : Bool) → restarts_host event ≡ b → Opens config passes before event
    by_restart true e = restart-only config passes before event e
    by_restart false e =
        by-told laws config passes before event lived is e job _ refl (beside-frame (now config passes before) event is e)

-- over a whole life
pub life-opens : Below → (config : Config) (passes : ℕ) (events : List Event) → IsLived config passes events →
    left_open config passes events ≡ true → opens_by (job_in (now config passes events).host) ≡ true
unfolding now state_of host_now stage_of host.open_job host.last_job_end life
life-opens laws config passes [] lived all = refl
life-opens laws config passes (event ∷ before) lived all =
    (opens-step laws config passes before event lived (life-opens laws config passes before (earlier lived))).job all

-- whether WRITE_PROTECT is left open goes by one event after another
pub open-more : Below → (config : Config) (passes : ℕ) (before : List Event) (event : Event) → IsLived config passes (event ∷ before) →
    left_open config passes (event ∷ before)
    ≡ stays_open (left_open config passes before) event (possible_at (now config passes (event ∷ before)).host Protect)
open-more laws config passes before event lived =
    (opens-step laws config passes before event lived (life-opens laws config passes before (earlier lived))).is

-- The words that the host calls possible, and the restarts that it saw, event by event.

-- one of two
or-one : (a b : Bool) → (a || b) ≡ true → (a ≡ true) ⊎ (b ≡ true)
or-one true b h = inl refl
or-one false b h = inr h

-- the other case of a choice
cond-off : (a b : Bool) → cond a false b ≡ true → (a ≡ false) × (b ≡ true)
cond-off true b h = absurd (false≢true h)
cond-off false b h = (refl, h)

-- the bytes that came back
abbrev pub got_bytes : host.Entry → List ℕ
got_bytes (host.Got bytes) = bytes
got_bytes _ = []

-- what came back is true of the cell that is read, whichever event brought it
pub got-true : Below → {s : State} {setup : host.Setup} {entries : List host.Entry} (event : Event) (bytes : List ℕ)
    → Knows s setup entries →
    event_cause s event ≡ None → (share_of s event).told ≡ Some (host.Got bytes) → ReadsTrue setup entries bytes s.device.words
got-true laws {s = s} {setup = setup} {entries = entries} event bytes knows free told = by (share-is s event) free told where
  by : {event : Event} {share : Share} → IsShare s event share → event_cause s event ≡ None → share.told ≡ Some (host.Got bytes) →
      ReadsTrue setup entries bytes s.device.words
  by (exchanges arrival back message is) free told =
      subst (λ (entry : host.Entry). ReadsTrue setup entries (got_bytes entry) s.device.words) (same_Some _ (host.Got bytes) told)
      (reads-true laws arrival back message knows is (subst (λ o. exchange_cause s arrival back o ≡ None) is free))
  by share free told = absurd (cc)

-- a surprising answer: one for a cell that was asked for, with the cell's word, which wasn't possible
record Surprise (s : State) (setup : host.Setup) (entries : List host.Entry) (cell : Cell) : Type 0 where
  there : IsCell s.device.config.count cell
  impossible : is_possible (word_at s.device.words cell) (possible_of (marks setup entries) cell) ≡ false

-- a good answer with a word that wasn't possible is a surprise
one-surprise : Below → {s : State} {setup : host.Setup} {entries : List host.Entry} (read : Cell) (word : ℕ) → Knows s setup entries →
    read_by (host.open_job setup entries) (host.told_since entries) ≡ Some read → word_at s.device.words read ≡ word →
    not (is_possible word (possible_of (marks setup entries) read)) ≡ true → Surprise s setup entries read
one-surprise laws {setup = setup} {entries = entries} read word knows asked is surprising = record {
  there = (knows.asks read asked).1;
  impossible = ap (λ w. is_possible w (possible_of (marks setup entries) read)) is ∙ not-true _ surprising;
}

-- what came back is a surprise if its marks have a surprising one
goods-surprise : Below → {s : State} {setup : host.Setup} {entries : List host.Entry} {bytes : List ℕ} {new : List Mark} →
    AreGoods setup entries bytes new →
    (cell : Cell) → Knows s setup entries → ReadsTrue setup entries bytes s.device.words →
    list_any (is_surprise_for cell (marks setup entries)) new ≡ true → Surprise s setup entries cell
goods-surprise laws no_good cell knows is h = absurd (false≢true h)
goods-surprise laws {s = s} {setup = setup} {entries = entries} (one_good read word asked good) cell knows is h =
    let one = or-one (is_surprise_for cell (marks setup entries) (Good read word)) false h in
    elim one [
      | inl so ↦
          (let both = and_parts (same_cell read cell) (not (is_possible word (possible_of (marks setup entries) read))) so in
          subst (Surprise s setup entries) (same-cells laws read cell both.0)
          (one-surprise laws read word knows asked (is read word asked good) both.1))
      | inr bad ↦ absurd (false≢true bad)
    ]

-- what the host was told is a surprise for a cell if `answer_surprises` says so
told-surprise : Below → {s : State} {setup : host.Setup} {entries : List host.Entry} (event : Event) (cell : Cell)
    (told : Option host.Entry) → Knows s setup entries →
    event_cause s event ≡ None → (share_of s event).told ≡ told → answer_surprises setup entries cell told ≡ true →
    Surprise s setup entries cell
told-surprise laws {setup = setup} {entries = entries} event cell (Some (host.Got bytes)) knows free told h =
    goods-surprise laws (are-goods setup entries bytes) cell knows
    (got-true laws event bytes knows free told) h
told-surprise laws event cell told knows free is h = absurd (false≢true h)

-- a cell of the converter is one of its configuration
pub count-is : (config : Config) (passes : ℕ) (events : List Event) (cell : Cell) →
    IsCell (now config passes events).device.config.count cell → IsCell config.count cell
count-is config passes events cell there = subst (λ (k : Config). IsCell k.count cell) (now-config config passes events) there

-- the converter restarted since the last good answer for its cell, which there was
surprise-restarted : Below → (config : Config) (passes : ℕ) (before : List Event) (cell : Cell) → IsLived config passes before →
    Surprise (now config passes before) (setup_of config passes) (life config passes before).entries cell →
    (host_has_read config passes cell before ≡ true) × (restarted_since config passes cell before ≡ true)
unfolding now state_of
surprise-restarted laws config passes before cell lived surprise = (
  listed-read config passes cell before (λ any.
      let both : true ≡ false = sym (ap (is_possible (word_at words cell)) any) ∙ surprise.impossible in cc),
  elim (cases_Bool (restarted_since config passes cell before)) [
    | inl restarted ↦ restarted
    | inr fresh ↦ (let both : true ≡ false = sym
        ((life-known laws config passes before cell lived (count-is config passes before cell surprise.there)).among fresh)
        ∙ surprise.impossible in cc)
  ],
)
  where
    words : Words
    words = (now config passes before).device.words

-- an event that surprises comes after a good answer for the cell and a restart of the converter since
event-surprise : Below → (config : Config) (passes : ℕ) (before : List Event) (event : Event) (cell : Cell) →
    IsLived config passes (event ∷ before) → surprises_by config passes cell before event ≡ true →
    (host_has_read config passes cell before ≡ true) × (restarted_since config passes cell before ≡ true)
event-surprise laws config passes before event cell lived h =
    surprise-restarted laws config passes before cell (earlier lived)
    (told-surprise laws event cell _
    (knows laws config passes before (earlier lived)) (newest lived) refl h)

-- the restarts that the host saw: after a further entry one that it had seen before, or the entry surprises it
record SurprisedBy (s : State) (setup : host.Setup) (entries : List host.Entry) (told : Option host.Entry) : Type 0 where
  cell : Cell
  there : IsCell s.device.config.count cell
  read : reads setup entries cell told ≡ true
  surprising : answer_surprises setup entries cell told ≡ true

-- a write that begins shows no restart
puts-seen : (new ms : List Mark) → ArePuts new → restart_seen_of (new ++ ms) ≡ restart_seen_of ms
puts-seen new ms no_put = refl
puts-seen new ms (one_put c w) = refl
puts-seen new ms one_restore = refl

-- a good answer shows one where it surprises
goods-seen : Below → {s : State} {setup : host.Setup} {entries : List host.Entry} {bytes : List ℕ} {new : List Mark} →
    AreGoods setup entries bytes new →
    Knows s setup entries → restart_seen_of (new ++ marks setup entries) ≡ true →
    (restart_seen_of (marks setup entries) ≡ true)
    ⊎ ((cell : Cell) × IsCell s.device.config.count cell × (list_any (is_good_for cell) new ≡ true) ×
    (list_any (is_surprise_for cell (marks setup entries)) new ≡ true))
goods-seen laws no_good knows seen = inl seen
goods-seen laws {setup = setup} {entries = entries} (one_good read word asked good) knows seen =
    elim (or-one (not (is_possible word (possible_of (marks setup entries) read))) (restart_seen_of (marks setup entries)) seen) [
      | inl surprising ↦ inr (
        read,
        (knows.asks read asked).1,
        ap (λ b. b || false) (same_cell-itself read),
        ap (λ b. (b && not (is_possible word (possible_of (marks setup entries) read))) || false) (same_cell-itself read)
            ∙ ap (λ b. b || false) surprising,
      )
      | inr older ↦ inl older
    ]

-- a restart is seen after an entry where it was before it, or where the entry surprises
told-seen : Below → {s : State} {setup : host.Setup} {entries : List host.Entry} (told : Option host.Entry) → Knows s setup entries →
    restart_seen_of (marks setup (option_to_list told ++ entries)) ≡ true →
    (restart_seen_of (marks setup entries) ≡ true) ⊎ SurprisedBy s setup entries told
told-seen laws None knows seen = inl seen
told-seen laws {setup = setup} {entries = entries} (Some (host.Accepted job)) knows seen =
    inl (sym (puts-seen (puts setup (host.Accepted job ∷ entries)) (marks setup entries) (are-puts setup (host.Accepted job ∷ entries)))
    ∙ seen)
told-seen laws {setup = setup} {entries = entries} (Some (host.Finished acked)) knows seen =
    inl (sym (puts-seen (puts setup (host.Finished acked ∷ entries)) (marks setup entries) (are-puts setup (host.Finished acked ∷ entries)))
    ∙ seen)
told-seen laws {setup = setup} {entries = entries} (Some (host.Got bytes)) knows seen =
    elim (goods-seen laws (are-goods setup entries bytes) knows
    (sym (puts-seen (puts setup (host.Got bytes ∷ entries)) (goods setup entries bytes ++ marks setup entries)
    (are-puts setup (host.Got bytes ∷ entries))) ∙ seen)) [
      | inl older ↦ inl older
      | inr (cell, there, read, surprising) ↦ inr (record { cell = cell; there = there; read = read; surprising = surprising })
    ]
told-seen laws (Some host.Restarted) knows seen = absurd (false≢true seen)

-- a restart that was seen lies between two good answers for a cell
between-more : (config : Config) (passes : ℕ) (cell : Cell) (before : List Event) (event : Event) →
    restarted_between config passes cell (event ∷ before)
    ≡ cond (restarts_host event) false
    ((reads_cell config passes cell before event && (host_has_read config passes cell before && restarted_since config passes cell before))
    || restarted_between config passes cell before)
unfolding restarted_between
between-more config passes cell before event = refl

-- no restart was seen at the start
first-unseen : (config : Config) (passes : ℕ) → restart_seen_of (marks (setup_of config passes) (life config passes []).entries) ≡ false
unfolding life
first-unseen config passes = refl

-- a restart that was seen lies between two good answers for a cell, by one event after another
life-seen : Below → (config : Config) (passes : ℕ) (events : List Event) → IsLived config passes events →
    restart_seen_of (marks (setup_of config passes) (life config passes events).entries) ≡ true →
    (cell : Cell) × IsCell config.count cell × (restarted_between config passes cell events ≡ true)
life-seen laws config passes [] lived seen =
    absurd (true≢false (sym seen ∙ first-unseen config passes))
life-seen laws config passes (event ∷ before) lived seen =
    go (restarts_host event) refl (life-seen laws config passes before (earlier lived))
  where
    after : restart_seen_of
        (marks (setup_of config passes)
        (option_to_list (share_of (now config passes before) event).told ++ (life config passes before).entries)) ≡ true
    after = ap (λ es. restart_seen_of (marks (setup_of config passes) es)) (sym (entries-more config passes before event)) ∙ seen

    here : (cell : Cell) → restarts_host event ≡ false →
        ((reads_cell config passes cell before event
        && (host_has_read config passes cell before && restarted_since config passes cell before))
        || restarted_between config passes cell before) ≡ true →
        restarted_between config passes cell (event ∷ before) ≡ true
    here cell e h =
        between-more config passes cell before event
        ∙ (ap (λ b. cond b false
        ((reads_cell config passes cell before event &&
        (host_has_read config passes cell before && restarted_since config passes cell before))
        || restarted_between config passes cell before)) e ∙ h)

    newest : restarts_host event ≡ false → SurprisedBy (now config passes before) (setup_of config passes)
        (life config passes before).entries (share_of (now config passes before) event).told →
        (cell : Cell) × IsCell config.count cell × (restarted_between config passes cell (event ∷ before) ≡ true)
    newest e by =
        let since = event-surprise laws config passes before event by.cell lived by.surprising in (
          by.cell,
          count-is config passes before by.cell by.there,
          here by.cell e (rw (by.read, since.0, since.1) refl),
        )

    go : (b : Bool) → restarts_host event ≡ b →
        (restart_seen_of (marks (setup_of config passes) (life config passes before).entries) ≡ true →
        (cell : Cell) × IsCell config.count cell × (restarted_between config passes cell before ≡ true)) →
        (cell : Cell) × IsCell config.count cell × (restarted_between config passes cell (event ∷ before) ≡ true)
    go true e older =
        absurd (false≢true (sym
        (ap (λ o. restart_seen_of (marks (setup_of config passes) (option_to_list o ++ (life config passes before).entries)))
        (restart-told (now config passes before) event e)) ∙ after))
    go false e older =
        elim (told-seen laws
        (share_of (now config passes before) event).told
        (knows laws config passes before (earlier lived)) after) [
          | inl seen ↦ (let o = older seen in (o.0, o.1, here o.0 e (or_right _ _ o.2)))
          | inr by ↦ newest e by
        ]

-- a restart since a cell was read is one since the host started
pub since-started : (config : Config) (passes : ℕ) (cell : Cell) (events : List Event) → host_has_read config passes cell events ≡ true →
    restarted_since config passes cell events ≡ true → restarted_since_host events ≡ true
unfolding host_has_read restarted_since restarted_since_host
since-started config passes cell [] read since = cc
since-started config passes cell (event ∷ before) read since =
    let running = cond-off (restarts_host event) _ read in
    let unread = cond-off (reads_cell config passes cell before event) _ since in
    rw running.0 (go (restarts_converter event) unread.1
    (since-started config passes cell before
    (or-unread (reads_cell config passes cell before event) (host_has_read config passes cell before) unread.0 running.1)))
  where
    or-unread : (a b : Bool) → a ≡ false → (a || b) ≡ true → b ≡ true
    or-unread true b e h = cc
    or-unread false b e h = h

    go : (b : Bool) → (b || restarted_since config passes cell before) ≡ true →
        (restarted_since config passes cell before ≡ true → restarted_since_host before ≡ true) → (b || restarted_since_host before) ≡ true
    go true h older = refl
    go false h older = older h

-- a restart of the converter between two good answers is one since the host's start
between-started : (config : Config) (passes : ℕ) (cell : Cell) (events : List Event) → restarted_between config passes cell events ≡ true →
    restarted_since_host events ≡ true
unfolding restarted_between restarted_since_host
between-started config passes cell [] between = cc
between-started config passes cell (event ∷ before) between =
    let running = cond-off (restarts_host event) _ between in
    rw running.0 (or_right (restarts_converter event) (restarted_since_host before)
    (elim (or-one (reads_cell config passes cell before event &&
    (host_has_read config passes cell before && restarted_since config passes cell before)) (restarted_between config passes cell before)
    running.1) [
      | inl newest ↦
          (let parts = and_parts (host_has_read config passes cell before) (restarted_since config passes cell before)
          (and_parts (reads_cell config passes cell before event) _ newest).1 in
          since-started config passes cell before parts.0 parts.1)
      | inr older ↦ between-started config passes cell before older
    ]))

-- the host's possible words are as `PossibleIsHeld` says after the events of a life
pub possible-held : Below → (config : Config) (passes : ℕ) (events : List Event) → IsLived config passes events →
    PossibleIsHeld config passes events (now config passes events)
unfolding now state_of
possible-held laws config passes events lived =
    let possible = λ (cell : Cell) (there : IsCell config.count cell).
    laws.transcripts_are_followed.possible (setup_of config passes) (life config passes events).entries cell
    (eight config.count cell lived.sound.few there) in
    record {
      possible = possible;
      found = λ cell there listed. listed-read config passes cell events (λ any. listed (possible cell there ∙ any));
      held = λ cell there fresh.
          ap (is_possible (word_at (now config passes events).device.words cell)) (possible cell there)
          ∙ (life-known laws config passes events cell lived there).among fresh;
    }

-- the promise on restarts that were seen
pub seen-true : Below → (config : Config) (passes : ℕ) (events : List Event) → IsLived config passes events →
    SeenIsTrue config passes events (now config passes events)
unfolding now state_of
seen-true laws config passes events lived =
    let seen = laws.transcripts_are_followed.seen (setup_of config passes) (life config passes events).entries in
    let between = λ (h : (now config passes events).host.known.seen ≡ true). life-seen laws config passes events lived (sym seen ∙ h) in
    record {
      surprises = λ later before event cell is h.
          event-surprise laws config passes before event cell
          (lived-before config passes later (event ∷ before) (subst (IsLived config passes) is lived)) h;
      seen = seen;
      between = between;
      restarted = λ h. between-started config passes (between h).0 events (between h).2;
    }
