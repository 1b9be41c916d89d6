-- A life retold, so that each possible word and each end of a band is met.
use Rattle.std.specs.List.{list_any}
use Rattle.std.specs.Option.{option_map_or, option_or}
use Rattle.std.specs.Prelude.{option_to_list, bytes_eq, pos}
use Rattle.std.proofs.{lemmas.Bool.Decides.nat_tests, lemmas.List.length-reverse}
use Rattle.std.proofs.Common.{◌≡◌, ℕ, Bool, true, false, cond, ◌||◌, List, [], ◌∷◌, ◌++◌, Option, Some, None, option_map, refl, sym, ◌∙◌}
use Rattle.std.proofs.Common.{ap, subst, inl, inr, not, ap₂, ◌&&◌, is_none, is_some, ◌<◌, eqb, arith, option_and_then, ◌≢◌, ◌==◌, length}
use Rattle.std.proofs.Common.{reverse}
use Rattle.std.proofs.lemmas.Bool.{cases_Bool, or_parts, true≢false, or_right, eq-eqb, eqb-true, cond-true}
use Rattle.std.proofs.lemmas.Option.{none-some, same_Some}
use Rattle.pm_num.specs.AnyFormat.{Shape, shape_value}
use Rattle.pm_num.specs.Ratio.{Ratio, micros}
use Rattle.pm_table.specs.{declared.cell.Cell.Cell, declared.protection.Protection.Protection}
use Rattle.pm_table.specs.{declared.protection.Protection.TheVariants.NotWritten, declared.reg.Reg.Reg}
use Rattle.pm_table.specs.{declared.reg.Reg.TheVariants.Operation}
use Rattle.pm_table.specs.Cell.{cell_accepts, IsCell, cell_code, register_code, same_cell, is_operation, is_output_cell, is_voltage}
use Rattle.pm_table.specs.Commands.{Line, is_ever_written, is_written, line_of}
use Rattle.pm_table.specs.Protection.{is_allowed, lets_write}
use Rattle.pm_table.specs.declared.cell.Cell.TheVariants.{Out, Protect}
use Rattle.pm_frame.specs.{Fault.whole_answer, declared.message.Message.Message}
use Rattle.pm_frame.specs.Layout.{is_read_message, fits_layout}
use Rattle.pm_model.specs.Commanded.{commanded}
use Rattle.pm_model.specs.Settings.{Words, word_at, with_word}
use Rattle.pm_device.specs.{History.start_of as device_start, Reply.reply_of, declared.config.Config.Config}
use Rattle.pm_device.specs.Effect.{Hearing, words_after}
use Rattle.pm_device.specs.Held.{Held, shape_for}
use Rattle.pm_device.specs.Start.{IsSound as StartIsSound, start_words}
use Rattle.pm_device.specs.declared.converter.Ending.TheVariants.{Restart, Stop}
use Rattle.pm_host.specs.{Lemmas.writes_cell, Transcript.Entry, declared.command.Command.Command}
use Rattle.pm_host.specs.{declared.command.Command.TheVariants.RestoreUserAll, declared.fault.HostFault.HostFault}
use Rattle.pm_host.specs.{declared.knowledge.Possible.Possible, declared.question.Question.TheVariants.Word, declared.stage.Stage.Stage}
use Rattle.pm_host.specs.Answers.{good_payload, good_word, word_in}
use Rattle.pm_host.specs.Marks.{read_by, marks, Mark, Put, Restored, put_by, puts, send_marks, Good, goods, Restart as MarksRestart}
use Rattle.pm_host.specs.Messages.{cell_read, cell_write}
use Rattle.pm_host.specs.Now.{host_now, job_stage, stage_of, AreTold}
use Rattle.pm_host.specs.Possible.{is_possible, possible_from, possible_of, words_since, is_listed, once, only}
use Rattle.pm_host.specs.Refusals.{job_fault, may_come, IsSetup}
use Rattle.pm_host.specs.Sound.{IsStage, IsSound}
use Rattle.pm_host.specs.Summary.{Summary, possible_at, sending_in, stage_message, format_at}
use Rattle.pm_host.specs.Transcript as host
use Rattle.pm_host.specs.declared.knowledge.Possible.TheVariants.{Any, Words as PossibleWords}
use Rattle.pm_host.specs.declared.stage.Stage.TheVariants.{Reads, Asks, Writes}
use Rattle.pm_limits.specs.{Lemmas.Farthest.farthest_of-is, Part.missing_word, declared.band.Band.Band, declared.ends.Side.Side}
use Rattle.pm_limits.specs.{declared.part_registers.PartRegisters.PartRegisters}
use Rattle.pm_limits.specs.Band.{InBand, Known, band_at, band_with, decides, each_selection, end_choice, end_with, is_untaken}
use Rattle.pm_limits.specs.Band.{known_of_output}
use Rattle.pm_limits.specs.Band.{may_select_avsbus, operations, reach, side_end}
use Rattle.pm_limits.specs.Ends.{farthest_word, farthest_of}
use Rattle.pm_limits.specs.Lemmas.Bands.{band-held, band-reached}
use Rattle.pm_limits.specs.declared.ends.Side.TheVariants.{Lowest, Highest}
use Rattle.pm_world.specs.{Below.Below, Honest.IsSpelled, Job.refusal_of_event, Lemmas.Formats.sound-dens, Lemmas.SinceRestart.since-same}
use Rattle.pm_world.specs.{Limited.commands, declared.event.Arrival.Arrival, declared.event.Arrival.TheVariants.Whole}
use Rattle.pm_world.specs.{declared.event.Back.Back, declared.event.Back.TheVariants.Bytes, declared.event.Event.Event}
use Rattle.pm_world.specs.Bands.{AreShort, BandStands, HoldsMissing, MissingUntold, end_choices}
use Rattle.pm_world.specs.Confirmed.{restarts_converter, restarted_since}
use Rattle.pm_world.specs.Legal.{answer_in, back_bytes, frame_of, heard_bytes, heard_ending, is_heard_whole, is_legal_return}
use Rattle.pm_world.specs.Legal.{is_legal_hearing}
use Rattle.pm_world.specs.Lemmas.{entries-more, now-config, write-heard, whole-hearing}
use Rattle.pm_world.specs.Life.{life, now, state_of}
use Rattle.pm_world.specs.Possible.{host_has_read, restarts_host, restarted_since_host}
use Rattle.pm_world.specs.Setup.{setup_of, world_start}
use Rattle.pm_world.specs.State.{Share, State, answer_to, event_cause, exchange_cause, exchanged, share_of, delivery_cause, hearing, next}
use Rattle.pm_world.specs.State.{rule, asked, cause_beside, finish_cause, refused}
use Rattle.pm_world.specs.Uncertainty.{since_restart, IsLegal, arrival_for, job_event, AreLegal, AreOpen, AreSteady, Choice, arrivals_of}
use Rattle.pm_world.specs.Uncertainty.{witness_start, due_before, is_good_answer, leaves_open, with_due, witness_events, ArePossible}
use Rattle.pm_world.specs.Uncertainty.{Leaves}
use Rattle.pm_world.specs.Uncertainty.{may_hold}
use Rattle.pm_world.specs.declared.cause.Cause.TheVariants.{WrongKind, NotBetrayed}
use Rattle.pm_world.specs.declared.event.Event.TheVariants.{Deliver, Finish, Exchange}
use Rattle.pm_world.proofs.Events.{exchange-reads, IsLived, earlier, life-told, newest, eight, IsShare, exchanges, share-is, now-sound}
use Rattle.pm_world.proofs.Events.{CanTake, is_write, whole-write, next-deliver-words, told-nothing, write-ending, write-fits, asked-beside}
use Rattle.pm_world.proofs.Events.{asked-next, asked-share, asked-word, exchange_cause-by, whole-return, now-next, now-nil, now-setup}
use Rattle.pm_world.proofs.Events.{now-are, share-entries, same_cell-itself}
use Rattle.pm_world.proofs.Formats.{is_lost, lost-by, stage-answers, stage_cell, stage_cell-is, exchange-legal, IsKin, good-same}
use Rattle.pm_world.proofs.Formats.{witness-word, witness-kin, witness-like, witness-sound, formats-agree}
use Rattle.pm_world.proofs.HeldWords.{Knows, knows, life-known, reads-true, got_bytes, since-started, now-possible, chosen-accepted}
use Rattle.pm_world.proofs.HeldWords.{possible-held}
use Rattle.pm_world.proofs.Orders.{exchanged-stays, start-at}
use Rattle.pm_world.proofs.Standings.{restart-told, unread-none, IsDue, put-left, put-protect, put-taken, due_before-append, good-due}
use Rattle.pm_world.proofs.Standings.{AreGoods, no_good, one_good, are-goods, AreAccepted, is-start, can-be-made, ArePuts, no_put, one_put}
use Rattle.pm_world.proofs.Standings.{one_restore as standings_one_restore, are-puts, same-cells}

-- What came back to the host since its last restart, answer by answer.

-- a good answer for a cell: the cell is there, and the word is one that was possible and that the cell accepts
pub record IsRead (count : ℕ) (h : Summary) (read : Cell) (word : ℕ) : Type 0 where
  pub there : IsCell count read
  pub possible : is_possible word (possible_at h read) ≡ true
  pub accepted : cell_accepts read word ≡ true

-- the words have that of a good answer for a cell
abbrev pub HaveRead : ℕ → Summary → List ℕ → Words → Type 0
HaveRead addr h bytes words = (read : Cell) (word : ℕ) → stage_cell h.stage ≡ Some read → good_word addr read bytes ≡ Some word →
    word_at words read ≡ word

-- Bytes that came back while the host held this. They are lost where they are no good answer, and each
-- converter that answers alike answers a good one, where the cell that is read has its word.
pub record Came (config : Config) (h : Summary) (bytes : List ℕ) : Type 0 where
  pub request : Message
  pub sending : sending_in h ≡ Some request
  pub reads : is_read_message request ≡ true
  pub bad : good_payload config.addr request bytes ≡ None → is_lost config.addr request bytes ≡ true
  pub good : (t : Held) (payload : List ℕ) → IsKin config t.config → good_payload config.addr request bytes ≡ Some payload →
      HaveRead config.addr h bytes t.words → bytes ≡ answer_in (reply_of t (frame_of config.addr request) Restart)
  pub read : (read : Cell) (word : ℕ) → stage_cell h.stage ≡ Some read → good_word config.addr read bytes ≡ Some word →
      IsRead config.count h read word

-- all that came back
abbrev pub AreCome : Config → host.Setup → List host.Entry → Type 0
AreCome config setup [] = Unit {0}
AreCome config setup (host.Accepted job ∷ before) = AreCome config setup before
AreCome config setup (host.Finished acked ∷ before) = AreCome config setup before
AreCome config setup (host.Got bytes ∷ before) = Came config (host_now setup before) bytes × AreCome config setup before
AreCome config setup (host.Restarted ∷ before) = AreCome config setup before

-- each cell's word is possible if the converter didn't restart since the host did
since-among : Below → (config : Config) (passes : ℕ) (events : List Event) (cell : Cell) → IsLived config passes events →
    restarted_since_host events ≡ false → IsCell config.count cell →
    is_possible (word_at (now config passes events).device.words cell)
    (possible_of (marks (setup_of config passes) (life config passes events).entries) cell) ≡ true
unfolding possible_of
since-among laws config passes events cell lived fresh there =
    elim (cases_Bool (host_has_read config passes cell events)) [
      | inl read ↦ (life-known laws config passes events cell lived there).among
          (elim (cases_Bool (restarted_since config passes cell events)) [
            | inl restarted ↦ absurd (true≢false (sym (since-started config passes cell events read restarted) ∙ fresh))
            | inr running ↦ running
          ])
      | inr unread ↦
          ap (λ o. is_possible (word_at (now config passes events).device.words cell) (possible_from o))
          (unread-none config passes cell events unread)
    ]

-- what is known of a world and its host while an answer comes back
record Meets (s : State) (setup : host.Setup) (entries : List host.Entry) : Type 0 where
  knows : Knows s setup entries
  same : s.host ≡ host_now setup entries
  outputs : s.host.setup.outputs ≡ s.device.config.count
  stage : IsStage s.host s.host.stage
  among : (cell : Cell) → IsCell s.device.config.count cell →
      is_possible (word_at s.device.words cell) (possible_at s.host cell) ≡ true

-- the read of a cell is what its stage sends
cell-message : (stage : Stage) (read : Cell) → stage_cell (Some stage) ≡ Some read → stage_message stage ≡ cell_read read
cell-message (Reads cell word pass) read e = ap cell_read (same_Some cell read e)
cell-message (Asks (Word cell) tries) read e = ap cell_read (same_Some cell read e)
cell-message stage read e = absurd (none-some read e)

-- what an exchange brings back
came-back : Below → {s : State} {setup : host.Setup} {entries : List host.Entry} (arrival : Arrival) (back : Back) (stage : Stage) →
    Meets s setup entries → s.host.stage ≡ Some stage → exchange_cause s arrival back (Some (stage_message stage)) ≡ None →
    Came s.device.config s.host (back_bytes (answer_to s.device s.host.setup.addr (stage_message stage) arrival) back)
came-back laws {s = s} {setup = setup} {entries = entries} arrival back stage meets at free = record {
  request = request;
  sending = sending;
  reads = reads;
  bad = lost-by laws s.device request heard (heard_ending request arrival) bytes (
    reads,
    knows.sends.fits request sending,
    subst (λ a. is_legal_return (frame_of a request) (whole_answer request)
        (is_heard_whole (frame_of a request) heard (heard_ending request arrival))
        (answer_in (reply_of s.device heard (heard_ending request arrival))) bytes ≡ true) knows.sends.addr
        (exchange-legal s arrival back request free),
  );
  good = λ t payload kin good has.
      good-same laws s arrival back request bytes (record { addr = knows.sends.addr; reads = reads; free = free; is = refl }) good
      ∙ sym (stage-answers laws {h = s.host} s.device t stage kin
      (record {
        outputs = meets.outputs;
        is = subst (IsStage s.host) at meets.stage;
        reads = reads;
        fits = knows.sends.fits request sending;
      })
      (λ read e.
      let word : good_word s.device.config.addr read bytes ≡ Some (word_in payload) =
      ap (option_map word_in) (ap (λ m. good_payload s.device.config.addr m bytes) (sym (cell-message stage read e)) ∙ good) in
      let stage_asked : stage_cell s.host.stage ≡ Some read = ap stage_cell at ∙ e in
      has read (word_in payload) stage_asked word ∙ sym (held read (word_in payload) stage_asked word)));
  read = λ read word at_stage good.
      let there = (knows.asks read (sym by_marks ∙ at_stage)).1 in
      let is = held read word at_stage good in
      record {
        there = there;
        possible = ap (λ w. is_possible w (possible_at s.host read)) (sym is) ∙ meets.among read there;
        accepted = ap (cell_accepts read) (sym is) ∙ knows.accepted read there;
      };
}
  where
    request : Message
    request = stage_message stage

    bytes : List ℕ
    bytes = back_bytes (answer_to s.device s.host.setup.addr (stage_message stage) arrival) back

    heard : List ℕ
    heard = heard_bytes (frame_of s.host.setup.addr (stage_message stage)) arrival

    knows : Knows s setup entries
    knows = meets.knows

    sending : sending_in s.host ≡ Some (stage_message stage)
    sending = ap (option_map stage_message) at

    reads : is_read_message (stage_message stage) ≡ true
    reads = exchange-reads s arrival back (stage_message stage) free

    by_marks : stage_cell s.host.stage ≡ read_by (host.open_job setup entries) (host.told_since entries)
    by_marks = ap (λ (h : Summary). stage_cell h.stage) meets.same ∙ stage_cell-is setup entries

    held : HaveRead s.device.config.addr s.host (back_bytes (answer_to s.device s.host.setup.addr (stage_message stage) arrival) back)
        s.device.words
    held read word at_stage good =
        reads-true laws arrival back (stage_message stage) knows sending free read word (sym by_marks ∙ at_stage)
        (ap (λ a. good_word a read (back_bytes (answer_to s.device s.host.setup.addr (stage_message stage) arrival) back)) knows.address
        ∙ good)

-- whichever event brought it
got-came : Below → {s : State} {setup : host.Setup} {entries : List host.Entry} (event : Event) (bytes : List ℕ) → Meets s setup entries →
    event_cause s event ≡ None → (share_of s event).told ≡ Some (host.Got bytes) → Came s.device.config s.host bytes
got-came laws {s = s} event bytes meets free told = by (share-is s event) free told where
  by_stage : (arrival : Arrival) (back : Back) (stage : Option Stage) → s.host.stage ≡ stage →
      exchange_cause s arrival back (option_map stage_message stage) ≡ None →
      (exchanged s arrival back (option_map stage_message stage)).told ≡ Some (host.Got bytes) → Came s.device.config s.host bytes
  by_stage arrival back None e free told = absurd (none-some (host.Got bytes) told)
  by_stage arrival back (Some stage) e free told =
      subst (λ (entry : host.Entry). Came s.device.config s.host (got_bytes entry)) (same_Some _ (host.Got bytes) told)
      (came-back laws arrival back stage meets e free)

  by : {event : Event} {share : Share} → IsShare s event share → event_cause s event ≡ None → share.told ≡ Some (host.Got bytes) →
      Came s.device.config s.host bytes
  by (exchanges arrival back message is) free told =
      by_stage arrival back s.host.stage refl free
      (subst (λ o. (exchanged s arrival back o).told ≡ Some (host.Got bytes)) (sym is) told)
  by share free told = cc

-- what is known of a world while an answer comes back
life-meets : Below → (config : Config) (passes : ℕ) (events : List Event) → IsLived config passes events →
    restarted_since_host events ≡ false →
    Meets (now config passes events) (setup_of config passes) (life config passes events).entries
unfolding now state_of host_now
life-meets laws config passes events lived fresh = record {
  knows = knows laws config passes events lived;
  same = refl;
  outputs = outputs;
  stage = (now-sound laws config passes events lived).stage;
  among = λ cell there.
      ap (is_possible (word_at (now config passes events).device.words cell))
      (laws.transcripts_are_followed.possible (setup_of config passes) (life config passes events).entries cell
      (eight config.count cell lived.sound.few (count-is cell there)))
      ∙ since-among laws config passes events cell lived fresh (count-is cell there);
}
  where
    outputs : (now config passes events).host.setup.outputs ≡ (now config passes events).device.config.count
    outputs = ap (λ (k : Config). k.count) (sym (now-config config passes events))

    count-is : (cell : Cell) → IsCell (now config passes events).device.config.count cell → IsCell config.count cell
    count-is cell there = subst (λ (k : Config). IsCell k.count cell) (now-config config passes events) there

-- one more thing that the host was told
told-came : Below → {config : Config} {passes : ℕ} {before : List Event} {event : Event} (told : Option host.Entry) →
    IsLived config passes (event ∷ before) → restarted_since_host before ≡ false →
    (share_of (now config passes before) event).told ≡ told →
    AreCome config (setup_of config passes) (since_restart (life config passes before).entries) →
    AreCome config (setup_of config passes) (since_restart (option_to_list told ++ (life config passes before).entries))
told-came laws None lived fresh is older = older
told-came laws (Some (host.Accepted job)) lived fresh is older = older
told-came laws (Some (host.Finished acked)) lived fresh is older = older
told-came laws (Some host.Restarted) lived fresh is older = tt
told-came laws {config = config} {passes = passes} {before = before} {event = event} (Some (host.Got bytes)) lived fresh is older =
    let setup = setup_of config passes in
    let entries = (life config passes before).entries in
    let meets = life-meets laws config passes before (earlier lived) fresh in (
      subst (λ (h : Summary). Came config h bytes)
          (meets.same ∙ (since-same laws.transcripts_are_followed setup entries lived.made (life-told config passes before (earlier lived).legal)).same)
          (subst (λ (k : Config). Came k (now config passes before).host bytes) (now-config config passes before)
          (got-came laws event bytes meets (newest lived) is)),
      older,
    )

-- all that came back since the host's last restart
pub life-came : Below → (config : Config) (passes : ℕ) (events : List Event) → IsLived config passes events →
    restarted_since_host events ≡ false →
    AreCome config (setup_of config passes) (since_restart (life config passes events).entries)
unfolding life restarted_since_host
life-came laws config passes [] lived fresh = tt
life-came laws config passes (event ∷ before) lived fresh =
    subst (λ es. AreCome config (setup_of config passes) (since_restart es)) (sym (entries-more config passes before event))
    (go (restarts_host event) refl fresh (life-came laws config passes before (earlier lived)))
  where
    go : (b : Bool) → restarts_host event ≡ b → cond b false (restarts_converter event || restarted_since_host before) ≡ false →
        (restarted_since_host before ≡ false →
        AreCome config (setup_of config passes) (since_restart (life config passes before).entries)) →
        AreCome config (setup_of config passes)
        (since_restart (option_to_list (share_of (now config passes before) event).told ++ (life config passes before).entries))
    go true e h older =
        subst (λ o. AreCome config (setup_of config passes) (since_restart (option_to_list o ++ (life config passes before).entries)))
        (sym (restart-told (now config passes before) event e)) tt
    go false e h older =
        let running = (or_parts (restarts_converter event) (restarted_since_host before) h).1 in
        told-came laws (share_of (now config passes before) event).told lived running refl (older running)

-- The write that begins to be sent with an entry, and its delivery.

-- the write of a word to a cell is being sent, by a host that holds this
pub record IsSent (h : Summary) (cell : Cell) (word : ℕ) : Type 0 where
  pub sending : sending_in h ≡ Some (cell_write cell word)
  pub there : IsCell h.setup.outputs cell
  pub accepted : cell_accepts cell word ≡ true

-- the marks of what begins to be sent with the newest entry: nothing, a write, or a restore
pub data Begun (h : Summary) : List Mark → Type 0 where
  no_write : Begun h []
  one_write : (cell : Cell) (word : ℕ) → IsSent h cell word → Begun h (Put cell word ∷ [])
  deliveries_one_restore : Begun h (Restored ∷ [])

-- what the open job begins to send is nothing, a write, or a restore
pub begun-by : (setup : host.Setup) (entries : List host.Entry) → IsSound (host_now setup entries) →
    Begun (host_now setup entries) (puts setup entries)
unfolding puts host_now stage_of
begun-by setup entries sound = go (host.open_job setup entries) refl sound.stage where
  h : Summary
  h = host_now setup entries

  told : List host.Entry
  told = host.told_since entries

  by_turn : (b : Bool) (cell : Cell) (word pass : ℕ) →
      option_map stage_message (host_now setup entries).stage
      ≡ Some (stage_message (cond b (Writes cell word pass) (Reads cell word pass))) →
      IsStage (host_now setup entries) (Some (cond b (Writes cell word pass) (Reads cell word pass))) →
      Begun (host_now setup entries) (cond b (Put cell word ∷ []) [])
  by_turn true cell word pass e is = one_write cell word (record { sending = e; there = is.there; accepted = is.accepted })
  by_turn false cell word pass e is = no_write

  by_command : (sent : Command) → Begun (host_now setup entries) (send_marks sent)
  by_command RestoreUserAll = deliveries_one_restore
  by_command sent = no_write

  go : (job : Option host.Job) → host.open_job setup entries ≡ job →
      IsStage (host_now setup entries) (option_map (λ j. job_stage setup j (host.told_since entries)) (host.open_job setup entries)) →
      Begun (host_now setup entries) (put_by job (host.told_since entries))
  go None e is = no_write
  go (Some (host.Order cell word)) e is =
      by_turn (host.is_write_turn told) cell word _ (ap (λ o. option_map stage_message (option_map (λ j. job_stage setup j told) o)) e)
      (subst (λ o. IsStage (host_now setup entries) (option_map (λ j. job_stage setup j (host.told_since entries)) o)) e is)
  go (Some (host.Check cell)) e is = no_write
  go (Some (host.Learn output)) e is = no_write
  go (Some (host.Send sent)) e is = by_command sent

-- each code that is ever written may be written while WRITE_PROTECT is 00h
open-allows : (code : ℕ) → is_written code ≡ true → is_allowed 0x00 code ≡ true
open-allows code written = go (line_of code) written where
  at_00h : (protection : Protection) → is_ever_written protection ≡ true → lets_write protection 0x00 ≡ true
  at_00h NotWritten h = h
  at_00h _ h = refl

  go : (line : Option Line) → option_map_or (λ l. is_ever_written l.protection) line false ≡ true →
      option_map_or (λ l. lets_write l.protection 0x00) line false ≡ true
  go None h = h
  go (Some line) h = at_00h line.protection h

-- what is known of a world in which a write of an output's cell is being sent
pub record CanDeliver (s : State) (output : ℕ) (register : Reg) (word : ℕ) : Type 0 where
  pub addr : s.host.setup.addr ≡ s.device.config.addr
  pub outputs : s.host.setup.outputs ≡ s.device.config.count
  pub protect : word_at s.device.words Protect ≡ 0x00
  pub sent : IsSent s.host (Out output register) word

-- its delivery is legal, tells the host nothing, and gives the cell the word
pub record Delivers (s : State) (output : ℕ) (register : Reg) (word : ℕ) : Type 0 where
  pub legal : IsLegal s (Deliver Whole)
  pub told : (share_of s (Deliver Whole)).told ≡ None
  pub words : (next s (Deliver Whole)).device.words ≡ with_word s.device.words (Out output register) word

-- the whole frame of a write that can be delivered does what `Delivers` says
pub delivers : Below → (s : State) (output : ℕ) (register : Reg) (word : ℕ) → CanDeliver s output register word →
    Delivers s output register word
delivers laws s output register word can = record {
  legal = record {
    free = ap (delivery_cause s Whole) can.sent.sending
        ∙ ap₂ (λ b c. option_or (rule b WrongKind) (rule (not c) NotBetrayed)) (writes_cell cell word) legal;
    word = tt;
  };
  told = told-nothing s Whole (sending_in s.host);
  words =
      next-deliver-words laws s Whole message can.sent.sending
      ∙ (ap (λ a. words_after s.device (hearing a message Whole)) can.addr
      ∙ (ap (λ e. words_after s.device (Hearing (frame_of s.device.config.addr message) e)) (write-ending cell word Whole)
      ∙ whole-write laws s.device cell word (frame_of s.device.config.addr message) take
      (is_write s.device.config.addr cell word take.fits)));
}
  where
    cell : Cell
    cell = Out output register

    message : Message
    message = cell_write (Out output register) word

    legal : is_legal_hearing (frame_of s.host.setup.addr (cell_write (Out output register) word))
        (frame_of s.host.setup.addr (cell_write (Out output register) word))
        (heard_ending (cell_write (Out output register) word) Whole) ≡ true
    legal = ap (is_legal_hearing (frame_of s.host.setup.addr message) (frame_of s.host.setup.addr message)) (write-ending cell word Whole)
        ∙ write-heard (frame_of s.host.setup.addr message)

    take : CanTake s.device (Out output register) word
    take = record {
      there = subst (λ n. IsCell n cell) can.outputs can.sent.there;
      accepted = can.sent.accepted;
      allowed = ap (λ p. is_allowed p (cell_code cell)) can.protect
          ∙ open-allows (register_code register) (laws.registers_are_in_the_table.written register);
      fits = write-fits laws s.host.setup cell word can.sent.there can.sent.accepted;
    }

-- Each entry of a transcript is told by an event of its own, which leaves the words.

-- an event that is legal tells the host an entry, and leaves the words
pub record Tells (s : State) (event : Event) (entry : host.Entry) : Type 0 where
  pub legal : IsLegal s event
  pub steady : (restarts_host event || restarts_converter event) ≡ false
  pub told : (share_of s event).told ≡ Some entry
  pub kept : (next s event).device.words ≡ s.device.words

-- the host takes the event of a job for that job
job-asked : (s : State) (job : host.Job) → asked s (job_event job) ≡ Some job
job-asked s (host.Send RestoreUserAll) = refl
job-asked s _ = refl

-- the host refuses the event as it refuses the job
job-refusal : (s : State) (job : host.Job) → refusal_of_event s.host (job_event job) ≡ job_fault s.host job
job-refusal s (host.Send RestoreUserAll) = refl
job-refusal s _ = refl

-- no fault is no cause
unrefused : (fault : Option HostFault) → is_none fault ≡ true → option_or (refused fault) None ≡ None
unrefused None h = refl
unrefused (Some fault) h = cc

-- which has no other cause than the job
job-cause : (s : State) (job : host.Job) → may_come s.host (host.Accepted job) ≡ true → event_cause s (job_event job) ≡ None
job-cause s job may =
    ap (λ fault. option_or (refused fault) (cause_beside s (job_event job))) (job-refusal s job)
    ∙ (ap (option_or (refused (job_fault s.host job))) (asked-beside s (job_event job) job (job-asked s job))
    ∙ unrefused (job_fault s.host job) may)

-- an event that asks for a job restarts nothing
job-steady : (job : host.Job) → (restarts_host (job_event job) || restarts_converter (job_event job)) ≡ false
job-steady (host.Send RestoreUserAll) = refl
job-steady _ = refl

-- a job that may come is accepted
pub job-tells : (s : State) (job : host.Job) → may_come s.host (host.Accepted job) ≡ true → Tells s (job_event job) (host.Accepted job)
job-tells s job may = record {
  legal = record { free = job-cause s job may; word = asked-word s (job_event job) job (job-asked s job) };
  steady = job-steady job;
  told = ap (λ share. share.told) (asked-share s (job_event job) job (job-asked s job));
  kept = ap (λ (t : State). t.device.words) (asked-next s (job_event job) job (job-asked s job));
}

-- the end of a write that is being sent has no cause
finish-free : (sending : Option Message) → option_map_or (λ message. not (is_read_message message)) sending false ≡ true →
    finish_cause sending ≡ None
finish-free None h = cc
finish-free (Some message) h = go (is_read_message message) h where
  go : (b : Bool) → not b ≡ true → rule b WrongKind ≡ None
  go true h = cc
  go false h = refl

-- the end of a write that may come tells the host just that
pub finish-tells : (s : State) (acked : Bool) → may_come s.host (host.Finished acked) ≡ true → Tells s (Finish acked) (host.Finished acked)
unfolding next
finish-tells s acked may = record {
  legal = record { free = finish-free (sending_in s.host) may; word = tt };
  steady = refl;
  told = refl;
  kept = refl;
}

-- a request that is heard whole is ended by a repeated start
request-ending : (request : Message) → is_read_message request ≡ true → heard_ending request Whole ≡ Restart
request-ending request reads = ap (λ b. cond b Restart Stop) reads

-- a request that is heard whole, or not at all, is heard legally
request-heard : (addr : ℕ) (request : Message) (good : Bool) → is_read_message request ≡ true →
    is_legal_hearing (frame_of addr request) (heard_bytes (frame_of addr request) (arrival_for good))
    (heard_ending request (arrival_for good)) ≡ true
unfolding is_legal_hearing
request-heard addr request true reads =
    ap (is_legal_hearing (frame_of addr request) (frame_of addr request)) (request-ending request reads)
    ∙ whole-hearing (frame_of addr request)
request-heard addr request false reads = refl

-- what comes back is legal: a good answer of a whole request
good-returned : {config : Config} (s : State) {bytes : List ℕ} (payload : List ℕ) → (came : Came config s.host bytes) →
    IsKin config s.device.config → HaveRead config.addr s.host bytes s.device.words →
    good_payload config.addr came.request bytes ≡ Some payload →
    is_legal_return (frame_of config.addr came.request) (whole_answer came.request)
    (is_heard_whole (frame_of config.addr came.request) (frame_of config.addr came.request) (heard_ending came.request Whole))
    (answer_to s.device config.addr came.request Whole) bytes ≡ true
good-returned {config = config} s {bytes = bytes} payload came kin has good =
    let frame = frame_of config.addr came.request in
    let needed = whole_answer came.request in
    let answer = answer_in (reply_of s.device frame Restart) in
    ap (λ e. is_legal_return frame needed (is_heard_whole frame frame e) (answer_in (reply_of s.device frame e)) bytes)
    (request-ending came.request came.reads)
    ∙ (ap (is_legal_return frame needed (is_heard_whole frame frame Restart) answer) (came.good s.device payload kin good has)
    ∙ whole-return frame answer needed)

-- lost bytes are a legal return
lost-returned : (addr : ℕ) (request : Message) (whole : Bool) (answer bytes : List ℕ) → is_lost addr request bytes ≡ true →
    is_legal_return (frame_of addr request) (whole_answer request) whole answer bytes ≡ true
unfolding is_legal_return
lost-returned addr request whole answer bytes lost =
    or_right (whole && bytes_eq bytes answer) (is_lost addr request bytes) lost

-- what came back returns legally, whether it is a good answer or lost
came-returned : {config : Config} (s : State) {bytes : List ℕ} → (came : Came config s.host bytes) → IsKin config s.device.config →
    HaveRead config.addr s.host bytes s.device.words →
    let arrival = arrival_for (is_some (good_payload config.addr came.request bytes)) in
    let frame = frame_of config.addr came.request in
    is_legal_return frame (whole_answer came.request)
    (is_heard_whole frame (heard_bytes frame arrival) (heard_ending came.request arrival))
    (answer_to s.device config.addr came.request arrival) bytes ≡ true
came-returned {config = config} s {bytes = bytes} came kin has = go (good_payload config.addr came.request bytes) refl where
  go : (found : Option (List ℕ)) → good_payload config.addr came.request bytes ≡ found →
      is_legal_return (frame_of config.addr came.request) (whole_answer came.request)
      (is_heard_whole (frame_of config.addr came.request) (heard_bytes (frame_of config.addr came.request) (arrival_for (is_some found)))
      (heard_ending came.request (arrival_for (is_some found))))
      (answer_to s.device config.addr came.request (arrival_for (is_some found))) bytes ≡ true
  go None e = lost-returned config.addr came.request _ _ bytes (came.bad e)
  go (Some payload) e = good-returned s payload came kin has e

-- what is known of a world in which bytes come back
pub record Takes (config : Config) (s : State) (bytes : List ℕ) : Type 0 where
  pub addr : s.host.setup.addr ≡ config.addr
  pub kin : IsKin config s.device.config
  pub came : Came config s.host bytes
  pub has : HaveRead config.addr s.host bytes s.device.words
  pub fits : (message : Message) → sending_in s.host ≡ Some message → fits_layout message ≡ true

-- an exchange that brings them back
pub exchange-tells : Below → {config : Config} {s : State} {bytes : List ℕ} → (takes : Takes config s bytes) →
    Tells s (Exchange (arrival_for (is_some (good_payload config.addr takes.came.request bytes))) (Bytes (record { items = bytes })))
    (host.Got bytes)
unfolding next
exchange-tells laws {config = config} {s = s} {bytes = bytes} takes = record {
  legal = record { free = none; word = tt };
  steady = refl;
  told = ap (λ o. (exchanged s arrival back o).told) came.sending;
  kept = (exchanged-stays laws s arrival back (sending_in s.host) takes.fits none).words;
}
  where
    came : Came config s.host bytes
    came = takes.came

    good : Bool
    good = is_some (good_payload config.addr takes.came.request bytes)

    arrival : Arrival
    arrival = arrival_for (is_some (good_payload config.addr takes.came.request bytes))

    back : Back
    back = Bytes (record { items = bytes })

    returned : is_legal_return (frame_of s.host.setup.addr takes.came.request) (whole_answer takes.came.request)
        (is_heard_whole (frame_of s.host.setup.addr takes.came.request)
        (heard_bytes (frame_of s.host.setup.addr takes.came.request)
        (arrival_for (is_some (good_payload config.addr takes.came.request bytes))))
        (heard_ending takes.came.request (arrival_for (is_some (good_payload config.addr takes.came.request bytes)))))
        (answer_to s.device s.host.setup.addr takes.came.request
        (arrival_for (is_some (good_payload config.addr takes.came.request bytes)))) bytes ≡ true
    returned = subst (λ a. is_legal_return (frame_of a takes.came.request) (whole_answer takes.came.request)
        (is_heard_whole (frame_of a takes.came.request) (heard_bytes (frame_of a takes.came.request) arrival)
        (heard_ending takes.came.request arrival)) (answer_to s.device a takes.came.request arrival) bytes ≡ true)
        (sym takes.addr) (came-returned s takes.came takes.kin takes.has)

    free : exchange_cause s (arrival_for (is_some (good_payload config.addr takes.came.request bytes))) (Bytes (record { items = bytes }))
        (Some takes.came.request) ≡ None
    free = exchange_cause-by s arrival back takes.came.request {legal = true} {returned = true} takes.came.reads
        (request-heard s.host.setup.addr takes.came.request good takes.came.reads) returned

    none : exchange_cause s (arrival_for (is_some (good_payload config.addr takes.came.request bytes))) (Bytes (record { items = bytes }))
        (sending_in s.host) ≡ None
    none = ap (exchange_cause s arrival back) came.sending ∙ free

-- The retelling, entry by entry: it tells the host just these, and leaves the words that are due.

-- what holds of the world in which a life is retold
pub record IsMade (config : Config) (passes : ℕ) (first : Choice) : Type 0 where
  pub sound : StartIsSound (witness_start config first)
  pub made : IsSetup (setup_of config passes)

-- Events that tell these entries, after which each cell whose due word is possible by the marks has it, and
-- WRITE_PROTECT has 00h.
pub record IsRetold (config : Config) (passes : ℕ) (first : Choice) (entries : List host.Entry) (ms : List Mark) (due : Choice)
    (events : List Event) : Type 0 where
  pub legal : AreLegal (witness_start config first) passes events
  pub steady : AreSteady events
  pub told : (life (witness_start config first) passes events).entries ≡ entries
  pub words : IsDue config.count ms due (now (witness_start config first) passes events).device.words
  pub protect : word_at (now (witness_start config first) passes events).device.words Protect ≡ 0x00

-- they were lived through
pub retold-lived : {config : Config} {passes : ℕ} {first : Choice} {entries : List host.Entry} {ms : List Mark} {due : Choice}
    {events : List Event} → IsMade config passes first → IsRetold config passes first entries ms due events →
    IsLived (witness_start config first) passes events
retold-lived is r = record { sound = is.sound; made = is.made; legal = r.legal }

-- the retold host holds what it would after these entries
pub retold-host : {config : Config} {passes : ℕ} {first : Choice} {entries : List host.Entry} {ms : List Mark} {due : Choice}
    {events : List Event} → IsRetold config passes first entries ms due events →
    (now (witness_start config first) passes events).host ≡ host_now (setup_of config passes) entries
unfolding now state_of
retold-host {config = config} {passes = passes} r = ap (host_now (setup_of config passes)) r.told

-- the words of a new world
first-words : Below → (config : Config) (passes : ℕ) → IsSetup (setup_of config passes) →
    (now config passes []).device.words ≡ start_words config
unfolding world_start device_start
first-words laws config passes made = ap (λ (s : State). s.device.words) (now-nil laws config passes made)

-- no entry
pub retold-none : Below → (config : Config) (passes : ℕ) (first due : Choice) → IsMade config passes first →
    ((output : ℕ) (register : Reg) → output < config.count → due (Out output register) ≡ first (Out output register)) →
    IsRetold config passes first [] [] due []
unfolding life
retold-none laws config passes first due is fits = record {
  legal = tt;
  steady = tt;
  told = refl;
  words = record {
    has = λ output register below possible.
        let few = is.sound.few in
        let inside : output < 8 = omega arith in
        ap (λ (w : Words). word_at w (Out output register)) (first-words laws again passes is.made)
        ∙ (start-at laws again (Out output register) inside
        ∙ (witness-word config first output register inside ∙ sym (fits output register below)));
  };
  protect = ap (λ (w : Words). word_at w Protect) (first-words laws again passes is.made) ∙ start-at laws again Protect tt;
}
  where
    again : Config
    again = witness_start config first

-- one more entry, by an event that tells it and leaves the words
pub retold-told : Below → {config : Config} {passes : ℕ} {first : Choice} {entries : List host.Entry} {ms : List Mark} {due : Choice}
    {events : List Event} {event : Event} {entry : host.Entry} → IsMade config passes first →
    IsRetold config passes first entries ms due events → Tells (now (witness_start config first) passes events) event entry →
    IsRetold config passes first (entry ∷ entries) ms due (event ∷ events)
retold-told laws {config = config} {passes = passes} {first = first} {ms = ms} {due = due} {events = events} {event = event} {entry = entry}
    is r tells =
    let again = witness_start config first in
    let same : (now (witness_start config first) passes (event ∷ events)).device.words
    ≡ (now (witness_start config first) passes events).device.words =
    ap (λ (s : State). s.device.words)
    (now-next laws again passes events event (record { sound = is.sound; made = is.made; legal = (tells.legal, r.legal) }))
    ∙ tells.kept in
    record {
      legal = (tells.legal, r.legal);
      steady = (tells.steady, r.steady);
      told = share-entries again passes events event (Some entry) tells.told ∙ ap (λ es. entry ∷ es) r.told;
      words = subst (IsDue config.count ms due) (sym same) r.words;
      protect = ap (λ w. word_at w Protect) same ∙ r.protect;
    }

-- what lets the delivery of a write be taken
can-deliver : Below → {config : Config} {passes : ℕ} {first : Choice} {entries : List host.Entry} {ms : List Mark} {due : Choice}
    {events : List Event} {output : ℕ} {register : Reg} {word : ℕ} → IsMade config passes first →
    IsRetold config passes first entries ms due events →
    IsSent (host_now (setup_of config passes) entries) (Out output register) word →
    CanDeliver (now (witness_start config first) passes events) output register word
can-deliver laws {config = config} {passes = passes} {first = first} {events = events} {output = output} {register = register} {word = word}
    is r sent =
    let again = witness_start config first in
    record {
      addr = (knows laws again passes events (retold-lived is r)).sends.addr;
      outputs = ap (λ (s : host.Setup). s.outputs) (now-setup again passes events)
          ∙ ap (λ (k : Config). k.count) (sym (now-config again passes events));
      protect = r.protect;
      sent = subst (λ (h : Summary). IsSent h (Out output register) word) (sym (retold-host r)) sent;
    }

-- a write that begins, and is delivered
retold-delivered : Below → {config : Config} {passes : ℕ} {first : Choice} {entries : List host.Entry} {ms : List Mark} {due : Choice}
    {events : List Event} {output : ℕ} {register : Reg} {word : ℕ} → IsMade config passes first →
    IsRetold config passes first entries ms due events →
    IsSent (host_now (setup_of config passes) entries) (Out output register) word → due (Out output register) ≡ word →
    IsRetold config passes first entries (Put (Out output register) word ∷ ms) due (Deliver Whole ∷ events)
unfolding host_now
retold-delivered laws {config = config} {passes = passes} {first = first} {entries = entries} {ms = ms} {due = due} {events = events}
    {output = output} {register = register} {word = word} is r sent now_due =
    let again = witness_start config first in
    let s = now (witness_start config first) passes events in
    let cell = Out output register in
    let d = delivers laws s output register word (can-deliver laws is r sent) in
    let are = now-are laws again passes events in
    let there : IsCell 8 (Out output register) = eight config.count cell is.sound.few sent.there in
    let wrote : (now (witness_start config first) passes (Deliver Whole ∷ events)).device.words
    ≡ with_word (now (witness_start config first) passes events).device.words (Out output register) word =
    ap (λ (t : State). t.device.words)
    (now-next laws again passes events (Deliver Whole) (record { sound = is.sound; made = is.made; legal = (d.legal, r.legal) }))
    ∙ d.words in
    record {
      legal = (d.legal, r.legal);
      steady = (refl, r.steady);
      told = share-entries again passes events (Deliver Whole) None d.told ∙ r.told;
      words = subst (IsDue config.count (Put cell word ∷ ms) due) (sym wrote)
          (put-taken laws cell word is.sound.few are there now_due r.words);
      protect = ap (λ w. word_at w Protect) wrote
          ∙ (laws.settings_are_a_map.read s.device.words cell Protect word are there tt ∙ r.protect);
    }

-- other marks, by which the same words are due
pub retold-marks : {config : Config} {passes : ℕ} {first : Choice} {entries : List host.Entry} {ms : List Mark} {due : Choice}
    {events : List Event} (other : List Mark) (later : Choice) → IsRetold config passes first entries ms due events →
    IsDue config.count other later (now (witness_start config first) passes events).device.words →
    IsRetold config passes first entries other later events
retold-marks other later r is = record { legal = r.legal; steady = r.steady; told = r.told; words = is; protect = r.protect }

-- what begins to be sent, delivered where its word is due
pub retold-begun : Below → {config : Config} {passes : ℕ} {first : Choice} {entries : List host.Entry} {ms new : List Mark} {due : Choice}
    {events : List Event} → IsMade config passes first → IsRetold config passes first entries ms due events →
    Begun (host_now (setup_of config passes) entries) new → AreOpen new →
    IsRetold config passes first entries (new ++ ms) due (arrivals_of due new ++ events)
retold-begun laws is r no_write open' = r
retold-begun laws is r deliveries_one_restore open' = absurd (true≢false (sym open'.0))
retold-begun laws {ms = ms} {due = due} is r (one_write Protect word sent) open' =
    retold-marks (Put Protect word ∷ ms) due r (put-protect laws word r.words)
retold-begun laws {config = config} {passes = passes} {first = first} {entries = entries} {ms = ms} {due = due} {events = events} is r
    (one_write (Out output register) word sent) open' = go (eqb (due (Out output register)) word) refl where
      go : (b : Bool) → eqb (due (Out output register)) word ≡ b →
          IsRetold config passes first entries (Put (Out output register) word ∷ ms) due ((cond b (Deliver Whole ∷ []) [] ++ []) ++ events)
      go true e = retold-delivered laws is r sent (eqb-true (due (Out output register)) word e)
      go false e = retold-marks (Put (Out output register) word ∷ ms) due r
          (put-left laws (Out output register) word
          (λ same. true≢false (sym (eq-eqb (due (Out output register)) word same) ∙ e)) r.words)

-- The retelling of a whole transcript, and the words that it leaves.

-- no restart of the host is among the entries
abbrev IsUnbroken : List host.Entry → Type 0
IsUnbroken [] = Unit {0}
IsUnbroken (host.Accepted job ∷ before) = IsUnbroken before
IsUnbroken (host.Finished acked ∷ before) = IsUnbroken before
IsUnbroken (host.Got bytes ∷ before) = IsUnbroken before
IsUnbroken (host.Restarted ∷ before) = ⊥

-- none is among those since the last
pub since-unbroken : (entries : List host.Entry) → IsUnbroken (since_restart entries)
since-unbroken [] = tt
since-unbroken (host.Accepted job ∷ before) = since-unbroken before
since-unbroken (host.Finished acked ∷ before) = since-unbroken before
since-unbroken (host.Got bytes ∷ before) = since-unbroken before
since-unbroken (host.Restarted ∷ before) = tt

-- marks in two parts are open in each if they are open together
open-parts : (new ms : List Mark) → AreOpen (new ++ ms) → AreOpen new × AreOpen ms
open-parts [] ms all = (tt, all)
open-parts (mark ∷ new) ms (here, all) = let parts = open-parts new ms all in ((here, parts.0), parts.1)

-- what begins to be sent changes no due word
begun-due : {h : Summary} {new : List Mark} (due : Choice) → Begun h new → due_before due new ≡ due
begun-due due no_write = refl
begun-due due (one_write cell word sent) = refl
begun-due due deliveries_one_restore = refl

-- the words that are due at the start stay those
abbrev IsFirst : ℕ → Choice → Choice → List Mark → Type 0
IsFirst count first due ms =
    (output : ℕ) (register : Reg) → output < count → due_before due ms (Out output register) ≡ first (Out output register)

-- before what an entry begins and finds
first-before : {h : Summary} {new : List Mark} (count : ℕ) (first due : Choice) (ms : List Mark) → Begun h new →
    IsFirst count first due (new ++ ms) → IsFirst count first due ms
first-before {new = new} count first due ms begun fits output register below =
    ap (λ d. due_before d ms (Out output register)) (sym (begun-due due begun))
    ∙ (ap (λ d. d (Out output register)) (sym (due_before-append due new ms)) ∙ fits output register below)

-- the mark of a good answer
goods-is : (setup : host.Setup) (before : List host.Entry) (bytes : List ℕ) (read : Cell) (word : ℕ) →
    read_by (host.open_job setup before) (host.told_since before) ≡ Some read → good_word setup.addr read bytes ≡ Some word →
    goods setup before bytes ≡ Good read word ∷ []
unfolding goods
goods-is setup before bytes read word asked good =
    ap (λ o. option_to_list (option_and_then (λ c. option_map (λ w. Good c w) (good_word setup.addr c bytes)) o)) asked
    ∙ ap (λ o. option_to_list (option_map (λ w. Good read w) o)) good

-- what is known of a transcript since the last restart, and of the words with which its retelling starts
pub record IsTold (config : Config) (passes : ℕ) (first due : Choice) (entries : List host.Entry) : Type 0 where
  pub told : AreTold (setup_of config passes) entries
  pub come : AreCome config (setup_of config passes) entries
  pub open' : AreOpen (marks (setup_of config passes) entries)
  pub unbroken : IsUnbroken entries
  pub fits : IsFirst config.count first due (marks (setup_of config passes) entries)

-- the host in the retelling may be told the entry
may-again : {config : Config} {passes : ℕ} {first : Choice} {entries : List host.Entry} {ms : List Mark} {due : Choice}
    {events : List Event} (entry : host.Entry) → IsRetold config passes first entries ms due events →
    may_come (host_now (setup_of config passes) entries) entry ≡ true →
    may_come (now (witness_start config first) passes events).host entry ≡ true
may-again entry r may = subst (λ (h : Summary). may_come h entry ≡ true) (sym (retold-host r)) may

-- an entry, and what begins to be sent with it
told-begun : Below → {config : Config} {passes : ℕ} {first : Choice} {entries : List host.Entry} {ms : List Mark} {due : Choice}
    {events : List Event} (event : Event) (entry : host.Entry) → IsMade config passes first →
    AreTold (setup_of config passes) (entry ∷ entries) → AreOpen (puts (setup_of config passes) (entry ∷ entries)) →
    IsRetold config passes first (entry ∷ entries) ms due (event ∷ events) →
    IsRetold config passes first (entry ∷ entries) (puts (setup_of config passes) (entry ∷ entries) ++ ms) due
    (arrivals_of due (puts (setup_of config passes) (entry ∷ entries)) ++ event ∷ events)
told-begun laws {config = config} {passes = passes} {entries = entries} event entry is told open' r =
    let setup = setup_of config passes in
    retold-begun laws is r
    (begun-by setup (entry ∷ entries) (laws.transcripts_are_followed.sound setup (entry ∷ entries) is.made told)) open'

-- a cell has the word of a good answer for it: its due word, or 00h
read-held : {count : ℕ} {ms : List Mark} {words : Words} (due : Choice) (read : Cell) (word : ℕ) →
    IsDue count ms (with_due due read word) words → word_at words Protect ≡ 0x00 → leaves_open (Good read word) ≡ true →
    IsCell count read × (is_possible word (possible_of ms read) ≡ true) → word_at words read ≡ word
read-held {ms = ms} due (Out output register) word so_far protect open' (below, possible) =
    let cell = Out output register in
    let own : with_due due (Out output register) word (Out output register) ≡ word =
    cond-true (same_cell cell cell) word (due cell) (same_cell-itself cell) in
    so_far.has output register below (ap (λ w. is_possible w (possible_of ms cell)) own ∙ possible) ∙ own
read-held due Protect word so_far protect open' there = protect ∙ sym (eqb-true word 0x00 open')

-- a good answer's word was possible, by the marks
marked-possible : Below → (config : Config) (passes : ℕ) (before : List host.Entry) (read : Cell) (word : ℕ) → StartIsSound config →
    IsRead config.count (host_now (setup_of config passes) before) read word →
    is_possible word (possible_of (marks (setup_of config passes) before) read) ≡ true
marked-possible laws config passes before read word sound is =
    ap (is_possible word)
    (sym (laws.transcripts_are_followed.possible (setup_of config passes) before read (eight config.count read sound.few is.there)))
    ∙ is.possible

-- the words of the retelling's converter have that of a good answer
have-read : Below → {config : Config} {passes : ℕ} {first : Choice} {before : List host.Entry} {events : List Event} (due : Choice)
    (bytes : List ℕ) → StartIsSound config →
    Came config (host_now (setup_of config passes) before) bytes × AreOpen (goods (setup_of config passes) before bytes) →
    IsRetold config passes first before (marks (setup_of config passes) before)
    (due_before due (goods (setup_of config passes) before bytes)) events →
    HaveRead config.addr (host_now (setup_of config passes) before) bytes (now (witness_start config first) passes events).device.words
have-read laws {config = config} {passes = passes} {first = first} {before = before} {events = events} due bytes sound (came, open') r
    read word asked good =
    let setup = setup_of config passes in
    let words = (now (witness_start config first) passes events).device.words in
    let is = came.read read word asked good in
    let one : goods (setup_of config passes) before bytes ≡ Good read word ∷ [] =
    goods-is setup before bytes read word (sym (stage_cell-is setup before) ∙ asked) good in
    read-held due read word (subst (λ new. IsDue config.count (marks setup before) (due_before due new) words) one r.words) r.protect
    (subst AreOpen one open').0 (is.there, marked-possible laws config passes before read word sound is)

-- the due words after a good answer
goods-due : Below → (config : Config) (passes : ℕ) (before : List host.Entry) (bytes : List ℕ) {new : List Mark} {due : Choice}
    {words : Words} → StartIsSound config →
    Came config (host_now (setup_of config passes) before) bytes × AreGoods (setup_of config passes) before bytes new →
    IsDue config.count (marks (setup_of config passes) before) (due_before due new) words →
    IsDue config.count (new ++ marks (setup_of config passes) before) due words
goods-due laws config passes before bytes sound (came, no_good) so_far = so_far
goods-due laws config passes before bytes sound (came, one_good read word asked good) so_far =
    let is = came.read read word (stage_cell-is (setup_of config passes) before ∙ asked) good in
    good-due laws read word (marked-possible laws config passes before read word sound is) so_far

-- what lets the bytes come back in the retelling
takes-again : Below → {config : Config} {passes : ℕ} {first : Choice} {before : List host.Entry} {events : List Event} (due : Choice)
    (bytes : List ℕ) → StartIsSound config → IsMade config passes first →
    Came config (host_now (setup_of config passes) before) bytes × AreOpen (goods (setup_of config passes) before bytes) →
    IsRetold config passes first before (marks (setup_of config passes) before)
    (due_before due (goods (setup_of config passes) before bytes)) events →
    Takes config (now (witness_start config first) passes events) bytes
takes-again laws {config = config} {passes = passes} {first = first} {before = before} {events = events} due bytes sound is
    (came, open') r =
    let again = witness_start config first in
    let words = (now (witness_start config first) passes events).device.words in
    let same = retold-host r in
    record {
      addr = ap (λ (s : host.Setup). s.addr) (now-setup again passes events);
      kin = subst (IsKin config) (sym (now-config again passes events)) (witness-kin config first sound);
      came = subst (λ (h : Summary). Came config h bytes) (sym same) came;
      has = subst (λ (h : Summary). HaveRead config.addr h bytes words) (sym same)
          (have-read laws due bytes sound (came, open') r);
      fits = (knows laws again passes events (retold-lived is r)).sends.fits;
    }

-- the event that tells them
got-tells : Below → {config : Config} {passes : ℕ} {first : Choice} {before : List host.Entry} {events : List Event} (due : Choice)
    (bytes : List ℕ) → StartIsSound config → IsMade config passes first →
    Came config (host_now (setup_of config passes) before) bytes × AreOpen (goods (setup_of config passes) before bytes) →
    IsRetold config passes first before (marks (setup_of config passes) before)
    (due_before due (goods (setup_of config passes) before bytes)) events →
    Tells (now (witness_start config first) passes events)
    (Exchange (arrival_for (is_good_answer (setup_of config passes) before bytes)) (Bytes (record { items = bytes }))) (host.Got bytes)
got-tells laws {config = config} {passes = passes} {first = first} {before = before} {events = events} due bytes sound is came r =
    let takes = takes-again laws due bytes sound is came r in
    let setup = setup_of config passes in
    let sending : host.sending_of (setup_of config passes) before ≡ Some takes.came.request =
    sym (laws.transcripts_are_followed.sending setup before) ∙ (ap sending_in (sym (retold-host r)) ∙ takes.came.sending) in
    subst (λ b. Tells (now (witness_start config first) passes events) (Exchange (arrival_for b) (Bytes (record { items = bytes })))
    (host.Got bytes))
    (sym (ap (λ o. option_map_or (λ request. is_some (good_payload config.addr request bytes)) o false) sending))
    (exchange-tells laws takes)

-- the retelling
pub retold : Below → {config : Config} {passes : ℕ} {first : Choice} → StartIsSound config → IsMade config passes first → (due : Choice)
    (entries : List host.Entry) → IsTold config passes first due entries →
    IsRetold config passes first entries (marks (setup_of config passes) entries) due (witness_events (setup_of config passes) due entries)
retold laws {config = config} {passes = passes} {first = first} sound is due [] t = retold-none laws config passes first due is t.fits
retold laws {config = config} {passes = passes} {first = first} sound is due (host.Accepted job ∷ before) t =
    let setup = setup_of config passes in
    let entry = host.Accepted job in
    let new = puts setup (entry ∷ before) in
    let parts = open-parts new (marks setup before) t.open' in
    let begun = begun-by setup (entry ∷ before) (laws.transcripts_are_followed.sound setup (entry ∷ before) is.made t.told) in
    let older = retold laws sound is due before (record {
      told = t.told.1;
      come = t.come;
      open' = parts.1;
      unbroken = t.unbroken;
      fits = first-before config.count first due (marks setup before) begun t.fits;
    }) in
    told-begun laws (job_event job) entry is t.told parts.0
    (retold-told laws is older (job-tells _ job (may-again entry older t.told.0)))
retold laws {config = config} {passes = passes} {first = first} sound is due (host.Finished acked ∷ before) t =
    let setup = setup_of config passes in
    let entry = host.Finished acked in
    let new = puts setup (entry ∷ before) in
    let parts = open-parts new (marks setup before) t.open' in
    let begun = begun-by setup (entry ∷ before) (laws.transcripts_are_followed.sound setup (entry ∷ before) is.made t.told) in
    let older = retold laws sound is due before (record {
      told = t.told.1;
      come = t.come;
      open' = parts.1;
      unbroken = t.unbroken;
      fits = first-before config.count first due (marks setup before) begun t.fits;
    }) in
    told-begun laws (Finish acked) entry is t.told parts.0
    (retold-told laws is older (finish-tells _ acked (may-again entry older t.told.0)))
retold laws {config = config} {passes = passes} {first = first} sound is due (host.Got bytes ∷ before) t =
    let setup = setup_of config passes in
    let entry = host.Got bytes in
    let new = puts setup (entry ∷ before) in
    let good = goods setup before bytes in
    let ms = marks setup before in
    let parts = open-parts new (good ++ ms) t.open' in
    let more = open-parts good ms parts.1 in
    let begun = begun-by setup (entry ∷ before) (laws.transcripts_are_followed.sound setup (entry ∷ before) is.made t.told) in
    let fits : IsFirst config.count first due (goods (setup_of config passes) before bytes ++ marks (setup_of config passes) before) =
    first-before config.count first due (good ++ ms) begun t.fits in
    let older = retold laws sound is (due_before due good) before (record {
      told = t.told.1;
      come = t.come.1;
      open' = more.1;
      unbroken = t.unbroken;
      fits = λ output register below.
          ap (λ (d : Choice). d (Out output register)) (sym (due_before-append due good ms)) ∙ fits output register below;
    }) in
    let event = Exchange (arrival_for (is_good_answer setup before bytes)) (Bytes (record { items = bytes })) in
    let after = retold-told laws is older (got-tells laws due bytes sound is (t.come.0, more.0) older) in
    told-begun laws event entry is t.told parts.0
    (retold-marks (good ++ ms) due after
    (goods-due laws config passes before bytes sound (t.come.0, are-goods setup before bytes) after.words))
retold laws sound is due (host.Restarted ∷ before) t = absurd t.unbroken

-- Words that are all possible are left by the retelling.

-- what begins to be sent is no answer
puts-accepted : (new ms : List Mark) → ArePuts new → AreAccepted ms → AreAccepted (new ++ ms)
puts-accepted new ms no_put accepted = accepted
puts-accepted new ms (one_put cell word) accepted = accepted
puts-accepted new ms standings_one_restore accepted = accepted

-- a good answer has a word that its cell accepts
goods-accepted : (config : Config) (passes : ℕ) (before : List host.Entry) (bytes : List ℕ) (new ms : List Mark) →
    Came config (host_now (setup_of config passes) before) bytes × AreGoods (setup_of config passes) before bytes new → AreAccepted ms →
    AreAccepted (new ++ ms)
goods-accepted config passes before bytes new ms (came, no_good) accepted = accepted
goods-accepted config passes before bytes new ms (came, one_good read word asked good) accepted =
    ((came.read read word (stage_cell-is (setup_of config passes) before ∙ asked) good).accepted, accepted)

-- all answers have accepted words
come-accepted : (config : Config) (passes : ℕ) (entries : List host.Entry) → AreCome config (setup_of config passes) entries →
    AreAccepted (marks (setup_of config passes) entries)
come-accepted config passes [] come = tt
come-accepted config passes (host.Accepted job ∷ before) come =
    let entries = host.Accepted job ∷ before in
    puts-accepted (puts (setup_of config passes) entries) _ (are-puts (setup_of config passes) entries)
    (come-accepted config passes before come)
come-accepted config passes (host.Finished acked ∷ before) come =
    let entries = host.Finished acked ∷ before in
    puts-accepted (puts (setup_of config passes) entries) _ (are-puts (setup_of config passes) entries)
    (come-accepted config passes before come)
come-accepted config passes (host.Got bytes ∷ before) come =
    let entries = host.Got bytes ∷ before in
    puts-accepted (puts (setup_of config passes) entries) _ (are-puts (setup_of config passes) entries)
    (goods-accepted config passes before bytes _ _ (come.0, are-goods (setup_of config passes) before bytes)
    (come-accepted config passes before come.1))
come-accepted config passes (host.Restarted ∷ before) come = come-accepted config passes before come

-- a word that the cell may hold is possible
possible-is : (cell : Cell) (word : ℕ) (possible : Possible) → may_hold cell word possible ≡ true → is_possible word possible ≡ true
possible-is cell word Any h = refl
possible-is cell word (PossibleWords words) h = h

-- any word is possible if no words are known
any-possible : (ms : List Mark) (cell : Cell) → words_since ms cell ≡ None → possible_of ms cell ≡ Any
unfolding possible_of
any-possible ms cell none = ap possible_from none

-- a word that is due at the start is one that its cell accepts
first-accepted : Below → (chosen : Choice) (ms : List Mark) (cell : Cell) → AreAccepted ms →
    may_hold cell (chosen cell) (possible_of ms cell) ≡ true → cell_accepts cell (due_before chosen ms cell) ≡ true
first-accepted laws chosen ms cell accepted possible =
    elim (is-start laws chosen cell ms accepted) [
      | inl (none, same) ↦
          ap (cell_accepts cell) same ∙ (ap (may_hold cell (chosen cell)) (sym (any-possible ms cell none)) ∙ possible)
      | inr fits ↦ fits
    ]

-- the promise: what the retelling is
pub witness-leaves : Below → {config : Config} {passes : ℕ} {events : List Event} (chosen : Choice) → IsLived config passes events →
    restarted_since_host events ≡ false →
    AreOpen (marks (setup_of config passes) (since_restart (life config passes events).entries)) →
    ArePossible config (now config passes events).host chosen →
    Leaves config passes (since_restart (life config passes events).entries) chosen
    (witness_start config (due_before chosen (marks (setup_of config passes) (since_restart (life config passes events).entries))))
    (witness_events (setup_of config passes) chosen (since_restart (life config passes events).entries))
witness-leaves laws {config = config} {passes = passes} {events = events} chosen lived fresh open' possible =
    let setup = setup_of config passes in
    let entries = since_restart (life config passes events).entries in
    let ms = marks setup entries in
    let first = due_before chosen ms in
    let come = life-came laws config passes events lived fresh in
    let marked = λ (output : ℕ) (register : Reg) (below : output < config.count).
    ap (may_hold (Out output register) (chosen (Out output register)))
    (sym (now-possible laws config passes events (Out output register) lived below)) ∙ possible output register below in
    let sound = witness-sound config first lived.sound (λ output register below.
    first-accepted laws chosen ms (Out output register) (come-accepted config passes entries come) (marked output register below)) in
    let is : IsMade config passes (due_before chosen (marks (setup_of config passes) (since_restart (life config passes events).entries))) =
    record { sound = sound; made = lived.made } in
    let r = retold laws lived.sound is chosen entries (record {
      told = (since-same laws.transcripts_are_followed setup (life config passes events).entries lived.made (life-told config passes events lived.legal)).told;
      come = come;
      open' = open';
      unbroken = since-unbroken (life config passes events).entries;
      fits = λ output register below. refl;
    }) in
    record {
      alike = witness-like config first lived.sound;
      sound = sound;
      made = can-be-made laws config (witness_start config first) passes sound lived.made refl;
      steady = r.steady;
      legal = r.legal;
      told = r.told;
      left = λ output register below.
          let cell = Out output register in
          r.words.has output register below (possible-is cell (chosen cell) (possible_of ms cell) (marked output register below));
    }

-- What a converter commands lies in the band that its host gives, and each end of the band is met.

-- the band that a host gives is that of the converter's format
pub band-of : (elsewhere : Bool) (format : Option Shape) (known : Shape → Known) (bytes : List ℕ) (own : Shape) (band : Band) →
    ((shape : Shape) → format ≡ Some shape → shape ≡ own) →
    cond elsewhere None (option_map (λ shape. band_with shape (known shape) bytes) format) ≡ Some band →
    band_with own (known own) bytes ≡ band
band-of true format known bytes own band agree is = cc
band-of false None known bytes own band agree is = cc
band-of false (Some shape) known bytes own band agree is =
    let same : band_with shape (known shape) bytes ≡ band = cc in
    ap (λ (s : Shape). band_with s (known s) bytes) (sym (agree shape refl)) ∙ same

-- a word is possible where it is the only one
pub alone : (word only_word : ℕ) → word ≡ only_word → is_possible word (only only_word) ≡ true
alone word only_word is = grind (arith, nat_tests)

-- a word that decides is possible
pub stands : (possible : Possible) (word : ℕ) → (possible ≢ Any → is_possible word possible ≡ true) → is_possible word possible ≡ true
stands Any word held = refl
stands (PossibleWords words) word held = held (λ (e : PossibleWords words ≡ Any). cc)

-- a word is possible that is the one of a missing register, or that the host calls possible
pub here-possible : (missing : Option ℕ) (possible : Possible) (word : ℕ)
    → ((stands_at : ℕ) → missing ≡ Some stands_at → word ≡ stands_at) →
    is_possible word possible ≡ true → is_possible word (option_map_or only missing possible) ≡ true
here-possible None possible word holds is = is
here-possible (Some stands_at) possible word holds is = alone word stands_at (holds stands_at refl)

-- an output commands a voltage in the host's band, where no restart came since the good answers that the band rests on
pub in-band : Below → {config : Config} {passes : ℕ} {events : List Event} (part : PartRegisters) (output : ℕ) (band : Band) →
    IsLived config passes events → IsSpelled config → output < config.count →
    AreShort (now config passes events).device.words output →
    BandStands config passes events (now config passes events).host output →
    HoldsMissing part config (now config passes events).device.words output →
    band_at part (now config passes events).host output ≡ Some band → InBand band (commands config passes events output)
in-band laws {config = config} {passes = passes} {events = events} part output band lived spelled here short stand holds is =
    let s = (now config passes events).host in
    let words = (now config passes events).device.words in
    let shape = shape_for config output in
    let known = known_of_output part shape s output in
    let agree = formats-agree laws config passes events lived spelled in
    let same = band-of (may_select_avsbus (possible_at s (Out output Operation))) (format_at s output)
    (λ f. known_of_output part f s output) (operations (possible_at s (Out output Operation))) shape band (agree.held output) is in
    let held = possible-held laws config passes events lived in
    let possible = λ (register : Reg) (d : decides known register ≡ true).
    here-possible (missing_word part shape register) (possible_at s (Out output register)) (word_at words (Out output register))
    (holds register)
    (stands (possible_at s (Out output register)) (word_at words (Out output register))
    (λ (n : possible_at s (Out output register) ≢ Any). held.held (Out output register) here (stand register d n))) in
    let dens = sound-dens config output lived.sound here in
    subst (λ (b : Band). InBand b (commands config passes events output)) same
    (record {
      from_least = band-held Lowest shape known words output dens possible short;
      to_greatest = band-held Highest shape known words output dens possible short;
    })

-- a list of words has one
abbrev pub IsFilled : List ℕ → Type 0
IsFilled [] = ⊥
IsFilled (word ∷ words) = Unit {0}

-- no list of words was found, or one that has a word
abbrev AreFilled : Option (List ℕ) → Type 0
AreFilled None = Unit {0}
AreFilled (Some words) = IsFilled words

-- with one more word in front, a list that was found has a word, and none is found where none was
more-filled : (word : ℕ) (words : Option (List ℕ)) → AreFilled words → AreFilled (option_map (λ ws. word ∷ ws) words)
more-filled word None h = tt
more-filled word (Some words) h = tt

-- what a test picks of two findings is none or a list that has a word, where each of the two is
either : (b : Bool) (x y : Option (List ℕ)) → AreFilled x → AreFilled y → AreFilled (cond b x y)
either true x y p q = p
either false x y p q = q

-- the words of a cell since its last good answer are none, or a list that has a word
since-filled : (ms : List Mark) (cell : Cell) → AreFilled (words_since ms cell)
since-filled [] cell = tt
since-filled (MarksRestart ∷ before) cell = tt
since-filled (Restored ∷ before) cell =
    either (is_output_cell cell) None (words_since before cell) tt (since-filled before cell)
since-filled (Put put word ∷ before) cell =
    either (same_cell put cell) (option_map (λ words. word ∷ words) (words_since before cell)) (words_since before cell)
    (more-filled word (words_since before cell) (since-filled before cell)) (since-filled before cell)
since-filled (Good read word ∷ before) cell =
    either (same_cell read cell) (Some (word ∷ [])) _ tt
    (either (is_possible word (possible_from (words_since before read))) (words_since before cell) None
    (since-filled before cell) tt)

-- a list that has a word still has one where each word is left only where it first stands
once-filled : (words : List ℕ) → IsFilled words → IsFilled (once words)
once-filled [] h = h
once-filled (word ∷ words) h = tt

-- the length of a list that has a word is above zero
filled-length : (words : List ℕ) → IsFilled words → 0 < length words
filled-length [] h = absurd h
filled-length (word ∷ words) h = omega arith

-- a list whose length is above zero has a word
length-filled : (words : List ℕ) → 0 < length words → IsFilled words
length-filled [] h = omega arith
length-filled (word ∷ words) h = tt

-- a list that has a word has one when it is reversed
reverse-filled : (words : List ℕ) → IsFilled words → IsFilled (reverse words)
reverse-filled words h =
    length-filled (reverse words) (subst (λ (n : ℕ). 0 < n) (sym (length-reverse words)) (filled-length words h))

-- any word is possible, or those of a list that has a word
abbrev pub PossibleFilled : Possible → Type 0
PossibleFilled Any = Unit {0}
PossibleFilled (PossibleWords words) = IsFilled words.items

-- some word is possible where a list that has a word was found, and where none was
from-filled : (found : Option (List ℕ)) → AreFilled found → PossibleFilled (possible_from found)
from-filled None h = tt
from-filled (Some listed) h = once-filled (reverse listed) (reverse-filled listed h)

-- whatever the marks are, some word is possible for each cell
pub of-filled : (ms : List Mark) (cell : Cell) → PossibleFilled (possible_of ms cell)
unfolding possible_of
of-filled ms cell = from-filled (words_since ms cell) (since-filled ms cell)

-- the farthest of listed words is one of them
pub listed-is : (side : Side) (value : ℕ → Ratio) (words : List ℕ) → IsFilled words → is_listed (farthest_of side value words) words ≡ true
listed-is side value [] h = absurd h
listed-is side value (word ∷ words) h = farthest_of-is side value word words

-- each of the three bytes that stand for all is accepted
accepted : (byte : ℕ) → is_listed byte (0x80 ∷ 0xA8 ∷ 0x94 ∷ []) ≡ true → is_operation byte ≡ true
accepted byte h = go (0x80 == byte) (0xA8 == byte) (0x94 == byte) refl refl refl h where
  go : (on high low : Bool) → (0x80 == byte) ≡ on → (0xA8 == byte) ≡ high → (0x94 == byte) ≡ low →
      (on || (high || (low || false))) ≡ true → is_operation byte ≡ true
  go true high low a b c h' =
      let it : 0x80 ≡ byte = grind (arith, nat_tests) in subst (λ n. is_operation n ≡ true) it refl
  go false true low a b c h' =
      let it : 0xA8 ≡ byte = grind (arith, nat_tests) in subst (λ n. is_operation n ≡ true) it refl
  go false false true a b c h' =
      let it : 0x94 ≡ byte = grind (arith, nat_tests) in subst (λ n. is_operation n ≡ true) it refl
  go false false false a b c h' = cc

-- a missing register that stands at a word is a voltage
missing-voltage : (part : PartRegisters) (shape : Shape) (register : Reg) (word : ℕ) → missing_word part shape register ≡ Some word →
    is_voltage register ≡ true
missing-voltage part shape Operation word is = cc
missing-voltage part shape register word is = refl

-- the words of an end are possible
voltage-held : (side : Side) (shape : Shape) (output : ℕ) (register : Reg) (possible : Possible) → is_voltage register ≡ true →
    PossibleFilled possible →
    may_hold (Out output register) (farthest_word side shape (shape_value shape) possible) possible ≡ true
voltage-held side shape output register Any voltage full =
    ap (λ (b : Bool). b || is_operation (farthest_word side shape (shape_value shape) Any)) voltage
voltage-held side shape output register (PossibleWords words) voltage full = listed-is side (shape_value shape) words.items full

-- no listed byte is one that OPERATION doesn't take
abbrev AreTakenBytes : Possible → Type 0
AreTakenBytes Any = Unit {0}
AreTakenBytes (PossibleWords words) = list_any is_untaken words.items ≡ false

-- the byte that reaches farthest of those that OPERATION may be is possible for OPERATION
operation-held : (side : Side) (value : ℕ → Ratio) (output : ℕ) (possible : Possible) → PossibleFilled possible →
    AreTakenBytes possible → may_hold (Out output Operation) (farthest_of side value (operations possible)) possible ≡ true
operation-held side value output Any full taken =
    accepted (farthest_of side value (operations Any)) (farthest_of-is side value 0x80 (0xA8 ∷ 0x94 ∷ []))
operation-held side value output (PossibleWords words) full taken =
    ap (λ (b : Bool). is_listed (farthest_of side value (cond b each_selection words.items)) words.items) taken
    ∙ listed-is side value words.items full

-- the word with which a register lets its output command an end of the band is possible for the register
choice-held : (side : Side) (shape : Shape) (output : ℕ) (known : Known) (register : Reg) → PossibleFilled (known register) →
    AreTakenBytes (known Operation) →
    may_hold (Out output register) (end_choice side shape known register) (known register) ≡ true
choice-held side shape output known Operation full taken =
    operation-held side (reach side shape known) output (known Operation) full taken
choice-held side shape output known register full taken = voltage-held side shape output register (known register) refl full

-- some word of those that are possible
pick : Possible → ℕ
pick Any = 0x80
pick (PossibleWords words) = farthest_of Lowest (λ w. micros (pos 0)) words.items

-- every cell may hold it
pick-held : (output : ℕ) (register : Reg) (possible : Possible) → PossibleFilled possible →
    may_hold (Out output register) (pick possible) possible ≡ true
unfolding pick
pick-held output Operation Any full = refl
pick-held output register Any full = refl
pick-held output register (PossibleWords words) full = listed-is Lowest (λ w. micros (pos 0)) words.items full

-- each cell's word is some possible one, but for this cell
picked : Summary → Cell → ℕ → Choice
picked s cell word = with_due (λ other. pick (possible_at s other)) cell word

picked-held : Below → (s : Summary) (output : ℕ) (byte : ℕ) (other : ℕ) (register : Reg)
    → PossibleFilled (possible_at s (Out other register)) →
    may_hold (Out output Operation) byte (possible_at s (Out output Operation)) ≡ true →
    may_hold (Out other register) (picked s (Out output Operation) byte (Out other register)) (possible_at s (Out other register)) ≡ true
unfolding picked
picked-held laws s output byte other register full may = go (same_cell (Out output Operation) (Out other register)) refl where
  go : (same : Bool) → same_cell (Out output Operation) (Out other register) ≡ same →
      may_hold (Out other register) (cond same byte (pick (possible_at s (Out other register)))) (possible_at s (Out other register)) ≡ true
  go true e = subst (λ (c : Cell). may_hold c byte (possible_at s c) ≡ true) (same-cells laws (Out output Operation) (Out other register) e)
      may
  go false e = pick-held other register (possible_at s (Out other register)) full

-- no listed byte is untaken if each is taken
all-taken : (bytes : List ℕ) → ((byte : ℕ) → is_listed byte bytes ≡ true → is_operation byte ≡ true) → list_any is_untaken bytes ≡ false
all-taken [] each = refl
all-taken (byte ∷ bytes) each =
    let first = each byte (or-here (byte == byte) (is_listed byte bytes) (same-number byte)) in
    ap (λ (b : Bool). not b || list_any is_untaken bytes) first
    ∙ all-taken bytes (λ other listed. each other (or-there (byte == other) (is_listed other bytes) listed))
  where
    or-here : (a b : Bool) → a ≡ true → (a || b) ≡ true
    or-here a b h = cc

    or-there : (a b : Bool) → b ≡ true → (a || b) ≡ true
    or-there true b h = refl
    or-there false b h = h

    same-number : (n : ℕ) → (n == n) ≡ true
    same-number n = grind (arith, nat_tests)

-- the host holds a word for each cell, or any
filled-at : Below → {config : Config} {passes : ℕ} {events : List Event} → IsLived config passes events → (output : ℕ) (register : Reg) →
    output < config.count → PossibleFilled (possible_at (now config passes events).host (Out output register))
filled-at laws {config = config} {passes = passes} {events = events} lived output register here =
    let held = possible-held laws config passes events lived in
    subst PossibleFilled (sym (held.possible (Out output register) here))
    (of-filled (marks (setup_of config passes) (life config passes events).entries) (Out output register))

-- Each byte that OPERATION may be is one that it takes: some life that tells the host the same leaves it in the cell.
bytes-taken : Below → {config : Config} {passes : ℕ} {events : List Event} → IsLived config passes events →
    restarted_since_host events ≡ false →
    AreOpen (marks (setup_of config passes) (since_restart (life config passes events).entries)) →
    (output : ℕ) → output < config.count → AreTakenBytes (possible_at (now config passes events).host (Out output Operation))
unfolding picked
bytes-taken laws {config = config} {passes = passes} {events = events} lived fresh open' output here =
    go (possible_at (now config passes events).host (Out output Operation)) refl
  where
    one : (byte : ℕ) → may_hold (Out output Operation) byte (possible_at (now config passes events).host (Out output Operation)) ≡ true →
        is_operation byte ≡ true
    one byte may =
        let s = (now config passes events).host in
        let chosen = picked s (Out output Operation) byte in
        let leaves = witness-leaves laws chosen lived fresh open'
        (λ other register there. picked-held laws s output byte other register (filled-at laws lived other register there) may) in
        let here' = chosen-accepted laws lived leaves output Operation here in
        subst (λ (n : ℕ). is_operation n ≡ true) (itself output byte) here'
      where
        itself : (o b : ℕ) → cond (same_cell (Out o Operation) (Out o Operation)) b
            (pick (possible_at (now config passes events).host (Out o Operation))) ≡ b
        itself o b = ap (λ (t : Bool). cond t b (pick (possible_at (now config passes events).host (Out o Operation))))
            (same_cell-itself (Out o Operation))

    go : (possible : Possible) → possible_at (now config passes events).host (Out output Operation) ≡ possible → AreTakenBytes possible
    go Any e = tt
    go (PossibleWords words) e = all-taken words.items
        (λ byte listed. one byte (subst (λ (p : Possible). may_hold (Out output Operation) byte p ≡ true) (sym e) listed))

-- the words with which the outputs command ends of their bands, each at a side of its choice, are possible
pub ends-possible : Below → {config : Config} {passes : ℕ} {events : List Event} (part : PartRegisters) (sides : ℕ → Side) →
    IsLived config passes events → restarted_since_host events ≡ false →
    AreOpen (marks (setup_of config passes) (since_restart (life config passes events).entries)) →
    MissingUntold part config (now config passes events).host →
    ArePossible config (now config passes events).host (end_choices part config (now config passes events).host sides)
ends-possible laws {config = config} {passes = passes} {events = events} part sides lived fresh open' untold output register here =
    go (missing_word part (shape_for config output) register) refl
  where
    go : (missing : Option ℕ) → missing_word part (shape_for config output) register ≡ missing →
        may_hold (Out output register) (end_choice (sides output) (shape_for config output) (known_of_output part (shape_for config output)
        (now config passes events).host output) register) (possible_at (now config passes events).host (Out output register)) ≡ true
    go None e =
        let known = known_of_output part (shape_for config output) (now config passes events).host output in
        let as_told : known register ≡ possible_at (now config passes events).host (Out output register)
        = ap (λ (o : Option ℕ). option_map_or only o (possible_at (now config passes events).host (Out output register))) e in
        subst (λ (p : Possible). may_hold (Out output register) (end_choice (sides output) (shape_for config output) known register) p
        ≡ true)
        as_told
        (choice-held (sides output) (shape_for config output) output known register
        (subst PossibleFilled (sym as_told) (filled-at laws lived output register here))
        (bytes-taken laws lived fresh open' output here))
    go (Some word) e =
        let known = known_of_output part (shape_for config output) (now config passes events).host output in
        let choice = end_choice (sides output) (shape_for config output) known register in
        subst (λ (p : Possible). may_hold (Out output register) choice p ≡ true) (sym (untold output register word here e))
        (ap (λ (b : Bool). b || is_operation choice) (missing-voltage part (shape_for config output) register word e))

-- each output commands its end by these words
side-is : (side : Side) (shape : Shape) (known : Known) (bytes : List ℕ) (band : Band) → band_with shape known bytes ≡ band →
    end_with side shape known bytes ≡ side_end side band
side-is Lowest shape known bytes band is = ap (λ (b : Band). b.least) is
side-is Highest shape known bytes band is = ap (λ (b : Band). b.greatest) is

-- an output commands an end of the host's band after events that leave the words of that end in its cells
pub end-left : Below → {config : Config} {passes : ℕ} {events : List Event} (part : PartRegisters) (sides : ℕ → Side)
    → IsLived config passes events →
    IsSpelled config → (entries : List Entry) (first : Config) (retold : List Event) →
    Leaves config passes entries (end_choices part config (now config passes events).host sides) first retold →
    (output : ℕ) (band : Band) → output < config.count → band_at part (now config passes events).host output ≡ Some band →
    commands first passes retold output ≡ side_end (sides output) band
end-left laws {config = config} {passes = passes} {events = events} part sides lived spelled entries first retold leaves output band here is
    =
    let s = (now config passes events).host in
    let shape = shape_for config output in
    let known = known_of_output part shape s output in
    let words = (now first passes retold).device.words in
    let agree = formats-agree laws config passes events lived spelled in
    let same = band-of (may_select_avsbus (possible_at s (Out output Operation))) (format_at s output)
    (λ f. known_of_output part f s output) (operations (possible_at s (Out output Operation))) shape band (agree.held output) is in
    ap (λ (x : Shape). commanded (shape_value x) words output) (leaves.alike.shapes output here)
    ∙ band-reached (sides output) shape known words output (λ register. leaves.left output register here)
    ∙ side-is (sides output) shape known (operations (known Operation)) band same
