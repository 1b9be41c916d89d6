-- A life beside a part, with reads between, as one in the narrow sense, and how an open job ends there.
use Rattle.std.specs.List.{list_all, list_any}
use Rattle.std.specs.Option.{option_or, option_map_or}
use Rattle.std.specs.Prelude.{option_to_list, slice_index, ◌≤◌, ◌+◌, bytes_eq, length, option_map}
use Rattle.std.proofs.lemmas.Slice.Eq.{bytes_eq-Decides}
use Rattle.std.proofs.Common.{◌≡◌, ◌<◌, ◌^◌, ℕ, Bool, true, false, not, cond, List, [], ◌∷◌, ◌++◌, Option, Some, None, refl, sym, ◌∙◌, ap}
use Rattle.std.proofs.Common.{ap₂, subst, append_assoc, ◌||◌, ◌&&◌}
use Rattle.pm_table.specs.{VoutMode.mode_of, declared.cell.Cell.Cell, declared.cell.Cell.TheVariants.Out, declared.reg.Reg.Reg}
use Rattle.pm_table.specs.RuleLemmas.{or-none, rule-none}
use Rattle.pm_frame.specs.{Fault.whole_answer, declared.message.Message.Message}
use Rattle.pm_frame.specs.Laws.{BetrayalIsRefused, DamageIsRefused, RequestsAreExact, WritesAreExact}
use Rattle.pm_frame.specs.Layout.{IsRequest, IsWrite, fits_layout, is_read_message, sent, with_pec}
use Rattle.pm_model.specs.Settings.{Words, word_at}
use Rattle.pm_device.specs.{Held.Held, Laws.WritesReachOneCell, Reply.reply_of, declared.config.Config.Config}
use Rattle.pm_device.specs.{declared.converter.Ending.Ending}
use Rattle.pm_device.specs.Effect as device
use Rattle.pm_device.specs.History.{after_outcome as device_after_outcome, device_next}
use Rattle.pm_device.specs.declared.converter.Ending.TheVariants.{Restart, Stop}
use Rattle.pm_host.specs.{Frames.frames_left, Messages.cell_read, Now.host_now, Question.question_message}
use Rattle.pm_host.specs.{declared.job.JobEnd.JobEnd, declared.stage.Stage.Stage}
use Rattle.pm_host.specs.Laws.{FramesAreNamed, TranscriptsAreFollowed}
use Rattle.pm_host.specs.Summary.{Summary, sending_in, start, host_next, step_of, stage_message}
use Rattle.pm_host.specs.Transcript as host
use Rattle.pm_host.specs.Transcript.{Entry, Accepted, Got, Job}
use Rattle.pm_host.specs.declared.question.Question.TheVariants.{Word, Mode, Coefficients}
use Rattle.pm_host.specs.declared.stage.Stage.TheVariants.{Asks, Reads, Sends, Writes}
use Rattle.pm_world.specs.{Laws.LivesAreFollowed, Lemmas.Orders.told-asked, Lived.IsLived, Retelling.WasOrdered, Setup.setup_of}
use Rattle.pm_world.specs.{declared.event.Arrival.Arrival, declared.event.Back.Back, declared.event.Event.Event}
use Rattle.pm_world.specs.GoodBus.{IsRead, IsWritten, comes_whole, delivers_whole, word_held_after, is_beside, is_reading_change}
use Rattle.pm_world.specs.GoodBus.{stage_after}
use Rattle.pm_world.specs.GoodTurns.{ComeWhole, ComesWhole, OpenJobsEnd, Took, Turn, good_end, good_end_by, mode_turn, read_turn, turn_of}
use Rattle.pm_world.specs.Legal.{answer_in, back_bytes, ending_of, frame_of, heard_bytes, heard_ending, is_heard_whole, is_legal_hearing}
use Rattle.pm_world.specs.Legal.{is_legal_return}
use Rattle.pm_world.specs.Lemmas.{entries-more, now-config}
use Rattle.pm_world.specs.Life.{life, now, state_of}
use Rattle.pm_world.specs.Parts.{IsPart, IsReached, PartsAreReached, StoredConfigsStartSo, stored_config}
use Rattle.pm_world.specs.State.{HasWord, Share, State, answer_to, asked, delivery_cause, device_after, delivered, end_after, event_cause}
use Rattle.pm_world.specs.State.{exchange_cause, exchanged, host_after, next, no_share, rule, share_of, tells}
use Rattle.pm_world.specs.declared.cause.Cause.TheVariants.{NotBetrayed, WrongKind}
use Rattle.pm_world.specs.declared.event.Arrival.TheVariants as arrival
use Rattle.pm_world.specs.declared.event.Back.TheVariants as back
use Rattle.pm_world.specs.declared.event.Event.TheVariants.{Order, OrderMicro, Check, Learn, Clear, Store, Restore, Deliver, Finish}
use Rattle.pm_world.specs.declared.event.Event.TheVariants.{Exchange, RestartDevice, RestartHost, Reading}
use Rattle.pm_part_laws.specs.Moves.{words_at_beside}
use Rattle.pm_part_laws.specs.Alike.{SameSettingsLiveAlike, back_of, came, event_like, narrow, with_host_restart, LivesAlike}
use Rattle.pm_part_laws.specs.Happenings.{Happening, Happens, Hears, MayAllHappen, begun_beside, beside, entries_beside}
use Rattle.pm_part_laws.specs.Lemmas.Narrow.{at, at-more, at-since, config, earlier-may, modes-at, since}
use Rattle.pm_part_laws.specs.Lemmas.Pageless.{IsHeardPageless, after-same, answer_of, comes-same, own-same, request-pageless, settings-of}
use Rattle.pm_part_laws.specs.Lemmas.Pageless.{write-pageless, heard-so}
use Rattle.pm_part_laws.specs.OpenJobs.{ComeWholeBeside, ComesWholeBeside, IsReadBeside, IsWrittenBeside, OpenJobsEndBeside, delivers}
use Rattle.pm_part_laws.specs.OpenJobs.{good_end_at, is_beside_or_heard, is_reading_or_heard, turn_at}
use Rattle.pm_part_laws.specs.Settings.{HaveSameSettings, KeepsSettings, modes_of, moved}

-- A life beside a part, with reads between, as one in the narrow sense.

pub record Given : Type 0 where
  pub followed : LivesAreFollowed
  pub requests : RequestsAreExact
  pub writes : WritesAreExact
  pub damage : DamageIsRefused
  pub betrayal : BetrayalIsRefused
  pub reach : WritesReachOneCell
  pub parts : PartsAreReached
  pub stored : StoredConfigsStartSo
  pub named : FramesAreNamed
  pub told : TranscriptsAreFollowed

-- ---- the two lives at a moment ----

-- a life in the narrow sense led to this host, and to the settings of this converter
pub record Is (config : Config) (passes : ℕ) (events : List Event) (host : Summary) (held : Held) (end : Option JobEnd) : Type 0 where
  pub lived : IsLived config passes events
  pub host_is : (now config passes events).host ≡ host
  pub settings : HaveSameSettings (now config passes events).device held
  pub ended : (now config passes events).end ≡ end

-- a life in the narrow sense led to this host and converter
abbrev IsOf : Config → ℕ → List Event → State → Type 0
IsOf config passes events s = Is config passes events s.host s.device s.end

-- one more event
grow : Given → {config : Config} {passes : ℕ} {before : List Event} {host : Summary} {held : Held} {end : Option JobEnd} →
    (event : Event) (share : Share) → Is config passes before host held end →
    event_cause (now config passes before) event ≡ None → HasWord (now config passes before) event →
    share_of (now config passes before) event ≡ share → IsHeardPageless held.config.addr share.heard →
    Is config passes (event ∷ before) (host_after host share.told) (device_after held share.heard) (end_after host end share.told)
unfolding next
grow laws {config = config} {passes = passes} {before = before} {host = host} {held = held} {end = end} event share is free word tells pageless =
    let lived : IsLived config passes (event ∷ before) = record {
      sound = is.lived.sound;
      made = is.lived.made;
      legal = (record { free = free; word = word }, is.lived.legal);
    } in
    let more = laws.followed.more config passes before event lived in
    let s = now config passes before in
    record {
      lived = lived;
      host_is = ap (λ (t : State). t.host) more ∙ (ap (λ (w : Share). host_after s.host w.told) tells
          ∙ ap (λ h. host_after h share.told) is.host_is);
      settings = subst (λ (d : Held). HaveSameSettings d (device_after held share.heard))
          (sym (ap (λ (t : State). t.device) more ∙ ap (λ (w : Share). device_after s.device w.heard) tells))
          (after-same laws.reach s.device held share.heard pageless is.settings);
      ended = ap (λ (t : State). t.end) more ∙ (ap (λ (w : Share). end_after s.host s.end w.told) tells
          ∙ ap₂ (λ h e. end_after h e share.told) is.host_is is.ended);
    }

-- ---- events that the converter's answer doesn't stand in ----

abbrev is_exchange : Event → Bool
is_exchange (Exchange arrival so) = true
is_exchange _ = false

-- an event means the same to two states with one host
record Alike (n s : State) (event : Event) : Type 0 where
  cause : event_cause n event ≡ event_cause s event
  word : HasWord s event → HasWord n event
  share : share_of n event ≡ share_of s event

by-host : (n s : State) (event : Event) → is_exchange event ≡ false → Alike n (record s { host = n.host }) event
by-host n s (Order cell word) plain = record { cause = refl; word = λ w. w; share = refl }
by-host n s (OrderMicro cell x) plain = record { cause = refl; word = λ w. w; share = refl }
by-host n s (Check cell) plain = record { cause = refl; word = λ w. w; share = refl }
by-host n s (Learn output) plain = record { cause = refl; word = λ w. w; share = refl }
by-host n s (Clear output) plain = record { cause = refl; word = λ w. w; share = refl }
by-host n s Store plain = record { cause = refl; word = λ w. w; share = refl }
by-host n s Restore plain = record { cause = refl; word = λ w. w; share = refl }
by-host n s (Deliver arrival) plain = record { cause = refl; word = λ w. w; share = delivers (sending_in n.host) } where
  delivers : (message : Option Message) → delivered n arrival message ≡ delivered (record s { host = n.host }) arrival message
  delivers None = refl
  delivers (Some message) = refl
by-host n s (Finish acked) plain = record { cause = refl; word = λ w. w; share = refl }
by-host n s (Exchange arrival so) plain = cc
by-host n s RestartDevice plain = record { cause = refl; word = λ w. w; share = refl }
by-host n s RestartHost plain = record { cause = refl; word = λ w. w; share = refl }
by-host n s (Reading output code word) plain = record { cause = refl; word = λ w. w; share = refl }

alike : (n s : State) (event : Event) → is_exchange event ≡ false → n.host ≡ s.host → Alike n s event
alike n s event plain same = subst (λ (h : Summary). Alike n (record s { host = h }) event) same (by-host n s event plain)

-- ---- what a host sends ----

not-false : (b : Bool) → not b ≡ false → b ≡ true
not-false true is = cc
not-false false is = cc

-- the message that the host of a life sends has its layout
sends-fits : Given → {config : Config} {passes : ℕ} {events : List Event} {host : Summary} {held : Held} {end : Option JobEnd} →
    Is config passes events host held end → (message : Message) → sending_in host ≡ Some message → fits_layout message ≡ true
unfolding now state_of
sends-fits laws {config = config} {passes = passes} {events = events} is message sends =
    let setup = setup_of config passes in
    let entries = (life config passes events).entries in
    laws.named.fits setup message (laws.named.named setup entries message is.lived.made (laws.followed.told config passes events is.lived)
    (sym (laws.told.sending setup entries) ∙ (ap sending_in is.host_is ∙ sends)))

-- the host sends to the converter's address
own-address : {config : Config} {passes : ℕ} {events : List Event} {host : Summary} {held : Held} {end : Option JobEnd} →
    Is config passes events host held end → host.setup.addr ≡ held.config.addr
unfolding now state_of host_now
own-address {config = config} {passes = passes} {events = events} is =
    ap (λ (h : Summary). h.setup.addr) (sym is.host_is)
    ∙ (ap (λ (c : Config). c.addr) (sym (now-config config passes events)) ∙ ap (λ (d : Held). d.config.addr) is.settings.same)

-- the frame that the host of a life sends, of a write and of a request
sends-write : Given → {config : Config} {passes : ℕ} {events : List Event} {host : Summary} {held : Held} {end : Option JobEnd} →
    Is config passes events host held end → (message : Message) → sending_in host ≡ Some message → is_read_message message ≡ false →
    IsWrite host.setup.addr message (frame_of host.setup.addr message)
unfolding frame_of
sends-write laws {host = host} is message sends writes = record {
  writes = writes;
  fits = sends-fits laws is message sends;
  spelled = ap (λ b. cond b (sent host.setup.addr message) (with_pec [] (sent host.setup.addr message))) writes;
}

sends-request : Given → {config : Config} {passes : ℕ} {events : List Event} {host : Summary} {held : Held} {end : Option JobEnd} →
    Is config passes events host held end → (message : Message) → sending_in host ≡ Some message → is_read_message message ≡ true →
    IsRequest host.setup.addr message (frame_of host.setup.addr message)
unfolding frame_of
sends-request laws {host = host} is message sends reads = record {
  reads = reads;
  fits = sends-fits laws is message sends;
  spelled = ap (λ b. cond b (sent host.setup.addr message) (with_pec [] (sent host.setup.addr message))) reads;
}

-- ---- what is heard depends on no PAGE ----

job-pageless : (addr : ℕ) (job : Option Job) →
    IsHeardPageless addr (option_map_or (λ j. tells (Accepted j)) job no_share).heard
job-pageless addr None = tt
job-pageless addr (Some job) = tt

pageless : Given → {config : Config} {passes : ℕ} {events : List Event} (s : State) → IsOf config passes events s → (event : Event) →
    is_exchange event ≡ false → event_cause s event ≡ None → IsHeardPageless s.device.config.addr (share_of s event).heard
pageless laws s is (Order cell word) plain free = job-pageless s.device.config.addr (asked s (Order cell word))
pageless laws s is (OrderMicro cell x) plain free = job-pageless s.device.config.addr (asked s (OrderMicro cell x))
pageless laws s is (Check cell) plain free = job-pageless s.device.config.addr (asked s (Check cell))
pageless laws s is (Learn output) plain free = job-pageless s.device.config.addr (asked s (Learn output))
pageless laws s is (Clear output) plain free = job-pageless s.device.config.addr (asked s (Clear output))
pageless laws s is Store plain free = job-pageless s.device.config.addr (asked s Store)
pageless laws s is Restore plain free = job-pageless s.device.config.addr (asked s Restore)
pageless laws s is (Finish acked) plain free = tt
pageless laws s is (Exchange arrival so) plain free = cc
pageless laws s is RestartDevice plain free = tt
pageless laws s is RestartHost plain free = tt
pageless laws s is (Reading output code word) plain free = tt
pageless laws s is (Deliver arrival) plain free = go (sending_in s.host) refl free where
  go : (m : Option Message) → sending_in s.host ≡ m → option_or None (delivery_cause s arrival m) ≡ None →
      IsHeardPageless s.device.config.addr (delivered s arrival m).heard
  go None e none = tt
  go (Some message) e none =
      let one = or-none (rule (is_read_message message) WrongKind) _ none in
      let frame = frame_of s.host.setup.addr message in
      subst (λ a. IsHeardPageless a (Some (device.Hearing (heard_bytes frame arrival) (heard_ending message arrival)))) (own-address is)
      (write-pageless laws.writes laws.damage laws.betrayal s.host message frame (heard_bytes frame arrival) (heard_ending message arrival) e
      (sends-write laws is message e (rule-none (is_read_message message) WrongKind one.0))
      (not-false _ (rule-none _ NotBetrayed one.1)))

-- ---- an exchange ----

-- what a legal exchange says
pub record Exchanged (s : State) (arrival : Arrival) (so : Back) : Type 0 where
  pub message : Message
  pub sending : sending_in s.host ≡ Some message
  pub reads : is_read_message message ≡ true
  pub legal : is_legal_hearing (frame_of s.host.setup.addr message) (heard_bytes (frame_of s.host.setup.addr message) arrival)
      (ending_of Restart arrival) ≡ true
  pub returned : is_legal_return (frame_of s.host.setup.addr message) (whole_answer message)
      (is_heard_whole (frame_of s.host.setup.addr message) (heard_bytes (frame_of s.host.setup.addr message) arrival) (ending_of Restart arrival))
      (answer_of s.device (frame_of s.host.setup.addr message) arrival)
      (back_bytes (answer_of s.device (frame_of s.host.setup.addr message) arrival) so) ≡ true

pub exchanges : (s : State) (arrival : Arrival) (so : Back) → event_cause s (Exchange arrival so) ≡ None → Exchanged s arrival so
exchanges s arrival so free = go (sending_in s.host) refl free where
  go : (m : Option Message) → sending_in s.host ≡ m → option_or None (exchange_cause s arrival so m) ≡ None → Exchanged s arrival so
  go None e none = cc
  go (Some message) e none =
      let one = or-none (rule (not (is_read_message message)) WrongKind) _ none in
      let reads = not-false (is_read_message message) (rule-none (not (is_read_message message)) WrongKind one.0) in
      let two = or-none _ _ one.1 in
      let frame = frame_of s.host.setup.addr message in
      let heard = heard_bytes frame arrival in
      record {
        message = message;
        sending = e;
        reads = reads;
        legal = subst (λ b. is_legal_hearing frame heard (ending_of (cond b Restart Stop) arrival)
            ≡ true) reads (not-false _ (rule-none _ NotBetrayed two.0));
        returned = subst (λ b. is_legal_return frame (whole_answer message) (is_heard_whole frame heard (ending_of (cond b Restart Stop) arrival))
            (answer_in (reply_of s.device heard (ending_of (cond b Restart Stop) arrival)))
            (back_bytes (answer_in (reply_of s.device heard (ending_of (cond b Restart Stop) arrival))) so) ≡ true) reads
            (not-false _ (rule-none _ NotBetrayed two.1));
      }

-- an exchange is against nothing, if it says this
pub exchange-free : (s : State) (arrival : Arrival) (so : Back) → Exchanged s arrival so → event_cause s (Exchange arrival so) ≡ None
exchange-free s arrival so is =
    let frame = frame_of s.host.setup.addr is.message in
    let heard = heard_bytes frame arrival in
    ap (exchange_cause s arrival so) is.sending
    ∙ (ap (λ b. option_or (rule (not b) WrongKind) (option_or
    (rule (not (is_legal_hearing frame heard (ending_of (cond b Restart Stop) arrival))) NotBetrayed)
    (rule (not (is_legal_return frame (whole_answer is.message) (is_heard_whole frame heard (ending_of (cond b Restart Stop) arrival))
    (answer_in (reply_of s.device heard (ending_of (cond b Restart Stop) arrival)))
    (back_bytes (answer_in (reply_of s.device heard (ending_of (cond b Restart Stop) arrival))) so))) NotBetrayed))) is.reads
    ∙ ap₂ (λ x y. option_or (rule (not x) NotBetrayed) (rule (not y) NotBetrayed)) is.legal is.returned)

pub exchange-share : (s : State) (arrival : Arrival) (so : Back) (message : Message) → sending_in s.host ≡ Some message → is_read_message message ≡ true →
    share_of s (Exchange arrival so) ≡ record {
      heard = Some (device.Hearing (heard_bytes (frame_of s.host.setup.addr message) arrival) (ending_of Restart arrival));
      told = Some (Got (back_bytes (answer_of s.device (frame_of s.host.setup.addr message) arrival) so));
    }
exchange-share s arrival so message sending reads =
    let frame = frame_of s.host.setup.addr message in
    let share : Bool → Share = λ b. record {
      heard = Some (device.Hearing (heard_bytes frame arrival) (ending_of (cond b Restart Stop) arrival));
      told = Some (Got (back_bytes (answer_in (reply_of s.device (heard_bytes frame arrival) (ending_of (cond b Restart Stop) arrival))) so));
    } in
    ap (exchanged s arrival so) sending ∙ ap share reads

came-is : (s : State) (arrival : Arrival) (so : Back) (message : Message) → sending_in s.host ≡ Some message → is_read_message message ≡ true →
    came s arrival so ≡ back_bytes (answer_of s.device (frame_of s.host.setup.addr message) arrival) so
came-is s arrival so message sending reads =
    let frame = frame_of s.host.setup.addr message in
    ap (λ (o : Option Message). option_map_or (λ (m : Message). back_bytes (answer_to s.device s.host.setup.addr m arrival) so) o []) sending
    ∙ ap (λ b. back_bytes (answer_in (reply_of s.device (heard_bytes frame arrival) (ending_of (cond b Restart Stop) arrival))) so) reads

-- ---- one happening ----

-- what one event makes of both, and what the host is told
record Goes (config : Config) (passes : ℕ) (events : List Event) (s : State) (event : Event) : Type 0 where
  is : IsOf config passes (event_like s event ∷ events) (next s event)
  tells_same : (share_of (now config passes events) (event_like s event)).told ≡ (share_of s event).told

plain-goes : Given → {config : Config} {passes : ℕ} {events : List Event} (s : State) → IsOf config passes events s → (event : Event) →
    is_exchange event ≡ false → event_like s event ≡ event → event_cause s event ≡ None → HasWord s event → Goes config passes events s event
unfolding next
plain-goes laws {config = config} {passes = passes} {events = events} s is event plain itself free word =
    let n = now config passes events in
    let both = alike n s event plain is.host_is in
    record {
      is = subst (λ (e : Event). IsOf config passes (e ∷ events) (next s event)) (sym itself)
          (grow laws event (share_of s event) is (both.cause ∙ free) (both.word word) both.share (pageless laws s is event plain free));
      tells_same = ap (λ (e : Event). (share_of n e).told) itself ∙ ap (λ (w : Share). w.told) both.share;
    }

exchange-goes : Given → {config : Config} {passes : ℕ} {events : List Event} (s : State) → IsOf config passes events s →
    (arrival : Arrival) (so : Back) →
    event_cause s (Exchange arrival so) ≡ None → Goes config passes events s (Exchange arrival so)
unfolding next
exchange-goes laws {config = config} {passes = passes} {events = events} s is arrival so free =
    let n = now config passes events in
    let x = exchanges s arrival so free in
    let addr = s.host.setup.addr in
    let frame = frame_of addr x.message in
    let bytes = came s arrival so in
    let bytes-are = came-is s arrival so x.message x.sending x.reads in
    let request = sends-request laws is x.message x.sending x.reads in
    let same = comes-same frame (whole_answer x.message) s.device n.device arrival so bytes
    (own-same laws.requests n.device s.device s.host x.message frame is.settings x.sending request)
    (record { returned = x.returned; came_is = sym bytes-are }) in
    let back' = back_of arrival so bytes in
    let host-is = is.host_is in
    let n-sends : sending_in n.host ≡ Some x.message = ap sending_in host-is ∙ x.sending in
    let n-addr : addr ≡ n.host.setup.addr = ap (λ (h : Summary). h.setup.addr) (sym host-is) in
    let n-x : Exchanged n arrival back' = record {
      message = x.message;
      sending = n-sends;
      reads = x.reads;
      legal = subst (λ a. is_legal_hearing (frame_of a x.message) (heard_bytes (frame_of a x.message) arrival)
          (ending_of Restart arrival) ≡ true) n-addr x.legal;
      returned = subst (λ a. is_legal_return (frame_of a x.message) (whole_answer x.message)
          (is_heard_whole (frame_of a x.message) (heard_bytes (frame_of a x.message) arrival) (ending_of Restart arrival))
          (answer_of n.device (frame_of a x.message) arrival)
          (back_bytes (answer_of n.device (frame_of a x.message) arrival) back') ≡ true) n-addr same.returned;
    } in
    let share : Share = record {
      heard = Some (device.Hearing (heard_bytes frame arrival) (ending_of Restart arrival));
      told = Some (Got bytes);
    } in
    let n-share : share_of n (Exchange arrival back') ≡ share = exchange-share n arrival back' x.message n-sends x.reads
    ∙ (ap (λ (a : ℕ). record {
      heard = Some (device.Hearing (heard_bytes (frame_of a x.message) arrival) (ending_of Restart arrival));
      told = Some (Got (back_bytes (answer_of n.device (frame_of a x.message) arrival) back'));
    }) (sym n-addr) ∙ ap (λ (b : List ℕ). record {
      heard = Some (device.Hearing (heard_bytes frame arrival) (ending_of Restart arrival));
      told = Some (Got b);
    }) same.came_is) in
    let s-share : share_of s (Exchange arrival so) ≡ share = exchange-share s arrival so x.message x.sending x.reads
    ∙ ap (λ (b : List ℕ). record {
      heard = Some (device.Hearing (heard_bytes frame arrival) (ending_of Restart arrival));
      told = Some (Got b);
    }) (sym bytes-are) in
    record {
      is = subst (λ (w : Share). Is config passes (Exchange arrival back' ∷ events) (host_after s.host w.told)
          (device_after s.device w.heard) (end_after s.host s.end w.told))
          (sym s-share)
          (grow laws (Exchange arrival back') share is (exchange-free n arrival back' n-x) tt n-share
          (subst (λ a. IsHeardPageless a (Some (device.Hearing (heard_bytes frame arrival) (ending_of Restart arrival)))) (own-address is)
          (request-pageless laws.requests laws.damage laws.betrayal addr x.message frame (heard_bytes frame arrival) (ending_of Restart arrival)
          request x.legal)));
      tells_same = ap (λ (w : Share). w.told) n-share ∙ sym (ap (λ (w : Share). w.told) s-share);
    }

goes : Given → {config : Config} {passes : ℕ} {events : List Event} (s : State) → IsOf config passes events s → (event : Event) →
    event_cause s event ≡ None → HasWord s event → Goes config passes events s event
goes laws s is (Exchange arrival so) free word = exchange-goes laws s is arrival so free
goes laws s is (Order cell w) free word = plain-goes laws s is (Order cell w) refl refl free word
goes laws s is (OrderMicro cell x) free word = plain-goes laws s is (OrderMicro cell x) refl refl free word
goes laws s is (Check cell) free word = plain-goes laws s is (Check cell) refl refl free word
goes laws s is (Learn output) free word = plain-goes laws s is (Learn output) refl refl free word
goes laws s is (Clear output) free word = plain-goes laws s is (Clear output) refl refl free word
goes laws s is Store free word = plain-goes laws s is Store refl refl free word
goes laws s is Restore free word = plain-goes laws s is Restore refl refl free word
goes laws s is (Deliver arrival) free word = plain-goes laws s is (Deliver arrival) refl refl free word
goes laws s is (Finish acked) free word = plain-goes laws s is (Finish acked) refl refl free word
goes laws s is RestartDevice free word = plain-goes laws s is RestartDevice refl refl free word
goes laws s is RestartHost free word = plain-goes laws s is RestartHost refl refl free word
goes laws s is (Reading output code w) free word = plain-goes laws s is (Reading output code w) refl refl free word

-- bytes that are of no job change no setting
keeps : Given → {one : Held} (held : Held) (bytes : List ℕ) (ending : Ending) → KeepsSettings held bytes ending → HaveSameSettings one held →
    HaveSameSettings one (device_next held (device.Hearing bytes ending))
unfolding device_next device_after_outcome
keeps laws {one = one} held bytes ending keeps' same = record {
  same = same.same ∙ ap₂ (λ (w s : Words). record (moved held one) { words = w; store = s }) (sym keeps'.words) (sym keeps'.store);
  modes = same.modes;
}

-- ---- all of them ----

record All (config : Config) (passes : ℕ) (before : List Event) (held : Held) (happened : List Happening) : Type 0 where
  is : IsOf config passes (narrow held passes happened ++ before) (beside held passes happened)
  told_is : (life config passes (narrow held passes happened ++ before)).entries ≡ entries_beside held passes happened ++ (life config passes before).entries

all : Given → (config : Config) (passes : ℕ) (before : List Event) (held : Held) → IsOf config passes before (begun_beside held passes) →
    (happened : List Happening) → MayAllHappen held passes happened → All config passes before held happened
unfolding beside narrow entries_beside
all laws config passes before held first [] may = record { is = first; told_is = refl }
all laws config passes before held first (Happens event ∷ happened) may =
    let so = all laws config passes before held first happened may.1 in
    let s = beside held passes happened in
    let events = narrow held passes happened ++ before in
    let went = goes laws s so.is event may.0.0 may.0.1 in
    record {
      is = went.is;
      told_is = entries-more config passes events (event_like s event)
          ∙ (ap₂ (λ (t : Option Entry) (l : List Entry). option_to_list t ++ l) went.tells_same so.told_is
          ∙ sym (append_assoc (option_to_list (share_of s event).told) (entries_beside held passes happened)
          (life config passes before).entries));
    }
all laws config passes before held first (Hears bytes ending ∷ happened) may =
    let so = all laws config passes before held first happened may.1 in
    let s = beside held passes happened in
    record {
      is = record {
        lived = so.is.lived;
        host_is = so.is.host_is;
        settings = keeps laws s.device bytes ending may.0 so.is.settings;
        ended = so.is.ended;
      };
      told_is = so.told_is;
    }

-- a life that led to a part, and whose host has just started again
first-life : Given → (held : Held) (passes : ℕ) (earlier : List Event) → IsPart held.config held.words held.store →
    IsReached held.config passes held.words held.store (with_host_restart earlier) →
    IsOf (stored_config held.config held.store) passes (with_host_restart earlier) (begun_beside held passes)
unfolding next step_of
first-life laws held passes earlier part is =
    let config = stored_config held.config held.store in
    let events = with_host_restart earlier in
    let same : config ≡ (now config passes events).device.config = sym (now-config config passes events) in
    record {
      lived = is.lived;
      host_is = is.host;
      settings = settings-of (now config passes events).device held
          (subst (λ (c : Config). c ≡ record held.config { starts = c.starts; protect = c.protect }) same refl)
          (subst (λ (c : Config). modes_of c ≡ modes_of held.config) same (laws.stored.modes held.config held.store part.made.places))
          (ap₂ (λ (w s : Words). (w, s)) is.words_are is.store_is);
      ended = ap (λ (s : State). s.end) (laws.followed.more config passes earlier RestartHost is.lived);
    }

-- a restart of the host leaves a life that led to a part one
renewed-reached : Given → (config : Config) (passes : ℕ) (words store : Words) (earlier : List Event) →
    IsReached config passes words store earlier → IsReached config passes words store (with_host_restart earlier)
unfolding next host_next
renewed-reached laws config passes words store earlier is =
    let stored = stored_config config store in
    let lived : IsLived stored passes (with_host_restart earlier) = record {
      sound = is.lived.sound;
      made = is.lived.made;
      legal = (record { free = refl; word = tt }, is.lived.legal);
    } in
    let more = laws.followed.more stored passes earlier RestartHost lived in
    record {
      lived = lived;
      host = ap (λ (s : State). s.host) more ∙ ap (λ (h : Summary). start h.setup) is.host;
      words_are = ap (λ (s : State). s.device.words) more ∙ is.words_are;
      store_is = ap (λ (s : State). s.device.store) more ∙ is.store_is;
      steady = is.steady;
      ordered = λ output register word was. is.ordered output register word (older output register word was.later was);
    }
  where
    older : (output : ℕ) (register : Reg) (word : ℕ) (later : List Event) →
        WasOrdered (stored_config config store) passes (with_host_restart earlier) (Out output register) word →
        WasOrdered (stored_config config store) passes earlier (Out output register) word
    older output register word later was = go was.later was.is
      where
        go : (l : List Event) → with_host_restart earlier ≡ l ++ was.event ∷ was.before →
            WasOrdered (stored_config config store) passes earlier (Out output register) word
        go [] at =
            let here : was.event ≡ RestartHost = cc in
            let s = now (stored_config config store) passes was.before in
            let none : None ≡ Some (host.Order (Out output register) word) = ap (asked s) (sym here)
            ∙ told-asked (stored_config config store) passes was.before was.event (Out output register) word was.orders in
            let bad : ⊥ = cc in absurd bad
        go (e ∷ l) at = record { later = l; event = was.event; before = was.before; is = cc; orders = was.orders }

pub live-alike : Given → SameSettingsLiveAlike
live-alike laws held passes part spelled made =
    let config = stored_config held.config held.store in
    let found = laws.parts held.config passes held.words held.store part made in
    let reached = renewed-reached laws held.config passes held.words held.store found.0 found.1 in
    let first = first-life laws held passes found.0 part reached in
    record {
      earlier = found.0;
      reached = reached;
      spelled = record {
        modes = λ output there. subst (λ (l : List ℕ). slice_index l output < 2 ^ 8)
            (sym (laws.stored.modes held.config held.store part.made.places)) (spelled.modes output there);
        coefficients = spelled.coefficients;
      };
      like = λ happened may.
          let so = all laws config passes (with_host_restart found.0) held first happened may in
          record {
            lived = so.is.lived;
            host = so.is.host_is;
            told_is = so.told_is;
            settings = so.is.settings;
            words = ap (λ (d : Held). d.words) so.is.settings.same;
            store = ap (λ (d : Held). d.store) so.is.settings.same;
            ended = so.is.ended;
          };
      tells = λ happened event may.
          let so = all laws config passes (with_host_restart found.0) held first happened may.1 in
          (goes laws (beside held passes happened) so.is event may.0.0 may.0.1).tells_same;
    }

-- How an open job ends beside a part, by the life that is like what happened there.

-- ---- A request that was heard whole ----

-- the request as it arrives is heard whole, and the converter's whole answer comes back
abbrev whole-in : Held → List ℕ → Arrival → Back → Bool
whole-in device frame way so = is_heard_whole frame (heard_bytes frame way) (ending_of Restart way)
    && bytes_eq (back_bytes (answer_of device frame way) so) (answer_of device frame way)

whole-is : (s : State) (request : Message) (way : Arrival) (so : Back) → is_read_message request ≡ true →
    comes_whole s request way so ≡ whole-in s.device (frame_of s.host.setup.addr request) way so
whole-is s request way so reads =
    let frame = frame_of s.host.setup.addr request in
    let heard = heard_bytes frame way in
    ap (λ b. is_heard_whole frame heard (ending_of (cond b Restart Stop) way)
    && bytes_eq (back_bytes (answer_in (reply_of s.device heard (ending_of (cond b Restart Stop) way))) so)
    (answer_in (reply_of s.device heard (ending_of (cond b Restart Stop) way)))) reads

both-true : (a b : Bool) → (a && b) ≡ true → (a ≡ true) × (b ≡ true)
both-true true b is = (refl, is)
both-true false b is = cc

-- two converters that answer the whole request alike, and of whose answers the same came back
whole-same : (one other : Held) (frame : List ℕ) (way : Arrival) (so so' : Back) →
    answer_of other frame arrival.Whole ≡ answer_of one frame arrival.Whole →
    back_bytes (answer_of other frame way) so' ≡ back_bytes (answer_of one frame way) so →
    whole-in one frame way so ≡ true → whole-in other frame way so' ≡ true
whole-same one other frame way so so' alike came-is whole =
    let parts = both-true (is_heard_whole frame (heard_bytes frame way) (ending_of Restart way)) _ whole in
    let heard = heard-so frame way parts.0 in
    let given : (held : Held) → answer_of held frame way ≡ answer_of held frame arrival.Whole =
    λ held. ap₂ (λ b e. answer_in (reply_of held b e)) heard.0 heard.1 in
    let answers : answer_of one frame way ≡ answer_of other frame way = given one ∙ (sym alike ∙ sym (given other)) in
    let back-is : back_bytes (answer_of one frame way) so ≡ answer_of one frame way =
    (bytes_eq-Decides (back_bytes (answer_of one frame way) so) (answer_of one frame way)).0 parts.1 in
    ap₂ (λ (a b : Bool). a && b) parts.0
    ((bytes_eq-Decides (back_bytes (answer_of other frame way) so') (answer_of other frame way)).1 (came-is ∙ (back-is ∙ answers)))

-- ---- The same of events and of happenings ----

reading-like : (s : State) (event : Event) → is_reading_change (event_like s event) ≡ is_reading_change event
reading-like s (Exchange way so) = refl
reading-like s event = refl

beside-like : (s : State) (event : Event) → is_beside (event_like s event) ≡ is_beside event
beside-like s (Exchange way so) = refl
beside-like s event = refl

delivers-like : (s : State) (frame : List ℕ) (event : Event) → delivers_whole frame (event_like s event) ≡ delivers_whole frame event
delivers-like s frame (Exchange way so) = refl
delivers-like s frame event = refl

-- what is looked at tells no host anything
unmoved : (s : State) (event : Event) → is_reading_change event ≡ true → (next s event).host ≡ s.host
unfolding next
unmoved s (Reading output code word) is = refl
unmoved s event is = cc

looks-keep : (held : Held) (passes : ℕ) (looks before : List Happening) → list_all is_reading_or_heard looks ≡ true →
    (beside held passes (looks ++ before)).host ≡ (beside held passes before).host
unfolding beside
looks-keep held passes [] before all = refl
looks-keep held passes (Happens event ∷ looks) before all =
    let parts = both-true (is_reading_change event) (list_all is_reading_or_heard looks) all in
    unmoved (beside held passes (looks ++ before)) event parts.0 ∙ looks-keep held passes looks before parts.1
looks-keep held passes (Hears bytes ending ∷ looks) before all = looks-keep held passes looks before all

module _ (held : Held) (passes : ℕ) (alike : LivesAlike held passes) where
  abbrev c : Config
  c = config held passes alike

  abbrev events : List Happening → List Event
  events happened = at held passes alike happened

  looks-are : (looks before : List Happening) → list_all is_reading_change (since held passes alike looks before)
      ≡ list_all is_reading_or_heard looks
  looks-are [] before = refl
  looks-are (Happens event ∷ looks) before =
      ap₂ (λ (a b : Bool). a && b) (reading-like (beside held passes (looks ++ before)) event) (looks-are looks before)
  looks-are (Hears bytes ending ∷ looks) before = looks-are looks before

  asides-are : (between before : List Happening) → list_all is_beside (since held passes alike between before)
      ≡ list_all is_beside_or_heard between
  asides-are [] before = refl
  asides-are (Happens event ∷ between) before =
      ap₂ (λ (a b : Bool). a && b) (beside-like (beside held passes (between ++ before)) event) (asides-are between before)
  asides-are (Hears bytes ending ∷ between) before = asides-are between before

  deliveries-are : (frame : List ℕ) (between before : List Happening) →
      list_any (delivers_whole frame) (since held passes alike between before) ≡ list_any (delivers frame) between
  deliveries-are frame [] before = refl
  deliveries-are frame (Happens event ∷ between) before =
      ap₂ (λ (a b : Bool). a || b) (delivers-like (beside held passes (between ++ before)) frame event) (deliveries-are frame between before)
  deliveries-are frame (Hears bytes ending ∷ between) before = deliveries-are frame between before

  -- both converters answer the request that is being sent alike
  answers-alike : (happened : List Happening) (request : Message) → MayAllHappen held passes happened →
      sending_in (beside held passes happened).host ≡ Some request → is_read_message request ≡ true →
      let frame = frame_of (beside held passes happened).host.setup.addr request in
      answer_of (now c passes (events happened)).device frame arrival.Whole ≡ answer_of (beside held passes happened).device frame arrival.Whole
  unfolding is_legal_hearing is_legal_return
  answers-alike happened request may sends reads =
      let s = beside held passes happened in
      let n = now c passes (events happened) in
      let host = (alike.like happened may).host in
      let frame = frame_of s.host.setup.addr request in
      let answer = answer_of s.device frame arrival.Whole in
      let said : Exchanged s arrival.Whole back.Whole = record {
        message = request;
        sending = sends;
        reads = reads;
        legal = refl;
        returned = ap₂ (λ (a b : Bool). a && b || is_legal_return frame (whole_answer request) false answer answer)
            ((bytes_eq-Decides frame frame).1 refl) ((bytes_eq-Decides answer answer).1 refl);
      } in
      let tells = alike.tells happened (Exchange arrival.Whole back.Whole) ((exchange-free s arrival.Whole back.Whole said, tt), may) in
      let n-share = exchange-share n arrival.Whole back.Whole request (ap sending_in host ∙ sends) reads in
      let s-share = exchange-share s arrival.Whole back.Whole request sends reads in
      let came : Some (Got (answer_of n.device (frame_of n.host.setup.addr request) arrival.Whole)) ≡ Some (Got answer) =
      sym (ap (λ w. w.told) n-share) ∙ (tells ∙ ap (λ w. w.told) s-share) in
      let same : answer_of n.device (frame_of n.host.setup.addr request) arrival.Whole ≡ answer = cc in
      ap (λ (h : Summary). answer_of n.device (frame_of h.setup.addr request) arrival.Whole) (sym host) ∙ same

  -- an exchange that comes whole comes whole in both
  exchange-whole : (happened : List Happening) (request : Message) (way : Arrival) (so : Back) →
      MayAllHappen held passes (Happens (Exchange way so) ∷ happened) → sending_in (beside held passes happened).host ≡ Some request →
      comes_whole (beside held passes happened) request way so ≡ true →
      comes_whole (now c passes (events happened)) request way (back_of way so (came (beside held passes happened) way so)) ≡ true
  exchange-whole happened request way so may sends whole =
      let s = beside held passes happened in
      let n = now c passes (events happened) in
      let host = (alike.like happened may.1).host in
      let frame = frame_of s.host.setup.addr request in
      let so' = back_of way so (came s way so) in
      let x = exchanges s way so may.0.0 in
      let named : Some x.message ≡ Some request = sym x.sending ∙ sends in
      let message : x.message ≡ request = cc in
      let reads = subst (λ (m : Message). is_read_message m ≡ true) message x.reads in
      let n-share = exchange-share n way so' request (ap sending_in host ∙ sends) reads in
      let s-share = exchange-share s way so request sends reads in
      let told : Some (Got (back_bytes (answer_of n.device (frame_of n.host.setup.addr request) way) so'))
      ≡ Some (Got (back_bytes (answer_of s.device frame way) so)) =
      sym (ap (λ w. w.told) n-share) ∙ (alike.tells happened (Exchange way so) may ∙ ap (λ w. w.told) s-share) in
      let bytes : back_bytes (answer_of n.device (frame_of n.host.setup.addr request) way) so' ≡ back_bytes (answer_of s.device frame way) so = cc in
      whole-is n request way so' reads
      ∙ (ap (λ (h : Summary). whole-in n.device (frame_of h.setup.addr request) way so') host
      ∙ whole-same s.device n.device frame way so so' (answers-alike happened request may.1 sends reads)
      (ap (λ (h : Summary). back_bytes (answer_of n.device (frame_of h.setup.addr request) way) so') (sym host) ∙ bytes)
      (sym (whole-is s request way so reads) ∙ whole))

  read-so : (request : Message) (before after : List Happening) → MayAllHappen held passes after →
      sending_in (beside held passes before).host ≡ Some request → IsReadBeside held passes request before after →
      IsRead c passes request (events before) (events after)
  read-so request before after may sends is =
      let there = is.looks ++ before in
      let split = at-since held passes alike is.looks before in
      let may' = subst (λ (l : List Happening). MayAllHappen held passes l) is.is may in
      let so' = back_of is.arrival is.back (came (beside held passes there) is.arrival is.back) in
      record {
        arrival = is.arrival;
        back = so';
        readings = since held passes alike is.looks before;
        is = ap events is.is ∙ (at-more held passes alike (Exchange is.arrival is.back) there
            ∙ ap (λ (l : List Event). Exchange is.arrival so' ∷ l) split);
        beside = looks-are is.looks before ∙ is.aside;
        whole = subst (λ (l : List Event). comes_whole (now c passes l) request is.arrival so' ≡ true) split
            (exchange-whole there request is.arrival is.back may'
            (ap sending_in (looks-keep held passes is.looks before is.aside) ∙ sends) is.whole);
      }

  written-so : (frame : List ℕ) (acked : Bool) (before after : List Happening) → IsWrittenBeside frame acked before after →
      IsWritten frame acked (events before) (events after)
  written-so frame acked before after is = record {
    between = since held passes alike is.between before;
    is = ap events is.is ∙ (at-more held passes alike (Finish acked) (is.between ++ before)
        ∙ ap (λ (l : List Event). Finish acked ∷ l) (at-since held passes alike is.between before));
    beside = asides-are is.between before ∙ is.aside;
    whole = deliveries-are frame is.between before ∙ is.whole;
  }

  sends-so : (happened : List Happening) (stage : Stage) → (beside held passes happened).host.stage ≡ Some stage →
      sending_in (beside held passes happened).host ≡ Some (stage_message stage)
  sends-so happened stage is = ap (option_map stage_message) is

  comes-so : (acked : Bool) (stage : Stage) (before after : List Happening) → MayAllHappen held passes after →
      (beside held passes before).host.stage ≡ Some stage → ComesWholeBeside held passes acked stage before after →
      ComesWhole c passes acked stage (events before) (events after)
  comes-so acked (Asks question tries) before after may is comes =
      read-so (question_message question) before after may (sends-so before (Asks question tries) is) comes
  comes-so acked (Reads cell word pass) before after may is comes =
      read-so (cell_read cell) before after may (sends-so before (Reads cell word pass) is) comes
  comes-so acked (Writes cell word pass) before after may is comes =
      written-so (frame_of held.config.addr (stage_message (Writes cell word pass))) acked before after comes
  comes-so acked (Sends command tries) before after may is comes =
      written-so (frame_of held.config.addr (stage_message (Sends command tries))) acked before after comes

  -- what may all happen may happen before a frame
  before-read : (request : Message) (before after : List Happening) → MayAllHappen held passes after →
      IsReadBeside held passes request before after → MayAllHappen held passes before
  before-read request before after may is = earlier-may held passes is.looks before
      (subst (λ (l : List Happening). MayAllHappen held passes l) is.is may).1

  before-write : (frame : List ℕ) (acked : Bool) (before after : List Happening) → MayAllHappen held passes after →
      IsWrittenBeside frame acked before after → MayAllHappen held passes before
  before-write frame acked before after may is = earlier-may held passes is.between before
      (subst (λ (l : List Happening). MayAllHappen held passes l) is.is may).1

  before-frame : (acked : Bool) (stage : Stage) (before after : List Happening) → MayAllHappen held passes after →
      ComesWholeBeside held passes acked stage before after → MayAllHappen held passes before
  before-frame acked (Asks question tries) before after may comes = before-read (question_message question) before after may comes
  before-frame acked (Reads cell word pass) before after may comes = before-read (cell_read cell) before after may comes
  before-frame acked (Writes cell word pass) before after may comes =
      before-write (frame_of held.config.addr (stage_message (Writes cell word pass))) acked before after may comes
  before-frame acked (Sends command tries) before after may comes =
      before-write (frame_of held.config.addr (stage_message (Sends command tries))) acked before after may comes

  before-frames : (frames : List Bool) (before after : List Happening) → MayAllHappen held passes after →
      ComeWholeBeside held passes frames before after → MayAllHappen held passes before
  before-frames [] before after may come = subst (λ (l : List Happening). MayAllHappen held passes l) come may
  before-frames (acked ∷ more) before after may (stage, middle, is, taken, comes, come) =
      before-frame acked stage before middle (before-frames more middle after may come) comes

  stage-is : (happened : List Happening) (stage : Option Stage) → MayAllHappen held passes happened →
      (beside held passes happened).host.stage ≡ stage → stage_after c passes (events happened) ≡ stage
  stage-is happened stage may is = ap (λ (h : Summary). h.stage) (alike.like happened may).host ∙ is

  come-so : (frames : List Bool) (before after : List Happening) → MayAllHappen held passes after →
      ComeWholeBeside held passes frames before after → ComeWhole c passes frames (events before) (events after)
  come-so [] before after may come = ap events come
  come-so (acked ∷ more) before after may (stage, middle, is, taken, comes, come) =
      let may-middle = before-frames more middle after may come in
      let may-before = before-frame acked stage before middle may-middle comes in (
        stage,
        events middle,
        stage-is before (Some stage) may-before is,
        taken,
        comes-so acked stage before middle may-middle is comes,
        come-so more middle after may come,
      )

  -- what a frame makes of a job, and how it ends
  words-are : (happened : List Happening) → MayAllHappen held passes happened → (cell : Cell) →
      word_held_after c passes (events happened) cell ≡ word_at (words_at_beside held passes happened) cell
  words-are happened may cell = ap (λ (w : Words). word_at w cell) (alike.like happened may).words

  turn-is : (before : List Happening) (acked : Bool) (stage : Stage) → MayAllHappen held passes before →
      turn_of c passes (events before) acked stage ≡ turn_at held passes before acked stage
  turn-is before acked (Asks (Word cell) tries) may = refl
  turn-is before acked (Asks (Mode output) tries) may =
      ap (λ (m : List ℕ). mode_turn output (mode_of (slice_index m output))) (modes-at held passes alike)
  turn-is before acked (Asks (Coefficients output) tries) may = refl
  turn-is before acked (Writes cell word pass) may = refl
  turn-is before acked (Reads cell word pass) may = ap (read_turn passes cell word pass) (words-are before may cell)
  turn-is before acked (Sends command tries) may = refl

  end-is : (before : List Happening) (stage : Stage) → MayAllHappen held passes before →
      good_end c passes (events before) stage ≡ good_end_at held passes before stage
  end-is before (Asks (Word cell) tries) may = refl
  end-is before (Asks (Mode output) tries) may = refl
  end-is before (Asks (Coefficients output) tries) may = refl
  end-is before (Writes cell word pass) may =
      ap (λ (w : Words). good_end_by (word_at w) passes (Writes cell word pass)) (alike.like before may).words
  end-is before (Reads cell word pass) may =
      ap (λ (w : Words). good_end_by (word_at w) passes (Reads cell word pass)) (alike.like before may).words
  end-is before (Sends command tries) may = refl

pub open-jobs-end : SameSettingsLiveAlike → OpenJobsEnd → OpenJobsEndBeside
open-jobs-end alike law = record {
  turn = λ held passes before after stage acked is opened comes.
      let all = alike held passes is.part is.spelled is.made in
      let like = all.like after is.may in
      let may = before-frame held passes all acked stage before after is.may comes in
      let so = law.turn (config held passes all) passes (at held passes all before) (at held passes all after) stage acked all.spelled like.lived
      (stage-is held passes all before (Some stage) may opened) (comes-so held passes all acked stage before after is.may opened comes) in
      subst (λ (t : Turn). Took (beside held passes after).host.stage (beside held passes after).end t)
      (turn-is held passes all before acked stage may)
      (subst (λ (h : Summary). Took h.stage (beside held passes after).end (turn_of (config held passes all) passes (at held passes all before) acked stage))
      like.host
      (subst (λ (e : Option JobEnd). Took (now (config held passes all) passes (at held passes all after)).host.stage e
      (turn_of (config held passes all) passes (at held passes all before) acked stage)) like.ended so));
  few = λ held passes frames before after is come.
      let all = alike held passes is.part is.spelled is.made in
      let like = all.like after is.may in
      let may = before-frames held passes all frames before after is.may come in
      subst (λ (h : Summary). length frames + frames_left (beside held passes after).host ≤ frames_left h) (all.like before may).host
      (subst (λ (h : Summary). length frames + frames_left h ≤ frames_left (now (config held passes all) passes (at held passes all before)).host) like.host
      (law.few (config held passes all) passes frames (at held passes all before) (at held passes all after) all.spelled like.lived
      (come-so held passes all frames before after is.may come)));
  ends = λ held passes frames before after stage is opened come over.
      let all = alike held passes is.part is.spelled is.made in
      let like = all.like after is.may in
      let may = before-frames held passes all frames before after is.may come in
      sym like.ended
      ∙ (law.ends (config held passes all) passes frames (at held passes all before) (at held passes all after) stage all.spelled like.lived
      (stage-is held passes all before (Some stage) may opened) (come-so held passes all frames before after is.may come)
      (stage-is held passes all after None is.may over)
      ∙ ap Some (end-is held passes all before stage may));
}
