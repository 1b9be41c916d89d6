-- A life with more events, and what a host or a driver that begins in it comes to.
use Rattle.std.specs.{List.starts_with, Option.option_or, Result.result_ok}
use Rattle.std.specs.Prelude.{option_to_list, option_and_then, slice_index, unwrap_or, ◌≢◌, IsSomeAnd, IfSome, bytes_eq, nat_lt}
use Rattle.std.proofs.lemmas.List.{length-map}
use Rattle.std.proofs.Common.{◌≡◌, ℕ, Bool, true, List, [], ◌∷◌, ◌++◌, Option, None, refl, sym, ◌∙◌, ap, subst, append_assoc, arith, Some}
use Rattle.std.proofs.Common.{ap₂, ◌⊎◌, inl, inr, eqb, length, ◌+◌, ◌<◌, ◌^◌, ◌≤◌, ◌||◌, false, cond, Ok, Err, take, ◌&&◌}
use Rattle.std.proofs.lemmas.Bool.{or_cases, lt-ltb, or_right}
use Rattle.pm_num.specs.AnyFormat.{InLinear11, Shape}
use Rattle.pm_table.specs.{Address.IsAddress, Format.shape_in, VoutMode.mode_of, declared.cell.Cell.Cell}
use Rattle.pm_table.specs.{declared.coefficients.Coefficients.Coefficients as Numbers}
use Rattle.pm_table.specs.Cell.{IsCell, is_cell}
use Rattle.pm_table.specs.Coefficients.{coefficient_bytes, coefficients_of}
use Rattle.pm_frame.specs.{Betrayal.is_betrayed, Fault.write_fault, Laws.BetrayalIsRefused, View.message_in}
use Rattle.pm_frame.specs.{declared.fault.FrameFault.FrameFault, declared.fault.FrameFault.TheVariants.NotOurs}
use Rattle.pm_model.specs.Settings.{word_at, Words}
use Rattle.pm_device.specs.{Laws.RequestsLatchAtMost, Reply.reply_of, declared.config.Config.Config, declared.converter.Ending.Ending}
use Rattle.pm_device.specs.{declared.output_start.OutputStart.OutputStart}
use Rattle.pm_device.specs.Effect as device
use Rattle.pm_device.specs.Held.{Held, shape_for, shape_made}
use Rattle.pm_device.specs.History.{device_next, after_outcome, start_of}
use Rattle.pm_device.specs.Verdict.{unless_faulty, verdict_of, write_verdict}
use Rattle.pm_device.specs.declared.converter.Ending.TheVariants.{Stop, Restart}
use Rattle.pm_host.specs.{Jobs.accepted_job, Now.host_now, Possible.is_possible, Transcript.Entry, declared.job.Job.Job as Asked}
use Rattle.pm_host.specs.{declared.job.JobEnd.JobEnd, declared.knowledge.Standing.TheVariants.Confirmed}
use Rattle.pm_host.specs.Refusals.{is_busy, job_fault, IsSetup}
use Rattle.pm_host.specs.Summary.{Summary, possible_at, standing_at, host_next, format_at, start}
use Rattle.pm_host.specs.Transcript as host
use Rattle.pm_host.specs.declared.command.Command.TheVariants.{ClearFaults, StoreUserAll, RestoreUserAll}
use Rattle.pm_host.specs.declared.job.JobEnd.TheVariants.{Differs, Done, Learned, Unknown}
use Rattle.pm_world.specs.{Honest.IsSpelled, Job.asked_by, Lived.IsLived, Setup.setup_of, Uncertainty.job_event}
use Rattle.pm_world.specs.{declared.event.Arrival.Arrival, declared.event.Back.Back, declared.event.Event.Event}
use Rattle.pm_world.specs.Confirmed.{reads_cell, restarted_since, restarts_converter}
use Rattle.pm_world.specs.Legal.{is_legal_hearing, answer_in, back_bytes, ending_of, heard_bytes, is_heard_whole, is_legal_return}
use Rattle.pm_world.specs.Lemmas.{entries-more, now-config}
use Rattle.pm_world.specs.Life.{life, now, state_of}
use Rattle.pm_world.specs.Parts.{AreWordsOf, IsReached, stored_config}
use Rattle.pm_world.specs.State.{State, Share, HasWord, device_after, end_after, event_cause, hears, host_after, next, share_of, refused}
use Rattle.pm_world.specs.State.{tells}
use Rattle.pm_world.specs.declared.event.Arrival.TheVariants as arrival
use Rattle.pm_world.specs.declared.event.Back.TheVariants as back
use Rattle.pm_world.specs.declared.event.Event.TheVariants.{RestartDevice, Reading, Exchange, Finish, Check, Clear, Learn, Order}
use Rattle.pm_world.specs.declared.event.Event.TheVariants.{RestartHost, Restore, Store, Deliver}
use Rattle.pm_part_laws.specs.Lemmas.Pageless.{IsHeardPageless, after-same, first-bytes, settings-of, answer_of}
use Rattle.pm_part_laws.specs.Settings.{HaveSameSettings, modes_of, moved}
use Rattle.pm_driver.specs.Lemmas.Restarts.{restarts-on}
use Rattle.pm_driver.specs.Acts.{Act, told_all, told_by_act, AreCalls, AreDone, Began, Call, Called, Looked, MayDo, Renewed, asked_in}
use Rattle.pm_driver.specs.Acts.{host_by}
use Rattle.pm_driver.specs.Acts.{IsNoWrite, Read, Wrote}
use Rattle.pm_driver.specs.Bus.{AreAll, held_after, held_after_one, is_beside_bus, restarts_in}
use Rattle.pm_driver.specs.Disturbed.{IsAskedPart, IsDisturbed, IsSentPart}
use Rattle.pm_driver.specs.Driven.{HasLife, HasNoRestartSince, IsTrueOf, IsAsItIs, MayBegin, Driving, driven}
use Rattle.pm_driver.specs.Ends.{EndSays, Stands, cell_of_end}
use Rattle.pm_driver.specs.Laws.{LawsOfLives, LeadsCompose, EndsAreTrue, LivesLeadOn, NewConvertersMayBegin, RestartsAreCounted}
use Rattle.pm_driver.specs.Lives.{EndsSo, Goes, IsLife, Driven, EndsTold, Leads, jobs_asked, jobs_begun, newest_tells, with_job}
use Rattle.pm_driver.specs.Steps.{JobsLead, RenewalsLead}
use Rattle.pm_driver.specs.WithoutRestart.{AreWithoutRestart, JobsRestartNothing, ReadsRestartNothing}

-- A life with more events.

-- what one more event makes of a life, which tells the ends this
pub record IsGrown (config : Config) (passes : ℕ) (before : List Event) (event : Event) (share : Share) (host : Summary)
    (held : Held) : Type 0 where
  pub is_life : IsLife config passes (event ∷ before) (host_after host share.told) (device_after held share.heard)
  pub told : (life config passes (event ∷ before)).entries
      ≡ option_to_list share.told ++ (life config passes before).entries
  pub ended : (now config passes (event ∷ before)).end ≡ end_after host (now config passes before).end share.told

-- an event without a cause against it, by which the converter hears nothing that depends on PAGE
pub grown : LawsOfLives → {config : Config} {passes : ℕ} {before : List Event} {host : Summary} {held : Held} →
    (event : Event) (share : Share) → IsLife config passes before host held →
    event_cause (now config passes before) event ≡ None → HasWord (now config passes before) event →
    share_of (now config passes before) event ≡ share → IsHeardPageless held.config.addr share.heard →
    IsGrown config passes before event share host held
unfolding next
grown laws {config = config} {passes = passes} {before = before} {held = held} event share is free word tells pageless =
    let lived : IsLived config passes (event ∷ before) = record {
      sound = is.lived.sound;
      made = is.lived.made;
      legal = (record { free = free; word = word }, is.lived.legal);
    } in
    let more = laws.followed.more config passes before event lived in
    let s = now config passes before in
    record {
      is_life = record {
        lived = lived;
        host_is = ap (λ (t : State). t.host) more ∙ (ap (λ (w : Share). host_after s.host w.told) tells
            ∙ ap (λ h. host_after h share.told) is.host_is);
        held_is = subst (λ (d : Held). HaveSameSettings d (device_after held share.heard))
            (sym (ap (λ (t : State). t.device) more ∙ ap (λ (w : Share). device_after s.device w.heard) tells))
            (after-same laws.reach s.device held share.heard pageless is.held_is);
      };
      told = entries-more config passes before event
          ∙ ap (λ (w : Share). option_to_list w.told ++ (life config passes before).entries) tells;
      ended = ap (λ (t : State). t.end) more ∙ (ap (λ (w : Share). end_after s.host s.end w.told) tells
          ∙ ap (λ h. end_after h s.end share.told) is.host_is);
    }

-- what holds of the host that a life led to holds of the life's
pub of-life : {config : Config} {passes : ℕ} {events : List Event} {host : Summary} {held : Held} →
    (P : Summary → Type 0) → (is : IsLife config passes events host held) → P host → P (now config passes events).host
of-life P is here = subst P (sym is.host_is) here

-- the host of a life was made for it
pub life-setup : {config : Config} {passes : ℕ} {events : List Event} {summary : Summary} {held : Held} →
    IsLife config passes events summary held → summary.setup ≡ setup_of config passes
unfolding now state_of host_now
life-setup is = ap (λ (s : Summary). s.setup) (sym is.host_is)

-- the host of a life sends to its converter's address
pub own-address : {config : Config} {passes : ℕ} {events : List Event} {host : Summary} {held : Held} →
    IsLife config passes events host held → host.setup.addr ≡ held.config.addr
own-address {config = config} {passes = passes} {events = events} is =
    ap (λ s. s.addr) (life-setup is)
    ∙ (ap (λ (c : Config). c.addr) (sym (now-config config passes events)) ∙ ap (λ (d : Held). d.config.addr) is.held_is.same)

-- no event
pub stays : {config : Config} {passes : ℕ} {before : List Event} {host : Summary} {held : Held} →
    IsLife config passes before host held → Goes config passes before [] [] None host held
stays is = record { is_life = is; told = refl; ended = tt }

-- an event that the converter alone notices
pub heard-one : {config : Config} {passes : ℕ} {before : List Event} {event : Event} {heard : device.Event} {host : Summary} {held :
    Held} →
    IsGrown config passes before event (hears heard) host held →
    Goes config passes before (event ∷ []) [] None host (device_next held heard)
heard-one is = record { is_life = is.is_life; told = is.told; ended = tt }

-- what acts tell, put together
told-append : (second first : List Act) (rest : List Entry) →
    told_all (second ++ first) ++ rest ≡ told_all second ++ (told_all first ++ rest)
told-append [] first rest = refl
told-append (act ∷ second) first rest =
    let told = option_to_list (told_by_act act) in
    append_assoc told (told_all (second ++ first)) rest
    ∙ (ap (λ l. told ++ l) (told-append second first rest) ∙ sym (append_assoc told (told_all second) (told_all first ++ rest)))

-- further events, and then more of them
pub goes-on : {config : Config} {passes : ℕ} {before first second : List Event} {acts more : List Act} {end other : Option JobEnd}
    {middle host : Summary} {between held : Held} →
    Goes config passes before first acts end middle between →
    Goes config passes (first ++ before) second more other host held →
    Goes config passes before (second ++ first) (more ++ acts) other host held
goes-on {config = config} {passes = passes} {before = before} {first = first} {second = second} {acts = acts} {more = more} {other =
    other} {host = host} {held = held} one two =
    let same : second ++ (first ++ before) ≡ (second ++ first) ++ before = sym (append_assoc second first before) in
    record {
      is_life = subst (λ events. IsLife config passes events host held) same two.is_life;
      told = ap (λ events. (life config passes events).entries) (sym same)
          ∙ (two.told ∙ (ap (λ l. told_all more ++ l) one.told ∙ sym (told-append more acts (life config passes before).entries)));
      ended = subst (λ events. EndsSo other (now config passes events).end) same two.ended;
    }

-- events that each leave the host as it was
pub quiet : {config : Config} {passes : ℕ} {before : List Event} {host : Summary} {held : Held} (frame : List ℕ) (may : Event → Bool) →
    ((earlier : List Event) (event : Event) (then : Held) → IsLife config passes earlier host then → may event ≡ true →
    Goes config passes earlier (event ∷ []) [] None host (held_after_one frame then event)) →
    (events : List Event) → AreAll may events → IsLife config passes before host held →
    Goes config passes before events [] None host (held_after frame held events)
quiet frame may one [] all is = stays is
quiet {before = before} {held = held} frame may one (event ∷ earlier) (here, all) is =
    let so_far = quiet frame may one earlier all is in
    goes-on so_far (one (earlier ++ before) event (held_after frame held earlier) so_far.is_life here)

-- what happens beside the bus is such an event
pub beside-one : LawsOfLives → {config : Config} {passes : ℕ} {host : Summary} (frame : List ℕ) →
    (earlier : List Event) (event : Event) (then : Held) → IsLife config passes earlier host then → is_beside_bus event ≡ true →
    Goes config passes earlier (event ∷ []) [] None host (held_after_one frame then event)
beside-one laws frame earlier RestartDevice then is so = heard-one (grown laws RestartDevice (hears device.Restarted) is refl tt refl tt)
beside-one laws frame earlier (Reading output code word) then is so =
    heard-one (grown laws (Reading output code word) (hears (device.Reading output code.0 word)) is refl tt refl tt)
beside-one laws frame earlier event then is so = cc

-- What leads on from where something led; and the acts that are no calls.

-- the host after acts and more of them
host-append : (s : Summary) (second first : List Act) → host_by s (second ++ first) ≡ host_by (host_by s first) second
host-append s [] first = refl
host-append s (act ∷ second) first = ap (λ h. host_after h (told_by_act act)) (host-append s second first)

-- what may be done may be done one after the other
done-append : (s : Summary) (second first : List Act) → AreDone s first → AreDone (host_by s first) second →
    AreDone s (second ++ first)
done-append s [] first one two = one
done-append s (act ∷ second) first one two =
    (subst (λ h. MayDo h act) (sym (host-append s second first)) two.0, done-append s second first one two.1)

-- the calls lead on
calls-append : {B : Type 0} (gives : B → Call → B → Type 0) (a b c : B) (second first : List Act) →
    AreCalls gives a first b → AreCalls gives b second c → AreCalls gives a (second ++ first) c
calls-append gives a b c [] first one two = subst (λ bus. AreCalls gives a first bus) two one
calls-append gives a b c (Called call ∷ second) first one two =
    (two.0, calls-append gives a b two.0 second first one two.1, two.2)
calls-append gives a b c (Began job ∷ second) first one two = calls-append gives a b c second first one two
calls-append gives a b c (Renewed ∷ second) first one two = calls-append gives a b c second first one two
calls-append gives a b c (Looked request room came ∷ second) first one two =
    (two.0, calls-append gives a b two.0 second first one two.1, two.2)

-- what is asked for is asked for one after the other
asked-append : (second first : List Act) → asked_in (second ++ first) ≡ asked_in second ++ asked_in first
asked-append [] first = refl
asked-append (Called call ∷ second) first = asked-append second first
asked-append (Began job ∷ second) first = ap (λ l. Began job ∷ l) (asked-append second first)
asked-append (Renewed ∷ second) first = ap (λ l. Renewed ∷ l) (asked-append second first)
asked-append (Looked request room came ∷ second) first = ap (λ l. Looked request room came ∷ l) (asked-append second first)

-- the newest event stays the newest
pub tells-append : (second first : List Event) → newest_tells second ≡ true → newest_tells (second ++ first) ≡ true
tells-append (Finish acked ∷ second) first is = refl
tells-append (Exchange arrival back ∷ second) first is = refl
tells-append [] first is = cc
tells-append (event ∷ second) first is = cc

-- a job that ended with the newest of the later events ended with the newest of all of them
newest-append : (end : Option JobEnd) (second first : List Event) → EndsTold end second → EndsTold end (second ++ first)
newest-append None second first is = tt
newest-append (Some end) second first is = tells-append second first is

-- the jobs of events, and of acts, one after the other
with-append : (one : Option Asked) (second first : List Asked) → with_job one (second ++ first) ≡ with_job one second ++ first
with-append None second first = refl
with-append (Some job) second first = refl

-- the jobs that events ask for are those of the later events and then those of the earlier ones
jobs-append : (second first : List Event) → jobs_asked (second ++ first) ≡ jobs_asked second ++ jobs_asked first
jobs-append [] first = refl
jobs-append (event ∷ second) first =
    ap (with_job (asked_by event)) (jobs-append second first) ∙ with-append (asked_by event) (jobs_asked second) (jobs_asked first)

-- the jobs that acts begin are those of the later acts and then those of the earlier ones
begun-append : (second first : List Act) → jobs_begun (second ++ first) ≡ jobs_begun second ++ jobs_begun first
begun-append [] first = refl
begun-append (Called call ∷ second) first = begun-append second first
begun-append (Began job ∷ second) first =
    ap (with_job (asked_by (job_event job))) (begun-append second first)
    ∙ with-append (asked_by (job_event job)) (jobs_begun second) (jobs_begun first)
begun-append (Renewed ∷ second) first = begun-append second first
begun-append (Looked request room came ∷ second) first = begun-append second first

-- calls compose
pub leads-compose : {B : Type 0} (gives : B → Call → B → Type 0) (held : B → Held) (restarts : B → ℕ) → LeadsCompose gives held restarts
leads-compose gives held restarts first second middle end a b c one two = record {
  acts = two.acts ++ one.acts;
  events = two.events ++ one.events;
  asks = asked-append two.acts one.acts ∙ ap₂ (λ x y. x ++ y) two.asks one.asks;
  calls = calls-append gives a.bus b.bus c.bus two.acts one.acts one.calls two.calls;
  may = done-append a.host two.acts one.acts one.may (subst (λ h. AreDone h two.acts) (sym one.host) two.may);
  host = host-append a.host two.acts one.acts ∙ (ap (λ h. host_by h two.acts) one.host ∙ two.host);
  newest = newest-append end two.events one.events two.newest;
  count = restarts-on two.events one.events (restarts a.bus) (restarts b.bus) (restarts c.bus) one.count two.count;
  orders = jobs-append two.events one.events
      ∙ (ap₂ (λ x y. x ++ y) two.orders one.orders ∙ sym (begun-append two.acts one.acts));
  lives = λ config passes before life.
      let here = one.lives config passes before life in
      goes-on here (two.lives config passes (one.events ++ before) here.is_life);
}

-- nothing done leads nowhere
pub leads-nothing : {B : Type 0} (gives : B → Call → B → Type 0) (held : B → Held) (restarts : B → ℕ) (d : Driven B)
    → Leads gives held restarts [] None d d
leads-nothing gives held restarts d = record {
  acts = [];
  events = [];
  asks = refl;
  calls = refl;
  may = tt;
  host = refl;
  newest = tt;
  count = omega arith;
  orders = refl;
  lives = λ config passes before life. stays life;
}

-- what is composed has the events of both, and what leads nowhere has none
pub composed-events : {B : Type 0} (gives : B → Call → B → Type 0) (held : B → Held) (restarts : B → ℕ) (first second : List Act)
    (middle end : Option JobEnd) (a b c : Driven B) (one : Leads gives held restarts first middle a b)
    (two : Leads gives held restarts second end b c) →
    (leads-compose gives held restarts first second middle end a b c one two).events ≡ two.events ++ one.events
unfolding leads-compose
composed-events gives held restarts first second middle end a b c one two = refl

pub nothing-events : {B : Type 0} (gives : B → Call → B → Type 0) (held : B → Held) (restarts : B → ℕ) (d : Driven B) →
    (leads-nothing gives held restarts d).events ≡ []
unfolding leads-nothing
nothing-events gives held restarts d = refl

-- Converters with the same settings: what latches bits at most, and what format an output has.

-- what a third holds, of which the other differs in no setting
pub same-on : (one middle other : Held) → HaveSameSettings one middle → HaveSameSettings other middle → HaveSameSettings one other
same-on one middle other first second = record {
  same = first.same ∙ ap (λ (x : Held). moved x one) (sym second.same);
  modes = first.modes ∙ sym second.modes;
}

-- the converters hold the same, but for the latched bits of STATUS_CML
abbrev pub IsSameButFaults : Held → Held → Type 0
IsSameButFaults one other = one ≡ record other { faults = one.faults }

-- they have the same settings then
pub same-by-faults : (one other : Held) → IsSameButFaults one other → HaveSameSettings one other
same-by-faults one other is = subst (λ x. HaveSameSettings x other) (sym is) (record { same = refl; modes = refl })

-- ---- formats

-- the format of an output's voltages
pub shape-made-so : (one other : Config) → modes_of one ≡ modes_of other → one.coefficients ≡ other.coefficients → (output : ℕ) →
    shape_made one output ≡ shape_made other output
shape-made-so one other modes coefficients output =
    ap₂ (λ (m : List ℕ) (c : Numbers). option_and_then (λ mode. result_ok (shape_in mode c)) (result_ok (mode_of (slice_index m output))))
    modes coefficients

pub shape-so : (one other : Config) → modes_of one ≡ modes_of other → one.coefficients ≡ other.coefficients → (output : ℕ) →
    shape_for one output ≡ shape_for other output
unfolding shape_for
shape-so one other modes coefficients output = ap (λ s. unwrap_or s InLinear11) (shape-made-so one other modes coefficients output)

pub shape-same : (one other : Held) → HaveSameSettings one other → (output : ℕ) → shape_for one.config output ≡ shape_for other.config output
shape-same one other same output =
    shape-so one.config other.config same.modes (ap (λ (d : Held). d.config.coefficients) same.same) output

-- ---- hearings that latch at most

-- bytes that a stop ended, and that aren't a write
refused-same : (held : Held) (bytes : List ℕ) → write_fault held.config.addr bytes ≢ None →
    IsSameButFaults (device_next held (device.Hearing bytes Stop)) held
unfolding device_next after_outcome verdict_of
refused-same held bytes faulty = go (write_fault held.config.addr bytes) faulty where
  go : (fault : Option FrameFault) → fault ≢ None →
      let new =
      after_outcome held (device.Heard (unless_faulty fault (write_verdict held.config held.words held.page (message_in bytes)))) in
      IsSameButFaults new held
  go None some = absurd (some refl)
  go (Some NotOurs) some = refl
  go (Some fault) some = refl

-- bytes that are heard legally of what can't be a write latch at most
pub hears-same : BetrayalIsRefused → RequestsLatchAtMost → (held : Held) (request bytes : List ℕ) (ending : Ending) →
    IsNoWrite held.config.addr request → is_legal_hearing request bytes ending ≡ true →
    IsSameButFaults (device_next held (device.Hearing bytes ending)) held
unfolding is_legal_hearing
hears-same betrayal latch held request bytes Restart plain legal = latch.alone held bytes
hears-same betrayal latch held request bytes Stop plain legal =
    refused-same held bytes (go (or_cases (starts_with eqb request bytes) (is_betrayed [] bytes) legal))
  where
    go : (starts_with eqb request bytes ≡ true) ⊎ (is_betrayed [] bytes ≡ true) → write_fault held.config.addr bytes ≢ None
    go (inl front) =
        subst (λ l. write_fault held.config.addr l ≢ None) (first-bytes request bytes front) (plain.cut (length bytes))
    go (inr wrong) = betrayal.write held.config.addr bytes wrong

-- A job that begins, a host that restarts, and what a driver begins with.

-- a job that the host accepted
begun : {config : Config} {passes : ℕ} {before : List Event} {event : Event} {summary : Summary} {held : Held} (job : host.Job) →
    IsGrown config passes before event (tells (host.Accepted job)) summary held →
    Goes config passes before (event ∷ []) (Began job ∷ []) None (host_next summary (host.Accepted job)) held
begun job is = record { is_life = is.is_life; told = is.told; ended = tt }

-- there is an event for each
pub job-goes : LawsOfLives → {config : Config} {passes : ℕ} {before : List Event} {summary : Summary} {held : Held}
    (job : host.Job) →
    job_fault summary job ≡ None → IsLife config passes before summary held →
    Goes config passes before (job_event job ∷ []) (Began job ∷ []) None (host_next summary (host.Accepted job)) held
job-goes laws (host.Order cell word) free is = begun (host.Order cell word)
    (grown laws (Order cell word) (tells (host.Accepted (host.Order cell word))) is
    (ap (λ f. option_or (refused f) None) (of-life (λ h. job_fault h (host.Order cell word) ≡ None) is free)) tt refl tt)
job-goes laws (host.Check cell) free is = begun (host.Check cell)
    (grown laws (Check cell) (tells (host.Accepted (host.Check cell))) is
    (ap (λ f. option_or (refused f) None) (of-life (λ h. job_fault h (host.Check cell) ≡ None) is free)) tt refl tt)
job-goes laws (host.Learn output) free is = begun (host.Learn output)
    (grown laws (Learn output) (tells (host.Accepted (host.Learn output))) is
    (ap (λ f. option_or (refused f) None) (of-life (λ h. job_fault h (host.Learn output) ≡ None) is free)) tt refl tt)
job-goes laws (host.Send (ClearFaults output)) free is = begun (host.Send (ClearFaults output))
    (grown laws (Clear output) (tells (host.Accepted (host.Send (ClearFaults output)))) is
    (ap (λ f. option_or (refused f) None) (of-life (λ h. job_fault h (host.Send (ClearFaults output)) ≡ None) is free)) tt refl tt)
job-goes laws (host.Send StoreUserAll) free is = begun (host.Send StoreUserAll)
    (grown laws Store (tells (host.Accepted (host.Send StoreUserAll))) is
    (ap (λ f. option_or (refused f) None) (of-life (λ h. job_fault h (host.Send StoreUserAll) ≡ None) is free)) tt refl tt)
job-goes laws (host.Send RestoreUserAll) free is = begun (host.Send RestoreUserAll)
    (grown laws Restore (tells (host.Accepted (host.Send RestoreUserAll))) is
    (ap (λ f. option_or (refused f) None) (of-life (λ h. job_fault h (host.Send RestoreUserAll) ≡ None) is free)) tt refl tt)

-- the event of a job doesn't restart the converter
job-quiet : (job : host.Job) → restarts_in (job_event job ∷ []) ≡ 0
job-quiet (host.Order cell word) = refl
job-quiet (host.Check cell) = refl
job-quiet (host.Learn output) = refl
job-quiet (host.Send (ClearFaults output)) = refl
job-quiet (host.Send StoreUserAll) = refl
job-quiet (host.Send RestoreUserAll) = refl

none-more : (n : ℕ) → 0 + n ≡ n
none-more n = omega arith

-- begun jobs lead on
pub jobs-lead : LawsOfLives → {B : Type 0} → (gives : B → Call → B → Type 0) → (held : B → Held) → (restarts : B → ℕ)
    → JobsLead gives held restarts
jobs-lead laws gives held restarts summary bus job free = record {
  acts = Began job ∷ [];
  events = job_event job ∷ [];
  asks = refl;
  calls = refl;
  may = (free, tt);
  host = refl;
  newest = tt;
  count = ap (λ n. n + restarts bus) (job-quiet job) ∙ none-more (restarts bus);
  orders = refl;
  lives = λ config passes before life. job-goes laws job free life;
}

-- a job begins by the event that asks for it
pub job-events : (laws : LawsOfLives) → {B : Type 0} → (gives : B → Call → B → Type 0) → (held : B → Held) → (restarts : B → ℕ)
    → (summary : Summary) (bus : B) (job : host.Job) (free : job_fault summary job ≡ None) →
    (jobs-lead laws gives held restarts summary bus job free).events ≡ job_event job ∷ []
unfolding jobs-lead
job-events laws gives held restarts summary bus job free = refl

-- a restart of the host leads on
pub renewals-lead : LawsOfLives → {B : Type 0} → (gives : B → Call → B → Type 0) → (held : B → Held) → (restarts : B → ℕ)
    → RenewalsLead gives held restarts
renewals-lead laws gives held restarts summary bus = record {
  acts = Renewed ∷ [];
  events = RestartHost ∷ [];
  asks = refl;
  calls = refl;
  may = (tt, tt);
  host = refl;
  newest = tt;
  count = none-more (restarts bus);
  orders = refl;
  lives = λ config passes before life.
      let one = grown laws RestartHost (tells host.Restarted) life refl tt refl tt in
      record { is_life = one.is_life; told = one.told; ended = tt };
}

-- a cell of a host's outputs is one of the converter's
there-of : {config : Config} {passes : ℕ} {events : List Event} {summary : Summary} {held : Held} (cell : Cell) →
    IsLife config passes events summary held → IsCell summary.setup.outputs cell → IsCell config.count cell
there-of cell is there = subst (λ (s : host.Setup). IsCell s.outputs cell) (life-setup is) there

-- what the host calls confirmed of the cell is held
since-stands : LawsOfLives → (summary : Summary) (held : Held) (cell : Cell) (word : ℕ) →
    IsCell summary.setup.outputs cell → HasNoRestartSince cell summary held → standing_at summary cell ≡ Confirmed word →
    word_at held.words cell ≡ word
since-stands laws summary held cell word there is says =
    let has = is.has in
    let lived = has.life in
    subst (λ (d : Held). word_at d.words cell ≡ word) lived.held_is.same
    ((laws.confirmed has.config has.passes has.events lived.lived).held cell word (there-of cell lived there)
    (subst (λ (h : Summary). standing_at h cell ≡ Confirmed word) (sym lived.host_is) says) is.since)

-- what is held of a cell is possible
since-among : LawsOfLives → (summary : Summary) (held : Held) (cell : Cell) →
    IsCell summary.setup.outputs cell → HasNoRestartSince cell summary held →
    is_possible (word_at held.words cell) (possible_at summary cell) ≡ true
since-among laws summary held cell there is =
    let has = is.has in
    let lived = has.life in
    subst (λ (d : Held). is_possible (word_at d.words cell) (possible_at summary cell) ≡ true) lived.held_is.same
    (subst (λ (h : Summary). is_possible (word_at (now has.config has.passes has.events).device.words cell) (possible_at h cell) ≡ true)
    lived.host_is
    ((laws.possible.held has.config has.passes has.events lived.lived).held cell (there-of cell lived there) is.since))

-- what is true of a host and a converter to which a life led
pub true-of : LawsOfLives → (summary : Summary) (held : Held) → HasLife summary held → IsTrueOf summary held
true-of laws summary held has = record {
  has = has;
  stands = since-stands laws summary held;
  among = since-among laws summary held;
}

-- some life led to where a driver leads, if one led to where it began
pub leads-lived : {B : Type 0} (gives : B → Call → B → Type 0) (held : B → Held) (restarts : B → ℕ) (asked : List Act)
    (end : Option JobEnd) (old new : Driven B) →
    HasLife old.host (held old.bus) → Leads gives held restarts asked end old new → HasLife new.host (held new.bus)
leads-lived gives held restarts asked end old new has leads = record {
  config = has.config;
  passes = has.passes;
  events = leads.events ++ has.events;
  spelled = has.spelled;
  life = (leads.lives has.config has.passes has.events has.life).is_life;
}

-- the last job of acts that asked for one alone
pub last-begun : (job : host.Job) (earlier acts : List Act) (rest : List host.Entry) → asked_in acts ≡ Began job ∷ earlier →
    host.last_job (told_all acts ++ rest) ≡ Some job
last-begun job earlier [] rest h = cc
last-begun job earlier (Called (Wrote frame acked) ∷ acts) rest h = last-begun job earlier acts rest h
last-begun job earlier (Called (Read request room came) ∷ acts) rest h = last-begun job earlier acts rest h
last-begun job earlier (Began other ∷ acts) rest h =
    let same : Began other ≡ Began job = cc in
    let jobs : other ≡ job = cc in ap (λ j. Some j) jobs
last-begun job earlier (Renewed ∷ acts) rest h = cc
last-begun job earlier (Looked request room came ∷ acts) rest h = cc

-- what an end says asks for settings alone
says-same : (job : host.Job) (end : JobEnd) (summary : Summary) (one other : Held) → HaveSameSettings one other →
    EndSays job summary one end → EndSays job summary other end
says-same (host.Order cell word) Done summary one other same is =
    subst (λ (d : Held). Stands summary d cell word) same.same is
says-same (host.Order cell word) (Differs read) summary one other same is =
    subst (λ (d : Held). Stands summary d cell read) same.same is
says-same (host.Check cell) Done summary one other same is =
    subst (λ (d : Held). (word : ℕ) × Stands summary d cell word) same.same is
says-same (host.Learn output) Learned summary one other same is =
    subst (λ (s : Shape). IsSomeAnd (format_at summary output) (λ shape. shape ≡ s)) (shape-same one other same output) is
says-same (host.Order cell word) Unknown summary one other same is = tt
says-same (host.Order cell word) Learned summary one other same is = tt
says-same (host.Check cell) (Differs read) summary one other same is = tt
says-same (host.Check cell) Unknown summary one other same is = tt
says-same (host.Check cell) Learned summary one other same is = tt
says-same (host.Learn output) Done summary one other same is = tt
says-same (host.Learn output) (Differs read) summary one other same is = tt
says-same (host.Learn output) Unknown summary one other same is = tt
says-same (host.Send command) end summary one other same is = tt

-- the end of the job that a driver carried out says what it is worth
pub leads-say : EndsAreTrue → {B : Type 0} (gives : B → Call → B → Type 0) (held : B → Held) (restarts : B → ℕ) (job : host.Job)
    (end : JobEnd) (old new : Driven B) →
    HasLife old.host (held old.bus) → Leads gives held restarts (Began job ∷ []) (Some end) old new
    → EndSays job new.host (held new.bus) end
leads-say law gives held restarts job end old new has leads =
    let goes = leads.lives has.config has.passes has.events has.life in
    let is = goes.is_life in
    let events = leads.events ++ has.events in
    let last = ap host.last_job goes.told
    ∙ last-begun job [] leads.acts (life has.config has.passes has.events).entries leads.asks in
    says-same job end new.host (now has.config has.passes events).device (held new.bus) is.held_is
    (subst (λ h. EndSays job h (now has.config has.passes events).device end) is.host_is
    (law has.config has.passes events job end has.spelled is.lived
    (tells-append leads.events has.events leads.newest) last goes.ended).says)

-- a host began a job that it didn't refuse
pub record IsBegun (old : Summary) (asked : Asked) (middle : Summary) : Type 0 where
  pub free : (begun : host.Job) → accepted_job old asked ≡ Some begun → job_fault old begun ≡ None
  pub ok : IsSomeAnd (accepted_job old asked) (λ begun. middle ≡ host_next old (host.Accepted begun))

-- a driver leads by a job that its host began, if it leads while it carries that job out
pub job-leads : {B : Type 0} (gives : B → Call → B → Type 0) (held : B → Held) (restarts : B → ℕ) → JobsLead gives held restarts
    → LeadsCompose gives held restarts →
    (asked : Asked) (end : JobEnd) (old new : Driven B) (middle : Summary) → IsBegun old.host asked middle →
    Leads gives held restarts [] (Some end) (record { host = middle; bus = old.bus }) new →
    IsSomeAnd (accepted_job old.host asked) (λ begun. Leads gives held restarts (Began begun ∷ []) (Some end) old new)
job-leads gives held restarts jobs compose asked end old new middle begins leads = go (accepted_job old.host asked) refl begins.ok where
  go : (o : Option host.Job) → accepted_job old.host asked ≡ o →
      IsSomeAnd o (λ begun. middle ≡ host_next old.host (host.Accepted begun)) →
      IsSomeAnd o (λ begun. Leads gives held restarts (Began begun ∷ []) (Some end) old new)
  go None is ok = absurd ok
  go (Some begun) is ok =
      let first = jobs old.host old.bus begun (begins.free begun is) in
      let second = subst (λ h. Leads gives held restarts [] (Some end) (record { host = h; bus = old.bus }) new) ok leads in
      compose (Began begun ∷ []) [] None (Some end) old (record { host = host_next old.host (host.Accepted begun); bus = old.bus }) new
      first second

-- a job that was carried out has a life
pub job-lived : {B : Type 0} (gives : B → Call → B → Type 0) (held : B → Held) (restarts : B → ℕ) → JobsLead gives held restarts
    → LeadsCompose gives held restarts →
    (asked : Asked) (end : JobEnd) (old new : Driven B) (middle : Summary) → HasLife old.host (held old.bus) →
    IsBegun old.host asked middle →
    Leads gives held restarts [] (Some end) (record { host = middle; bus = old.bus }) new → HasLife new.host (held new.bus)
job-lived gives held restarts jobs compose asked end old new middle has begins leads =
    go (accepted_job old.host asked) (job-leads gives held restarts jobs compose asked end old new middle begins leads) where
      go : (o : Option host.Job) → IsSomeAnd o (λ begun. Leads gives held restarts (Began begun ∷ []) (Some end) old new) →
          HasLife new.host (held new.bus)
      go None is = absurd is
      go (Some begun) is = leads-lived gives held restarts (Began begun ∷ []) (Some end) old new has is

-- a job that began is open
pub begun-busy : (s after : Summary) (asked : Asked)
    → IsSomeAnd (accepted_job s asked) (λ begun. after ≡ host_next s (host.Accepted begun)) →
    is_busy after ≡ true
unfolding host_next
begun-busy s after asked begins = go (accepted_job s asked) begins where
  busy : (begun : host.Job) → is_busy (host_next s (host.Accepted begun)) ≡ true
  busy (host.Order cell word) = refl
  busy (host.Check cell) = refl
  busy (host.Learn output) = refl
  busy (host.Send command) = refl

  go : (o : Option host.Job) → IsSomeAnd o (λ begun. after ≡ host_next s (host.Accepted begun)) → is_busy after ≡ true
  go None ok = absurd ok
  go (Some begun) ok = subst (λ h. is_busy h ≡ true) (sym ok) (busy begun)

-- A new host beside a part as it is, by a life that led there.

-- a life that led to a part is one of the part as it is
pub reached-life : LawsOfLives → (held : Held) (passes : ℕ) (events : List Event) → IsAsItIs held →
    IsReached held.config passes held.words held.store events →
    IsLife (stored_config held.config held.store) passes events (start (setup_of held.config passes)) held
reached-life laws held passes events as_is is =
    let begun = stored_config held.config held.store in
    let same : begun ≡ (now begun passes events).device.config = sym (now-config begun passes events) in
    record {
      lived = is.lived;
      host_is = is.host;
      held_is = settings-of (now begun passes events).device held
          (subst (λ (c : Config). c ≡ record held.config { starts = c.starts; protect = c.protect }) same refl)
          (subst (λ (c : Config). modes_of c ≡ modes_of held.config) same (laws.stored.modes held.config held.store as_is.part.made.places))
          (ap₂ (λ (w s : Words). (w, s)) is.words_are is.store_is);
    }

-- its numbers are those of bytes
spelled-alike : (one other : Config) → modes_of one ≡ modes_of other → one.coefficients ≡ other.coefficients → IsSpelled one → IsSpelled other
spelled-alike one other modes coefficients is = record {
  modes = λ output there. subst (λ (l : List ℕ). slice_index l output < 2 ^ 8) modes (is.modes output there);
  coefficients = subst (λ (c : Numbers). coefficients_of (coefficient_bytes c) ≡ c) coefficients is.coefficients;
}

-- there is one
has-life : LawsOfLives → (held : Held) (passes : ℕ) → IsAsItIs held → IsSetup (setup_of held.config passes) →
    HasLife (start (setup_of held.config passes)) held
has-life laws held passes is made =
    let all = laws.parts held.config passes held.words held.store is.part made in
    record {
      config = stored_config held.config held.store;
      passes = passes;
      events = all.0;
      spelled = spelled-alike held.config (stored_config held.config held.store)
          (sym (laws.stored.modes held.config held.store is.part.made.places)) refl is.spelled;
      life = reached-life laws held passes all.0 is all.1;
    }

-- A new host beside a part as it is has a life.
pub begins-lived : LawsOfLives → (host : Summary) (held : Held) → MayBegin host held → HasLife host held
begins-lived laws host held may = subst (λ (h : Summary). HasLife h held) (sym may.made) (has-life laws held may.passes may.is may.setup)

-- beside a converter as it was made
pub new-begins : LawsOfLives → NewConvertersMayBegin
unfolding start_of
new-begins laws config passes places sound spelled made = record {
  passes = passes;
  is = record { part = laws.starts config sound places; spelled = spelled };
  setup = made;
  made = refl;
}

-- what a life left
pub leads-on : LawsOfLives → LivesLeadOn
leads-on laws was held has places =
    let is = has.life in
    let device = (now has.config has.passes has.events).device in
    let same = is.held_is in
    let modes : modes_of has.config ≡ modes_of held.config =
    ap modes_of (sym (now-config has.config has.passes has.events)) ∙ same.modes in
    let coefficients : has.config.coefficients ≡ held.config.coefficients =
    ap (λ (c : Config). c.coefficients) (sym (now-config has.config has.passes has.events))
    ∙ ap (λ (d : Held). d.config.coefficients) same.same in
    let count : has.config.count ≡ held.config.count = ap (λ (c : Config). c.count) (sym (now-config has.config has.passes has.events))
    ∙ ap (λ (d : Held). d.config.count) same.same in
    let addr : has.config.addr ≡ held.config.addr = ap (λ (c : Config). c.addr) (sym (now-config has.config has.passes has.events))
    ∙ ap (λ (d : Held). d.config.addr) same.same in
    let long : length has.config.starts ≡ 8 = sym (length-map has.config.starts (λ (s : OutputStart). s.mode))
    ∙ (ap (λ (l : List ℕ). length l) modes ∙ (length-map held.config.starts (λ (s : OutputStart). s.mode) ∙ places)) in
    let left = laws.left has.config has.passes has.events is.lived long in
    let words : device.words ≡ held.words = ap (λ (d : Held). d.words) same.same in
    let store : device.store ≡ held.store = ap (λ (d : Held). d.store) same.same in
    record {
      part = record {
        made = record {
          some = subst (λ (n : ℕ). 1 ≤ n) count left.made.some;
          few = subst (λ (n : ℕ). n ≤ 8) count left.made.few;
          address = subst IsAddress addr left.made.address;
          places = places;
          formats = λ output there. sym (shape-made-so has.config held.config modes coefficients output)
              ∙ (left.made.formats output (subst (λ (n : ℕ). output < n) (sym count) there)
              ∙ ap (λ s. Some s) (shape-so has.config held.config modes coefficients output));
        };
        held = subst (λ (w : Words). AreWordsOf held.config.count w) words (subst (λ (n : ℕ). AreWordsOf n device.words) count left.held);
        stored = subst (λ (w : Words). AreWordsOf held.config.count w) store (subst (λ (n : ℕ). AreWordsOf n device.store) count left.stored);
        absent = λ cell there none. ap (λ (w : Words). word_at w cell) (sym words)
            ∙ (left.absent cell there (ap (λ (n : ℕ). is_cell n cell) count ∙ none) ∙ ap (λ (w : Words). word_at w cell) store);
      };
      spelled = spelled-alike has.config held.config modes coefficients has.spelled;
    }

-- a new host beside a part as it is was told of no answer yet
no-restart : LawsOfLives → (held : Held) (passes : ℕ) (cell : Cell) → IsAsItIs held → IsSetup (setup_of held.config passes) →
    HasNoRestartSince cell (start (setup_of held.config passes)) held
unfolding has-life
no-restart laws held passes cell is made =
    let all = laws.parts held.config passes held.words held.store is.part made in
    record {
      has = has-life laws held passes is made;
      since = laws.lists.since (stored_config held.config held.store) passes cell all.0 all.1.steady;
    }

-- Beside a part as it is the new host of a driver has seen no restart.
pub begins-since : LawsOfLives → (host : Summary) (held : Held) → MayBegin host held → (cell : Cell) → HasNoRestartSince cell host held
begins-since laws host held may cell = subst (λ (h : Summary). HasNoRestartSince cell h held) (sym may.made)
    (no-restart laws held may.passes cell may.is may.setup)

-- The converter doesn't restart since a cell was read while the bus counts no restart.

-- no restart among events is none of the newest and none of the earlier
none-of : (restarts : Bool) (earlier : ℕ) → cond restarts 1 0 + earlier ≡ 0 → (restarts ≡ false) × (earlier ≡ 0)
none-of true earlier none = let no : ⊥ = omega arith in absurd no
none-of false earlier none = (refl, omega arith)

-- what a look back says where the newest event is no restart
no-more : (read restarts earlier : Bool) → restarts ≡ false → earlier ≡ false → cond read false (restarts || earlier) ≡ false
no-more true restarts earlier one two = refl
no-more false restarts earlier one two = ap₂ (λ x y. x || y) one two

-- further events without a restart
pub quiet-since : (config : Config) (passes : ℕ) (cell : Cell) (events before : List Event) → restarts_in events ≡ 0 →
    restarted_since config passes cell before ≡ false → restarted_since config passes cell (events ++ before) ≡ false
unfolding restarted_since
quiet-since config passes cell [] before none since = since
quiet-since config passes cell (event ∷ events) before none since =
    let both = none-of (restarts_converter event) (restarts_in events) none in
    no-more (reads_cell config passes cell (events ++ before) event) (restarts_converter event)
    (restarted_since config passes cell (events ++ before)) both.0
    (quiet-since config passes cell events before both.1 since)

-- a count that didn't rise counted nothing
pub none-counted : (n was is : ℕ) → n + was ≡ is → is ≡ was → n ≡ 0
none-counted n was is rose same = omega arith

-- no restart is counted where something led and the count stayed
pub leads-since : {B : Type 0} (gives : B → Call → B → Type 0) (held : B → Held) (restarts : B → ℕ) → RestartsAreCounted gives held restarts
leads-since gives held restarts acts end old new cell leads same is =
    let has = is.has in
    record {
      has = record {
        config = has.config;
        passes = has.passes;
        events = leads.events ++ has.events;
        spelled = has.spelled;
        life = (leads.lives has.config has.passes has.events has.life).is_life;
      };
      since = quiet-since has.config has.passes cell leads.events has.events
          (none-counted (restarts_in leads.events) (restarts old.bus) (restarts new.bus) leads.count same) is.since;
    }

-- the converter didn't restart since the reading of a cell with which a job ended, in every case
pub leads-read : EndsAreTrue → {B : Type 0} (gives : B → Call → B → Type 0) (held : B → Held) (restarts : B → ℕ) (job : host.Job)
    (end : JobEnd) (old new : Driven B) →
    HasLife old.host (held old.bus) → Leads gives held restarts (Began job ∷ []) (Some end) old new →
    IfSome (cell_of_end job end) (λ cell. HasNoRestartSince cell new.host (held new.bus))
leads-read law gives held restarts job end old new has leads =
    let goes = leads.lives has.config has.passes has.events has.life in
    let is = goes.is_life in
    let events = leads.events ++ has.events in
    let last = ap host.last_job goes.told
    ∙ last-begun job [] leads.acts (life has.config has.passes has.events).entries leads.asks in
    go (record { config = has.config; passes = has.passes; events = events; spelled = has.spelled; life = is }) (cell_of_end job end)
    (law has.config has.passes events job end has.spelled is.lived
    (tells-append leads.events has.events leads.newest) last goes.ended).read
  where
    go : (all : HasLife new.host (held new.bus)) (o : Option Cell) →
        IfSome o (λ cell. restarted_since all.config all.passes cell all.events ≡ false) →
        IfSome o (λ cell. HasNoRestartSince cell new.host (held new.bus))
    go all None since = tt
    go all (Some cell) since = record { has = all; since = since }

-- calls that restart nothing, one after another
calls-none : {B : Type 0} (gives : B → Call → B → Type 0) (restarts : B → ℕ) (is_so : B → Bool) → AreWithoutRestart gives restarts is_so →
    (old : B) → is_so old ≡ true → (acts : List Act) (new : B) → AreCalls gives old acts new →
    (restarts new ≡ restarts old) × (is_so new ≡ true)
calls-none gives restarts is_so all old so [] new calls =
    (ap restarts (sym calls), subst (λ b. is_so b ≡ true) calls so)
calls-none gives restarts is_so all old so (Called call ∷ acts) new calls =
    let earlier = calls-none gives restarts is_so all old so acts calls.0 calls.1 in
    let one = all call calls.0 new earlier.1 calls.2 in
    (one.0 ∙ earlier.0, one.1)
calls-none gives restarts is_so all old so (Began job ∷ acts) new calls = calls-none gives restarts is_so all old so acts new calls
calls-none gives restarts is_so all old so (Renewed ∷ acts) new calls = calls-none gives restarts is_so all old so acts new calls
calls-none gives restarts is_so all old so (Looked request room came ∷ acts) new calls =
    let earlier = calls-none gives restarts is_so all old so acts calls.0 calls.1 in
    let one = all (Read request room came) calls.0 new earlier.1 calls.2 in
    (one.0 ∙ earlier.0, one.1)

-- a read that is no job restarts nothing
pub reads-none : {B : Type 0} (gives : B → Call → B → Type 0) (held : B → Held) (restarts : B → ℕ) → ReadsRestartNothing gives held restarts
reads-none gives held restarts is_so all request room answer old new (Err fault) looks so = (
  subst (λ (d : Driving _). is_so d.bus ≡ true) (sym looks.err.0) so,
  λ cell is. subst (λ (d : Driving _). HasNoRestartSince cell d.guard.host (held d.bus)) (sym looks.err.0) is,
)
reads-none gives held restarts is_so all request room answer old new (Ok count) looks so =
    let one = all (Read request room (take count answer)) old.bus new.bus so looks.once in (
      one.1,
      λ cell is. leads-since gives held restarts (Looked request room (take count answer) ∷ []) None (driven old) (driven new) cell
          looks.leads one.0 is,
    )

-- a job restarts nothing
pub jobs-none : {B : Type 0} (gives : B → Call → B → Type 0) (held : B → Held) (restarts : B → ℕ) → JobsRestartNothing gives held restarts
jobs-none gives held restarts is_so all job old new (Err fault) runs so = (
  subst (λ (d : Driving _). is_so d.bus ≡ true) (sym runs.err) so,
  λ cell is. subst (λ (d : Driving _). HasNoRestartSince cell d.guard.host (held d.bus)) (sym runs.err) is,
)
jobs-none gives held restarts is_so all job old new (Ok end) runs so = go (accepted_job old.guard.host job) runs.leads where
  go : (o : Option host.Job) → IsSomeAnd o (λ begun. Leads gives held restarts (Began begun ∷ []) (Some end) (driven old) (driven new)) →
      (is_so new.bus ≡ true) × ((cell : Cell) → HasNoRestartSince cell old.guard.host (held old.bus) →
      HasNoRestartSince cell new.guard.host (held new.bus))
  go None leads = absurd leads
  go (Some begun) leads =
      let all_of = calls-none gives restarts is_so all old.bus so leads.acts new.bus leads.calls in
      (all_of.1, λ cell is. leads-since gives held restarts (Began begun ∷ []) (Some end) (driven old) (driven new) cell leads all_of.0 is)

-- What a converter hears of a frame, and what comes back.

-- a restart
pub restarted : (old new : Held) → new ≡ device_next old device.Restarted → IsDisturbed old true new
restarted old new is = λ n. record { events = RestartDevice ∷ []; beside = (refl, tt); after = λ frame. sym is; count = omega arith }

-- nothing happens to the converter
pub undisturbed : (held : Held) → IsDisturbed held false held
undisturbed held = λ n. record { events = []; beside = tt; after = λ frame. refl; count = omega arith }

-- a packet is heard, legally
pub delivered : (packet bytes : List ℕ) (ending : Ending) (way : Arrival) (old new : Held) → bytes ≡ heard_bytes packet way →
    ending ≡ ending_of Stop way → is_legal_hearing packet bytes ending ≡ true → new ≡ device_next old (device.Hearing bytes ending) →
    IsSentPart packet old new
delivered packet bytes ending way old new bytes_are ending_is legal after = λ n. record {
  count = omega arith;
  events = Deliver way ∷ [];
  may = (sym (ap₂ (λ b e. is_legal_hearing packet b e) bytes_are ending_is) ∙ legal, tt);
  after = sym (after ∙ ap₂ (λ b e. device_next old (device.Hearing b e)) bytes_are ending_is);
}

-- a packet is lost
pub lost : (packet : List ℕ) (held : Held) → IsSentPart packet held held
lost packet held = λ n. record { events = []; may = tt; after = refl; count = omega arith }

-- no bytes are heard legally, and come back legally
none-heard : (request : List ℕ) → is_legal_hearing request [] Stop ≡ true
unfolding is_legal_hearing
none-heard [] = refl
none-heard (byte ∷ rest) = refl

-- no byte is a legal return for a request whose whole answer has at least one
none-back : (request answer : List ℕ) (needed : ℕ) (whole : Bool) → 1 ≤ needed → is_legal_return request needed whole answer [] ≡ true
unfolding is_legal_return
none-back request answer needed whole some =
    or_right (whole && bytes_eq [] answer) (nat_lt 0 needed || is_betrayed request [])
    (ap (λ b. b || is_betrayed request []) (lt-ltb 0 needed some))

-- a request is lost
pub lost-asked : (request : List ℕ) (needed : ℕ) (old new : Held) → 1 ≤ needed → new ≡ device_next old (device.Hearing [] Stop) →
    IsAskedPart request needed old [] new
lost-asked request needed old new some after = λ n. record {
  count = omega arith;
  before = [];
  arrival = arrival.Cut 0;
  back = back.Cut 0;
  beside_before = tt;
  legal = none-heard request;
  returned = none-back request (answer_of old request (arrival.Cut 0)) needed (is_heard_whole request [] Stop) some;
  came_is = refl;
  after = sym after;
}

-- what is known of a request that was heard, and of its answer
pub record Hears (request bytes given : List ℕ) (ending : Ending) (way : Arrival) (old new : Held) : Type 0 where
  pub bytes_are : bytes ≡ heard_bytes request way
  pub ending_is : ending ≡ ending_of Restart way
  pub legal : is_legal_hearing request bytes ending ≡ true
  pub given_is : given ≡ answer_in (reply_of old bytes ending)
  pub after : new ≡ device_next old (device.Hearing bytes ending)

-- what was heard of a request is legal as it arrives
hears-legal : {request bytes given : List ℕ} {ending : Ending} {way : Arrival} {old new : Held} →
    Hears request bytes given ending way old new →
    is_legal_hearing request (heard_bytes request way) (ending_of Restart way) ≡ true
hears-legal {request = request} h = sym (ap₂ (λ b e. is_legal_hearing request b e) h.bytes_are h.ending_is) ∙ h.legal

-- the answer that was given is the one that the converter has to the request as it arrives
hears-given : {request bytes given : List ℕ} {ending : Ending} {way : Arrival} {old new : Held} →
    Hears request bytes given ending way old new →
    given ≡ answer_of old request way
hears-given {old = old} h = h.given_is ∙ ap₂ (λ b e. answer_in (reply_of old b e)) h.bytes_are h.ending_is

-- the converter holds afterwards what hearing the request as it arrives makes of what was held before
hears-after : {request bytes given : List ℕ} {ending : Ending} {way : Arrival} {old new : Held} →
    Hears request bytes given ending way old new →
    device_next old (device.Hearing (heard_bytes request way) (ending_of Restart way)) ≡ new
hears-after {old = old} h = sym (h.after ∙ ap₂ (λ b e. device_next old (device.Hearing b e)) h.bytes_are h.ending_is)

-- its answer is lost
pub lost-back : (request bytes given : List ℕ) (ending : Ending) (way : Arrival) (needed : ℕ) (old new : Held) → 1 ≤ needed →
    Hears request bytes given ending way old new → IsAskedPart request needed old [] new
lost-back request bytes given ending way needed old new some h = λ n. record {
  count = omega arith;
  before = [];
  arrival = way;
  back = back.Cut 0;
  beside_before = tt;
  legal = hears-legal h;
  returned = none-back request (answer_of old request way) needed (is_heard_whole request (heard_bytes request way)
      (ending_of Restart way)) some;
  came_is = refl;
  after = hears-after h;
}

-- an answer comes back legally
pub came-back : (request bytes given came : List ℕ) (ending : Ending) (way : Arrival) (so : Back) (whole : Bool) (needed : ℕ)
    (old new : Held) →
    Hears request bytes given ending way old new → came ≡ back_bytes given so → whole ≡ is_heard_whole request bytes ending →
    is_legal_return request needed whole given came ≡ true → IsAskedPart request needed old came new
came-back request bytes given came ending way so whole needed old new h came_so whole_is legal =
    let came_is : back_bytes (answer_of old request way) so ≡ came = sym (came_so ∙ ap (λ g. back_bytes g so) (hears-given h)) in
    let whole_so : whole ≡ is_heard_whole request (heard_bytes request way) (ending_of Restart way) =
    whole_is ∙ ap₂ (λ b e. is_heard_whole request b e) h.bytes_are h.ending_is in
    λ n. record {
      count = omega arith;
      before = [];
      arrival = way;
      back = so;
      beside_before = tt;
      legal = hears-legal h;
      returned = sym (ap₂ (λ w g. is_legal_return request needed w g came) whole_so (hears-given h)
          ∙ ap (is_legal_return request needed (is_heard_whole request (heard_bytes request way) (ending_of Restart way))
          (answer_of old request way))
          (sym came_is)) ∙ legal;
      came_is = came_is;
      after = hears-after h;
    }

-- bytes that were put into the room for them are what is taken from it
pub put-in : (came copied rest : List ℕ) → copied ≡ came → take (length came) (copied ++ rest) ≡ came
put-in came copied rest same = ap (λ l. take (length came) (l ++ rest)) same ∙ go came where
  go : (bytes : List ℕ) → take (length bytes) (bytes ++ rest) ≡ bytes
  go [] = refl
  go (byte ∷ bytes) = ap (λ l. byte ∷ l) (go bytes)
