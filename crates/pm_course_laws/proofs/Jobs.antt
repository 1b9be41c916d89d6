-- What the frames of a job leave in a life, if each is heard once and whole and each answer comes back.
use Rattle.std.proofs.Common.{Bool, Err, List, None, Ok, Option, Result, Some, [], ap, arith, cond, eqb, false, inl, inr, refl, subst, sym, true, ℕ, ◌++◌, ◌∙◌, ◌∷◌, ◌≡◌, ◌≢◌, ◌⊎◌}
use Rattle.std.specs.Prelude.{option_and_then, option_map, option_to_list}
use Rattle.std.specs.Result.{result_ok}
use Rattle.std.proofs.lemmas.Bool.{eq-eqb}
use Rattle.pm_num.specs.AnyFormat.{InUlinear16, Shape}
use Rattle.pm_table.specs.declared.cell.Cell.{Cell}
use Rattle.pm_table.specs.declared.fault.TableFault.{TableFault}
use Rattle.pm_table.specs.declared.vout_mode.VoutMode.{VoutMode}
use Rattle.pm_table.specs.declared.vout_mode.VoutMode.TheVariants.{Direct, Linear}
use Rattle.pm_table.specs.Coefficients.{coefficients_of}
use Rattle.pm_table.specs.Format.{shape_in}
use Rattle.pm_table.specs.VoutMode.{mode_of}
use Rattle.pm_host.specs.declared.job.JobEnd.{JobEnd}
use Rattle.pm_host.specs.declared.job.JobEnd.TheVariants.{Differs, Done, Learned, Unknown}
use Rattle.pm_host.specs.declared.question.Question.{Question}
use Rattle.pm_host.specs.declared.question.Question.TheVariants.{Coefficients, Mode, Word}
use Rattle.pm_host.specs.declared.stage.Stage.TheVariants.{Asks, Reads, Writes}
use Rattle.pm_host.specs.declared.host.Step.TheVariants.{Ended, Next}
use Rattle.pm_host.specs.Answers.{good_payload, good_word, word_in}
use Rattle.pm_host.specs.Known.{known_after}
use Rattle.pm_host.specs.Marks.{Good, Put}
use Rattle.pm_host.specs.Messages.{cell_read, coefficients_read, mode_read}
use Rattle.pm_host.specs.Question.{question_message}
use Rattle.pm_host.specs.Summary.{Change, Summary, question_answered, change, ends as over, goes_on_at, idle, learned, marked, mode_taken, host_next, possible_at, read_back, sending_in, step_of, writes as writes_again}
use Rattle.pm_host.specs.Transcript.{Accepted, Entry, Finished, Got, Setup, open_job}
use Rattle.pm_table.specs.declared.cell.Cell.TheVariants.{Out, Protect}
use Rattle.pm_table.specs.Cell.{IsCell, cell_code}
use Rattle.pm_table.specs.Protection.{is_allowed}
use Rattle.pm_frame.specs.declared.message.Message.{Message}
use Rattle.pm_frame.specs.Layout.{is_read_message}
use Rattle.pm_model.specs.Settings.{Words, word_at}
use Rattle.pm_device.specs.declared.config.Config.{Config}
use Rattle.pm_device.specs.declared.converter.Ending.TheVariants.{Restart, Stop}
use Rattle.pm_device.specs.Held.{mode_for, shape_for}
use Rattle.pm_device.specs.History.{device_next}
use Rattle.pm_device.specs.Laws.{RequestsLatchAtMost}
use Rattle.pm_host.specs.declared.job.Job.{Job as Asked}
use Rattle.pm_host.specs.declared.host.Step.{Step as HostStep}
use Rattle.pm_host.specs.declared.knowledge.Possible.{Possible}
use Rattle.pm_host.specs.Laws.{OpenOrdersAreUncertain, TranscriptsAreFollowed}
use Rattle.pm_host.specs.Now.{host_now}
use Rattle.pm_host.specs.Possible.{is_possible}
use Rattle.pm_limits.specs.declared.part_registers.PartRegisters.{PartRegisters}
use Rattle.pm_limits.specs.declared.output_limits.OutputLimits.{OutputLimits}
use Rattle.pm_world.specs.declared.event.Arrival.TheVariants.{Whole}
use Rattle.pm_world.specs.declared.event.Event.{Event}
use Rattle.pm_world.specs.GoodBus.{GoodFramesEndJobs, WasLearned, stage_after}
use Rattle.pm_world.specs.GoodTurns.{Ends, GoesOn, OpenJobsEnd, Turns, mode_turn, turn_of}
use Rattle.pm_world.specs.Honest.{IsSpelled}
use Rattle.pm_world.specs.Laws.{LivesAreFollowed}
use Rattle.pm_world.specs.Legal.{frame_of}
use Rattle.pm_world.specs.Lemmas.{entries-more, now-config}
use Rattle.pm_world.specs.Lemmas.Hosts.{same-outputs}
use Rattle.pm_world.specs.Life.{life, now, state_of}
use Rattle.pm_world.specs.Lived.{EventsAreLived, IsLived}
use Rattle.pm_world.specs.Moves.{MovesBy, SettingsMoveByTheOpenJob, came_back, ordered, restored}
use Rattle.pm_world.specs.Retelling.{open_pending, pending_of}
use Rattle.pm_world.specs.Setup.{setup_of}
use Rattle.pm_world.specs.State.{State, answer_to, delivered, device_after, end_after, end_by, exchanged, host_after, next as world_next, share_of}
use Rattle.pm_world.specs.WholeFrames.{WholeFramesAreUndisturbed}
use Rattle.pm_course_laws.specs.Progress.{pair_at}
use Rattle.pm_course_laws.specs.Chains.{Did}
use Rattle.pm_model.specs.declared.order_machine.PendingJob.TheVariants as pending
use Rattle.pm_device.specs.Effect as device
use Rattle.pm_host.specs.declared.job.Job.TheVariants as job
use Rattle.pm_host.specs.Transcript as accepted
use Rattle.pm_world.specs.declared.event.Back.TheVariants as back
use Rattle.pm_world.specs.declared.event.Event.TheVariants as event

-- ---- What one answer makes of a host ----

-- a host that asks this
abbrev pub asking : Summary → Question → Summary
asking host q = record host { stage = Some (Asks q 0) }

-- one that was told a good answer of a cell
abbrev pub checked : Summary → Cell → ℕ → Summary
checked host cell word = record host { stage = None; known = known_after host.known (Good cell word) }

pub check-next : (host : Summary) (cell : Cell) (word : ℕ) (answer : List ℕ) → good_word host.setup.addr cell answer ≡ Some word →
    host_next (asking host (Word cell)) (Got answer) ≡ checked host cell word
unfolding host_next
check-next host cell word answer good = go (good_payload host.setup.addr (cell_read cell) answer) good where
  go : (p : Option (List ℕ)) → option_map word_in p ≡ Some word →
      (question_answered (idle (asking host (Word cell))) (Word cell) 0 p).after ≡ checked host cell word
  go None e = cc
  go (Some payload) e = let same : word_in payload ≡ word = cc in ap (λ (w : ℕ). checked host cell w) same

-- what an answer makes of a host that learns
pub data Learns (host : Summary) (q : Question) (answer : List ℕ) (output : ℕ) (changed : Change) : Type 0 where
  never : changed.step ≡ Ended Unknown → Learns host q answer output changed
  again : changed.after.stage ≡ Some (Asks q 1) → changed.step ≡ Next → Learns host q answer output changed
  more : (payload : List ℕ) → good_payload host.setup.addr (question_message q) answer ≡ Some payload →
      changed.after ≡ asking host (Coefficients output) → changed.step ≡ Next → Learns host q answer output changed
  got : (payload : List ℕ) → good_payload host.setup.addr (question_message q) answer ≡ Some payload →
      changed.after.known ≡ host.known → changed.after.stage ≡ None → changed.step ≡ Ended Learned →
      Learns host q answer output changed

pub learns-none : (host : Summary) (q : Question) (answer : List ℕ) (output : ℕ) (b : Bool) →
    Learns host q answer output (cond b (over (idle (asking host q)) Unknown) (goes_on_at (idle (asking host q)) (Asks q 1)))
learns-none host q answer output true = never refl
learns-none host q answer output false = again refl refl

pub learns-shape : (host : Summary) (q : Question) (answer payload : List ℕ) (output : ℕ) (shape : Option Shape) →
    good_payload host.setup.addr (question_message q) answer ≡ Some payload →
    Learns host q answer output (learned (idle (asking host q)) output shape)
learns-shape host q answer payload output None good = never refl
learns-shape host q answer payload output (Some shape) good = got payload good refl refl refl

pub learns-mode : (host : Summary) (answer payload : List ℕ) (output : ℕ) (mode : Result VoutMode TableFault) →
    good_payload host.setup.addr (mode_read output) answer ≡ Some payload →
    Learns host (Mode output) answer output (mode_taken (idle (asking host (Mode output))) output mode)
learns-mode host answer payload output (Err fault) good = never refl
learns-mode host answer payload output (Ok (Linear exponent)) good =
    learns-shape host (Mode output) answer payload output (Some (InUlinear16 exponent)) good
learns-mode host answer payload output (Ok Direct) good = more payload good refl refl

pub learns-by-mode : (host : Summary) (answer : List ℕ) (output : ℕ) (p : Option (List ℕ)) →
    good_payload host.setup.addr (mode_read output) answer ≡ p →
    Learns host (Mode output) answer output (question_answered (idle (asking host (Mode output))) (Mode output) 0 p)
learns-by-mode host answer output None good = learns-none host (Mode output) answer output (eqb 1 host.setup.passes)
learns-by-mode host answer output (Some payload) good = learns-mode host answer payload output (mode_of (word_in payload)) good

pub learns-by-coefficients : (host : Summary) (answer : List ℕ) (output : ℕ) (p : Option (List ℕ)) →
    good_payload host.setup.addr coefficients_read answer ≡ p →
    Learns host (Coefficients output) answer output (question_answered (idle (asking host (Coefficients output))) (Coefficients output) 0 p)
learns-by-coefficients host answer output None good = learns-none host (Coefficients output) answer output (eqb 1 host.setup.passes)
learns-by-coefficients host answer output (Some payload) good =
    learns-shape host (Coefficients output) answer payload output (result_ok (shape_in Direct (coefficients_of payload))) good

-- the host while its write is sent, while it reads back, and once it is done
abbrev pub writing : Summary → Cell → ℕ → Summary
writing host cell word = record host { stage = Some (Writes cell word 0); known = known_after host.known (Put cell word) }

abbrev pub reading : Summary → Cell → ℕ → Summary
reading host cell word = record host { stage = Some (Reads cell word 0); known = known_after host.known (Put cell word) }

abbrev pub done : Summary → Cell → ℕ → Summary
done host cell word = record host { stage = None; known = known_after (known_after host.known (Put cell word)) (Good cell word) }

pub done-next : (host : Summary) (cell : Cell) (word : ℕ) (answer : List ℕ) → good_word host.setup.addr cell answer ≡ Some word →
    host_next (reading host cell word) (Got answer) ≡ done host cell word
unfolding host_next
done-next host cell word answer good =
    ap (λ (read : Option ℕ). (read_back (idle (reading host cell word)) cell word 0 read).after) good
    ∙ ap (λ b. (cond b (over (marked (idle (reading host cell word)) (Good cell word)) Done)
    (cond (eqb 1 host.setup.passes) (over (marked (idle (reading host cell word)) (Good cell word)) (Differs word))
    (writes_again (marked (idle (reading host cell word)) (Good cell word)) cell word 1))).after)
    (eq-eqb word word refl)

-- ---- What the frames of a job leave in a life, if each is heard once and whole and each answer comes back ----

pub record Given : Type 0 where
  pub followed : LivesAreFollowed
  pub lives : EventsAreLived
  pub good : GoodFramesEndJobs
  pub turns : OpenJobsEnd
  pub whole : WholeFramesAreUndisturbed
  pub moves : SettingsMoveByTheOpenJob
  pub latch : RequestsLatchAtMost
  pub orders : OpenOrdersAreUncertain
  pub transcripts : TranscriptsAreFollowed

-- no word moves as a write is over
unmoved : {config : Config} {passes : ℕ} {before : List Event} {cell : Cell} {word : ℕ} (one : Event) (acked : Bool) →
    one ≡ event.Finish acked → MovesBy config passes before cell word one → ⊥
unmoved e acked is (came_back w) = cc
unmoved e acked is (ordered arrival takes) = cc
unmoved e acked is (restored arrival takes out w) = cc

-- while an order is open, no other cell moves
unmoved-beside : {config : Config} {passes : ℕ} {before : List Event} {other : Cell} {now_word : ℕ} (cell : Cell) (word : ℕ) (one : Event) →
    one ≡ event.Deliver Whole → open_pending config passes before ≡ Some (pending.Order cell word) → other ≢ cell →
    MovesBy config passes before other now_word one → ⊥
unmoved-beside cell word e is opened differ (came_back w) = cc
unmoved-beside cell word e is opened differ (ordered arrival takes) = let own = takes.opened in differ cc
unmoved-beside cell word e is opened differ (restored arrival takes out w) = let own = takes.opened in cc

-- one of a learn's two questions
pub data IsOwn (output : ℕ) : Question → Type 0 where
  mode : IsOwn output (Mode output)
  coefficients : IsOwn output (Coefficients output)

module _ (laws : Given) (config : Config) (passes : ℕ) (spelled : IsSpelled config) where
  abbrev pub at : List Event → State
  at events = now config passes events

  abbrev address : Summary → ℕ
  address s = s.setup.addr

  -- the host of a life sends to its address
  pub own-address : (events : List Event) → (at events).host.setup.addr ≡ config.addr
  unfolding now state_of host_now
  own-address events = refl

  pub earlier : (one : Event) (events : List Event) → IsLived config passes (one ∷ events) → IsLived config passes events
  earlier one events lived = laws.lives.earlier config passes (one ∷ []) events lived

  -- what one event that tells the host something makes of it
  pub record HeardOne (one : Event) (events : List Event) (entry : Entry) : Type 0 where
    pub host : (at (one ∷ events)).host ≡ host_next (at events).host entry
    pub end : (at (one ∷ events)).end ≡ end_by (step_of (at events).host entry)
    pub entries : (life config passes (one ∷ events)).entries ≡ entry ∷ (life config passes events).entries

  pub heard-one : (one : Event) (events : List Event) (entry : Entry) → IsLived config passes (one ∷ events) →
      (share_of (at events) one).told ≡ Some entry → HeardOne one events entry
  unfolding world_next
  heard-one one events entry lived told =
      let more' = laws.followed.more config passes events one lived in
      let s = at events in
      record {
        host = ap (λ (t : State). t.host) more' ∙ ap (λ (o : Option Entry). host_after s.host o) told;
        end = ap (λ (t : State). t.end) more' ∙ ap (λ (o : Option Entry). end_after s.host s.end o) told;
        entries = entries-more config passes events one ∙ ap
            (λ (o : Option Entry). option_to_list o ++ (life config passes events).entries) told;
      }

  step-ended : (step : HostStep) (end : JobEnd) → end_by step ≡ Some end → step ≡ Ended end
  step-ended Next end is = cc
  step-ended (Ended other) end is = let same : other ≡ end = cc in ap (λ (e : JobEnd). Ended e) same

  step-next : (step : HostStep) → end_by step ≡ None → step ≡ Next
  step-next Next is = refl
  step-next (Ended other) is = cc

  -- what is told of an exchange that nothing disturbs
  abbrev pub answer_at : List Event → Message → List ℕ
  answer_at events message = answer_to (at events).device (at events).host.setup.addr message Whole

  pub exchange-told : (events : List Event) (message : Message) → sending_in (at events).host ≡ Some message →
      (share_of (at events) (event.Exchange Whole back.Whole)).told ≡ Some (Got (answer_at events message))
  exchange-told events message sending = ap (λ (o : Option Message). (exchanged (at events) Whole back.Whole o).told) sending

  abbrev pub read_at : List Event → List Event
  read_at events = event.Exchange Whole back.Whole ∷ events

  read-words : (events : List Event) (message : Message) → IsLived config passes (read_at events) →
      sending_in (at events).host ≡ Some message → is_read_message message ≡ true →
      (at (read_at events)).device.words ≡ (at events).device.words
  unfolding world_next
  read-words events message lived sending reads =
      let s = at events in
      let frame = frame_of s.host.setup.addr message in
      ap (λ (t : State). t.device.words) (laws.followed.more config passes events (event.Exchange Whole back.Whole) lived)
      ∙ (ap (λ (o : Option Message). (device_after s.device (exchanged s Whole back.Whole o).heard).words) sending
      ∙ (ap (λ b. (device_next s.device (device.Hearing frame (cond b Restart Stop))).words) reads
      ∙ ap (λ (k : device.Kept). k.words) (laws.latch.kept s.device frame)))

  abbrev pub written_at : List Event → List Event
  written_at events = event.Finish true ∷ event.Deliver Whole ∷ events

  pub deliver-host : (events : List Event) → IsLived config passes (event.Deliver Whole ∷ events) →
      ((at (event.Deliver Whole ∷ events)).host ≡ (at events).host)
      × ((life config passes (event.Deliver Whole ∷ events)).entries ≡ (life config passes events).entries)
  unfolding world_next
  deliver-host events lived = go (sending_in (at events).host) refl where
    go : (m : Option Message) → sending_in (at events).host ≡ m → ((at (event.Deliver Whole ∷ events)).host ≡ (at events).host)
        × ((life config passes (event.Deliver Whole ∷ events)).entries ≡ (life config passes events).entries)
    go m e = (
      ap (λ (t : State). t.host) (laws.followed.more config passes events (event.Deliver Whole) lived)
          ∙ ap (λ (o : Option Entry). host_after (at events).host o) (none m e),
      entries-more config passes events (event.Deliver Whole)
          ∙ ap (λ (o : Option Entry). option_to_list o ++ (life config passes events).entries) (none m e),
    ) where
      nothing-told : (o : Option Message) → (delivered (at events) Whole o).told ≡ None
      nothing-told None = refl
      nothing-told (Some message) = refl

      none : (o : Option Message) → sending_in (at events).host ≡ o → (share_of (at events) (event.Deliver Whole)).told ≡ None
      none o f = ap (λ (x : Option Message). (delivered (at events) Whole x).told) f ∙ nothing-told o

  -- ---- How far a job is, since these events ----

  module _ (old : List Event) where
    abbrev pub first : Summary
    first = (at old).host

    abbrev pub words : Words
    words = (at old).device.words

    -- the converter has the word, and keeps each other
    pub record Has (cell : Cell) (word : ℕ) (events : List Event) : Type 0 where
      pub takes : is_allowed (word_at words Protect) (cell_code cell) ≡ true → word_at (at events).device.words cell ≡ word
      pub others : (other : Cell) → other ≢ cell → IsCell config.count other →
          word_at (at events).device.words other ≡ word_at words other

    pub data InJob : Asked → List Event → Type 0 where
      checking : (cell : Cell) (events : List Event) → (at events).host ≡ asking first (Word cell) →
          (at events).device.words ≡ words → InJob (job.Check cell) events
      learning : (output : ℕ) (q : Question) (events : List Event) → IsOwn output q → (at events).host ≡ asking first q →
          (at events).device.words ≡ words → InJob (job.Learn output) events
      to_write : (cell : Cell) (word : ℕ) (events : List Event) → (at events).host ≡ writing first cell word →
          (at events).device.words ≡ words →
          open_job (setup_of config passes) (life config passes events).entries ≡ Some (accepted.Order cell word) →
          InJob (job.Order cell word) events
      to_read : (cell : Cell) (word : ℕ) (events : List Event) → (at events).host ≡ reading first cell word → Has cell word events →
          IsCell config.count cell → is_possible word (possible_at (at events).host cell) ≡ true → InJob (job.Order cell word) events

    -- a job of a course is begun
    begins-one : (job : accepted.Job) (one : Event) → IsLived config passes (one ∷ old) →
        (share_of (at old) one).told ≡ Some (Accepted job) →
        (share_of (at old) one).heard ≡ None →
        ((at (one ∷ old)).host ≡ host_next first (Accepted job)) × ((at (one ∷ old)).device.words ≡ words)
        × ((life config passes (one ∷ old)).entries ≡ Accepted job ∷ (life config passes old).entries)
    unfolding world_next
    begins-one job one lived told' heard' =
        let is = heard-one one old (Accepted job) lived told' in (
          is.host,
          ap (λ (t : State). t.device.words) (laws.followed.more config passes old one lived)
              ∙ ap (λ (o : Option device.Event). (device_after (at old).device o).words) heard',
          is.entries,
        )

    pub begins-check : (cell : Cell) → IsLived config passes (event.Check cell ∷ old) → InJob (job.Check cell) (event.Check cell ∷ old)
    unfolding host_next
    begins-check cell lived =
        let is = begins-one (accepted.Check cell) (event.Check cell) lived refl refl in
        checking cell (event.Check cell ∷ old) is.0 is.1

    pub begins-learn : (output : ℕ) → IsLived config passes (event.Learn output ∷ old) → InJob (job.Learn output) (event.Learn output ∷ old)
    unfolding host_next
    begins-learn output lived =
        let is = begins-one (accepted.Learn output) (event.Learn output) lived refl refl in
        learning output (Mode output) (event.Learn output ∷ old) mode is.0 is.1

    pub begins-order : (cell : Cell) (word : ℕ) → IsLived config passes (event.Order cell word ∷ old) →
        InJob (job.Order cell word) (event.Order cell word ∷ old)
    unfolding host_next open_job accepted.last_job_end
    begins-order cell word lived =
        let is = begins-one (accepted.Order cell word) (event.Order cell word) lived refl refl in
        to_write cell word (event.Order cell word ∷ old) is.0 is.1
        (ap (λ (es : List Entry). open_job (setup_of config passes) es) is.2)

    -- ---- The frames ----

    -- What a frame made of the job: it goes on, and nothing surprised; or it ended well, and that is what it leaves.
    pub data Frame (job : Asked) (part : PartRegisters) (limits : List OutputLimits) (host : Summary) (entry : Entry)
        (after : List Event) : Type 0 where
      goes : step_of host entry ≡ Next → InJob job after → Frame job part limits host entry after
      ends : (end : JobEnd) → step_of host entry ≡ Ended end → (end ≡ Done) ⊎ (end ≡ Learned) →
          Did job end (pair_at part limits config passes old) (pair_at part limits config passes after) →
          Frame job part limits host entry after

    same-config : (events : List Event) → (at events).device.config ≡ (at old).device.config
    same-config events = now-config config passes events ∙ sym (now-config config passes old)

    -- a check
    pub check-frame : (part : PartRegisters) (limits : List OutputLimits) (cell : Cell) (events : List Event) →
        IsLived config passes (read_at events) → (at events).host ≡ asking first (Word cell) → (at events).device.words ≡ words →
        (good_word (at events).host.setup.addr cell (answer_at events (cell_read cell)) ≡ Some (word_at words cell))
        × (step_of (at events).host (Got (answer_at events (cell_read cell))) ≡ Ended Done)
        × Frame (job.Check cell) part limits (at events).host (Got (answer_at events (cell_read cell))) (read_at events)
    check-frame part limits cell events lived host kept =
        let answer = answer_at events (cell_read cell) in
        let one = heard-one (event.Exchange Whole back.Whole) events (Got answer) lived
        (exchange-told events (cell_read cell) (ap sending_in host)) in
        let was = (laws.good config passes (read_at events) lived).check [] events (read_at events) cell 0 refl
        (ap (λ (s : Summary). s.stage) host) (laws.whole.cell config passes cell events) in
        let both : Got was.read.answer ∷ (life config passes events).entries ≡ Got answer ∷ (life config passes events).entries =
        sym was.read.one_frame ∙ one.entries in
        let same : was.read.answer ≡ answer = cc in
        let holds : word_at (at (read_at events)).device.words cell ≡ word_at words cell =
        ap (λ (w : Words). word_at w cell) (was.read.kept ∙ kept) in
        let good : good_word config.addr cell answer ≡ Some (word_at words cell) =
        ap (λ (b : List ℕ). good_word config.addr cell b) (sym same) ∙ was.read.good ∙ ap (λ (w : ℕ). Some w) holds in
        let good_here : good_word (at events).host.setup.addr cell answer ≡ Some (word_at words cell) =
        subst (λ (a : ℕ). good_word a cell answer ≡ Some (word_at words cell)) (sym (own-address events)) good in
        let good_first : good_word first.setup.addr cell answer ≡ Some (word_at words cell) =
        subst (λ (a : ℕ). good_word a cell answer ≡ Some (word_at words cell)) (sym (own-address old)) good in
        let host-after = one.host ∙ (ap (λ (s : Summary). host_next s (Got answer)) host ∙ check-next first cell
        (word_at words cell) answer good_first) in (
          good_here,
          step-ended (step_of (at events).host (Got answer)) Done (sym one.end ∙ was.done),
          ends Done (step-ended (step_of (at events).host (Got answer)) Done (sym one.end ∙ was.done)) (inl refl) (record {
            done = refl;
            known = ap (λ (s : Summary). s.known) host-after;
            formats = ap (λ (s : Summary). s.formats) host-after;
            idle = ap (λ (s : Summary). s.stage) host-after;
            words = was.read.kept ∙ kept;
            config = same-config (read_at events);
          }),
        )

    -- the read of an order
    pub back-frame : (part : PartRegisters) (limits : List OutputLimits) (cell : Cell) (word : ℕ) (events : List Event) →
        is_allowed (word_at words Protect) (cell_code cell) ≡ true → IsCell config.count cell →
        IsLived config passes (read_at events) → (at events).host ≡ reading first cell word → Has cell word events →
        (good_word (at events).host.setup.addr cell (answer_at events (cell_read cell)) ≡ Some word)
        × (step_of (at events).host (Got (answer_at events (cell_read cell))) ≡ Ended Done)
        × Frame (job.Order cell word) part limits (at events).host (Got (answer_at events (cell_read cell))) (read_at events)
    back-frame part limits cell word events allowed there lived host has =
        let answer = answer_at events (cell_read cell) in
        let one = heard-one (event.Exchange Whole back.Whole) events (Got answer) lived
        (exchange-told events (cell_read cell) (ap sending_in host)) in
        let holds = has.takes allowed in
        let was = (laws.good config passes (read_at events) lived).read_back [] events (read_at events) cell word 0 refl
        (ap (λ (s : Summary). s.stage) host) holds (laws.whole.cell config passes cell events) in
        let both : Got was.read.answer ∷ (life config passes events).entries ≡ Got answer ∷ (life config passes events).entries =
        sym was.read.one_frame ∙ one.entries in
        let same : was.read.answer ≡ answer = cc in
        let kept : word_at (at (read_at events)).device.words cell ≡ word = ap (λ (w : Words). word_at w cell) was.read.kept ∙ holds in
        let good : good_word config.addr cell answer ≡ Some word =
        ap (λ (b : List ℕ). good_word config.addr cell b) (sym same) ∙ was.read.good ∙ ap (λ (w : ℕ). Some w) kept in
        let good_here : good_word (at events).host.setup.addr cell answer ≡ Some word =
        subst (λ (a : ℕ). good_word a cell answer ≡ Some word) (sym (own-address events)) good in
        let good_first : good_word first.setup.addr cell answer ≡ Some word =
        subst (λ (a : ℕ). good_word a cell answer ≡ Some word) (sym (own-address old)) good in
        let host-after = one.host ∙ (ap (λ (s : Summary). host_next s (Got answer)) host ∙ done-next first cell word answer good_first) in (
          good_here,
          step-ended (step_of (at events).host (Got answer)) Done (sym one.end ∙ was.done),
          ends Done (step-ended (step_of (at events).host (Got answer)) Done (sym one.end ∙ was.done)) (inl refl) (λ may. record {
            done = refl;
            known = ap (λ (s : Summary). s.known) host-after;
            formats = ap (λ (s : Summary). s.formats) host-after;
            idle = ap (λ (s : Summary). s.stage) host-after;
            takes = kept;
            others = λ other differ inside. ap (λ (w : Words). word_at w other) was.read.kept
                ∙ has.others other differ (subst (λ (n : ℕ). IsCell n other) (same-outputs config passes old) inside);
            config = same-config (read_at events);
          }),
        )

    -- the cell of an open order is there, and its word may be held
    order-there : (cell : Cell) (word : ℕ) (events : List Event) → IsLived config passes events →
        open_job (setup_of config passes) (life config passes events).entries ≡ Some (accepted.Order cell word) → IsCell config.count cell
    order-there cell word events lived opened = laws.orders.there (setup_of config passes) (life config passes events).entries cell word
        lived.made (laws.followed.told config passes events lived) opened

    order-may : (cell : Cell) (word : ℕ) (events : List Event) → IsLived config passes events →
        open_job (setup_of config passes) (life config passes events).entries ≡ Some (accepted.Order cell word) →
        is_possible word (possible_at (at events).host cell) ≡ true
    unfolding now state_of
    order-may cell word events lived opened =
        let setup = setup_of config passes in
        let entries = (life config passes events).entries in
        let told = laws.followed.told config passes events lived in
        ap (λ (p : Possible). is_possible word p) (laws.transcripts.possible setup entries cell
        (eight cell (order-there cell word events lived opened) lived))
        ∙ laws.orders.possible setup entries cell word lived.made told opened
      where
        eight : (c : Cell) → IsCell config.count c → IsLived config passes events → IsCell 8 c
        eight (Out output register) here is = let few = is.made.few_outputs in omega arith
        eight Protect here is = tt

    write-step : (cell : Cell) (word : ℕ) (h : Summary) → h ≡ writing first cell word → step_of h (Finished true) ≡ Next
    unfolding step_of
    write-step cell word h is = ap (λ (s : Summary). (change s (Finished true)).step) is

    -- the write of an order
    pub write-frame : (part : PartRegisters) (limits : List OutputLimits) (cell : Cell) (word : ℕ) (events : List Event) →
        IsLived config passes (written_at events) → (at events).host ≡ writing first cell word → (at events).device.words ≡ words →
        open_job (setup_of config passes) (life config passes events).entries ≡ Some (accepted.Order cell word) →
        (step_of (at (event.Deliver Whole ∷ events)).host (Finished true) ≡ Next) × InJob (job.Order cell word) (written_at events)
    unfolding host_next open_pending
    write-frame part limits cell word events lived host kept opened =
        let sent-lived = earlier (event.Finish true) (event.Deliver Whole ∷ events) lived in
        let sent = deliver-host events sent-lived in
        let one = heard-one (event.Finish true) (event.Deliver Whole ∷ events) (Finished true) lived refl in
        let was = (laws.good config passes (written_at events) lived).write [] events (written_at events) cell word 0 true refl
        (ap (λ (s : Summary). s.stage) host) (laws.whole.written _ true events) in
        let at-once = sent.0 ∙ host in
        let host-after : (at (written_at events)).host ≡ reading first cell word =
        one.host ∙ ap (λ (s : Summary). host_next s (Finished true)) at-once in
        let events-lived = earlier (event.Deliver Whole) events sent-lived in (
          write-step cell word (at (event.Deliver Whole ∷ events)).host at-once,
          to_read cell word (written_at events) host-after (record {
            takes = λ allowed. was.taken (ap (λ (w : Words). is_allowed (word_at w Protect) (cell_code cell)) kept ∙ allowed);
            others = λ other differ there.
                last other ((laws.moves config passes (written_at events) lived).moves [] (event.Deliver Whole ∷ events)
                (event.Finish true) other refl there)
                ∙ (first-one other differ ((laws.moves config passes (written_at events) lived).moves (event.Finish true ∷ []) events
                (event.Deliver Whole) other refl there)
                ∙ ap (λ (w : Words). word_at w other) kept);
          }) (order-there cell word events events-lived opened)
              (ap (λ (s : Summary). is_possible word (possible_at s cell)) host-after
              ∙ (sym (ap (λ (s : Summary). is_possible word (possible_at s cell)) host)
              ∙ order-may cell word events events-lived opened)),
        )
      where
        last : (other : Cell) → (word_at (at (written_at events)).device.words other ≡ word_at
            (at (event.Deliver Whole ∷ events)).device.words other)
            ⊎ MovesBy config passes (event.Deliver Whole ∷ events) other
            (word_at (at (written_at events)).device.words other) (event.Finish true) →
            word_at (at (written_at events)).device.words other ≡ word_at (at (event.Deliver Whole ∷ events)).device.words other
        last other (inl same) = same
        last other (inr moved) = absurd (unmoved (event.Finish true) true refl moved)

        first-one : (other : Cell) → other ≢ cell →
            (word_at (at (event.Deliver Whole ∷ events)).device.words other ≡ word_at (at events).device.words other)
            ⊎ MovesBy config passes events other (word_at (at (event.Deliver Whole ∷ events)).device.words other) (event.Deliver Whole) →
            word_at (at (event.Deliver Whole ∷ events)).device.words other ≡ word_at (at events).device.words other
        first-one other differ (inl same) = same
        first-one other differ (inr moved) = absurd (unmoved-beside cell word (event.Deliver Whole) refl
            (ap (option_and_then pending_of) opened) differ moved)

    -- ---- A learn ----

    module _ (part : PartRegisters) (limits : List OutputLimits) (output : ℕ) where
      learns-so : (q : Question) → IsOwn output q → (answer : List ℕ) → Learns first q answer output (change (asking first q) (Got answer))
      learns-so (Word c) own answer = elim own [ ]
      learns-so (Mode output) mode answer = learns-by-mode first answer output
          (good_payload first.setup.addr (mode_read output) answer) refl
      learns-so (Coefficients output) coefficients answer =
          learns-by-coefficients first answer output (good_payload first.setup.addr coefficients_read answer) refl

      pub reads-so : (q : Question) → IsOwn output q → is_read_message (question_message q) ≡ true
      reads-so (Word c) own = elim own [ ]
      reads-so (Mode output) mode = refl
      reads-so (Coefficients output) coefficients = refl

      -- it has learned, by this read
      learned-by : (q : Question) (answer : List ℕ) (changed : Change) → Learns first q answer output changed →
          end_by changed.step ≡ Some Learned → (changed.after.known ≡ first.known) × (changed.after.stage ≡ None)
      learned-by q answer changed (never step) is = let one : end_by (Ended Unknown) ≡ Some Learned =
          subst (λ t. end_by t ≡ Some Learned) step is in cc
      learned-by q answer changed (again stage step) is = let one : end_by Next ≡ Some Learned =
          subst (λ t. end_by t ≡ Some Learned) step is in cc
      learned-by q answer changed (more payload good after step) is = let one : end_by Next ≡ Some Learned =
          subst (λ t. end_by t ≡ Some Learned) step is in cc
      learned-by q answer changed (got payload good known stage step) is = (known, stage)

      asking-by : (answer : List ℕ) (changed : Change) → Learns first (Mode output) answer output changed →
          changed.after.stage ≡ Some (Asks (Coefficients output) 0) → end_by changed.step ≡ None →
          changed.after ≡ asking first (Coefficients output)
      asking-by answer changed (never step) stage is = let one : end_by (Ended Unknown) ≡ None = subst (λ t. end_by t ≡ None) step is in cc
      asking-by answer changed (again other step) stage is = cc
      asking-by answer changed (more payload good after step) stage is = after
      asking-by answer changed (got payload good known none step) stage is = cc

      next-by : (h : Summary) (q : Question) → h ≡ asking first q → (bytes : List ℕ) →
          host_next h (Got bytes) ≡ (change (asking first q) (Got bytes)).after
      unfolding host_next
      next-by h q is bytes = ap (λ (s : Summary). (change s (Got bytes)).after) is

      step-by : (h : Summary) (q : Question) → h ≡ asking first q → (bytes : List ℕ) →
          step_of h (Got bytes) ≡ (change (asking first q) (Got bytes)).step
      unfolding step_of
      step-by h q is bytes = ap (λ (s : Summary). (change s (Got bytes)).step) is

      module _ (events : List Event) (lived : IsLived config passes (read_at events)) (kept : (at events).device.words ≡ words) where
        abbrev bytes_of : Question → List ℕ
        bytes_of q = answer_at events (question_message q)

        abbrev Comes : Question → Type 0
        Comes q = Frame (job.Learn output) part limits (at events).host (Got (bytes_of q)) (read_at events)

        one-of : (q : Question) → (at events).host ≡ asking first q → HeardOne (event.Exchange Whole back.Whole) events (Got (bytes_of q))
        one-of q host = heard-one (event.Exchange Whole back.Whole) events (Got (bytes_of q)) lived
            (exchange-told events (question_message q) (ap sending_in host))

        -- no read moves a word
        words-kept : (q : Question) → IsOwn output q → (at events).host ≡ asking first q → (at (read_at events)).device.words ≡ words
        words-kept q own host = read-words events (question_message q) lived (ap sending_in host) (reads-so q own) ∙ kept

        turns-so : (q : Question) → IsOwn output q → (at events).host ≡ asking first q →
            Turns config passes (read_at events) (turn_of config passes events true (Asks q 0))
        turns-so q own host = laws.turns.turn config passes events (read_at events) (Asks q 0) true spelled lived
            (ap (λ (s : Summary). s.stage) host) (laws.whole.read config passes (question_message q) events (reads-so q own))

        learned-so : (q : Question) → IsOwn output q → (at events).host ≡ asking first q →
            Turns config passes (read_at events) (Ends Learned) →
            WasLearned config passes output (read_at events) → Comes q
        learned-so q own host turn was =
            let one = one-of q host in
            let next' = next-by (at events).host q host (bytes_of q) in
            let step = step-by (at events).host q host (bytes_of q) in
            let end-is : end_by (change (asking first q) (Got (bytes_of q))).step ≡ Some Learned =
            ap end_by (sym step) ∙ (sym one.end ∙ turn.1) in
            let d = learned-by q (bytes_of q) (change (asking first q) (Got (bytes_of q))) (learns-so q own (bytes_of q)) end-is in
            ends Learned (step-ended (step_of (at events).host (Got (bytes_of q))) Learned (sym one.end ∙ turn.1)) (inr refl) (record {
              learned = refl;
              format = was.format ∙ ap (λ (c : Config). Some (shape_for c output)) (sym (now-config config passes old));
              known = ap (λ (s : Summary). s.known) (one.host ∙ next') ∙ d.0;
              idle = turn.0;
              words = words-kept q own host;
              config = same-config (read_at events);
            })

        asks-more : (at events).host ≡ asking first (Mode output) →
            Turns config passes (read_at events) (GoesOn (Asks (Coefficients output) 0)) → Comes (Mode output)
        asks-more host turn =
            let one = one-of (Mode output) host in
            let next' = next-by (at events).host (Mode output) host (bytes_of (Mode output)) in
            let step = step-by (at events).host (Mode output) host (bytes_of (Mode output)) in
            let now_next = one.host ∙ next' in
            let end-is : end_by (change (asking first (Mode output)) (Got (bytes_of (Mode output)))).step ≡ None =
            ap end_by (sym step) ∙ (sym one.end ∙ turn.1) in
            let d = asking-by (bytes_of (Mode output)) (change (asking first (Mode output)) (Got (bytes_of (Mode output))))
            (learns-so (Mode output) mode (bytes_of (Mode output))) (ap (λ (s : Summary). s.stage) (sym now_next) ∙ turn.0) end-is in
            goes (step-next (step_of (at events).host (Got (bytes_of (Mode output)))) (sym one.end ∙ turn.1))
            (learning output (Coefficients output) (read_at events) coefficients (now_next ∙ d) (words-kept (Mode output) mode host))

        pub learn-frame : (q : Question) → IsOwn output q → (at events).host ≡ asking first q → Comes q
        learn-frame (Word c) own host = elim own [ ]
        learn-frame (Coefficients output) coefficients host =
            learned-so (Coefficients output) coefficients host (turns-so (Coefficients output) coefficients host)
            ((laws.good config passes (read_at events) lived).coefficients [] events (read_at events) output 0 refl spelled
            (ap (λ (s : Summary). s.stage) host) (laws.whole.read config passes coefficients_read events refl))
        learn-frame (Mode output) mode host = go (mode_of (mode_for config output)) refl (turns-so (Mode output) mode host)
            ((laws.good config passes (read_at events) lived).mode [] events (read_at events) output 0 refl spelled
            (ap (λ (s : Summary). s.stage) host) (laws.whole.read config passes (mode_read output) events refl))
          where
            go : (m : Result VoutMode TableFault) → mode_of (mode_for config output) ≡ m →
                Turns config passes (read_at events) (mode_turn output m) →
                ((mode_of (mode_for config output) ≢ Ok Direct) × WasLearned config passes output (read_at events))
                ⊎ ((mode_of (mode_for config output) ≡ Ok Direct)
                × (stage_after config passes (read_at events) ≡ Some (Asks (Coefficients output) 0))) → Comes (Mode output)
            go (Ok Direct) e turn so' = asks-more host turn
            go (Ok (Linear x)) e turn (inl was) = learned-so (Mode output) mode host turn was.1
            go (Ok (Linear x)) e turn (inr direct) = let bad = direct.0 in cc
            go (Err fault) e turn (inl was) = learned-so (Mode output) mode host turn was.1
            go (Err fault) e turn (inr direct) = let bad = direct.0 in cc
