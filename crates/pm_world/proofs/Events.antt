-- Why an event is taken, and what each makes of both ends: frames, exchanges and deliveries, event by event.
use Rattle.std.specs.List.{starts_with, list_any}
use Rattle.std.specs.Option.{option_and_then, option_map_or, option_or}
use Rattle.std.specs.Prelude.{nat_le, option_map, IsSome, ◌||◌, ◌&&◌, IsSomeAnd, option_to_list, bytes_eq, nat_lt}
use Rattle.std.proofs.lemmas.List.FromFn.{length-map-range_with_len}
use Rattle.std.proofs.Common.{◌≡◌, ℕ, ℤ, true, false, not, Option, Some, None, refl, ap, subst, zero, suc, ◌*◌, ◌^◌, ◌<◌, ◌≤◌, ◌⊎◌, inl}
use Rattle.std.proofs.Common.{inr, pos, negsuc, ◌*ℤ◌, ◌≤ℤ◌, Bool, cond, sym, ◌∙◌, ap₂, arith, lit<, Ok, List, [], ◌∷◌, ◌++◌, length}
use Rattle.std.proofs.Common.{is_none, add-one, eqb, drop, ◌+◌, ◌↔◌, reverse, take}
use Rattle.std.proofs.Math.Nat.{mul-le-mul_right, le_of_mul-le-mul_right}
pub use Rattle.std.proofs.lemmas.Bool.{not-false}
use Rattle.std.proofs.lemmas.Bool.{cases_lt, leb-true, le-leb, lt-ltb, or_cases, and_parts, cond-true, lt-leb}
use Rattle.std.proofs.lemmas.Bool.Decides.{Decides-int_eq, Decides-eqb}
use Rattle.std.proofs.lemmas.Int.{ints, by_lt_z}
use Rattle.std.proofs.lemmas.List.{append-nil, length-reverse, length-take}
use Rattle.std.proofs.lemmas.Slice.Eq.{starts_is, bytes_eq-Decides}
use Rattle.pm_num.specs.{Lemmas.Found.from_T, Lemmas.Slope.direct-has_den, Lemmas.Unsigned.lower-positive}
use Rattle.pm_num.specs.AnyFormat.{Shape, InLinear11, InUlinear16, InDirect, shape_value, shape_rank}
use Rattle.pm_num.specs.Lemmas.Over.{gap-over, at_most-trans}
use Rattle.pm_num.specs.Nearest.{Near, gap, linear11_rank, one_rank}
use Rattle.pm_num.specs.NearestWord.{each_below, found_below, is_at_most, is_near, is_nearest, is_same, nearest_word}
use Rattle.pm_num.specs.Ratio.{Ratio, AtMost, SameValue, micros}
use Rattle.pm_num.specs.Value.{direct_value, exponent, linear11_value, ulinear16_value}
use Rattle.pm_table.specs.{Commands.line_of, Protection.is_allowed, declared.cell.Cell.Cell, declared.commands.Code.Code}
use Rattle.pm_table.specs.{declared.reg.Reg.Reg}
use Rattle.pm_table.specs.Cell.{output_of, IsCell, cell_accepts, cell_code, is_voltage, register_code, is_protection, same_cell, cell_in}
use Rattle.pm_table.specs.Cell.{places, is_voltage_cell, register_at, register_count, register_number}
use Rattle.pm_table.specs.Codes as command
pub use Rattle.pm_table.specs.Lemmas.{same_cell-itself, IsCell-eight as eight}
use Rattle.pm_table.specs.Lemmas.{register_at-number, register_number-below}
pub use Rattle.pm_table.specs.RuleLemmas.{or-none, rule-none}
use Rattle.pm_table.specs.declared.cell.Cell.TheVariants.{Out, Protect}
use Rattle.pm_frame.specs.{Betrayal.is_betrayed, declared.message.Message.Message}
use Rattle.pm_frame.specs.Fault.{write_fault, request_fault, whole_answer}
use Rattle.pm_frame.specs.Layout.{is_read_message, IsWrite, IsRequest, fits_layout, sent, with_pec, IsAnswer}
use Rattle.pm_frame.specs.View.{answer_payload, payload_in}
use Rattle.pm_frame.specs.declared.message.Payload.TheVariants.{Byte, Word}
use Rattle.pm_model.specs.Settings.{word_at, with_word, Words, AreWords}
use Rattle.pm_device.specs.{Held.Held, Start.IsSound, Verdict.payload_word, declared.config.Config.Config, declared.converter.Ending.Ending}
use Rattle.pm_device.specs.Effect as device
use Rattle.pm_device.specs.Effect.{Hearing, Kept, kept_in, kept_after, words_after}
use Rattle.pm_device.specs.History.{device_now, device_next}
use Rattle.pm_device.specs.Reply.{reply_of, register_bytes}
use Rattle.pm_device.specs.declared.converter.Ending.TheVariants.{Stop, Restart}
use Rattle.pm_host.specs.{Cells.table, Known.known_now, Marks.marks, Sound.IsSound as IsSoundHost, Standing.standing_of}
use Rattle.pm_host.specs.{declared.fault.HostFault.HostFault, declared.host.Step.TheVariants.Next, declared.job.Job.Job}
use Rattle.pm_host.specs.{declared.job.JobEnd.JobEnd, declared.knowledge.Standing.Standing}
use Rattle.pm_host.specs.Answers.{good_payload, good_word, word_in}
use Rattle.pm_host.specs.Frames.{writes_output, writes_protect, reads_output, reads_protect}
use Rattle.pm_host.specs.Jobs.{accepted_job, begin_fault, Begins}
use Rattle.pm_host.specs.Lemmas.{accepted-free, writes_cell, cell_read_is_request}
use Rattle.pm_host.specs.Messages.{cell_write, register_payload, cell_read}
use Rattle.pm_host.specs.Now.{host_now, AreTold}
use Rattle.pm_host.specs.Refusals.{job_fault, micro_fault, micro_word, voltage_fault, IsSetup, may_come, sends_write, cell_fault}
use Rattle.pm_host.specs.Summary.{Summary, format_at, host_next, step_of, sending_in, step_by, stage_message, finished, idle}
use Rattle.pm_host.specs.Summary.{possible_at}
use Rattle.pm_host.specs.Transcript as host
use Rattle.pm_host.specs.Transcript.{Entry, Accepted, Job as TranscriptJob, Order, Got}
use Rattle.pm_host.specs.declared.fault.HostFault.TheVariants.{BadWord, FormatUnknown}
use Rattle.pm_host.specs.declared.stage.Stage.TheVariants.{Writes, Reads}
use Rattle.pm_world.specs.{Below.Below, Confirmed.restarts_converter, Lemmas.whole-hearing, Lived.EventsAreLived}
use Rattle.pm_world.specs.{declared.cause.Cause.Cause, declared.cause.Stop.Stop as WorldStop, declared.event.Arrival.Arrival}
use Rattle.pm_world.specs.{declared.event.Arrival.TheVariants.Whole, declared.event.Back.Back, declared.event.Event.Event}
use Rattle.pm_world.specs.{declared.way.Way.TheVariants.Off}
use Rattle.pm_world.specs.GoodBus.{IsRead, IsWritten}
use Rattle.pm_world.specs.Honest.{is_whole, honest, sent_by}
use Rattle.pm_world.specs.Job.{asked_by, refusal_of_event}
use Rattle.pm_world.specs.Laws.{LivesAreFollowed, OpenListsAreFollowed}
use Rattle.pm_world.specs.Legal.{frame_of, is_legal_hearing, heard_bytes, ending_of, heard_ending, is_restart, is_heard_whole}
use Rattle.pm_world.specs.Legal.{is_legal_return, answer_in, back_bytes}
use Rattle.pm_world.specs.Life.{Life, state_of, lived, life, now, AreTaken, after_all, AreTakenFrom, found_by, taken_events}
pub use Rattle.pm_world.specs.Lived.{IsLived}
use Rattle.pm_world.specs.OpenLists.{are_open, follows_open, stays_open}
use Rattle.pm_world.specs.Setup.{setup_of, world_start}
use Rattle.pm_world.specs.State.{HasWord, State, asked, event_counted, event_cause, exchange_cause, next, refused, rule, share_beside}
use Rattle.pm_world.specs.State.{share_of}
use Rattle.pm_world.specs.State.{shared, tells, cause_beside, cause_of, event_limit, IsTaken, Acts, end_by, Share, delivered, exchanged}
use Rattle.pm_world.specs.State.{hears, no_share, end_after, host_after, device_after, finish_cause, delivery_cause, hearing, answer_to}
use Rattle.pm_world.specs.Uncertainty.{AreLegal, since_restart}
use Rattle.pm_world.specs.Way.{WasSent, WasUndisturbed, WaysAreFollowed, way_after, way_of}
use Rattle.pm_world.specs.declared.cause.Cause.TheVariants.{Full, WrongKind, NotBetrayed}
use Rattle.pm_world.specs.declared.event.Back.TheVariants as back
use Rattle.pm_world.specs.declared.event.Event.TheVariants.{Deliver, Exchange, Finish, OrderMicro, RestartDevice, Reading, RestartHost}
use Rattle.pm_world.specs.declared.event.Event.TheVariants.{Order as EventOrder}

-- Why an event is taken, and the job that it asks for.

-- what the host doesn't refuse has no fault
pub refused-none : (fault : Option HostFault) → refused fault ≡ None → fault ≡ None
refused-none None h = refl
refused-none (Some fault) h = cc

-- an event that is taken has no cause
pub taken-free : (s : State) (event : Event) → IsTaken s event → event_cause s event ≡ None
unfolding cause_of
taken-free s event taken = (or-none (rule (nat_le event_limit s.taken) Full) (event_cause s event) taken.free).1

-- the job that an event asks for has no fault if the host doesn't refuse it
fault-none : (s : Summary) (asked : Option Job) (accepted : host.Job) → option_and_then (accepted_job s) asked ≡ Some accepted →
    option_and_then (begin_fault s) asked ≡ None → job_fault s accepted ≡ None
fault-none s None accepted is h = cc
fault-none s (Some asked) accepted is h = accepted-free s asked accepted is h

-- the job that an event without a cause asks for has no fault
pub job-free : (s : State) (event : Event) (job : host.Job) → asked s event ≡ Some job → event_cause s event ≡ None →
    job_fault s.host job ≡ None
job-free s event job is h = fault-none s.host (asked_by event) job is
    (refused-none _ (or-none (refused (refusal_of_event s.host event)) (cause_beside s event) h).0)

-- an event that asks for a job has no other cause than the host's refusal
pub asked-beside : (s : State) (event : Event) (job : host.Job) → asked s event ≡ Some job → cause_beside s event ≡ None
asked-beside s (Deliver arrival) job is = cc
asked-beside s (Finish acked) job is = cc
asked-beside s (Exchange arrival back) job is = cc
asked-beside s event job is = refl

-- an order in microvolts with a job has a word
pub asked-word : (s : State) (event : Event) (job : host.Job) → asked s event ≡ Some job → HasWord s event
asked-word s (OrderMicro cell x) job is = go (micro_word s.host cell x) is where
  go : (word : Option ℕ) → option_map (λ w. host.Order cell w) word ≡ Some job → IsSome word
  go None e = cc
  go (Some word) e = refl
asked-word s event job is = tt

-- an event that asks for a job tells the host alone, that it was accepted
pub asked-share : (s : State) (event : Event) (job : host.Job) → asked s event ≡ Some job →
    share_of s event ≡ tells (host.Accepted job)
asked-share s event job is = ap (λ o. option_map_or (λ j. tells (host.Accepted j)) o (share_beside s event)) is

-- an event that asks for a job does nothing else
pub asked-next : (s : State) (event : Event) (job : host.Job) → asked s event ≡ Some job →
    next s event ≡ event_counted (shared s (tells (host.Accepted job)))
unfolding next
asked-next s event job is = ap (λ share. event_counted (shared s share)) (asked-share s event job is)

-- an event that asks for none tells the ends what it does
pub beside-next : (s : State) (event : Event) → asked s event ≡ None → next s event ≡ event_counted (shared s (share_beside s event))
unfolding next
beside-next s event is =
    ap (λ o. event_counted (shared s (option_map_or (λ j. tells (host.Accepted j)) o (share_beside s event)))) is

-- it is no restart of the converter
pub asked-restarts : (s : State) (event : Event) (job : host.Job) → asked s event ≡ Some job → restarts_converter event ≡ false
asked-restarts s RestartDevice job is = cc
asked-restarts s event job is = refl

-- an exchange that nothing is against is of a request
pub exchange-reads : (s : State) (arrival : Arrival) (back : Back) (message : Message) →
    exchange_cause s arrival back (Some message) ≡ None → is_read_message message ≡ true
exchange-reads s arrival back message free =
    not-false (is_read_message message)
    (rule-none (not (is_read_message message)) WrongKind (or-none (rule (not (is_read_message message)) WrongKind) _ free).0)

-- A format has a nearest word for each number, whatever it was made from: of all words, one comes before all others.

-- What is as near as something that is as near as a third is as near as that.
near-near : (x p q r : Ratio) → 0 < q.den → Near x p q → Near x q r → Near x p r
near-near x p q r den h k =
    let l : gap x p * q.den * r.den ≤ gap x q * p.den * r.den = mul-le-mul_right r.den h in
    let m : gap x q * r.den * p.den ≤ gap x r * q.den * p.den = mul-le-mul_right p.den k in
    let w : gap x p * r.den * q.den ≤ gap x r * p.den * q.den = omega arith in
    le_of_mul-le-mul_right w den

-- One value is one distance.
same-near : (x p q : Ratio) → 0 < p.den → 0 < q.den → SameValue p q → Near x p q
same-near x p q p_den q_den same =
    let e = gap-over x p q.den q.num (record { common = q_den; den = p_den; is = same }) in
    omega arith

-- A word comes before another: it is nearer, or of the lower value, or of the rank before.
record Before (value : ℕ → Ratio) (rank : ℕ → ℕ) (x : Ratio) (w u : ℕ) : Type 0 where
  near : Near x (value w) (value u)
  lower : Near x (value u) (value w) → AtMost (value w) (value u)
  spelled : SameValue (value u) (value w) → rank w ≤ rank u

-- a word whose value is nearer than another's comes before that one
nearer : (value : ℕ → Ratio) (rank : ℕ → ℕ) (x : Ratio) → ((w : ℕ) → 0 < (value w).den) → (w u : ℕ) →
    gap x (value w) * (value u).den < gap x (value u) * (value w).den → Before value rank x w u
nearer value rank x den w u less = record {
  near = omega arith;
  lower = λ near. absurd (omega arith);
  spelled = λ same. let near = same-near x (value u) (value w) (den u) (den w) same in absurd (omega arith);
}

-- one that is as near, and of no higher value, and where the values are the same of no later rank
as-near : (value : ℕ → Ratio) (rank : ℕ → ℕ) (x : Ratio) (w u : ℕ) → Near x (value w) (value u) → AtMost (value w) (value u) →
    (SameValue (value u) (value w) → rank w ≤ rank u) → Before value rank x w u
as-near value rank x w u near low spelled = record { near = near; lower = λ _. low; spelled = spelled }

-- One of two words comes before the other.
before-total : (value : ℕ → Ratio) (rank : ℕ → ℕ) (x : Ratio) → ((w : ℕ) → 0 < (value w).den) → (w u : ℕ) →
    Before value rank x w u ⊎ Before value rank x u w
before-total value rank x den w u =
    elim (cases_lt (gap x (value w) * (value u).den) (gap x (value u) * (value w).den)) [
      | inl less ↦ inl (nearer value rank x den w u less)
      | inr le ↦ elim (cases_lt (gap x (value u) * (value w).den) (gap x (value w) * (value u).den)) [
        | inl less ↦ inr (nearer value rank x den u w less)
        | inr ge ↦ by_lt_z ((value w).num *ℤ pos (value u).den) ((value u).num *ℤ pos (value w).den)
            (λ less. inl (as-near value rank x w u ge (omega (arith, ints)) (λ same. absurd (omega (arith, ints)))))
            (λ most. by_lt_z ((value u).num *ℤ pos (value w).den) ((value w).num *ℤ pos (value u).den)
            (λ less. inr (as-near value rank x u w le most (λ same. absurd (omega (arith, ints)))))
            (λ least. elim (cases_lt (rank w) (rank u)) [
              | inl first ↦ inl (as-near value rank x w u ge least (λ _. omega arith))
              | inr first ↦ inr (as-near value rank x u w le most (λ _. first))
            ]))
      ]
    ]

-- What comes before a word that comes before a third comes before that.
before-before : (value : ℕ → Ratio) (rank : ℕ → ℕ) (x : Ratio) → ((w : ℕ) → 0 < (value w).den) → (a b c : ℕ) →
    Before value rank x a b → Before value rank x b c → Before value rank x a c
before-before value rank x den a b c h k =
    let low : Near x (value c) (value a) → AtMost (value a) (value b) × AtMost (value b) (value c) = λ n. (
      h.lower (near-near x (value b) (value c) (value a) (den c) k.near n),
      k.lower (near-near x (value c) (value a) (value b) (den a) n h.near),
    ) in
    record {
      near = near-near x (value a) (value b) (value c) (den b) h.near k.near;
      lower = λ n. let p = low n in at_most-trans (value a) (value b) (value c) (den b) p.0 p.1;
      spelled = λ same.
          let p = low (same-near x (value c) (value a) (den c) (den a) same) in
          let r : AtMost (value c) (value a) = omega (arith, ints) in
          let s = at_most-trans (value b) (value c) (value a) (den c) p.1 r in
          let t = at_most-trans (value c) (value a) (value b) (den a) r p.0 in
          let f = h.spelled (both (value b) (value a) s p.0) in
          let g = k.spelled (both (value c) (value b) t p.1) in
          omega arith;
    }
  where
    both : (p q : Ratio) → AtMost p q → AtMost q p → SameValue p q
    both p q l m = omega (arith, ints)

-- Among finitely many numbers one comes before all, where of two one always does.
first_of_all : (R : ℕ → ℕ → Type 0) → ((a b : ℕ) → R a b ⊎ R b a) → ((a b c : ℕ) → R a b → R b c → R a c) → (n : ℕ) →
    (w : ℕ) × (w < suc n) × ((u : ℕ) → u < suc n → R w u)
first_of_all R total along zero = (0, omega arith, λ u h. let e : 0 ≡ u = omega arith in subst (λ v. R 0 v) e (self R total 0))
  where
    self : (R : ℕ → ℕ → Type 0) → ((a b : ℕ) → R a b ⊎ R b a) → (a : ℕ) → R a a
    self R total a = elim (total a a) [ inl h ↦ h | inr h ↦ h ]
first_of_all R total along (suc n) = step (first_of_all R total along n) where
  step : ((w : ℕ) × (w < suc n) × ((u : ℕ) → u < suc n → R w u)) → (w : ℕ) × (w < suc (suc n)) × ((u : ℕ) → u < suc (suc n) → R w u)
  step best =
      elim (total best.0 (suc n)) [
        | inl h ↦ (best.0, omega (arith, best.1), λ u l. at (λ v. R best.0 v) u l best.2 h)
        | inr h ↦ (
          suc n,
          omega arith,
          λ u l. at (λ v. R (suc n) v) u l (λ v m. along (suc n) best.0 v h (best.2 v m))
              (elim (total (suc n) (suc n)) [ inl s ↦ s | inr s ↦ s ]),
        )
      ]
    where
      at : (P : ℕ → Type 0) (u : ℕ) → u < suc (suc n) → ((v : ℕ) → v < suc n → P v) → P (suc n) → P u
      at P u l below here = elim (cases_lt u (suc n)) [
        | inl m ↦ below u m
        | inr m ↦ let e : suc n ≡ u = omega arith in subst P e here
      ]

-- a test that holds of each number below holds of all of them
each-true : (test : ℕ → Bool) (n : ℕ) → ((k : ℕ) → k < n → test k ≡ true) → each_below test n ≡ true
unfolding each_below
each-true test zero h = refl
each-true test (suc n) h = ap₂ (λ a b. a && b) (h n (omega arith)) (each-true test n (λ k l. h k (omega arith)))

-- one test follows from another
implies-true : (a b : Bool) → (a ≡ true → b ≡ true) → (not a || b) ≡ true
implies-true true b h = h refl
implies-true false b h = refl

-- the nearest word passes the test of it
nearest-true : (value : ℕ → Ratio) (rank : ℕ → ℕ) (x : Ratio) (w : ℕ) →
    ((u : ℕ) → u < 2 ^ 16 → Before value rank x w u) → is_nearest value rank x w ≡ true
unfolding is_nearest
nearest-true value rank x w first =
    ap₂ (λ a b. a && b)
    (each-true (λ u. is_near x (value w) (value u)) (2 ^ 16) (λ u h. le-leb _ _ (first u h).near))
    (ap₂ (λ a b. a && b)
    (each-true (λ u. not (is_near x (value u) (value w)) || is_at_most (value w) (value u)) (2 ^ 16)
    (λ u h. implies-true _ _ (λ e. from_T _ ((first u h).lower (leb-true _ _ e)).le)))
    (each-true (λ u. not (is_same (value u) (value w)) || nat_le (rank w) (rank u)) (2 ^ 16)
    (λ u h. implies-true _ _ (λ e. le-leb _ _ ((first u h).spelled ((Decides-int_eq _ _).0 e))))))

-- a number is found if one below passes the test
found-some : (test : ℕ → Bool) (n w : ℕ) → w < n → test w ≡ true → IsSome (found_below test n)
unfolding found_below
found-some test zero w below passes = absurd (omega arith)
found-some test (suc n) w below passes = go (test n) refl (λ less. found-some test n w less passes) where
  go : (b : Bool) → test n ≡ b → (w < n → IsSome (found_below test n)) → IsSome (cond b (Some n) (found_below test n))
  go true e more = refl
  go false e more = more (smaller differ) where
    differ : n ≡ w → ⊥
    differ same = let t : false ≡ true = sym e ∙ (ap test same ∙ passes) in cc

    smaller : (n ≡ w → ⊥) → w < n
    smaller ne = omega (arith, below, ne)

-- the word that comes before all is found
found-first : (value : ℕ → Ratio) (rank : ℕ → ℕ) (x : Ratio) (w : ℕ) → w < 2 ^ 16 →
    ((u : ℕ) → u < 2 ^ 16 → Before value rank x w u) → IsSome (nearest_word value rank x)
unfolding nearest_word
found-first value rank x w below first =
    found-some (is_nearest value rank x) (2 ^ 16) w below (nearest-true value rank x w first)

-- A nearest word is found if the value of each word has a positive denominator.
exists-by : (value : ℕ → Ratio) (rank : ℕ → ℕ) (x : Ratio) → ((w : ℕ) → 0 < (value w).den) → IsSome (nearest_word value rank x)
exists-by value rank x den =
    let best = first_of_all (λ w u. Before value rank x w u) (before-total value rank x den) (before-before value rank x den) 65535 in
    found-first value rank x best.0 best.1 best.2

-- Each of two values with the denominator zero is at most the other.
at_most-nothing : (a b : ℤ) (d e : ℕ) → d ≡ 0 → e ≡ 0 → (a *ℤ pos d) ≤ℤ (b *ℤ pos e)
at_most-nothing a b d e h k =
    let f = ap (λ (n : ℕ). a *ℤ pos n) h in let g = ap (λ (n : ℕ). b *ℤ pos n) k in omega (arith, ints)

-- each of two values with the denominator zero is as near as the other
near-nothing : (g k d e : ℕ) → d ≡ 0 → e ≡ 0 → g * d ≤ k * e
near-nothing g k d e p q = let f = ap (λ (n : ℕ). g * n) p in omega arith

-- a nearest word for each number is found all the same if the value of every word has the denominator zero
exists-nothing : (value : ℕ → Ratio) (x : Ratio) → ((w : ℕ) → (value w).den ≡ 0) → IsSome (nearest_word value one_rank x)
exists-nothing value x den =
    found-first value one_rank x 0 (lit< tt)
    (λ u h. record {
      near = near-nothing _ _ _ _ (den u) (den 0);
      lower = λ _. at_most-nothing _ _ _ _ (den u) (den 0);
      spelled = λ _. omega arith;
    })

-- A format has a nearest word for each number, with coefficients of which no format is made too.
pub nearest-exists : (shape : Shape) (x : Ratio) → IsSome (nearest_word (shape_value shape) (shape_rank shape) x)
nearest-exists InLinear11 x = exists-by linear11_value linear11_rank x (λ w. lower-positive (exponent w))
nearest-exists (InUlinear16 n) x = exists-by (ulinear16_value n) one_rank x (λ w. lower-positive n)
nearest-exists (InDirect (pos zero) b r) x = exists-nothing (direct_value (pos 0) b r) x (λ w. omega arith)
nearest-exists (InDirect (pos (suc n)) b r) x =
    exists-by (direct_value (pos (suc n)) b r) one_rank x (λ w. direct-has_den (pos (suc n)) b r w (λ e. cc))
nearest-exists (InDirect (negsuc n) b r) x =
    exists-by (direct_value (negsuc n) b r) one_rank x (λ w. direct-has_den (negsuc n) b r w (λ e. cc))

-- A world whose ends were told something.

-- the parts of a world, put together
abbrev pub state : Held → Summary → Option JobEnd → ℕ → State
state device host end taken = record { device = device; host = host; end = end; taken = taken }

-- the world after the host was told
pub host-told : (s inside : State) (new : Summary) (after : Option JobEnd) (entry : Entry) →
    inside ≡ s → new ≡ host_next inside.host entry → after ≡ end_by (step_of inside.host entry) →
    state inside.device new after inside.taken ≡ shared s (tells entry)
host-told s inside new after entry view is ends =
    ap (λ (h : Summary). state inside.device h after inside.taken) is
    ∙ (ap (λ (e : Option JobEnd). state inside.device (host_next inside.host entry) e inside.taken) ends
    ∙ ap (λ (t : State). shared t (tells entry)) view)

-- a job begins
begun-next : (s : Summary) (job : TranscriptJob) → step_of s (Accepted job) ≡ Next
unfolding step_of
begun-next s (Order cell word) = refl
begun-next s job = refl

-- the host accepts the job that an event asks for, and the event happened
pub begun : (s inside : State) (event : Event) (asks : Job) (new : Summary) → inside ≡ s → asked_by event ≡ Some asks →
    Begins {X = Unit {0}} inside.host asks (Ok tt) new → Acts s event (Ok tt) (state inside.device new None inside.taken)
begun s inside event asks new view by begins = go (accepted_job inside.host asks) refl begins.ok where
  go : (o : Option TranscriptJob) → accepted_job inside.host asks ≡ o → IsSomeAnd o (λ j. new ≡ host_next inside.host (Accepted j)) →
      Acts s event (Ok tt) (state inside.device new None inside.taken)
  go None is ok = absurd ok
  go (Some job) is ok =
      let accepted : asked inside event ≡ Some job = ap (option_and_then (accepted_job inside.host)) by ∙ is in
      subst (λ (t : State). Acts t event (Ok tt) (state inside.device new None inside.taken)) view (
        ap (λ fault. option_or (refused fault) (cause_beside inside event))
            (ap (option_and_then (begin_fault inside.host)) by ∙ sym begins.fault)
            ∙ asked-beside inside event job accepted,
        asked-word inside event job accepted,
        host-told inside inside new None (Accepted job) refl ok (sym (ap end_by (begun-next inside.host job)))
            ∙ ap (shared inside) (sym (asked-share inside event job accepted)),
      )

-- What an event tells the ends, by what it is.

-- a job was accepted, a frame was sent and heard, or one end restarted or was measured; anything else tells nobody
pub data IsShare (s : State) : Event → Share → Type 0 where
  shares_begins : (event : Event) (job : host.Job) → asked s event ≡ Some job → IsShare s event (tells (host.Accepted job))
  delivers : (arrival : Arrival) (message : Message) → sending_in s.host ≡ Some message →
      IsShare s (Deliver arrival) (delivered s arrival (Some message))
  finishes : (acked : Bool) → IsShare s (Finish acked) (tells (host.Finished acked))
  exchanges : (arrival : Arrival) (back : Back) (message : Message) → sending_in s.host ≡ Some message →
      IsShare s (Exchange arrival back) (exchanged s arrival back (Some message))
  restarts_device : IsShare s RestartDevice (hears device.Restarted)
  restarts_host : IsShare s RestartHost (tells host.Restarted)
  measures : (output : ℕ) (code : Code) (word : ℕ) → IsShare s (Reading output code word) (hears (device.Reading output code.0 word))
  tells_none : (event : Event) → IsShare s event no_share

-- each event is one of these
pub share-is : (s : State) (event : Event) → IsShare s event (share_of s event)
share-is s event = by_asked (asked s event) refl where
  delivery : (arrival : Arrival) (sending : Option Message) → sending_in s.host ≡ sending →
      IsShare s (Deliver arrival) (delivered s arrival sending)
  delivery arrival None is = tells_none (Deliver arrival)
  delivery arrival (Some message) is = delivers arrival message is

  exchange : (arrival : Arrival) (back : Back) (sending : Option Message) → sending_in s.host ≡ sending →
      IsShare s (Exchange arrival back) (exchanged s arrival back sending)
  exchange arrival back None is = tells_none (Exchange arrival back)
  exchange arrival back (Some message) is = exchanges arrival back message is

  beside : (event : Event) → IsShare s event (share_beside s event)
  beside (Deliver arrival) = delivery arrival (sending_in s.host) refl
  beside (Finish acked) = finishes acked
  beside (Exchange arrival back) = exchange arrival back (sending_in s.host) refl
  beside RestartDevice = restarts_device
  beside RestartHost = restarts_host
  beside (Reading output code word) = measures output code word
  beside event = tells_none event

  by_asked : (job : Option host.Job) → asked s event ≡ job →
      IsShare s event (option_map_or (λ j. tells (host.Accepted j)) job (share_beside s event))
  by_asked None is = beside event
  by_asked (Some job) is = shares_begins event job is

-- The life of a world, event by event.

-- events that were taken are legal
pub are-legal : (config : Config) (passes : ℕ) (events : List Event) → AreTaken config passes events → AreLegal config passes events
are-legal config passes [] taken = tt
are-legal config passes (event ∷ before) (taken, all) =
    (record { free = taken-free (now config passes before) event taken; word = taken.word }, are-legal config passes before all)

-- events that were taken were lived through
pub lived-by : (config : Config) (passes : ℕ) (events : List Event) → IsSound config → IsSetup (setup_of config passes) →
    AreTaken config passes events → IsLived config passes events
lived-by config passes events sound made taken = record { sound = sound; made = made; legal = are-legal config passes events taken }

-- the events before the newest were lived through, and the newest has no cause
pub earlier : {config : Config} {passes : ℕ} {before : List Event} {event : Event} → IsLived config passes (event ∷ before) →
    IsLived config passes before
earlier lived = record { sound = lived.sound; made = lived.made; legal = lived.legal.1 }

-- the newest event has no cause
pub newest : {config : Config} {passes : ℕ} {before : List Event} {event : Event} → IsLived config passes (event ∷ before) →
    event_cause (now config passes before) event ≡ None
newest lived = lived.legal.0.free

-- the host may be told what an event tells it
abbrev MayBeTold : Summary → Option host.Entry → Type 0
MayBeTold s None = Unit {0}
MayBeTold s (Some entry) = may_come s entry ≡ true

-- the end of a write
finish-may : (s : Summary) (sending : Option Message) → sending_in s ≡ sending → finish_cause sending ≡ None → sends_write s ≡ true
finish-may s None e h = cc
finish-may s (Some message) e h =
    ap (λ o. option_map_or (λ m. not (is_read_message m)) o false) e ∙ ap not (rule-none (is_read_message message) WrongKind h)

-- the host may be told what an event without a cause tells it
may-be-told : (s : State) (event : Event) → event_cause s event ≡ None → MayBeTold s.host (share_of s event).told
may-be-told s event h = by (share-is s event) h where
  by : {event : Event} {share : Share} → IsShare s event share → event_cause s event ≡ None → MayBeTold s.host share.told
  by (shares_begins event job is) h = ap is_none (job-free s event job is h)
  by (finishes acked) h = finish-may s.host (sending_in s.host) refl h
  by (exchanges arrival back message is) h =
      ap (λ o. option_map_or is_read_message o false) is
      ∙ exchange-reads s arrival back message (sym (ap (exchange_cause s arrival back) is) ∙ h)
  by restarts_host h = refl
  by share h = tt

-- a transcript with what the host was told
told-more : (setup : host.Setup) (entries : List host.Entry) (told : Option host.Entry) → AreTold setup entries →
    MayBeTold (host_now setup entries) told → AreTold setup (option_to_list told ++ entries)
told-more setup entries None before may = before
told-more setup entries (Some entry) before may = (may, before)

-- the converter after a share of a life
device-part : Below → (config : Config) (past : List device.Event) (heard : Option device.Event) → IsSound config →
    device_now config (option_to_list heard ++ past) ≡ device_after (device_now config past) heard
device-part laws config past None sound = refl
device-part laws config past (Some event) sound = laws.pasts_are_followed.more config past event sound.some sound.few

-- the host after it
host-part : Below → (setup : host.Setup) (entries : List host.Entry) (told : Option host.Entry) → IsSetup setup → AreTold setup entries →
    MayBeTold (host_now setup entries) told →
    host_now setup (option_to_list told ++ entries) ≡ host_after (host_now setup entries) told
host-part laws setup entries None good before may = refl
host-part laws setup entries (Some entry) good before may = laws.transcripts_are_followed.more setup entries entry good (may, before)

-- how a job stands is what the call answers
end_by-step : (end : Option JobEnd) → end_by (step_by end) ≡ end
end_by-step None = refl
end_by-step (Some end) = refl

-- how the last job stands after it
end-part : Below → (setup : host.Setup) (entries : List host.Entry) (told : Option host.Entry) → IsSetup setup → AreTold setup entries →
    MayBeTold (host_now setup entries) told →
    host.last_job_end setup (option_to_list told ++ entries) ≡ end_after (host_now setup entries) (host.last_job_end setup entries) told
end-part laws setup entries None good before may = refl
end-part laws setup entries (Some entry) good before may =
    sym (ap end_by (laws.transcripts_are_followed.step setup entries entry good (may, before))
    ∙ end_by-step (host.last_job_end setup (entry ∷ entries)))

-- the world after one more share
lived-state : Below → {config : Config} {passes : ℕ} (n : ℕ) (l : Life) (share : Share) → IsSound config →
    IsSetup (setup_of config passes) →
    AreTold (setup_of config passes) l.entries →
    MayBeTold (host_now (setup_of config passes) l.entries) share.told →
    state_of config passes (suc n) (lived l share) ≡ event_counted (shared (state_of config passes n l) share)
unfolding state_of
lived-state laws {config = config} {passes = passes} n l share sound good before may =
    ap (λ (d : Held). state d (host_now setup (option_to_list share.told ++ l.entries))
    (host.last_job_end setup (option_to_list share.told ++ l.entries)) (suc n)) (device-part laws config l.past share.heard sound)
    ∙ (ap (λ (h : Summary). state (device_after (device_now config l.past) share.heard) h
    (host.last_job_end setup (option_to_list share.told ++ l.entries)) (suc n)) (host-part laws setup l.entries share.told good before may)
    ∙ (ap (λ (e : Option JobEnd). state (device_after (device_now config l.past) share.heard)
    (host_after (host_now setup l.entries) share.told) e (suc n)) (end-part laws setup l.entries share.told good before may)
    ∙ ap (state (device_after (device_now config l.past) share.heard) (host_after (host_now setup l.entries) share.told)
    (end_after (host_now setup l.entries) (host.last_job_end setup l.entries) share.told)) (sym (add-one n))))
  where
    setup : host.Setup
    setup = setup_of config passes

-- what the host was told is a transcript that might come
pub life-told : (config : Config) (passes : ℕ) (events : List Event) → AreLegal config passes events →
    AreTold (setup_of config passes) (life config passes events).entries
unfolding life now state_of
life-told config passes [] legal = tt
life-told config passes (event ∷ before) (legal, all) =
    told-more (setup_of config passes) (life config passes before).entries _ (life-told config passes before all)
    (may-be-told (state_of config passes (length before) (life config passes before)) event legal.free)

-- one more event
pub now-next : Below → (config : Config) (passes : ℕ) (events : List Event) (event : Event) → IsLived config passes (event ∷ events) →
    now config passes (event ∷ events) ≡ next (now config passes events) event
unfolding life now next state_of
now-next laws config passes events event lived =
    let before_it = state_of config passes (length events) (life config passes events) in
    lived-state laws (length events) (life config passes events) (share_of before_it event) lived.sound lived.made
    (life-told config passes events lived.legal.1) (may-be-told before_it event lived.legal.0.free)

-- no event
pub now-nil : Below → (config : Config) (passes : ℕ) → IsSetup (setup_of config passes) → now config passes [] ≡ world_start config passes
unfolding life now world_start state_of host.last_job_end
now-nil laws config passes good =
    ap₂ (λ (d : Held) (h : Summary). state d h None 0) (laws.pasts_are_followed.none config)
    (laws.transcripts_are_followed.none (setup_of config passes) good)

-- events that are taken from the start are those of a life
pub from-start : Below → (config : Config) (passes : ℕ) (events : List Event) → IsSound config → IsSetup (setup_of config passes) →
    AreTakenFrom (world_start config passes) events →
    AreTaken config passes events × (now config passes events ≡ after_all (world_start config passes) events)
from-start laws config passes [] sound good all = (tt, now-nil laws config passes good)
from-start laws config passes (event ∷ before) sound good (taken, all) =
    let so_far = from-start laws config passes before sound good all in
    let same = so_far.1 in
    let one : AreTaken config passes (event ∷ before) = (subst (λ (s : State). IsTaken s event) (sym same) taken, so_far.0) in (
      one,
      now-next laws config passes before event (lived-by config passes (event ∷ before) sound good one)
          ∙ ap (λ (s : State). next s event) same,
    )

-- what came before events that were lived through was
pub lived-before : (config : Config) (passes : ℕ) (later before : List Event) → IsLived config passes (later ++ before) →
    IsLived config passes before
lived-before config passes [] before lived = lived
lived-before config passes (event ∷ later) before lived = lived-before config passes later before (earlier lived)

-- no event changes the host's setup
pub now-setup : (config : Config) (passes : ℕ) (events : List Event) → (now config passes events).host.setup ≡ setup_of config passes
unfolding now state_of host_now
now-setup config passes events = refl

-- What a legal hearing of a frame that the host sends makes of what the converter keeps: nothing, or what a
-- whole write asks for.

-- what starts a frame is a prefix of it
front-is : (frame bytes : List ℕ) → starts_with eqb frame bytes ≡ true → frame ≡ bytes ++ drop (length bytes) frame
front-is frame bytes h = (starts_is Decides-eqb frame bytes (starts_with eqb frame bytes) refl).0 h

-- the frame of a write, and of a request
pub frame-write : (addr : ℕ) (message : Message) → is_read_message message ≡ false → frame_of addr message ≡ with_pec [] (sent addr message)
unfolding frame_of
frame-write addr message writes = ap (λ b. cond b (sent addr message) (with_pec [] (sent addr message))) writes

-- the frame of a request
pub frame-request : (addr : ℕ) (message : Message) → is_read_message message ≡ true → frame_of addr message ≡ sent addr message
unfolding frame_of
frame-request addr message reads = ap (λ b. cond b (sent addr message) (with_pec [] (sent addr message))) reads

-- a legal hearing of a write that changes what is kept is the whole of it
pub hears-write : Below → (held : Held) (message : Message) (bytes : List ℕ) (ending : Ending) →
    is_read_message message ≡ false → fits_layout message ≡ true →
    is_legal_hearing (frame_of held.config.addr message) bytes ending ≡ true →
    (kept_after held (Hearing bytes ending) ≡ kept_in held) ⊎ ((ending ≡ Stop) × IsWrite held.config.addr message bytes)
unfolding is_legal_hearing
hears-write laws held message bytes Restart writes fits legal = inl (laws.writes_reach_one_cell.request held bytes)
hears-write laws held message bytes Stop writes fits legal = go (or_cases (starts_with eqb frame bytes) (is_betrayed [] bytes) legal) where
  frame : List ℕ
  frame = frame_of held.config.addr message

  is_frame : IsWrite held.config.addr message (frame_of held.config.addr message)
  is_frame = record { writes = writes; fits = fits; spelled = frame-write held.config.addr message writes }

  by_rest : (rest : List ℕ) → frame_of held.config.addr message ≡ bytes ++ rest →
      (kept_after held (Hearing bytes Stop) ≡ kept_in held) ⊎ ((Stop ≡ Stop) × IsWrite held.config.addr message bytes)
  by_rest [] e = inr (refl, subst (IsWrite held.config.addr message) (e ∙ append-nil bytes) is_frame)
  by_rest (x ∷ rest) e =
      let whole = laws.writes_are_exact.spelled held.config.addr message (frame_of held.config.addr message) is_frame in
      inl (laws.writes_reach_one_cell.faulty held bytes (laws.damage_is_refused.write_cut held.config.addr bytes (x ∷ rest)
      (subst (λ l. write_fault held.config.addr l ≡ None) e whole) (λ same. cc)))

  go : (starts_with eqb (frame_of held.config.addr message) bytes ≡ true) ⊎ (is_betrayed [] bytes ≡ true) →
      (kept_after held (Hearing bytes Stop) ≡ kept_in held) ⊎ ((Stop ≡ Stop) × IsWrite held.config.addr message bytes)
  go (inl front) = by_rest (drop (length bytes) (frame_of held.config.addr message))
      (front-is (frame_of held.config.addr message) bytes front)
  go (inr wrong) =
      inl (laws.writes_reach_one_cell.faulty held bytes (laws.betrayal_is_refused.write held.config.addr bytes wrong))

-- a legal hearing of a request changes nothing that is kept
pub hears-request : Below → (held : Held) (addr : ℕ) (message : Message) (bytes : List ℕ) (ending : Ending) →
    (is_read_message message ≡ true) × (fits_layout message ≡ true) →
    is_legal_hearing (frame_of addr message) bytes ending ≡ true → kept_after held (Hearing bytes ending) ≡ kept_in held
unfolding is_legal_hearing
hears-request laws held addr message bytes Restart asks legal = laws.writes_reach_one_cell.request held bytes
hears-request laws held addr message bytes Stop (reads, fits) legal =
    go (or_cases (starts_with eqb (frame_of addr message) bytes) (is_betrayed [] bytes) legal)
  where
    is_frame : IsRequest addr message (frame_of addr message)
    is_frame = record { reads = reads; fits = fits; spelled = frame-request addr message reads }

    go : (starts_with eqb (frame_of addr message) bytes ≡ true) ⊎ (is_betrayed [] bytes ≡ true) →
        kept_after held (Hearing bytes Stop) ≡ kept_in held
    go (inl front) =
        let whole = laws.requests_are_exact.spelled addr message (frame_of addr message) is_frame in
        laws.writes_reach_one_cell.faulty held bytes
        (laws.damage_is_refused.request_written addr held.config.addr bytes (drop (length bytes) (frame_of addr message))
        (subst (λ l. request_fault addr l ≡ None) (front-is (frame_of addr message) bytes front) whole))
    go (inr wrong) = laws.writes_reach_one_cell.faulty held bytes (laws.betrayal_is_refused.write held.config.addr bytes wrong)

-- the payload of a write has the word
pub payload-number : (voltage : Bool) (word : ℕ) → payload_word (cond voltage (Word word) (Byte word)) ≡ word
payload-number true word = refl
payload-number false word = refl

-- a write that a converter takes: its cell is there and accepts the word, and WRITE_PROTECT allows its
-- code
pub record CanTake (held : Held) (cell : Cell) (word : ℕ) : Type 0 where
  pub there : IsCell held.config.count cell
  pub accepted : cell_accepts cell word ≡ true
  pub allowed : is_allowed (word_at held.words Protect) (cell_code cell) ≡ true
  pub fits : fits_layout (cell_write cell word) ≡ true

-- then the whole write is taken
all_three : {X : Type 0} (a b c : Bool) (x y : X) → a ≡ true → b ≡ true → c ≡ true → cond (a && b && c) x y ≡ x
all_three a b c x y p q r = rw (p, q, r) refl

-- a choice by two tests that hold is the first of its values
both : {X : Type 0} (a b : Bool) (x y : X) → a ≡ true → b ≡ true → cond (a && b) x y ≡ x
both a b x y p q = rw (p, q) refl

-- a whole write of a cell that a converter takes gives the cell the word, in either form of the write
pub whole-write : Below → (held : Held) (cell : Cell) (word : ℕ) (bytes : List ℕ) → CanTake held cell word →
    IsWrite held.config.addr (cell_write cell word) bytes → words_after held (Hearing bytes Stop) ≡ with_word held.words cell word
whole-write laws held (Out output register) word bytes can is =
    let same = payload-number (is_voltage register) word in
    let found = laws.registers_are_in_the_table.found register output in
    ap (λ (k : Kept). k.words) (laws.writes_reach_one_cell.carried held output (register_code register) (register_payload register word)
    (Out output register) bytes is found)
    ∙ (all_three _ _ _ _ _ (lt-ltb output held.config.count can.there) can.allowed
    (ap (cell_accepts (Out output register)) same ∙ can.accepted)
    ∙ ap (with_word held.words (Out output register)) same)
whole-write laws held Protect word bytes can is =
    ap (λ (k : Kept). k.words) (laws.writes_reach_one_cell.plain held word bytes is) ∙ both _ _ _ _ can.allowed can.accepted

-- the frame of a write of a cell is one of a write
pub is_write : (addr : ℕ) (cell : Cell) (word : ℕ) → fits_layout (cell_write cell word) ≡ true →
    IsWrite addr (cell_write cell word) (frame_of addr (cell_write cell word))
is_write addr cell word fits =
    record { writes = writes_cell cell word; fits = fits; spelled = frame-write addr (cell_write cell word) (writes_cell cell word) }

-- a legal hearing of that write leaves the words, or sets that one
pub legal-write : Below → (held : Held) (cell : Cell) (word : ℕ) (bytes : List ℕ) (ending : Ending) → CanTake held cell word →
    is_legal_hearing (frame_of held.config.addr (cell_write cell word)) bytes ending ≡ true →
    (words_after held (Hearing bytes ending) ≡ held.words) ⊎ (words_after held (Hearing bytes ending) ≡ with_word held.words cell word)
legal-write laws held cell word bytes ending can legal =
    elim (hears-write laws held (cell_write cell word) bytes ending (writes_cell cell word) can.fits legal) [
      | inl same ↦ inl (ap (λ (k : Kept). k.words) same)
      | inr (stop, is) ↦ inr (ap (λ e. words_after held (Hearing bytes e)) stop ∙ whole-write laws held cell word bytes can is)
    ]

-- A frame that is being sent, as it arrives.

-- how a write is heard that a stop ends, and a request that a repeated start ends
pub heard_ending-write : (message : Message) (arrival : Arrival) → is_read_message message ≡ false →
    ending_of Stop arrival ≡ heard_ending message arrival
heard_ending-write message arrival writes = ap (λ b. ending_of (cond b Restart Stop) arrival) (sym writes)

-- the ending of a request
pub heard_ending-request : (message : Message) (arrival : Arrival) → is_read_message message ≡ true →
    ending_of Restart arrival ≡ heard_ending message arrival
heard_ending-request message arrival reads = ap (λ b. ending_of (cond b Restart Stop) arrival) (sym reads)

-- what the code knows of a frame that is being sent, a request or a write, and of how it arrives
pub record Arrives (s : State) (reads : Bool) (arrival : Arrival) (frame heard : List ℕ) (ending : Ending) : Type 0 where
  pub message : Message
  pub sending : sending_in s.host ≡ Some message
  pub kind : is_read_message message ≡ reads
  pub frame_is : frame ≡ frame_of s.host.setup.addr message
  pub heard_is : heard ≡ heard_bytes frame arrival
  pub ending_is : ending ≡ heard_ending message arrival

-- a write arrives as `Arrives` says, by what the host shows of it
pub arrives-write : (s : State) (arrival : Arrival) (frame heard : List ℕ) (ending : Ending) →
    IsSomeAnd (sending_in s.host) (λ message. IsWrite s.host.setup.addr message frame) →
    heard ≡ heard_bytes frame arrival → ending ≡ ending_of Stop arrival → Arrives s false arrival frame heard ending
arrives-write s arrival frame heard ending shown heard_is ending_is = go (sending_in s.host) refl shown where
  go : (sending : Option Message) → sending_in s.host ≡ sending → IsSomeAnd sending (λ message. IsWrite s.host.setup.addr message frame) →
      Arrives s false arrival frame heard ending
  go None e is = absurd is
  go (Some message) e is = record {
    message = message;
    sending = e;
    kind = is.writes;
    frame_is = is.spelled ∙ sym (frame-write s.host.setup.addr message is.writes);
    heard_is = heard_is;
    ending_is = ending_is ∙ heard_ending-write message arrival is.writes;
  }

-- what a test of the code says of the message's frame
pub legal-is : {s : State} {reads : Bool} {arrival : Arrival} {frame heard : List ℕ} {ending : Ending} →
    (a : Arrives s reads arrival frame heard ending) →
    is_legal_hearing frame heard ending
    ≡ is_legal_hearing (frame_of s.host.setup.addr a.message) (heard_bytes (frame_of s.host.setup.addr a.message) arrival)
    (heard_ending a.message arrival)
legal-is {s = s} {arrival = arrival} {frame = frame} {ending = ending} a =
    let sent = frame_of s.host.setup.addr a.message in
    ap (λ bytes. is_legal_hearing frame bytes ending) (a.heard_is ∙ ap (λ f. heard_bytes f arrival) a.frame_is)
    ∙ (ap (λ f. is_legal_hearing f (heard_bytes sent arrival) ending) a.frame_is
    ∙ ap (is_legal_hearing sent (heard_bytes sent arrival)) a.ending_is)

-- the converter hears what the message's hearing is
pub hearing-is : {s : State} {reads : Bool} {arrival : Arrival} {frame heard : List ℕ} {ending : Ending} →
    (a : Arrives s reads arrival frame heard ending) →
    Hearing heard ending ≡ hearing s.host.setup.addr a.message arrival
hearing-is {arrival = arrival} a = ap₂ (λ b e. Hearing b e) (a.heard_is ∙ ap (λ f. heard_bytes f arrival) a.frame_is) a.ending_is

-- the cause against a delivery, by the test of what is heard
pub deliver-cause : {s : State} {arrival : Arrival} {frame heard : List ℕ} {ending : Ending} (legal : Bool) →
    (a : Arrives s false arrival frame heard ending) →
    is_legal_hearing frame heard ending ≡ legal → event_cause s (Deliver arrival) ≡ rule (not legal) NotBetrayed
deliver-cause {s = s} {arrival = arrival} legal a is =
    ap (delivery_cause s arrival) a.sending
    ∙ ap₂ (λ b c. option_or (rule b WrongKind) (rule (not c) NotBetrayed)) a.kind (sym (legal-is a) ∙ is)

-- a delivery that is heard
pub deliver-acts : {s : State} {arrival : Arrival} {frame heard : List ℕ} {ending : Ending} (new : Held) →
    (a : Arrives s false arrival frame heard ending) →
    is_legal_hearing frame heard ending ≡ true → new ≡ device_next s.device (Hearing heard ending) →
    Acts s (Deliver arrival) (Ok tt) (state new s.host s.end s.taken)
deliver-acts {s = s} {arrival = arrival} new a legal is = (
  deliver-cause true a legal,
  tt,
  ap (λ (d : Held). state d s.host s.end s.taken) (is ∙ ap (device_next s.device) (hearing-is a))
      ∙ ap (λ o. shared s (delivered s arrival o)) (sym a.sending),
)

-- A world while the write of an order is being sent.

-- whatever word WRITE_PROTECT may hold, its own code may be written
protect-allowed : (word : ℕ) → is_protection word ≡ true → is_allowed word command.write_protect ≡ true
unfolding line_of
protect-allowed word h = h

-- after a write the cell has its word, and its code stays allowed
wrote-held : Below → (words : Words) (cell : Cell) (word : ℕ) → AreWords words → IsCell 8 cell →
    word_at (with_word words cell word) cell ≡ word
wrote-held laws words cell word are there = laws.settings_are_a_map.read words cell cell word are there there
    ∙ cond-true (same_cell cell cell) word (word_at words cell) (same_cell-itself cell)

-- the code of a cell that was written stays allowed
wrote-allowed : Below → (words : Words) (cell : Cell) (word : ℕ) → AreWords words → IsCell 8 cell → cell_accepts cell word ≡ true →
    is_allowed (word_at words Protect) (cell_code cell) ≡ true →
    is_allowed (word_at (with_word words cell word) Protect) (cell_code cell) ≡ true
wrote-allowed laws words (Out output register) word are there accepted allowed =
    ap (λ p. is_allowed p (cell_code (Out output register)))
    (laws.settings_are_a_map.read words (Out output register) Protect word are there tt) ∙ allowed
wrote-allowed laws words Protect word are there accepted allowed =
    ap (λ p. is_allowed p (cell_code Protect)) (laws.settings_are_a_map.read words Protect Protect word are tt tt)
    ∙ protect-allowed word accepted

-- the write of a cell fits its layout
pub write-fits : Below → (setup : host.Setup) (cell : Cell) (word : ℕ) → IsCell setup.outputs cell → cell_accepts cell word ≡ true →
    fits_layout (cell_write cell word) ≡ true
write-fits laws setup (Out output register) word there accepted =
    laws.frames_are_named.fits setup _ (writes_output output register word there accepted)
write-fits laws setup Protect word there accepted = laws.frames_are_named.fits setup _ (writes_protect word accepted)

-- the read of a cell fits its layout
pub read-fits : Below → (setup : host.Setup) (cell : Cell) → IsCell setup.outputs cell → fits_layout (cell_read cell) ≡ true
read-fits laws setup (Out output register) there = laws.frames_are_named.fits setup _ (reads_output output register there)
read-fits laws setup Protect there = laws.frames_are_named.fits setup _ reads_protect

-- one delivery
delivery-legal : (s : State) (arrival : Arrival) (message : Message) → sending_in s.host ≡ Some message →
    event_cause s (Deliver arrival) ≡ None →
    is_legal_hearing (frame_of s.host.setup.addr message) (heard_bytes (frame_of s.host.setup.addr message) arrival)
    (heard_ending message arrival) ≡ true
delivery-legal s arrival message sending free =
    let none : delivery_cause s arrival (Some message) ≡ None = ap (delivery_cause s arrival) (sym sending) ∙ free in
    let legal = is_legal_hearing (frame_of s.host.setup.addr message) (heard_bytes (frame_of s.host.setup.addr message) arrival)
    (heard_ending message arrival) in
    not-false legal (rule-none (not legal) NotBetrayed
    (or-none (rule (is_read_message message) WrongKind) (rule (not legal) NotBetrayed) none).1)

-- a delivery tells the host nothing
pub told-nothing : (s : State) (arrival : Arrival) (sending : Option Message) → (delivered s arrival sending).told ≡ None
told-nothing s arrival None = refl
told-nothing s arrival (Some message) = refl

-- a delivery leaves the host
pub next-deliver-host : (s : State) (arrival : Arrival) → (next s (Deliver arrival)).host ≡ s.host
unfolding next
next-deliver-host s arrival = ap (host_after s.host) (told-nothing s arrival (sending_in s.host))

-- the words are those after the hearing
pub next-deliver-words : Below → (s : State) (arrival : Arrival) (message : Message) → sending_in s.host ≡ Some message →
    (next s (Deliver arrival)).device.words ≡ words_after s.device (hearing s.host.setup.addr message arrival)
unfolding next
next-deliver-words laws s arrival message sending = ap (λ o. (device_after s.device (delivered s arrival o).heard).words) sending
    ∙ ap (λ (k : Kept). k.words) (laws.writes_reach_one_cell.kept s.device (hearing s.host.setup.addr message arrival))

-- how a delivery of a write ends
pub write-ending : (cell : Cell) (word : ℕ) (arrival : Arrival) → heard_ending (cell_write cell word) arrival ≡ ending_of Stop arrival
write-ending cell word arrival = sym (heard_ending-write (cell_write cell word) arrival (writes_cell cell word))

-- an ending is a stop by the test
pub stop-is : (ending : Ending) → not (is_restart ending) ≡ true → ending ≡ Stop
stop-is Stop h = refl
stop-is Restart h = cc

-- what holds of a world while the write of an order is being sent
pub record Sends (s : State) (cell : Cell) (word pass : ℕ) (whole : Bool) : Type 0 where
  pub stage : s.host.stage ≡ Some (Writes cell word pass)
  pub allowed : is_allowed (word_at s.device.words Protect) (cell_code cell) ≡ true
  pub held : whole ≡ true → word_at s.device.words cell ≡ word

-- what holds of it throughout
pub record Fixed (s : State) (cell : Cell) (word : ℕ) : Type 0 where
  pub addr : s.host.setup.addr ≡ s.device.config.addr
  pub there : IsCell s.device.config.count cell
  pub few : s.device.config.count ≤ 8
  pub accepted : cell_accepts cell word ≡ true
  pub write_fits : fits_layout (cell_write cell word) ≡ true
  pub read_fits : fits_layout (cell_read cell) ≡ true
  pub are : AreWords s.device.words

-- then the write is taken
can-take : {s : State} {cell : Cell} {word pass : ℕ} {whole : Bool} → Fixed s cell word → Sends s cell word pass whole →
    CanTake s.device cell word
can-take fixed sends = record
    { there = fixed.there; accepted = fixed.accepted; allowed = sends.allowed; fits = fixed.write_fits }

-- a delivery that leaves the words, or writes them
sends-words : Below → {s : State} (t : State) {cell : Cell} {word pass : ℕ} {whole : Bool} → Fixed s cell word →
    Sends s cell word pass whole → t.host ≡ s.host →
    (t.device.words ≡ s.device.words) ⊎ (t.device.words ≡ with_word s.device.words cell word) → Sends t cell word pass whole
sends-words laws t {cell = cell} fixed sends host (inl same) = record {
  stage = ap (λ (h : Summary). h.stage) host ∙ sends.stage;
  allowed = ap (λ w. is_allowed (word_at w Protect) (cell_code cell)) same ∙ sends.allowed;
  held = λ h. ap (λ w. word_at w cell) same ∙ sends.held h;
}
sends-words laws {s = s} t {cell = cell} {word = word} fixed sends host (inr wrote) = record {
  stage = ap (λ (h : Summary). h.stage) host ∙ sends.stage;
  allowed = ap (λ w. is_allowed (word_at w Protect) (cell_code cell)) wrote
      ∙ wrote-allowed laws s.device.words cell word fixed.are (eight s.device.config.count cell fixed.few fixed.there) fixed.accepted
      sends.allowed;
  held = λ h. ap (λ w. word_at w cell) wrote
      ∙ wrote-held laws s.device.words cell word fixed.are (eight s.device.config.count cell fixed.few fixed.there);
}

-- a delivery that writes them
sends-whole : Below → {s : State} (t : State) {cell : Cell} {word pass : ℕ} {whole : Bool} → Fixed s cell word →
    Sends s cell word pass whole → t.host ≡ s.host →
    t.device.words ≡ with_word s.device.words cell word → Sends t cell word pass true
sends-whole laws {s = s} t {cell = cell} {word = word} fixed sends host wrote = record {
  stage = ap (λ (h : Summary). h.stage) host ∙ sends.stage;
  allowed = ap (λ w. is_allowed (word_at w Protect) (cell_code cell)) wrote
      ∙ wrote-allowed laws s.device.words cell word fixed.are (eight s.device.config.count cell fixed.few fixed.there) fixed.accepted
      sends.allowed;
  held = λ h. ap (λ w. word_at w cell) wrote
      ∙ wrote-held laws s.device.words cell word fixed.are (eight s.device.config.count cell fixed.few fixed.there);
}

-- its write is being sent
pub sending-write : (s : State) (cell : Cell) (word pass : ℕ) → s.host.stage ≡ Some (Writes cell word pass) →
    sending_in s.host ≡ Some (cell_write cell word)
sending-write s cell word pass stage = ap (option_map stage_message) stage

-- a delivery leaves the words or sets that one
delivered-words : Below → {s : State} {cell : Cell} {word pass : ℕ} {whole : Bool} (arrival : Arrival) → Fixed s cell word →
    Sends s cell word pass whole → event_cause s (Deliver arrival) ≡ None →
    ((next s (Deliver arrival)).device.words ≡ s.device.words) ⊎
    ((next s (Deliver arrival)).device.words ≡ with_word s.device.words cell word)
delivered-words laws {s = s} {cell = cell} {word = word} arrival fixed sends free =
    let message = cell_write cell word in
    let sending = sending-write s cell word _ sends.stage in
    let legal = subst (λ a. is_legal_hearing (frame_of a message) (heard_bytes (frame_of a message) arrival)
    (heard_ending message arrival) ≡ true) fixed.addr (delivery-legal s arrival message sending free) in
    let after : (next s (Deliver arrival)).device.words ≡ words_after s.device (hearing s.device.config.addr message arrival) =
    next-deliver-words laws s arrival message sending ∙ ap (λ a. words_after s.device (hearing a message arrival)) fixed.addr in
    elim (legal-write laws s.device cell word (heard_bytes (frame_of s.device.config.addr message) arrival) (heard_ending message arrival)
    (can-take fixed sends) legal) [
      | inl same ↦ inl (after ∙ same)
      | inr wrote ↦ inr (after ∙ wrote)
    ]

-- a delivery of the write, heard whole or not
whole-words : Below → {s : State} {cell : Cell} {word pass : ℕ} {whole : Bool} (arrival : Arrival) → Fixed s cell word →
    Sends s cell word pass whole →
    is_whole (frame_of s.device.config.addr (cell_write cell word)) arrival ≡ true →
    (next s (Deliver arrival)).device.words ≡ with_word s.device.words cell word
whole-words laws {s = s} {cell = cell} {word = word} arrival fixed sends is =
    let message = cell_write cell word in
    let frame = frame_of s.device.config.addr message in
    let parts = and_parts (bytes_eq (heard_bytes frame arrival) frame) (not (is_restart (ending_of Stop arrival))) is in
    let ending = write-ending cell word arrival ∙ stop-is (ending_of Stop arrival) parts.1 in
    next-deliver-words laws s arrival message (sending-write s cell word _ sends.stage)
    ∙ (ap (λ a. words_after s.device (hearing a message arrival)) fixed.addr
    ∙ (ap₂ (λ b e. words_after s.device (device.Hearing b e)) ((bytes_eq-Decides (heard_bytes frame arrival) frame).0 parts.0) ending
    ∙ whole-write laws s.device cell word frame (can-take fixed sends)
    (is_write s.device.config.addr cell word fixed.write_fits)))

-- after one more delivery
pub deliver-sends : Below → {s : State} {cell : Cell} {word pass : ℕ} {whole : Bool} (arrival : Arrival) → Fixed s cell word →
    Sends s cell word pass whole →
    event_cause s (Deliver arrival) ≡ None →
    Sends (next s (Deliver arrival)) cell word pass (is_whole (frame_of s.device.config.addr (cell_write cell word)) arrival || whole)
deliver-sends laws {s = s} {cell = cell} {word = word} {pass = pass} {whole = whole} arrival fixed sends free =
    go (is_whole (frame_of s.device.config.addr (cell_write cell word)) arrival) refl
  where
    go : (b : Bool) → is_whole (frame_of s.device.config.addr (cell_write cell word)) arrival ≡ b →
        Sends (next s (Deliver arrival)) cell word pass (b || whole)
    go true e = sends-whole laws (next s (Deliver arrival)) fixed sends (next-deliver-host s arrival)
        (whole-words laws arrival fixed sends e)
    go false e = sends-words laws (next s (Deliver arrival)) fixed sends (next-deliver-host s arrival)
        (delivered-words laws arrival fixed sends free)

-- What a life holds at an order, a delivery and the end of a write.

-- the host holds a standing for each place
pub now-standings : (config : Config) (passes : ℕ) (events : List Event) → length (now config passes events).host.known.standing ≡ places
unfolding now state_of host_now known_now table
now-standings config passes events = length-map-range_with_len {X = Standing}
    (λ place. standing_of (marks (setup_of config passes) (life config passes events).entries) (cell_in place)) 0 places

-- a repeated start ends the request of a cell's read
pub read-restart : (cell : Cell) → heard_ending (cell_read cell) Whole ≡ Restart
read-restart (Out output register) = refl
read-restart Protect = refl

-- what holds of the ends after a life
pub now-are : Below → (config : Config) (passes : ℕ) (events : List Event) → AreWords (now config passes events).device.words
unfolding now state_of
now-are laws config passes events = laws.pasts_are_followed.words config (life config passes events).past

-- the host is sound
pub now-sound : Below → (config : Config) (passes : ℕ) (events : List Event) → IsLived config passes events →
    IsSoundHost (now config passes events).host
unfolding now state_of
now-sound laws config passes events lived =
    laws.transcripts_are_followed.sound (setup_of config passes) (life config passes events).entries lived.made
    (life-told config passes events lived.legal)

-- an event that asks for an order begins its write, and leaves the converter
pub order-stage : (s : State) (order : Event) (cell : Cell) (word : ℕ) → asked s order ≡ Some (host.Order cell word) →
    (next s order).host.stage ≡ Some (Writes cell word 0)
unfolding host_next
order-stage s order cell word asks = ap (λ (t : State). t.host.stage) (asked-next s order (host.Order cell word) asks)

-- an order leaves the converter
pub order-device : (s : State) (order : Event) (cell : Cell) (word : ℕ) → asked s order ≡ Some (host.Order cell word) →
    (next s order).device ≡ s.device
order-device s order cell word asks = ap (λ (t : State). t.device) (asked-next s order (host.Order cell word) asks)

-- the end of the write begins its read
pub finish-stage : (s : State) (acked : Bool) (cell : Cell) (word : ℕ) → s.host.stage ≡ Some (Writes cell word 0) →
    (next s (Finish acked)).host.stage ≡ Some (Reads cell word 0)
unfolding next host_next
finish-stage s acked cell word stage = ap (λ o. (finished (idle s.host) o acked).after.stage) stage

-- the entries after an event that tells the host something, and after one that doesn't
pub share-entries : (config : Config) (passes : ℕ) (before : List Event) (event : Event) (told : Option host.Entry) →
    (share_of (now config passes before) event).told ≡ told →
    (life config passes (event ∷ before)).entries ≡ option_to_list told ++ (life config passes before).entries
unfolding life now
share-entries config passes before event told is = ap (λ t. option_to_list t ++ (life config passes before).entries) is

-- after the order
pub order-entries : (config : Config) (passes : ℕ) (before : List Event) (order : Event) (cell : Cell) (word : ℕ) →
    asked (now config passes before) order ≡ Some (host.Order cell word) →
    (life config passes (order ∷ before)).entries ≡ host.Accepted (host.Order cell word) ∷ (life config passes before).entries
order-entries config passes before order cell word asks =
    share-entries config passes before order (Some (host.Accepted (host.Order cell word)))
    (ap (λ (share : Share). share.told) (asked-share (now config passes before) order (host.Order cell word) asks))

-- after a delivery
pub deliver-entries : (config : Config) (passes : ℕ) (before : List Event) (arrival : Arrival) →
    (life config passes (Deliver arrival ∷ before)).entries ≡ (life config passes before).entries
deliver-entries config passes before arrival =
    let s = now config passes before in
    share-entries config passes before (Deliver arrival) None (told-nothing s arrival (sending_in s.host))

-- Frames that come whole, as the promises on undisturbed frames ask for them.

-- bytes are themselves by the test
pub same_bytes : (bytes : List ℕ) → bytes_eq bytes bytes ≡ true
same_bytes bytes = (bytes_eq-Decides bytes bytes).1 refl

-- a whole arrival is heard whole
heard-whole : (frame : List ℕ) → list_any (is_whole frame) (Whole ∷ []) ≡ true
heard-whole frame = ap (λ b. b && true || false) (same_bytes frame)

-- a write
pub whole-written : (frame : List ℕ) (acked : Bool) (before : List Event) →
    IsWritten frame acked before (Finish acked ∷ Deliver Whole ∷ before)
whole-written frame acked before =
    record { between = Deliver Whole ∷ []; is = refl; beside = refl; whole = ap (λ b. b && true || false) (same_bytes frame) }

-- a read
pub whole-read : (config : Config) (passes : ℕ) (request : Message) (before : List Event) → is_read_message request ≡ true →
    IsRead config passes request before (Exchange Whole back.Whole ∷ before)
whole-read config passes request before reads =
    let s = now config passes before in
    let frame = frame_of s.host.setup.addr request in
    let answer = answer_to s.device s.host.setup.addr request Whole in
    record {
      arrival = Whole;
      back = back.Whole;
      readings = [];
      is = refl;
      beside = refl;
      whole = ap (λ b. is_restart (cond b Restart Stop) && bytes_eq frame frame && bytes_eq answer answer) reads
          ∙ ap₂ (λ a b. true && a && b) (same_bytes frame) (same_bytes answer);
    }

-- an exchange that comes whole reads a cell
pub whole-cell : (config : Config) (passes : ℕ) (cell : Cell) (before : List Event) →
    IsRead config passes (cell_read cell) before (Exchange Whole back.Whole ∷ before)
whole-cell config passes cell before = whole-read config passes (cell_read cell) before (cell_read_is_request cell)

-- an order that is sent
pub whole-sent : (config : Config) (passes : ℕ) (before : List Event) (cell : Cell) (word : ℕ) →
    is_allowed (word_at (now config passes before).device.words Protect) (cell_code cell) ≡ true →
    WasSent config passes cell word true (Deliver Whole ∷ EventOrder cell word ∷ before)
whole-sent config passes before cell word allowed = record {
  order = EventOrder cell word;
  arrivals = Whole ∷ [];
  before = before;
  is = refl;
  asks = refl;
  allowed = allowed;
  heard = heard-whole (frame_of config.addr (cell_write cell word));
}

-- an order whose frames come whole is undisturbed
pub whole-order : (config : Config) (passes : ℕ) (before : List Event) (cell : Cell) (word : ℕ) (acked : Bool) →
    is_allowed (word_at (now config passes before).device.words Protect) (cell_code cell) ≡ true →
    WasUndisturbed config passes cell word (Exchange Whole back.Whole ∷ Finish acked ∷ Deliver Whole ∷ EventOrder cell word ∷ before)
whole-order config passes before cell word acked allowed = record {
  order = EventOrder cell word;
  arrivals = Whole ∷ [];
  acked = acked;
  before = before;
  is = refl;
  asks = refl;
  allowed = allowed;
  heard = heard-whole (frame_of config.addr (cell_write cell word));
}

-- The end of an order's write and its undisturbed read have no cause against them.

-- a rule that doesn't apply names no cause
off : (applies : Bool) (cause : Cause) → applies ≡ false → rule applies cause ≡ None
off applies cause e = ap (λ b. rule b cause) e

-- the whole answer to a whole request is legal
pub whole-return : (frame answer : List ℕ) (needed : ℕ) →
    is_legal_return frame needed (is_heard_whole frame frame Restart) answer answer ≡ true
unfolding is_legal_return
whole-return frame answer needed = ap₂ (λ b c. (true && b) && c || (nat_lt (length answer) needed || is_betrayed frame answer))
    (same_bytes frame) (same_bytes answer)

-- an undisturbed exchange has no cause
exchange-free : (s : State) (message : Message) → is_read_message message ≡ true → heard_ending message Whole ≡ Restart →
    exchange_cause s Whole back.Whole (Some message) ≡ None
exchange-free s message reads ending =
    let frame = frame_of s.host.setup.addr message in
    let answer = answer_to s.device s.host.setup.addr message Whole in
    let heard : is_legal_hearing frame frame (heard_ending message Whole) ≡ true = ap (is_legal_hearing frame frame) ending
    ∙ whole-hearing frame in
    let returned : is_legal_return frame (whole_answer message) (is_heard_whole frame frame (heard_ending message Whole)) answer
    answer ≡ true =
    ap (λ e. is_legal_return frame (whole_answer message) (is_heard_whole frame frame e) answer answer) ending
    ∙ whole-return frame answer (whole_answer message) in
    ap (λ b. option_or (rule (not b) WrongKind)
    (option_or (rule (not (is_legal_hearing frame frame (heard_ending message Whole))) NotBetrayed)
    (rule (not (is_legal_return frame (whole_answer message) (is_heard_whole frame frame (heard_ending message Whole)) answer answer))
    NotBetrayed))) reads
    ∙ ap₂ (λ h r. option_or (rule (not h) NotBetrayed) (rule (not r) NotBetrayed)) heard returned

-- in a world with room nothing else is against it
pub free : (s : State) (event : Event) → s.taken < event_limit → event_cause s event ≡ None → cause_of s event ≡ None
unfolding cause_of
free s event room none = ap (λ b. option_or (rule b Full) (event_cause s event)) (lt-leb event_limit s.taken room) ∙ none

-- how many events were taken
pub now-taken : (config : Config) (passes : ℕ) (events : List Event) → (now config passes events).taken ≡ length events
unfolding now state_of
now-taken config passes events = refl

-- after its deliveries the write is still being sent
pub sent-stage : Below → {config : Config} {passes : ℕ} (before : List Event) (order : Event) {cell : Cell} {word : ℕ}
    (arrivals : List Arrival) →
    IsLived config passes (sent_by order arrivals before) → asked (now config passes before) order ≡ Some (host.Order cell word) →
    (now config passes (sent_by order arrivals before)).host.stage ≡ Some (Writes cell word 0)
sent-stage laws {config = config} {passes = passes} before order {cell = cell} {word = word} [] lived asks =
    ap (λ (s : State). s.host.stage) (now-next laws config passes before order lived)
    ∙ order-stage (now config passes before) order cell word asks
sent-stage laws {config = config} {passes = passes} before order (arrival ∷ arrivals) lived asks =
    let events = sent_by order arrivals before in
    ap (λ (s : State). s.host.stage) (now-next laws config passes events (Deliver arrival) lived)
    ∙ (ap (λ (h : Summary). h.stage) (next-deliver-host (now config passes events) arrival)
    ∙ sent-stage laws before order arrivals (earlier lived) asks)

-- events that were taken, and room for two more
pub record HasRoom (config : Config) (passes : ℕ) (events : List Event) : Type 0 where
  pub sound : IsSound config
  pub made : IsSetup (setup_of config passes)
  pub taken : AreTaken config passes events
  pub room : length events + 2 ≤ event_limit

-- the end of an undisturbed write and its read are taken
pub taken-whole : Below → {config : Config} {passes : ℕ} {cell : Cell} {word : ℕ} (before : List Event) (order : Event)
    (arrivals : List Arrival) (acked : Bool) → HasRoom config passes (sent_by order arrivals before) →
    asked (now config passes before) order ≡ Some (host.Order cell word) → AreTaken config passes (honest order arrivals acked before)
taken-whole laws {config = config} {passes = passes} {cell = cell} {word = word} before order arrivals acked has asks =
    let events = sent_by order arrivals before in
    let s = now config passes events in
    let lived = lived-by config passes events has.sound has.made has.taken in
    let room = has.room in
    let stage = sent-stage laws before order arrivals lived asks in
    let sending : sending_in s.host ≡ Some (cell_write cell word) = ap (option_map stage_message) stage in
    let finish : IsTaken s (Finish acked) = record {
      free = free s (Finish acked) (let count = now-taken config passes events in omega arith)
          (ap finish_cause sending ∙ off _ WrongKind (writes_cell cell word));
      word = tt;
    } in
    let t = now config passes (Finish acked ∷ events) in
    let next_stage : t.host.stage ≡ Some (Reads cell word 0) =
    ap (λ (u : State). u.host.stage)
    (now-next laws config passes events (Finish acked)
    (lived-by config passes (Finish acked ∷ events) has.sound has.made (finish, has.taken)))
    ∙ finish-stage s acked cell word stage in
    let reading : sending_in t.host ≡ Some (cell_read cell) = ap (option_map stage_message) next_stage in
    let count = now-taken config passes (Finish acked ∷ events) in (
      record {
        free = free t (Exchange Whole back.Whole) (omega arith)
            (ap (exchange_cause t Whole back.Whole) reading
            ∙ exchange-free t (cell_read cell) (cell_read_is_request cell) (read-restart cell));
        word = tt;
      },
      (finish, has.taken),
    )

-- An event is taken where its cause says so: one that nothing is against has its word.

-- a format that is known has a word
known-word : (format : Option Shape) (x : Ratio) → is_none format ≡ false →
    IsSome (option_and_then (λ shape. nearest_word (shape_value shape) (shape_rank shape) x) format)
known-word None x known = cc
known-word (Some shape) x known = nearest-exists shape x

-- an order in microvolts that isn't refused names an output whose format is known
order-known : (s : Summary) (cell : Cell) (x : ℤ) → micro_fault s cell x ≡ None → is_none (format_at s (output_of cell)) ≡ false
order-known s cell x h =
    let voltage = (or-none (voltage_fault s cell) _ h).0 in
    let past_cell = (or-none (cell_fault s cell) _ voltage).1 in
    let past_word = (or-none (rule (not (is_voltage_cell cell)) BadWord) _ past_cell).1 in
    rule-none (is_none (format_at s (output_of cell))) FormatUnknown
    (or-none (rule (is_none (format_at s (output_of cell))) FormatUnknown) None past_word).0

-- an event that nothing is against has its word
pub free-word : (s : State) (event : Event) → event_cause s event ≡ None → HasWord s event
free-word s (OrderMicro cell x) h =
    known-word (format_at s.host (output_of cell)) (micros x)
    (order-known s.host cell x
    (refused-none _ (or-none (refused (refusal_of_event s.host (OrderMicro cell x))) (cause_beside s (OrderMicro cell x)) h).0))
free-word s event h = tt

-- a world that takes an event has room
taken-room : (s : State) (event : Event) → cause_of s event ≡ None → s.taken < event_limit
unfolding cause_of
taken-room s event h =
    let full = rule-none (nat_le event_limit s.taken) Full (or-none (rule (nat_le event_limit s.taken) Full) (event_cause s event) h).0 in
    elim (cases_lt s.taken event_limit) [ inl less ↦ less | inr full_one ↦ let e = le-leb event_limit s.taken full_one in cc ]

-- it is taken exactly where there is room and nothing else is against it
pub taken-by : (s : State) (event : Event) → IsTaken s event ↔ (s.taken < event_limit) × (event_cause s event ≡ None)
taken-by s event = (
  λ taken. (taken-room s event taken.free, taken-free s event taken),
  λ (room, none). record { free = free s event room none; word = free-word s event none },
)

-- events are legal exactly where nothing else is against any of them
pub legal-by : (config : Config) (passes : ℕ) (events : List Event) → AreLegal config passes events ↔
    ((later before : List Event) (event : Event) → events ≡ later ++ event ∷ before →
    event_cause (now config passes before) event ≡ None)
legal-by config passes events = (to events, from events) where
  to : (events : List Event) → AreLegal config passes events → (later before : List Event) (event : Event) →
      events ≡ later ++ event ∷ before → event_cause (now config passes before) event ≡ None
  to [] legal [] before event is = cc
  to [] legal (other ∷ later) before event is = cc
  to (newest ∷ rest) (here, below) [] before event is =
      let e : event ≡ newest = cc in
      let f : before ≡ rest = cc in
      ap₂ (λ xs one. event_cause (now config passes xs) one) f e ∙ here.free
  to (newest ∷ rest) (here, below) (other ∷ later) before event is =
      let f : rest ≡ later ++ event ∷ before = cc in
      to rest below later before event f

  from : (events : List Event) → ((later before : List Event) (event : Event) → events ≡ later ++ event ∷ before →
      event_cause (now config passes before) event ≡ None) → AreLegal config passes events
  from [] none = tt
  from (event ∷ before) none =
      let here = none [] before event refl in (
        record { free = here; word = free-word (now config passes before) event here },
        from before (λ later rest other is. none (event ∷ later) rest other (ap (λ (xs : List Event). event ∷ xs) is)),
      )

-- A request that is being sent, as it arrives, and what comes back.

-- what the code knows of a request that is being sent
pub record Asks (s : State) (arrival : Arrival) (frame heard : List ℕ) (ending : Ending) (needed : ℕ) : Type 0 where
  pub arrives : Arrives s true arrival frame heard ending
  pub needed_is : needed ≡ whole_answer arrives.message

-- the code knows of a request what `Asks` says, by what the host shows of it
pub arrives-request : (s : State) (arrival : Arrival) (frame heard : List ℕ) (ending : Ending) (needed : ℕ) →
    IsSomeAnd (sending_in s.host) (λ message. IsRequest s.host.setup.addr message frame)
    × IsSomeAnd (sending_in s.host) (λ message. needed ≡ whole_answer message) →
    (heard ≡ heard_bytes frame arrival) × (ending ≡ ending_of Restart arrival) → Asks s arrival frame heard ending needed
arrives-request s arrival frame heard ending needed shown so = go (sending_in s.host) refl shown where
  go : (sending : Option Message) → sending_in s.host ≡ sending →
      IsSomeAnd sending (λ message. IsRequest s.host.setup.addr message frame) × IsSomeAnd sending
      (λ message. needed ≡ whole_answer message) →
      Asks s arrival frame heard ending needed
  go None e is = absurd is.0
  go (Some message) e (is, long) = record {
    arrives = record {
      message = message;
      sending = e;
      kind = is.reads;
      frame_is = is.spelled ∙ sym (frame-request s.host.setup.addr message is.reads);
      heard_is = so.0;
      ending_is = so.1 ∙ heard_ending-request message arrival is.reads;
    };
    needed_is = long;
  }

-- what is asked of what comes back
pub record Returns (s : State) (arrival : Arrival) (back : Back) : Type 0 where
  pub frame : List ℕ
  pub heard : List ℕ
  pub ending : Ending
  pub needed : ℕ
  pub answer : List ℕ
  pub came : List ℕ
  pub whole : Bool
  pub asks : Asks s arrival frame heard ending needed
  pub answer_is : answer ≡ answer_in (reply_of s.device heard ending)
  pub came_is : came ≡ back_bytes answer back
  pub whole_is : whole ≡ is_heard_whole frame heard ending

-- the cause against an exchange, by the two tests
pub exchange_cause-by : (s : State) (arrival : Arrival) (back : Back) (message : Message) {legal returned : Bool} →
    is_read_message message ≡ true →
    is_legal_hearing (frame_of s.host.setup.addr message) (heard_bytes (frame_of s.host.setup.addr message) arrival)
    (heard_ending message arrival) ≡ legal →
    is_legal_return (frame_of s.host.setup.addr message) (whole_answer message)
    (is_heard_whole (frame_of s.host.setup.addr message) (heard_bytes (frame_of s.host.setup.addr message) arrival)
    (heard_ending message arrival))
    (answer_to s.device s.host.setup.addr message arrival)
    (back_bytes (answer_to s.device s.host.setup.addr message arrival) back) ≡ returned →
    exchange_cause s arrival back (Some message) ≡ option_or (rule (not legal) NotBetrayed) (rule (not returned) NotBetrayed)
exchange_cause-by s arrival back message {legal = legal} reads hears returns =
    ap₂ (λ x y. option_or (rule (not x) WrongKind)
    (option_or (rule (not y) NotBetrayed) (rule (not (is_legal_return (frame_of s.host.setup.addr message)
    (whole_answer message)
    (is_heard_whole (frame_of s.host.setup.addr message) (heard_bytes (frame_of s.host.setup.addr message) arrival)
    (heard_ending message arrival))
    (answer_to s.device s.host.setup.addr message arrival) (back_bytes (answer_to s.device s.host.setup.addr message arrival) back)))
    NotBetrayed))) reads hears
    ∙ ap (λ z. option_or (rule (not legal) NotBetrayed) (rule (not z) NotBetrayed)) returns

-- a request whose hearing isn't legal
pub exchange-betrayed : {s : State} {arrival : Arrival} {frame heard : List ℕ} {ending : Ending} {needed : ℕ} (back : Back) →
    (a : Asks s arrival frame heard ending needed) → is_legal_hearing frame heard ending ≡ false →
    event_cause s (Exchange arrival back) ≡ Some NotBetrayed
exchange-betrayed {s = s} {arrival = arrival} back a illegal =
    ap (exchange_cause s arrival back) a.arrives.sending
    ∙ exchange_cause-by s arrival back a.arrives.message a.arrives.kind (sym (legal-is a.arrives) ∙ illegal) refl

-- what the test of a return says of the message's frame
returns-answer : {s : State} {arrival : Arrival} {back : Back} → (r : Returns s arrival back) →
    r.answer ≡ answer_to s.device s.host.setup.addr r.asks.arrives.message arrival
returns-answer {s = s} {arrival = arrival} r =
    let a = r.asks.arrives in
    r.answer_is ∙ ap₂ (λ b e. answer_in (reply_of s.device b e)) (a.heard_is ∙ ap (λ f. heard_bytes f arrival) a.frame_is) a.ending_is

-- what comes back is that of the definition
returns-came : {s : State} {arrival : Arrival} {back : Back} → (r : Returns s arrival back) →
    r.came ≡ back_bytes (answer_to s.device s.host.setup.addr r.asks.arrives.message arrival) back
returns-came {back = back} r = r.came_is ∙ ap (λ a. back_bytes a back) (returns-answer r)

-- the test of a return is that of the definition
returns-legal : {s : State} {arrival : Arrival} {back : Back} → (r : Returns s arrival back) →
    let sent = frame_of s.host.setup.addr r.asks.arrives.message in
    let answer = answer_to s.device s.host.setup.addr r.asks.arrives.message arrival in
    is_legal_return r.frame r.needed r.whole r.answer r.came
    ≡ is_legal_return sent (whole_answer r.asks.arrives.message)
    (is_heard_whole sent (heard_bytes sent arrival) (heard_ending r.asks.arrives.message arrival)) answer (back_bytes answer back)
returns-legal {s = s} {arrival = arrival} r =
    let a = r.asks.arrives in
    let sent = frame_of s.host.setup.addr a.message in
    let heard = a.heard_is ∙ ap (λ f. heard_bytes f arrival) a.frame_is in
    let whole : r.whole ≡ is_heard_whole sent (heard_bytes sent arrival) (heard_ending a.message arrival) =
    r.whole_is ∙ (ap (λ f. is_heard_whole f r.heard r.ending) a.frame_is ∙ ap₂ (is_heard_whole sent) heard a.ending_is) in
    ap (λ f. is_legal_return f r.needed r.whole r.answer r.came) a.frame_is
    ∙ (ap₂ (λ n w. is_legal_return sent n w r.answer r.came) r.asks.needed_is whole
    ∙ ap₂ (is_legal_return sent (whole_answer a.message) (is_heard_whole sent (heard_bytes sent arrival) (heard_ending a.message arrival)))
    (returns-answer r) (returns-came r))

-- the cause against an exchange whose hearing is legal
pub exchange-cause : {s : State} {arrival : Arrival} {back : Back} (returned : Bool) → (r : Returns s arrival back) →
    is_legal_hearing r.frame r.heard r.ending ≡ true → is_legal_return r.frame r.needed r.whole r.answer r.came ≡ returned →
    event_cause s (Exchange arrival back) ≡ rule (not returned) NotBetrayed
exchange-cause {s = s} {arrival = arrival} {back = back} returned r legal is =
    let a = r.asks.arrives in
    ap (exchange_cause s arrival back) a.sending
    ∙ exchange_cause-by s arrival back a.message a.kind (sym (legal-is a) ∙ legal) (sym (returns-legal r) ∙ is)

-- an exchange that comes back
pub exchange-acts : {s : State} {arrival : Arrival} {back : Back} (new : Held) (after : State) → (r : Returns s arrival back) →
    is_legal_hearing r.frame r.heard r.ending ≡ true → is_legal_return r.frame r.needed r.whole r.answer r.came ≡ true →
    new ≡ device_next s.device (Hearing r.heard r.ending) → after ≡ shared (state new s.host s.end s.taken) (tells (Got r.came)) →
    Acts s (Exchange arrival back) (Ok tt) after
exchange-acts {s = s} {arrival = arrival} {back = back} new after r legal returned is told = (
  exchange-cause true r legal returned,
  tt,
  told
      ∙ (ap₂ (λ (d : Held) (b : List ℕ). shared (state d s.host s.end s.taken) (tells (Got b)))
      (is ∙ ap (device_next s.device) (hearing-is r.asks.arrives)) (returns-came r)
      ∙ ap (λ o. shared s (exchanged s arrival back o)) (sym r.asks.arrives.sending)),
)

-- What a run finds of its events is what the definitions say of them.

-- what is told since the host's last restart leaves WRITE_PROTECT open
abbrev pub left_by : Config → ℕ → List Event → Bool
left_by config passes events = are_open (marks (setup_of config passes) (since_restart (life config passes events).entries))

-- a run that looks for this finds it
pub open-found : LivesAreFollowed → EventsAreLived → OpenListsAreFollowed → (config : Config) (passes : ℕ) (events : List Event) →
    IsSound config → IsSetup (setup_of config passes) → AreTakenFrom (world_start config passes) events →
    (found_by follows_open (record { left = true }) (world_start config passes) events).left ≡ left_by config passes events
open-found lives lived opens config passes [] sound made all = sym (opens.none config passes)
open-found lives lived opens config passes (event ∷ before) sound made (taken, all) =
    let from = lives.from_start config passes (event ∷ before) sound made (taken, all) in
    let world = after_all (world_start config passes) (event ∷ before) in
    ap (λ b. stays_open b event (possible_at world.host Protect)) (open-found lives lived opens config passes before sound made all)
    ∙ (ap (λ (s : State). stays_open (left_by config passes before) event (possible_at s.host Protect)) (sym from.1)
    ∙ sym (opens.more config passes before event (lived.taken config passes (event ∷ before) sound made from.0)))

-- a run that looks for an order on its way finds it
pub way-found : LivesAreFollowed → WaysAreFollowed → (config : Config) (passes : ℕ) (events : List Event) →
    IsSound config → IsSetup (setup_of config passes) → AreTakenFrom (world_start config passes) events →
    found_by (λ way event world. way_after world event way) Off (world_start config passes) events ≡ way_of config passes events
way-found lives ways config passes [] sound made all = sym (ways.none config passes)
way-found lives ways config passes (event ∷ before) sound made (taken, all) =
    let from = lives.from_start config passes (event ∷ before) sound made (taken, all) in
    ap (way_after (after_all (world_start config passes) (event ∷ before)) event) (way-found lives ways config passes before sound made all)
    ∙ (ap (λ (s : State). way_after s event (way_of config passes before)) (sym from.1)
    ∙ sym (ways.more config passes before event))

-- What comes back of an undisturbed read of a cell.

-- the read of a cell is a request
is_request : (addr : ℕ) (cell : Cell) → fits_layout (cell_read cell) ≡ true →
    IsRequest addr (cell_read cell) (frame_of addr (cell_read cell))
is_request addr cell fits =
    record { reads = cell_read_is_request cell; fits = fits; spelled = frame-request addr (cell_read cell) (cell_read_is_request cell) }

-- the word of a payload
number_in : (payload : List ℕ) → word_in payload ≡ payload_word (payload_in payload)
number_in [] = refl
number_in (byte ∷ []) = refl
number_in (low ∷ high ∷ rest) = refl

-- a whole answer is good, and has its payload
pub good-answer : Below → (addr : ℕ) (request : Message) (payload bytes : List ℕ) → IsAnswer addr request payload bytes →
    good_payload addr request bytes ≡ Some payload
unfolding good_payload
good-answer laws addr request payload bytes is =
    ap (λ f. cond (is_none f) (Some (answer_payload request bytes)) None) (laws.answers_are_exact.spelled addr request payload bytes is)
    ∙ ap (λ p. Some p) (laws.answers_are_exact.places addr request payload bytes is)

-- an answer with a cell's word is good, and has this word
answer-word : Below → (addr : ℕ) (cell : Cell) (word : ℕ) (bytes : List ℕ) → cell_accepts cell word ≡ true →
    IsAnswer addr (cell_read cell) (register_bytes (cell_code cell) word) bytes → good_word addr cell bytes ≡ Some word
answer-word laws addr cell word bytes accepted is =
    ap (option_map word_in) (good-answer laws addr (cell_read cell) (register_bytes (cell_code cell) word) bytes is)
    ∙ ap (λ n. Some n) (number_in (register_bytes (cell_code cell) word) ∙ laws.reads_are_answered.number cell word accepted)

-- an undisturbed read gives the cell's word
pub read-word : Below → (held : Held) (cell : Cell) → IsCell held.config.count cell → cell_accepts cell (word_at held.words cell) ≡ true →
    fits_layout (cell_read cell) ≡ true →
    good_word held.config.addr cell (answer_in (reply_of held (frame_of held.config.addr (cell_read cell)) Restart)) ≡ Some
    (word_at held.words cell)
read-word laws held (Out output register) there accepted fits =
    let found = laws.reads_are_answered.cell held output (register_code register) (Out output register) _
    (is_request held.config.addr (Out output register) fits) there (laws.registers_are_in_the_table.found register output) in
    ap (λ h. good_word held.config.addr (Out output register) (answer_in h)) found.1
    ∙ answer-word laws held.config.addr (Out output register) (word_at held.words (Out output register)) found.0 accepted found.2
read-word laws held Protect there accepted fits =
    let found = laws.reads_are_answered.protect held _ (is_request held.config.addr Protect fits) in
    ap (λ h. good_word held.config.addr Protect (answer_in h)) found.1
    ∙ answer-word laws held.config.addr Protect (word_at held.words Protect) found.0 accepted found.2

-- What holds of the register of each number holds of any.

-- what holds of the register of each number below their count holds of every register
pub each : (P : Reg → Type 0) → ((number : ℕ) → number < register_count → P (register_at number)) → (register : Reg) → P register
each P holds register =
    subst P (register_at-number register) (holds (register_number register) (register_number-below register))

-- The events of a run, as far as it has come, and how many of them were taken.

-- the first events of a list, newest first
abbrev pub past : ℕ → List Event → List Event
past n events = reverse (take n events)

-- those before a stop are no more than all
taken-few : (events : List Event) (stop : Option WorldStop) → length (taken_events events stop) ≤ length events
taken-few events None = let l = length-reverse events in omega arith
taken-few events (Some stop) =
    let l = length-reverse (take stop.at events) in
    let t = length-take stop.at events in
    omega (arith, t)

-- a run takes no more events than there are
pub run-room : (config : Config) (passes : ℕ) (events : List Event) (stop : Option WorldStop) →
    (now config passes (taken_events events stop)).taken ≤ length events
run-room config passes events stop =
    let all = now-taken config passes (taken_events events stop) in let few = taken-few events stop in omega arith

-- the world that a run gives took as many events as there were
pub run-taken : (config : Config) (passes : ℕ) (events : List Event) (world : State) → world ≡ now config passes events →
    world.taken ≡ length events
run-taken config passes events world is = ap (λ (s : State). s.taken) is ∙ now-taken config passes events
