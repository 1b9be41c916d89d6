-- A scenario as it is read, line by line, and the run of its events.
use Rattle.std.specs.Option.{option_and_then}
use Rattle.std.specs.Int.{int_div_euclid, w64, from_be_bytes, to_be_bytes}
use Rattle.std.specs.Prelude.{IsOk, IsSomeAnd, reverse, slice_get, if◌then◌else◌, bytes_eq, replicate, slice_set, nat_lt, codes}
use Rattle.std.proofs.{lemmas.Bool.Decides.nat_tests, lemmas.Nat.be_bytes_8}
use Rattle.std.proofs.Common.{◌≡◌, ◌∙◌, ◌+◌, ◌<◌, ℕ, true, false, List, [], ◌∷◌, ◌++◌, length, take, Some, None, Result, Ok, Err, refl, sym}
use Rattle.std.proofs.Common.{ap, arith, get_or, subst, append_assoc, append-nil, length-append, ◌^◌, ℤ, pos, ◌*ℤ◌, ◌≤ℤ◌, ◌-◌, ◌≤◌, drop}
use Rattle.std.proofs.Common.{Option, option_map, Bool, zero, suc, length-take-le, inl, inr}
use Rattle.std.proofs.Math.Seq.{get_or-append_seam, take-append_seam}
use Rattle.std.proofs.lemmas.Int.{ints, by_lt_z}
use Rattle.std.proofs.lemmas.List.{length-reverse, reverse-reverse, take_rest, take-replicate, take-append-drop}
use Rattle.std.proofs.lemmas.Option.{slice_get-get_or, slice_get_cases}
use mathlib.Core.List.{reverse-cons}
use Rattle.pm_num.specs.Lemmas.Integers.{lt-times}
use Rattle.pm_num.specs.Ratio.{AtMost, Ratio, micros}
use Rattle.pm_device.specs.{declared.config.Config.Config, declared.output_start.OutputStart.OutputStart}
use Rattle.pm_device.specs.Start.{no_start, IsSound}
use Rattle.pm_host.specs.Refusals.{IsSetup}
use Rattle.pm_setup.specs.declared.setup_fault.SetupFault.{SetupFault}
use Rattle.pm_world.specs.{Laws.LivesAreFollowed, declared.cause.Cause.Cause, declared.cause.Stop.Stop, declared.event.Event.Event}
use Rattle.pm_world.specs.Life.{AreTakenFrom, after_all, AreTaken, StopsAt, StopsFrom, now, taken_events}
use Rattle.pm_world.specs.Setup.{world_fault, setup_of, world_start}
use Rattle.pm_world.specs.State.{IsTaken, State, cause_of, event_limit, next}
use Rattle.pm_world.specs.declared.event.Arrival.TheVariants as arrives
use Rattle.pm_world.specs.declared.event.Back.TheVariants as returns
use Rattle.pm_world.specs.declared.event.Event.TheVariants.{Deliver, Exchange, Finish}
use Rattle.pm_lines.specs.{Pairs.pair_of, Streams.max_text, declared.fault.TextFault.TextFault}
use Rattle.pm_lines.specs.Bytes.{byte_before, word_bytes}
use Rattle.pm_lines.specs.Lines.{Numbered, WordsLeft, lines_of, unskipped_from, words_of}
use Rattle.pm_lines.specs.declared.fault.TextFault.TheVariants.{Syntax as TextFaultSyntax, TooLong, Setup}
use Rattle.pm_trace.specs.Lemmas.Floor.{passed, quotient_is_reached}
use Rattle.pm_text.specs.{declared.form.Form.Form, declared.replays.ReplayEnd.ReplayEnd, declared.runs.Ran.Ran}
use Rattle.pm_text.specs.{declared.scenario.Scenario.Scenario, declared.scenario.fault.ScenarioFault.ScenarioFault}
use Rattle.pm_text.specs.{declared.scenario.fault.ScenarioFault.TheVariants.Syntax, declared.scenario.header.Header.Header}
use Rattle.pm_text.specs.{declared.scenario.starts.Starts.Starts}
use Rattle.pm_text.specs.EventLines.{event_line, arrival, back, deliver_rest, exchange_rest, finish_rest}
use Rattle.pm_text.specs.Kinds.{as_frame, frame_bytes, form_of, version_of}
use Rattle.pm_text.specs.Readers.{line_as, Field, gives, lines_into, made_into, named, one_of, or_fault, read_on, word, Rest, next_row}
use Rattle.pm_text.specs.Replay.{Lives, IsScenarioRun, replay_end_by, ran_by, replay_by, replay_of, run_of, stop_after, taken_by}
use Rattle.pm_text.specs.Replay.{report_and_end, told_or}
use Rattle.pm_text.specs.Report.{floor_micros, report_text}
use Rattle.pm_text.specs.ScenarioText.{event_before, events_in, output_count_of, first_eight, outputs_in, start_before, starts_of}
use Rattle.pm_text.specs.ScenarioText.{as_text_fault}
use Rattle.pm_text.specs.ScenarioText.{header, rest_of, scenario_by, scenario_of, text_fault, with_events}

-- The events of a scenario, one after another.

-- the events that were read, and those of the lines after them
abbrev pub after : List Event → Result (List Event) ScenarioFault → Result (List Event) ScenarioFault
after given (Err first) = Err first
after given (Ok events) = Ok (given ++ events)

-- events before others, the latest first
pub reversed : (event : Event) (events taken : List Event) → reverse (event ∷ events) ++ taken ≡ reverse events ++ event ∷ taken
reversed event events taken =
    ap (λ l. l ++ taken) (reverse-cons event events) ∙ append_assoc (reverse events) (event ∷ []) taken

-- one more event was read
after-more : (event : Event) (before : List Event) (more : Result (List Event) ScenarioFault)
    → after (reverse before) (event_before (Ok event) more) ≡ after (reverse (event ∷ before)) more
after-more event before (Err first) = refl
after-more event before (Ok events) = ap Ok (sym (reversed event before events))

-- a world that takes an event isn't full
pub room-left : (s : State) (event : Event) → IsTaken s event → s.taken < event_limit
unfolding cause_of
room-left s event taken = grind (arith, nat_tests, taken.free)

-- Some of these lines are left, and the events of the others, the latest first, were taken and left this world.
pub record SoFar (form : Form) (lines left : List Numbered) (old now : State) (taken : ℕ) (before : List Event) : Type 0 where
  pub reads : events_in form lines ≡ after (reverse before) (events_in form left)
  pub now_is : now ≡ after_all old before
  pub all : AreTakenFrom old before
  pub counts : taken ≡ length before
  pub room : now.taken ≡ old.taken + taken

module _ (form : Form) (lines left : List Numbered) (old now : State) (taken : ℕ) (before : List Event)
    (so_far : SoFar form lines left old now taken before) where
  -- no line is left
  pub all-lived : left ≡ [] → Lives form lines old (Ok (taken, None)) now
  all-lived none =
      let events = reverse before ++ [] in
      let turned : reverse events ≡ before = ap reverse (append-nil (reverse before)) ∙ reverse-reverse before in (
        events,
        record {
          reads = so_far.reads ∙ ap (λ l. after (reverse before) (events_in form l)) none;
          after = so_far.now_is ∙ ap (after_all old) (sym turned);
          all = subst (AreTakenFrom old) (sym turned) so_far.all;
          stops = tt;
          counts = so_far.counts ∙ sym (ap length (append-nil (reverse before)) ∙ length-reverse before);
        },
      )

  module _ (line : Numbered) (more : List Numbered) (split : left ≡ line ∷ more) where
    -- a faulty line
    pub line-fault : (fault : ScenarioFault) → line_as (event_line form) line ≡ Err fault → events_in form lines ≡ Err fault
    line-fault fault is =
        so_far.reads ∙ ap (λ l. after (reverse before) (events_in form l)) split
        ∙ ap (λ r. after (reverse before) (event_before r (events_in form more))) is

    module _ (event : Event) (read : line_as (event_line form) line ≡ Ok event) where
      -- the events of the line and of those after it
      abbrev rest-reads : events_in form lines ≡ after (reverse (event ∷ before)) (events_in form more)
      rest-reads =
          so_far.reads ∙ ap (λ l. after (reverse before) (events_in form l)) split
          ∙ ap (λ r. after (reverse before) (event_before r (events_in form more))) read
          ∙ after-more event before (events_in form more)

      -- its event was taken
      pub one-more : (new : State) → IsTaken now event → new ≡ next now event
          → SoFar form lines more old new (taken + 1) (event ∷ before)
      unfolding next
      one-more new is after_it = record {
        reads = rest-reads;
        now_is = after_it ∙ ap (λ s. next s event) so_far.now_is;
        all = (subst (λ s. IsTaken s event) so_far.now_is is, so_far.all);
        counts = omega (arith, so_far.counts);
        room = ap (λ (s : State). s.taken) after_it ∙ omega (arith, so_far.room);
      }

      -- a faulty line follows it
      pub later-fault : (fault : ScenarioFault) → events_in form more ≡ Err fault → events_in form lines ≡ Err fault
      later-fault fault is = rest-reads ∙ ap (after (reverse (event ∷ before))) is

      -- its event wasn't taken
      pub stops-there : (why : Cause) → cause_of now event ≡ Some why → IsOk (events_in form more)
          → Lives form lines old (Ok (taken, Some (record { at = taken; cause = why }))) now
      stops-there why cause judged = with_more (events_in form more) judged refl
        where
          with_more : (r : Result (List Event) ScenarioFault) → IsOk r → events_in form more ≡ r
              → Lives form lines old (Ok (taken, Some (record { at = taken; cause = why }))) now
          with_more (Err fault) judged is = let no : false ≡ true = judged in absurd (cc)
          with_more (Ok later) judged is =
              let events = reverse before ++ event ∷ later in
              let at : length (reverse before) ≡ taken = length-reverse before ∙ sym so_far.counts in
              let front : take taken events ≡ reverse before =
              subst (λ n. take n events ≡ reverse before) at (take-append_seam (reverse before) (event ∷ later)) in
              let turned : reverse (take taken events) ≡ before = ap reverse front ∙ reverse-reverse before in
              let within : taken < length events = omega (arith, at, length-append (reverse before) (event ∷ later)) in
              let there : slice_get events taken ≡ Some event =
              slice_get-get_or events taken event within
              ∙ ap Some (subst (λ n. get_or events n event ≡ event) at (get_or-append_seam (reverse before) event later event)) in
              let caused : cause_of (after_all old (reverse (take taken events))) event ≡ Some why =
              ap (λ l. cause_of (after_all old l) event) turned ∙ ap (λ s. cause_of s event) (sym so_far.now_is) ∙ cause in (
                events,
                record {
                  reads = rest-reads ∙ ap (after (reverse (event ∷ before))) is ∙ ap Ok (reversed event before later);
                  after = so_far.now_is ∙ ap (after_all old) (sym turned);
                  all = subst (AreTakenFrom old) (sym turned) so_far.all;
                  stops = subst (λ o. IsSomeAnd o (λ e. cause_of (after_all old (reverse (take taken events))) e ≡ Some why)) (sym there)
                      caused;
                  counts = refl;
                },
              )

-- ---- lines that are only judged

module _ (form : Form) (lines left : List Numbered) (given : List Event)
    (so_far : events_in form lines ≡ after given (events_in form left)) where
  -- no line is left
  pub all-judged : left ≡ [] → IsOk (events_in form lines)
  all-judged none =
      let all : events_in form lines ≡ Ok (given ++ []) = so_far ∙ ap (λ l. after given (events_in form l)) none in
      subst (λ (r : Result (List Event) ScenarioFault). IsOk r) (sym all) refl

  module _ (line : Numbered) (more : List Numbered) (split : left ≡ line ∷ more) where
    -- a faulty line
    pub judged-fault : (fault : ScenarioFault) → line_as (event_line form) line ≡ Err fault → events_in form lines ≡ Err fault
    judged-fault fault is =
        so_far ∙ ap (λ l. after given (events_in form l)) split ∙ ap (λ r. after given (event_before r (events_in form more))) is

    -- an event line
    pub judged-more : (event : Event) → line_as (event_line form) line ≡ Ok event
        → events_in form lines ≡ after (given ++ event ∷ []) (events_in form more)
    judged-more event read =
        so_far ∙ ap (λ l. after given (events_in form l)) split
        ∙ ap (λ r. after given (event_before r (events_in form more))) read ∙ moved (events_in form more)
      where
        moved : (r : Result (List Event) ScenarioFault) → after given (event_before (Ok event) r) ≡ after (given ++ event ∷ []) r
        moved (Err fault) = refl
        moved (Ok events) = ap Ok (sym (append_assoc given (event ∷ []) events))

-- The whole microvolts of a value are the quotient whose remainder isn't negative.

-- the greatest whole microvolts that are not above a value
pub floor-is : (value : Ratio) (k : ℤ) → 0 < value.den → AtMost (micros k) value → ((j : ℤ) → AtMost (micros j) value → j ≤ℤ k)
    → k ≡ floor_micros value
unfolding floor_micros
floor-is value k positive below greatest =
    let a = value.num *ℤ pos (10 ^ 6) in
    let q = int_div_euclid a (pos value.den) in
    let up : q ≤ℤ k = greatest q (quotient_is_reached a value.den positive) in
    let next = passed a value.den positive in
    by_lt_z q k (λ less. let over = lt-times q k value.den less in absurd (omega (arith, ints))) (λ down. omega (arith, ints))

-- The bytes of a frame, pair by pair: those that were read, and the digits that are left.

-- a word of these bytes has a frame if they are 1 to 16
made : (word : List ℕ) (bytes : Option (List ℕ)) → bytes ≡ word_bytes word → option_and_then as_frame bytes ≡ frame_bytes word
made word bytes is = ap (option_and_then as_frame) is

module _ (word digits frame : List ℕ) (all : option_map (λ more. frame ++ more) (word_bytes digits) ≡ word_bytes word) where
  -- the next two digits write no byte
  pub bad_pair : 2 ≤ length digits → pair_of (get_or digits 0 0) (get_or digits 1 0) ≡ None → frame_bytes word ≡ None
  bad_pair two none = sym (made word _ all) ∙ by digits two none
    where
      by : (left : List ℕ) → 2 ≤ length left → pair_of (get_or left 0 0) (get_or left 1 0) ≡ None
          → option_and_then as_frame (option_map (λ more. frame ++ more) (word_bytes left)) ≡ None
      by [] two none = absurd (omega arith)
      by (x ∷ []) two none = absurd (omega arith)
      by (x ∷ y ∷ rest) two none = rw none refl

  -- a byte more than a frame may have
  pub too_many : 2 ≤ length digits → 16 ≤ length frame → frame_bytes word ≡ None
  too_many two full = sym (made word _ all) ∙ by digits two
    where
      long : (bytes : List ℕ) → 1 ≤ length bytes → as_frame (frame ++ bytes) ≡ None
      long bytes some = let more = length-append frame bytes in grind (arith, nat_tests)

      at : (byte : Option ℕ) (rest : Option (List ℕ))
          → option_and_then as_frame (option_map (λ more. frame ++ more) (byte_before byte rest)) ≡ None
      at (Some byte) (Some bytes) = long (byte ∷ bytes) (omega arith)
      at (Some byte) None = refl
      at None rest = refl

      by : (left : List ℕ) → 2 ≤ length left → option_and_then as_frame (option_map (λ more. frame ++ more) (word_bytes left)) ≡ None
      by [] two = absurd (omega arith)
      by (x ∷ []) two = absurd (omega arith)
      by (x ∷ y ∷ rest) two = at (pair_of x y) (word_bytes rest)

  -- the byte of the next two digits
  pub pair_more : (left now : List ℕ) (byte : ℕ) → 2 ≤ length digits → left ≡ take (length digits - 2) (drop 2 digits)
      → pair_of (get_or digits 0 0) (get_or digits 1 0) ≡ Some byte → now ≡ frame ++ byte ∷ []
      → option_map (λ more. now ++ more) (word_bytes left) ≡ word_bytes word
  pair_more left now byte two is pair pushed = rw (pushed, is) (by digits two pair ∙ all)
    where
      at : (rest : Option (List ℕ))
          → option_map (λ more. (frame ++ byte ∷ []) ++ more) rest ≡ option_map (λ more. frame ++ more) (byte_before (Some byte) rest)
      at (Some bytes) = ap Some (append_assoc frame (byte ∷ []) bytes)
      at None = refl

      by : (left : List ℕ) → 2 ≤ length left → pair_of (get_or left 0 0) (get_or left 1 0) ≡ Some byte
          → option_map (λ more. (frame ++ byte ∷ []) ++ more) (word_bytes (take (length left - 2) (drop 2 left)))
          ≡ option_map (λ more. frame ++ more) (word_bytes left)
      by [] two pair = absurd (omega arith)
      by (x ∷ []) two pair = absurd (omega arith)
      by (x ∷ y ∷ rest) two pair = rw (take_rest (x ∷ y ∷ rest) 2, pair) (at (word_bytes rest))

  -- no digit is left
  pub whole : length digits ≡ 0 → 1 ≤ length frame → length frame ≤ 16 → frame_bytes word ≡ Some frame
  whole none some room = sym (made word _ all) ∙ by digits none
    where
      fits : as_frame frame ≡ Some frame
      fits = grind (arith, nat_tests)

      by : (left : List ℕ) → length left ≡ 0 → option_and_then as_frame (option_map (λ more. frame ++ more) (word_bytes left)) ≡ Some frame
      by [] none = ap as_frame (append-nil frame) ∙ fits
      by (x ∷ left) none = absurd (omega arith)

  -- a digit is left, or there was none
  pub unfinished : length digits < 2 → (length digits ≡ 0 → length frame ≡ 0) → frame_bytes word ≡ None
  unfinished few empty = sym (made word _ all) ∙ by digits few empty
    where
      nothing : length frame ≡ 0 → as_frame (frame ++ []) ≡ None
      nothing none = let same = length-append frame [] in grind (arith, nat_tests)

      by : (left : List ℕ) → length left < 2 → (length left ≡ 0 → length frame ≡ 0)
          → option_and_then as_frame (option_map (λ more. frame ++ more) (word_bytes left)) ≡ None
      by [] few empty = nothing (empty refl)
      by (x ∷ []) few empty = refl
      by (x ∷ y ∷ left) few empty = absurd (omega arith)

-- Lines whose readers make something else of what the lines of a list say.

-- such a line stands at the place of the line of its name
named_into : {A B : Type 0} (make : A → B) (lines : List (List ℕ × Field A)) (text : List ℕ) →
    named (lines_into make lines) text ≡ option_map (made_into make) (named lines text)
named_into make [] text = refl
named_into make (line ∷ lines) text = here (bytes_eq text line.0) (named_into make lines text)
  where
    here : (b : Bool) → named (lines_into make lines) text ≡ option_map (made_into make) (named lines text) →
        (if b then Some (made_into make line.1) else named (lines_into make lines) text)
        ≡ option_map (made_into make) (if b then Some line.1 else named lines text)
    here true rest = refl
    here false rest = rest

-- such a line reads what the line of its name reads
pub made_of_one : {A B : Type 0} (make : A → B) (lines : List (List ℕ × Field A)) (left : WordsLeft) →
    one_of (lines_into make lines) left ≡ made_into make (one_of lines) left
made_of_one {A} {B} make lines left = at (word left)
  where
    chosen : (reader : Option (Field A)) (left : WordsLeft) →
        read_on (or_fault (option_map (made_into make) reader) (Syntax left.line) left) (λ read. read)
        ≡ read_on (read_on (or_fault reader (Syntax left.line) left) (λ read. read)) (λ x. gives (make x))
    chosen None left = refl
    chosen (Some reader) left = refl

    at : (first : Result (List ℕ × WordsLeft) ScenarioFault) →
        read_on (read_on first (λ text. λ left. or_fault (named (lines_into make lines) text) (Syntax left.line) left))
        (λ read. read)
        ≡ read_on (read_on (read_on first (λ text. λ left. or_fault (named lines text) (Syntax left.line) left))
        (λ read. read)) (λ x. gives (make x))
    at (Err fault) = refl
    at (Ok got) =
        ap (λ (reader : Option (Field B)). read_on (or_fault reader (Syntax got.1.line) got.1) (λ read. read))
        (named_into make lines got.0)
        ∙ chosen (named lines got.0) got.1

-- The outputs of a scenario, one after another.

-- one more of a list that is kept up to a length, with others after it
kept-push : {A : Type 0} (k m : ℕ) (xs : List A) (x y : A) → k ≤ length xs + m
    → slice_set (take k (xs ++ replicate m y)) (length xs) x ≡ take k ((xs ++ x ∷ []) ++ replicate m y)
kept-push zero m xs x y room = refl
kept-push (suc k) zero [] x y room = absurd (omega arith)
kept-push (suc k) (suc m) [] x y room =
    ap (λ ys. x ∷ ys) (take-replicate k m y (omega arith) ∙ sym (take-replicate k (suc m) y (omega arith)))
kept-push (suc k) m (z ∷ xs) x y room = ap (λ ys. z ∷ ys) (kept-push k m xs x y (omega arith))

-- one output more, of which the first eight are kept
pub first_eight-push : (given : List OutputStart) (start : OutputStart)
    → slice_set (first_eight given) (length given) start ≡ first_eight (given ++ start ∷ [])
first_eight-push given start = kept-push 8 8 given start no_start (omega arith)

-- eight are kept
pub length-first_eight : (given : List OutputStart) → length (first_eight given) ≡ 8
length-first_eight given = length-take-le 8 (given ++ replicate 8 no_start) (omega (arith, length-append given (replicate 8 no_start)))

-- what is kept of outputs is made of its parts
pub starts-made : (count : ℕ) (starts given : List OutputStart) → count ≡ output_count_of given → starts ≡ first_eight given
    → (let made : Starts = record { count = count; starts = starts } in made ≡ starts_of given)
starts-made count starts given counts firsts = rw (counts, firsts) refl

-- the outputs that were read, and those of the lines after them
abbrev pub behind : List OutputStart → Result (List OutputStart × Rest) ScenarioFault → Result (List OutputStart × Rest) ScenarioFault
behind given (Err first) = Err first
behind given (Ok got) = Ok (given ++ got.0, got.1)

-- one output more
behind-push : (given : List OutputStart) (start : OutputStart) (more : Result (List OutputStart × Rest) ScenarioFault) (rest : Rest)
    → behind given (start_before (Ok (Some start)) more rest) ≡ behind (given ++ start ∷ []) more
behind-push given start (Err first) rest = refl
behind-push given start (Ok got) rest = ap (λ starts. Ok (starts, got.1)) (sym (append_assoc given (start ∷ []) got.0))

module _ (output : Field (Option OutputStart)) (given : List OutputStart) (rest next : Rest) (line : Numbered)
    (split : rest.lines ≡ line ∷ next.lines) (same : next.count ≡ rest.count) where
  -- a line that is an output
  pub behind-output : (start : OutputStart) → line_as output line ≡ Ok (Some start)
      → behind given (outputs_in output rest.count rest.lines)
      ≡ behind (given ++ start ∷ []) (outputs_in output next.count next.lines)
  behind-output start read =
      rw (← same, split, read) (behind-push given start (outputs_in output next.count next.lines) next)

  -- the line `begin`
  pub behind-begin : line_as output line ≡ Ok None → behind given (outputs_in output rest.count rest.lines) ≡ Ok (given, next)
  behind-begin read = rw (← same, split, read) (ap (λ starts. Ok (starts, next)) (append-nil given))

  -- a faulty line
  pub behind-fault : (fault : ScenarioFault) → line_as output line ≡ Err fault
      → behind given (outputs_in output rest.count rest.lines) ≡ Err fault
  behind-fault fault read = rw (split, read) refl

-- What a scenario that was read, and the run of its events, come to.

-- ---- where a run stops

module _ (config : Config) (passes : ℕ) where
  -- what has a cause against an event after these
  abbrev cause : List Event → Event → Option Cause
  cause taken event = cause_of (now config passes taken) event

  -- nothing is against an event that was taken, whatever was taken later
  taken-free : (later : List Event) (event : Event) (before : List Event) → AreTaken config passes (later ++ event ∷ before)
      → cause before event ≡ None
  taken-free [] event before taken = taken.0.free
  taken-free (x ∷ later) event before taken = taken-free later event before taken.1

  -- all events were taken
  stop-none : (events taken : List Event) → AreTaken config passes (reverse events ++ taken) → stop_after config passes taken events ≡ None
  stop-none [] taken are = refl
  stop-none (event ∷ events) taken are =
      let more : AreTaken config passes (reverse events ++ event ∷ taken) =
      subst (AreTaken config passes) (reversed event events taken) are in
      rw (taken-free (reverse events) event taken more) (stop-none events (event ∷ taken) more)

  -- the events before a place were taken, and the one there has a cause against it
  stop-some : (events taken : List Event) (at : ℕ) (why : Cause) → AreTaken config passes (reverse (take at events) ++ taken)
      → IsSomeAnd (slice_get events at) (λ event. cause (reverse (take at events) ++ taken) event ≡ Some why)
      → stop_after config passes taken events ≡ Some (record { at = length taken + at; cause = why })
  stop-some [] taken at why are stops = absurd stops
  stop-some (event ∷ events) taken zero why are stops = rw stops (ap (λ n. Some (record { at = n; cause = why })) (omega arith))
  stop-some (event ∷ events) taken (suc at) why are stops =
      let same = reversed event (take at events) taken in
      let more : AreTaken config passes (reverse (take at events) ++ event ∷ taken) = subst (AreTaken config passes) same are in
      let there : IsSomeAnd (slice_get events at) (λ e. cause (reverse (take at events) ++ event ∷ taken) e ≡ Some why) =
      subst (λ before. IsSomeAnd (slice_get events at) (λ e. cause before e ≡ Some why)) same stops in
      rw (taken-free (reverse (take at events)) event taken more)
      (stop-some events (event ∷ taken) at why more there ∙ ap (λ n. Some (record { at = n; cause = why })) (omega arith))

-- a run has one stop
stop-is : (config : Config) (passes : ℕ) (events : List Event) (stop : Option Stop) → AreTaken config passes (taken_events events stop)
    → StopsAt config passes events stop → stop_after config passes [] events ≡ stop
stop-is config passes events None are stops =
    stop-none config passes events [] (subst (AreTaken config passes) (sym (append-nil (reverse events))) are)
stop-is config passes events (Some stop) are stops =
    let before = reverse (take stop.at events) in
    let all : before ≡ before ++ [] = sym (append-nil before) in
    stop-some config passes events [] stop.at stop.cause (subst (AreTaken config passes) all are)
    (subst (λ taken. IsSomeAnd (slice_get events stop.at) (λ e. cause_of (now config passes taken) e ≡ Some stop.cause)) all stops)
    ∙ ap (λ n. Some (record { at = n; cause = stop.cause })) (omega arith)

-- there is an element at a place
within : {A : Type 0} (P : A → Type 0) (xs : List A) (at : ℕ) → IsSomeAnd (slice_get xs at) P → at < length xs
within P xs at h = elim (slice_get_cases xs at).1 [
  | inl found ↦ found.1
  | inr past ↦ absurd (subst (λ o. IsSomeAnd o P) past.1 h)
]

-- how many events were taken
taken-length : (config : Config) (passes : ℕ) (events : List Event) (stop : Option Stop) → StopsAt config passes events stop
    → taken_by stop (length events) ≡ length (taken_events events stop)
taken-length config passes events None stops = sym (length-reverse events)
taken-length config passes events (Some stop) stops =
    let there : stop.at < length events = within _ events stop.at stops in
    sym (length-reverse (take stop.at events) ∙ length-take-le stop.at events (omega (arith, there)))

-- a run from the start stops at an event that has the cause against it in the world that the events before it left
stops-at : (config : Config) (passes : ℕ) (events : List Event) (stop : Option Stop)
    → now config passes (taken_events events stop) ≡ after_all (world_start config passes) (taken_events events stop)
    → StopsFrom (world_start config passes) events stop → StopsAt config passes events stop
stops-at config passes events None same stops = tt
stops-at config passes events (Some stop) same stops =
    subst (λ s. IsSomeAnd (slice_get events stop.at) (λ event. cause_of s event ≡ Some stop.cause)) (sym same) stops

-- what a run of these events left is the run of the scenario that has them
run-is : (scenario : Scenario) (ran : Ran) (events : List Event)
    → (ran.version ≡ scenario.version) × (events ≡ scenario.events)
    → AreTaken scenario.config scenario.passes (taken_events events ran.stop) → StopsAt scenario.config scenario.passes events ran.stop
    → ran.world ≡ now scenario.config scenario.passes (taken_events events ran.stop)
    → ran.taken ≡ taken_by ran.stop (length events) → ran ≡ run_of scenario
unfolding run_of
run-is scenario ran events same are stops world taken =
    let c = scenario.config in
    let p = scenario.passes in
    let counted = taken ∙ taken-length c p events ran.stop stops in
    let v = scenario.version in
    let made : ran ≡ ran_by v c p events ran.stop =
    λ i. record { version = same.0 i; world = world i; taken = counted i; stop = ran.stop } in
    made ∙ ap (ran_by v c p events) (sym (stop-is c p events ran.stop are stops))
    ∙ ap (λ es. ran_by v c p es (stop_after c p [] es)) same.1

-- ---- a text that is run as it is read

-- a text that isn't too long is read line by line
fits-by : (input : List ℕ) → length input ≤ max_text → scenario_of input ≡ as_text_fault (scenario_by (header (rest_of input)))
unfolding scenario_of
fits-by input fits = pick (nat_lt max_text (length input)) (grind (arith, nat_tests))
  where
    pick : (b : Bool) → b ≡ false → (if b then Err TooLong else as_text_fault (scenario_by (header (rest_of input))))
        ≡ as_text_fault (scenario_by (header (rest_of input)))
    pick true is = absurd (cc)
    pick false is = refl

module _ (input : List ℕ) (fits : length input ≤ max_text) where
  -- a fault of the lines before the events
  pub header-refused : (fault : ScenarioFault) → header (rest_of input) ≡ Err fault → replay_of input ≡ Err (text_fault fault)
  unfolding replay_of
  header-refused fault is = ap replay_by (fits-by input fits ∙ ap (λ r. as_text_fault (scenario_by r)) is)

  module _ (head : Header) (rest : Rest) (read : header (rest_of input) ≡ Ok (head, rest)) where
    -- the scenario of the lines after them, or their first fault
    scenario-read : (events : Result (List Event) ScenarioFault) → events_in head.form rest.lines ≡ events
        → scenario_of input ≡ as_text_fault (with_events head events)
    scenario-read events is =
        fits-by input fits ∙ ap (λ r. as_text_fault (scenario_by r)) read ∙ ap (λ r. as_text_fault (with_events head r)) is

    -- a fault of the lines after them
    pub lines-refused : (fault : ScenarioFault) → events_in head.form rest.lines ≡ Err fault → replay_of input ≡ Err (text_fault fault)
    unfolding replay_of
    lines-refused fault is = ap replay_by (scenario-read (Err fault) is)

    -- lines without a fault, of which no world is made
    pub setup-refused : (fault : SetupFault) → IsOk (events_in head.form rest.lines) → Some fault ≡ world_fault head.config head.passes
        → replay_of input ≡ Err (Setup fault)
    unfolding replay_of
    setup-refused fault judged refused = with_events_of (events_in head.form rest.lines) judged refl
      where
        with_events_of : (r : Result (List Event) ScenarioFault) → IsOk r → events_in head.form rest.lines ≡ r
            → replay_of input ≡ Err (Setup fault)
        with_events_of (Err first) judged is = let no : false ≡ true = judged in absurd (cc)
        with_events_of (Ok events) judged is =
            let scenario : Scenario =
            record { version = version_of head.form; config = head.config; passes = head.passes; events = events } in
            ap replay_by (scenario-read (Ok events) is) ∙ ap (λ o. told_or o scenario) (sym refused)

    -- the run of lines whose events came upon the world that they start
    pub run-lived : (law : LivesAreFollowed) (taken : ℕ) (stop : Option Stop) (world : State)
        → IsSound head.config → IsSetup (setup_of head.config head.passes) → None ≡ world_fault head.config head.passes
        → Lives head.form rest.lines (world_start head.config head.passes) (Ok (taken, stop)) world
        → IsScenarioRun input (record { version = version_of head.form; world = world; taken = taken; stop = stop })
    run-lived law taken stop world sound made unrefused lived =
        let c = head.config in
        let p = head.passes in
        let events = lived.0 in
        let has = lived.1 in
        let scenario : Scenario = record { version = version_of head.form; config = c; passes = p; events = events } in
        let ran : Ran = record { version = version_of head.form; world = world; taken = taken; stop = stop } in
        let followed = law.from_start c p (taken_events events stop) sound made has.all in (
          scenario,
          scenario-read (Ok events) has.reads,
          sym unrefused,
          run-is scenario ran events (refl, refl) followed.0 (stops-at c p events stop followed.1 has.stops)
              (has.after ∙ sym followed.1) has.counts,
        )

-- ---- the replay of a text

-- a scenario that was read and run, and the report of its run
pub record IsTold (input text : List ℕ) (end : ReplayEnd) (scenario : Scenario) (ran : Ran) : Type 0 where
  pub reads : scenario_of input ≡ Ok scenario
  pub made : None ≡ world_fault scenario.config scenario.passes
  pub runs : ran ≡ run_of scenario
  pub text_is : text ≡ report_text (form_of ran.version) ran.world ran.taken ran.stop
  pub end_is : end ≡ replay_end_by ran.stop

-- which is the input's replay
pub replay-told : (input text : List ℕ) (end : ReplayEnd) (scenario : Scenario) (ran : Ran) → IsTold input text end scenario ran
    → replay_of input ≡ Ok (text, end)
unfolding replay_of
replay-told input text end scenario ran is =
    let all : Ok (report_and_end ran) ≡ Ok (text, end) = λ i. Ok (sym is.text_is i, sym is.end_is i) in
    ap replay_by is.reads ∙ ap (λ o. told_or o scenario) (sym is.made) ∙ ap (λ r. Ok (report_and_end r)) (sym is.runs) ∙ all

-- ---- texts and faults

-- no fault is a scenario
no_error : (scenario : Scenario) → ◌≡◌ {A = Result Scenario TextFault} (Err (TextFaultSyntax 1)) (Ok scenario) → ⊥
no_error scenario is = cc

-- a text with a scenario isn't empty
pub read-some : (text : List ℕ) (scenario : Scenario) → scenario_of text ≡ Ok scenario → 0 < length text
unfolding scenario_of next_row unskipped_from lines_of
read-some [] scenario is = absurd (no_error scenario is)
read-some (byte ∷ text) scenario is = omega arith

-- Lines that are compared as numbers of eight bytes, and what they say.

-- the first numbers of a list of bytes are bytes
take-bytes : (k : ℕ) (bytes : List ℕ) → ((i : ℕ) → get_or bytes i 0 < 256) → (i : ℕ) → get_or (take k bytes) i 0 < 256
take-bytes zero bytes all zero = omega arith
take-bytes zero bytes all (suc i) = omega arith
take-bytes (suc k) [] all i = all i
take-bytes (suc k) (byte ∷ bytes) all zero = all 0
take-bytes (suc k) (byte ∷ bytes) all (suc i) = take-bytes k bytes (λ j. all (suc j)) i

-- a text that begins with the eight bytes of a number
pub eight-are : (text first rest : List ℕ) (read number : ℕ) → 8 ≤ length text → first ≡ take 8 text → rest ≡ drop 8 text
    → ((i : ℕ) → get_or text i 0 < 256) → read ≡ from_be_bytes w64 first → read ≡ number → text ≡ to_be_bytes w64 number ++ rest
eight-are text first rest read number long front behind bytes is same =
    let eight : length first ≡ 8 = ap length front ∙ length-take-le 8 text long in
    let each : (i : ℕ) → get_or first i 0 < 256 =
    subst (λ (l : List ℕ). (i : ℕ) → get_or l i 0 < 256) (sym front) (take-bytes 8 text bytes) in
    sym (take-append-drop 8 text)
    ∙ ap (λ l. l ++ drop 8 text) (sym front ∙ sym (be_bytes_8 first read eight each is) ∙ ap (to_be_bytes w64) same)
    ∙ ap (λ l. to_be_bytes w64 number ++ l) (sym behind)

module _ (form : Form) (number : ℕ) where
  pub deliver-reads : line_as (event_line form) (number, codes "deliver whole") ≡ Ok (Deliver arrives.Whole)
  unfolding event_line deliver_rest arrival word words_of
  deliver-reads = refl

  pub finish-reads : line_as (event_line form) (number, codes "finish ack") ≡ Ok (Finish true)
  unfolding event_line finish_rest word words_of
  finish-reads = refl

  pub exchange-reads : line_as (event_line form) (number, codes "exchange whole whole") ≡ Ok (Exchange arrives.Whole returns.Whole)
  unfolding event_line exchange_rest arrival back word words_of
  exchange-reads = refl
