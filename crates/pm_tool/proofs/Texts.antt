-- What the program writes of a text, how it ends, and what it says of what is refused.
use Rattle.std.specs.{Prelude.decimal, declared.io.ErrorKind.ErrorKind as IoKind}
use Rattle.std.specs.{declared.io.ErrorKind.TheVariants.OutOfMemory as ErrorKindOutOfMemory}
use Rattle.std.specs.Io.KnownBytes.{Appends, Keeps}
use Rattle.std.specs.List.{before_first, list_any, position_or_len}
use Rattle.std.proofs.{KnownBytes.Appends-kept, lemmas.Int.ints}
use Rattle.std.proofs.Common.{◌≡◌, ◌≢◌, ◌↔◌, ◌⊎◌, ℕ, List, [], Option, Some, None, Result, Ok, Err, IsTrue, IsFalse, refl, sym, subst, inl}
use Rattle.std.proofs.Common.{inr, append-nil, codes, arith, ◌∙◌, ap, ◌^◌, ◌<◌, ◌≤◌, ℤ, pos, ◌*ℤ◌, IsOk, IfErr, unsigned_abs, ◌∷◌, ◌++◌}
use Rattle.std.proofs.Common.{length, append_assoc, ◌+◌, ◌||◌, Bool, true, false, cond, not, suc, take, true≢false, ◌≤ℤ◌, OnOk, OnErr}
use Rattle.std.proofs.Common.{is_err}
use Rattle.clap.specs.{Words.Text, declared.error.kind.ErrorKind.ErrorKind, declared.error.kind.ErrorKind.TheVariants.OutOfMemory}
use Rattle.clap.specs.Kinds.{IsAmong, Kinds}
use Rattle.pm_num.specs.{Formats.IsDecimal, Lemmas.Slope.direct-one_word, Lemmas.Spelling.linear11-one_word}
use Rattle.pm_num.specs.{Lemmas.Unsigned.ulinear16-one_word, Nearest.IsOutside, declared.fault.NumFault.NumFault}
use Rattle.pm_num.specs.Lemmas.Integers.{le-times, lt-times, times-swap}
use Rattle.pm_num.specs.Lemmas.OneWord.{IsOneWord, one_from_nearest}
use Rattle.pm_num.specs.Ratio.{AtMost, IsBetween, LessThan, Ratio, micros}
use Rattle.pm_num.specs.declared.fault.NumFault.TheVariants.{ZeroSlope, ExponentRange, BelowLeast, AboveGreatest, TooLarge}
use Rattle.pm_device.specs.{Effect.Event, Held.Held as DeviceHeld}
use Rattle.pm_device.specs.History.{device_next, start_of}
use Rattle.pm_limits.specs.declared.part_registers.PartRegisters.{PartRegisters}
use Rattle.pm_setup.specs.declared.setup_fault.SetupFault.{SetupFault}
use Rattle.pm_lines.specs.{Faults.fault_words, Lemmas.Engines.read_so_far, declared.fault.TextFault.TextFault}
use Rattle.pm_lines.specs.Engine.{Engine, EngineEnds, IsLeft, Refuses, over, IsTold}
use Rattle.pm_lines.specs.Lines.{Numbered, lines_of, unskipped_from}
use Rattle.pm_lines.specs.Streams.{AppendsFront, Held}
use Rattle.pm_lines.specs.declared.fault.TextFault.TheVariants.{Syntax, BadHex, TooLong, Read, Write, Memory, Setup}
use Rattle.pm_trace.specs.{Outcome.decoding, declared.decode_end.DecodeEnd.DecodeEnd}
use Rattle.pm_trace.specs.declared.decode_end.DecodeEnd.TheVariants.{Clean, BadLines}
use Rattle.pm_decode.specs.{declared.hints.Hint.Hint, declared.options.TellOptions.TellOptions, declared.telling.TellEnd.TellEnd}
use Rattle.pm_decode.specs.CaptureText.{capture_end, capture_text}
use Rattle.pm_decode.specs.Capturing.{most_bytes, said_text}
use Rattle.pm_decode.specs.LongEngine.{Breaks, LongEnds}
use Rattle.pm_text.specs.{Base.base, Replay.replaying, declared.replays.ReplayEnd.ReplayEnd}
use Rattle.pm_text.specs.declared.replays.ReplayEnd.TheVariants.{Ran as AllTaken, Stopped}
use Rattle.pm_log.specs.{declared.checking.LogEnd.LogEnd, declared.lacks.Lacks.Lacks}
use Rattle.pm_log.specs.Texts.{LogEnds, log_text}
use Rattle.pm_log.specs.declared.checking.LogEnd.TheVariants.{Accepted as LogAccepted, Refused as LogRefused}
use Rattle.pm_tool.specs.{Outcome.hear_engine, Telling.tell_fault_status, declared.commandline.choice.Chosen.Chosen}
use Rattle.pm_tool.specs.{declared.commandline.tell_fault.TellFault.TellFault, declared.numbers.answer.Answer.Answer}
use Rattle.pm_tool.specs.{declared.numbers.fault.NumberFault.NumberFault, declared.numbers.question.Asked.Asked}
use Rattle.pm_tool.specs.{declared.numbers.question.FormatText.FormatText, declared.numbers.question.Question.Question}
use Rattle.pm_tool.specs.{declared.text_commands.TextCommand.TextCommand, declared.text_commands.Unwritten.TheVariants.TooLong as OverLong}
use Rattle.pm_tool.specs.{declared.text_commands.Unwritten.Unwritten, declared.text_commands.Written.Written}
use Rattle.pm_tool.specs.Execution.{End, EngineRuns, Printed, Prints, Hinted, CutShort, Refused, Broken, Misused, NumberEnds, NumberRefuses}
use Rattle.pm_tool.specs.Execution.{Runs, UsageEnds, said_to_errors, status_of, IsDone, IsEnd, ParserEnds, WordsEnd, refusal_line}
use Rattle.pm_tool.specs.Execution.{wants_memory}
use Rattle.pm_tool.specs.Execution.{CheckRuns, log_status, IsToldDone, SaysAny, TellRuns, TellsWhole, decode_status, reader_run, run_end_as}
use Rattle.pm_tool.specs.Execution.{untold, unwritten_words, CheckEnds, CommandRuns, AskedEnds, ChoiceEnds, RunEnds, replay_status}
use Rattle.pm_tool.specs.NumberFaults.{refusal_status, number_refusal_words}
use Rattle.pm_tool.specs.NumberText.{IsCommandLineFault, IsNumberText, IsOfNumber, RefusesNumber, RefusesValue, IsAnswer, IsFloorMicro}
use Rattle.pm_tool.specs.NumberText.{IsFormat, IsAskedWord, number_line_of, rank_in, value_in, Refuses as NumberTextRefuses, RefusesFormat}
use Rattle.pm_tool.specs.NumberText.{greatest_in, least_in}
use Rattle.pm_tool.specs.Refusals.{Says, text_refusal, program_line, no_words_status}
use Rattle.pm_tool.specs.Script.{as_line, event_lines, event_words, events_of_lines, heard_text, converter_after, joined_events, line_event}
use Rattle.pm_tool.specs.Script.{output_word_lines, printed_text, text_by}
use Rattle.pm_tool.specs.declared.commandline.choice.Chosen.TheVariants.{Hear, Replay, Decode, Tell, Check, Number as NumberChosen}
use Rattle.pm_tool.specs.declared.commandline.tell_fault.TellFault.TheVariants.{VoutAlone, Vout, ReadingsAlone, Readings, GapAlone, Gap}
use Rattle.pm_tool.specs.declared.commandline.tell_fault.TellFault.TheVariants.{Part, Mux}
use Rattle.pm_tool.specs.declared.numbers.fault.NumberFault.TheVariants.{OneOf, Format, Word, Micro, Num, Text as OfText}
use Rattle.pm_tool.specs.declared.numbers.question.Asked.TheVariants.{Nearest, Word as AskedWord}
use Rattle.pm_tool.specs.declared.numbers.question.FormatText.TheVariants.{Linear11, Ulinear16, Direct}
use Rattle.pm_tool.specs.declared.text_commands.TextCommand.TheVariants as command

-- What the program writes of a text, and how it ends.

-- How a run ends, by what its calls did.

module _ {E : Type 0} (err : E → Option (List ℕ)) where
  -- what was said is what was to be said
  pub said_as : (errors errors' : Held E) (words other : List ℕ) → words ≡ other
      → Says err errors errors' (refusal_line words) → Says err errors errors' (refusal_line other)
  said_as errors errors' words other same said = subst (λ w. Says err errors errors' (refusal_line w)) same said

-- ---- a run's streams

-- the two writers of a run, before it and after it
pub record Writers (W E : Type 0) : Type 0 where
  pub out : W → Option (List ℕ)
  pub err : E → Option (List ℕ)
  pub output : Held W
  pub output' : Held W
  pub errors : Held E
  pub errors' : Held E

-- what they got, and the status, are those of an end
abbrev pub Ends : {W E : Type 0} → Writers W E → ℕ → End → Type 0
Ends w status end = IsEnd w.out w.err w.output w.output' w.errors w.errors' status end

-- a text that was written, and then handed on or not
pub record Wrote {W E : Type 0} (w : Writers W E) (wanted status : ℕ) (text : List ℕ) : Type 0 where
  pub mid : Held W
  pub written : Appends (w.out w.output.inner) (w.out mid.inner) text
  pub kept : Keeps (w.out mid.inner) (w.out w.output'.inner)
  pub done : IsDone w.err w.output' w.errors w.errors' wanted status

module _ {W E : Type 0} (w : Writers W E) where
  -- a text that was written is printed, or cut short if it wasn't handed on
  pub ended : (wanted status : ℕ) (text : List ℕ) → Wrote w wanted status text
      → Ends w status (Printed wanted text) ⊎ Ends w status (CutShort text)
  ended wanted status text wrote = by wrote.done
    where
      all : Appends (w.out w.output.inner) (w.out w.output'.inner) text
      all = Appends-kept _ _ _ text wrote.written wrote.kept

      by : IsDone w.err w.output' w.errors w.errors' wanted status → Ends w status (Printed wanted text) ⊎ Ends w status (CutShort text)
      by (inl done) = inl (record { status_is = done.1; printed = (done.0, all); said = done.2 })
      by (inr failed) =
          inr (record { status_is = failed.1; printed = (failed.0, (text, [], sym (append-nil text), all)); said = failed.2 })

  -- a text was cut short as it was written
  pub cut : (text : List ℕ) → IsTrue w.output'.failed → AppendsFront (w.out w.output.inner) (w.out w.output'.inner) text
      → Says w.err w.errors w.errors' (refusal_line (codes "X5 Write")) → Ends w 1 (CutShort text)
  cut text failed short said =
      let (front, rest, split, some, appended) = short in
      record { status_is = refl; printed = (failed, (front, rest, split, appended)); said = said }

  -- nothing was printed, and a refusal said
  pub refused : (status : ℕ) (words : List ℕ) → w.output' ≡ w.output
      → Says w.err w.errors w.errors' (refusal_line words) → Ends w status (Refused status words)
  refused status words same said = record { status_is = refl; printed = same; said = said }

  -- ---- `number`

  module _ (asked : Result Question NumberFault) where
    -- `number` wrote its line
    pub numbered : (status : ℕ) (text : List ℕ) → IsNumberText asked text → Wrote w 0 status text
        → (end : End) × NumberEnds asked end × Ends w status end
    numbered status text is wrote =
        elim (ended 0 status text wrote) [
          | inl e ↦ (Printed 0 text, (refl, is), e)
          | inr e ↦ (CutShort text, is, e)
        ]

    -- what holds if `number` refuses
    pub record NumberRefusal (fault : NumberFault) : Type 0 where
      pub line : (f : NumberFault) → IsCommandLineFault f → fault ≡ f → asked ≡ Err f
      pub num : (f : NumFault) → fault ≡ Num f → RefusesNumber asked f
      pub write : fault ≡ OfText Write → IsTrue w.output'.failed
      pub short : fault ≡ OfText Write → (text : List ℕ) × IsNumberText asked text
          × AppendsFront (w.out w.output.inner) (w.out w.output'.inner) text
      pub memory : fault ≡ OfText Memory → (text : List ℕ) × IsNumberText asked text
      pub of : IsOfNumber fault
      pub unwritten : fault ≢ OfText Write → w.output' ≡ w.output
      pub said : Says w.err w.errors w.errors' (refusal_line (number_refusal_words fault))

    -- any refusal of `number` but its writer's is said, and nothing printed
    refused_as : (fault : NumberFault) → NumberRefusal fault → fault ≢ OfText Write → NumberRefuses asked fault
        → (end : End) × NumberEnds asked end × Ends w (refusal_status fault) end
    refused_as fault is other why =
        (Refused (refusal_status fault) (number_refusal_words fault), (fault, refl, refl, why), refused _ _ (is.unwritten other) is.said)

    -- each refusal of `number` is said; the line was cut short if the writer failed
    pub number_refused : (fault : NumberFault) → NumberRefusal fault
        → (end : End) × NumberEnds asked end × Ends w (refusal_status fault) end
    number_refused OneOf is = refused_as OneOf is (λ e. cc) (is.line OneOf tt refl)
    number_refused Format is = refused_as Format is (λ e. cc) (is.line Format tt refl)
    number_refused Word is = refused_as Word is (λ e. cc) (is.line Word tt refl)
    number_refused Micro is = refused_as Micro is (λ e. cc) (is.line Micro tt refl)
    number_refused (Num f) is = refused_as (Num f) is (λ e. cc) (is.num f refl)
    number_refused (OfText Write) is =
        let (text, asks, front) = is.short refl in
        (CutShort text, asks, cut text (is.write refl) front is.said)
    number_refused (OfText Memory) is = refused_as (OfText Memory) is (λ e. cc) (is.memory refl)
    number_refused (OfText (Syntax n)) is = absurd is.of
    number_refused (OfText (BadHex n)) is = absurd is.of
    number_refused (OfText TooLong) is = absurd is.of
    number_refused (OfText Read) is = absurd is.of
    number_refused (OfText (Setup reason)) is = absurd is.of

-- ---- an engine

-- a refusal that is said so ends like this, of which standard error doesn't know yet
abbrev pub Refuses-as : {W : Type 0} → (End → Type 0) → (W → Option (List ℕ)) → Held W → Held W → List ℕ → Type 0
Refuses-as ends contents old new words = (end : End) × ends end × (status_of end ≡ 1) × Prints contents old new end
    × (said_to_errors end ≡ Some (refusal_line words))

module _ {R W T : Type 0} (engine : Engine T) (status_in : T → ℕ) (remaining : R → Option (List ℕ)) (old new : Held R)
    (contents : W → Option (List ℕ)) (output output' : Held W) where
  -- it wrote its text
  pub engine_wrote : (end : T) (status : ℕ) → status ≡ status_in end
      → EngineEnds engine (over remaining old new contents output output') (Ok end)
      → Runs (EngineRuns engine status_in remaining old new) contents output output' (Ok (record { status = status; hint = None }))
  engine_wrote end status same (read, sound, text, made, written) =
      (sound, text, written, (read, end, same, made), (read_so_far _ _ new.failed engine.early text read, inr (end, made)))

  -- what was shown until then
  broken : (fault : TextFault) → IsFalse output'.failed → IsTrue new.failed ↔ (fault ≡ Read) → (front : List ℕ)
      → Refuses engine (remaining old.inner) (remaining new.inner) fault front
      → (early : Option (List ℕ → List ℕ)) → engine.early ≡ early
      → IsLeft engine (over remaining old new contents output output') early fault front
      → Refuses-as (EngineRuns engine status_in remaining old new) contents output output' (text_refusal fault)
  broken fault sound failed front why None none same =
      (Refused 1 (text_refusal fault), (refl, none, fault, refl, failed, front, why), refl, same, refl)
  broken fault sound failed front why (Some early) is (text, told, written) =
      (Broken text (text_refusal fault), (early, is, fault, refl, failed, front, why, told), refl, (sound, written), refl)

  -- it refused, or its text was cut short since the writer failed
  pub engine_refused : (fault : TextFault) → EngineEnds engine (over remaining old new contents output output') (Err fault)
      → Refuses-as (EngineRuns engine status_in remaining old new) contents output output' (text_refusal fault)
  engine_refused Write (failed, text, read, under_way, (front, rest, split, some, appended)) =
      (CutShort text, (read, under_way), refl, (failed, (front, rest, split, appended)), refl)
  engine_refused (Syntax line) (sound, failed, front, why, left) = broken _ sound failed front why engine.early refl left
  engine_refused (BadHex line) (sound, failed, front, why, left) = broken _ sound failed front why engine.early refl left
  engine_refused (Setup reason) (sound, failed, front, why, left) = broken _ sound failed front why engine.early refl left
  engine_refused TooLong (sound, failed, front, why, left) = broken TooLong sound failed front why engine.early refl left
  engine_refused Read (sound, failed, front, why, left) = broken Read sound failed front why engine.early refl left
  engine_refused Memory (sound, failed, front, why, left) = broken Memory sound failed front why engine.early refl left

-- ---- the parser's faults

-- the parser's refusal is of a kind that it names, or is want of memory
pub usage_ends : {R : Type 0} (input : Held R) (faults : Kinds) (kind : ErrorKind) (end : End)
    → (kind ≡ OutOfMemory) ⊎ IsAmong kind faults → UsageEnds kind end ⊎ (end ≡ wants_memory)
    → ParserEnds input input faults end
usage_ends input faults kind end (inr among) (inl usage) = inl (refl, kind, among, usage)
usage_ends input faults kind end (inl memory) (inl usage) = absurd (none end (subst (λ k. UsageEnds k end) memory usage))
  where
    none : (end : End) → UsageEnds OutOfMemory end → ⊥
    none (Printed status text) h = let e : ◌≡◌ {A = ℕ} 1 0 = h.1 in omega arith
    none (Hinted status text words) h = h
    none (CutShort text) h = let e : ◌≡◌ {A = ℕ} 1 0 = h.0 in omega arith
    none (Refused status words) h = h
    none (Broken text words) h = h
    none (Misused text) h = let e : ◌≡◌ {A = ℕ} 1 2 = h.0 in omega arith
usage_ends input faults kind end of (inr memory) = inr (refl, memory)

-- want of memory ends a run whatever its words
pub memory_ends : {R : Type 0} (remaining : R → Option (List ℕ)) (input : Held R) (words : List Text)
    → WordsEnd remaining input input words wants_memory
memory_ends remaining input words = inr (inr (refl, refl))

-- How a check of a log ends, by what its calls did.

module _ {R W : Type 0} (allowed : List PartRegisters) (remaining : R → Option (List ℕ)) (old new : Held R) (contents : W → Option (List ℕ)) (output output' : Held W) where
  -- its line was written
  pub log_wrote : (end : LogEnd) (status : ℕ) → status ≡ log_status end
      → LogEnds allowed (over remaining old new contents output output') (Ok end)
      → Runs (CheckRuns allowed remaining old new) contents output output' (Ok (record { status = status; hint = None }))
  log_wrote end status same (read, sound, input, gave, is, written) =
      (sound, log_text allowed input, written, (read, input, gave, same ∙ ap log_status is, refl), (read, input, gave, refl))

  -- it refused, or its line was cut short since the writer failed
  pub log_refused : (fault : TextFault) → LogEnds allowed (over remaining old new contents output output') (Err fault)
      → Refuses-as (CheckRuns allowed remaining old new) contents output output' (text_refusal fault)
  log_refused Write (read, failed, input, gave, (front, rest, split, some, appended)) =
      (CutShort (log_text allowed input), (read, input, gave, refl), refl, (failed, (front, rest, split, appended)), refl)
  log_refused TooLong (same, failed, why) =
      (Refused 1 (text_refusal TooLong), (refl, TooLong, refl, failed, why), refl, same, refl)
  log_refused Read (same, failed, why) = (Refused 1 (text_refusal Read), (refl, Read, refl, failed, why), refl, same, refl)
  log_refused Memory (same, failed, why) = (Refused 1 (text_refusal Memory), (refl, Memory, refl, failed, why), refl, same, refl)
  log_refused (Syntax line) (same, failed, why) = absurd why
  log_refused (BadHex line) (same, failed, why) = absurd why
  log_refused (Setup reason) (same, failed, why) = absurd why

-- That a value outside a range is refused on one side only.

-- a range of fractions, from the least to the greatest
pub record IsRange (least greatest : Ratio) : Type 0 where
  pub least_den : 0 < least.den
  pub greatest_den : 0 < greatest.den
  pub order : AtMost least greatest

-- nothing lies both below a range and above it
one_side : (x low high : Ratio) → 0 < x.den → IsRange low high → LessThan x low → LessThan high x → ⊥
one_side x low high dx range below above =
    let dl = range.least_den in
    let dh = range.greatest_den in
    let e1 = lt-times (x.num *ℤ pos low.den) (low.num *ℤ pos x.den) high.den below in
    let e2 = le-times (low.num *ℤ pos high.den) (high.num *ℤ pos low.den) x.den range.order in
    let e3 = lt-times (high.num *ℤ pos x.den) (x.num *ℤ pos high.den) low.den above in
    let s1 = times-swap low.num x.den high.den in
    let s2 = times-swap high.num low.den x.den in
    let s3 = times-swap x.num low.den high.den in
    omega (arith, ints)

-- inside, it is on neither side
not_below : (x low : Ratio) → AtMost low x → LessThan x low → ⊥
not_below x low h l = omega (arith, ints)

-- what `nearest` refuses of this many millionths
module _ (least greatest : Ratio) (range : IsRange least greatest) (k : ℤ) (small : unsigned_abs k ≤ 10 ^ 15) where
  -- a value outside is refused
  refuses : (fault : NumFault) → IsOutside least greatest (micros k) fault → RefusesValue least greatest (Nearest k) fault
  refuses BelowLeast out = (small, out)
  refuses AboveGreatest out = (small, out)
  refuses ZeroSlope out = absurd out
  refuses ExponentRange out = absurd out
  refuses TooLarge out = absurd out

  -- for one reason only
  same_fault : (e fault : NumFault) → IsOutside least greatest (micros k) e → RefusesValue least greatest (Nearest k) fault → e ≡ fault
  same_fault BelowLeast BelowLeast out h = refl
  same_fault BelowLeast AboveGreatest out h = absurd (one_side (micros k) least greatest (omega arith) range out h.1)
  same_fault AboveGreatest BelowLeast out h = absurd (one_side (micros k) least greatest (omega arith) range h.1 out)
  same_fault AboveGreatest AboveGreatest out h = refl
  same_fault ZeroSlope fault out h = absurd out
  same_fault ExponentRange fault out h = absurd out
  same_fault TooLarge fault out h = absurd out
  same_fault e TooLarge out h = absurd (omega arith)
  same_fault e ZeroSlope out h = absurd h.1
  same_fault e ExponentRange out h = absurd h.1

  -- a value that is refused isn't inside
  not_inside : (fault : NumFault) → RefusesValue least greatest (Nearest k) fault → IsBetween least greatest (micros k) → ⊥
  not_inside BelowLeast h inside = not_below (micros k) least inside.from_least h.1
  not_inside AboveGreatest h inside = not_below greatest (micros k) inside.to_greatest h.1
  not_inside TooLarge h inside = omega arith
  not_inside ZeroSlope h inside = h.1
  not_inside ExponentRange h inside = h.1

  -- a call that takes just the values inside refuses the others, each for the side on which it lies
  pub refused_outside : (r : Result ℕ NumFault) → (IsOk r ↔ IsBetween least greatest (micros k))
      → IfErr r (IsOutside least greatest (micros k))
      → (fault : NumFault) → (r ≡ Err fault) ↔ RefusesValue least greatest (Nearest k) fault
  refused_outside (Ok w) inside out fault = (λ e. absurd (ok_is_no_fault w fault e), λ h. absurd (not_inside fault h (inside.0 refl)))
    where
      ok_is_no_fault : (w : ℕ) (fault : NumFault) → ◌≡◌ {A = Result ℕ NumFault} (Ok w) (Err fault) → ⊥
      ok_is_no_fault w fault e = cc
  refused_outside (Err e) inside out fault = (
    λ same. refuses fault (subst (IsOutside least greatest (micros k))
        (err_is same) out),
    λ h. ap Err (same_fault e fault out h),
  )
    where
      err_is : ◌≡◌ {A = Result ℕ NumFault} (Err e) (Err fault) → e ≡ fault
      err_is same = cc

-- The events of a text, line by line, and the lines that are written of them.

-- a line without a mark stands before it as a whole
pub uncut : (mark : ℕ → Bool) (line : List ℕ) → list_any mark line ≡ false → before_first mark line ≡ line
uncut mark [] none = refl
uncut mark (x ∷ xs) none = by (mark x) none (uncut mark xs)
  where
    by : (b : Bool) → (b || list_any mark xs) ≡ false → (list_any mark xs ≡ false → before_first mark xs ≡ xs)
        → take (cond (not b) (1 + position_or_len mark xs) 0) (x ∷ xs) ≡ x ∷ xs
    by true none rest = absurd (cc)
    by false none rest =
        let more : 1 + position_or_len mark xs ≡ suc (position_or_len mark xs) = omega arith in
        rw more (ap (λ l. x ∷ l) (rest none))

-- events before those of the lines that are left
abbrev pub prepended : List Event → Result (List Event) TextFault → Result (List Event) TextFault
prepended done (Ok events) = Ok (done ++ events)
prepended done (Err fault) = Err fault

-- one event more
pub prepended-joined : (done : List Event) (event : Event) (rest : Result (List Event) TextFault)
    → prepended done (joined_events (Ok event) rest) ≡ prepended (done ++ event ∷ []) rest
prepended-joined done event (Ok events) = ap Ok (sym (append_assoc done (event ∷ []) events))
prepended-joined done event (Err fault) = refl

module _ (done : List Event) (line : Numbered) (lines : List Numbered) where
  -- a line that asks for an event adds it
  pub events-more : (event : Event) → line_event line ≡ Ok event
      → prepended done (events_of_lines (line ∷ lines)) ≡ prepended (done ++ event ∷ []) (events_of_lines lines)
  events-more event is = ap (λ e. prepended done (joined_events e (events_of_lines lines))) is
      ∙ prepended-joined done event (events_of_lines lines)

  -- a faulty line's fault is that of all lines
  pub events-fault : (fault : TextFault) → line_event line ≡ Err fault → prepended done (events_of_lines (line ∷ lines)) ≡ Err fault
  events-fault fault is = ap (λ e. prepended done (joined_events e (events_of_lines lines))) is

-- what a converter holds after one event more
pub held_after-push : (held : DeviceHeld) (done : List Event) (event : Event)
    → converter_after held (done ++ event ∷ []) ≡ device_next (converter_after held done) event
held_after-push held [] event = refl
held_after-push held (first ∷ done) event = held_after-push (device_next held first) done event

-- what is written of one event more
pub event_lines-push : (held : DeviceHeld) (done : List Event) (event : Event)
    → event_lines held (done ++ event ∷ []) ≡ event_lines held done ++ as_line (event_words (converter_after held done) event)
event_lines-push held [] event = append-nil _
event_lines-push held (first ∷ done) event =
    ap (λ l. as_line (event_words held first) ++ l) (event_lines-push (device_next held first) done event)
    ∙ sym (append_assoc (as_line (event_words held first)) (event_lines (device_next held first) done) _)

-- an empty text has no lines
unskipped-nil : unskipped_from 1 [] ≡ []
unfolding unskipped_from lines_of
unskipped-nil = refl

-- a text with a line that isn't skipped has bytes
pub unskipped-some : (text : List ℕ) → 0 < length (unskipped_from 1 text) → 0 < length text
unskipped-some [] some = let none : length (unskipped_from 1 []) ≡ 0 = ap length unskipped-nil in absurd (omega arith)
unskipped-some (x ∷ xs) some = omega arith

-- the text that is written of an input's events
pub printed-text : (input : List ℕ) (events : List Event) → events_of_lines (unskipped_from 1 input) ≡ Ok events
    → printed_text input ≡ Ok (heard_text events)
unfolding printed_text
printed-text input events are = ap text_by are

-- an input with a faulty line has that line's fault in the place of a text
pub printed-fault : (input : List ℕ) (fault : TextFault) → events_of_lines (unskipped_from 1 input) ≡ Err fault → printed_text input
    ≡ Err fault
unfolding printed_text
printed-fault input fault is = ap text_by is

-- one event more was heard, and its line written
pub lines-more : {other : Event} {text more : List ℕ} (start held : DeviceHeld) (done : List Event) (event : Event)
    → text ≡ event_lines start done → held ≡ converter_after start done → other ≡ event
    → more ≡ text ++ as_line (event_words held other) → more ≡ event_lines start (done ++ event ∷ [])
lines-more {other = other} start held done event written is same added =
    added ∙ ap (λ t. t ++ as_line (event_words held other)) written ∙ ap (λ h. event_lines start done ++ as_line (event_words h other)) is
    ∙ ap (λ e. event_lines start done ++ as_line (event_words (converter_after start done) e)) same
    ∙ sym (event_lines-push start done event)

-- the converter holds what one event more leaves
pub held-more : {held after : DeviceHeld} {other : Event} (start : DeviceHeld) (done : List Event) (event : Event)
    → held ≡ converter_after start done → other ≡ event → after ≡ device_next held other → after
    ≡ converter_after start (done ++ event ∷ [])
held-more {other = other} start done event is same one =
    one ∙ ap (λ h. device_next h other) is ∙ ap (λ e. device_next (converter_after start done) e) same
    ∙ sym (held_after-push start done event)

-- the text of a converter that heard all events
pub answered-text : {lines : List ℕ} {start after : DeviceHeld} (input : List ℕ) (events : List Event)
    → events_of_lines (unskipped_from 1 input) ≡ Ok events → start ≡ start_of base
    → lines ≡ event_lines start events → after ≡ converter_after start events → printed_text input ≡ Ok (lines ++ output_word_lines after)
answered-text {lines = lines} {after = after} input events are from written is =
    printed-text input events are
    ∙ sym (ap (λ l. Ok (l ++ output_word_lines after)) (written ∙ ap (λ h. event_lines h events) from)
    ∙ ap (λ h. Ok (event_lines (start_of base) events ++ output_word_lines h)) (is ∙ ap (λ h. converter_after h events) from))

-- How a telling ends, by what its calls did.

-- the line that says something of a line, from its pieces
pub line_of_pieces : (program : List ℕ) (line : ℕ) (digits words : List ℕ) → program ≡ codes "pmb" → digits ≡ decimal line
    → program ++ (codes ": " ++ (codes "line " ++ (digits ++ (words ++ codes "\n"))))
    ≡ refusal_line (codes "line " ++ (decimal line ++ words))
line_of_pieces program line digits words named is =
    (λ i. named i ++ (codes ": " ++ (codes "line " ++ (is i ++ (words ++ codes "\n")))))
    ∙ ap (λ l. codes "pmb" ++ (codes ": " ++ (codes "line " ++ l))) (sym (append_assoc (decimal line) words (codes "\n")))
    ∙ ap (λ l. codes "pmb" ++ (codes ": " ++ l)) (sym (append_assoc (codes "line ") (decimal line ++ words) (codes "\n")))

-- the two lines that say that a trace is too long, and what reads it, from their pieces
pub too_long_line : (program words again : List ℕ) → program ≡ codes "pmb" → words ≡ fault_words TooLong → again ≡ codes "pmb"
    → program ++ (codes ": " ++ (words ++ (codes "\n" ++ (again ++ (codes ": " ++ (codes "--long reads on" ++ codes "\n"))))))
    ≡ refusal_line (unwritten_words OverLong)
too_long_line program words again named is named_again =
    λ i. named i ++ (codes ": " ++ (is i ++ (codes "\n" ++ (named_again i ++ (codes ": " ++ (codes "--long reads on" ++ codes "\n"))))))

module _ {W E : Type 0} (w : Writers W E) (mid : Held W) (wanted status : ℕ) (text : List ℕ)
    (written : Appends (w.out w.output.inner) (w.out mid.inner) text) (kept : Keeps (w.out mid.inner) (w.out w.output'.inner)) where
  -- a text that was written is printed and what may be wrong is said, or it was cut short if it wasn't handed on
  told_whole : (hint : Option Hint) → IsToldDone w.err w.output' w.errors w.errors' wanted hint status
      → Ends w status (run_end_as wanted text hint) ⊎ Ends w status (CutShort text)
  told_whole None done = ended w wanted status text (record { mid = mid; written = written; kept = kept; done = done })
  told_whole (Some hint) (inl (sound, is, said)) =
      inl (record { status_is = is; printed = (sound, Appends-kept _ _ _ text written kept); said = said })
  told_whole (Some hint) (inr failed) =
      elim (ended w wanted status text (record { mid = mid; written = written; kept = kept; done = inr failed })) [
        | inl e ↦ absurd (true≢false (sym failed.0 ∙ e.printed.0))
        | inr e ↦ inr e
      ]

module _ {W E : Type 0} (w : Writers W E) (ends : End → Type 0) where
  -- a command that wrote its text, which was handed on or not
  pub command_wrote : (mid : Held W) (written : Written) (status : ℕ) → Runs ends w.out w.output mid (Ok written)
      → Keeps (w.out mid.inner) (w.out w.output'.inner)
      → IsToldDone w.err w.output' w.errors w.errors' written.status written.hint status
      → (e : End) × ends e × Ends w status e
  command_wrote mid written status (sound, text, appended, whole, cut_short) kept done =
      elim (told_whole w mid written.status status text appended kept written.hint done) [
        | inl e ↦ (run_end_as written.status text written.hint, whole, e)
        | inr e ↦ (CutShort text, cut_short, e)
      ]

  -- a command that didn't, of which standard error says why
  pub command_refused : (refusal : Unwritten) → Runs ends w.out w.output w.output' (Err refusal)
      → Says w.err w.errors w.errors' (refusal_line (unwritten_words refusal))
      → (e : End) × ends e × Ends w 1 e
  command_refused refusal (end, is, status, prints, words) said = (
    end,
    is,
    record { status_is = sym status; printed = prints; said = subst (λ said_words. SaysAny w.err w.errors w.errors' said_words) (sym words) said },
  )

module _ {R W : Type 0} (options : TellOptions) (remaining : R → Option (List ℕ)) (old new : Held R) (contents : W → Option (List ℕ))
    (output output' : Held W) where
  -- a text that was written whole is one way to end, with what may be wrong or without
  runs_whole : (status : ℕ) (text : List ℕ) (hint : Option Hint) → TellsWhole options remaining old new (run_end_as status text hint)
      → TellRuns options remaining old new (run_end_as status text hint)
  runs_whole status text None is = is
  runs_whole status text (Some hint) is = is

  -- a trace was shown whole
  pub tell_wrote : (told : TellEnd) (status : ℕ) → status ≡ decode_status told.end
      → LongEnds (most_bytes options.long) (capture_text options) (said_text options) (capture_end options)
      (over remaining old new contents output output') (Ok told)
      → Runs (TellRuns options remaining old new) contents output output' (Ok (record { status = status; hint = told.hint }))
  tell_wrote told status same (read, sound, input, gave, is, written) =
      let text = capture_text options input in
      let status_is = same ∙ ap (λ t. decode_status t.end) is in (
        sound,
        text,
        written,
        runs_whole status text told.hint (read, input, gave, λ i. run_end_as (status_is i) text (is i).hint),
        inr (read, input, gave, refl),
      )

  -- it was shown up to a refusal
  told_until : (fault : TextFault) → IsFalse output'.failed → IsTrue new.failed ↔ (fault ≡ Read) → (front : List ℕ)
      → Breaks (most_bytes options.long) (capture_text options) (said_text options) (capture_end options)
      (reader_run remaining old new) fault front
      → (text : List ℕ) → IsTold (said_text options) fault front text
      → Appends (contents output.inner) (contents output'.inner) text
      → Runs (TellRuns options remaining old new) contents output output' (Err (untold options.long fault))
  told_until fault sound failed front why text told got = (
    Broken text (unwritten_words (untold options.long fault)),
    (fault, refl, failed, front, why, told),
    refl,
    (sound, got),
    refl,
  )

  -- what is said of a writer that failed
  unwritten_write : (long : Bool) → text_refusal Write ≡ unwritten_words (untold long Write)
  unwritten_write true = refl
  unwritten_write false = refl

  -- it refused, or its text was cut short since the writer failed
  pub tell_refused : (fault : TextFault)
      → LongEnds (most_bytes options.long) (capture_text options) (said_text options) (capture_end options)
      (over remaining old new contents output output') (Err fault)
      → Runs (TellRuns options remaining old new) contents output output' (Err (untold options.long fault))
  tell_refused Write (failed, text, short, (front, rest, split, some, appended)) = (
    CutShort text,
    short,
    refl,
    (failed, (front, rest, split, appended)),
    ap (λ words. Some (refusal_line words)) (unwritten_write options.long),
  )
  tell_refused TooLong (sound, failed, front, why, text, told, got) = told_until TooLong sound failed front why text told got
  tell_refused Read (sound, failed, front, why, text, told, got) = told_until Read sound failed front why text told got
  tell_refused Memory (sound, failed, front, why, text, told, got) = told_until Memory sound failed front why text told got
  tell_refused (Syntax line) (sound, failed, front, why, text, told, got) = absurd why
  tell_refused (BadHex line) (sound, failed, front, why, text, told, got) = absurd why
  tell_refused (Setup reason) (sound, failed, front, why, text, told, got) = absurd why

-- There is one text for a question at most.

-- in a format that can be, no two words have one value and one rank
one_word : (format : FormatText) → IsFormat format → IsOneWord (value_in format) (rank_in format)
one_word Linear11 can_be = linear11-one_word
one_word (Ulinear16 n) can_be = ulinear16-one_word n
one_word (Direct m b r) can_be = direct-one_word m b r can_be.0

-- a question asks for one word at most
same_word : (value : ℕ → Ratio) (rank : ℕ → ℕ) → IsOneWord value rank → (asked : Asked) (u w : ℕ) → IsAskedWord value rank asked u
    → IsAskedWord value rank asked w → u ≡ w
same_word value rank one (AskedWord given) u w h k = h ∙ sym k
same_word value rank one (Nearest x) u w h k = one_from_nearest value rank one (micros x) u w h k

-- a fraction has one greatest whole number of millionths that isn't above it
same_floor : (v : Ratio) (j k : ℤ) → IsFloorMicro v j → IsFloorMicro v k → j ≡ k
same_floor v j k h i =
    let up : j ≤ℤ k = i.greatest j h.reached in
    let down : k ≤ℤ j = h.greatest k i.reached in
    omega (arith, ints)

-- a question has one answer at most
same_answer : (value : ℕ → Ratio) (rank : ℕ → ℕ) → IsOneWord value rank → (asked : Asked) (x y : Answer) → IsAnswer value rank asked x
    → IsAnswer value rank asked y → x ≡ y
same_answer value rank one asked x y h k =
    let word = same_word value rank one asked x.word y.word h.word k.word in
    let same : x.value ≡ y.value = h.value_is ∙ ap value word ∙ sym k.value_is in
    let floor = same_floor y.value x.millionths y.millionths (subst (λ (v : Ratio). IsFloorMicro v x.millionths) same h.floor) k.floor in
    λ i. record { word = word i; value = same i; millionths = floor i }

-- a question has one text at most
pub one_text : (asked : Question) → IsFormat asked.format → (a b : List ℕ) → IsNumberText (Ok asked) a → IsNumberText (Ok asked) b → a ≡ b
one_text asked can_be a b h k =
    h.2 ∙ ap number_line_of (same_answer (value_in asked.format) (rank_in asked.format)
    (one_word asked.format can_be) asked.asked h.0 k.0 h.1 k.1) ∙ sym k.2

-- The lines and the status of what is refused.

-- The refusals of a question whose format can be are those of its value.

-- no value is refused for a slope
not_of_slope : (least greatest : Ratio) (asked : Asked) → RefusesValue least greatest asked ZeroSlope → ⊥
not_of_slope least greatest (AskedWord word) h = h
not_of_slope least greatest (Nearest k) h = h.1

-- no value is refused for an exponent
not_of_exponent : (least greatest : Ratio) (asked : Asked) → RefusesValue least greatest asked ExponentRange → ⊥
not_of_exponent least greatest (AskedWord word) h = h
not_of_exponent least greatest (Nearest k) h = h.1

module _ (asked : Question) (can_be : IsFormat asked.format) (none : (fault : NumFault) → RefusesFormat asked.format fault
    → ⊥) (r : Result Answer NumFault)
    (by_value : (fault : NumFault)
    → (r ≡ Err fault) ↔ RefusesValue (least_in asked.format) (greatest_in asked.format) asked.asked fault) where
  -- what is refused of the value is what is refused of the question if the format can be
  pub refused_by_value : (fault : NumFault) → (r ≡ Err fault) ↔ NumberTextRefuses asked fault
  refused_by_value ZeroSlope = (
    λ e. absurd (not_of_slope (least_in asked.format) (greatest_in asked.format) asked.asked
        ((by_value ZeroSlope).0 e)),
    λ h. absurd (none ZeroSlope h),
  )
  refused_by_value ExponentRange = (
    λ e. absurd (not_of_exponent (least_in asked.format) (greatest_in asked.format) asked.asked
        ((by_value ExponentRange).0 e)),
    λ h. absurd (none ExponentRange h),
  )
  refused_by_value BelowLeast = (λ e. (can_be, (by_value BelowLeast).0 e), λ h. (by_value BelowLeast).1 h.1)
  refused_by_value AboveGreatest = (λ e. (can_be, (by_value AboveGreatest).0 e), λ h. (by_value AboveGreatest).1 h.1)
  refused_by_value TooLarge = (λ e. (can_be, (by_value TooLarge).0 e), λ h. (by_value TooLarge).1 h.1)

-- what holds of the coefficients of a format holds of the numbers that it was made from
pub with_coefficients : {m b r m' b' r' : ℤ} (P : ℤ → ℤ → ℤ → Type 0) → m' ≡ m → b' ≡ b → r' ≡ r → P m' b' r' → P m b r
with_coefficients {m = m} {b = b} {b' = b'} {r' = r'} P em eb er h =
    subst (λ z. P m b z) er (subst (λ z. P m z r') eb (subst (λ z. P z b' r') em h))

module _ (m b r : ℤ) (slope : m ≢ pos 0) (decimal : IsDecimal r) (asked : Asked) (res : Result Answer NumFault)
    (by_value : (fault : NumFault)
    → (res ≡ Err fault) ↔ RefusesValue (least_in (Direct m b r)) (greatest_in (Direct m b r)) asked fault) where
  -- DIRECT with a slope other than 0 and an exponent from -12 to 12 can be
  none : (fault : NumFault) → RefusesFormat (Direct m b r) fault → ⊥
  none ZeroSlope h = slope h
  none ExponentRange h = h.1 decimal
  none BelowLeast h = h
  none AboveGreatest h = h
  none TooLarge h = h

  -- what is refused of a value in DIRECT is what is refused of the question
  pub direct_refused : (fault : NumFault) → (res ≡ Err fault) ↔ NumberTextRefuses (record { format = Direct m b r; asked = asked }) fault
  direct_refused = refused_by_value (record { format = Direct m b r; asked = asked }) (slope, decimal) none res by_value

-- The line that says why a text is refused, put together from its parts.

module _ {E : Type 0} (err : E → Option (List ℕ)) where
  -- what one call to write came to
  pub put_said : (r : Result (Unit {0}) TextFault) (errors errors' : Held E) (line : List ℕ)
      → OnOk r (Appends (err errors.inner) (err errors'.inner) line) → OnErr r (AppendsFront (err errors.inner) (err errors'.inner) line)
      → errors'.failed ≡ is_err r → Says err errors errors' line
  put_said (Ok done) errors errors' line all front failed = inl (failed, all)
  put_said (Err fault) errors errors' line all front failed = inr (failed, front)

module _ (program p : List ℕ) (named : p ≡ program) where
  -- the letters are those of the fault
  pub lettered : (fault : SetupFault) (letters rest : List ℕ) → letters ≡ fault_words (Setup fault)
      → p ++ (codes ": " ++ (letters ++ (codes " " ++ rest))) ≡ program ++ (codes ": X7 Setup " ++ rest)
  lettered fault letters rest is = λ i. named i ++ (codes ": " ++ (is i ++ (codes " " ++ rest)))

module _ (program words w detail s d : List ℕ) (is_words : w ≡ words) (is_detail : s ++ d ≡ detail) where
  -- the detail and its line feed, from the two parts that it is written in
  detailed : s ++ (d ++ codes "\n") ≡ detail ++ codes "\n"
  detailed = sym (append_assoc s d (codes "\n")) ∙ ap (λ l. l ++ codes "\n") is_detail

  -- the line for a fault that names no output
  pub line-none : program ++ (codes ": X7 Setup " ++ (w ++ (s ++ (d ++ codes "\n"))))
      ≡ program_line program (codes "X7 Setup " ++ (words ++ ([] ++ detail)))
  line-none =
      (λ i. program ++ (codes ": X7 Setup " ++ (is_words i ++ detailed i)))
      ∙ ap (λ l. program ++ (codes ": X7 Setup " ++ l)) (sym (append_assoc words detail (codes "\n")))

  -- the line for a fault that names this output
  pub line-some : (n : ℕ) (o : List ℕ) → o ≡ decimal n
      → program ++ (codes ": X7 Setup " ++ (w ++ (codes " " ++ (o ++ (s ++ (d ++ codes "\n"))))))
      ≡ program_line program (codes "X7 Setup " ++ (words ++ ((codes " " ++ decimal n) ++ detail)))
  line-some n o is =
      (λ i. program ++ (codes ": X7 Setup " ++ (is_words i ++ (codes " " ++ (is i ++ detailed i)))))
      ∙ ap (λ l. program ++ (codes ": X7 Setup " ++ (words ++ (codes " " ++ l)))) (sym (append_assoc (decimal n) detail (codes "\n")))
      ∙ ap (λ l. program ++ (codes ": X7 Setup " ++ l)) (sym (append_assoc words ((codes " " ++ decimal n) ++ detail) (codes "\n")))

-- the line for a fault of the host's setup
pub line-host : (program words w : List ℕ) → w ≡ words
    → program ++ (codes ": X7 Setup " ++ (w ++ codes "\n")) ≡ program_line program (codes "X7 Setup " ++ words)
line-host program words w is = ap (λ l. program ++ (codes ": X7 Setup " ++ (l ++ codes "\n"))) is

-- the line for a fault in a line of the text
pub line-numbered : (program p words w : List ℕ) (n : ℕ) (o : List ℕ) → p ≡ program → w ≡ words → o ≡ decimal n
    → p ++ (codes ": " ++ (w ++ (codes " line " ++ (o ++ codes "\n")))) ≡ program_line program (words ++ (codes " line " ++ decimal n))
line-numbered program p words w n o named is_words is =
    (λ i. named i ++ (codes ": " ++ (is_words i ++ (codes " line " ++ (is i ++ codes "\n")))))
    ∙ ap (λ l. program ++ (codes ": " ++ l)) (sym (append_assoc words (codes " line " ++ decimal n) (codes "\n")))

-- A run's status is at most 2, however it ends.

-- ---- the numbers

pub kept : (n m : ℕ) → n ≡ m → m ≤ 2 → n ≤ 2
kept n m same most = subst (λ (k : ℕ). k ≤ 2) (sym same) most

of_decode : (end : DecodeEnd) → decode_status end ≤ 2
of_decode Clean = omega arith
of_decode BadLines = omega arith

of_replay : (end : ReplayEnd) → replay_status end ≤ 2
of_replay AllTaken = omega arith
of_replay Stopped = omega arith

of_log : (end : LogEnd) → log_status end ≤ 2
of_log LogAccepted = omega arith
of_log LogRefused = omega arith

of_number : (fault : NumberFault) → refusal_status fault ≤ 2
of_number OneOf = omega arith
of_number Format = omega arith
of_number Word = omega arith
of_number Micro = omega arith
of_number (Num fault) = omega arith
of_number (OfText fault) = omega arith

of_telling : (fault : TellFault) → tell_fault_status fault ≤ 2
of_telling VoutAlone = omega arith
of_telling Vout = omega arith
of_telling ReadingsAlone = omega arith
of_telling Readings = omega arith
of_telling GapAlone = omega arith
of_telling Gap = omega arith
of_telling Part = omega arith
of_telling Mux = omega arith

of_told : (status : ℕ) (text : List ℕ) (hint : Option Hint) → status_of (run_end_as status text hint) ≡ status
of_told status text None = refl
of_told status text (Some hint) = refl

-- ---- each command

engine_ends : {R T : Type 0} (engine : Engine T) (status_in : T → ℕ) → ((end : T) → status_in end ≤ 2)
    → (remaining : R → Option (List ℕ)) (old new : Held R) (end : End)
    → EngineRuns engine status_in remaining old new end → status_of end ≤ 2
engine_ends e status_in most remaining old new (Printed status text) (failed, ended, is, made) =
    kept status (status_in ended) is (most ended)
engine_ends e status_in most remaining old new (Hinted status text words) runs = absurd runs
engine_ends e status_in most remaining old new (CutShort text) runs = omega arith
engine_ends e status_in most remaining old new (Refused status words) (is, late, fault, said, reader, front, why) =
    kept status 1 is (omega arith)
engine_ends e status_in most remaining old new (Broken text words) runs = omega arith
engine_ends e status_in most remaining old new (Misused text) runs = absurd runs

whole_ends : (end : End) (read : DecodeEnd) (text : List ℕ) (hint : Option Hint) → end ≡ run_end_as (decode_status read) text hint
    → status_of end ≤ 2
whole_ends end read text hint is = kept (status_of end) (decode_status read) (ap status_of is ∙ of_told (decode_status read) text hint)
    (of_decode read)

telling_ends : {R : Type 0} (options : TellOptions) (remaining : R → Option (List ℕ)) (old new : Held R) (end : End)
    → TellRuns options remaining old new end → status_of end ≤ 2
telling_ends options remaining old new (Printed status text) (failed, input, gave, is) = whole_ends (Printed status text) _ _ _ is
telling_ends options remaining old new (Hinted status text words) (failed, input, gave, is) = whole_ends (Hinted status text words) _ _ _ is
telling_ends options remaining old new (CutShort text) runs = omega arith
telling_ends options remaining old new (Broken text words) runs = omega arith
telling_ends options remaining old new (Refused status words) runs = absurd runs
telling_ends options remaining old new (Misused text) runs = absurd runs

check_ends : {R : Type 0} (allowed : List PartRegisters) (remaining : R → Option (List ℕ)) (old new : Held R) (end : End)
    → CheckRuns allowed remaining old new end → status_of end ≤ 2
check_ends allowed remaining old new (Printed status text) (failed, input, gave, is, shown) = kept status _ is (of_log _)
check_ends allowed remaining old new (Hinted status text words) runs = absurd runs
check_ends allowed remaining old new (CutShort text) runs = omega arith
check_ends allowed remaining old new (Refused status words) (is, fault, said, reader, why) = kept status 1 is (omega arith)
check_ends allowed remaining old new (Broken text words) runs = absurd runs
check_ends allowed remaining old new (Misused text) runs = absurd runs

command_ends : {R : Type 0} (asked : TextCommand) (remaining : R → Option (List ℕ)) (old new : Held R) (end : End)
    → CommandRuns asked remaining old new end → status_of end ≤ 2
command_ends command.Hear remaining old new end runs = engine_ends hear_engine (λ _. 0) (λ e. omega arith) remaining old new end runs
command_ends command.Replay remaining old new end runs = engine_ends replaying replay_status of_replay remaining old new end runs
command_ends command.Decode remaining old new end runs = engine_ends decoding decode_status of_decode remaining old new end runs
command_ends (command.Tell options) remaining old new end runs = telling_ends options remaining old new end runs
command_ends (command.Check lacks) remaining old new end runs = check_ends lacks.parts remaining old new end runs

asked_ends : {R : Type 0} (remaining : R → Option (List ℕ)) (old new : Held R) (given : Result TellOptions TellFault) (end : End)
    → AskedEnds remaining old new given end → status_of end ≤ 2
asked_ends remaining old new (Ok options) end runs = command_ends (command.Tell options) remaining old new end runs
asked_ends remaining old new (Err fault) end (same, is) = kept (status_of end) (tell_fault_status fault) (ap status_of is) (of_telling fault)

number_ends : (question : Result Question NumberFault) (end : End) → NumberEnds question end → status_of end ≤ 2
number_ends question (Printed status text) runs = kept status 0 runs.0 (omega arith)
number_ends question (Hinted status text words) runs = absurd runs
number_ends question (CutShort text) runs = omega arith
number_ends question (Refused status words) (fault, is, wrote, why) = kept status (refusal_status fault) is (of_number fault)
number_ends question (Broken text words) runs = absurd runs
number_ends question (Misused text) runs = absurd runs

lacks_ends : {R : Type 0} (remaining : R → Option (List ℕ)) (old new : Held R) (lacks : Option Lacks) (end : End)
    → CheckEnds remaining old new lacks end → status_of end ≤ 2
lacks_ends remaining old new (Some lacks) end runs = command_ends (command.Check lacks) remaining old new end runs
lacks_ends remaining old new None end (same, is) = kept (status_of end) 2 (ap status_of is) (omega arith)

choice_ends : {R : Type 0} (remaining : R → Option (List ℕ)) (old new : Held R) (chosen : Chosen) (end : End)
    → ChoiceEnds remaining old new chosen end → status_of end ≤ 2
choice_ends remaining old new Hear end runs = command_ends command.Hear remaining old new end runs
choice_ends remaining old new Replay end runs = command_ends command.Replay remaining old new end runs
choice_ends remaining old new Decode end runs = command_ends command.Decode remaining old new end runs
choice_ends remaining old new (Tell given) end (asks, is, runs) = asked_ends remaining old new asks end runs
choice_ends remaining old new (Check lacks) end runs = lacks_ends remaining old new lacks end runs
choice_ends remaining old new (NumberChosen format word micro) end (same, runs) = number_ends _ end runs

-- ---- the command line

lines_usage_ends : (kind : ErrorKind) (end : End) → UsageEnds kind end → status_of end ≤ 2
lines_usage_ends kind (Printed status text) runs = kept status 0 runs.0 (omega arith)
lines_usage_ends kind (Hinted status text words) runs = absurd runs
lines_usage_ends kind (CutShort text) runs = omega arith
lines_usage_ends kind (Refused status words) runs = absurd runs
lines_usage_ends kind (Broken text words) runs = absurd runs
lines_usage_ends kind (Misused text) runs = omega arith

parser_ends : {R : Type 0} (old new : Held R) (faults : Kinds) (end : End) → ParserEnds old new faults end → status_of end ≤ 2
parser_ends old new faults end (inl (same, kind, among, runs)) = lines_usage_ends kind end runs
parser_ends old new faults end (inr (same, is)) = kept (status_of end) 1 (ap status_of is) (omega arith)

line_ends : {R : Type 0} (remaining : R → Option (List ℕ)) (old new : Held R) (words : List Text) (end : End)
    → WordsEnd remaining old new words end → status_of end ≤ 2
line_ends remaining old new words end (inl (free, chosen, met, runs)) = choice_ends remaining old new chosen end runs
line_ends remaining old new words end (inr runs) = parser_ends old new _ end runs

of_none : (kind : IoKind) → no_words_status kind ≤ 2
of_none ErrorKindOutOfMemory = omega arith
of_none kind = omega arith

pub at_most_2 : {R : Type 0} (remaining : R → Option (List ℕ)) (old new : Held R) (words : Result (List Text) IoKind) (end : End)
    → RunEnds remaining old new words end → status_of end ≤ 2
at_most_2 remaining old new (Ok words) end runs = line_ends remaining old new words end runs
at_most_2 remaining old new (Err kind) end (same, is) = kept (status_of end) (no_words_status kind) (ap status_of is) (of_none kind)
