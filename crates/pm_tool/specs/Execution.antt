-- How a run of the program ends: its status, what standard output got, and the one line that
-- standard error gets. This project's own choice.
use Rattle.std.specs.Prelude.{◌≡◌, ◌⊎◌, ◌↔◌, ℕ, Bool, true, List, [], ◌++◌, Option, Some, None}
use Rattle.std.specs.Prelude.{Result, Ok, Err, IsTrue, IsFalse, IsSomeAnd, codes, decimal, false}
use Rattle.std.specs.Io.KnownBytes.{Appends}
use Rattle.std.specs.declared.io.ErrorKind.{ErrorKind as IoKind}
use Rattle.clap.specs.Kinds.{IsAmong, Kinds}
use Rattle.clap.specs.Words.{Text, fault_of, subcommand_of}
use Rattle.clap.specs.declared.error.kind.ErrorKind.{ErrorKind}
use Rattle.pm_lines.specs.Faults.{fault_words}
use Rattle.pm_lines.specs.Engine.{Engine, IsMade, IsReadSoFar, IsTold, IsUnderWay, Refuses, Run, over}
use Rattle.pm_lines.specs.Streams.{Held}
use Rattle.pm_lines.specs.declared.fault.TextFault.{TextFault}
use Rattle.pm_lines.specs.declared.fault.TextFault.TheVariants.{Syntax, BadHex, TooLong, Read, Write, Memory, Setup}
use Rattle.pm_trace.specs.Outcome.{decoding}
use Rattle.pm_trace.specs.declared.decode_end.DecodeEnd.{DecodeEnd}
use Rattle.pm_trace.specs.declared.decode_end.DecodeEnd.TheVariants.{Clean, BadLines}
use Rattle.pm_decode.specs.CaptureText.{capture_end, capture_text}
use Rattle.pm_decode.specs.Capturing.{most_bytes, said_text}
use Rattle.pm_decode.specs.LongEngine.{Breaks, GaveAll, IsCut}
use Rattle.pm_decode.specs.declared.hints.Hint.{Hint}
use Rattle.pm_decode.specs.declared.hints.Hint.TheVariants.{Beyond, Timed, NoTimes, NoGoodPacket, NoPec, Paging}
use Rattle.pm_decode.specs.declared.options.TellOptions.{TellOptions}
use Rattle.pm_limits.specs.declared.part_registers.PartRegisters.{PartRegisters}
use Rattle.pm_log.specs.Texts.{IsAll, log_end, log_text}
use Rattle.pm_log.specs.declared.lacks.Lacks.{Lacks}
use Rattle.pm_log.specs.Texts.{Breaks as LogBreaks}
use Rattle.pm_log.specs.declared.checking.LogEnd.{LogEnd}
use Rattle.pm_log.specs.declared.checking.LogEnd.TheVariants.{Accepted as LogAccepted, Refused as LogRefused}
use Rattle.pm_text.specs.Replay.{replaying}
use Rattle.pm_text.specs.declared.replays.ReplayEnd.{ReplayEnd}
use Rattle.pm_text.specs.declared.replays.ReplayEnd.TheVariants.{Ran as AllTaken, Stopped}
use Rattle.pm_tool.specs.Refusals.{Says, bad_arguments_words, no_words_status, program_line, text_refusal}
use Rattle.pm_tool.specs.Usage.{usage_status, IsSaid}
use Rattle.pm_tool.specs.Commandline.{Asks, pmb}
use Rattle.pm_tool.specs.NumberFaults.{refusal_status, number_refusal_words}
use Rattle.pm_tool.specs.NumberText.{IsNumberText, RefusesNumber}
use Rattle.pm_tool.specs.Outcome.{hear_engine}
use Rattle.pm_tool.specs.Question.{question_of_options}
use Rattle.pm_tool.specs.Telling.{IsAsked, tell_fault_status, tell_fault_words}
use Rattle.pm_tool.specs.declared.commandline.tell_fault.TellFault.{TellFault}
use Rattle.pm_tool.specs.declared.commandline.telling.TellTexts.{TellTexts}
use Rattle.pm_tool.specs.declared.commandline.choice.Chosen.{Chosen}
use Rattle.pm_tool.specs.declared.commandline.choice.Chosen.TheVariants.{Hear, Replay, Decode, Tell, Check, Number as NumberChosen}
use Rattle.pm_tool.specs.declared.numbers.fault.NumberFault.{NumberFault}
use Rattle.pm_tool.specs.declared.numbers.fault.NumberFault.TheVariants.{Num, Text as OfText}
use Rattle.pm_tool.specs.declared.numbers.question.Question.{Question}
use Rattle.pm_tool.specs.declared.text_commands.TextCommand.{TextCommand}
use Rattle.pm_tool.specs.declared.text_commands.TextCommand.TheVariants as command
use Rattle.pm_tool.specs.declared.text_commands.Unwritten.{Unwritten}
use Rattle.pm_tool.specs.declared.text_commands.Unwritten.TheVariants.{Refused as RefusedBy, TooLong as OverLong}
use Rattle.pm_tool.specs.declared.text_commands.Written.{Written}

-- ---- how a run ends, and what its streams get

pub data End : Type 0 where
  -- standard output got the whole of a text
  Printed : (status : ℕ) (text : List ℕ) → End
  -- standard output got the whole of a text, and standard error says what may be wrong
  Hinted : (status : ℕ) (text : List ℕ) (words : List ℕ) → End
  -- standard output failed: it got a prefix of a text
  CutShort : (text : List ℕ) → End
  -- standard output got nothing, and standard error says why
  Refused : (status : ℕ) (words : List ℕ) → End
  -- standard output got the lines that were shown until then, and standard error says why no more came
  Broken : (text : List ℕ) (words : List ℕ) → End
  -- standard output got nothing, and standard error gets the parser's own text
  Misused : (text : List ℕ) → End

abbrev pub status_of : End → ℕ
status_of (Printed status text) = status
status_of (Hinted status text words) = status
status_of (CutShort text) = 1
status_of (Refused status words) = status
status_of (Broken text words) = 1
status_of (Misused text) = 2

-- the line that says a refusal: `pmb: X2 BadHex line 3`
abbrev pub refusal_line : List ℕ → List ℕ
refusal_line words = program_line (codes "pmb") words

-- what standard error gets, if anything
abbrev pub said_to_errors : End → Option (List ℕ)
said_to_errors (Printed status text) = None
said_to_errors (Hinted status text words) = Some (refusal_line words)
said_to_errors (CutShort text) = Some (refusal_line (fault_words Write))
said_to_errors (Refused status words) = Some (refusal_line words)
said_to_errors (Broken text words) = Some (refusal_line words)
said_to_errors (Misused text) = Some text

-- a prefix of the text was written, or all of it
abbrev pub AppendsSome : Option (List ℕ) → Option (List ℕ) → List ℕ → Type 0
AppendsSome old new text =
    (front : List ℕ) × (rest : List ℕ) × (text ≡ front ++ rest) × Appends old new front

-- what standard output got; it failed exactly if its text was cut short
abbrev pub Prints : {W : Type 0} → (W → Option (List ℕ)) → Held W → Held W → End → Type 0
Prints contents old new (Printed status text) =
    IsFalse new.failed × Appends (contents old.inner) (contents new.inner) text
Prints contents old new (Hinted status text words) =
    IsFalse new.failed × Appends (contents old.inner) (contents new.inner) text
Prints contents old new (CutShort text) =
    IsTrue new.failed × AppendsSome (contents old.inner) (contents new.inner) text
Prints contents old new (Refused status words) = new ≡ old
Prints contents old new (Broken text words) =
    IsFalse new.failed × Appends (contents old.inner) (contents new.inner) text
Prints contents old new (Misused text) = new ≡ old

-- what standard error got: nothing, or all that it was to get, or a strict front of it if it failed
abbrev pub SaysAny : {E : Type 0} → (E → Option (List ℕ)) → Held E → Held E → Option (List ℕ) → Type 0
SaysAny contents old new None = new ≡ old
SaysAny contents old new (Some line) = Says contents old new line

-- ---- the commands that read one text and write another

-- a stopped replay has status 1
abbrev pub replay_status : ReplayEnd → ℕ
replay_status AllTaken = 0
replay_status Stopped = 1

-- a log of which a line isn't accepted has status 1
abbrev pub log_status : LogEnd → ℕ
log_status LogAccepted = 0
log_status LogRefused = 1

-- a trace with bad lines has status 1
abbrev pub decode_status : DecodeEnd → ℕ
decode_status Clean = 0
decode_status BadLines = 1

-- How a run of an engine ends, whose ends have these statuses, by what its reader gave. After a refusal nothing
-- was printed if it writes nothing early, and otherwise what was shown until then. The reader failed exactly
-- if X4 is said, or if standard output failed as well.
abbrev pub EngineRuns : {R T : Type 0} → Engine T → (T → ℕ) → (R → Option (List ℕ)) → Held R → Held R → End → Type 0
EngineRuns {T = T} engine status_in remaining old new (Printed status text) = IsFalse new.failed
    × (end : T) × (status ≡ status_in end) × IsMade engine (remaining old.inner) (remaining new.inner) text end
EngineRuns engine status_in remaining old new (Hinted status text words) = ⊥
EngineRuns engine status_in remaining old new (CutShort text) =
    IsReadSoFar (remaining old.inner) (remaining new.inner) new.failed engine.early text
    × IsUnderWay engine (remaining old.inner) (remaining new.inner) text
EngineRuns engine status_in remaining old new (Refused status words) = (status ≡ 1) × (engine.early ≡ None)
    × (fault : TextFault) × (words ≡ text_refusal fault) × (IsTrue new.failed ↔ (fault ≡ Read))
    × (front : List ℕ) × Refuses engine (remaining old.inner) (remaining new.inner) fault front
EngineRuns engine status_in remaining old new (Broken text words) = (early : List ℕ → List ℕ)
    × (engine.early ≡ Some early)
    × (fault : TextFault) × (words ≡ text_refusal fault) × (IsTrue new.failed ↔ (fault ≡ Read))
    × (front : List ℕ) × Refuses engine (remaining old.inner) (remaining new.inner) fault front
    × IsTold early fault front text
EngineRuns engine status_in remaining old new (Misused text) = ⊥

-- ---- `decode` with options

-- the run of only a reader
abbrev pub reader_run : {R : Type 0} → (R → Option (List ℕ)) → Held R → Held R → Run R (Unit {0})
reader_run remaining old new = over remaining old new (λ _. None) (record { inner = tt; failed = false })
    (record { inner = tt; failed = false })

-- what is said of a telling that may be wrong
abbrev pub hint_words : Hint → List ℕ
hint_words (Beyond line) = codes "line " ++ (decimal line ++ codes " orders a voltage beyond 1000 V by --vout: a minus may be missing")
hint_words (Timed line) = codes "line " ++ (decimal line ++ codes " begins with its time: give --times")
hint_words NoTimes = codes "no line is a time and a packet: give --times to both ends, or to none"
hint_words NoGoodPacket = codes "no line is a good packet: where lines begin with times, give --times"
hint_words NoPec = codes "no line is a good packet: where packets have no PEC, give --all"
hint_words (Paging line) = codes "line " ++ (decimal line ++ codes " writes PAGE: --pages shows which output each packet reaches")

-- how a run ends whose text was written whole, by what may be wrong
abbrev pub run_end_as : ℕ → List ℕ → Option Hint → End
run_end_as status text None = Printed status text
run_end_as status text (Some hint) = Hinted status text (hint_words hint)

-- why a trace isn't shown: one that is too long for these options is said so
abbrev pub untold : Bool → TextFault → Unwritten
untold false TooLong = OverLong
untold false (Syntax line) = RefusedBy (Syntax line)
untold false (BadHex line) = RefusedBy (BadHex line)
untold false Read = RefusedBy Read
untold false Write = RefusedBy Write
untold false Memory = RefusedBy Memory
untold false (Setup reason) = RefusedBy (Setup reason)
untold true fault = RefusedBy fault

-- what is said of a text that wasn't written whole
abbrev pub unwritten_words : Unwritten → List ℕ
unwritten_words (RefusedBy fault) = text_refusal fault
unwritten_words OverLong = text_refusal TooLong ++ codes "\npmb: --long reads on"

-- How a telling ends that these options ask for, by what its reader gave: as every engine does that writes early, but
-- that a trace may have more bytes with `--long`.
module _ {R : Type 0} (options : TellOptions) (remaining : R → Option (List ℕ)) (old new : Held R) where
  -- the text of all that the reader gave was written
  abbrev pub TellsWhole : End → Type 0
  TellsWhole end = IsFalse new.failed × (input : List ℕ)
      × GaveAll (most_bytes options.long) (capture_text options) (said_text options) (capture_end options)
      (reader_run remaining old new) input
      × (end ≡ run_end_as (decode_status (capture_end options input).end) (capture_text options input) (capture_end options input).hint)

  abbrev pub TellRuns : End → Type 0
  TellRuns (Printed status text) = TellsWhole (Printed status text)
  TellRuns (Hinted status text words) = TellsWhole (Hinted status text words)
  TellRuns (CutShort text) = IsCut (most_bytes options.long) (capture_text options) (said_text options)
      (capture_end options) (reader_run remaining old new) text
  TellRuns (Broken text words) = (fault : TextFault) × (words ≡ unwritten_words (untold options.long fault))
      × (IsTrue new.failed ↔ (fault ≡ Read)) × (front : List ℕ)
      × Breaks (most_bytes options.long) (capture_text options) (said_text options) (capture_end options)
      (reader_run remaining old new) fault front
      × IsTold (said_text options) fault front text
  TellRuns (Refused status words) = ⊥
  TellRuns (Misused text) = ⊥

-- ---- `check`

-- how a check of a log ends, by what the receiver lets parts lack and what its reader gave: the line of the whole log was printed, or
-- nothing was
abbrev pub CheckRuns : {R : Type 0} → List PartRegisters → (R → Option (List ℕ)) → Held R → Held R → End → Type 0
CheckRuns allowed remaining old new (Printed status text) = IsFalse new.failed × (input : List ℕ)
    × IsAll (remaining old.inner) (remaining new.inner) input × (status ≡ log_status (log_end allowed input))
    × (text ≡ log_text allowed input)
CheckRuns allowed remaining old new (Hinted status text words) = ⊥
CheckRuns allowed remaining old new (CutShort text) = IsFalse new.failed × (input : List ℕ)
    × IsAll (remaining old.inner) (remaining new.inner) input × (text ≡ log_text allowed input)
CheckRuns allowed remaining old new (Refused status words) = (status ≡ 1) × (fault : TextFault) × (words ≡ text_refusal fault)
    × (IsTrue new.failed ↔ (fault ≡ Read)) × LogBreaks (remaining old.inner) (remaining new.inner) fault
CheckRuns allowed remaining old new (Broken text words) = ⊥
CheckRuns allowed remaining old new (Misused text) = ⊥

-- ---- any of these

-- how a command ends that reads one text and writes another, by what its reader gave
abbrev pub CommandRuns : {R : Type 0} → TextCommand → (R → Option (List ℕ)) → Held R → Held R → End → Type 0
CommandRuns command.Hear remaining old new end = EngineRuns hear_engine (λ _. 0) remaining old new end
CommandRuns command.Replay remaining old new end = EngineRuns replaying replay_status remaining old new end
CommandRuns command.Decode remaining old new end = EngineRuns decoding decode_status remaining old new end
CommandRuns (command.Tell options) remaining old new end = TellRuns options remaining old new end
CommandRuns (command.Check lacks) remaining old new end = CheckRuns lacks.parts remaining old new end

-- how a run ends that asks for a telling, or for none that can be: then nothing is read
abbrev pub AskedEnds : {R : Type 0} → (R → Option (List ℕ)) → Held R → Held R → Result TellOptions TellFault → End → Type 0
AskedEnds remaining old new (Ok options) end = CommandRuns (command.Tell options) remaining old new end
AskedEnds remaining old new (Err fault) end = (new ≡ old)
    × (end ≡ Refused (tell_fault_status fault) (tell_fault_words fault))

-- how a run ends whose options were written so
abbrev pub TellEnds : {R : Type 0} → (R → Option (List ℕ)) → Held R → Held R → TellTexts → End → Type 0
TellEnds remaining old new given end = (asked : Result TellOptions TellFault) × IsAsked given asked
    × AskedEnds remaining old new asked end

-- ---- `number`

-- why `number` refuses; memory is asked for only for a line to write
abbrev pub NumberRefuses : Result Question NumberFault → NumberFault → Type 0
NumberRefuses asked (Num fault) = RefusesNumber asked fault
NumberRefuses asked (OfText Memory) = (text : List ℕ) × IsNumberText asked text
NumberRefuses asked (OfText fault) = ⊥
NumberRefuses asked fault = asked ≡ Err fault

-- how `number` ends
abbrev pub NumberEnds : Result Question NumberFault → End → Type 0
NumberEnds asked (Printed status text) = (status ≡ 0) × IsNumberText asked text
NumberEnds asked (Hinted status text words) = ⊥
NumberEnds asked (CutShort text) = IsNumberText asked text
NumberEnds asked (Refused status words) = (fault : NumberFault) × (status ≡ refusal_status fault)
    × (words ≡ number_refusal_words fault) × NumberRefuses asked fault
NumberEnds asked (Broken text words) = ⊥
NumberEnds asked (Misused text) = ⊥

-- ---- the command line

-- how `check` ends: nothing is read if a text of `--lacks` can't be
abbrev pub bad_lacks : List ℕ
bad_lacks = codes "bad lacks: give an address and VOUT_MAX, VOUT_MARGIN_HIGH, VOUT_MARGIN_LOW or VOUT_MIN, as 58:VOUT_MAX,VOUT_MIN"

abbrev pub CheckEnds : {R : Type 0} → (R → Option (List ℕ)) → Held R → Held R → Option Lacks → End → Type 0
CheckEnds remaining old new (Some lacks) end = CommandRuns (command.Check lacks) remaining old new end
CheckEnds remaining old new None end = (new ≡ old) × (end ≡ Refused 2 bad_lacks)

-- how the command that was chosen ends; `number` reads nothing
abbrev pub ChoiceEnds : {R : Type 0} → (R → Option (List ℕ)) → Held R → Held R → Chosen → End → Type 0
ChoiceEnds remaining old new Hear end = CommandRuns command.Hear remaining old new end
ChoiceEnds remaining old new Replay end = CommandRuns command.Replay remaining old new end
ChoiceEnds remaining old new Decode end = CommandRuns command.Decode remaining old new end
ChoiceEnds remaining old new (Tell given) end = TellEnds remaining old new given end
ChoiceEnds remaining old new (Check lacks) end = CheckEnds remaining old new lacks end
ChoiceEnds remaining old new (NumberChosen format word micro) end = (new ≡ old)
    × NumberEnds (question_of_options format word micro) end

-- how a command line ends of which the parser finds a fault of this kind: help or the version that was
-- asked for is printed, and what is said of any other fault is the parser's own text; each says something
abbrev pub UsageEnds : ErrorKind → End → Type 0
UsageEnds kind (Printed status text) = (status ≡ 0) × (usage_status kind ≡ 0) × IsSaid text
UsageEnds kind (Hinted status text words) = ⊥
UsageEnds kind (CutShort text) = (usage_status kind ≡ 0) × IsSaid text
UsageEnds kind (Refused status words) = ⊥
UsageEnds kind (Broken text words) = ⊥
UsageEnds kind (Misused text) = (usage_status kind ≡ 2) × IsSaid text

-- memory for the command line itself was refused
abbrev pub wants_memory : End
wants_memory = Refused 1 (fault_words Memory)

-- how a run ends that does nothing of what its words ask for: by a fault that the parser finds, or for want of memory,
-- with nothing read
abbrev pub ParserEnds : {R : Type 0} → Held R → Held R → Kinds → End → Type 0
ParserEnds old new faults end = ((new ≡ old) × (kind : ErrorKind) × IsAmong kind faults × UsageEnds kind end)
    ⊎ ((new ≡ old) × (end ≡ wants_memory))

-- how a run ends: if the parser finds no fault, as what it found to be chosen; otherwise as `ParserEnds` says
abbrev pub WordsEnd : {R : Type 0} → (R → Option (List ℕ)) → Held R → Held R → List Text → End → Type 0
WordsEnd remaining old new words end =
    ((fault_of pmb words ≡ []) × (chosen : Chosen)
    × IsSomeAnd (subcommand_of pmb words) (λ met. Asks met.0 met.1 chosen)
    × ChoiceEnds remaining old new chosen end)
    ⊎ ParserEnds old new (fault_of pmb words) end

-- how a run ends whose arguments couldn't be had as words
abbrev pub no_words_end : IoKind → End
no_words_end kind = Refused (no_words_status kind) (bad_arguments_words kind)

-- how a run ends, by its words or why there are none
abbrev pub RunEnds : {R : Type 0} → (R → Option (List ℕ)) → Held R → Held R → Result (List Text) IoKind → End → Type 0
RunEnds remaining old new (Ok words) end = WordsEnd remaining old new words end
RunEnds remaining old new (Err kind) end = (new ≡ old) × (end ≡ no_words_end kind)

-- ---- a run as a whole

-- what standard output and standard error got, and the status, are those of an end
pub record IsEnd {W E : Type 0} (out : W → Option (List ℕ)) (err : E → Option (List ℕ))
    (output output' : Held W) (errors errors' : Held E) (status : ℕ) (end : End) : Type 0 where
  pub status_is : status ≡ status_of end
  pub printed : Prints out output output' end
  pub said : SaysAny err errors errors' (said_to_errors end)

-- a text that was written is handed on, or standard output failed as it should be
abbrev pub IsDone : {W E : Type 0} → (E → Option (List ℕ)) → Held W → Held E → Held E → ℕ → ℕ → Type 0
IsDone err output errors errors' wanted status =
    ((IsFalse output.failed) × (status ≡ wanted) × (errors' ≡ errors))
    ⊎ ((IsTrue output.failed) × (status ≡ 1)
    × Says err errors errors' (refusal_line (fault_words Write)))

-- a telling's text that was written is handed on and standard error says what may be wrong, or standard output failed as it should be
abbrev pub SaysHint : {E : Type 0} → (E → Option (List ℕ)) → Held E → Held E → Option Hint → Type 0
SaysHint err errors errors' None = errors' ≡ errors
SaysHint err errors errors' (Some hint) = Says err errors errors' (refusal_line (hint_words hint))

abbrev pub IsToldDone : {W E : Type 0} → (E → Option (List ℕ)) → Held W → Held E → Held E → ℕ → Option Hint → ℕ → Type 0
IsToldDone err output errors errors' wanted hint status =
    ((IsFalse output.failed) × (status ≡ wanted) × SaysHint err errors errors' hint)
    ⊎ ((IsTrue output.failed) × (status ≡ 1)
    × Says err errors errors' (refusal_line (fault_words Write)))

-- How a command ran that may end so: its text was written whole, to be printed or cut short if it isn't handed on; or why it
-- wasn't, and how the command then ends, of which standard error doesn't know yet.
abbrev pub Runs : {W : Type 0} → (End → Type 0) → (W → Option (List ℕ)) → Held W → Held W → Result Written Unwritten → Type 0
Runs ends contents old new (Ok written) = (IsFalse new.failed) × (text : List ℕ)
    × Appends (contents old.inner) (contents new.inner) text
    × ends (run_end_as written.status text written.hint) × ends (CutShort text)
Runs ends contents old new (Err refusal) = (end : End) × ends end × (status_of end ≡ 1) × Prints contents old new end
    × (said_to_errors end ≡ Some (refusal_line (unwritten_words refusal)))
