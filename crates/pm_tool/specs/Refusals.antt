-- What standard error gets of a refusal, and the statuses of those that a command line has. This project's own
-- choice.
use Rattle.std.specs.Prelude.{◌⊎◌, ℕ, List, [], ◌++◌, Option, Some, None, IsTrue, IsFalse, codes, decimal}
use Rattle.std.specs.Io.KnownBytes.{Appends}
use Rattle.std.specs.declared.io.ErrorKind.{ErrorKind}
use Rattle.std.specs.declared.io.ErrorKind.TheVariants.{OutOfMemory}
use Rattle.pm_lines.specs.Faults.{fault_line, fault_setup, fault_words}
use Rattle.pm_lines.specs.Streams.{AppendsFront, Held}
use Rattle.pm_lines.specs.declared.fault.TextFault.{TextFault}
use Rattle.pm_lines.specs.declared.fault.TextFault.TheVariants.{Memory}
use Rattle.pm_setup.specs.FaultWords.{setup_fault_text}
use Rattle.pm_setup.specs.declared.setup_fault.SetupFault.{SetupFault}

-- the line of a program that says a refusal: `pmb: X6 Memory`
abbrev pub program_line : List ℕ → List ℕ → List ℕ
program_line program words = program ++ (codes ": " ++ (words ++ codes "\n"))

-- standard error got the text, or a strict front of it if it failed
abbrev pub Says : {E : Type 0} → (E → Option (List ℕ)) → Held E → Held E → List ℕ → Type 0
Says contents old new text =
    (IsFalse new.failed × Appends (contents old.inner) (contents new.inner) text)
    ⊎ (IsTrue new.failed × AppendsFront (contents old.inner) (contents new.inner) text)

-- the words for a text's fault, and its line if it has one
abbrev pub line_words : Option ℕ → List ℕ
line_words None = []
line_words (Some line) = codes " line " ++ decimal line

-- the words for why nothing can be made of what a text asks for, if that is its fault
abbrev pub reason_words : Option SetupFault → List ℕ
reason_words None = []
reason_words (Some fault) = codes " " ++ setup_fault_text fault

abbrev pub text_refusal : TextFault → List ℕ
text_refusal fault =
    fault_words fault ++ (line_words (fault_line fault) ++ reason_words (fault_setup fault))

-- the status if the arguments can't be had as words, and what is said
abbrev pub no_words_status : ErrorKind → ℕ
no_words_status OutOfMemory = 1
no_words_status _ = 2

abbrev pub bad_arguments_words : ErrorKind → List ℕ
bad_arguments_words OutOfMemory = fault_words Memory
bad_arguments_words _ = codes "bad arguments"
