-- The words of a command line, as a program is handed them. This project's own choice.
use Rattle.std.specs.Prelude.{List, Result, Ok, Err}
use Rattle.std.specs.Borrow.{Bor}
use Rattle.std.specs.declared.io.ErrorKind.{ErrorKind}
use Rattle.clap.specs.Walk.{texts}
use Rattle.clap.specs.Words.{Text}

-- the words' texts, or why there are none
abbrev pub arguments_of : Result (Bor (List (Bor Text))) ErrorKind → Result (List Text) ErrorKind
arguments_of (Ok words) = Ok (texts words.now)
arguments_of (Err kind) = Err kind
