-- Readers of a scenario's words and lines. A reader takes from what is left, and gives what it read
-- and what is left then, or the first fault. Words are taken in their order, and each is judged as
-- what stands at its place. This project's own choice.
use Rattle.std.specs.Prelude.{◌≡◌, ℕ, ◌+◌, false, List, [], ◌∷◌, map, Option, Some, None, Result, Ok, Err, IfOk, bytes_eq, if◌then◌else◌}
use Rattle.pm_lines.specs.Lines.{Numbered, WordsLeft, words_of}
use Rattle.pm_text.specs.declared.scenario.fault.ScenarioFault.{ScenarioFault}
use Rattle.pm_text.specs.declared.scenario.fault.ScenarioFault.TheVariants.{Syntax}

abbrev pub Reading : Type 0 → Type 0 → Type 0
Reading S A = S → Result (A × S) ScenarioFault

-- a value that was read, and the reader of what follows it
abbrev pub read_on : {S A B : Type 0} → Result (A × S) ScenarioFault → (A → Reading S B) → Result (B × S) ScenarioFault
read_on (Ok got) next = next got.0 got.1
read_on (Err fault) next = Err fault

infixl 10 ◌>>=◌
abbrev pub ◌>>=◌ : {S A B : Type 0} → Reading S A → (A → Reading S B) → Reading S B
(read >>= next) left = read_on (read left) next

infixl 10 ◌>>◌
abbrev pub ◌>>◌ : {S A B : Type 0} → Reading S A → Reading S B → Reading S B
(read >> next) left = read_on (read left) (λ _. next)

-- this value, and nothing is taken
abbrev pub gives : {S A : Type 0} → A → Reading S A
gives x left = Ok (x, left)

-- what a call gave, and what it left, are what a reader reads; after a fault nothing is said of what
-- is left
abbrev pub Reads : {S A : Type 0} → Result A ScenarioFault → S → Result (A × S) ScenarioFault → Type 0
Reads (Ok x) left read = read ≡ Ok (x, left)
Reads (Err fault) left read = read ≡ Err fault

-- a call that leaves the value in a place of the caller's reads what a reader reads
abbrev pub ReadsTo : {S A : Type 0} → Result (Unit {0}) ScenarioFault → A → S → Result (A × S) ScenarioFault → Type 0
ReadsTo (Ok done) x left read = read ≡ Ok (x, left)
ReadsTo (Err fault) x left read = read ≡ Err fault

-- a call that says nothing of what is left reads what a reader reads
abbrev pub IsRead : {A : Type 0} → Result (Unit {0}) ScenarioFault → A → Result A ScenarioFault → Type 0
IsRead (Ok done) x read = read ≡ Ok x
IsRead (Err fault) x read = read ≡ Err fault

-- ---- the words of a line

-- a reader of the words that are left of a line
abbrev pub Field : Type 0 → Type 0
Field = Reading WordsLeft

abbrev pub word_or_fault : ℕ → List (List ℕ) → Result (List ℕ × WordsLeft) ScenarioFault
word_or_fault line [] = Err (Syntax line)
word_or_fault line (text ∷ words) = Ok (text, record { line = line; words = words })

-- the next word; X1 if the line has no more
unfoldable pub word : Field (List ℕ)
word left = word_or_fault left.line left.words

-- the next word, if there is one, isn't this
abbrev pub IsNotNext : List ℕ → WordsLeft → Type 0
IsNotNext name left = IfOk (word left) (λ next. bytes_eq next.0 name ≡ false)

-- a value, or the fault that stands for its absence
abbrev pub or_fault : {A : Type 0} → Option A → ScenarioFault → WordsLeft → Result (A × WordsLeft) ScenarioFault
or_fault (Some x) fault left = Ok (x, left)
or_fault None fault left = Err fault

-- the next word as one of a kind, with the fault of a word that is none
abbrev pub field : {A : Type 0} → (ℕ → ScenarioFault) → (List ℕ → Option A) → Field A
field fault kind = do
  text ← word
  λ left. or_fault (kind text) (fault left.line) left

-- the value that a list of names has for a word
abbrev pub named : {A : Type 0} → List (List ℕ × A) → List ℕ → Option A
named [] text = None
named (entry ∷ entries) text = if bytes_eq text entry.0 then Some entry.1 else named entries text

-- the next word chooses among readers by their names; X1 if none has it
abbrev pub one_of : {A : Type 0} → List (List ℕ × Field A) → Field A
one_of readers = do
  read ← field Syntax (named readers)
  read

-- what a reader reads, made into something else
abbrev pub made_into : {A B : Type 0} → (A → B) → Field A → Field B
made_into make read = do
  x ← read
  gives (make x)

-- readers by their names, with what each reads made into something else
abbrev pub lines_into : {A B : Type 0} → (A → B) → List (List ℕ × Field A) → List (List ℕ × Field B)
lines_into make readers = map (λ line. (line.0, made_into make line.1)) readers

-- a line is read whole: a word too many is X1
abbrev pub whole : {A : Type 0} → Result (A × WordsLeft) ScenarioFault → Result A ScenarioFault
whole (Err fault) = Err fault
whole (Ok got) = whole_of got.0 got.1.line got.1.words
  where
    whole_of : {A : Type 0} → A → ℕ → List (List ℕ) → Result A ScenarioFault
    whole_of x line [] = Ok x
    whole_of x line (text ∷ words) = Err (Syntax line)

abbrev pub line_as : {A : Type 0} → Field A → Numbered → Result A ScenarioFault
line_as read line = whole (read (record { line = line.0; words = words_of line.1 }))

-- ---- the lines of a text

-- how many lines a text has, and those that are left, without the skipped ones
pub record Rest : Type 0 where
  pub count : ℕ
  pub lines : List Numbered

-- a reader of the lines that are left
abbrev pub Part : Type 0 → Type 0
Part = Reading Rest

abbrev pub line_or_fault : ℕ → List Numbered → Result (Numbered × Rest) ScenarioFault
line_or_fault count [] = Err (Syntax (count + 1))
line_or_fault count (line ∷ lines) = Ok (line, record { count = count; lines = lines })

-- the next line; a missing line is X1 with the number after the last
unfoldable pub next_row : Part Numbered
next_row rest = line_or_fault rest.count rest.lines

abbrev pub kept_rest : {A : Type 0} → Result A ScenarioFault → Rest → Result (A × Rest) ScenarioFault
kept_rest (Ok x) rest = Ok (x, rest)
kept_rest (Err fault) rest = Err fault

-- the next line, read whole
abbrev pub whole_line : {A : Type 0} → Field A → Part A
whole_line read = do
  numbered ← next_row
  λ rest. kept_rest (line_as read numbered) rest
