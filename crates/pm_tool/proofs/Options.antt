-- The options that a command line gives.
use Rattle.std.specs.{Borrow.Bor, Char.char_set_contains, Option.option_and_then}
use Rattle.std.specs.List.{find, fold, list_all, list_any}
use Rattle.std.specs.Prelude.{slice_get, if◌then◌else◌}
use Rattle.std.specs.Str.{bytes_eq, NoCharPasses}
use Rattle.std.specs.Str.Pattern.{FindsBy, SplitsAroundMatch}
use Rattle.std.proofs.{lemmas.Bool.Decides.nat_tests, lemmas.List.drop-map, lemmas.Str.NoCharPasses-byte}
use Rattle.std.proofs.Common.{◌≡◌, ◌∙◌, ◌&&◌, ◌||◌, Bool, true, false, not, cond, refl, sym, ap, ap₂, List, [], ◌∷◌, ◌++◌, map, is_some}
use Rattle.std.proofs.Common.{Some, None, codes, unwrap_or, true≢false, append-nil, append_assoc, option_map, ◌<◌, ◌⊎◌, ℕ, ℤ, pos, neg_ℤ}
use Rattle.std.proofs.Common.{suc, subst, arith, inl, inr, length, get_or, Option, MatchOption, eqb, nat_lt, ne_eqb, eqb-true, drop}
use Rattle.std.proofs.Common.{take-append-drop, ◌+◌, drop-cons}
use Rattle.std.proofs.lemmas.Str.Pattern.{IsSplitOnceResult, drop_at_char, split_parts}
use Rattle.clap.specs.{declared.builder.value_parser.Reading.TheVariants.AsWritten}
use Rattle.clap.specs.{declared.parser.matches.ValueSource.TheVariants.CommandLine}
use Rattle.clap.specs.Faults.{check_fault, default_fault, defaults_fault, entered_fault, given_default_fault, level_fault, settle_fault}
use Rattle.clap.specs.Faults.{turn_fault, walk_fault}
use Rattle.clap.specs.Kinds.{Kinds, or_else}
use Rattle.clap.specs.Simple.{Shape, entered, names_of}
use Rattle.clap.specs.Walk.{Row, Rule, Text as WalkText, Walk, at_row, default_rows, finished, first_of, has_row, is_empty, more_values}
use Rattle.clap.specs.Walk.{nothing_held, reading_by, settled, walk_from, walked, with_default, with_values, without}
use Rattle.clap.specs.Words.{built, subcommand_of, fault_of}
use Rattle.clap.proofs.FaultLemmas.{past, stopped_fault}
use Rattle.clap.proofs.OnLiterals.{clap_on_literals}
use Rattle.clap.proofs.SimpleLemmas.{is_false, is_nil}
use Rattle.clap.proofs.WalkLemmas.{both, walk_stopped}
use Rattle.pm_limits.specs.declared.part_registers.PartRegisters.{PartRegisters}
use Rattle.pm_lines.specs.Digits.{are_digits, decimal_of, digit, fits, natural_of, place_sum, signed_of}
use Rattle.pm_log.specs.Lacks.{lacking_more}
use Rattle.pm_tool.specs.Commandline.{Given, NumberOption, format_option, is_option_named, is_once, micro_option, number_words, option_name}
use Rattle.pm_tool.specs.Commandline.{option_word, pmb, word_option}
use Rattle.pm_tool.specs.Lacking.{lacking_named, lacks_by, lacks_names, lacks_in_text, lacks_texts}
use Rattle.pm_tool.specs.Question.{before_parts, direct_format, exponent_format, format_by, is_colon, is_comma, items, parts, parts_by}
use Rattle.pm_tool.specs.Question.{Text as QuestionText}

-- What the parser makes of `PROGRAM number --NAME=TEXT ..`, if no option is used twice.

-- the row that one use of an option leaves
abbrev pub row : Given → Row
row one = record {
  id = option_name one.option;
  values = one.text ∷ [];
  count = None;
  source = Some CommandLine;
  reading = AsWritten;
}

-- ---- rows of which an option has none yet

-- the rows that stand for a missing one are added if an option has no row
at_none : (id : WalkText) (change : Row → List Row) (missing rows : List Row) → has_row id rows ≡ false
    → at_row id change missing rows ≡ rows ++ missing
at_none id change missing [] none = refl
at_none id change missing (r ∷ rs) none = go (bytes_eq r.id id) none (at_none id change missing rs)
  where
    go : (b : Bool) → (b || has_row id rs) ≡ false → (has_row id rs ≡ false → at_row id change missing rs ≡ rs ++ missing)
        → cond b (change r ++ rs) (r ∷ at_row id change missing rs) ≡ r ∷ (rs ++ missing)
    go true n rest = absurd (true≢false n)
    go false n rest = ap (λ xs. r ∷ xs) (rest n)

-- a use of an option that has no row adds the option's row
rows_used : (one : Given) (rows : List Row) → has_row (option_name one.option) rows ≡ false
    → with_values (option_name one.option) AsWritten CommandLine (one.text ∷ []) (without (option_name one.option) rows)
    ≡ rows ++ row one ∷ []
rows_used one rows none =
    ap (with_values (option_name one.option) AsWritten CommandLine (one.text ∷ [])) (at_none _ (λ _. []) [] rows none ∙ append-nil rows)
    ∙ at_none (option_name one.option) (more_values CommandLine (one.text ∷ [])) (row one ∷ []) rows none

-- an option has a row among these and one more exactly if it has one among these or that one is its own
has_row-push : (id : WalkText) (rows : List Row) (r : Row) → has_row id (rows ++ r ∷ []) ≡ (has_row id rows || bytes_eq r.id id)
has_row-push id [] r = or_false (bytes_eq r.id id)
  where
    or_false : (b : Bool) → (b || false) ≡ b
    or_false true = refl
    or_false false = refl
has_row-push id (x ∷ xs) r = go (bytes_eq x.id id) (has_row-push id xs r)
  where
    go : (b : Bool) → has_row id (xs ++ r ∷ []) ≡ (has_row id xs || bytes_eq r.id id)
        → (b || has_row id (xs ++ r ∷ [])) ≡ ((b || has_row id xs) || bytes_eq r.id id)
    go true e = refl
    go false e = e

-- two options' names are compared alike in either order
same_either_way : (a b : NumberOption) → bytes_eq (option_name a) (option_name b) ≡ bytes_eq (option_name b) (option_name a)
same_either_way format_option format_option = refl
same_either_way format_option word_option = refl
same_either_way format_option micro_option = refl
same_either_way word_option format_option = refl
same_either_way word_option word_option = refl
same_either_way word_option micro_option = refl
same_either_way micro_option format_option = refl
same_either_way micro_option word_option = refl
same_either_way micro_option micro_option = refl

-- no option that is given has a row
abbrev is_new : List Row → Given → Bool
is_new rows one = not (has_row (option_name one.option) rows)

-- each option is new if there are no rows
all_new_first : (given : List Given) → list_all (is_new []) given ≡ true
all_new_first [] = refl
all_new_first (one ∷ rest) = all_new_first rest

-- a use of another option leaves them new
new_after : (a b : Bool) → not a ≡ true → not b ≡ true → not (a || b) ≡ true
new_after true b new other = absurd (true≢false (sym new))
new_after false b new other = other

-- what isn't one of two is neither
none_or : (a b : Bool) → not (a || b) ≡ true → (not a ≡ true) × (not b ≡ true)
none_or true b e = absurd (true≢false (sym e))
none_or false b e = (refl, e)

-- after a use of an option, the other options that were new still are
all_new_after : (one : Given) (rows : List Row) (given : List Given) → list_all (is_new rows) given ≡ true
    → not (list_any (is_option_named (option_name one.option)) given) ≡ true
    → list_all (is_new (rows ++ row one ∷ [])) given ≡ true
all_new_after one rows [] new others = refl
all_new_after one rows (next ∷ rest) new others =
    let parts = both (is_new rows next) _ new in
    let apart = none_or (is_option_named (option_name one.option) next) _ others in
    let first : is_new (rows ++ row one ∷ []) next ≡ true =
    ap not (has_row-push (option_name next.option) rows (row one))
    ∙ new_after (has_row (option_name next.option) rows) _ parts.0 (ap not (same_either_way one.option next.option) ∙ apart.0) in
    ap₂ (λ x y. x && y) first (all_new_after one rows rest parts.1 apart.1)

-- ---- the walk over the options

-- the subcommand `number` as the parser built it
abbrev number_built : Shape
number_built = unwrap_or (find (λ s. bytes_eq s.name (codes "number")) (built pmb).subs) (built pmb).top

-- a walk that holds these rows and waits for no value
abbrev with_rows : List Row → Walk
with_rows rows = walk_from (record { rows = rows; pending = None; skip = 0 })

-- a step over an option's word leaves the option a row with only that text
stepped_as : (option : NumberOption) (text : WalkText) (rows : List Row)
    → walked number_built.rules [] (with_rows rows) (option_word (record { option = option; text = text }))
    ≡ with_rows (with_values (option_name option) AsWritten CommandLine (text ∷ []) (without (option_name option) rows))
unfolding clap_on_literals
stepped_as format_option text rows = refl
stepped_as word_option text rows = refl
stepped_as micro_option text rows = refl

-- a step over an option's word adds the option's row if it had none
stepped : (one : Given) (rows : List Row) → has_row (option_name one.option) rows ≡ false
    → walked number_built.rules [] (with_rows rows) (option_word one) ≡ with_rows (rows ++ row one ∷ [])
stepped one rows none = stepped_as one.option one.text rows ∙ ap with_rows (rows_used one rows none)

-- a step of an option without a row has no fault
turn_passes : (option : NumberOption) (text : WalkText) (rows : List Row) → has_row (option_name option) rows ≡ false
    → turn_fault number_built [] (with_rows rows) (option_word (record { option = option; text = text })) ≡ []
unfolding clap_on_literals
turn_passes format_option text rows none = rw none refl
turn_passes word_option text rows none = rw none refl
turn_passes micro_option text rows none = rw none refl

-- the steps over options that are used once each add a row for each
walk_over : (given : List Given) (rows : List Row) → list_all (is_new rows) given ≡ true → is_once given ≡ true
    → fold (walked number_built.rules []) (with_rows rows) (map option_word given) ≡ with_rows (rows ++ map row given)
walk_over [] rows new once = ap with_rows (sym (append-nil rows))
walk_over (one ∷ rest) rows new once =
    let parts = both (is_new rows one) _ new in
    let apart = both (not (list_any (is_option_named (option_name one.option)) rest)) _ once in
    ap (λ w. fold (walked number_built.rules []) w (map option_word rest)) (stepped one rows (is_false _ parts.0))
    ∙ walk_over rest (rows ++ row one ∷ []) (all_new_after one rows rest parts.1 apart.0) apart.1
    ∙ ap with_rows (append_assoc rows (row one ∷ []) (map row rest))

-- the walk over new options has no fault
walk_passes : (given : List Given) (rows : List Row) → list_all (is_new rows) given ≡ true → is_once given ≡ true
    → walk_fault number_built [] (with_rows rows) (map option_word given) ≡ []
unfolding walk_fault
walk_passes [] rows new once = refl
walk_passes (one ∷ rest) rows new once =
    let parts = both (is_new rows one) _ new in
    let apart = both (not (list_any (is_option_named (option_name one.option)) rest)) _ once in
    let none = is_false _ parts.0 in
    past _ _ (turn_passes one.option one.text rows none)
    ∙ ap (λ w. walk_fault number_built [] w (map option_word rest)) (stepped one rows none)
    ∙ walk_passes rest (rows ++ row one ∷ []) (all_new_after one rows rest parts.1 apart.0) apart.1

-- ---- after the walk: no option has a default

-- a rule without defaults leaves the rows
no_default : (rows : List Row) (a : Rule) → a.defaults ≡ [] → with_default rows a ≡ rows
no_default rows a none = ap (λ ds. cond (has_row a.id rows) rows (default_rows a.id (reading_by a) ds rows)) none ∙ same (has_row a.id rows)
  where
    same : (b : Bool) → cond b rows rows ≡ rows
    same true = refl
    same false = refl

-- rules without a default add no row
no_defaults : (rules : List Rule) (rows : List Row) → list_all (λ a. is_empty a.defaults) rules ≡ true → fold with_default rows rules ≡ rows
no_defaults [] rows none = refl
no_defaults (a ∷ rest) rows none =
    let parts = both (is_empty a.defaults) _ none in
    ap (λ rs. fold with_default rs rest) (no_default rows a (is_nil a.defaults parts.0)) ∙ no_defaults rest rows parts.1

-- rules without a default have no fault of a default
defaults_pass : (rules : List Rule) (rows : List Row) → list_all (λ a. is_empty a.defaults) rules ≡ true → defaults_fault rows rules ≡ []
unfolding defaults_fault
defaults_pass [] rows none = refl
defaults_pass (a ∷ rest) rows none =
    let parts = both (is_empty a.defaults) _ none in
    let passes : default_fault rows a ≡ [] = rw parts.0 (go (has_row a.id rows)) in
    past _ _ passes ∙ ap (λ rs. defaults_fault rs rest) (no_default rows a (is_nil a.defaults parts.0)) ∙ defaults_pass rest rows parts.1
  where
    go : (b : Bool) → cond (b || true) [] (given_default_fault a a.defaults) ≡ []
    go true = refl
    go false = refl

-- ---- the text of an option, by its row

-- the first text of an option's row is that of its first use
pub first_text : (name : WalkText) (given : List Given)
    → first_of name (map row given) ≡ option_map (λ one. one.text) (find (is_option_named name) given)
first_text name [] = refl
first_text name (one ∷ rest) = go (is_option_named name one) (first_text name rest)
  where
    go : (b : Bool) → first_of name (map row rest) ≡ option_map (λ one. one.text) (find (is_option_named name) rest)
        → option_and_then (λ (r : Row). slice_get r.values 0) (cond b (Some (row one)) (find (λ r. bytes_eq r.id name) (map row rest)))
        ≡ option_map (λ (u : Given). u.text) (cond b (Some one) (find (is_option_named name) rest))
    go true e = refl
    go false e = e

-- ---- the whole command line

-- the walk of the whole command line, which ends at the subcommand
stopped_walk : (words : List WalkText) → ◌≡◌ {A = Walk} (record (walk_from nothing_held) { stopped = Some (codes "number", words) })
    (fold (walked (built pmb).top.rules (names_of (built pmb))) (walk_from nothing_held) (codes "number" ∷ words))
unfolding clap_on_literals
stopped_walk words = walk_stopped (built pmb).top.rules (names_of (built pmb)) (walk_from nothing_held) (codes "number") [] words

-- the parser meets `number`, with a row for each use of an option
pub number_met : (program : WalkText) (given : List Given) → is_once given ≡ true
    → subcommand_of pmb (number_words program given) ≡ Some (codes "number", map row given)
number_met program given once =
    ap (λ (w : Walk). entered (built pmb) w.stopped) (sym (stopped_walk (map option_word given)))
    ∙ ap (λ (w : Walk). Some (codes "number", finished number_built.rules w.held)) (walk_over given [] (all_new_first given) once)
    ∙ ap (λ rows. Some (codes "number", rows)) (no_defaults number_built.rules (map row given) refl)

-- the steps after a walk that ended so, and that found these faults: those of a level of its own, and those of the whole
abbrev own_steps : Walk → Kinds → Kinds
own_steps w found = or_else found (or_else (settle_fault number_built.rules number_built.args_override_self w.held)
    (or_else (defaults_fault (settled number_built.rules w.held).rows number_built.rules) (check_fault number_built
    (finished number_built.rules w.held) false)))

-- the level above the subcommands, as the parser built it
abbrev top : Shape
top = (built pmb).top

-- the steps of the whole command line
abbrev whole_steps : Walk → Kinds → Kinds
whole_steps w found = or_else found (or_else (entered_fault (built pmb) w.stopped) (or_else
    (settle_fault top.rules top.args_override_self w.held)
    (or_else (defaults_fault (settled top.rules w.held).rows top.rules) (check_fault top (finished top.rules w.held) (is_some (entered
    (built pmb) w.stopped))))))

-- the words after `number` have no fault at its own level
own_level : (given : List Given) → is_once given ≡ true → level_fault number_built [] nothing_held (map option_word given) false [] ≡ []
own_level given once =
    ap₂ own_steps (walk_over given [] (all_new_first given) once) (walk_passes given [] (all_new_first given) once)
    ∙ ap (λ k. or_else k (check_fault number_built (finished number_built.rules (with_rows (map row given)).held) false))
    (defaults_pass number_built.rules (map row given) refl)

-- the walk of the whole command line has no fault
whole_walk : (words : List WalkText) → walk_fault top (names_of (built pmb)) (walk_from nothing_held) (codes "number" ∷ words) ≡ []
unfolding clap_on_literals
whole_walk words = stopped_fault top (names_of (built pmb)) (walk_from nothing_held) (codes "number", []) words

-- the whole command line has no fault
pub number_passes : (program : WalkText) (given : List Given) → is_once given ≡ true → fault_of pmb (number_words program given) ≡ []
unfolding defaults_fault
number_passes program given once =
    ap₂ whole_steps (sym (stopped_walk (map option_word given))) (whole_walk (map option_word given))
    ∙ ap (λ k. or_else k []) (own_level given once)

-- The parts of a text between its colons, and the formats that they name.

-- a text by its bytes
abbrev Text : Type 0
Text = List ℕ

-- no mark stands in the text
abbrev NoMark : (ℕ → Bool) → Text → Type 0
NoMark is_mark text = (i : ℕ) → i < length text → is_mark (get_or text i 0) ≡ false

-- no mark stands in what follows the first character of a text without one
later : (is_mark : ℕ → Bool) (c : ℕ) (cs : Text) → NoMark is_mark (c ∷ cs) → NoMark is_mark cs
later is_mark c cs none i lt = none (suc i) (omega arith)

-- a text with no mark is its own one part
parts_plain : (is_mark : ℕ → Bool) (text : Text) → NoMark is_mark text → parts_by is_mark text ≡ text ∷ []
parts_plain is_mark [] none = refl
parts_plain is_mark (c ∷ cs) none =
    let here : is_mark c ≡ false = none 0 (omega arith) in
    rw (here, parts_plain is_mark cs (later is_mark c cs none)) refl

-- what stands before the first mark is the first part
parts_split : (is_mark : ℕ → Bool) (mark : ℕ) (front rest : Text) → is_mark mark ≡ true → NoMark is_mark front
    → parts_by is_mark (front ++ mark ∷ rest) ≡ front ∷ parts_by is_mark rest
parts_split is_mark mark [] rest is none = rw is refl
parts_split is_mark mark (c ∷ cs) rest is none =
    let here : is_mark c ≡ false = none 0 (omega arith) in
    rw (here, parts_split is_mark mark cs rest is (later is_mark c cs none)) refl

-- what `split_once` says at a comma, in these words
pub cut_at_comma : (text : Text) (r : Option (Bor Text × Bor Text)) → IsSplitOnceResult 44 text r
    → MatchOption r (items text ≡ text ∷ []) (λ found. items text ≡ found.0.now ∷ items found.1.now)
cut_at_comma text None h =
    let none = split_parts 44 text None h (omega arith) in
    parts_plain is_comma text (λ i lt. ne_eqb (get_or text i 0) 44 (none i lt))
cut_at_comma text (Some found) h =
    let p = split_parts 44 text (Some found) h (omega arith) in
    ap items p.0 ∙ parts_split is_comma 44 found.0.now found.1.now refl (λ i lt. ne_eqb (get_or found.0.now i 0) 44 (p.1 i lt))

-- a colon, or a slash in its place, is one byte
small : (c : ℕ) → is_colon c ≡ true → c < 128
small c is = grind (arith, nat_tests)

-- no byte of a text is a mark if no character is
no_colon : (text : Text) → NoCharPasses is_colon text → NoMark is_colon text
no_colon text none i lt = go (is_colon (get_or text i 0)) refl
  where
    go : (b : Bool) → is_colon (get_or text i 0) ≡ b → is_colon (get_or text i 0) ≡ false
    go false is = is
    go true is = NoCharPasses-byte is_colon text i none lt (small (get_or text i 0) is)

-- what the search for one of the two finds
abbrev FindsColon : Text → Option (ℕ × ℕ) → Type 0
FindsColon text r = (k : ℕ → Bool) → ((c : ℕ) → char_set_contains (58 ∷ 47 ∷ []) c ≡ k c) → FindsBy k text r

as_colon : (c : ℕ) → char_set_contains (58 ∷ 47 ∷ []) c ≡ is_colon c
as_colon c = grind (arith, nat_tests)

-- what `split_once` says at one of the two, in these words
pub cut_at_colon : (text : Text) (r : Option (Bor Text × Bor Text))
    → MatchOption r (FindsColon text None) (λ x. SplitsAroundMatch FindsColon text x.0.now x.1.now)
    → MatchOption r (parts text ≡ text ∷ []) (λ found. parts text ≡ found.0.now ∷ parts found.1.now)
cut_at_colon text None h = parts_plain is_colon text (no_colon text (h is_colon as_colon))
cut_at_colon text (Some found) h =
    let at = h.2 is_colon as_colon in
    let mark = at.1.0 in
    let behind : drop h.0 text ≡ mark ∷ drop h.1 text = drop_at_char mark text h.0 h.1 at.1.2 (small mark at.1.1) in
    let whole : text ≡ found.0.now ++ (mark ∷ found.1.now) = sym (take-append-drop h.0 text)
    ∙ (λ i. sym h.3 i ++ (behind ∙ ap (λ (l : Text). mark ∷ l) (sym h.4)) i) in
    ap parts whole
    ∙ parts_split is_colon mark found.0.now found.1.now at.1.1 (no_colon found.0.now (subst (NoCharPasses is_colon) (sym h.3) at.0))

-- ---- a text with a colon writes no number

-- a colon stands in the text
abbrev has_colon : Text → Bool
has_colon = list_any is_colon

-- neither of the two is a digit
no_digit : (c : ℕ) → is_colon c ≡ true → nat_lt (digit c) 10 ≡ false
no_digit c is = go (eqb c 58) refl is
  where
    go : (b : Bool) → eqb c 58 ≡ b → (b || eqb c 47) ≡ true → nat_lt (digit c) 10 ≡ false
    go true at is = let e : c ≡ 58 = eqb-true c 58 at in rw e refl
    go false at is = let e : c ≡ 47 = eqb-true c 47 is in rw e refl

-- a text with a colon isn't only digits
no_digits : (text : Text) → has_colon text ≡ true → are_digits 10 text ≡ false
no_digits [] e = absurd (true≢false (sym e))
no_digits (c ∷ cs) e = go (is_colon c) refl e (no_digits cs)
  where
    stop : (b : Bool) → (b && false) ≡ false
    stop true = refl
    stop false = refl

    go : (b : Bool) → is_colon c ≡ b → (b || has_colon cs) ≡ true → (has_colon cs ≡ true → are_digits 10 cs ≡ false)
        → (nat_lt (digit c) 10 && are_digits 10 cs) ≡ false
    go true is some rest = let at : nat_lt (digit c) 10 ≡ false = no_digit c is in rw at refl
    go false is some rest = rw (rest some) (stop (nat_lt (digit c) 10))

-- it writes no natural number
no_natural : (text : Text) → has_colon text ≡ true → natural_of 10 text ≡ None
no_natural text e = let none : are_digits 10 text ≡ false = no_digits text e in go (nat_lt 0 (length text)) (are_digits 10 text) none
  where
    go : (a b : Bool) → b ≡ false → cond (a && b) (Some (place_sum 10 text)) None ≡ None
    go true b e = rw e refl
    go false b e = refl

-- a text with a colon writes no integer
no_decimal : (text : Text) → has_colon text ≡ true → decimal_of text ≡ None
no_decimal [] e = refl
no_decimal (c ∷ cs) e = go (eqb c 45) refl
  where
    go : (b : Bool) → eqb c 45 ≡ b
        → cond b (option_map (λ n. neg_ℤ (pos n)) (natural_of 10 cs)) (option_map (λ n. pos n) (natural_of 10 (c ∷ cs))) ≡ None
    go true is =
        let at : c ≡ 45 = eqb-true c 45 is in
        let some : has_colon cs ≡ true = rw at at e in
        ap (option_map (λ n. neg_ℤ (pos n))) (no_natural cs some)
    go false is = ap (option_map (λ n. pos n)) (no_natural (c ∷ cs) e)

-- a text with a colon writes no integer of this many bits
no_signed : (bits : ℕ) (text : Text) → has_colon text ≡ true → signed_of bits text ≡ None
no_signed bits text e = ap (option_and_then (λ z. cond (fits bits z) (Some z) None)) (no_decimal text e)

-- ---- the shape of the parts: one, or two and more at a colon

-- two parts and more, with a colon between the first two
pub record Several (text : Text) : Type 0 where
  pub first : Text
  pub second : Text
  pub more : List Text
  pub are : parts text ≡ first ∷ second ∷ more
  pub colon : has_colon text ≡ true

-- each text has a first part
pub some_parts : (is_mark : ℕ → Bool) (text : Text) → (first : Text) × (more : List Text) × (parts_by is_mark text ≡ first ∷ more)
some_parts is_mark [] = ([], [], refl)
some_parts is_mark (c ∷ cs) = go (is_mark c) (some_parts is_mark cs)
  where
    go : (b : Bool) → (first : Text) × (more : List Text) × (parts_by is_mark cs ≡ first ∷ more)
        → (first : Text) × (more : List Text) × (cond b ([] ∷ parts_by is_mark cs) (before_parts c (parts_by is_mark cs)) ≡ first ∷ more)
    go true p = ([], parts_by is_mark cs, refl)
    go false p = (c ∷ p.0, p.1, ap (before_parts c) p.2)

-- a text is its own one part, or has several
shape : (text : Text) → (parts text ≡ text ∷ []) ⊎ Several text
shape [] = inl refl
shape (c ∷ cs) = go (is_colon c) refl (shape cs)
  where
    go : (b : Bool) → is_colon c ≡ b → (parts cs ≡ cs ∷ []) ⊎ Several cs → (parts (c ∷ cs) ≡ (c ∷ cs) ∷ []) ⊎ Several (c ∷ cs)
    go true is rest = let p = some_parts is_colon cs in inr (record {
      first = [];
      second = p.0;
      more = p.1;
      are = rw (is, p.2) refl;
      colon = rw is refl;
    })
    go false is (inl e) = inl (rw (is, e) refl)
    go false is (inr s) = inr (record {
      first = c ∷ s.first;
      second = s.second;
      more = s.more;
      are = rw (is, s.are) refl;
      colon = rw (is, s.colon) refl;
    })

-- without an exponent there is no DIRECT format
no_direct : (m b : Option ℤ) → direct_format m b None ≡ None
no_direct None b = refl
no_direct (Some m) None = refl
no_direct (Some m) (Some b) = refl

-- the last number of a format takes all that is left of the text
pub ulinear16_parts : (text : Text) → format_by (codes "ulinear16" ∷ parts text) ≡ option_and_then exponent_format (signed_of 8 text)
ulinear16_parts text = go (shape text)
  where
    few : (first second : Text) (more : List Text) → format_by (codes "ulinear16" ∷ first ∷ second ∷ more) ≡ None
    few first second [] = refl
    few first second (third ∷ []) = refl
    few first second (third ∷ fourth ∷ more) = refl

    go : (parts text ≡ text ∷ []) ⊎ Several text
        → format_by (codes "ulinear16" ∷ parts text) ≡ option_and_then exponent_format (signed_of 8 text)
    go (inl e) = ap (λ (ps : List Text). format_by (codes "ulinear16" ∷ ps)) e
    go (inr s) = ap (λ (ps : List Text). format_by (codes "ulinear16" ∷ ps)) s.are ∙ few s.first s.second s.more
        ∙ sym (ap (option_and_then exponent_format) (no_signed 8 text s.colon))

-- the exponent of DIRECT may be read whole, as that of ULINEAR16
pub direct_parts : (m b r : Text)
    → format_by (codes "direct" ∷ m ∷ b ∷ parts r) ≡ direct_format (signed_of 16 m) (signed_of 16 b) (signed_of 8 r)
direct_parts m b r = go (shape r)
  where
    go : (parts r ≡ r ∷ []) ⊎ Several r
        → format_by (codes "direct" ∷ m ∷ b ∷ parts r) ≡ direct_format (signed_of 16 m) (signed_of 16 b) (signed_of 8 r)
    go (inl e) = ap (λ (ps : List Text). format_by (codes "direct" ∷ m ∷ b ∷ ps)) e
    go (inr s) = ap (λ (ps : List Text). format_by (codes "direct" ∷ m ∷ b ∷ ps)) s.are
        ∙ sym (ap (direct_format (signed_of 16 m) (signed_of 16 b)) (no_signed 8 r s.colon) ∙ no_direct (signed_of 16 m) (signed_of 16 b))

-- no other name has numbers after it
pub other_parts : (name text : Text) → bytes_eq name (codes "ulinear16") ≡ false → bytes_eq name (codes "direct") ≡ false
    → format_by (name ∷ parts text) ≡ None
other_parts name text apart differs = let p = some_parts is_colon text in ap (λ (ps : List Text). format_by (name ∷ ps)) p.2 ∙ go p.0 p.1
  where
    go : (first : Text) (more : List Text) → format_by (name ∷ first ∷ more) ≡ None
    go first [] = rw apart refl
    go first (second ∷ []) = refl
    go first (second ∷ third ∷ []) = rw differs refl
    go first (second ∷ third ∷ fourth ∷ more) = refl

-- What the texts of `--lacks` say, one name and one text after another.

-- what a call that adds to what parts lack answers
abbrev added : Bool → List PartRegisters → Option (List PartRegisters)
added result new = if result then Some new else None

-- ---- names

module _ (lacks new : List PartRegisters) (addr : ℕ) (name : QuestionText) (result : Bool)
    (is : added result new ≡ option_map (λ part. lacking_more lacks addr part) (lacking_named name)) where
  -- there is none with this name
  pub no_name : (names : List QuestionText) → result ≡ false → None ≡ lacks_names lacks addr (name ∷ names)
  no_name names failed = go (lacking_named name) refl (rw failed at is)
    where
      go : (o : Option PartRegisters) → lacking_named name ≡ o → None ≡ option_map (λ part. lacking_more lacks addr part) o →
          None ≡ option_and_then (λ part. lacks_names (lacking_more lacks addr part) addr names) o
      go None at none = refl
      go (Some part) at none = absurd (cc)

  -- one more
  pub one_name : (names : List QuestionText) → result ≡ true → lacks_names lacks addr (name ∷ names) ≡ lacks_names new addr names
  one_name names found = go (lacking_named name) refl (rw found at is)
    where
      go : (o : Option PartRegisters) → lacking_named name ≡ o → Some new ≡ option_map (λ part. lacking_more lacks addr part) o →
          option_and_then (λ part. lacks_names (lacking_more lacks addr part) addr names) o ≡ lacks_names new addr names
      go None at some = absurd (cc)
      go (Some part) at some =
          let same : new ≡ lacking_more lacks addr part = cc in
          ap (λ (l : List PartRegisters). lacks_names l addr names) (sym same)

  -- the last one
  pub last_name : added result new ≡ lacks_names lacks addr (name ∷ [])
  last_name = is ∙ go (lacking_named name)
    where
      go : (o : Option PartRegisters) → option_map (λ part. lacking_more lacks addr part) o
          ≡ option_and_then (λ part. lacks_names (lacking_more lacks addr part) addr []) o
      go None = refl
      go (Some part) = refl

-- one name less is left
pub fewer_names : (left name after : QuestionText) → items left ≡ name ∷ items after → length (items after) < length (items left)
fewer_names left name after is =
    let size : length (items left) ≡ length (name ∷ items after) = ap length is in omega (arith, size)

-- ---- a text

-- one with more parts than two is none
pub too_many : (lacks : List PartRegisters) (text addr names : QuestionText) (more : Option (Bor QuestionText × Bor QuestionText))
    → parts text ≡ addr ∷ parts names →
    MatchOption more (parts names ≡ names ∷ []) (λ found. parts names ≡ found.0.now ∷ parts found.1.now) → is_some more ≡ true →
    None ≡ lacks_in_text lacks text
too_many lacks text addr names None first next some = absurd (cc)
too_many lacks text addr names (Some (second, rest)) first next some =
    let p = some_parts is_colon rest.now in
    sym (ap (lacks_by lacks) (first ∙ ap (λ (l : List QuestionText). addr ∷ l) (next ∙ ap (λ (l : List QuestionText). second.now ∷ l) p.2)))

-- ---- texts

abbrev now_of : Bor QuestionText → QuestionText
now_of text = text.now

text_taken : (xs : List (Bor QuestionText)) (i : ℕ) (d : Bor QuestionText) → i < length xs →
    drop i (map now_of xs) ≡ (get_or xs i d).now ∷ drop (i + 1) (map now_of xs)
text_taken xs i d small =
    let next : suc i ≡ i + 1 = omega arith in
    drop-map now_of i xs ∙ ap (map now_of) (drop-cons xs i d small)
    ∙ ap (λ (l : List QuestionText). (get_or xs i d).now ∷ l)
    (sym (drop-map now_of (suc i) xs) ∙ ap (λ (n : ℕ). drop n (map now_of xs)) next)

module _ (xs : List (Bor QuestionText)) (i : ℕ) (d : Bor QuestionText) (small : i < length xs) (lacks new : List PartRegisters)
    (result : Bool)
    (is : added result new ≡ lacks_in_text lacks (get_or xs i d).now) where
  -- a text that is none
  pub no_text : result ≡ false → lacks_texts lacks (drop i (map now_of xs)) ≡ None
  no_text failed =
      ap (lacks_texts lacks) (text_taken xs i d small)
      ∙ ap (λ (o : Option (List PartRegisters)). option_and_then (λ more. lacks_texts more (drop (i + 1) (map now_of xs))) o)
      (sym (rw failed at is))

  -- one more
  pub one_text : result ≡ true → lacks_texts new (drop (i + 1) (map now_of xs)) ≡ lacks_texts lacks (drop i (map now_of xs))
  one_text found =
      ap (λ (o : Option (List PartRegisters)). option_and_then (λ more. lacks_texts more (drop (i + 1) (map now_of xs))) o) (rw found at is)
      ∙ sym (ap (lacks_texts lacks) (text_taken xs i d small))
