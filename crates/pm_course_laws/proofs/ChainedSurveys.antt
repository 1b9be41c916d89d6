-- A survey by jobs that nothing disturbs: what it asks for, how many of its jobs are left, and what the plan behind it comes to.
use Rattle.std.proofs.Common.{List, ap, ap₂, arith, inl, inr, refl, subst, sym, ℕ, ◌∙◌, ◌≡◌}
use Rattle.std.specs.List.{list_any}
use Rattle.std.proofs.lemmas.List.FromFn.{length-map-range_with_len}
use Rattle.pm_table.specs.Cell.{IsCell, cell_accepts, cell_in, is_voltage, place_of, places, register_code, registers, same_register}
use Rattle.pm_model.specs.Settings.{Words, word_at}
use Rattle.pm_device.specs.declared.config.Config.{Config}
use Rattle.pm_device.specs.Held.{Held as Converter, shape_for, value_for}
use Rattle.pm_host.specs.Known.{HasPlaces, Known, all_any, known_after, known_now, known_possible}
use Rattle.pm_host.specs.Marks.{Good, Put, marks}
use Rattle.pm_host.specs.Now.{host_now}
use Rattle.pm_host.specs.Possible.{is_listed, is_possible, joined, only, possible_of}
use Rattle.pm_host.specs.Standing.{standing_of}
use Rattle.pm_host.specs.Summary.{Summary, format_at, possible_at}
use Rattle.pm_host.specs.Cells.{table}
use Rattle.pm_host.specs.Transcript.{Setup}
use Rattle.pm_world.specs.declared.event.Event.{Event}
use Rattle.pm_world.specs.Lemmas.{now-config}
use Rattle.pm_world.specs.Life.{life, now, state_of}
use Rattle.pm_world.specs.Setup.{setup_of}
use Rattle.pm_course_laws.specs.Chains.{FitsPart, HasLife, IsChecked, IsLearned, IsLife, Pair, Step, held_fault, is_surprised}
use Rattle.pm_course_laws.specs.Chains.{output_words_of}
use Rattle.std.specs.Prelude.{Bool, Err, None, Option, Result, Some, [], cond, false, find, if◌then◌else◌, is_none, is_some, not, option_map, slice_index_or, true, unwrap_or, ◌&&◌, ◌++◌, ◌+◌, ◌<◌, ◌==◌, ◌||◌, ◌∷◌, ◌≢◌, ◌≤◌, ◌⊎◌}
use Rattle.std.specs.Option.{option_map_or, option_or}
use Rattle.std.proofs.lemmas.Bool.{eq-eqb, not-false, not-true}
use Rattle.std.proofs.lemmas.List.{get_or-replicate, get_or-set_other, get_or-set_same, length-set}
use Rattle.pm_num.specs.AnyFormat.{Shape, shape_value}
use Rattle.pm_table.specs.declared.cell.Cell.{Cell}
use Rattle.pm_table.specs.declared.cell.Cell.TheVariants.{Out, Protect}
use Rattle.pm_table.specs.declared.reg.Reg.{Reg}
use Rattle.pm_table.specs.declared.reg.Reg.TheVariants.{MarginHigh, MarginLow, Operation, VoutCommand, VoutMax, VoutMin}
use Rattle.pm_table.specs.Laws.{CellsAreToldApart, CellsHavePlaces}
use Rattle.pm_table.specs.Rules.{first, rule}
use Rattle.pm_host.specs.declared.job.Job.{Job}
use Rattle.pm_host.specs.declared.job.Job.TheVariants.{Check, Learn}
use Rattle.pm_host.specs.declared.knowledge.Possible.{Possible}
use Rattle.pm_host.specs.declared.knowledge.Possible.TheVariants.{Any, Words as Listed}
use Rattle.pm_host.specs.declared.knowledge.Standing.TheVariants.{Unknown as Unheard}
use Rattle.pm_rail.specs.Survey.{and_read, asking, ended, next_job, due_by, due_job, has_read, is_lacking, is_stuck, is_stuck_by, is_stuck_in, is_surveyed, is_unread, is_unsure, nothing_read, wanted_in}
use Rattle.pm_limits.specs.declared.part_registers.PartRegisters.{PartRegisters}
use Rattle.pm_rail.specs.declared.survey.Survey.{Survey}
use Rattle.pm_rail.specs.Known.{Cells, cells_of, known_at, known_of, known_or, known_word, sole, sole_of}
use Rattle.pm_course.specs.FrameCourse.{untaken}
use Rattle.pm_rail.specs.Registers.{Held, Wants, wants_of}
use Rattle.pm_rail.specs.Lemmas.Surveyed.{found_passes_test, has-none}
use Rattle.pm_rail.specs.Lemmas.Places.{Reason, below, cell_of, each-place, has-and, has_at, is-known, is-only, one_place_more as one-more, none-read, each_place_is_once, one-place, others-stay, protect-unread, protect-unsure, same-itself, same_place, still-whole, tally, there, total, two-places, unread-reason, unsure-reason, with_protect}
use Rattle.pm_host.specs.declared.job.JobEnd.{JobEnd}
use Rattle.pm_rail.specs.Lemmas.Says.{ended-same}
use Rattle.std.proofs.lemmas.Bool.Decides.{nat_tests}
use Rattle.std.proofs.Math.Bool.{and-false}
use Rattle.pm_device.specs.Laws.{WordsHaveAnOrigin}
use Rattle.pm_host.specs.Refusals.{is_busy}
use Rattle.pm_limits.specs.Guard.{Guarded, limits_at}
use Rattle.pm_rail.specs.declared.survey.Reads.{Reads}
use Rattle.std.proofs.Math.Path.{fun_ext}
use Rattle.pm_num.specs.Ratio.{is_above}
use Rattle.pm_table.specs.Operation.{is_operation, selected_register}
use Rattle.pm_model.specs.Commanded.{Scale}
use Rattle.pm_rail.specs.declared.fault.PlanFault.{PlanFault}
use Rattle.pm_rail.specs.declared.fault.PlanFault.TheVariants.{AboveMax, BelowMin, Busy, MissingRegister, NotKnown, Protected}
use Rattle.pm_rail.specs.Lemmas.Ends.{IsNext, is-next}
use Rattle.pm_rail.specs.Lemmas.Known.{all-off, known-held, next-same, none-voltage, not-second, wanted-needed}
use Rattle.pm_rail.specs.Lemmas.Steps.{goal-put}
use Rattle.pm_rail.specs.Orders.{answer, first_of, is_above_max, is_below_min, is_meant, is_needed, is_unknown, is_wanted_missing, limits_fault, missing_fault, order_of, plan_of, planned_fault, planned_in, protect_fault, protection_fault, selectable, unknown_fault, unless, voltages, words_fault}
use Rattle.pm_table.specs.Protection.{is_allowed}
use Rattle.pm_rail.specs.Plan.{goal_of, is_due, next_register, put}
use Rattle.pm_limits.specs.declared.ends.Side.TheVariants.{Highest, Lowest}
use Rattle.pm_limits.specs.Ends.{format_end}
use Rattle.pm_limits.specs.Part.{has_register, missing_word}
use Rattle.pm_table.specs.RuleLemmas.{map-none, or-none, rule-none}
use Rattle.pm_world.specs.Bands.{HoldsMissing}
use Rattle.pm_rail.specs.declared.orders.PlanOrder.{PlanOrder}
use Rattle.pm_rail.specs.declared.wanted.Wanted.{Wanted}
use Rattle.pm_rail.specs.Laws.{SurveysEndKnown}
use Rattle.pm_world.specs.Laws.{LearnedFormatsAreTrue}
use Rattle.pm_host.specs.Transcript as accepted

-- what this rests on
pub record LawsOfLives : Type 0 where
  pub formats : LearnedFormatsAreTrue

pub record LawsOfSurveys : Type 0 where
  pub apart : CellsAreToldApart
  pub places : CellsHavePlaces
  pub origin : WordsHaveAnOrigin
  pub lives : LawsOfLives

abbrev pub asks_in : Survey → Guarded → Option Job
asks_in v guard = next_job guard.registers v guard.host

abbrev pub surveyed_by : Survey → Job → JobEnd → Survey
surveyed_by v job end = ended (asking v (Some job)) (Some job) end

-- ---- Facts of a life ----

-- the host of a life has a place for each cell
pub life-places : (config : Config) (passes : ℕ) (events : List Event) → HasPlaces (now config passes events).host.known
unfolding now state_of host_now known_now table
life-places config passes events = record {
  possible = length-map-range_with_len (λ place. possible_of (marks (setup_of config passes) (life config passes events).entries)
      (cell_in place)) 0 places;
  standing = length-map-range_with_len (λ place. standing_of (marks (setup_of config passes) (life config passes events).entries)
      (cell_in place)) 0 places;
}

pub words-now : (config : Config) (passes : ℕ) (events : List Event) (host : Summary) (held : Converter) →
    IsLife config passes events host held →
    (now config passes events).device.words ≡ held.words
words-now config passes events host held lived = ap (λ (h : Converter). h.words) lived.held_is

pub life-setup : {config : Config} {passes : ℕ} {events : List Event} {summary : Summary} {held : Converter} →
    IsLife config passes events summary held → summary.setup ≡ setup_of config passes
unfolding now state_of host_now
life-setup is = ap (λ (s : Summary). s.setup) (sym is.host_is)

pub life-config : {config : Config} {passes : ℕ} {events : List Event} {summary : Summary} {held : Converter} →
    IsLife config passes events summary held → held.config ≡ config
life-config {config = config} {passes = passes} {events = events} is =
    ap (λ (h : Converter). h.config) (sym is.held_is) ∙ now-config config passes events

pub life-shape : {config : Config} {passes : ℕ} {events : List Event} {summary : Summary} {held : Converter} →
    IsLife config passes events summary held → (output : ℕ) → shape_for config output ≡ shape_for held.config output
life-shape is output = ap (λ (c : Config). shape_for c output) (sym (life-config is))

-- ---- Places ----

-- a place is another's, turned round
pub other-place : (p q : Option Reg) → same_place p q ≡ true → q ≡ p
other-place p q h = sym (one-place p q h)

-- cells of an output at two places are two
pub two-cells : CellsAreToldApart → (output : ℕ) (p q : Option Reg) → same_place p q ≡ false → cell_of output p ≢ cell_of output q
two-cells apart output p q two same = let bad = sym (two-places apart output p q same) ∙ two in cc

-- ---- What a survey asks for ----

-- why a job is asked for: the format isn't known or wasn't learned, or a cell is to be checked
pub data Kind (v : Survey) (s : Summary) (format : Option Shape) : Job → Type 0 where
  learns : (v.learned ≡ false) ⊎ (format ≡ None) → Kind v s format (Learn v.output)
  checks : (cell : Cell) → Reason v s.known cell → Kind v s format (Check cell)

kind-in : (part : PartRegisters) (v : Survey) (s : Summary) (shape : Shape) (job : Job) →
    due_by part v s (Some shape) ≡ Some job → Kind v s (Some shape) job
kind-in part v s shape job is =
    go (not v.learned) (find (is_unread part v.read (known_of (cells_of part shape s) v.output) (wants_of (wanted_in v.plan))) registers)
    (is_some v.plan && not v.read.protect)
    (find (is_unsure part (cells_of part shape s) v.output (known_of (cells_of part shape s) v.output)
    (wants_of (wanted_in v.plan))) registers)
    (is_some v.plan && is_none (known_at (cells_of part shape s) Protect)) refl refl refl refl refl is
  where
    at : (one : Job) → ◌≡◌ {A = Option Job} (Some one) (Some job) → Kind v s (Some shape) one → Kind v s (Some shape) job
    at one same kind = let it : one ≡ job = cc in subst (λ (j : Job). Kind v s (Some shape) j) it kind

    go : (l : Bool) (u : Option Reg) (p : Bool) (n : Option Reg) (q : Bool) → not v.learned ≡ l →
        find (is_unread part v.read (known_of (cells_of part shape s) v.output) (wants_of (wanted_in v.plan))) registers ≡ u →
        (is_some v.plan && not v.read.protect) ≡ p →
        find (is_unsure part (cells_of part shape s) v.output (known_of (cells_of part shape s) v.output)
        (wants_of (wanted_in v.plan))) registers ≡ n →
        (is_some v.plan && is_none (known_word Protect (possible_at s Protect))) ≡ q →
        option_or (rule l (Learn v.output)) (option_or (option_map (λ r. Check (Out v.output r)) u) (option_or (rule p (Check Protect))
        (option_or (option_map (λ r. Check (Out v.output r)) n) (option_or (rule q (Check Protect)) None))))
        ≡ Some job → Kind v s (Some shape) job
    go true u p n q el eu ep en eq h = at (Learn v.output) h (learns (inl (not-true v.learned el)))
    go false (Some r) p n q el eu ep en eq h = at (Check (Out v.output r)) h (checks (Out v.output r)
        (unread-reason part v s.known (known_of (cells_of part shape s) v.output) (wants_of (wanted_in v.plan)) r
        (found_passes_test
        (is_unread part v.read (known_of (cells_of part shape s) v.output) (wants_of (wanted_in v.plan))) registers r eu)))
    go false None true n q el eu ep en eq h = at (Check Protect) h (checks Protect (protect-unread v s.known ep))
    go false None false (Some r) q el eu ep en eq h = at (Check (Out v.output r)) h (checks (Out v.output r)
        (unsure-reason part v s shape (known_of (cells_of part shape s) v.output) (wants_of (wanted_in v.plan)) r
        (found_passes_test (is_unsure part (cells_of part shape s) v.output (known_of (cells_of part shape s) v.output)
        (wants_of (wanted_in v.plan))) registers r en)))
    go false None false None true el eu ep en eq h = at (Check Protect) h (checks Protect (protect-unsure v s eq))
    go false None false None false el eu ep en eq h = cc

pub kind : (part : PartRegisters) (v : Survey) (s : Summary) (job : Job) → due_job part v s ≡ Some job →
    Kind v s (format_at s v.output) job
kind part v s job is = go (format_at s v.output) is where
  go : (format : Option Shape) → due_by part v s format ≡ Some job → Kind v s format job
  go None h = let it : Learn v.output ≡ job = cc in subst (λ (j : Job). Kind v s None j) it (learns (inr refl))
  go (Some shape) h = kind-in part v s shape job h

-- ---- What an order makes of what is known ----

module _ (apart : CellsAreToldApart) (law : CellsHavePlaces) (k : Known) (whole : HasPlaces k) (output : ℕ) (small : output < 8)
    (p : Option Reg) (word : ℕ) where
  -- the word of a write is possible behind it
  joined-possible : (possible : Possible) → is_possible word (joined possible word) ≡ true
  joined-possible Any = refl
  joined-possible (Listed words) = go (is_listed word words.items) refl where
    go : (b : Bool) → is_listed word words.items ≡ b →
        is_possible word (if b then Listed words else Listed (record { items = words.items ++ word ∷ [] })) ≡ true
    go true e = e
    go false e = last words.items where
      last : (list : List ℕ) → is_listed word (list ++ word ∷ []) ≡ true
      last [] = ap (λ (b : Bool). b || false) (eq-eqb word word refl)
      last (x ∷ rest) = ap (λ (b : Bool). (x == word) || b) (last rest) ∙ or-on (x == word) where
        or-on : (b : Bool) → (b || true) ≡ true
        or-on true = refl
        or-on false = refl

  abbrev known-put : Known
  known-put = known_after k (Put (cell_of output p) word)

  put-whole : HasPlaces known-put
  put-whole = record {
    possible = length-set k.possible (place_of (cell_of output p)) (joined (known_possible k (cell_of output p)) word) ∙ whole.possible;
    standing = length-set k.standing (place_of (cell_of output p)) Unheard ∙ whole.standing;
  }

  put-here : known_possible known-put (cell_of output p) ≡ joined (known_possible k (cell_of output p)) word
  put-here = get_or-set_same k.possible (place_of (cell_of output p)) (joined (known_possible k (cell_of output p)) word) Any
      (subst (λ (n : ℕ). place_of (cell_of output p) < n) (sym whole.possible) (law.below (cell_of output p) (there output p small)))

  put-others : (q : Option Reg) → same_place p q ≡ false →
      known_possible known-put (cell_of output q) ≡ known_possible k (cell_of output q)
  put-others q two = get_or-set_other k.possible (place_of (cell_of output p)) (place_of (cell_of output q))
      (joined (known_possible k (cell_of output p)) word) Any (λ same.
      let one : cell_of output p ≡ cell_of output q = sym (law.back (cell_of output p) (there output p small))
      ∙ ap (λ (n : ℕ). cell_in n) (sym same) ∙ law.back (cell_of output q) (there output q small) in
      two-cells apart output p q two one)

  expected-put : is_possible word (known_possible known-put (cell_of output p)) ≡ true
  expected-put = ap (λ (o : Possible). is_possible word o) put-here ∙ joined-possible (known_possible k (cell_of output p))

  -- the word that was ordered and read back is the only one that is possible, and the other cells stay
  pub order-only : known_possible (known_after known-put (Good (cell_of output p) word)) (cell_of output p) ≡ only word
  order-only = is-only apart law known-put put-whole output small p word

  pub order-others : (q : Option Reg) → same_place p q ≡ false →
      known_possible (known_after known-put (Good (cell_of output p) word)) (cell_of output q) ≡ known_possible k (cell_of output q)
  order-others q two = others-stay apart law known-put put-whole output small p q word expected-put two ∙ put-others q two

  pub order-whole : HasPlaces (known_after known-put (Good (cell_of output p) word))
  order-whole = still-whole apart law known-put put-whole output small p word

-- each other cell may hold any word, if a good answer surprises
pub others-any : CellsAreToldApart → CellsHavePlaces → (k : Known) (output : ℕ) → output < 8 → (p q : Option Reg) (word : ℕ) →
    is_possible word (known_possible k (cell_of output p)) ≡ false → same_place p q ≡ false →
    known_possible (known_after k (Good (cell_of output p) word)) (cell_of output q) ≡ Any
unfolding all_any
others-any apart law k output small p q word surprise two =
    get_or-set_other (if is_possible word (known_possible k (cell_of output p)) then k.possible else all_any)
    (place_of (cell_of output p)) (place_of (cell_of output q)) (only word) Any (λ same.
    let one : cell_of output p ≡ cell_of output q = sym (law.back (cell_of output p) (there output p small))
    ∙ ap (λ (n : ℕ). cell_in n) (sym same) ∙ law.back (cell_of output q) (there output q small) in
    two-cells apart output p q two one)
    ∙ (ap (λ (b : Bool). slice_index_or (if b then k.possible else all_any) (place_of (cell_of output q)) Any) surprise
    ∙ get_or-replicate places (place_of (cell_of output q)) Any Any (law.below (cell_of output q) (there output q small)))

-- how many there are but one, and in all
pub but-one : (p : Option Reg) → total (λ q. not (same_place p q)) ≡ 6
unfolding total
but-one (Some Operation) = refl
but-one (Some VoutCommand) = refl
but-one (Some VoutMax) = refl
but-one (Some MarginHigh) = refl
but-one (Some MarginLow) = refl
but-one (Some VoutMin) = refl
but-one None = refl

pub seven : total (λ q. true) ≡ 7
unfolding total
seven = refl

pub none-of : (test : Option Reg → Bool) → total test ≡ 0 → (p : Option Reg) → test p ≡ false
none-of test none p = go (test p) refl where
  go : (b : Bool) → test p ≡ b → b ≡ false
  go true e =
      let one : total (same_place p) ≤ total test = below test (same_place p)
      (λ x h. ap test (other-place p x h) ∙ e) in
      let is = each_place_is_once p in absurd (omega arith)
  go false e = refl

-- what passes a test passes one of two others
either-in : (p q r : Option Reg → Bool) → ((x : Option Reg) → q x ≡ true → (p x ≡ true) ⊎ (r x ≡ true)) → (xs : List (Option Reg)) →
    tally q xs ≤ tally p xs + tally r xs
either-in p q r implies [] = omega arith
either-in p q r implies (x ∷ xs) = go (either-in p q r implies xs) (q x) (p x) (r x) (implies x) where
  go : tally q xs ≤ tally p xs + tally r xs → (a b c : Bool) → (a ≡ true → (b ≡ true) ⊎ (c ≡ true)) →
      cond a (1 + tally q xs) (tally q xs) ≤ cond b (1 + tally p xs) (tally p xs) + cond c (1 + tally r xs) (tally r xs)
  go rest true true true h = omega arith
  go rest true true false h = omega arith
  go rest true false true h = omega arith
  go rest true false false h = absurd (neither (h refl)) where
    neither : (false ≡ true) ⊎ (false ≡ true) → ⊥
    neither (inl e) = cc
    neither (inr e) = cc
  go rest false true true h = omega arith
  go rest false true false h = omega arith
  go rest false false true h = omega arith
  go rest false false false h = rest

pub either : (p q r : Option Reg → Bool) → ((x : Option Reg) → q x ≡ true → (p x ≡ true) ⊎ (r x ≡ true)) → total q ≤ total p + total r
unfolding total
either p q r implies = either-in p q r implies (with_protect registers)

-- ---- What a survey stays once it was told of the end of a job ----

-- it leaves the output
pub asked-output : (v : Survey) (job : Job) (end : JobEnd) → (surveyed_by v job end).output ≡ v.output
asked-output v job end = (ended-same (asking v (Some job)) (Some job) end).1

-- it leaves the plan
pub asked-plan : (v : Survey) (job : Job) (end : JobEnd) → (surveyed_by v job end).plan ≡ v.plan
asked-plan v job end = (ended-same (asking v (Some job)) (Some job) end).2

-- ---- What is still to be read ----

-- a cell was read, and is known
abbrev pub settled : Known → ℕ → Reads → Option Reg → Bool
settled k output read p = has_at read p && is_some (known_word (cell_of output p) (known_possible k (cell_of output p)))

-- how many cells that isn't so of, and how many jobs that comes to with the learn
unfoldable pub todo : Known → ℕ → Reads → ℕ
todo k output read = total (λ p. not (settled k output read p))

abbrev pub is_learned : Survey → Summary → Bool
is_learned v s = v.learned && is_some (format_at s v.output)

abbrev pub need : Survey → Summary → ℕ
need v s = cond (is_learned v s) 0 1 + todo s.known v.output v.read

-- no answer will surprise
abbrev pub Calm : Known → ℕ → Words → Type 0
Calm k output words = (p : Option Reg) → is_possible (word_at words (cell_of output p)) (known_possible k (cell_of output p)) ≡ true

-- What holds of what the host knows: a cell that was read may hold what it holds, and either no answer will surprise, or this many
-- checks are to spare.
pub record Knows (output : ℕ) (read : Reads) (k : Known) (words : Words) (spare : ℕ) : Type 0 where
  pub whole : HasPlaces k
  pub may : (p : Option Reg) → has_at read p ≡ true → is_possible (word_at words (cell_of output p))
      (known_possible k (cell_of output p)) ≡ true
  pub calm : Calm k output words ⊎ (7 ≤ spare)

-- a cell that may hold any word isn't known
any-unknown : (cell : Cell) (possible : Possible) → possible ≡ Any → is_some (known_word cell possible) ≡ false
any-unknown cell possible is = ap (λ (p : Possible). is_some (known_word cell p)) is

pub none-some : {A : Type 0} (o : Option A) → is_none o ≡ false → is_some o ≡ true
none-some None h = cc
none-some (Some a) h = refl

none-not : {A : Type 0} (o : Option A) → is_none o ≡ true → is_some o ≡ false
none-not None h = refl
none-not (Some a) h = cc

-- a word that may be held is the only one that is known
pub only-known : (cell : Cell) (word : ℕ) (possible : Possible) → is_possible word possible ≡ true →
    is_some (known_word cell possible) ≡ true → possible ≡ only word
only-known cell word Any may some = cc
only-known cell word (Listed words) may some = go words.items may some where
  go : (items : List ℕ) → is_listed word items ≡ true → is_some (known_word cell (Listed (record { items = items }))) ≡ true →
      Listed (record { items = items }) ≡ only word
  go [] l k = cc
  go (w ∷ []) l k = let same : w ≡ word = grind (arith, nat_tests) in ap only same
  go (w ∷ x ∷ rest) l k = cc

-- The word of a cell that was read and is known is the one that is held.
pub true-of : {output : ℕ} {read : Reads} {k : Known} {words : Words} {spare : ℕ} → Knows output read k words spare → (p : Option Reg) →
    has_at read p ≡ true → is_some (known_word (cell_of output p) (known_possible k (cell_of output p))) ≡ true →
    known_possible k (cell_of output p) ≡ only (word_at words (cell_of output p))
true-of {output = output} {k = k} {words = words} knows p read some =
    only-known (cell_of output p) (word_at words (cell_of output p)) (known_possible k (cell_of output p)) (knows.may p read) some

-- a cell whose held word may be held, and is one that it takes, isn't known to hold another
pub sole-taken : (cell : Cell) (word : ℕ) (p : Possible) → is_possible word p ≡ true →
    cell_accepts cell word ≡ true → untaken cell (sole p) ≡ None
sole-taken cell word Any may taken = refl
sole-taken cell word (Listed words) may taken = go words.items may where
  go : (items : List ℕ) → is_listed word items ≡ true → untaken cell (sole_of items) ≡ None
  go [] l = refl
  go (x ∷ []) l = let same : x ≡ word = grind (arith, nat_tests) in
      ap (λ (w : ℕ). rule (not (cell_accepts cell w)) w) same ∙ ap (λ (b : Bool). rule (not b) word) taken
  go (x ∷ y ∷ rest) l = refl

-- one word alone may be held where it is
pub only-possible : (word : ℕ) → is_possible word (only word) ≡ true
only-possible word = ap (λ (b : Bool). b || false) (eq-eqb word word refl)

-- A check that is done of a cell that wasn't settled: fewer are to do, with what is to spare.
module _ (apart : CellsAreToldApart) (law : CellsHavePlaces) (output : ℕ) (small : output < 8) (read : Reads) (k : Known) (words : Words)
    (spare : ℕ) (was : Knows output read k words spare) (p : Option Reg)
    (taken : cell_accepts (cell_of output p) (word_at words (cell_of output p)) ≡ true)
    (lost : has_at read p ≡ true → is_none (known_word (cell_of output p) (known_possible k (cell_of output p))) ≡ true) where
  abbrev word : ℕ
  word = word_at words (cell_of output p)

  abbrev now_read : Reads
  now_read = and_read read (cell_of output p)

  abbrev now_known : Known
  now_known = known_after k (Good (cell_of output p) word)

  pub record After : Type 0 where
    pub left : ℕ
    pub knows : Knows output now_read now_known words left
    pub room : is_possible word (known_possible k (cell_of output p)) ≡ false → (1 ≤ left) × Calm now_known output words
    pub less : todo now_known output now_read + left + 1 ≤ todo k output read + spare

  unsettled : settled k output read p ≡ false
  unsettled = go (has_at read p) refl where
    go : (b : Bool) → has_at read p ≡ b →
        (b && is_some (known_word (cell_of output p) (known_possible k (cell_of output p)))) ≡ false
    go true e = none-not (known_word (cell_of output p) (known_possible k (cell_of output p))) (lost e)
    go false e = refl

  here : has_at now_read p ≡ true
  here = has-and read output p p ∙ ap (λ (b : Bool). b || has_at read p) (same-itself p)

  elsewhere : (q : Option Reg) → same_place p q ≡ false → has_at now_read q ≡ has_at read q
  elsewhere q two = has-and read output p q ∙ ap (λ (b : Bool). b || has_at read q) two

  is-settled : settled now_known output now_read p ≡ true
  is-settled = ap₂ (λ (a b : Bool). a && b) here
      (none-some _ (is-known (cell_of output p) word _ taken (is-only apart law k was.whole output small p word)))

  stays : is_possible word (known_possible k (cell_of output p)) ≡ true → (q : Option Reg) → same_place p q ≡ false →
      settled now_known output now_read q ≡ settled k output read q
  stays expected q two = ap₂ (λ (a : Bool) (o : Possible). a && is_some (known_word (cell_of output q) o)) (elsewhere q two)
      (others-stay apart law k was.whole output small p q word expected two)

  gone : is_possible word (known_possible k (cell_of output p)) ≡ false → (q : Option Reg) → same_place p q ≡ false →
      settled now_known output now_read q ≡ false
  gone surprise q two = ap (λ (b : Bool). has_at now_read q && b)
      (any-unknown (cell_of output q) _ (others-any apart law k output small p q word surprise two)) ∙ and-false (has_at now_read q)

  expected-after : is_possible word (known_possible k (cell_of output p)) ≡ true → After
  unfolding todo
  expected-after expected = record {
    left = spare;
    room = λ e. let bad = sym expected ∙ e in cc;
    knows = record {
      whole = still-whole apart law k was.whole output small p word;
      may = each-place (λ (q : Option Reg). has_at now_read q ≡ true →
          is_possible (word_at words (cell_of output q)) (known_possible now_known (cell_of output q)) ≡ true) p
          (λ is. ap (λ (o : Possible). is_possible word o) (is-only apart law k was.whole output small p word) ∙ only-possible word)
          (λ q two is. ap (λ (o : Possible). is_possible (word_at words (cell_of output q)) o)
          (others-stay apart law k was.whole output small p q word expected two) ∙ was.may q (sym (elsewhere q two) ∙ is));
      calm = go was.calm;
    };
    less =
        let count = one-more (λ q. not (settled now_known output now_read q)) (λ q. not (settled k output read q)) p
        (λ q two. ap not (sym (stays expected q two))) (ap not is-settled) (ap not unsettled) in omega arith;
  }
    where
      go : Calm k output words ⊎ (7 ≤ spare) → Calm now_known output words ⊎ (7 ≤ spare)
      go (inl calm) = inl (each-place (λ (q : Option Reg). is_possible (word_at words (cell_of output q))
          (known_possible now_known (cell_of output q)) ≡ true) p
          (ap (λ (o : Possible). is_possible word o) (is-only apart law k was.whole output small p word) ∙ only-possible word)
          (λ q two. ap (λ (o : Possible). is_possible (word_at words (cell_of output q)) o)
          (others-stay apart law k was.whole output small p q word expected two) ∙ calm q))
      go (inr enough) = inr enough

  surprised-after : is_possible word (known_possible k (cell_of output p)) ≡ false → After
  unfolding todo
  surprised-after surprise = record {
    left = 1;
    room = λ e. (omega arith, now-calm);
    knows = record {
      whole = still-whole apart law k was.whole output small p word;
      may = λ q is. now-calm q;
      calm = inl now-calm;
    };
    less =
        let few : total (λ q. not (settled now_known output now_read q)) ≤ total (λ q. not (same_place p q)) =
        below (λ q. not (same_place p q)) (λ q. not (settled now_known output now_read q))
        (each-place (λ (q : Option Reg). not (settled now_known output now_read q) ≡ true → not (same_place p q) ≡ true) p
        (λ bad. let no = sym bad ∙ ap not is-settled in cc) (λ q two is. ap not two)) in
        let six = but-one p in
        let one : total (same_place p) ≤ total (λ q. not (settled k output read q)) =
        below (λ q. not (settled k output read q)) (same_place p)
        (λ q same. ap not (ap (settled k output read) (other-place p q same) ∙ unsettled)) in
        let single = each_place_is_once p in
        let enough : 7 ≤ spare = go was.calm in omega arith;
  }
    where
      now-calm : Calm now_known output words
      now-calm = (each-place (λ (q : Option Reg). is_possible (word_at words (cell_of output q))
          (known_possible now_known (cell_of output q)) ≡ true) p
          (ap (λ (o : Possible). is_possible word o) (is-only apart law k was.whole output small p word) ∙ only-possible word)
          (λ q two. ap (λ (o : Possible). is_possible (word_at words (cell_of output q)) o)
          (others-any apart law k output small p q word surprise two)))

      go : Calm k output words ⊎ (7 ≤ spare) → 7 ≤ spare
      go (inl calm) = let bad = sym (calm p) ∙ surprise in cc
      go (inr enough) = enough

  pub after-check : After
  after-check = go (is_possible word (known_possible k (cell_of output p))) refl where
    go : (b : Bool) → is_possible word (known_possible k (cell_of output p)) ≡ b → After
    go true e = expected-after e
    go false e = surprised-after e

-- ---- One job of a survey ----

-- a word that the converter holds is one that its cell takes
pub accepts : WordsHaveAnOrigin → {host : Summary} {held : Converter} (cell : Cell) → (has : HasLife host held) →
    IsCell has.config.count cell → cell_accepts cell (word_at held.words cell) ≡ true
unfolding now state_of
accepts origin {host = host} {held = held} cell has there =
    ap (λ (w : Words). cell_accepts cell (word_at w cell)) (sym (words-now has.config has.passes has.events host held has.life))
    ∙ origin.accepted has.config (life has.config has.passes has.events).past cell has.life.lived.sound there

-- the cells of an output that is there
pub in-range : {host : Summary} {held : Converter} (output : ℕ) (p : Option Reg) → (has : HasLife host held) → output < host.setup.outputs →
    (output < 8) × IsCell has.config.count (cell_of output p)
in-range output p has here =
    let outputs : output < has.config.count = subst (λ (s : accepted.Setup). output < s.outputs) (life-setup has.life) here in
    let few = has.life.lived.made.few_outputs in
    (omega arith, place p outputs)
  where
    place : (q : Option Reg) → output < has.config.count → IsCell has.config.count (cell_of output q)
    place (Some register) h = h
    place None h = tt

-- how far a survey is
pub record At (v : Survey) (guard : Guarded) (h : Converter) (spare : ℕ) : Type 0 where
  pub idle : is_busy guard.host ≡ false
  pub there : v.output < guard.host.setup.outputs
  pub format : (shape : Shape) → format_at guard.host v.output ≡ Some shape → shape ≡ shape_for h.config v.output
  pub knows : Knows v.output v.read guard.host.known h.words spare

pub record Stepped (v after : Survey) (spare : ℕ) (asked : Job) (old new : Pair) : Type 0 where
  pub left : ℕ
  pub at : At after new.guard new.held left
  pub less : need after new.guard.host + left + 1 ≤ need v old.guard.host + spare
  pub tries : after.left + 1 ≡ v.left
  pub words : new.held.words ≡ old.held.words
  pub config : new.held.config ≡ old.held.config
  pub lived : HasLife new.guard.host new.held
  -- One more job is to spare if the answer surprised.
  pub room : is_surprised asked old ≡ true → (1 ≤ left) × Calm new.guard.host.known after.output new.held.words

module _ (laws : LawsOfSurveys) where
  checked : (v : Survey) (old new : Pair) (p : Option Reg) (end : JobEnd) (spare : ℕ) → HasLife old.guard.host old.held →
      At v old.guard old.held spare → 0 < v.left →
      (has_at v.read p ≡ true → is_none (known_word (cell_of v.output p) (known_possible old.guard.host.known (cell_of v.output p))) ≡ true)
      → Step (Check (cell_of v.output p)) end old new →
      Stepped v (surveyed_by v (Check (cell_of v.output p)) end) spare (Check (cell_of v.output p)) old new
  checked v old new p end spare has at some lost runs =
      let is : IsChecked (cell_of v.output p) old end new = runs.did in
      let range = in-range v.output p has at.there in
      let taken = accepts laws.origin (cell_of v.output p) has range.1 in
      let after = after-check laws.apart laws.places v.output range.0 v.read old.guard.host.known old.held.words spare at.knows p
      taken lost in
      let less = after.less in
      subst (λ (e : JobEnd). Stepped v (surveyed_by v (Check (cell_of v.output p)) e) spare (Check (cell_of v.output p))
      old new) (sym is.done) (record {
        left = after.left;
        at = record {
          idle = ap is_some is.idle;
          there = subst (λ (s : accepted.Setup). v.output < s.outputs) (sym runs.kept) at.there;
          format = λ shape known'. at.format shape (same-format v.output is.formats known')
              ∙ ap (λ (c : Config). shape_for c v.output) (sym is.config);
          knows = subst (λ (k : Known). Knows v.output (and_read v.read (cell_of v.output p)) k new.held.words after.left)
              (sym is.known) (subst (λ (w : Words). Knows v.output (and_read v.read (cell_of v.output p))
              (known_after old.guard.host.known (Good (cell_of v.output p) (word_at old.held.words (cell_of v.output p)))) w after.left)
              (sym is.words) after.knows);
        };
        less = subst (λ (b : Bool). cond b 0 1 + todo new.guard.host.known v.output (and_read v.read (cell_of v.output p)) + after.left + 1
            ≤ cond (is_learned v old.guard.host) 0 1 + todo old.guard.host.known v.output v.read + spare)
            (ap (λ (l : List (Option Shape)). v.learned && is_some (slice_index_or l v.output None)) (sym is.formats))
            (subst (λ (k : Known). cond (is_learned v old.guard.host) 0 1 + todo k v.output (and_read v.read (cell_of v.output p))
            + after.left + 1 ≤ cond (is_learned v old.guard.host) 0 1 + todo old.guard.host.known v.output v.read + spare)
            (sym is.known) (omega arith));
        tries = omega arith;
        words = is.words;
        config = is.config;
        lived = runs.lived;
        room = λ surprised. let got = after.room (not-true _ surprised) in (
          got.0,
          subst (λ (k : Known). Calm k v.output new.held.words) (sym is.known)
              (subst (λ (w : Words). Calm (known_after old.guard.host.known
              (Good (cell_of v.output p) (word_at old.held.words (cell_of v.output p)))) v.output w)
              (sym is.words) got.1),
        );
      })
    where
      same-format : (output : ℕ) {o : Option Shape} → new.guard.host.formats ≡ old.guard.host.formats →
          format_at new.guard.host output ≡ o → format_at old.guard.host output ≡ o
      same-format output same is = ap (λ (l : List (Option Shape)). slice_index_or l output None) (sym same) ∙ is

  learns-now : (v : Survey) (old new : Pair) (end : JobEnd) (spare : ℕ) → HasLife old.guard.host old.held →
      At v old.guard old.held spare → 0 < v.left → is_learned v old.guard.host ≡ false →
      Step (Learn v.output) end old new →
      Stepped v (surveyed_by v (Learn v.output) end) spare (Learn v.output) old new
  learns-now v old new end spare has at some unlearned runs =
      let is : IsLearned v.output old end new = runs.did in
      subst (λ (e : JobEnd). Stepped v (surveyed_by v (Learn v.output) e) spare (Learn v.output) old new) (sym is.learned) (record {
        left = spare;
        at = record {
          idle = ap is_some is.idle;
          there = subst (λ (s : accepted.Setup). v.output < s.outputs) (sym runs.kept) at.there;
          format = λ shape known'. one-shape shape (sym known' ∙ is.format) ∙ ap (λ (c : Config). shape_for c v.output) (sym is.config);
          knows = subst (λ (k : Known). Knows v.output v.read k new.held.words spare)
              (sym is.known) (subst (λ (w : Words). Knows v.output v.read old.guard.host.known w spare) (sym is.words) at.knows);
        };
        less = subst (λ (f : Option Shape). cond (is_some f) 0 1 + todo new.guard.host.known v.output v.read + spare + 1
            ≤ cond (is_learned v old.guard.host) 0 1 + todo old.guard.host.known v.output v.read + spare) (sym is.format)
            (subst (λ (k : Known). 0 + todo k v.output v.read + spare + 1
            ≤ cond (is_learned v old.guard.host) 0 1 + todo old.guard.host.known v.output v.read + spare) (sym is.known)
            (subst (λ (b : Bool). 0 + todo old.guard.host.known v.output v.read + spare + 1
            ≤ cond b 0 1 + todo old.guard.host.known v.output v.read + spare) (sym unlearned) (omega arith)));
        tries = omega arith;
        words = is.words;
        config = is.config;
        lived = runs.lived;
        room = λ surprised. cc;
      })
    where
      one-shape : (a : Shape) {b : Shape} → ◌≡◌ {A = Option Shape} (Some a) (Some b) → a ≡ b
      one-shape a e = ap (λ (o : Option Shape). unwrap_or o a) e

  pub survey-step : (v : Survey) (old new : Pair) (job : Job) (end : JobEnd) (spare : ℕ) → HasLife old.guard.host old.held →
      At v old.guard old.held spare → asks_in v old.guard ≡ Some job →
      Step job end old new → Stepped v (surveyed_by v job end) spare job old new
  survey-step v old new job end spare has at asks runs = go (v.left == 0) refl asks where
    by : 0 < v.left → (j : Job) → Kind v old.guard.host (format_at old.guard.host v.output) j → Step j end old new →
        Stepped v (surveyed_by v j end) spare j old new
    by some j (learns (inl unlearned)) r = learns-now v old new end spare has at some
        (ap (λ (b : Bool). b && is_some (format_at old.guard.host v.output)) unlearned) r
    by some j (learns (inr none)) r = learns-now v old new end spare has at some
        (ap (λ (f : Option Shape). v.learned && is_some f) none ∙ and-false v.learned) r
    by some j (checks cell why) r =
        subst (λ (c : Cell). Stepped v (surveyed_by v (Check c) end) spare (Check c) old new) why.is
        (checked v old new why.place end spare has at some (λ read. subst (λ (c : Cell). is_none (known_word c
        (known_possible old.guard.host.known c)) ≡ true) (sym why.is) (why.lost read))
        (subst (λ (c : Cell). Step (Check c) end old new) (sym why.is) r))

    go : (empty : Bool) → (v.left == 0) ≡ empty → (if empty then None else due_job old.guard.registers v old.guard.host) ≡ Some job →
        Stepped v (surveyed_by v job end) spare job old new
    go true e is = cc
    go false e is = by (grind (arith, nat_tests)) job (kind old.guard.registers v old.guard.host job is) runs

-- ---- All of them ----

-- nothing is due where nothing is needed
pub nothing-needed : (v : Survey) (guard : Guarded) (h : Converter) (spare : ℕ) → At v guard h spare → need v guard.host ≡ 0 →
    due_job guard.registers v guard.host ≡ None
unfolding todo
nothing-needed v guard h spare at none = go (due_job guard.registers v guard.host) refl where
  both : (a b : ℕ) → a + b ≡ 0 → (a ≡ 0) × (b ≡ 0)
  both a b e = (omega arith, omega arith)

  is-learned : (b : Bool) → ◌≡◌ {A = ℕ} (cond b 0 1) 0 → b ≡ true
  is-learned true e = refl
  is-learned false e = cc

  yes : is_learned v guard.host ≡ true
  yes = is-learned (is_learned v guard.host) (both (cond (is_learned v guard.host) 0 1) _ none).0

  never : (job : Job) → Kind v guard.host (format_at guard.host v.output) job → ⊥
  never job (learns (inl unlearned)) =
      let bad = sym yes ∙ ap (λ (b : Bool). b && is_some (format_at guard.host v.output)) unlearned in cc
  never job (learns (inr unknown)) =
      let bad : true ≡ false = sym yes ∙ (ap (λ (f : Option Shape). v.learned && is_some f) unknown ∙ and-false v.learned) in cc
  never job (checks cell why) =
      let free = none-of (λ p. not (settled guard.host.known v.output v.read p))
      (both (cond (is_learned v guard.host) 0 1) _ none).1 why.place in
      lost (has_at v.read why.place) _ refl (subst (λ (c : Cell). has_at v.read why.place ≡ true →
      is_none (known_word c (known_possible guard.host.known c)) ≡ true) (sym why.is) why.lost) free
    where
      lost : (a : Bool) (o : Option ℕ) → has_at v.read why.place ≡ a → (has_at v.read why.place ≡ true → is_none o ≡ true) →
          not (a && is_some o) ≡ false → ⊥
      lost true (Some w) e h f = let bad = h e in cc
      lost true None e h f = cc
      lost false o e h f = cc

  go : (due : Option Job) → due_job guard.registers v guard.host ≡ due → due ≡ None
  go None e = refl
  go (Some job) e = absurd (never job (kind guard.registers v guard.host job e))

-- a format that the host knows is the converter's
pub true-format : LawsOfLives → {host : Summary} {held : Converter} (has : HasLife host held) (output : ℕ) (shape : Shape) →
    format_at host output ≡ Some shape → shape ≡ shape_for held.config output
true-format lives has output shape known' =
    (lives.formats.agree has.config has.passes has.events has.spelled has.life.lived).held output shape
    (ap (λ (s : Summary). format_at s output) has.life.host_is ∙ known')
    ∙ life-shape has.life output

-- a survey that has read nothing has seven cells to read at most
pub begins-at : LawsOfLives → (v : Survey) (guard : Guarded) (h : Converter) → HasLife guard.host h → is_busy guard.host ≡ false →
    v.output < guard.host.setup.outputs → v.read ≡ nothing_read →
    At v guard h 7 × (need v guard.host ≤ 8)
unfolding todo
begins-at lives v guard h has idle here none = (
  record {
    idle = idle;
    there = here;
    format = λ shape known'. true-format lives has v.output shape known';
    knows = record {
      whole = subst (λ (s : Summary). HasPlaces s.known) has.life.host_is (life-places has.config has.passes has.events);
      may = λ p is. let bad = sym is ∙ (ap (λ (r : Reads). has_at r p) none ∙ none-read p) in cc;
      calm = inr (omega arith);
    };
  },
  (let few : total (λ p. not (settled guard.host.known v.output v.read p)) ≤ total (λ p. true) = below (λ p. true) _ (λ p h'. refl) in
      let all = seven in
      let one : cond (is_learned v guard.host) 0 1 ≤ 1 = small (is_learned v guard.host) in omega arith),
)
  where
    small : (b : Bool) → cond b 0 1 ≤ 1
    small true = omega arith
    small false = omega arith

-- ---- Faults that aren't there ----

-- no register is found that passes a test which none passes
pub find-none : (test : Reg → Bool) → ((r : Reg) → test r ≡ false) → (list : List Reg) → find test list ≡ None
find-none test none [] = refl
find-none test none (r ∷ list) = ap (λ (b : Bool). if b then Some r else find test list) (none r) ∙ find-none test none list

pub first-none-of : (fault : Reg → PlanFault) (test : Reg → Bool) → ((r : Reg) → test r ≡ false) → (list : List Reg) →
    first_of list fault test ≡ None
first-none-of fault test none list = ap (option_map fault) (find-none test none list)

-- the second and the third of five faults aren't there
pub five-three : (a b c d e : Option PlanFault) → b ≡ None → c ≡ None →
    first (a ∷ b ∷ c ∷ d ∷ e ∷ []) ≡ first (a ∷ d ∷ e ∷ [])
five-three a None None d e b' c' = refl
five-three a (Some f) c d e b' c' = cc
five-three a None (Some f) d e b' c' = cc

-- none of three faults is there, if the first one isn't
pub three-none : (a b c : Option PlanFault) → first (a ∷ b ∷ c ∷ []) ≡ None → (a ≡ None) × (b ≡ None) × (c ≡ None)
three-none None None None h = (refl, refl, refl)
three-none (Some f) b c h = cc
three-none None (Some f) c h = cc
three-none None None (Some f) h = cc

pub none-three : (a b c : Option PlanFault) → a ≡ None → b ≡ None → c ≡ None → first (a ∷ b ∷ c ∷ []) ≡ None
none-three None None None a b c = refl
none-three (Some f) b c a' b' c' = cc
none-three None (Some f) c a' b' c' = cc
none-three None None (Some f) a' b' c' = cc

-- ---- The words by which a plan is judged ----

-- a judgement by the byte of OPERATION, and by the words at the end
abbrev below_by : Scale → Wants → ℕ → Held → Reg → Bool
below_by value wants byte goal register = (same_register register (selected_register byte) || is_some (wants register))
    && is_above (value (goal VoutMin)) (value (goal register))

abbrev above_by : Scale → Wants → ℕ → Held → Reg → Bool
above_by value wants byte goal register = (same_register register (selected_register byte) || is_some (wants register))
    && is_above (value (goal register)) (value (goal VoutMax))

abbrev words_by : (Reg → Bool) → (Reg → Bool) → Option PlanFault
words_by low high = first (
    first_of selectable (λ register. BelowMin register) low ∷
    first_of selectable (λ register. AboveMax register) high ∷
    [])

-- a register that is due is wanted
pub due-wanted : (held : Held) (wants : Wants) (r : Reg) → is_due held wants r ≡ true → is_some (wants r) ≡ true
due-wanted held wants r due = go (wants r) due where
  go : (o : Option ℕ) → not (unwrap_or o (held r) == held r) ≡ true → is_some o ≡ true
  go None d = let bad = sym d ∙ ap not (eq-eqb (held r) (held r) refl) in cc
  go (Some w) d = refl

module _ (value : Scale) (known held : Held) (wants : Wants) (none : wants Operation ≡ None)
    (agree : (register : Reg) → is_needed known wants register ≡ true → known register ≡ held register) where
  -- a register that is meant is needed
  is-needed : (r : Reg) → is_meant known wants r ≡ true → is_needed known wants r ≡ true
  is-needed Operation h = refl
  is-needed VoutMax h = refl
  is-needed VoutMin h = refl
  is-needed VoutCommand h = h
  is-needed MarginHigh h = h
  is-needed MarginLow h = h

  meant-same : (r : Reg) → is_meant known wants r ≡ is_meant held wants r
  meant-same r = ap (λ (byte : ℕ). same_register r (selected_register byte) || is_some (wants r)) (agree Operation refl)

  goal-agrees : (r : Reg) → is_needed known wants r ≡ true → goal_of known wants r ≡ goal_of held wants r
  goal-agrees r needed = ap (λ (w : ℕ). unwrap_or (wants r) w) (agree r needed)

  both-same : (a b x y : Bool) → a ≡ b → (a ≡ true → x ≡ y) → (a && x) ≡ (b && y)
  both-same true true x y e h = h refl
  both-same true false x y e h = cc
  both-same false true x y e h = cc
  both-same false false x y e h = refl

  below-same : (r : Reg) → is_below_min value known wants r ≡ is_below_min value held wants r
  below-same r = both-same _ _ _ _ (meant-same r) (λ meant. ap₂ (λ (a b : ℕ). is_above (value a) (value b)) (goal-agrees VoutMin refl)
      (goal-agrees r (is-needed r meant)))

  above-same : (r : Reg) → is_above_max value known wants r ≡ is_above_max value held wants r
  above-same r = both-same _ _ _ _ (meant-same r) (λ meant. ap₂ (λ (a b : ℕ). is_above (value a) (value b))
      (goal-agrees r (is-needed r meant)) (goal-agrees VoutMax refl))

  pub words-same : words_fault value known wants ≡ words_fault value held wants
  words-same = ap₂ words_by (fun_ext below-same) (fun_ext above-same)

  pub due-same : (r : Reg) → is_due known wants r ≡ is_due held wants r
  due-same r = go (wants r) refl where
    go : (o : Option ℕ) → wants r ≡ o → not (unwrap_or o (known r) == known r) ≡ not (unwrap_or o (held r) == held r)
    go None e = ap not (eq-eqb (known r) (known r) refl ∙ sym (eq-eqb (held r) (held r) refl))
    go (Some w) e = ap (λ (k : ℕ). not (w == k)) (agree r (wanted-needed known wants r (ap is_some e)))

  pub protection-same : (protect : ℕ) → protection_fault protect known wants ≡ protection_fault protect held wants
  protection-same protect = ap (λ (t : Reg → Bool). first_of voltages (λ register. Protected register) t)
      (fun_ext (λ (r : Reg). ap (λ (b : Bool). b && not (is_allowed protect (register_code r))) (due-same r)))

  -- the next order is the same
  pub order-same : option_map (order_of known wants) (next_register value known wants)
      ≡ option_map (order_of held wants) (next_register value held wants)
  order-same = go (next_register value known wants) refl ∙ ap (option_map (order_of held wants))
      (next-same value known held wants none agree)
    where
      due-of : (r : Reg) → next_register value known wants ≡ Some r → is_due known wants r ≡ true
      due-of r e = next-due r (subst (λ (o : Option Reg). IsNext known wants o) e (is-next value known wants)) where
        next-due : (x : Reg) → IsNext known wants (Some x) → is_due known wants x ≡ true
        next-due Operation is = absurd is
        next-due VoutCommand is = is
        next-due MarginHigh is = is
        next-due MarginLow is = is
        next-due VoutMax is = is
        next-due VoutMin is = is

      go : (o : Option Reg) → next_register value known wants ≡ o → option_map (order_of known wants) o ≡ option_map (order_of held wants) o
      go None e = refl
      go (Some r) e = ap (λ (w : ℕ). Some (record { register = r; word = w }))
          (goal-agrees r (wanted-needed known wants r (due-wanted known wants r (due-of r e))))

-- ---- What an order makes of the words ----

-- how many registers are due
abbrev one : Bool → ℕ
one b = cond b 1 0

pub dues : Held → Wants → ℕ
dues held wants = one (is_due held wants VoutCommand) + one (is_due held wants MarginHigh)
    + one (is_due held wants MarginLow) + one (is_due held wants VoutMax) + one (is_due held wants VoutMin)

-- the register that is ordered next is due
pub next-is-due : (value : Scale) (held : Held) (wants : Wants) (r : Reg) → next_register value held wants ≡ Some r →
    (is_due held wants r ≡ true) × (same_register r Operation ≡ false)
next-is-due value held wants r e = go r (subst (λ (o : Option Reg). IsNext held wants o) e (is-next value held wants)) where
  go : (x : Reg) → IsNext held wants (Some x) → (is_due held wants x ≡ true) × (same_register x Operation ≡ false)
  go Operation is = absurd is
  go VoutCommand is = (is, refl)
  go MarginHigh is = (is, refl)
  go MarginLow is = (is, refl)
  go VoutMax is = (is, refl)
  go VoutMin is = (is, refl)

-- each order leaves one fewer
pub fewer : (value : Scale) (held : Held) (wants : Wants) (r : Reg) → next_register value held wants ≡ Some r →
    dues (put held r (goal_of held wants r)) wants + 1 ≤ dues held wants
unfolding dues
fewer value held wants r e = go r (subst (λ (o : Option Reg). IsNext held wants o) e (is-next value held wants)) where
  gone : (o : Option ℕ) (w : ℕ) → not (unwrap_or o (unwrap_or o w) == unwrap_or o w) ≡ false
  gone None w = grind (arith, nat_tests)
  gone (Some v) w = grind (arith, nat_tests)

  go : (x : Reg) → IsNext held wants (Some x) →
      one (is_due (put held x (goal_of held wants x)) wants VoutCommand) + one (is_due (put held x (goal_of held wants x)) wants MarginHigh)
      + one (is_due (put held x (goal_of held wants x)) wants MarginLow) + one (is_due (put held x (goal_of held wants x)) wants VoutMax)
      + one (is_due (put held x (goal_of held wants x)) wants VoutMin) + 1
      ≤ one (is_due held wants VoutCommand) + one (is_due held wants MarginHigh)
      + one (is_due held wants MarginLow) + one (is_due held wants VoutMax) + one (is_due held wants VoutMin)
  go Operation is = absurd is
  go VoutCommand is = rw is (rw (gone (wants VoutCommand) (held VoutCommand)) (omega arith))
  go MarginHigh is = rw is (rw (gone (wants MarginHigh) (held MarginHigh)) (omega arith))
  go MarginLow is = rw is (rw (gone (wants MarginLow) (held MarginLow)) (omega arith))
  go VoutMax is = rw is (rw (gone (wants VoutMax) (held VoutMax)) (omega arith))
  go VoutMin is = rw is (rw (gone (wants VoutMin) (held VoutMin)) (omega arith))

-- no order is left if none is due; there are five at most
pub none-next : (value : Scale) (held : Held) (wants : Wants) → dues held wants ≡ 0 → next_register value held wants ≡ None
none-next value held wants zero' = go (next_register value held wants) refl where
  go : (o : Option Reg) → next_register value held wants ≡ o → o ≡ None
  go None e = refl
  go (Some r) e = let less = fewer value held wants r e in absurd (omega arith)

pub none-due : (value : Scale) (held : Held) (wants : Wants) → next_register value held wants ≡ None → dues held wants ≡ 0
unfolding dues
none-due value held wants e =
    let free = subst (λ (o : Option Reg). IsNext held wants o) e (is-next value held wants) in
    rw (free.0) (rw (free.1) (rw (free.2) (rw (free.3) (rw (free.4) refl))))

pub five-dues : (held : Held) (wants : Wants) → dues held wants ≤ 5
unfolding dues
five-dues held wants = go (is_due held wants VoutCommand) (is_due held wants MarginHigh)
    (is_due held wants MarginLow) (is_due held wants VoutMax) (is_due held wants VoutMin)
  where
    small : (b : Bool) → one b ≤ 1
    small true = omega arith
    small false = omega arith

    go : (a b c d e : Bool) → one a + one b + one c + one d + one e ≤ 5
    go a b c d e = let a' = small a in let b' = small b in let c' = small c in let d' = small d in let e' = small e in omega arith

-- the words at the end stay, and so does the judgement of them
pub goal-stays : (held : Held) (wants : Wants) (r : Reg) → goal_of (put held r (goal_of held wants r)) wants ≡ goal_of held wants
goal-stays held wants r = fun_ext (λ (q : Reg). goal-put held wants r q)

pub words-stay : (value : Scale) (held : Held) (wants : Wants) (r : Reg) → same_register r Operation ≡ false →
    words_fault value (put held r (goal_of held wants r)) wants ≡ words_fault value held wants
words-stay value held wants r other =
    ap₂ (λ (byte : ℕ) (goal : Held). words_by (below_by value wants byte goal) (above_by value wants byte goal))
    (ap (λ (b : Bool). if b then goal_of held wants r else held Operation) other) (goal-stays held wants r)

-- a register that is due then was due before
pub due-before : (held : Held) (wants : Wants) (r q : Reg) → is_due (put held r (goal_of held wants r)) wants q ≡ true →
    is_due held wants q ≡ true
due-before held wants r q due = go (same_register r q) refl
    (sym (ap (λ (g : ℕ). not (g == put held r (goal_of held wants r) q)) (goal-put held wants r q)) ∙ due)
  where
    go : (b : Bool) → same_register r q ≡ b → not (goal_of held wants q == (if b then goal_of held wants r else held q)) ≡ true →
        is_due held wants q ≡ true
    go false e d = d
    go true e d =
        let same : goal_of held wants q ≡ goal_of held wants r = ap (goal_of held wants) (sym (one-register r q e)) in
        let bad : true ≡ false = sym d ∙ ap not (eq-eqb (goal_of held wants q) (goal_of held wants r) same) in cc
      where
        one-register : (x y : Reg) → same_register x y ≡ true → x ≡ y
        one-register x y h = ap (λ (o : Option Reg). unwrap_or o x) (sym (other-place (Some x) (Some y) h))

-- ---- The plan by what is known is the plan by what is held ----

-- WRITE_PROTECT allows each register that is due
abbrev pub Allows : ℕ → Held → Wants → Type 0
Allows protect held wants = (r : Reg) → is_due held wants r ≡ true → is_allowed protect (register_code r) ≡ true

-- a test that holds of none of a list
any-none : (test : Reg → Bool) → ((r : Reg) → test r ≡ false) → (list : List Reg) → list_any test list ≡ false
any-none test off [] = refl
any-none test off (r ∷ list) = ap₂ (λ (a b : Bool). a || b) (off r) (any-none test off list)

-- a register that the part has, or one that it lacks and that stands at a word
abbrev Stands : PartRegisters → Shape → Reg → Type 0
Stands part shape r = (has_register part r ≡ true) ⊎ ((w : ℕ) × (missing_word part shape r ≡ Some w) × (is_voltage r ≡ true))

-- the plan of an output by what a guard's host knows
abbrev pub plan_in : ℕ → Wanted → Guarded → Result (Option PlanOrder) PlanFault
plan_in output wanted guard = plan_of guard.registers guard.host (limits_at guard output) output (wants_of wanted)

module _ (guard : Guarded) (h : Converter) (v : Survey) (spare : ℕ) (at : At v guard h spare)
    (wanted : Wanted) (plan : wanted_in v.plan ≡ wanted)
    (free : due_job guard.registers v guard.host ≡ None) where
  abbrev wants : Wants
  wants = wants_of wanted

  abbrev part : PartRegisters
  part = guard.registers

  abbrev shape : Shape
  shape = shape_for h.config v.output

  abbrev cells : Cells
  cells = cells_of guard.registers shape guard.host

  abbrev known : Held
  known = known_of cells v.output

  wants-are : wants_of (wanted_in v.plan) ≡ wants
  wants-are = ap wants_of plan

  -- nothing is due: the format was learned, and each needed register that the part has was read and is known
  pub record Free (s : Shape) : Type 0 where
    learned : v.learned ≡ true
    unread : (r : Reg) → is_unread guard.registers v.read (known_of (cells_of guard.registers s guard.host) v.output) wants r ≡ false
    unsure : (r : Reg) → is_unsure guard.registers (cells_of guard.registers s guard.host) v.output
        (known_of (cells_of guard.registers s guard.host) v.output) wants r ≡ false

  by-format : (s : Shape) → due_by guard.registers v guard.host (Some s) ≡ None → Free s
  by-format s none =
      let cs = cells_of guard.registers s guard.host in
      let one = or-none (rule (not v.learned) (Learn v.output)) _ none in
      let two = or-none (option_map (λ r. Check (Out v.output r)) (find (is_unread guard.registers v.read (known_of cs v.output)
      (wants_of (wanted_in v.plan))) registers)) _ one.1 in
      let three = or-none (rule (is_some v.plan && not v.read.protect) (Check Protect)) _ two.1 in
      let four = or-none (option_map (λ r. Check (Out v.output r)) (find (is_unsure guard.registers cs v.output (known_of cs v.output)
      (wants_of (wanted_in v.plan))) registers)) _ three.1 in
      record {
        learned = not-false v.learned (rule-none _ _ one.0);
        unread = λ r. subst (λ (w : Wants). is_unread guard.registers v.read (known_of cs v.output) w r ≡ false) wants-are
            (all-off (is_unread guard.registers v.read (known_of cs v.output) (wants_of (wanted_in v.plan)))
            (map-none (λ x. Check (Out v.output x)) _ two.0) r);
        unsure = λ r. subst (λ (w : Wants). is_unsure guard.registers cs v.output (known_of cs v.output) w r ≡ false) wants-are
            (all-off (is_unsure guard.registers cs v.output (known_of cs v.output) (wants_of (wanted_in v.plan)))
            (map-none (λ x. Check (Out v.output x)) _ four.0) r);
      }

  format : format_at guard.host v.output ≡ Some shape
  format = go (format_at guard.host v.output) refl free where
    go : (f : Option Shape) → format_at guard.host v.output ≡ f → due_by guard.registers v guard.host f ≡ None →
        format_at guard.host v.output ≡ Some shape
    go None e none = cc
    go (Some s) e none = e ∙ ap (λ (x : Shape). Some x) (at.format s e)

  is-free : Free shape
  is-free = by-format shape (subst (λ (f : Option Shape). due_by guard.registers v guard.host f ≡ None) format free)

  -- a needed register that the part has
  module _ (r : Reg) (has : has_register guard.registers r ≡ true) (needed : is_needed known wants r ≡ true) where
    cell-is : cells (Out v.output r) ≡ possible_at guard.host (Out v.output r)
    cell-is = ap (λ (o : Option ℕ). option_map_or only o (possible_at guard.host (Out v.output r)))
        (has-none guard.registers shape r has)

    pub read-is : has_read v.read r ≡ true
    read-is = not-false (has_read v.read r) (not-second (is_needed known wants r) _
        (not-second (has_register guard.registers r) _ (is-free.unread r) has) needed)

    pub known-is : is_none (known_at cells (Out v.output r)) ≡ false
    known-is = not-second (is_needed known wants r) _ (not-second (has_register guard.registers r) _ (is-free.unsure r) has) needed

    has-agree : known r ≡ output_words_of h v.output r
    has-agree =
        let there = none-some (known_word (Out v.output r) (possible_at guard.host (Out v.output r)))
        (subst (λ (p : Possible). is_none (known_word (Out v.output r) p) ≡ false) cell-is known-is) in
        let is = true-of at.knows (Some r) read-is there in
        known-held cells (Out v.output r) (output_words_of h v.output r)
        (ap (λ (p : Possible). is_possible (output_words_of h v.output r) p) (cell-is ∙ is)
        ∙ only-possible (output_words_of h v.output r)) known-is

  pub operation-is : known Operation ≡ output_words_of h v.output Operation
  operation-is = has-agree Operation refl refl

  module _ (asked : missing_fault guard.registers (wants_of wanted) ≡ None)
      (chosen : has_register guard.registers (selected_register (output_words_of h v.output Operation)) ≡ true) where
    -- one that it lacks, and that stands at a word
    module _ (r : Reg) (w : ℕ) (missing : missing_word guard.registers shape r ≡ Some w) (volt : is_voltage r ≡ true) where
      stands-at : cells (Out v.output r) ≡ only w
      stands-at = ap (λ (o : Option ℕ). option_map_or only o (possible_at guard.host (Out v.output r))) missing

      stands-known : is_none (known_at cells (Out v.output r)) ≡ false
      stands-known = is-known (Out v.output r) w (cells (Out v.output r)) (ap (λ (b : Bool). b || is_operation w) volt) stands-at

    -- a needed register is there, or stands at a word
    stands : (r : Reg) → is_needed known wants r ≡ true → Stands guard.registers shape r
    stands r needed = by r needed where
      meant : (x : Reg) → (same_register x (selected_register (known Operation)) || is_some (wants x)) ≡ true →
          has_register guard.registers x ≡ true
      meant x m = go (same_register x (selected_register (known Operation))) refl m where
        wanted-has : is_some (wants x) ≡ true → is_voltage x ≡ true → has_register guard.registers x ≡ true
        wanted-has some volt = not-false (has_register guard.registers x) (not-second (is_some (wants x)) _
            (none-voltage (λ r'. MissingRegister r') (is_wanted_missing guard.registers wants) asked x volt) some)

        own : (y : Reg) → is_some (wants y) ≡ true → is_voltage y ≡ true
        own Operation some = cc
        own VoutCommand some = refl
        own VoutMax some = refl
        own MarginHigh some = refl
        own MarginLow some = refl
        own VoutMin some = refl

        go : (b : Bool) → same_register x (selected_register (known Operation)) ≡ b → (b || is_some (wants x)) ≡ true →
            has_register guard.registers x ≡ true
        go true e m' = subst (λ (y : Reg). has_register guard.registers y ≡ true) (sym (one-register x _ e))
            (ap (λ (byte : ℕ). has_register guard.registers (selected_register byte)) operation-is ∙ chosen)
          where
            one-register : (a b : Reg) → same_register a b ≡ true → a ≡ b
            one-register a b e' = ap (λ (o : Option Reg). unwrap_or o a) (sym (other-place (Some a) (Some b) e'))
        go false e m' = wanted-has m' (own x m')

      limit : (x : Reg) (has : Bool) → has_register guard.registers x ≡ has → (w : ℕ) →
          (has ≡ false → missing_word guard.registers shape x ≡ Some w) →
          is_voltage x ≡ true → Stands guard.registers shape x
      limit x true e w missing volt = inl e
      limit x false e w missing volt = inr (w, missing refl, volt)

      by : (x : Reg) → is_needed known wants x ≡ true → Stands guard.registers shape x
      by Operation n = inl refl
      by VoutCommand n = inl refl
      by MarginHigh n = inl (meant MarginHigh n)
      by MarginLow n = inl (meant MarginLow n)
      by VoutMax n = limit VoutMax guard.registers.vout_max refl (format_end Highest shape)
          (λ no'. ap (λ (b : Bool). cond b None (Some (format_end Highest shape))) no') refl
      by VoutMin n = limit VoutMin guard.registers.vout_min refl (format_end Lowest shape)
          (λ no'. ap (λ (b : Bool). cond b None (Some (format_end Lowest shape))) no') refl

    known-needed : (r : Reg) → is_needed known wants r ≡ true → is_none (known_at cells (Out v.output r)) ≡ false
    known-needed r needed = go (stands r needed) where
      go : Stands guard.registers shape r → is_none (known_at cells (Out v.output r)) ≡ false
      go (inl has) = known-is r has needed
      go (inr (w, missing, volt)) = stands-known r w missing volt

    -- no register is unknown
    unknown-off : (r : Reg) → is_unknown cells v.output known wants r ≡ false
    unknown-off r = go (is_needed known wants r) refl where
      go : (b : Bool) → is_needed known wants r ≡ b → (b && is_none (known_at cells (Out v.output r))) ≡ false
      go true e = known-needed r e
      go false e = refl

    pub unstuck : is_stuck guard.registers v guard.host ≡ false
    unstuck = ap (λ (f : Option Shape). is_stuck_by guard.registers v guard.host f) format
        ∙ (ap (λ (w : Wants). is_stuck_in guard.registers v.output cells known w) wants-are
        ∙ any-none (is_lacking guard.registers cells v.output known wants)
        (λ r. ap (λ (b : Bool). not (has_register guard.registers r) && b) (unknown-off r) ∙ and-false
        (not (has_register guard.registers r)))
        registers)

    surveyed : is_surveyed guard.registers v guard.host ≡ true
    surveyed = ap₂ (λ (o : Option Job) (b : Bool). is_none o && not b) free unstuck

  module _ (end_known : SurveysEndKnown) (fits : FitsPart guard.registers h v.output (wants_of wanted)) where
    stands-agree : (r : Reg) (w : ℕ) → missing_word guard.registers shape r ≡ Some w → is_voltage r ≡ true → known r
        ≡ output_words_of h v.output r
    stands-agree r w missing volt = known-held cells (Out v.output r) (output_words_of h v.output r)
        (ap₂ (λ (x : ℕ) (p : Possible). is_possible x p) (fits.missing r w missing)
        (stands-at fits.wanted fits.selected r w missing volt) ∙ only-possible w)
        (stands-known fits.wanted fits.selected r w missing volt)

    agree : (r : Reg) → is_needed known wants r ≡ true → known r ≡ output_words_of h v.output r
    agree r needed = go (stands fits.wanted fits.selected r needed) where
      go : Stands guard.registers shape r → known r ≡ output_words_of h v.output r
      go (inl has) = has-agree r has needed
      go (inr (w, missing, volt)) = stands-agree r w missing volt

    protect-both : is_some v.plan ≡ true →
        (v.read.protect ≡ true) × (is_none (known_word Protect (possible_at guard.host Protect)) ≡ false)
    protect-both some = end_known.protection guard.registers v guard.host (surveyed fits.wanted fits.selected) some

    protect-is : is_some v.plan ≡ true → known_or cells Protect ≡ word_at h.words Protect
    protect-is some =
        let both = protect-both some in
        let is = true-of at.knows None both.0 (none-some _ both.1) in
        known-held cells Protect (word_at h.words Protect)
        (ap (λ (p : Possible). is_possible (word_at h.words Protect) p) is ∙ only-possible (word_at h.words Protect)) both.1

    -- the plan is the one by the words that are held
    pub plan-is : is_some v.plan ≡ true → plan_in v.output wanted guard ≡ answer (held_fault (limits_at guard v.output) h v.output wants)
        (option_map (order_of (output_words_of h v.output) wants)
        (next_register (value_for h.config v.output) (output_words_of h v.output) wants))
    plan-is some =
        let value = shape_value shape in
        let limits = limits_at guard v.output in
        let faults : planned_fault cells limits v.output known wants value ≡ held_fault limits h v.output wants =
        five-three (limits_fault limits value wants) (unknown_fault cells v.output known wants) (protect_fault cells value known wants)
        (words_fault value known wants) (protection_fault (known_or cells Protect) known wants) unknown protects
        ∙ ap₂ (λ (a b : Option PlanFault). first (limits_fault limits value wants ∷ a ∷ b ∷ []))
        (words-same value known (output_words_of h v.output) wants refl agree)
        (ap (λ (p : ℕ). protection_fault p known wants) (protect-is some)
        ∙ protection-same value known (output_words_of h v.output) wants refl agree (word_at h.words Protect)) in
        ap (λ (b : Bool). if b then Err Busy else unless (missing_fault guard.registers wants)
        (planned_in guard.registers guard.host limits v.output wants (format_at guard.host v.output))) at.idle
        ∙ (ap₂ (λ (m : Option PlanFault) (f : Option Shape). unless m (planned_in guard.registers guard.host limits v.output wants f))
        fits.wanted format
        ∙ ap₂ (λ (f : Option PlanFault) (o : Option PlanOrder). answer f o) faults
        (order-same value known (output_words_of h v.output) wants refl agree))
      where
        unknown : unknown_fault cells v.output known wants ≡ None
        unknown = first-none-of (λ r. NotKnown (Out v.output r)) (is_unknown cells v.output known wants)
            (unknown-off fits.wanted fits.selected) registers

        protects : protect_fault cells (shape_value shape) known wants ≡ None
        protects = ap (λ (b : Bool). if (is_some (next_register (shape_value shape) known wants) && b) then
            Some (NotKnown Protect) else None)
            (protect-both some).1 ∙ off (is_some (next_register (shape_value shape) known wants))
          where
            off : (b : Bool) → (if (b && false) then Some (NotKnown Protect) else None) ≡ None
            off true = refl
            off false = refl

-- a converter with the same words fits as well
pub same-fits : (part' part : PartRegisters) (new h : Converter) (o' o : ℕ) (p' p : Option Wanted) → part' ≡ part → new.words ≡ h.words →
    new.config ≡ h.config → o' ≡ o → p' ≡ p → FitsPart part h o (wants_of (wanted_in p)) → FitsPart part' new o' (wants_of (wanted_in p'))
same-fits part' part new h o' o p' p parts words config outputs plans fits =
    subst (λ (x : PartRegisters). FitsPart x new o' (wants_of (wanted_in p'))) (sym parts)
    (subst (λ (x : ℕ). FitsPart part new x (wants_of (wanted_in p'))) (sym outputs)
    (subst (λ (x : Option Wanted). FitsPart part new o (wants_of (wanted_in x))) (sym plans) (record {
      wanted = fits.wanted;
      selected = ap (λ (w : Words). has_register part (selected_register (word_at w (Out o Operation)))) words ∙ fits.selected;
      missing = subst (λ (c : Config). HoldsMissing part c new.words o) (sym config)
          (subst (λ (w : Words). HoldsMissing part h.config w o) (sym words) fits.missing);
    })))
