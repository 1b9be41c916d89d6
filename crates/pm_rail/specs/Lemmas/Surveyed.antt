-- What a survey has read and what is known where it has nothing left to ask for.
use Rattle.std.specs.Prelude.{◌≡◌, ◌<◌, ◌+◌, ◌==◌, ℕ, Bool, true, false, not, ◌&&◌, ◌||◌, if◌then◌else◌, refl, find, List, [], ◌∷◌, Option}
use Rattle.std.specs.Prelude.{Some, None, is_none, is_some, option_map}
use Rattle.std.specs.Option.{option_or}
use Rattle.std.specs.List.{list_any}
use Rattle.std.proofs.Common.{ap, cond, subst, arith}
use Rattle.std.proofs.lemmas.Bool.Decides.{nat_tests}
use Rattle.std.proofs.lemmas.Bool.{and_parts, not-false, not-true}
use Rattle.pm_table.specs.declared.cell.Cell.TheVariants.{Out, Protect}
use Rattle.pm_table.specs.declared.reg.Reg.{Reg}
use Rattle.pm_table.specs.declared.reg.Reg.TheVariants.{Operation, VoutCommand, VoutMax, MarginHigh, MarginLow, VoutMin}
use Rattle.pm_table.specs.Cell.{registers}
use Rattle.pm_table.specs.Rules.{rule}
use Rattle.pm_table.specs.RuleLemmas.{map-none, or-none, rule-none}
use Rattle.pm_host.specs.declared.job.Job.{Job}
use Rattle.pm_host.specs.declared.job.Job.TheVariants.{Check, Learn}
use Rattle.pm_num.specs.AnyFormat.{Shape}
use Rattle.pm_host.specs.Summary.{Summary, format_at, possible_at}
use Rattle.pm_limits.specs.declared.part_registers.PartRegisters.{PartRegisters}
use Rattle.pm_limits.specs.declared.ends.Side.TheVariants.{Lowest, Highest}
use Rattle.pm_limits.specs.Ends.{format_end}
use Rattle.pm_limits.specs.Part.{all_registers, has_register, missing_word}
use Rattle.pm_rail.specs.declared.survey.Survey.{Survey}
use Rattle.pm_rail.specs.Known.{Cells, cells_of, known_at, known_of, known_word}
use Rattle.pm_rail.specs.Orders.{is_needed}
use Rattle.pm_rail.specs.Registers.{Held, Wants, wants_of}
use Rattle.pm_rail.specs.Survey.{asking, due_by, survey_due_in, due_job, has_read, is_lacking, is_stuck, is_stuck_by, is_stuck_in}
use Rattle.pm_rail.specs.Survey.{is_surveyed}
use Rattle.pm_rail.specs.Survey.{is_unread, is_unsure, next_job, wanted_in}
use Rattle.pm_rail.specs.Lemmas.Known.{all-off, not-second}

is-none : {A : Type 0} (o : Option A) → is_none o ≡ true → o ≡ None
is-none None h = refl
is-none (Some a) h = cc

-- a register that the part has stands at no word of a missing one
pub has-none : (part : PartRegisters) (shape : Shape) (register : Reg) → has_register part register ≡ true →
    missing_word part shape register ≡ None
has-none part shape VoutMin has = ap (λ (b : Bool). cond b None (Some (format_end Lowest shape))) has
has-none part shape VoutMax has = ap (λ (b : Bool). cond b None (Some (format_end Highest shape))) has
has-none part shape register has = refl

-- no register is lacking where none of the list is
none-lacking : (test : Reg → Bool) → list_any test registers ≡ false → (register : Reg) → test register ≡ false
none-lacking test none register =
    let one = or-off (test Operation) _ none in
    let two = or-off (test VoutCommand) _ one.1 in
    let three = or-off (test VoutMax) _ two.1 in
    let four = or-off (test MarginHigh) _ three.1 in
    let five = or-off (test MarginLow) _ four.1 in
    let six = or-off (test VoutMin) false five.1 in
    elim register as (λ r. test r ≡ false) [
      | Operation ↦ one.0
      | VoutCommand ↦ two.0
      | VoutMax ↦ three.0
      | MarginHigh ↦ four.0
      | MarginLow ↦ five.0
      | VoutMin ↦ six.0
    ]
  where
    or-off : (a b : Bool) → (a || b) ≡ false → (a ≡ false) × (b ≡ false)
    or-off true b h = cc
    or-off false b h = (refl, h)

-- what is due, where nothing is
module _ (part : PartRegisters) (v : Survey) (cells : Cells) (held : Held) (wants : Wants)
    (free : survey_due_in part v cells held wants ≡ None) where
  learns : Option Job
  learns = rule (not v.learned) (Learn v.output)

  reads : Option Job
  reads = option_map (λ register. Check (Out v.output register)) (find (is_unread part v.read held wants) registers)

  protects : Option Job
  protects = rule (is_some v.plan && not v.read.protect) (Check Protect)

  checks : Option Job
  checks = option_map (λ register. Check (Out v.output register)) (find (is_unsure part cells v.output held wants) registers)

  protects_again : Option Job
  protects_again = rule (is_some v.plan && is_none (known_at cells Protect)) (Check Protect)

  all : option_or learns (option_or reads (option_or protects (option_or checks (option_or protects_again None)))) ≡ None
  unfolding learns reads protects checks protects_again
  all = free

  learned-in : v.learned ≡ true
  unfolding learns
  learned-in = not-false _ (rule-none _ _ (or-none learns _ all).0)

  -- a needed register that the part has was read, and it is known
  known-in : is_stuck_in part v.output cells held wants ≡ false → (register : Reg) → is_needed held wants register ≡ true →
      (has_register part register ≡ true → has_read v.read register ≡ true)
      × (is_none (known_at cells (Out v.output register)) ≡ false)
  unfolding reads checks
  known-in unstuck register needed =
      let others = (or-none learns _ all).1 in
      let later = (or-none protects _ (or-none reads _ others).1).1 in
      let read = all-off (is_unread part v.read held wants) (map-none _ _ (or-none reads _ others).0) register in
      let sole = all-off (is_unsure part cells v.output held wants) (map-none _ _ (or-none checks _ later).0) register in
      let lack = none-lacking (is_lacking part cells v.output held wants) unstuck register in (
        λ has. not-false _ (not-second (is_needed held wants register) _ (not-second (has_register part register) _ read has) needed),
        not-second (is_needed held wants register) _ (either (has_register part register) _ sole lack) needed,
      )
    where
      either : (has unknown : Bool) → (has && unknown) ≡ false → (not has && unknown) ≡ false → unknown ≡ false
      either true unknown h k = h
      either false unknown h k = k

  protection-in : is_some v.plan ≡ true → (v.read.protect ≡ true) × (is_none (known_at cells Protect) ≡ false)
  unfolding protects protects_again
  protection-in plan =
      let others = (or-none reads _ (or-none learns _ all).1).1 in
      let last = (or-none checks _ (or-none protects _ others).1).1 in (
        not-false _ (not-second (is_some v.plan) _ (rule-none _ _ (or-none protects _ others).0) plan),
        not-second (is_some v.plan) _ (rule-none _ _ (or-none protects_again _ last).0) plan,
      )

-- nothing is due, and the survey isn't stuck
ended-free : (part : PartRegisters) (v : Survey) (s : Summary) → is_surveyed part v s ≡ true → due_job part v s ≡ None
ended-free part v s is = is-none (due_job part v s) (and_parts (is_none (due_job part v s)) _ is).0

ended-unstuck : (part : PartRegisters) (v : Survey) (s : Summary) → is_surveyed part v s ≡ true → is_stuck part v s ≡ false
ended-unstuck part v s is = not-true (is_stuck part v s) (and_parts (is_none (due_job part v s)) _ is).1

pub format : (part : PartRegisters) (v : Survey) (s : Summary) → is_surveyed part v s ≡ true →
    (v.learned ≡ true) × (is_none (format_at s v.output) ≡ false)
format part v s is = go (format_at s v.output) (ended-free part v s is) where
  go : (format : Option Shape) → due_by part v s format ≡ None → (v.learned ≡ true) × (is_none format ≡ false)
  go None free = cc
  go (Some shape) free =
      let cells = cells_of part shape s in
      (learned-in part v cells (known_of cells v.output) (wants_of (wanted_in v.plan)) free, refl)

pub known : (part : PartRegisters) (v : Survey) (s : Summary) (shape : Shape) (register : Reg) →
    is_surveyed part v s ≡ true → format_at s v.output ≡ Some shape →
    let cells = cells_of part shape s in
    is_needed (known_of cells v.output) (wants_of (wanted_in v.plan)) register ≡ true →
    (has_register part register ≡ true → has_read v.read register ≡ true)
    × (is_none (known_at cells (Out v.output register)) ≡ false)
known part v s shape register is learned needed =
    let cells = cells_of part shape s in
    known-in part v cells (known_of cells v.output) (wants_of (wanted_in v.plan))
    (subst (λ (f : Option Shape). due_by part v s f ≡ None) learned (ended-free part v s is))
    (subst (λ (f : Option Shape). is_stuck_by part v s f ≡ false) learned (ended-unstuck part v s is))
    register needed

pub protection : (part : PartRegisters) (v : Survey) (s : Summary) → is_surveyed part v s ≡ true → is_some v.plan ≡ true →
    (v.read.protect ≡ true) × (is_none (known_word Protect (possible_at s Protect)) ≡ false)
protection part v s is plan = go (format_at s v.output) (ended-free part v s is) where
  go : (format : Option Shape) → due_by part v s format ≡ None →
      (v.read.protect ≡ true) × (is_none (known_word Protect (possible_at s Protect)) ≡ false)
  go None free = cc
  go (Some shape) free =
      let cells = cells_of part shape s in
      protection-in part v cells (known_of cells v.output) (wants_of (wanted_in v.plan)) free plan

pub asking_takes_a_try : (part : PartRegisters) (v : Survey) (s : Summary) → is_surveyed part v s ≡ false → is_stuck part v s ≡ false →
    0 < v.left →
    (is_some (next_job part v s) ≡ true) × ((asking v (next_job part v s)).left + 1 ≡ v.left)
asking_takes_a_try part v s busy unstuck left =
    go (v.left == 0) refl (due_job part v s) (due (is_none (due_job part v s)) (is_stuck part v s) busy unstuck)
  where
    due : (none stuck : Bool) → (none && not stuck) ≡ false → stuck ≡ false → none ≡ false
    due none true h k = cc
    due true false h k = h
    due false false h k = refl

    go : (empty : Bool) → (v.left == 0) ≡ empty → (job : Option Job) → is_none job ≡ false →
        (is_some (if empty then None else job) ≡ true) × ((asking v (if empty then None else job)).left + 1 ≡ v.left)
    go true e job some = absurd (let bad : v.left ≡ 0 = grind (arith, nat_tests) in omega arith)
    go false e None some = cc
    go false e (Some job) some = (refl, omega arith)

-- a part with every register lacks none
pub whole_part_lacks_none : (v : Survey) (s : Summary) → is_stuck all_registers v s ≡ false
whole_part_lacks_none v s = go (format_at s v.output) where
  go : (format : Option Shape) → is_stuck_by all_registers v s format ≡ false
  go None = refl
  go (Some shape) = refl

-- what is found passes the test
pub found_passes_test : (test : Reg → Bool) (listed : List Reg) (register : Reg) → find test listed ≡ Some register → test register ≡ true
found_passes_test test [] register is = cc
found_passes_test test (one ∷ rest) register is = go (found_passes_test test rest register) (test one) refl is where
  go : (find test rest ≡ Some register → test register ≡ true) → (b : Bool) → test one ≡ b →
      (if b then Some one else find test rest) ≡ Some register → test register ≡ true
  go later true e same =
      let it : one ≡ register = cc in subst (λ (r : Reg). test r ≡ true) it e
  go later false e same = later same

-- a survey asks for no register that the part doesn't have
asked-there : (part : PartRegisters) (v : Survey) (cells : Cells) (held : Held) (wants : Wants) (output : ℕ) (register : Reg) →
    survey_due_in part v cells held wants ≡ Some (Check (Out output register)) → has_register part register ≡ true
asked-there part v cells held wants output register is =
    go (not v.learned) (find (is_unread part v.read held wants) registers) (is_some v.plan && not v.read.protect)
    (find (is_unsure part cells v.output held wants) registers) (is_some v.plan && is_none (known_at cells Protect)) refl refl is
  where
    go : (l : Bool) (u : Option Reg) (p : Bool) (n : Option Reg) (q : Bool) → find (is_unread part v.read held wants) registers ≡ u →
        find (is_unsure part cells v.output held wants) registers ≡ n →
        option_or (rule l (Learn v.output)) (option_or (option_map (λ r. Check (Out v.output r)) u) (option_or (rule p (Check Protect))
        (option_or (option_map (λ r. Check (Out v.output r)) n) (option_or (rule q (Check Protect)) None))))
        ≡ Some (Check (Out output register)) → has_register part register ≡ true
    go true u p n q eu en h = cc
    go false (Some r) p n q eu en h =
        let same : r ≡ register = cc in
        subst (λ (x : Reg). has_register part x ≡ true) same
        (and_parts (has_register part r) _ (found_passes_test (is_unread part v.read held wants) registers r eu)).0
    go false None true n q eu en h = cc
    go false None false (Some r) q eu en h =
        let same : r ≡ register = cc in
        subst (λ (x : Reg). has_register part x ≡ true) same
        (and_parts (has_register part r) _ (found_passes_test (is_unsure part cells v.output held wants) registers r en)).0
    go false None false None true eu en h = cc
    go false None false None false eu en h = cc

pub unread : (part : PartRegisters) (v : Survey) (s : Summary) (output : ℕ) (register : Reg) →
    next_job part v s ≡ Some (Check (Out output register)) → has_register part register ≡ true
unread part v s output register is = go (v.left == 0) (format_at s v.output) is where
  go : (empty : Bool) (format : Option Shape) → (if empty then None else due_by part v s format) ≡ Some (Check (Out output register)) →
      has_register part register ≡ true
  go true format h = cc
  go false None h = cc
  go false (Some shape) h =
      let cells = cells_of part shape s in
      asked-there part v cells (known_of cells v.output) (wants_of (wanted_in v.plan)) output register h
