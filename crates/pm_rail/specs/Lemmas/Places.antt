-- The cells of an output that a survey reads, why it reads them, and what a good answer makes of what is known of them.
use Rattle.std.specs.Prelude.{◌≡◌, ◌≢◌, ◌≤◌, ◌<◌, ◌+◌, ◌==◌, ◌&&◌, ◌||◌, ℕ, Bool, true, false, not, cond, if◌then◌else◌, refl, List, [], ◌∷◌, length, Option, Some, None, is_none, is_some, slice_index_or}
use Rattle.std.specs.Option.{option_map_or}
use Rattle.std.proofs.Common.{arith, sym, ◌∙◌, ap, subst}
use Rattle.std.proofs.lemmas.Bool.{not-true}
use Rattle.std.proofs.lemmas.List.{get_or-set_other, get_or-set_same, length-replicate, length-set}
use Rattle.pm_num.specs.AnyFormat.{Shape}
use Rattle.pm_table.specs.declared.cell.Cell.{Cell}
use Rattle.pm_table.specs.declared.cell.Cell.TheVariants.{Out, Protect}
use Rattle.pm_table.specs.declared.reg.Reg.{Reg}
use Rattle.pm_table.specs.declared.reg.Reg.TheVariants.{Operation, VoutCommand, VoutMax, MarginHigh, MarginLow, VoutMin}
use Rattle.pm_table.specs.Cell.{IsCell, cell_accepts, cell_in, place_of, places, registers, same_register}
use Rattle.pm_table.specs.Laws.{CellsAreToldApart, CellsHavePlaces}
use Rattle.pm_table.specs.Rules.{rule}
use Rattle.pm_host.specs.declared.knowledge.Possible.{Possible}
use Rattle.pm_host.specs.declared.knowledge.Possible.TheVariants.{Any}
use Rattle.pm_host.specs.Known.{HasPlaces, Known, all_any, known_after, known_possible}
use Rattle.pm_host.specs.Marks.{Good}
use Rattle.pm_host.specs.Possible.{is_possible, only}
use Rattle.pm_host.specs.Summary.{Summary, possible_at}
use Rattle.pm_limits.specs.declared.part_registers.PartRegisters.{PartRegisters}
use Rattle.pm_limits.specs.Part.{has_register}
use Rattle.pm_host.specs.declared.knowledge.Standing.TheVariants.{Confirmed}
use Rattle.pm_rail.specs.declared.survey.Reads.{Reads}
use Rattle.pm_rail.specs.declared.survey.Survey.{Survey}
use Rattle.pm_rail.specs.Known.{cells_of, known_word}
use Rattle.pm_rail.specs.Orders.{is_needed}
use Rattle.pm_rail.specs.Registers.{Held, Wants}
use Rattle.pm_rail.specs.Survey.{and_read, has_read, is_unread, is_unsure, nothing_read}
use Rattle.pm_rail.specs.Lemmas.Steps.{first-of, second-of}
use Rattle.pm_rail.specs.Lemmas.Surveyed.{has-none}

-- ---- The cells of an output, and how many of them pass a test ----

-- a cell of an output: one of its registers, or WRITE_PROTECT
abbrev pub cell_of : ℕ → Option Reg → Cell
cell_of output (Some register) = Out output register
cell_of output None = Protect

abbrev pub same_place : Option Reg → Option Reg → Bool
same_place (Some register) (Some other) = same_register register other
same_place None None = true
same_place place other = false

-- the registers of a list, and WRITE_PROTECT
abbrev pub with_protect : List Reg → List (Option Reg)
with_protect [] = None ∷ []
with_protect (register ∷ listed) = Some register ∷ with_protect listed

-- how many pass a test
abbrev pub tally : (Option Reg → Bool) → List (Option Reg) → ℕ
tally test [] = 0
tally test (place ∷ listed) = cond (test place) (1 + tally test listed) (tally test listed)

unfoldable pub total : (Option Reg → Bool) → ℕ
total test = tally test (with_protect registers)

-- a place is itself alone
pub one-place : (p q : Option Reg) → same_place p q ≡ true → p ≡ q
one-place (Some Operation) (Some Operation) h = refl
one-place (Some VoutCommand) (Some VoutCommand) h = refl
one-place (Some VoutMax) (Some VoutMax) h = refl
one-place (Some MarginHigh) (Some MarginHigh) h = refl
one-place (Some MarginLow) (Some MarginLow) h = refl
one-place (Some VoutMin) (Some VoutMin) h = refl
one-place None None h = refl
one-place p q h = cc

-- each place stands once in the list
pub each_place_is_once : (p : Option Reg) → total (same_place p) ≡ 1
unfolding total
each_place_is_once (Some Operation) = refl
each_place_is_once (Some VoutCommand) = refl
each_place_is_once (Some VoutMax) = refl
each_place_is_once (Some MarginHigh) = refl
each_place_is_once (Some MarginLow) = refl
each_place_is_once (Some VoutMin) = refl
each_place_is_once None = refl

-- one more passes
pub more-in : (p q : Option Reg → Bool) (at : Option Reg) → ((x : Option Reg) → same_place at x ≡ false → q x ≡ p x) →
    p at ≡ false → q at ≡ true → (xs : List (Option Reg)) → tally q xs ≡ tally (same_place at) xs + tally p xs
more-in p q at others off on [] = refl
more-in p q at others off on (x ∷ xs) = go (more-in p q at others off on xs) (same_place at x) refl where
  equal : tally q xs ≡ tally (same_place at) xs + tally p xs → (a b : Bool) → b ≡ a →
      cond b (1 + tally q xs) (tally q xs) ≡ tally (same_place at) xs + cond a (1 + tally p xs) (tally p xs)
  equal rest true true e = omega arith
  equal rest true false e = cc
  equal rest false true e = cc
  equal rest false false e = rest

  go : tally q xs ≡ tally (same_place at) xs + tally p xs → (b : Bool) → same_place at x ≡ b → cond (q x) (1 + tally q xs) (tally q xs)
      ≡ cond b (1 + tally (same_place at) xs) (tally (same_place at) xs) + cond (p x) (1 + tally p xs) (tally p xs)
  go rest true e =
      let one = one-place at x e in
      let is_on : q x ≡ true = subst (λ (y : Option Reg). q y ≡ true) one on in
      let is_off : p x ≡ false = subst (λ (y : Option Reg). p y ≡ false) one off in
      rw (is_on, is_off) (omega arith)
  go rest false e = equal rest (p x) (q x) (others x e)

pub one_place_more : (p q : Option Reg → Bool) (at : Option Reg) → ((x : Option Reg) → same_place at x ≡ false → q x ≡ p x) →
    p at ≡ false → q at ≡ true → total q ≡ 1 + total p
unfolding total
one_place_more p q at others off on =
    more-in p q at others off on (with_protect registers) ∙ ap (λ (n : ℕ). n + tally p (with_protect registers)) (each_place_is_once at)

-- no more pass than another test
pub below-in : (p q : Option Reg → Bool) → ((x : Option Reg) → q x ≡ true → p x ≡ true) → (xs : List (Option Reg)) → tally q xs ≤ tally p xs
below-in p q implies [] = omega arith
below-in p q implies (x ∷ xs) = go (below-in p q implies xs) (q x) (p x) (implies x) where
  go : tally q xs ≤ tally p xs → (a b : Bool) → (a ≡ true → b ≡ true) → cond a (1 + tally q xs) (tally q xs) ≤ cond b (1 + tally p xs) (tally p xs)
  go rest true true h = omega arith
  go rest true false h = let bad = h refl in cc
  go rest false true h = omega arith
  go rest false false h = rest

pub below : (p q : Option Reg → Bool) → ((x : Option Reg) → q x ≡ true → p x ≡ true) → total q ≤ total p
unfolding total
below p q implies = below-in p q implies (with_protect registers)

-- ---- What was read ----

abbrev pub has_at : Reads → Option Reg → Bool
has_at read (Some register) = has_read read register
has_at read None = read.protect

-- a cell that is read counts as read, and no other
pub has-and : (read : Reads) (output : ℕ) (p q : Option Reg) → has_at (and_read read (cell_of output p)) q ≡ (same_place p q || has_at read q)
has-and read output (Some Operation) (Some Operation) = refl
has-and read output (Some VoutCommand) (Some VoutCommand) = refl
has-and read output (Some VoutMax) (Some VoutMax) = refl
has-and read output (Some MarginHigh) (Some MarginHigh) = refl
has-and read output (Some MarginLow) (Some MarginLow) = refl
has-and read output (Some VoutMin) (Some VoutMin) = refl
has-and read output None None = refl
has-and read output p q = refl

pub same-itself : (p : Option Reg) → same_place p p ≡ true
same-itself (Some Operation) = refl
same-itself (Some VoutCommand) = refl
same-itself (Some VoutMax) = refl
same-itself (Some MarginHigh) = refl
same-itself (Some MarginLow) = refl
same-itself (Some VoutMin) = refl
same-itself None = refl

-- nothing was read
pub none-read : (p : Option Reg) → has_at nothing_read p ≡ false
none-read (Some Operation) = refl
none-read (Some VoutCommand) = refl
none-read (Some VoutMax) = refl
none-read (Some MarginHigh) = refl
none-read (Some MarginLow) = refl
none-read (Some VoutMin) = refl
none-read None = refl

-- ---- What a survey asks for ----

-- A survey checks a cell that it hasn't read, or one that isn't known.
pub record Reason (v : Survey) (k : Known) (cell : Cell) : Type 0 where
  pub place : Option Reg
  pub is : cell_of v.output place ≡ cell
  pub lost : has_at v.read place ≡ true → is_none (known_word cell (known_possible k cell)) ≡ true

pub unread-reason : (part : PartRegisters) (v : Survey) (k : Known) (held : Held) (wants : Wants) (register : Reg) →
    is_unread part v.read held wants register ≡ true → Reason v k (Out v.output register)
unread-reason part v k held wants register test = record {
  place = Some register;
  is = refl;
  lost = λ read. absurd (let no = not-true (has_read v.read register)
      (second-of (is_needed held wants register) _ (second-of (has_register part register) _ test)) in let bad = sym read ∙ no in cc);
}

pub unsure-reason : (part : PartRegisters) (v : Survey) (s : Summary) (shape : Shape) (held : Held) (wants : Wants) (register : Reg) →
    is_unsure part (cells_of part shape s) v.output held wants register ≡ true → Reason v s.known (Out v.output register)
unsure-reason part v s shape held wants register test = record {
  place = Some register;
  is = refl;
  lost = λ read. ap (λ (o : Option ℕ). is_none (known_word (Out v.output register)
      (option_map_or only o (possible_at s (Out v.output register)))))
      (sym (has-none part shape register (first-of (has_register part register) _ test)))
      ∙ second-of (is_needed held wants register) _ (second-of (has_register part register) _ test);
}

pub protect-unread : (v : Survey) (k : Known) → (is_some v.plan && not v.read.protect) ≡ true → Reason v k Protect
protect-unread v k test = record {
  place = None;
  is = refl;
  lost = λ read. absurd (let bad = sym read ∙ not-true v.read.protect (second-of (is_some v.plan) _ test) in cc);
}

pub protect-unsure : (v : Survey) (s : Summary) → (is_some v.plan && is_none (known_word Protect (possible_at s Protect))) ≡ true →
    Reason v s.known Protect
protect-unsure v s test = record { place = None; is = refl; lost = λ read. second-of (is_some v.plan) _ test }

-- ---- What a good answer makes of what is known ----

pub there : (output : ℕ) (p : Option Reg) → output < 8 → IsCell 8 (cell_of output p)
there output (Some register) h = h
there output None h = tt

-- the cells of an output are told apart
pub two-places : CellsAreToldApart → (output : ℕ) (p q : Option Reg) → cell_of output p ≡ cell_of output q → same_place p q ≡ true
two-places apart output (Some r) (Some x) e = second-of (output == output) _ ((apart (Out output r) (Out output x)).1 e)
two-places apart output (Some r) None e = (apart (Out output r) Protect).1 e
two-places apart output None (Some x) e = (apart Protect (Out output x)).1 e
two-places apart output None None e = refl

module _ (apart : CellsAreToldApart) (law : CellsHavePlaces) (k : Known) (whole : HasPlaces k) (output : ℕ) (small : output < 8) where
  abbrev after : Option Reg → ℕ → Known
  after p word = known_after k (Good (cell_of output p) word)

  pub long : (expected : Bool) → length (if expected then k.possible else all_any) ≡ places
  unfolding all_any
  long true = whole.possible
  long false = length-replicate places Any

  -- it is the only one that is possible for its cell
  pub is-only : (p : Option Reg) (word : ℕ) → known_possible (known_after k (Good (cell_of output p) word)) (cell_of output p) ≡ only word
  is-only p word =
      let list = if is_possible word (known_possible k (cell_of output p)) then k.possible else all_any in
      let fits : place_of (cell_of output p) < length list =
      subst (λ (n : ℕ). place_of (cell_of output p) < n) (sym (long (is_possible word (known_possible k (cell_of output p)))))
      (law.below (cell_of output p) (there output p small)) in
      get_or-set_same list (place_of (cell_of output p)) (only word) Any fits

  -- the other cells stay as they are, if the word was possible for its cell
  pub others-stay : (p q : Option Reg) (word : ℕ) → is_possible word (known_possible k (cell_of output p)) ≡ true → same_place p q ≡ false →
      known_possible (known_after k (Good (cell_of output p) word)) (cell_of output q) ≡ known_possible k (cell_of output q)
  others-stay p q word expected two =
      let differ : place_of (cell_of output q) ≢ place_of (cell_of output p) = λ same.
      let one : cell_of output p ≡ cell_of output q = sym (law.back (cell_of output p) (there output p small))
      ∙ ap (λ (n : ℕ). cell_in n) (sym same) ∙ law.back (cell_of output q) (there output q small) in
      let bad = sym (two-places apart output p q one) ∙ two in cc in
      get_or-set_other (if is_possible word (known_possible k (cell_of output p)) then k.possible else all_any)
      (place_of (cell_of output p)) (place_of (cell_of output q)) (only word) Any differ
      ∙ ap (λ (b : Bool). slice_index_or (if b then k.possible else all_any) (place_of (cell_of output q)) Any) expected

  pub still-whole : (p : Option Reg) (word : ℕ) → HasPlaces (known_after k (Good (cell_of output p) word))
  still-whole p word = record {
    possible = length-set (if is_possible word (known_possible k (cell_of output p)) then k.possible else all_any)
        (place_of (cell_of output p)) (only word) ∙ long (is_possible word (known_possible k (cell_of output p)));
    standing = length-set k.standing (place_of (cell_of output p)) (Confirmed word) ∙ whole.standing;
  }

-- a cell is known by a word that it takes
pub is-known : (cell : Cell) (word : ℕ) (possible : Possible) → cell_accepts cell word ≡ true → possible ≡ only word →
    is_none (known_word cell possible) ≡ false
is-known cell word possible taken is = ap (λ (p : Possible). is_none (known_word cell p)) is
    ∙ ap (λ (b : Bool). is_none (rule b word)) taken

-- what holds of a place and of each other one holds of all
pub each-place : (P : Option Reg → Type 0) (p : Option Reg) → P p → ((q : Option Reg) → same_place p q ≡ false → P q) → (q : Option Reg) → P q
each-place P p own other q = go (same_place p q) refl where
  go : (b : Bool) → same_place p q ≡ b → P q
  go true e = subst P (one-place p q e) own
  go false e = other q e
