-- The order machine and the map of settings: which words a cell has, and whence.
use Rattle.std.specs.List.{range_with_len, Contains}
use Rattle.std.proofs.Common.{◌≡◌, ℕ, ◌<◌, ◌≤◌, Bool, true, false, not, ◌||◌, cond, length, get_or, Some, None, refl, sym, ap, subst, ◌∙◌}
use Rattle.std.proofs.Common.{arith, zero-add, inl, inr, List, set, [], ◌∷◌, Option}
use Rattle.std.proofs.lemmas.Bool.{and_from, le-leb, cases_eq}
use Rattle.std.proofs.lemmas.List.{get_or-set_same, get_or-set_other, get_or_default, length-set, same_lists}
use Rattle.std.proofs.lemmas.List.Elements.{Contains-append_left, Contains-append_right, Contains-push}
use Rattle.std.proofs.lemmas.List.FromFn.{length-range_with_len, get_or-range_with_len, length-map-range_with_len}
use Rattle.std.proofs.lemmas.List.FromFn.{get_or-map-range_with_len, fill_by_all}
use Rattle.std.proofs.lemmas.List.Sums.{AllPass-from_list_all, list_all-from_AllPass}
use Rattle.pm_table.specs.{declared.cell.Cell.Cell, declared.reg.Reg.Reg}
use Rattle.pm_table.specs.Cell.{IsCell, cell_accepts, cell_in, is_cell, place_of, places, same_cell}
use Rattle.pm_table.specs.Laws.{CellsHavePlaces, CellsAreToldApart}
use Rattle.pm_table.specs.Lemmas.{IsCell-eight, is_cell-there}
use Rattle.pm_table.specs.declared.cell.Cell.TheVariants.{Out, Protect}
use Rattle.pm_model.specs.{Laws.SettingsAreAMap, declared.order_machine.PendingJob.PendingJob}
use Rattle.pm_model.specs.OrderMachine.{Step, Accept, Take, End, Back, words_taken, store_taken, machine_of, CanTake, IsRun}
use Rattle.pm_model.specs.OrderMachine.{IsOwnWordOfMachine}
use Rattle.pm_model.specs.OrderMachine.{IsAccepted}
use Rattle.pm_model.specs.Settings.{Settings, Words, AreSettings, AreWords, are_accepted, is_accepted_at, settings_in, word_at}
use Rattle.pm_model.specs.Settings.{words_given_by}
use Rattle.pm_model.specs.Settings.{with_word, with_outputs}
use Rattle.pm_model.specs.declared.order_machine.PendingJob.TheVariants.{Order, Store, Restore}

-- Words that are accepted at each place are those of settings, and the words of settings are accepted.

-- the place of this number is that number
place-at : (place : ℕ) → place < places → get_or (range_with_len 0 places) place 0 ≡ place
place-at place below = get_or-range_with_len 0 places place 0 below ∙ zero-add place

-- a cell that there is passes the test
there-true : (count : ℕ) (cell : Cell) → IsCell count cell → is_cell count cell ≡ true
there-true count (Out output register) here = grind (arith, here)
there-true count Protect here = refl

-- what is accepted at each place is accepted at this one
accepted-at : (count : ℕ) (words : Words) (place : ℕ) → are_accepted count words ≡ true → place < places →
    is_accepted_at count words place ≡ true
unfolding are_accepted
accepted-at count words place all below =
    subst (λ (at : ℕ). is_accepted_at count words at ≡ true) (place-at place below)
    (AllPass-from_list_all (is_accepted_at count words) (range_with_len 0 places) all place 0
    (subst (λ (n : ℕ). place < n) (sym (length-range_with_len 0 places)) below))

-- a test that passes without its first half passes by its second
second-half : (b c : Bool) → b ≡ true → (not b || c) ≡ true → c ≡ true
second-half true c e h = h
second-half false c e h = cc

-- words that are accepted at each place are settings
pub accepted_settings : CellsHavePlaces → (count : ℕ) (words : Words) → 1 ≤ count → count ≤ 8 →
    length words ≡ places → are_accepted count words ≡ true →
    AreSettings (record { count = count; words = words })
unfolding AreWords word_at
accepted_settings stand count words some few whole all = record {
  some = some;
  few = few;
  words = whole;
  accepted = λ cell here.
      let eight = IsCell-eight count cell few here in
      let back = stand.back cell eight in
      let test = accepted-at count words (place_of cell) all (stand.below cell eight) in
      subst (λ (other : Cell). cell_accepts other (get_or words (place_of cell) 0) ≡ true) back
      (second-half (is_cell count (cell_in (place_of cell))) _
      (subst (λ (other : Cell). is_cell count other ≡ true) (sym back) (there-true count cell here)) test);
}

-- the word of settings at a place is accepted
settings-at : CellsHavePlaces → (s : Settings) → AreSettings s → (place : ℕ) → place < places →
    is_accepted_at s.count s.words place ≡ true
unfolding word_at
settings-at stand s are place below = go (is_cell s.count (cell_in place)) refl where
  go : (b : Bool) → is_cell s.count (cell_in place) ≡ b →
      (not b || cell_accepts (cell_in place) (get_or s.words place 0)) ≡ true
  go false e = refl
  go true e =
      subst (λ (at : ℕ). cell_accepts (cell_in place) (get_or s.words at 0) ≡ true) (stand.again place below)
      (are.accepted (cell_in place) (is_cell-there s.count (cell_in place) e))

-- the words of settings are accepted
all-accepted : CellsHavePlaces → (s : Settings) → AreSettings s → are_accepted s.count s.words ≡ true
unfolding are_accepted
all-accepted stand s are =
    list_all-from_AllPass (is_accepted_at s.count s.words) (range_with_len 0 places) (λ place d below.
    let within = subst (λ (n : ℕ). place < n) (length-range_with_len 0 places) below in
    subst (λ (at : ℕ). is_accepted_at s.count s.words at ≡ true)
    (sym (get_or-range_with_len 0 places place d within ∙ zero-add place)) (settings-at stand s are place within))

-- settings are read back from their words
pub settings_again : CellsHavePlaces → (s : Settings) → AreSettings s → settings_in s.count s.words ≡ Some s
settings_again stand s are = ap (λ (b : Bool). cond b (Some s) None)
    (and_from _ _ (and_from _ _ (le-leb 1 s.count are.some) (le-leb s.count 8 are.few)) (all-accepted stand s are))

-- The words of the cells are a map.

-- two cells at one place are one
place_of-one : CellsHavePlaces → (cell other : Cell) → IsCell 8 cell → IsCell 8 other →
    place_of cell ≡ place_of other → cell ≡ other
place_of-one stand cell other here there e = sym (stand.back cell here) ∙ (ap cell_in e ∙ stand.back other there)

-- a cell that was written has the new word, every other one its old one
pub word_at-with_word : CellsHavePlaces → CellsAreToldApart → (words : Words) (cell other : Cell) (word : ℕ) →
    AreWords words × IsCell 8 cell × IsCell 8 other →
    word_at (with_word words cell word) other ≡ cond (same_cell cell other) word (word_at words other)
unfolding word_at with_word AreWords
word_at-with_word stand told words cell other word (full, here, there) = go (same_cell cell other) refl where
  go : (b : Bool) → same_cell cell other ≡ b →
      get_or (set words (place_of cell) word) (place_of other) 0 ≡ cond b word (get_or words (place_of other) 0)
  go true e =
      let one = (told cell other).0 e in
      let below = stand.below cell here in
      ap (λ (d : Cell). get_or (set words (place_of cell) word) (place_of d) 0) (sym one)
      ∙ get_or-set_same words (place_of cell) word 0 (omega (arith, full, below))
  go false e =
      get_or-set_other words (place_of cell) (place_of other) word 0
      (λ at. absurd (differ (place_of-one stand other cell there here at)))
    where
      differ : other ≡ cell → ⊥
      differ one = let t : same_cell cell other ≡ true = (told cell other).1 (sym one) in cc

-- the outputs' words from elsewhere are those, and WRITE_PROTECT keeps its own
pub outputs-from : CellsHavePlaces → CellsAreToldApart → (words others : Words) (output : ℕ) (register : Reg) →
    AreWords others → output < 8 →
    word_at (with_outputs words others) (Out output register) ≡ word_at others (Out output register)
unfolding with_outputs
outputs-from stand told words others output register full here =
    word_at-with_word stand told others Protect (Out output register) (word_at words Protect) (full, tt, here)

-- WRITE_PROTECT stays its own word when the outputs take other words
pub protect-own : CellsHavePlaces → CellsAreToldApart → (words others : Words) → AreWords others →
    word_at (with_outputs words others) Protect ≡ word_at words Protect
unfolding with_outputs
protect-own stand told words others full =
    word_at-with_word stand told others Protect Protect (word_at words Protect) (full, tt, tt)

-- to write what stands at a place changes nothing
set-there : (xs : List ℕ) (i : ℕ) → i < length xs → set xs i (get_or xs i 0) ≡ xs
set-there xs i inside = same_lists (set xs i (get_or xs i 0)) xs (length-set xs i (get_or xs i 0)) at where
  at : (k d : ℕ) → k < length (set xs i (get_or xs i 0)) → get_or (set xs i (get_or xs i 0)) k d ≡ get_or xs k d
  at k d below = elim (cases_eq k i) [
    | inl e ↦
        ap (λ n. get_or (set xs i (get_or xs i 0)) n d) e
        ∙ (get_or-set_same xs i (get_or xs i 0) d inside
        ∙ (sym (get_or_default xs i d 0 inside) ∙ ap (λ n. get_or xs n d) (sym e)))
    | inr ne ↦ get_or-set_other xs i k (get_or xs i 0) d ne
  ]

-- a write of the existing word changes nothing
pub with_word-unchanged : CellsHavePlaces → (words : Words) (cell : Cell) →
    AreWords words → IsCell 8 cell → with_word words cell (word_at words cell) ≡ words
unfolding word_at with_word AreWords
with_word-unchanged stand words cell full here =
    let below = stand.below cell here in
    set-there words (place_of cell) (omega (arith, full, below))

-- each cell has the word that a function gives it
pub word_at-words_of : CellsHavePlaces → (word : Cell → ℕ) (cell : Cell) → IsCell 8 cell →
    word_at (words_given_by word) cell ≡ word cell
unfolding word_at words_given_by
word_at-words_of stand word cell here =
    get_or-map-range_with_len (λ k. word (cell_in k)) 0 places (place_of cell) (place_of cell) 0 (stand.below cell here) (omega arith)
    ∙ ap word (stand.back cell here)

-- a function gives a word to each cell
pub AreWords-words_of : (word : Cell → ℕ) → AreWords (words_given_by word)
unfolding AreWords words_given_by
AreWords-words_of word = length-map-range_with_len (λ k. word (cell_in k)) 0 places

-- no other words give each cell the word that the function gives it
pub words_of-all : CellsHavePlaces → (words : Words) (word : Cell → ℕ) → AreWords words →
    ((cell : Cell) → IsCell 8 cell → word_at words cell ≡ word cell) → words ≡ words_given_by word
unfolding word_at words_given_by AreWords
words_of-all stand words word full each =
    fill_by_all (λ k. word (cell_in k)) words places 0 full
    (λ k below. ap (λ n. get_or words n 0) (sym (stand.again k below)) ∙ each (cell_in k) (stand.there k below))

-- In a run of the order machine each cell has its start word, or one that was accepted for it; so has the
-- store.

-- the newest element of a list, and the older ones
newest : {X : Type 0} → (x : X) (xs : List X) → Contains (x ∷ xs) x
newest x xs = Contains-append_left (x ∷ []) xs x (Contains-push [] x)

-- what the older ones have is had by all
older : {X : Type 0} → (y x : X) (xs : List X) → Contains xs x → Contains (y ∷ xs) x
older y x xs h = Contains-append_right (y ∷ []) xs x h

-- the start of a run stays
pub machine-start : (start : Settings) (steps : List Step) → (machine_of start steps).start ≡ start
unfolding machine_of
machine-start start [] = refl
machine-start start (Accept job ∷ steps) = machine-start start steps
machine-start start (Take ∷ steps) = machine-start start steps
machine-start start (End ∷ steps) = machine-start start steps
machine-start start (Back ∷ steps) = machine-start start steps

-- a job that was accepted was so after one more step
later-accepted : (start : Settings) (step : Step) (steps : List Step) (pending : Option PendingJob) →
    IsAccepted start steps pending → IsAccepted start (step ∷ steps) pending
later-accepted start step steps None h = tt
later-accepted start step steps (Some job) h = (h.0, older step (Accept job) steps h.1)

-- a pending job was accepted
pub machine-pending : (start : Settings) (steps : List Step) → IsRun start steps →
    IsAccepted start steps (machine_of start steps).pending
unfolding machine_of
machine-pending start [] run = tt
machine-pending start (Accept job ∷ steps) (may, run) =
    let can = subst (λ (s : Settings). CanTake s.count (Some job)) (machine-start start steps) may.can in
    (can, newest (Accept job) steps)
machine-pending start (Take ∷ steps) (may, run) =
    later-accepted start Take steps (machine_of start steps).pending (machine-pending start steps run)
machine-pending start (End ∷ steps) (may, run) = tt
machine-pending start (Back ∷ steps) (may, run) =
    later-accepted start Back steps (machine_of start steps).pending (machine-pending start steps run)

-- there is a word for each cell, and each cell that there is has one of its own
record AreOwn (start : Settings) (steps : List Step) (words : Words) : Type 0 where
  full : AreWords words
  each : (cell : Cell) → IsCell start.count cell → IsOwnWordOfMachine start steps cell (word_at words cell)

-- a word that is a cell's own is so after one more step
own-later : (start : Settings) (step : Step) (steps : List Step) (cell : Cell) (word : ℕ) →
    IsOwnWordOfMachine start steps cell word → IsOwnWordOfMachine start (step ∷ steps) cell word
own-later start step steps cell word (inl e) = inl e
own-later start step steps cell word (inr h) = inr (older step (Accept (Order cell word)) steps h)

-- words that are a run's own stay its own after one step more
later : (start : Settings) (step : Step) (steps : List Step) (words : Words) →
    AreOwn start steps words → AreOwn start (step ∷ steps) words
later start step steps words are = record {
  full = are.full;
  each = λ cell here. own-later start step steps cell (word_at words cell) (are.each cell here);
}

-- a run that starts with a word for each cell of at most eight outputs
module _ (told : CellsAreToldApart) (map : SettingsAreAMap) (start : Settings) (few : start.count ≤ 8) (full : AreWords start.words) where
  -- an order that takes gives its own cell the accepted word
  ordered-own : (steps : List Step) (words : Words) (ordered : Cell) (word : ℕ) →
      AreOwn start steps words → IsAccepted start steps (Some (Order ordered word)) →
      AreOwn start steps (with_word words ordered word)
  ordered-own steps words ordered word are accepted = record {
    full = map.kept words ordered word are.full;
    each = λ cell here.
        let one = IsCell-eight start.count ordered few accepted.0.0 in
        let two = IsCell-eight start.count cell few here in
        subst (IsOwnWordOfMachine start steps cell) (sym (map.read words ordered cell word are.full one two))
        (go cell here (same_cell ordered cell) refl);
  } where
    go : (cell : Cell) → IsCell start.count cell → (b : Bool) → same_cell ordered cell ≡ b →
        IsOwnWordOfMachine start steps cell (cond b word (word_at words cell))
    go cell here true e = inr (subst (λ (d : Cell). Contains steps (Accept (Order d word))) ((told ordered cell).0 e) accepted.1)
    go cell here false e = are.each cell here

  -- the outputs' words from elsewhere are their own where they are there
  outputs-own : (steps : List Step) (words others : Words) → AreOwn start steps words → AreOwn start steps others →
      AreOwn start steps (with_outputs words others)
  outputs-own steps words others are from = record { full = map.whole words others from.full; each = each } where
    each : (cell : Cell) → IsCell start.count cell → IsOwnWordOfMachine start steps cell (word_at (with_outputs words others) cell)
    each (Out output register) here =
        subst (IsOwnWordOfMachine start steps (Out output register))
        (sym (map.outputs words others output register from.full (IsCell-eight start.count (Out output register) few here)))
        (from.each (Out output register) here)
    each Protect here = subst (IsOwnWordOfMachine start steps Protect) (sym (map.protect words others from.full)) (are.each Protect here)

  -- the words after a job took, and the store
  words-own : (steps : List Step) (words store : Words) (pending : Option PendingJob) →
      AreOwn start steps words → AreOwn start steps store → IsAccepted start steps pending →
      AreOwn start steps (words_taken words store pending)
  words-own steps words store None are stored accepted = are
  words-own steps words store (Some (Order cell word)) are stored accepted = ordered-own steps words cell word are accepted
  words-own steps words store (Some Store) are stored accepted = are
  words-own steps words store (Some Restore) are stored accepted = outputs-own steps words store are stored

  store-own : (steps : List Step) (words store : Words) (pending : Option PendingJob) →
      AreOwn start steps words → AreOwn start steps store → AreOwn start steps (store_taken words store pending)
  store-own steps words store None are stored = stored
  store-own steps words store (Some (Order cell word)) are stored = stored
  store-own steps words store (Some Store) are stored = outputs-own steps store words stored are
  store-own steps words store (Some Restore) are stored = stored

  -- each cell has a word of its own, and one in the store
  machine-are : (steps : List Step) → IsRun start steps →
      AreOwn start steps (machine_of start steps).words × AreOwn start steps (machine_of start steps).store
  unfolding machine_of
  machine-are [] run =
      let are : AreOwn start [] start.words = record { full = full; each = λ cell here. inl refl } in (are, are)
  machine-are (Accept job ∷ steps) (may, run) =
      let before = machine_of start steps in
      let both = machine-are steps run in
      (later start (Accept job) steps before.words both.0, later start (Accept job) steps before.store both.1)
  machine-are (Take ∷ steps) (may, run) =
      let before = machine_of start steps in
      let both = machine-are steps run in
      let pending = machine-pending start steps run in (
        later start Take steps (words_taken before.words before.store before.pending)
            (words-own steps before.words before.store before.pending both.0 both.1 pending),
        later start Take steps (store_taken before.words before.store before.pending)
            (store-own steps before.words before.store before.pending both.0 both.1),
      )
  machine-are (End ∷ steps) (may, run) =
      let before = machine_of start steps in
      let both = machine-are steps run in
      (later start End steps before.words both.0, later start End steps before.store both.1)
  machine-are (Back ∷ steps) (may, run) =
      let before = machine_of start steps in
      let both = machine-are steps run in
      (later start Back steps before.store both.1, later start Back steps before.store both.1)

  pub machine-own : (steps : List Step) (cell : Cell) → IsRun start steps → IsCell start.count cell →
      IsOwnWordOfMachine start steps cell (word_at (machine_of start steps).words cell)
  machine-own steps cell run here = (machine-are steps run).0.each cell here

  pub machine-stored : (steps : List Step) (cell : Cell) → IsRun start steps → IsCell start.count cell →
      IsOwnWordOfMachine start steps cell (word_at (machine_of start steps).store cell)
  machine-stored steps cell run here = (machine-are steps run).1.each cell here

  -- WRITE_PROTECT has its start word in the store: no job that takes gives it another
  pub machine-protection : (steps : List Step) → IsRun start steps →
      word_at (machine_of start steps).store Protect ≡ word_at start.words Protect
  unfolding machine_of
  machine-protection [] run = refl
  machine-protection (Accept job ∷ steps) (may, run) = machine-protection steps run
  machine-protection (Take ∷ steps) (may, run) =
      took (machine_of start steps).pending (machine-are steps run).0.full (machine-protection steps run)
    where
      took : (pending : Option PendingJob) → AreWords (machine_of start steps).words →
          word_at (machine_of start steps).store Protect ≡ word_at start.words Protect →
          word_at (store_taken (machine_of start steps).words (machine_of start steps).store pending) Protect
          ≡ word_at start.words Protect
      took (Some Store) whole same = map.protect (machine_of start steps).store (machine_of start steps).words whole ∙ same
      took None whole same = same
      took (Some (Order cell word)) whole same = same
      took (Some Restore) whole same = same
  machine-protection (End ∷ steps) (may, run) = machine-protection steps run
  machine-protection (Back ∷ steps) (may, run) = machine-protection steps run
