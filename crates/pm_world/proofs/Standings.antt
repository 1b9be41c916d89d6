-- What the host says of a cell, entry by entry, and the words that are due then.
use Rattle.std.specs.List.{list_any, filter}
use Rattle.std.specs.Option.{option_or, option_map_or}
use Rattle.std.specs.Prelude.{option_to_list, slice_range, is_none}
use Rattle.std.proofs.lemmas.List.Folds.{list_any-append}
use Rattle.std.proofs.Common.{◌≡◌, ℕ, Bool, true, false, cond, eqb, ◌||◌, List, [], ◌∷◌, ◌++◌, Option, Some, None, option_map}
use Rattle.std.proofs.Common.{option_and_then, refl, sym, ◌∙◌, ap, ◌⊎◌, inl, inr, ◌<◌, ◌≤◌, arith, rules, lit<, zero, suc, ◌+◌, ◌-◌, ◌^◌}
use Rattle.std.proofs.Common.{get_or, take, drop, ap₂, subst, not, ◌&&◌, reverse, ◌*◌, length, length-append, ◌≢◌}
use Rattle.std.proofs.lemmas.Bool.{eq-eqb, eqb-true, ne_eqb, true≢false, false≢true, or_parts, and_parts, cases_Bool}
use Rattle.std.proofs.lemmas.List.{get_or-drop, reverse-append}
use Rattle.pm_table.specs.{declared.cell.Cell.Cell, declared.reg.Reg.Reg}
use Rattle.pm_table.specs.Cell.{is_output_cell, same_cell, cell_accepts, IsCell}
use Rattle.pm_table.specs.declared.cell.Cell.TheVariants.{Out, Protect}
use Rattle.pm_frame.specs.{Fault.answer_fault, Layout.AreBytes, View.answer_payload}
use Rattle.pm_model.specs.Settings.{Words, word_at, AreWords, with_word}
use Rattle.pm_device.specs.{Start.IsSound, declared.config.Config.Config}
use Rattle.pm_host.specs.{Messages.cell_read, Standing.standing_of, declared.command.Command.Command}
use Rattle.pm_host.specs.{declared.command.Command.TheVariants.RestoreUserAll, declared.knowledge.Possible.TheVariants.Any}
use Rattle.pm_host.specs.{declared.knowledge.Standing.Standing}
use Rattle.pm_host.specs.Answers.{good_word, good_payload, word_in}
use Rattle.pm_host.specs.Marks.{Mark, Put, Good, Restored, send_marks, put_by, read_by, puts, goods, marks, Restart}
use Rattle.pm_host.specs.Possible.{is_possible, possible_of, possible_from, words_since, once}
use Rattle.pm_host.specs.Refusals.{IsSetup, setup_fault as host_fault}
use Rattle.pm_host.specs.Transcript as host
use Rattle.pm_host.specs.Transcript.{Setup, Job, Order, Send, Entry, Accepted, Finished, Got, Restarted, open_job, told_since}
use Rattle.pm_host.specs.Transcript.{is_write_turn}
use Rattle.pm_host.specs.declared.knowledge.Standing.TheVariants.{Confirmed, Unknown}
use Rattle.pm_world.specs.{Below.Below, Lemmas.entries-more, declared.event.Arrival.TheVariants.Whole, declared.event.Event.Event}
use Rattle.pm_world.specs.Confirmed.{is_good_for, reads, reads_cell, restarted_since, restarts_converter}
use Rattle.pm_world.specs.Life.{life, now}
use Rattle.pm_world.specs.OpenLists.{are_open, is_other, lists_other}
use Rattle.pm_world.specs.Possible.{restarted_since_host, restarts_host, host_has_read}
use Rattle.pm_world.specs.Setup.{world_fault, setup_of}
use Rattle.pm_world.specs.State.{share_of, State, asked}
use Rattle.pm_world.specs.Uncertainty.{Choice, due_before, with_due, AreOfBytes, AreWordsChosen, AreOpen, leaves_open, arrivals_of}
use Rattle.pm_world.specs.Uncertainty.{event_of_entry, marks_found, since_restart, witness_events}
use Rattle.pm_world.specs.declared.event.Event.TheVariants.{Deliver, RestartHost}

-- What the host says of a cell after one more entry, and the word that the cell has then.

-- a word that the marks confirm is the cell's, where the converter didn't restart since
abbrev pub IsHeld : List Mark → Cell → Bool → Words → Type 0
IsHeld ms cell restarted words =
    (word : ℕ) → standing_of ms cell ≡ Confirmed word → restarted ≡ false → word_at words cell ≡ word

-- then the cell's word is also one that the marks make possible
abbrev pub IsAmong : List Mark → Cell → Bool → Words → Type 0
IsAmong ms cell restarted words = restarted ≡ false → is_possible (word_at words cell) (possible_of ms cell) ≡ true

-- both
pub record IsKnown (ms : List Mark) (cell : Cell) (restarted : Bool) (words : Words) : Type 0 where
  pub held : IsHeld ms cell restarted words
  pub among : IsAmong ms cell restarted words

-- what is known of a cell holds after the host was told something more, or nothing
abbrev pub IsKnownAfter : Setup → List Entry → Cell → Bool → Option Entry → Words → Type 0
IsKnownAfter setup entries cell restarted told words =
    IsKnown (marks setup (option_to_list told ++ entries)) cell (cond (reads setup entries cell told) false restarted) words

-- two cells that the test calls one are one
pub same-cells : Below → (cell other : Cell) → same_cell cell other ≡ true → cell ≡ other
same-cells laws cell other same = (laws.cells_are_told_apart cell other).0 same

-- a write that begins leaves its cell's possible words, and those of the other cells
put-possible : Below → (ms : List Mark) (c cell : Cell) (w x : ℕ) → is_possible x (possible_of ms cell) ≡ true →
    is_possible x (possible_of (Put c w ∷ ms) cell) ≡ true
put-possible laws ms c cell w x h = laws.possible_words_are_followed.put ms c cell w x ∙ go (same_cell c cell) where
  go : (b : Bool) → cond b (is_possible x (possible_of ms cell) || eqb w x) (is_possible x (possible_of ms cell)) ≡ true
  go true = ap (λ p. p || eqb w x) h
  go false = h

-- a write that begins confirms nothing
put-confirms : (b : Bool) (rest : Standing) (word : ℕ) → cond b Unknown rest ≡ Confirmed word → rest ≡ Confirmed word
put-confirms true rest word h = cc
put-confirms false rest word h = h

-- what is known stays true
put-known : Below → (ms : List Mark) (c : Cell) (w : ℕ) (cell : Cell) (restarted : Bool) (words : Words) →
    IsKnown ms cell restarted words → IsKnown (Put c w ∷ ms) cell restarted words
put-known laws ms c w cell restarted words known = record {
  held = λ word confirmed fresh. known.held word (put-confirms (same_cell c cell) (standing_of ms cell) word confirmed) fresh;
  among = λ fresh. put-possible laws ms c cell w (word_at words cell) (known.among fresh);
}

-- a restore that begins leaves any word possible for an output's cell, and for WRITE_PROTECT what was
restored-possible : Below → (ms : List Mark) (cell : Cell) (x : ℕ) → is_possible x (possible_of ms cell) ≡ true →
    is_possible x (possible_of (Restored ∷ ms) cell) ≡ true
restored-possible laws ms cell x h = laws.possible_words_are_followed.restored ms cell x ∙ go (is_output_cell cell) where
  go : (b : Bool) → cond b true (is_possible x (possible_of ms cell)) ≡ true
  go true = refl
  go false = h

-- what is known stays true
begun-known : Below → (ms : List Mark) (cell : Cell) (restarted : Bool) (words : Words) →
    IsKnown ms cell restarted words → IsKnown (Restored ∷ ms) cell restarted words
begun-known laws ms cell restarted words known = record {
  held = λ word confirmed fresh. known.held word (put-confirms (is_output_cell cell) (standing_of ms cell) word confirmed) fresh;
  among = λ fresh. restored-possible laws ms cell (word_at words cell) (known.among fresh);
}

-- the marks of the writes and restores that begin with an entry: none, or one
pub data ArePuts : List Mark → Type 0 where
  no_put : ArePuts []
  one_put : (cell : Cell) (word : ℕ) → ArePuts (Put cell word ∷ [])
  one_restore : ArePuts (Restored ∷ [])

-- the marks of what begins with an entry are none or one, by the open job
pub are-puts : (setup : Setup) (entries : List Entry) → ArePuts (puts setup entries)
unfolding puts
are-puts setup entries = go (open_job setup entries) where
  by_turn : (b : Bool) (cell : Cell) (word : ℕ) → ArePuts (cond b (Put cell word ∷ []) [])
  by_turn true cell word = one_put cell word
  by_turn false cell word = no_put

  by_command : (sent : Command) → ArePuts (send_marks sent)
  by_command RestoreUserAll = one_restore
  by_command sent = no_put

  go : (job : Option Job) → ArePuts (put_by job (told_since entries))
  go None = no_put
  go (Some (Send sent)) = by_command sent
  go (Some (Order cell word)) = by_turn (is_write_turn (told_since entries)) cell word
  go (Some job) = no_put

-- what is known stays true after each of several marks
puts-known : Below → (new ms : List Mark) → ArePuts new → (cell : Cell) (restarted : Bool) (words : Words) →
    IsKnown ms cell restarted words → IsKnown (new ++ ms) cell restarted words
puts-known laws new ms no_put cell restarted words known = known
puts-known laws new ms (one_put c w) cell restarted words known = put-known laws ms c w cell restarted words known
puts-known laws new ms one_restore cell restarted words known = begun-known laws ms cell restarted words known

-- the marks of the good answer that bytes are: none, or one for the cell that was asked for
pub data AreGoods (setup : Setup) (before : List Entry) (bytes : List ℕ) : List Mark → Type 0 where
  no_good : AreGoods setup before bytes []
  one_good : (read : Cell) (word : ℕ) → read_by (open_job setup before) (told_since before) ≡ Some read →
      good_word setup.addr read bytes ≡ Some word → AreGoods setup before bytes (Good read word ∷ [])

-- the marks of what came back are none or one, by what was asked for
pub are-goods : (setup : Setup) (before : List Entry) (bytes : List ℕ) → AreGoods setup before bytes (goods setup before bytes)
unfolding goods
are-goods setup before bytes = go (read_by (open_job setup before) (told_since before)) refl where
  by_word : (read : Cell) → read_by (open_job setup before) (told_since before) ≡ Some read → (found : Option ℕ) →
      good_word setup.addr read bytes ≡ found → AreGoods setup before bytes (option_to_list (option_map (λ w. Good read w) found))
  by_word read asked None good = no_good
  by_word read asked (Some word) good = one_good read word asked good

  go : (asked : Option Cell) → read_by (open_job setup before) (told_since before) ≡ asked →
      AreGoods setup before bytes (option_to_list (option_and_then (λ c. option_map (λ w. Good c w) (good_word setup.addr c bytes)) asked))
  go None asked = no_good
  go (Some read) asked = by_word read asked (good_word setup.addr read bytes) refl

-- a good answer has the word of the cell that it is read for
abbrev pub ReadsTrue : Setup → List Entry → List ℕ → Words → Type 0
ReadsTrue setup before bytes words =
    (read : Cell) (word : ℕ) → read_by (open_job setup before) (told_since before) ≡ Some read →
    good_word setup.addr read bytes ≡ Some word → word_at words read ≡ word

-- what is known stays true
confirmed-is : (w word : ℕ) → Confirmed w ≡ Confirmed word → w ≡ word
confirmed-is w word h = cc

-- the words that are possible after a good answer
good-possible : Below → (ms : List Mark) (read cell : Cell) (w x : ℕ) → (same_cell read cell ≡ true → x ≡ w) →
    (same_cell read cell ≡ false → is_possible x (possible_of ms cell) ≡ true) →
    is_possible x (possible_of (Good read w ∷ ms) cell) ≡ true
good-possible laws ms read cell w x itself other =
    laws.possible_words_are_followed.good ms read cell w x ∙ go (same_cell read cell) refl
  where
    by_surprise : (b : Bool) → is_possible x (possible_of ms cell) ≡ true → cond b (is_possible x (possible_of ms cell)) true ≡ true
    by_surprise true h = h
    by_surprise false h = refl

    go : (b : Bool) → same_cell read cell ≡ b →
        cond b (eqb w x) (cond (is_possible w (possible_of ms read)) (is_possible x (possible_of ms cell)) true) ≡ true
    go true e = eq-eqb w x (sym (itself e))
    go false e = by_surprise (is_possible w (possible_of ms read)) (other e)

-- what is known holds after one good answer that is true
good-known : Below → {ms : List Mark} (read : Cell) (w : ℕ) {cell : Cell} {restarted : Bool} {words : Words} →
    word_at words read ≡ w → IsKnown ms cell restarted words →
    IsKnown (Good read w ∷ ms) cell (cond (list_any (is_good_for cell) (Good read w ∷ [])) false restarted) words
good-known laws {ms = ms} read w {cell = cell} {restarted = restarted} {words = words} is known = record {
  held = by_cell (same_cell read cell) refl;
  among = λ fresh. good-possible laws ms read cell w (word_at words cell) its_word (λ e. known.among (not-read e fresh));
}
  where
    its_word : same_cell read cell ≡ true → word_at words cell ≡ w
    its_word e = ap (word_at words) (sym (same-cells laws read cell e)) ∙ is

    by_cell : (b : Bool) → same_cell read cell ≡ b → (word : ℕ) → cond b (Confirmed w) (standing_of ms cell) ≡ Confirmed word →
        cond (b || false) false restarted ≡ false → word_at words cell ≡ word
    by_cell true e word confirmed fresh = its_word e ∙ confirmed-is w word confirmed
    by_cell false e word confirmed fresh = known.held word confirmed fresh

    not-read : same_cell read cell ≡ false → cond (same_cell read cell || false) false restarted ≡ false → restarted ≡ false
    not-read e fresh = sym (ap (λ b. cond (b || false) false restarted) e) ∙ fresh

-- what is known holds after no good answer or one that is true
goods-known : Below → {setup : Setup} {before : List Entry} {bytes : List ℕ} {new ms : List Mark} → AreGoods setup before bytes new →
    {cell : Cell} {restarted : Bool} {words : Words} → ReadsTrue setup before bytes words → IsKnown ms cell restarted words →
    IsKnown (new ++ ms) cell (cond (list_any (is_good_for cell) new) false restarted) words
goods-known laws no_good is known = known
goods-known laws (one_good read word asked good) is known =
    good-known laws read word (is read word asked good) known

-- what is known holds after a job was accepted
pub accepted-known : Below → (setup : Setup) (entries : List Entry) (cell : Cell) (restarted : Bool) (words : Words) (job : Job) →
    IsKnown (marks setup entries) cell restarted words → IsKnownAfter setup entries cell restarted (Some (Accepted job)) words
accepted-known laws setup entries cell restarted words job known =
    puts-known laws (puts setup (Accepted job ∷ entries)) (marks setup entries) (are-puts setup (Accepted job ∷ entries)) cell restarted
    words known

-- a write that is over
pub finished-known : Below → (setup : Setup) (entries : List Entry) (cell : Cell) (restarted : Bool) (words : Words) (acked : Bool) →
    IsKnown (marks setup entries) cell restarted words → IsKnownAfter setup entries cell restarted (Some (Finished acked)) words
finished-known laws setup entries cell restarted words acked known =
    puts-known laws (puts setup (Finished acked ∷ entries)) (marks setup entries) (are-puts setup (Finished acked ∷ entries)) cell
    restarted words known

-- bytes that came back
pub got-known : Below → (setup : Setup) (entries : List Entry) {cell : Cell} {restarted : Bool} {words : Words} (bytes : List ℕ) →
    ReadsTrue setup entries bytes words → IsKnown (marks setup entries) cell restarted words →
    IsKnownAfter setup entries cell restarted (Some (Got bytes)) words
got-known laws setup entries {cell = cell} {words = words} bytes is known =
    puts-known laws (puts setup (Got bytes ∷ entries)) (goods setup entries bytes ++ marks setup entries)
    (are-puts setup (Got bytes ∷ entries)) cell _ words
    (goods-known laws (are-goods setup entries bytes) is known)

-- a restart of the host
pub restarted-known : (setup : Setup) (entries : List Entry) (cell : Cell) (restarted : Bool) (words : Words) →
    IsKnownAfter setup entries cell restarted (Some Restarted) words
unfolding possible_of
restarted-known setup entries cell restarted words = record { held = λ word confirmed fresh. cc; among = λ fresh. refl }

-- The words that are due, mark by mark.

-- the cell has its due word, if that is possible
abbrev pub HasDue : List Mark → Choice → Words → Cell → Type 0
HasDue ms due words cell = is_possible (due cell) (possible_of ms cell) ≡ true → word_at words cell ≡ due cell

-- each cell of each output has its due word
pub record IsDue (count : ℕ) (ms : List Mark) (due : Choice) (words : Words) : Type 0 where
  pub has : (output : ℕ) (register : Reg) → output < count → HasDue ms due words (Out output register)

-- a cell keeps it where a write begins whose word isn't due, and stays lost
left-has : Below → (ms : List Mark) (put : Cell) (word : ℕ) (due : Choice) (words : Words) (cell : Cell) →
    (due put ≡ word → ⊥) × HasDue ms due words cell → HasDue (Put put word ∷ ms) due words cell
left-has laws ms put word due words cell (other, so_far) possible =
    so_far (go (same_cell put cell) refl (sym (laws.possible_words_are_followed.put ms put cell word (due cell)) ∙ possible))
  where
    without : (a b : Bool) → b ≡ false → (a || b) ≡ true → a ≡ true
    without true b e h = refl
    without false b e h = sym e ∙ h

    go : (b : Bool) → same_cell put cell ≡ b →
        cond b (is_possible (due cell) (possible_of ms cell) || eqb word (due cell)) (is_possible (due cell) (possible_of ms cell)) ≡ true →
        is_possible (due cell) (possible_of ms cell) ≡ true
    go true e h = without _ _ (ne_eqb word (due cell) (λ is. other (ap due (same-cells laws put cell e) ∙ sym is))) h
    go false e h = h

-- a cell has its due word where that is due, and taken
taken-has : Below → (ms : List Mark) (put : Cell) (word : ℕ) (due : Choice) (words : Words) (cell : Cell) →
    (due put ≡ word)
    × (word_at (with_word words put word) cell ≡ cond (same_cell put cell) word (word_at words cell)) × HasDue ms due words cell →
    HasDue (Put put word ∷ ms) due (with_word words put word) cell
taken-has laws ms put word due words cell (is, wrote, so_far) possible =
    wrote ∙ go (same_cell put cell) refl (sym (laws.possible_words_are_followed.put ms put cell word (due cell)) ∙ possible)
  where
    go : (b : Bool) → same_cell put cell ≡ b →
        cond b (is_possible (due cell) (possible_of ms cell) || eqb word (due cell)) (is_possible (due cell) (possible_of ms cell)) ≡ true →
        cond b word (word_at words cell) ≡ due cell
    go true e h = sym is ∙ ap due (same-cells laws put cell e)
    go false e h = so_far h

-- a cell has its due word where a good answer comes, whose word was due before it
good-has : Below → (ms : List Mark) (read : Cell) (word : ℕ) (due : Choice) (words : Words) (cell : Cell) →
    (is_possible word (possible_of ms read) ≡ true) × HasDue ms (with_due due read word) words cell →
    HasDue (Good read word ∷ ms) due words cell
good-has laws ms read word due words cell (expected, so_far) possible =
    go (same_cell read cell) (is_possible word (possible_of ms read)) refl expected
    (sym (laws.possible_words_are_followed.good ms read cell word (due cell)) ∙ possible) so_far
  where
    go : (b c : Bool) → same_cell read cell ≡ b → c ≡ true →
        cond b (eqb word (due cell)) (cond c (is_possible (due cell) (possible_of ms cell)) true) ≡ true →
        (is_possible (cond b word (due cell)) (possible_of ms cell) ≡ true → word_at words cell ≡ cond b word (due cell)) →
        word_at words cell ≡ due cell
    go true c e f h older =
        older (ap (λ other. is_possible word (possible_of ms other)) (sym (same-cells laws read cell e)) ∙ expected)
        ∙ eqb-true word (due cell) h
    go false true e f h older = older h
    go false false e f h older = absurd (true≢false (sym f))

-- a write that stays lost leaves each cell of all outputs its due word
pub put-left : Below → {count : ℕ} {ms : List Mark} {due : Choice} {words : Words} (put : Cell) (word : ℕ) → (due put ≡ word → ⊥) →
    IsDue count ms due words → IsDue count (Put put word ∷ ms) due words
put-left laws {ms = ms} {due = due} {words = words} put word other so_far = record {
  has = λ output register below.
      left-has laws ms put word due words (Out output register) (other, so_far.has output register below);
}

-- a write that is taken leaves each cell of all outputs its due word
pub put-taken : Below → {count : ℕ} {ms : List Mark} {due : Choice} {words : Words} (put : Cell) (word : ℕ) → count ≤ 8 →
    AreWords words → IsCell 8 put → due put ≡ word → IsDue count ms due words →
    IsDue count (Put put word ∷ ms) due (with_word words put word)
put-taken laws {ms = ms} {due = due} {words = words} put word few are there is so_far = record {
  has = λ output register below.
      taken-has laws ms put word due words (Out output register)
      (is, laws.settings_are_a_map.read words put (Out output register) word are there (omega arith), so_far.has output register below);
}

-- a write of WRITE_PROTECT leaves each cell of all outputs its due word
pub put-protect : Below → {count : ℕ} {ms : List Mark} {due : Choice} {words : Words} (word : ℕ) → IsDue count ms due words →
    IsDue count (Put Protect word ∷ ms) due words
put-protect laws {ms = ms} {due = due} word so_far = record {
  has = λ output register below possible.
      so_far.has output register below
      (sym (laws.possible_words_are_followed.put ms Protect (Out output register) word (due (Out output register))) ∙ possible);
}

-- the due words before a good answer
pub good-due : Below → {count : ℕ} {ms : List Mark} {due : Choice} {words : Words} (read : Cell) (word : ℕ) →
    is_possible word (possible_of ms read) ≡ true → IsDue count ms (with_due due read word) words →
    IsDue count (Good read word ∷ ms) due words
good-due laws {ms = ms} {due = due} {words = words} read word expected so_far = record {
  has = λ output register below.
      good-has laws ms read word due words (Out output register) (expected, so_far.has output register below);
}

-- each good answer has a word that its cell accepts
abbrev pub AreAccepted : List Mark → Type 0
AreAccepted [] = Unit {0}
AreAccepted (Put cell word ∷ before) = AreAccepted before
AreAccepted (Good cell word ∷ before) = (cell_accepts cell word ≡ true) × AreAccepted before
AreAccepted (Restored ∷ before) = AreAccepted before
AreAccepted (Restart ∷ before) = AreAccepted before

-- the word that is due before some marks: one that the cell accepts, or the chosen one of a cell with no answer
abbrev pub IsStart : Choice → Cell → List Mark → Type 0
IsStart due cell ms =
    ((words_since ms cell ≡ None) × (due_before due ms cell ≡ due cell)) ⊎ (cell_accepts cell (due_before due ms cell) ≡ true)

-- the word that is due before accepted marks is one that its cell accepts, or the chosen one of a cell with no answer
pub is-start : Below → (due : Choice) (cell : Cell) (ms : List Mark) → AreAccepted ms → IsStart due cell ms
is-start laws due cell [] accepted = inl (refl, refl)
is-start laws due cell (Put put word ∷ ms) accepted =
    elim (is-start laws due cell ms accepted) [
      | inl (none, e) ↦ inl (go (same_cell put cell) none, e)
      | inr a ↦ inr a
    ]
  where
    go : (b : Bool) → words_since ms cell ≡ None →
        cond b (option_map (λ ws. word ∷ ws) (words_since ms cell)) (words_since ms cell) ≡ None
    go true none = ap (option_map (λ ws. word ∷ ws)) none
    go false none = none
is-start laws due cell (Good read word ∷ ms) (accepted, all) =
    elim (is-start laws (with_due due read word) cell ms all) [
      | inl (none, e) ↦ go (same_cell read cell) refl none e
      | inr a ↦ inr a
    ]
  where
    kept : (c : Bool) → words_since ms cell ≡ None → cond c (words_since ms cell) None ≡ None
    kept true none = none
    kept false none = refl

    go : (b : Bool) → same_cell read cell ≡ b → words_since ms cell ≡ None →
        due_before (with_due due read word) ms cell ≡ cond b word (due cell) →
        ((cond b (Some (word ∷ [])) (cond (is_possible word (possible_from (words_since ms read))) (words_since ms cell) None) ≡ None)
        × (due_before (with_due due read word) ms cell ≡ due cell))
        ⊎ (cell_accepts cell (due_before (with_due due read word) ms cell) ≡ true)
    go true same none e =
        inr (ap (cell_accepts cell) e ∙ (ap (λ c. cell_accepts c word) (sym (same-cells laws read cell same)) ∙ accepted))
    go false same none e = inl (kept (is_possible word (possible_from (words_since ms read))) none, e)
is-start laws due cell (Restored ∷ ms) accepted =
    elim (is-start laws due cell ms accepted) [
      | inl (none, e) ↦ inl (go (is_output_cell cell) none, e)
      | inr a ↦ inr a
    ]
  where
    go : (b : Bool) → words_since ms cell ≡ None → cond b None (words_since ms cell) ≡ None
    go true none = refl
    go false none = none
is-start laws due cell (Restart ∷ ms) accepted =
    elim (is-start laws due cell ms accepted) [
      | inl (none, e) ↦ inl (refl, e)
      | inr a ↦ inr a
    ]

-- the words that are due before marks and older ones
pub due_before-append : (due : Choice) (new ms : List Mark) → due_before due (new ++ ms) ≡ due_before (due_before due new) ms
due_before-append due [] ms = refl
due_before-append due (Put cell word ∷ new) ms = due_before-append due new ms
due_before-append due (Good cell word ∷ new) ms = due_before-append (with_due due cell word) new ms
due_before-append due (Restored ∷ new) ms = due_before-append due new ms
due_before-append due (Restart ∷ new) ms = due_before-append due new ms

-- The world of the retelling can be made, and its start words have two bytes where the chosen words do.

-- a host that may be made is refused for nothing
host-free : (setup : host.Setup) → IsSetup setup → host_fault setup.outputs setup.passes ≡ None
host-free = search rules

-- the world of a sound start that has as many outputs can be made
pub can-be-made : Below → (config start : Config) (passes : ℕ) → IsSound start → IsSetup (setup_of config passes)
    → start.count ≡ config.count →
    world_fault start passes ≡ None
unfolding world_fault
can-be-made laws config start passes sound made same =
    ap₂ option_or
    (ap (option_map _) ((laws.sound_configurations_have_no_fault start).0 sound))
    (ap (option_map _) (ap (λ n. host_fault n passes) same ∙ host-free (setup_of config passes) made))

-- each good answer for a cell has a word of two bytes
abbrev AreSmall : List Mark → Type 0
AreSmall [] = Unit {0}
AreSmall (Good cell word ∷ ms) = (word < 2 ^ 16) × AreSmall ms
AreSmall (mark ∷ ms) = AreSmall ms

-- a word that is due before them does
due-small : (ms : List Mark) (due : Choice) (cell : Cell) → AreSmall ms → due cell < 2 ^ 16
    → ((other : Cell) → other ≡ cell → due other < 2 ^ 16)
    → due_before due ms cell < 2 ^ 16
due-small [] due cell small chosen all = chosen
due-small (Put put word ∷ ms) due cell small chosen all = due-small ms due cell small chosen all
due-small (Restored ∷ ms) due cell small chosen all = due-small ms due cell small chosen all
due-small (Restart ∷ ms) due cell small chosen all = due-small ms due cell small chosen all
due-small (Good read word ∷ ms) due cell (small, rest) chosen all =
    let here : with_due due read word cell < 2 ^ 16 = go (same_cell read cell) in
    due-small ms (with_due due read word) cell rest here (λ other is. subst (λ c. with_due due read word c < 2 ^ 16) (sym is) here)
  where
    go : (b : Bool) → cond b word (due cell) < 2 ^ 16
    go true = small
    go false = chosen

-- the first bytes of bytes are bytes
pub first-bytes : (n : ℕ) (xs : List ℕ) (place : ℕ) → ((p : ℕ) → get_or xs p 0 < 2 ^ 8) → get_or (take n xs) place 0 < 2 ^ 8
first-bytes zero xs place are = lit< tt
first-bytes (suc n) [] place are = lit< tt
first-bytes (suc n) (x ∷ xs) zero are = are 0
first-bytes (suc n) (x ∷ xs) (suc place) are = first-bytes n xs place (λ p. are (suc p))

-- the bytes of a part are bytes
part-bytes : (bytes : List ℕ) (first last place : ℕ) → AreBytes bytes → get_or (slice_range bytes first last) place 0 < 2 ^ 8
part-bytes bytes first last place are =
    first-bytes (last - first) (drop first bytes) place
    (λ p. subst (λ n. n < 2 ^ 8) (sym (get_or-drop first bytes p 0)) (are (first + p)))

-- a word of bytes has two
word-small : (payload : List ℕ) → AreBytes payload → word_in payload < 2 ^ 16
word-small [] are = omega arith
word-small (byte ∷ []) are = let low = are 0 in omega arith
word-small (low ∷ high ∷ rest) are = let l = are 0 in let h = are 1 in omega arith

-- the word of a good answer has two bytes
good-small : (addr : ℕ) (cell : Cell) (bytes : List ℕ) (word : ℕ) → AreBytes bytes → good_word addr cell bytes ≡ Some word → word < 2 ^ 16
unfolding good_payload
good-small addr cell bytes word are good = go (is_none (answer_fault addr (cell_read cell) bytes)) good where
  go : (b : Bool) → option_map word_in (cond b (Some (answer_payload (cell_read cell) bytes)) None) ≡ Some word → word < 2 ^ 16
  go true h = subst (λ n. n < 2 ^ 16) (same-word h)
      (word-small (answer_payload (cell_read cell) bytes) (λ place. part-bytes bytes _ _ place are)) where
        same-word : {a b : ℕ} → Some a ≡ Some b → a ≡ b
        same-word e = cc
  go false h = cc

-- what begins to be sent is no answer
puts-small : (new ms : List Mark) → ArePuts new → AreSmall ms → AreSmall (new ++ ms)
puts-small new ms no_put small = small
puts-small new ms (one_put cell word) small = small
puts-small new ms one_restore small = small

-- the marks of what came back
goods-small : (setup : host.Setup) (before : List host.Entry) (bytes : List ℕ) (new ms : List Mark) → AreBytes bytes →
    AreGoods setup before bytes new → AreSmall ms → AreSmall (new ++ ms)
goods-small setup before bytes new ms are no_good small = small
goods-small setup before bytes new ms are (one_good read word asked good) small = (good-small setup.addr read bytes word are good, small)

-- each good answer for a cell in all that was told has a word of two bytes
marks-small : (setup : host.Setup) (entries : List host.Entry) → AreOfBytes entries → AreSmall (marks setup entries)
marks-small setup [] are = tt
marks-small setup (host.Accepted job ∷ before) are =
    puts-small (puts setup (host.Accepted job ∷ before)) _ (are-puts setup (host.Accepted job ∷ before)) (marks-small setup before are)
marks-small setup (host.Finished acked ∷ before) are =
    puts-small (puts setup (host.Finished acked ∷ before)) _ (are-puts setup (host.Finished acked ∷ before)) (marks-small setup before are)
marks-small setup (host.Got bytes ∷ before) (are, rest) =
    puts-small (puts setup (host.Got bytes ∷ before)) _ (are-puts setup (host.Got bytes ∷ before))
    (goods-small setup before bytes (goods setup before bytes) (marks setup before) are (are-goods setup before bytes)
    (marks-small setup before rest))
marks-small setup (host.Restarted ∷ before) are = marks-small setup before are

-- the words that are due at the start
pub first-small : (config : Config) (setup : host.Setup) (entries : List host.Entry) (chosen : Choice) → AreOfBytes entries →
    AreWordsChosen config chosen → AreWordsChosen config (due_before chosen (marks setup entries))
first-small config setup entries chosen are words = λ output register below.
    due-small (marks setup entries) chosen (Out output register) (marks-small setup entries are) (words output register below)
    (λ other is. subst (λ c. chosen c < 2 ^ 16) (sym is) (words output register below))

-- Marks that leave WRITE_PROTECT open, and what is listed for it.

-- the test is the fact
pub open-is : (ms : List Mark) → are_open ms ≡ true → AreOpen ms
open-is [] h = tt
open-is (mark ∷ ms) h = let parts = and_parts (leaves_open mark) (are_open ms) h in (parts.0, open-is ms parts.1)

-- marks that are open pass the test
pub is-open : (ms : List Mark) → AreOpen ms → are_open ms ≡ true
is-open [] h = refl
is-open (mark ∷ ms) h = ap (λ b. b && are_open ms) h.0 ∙ is-open ms h.1

-- marks together pass the test exactly if both parts do
pub open-append : (new ms : List Mark) → are_open (new ++ ms) ≡ (are_open new && are_open ms)
open-append [] ms = refl
open-append (mark ∷ new) ms =
    ap (λ b. leaves_open mark && b) (open-append new ms) ∙ and-assoc (leaves_open mark) (are_open new) (are_open ms) where
      and-assoc : (a b c : Bool) → (a && (b && c)) ≡ ((a && b) && c)
      and-assoc true b c = refl
      and-assoc false b c = refl

-- a word that isn't listed isn't among those that are left
any-filter : (test keep : ℕ → Bool) (xs : List ℕ) → list_any test xs ≡ false → list_any test (filter keep xs) ≡ false
any-filter test keep [] h = refl
any-filter test keep (x ∷ xs) h =
    let parts = or_parts (test x) (list_any test xs) h in
    go (keep x) (ap (λ b. b || list_any test (filter keep xs)) parts.0) (any-filter test keep xs parts.1)
  where
    go : (b : Bool) → (test x || list_any test (filter keep xs)) ≡ list_any test (filter keep xs) →
        list_any test (filter keep xs) ≡ false → list_any test (cond b (x ∷ filter keep xs) (filter keep xs)) ≡ false
    go true e rest = e ∙ rest
    go false e rest = rest

-- no word passes a test where each stands once
any-once : (test : ℕ → Bool) (xs : List ℕ) → list_any test xs ≡ false → list_any test (once xs) ≡ false
any-once test [] h = refl
any-once test (x ∷ xs) h =
    let parts = or_parts (test x) (list_any test xs) h in
    ap (λ b. b || list_any test (filter (λ other. not (eqb other x)) (once xs))) parts.0
    ∙ any-filter test (λ other. not (eqb other x)) (once xs) (any-once test xs parts.1)

-- no word passes a test the other way round
any-reverse : (test : ℕ → Bool) (xs : List ℕ) → list_any test xs ≡ false → list_any test (reverse xs) ≡ false
any-reverse test [] h = refl
any-reverse test (x ∷ xs) h =
    let parts = or_parts (test x) (list_any test xs) h in
    ap (list_any test) (reverse-append (x ∷ []) xs)
    ∙ (list_any-append test (reverse xs) (x ∷ [])
    ∙ (ap (λ b. b || (test x || false)) (any-reverse test xs parts.1) ∙ ap (λ b. b || false) parts.0))

-- a word other than 00h among those that were found
abbrev Finds : Option (List ℕ) → Bool
Finds found = option_map_or (list_any is_other) found false

-- is one that is listed
from-finds : (found : Option (List ℕ)) → Finds found ≡ false → lists_other (possible_from found) ≡ false
from-finds None h = refl
from-finds (Some words) h = any-once is_other (reverse words) (any-reverse is_other words h)

-- one that is 00h is no other
zero-other : (word : ℕ) → eqb word 0 ≡ true → is_other word ≡ false
zero-other word h = ap not h

-- no other word is found if WRITE_PROTECT was left open
open-finds : (ms : List Mark) → are_open ms ≡ true → Finds (words_since ms Protect) ≡ false
open-finds [] h = refl
open-finds (Restart ∷ ms) h = refl
open-finds (Restored ∷ ms) h = absurd (false≢true h)
open-finds (Put (Out output register) word ∷ ms) h = open-finds ms h
open-finds (Put Protect word ∷ ms) h =
    let parts = and_parts (eqb word 0) (are_open ms) h in
    go (words_since ms Protect) (zero-other word parts.0) (open-finds ms parts.1)
  where
    go : (found : Option (List ℕ)) → is_other word ≡ false → Finds found ≡ false → Finds (option_map (λ ws. word ∷ ws) found) ≡ false
    go None e rest = refl
    go (Some ws) e rest = ap (λ b. b || list_any is_other ws) e ∙ rest
open-finds (Good (Out output register) word ∷ ms) h =
    go (is_possible word (possible_from (words_since ms (Out output register)))) (open-finds ms h) where
      go : (b : Bool) → Finds (words_since ms Protect) ≡ false → Finds (cond b (words_since ms Protect) None) ≡ false
      go true rest = rest
      go false rest = refl
open-finds (Good Protect word ∷ ms) h =
    ap (λ b. b || false) (zero-other word (and_parts (eqb word 0) (are_open ms) h).0)

-- open marks list no other word
pub open-lists : (ms : List Mark) → are_open ms ≡ true → lists_other (possible_of ms Protect) ≡ false
unfolding possible_of
open-lists ms h = from-finds (words_since ms Protect) (open-finds ms h)

-- a good answer that is another word is listed, whatever begins to be sent with it
pub other-lists : (new : List Mark) → ArePuts new → (word : ℕ) (ms : List Mark) → is_other word ≡ true →
    lists_other (possible_of (new ++ (Good Protect word ∷ ms)) Protect) ≡ true
unfolding possible_of
other-lists new no_put word ms h = ap (λ b. b || false) h
other-lists new (one_put (Out output register) put) word ms h = ap (λ b. b || false) h
other-lists new (one_put Protect put) word ms h =
    ap (λ b. b || list_any is_other (filter (λ other. not (eqb other word)) (put ∷ []))) h
other-lists new one_restore word ms h = ap (λ b. b || false) h

-- How many events the retelling has, and what a list without a restart of the converter says.

-- at most one write of what begins to be sent is delivered
one-arrival : (due : Choice) (new : List Mark) → ArePuts new → length (arrivals_of due new) ≤ 1
one-arrival due new no_put = omega arith
one-arrival due new (one_put (Out output register) word) = go (eqb (due (Out output register)) word) where
  go : (b : Bool) → length (cond b (Deliver Whole ∷ []) [] ++ []) ≤ 1
  go true = omega arith
  go false = omega arith
one-arrival due new (one_put Protect word) = omega arith
one-arrival due new one_restore = omega arith

-- two events for each entry at most
short-entries : (setup : host.Setup) (entries : List host.Entry) (due : Choice) →
    length (witness_events setup due entries) ≤ 2 * length entries
short-entries setup [] due = omega arith
short-entries setup (entry ∷ before) due =
    let rest = short-entries setup before (due_before due (marks_found setup entry before)) in
    let new = one-arrival due (puts setup (entry ∷ before)) (are-puts setup (entry ∷ before)) in
    let all = length-append (arrivals_of due (puts setup (entry ∷ before)))
    (event_of_entry setup before entry ∷ witness_events setup (due_before due (marks_found setup entry before)) before) in
    omega arith

-- no more was told since the host's last restart than in all
since-short : (entries : List host.Entry) → length (since_restart entries) ≤ length entries
since-short [] = omega arith
since-short (host.Accepted job ∷ before) = let rest = since-short before in omega arith
since-short (host.Finished acked ∷ before) = let rest = since-short before in omega arith
since-short (host.Got bytes ∷ before) = let rest = since-short before in omega arith
since-short (host.Restarted ∷ before) = omega arith

-- each event tells the host one thing at most
told-short : (told : Option host.Entry) (entries : List host.Entry) → length (option_to_list told ++ entries) ≤ suc (length entries)
told-short None entries = omega arith
told-short (Some entry) entries = omega arith

-- the transcript of a life has no more entries than there were events
life-short : (config : Config) (passes : ℕ) (events : List Event) → length (life config passes events).entries ≤ length events
unfolding life
life-short config passes [] = omega arith
life-short config passes (event ∷ before) =
    let rest = life-short config passes before in
    let more = told-short (share_of (now config passes before) event).told (life config passes before).entries in
    let all = ap length (entries-more config passes before event) in
    omega arith

-- the retelling has twice as many events at most
pub short-witness : (config : Config) (passes : ℕ) (events : List Event) (chosen : Choice) →
    length (witness_events (setup_of config passes) chosen (since_restart (life config passes events).entries)) ≤ 2 * length events
short-witness config passes events chosen =
    let a = short-entries (setup_of config passes) (since_restart (life config passes events).entries) chosen in
    let b = since-short (life config passes events).entries in
    let c = life-short config passes events in
    omega arith

-- the converter didn't restart since any good answer if it never restarted
pub never-since : (config : Config) (passes : ℕ) (cell : Cell) (events : List Event) → list_any restarts_converter events ≡ false →
    restarted_since config passes cell events ≡ false
unfolding restarted_since
never-since config passes cell [] steady = refl
never-since config passes cell (event ∷ before) steady =
    let parts = or_parts (restarts_converter event) (list_any restarts_converter before) steady in
    go (reads_cell config passes cell before event) (restarts_converter event) _ parts.0 (never-since config passes cell before parts.1)
  where
    go : (b c d : Bool) → c ≡ false → d ≡ false → cond b false (c || d) ≡ false
    go true c d e f = refl
    go false c d e f = ap (λ x. x || d) e ∙ f

-- without a restart of the converter none is since the host's start
pub never-host : (events : List Event) → list_any restarts_converter events ≡ false → restarted_since_host events ≡ false
unfolding restarted_since_host
never-host [] steady = refl
never-host (event ∷ before) steady =
    let parts = or_parts (restarts_converter event) (list_any restarts_converter before) steady in
    go (restarts_host event) (restarts_converter event) _ parts.0 (never-host before parts.1)
  where
    go : (b c d : Bool) → c ≡ false → d ≡ false → cond b false (c || d) ≡ false
    go true c d e f = refl
    go false c d e f = ap (λ x. x || d) e ∙ f

-- The host lists no words for a cell if it had no good answer for it since it started, event by event.

-- a restart of the host is told as that
pub restart-told : (s : State) (event : Event) → restarts_host event ≡ true → (share_of s event).told ≡ Some host.Restarted
restart-told s RestartHost h = refl
restart-told s event h = cc

-- what a write that begins, and what no good answer of the cell, leave: no words are known
abbrev NoWords : List Mark → Cell → Type 0
NoWords ms cell = words_since ms cell ≡ None

-- a write that begins leaves no words where there were none
puts-none : (new ms : List Mark) → ArePuts new → (cell : Cell) → NoWords ms cell → NoWords (new ++ ms) cell
puts-none new ms no_put cell none = none
puts-none new ms (one_put c w) cell none = go (same_cell c cell) where
  go : (b : Bool) → cond b (option_map (λ ws. w ∷ ws) (words_since ms cell)) (words_since ms cell) ≡ None
  go true = ap (option_map (λ ws. w ∷ ws)) none
  go false = none
puts-none new ms one_restore cell none = go (is_output_cell cell) where
  go : (b : Bool) → cond b None (words_since ms cell) ≡ None
  go true = refl
  go false = none

-- a good answer of another cell leaves a cell unread
goods-none : {setup : host.Setup} {before : List host.Entry} {bytes : List ℕ} {new : List Mark} (ms : List Mark) →
    AreGoods setup before bytes new →
    (cell : Cell) →
    list_any (is_good_for cell) new ≡ false → NoWords ms cell → NoWords (new ++ ms) cell
goods-none ms no_good cell unread none = none
goods-none ms (one_good read w asked good) cell unread none = go (same_cell read cell) unread where
  by_surprise : (b : Bool) → cond b (words_since ms cell) None ≡ None
  by_surprise true = none
  by_surprise false = refl

  go : (b : Bool) → (b || false) ≡ false →
      cond b (Some (w ∷ [])) (cond (is_possible w (possible_from (words_since ms read))) (words_since ms cell) None) ≡ None
  go true h = cc
  go false h = by_surprise (is_possible w (possible_from (words_since ms read)))

-- an entry that reads another cell, or none, leaves a cell unread
told-none : (setup : host.Setup) (entries : List host.Entry) (cell : Cell) (told : Option host.Entry) →
    reads setup entries cell told ≡ false →
    NoWords (marks setup entries) cell → NoWords (marks setup (option_to_list told ++ entries)) cell
told-none setup entries cell None unread none = none
told-none setup entries cell (Some (host.Accepted job)) unread none =
    puts-none (puts setup (host.Accepted job ∷ entries)) (marks setup entries) (are-puts setup (host.Accepted job ∷ entries)) cell none
told-none setup entries cell (Some (host.Finished acked)) unread none =
    puts-none (puts setup (host.Finished acked ∷ entries)) (marks setup entries) (are-puts setup (host.Finished acked ∷ entries)) cell none
told-none setup entries cell (Some (host.Got bytes)) unread none =
    puts-none (puts setup (host.Got bytes ∷ entries)) (goods setup entries bytes ++ marks setup entries)
    (are-puts setup (host.Got bytes ∷ entries)) cell
    (goods-none (marks setup entries) (are-goods setup entries bytes) cell unread none)
told-none setup entries cell (Some host.Restarted) unread none = refl

-- no words are known of a cell at the start of a life
first-none : (config : Config) (passes : ℕ) (cell : Cell) → NoWords (marks (setup_of config passes) (life config passes []).entries) cell
unfolding life
first-none config passes cell = refl

-- a life that doesn't read the cell leaves it unread
pub unread-none : (config : Config) (passes : ℕ) (cell : Cell) (events : List Event) → host_has_read config passes cell events ≡ false →
    NoWords (marks (setup_of config passes) (life config passes events).entries) cell
unfolding host_has_read
unread-none config passes cell [] unread = first-none config passes cell
unread-none config passes cell (event ∷ before) unread =
    subst (λ es. NoWords (marks (setup_of config passes) es) cell) (sym (entries-more config passes before event))
    (go (restarts_host event) refl unread (unread-none config passes cell before))
  where
    go : (b : Bool) → restarts_host event ≡ b →
        cond b false (reads_cell config passes cell before event || host_has_read config passes cell before) ≡ false →
        (host_has_read config passes cell before ≡ false →
        NoWords (marks (setup_of config passes) (life config passes before).entries) cell) →
        NoWords (marks (setup_of config passes)
        (option_to_list (share_of (now config passes before) event).told ++ (life config passes before).entries)) cell
    go true e h older =
        subst (λ o. NoWords (marks (setup_of config passes) (option_to_list o ++ (life config passes before).entries)) cell)
        (sym (restart-told (now config passes before) event e)) refl
    go false e h older =
        let both = or_parts (reads_cell config passes cell before event) (host_has_read config passes cell before) h in
        told-none (setup_of config passes) (life config passes before).entries cell (share_of (now config passes before) event).told
        both.0 (older both.1)

-- a cell was read if words are listed for it
pub listed-read : (config : Config) (passes : ℕ) (cell : Cell) (events : List Event) →
    possible_of (marks (setup_of config passes) (life config passes events).entries) cell ≢ Any → host_has_read config passes cell events
    ≡ true
unfolding possible_of
listed-read config passes cell events listed =
    elim (cases_Bool (host_has_read config passes cell events)) [
      | inl read ↦ read
      | inr unread ↦ absurd (listed (ap possible_from (unread-none config passes cell events unread)))
    ]
