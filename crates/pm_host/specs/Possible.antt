-- The words that a cell may hold, by looking back over the marks, newest first: this project's own
-- choice.
use Rattle.std.specs.Prelude.{ℕ, Bool, true, false, not, ◌||◌, ◌==◌, nat_lt, if◌then◌else◌, List, [], ◌∷◌, ◌++◌, length, filter, reverse}
use Rattle.std.specs.Prelude.{Option, Some, None}
use Rattle.std.specs.Option.{option_map}
use Rattle.std.specs.List.{list_any}
use Rattle.pm_table.specs.declared.cell.Cell.{Cell}
use Rattle.pm_host.specs.declared.knowledge.Possible.{Possible}
use Rattle.pm_host.specs.declared.knowledge.Possible.TheVariants.{Any, Words}
use Rattle.pm_table.specs.Cell.{same_cell, is_output_cell}
use Rattle.pm_host.specs.Marks.{Mark, Put, Good, Restored, Restart}

-- the word is in the list
abbrev pub is_listed : ℕ → List ℕ → Bool
is_listed word words = list_any (λ listed. listed == word) words

-- the cell may hold the word
abbrev pub is_possible : ℕ → Possible → Bool
is_possible word Any = true
is_possible word (Words words) = is_listed word words.items

-- each word of the list where it first stands
abbrev pub once : List ℕ → List ℕ
once [] = []
once (word ∷ words) = word ∷ filter (λ other. not (other == word)) (once words)

-- any word where nothing was found, otherwise the words, which are given newest first
abbrev pub possible_from : Option (List ℕ) → Possible
possible_from None = Any
possible_from (Some words) = Words (record { items = once (reverse words) })

-- The words of the cell's writes since its last good answer, newest first, with the answer's own word
-- last. None where a restart comes before it, or for an output's cell a restore, or a good answer of
-- another cell that wasn't possible there, which shows that the device restarted.
abbrev pub words_since : List Mark → Cell → Option (List ℕ)
words_since [] cell = None
words_since (Restart ∷ before) cell = None
words_since (Restored ∷ before) cell =
    if is_output_cell cell then None else words_since before cell
words_since (Put put word ∷ before) cell =
    if same_cell put cell then option_map (λ words. word ∷ words) (words_since before cell)
    else words_since before cell
words_since (Good read word ∷ before) cell =
    if same_cell read cell then Some (word ∷ [])
    else (if is_possible word (possible_from (words_since before read)) then words_since before cell
    else None)

-- the words that the cell may hold
unfoldable pub possible_of : List Mark → Cell → Possible
possible_of marks cell = possible_from (words_since marks cell)

-- a good answer that wasn't possible came since the last restart of the host
abbrev pub restart_seen_of : List Mark → Bool
restart_seen_of [] = false
restart_seen_of (Restart ∷ before) = false
restart_seen_of (Restored ∷ before) = restart_seen_of before
restart_seen_of (Put put word ∷ before) = restart_seen_of before
restart_seen_of (Good read word ∷ before) =
    not (is_possible word (possible_of before read)) || restart_seen_of before

-- one word alone
abbrev pub only : ℕ → Possible
only word = Words (record { items = word ∷ [] })

-- the words, and this one after them where it isn't listed
abbrev pub joined : Possible → ℕ → Possible
joined Any word = Any
joined (Words words) word =
    if is_listed word words.items then Words words
    else Words (record { items = words.items ++ word ∷ [] })

-- at most 16 words are kept for a cell
abbrev pub has_room : ℕ → Possible → Bool
has_room word Any = true
has_room word (Words words) = is_listed word words.items || nat_lt (length words.items) 16
