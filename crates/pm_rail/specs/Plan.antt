-- Which register of an output is ordered next, on the way from the words that it holds to those that are wanted: this
-- project's own choice. Each order gives its register the wanted word.
use Rattle.std.specs.Prelude.{ℕ, zero, suc, Bool, not, ◌&&◌, ◌==◌, if◌then◌else◌, [], ◌∷◌, Option, unwrap_or}
use Rattle.std.specs.Option.{option_map_or}
use Rattle.pm_num.specs.Ratio.{Ratio, is_above}
use Rattle.pm_table.specs.declared.reg.Reg.{Reg}
use Rattle.pm_table.specs.declared.reg.Reg.TheVariants.{Operation, VoutCommand, VoutMax, MarginHigh, MarginLow, VoutMin}
use Rattle.pm_table.specs.Cell.{same_register}
use Rattle.pm_table.specs.Operation.{selected_register}
use Rattle.pm_table.specs.Rules.{first, rule}
use Rattle.pm_model.specs.Commanded.{Scale, is_outside, limited}
use Rattle.pm_rail.specs.Registers.{Held, Wants}

-- the words that are held at the end: the wanted ones, and where none is wanted the word that is held now
abbrev pub goal_of : Held → Wants → Held
goal_of held wants register = unwrap_or (wants register) (held register)

-- a register doesn't have the wanted word
abbrev pub is_due : Held → Wants → Reg → Bool
is_due held wants register = not (goal_of held wants register == held register)

-- the words with another one for a register
abbrev pub put : Held → Reg → ℕ → Held
put held register word other = if same_register register other then word else held other

-- the word that OPERATION selects
abbrev pub selected_in : Held → ℕ
selected_in held = held (selected_register (held Operation))

-- what the output commands by these words, and whether it is cut
abbrev pub commands_by : Scale → Held → Ratio
commands_by value held = limited (value (selected_in held)) (value (held VoutMin)) (value (held VoutMax))

abbrev pub is_cut_by : Scale → Held → Bool
is_cut_by value held = is_outside (value (selected_in held)) (value (held VoutMin)) (value (held VoutMax))

-- VOUT_MAX is to rise, VOUT_MIN to fall
abbrev pub max_rises : Scale → Held → Wants → Bool
max_rises value held wants = is_above (value (goal_of held wants VoutMax)) (value (held VoutMax))

abbrev pub min_falls : Scale → Held → Wants → Bool
min_falls value held wants = is_above (value (held VoutMin)) (value (goal_of held wants VoutMin))

-- They do so before any word is written, but for a limit that cuts now: VOUT_MAX where neither the selected word nor
-- VOUT_MIN is above it, VOUT_MIN where it isn't above the selected word.
abbrev pub max_first : Scale → Held → Wants → Bool
max_first value held wants = max_rises value held wants
    && (not (is_above (value (selected_in held)) (value (held VoutMax)))
    && not (is_above (value (held VoutMin)) (value (held VoutMax))))

abbrev pub min_first : Scale → Held → Wants → Bool
min_first value held wants = min_falls value held wants && not (is_above (value (held VoutMin)) (value (selected_in held)))

-- The register that is ordered next: a limit that is widened first; then VOUT_COMMAND and the margins; then a limit
-- that cut; last the limits that are narrowed.
abbrev pub next_register : Scale → Held → Wants → Option Reg
next_register value held wants = first (
    rule (max_first value held wants) VoutMax ∷
    rule (min_first value held wants) VoutMin ∷
    rule (is_due held wants VoutCommand) VoutCommand ∷
    rule (is_due held wants MarginHigh) MarginHigh ∷
    rule (is_due held wants MarginLow) MarginLow ∷
    rule (min_falls value held wants) VoutMin ∷
    rule (is_due held wants VoutMax) VoutMax ∷
    rule (is_due held wants VoutMin) VoutMin ∷
    [])

-- the words after the next order took, where there is one
abbrev pub words_after_next_order : Scale → Wants → Held → Held
words_after_next_order value wants held =
    option_map_or (λ register. put held register (goal_of held wants register)) (next_register value held wants) held

-- the words after this many orders took
abbrev pub words_after_orders : Scale → Wants → Held → ℕ → Held
words_after_orders value wants held zero = held
words_after_orders value wants held (suc n) = words_after_next_order value wants (words_after_orders value wants held n)
