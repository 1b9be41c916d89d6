-- What an output commands where a plan's orders and a restart of the part have met: this project's own choice.
use Rattle.std.specs.Prelude.{◌≡◌, ◌⊎◌, ℕ, false, List, [], ◌∷◌}
use Rattle.pm_num.specs.Ratio.{Ratio, AtMost, is_above}
use Rattle.pm_table.specs.declared.reg.Reg.{Reg}
use Rattle.pm_table.specs.declared.reg.Reg.TheVariants.{VoutMax, VoutMin}
use Rattle.pm_table.specs.Operation.{selected_register}
use Rattle.pm_model.specs.Commanded.{Scale, limited}
use Rattle.pm_rail.specs.Laws.{ScaleHasDens, would_be_cut}
use Rattle.pm_rail.specs.Registers.{Held}

-- each register holds its word of the one or of the other, whichever
abbrev pub AreMixed : Held → Held → Held → Type 0
AreMixed one other mixed = (register : Reg) → (mixed register ≡ one register) ⊎ (mixed register ≡ other register)

-- what an output commands by these words with this byte in OPERATION
abbrev pub would_command : Scale → Held → ℕ → Ratio
would_command value held byte =
    limited (value (held (selected_register byte))) (value (held VoutMin)) (value (held VoutMax))

-- one of several values is at most this one, and one is at least this one
abbrev pub SomeAtMost : List Ratio → Ratio → Type 0
SomeAtMost [] value = ⊥
SomeAtMost (other ∷ values) value = AtMost other value ⊎ SomeAtMost values value

abbrev pub SomeAtLeast : List Ratio → Ratio → Type 0
SomeAtLeast [] value = ⊥
SomeAtLeast (other ∷ values) value = AtMost value other ⊎ SomeAtLeast values value

-- a value lies between the least and the greatest of several, which count as between
pub record LiesAmong (values : List Ratio) (value : Ratio) : Type 0 where
  pub below : SomeAtMost values value
  pub above : SomeAtLeast values value

-- the word that an output starts with, cut to the limits that it is to have
abbrev pub start_let_go : Scale → Held → Held → ℕ → Ratio
start_let_go value start goal byte =
    limited (value (start (selected_register byte))) (value (goal VoutMin)) (value (goal VoutMax))

-- An output commands a value between what it commands at its start and what is wanted, whichever of these words its registers
-- hold, where neither the words that it starts with nor those that are wanted are cut (`uncut`). Where the start words are
-- cut, but VOUT_MIN isn't above VOUT_MAX, what it starts with may be let go as far as the wanted limits (`ordered`).
pub record MixturesLieBetween : Type 0 where
  pub uncut : (value : Scale) (start goal mixed : Held) (byte : ℕ) → ScaleHasDens value → AreMixed start goal mixed →
      would_be_cut value start byte ≡ false → would_be_cut value goal byte ≡ false →
      LiesAmong (would_command value start byte ∷ would_command value goal byte ∷ []) (would_command value mixed byte)
  pub ordered : (value : Scale) (start goal mixed : Held) (byte : ℕ) → ScaleHasDens value → AreMixed start goal mixed →
      is_above (value (start VoutMin)) (value (start VoutMax)) ≡ false → would_be_cut value goal byte ≡ false →
      LiesAmong (would_command value start byte ∷ would_command value goal byte ∷ start_let_go value start goal byte ∷ [])
      (would_command value mixed byte)
