-- The words of its own that an output of a part has since a host began beside it: this project's own choice. Lists are newest first.
use Rattle.std.specs.Prelude.{◌≡◌, ◌⊎◌, ◌<◌, ℕ, List, ◌∷◌, ◌++◌, Some}
use Rattle.pm_num.specs.Ratio.{Ratio}
use Rattle.pm_table.specs.declared.cell.Cell.TheVariants.{Out}
use Rattle.pm_table.specs.declared.reg.Reg.{Reg}
use Rattle.pm_table.specs.declared.reg.Reg.TheVariants.{Operation, VoutMax, VoutMin}
use Rattle.pm_model.specs.Commanded.{commanded, limited, selected_register}
use Rattle.pm_model.specs.Settings.{word_at}
use Rattle.pm_device.specs.Held.{Held, value_for}
use Rattle.pm_host.specs.Transcript as host
use Rattle.pm_world.specs.declared.event.Event.{Event}
use Rattle.pm_world.specs.State.{asked}
use Rattle.pm_part_laws.specs.Happenings.{Happening, Happens, IsLifeBeside, beside}

-- the host accepted an order of this word for this register of the output
pub record WasOrdered (held : Held) (passes : ℕ) (happened : List Happening) (output : ℕ) (register : Reg) (word : ℕ) : Type 0 where
  pub later : List Happening
  pub event : Event
  pub before : List Happening
  pub is : happened ≡ later ++ Happens event ∷ before
  pub orders : asked (beside held passes before) event ≡ Some (host.Order (Out output register) word)

-- A word of an output's register that the part held or had stored as the host began, or that was ordered since for that same register.
abbrev pub IsOwnWordBeside : Held → ℕ → List Happening → ℕ → Reg → ℕ → Type 0
IsOwnWordBeside held passes happened output register word =
    (word ≡ word_at held.words (Out output register))
    ⊎ ((word ≡ word_at held.store (Out output register)) ⊎ WasOrdered held passes happened output register word)

-- the voltage that an output commands after what happened
abbrev pub commands_beside : Held → ℕ → List Happening → ℕ → Ratio
commands_beside held passes happened output = commanded (value_for held.config output) (beside held passes happened).device.words output

-- An output commands a value of its own words: that of the one which a byte of its own OPERATION selects, cut to those of its own VOUT_MIN
-- and VOUT_MAX.
pub record CommandsOwn (held : Held) (passes : ℕ) (happened : List Happening) (output : ℕ) : Type 0 where
  pub operation : ℕ
  pub selected : ℕ
  pub least : ℕ
  pub most : ℕ
  pub own_operation : IsOwnWordBeside held passes happened output Operation operation
  pub own_selected : IsOwnWordBeside held passes happened output (selected_register operation) selected
  pub own_least : IsOwnWordBeside held passes happened output VoutMin least
  pub own_most : IsOwnWordBeside held passes happened output VoutMax most
  pub cut : commands_beside held passes happened output
      ≡ limited (value_for held.config output selected) (value_for held.config output least) (value_for held.config output most)

-- Whatever happened beside a part as it is, each output commands a value of its own words (`commanded`), and each register of it holds one
-- (`holds`) and has one stored (`stores`).
pub record PartsCommandOwn : Type 0 where
  pub commanded : (held : Held) (passes : ℕ) (happened : List Happening) (output : ℕ) → IsLifeBeside held passes happened →
      output < held.config.count → CommandsOwn held passes happened output
  pub holds : (held : Held) (passes : ℕ) (happened : List Happening) (output : ℕ) (register : Reg) → IsLifeBeside held passes happened →
      output < held.config.count →
      IsOwnWordBeside held passes happened output register (word_at (beside held passes happened).device.words (Out output register))
  pub stores : (held : Held) (passes : ℕ) (happened : List Happening) (output : ℕ) (register : Reg) → IsLifeBeside held passes happened →
      output < held.config.count →
      IsOwnWordBeside held passes happened output register (word_at (beside held passes happened).device.store (Out output register))
