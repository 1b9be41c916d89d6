-- How the ends of what an output's registers may hold are kept while a band is found.
use Rattle.std.specs.Prelude.{ℕ}
use Rattle.pm_num.specs.Ratio.{Ratio}
use Rattle.pm_table.specs.declared.reg.Reg.{Reg}
use Rattle.pm_table.specs.declared.reg.Reg.TheVariants.{MarginHigh, MarginLow}
use Rattle.pm_model.specs.Commanded.{selected_register}
use Rattle.pm_limits.specs.declared.ends.Side.{Side}
use Rattle.pm_limits.specs.declared.ends.Side.TheVariants.{Lowest, Highest}
use Rattle.pm_limits.specs.declared.ends.WordEnds.{WordEnds}
use Rattle.pm_limits.specs.declared.ends.OutputEnds.{OutputEnds}

-- the word on one side
abbrev pub word_on : Side → WordEnds → ℕ
word_on Lowest ends = ends.lowest
word_on Highest ends = ends.highest

-- the ends of a register that a byte of OPERATION may select; of another than the margins those of VOUT_COMMAND
abbrev pub end_in : OutputEnds → Reg → WordEnds
end_in ends MarginHigh = ends.high
end_in ends MarginLow = ends.low
end_in ends _ = ends.command

-- the value of the end of the register that a byte of OPERATION selects
unfoldable pub selected_end_value : Side → (ℕ → Ratio) → OutputEnds → ℕ → Ratio
selected_end_value side value ends byte = value (word_on side (end_in ends (selected_register byte)))
