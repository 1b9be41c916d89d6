-- Which registers parts lack, address by address. A claim of a voltage rests on the writer's word that the part lacks registers; the
-- receiver says which of them he takes that word of. This project's own choice.
use Rattle.std.specs.Prelude.{ℕ, Bool, not, ◌&&◌, ◌||◌, List, replicate, slice_index_or, slice_set}
use Rattle.pm_limits.specs.declared.part_registers.PartRegisters.{PartRegisters}
use Rattle.pm_limits.specs.Part.{all_registers}

-- no part lacks a register: a list with the registers of the part at each address of seven bits
unfoldable pub lacks_nothing : List PartRegisters
lacks_nothing = replicate 128 all_registers

-- the registers of the part at an address
abbrev pub part_at : List PartRegisters → ℕ → PartRegisters
part_at parts addr = slice_index_or parts addr all_registers

-- the registers that neither lacks
abbrev pub both : PartRegisters → PartRegisters → PartRegisters
both one other = record {
  vout_max = one.vout_max && other.vout_max;
  vout_margin_high = one.vout_margin_high && other.vout_margin_high;
  vout_margin_low = one.vout_margin_low && other.vout_margin_low;
  vout_min = one.vout_min && other.vout_min;
}

-- the part at an address lacks these, too
abbrev pub lacking_more : List PartRegisters → ℕ → PartRegisters → List PartRegisters
lacking_more parts addr part = slice_set parts addr (both (part_at parts addr) part)

-- a part that lacks what is said of it and isn't allowed
abbrev pub not_allowed : PartRegisters → PartRegisters → PartRegisters
not_allowed allowed said = record {
  vout_max = said.vout_max || not allowed.vout_max;
  vout_margin_high = said.vout_margin_high || not allowed.vout_margin_high;
  vout_margin_low = said.vout_margin_low || not allowed.vout_margin_low;
  vout_min = said.vout_min || not allowed.vout_min;
}

-- the part lacks nothing
abbrev pub has_all : PartRegisters → Bool
has_all part = part.vout_max && part.vout_margin_high && part.vout_margin_low && part.vout_min
