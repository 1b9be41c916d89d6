-- What the texts of `--lacks` say that parts lack. This project's own choice.
use Rattle.std.specs.Prelude.{ℕ, false, if◌then◌else◌, List, [], ◌∷◌, Option, Some, None, codes, option_and_then, option_map}
use Rattle.std.specs.Str.{bytes_eq}
use Rattle.pm_limits.specs.declared.part_registers.PartRegisters.{PartRegisters}
use Rattle.pm_limits.specs.Part.{all_registers}
use Rattle.pm_lines.specs.Digits.{hex_of}
use Rattle.pm_log.specs.Lacks.{lacking_more, lacks_nothing}
use Rattle.pm_log.specs.declared.lacks.Lacks.{Lacks}
use Rattle.pm_tool.specs.Question.{Text, items, parts}
use Rattle.pm_tool.specs.ReadingList.{is_place}

-- a part that lacks the register with this name
abbrev pub lacking_named : Text → Option PartRegisters
lacking_named name =
    if bytes_eq name (codes "VOUT_MAX") then Some (record all_registers { vout_max = false })
    else (if bytes_eq name (codes "VOUT_MARGIN_HIGH") then Some (record all_registers { vout_margin_high = false })
    else (if bytes_eq name (codes "VOUT_MARGIN_LOW") then Some (record all_registers { vout_margin_low = false })
    else (if bytes_eq name (codes "VOUT_MIN") then Some (record all_registers { vout_min = false })
    else None)))

-- what parts lack, if the one at an address lacks registers with these names, too
abbrev pub lacks_names : List PartRegisters → ℕ → List Text → Option (List PartRegisters)
lacks_names lacks addr [] = Some lacks
lacks_names lacks addr (name ∷ names) =
    option_and_then (λ part. lacks_names (lacking_more lacks addr part) addr names) (lacking_named name)

-- `58:VOUT_MAX,VOUT_MIN`: an address and names
abbrev pub lacks_at : List PartRegisters → Option ℕ → Text → Option (List PartRegisters)
lacks_at lacks None names = None
lacks_at lacks (Some addr) names = if is_place (Some addr) then lacks_names lacks addr (items names) else None

abbrev pub lacks_by : List PartRegisters → List Text → Option (List PartRegisters)
lacks_by lacks (addr ∷ names ∷ []) = lacks_at lacks (hex_of 2 addr) names
lacks_by lacks _ = None

abbrev pub lacks_in_text : List PartRegisters → Text → Option (List PartRegisters)
lacks_in_text lacks text = lacks_by lacks (parts text)

-- one text after another
abbrev pub lacks_texts : List PartRegisters → List Text → Option (List PartRegisters)
lacks_texts lacks [] = Some lacks
lacks_texts lacks (text ∷ texts) = option_and_then (λ more. lacks_texts more texts) (lacks_in_text lacks text)

-- what the texts say that parts lack; None if one of them is none
abbrev pub lacks_in : List PartRegisters → Lacks
lacks_in parts = record { parts = parts }

abbrev pub lacks_asked : List Text → Option Lacks
lacks_asked texts = option_map lacks_in (lacks_texts lacks_nothing texts)
