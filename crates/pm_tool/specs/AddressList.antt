-- The addresses that the texts of `--part` and `--mux` name. This project's own choice.
use Rattle.std.specs.Prelude.{ℕ, not, ◌&&◌, ◌==◌, if◌then◌else◌, List, [], ◌∷◌, Option, Some, None, option_and_then}
use Rattle.pm_decode.specs.Options.{no_addresses, with_address}
use Rattle.pm_decode.specs.declared.addresses.Addresses.{Addresses}
use Rattle.pm_lines.specs.Digits.{hex_of}
use Rattle.pm_tool.specs.Question.{Text, items}
use Rattle.pm_tool.specs.ReadingList.{is_place}

-- an address of a part or of a mux: 0Ch is the alert response's
abbrev pub address_named : Addresses → Option ℕ → Option Addresses
address_named made None = None
address_named made (Some addr) = if is_place (Some addr) && not (addr == 0x0C) then Some (with_address addr made) else None

abbrev pub item_named : Addresses → Text → Option Addresses
item_named made text = address_named made (hex_of 2 text)

-- one address after another
abbrev pub items_named : Addresses → List Text → Option Addresses
items_named made [] = Some made
items_named made (item ∷ rest) = option_and_then (λ more. items_named more rest) (item_named made item)

-- one text after another
abbrev pub texts_named : Addresses → List Text → Option Addresses
texts_named made [] = Some made
texts_named made (text ∷ rest) = option_and_then (λ more. texts_named more rest) (items_named made (items text))

abbrev pub addresses_asked : List Text → Option Addresses
addresses_asked texts = texts_named no_addresses texts
