-- The options by which a capture is shown. They are this project's own choice.
use Rattle.std.specs.Prelude.{ℕ, Bool, true, false, not, ◌||◌, List, None, replicate, slice_index_or, slice_set}
use Rattle.pm_trace.specs.declared.formats.GivenFormats.{GivenFormats}
use Rattle.pm_decode.specs.declared.addresses.Addresses.{Addresses}
use Rattle.pm_decode.specs.declared.options.TellOptions.{TellOptions}

-- ---- addresses that are named, by a list with whether each address of seven bits is

unfoldable pub unnamed : List Bool
unnamed = replicate 128 false

-- no address is named, whatever the list says
abbrev pub none_of : List Bool → Addresses
none_of named = record { named = named; any = false }

abbrev pub no_addresses : Addresses
no_addresses = none_of unnamed

abbrev pub is_named : Addresses → ℕ → Bool
is_named addresses addr = slice_index_or addresses.named addr false

abbrev pub with_address : ℕ → Addresses → Addresses
with_address addr addresses = record { named = slice_set addresses.named addr true; any = true }

-- ---- the options

-- No option that changes what is shown. Without values a format changes nothing, and a pause doesn't without pages; `long` is only
-- the limit of the input.
abbrev pub plain_options : GivenFormats → Bool → ℕ → List Bool → List Bool → TellOptions
plain_options formats long gap parts muxes = record {
  values = false;
  formats = formats;
  all = false;
  long = long;
  times = false;
  json = false;
  pages = false;
  explain = false;
  gap = gap;
  parts = none_of parts;
  muxes = none_of muxes;
}

-- no format is given
abbrev pub no_formats_given : GivenFormats
no_formats_given = record { vout = replicate 8 None; readings = replicate 8 None }

-- no option is given
abbrev pub no_options : TellOptions
no_options = plain_options no_formats_given false 0 unnamed unnamed

-- an option changes what is shown, and comments are noted
abbrev pub notes_comments : TellOptions → Bool
notes_comments options = options.values || (options.all || (options.times || (options.json || (options.pages || (options.explain
    || (options.parts.any || options.muxes.any))))))

-- no option changes what is shown
abbrev pub is_plain : TellOptions → Bool
is_plain options = not (notes_comments options)
