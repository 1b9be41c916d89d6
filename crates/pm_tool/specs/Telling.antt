-- The options of `decode`: the command as the parser reads it, and the telling that they ask for. This project's own choice.
use Rattle.std.specs.Prelude.{◌≡◌, [], ℕ, ◌*◌, Bool, true, false, ◌||◌, is_some, nat_lt, if◌then◌else◌, List, length, codes, flat_map}
use Rattle.std.specs.Prelude.{Option, Some, None, option_and_then, unwrap_or, Result, Ok, Err}
use Rattle.std.specs.Option.{option_or}
use Rattle.clap.specs.Words.{App, Row, Rule, Text, all_of, first_of, new_app, new_rule, one_of, with_rule}
use Rattle.clap.specs.declared.builder.action.ArgAction.TheVariants.{SetTrue}
use Rattle.pm_decode.specs.declared.addresses.Addresses.{Addresses}
use Rattle.pm_decode.specs.declared.options.TellOptions.{TellOptions}
use Rattle.pm_tool.specs.AddressList.{addresses_asked}
use Rattle.pm_tool.specs.Options.{list_rule, option_rule}
use Rattle.pm_lines.specs.Digits.{natural_of}
use Rattle.pm_tool.specs.Question.{text_at}
use Rattle.pm_tool.specs.ReadingList.{Entry, listed_entries, if_any}
use Rattle.pm_tool.specs.declared.commandline.readings.Listed.TheVariants as listed
use Rattle.pm_tool.specs.declared.commandline.telling.TellTexts.{TellTexts}
use Rattle.pm_tool.specs.declared.commandline.tell_fault.TellFault.{TellFault}
use Rattle.pm_tool.specs.declared.commandline.tell_fault.TellFault.TheVariants.{VoutAlone, Vout, ReadingsAlone, Readings, GapAlone, Gap, Part, Mux}

-- ---- the command, as the builder's calls make it

-- `--NAME`
abbrev pub flag_rule : Text → Rule
flag_rule name = record (new_rule name) { long = Some name; action = Some SetTrue }

abbrev pub tell_app : App
tell_app = with_rule (with_rule (with_rule (with_rule (with_rule (with_rule (with_rule (with_rule (with_rule (with_rule (with_rule (with_rule
    (new_app (codes "decode")) (flag_rule (codes "values"))) (option_rule (codes "vout"))) (option_rule (codes "readings")))
    (flag_rule (codes "all"))) (flag_rule (codes "pages"))) (option_rule (codes "gap"))) (flag_rule (codes "explain")))
    (flag_rule (codes "long"))) (flag_rule (codes "times"))) (flag_rule (codes "json"))) (list_rule (codes "part"))) (list_rule (codes "mux"))

-- Whether a flag is given, by the text that the parser has for it: `true` if it is among the words, and otherwise
-- `false`.
abbrev pub IsFlag : Option Text → Bool → Type 0
IsFlag None given = given ≡ false
IsFlag (Some text) given = (text ≡ codes "true" → given ≡ true) × (text ≡ codes "false" → given ≡ false)

-- the options are as the parser found them
pub record HasTexts (given : TellTexts) (rows : List Row) : Type 0 where
  pub values : IsFlag (one_of (codes "values") rows) given.values
  pub vout : text_at given.vout ≡ first_of (codes "vout") rows
  pub readings : text_at given.readings ≡ first_of (codes "readings") rows
  pub all : IsFlag (one_of (codes "all") rows) given.all
  pub pages : IsFlag (one_of (codes "pages") rows) given.pages
  pub gap : text_at given.gap ≡ first_of (codes "gap") rows
  pub explain : IsFlag (one_of (codes "explain") rows) given.explain
  pub long : IsFlag (one_of (codes "long") rows) given.long
  pub times : IsFlag (one_of (codes "times") rows) given.times
  pub json : IsFlag (one_of (codes "json") rows) given.json
  pub parts : given.parts ≡ addresses_asked (unwrap_or (all_of (codes "part") rows) [])
  pub muxes : given.muxes ≡ addresses_asked (unwrap_or (all_of (codes "mux") rows) [])

-- there are texts of addresses
abbrev pub names_any : Option Addresses → Bool
names_any None = true
names_any (Some named) = named.any

-- an option is given
abbrev pub is_any : TellTexts → Bool
is_any given = given.values || (is_some given.vout || (is_some given.readings || (given.all || (given.pages || (given.explain
    || (is_some given.gap || (given.long || (given.times || (given.json || (names_any given.parts || names_any given.muxes))))))))))

-- ---- the formats of `--vout` and `--readings`

abbrev pub listed_or_fault : TellFault → Option (List Entry) → Result (List Entry) TellFault
listed_or_fault fault (Some entries) = Ok entries
listed_or_fault fault None = Err fault

-- the entries that `--values` and such a list ask for, or the first fault
abbrev pub vout_of : Bool → Option Text → Result (List Entry) TellFault
vout_of values None = Ok []
vout_of false (Some text) = Err VoutAlone
vout_of true (Some text) = listed_or_fault Vout (listed_entries listed.Voltages text)

abbrev pub vout_asked : TellTexts → Result (List Entry) TellFault
vout_asked given = vout_of given.values (text_at given.vout)

abbrev pub readings_of : Bool → Option Text → Result (List Entry) TellFault
readings_of values None = Ok []
readings_of false (Some text) = Err ReadingsAlone
readings_of true (Some text) = listed_or_fault Readings (listed_entries listed.Readings text)

abbrev pub readings_asked : TellTexts → Result (List Entry) TellFault
readings_asked given = readings_of given.values (text_at given.readings)

-- ---- the pause of `--gap`

-- the milliseconds that a text writes: 0 to 1000000, in one to seven digits
abbrev pub pause_if_short : ℕ → Option ℕ
pause_if_short pause = if nat_lt 1000000 pause then None else Some pause

abbrev pub pause_of_text : List ℕ → Option ℕ
pause_of_text text = if nat_lt 7 (length text) then None else option_and_then pause_if_short (natural_of 10 text)

abbrev pub micros_or_fault : Option ℕ → Result ℕ TellFault
micros_or_fault (Some pause) = Ok (pause * 1000)
micros_or_fault None = Err Gap

-- the microseconds of the pause that the three options ask for, 1000 ms if none is given, or the first fault
abbrev pub gap_of : Bool → Bool → Option Text → Result ℕ TellFault
gap_of pages times None = Ok 1000000
gap_of false times (Some text) = Err GapAlone
gap_of true false (Some text) = Err GapAlone
gap_of true true (Some text) = micros_or_fault (pause_of_text text)

abbrev pub gap_asked : TellTexts → Result ℕ TellFault
gap_asked given = gap_of (given.pages || given.explain) given.times (text_at given.gap)

-- the addresses that texts name, or the fault that one of them can't be read
abbrev pub addresses_or_fault : TellFault → Option Addresses → Result Addresses TellFault
addresses_or_fault fault None = Err fault
addresses_or_fault fault (Some named) = Ok named

-- ---- the telling that the options ask for

pub record IsTelling (given : TellTexts) (options : TellOptions) : Type 0 where
  pub values : options.values ≡ given.values
  pub vout : vout_asked given ≡ Ok (flat_map if_any options.formats.vout)
  pub readings : readings_asked given ≡ Ok (flat_map if_any options.formats.readings)
  pub all : options.all ≡ (given.all || given.explain)
  pub long : options.long ≡ given.long
  pub times : options.times ≡ given.times
  pub json : options.json ≡ given.json
  pub pages : options.pages ≡ (given.pages || given.explain)
  pub explain : options.explain ≡ given.explain
  pub gap : gap_asked given ≡ Ok options.gap
  pub parts : given.parts ≡ Some options.parts
  pub muxes : given.muxes ≡ Some options.muxes

-- the fault of an option
abbrev pub fault_of_option : {A : Type 0} → Result A TellFault → Option TellFault
fault_of_option (Ok asked) = None
fault_of_option (Err fault) = Some fault

-- the first fault of the options, one after the other
abbrev pub first_fault : TellTexts → Option TellFault
first_fault given = option_or (fault_of_option (vout_asked given)) (option_or (fault_of_option (readings_asked given))
    (option_or (fault_of_option (gap_asked given)) (option_or (fault_of_option (addresses_or_fault Part given.parts))
    (fault_of_option (addresses_or_fault Mux given.muxes)))))

-- the telling, or the first fault of the options
abbrev pub IsAsked : TellTexts → Result TellOptions TellFault → Type 0
IsAsked given (Ok options) = IsTelling given options
IsAsked given (Err fault) = first_fault given ≡ Some fault

-- what is said of a fault of the options, and the status that goes with it
abbrev pub tell_fault_words : TellFault → List ℕ
tell_fault_words VoutAlone = codes "give --vout with --values"
tell_fault_words Vout = codes "bad vout: give linear11, ulinear16:N or direct:M:B:R, or a list, as 58:ulinear16:-12,linear11"
tell_fault_words ReadingsAlone = codes "give --readings with --values"
tell_fault_words Readings = codes "bad readings: give one to eight, as 8C:linear11,58:8D:direct:1:0:3"
tell_fault_words GapAlone = codes "give --gap with --pages and --times"
tell_fault_words Gap = codes "bad gap: give 0 to 1000000 milliseconds"
tell_fault_words Part = codes "bad part: give addresses from 08 to 77 without 0C, as 61,28"
tell_fault_words Mux = codes "bad mux: give addresses from 08 to 77 without 0C, as 70,71"

abbrev pub tell_fault_status : TellFault → ℕ
tell_fault_status VoutAlone = 2
tell_fault_status Vout = 2
tell_fault_status ReadingsAlone = 2
tell_fault_status Readings = 2
tell_fault_status GapAlone = 2
tell_fault_status Gap = 2
tell_fault_status Part = 2
tell_fault_status Mux = 2
