-- The command line of `pmb`: the commands as the parser reads them, and what words choose.
use Rattle.std.specs.Prelude.{◌≡◌, ◌⊎◌, ◌++◌, ◌∷◌, [], List, Bool, true, false, not, ◌&&◌, if◌then◌else◌}
use Rattle.std.specs.Prelude.{Option, Result, MatchResult, codes, find, map, option_map}
use Rattle.std.specs.Prelude.{unwrap_or}
use Rattle.std.specs.List.{list_any}
use Rattle.std.specs.Str.{bytes_eq}
use Rattle.clap.specs.Words.{App, Row, Text, all_of, first_of, kind_of, new_app, with_rule}
use Rattle.clap.specs.Words.{with_subcommand}
use Rattle.clap.specs.declared.error.Error.{Error}
use Rattle.clap.specs.declared.error.kind.ErrorKind.TheVariants.{OutOfMemory}
use Rattle.pm_tool.specs.Lacking.{lacks_asked}
use Rattle.pm_tool.specs.Options.{list_rule, option_rule}
use Rattle.pm_tool.specs.Telling.{HasTexts, is_any, tell_app}
use Rattle.pm_tool.specs.declared.commandline.choice.Chosen.{Chosen}
use Rattle.pm_tool.specs.declared.commandline.choice.Chosen.TheVariants.{Hear, Replay, Decode, Tell, Check, Number}
use Rattle.pm_tool.specs.declared.commandline.telling.TellTexts.{TellTexts}

-- ---- the commands, as the builder's calls make them

abbrev pub number_app : App
number_app = with_rule (with_rule (with_rule (new_app (codes "number"))
    (option_rule (codes "format"))) (option_rule (codes "word"))) (option_rule (codes "micro"))

abbrev pub check_app : App
check_app = with_rule (new_app (codes "check")) (list_rule (codes "lacks"))

-- a subcommand is required, there is none called `help`, and there is a version
abbrev pub with_required_subcommand : App → App
with_required_subcommand app = record app {
  top = record app.top {
    disable_help_subcommand = true;
    subcommand_required = true;
    has_version = true;
  };
}

-- a subcommand with no options
abbrev pub with_plain : App → Text → App
with_plain app name = with_subcommand app (new_app name).top

-- the whole command line
abbrev pub pmb : App
pmb = with_subcommand (with_subcommand (with_subcommand (with_plain (with_plain
    (with_required_subcommand (new_app (codes "pmb"))) (codes "hear")) (codes "replay")) tell_app.top)
    check_app.top) number_app.top

-- the names of the subcommands
abbrev pub IsCommandName : Text → Type 0
IsCommandName name = (name ≡ codes "hear") ⊎ (name ≡ codes "replay") ⊎ (name ≡ codes "decode")
    ⊎ (name ≡ codes "check") ⊎ (name ≡ codes "number")

-- ---- what is chosen, by the subcommand's name and what was found for its options

abbrev pub Asks : Text → List Row → Chosen → Type 0
Asks name rows Hear = name ≡ codes "hear"
Asks name rows Replay = name ≡ codes "replay"
Asks name rows Decode = (name ≡ codes "decode") × (given : TellTexts) × HasTexts given rows × (is_any given ≡ false)
Asks name rows (Tell given) = (name ≡ codes "decode") × HasTexts given rows × (is_any given ≡ true)
Asks name rows (Check lacks) = (name ≡ codes "check") × (lacks ≡ lacks_asked (unwrap_or (all_of (codes "lacks") rows) []))
Asks name rows (Number format word micro) = (name ≡ codes "number")
    × (format.now ≡ unwrap_or (first_of (codes "format") rows) [])
    × (option_map (λ s. s.now) word ≡ first_of (codes "word") rows)
    × (option_map (λ s. s.now) micro ≡ first_of (codes "micro") rows)

-- what `decode` chooses by its options
abbrev pub ChoosesDecode : TellTexts → Chosen → Type 0
ChoosesDecode given chosen = chosen ≡ (if is_any given then Tell given else Decode)

-- the call gave a value of which P holds, or memory ran out
abbrev pub UnlessMemory : {T : Type 0} → Result T Error → (T → Type 0) → Type 0
UnlessMemory result P = MatchResult result P (λ error. kind_of error ≡ OutOfMemory)

-- ---- the same in plain words, for `number`

-- the options of `number`
pub data NumberOption : Type 0 where
  format_option : NumberOption
  word_option : NumberOption
  micro_option : NumberOption

abbrev pub option_name : NumberOption → Text
option_name format_option = codes "format"
option_name word_option = codes "word"
option_name micro_option = codes "micro"

-- one use of an option, with its text
pub record Given : Type 0 where
  pub option : NumberOption
  pub text : Text

-- the use is one of the option with this name
abbrev pub is_option_named : Text → Given → Bool
is_option_named name one = bytes_eq (option_name one.option) name

-- `--NAME=TEXT`
abbrev pub option_word : Given → Text
option_word one = codes "--" ++ option_name one.option ++ codes "=" ++ one.text

-- the words `PROGRAM number --NAME=TEXT ..`
abbrev pub number_words : Text → List Given → List Text
number_words program given = program ∷ codes "number" ∷ map option_word given

-- no option is used twice
abbrev pub is_once : List Given → Bool
is_once [] = true
is_once (one ∷ rest) = not (list_any (is_option_named (option_name one.option)) rest) && is_once rest

-- the text of an option, if it is used
abbrev pub text_of : NumberOption → List Given → Option Text
text_of option given = option_map (λ one. one.text) (find (is_option_named (option_name option)) given)

-- `number` is chosen, with the texts that were given for its options
abbrev pub HasValuesOf : List Given → Chosen → Type 0
HasValuesOf given Hear = ⊥
HasValuesOf given Replay = ⊥
HasValuesOf given Decode = ⊥
HasValuesOf given (Tell options) = ⊥
HasValuesOf given (Check lacks) = ⊥
HasValuesOf given (Number format word micro) =
    (format.now ≡ unwrap_or (text_of format_option given) [])
    × (option_map (λ s. s.now) word ≡ text_of word_option given)
    × (option_map (λ s. s.now) micro ≡ text_of micro_option given)
