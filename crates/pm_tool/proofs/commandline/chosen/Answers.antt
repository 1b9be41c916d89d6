-- What the parser met is what is chosen, and if it finds a fault the call refuses.
use Rattle.std.proofs.Common.{◌≡◌, ◌∙◌, ℕ, false, true≢false, eqb, eq-eqb, ap, get_or, refl, sym, subst, [], ◌∷◌, List, Result, Ok, Err}
use Rattle.std.proofs.Common.{IfOk, IsErrAnd, IsSomeAnd, Option, Some, None, codes, ⊎_elim, map, unwrap_or, is_some}
use Rattle.std.specs.Borrow.{Bor}
use Rattle.clap.specs.Words.{FailsBy, HasKind, Kinds, Row, Text, all_of, fault_of, subcommand_of}
use Rattle.clap.specs.Walk.{texts}
use Rattle.clap.specs.declared.error.Error.{Error}
use Rattle.clap.specs.declared.error.kind.ErrorKind.{ErrorKind}
use Rattle.clap.specs.declared.error.kind.ErrorKind.TheVariants.{DisplayHelp, DisplayVersion, MissingSubcommand}
use Rattle.clap.specs.declared.builder.value_parser.Reading.TheVariants.{AsWritten}
use Rattle.clap.specs.declared.parser.matches.ValueSource.TheVariants.{DefaultValue}
use Rattle.clap.proofs.OnLiterals.{clap_on_literals}
use Rattle.pm_tool.specs.declared.commandline.choice.Chosen.{Chosen}
use Rattle.pm_tool.specs.declared.commandline.choice.Chosen.TheVariants.{Hear, Replay, Decode, Tell, Check, Number}
use Rattle.pm_tool.specs.Commandline.{Asks, Given, HasValuesOf, UnlessMemory, number_words, pmb}
use Rattle.pm_tool.specs.Lacking.{lacks_asked}
use Rattle.pm_tool.specs.Question.{text_at}
use Rattle.pm_tool.specs.Telling.{HasTexts, is_any}
use Rattle.pm_tool.specs.declared.commandline.telling.TellTexts.{TellTexts}
use Rattle.pm_tool.proofs.Options.{first_text, number_met, number_passes, row}
use Rattle.pm_tool.proofs.commandline.chosen.Goals as goal

-- the subcommand that the parser meets is chosen if the parser finds no fault, unless memory ran out
met : (r : Result Chosen Error) (words : List Text) {name : Text} {rows : List Row} (P : Chosen → Type 0)
    → IfOk r (λ chosen. IsSomeAnd (subcommand_of pmb words) (λ met. Asks met.0 met.1 chosen))
    → FailsBy (fault_of pmb words) r → subcommand_of pmb words ≡ Some (name, rows) → fault_of pmb words ≡ []
    → ((chosen : Chosen) → Asks name rows chosen → P chosen) → UnlessMemory r P
met (Ok chosen) words P named kinds found none gives =
    gives chosen (subst (λ (o : Option (Text × List Row)). IsSomeAnd o (λ met. Asks met.0 met.1 chosen)) found named)
met (Err e) words P named kinds found none gives =
    ⊎_elim (λ memory. memory) (λ other. absurd other) (subst (λ (k : Kinds). HasKind k e) none kinds)

-- the call refuses if the parser finds a fault
refused : (r : Result Chosen Error) (words : List Text) (kind : ErrorKind) (kinds : Kinds) → FailsBy (fault_of pmb words) r
    → fault_of pmb words ≡ kind ∷ kinds → IsErrAnd r (HasKind (kind ∷ kinds))
refused (Ok chosen) words kind kinds fails is = let e : kind ∷ kinds ≡ [] = sym is ∙ fails in absurd (cc)
refused (Err e) words kind kinds fails is = subst (λ (k : Kinds). HasKind k e) is fails

-- the names of the commands begin with different letters
abbrev first_byte : Text → ℕ
first_byte text = get_or text 0 0

-- two letters that a test keeps apart
apart : {P : Type 0} (a b : ℕ) → a ≡ b → eqb a b ≡ false → P
apart a b same differs = absurd (true≢false (sym (eq-eqb a b same) ∙ differs))

-- ---- what the parser makes of the words of the laws

-- after `hear` with no more words the parser meets that subcommand, with no options
hear_met : (program : Text) → subcommand_of pmb (program ∷ codes "hear" ∷ []) ≡ Some (codes "hear", [])
unfolding clap_on_literals
hear_met program = refl

-- the parser finds no fault in `hear` with no more words
hear_passes : (program : Text) → fault_of pmb (program ∷ codes "hear" ∷ []) ≡ []
unfolding clap_on_literals
hear_passes program = refl

-- `hear` is chosen if its rows are asked for
hear_chosen : (rows : List Row) (chosen : Chosen) → Asks (codes "hear") rows chosen → chosen ≡ Hear
hear_chosen rows Hear asks = refl
hear_chosen rows Replay asks = apart 104 114 (ap first_byte asks) refl
hear_chosen rows Decode asks = apart 104 100 (ap first_byte asks.0) refl
hear_chosen rows (Tell given) asks = apart 104 100 (ap first_byte asks.0) refl
hear_chosen rows (Check lacks) asks = apart 104 99 (ap first_byte asks.0) refl
hear_chosen rows (Number format word micro) asks = apart 104 110 (ap first_byte asks.0) refl

-- after `replay` with no more words the parser meets that subcommand, with no options
replay_met : (program : Text) → subcommand_of pmb (program ∷ codes "replay" ∷ []) ≡ Some (codes "replay", [])
unfolding clap_on_literals
replay_met program = refl

-- the parser finds no fault in `replay` with no more words
replay_passes : (program : Text) → fault_of pmb (program ∷ codes "replay" ∷ []) ≡ []
unfolding clap_on_literals
replay_passes program = refl

-- `replay` is chosen if its rows are asked for
replay_chosen : (rows : List Row) (chosen : Chosen) → Asks (codes "replay") rows chosen → chosen ≡ Replay
replay_chosen rows Hear asks = apart 114 104 (ap first_byte asks) refl
replay_chosen rows Replay asks = refl
replay_chosen rows Decode asks = apart 114 100 (ap first_byte asks.0) refl
replay_chosen rows (Tell given) asks = apart 114 100 (ap first_byte asks.0) refl
replay_chosen rows (Check lacks) asks = apart 114 99 (ap first_byte asks.0) refl
replay_chosen rows (Number format word micro) asks = apart 114 110 (ap first_byte asks.0) refl

-- the rows of the flags of `decode` if none is given
abbrev no_flags : List Row
no_flags = map (λ name. record { id = name; values = codes "false" ∷ []; count = None; source = Some DefaultValue; reading = AsWritten })
    (codes "values" ∷ codes "all" ∷ codes "pages" ∷ codes "explain" ∷ codes "long" ∷ codes "times" ∷ codes "json" ∷ [])

-- after `decode` with no more words the parser meets that subcommand, with no options
decode_met : (program : Text) → subcommand_of pmb (program ∷ codes "decode" ∷ []) ≡ Some (codes "decode", no_flags)
unfolding clap_on_literals
decode_met program = refl

-- the parser finds no fault in `decode` with no more words
decode_passes : (program : Text) → fault_of pmb (program ∷ codes "decode" ∷ []) ≡ []
unfolding clap_on_literals
decode_passes program = refl

-- an option without a text isn't given
none_at : (text : Option (Bor Text)) → text_at text ≡ None → is_some text ≡ false
none_at None none = refl
none_at (Some text) none = absurd (cc)

-- no option is given if these are the rows
none_given : (given : TellTexts) → HasTexts given no_flags → is_any given ≡ false
unfolding clap_on_literals
none_given given has = rw (
  has.values.1 refl,
  none_at given.vout has.vout,
  none_at given.readings has.readings,
  has.all.1 refl,
  has.pages.1 refl,
  has.explain.1 refl,
  none_at given.gap has.gap,
  has.long.1 refl,
  has.times.1 refl,
  has.json.1 refl,
  has.parts,
  has.muxes,
) refl

-- `decode` is chosen without options if there are none
decode_chosen : (chosen : Chosen) → Asks (codes "decode") no_flags chosen → chosen ≡ Decode
decode_chosen Hear asks = apart 100 104 (ap first_byte asks) refl
decode_chosen Replay asks = apart 100 114 (ap first_byte asks) refl
decode_chosen Decode asks = refl
decode_chosen (Tell given) (named, has, is) = absurd (true≢false (sym is ∙ none_given given has))
decode_chosen (Check lacks) asks = apart 100 99 (ap first_byte asks.0) refl
decode_chosen (Number format word micro) asks = apart 100 110 (ap first_byte asks.0) refl

-- after `check` with no more words the parser meets that subcommand, with no options
check_met : (program : Text) → subcommand_of pmb (program ∷ codes "check" ∷ []) ≡ Some (codes "check", [])
unfolding clap_on_literals
check_met program = refl

-- the parser finds no fault in `check` with no more words
check_passes : (program : Text) → fault_of pmb (program ∷ codes "check" ∷ []) ≡ []
unfolding clap_on_literals
check_passes program = refl

-- `check` is chosen if its rows are asked for, with what the texts of its option let parts lack
check_chosen : (rows : List Row) (chosen : Chosen) → Asks (codes "check") rows chosen →
    chosen ≡ Check (lacks_asked (unwrap_or (all_of (codes "lacks") rows) []))
check_chosen rows Hear asks = apart 99 104 (ap first_byte asks) refl
check_chosen rows Replay asks = apart 99 114 (ap first_byte asks) refl
check_chosen rows Decode asks = apart 99 100 (ap first_byte asks.0) refl
check_chosen rows (Tell given) asks = apart 99 100 (ap first_byte asks.0) refl
check_chosen rows (Check lacks) asks = ap Check asks.1
check_chosen rows (Number format word micro) asks = apart 99 110 (ap first_byte asks.0) refl

-- `number` is chosen if it is met, with the texts that were given for its options
given_chosen : (given : List Given) (chosen : Chosen) → Asks (codes "number") (map row given) chosen → HasValuesOf given chosen
given_chosen given Hear asks = apart 110 104 (ap first_byte asks) refl
given_chosen given Replay asks = apart 110 114 (ap first_byte asks) refl
given_chosen given Decode asks = apart 110 100 (ap first_byte asks.0) refl
given_chosen given (Tell options) asks = apart 110 100 (ap first_byte asks.0) refl
given_chosen given (Check lacks) asks = apart 110 99 (ap first_byte asks.0) refl
given_chosen given (Number format word micro) asks = (
  asks.1 ∙ ap (λ o. unwrap_or o []) (first_text (codes "format") given),
  asks.2 ∙ first_text (codes "word") given,
  asks.3 ∙ first_text (codes "micro") given,
)

-- after `--help` with no more words the parser stops for the help
help_fault : (program : Text) → fault_of pmb (program ∷ codes "--help" ∷ []) ≡ DisplayHelp ∷ []
unfolding clap_on_literals
help_fault program = refl

-- after `--version` with no more words it stops for the version
version_fault : (program : Text) → fault_of pmb (program ∷ codes "--version" ∷ []) ≡ DisplayVersion ∷ []
unfolding clap_on_literals
version_fault program = refl

-- with no words a subcommand is missing
missing_fault : (program : Text) → fault_of pmb (program ∷ []) ≡ MissingSubcommand ∷ []
unfolding clap_on_literals
missing_fault program = refl

pub returns-clause-hear : goal.returns-clause-hear
returns-clause-hear c = λ program e.
    met c.parsed.result (program ∷ codes "hear" ∷ []) (λ chosen. chosen ≡ Hear)
    (subst (λ (t : List Text). IfOk c.parsed.result (λ chosen. IsSomeAnd (subcommand_of pmb t)
    (λ met. Asks met.0 met.1 chosen))) e c.parsed.ensures.named)
    (subst (λ (t : List Text). FailsBy (fault_of pmb t) c.parsed.result) e c.parsed.ensures.kinds)
    (hear_met program) (hear_passes program) (hear_chosen [])

pub returns-clause-replay : goal.returns-clause-replay
returns-clause-replay c = λ program e.
    met c.parsed.result (program ∷ codes "replay" ∷ []) (λ chosen. chosen ≡ Replay)
    (subst (λ (t : List Text). IfOk c.parsed.result (λ chosen. IsSomeAnd (subcommand_of pmb t)
    (λ met. Asks met.0 met.1 chosen))) e c.parsed.ensures.named)
    (subst (λ (t : List Text). FailsBy (fault_of pmb t) c.parsed.result) e c.parsed.ensures.kinds)
    (replay_met program) (replay_passes program) (replay_chosen [])

pub returns-clause-decode : goal.returns-clause-decode
returns-clause-decode c = λ program e.
    met c.parsed.result (program ∷ codes "decode" ∷ []) (λ chosen. chosen ≡ Decode)
    (subst (λ (t : List Text). IfOk c.parsed.result (λ chosen. IsSomeAnd (subcommand_of pmb t)
    (λ met. Asks met.0 met.1 chosen))) e c.parsed.ensures.named)
    (subst (λ (t : List Text). FailsBy (fault_of pmb t) c.parsed.result) e c.parsed.ensures.kinds)
    (decode_met program) (decode_passes program) decode_chosen

pub returns-clause-check : goal.returns-clause-check
returns-clause-check c = λ program e.
    met c.parsed.result (program ∷ codes "check" ∷ []) (λ chosen. chosen ≡ Check (lacks_asked []))
    (subst (λ (t : List Text). IfOk c.parsed.result (λ chosen. IsSomeAnd (subcommand_of pmb t)
    (λ met. Asks met.0 met.1 chosen))) e c.parsed.ensures.named)
    (subst (λ (t : List Text). FailsBy (fault_of pmb t) c.parsed.result) e c.parsed.ensures.kinds)
    (check_met program) (check_passes program) (check_chosen [])

pub returns-clause-number : goal.returns-clause-number
returns-clause-number c = λ program given once e.
    met c.parsed.result (number_words program given) (HasValuesOf given)
    (subst (λ (t : List Text). IfOk c.parsed.result (λ chosen. IsSomeAnd (subcommand_of pmb t)
    (λ met. Asks met.0 met.1 chosen))) e c.parsed.ensures.named)
    (subst (λ (t : List Text). FailsBy (fault_of pmb t) c.parsed.result) e c.parsed.ensures.kinds)
    (number_met program given once) (number_passes program given once) (given_chosen given)

pub returns-clause-help : goal.returns-clause-help
returns-clause-help c = λ program e.
    refused c.parsed.result (texts c.args.words.now) DisplayHelp [] c.parsed.ensures.kinds (ap (fault_of pmb) e ∙ help_fault program)

pub returns-clause-version : goal.returns-clause-version
returns-clause-version c = λ program e.
    refused c.parsed.result (texts c.args.words.now) DisplayVersion [] c.parsed.ensures.kinds (ap (fault_of pmb) e ∙ version_fault program)

pub returns-clause-missing : goal.returns-clause-missing
returns-clause-missing c = λ program e.
    refused c.parsed.result (texts c.args.words.now) MissingSubcommand [] c.parsed.ensures.kinds (ap (fault_of pmb) e
    ∙ missing_fault program)
