use Rattle.std.proofs.Common.{◌≡◌, ◌∙◌, ℕ, List, [], Option, Some, None, IsSomeAnd, ap, is_some, option_map, refl, subst, true, true≢false}
use Rattle.std.proofs.Common.{sym, unwrap_or}
use Rattle.std.specs.Prelude.{Box}
use Rattle.std.specs.Box.{box_value}
use Rattle.clap.specs.Words.{App, HasKind, Row, Text, app_of, fault_of, found_of, is_simple, is_simple_and_free, kind_of, rows_of, subcommand_of, takes}
use Rattle.clap.specs.Simple.{subcommand_rows}
use Rattle.clap.specs.declared.parser.matches.ArgMatches.TheViews.{out-ArgMatches, out-SubCommand}
use Rattle.clap.specs.declared.parser.matches.SubCommand.{SubCommand}
use Rattle.clap.specs.declared.error.kind.ErrorKind.TheVariants.{OutOfMemory}
use Rattle.clap.specs.Walk.{texts}
use Rattle.clap.proofs.FaultLemmas.{failed_up}
use Rattle.clap.proofs.TakesLemmas.{passed_up}
use Rattle.pm_tool.specs.Commandline.{Asks, pmb}
use Rattle.pm_tool.proofs.commandline.parsed.Goals as goal

module _ {Z : Type 0} where
  -- what the parse entered is what `subcommand` answers: a name, and the rows of its options
  entered : {S : Type 0} (sub : Option (Box SubCommand Z)) (s : Option S) (p : S) (name : S → List ℕ) (rows : S → List Row)
      (o : Option (Text × List Row)) (P : Text → List Row → Type 0)
      → s ≡ Some p → option_map name s ≡ option_map (λ b. (out-SubCommand (box_value b)).name.now) sub
      → option_map rows s ≡ option_map (λ q. q.1) (subcommand_rows sub) → subcommand_rows sub ≡ o
      → P (name p) (rows p) → IsSomeAnd o (λ met. P met.0 met.1)
  entered None s p name rows o P is named has same asked =
      absurd (true≢false (ap is_some (subst (λ s. option_map name s ≡ None) is named)))
  entered (Some b) s p name rows o P is named has same asked =
      let first = ap (λ (t : Option (List ℕ)). unwrap_or t []) (subst (λ s. option_map name s ≡ Some (out-SubCommand (box_value b)).name.now) is named) in
      let second = ap (λ (t : Option (List Row)). unwrap_or t [])
      (subst (λ s. option_map rows s ≡ Some (rows_of (found_of (out-SubCommand (box_value b)).matches))) is has) in
      subst (λ (t : Option (Text × List Row)). IsSomeAnd t (λ met. P met.0 met.1)) same
      (subst (λ (t : List ℕ). P t (rows_of (found_of (out-SubCommand (box_value b)).matches))) first
      (subst (λ (t : List Row). P (name p) t) second asked))

pub returns-clause-kinds : goal.returns-clause-kinds
returns-clause-kinds c =
    let app : app_of c.in_ok-pmb_command.field-0 ≡ pmb = c.in_ok-pmb_command.ensures in
    ap (λ (a : App). fault_of a (texts c.args.words.now)) (sym app) ∙ c.in_ok-matches.ensures.kinds (ap is_simple_and_free app ∙ refl)

pub returns-in_err-matches-clause-kinds : goal.returns-in_err-matches-clause-kinds
returns-in_err-matches-clause-kinds c =
    let app : app_of c.in_ok-pmb_command.field-0 ≡ pmb = c.in_ok-pmb_command.ensures in
    let error = c.in_err-matches.field-0.0 in
    failed_up c.from_residual-in_err-matches.result error (λ _. fault_of pmb (texts c.args.words.now) ≡ [])
    (fault_of pmb (texts c.args.words.now)) c.from_residual-in_err-matches.ensures.1
    (subst (λ (a : App). HasKind (fault_of a (texts c.args.words.now)) error) app
    (c.in_err-matches.ensures.kinds (ap is_simple_and_free app ∙ refl)))

pub returns-in_err-matches-clause-passes : goal.returns-in_err-matches-clause-passes
returns-in_err-matches-clause-passes c =
    let app : app_of c.in_ok-pmb_command.field-0 ≡ pmb = c.in_ok-pmb_command.ensures in
    passed_up c.from_residual-in_err-matches.result c.in_err-matches.field-0.0 (λ e. takes pmb (texts c.args.words.now) ≡ true
    → kind_of e ≡ OutOfMemory)
    c.from_residual-in_err-matches.ensures.1
    (λ t. c.in_err-matches.ensures.passes (ap (λ (a : App). takes a (texts c.args.words.now)) app ∙ t))

pub returns-clause-named : goal.returns-clause-named
returns-clause-named c =
    let app : app_of c.in_ok-pmb_command.field-0 ≡ pmb = c.in_ok-pmb_command.ensures in
    entered (out-ArgMatches c.in_ok-matches.matches).subcommand c.subcommand.result c.unwrap.result (λ p. p.0.now)
    (λ p. rows_of (found_of p.1.now)) (subcommand_of pmb (texts c.args.words.now)) (λ name rows. Asks name rows _) c.unwrap.ensures
    c.subcommand.ensures.name c.subcommand.ensures.rows
    ((c.in_ok-matches.ensures.matches (ap is_simple app ∙ refl)).1 ∙ ap (λ (a : App). subcommand_of a (texts c.args.words.now)) app)
    c.choice_of.ensures
