use Rattle.std.proofs.Common.{◌≡◌, ◌∙◌, ap, ap₂, refl, codes, true, false}
use Rattle.std.proofs.lemmas.Result.{IfOk-weaker}
use Rattle.clap.specs.Words.{App, app_of, new_app, with_subcommand}
use Rattle.pm_tool.specs.Commandline.{check_app, number_app, with_required_subcommand}
use Rattle.pm_tool.specs.Telling.{tell_app}
use Rattle.clap.specs.declared.builder.command.Command.{Command}
use Rattle.clap.specs.declared.builder.command.Command.TheViews.{out-Command}
use Rattle.clap.proofs.SimpleLemmas.{plain_fields}
use Rattle.pm_tool.proofs.commandline.commands.pmb_command.Goals as goal

-- a command of a plain app has no global argument
no_globals : (command : Command) (app : App) → app_of command ≡ app → app.top.is_plain ≡ true → (out-Command command).has_globals ≡ false
no_globals command app is plain = (plain_fields command (ap (λ (a : App). a.top.is_plain) is ∙ plain)).globals

pub returns : goal.returns
returns c =
    let top : app_of c.top_command.result ≡ with_required_subcommand (new_app (codes "pmb")) = c.top_command.ensures in
    let hear : app_of c.text_command-hearing.result ≡ new_app (codes "hear") = c.text_command-hearing.ensures in
    let replay : app_of c.text_command-replaying.result ≡ new_app (codes "replay") = c.text_command-replaying.ensures in
    let decode : app_of c.in_ok-decoding.decoding ≡ tell_app = c.in_ok-decoding.ensures in
    let check : app_of c.in_ok-checking.checking ≡ check_app = c.in_ok-checking.ensures in
    let numbers : app_of c.in_ok-numbers.numbers ≡ number_app = c.in_ok-numbers.ensures in
    let with_hear = c.in_ok-with_hear.ensures.shape (no_globals _ _ hear refl) ∙ ap₂ with_subcommand top (ap (λ (a : App). a.top) hear) in
    let with_replay = c.in_ok-with_replay.ensures.shape (no_globals _ _ replay refl)
    ∙ ap₂ with_subcommand with_hear (ap (λ (a : App). a.top) replay) in
    let with_decode = c.in_ok-with_decode.ensures.shape (no_globals _ _ decode refl)
    ∙ ap₂ with_subcommand with_replay (ap (λ (a : App). a.top) decode) in
    let with_check = c.in_ok-with_check.ensures.shape (no_globals _ _ check refl)
    ∙ ap₂ with_subcommand with_decode (ap (λ (a : App). a.top) check) in
    IfOk-weaker c.subcommand-5.result _ _ (λ command h. h.shape (no_globals _ _ numbers refl)
    ∙ ap₂ with_subcommand with_check (ap (λ (a : App). a.top) numbers)) c.subcommand-5.ensures
