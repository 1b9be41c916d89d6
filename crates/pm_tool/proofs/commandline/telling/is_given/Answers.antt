use Rattle.std.proofs.Common.{◌≡◌, ◌∙◌, Bool, true, false, Option, Some, None, ap, codes, refl}
use Rattle.clap.specs.Words.{Text, found_of, one_of, rows_of}
use Rattle.clap.proofs.WalkLemmas.{one_text-rows}
use Rattle.pm_tool.specs.Telling.{IsFlag}
use Rattle.pm_tool.proofs.commandline.telling.is_given.Goals as goal

-- what the parser reads of a flag's text
flag_read : (text : Option Text) (given : Bool) → (text ≡ None → given ≡ false) → (text ≡ Some (codes "true") → given ≡ true)
    → (text ≡ Some (codes "false") → given ≡ false) → IsFlag text given
flag_read None given none set unset = none refl
flag_read (Some text) given none set unset = (λ e. set (ap (λ t. Some t) e), λ e. unset (ap (λ t. Some t) e))

pub returns : goal.returns
returns c =
    let found = found_of c.args.matches.now in
    let same = one_text-rows found c.args.name.now in
    flag_read (one_of c.args.name.now (rows_of found)) c.get_flag.result (λ e. c.get_flag.ensures.none (same ∙ e))
    (λ e. c.get_flag.ensures.value (same ∙ e)) (λ e. c.get_flag.ensures.other (same ∙ e))
