use Rattle.std.proofs.Common.{◌≡◌, ◌∙◌, ap, refl, [], Option, Some, None, option_map, unwrap_or}
use Rattle.std.specs.Borrow.{Bor}
use Rattle.clap.specs.Words.{Text, found_of}
use Rattle.clap.proofs.WalkLemmas.{first_value-rows}
use Rattle.pm_tool.proofs.commandline.options.text_of.Goals as goal

-- the text of an option, or else the empty text
text_or : (o : Option (Bor Text)) (d r : Bor Text) (t : Option Text) → r ≡ unwrap_or o d → d.now ≡ []
    → option_map (λ s. s.now) o ≡ t → r.now ≡ unwrap_or t []
text_or None d r t is empty found = ap (λ (s : Bor Text). s.now) is ∙ empty ∙ ap (λ o. unwrap_or o []) found
text_or (Some s) d r t is empty found = ap (λ (s : Bor Text). s.now) is ∙ ap (λ o. unwrap_or o []) found

pub returns : goal.returns
returns c =
    text_or c.get_str.result _ c.unwrap_or.result _ c.unwrap_or.ensures refl
    (c.get_str.ensures ∙ first_value-rows (found_of c.args.matches.now) c.args.name.now)
