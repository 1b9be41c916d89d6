use Rattle.std.proofs.Common.{rules, ◌≡◌, ◌∙◌, Bool, true, false, cond, List, [], ap, codes, option_map, refl, unwrap_or}
use Rattle.clap.specs.Words.{Row, Text, first_value, found_of, rows_of}
use Rattle.clap.proofs.WalkLemmas.{first_value-rows, raw_values-rows}
use Rattle.pm_tool.specs.Commandline.{Asks, ChoosesDecode}
use Rattle.pm_tool.specs.Lacking.{lacks_asked}
use Rattle.pm_tool.specs.Telling.{HasTexts, is_any}
use Rattle.pm_tool.specs.declared.commandline.choice.Chosen.{Chosen}
use Rattle.pm_tool.specs.declared.commandline.choice.Chosen.TheVariants.{Decode, Tell}
use Rattle.pm_tool.specs.declared.commandline.telling.TellTexts.{TellTexts}
use Rattle.pm_tool.proofs.commandline.choice_of.Goals as goal

-- what `decode` asks for, with an option or without
decodes : (name : Text) (given : TellTexts) (rows : List Row) (chosen : Chosen) → name ≡ codes "decode" → HasTexts given rows
    → ChoosesDecode given chosen → Asks name rows chosen
decodes name given rows chosen named has is = go (is_any given) refl is
  where
    go : (any : Bool) → is_any given ≡ any → chosen ≡ cond any (Tell given) Decode → Asks name rows chosen
    go true any same = rw same (named, has, any)
    go false any same = rw same (named, given, has, any)

pub returns-in-decode : goal.returns-in-decode
returns-in-decode c =
    decodes c.args.name.now c.of.result (rows_of (found_of c.args.found.now)) c.decoding_of.result (search rules) c.of.ensures c.decoding_of.ensures

pub returns-in-number : goal.returns-in-number
returns-in-number c =
    let rows = λ (id : Text). first_value-rows (found_of c.args.found.now) id in
    let word : option_map (λ s. s.now) c.get_str.result ≡ first_value (found_of c.args.found.now)
    (codes "word") = c.get_str.ensures in
    let micro : option_map (λ s. s.now) c.get_str-in-number.result ≡ first_value (found_of c.args.found.now)
    (codes "micro") = c.get_str-in-number.ensures in
    (search rules, c.text_of.ensures, word ∙ rows (codes "word"), micro ∙ rows (codes "micro"))

pub returns-in-check : goal.returns-in-check
returns-in-check c = (
  search rules,
  c.read_lacks.ensures
      ∙ ap (λ o. lacks_asked (unwrap_or o [])) (c.get_strs.ensures ∙ raw_values-rows (found_of c.args.found.now) (codes "lacks")),
)
