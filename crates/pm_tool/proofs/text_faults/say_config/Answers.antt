use Rattle.std.proofs.Common.{◌≡◌, ◌∙◌, ◌++◌, [], List, ℕ, None, Option, Some, ap, codes, subst, sym}
use Rattle.std.specs.Option.{option_map_or}
use Rattle.pm_device.specs.FaultWords.{config_fault_words, config_fault_output, config_fault_detail}
use Rattle.pm_device.specs.declared.config_fault.ConfigFault.{ConfigFault}
use Rattle.pm_frame.specs.FaultWords.{place_text}
use Rattle.pm_tool.specs.Refusals.{Says, program_line}
use Rattle.pm_tool.proofs.Texts.{lettered, line-none, line-some, put_said}
use Rattle.pm_lines.specs.Faults.{fault_words}
use Rattle.pm_lines.specs.declared.fault.TextFault.TheVariants.{Setup}
use Rattle.pm_setup.specs.declared.setup_fault.SetupFault.TheVariants.{Device}
use Rattle.pm_tool.proofs.text_faults.say_config.Goals as goal

-- the detail of a fault after a space, if it has one
abbrev detail_of : ConfigFault → List ℕ
detail_of fault = option_map_or (λ t. codes " " ++ t) (config_fault_detail fault) []

-- the line of a fault with this output, if there is one
abbrev line_with : List ℕ → ConfigFault → Option ℕ → List ℕ
line_with program fault output = program_line program (fault_words (Setup (Device fault)) ++ (codes " "
    ++ (config_fault_words fault ++ (place_text output ++ detail_of fault))))

pub returns-in-None : goal.returns-in-None
returns-in-None g c =
    let f = c.args.fault in
    let named : config_fault_output f ≡ None = sym c.output.ensures ∙ c.in-None.is in
    let detail : c.as_bytes-in-None-3.result.now ++ c.as_bytes-in-None-4.result.now ≡ detail_of f =
    (λ i. c.as_bytes-in-None-3.ensures.value i ++ c.as_bytes-in-None-4.ensures.value i) ∙ c.spaced.ensures
    ∙ ap (λ o. option_map_or (λ t. codes " " ++ t) o []) c.detail.ensures in
    subst (λ line. Says g.E.Write.contents c.args.errors.now c.put_all.new.self line)
    (lettered c.args.program.now _ c.as_bytes.ensures.value (Device f) _ _ (c.as_bytes-in-None.ensures.value ∙ c.words-setup.ensures)
    ∙ line-none c.args.program.now (config_fault_words f) _ (detail_of f) _ _ (c.as_bytes-in-None-2.ensures.value ∙ c.words-words.ensures)
    detail
    ∙ ap (line_with c.args.program.now f) (sym named))
    (put_said g.E.Write.contents c.put_all.result c.args.errors.now c.put_all.new.self _
    c.put_all.ensures.all c.put_all.ensures.front c.put_all.ensures.failed)

pub returns-in-Some : goal.returns-in-Some
returns-in-Some g c =
    let f = c.args.fault in
    let named : config_fault_output f ≡ Some c.in-Some.output = sym c.output.ensures ∙ c.in-Some.is in
    let detail : c.as_bytes-in-Some-5.result.now ++ c.as_bytes-in-Some-6.result.now ≡ detail_of f =
    (λ i. c.as_bytes-in-Some-5.ensures.value i ++ c.as_bytes-in-Some-6.ensures.value i) ∙ c.spaced.ensures
    ∙ ap (λ o. option_map_or (λ t. codes " " ++ t) o []) c.detail.ensures in
    subst (λ line. Says g.E.Write.contents c.args.errors.now c.put_all-in-Some.new.self line)
    (lettered c.args.program.now _ c.as_bytes-in-Some.ensures.value (Device f) _ _
    (c.as_bytes-in-Some-2.ensures.value ∙ c.words-setup.ensures)
    ∙ line-some c.args.program.now (config_fault_words f) _ (detail_of f) _ _ (c.as_bytes-in-Some-3.ensures.value ∙ c.words-words.ensures)
    detail
    c.in-Some.output _ (c.as_bytes-in-Some-4.ensures.value ∙ c.format.ensures.text) ∙ ap (line_with c.args.program.now f) (sym named))
    (put_said g.E.Write.contents c.put_all-in-Some.result c.args.errors.now c.put_all-in-Some.new.self _
    c.put_all-in-Some.ensures.all c.put_all-in-Some.ensures.front c.put_all-in-Some.ensures.failed)
