use Rattle.std.proofs.Common.{rules, sym, ◌∙◌}
use Rattle.pm_model.proofs.MapLaws.{accepted_settings}
use Rattle.pm_model.proofs.plain.Plain.of.Goals as goal

pub invariant_of-result : goal.invariant_of-result
invariant_of-result c =
    let accepted = sym c.are_accepted.ensures ∙ c.if-not-are_accepted.false in
    accepted_settings c.cells_have_places.ensures c.args.count c.args.words
    c.if-count-lt1.false c.if-count-gt8.false (search rules) accepted
