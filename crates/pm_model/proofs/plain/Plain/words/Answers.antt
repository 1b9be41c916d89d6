use Rattle.std.proofs.Common.{◌≡◌, Some, subst}
use Rattle.pm_model.specs.Settings.{Settings, settings_in}
use Rattle.pm_model.proofs.MapLaws.{settings_again}
use Rattle.pm_model.proofs.plain.Plain.words.Goals as goal

pub returns-clause-back : goal.returns-clause-back
returns-clause-back c =
    subst (λ (s : Settings). settings_in s.count c.self.inside.words ≡ Some s) c.self.view_is
    (settings_again c.cells_have_places.ensures _ c.self.invariant)
