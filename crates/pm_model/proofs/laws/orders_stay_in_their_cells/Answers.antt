use Rattle.pm_model.proofs.MapLaws.{machine-start, machine-pending, machine-own, machine-protection, machine-stored}
use Rattle.pm_model.proofs.laws.orders_stay_in_their_cells.Goals as goal

pub returns : goal.returns
returns c = record {
  own = λ start steps cell few full run here.
      machine-own c.cells_are_told_apart.ensures c.settings_are_a_map.ensures start few full steps cell run here;
  stored = λ start steps cell few full run here.
      machine-stored c.cells_are_told_apart.ensures c.settings_are_a_map.ensures start few full steps cell run here;
  protection = λ start steps few full run.
      machine-protection c.cells_are_told_apart.ensures c.settings_are_a_map.ensures start few full steps run;
  pending = machine-pending;
  start = machine-start;
}
