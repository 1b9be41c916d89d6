use Rattle.std.proofs.Common.{ap}
use Rattle.pm_part_laws.proofs.laws.reads_keep_settings.Goals as goal

pub returns : goal.returns
returns c = let reach = c.writes_reach_one_cell.ensures in record {
  asks = λ held bytes. record { words = ap (λ k. k.words) (reach.request held bytes); store = ap (λ k. k.store) (reach.request held bytes) };
  no_write = λ held bytes faulty. record {
    words = ap (λ k. k.words) (reach.faulty held bytes faulty);
    store = ap
        (λ k. k.store) (reach.faulty held bytes faulty);
  };
  selects = λ held page bytes is. record {
    words = ap (λ k. k.words) (reach.selects held page bytes is);
    store = ap
        (λ k. k.store) (reach.selects held page bytes is);
  };
}
