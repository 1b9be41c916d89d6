use Rattle.pm_device.proofs.Past.{kept-next, requested, faulty, heard-write, cell-written, carried, plain-protect, selected, cleared}
use Rattle.pm_device.proofs.Past.{stored, restored}
use Rattle.pm_device.proofs.laws.writes_reach_one_cell.Goals as goal

pub returns : goal.returns
returns c =
    let exact = c.writes_are_exact.ensures in
    record {
      kept = kept-next;
      request = requested;
      faulty = faulty;
      write = heard-write exact;
      cell = cell-written exact;
      carried = λ held output code payload cell bytes h names. carried exact held output code payload cell bytes (h, names);
      plain = plain-protect exact;
      selects = selected exact;
      clears = cleared exact;
      stores = stored exact;
      restores = restored exact;
    }
