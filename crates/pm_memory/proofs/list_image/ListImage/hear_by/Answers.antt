use Rattle.std.proofs.Common.{refl}
use Rattle.std.proofs.lemmas.Bool.{ne_eqb}
use Rattle.pm_memory.proofs.Kept.{open-under}
use Rattle.pm_memory.proofs.list_image.ListImage.hear_by.Goals as goal

pub returns-clause-hears : goal.returns-clause-hears
returns-clause-hears g c =
    let hears = c.hear_by-restarted-2.ensures.hears in
    let other = ne_eqb c.args.self.now.under.is_reading 1 c.if-self-eq1.false in
    record {
      named = _;
      is = hears.is;
      opened = open-under c.args.self.now other c.requires.course;
      hears = hears.hears;
      written = rw (other, c.put_restarted-2.ensures, hears.written, hears.shows) refl;
    }
