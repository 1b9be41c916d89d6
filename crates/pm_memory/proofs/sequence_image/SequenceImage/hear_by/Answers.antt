use Rattle.std.proofs.Common.{refl}
use Rattle.pm_host.specs.Told.{entry_told}
use Rattle.pm_stairs.specs.Sequence.{heard_with}
use Rattle.pm_sequence.specs.Frames.{course, list_heard, shows_restart_at}
use Rattle.pm_memory.specs.SequenceImage.{sequence_meant}
use Rattle.pm_memory.proofs.Kept.{list-put}
use Rattle.pm_memory.proofs.sequence_image.SequenceImage.hear_by.Goals as goal

pub returns-clause-hears : goal.returns-clause-hears
returns-clause-hears g c =
    let hears = c.hear_by-heard.ensures.hears in
    let old = g.H.Hosted.guarded c.args.host.now in
    let q = sequence_meant c.args.self.now in
    let entry = entry_told c.args.told in
    let shows = shows_restart_at hears.named old.host c.args.stage entry in
    record {
      is = list_heard q entry (heard_with q.list hears.is shows);
      hears = course hears.named hears.is hears.opened hears.hears;
      written = rw (
        hears.written,
        list-put c.args.self.now.list hears.is shows c.requires.course,
        c.fresh_number-self.ensures,
        c.heard_fresh-fresh.ensures,
        c.fresh_of.ensures,
      ) refl;
    }
