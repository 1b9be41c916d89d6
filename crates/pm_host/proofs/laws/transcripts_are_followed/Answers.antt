use Rattle.std.proofs.Common.{sym, ap}
use Rattle.pm_host.specs.Now.{host_now}
use Rattle.pm_host.specs.Summary.{host_next, step_of}
use Rattle.pm_host.proofs.Jobs.{now-nil, change-now, IsJob-told, now-format, next-keeps, known_now-possible, known_now-standing}
use Rattle.pm_host.proofs.Jobs.{known_now-seen, now-busy, now-sending, now-sound}
use Rattle.pm_host.specs.Marks.{marks}
use Rattle.pm_host.proofs.laws.transcripts_are_followed.Goals as goal

pub returns : goal.returns
unfolding host_now host_next step_of
returns c =
    let law = c.cells_have_places.ensures in
    record {
      none = now-nil;
      more = λ setup entries entry made told. sym
          (ap (λ t. t.after) (change-now law setup entries entry made (IsJob-told setup entries told.1) told.0));
      step = λ setup entries entry made told. ap (λ t. t.step)
          (change-now law setup entries entry made (IsJob-told setup entries told.1) told.0);
      kept = next-keeps;
      busy = now-busy;
      sending = now-sending;
      format = now-format;
      standing = λ setup entries cell there. known_now-standing law (marks setup entries) cell there;
      possible = λ setup entries cell there. known_now-possible law (marks setup entries) cell there;
      seen = λ setup entries. known_now-seen (marks setup entries);
      sound = now-sound law;
    }
