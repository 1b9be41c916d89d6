-- What the host holds goes by what it was told since its last restart: no promise, but what proofs above cite.
use Rattle.std.proofs.Common.{◌≡◌, true, List, [], ◌∷◌, refl, sym, ◌∙◌, ap, subst}
use Rattle.pm_host.specs.Laws.{TranscriptsAreFollowed}
use Rattle.pm_host.specs.Now.{host_now, AreTold}
use Rattle.pm_host.specs.Refusals.{IsSetup, may_come}
use Rattle.pm_host.specs.Summary.{Summary, host_next}
use Rattle.pm_host.specs.Transcript.{Setup, Entry, Accepted, Finished, Got, Restarted}
use Rattle.pm_world.specs.Uncertainty.{since_restart}

-- the host holds the same after both, and the later ones are a transcript that might come
pub record SinceSame (setup : Setup) (entries since : List Entry) : Type 0 where
  pub same : host_now setup entries ≡ host_now setup since
  pub told : AreTold setup since

-- one more entry, told after both
one-more : TranscriptsAreFollowed → (setup : Setup) (entry : Entry) (entries since : List Entry) → IsSetup setup → AreTold setup (entry ∷ entries) →
    SinceSame setup entries since → SinceSame setup (entry ∷ entries) (entry ∷ since)
one-more law setup entry entries since made told so_far =
    let may : may_come (host_now setup since) entry ≡ true = subst (λ (s : Summary). may_come s entry ≡ true) so_far.same told.0 in
    record {
      same = law.more setup entries entry made told
          ∙ (ap (λ (s : Summary). host_next s entry) so_far.same
          ∙ sym (law.more setup since entry made (may, so_far.told)));
      told = (may, so_far.told);
    }

-- a restart leaves what a host starts with
restarted-same : TranscriptsAreFollowed → (setup : Setup) (entries : List Entry) → IsSetup setup → AreTold setup (Restarted ∷ entries) →
    host_now setup (Restarted ∷ entries) ≡ host_now setup []
unfolding host_next host_now
restarted-same law setup entries made told =
    law.more setup entries Restarted made told ∙ sym (law.none setup made)

-- only the entries since the last restart count
pub since-same : TranscriptsAreFollowed → (setup : Setup) (entries : List Entry) → IsSetup setup → AreTold setup entries →
    SinceSame setup entries (since_restart entries)
since-same law setup [] made told = record { same = refl; told = tt }
since-same law setup (Accepted job ∷ before) made told =
    one-more law setup (Accepted job) before (since_restart before) made told (since-same law setup before made told.1)
since-same law setup (Finished acked ∷ before) made told =
    one-more law setup (Finished acked) before (since_restart before) made told (since-same law setup before made told.1)
since-same law setup (Got bytes ∷ before) made told =
    one-more law setup (Got bytes) before (since_restart before) made told (since-same law setup before made told.1)
since-same law setup (Restarted ∷ before) made told = record { same = restarted-same law setup before made told; told = tt }
