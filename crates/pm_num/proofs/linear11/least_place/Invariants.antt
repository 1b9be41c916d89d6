use Rattle.std.proofs.Common.{◌≡◌, ℕ, ◌-◌, ◌*◌, ◌^◌, ◌<◌, ◌≤◌}
use Rattle.pm_num.proofs.linear11.least_place.Given as goal

abbrev pub invariant-loop-limit : goal.invariant-loop-limit
invariant-loop-limit l =
    (l.limit ≡ l.unit * 2 ^ l.place) × ((j : ℕ) → j < l.place → l.unit * 2 ^ j < l.size) × (l.place ≤ 31)

abbrev pub decreases-loop-limit : goal.decreases-loop-limit
decreases-loop-limit l = 31 - l.place
