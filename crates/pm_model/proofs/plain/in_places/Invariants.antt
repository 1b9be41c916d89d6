use Rattle.std.proofs.Common.{◌≡◌, ℕ, ◌<◌, ◌/◌, ◌%◌, [], get_or}
use Rattle.pm_table.specs.Cell.{register_count, protect_place}
use Rattle.pm_model.specs.Settings.{AreWords}
use Rattle.pm_model.proofs.plain.in_places.Given as goal

abbrev pub invariant-loop-place : goal.invariant-loop-place
invariant-loop-place l = record {
  whole : AreWords l.all;
  registers : (k : ℕ) → k < l.place →
      get_or l.all k 0 ≡ get_or (get_or l.fn.words (k / register_count) []) (k % register_count) 0;
  protection : get_or l.all protect_place 0 ≡ l.fn.protect;
}
