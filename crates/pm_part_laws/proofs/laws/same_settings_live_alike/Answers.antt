use Rattle.pm_part_laws.proofs.Alike.{live-alike}
use Rattle.pm_part_laws.proofs.laws.same_settings_live_alike.Goals as goal

pub returns : goal.returns
returns c = live-alike (record {
  followed = c.lives_are_followed.ensures;
  requests = c.requests_are_exact.ensures;
  writes = c.writes_are_exact.ensures;
  damage = c.damage_is_refused.ensures;
  betrayal = c.betrayal_is_refused.ensures;
  reach = c.writes_reach_one_cell.ensures;
  parts = c.parts_are_reached.ensures;
  stored = c.stored_configs_start_so.ensures;
  named = c.frames_are_named.ensures;
  told = c.transcripts_are_followed.ensures;
})
