-- What a host calls possible beside a part as it is, is exact: this project's own choice. Lists are newest first.
use Rattle.std.specs.Prelude.{◌≡◌, ℕ, false, List}
use Rattle.pm_device.specs.declared.config.Config.{Config}
use Rattle.pm_device.specs.Held.{Held}
use Rattle.pm_host.specs.Marks.{marks}
use Rattle.pm_world.specs.declared.event.Event.{Event}
use Rattle.pm_world.specs.Setup.{setup_of}
use Rattle.pm_world.specs.Uncertainty.{AreOpen, ArePossible, Choice, Leaves, due_before, since_restart, witness_events, witness_start}
use Rattle.pm_part_laws.specs.Answers.{restarted_since_host_beside}
use Rattle.pm_part_laws.specs.Happenings.{Happening, IsLifeBeside, beside, entries_beside}

-- Let the part not have restarted since the host did, and since then let WRITE_PROTECT have been ordered and read as 00h alone, and no
-- restore been ordered. Where the chosen words are all possible, a life of a world with the same address, outputs and formats tells its host
-- just what this one was told since it started, and leaves all of them (`witness`). Words that any such life leaves, without a restart, are
-- all possible (`only`).
pub record PossibleIsExact : Type 0 where
  pub witness : (held : Held) (passes : ℕ) (happened : List Happening) (chosen : Choice) → IsLifeBeside held passes happened →
      restarted_since_host_beside happened ≡ false →
      let entries = since_restart (entries_beside held passes happened) in
      let found = marks (setup_of held.config passes) entries in AreOpen found →
      ArePossible held.config (beside held passes happened).host chosen →
      Leaves held.config passes entries chosen (witness_start held.config (due_before chosen found))
      (witness_events (setup_of held.config passes) chosen entries)
  pub only : (held : Held) (passes : ℕ) (happened : List Happening) (retold : List Event) (chosen : Choice) (other : Config) →
      IsLifeBeside held passes happened →
      Leaves held.config passes (since_restart (entries_beside held passes happened)) chosen other retold →
      ArePossible held.config (beside held passes happened).host chosen
