-- What is left of a part beside which a host began: this project's own choice. Lists are newest first.
use Rattle.std.specs.Prelude.{ℕ, List, []}
use Rattle.pm_device.specs.Held.{Held}
use Rattle.pm_host.specs.Refusals.{IsSetup}
use Rattle.pm_world.specs.Setup.{setup_of}
use Rattle.pm_part_laws.specs.Happenings.{Happening, IsLifeBeside, beside}

-- Whatever happened beside a part, it is one beside which another host may begin, with however many passes.
abbrev pub PartsStayParts : Type 0
PartsStayParts = (held : Held) (passes other : ℕ) (happened : List Happening) → IsLifeBeside held passes happened →
    IsSetup (setup_of held.config other) → IsLifeBeside (beside held passes happened).device other []
