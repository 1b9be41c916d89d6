-- The laws of limits and bands over lives, each by a name that a crate above takes it by. Events are newest first.
use Rattle.std.specs.Prelude.{◌≡◌, ◌<◌, ℕ, false, List, Some}
use Rattle.pm_device.specs.declared.config.Config.{Config}
use Rattle.pm_host.specs.Marks.{marks}
use Rattle.pm_limits.specs.declared.band.Band.{Band}
use Rattle.pm_limits.specs.declared.part_registers.PartRegisters.{PartRegisters}
use Rattle.pm_limits.specs.declared.ends.Side.{Side}
use Rattle.pm_limits.specs.Band.{InBand, band_at, side_end}
use Rattle.pm_world.specs.declared.event.Event.{Event}
use Rattle.pm_world.specs.Bands.{AreShort, BandStands, HoldsMissing, MissingUntold, end_choices}
use Rattle.pm_world.specs.Honest.{IsSpelled}
use Rattle.pm_world.specs.Lived.{IsLived}
use Rattle.pm_world.specs.Life.{life, now}
use Rattle.pm_world.specs.Limited.{StaysLimited, commands}
use Rattle.pm_world.specs.Possible.{restarted_since_host}
use Rattle.pm_world.specs.Setup.{setup_of}
use Rattle.pm_world.specs.Uncertainty.{AreOpen, Leaves, due_before, since_restart, witness_events, witness_start}

-- what limits are worth
abbrev pub LivesStayLimited : Type 0
LivesStayLimited = (config : Config) (passes : ℕ) (events : List Event) →
    IsSpelled config → IsLived config passes events →
    StaysLimited config passes events

-- What the converter commands lies in the band that the host gives, unless the converter restarted since the good answers that the band
-- rests on. The band of a part with fewer registers rests on this too: the converter's cell of a missing one holds a word that never cuts.
abbrev pub BandsAreHeld : Type 0
BandsAreHeld = (config : Config) (passes : ℕ) (part : PartRegisters) (events : List Event) (output : ℕ) (band : Band) →
    IsSpelled config → IsLived config passes events →
    output < config.count → AreShort (now config passes events).device.words output →
    BandStands config passes events (now config passes events).host output →
    HoldsMissing part config (now config passes events).device.words output →
    band_at part (now config passes events).host output ≡ Some band →
    InBand band (commands config passes events output)

-- No narrower band is true. Under the premises by which the possible words are exact, for any choice of a side for
-- each output, one life that tells the host just what it was told leaves each output with a band at its end on that
-- side, as that very fraction, all at once.
abbrev pub BandsAreExact : Type 0
BandsAreExact = (config : Config) (passes : ℕ) (part : PartRegisters) (events : List Event) (sides : ℕ → Side) →
    IsSpelled config → IsLived config passes events →
    restarted_since_host events ≡ false →
    let host = (now config passes events).host in
    MissingUntold part config host →
    let entries = since_restart (life config passes events).entries in
    let told = marks (setup_of config passes) entries in AreOpen told →
    let chosen = end_choices part config host sides in
    let first = witness_start config (due_before chosen told) in
    let retold = witness_events (setup_of config passes) chosen entries in
    Leaves config passes entries chosen first retold
    × ((output : ℕ) (band : Band) → output < config.count → band_at part host output ≡ Some band →
    commands first passes retold output ≡ side_end (sides output) band)
