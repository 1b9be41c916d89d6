-- What comes back to the host are bytes, where the numbers of the configuration and of the events are those of a program:
-- bytes below 2^8 and words below 2^16. This project's own choice. Lists are newest first.
use Rattle.std.specs.Prelude.{◌<◌, ◌^◌, ℕ, List, [], ◌∷◌}
use Rattle.pm_frame.specs.Layout.{AreBytes}
use Rattle.pm_device.specs.declared.config.Config.{Config}
use Rattle.pm_device.specs.Start.{start_word}
use Rattle.pm_world.specs.declared.event.Arrival.{Arrival}
use Rattle.pm_world.specs.declared.event.Arrival.TheVariants as arrival
use Rattle.pm_world.specs.declared.event.Back.{Back}
use Rattle.pm_world.specs.declared.event.Back.TheVariants as back
use Rattle.pm_world.specs.declared.event.Event.{Event}
use Rattle.pm_world.specs.declared.event.Event.TheVariants.{Order, Deliver, Exchange, Reading}
use Rattle.pm_world.specs.Honest.{IsSpelled}
use Rattle.pm_world.specs.Lived.{IsLived}
use Rattle.pm_world.specs.Life.{life}
use Rattle.pm_world.specs.Uncertainty.{AreOfBytes, AreWordsChosen, since_restart}

-- each start word of an output has two bytes
abbrev pub StartsShort : Config → Type 0
StartsShort config = AreWordsChosen config (start_word config)

-- the bytes that arrive in place of a frame are bytes
abbrev pub ArrivesInBytes : Arrival → Type 0
ArrivesInBytes arrival.Whole = Unit {0}
ArrivesInBytes (arrival.Cut count) = Unit {0}
ArrivesInBytes (arrival.Bytes bytes ending) = AreBytes bytes.items

-- the bytes that come back in place of an answer are bytes
abbrev pub ReturnsInBytes : Back → Type 0
ReturnsInBytes back.Whole = Unit {0}
ReturnsInBytes (back.Cut count) = Unit {0}
ReturnsInBytes (back.Bytes bytes) = AreBytes bytes.items

-- The bytes that an event carries are bytes, and its word, of an order or of a reading, has two. Any other event carries
-- none: the word of an order in microvolts is found in the host's format.
abbrev pub CarriesBytes : Event → Type 0
CarriesBytes (Order cell word) = word < 2 ^ 16
CarriesBytes (Deliver arrival) = ArrivesInBytes arrival
CarriesBytes (Exchange arrival back) = ArrivesInBytes arrival × ReturnsInBytes back
CarriesBytes (Reading output code word) = word < 2 ^ 16
CarriesBytes _ = Unit {0}

-- each of the events does
abbrev pub CarryBytes : List Event → Type 0
CarryBytes [] = Unit {0}
CarryBytes (event ∷ before) = CarriesBytes event × CarryBytes before

-- What came back since the host's last restart were bytes.
abbrev pub AnswersComeInBytes : Type 0
AnswersComeInBytes = (config : Config) (passes : ℕ) (events : List Event) →
    IsSpelled config → StartsShort config → IsLived config passes events → CarryBytes events →
    AreOfBytes (since_restart (life config passes events).entries)
