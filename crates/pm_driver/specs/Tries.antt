-- A bus over a bus, which tries a write again that wasn't acknowledged: this project's own choice.
use Rattle.std.specs.Prelude.{◌≡◌, ◌⊎◌, false, true}
use Rattle.pm_driver.specs.Acts.{Call, Wrote, Read}

-- One call of such a bus, by the calls of the bus below: a write is one that was acknowledged or, where that wasn't,
-- two, of which the second counts. A read is one read.
abbrev pub tries_give : {B : Type 0} → (B → Call → B → Type 0) → B → Call → B → Type 0
tries_give {B = B} gives old (Wrote frame acked) new = ((acked ≡ true) × gives old (Wrote frame true) new)
    ⊎ ((bus : B) × gives old (Wrote frame false) bus × gives bus (Wrote frame acked) new)
tries_give gives old (Read request room came) new = gives old (Read request room came) new
