-- A bus over an adapter, which sends again what was unheard: this project's own choice.
use Rattle.std.specs.Prelude.{◌≡◌, ◌⊎◌, ℕ, Bool, zero, suc, true, false, List, [], length, replicate}
use Rattle.pm_driver.specs.declared.adapter.WriteEnd.TheVariants as write
use Rattle.pm_driver.specs.declared.adapter.ReadEnd.TheVariants as read
use Rattle.pm_driver.specs.Acts.{Call, Wrote, Read}
use Rattle.pm_driver.specs.Adapter.{Asks, Sends, Try}

-- A write with so many tries left: where the next one is unheard it counts for nothing, and the others are left; any
-- other is the last. With none left the write isn't acknowledged.
abbrev pub sends_patiently : {A : Type 0} → (A → Try → A → Type 0) → ℕ → List ℕ → A → Bool → A → Type 0
sends_patiently gives zero frame old acked new = (acked ≡ false) × (old ≡ new)
sends_patiently {A = A} gives (suc left) frame old acked new =
    ((middle : A) × gives old (Sends frame write.Unheard) middle × sends_patiently gives left frame middle acked new)
    ⊎ (gives old (Sends frame write.Failed) new × (acked ≡ false))
    ⊎ (gives old (Sends frame write.Acknowledged) new × (acked ≡ true))

-- A read with so many tries left: an unheard one counts for nothing, and the others are left; any other is the last. Each
-- has the same room for its answer. With none left nothing came.
abbrev pub asks_patiently : {A : Type 0} → (A → Try → A → Type 0) → ℕ → List ℕ → List ℕ → A → List ℕ → A → Type 0
asks_patiently gives zero request room old came new = (came ≡ []) × (old ≡ new)
asks_patiently {A = A} gives (suc left) request room old came new =
    ((middle : A) × gives old (Asks request room read.Unheard []) middle × asks_patiently gives left request room middle came new)
    ⊎ (gives old (Asks request room read.Failed []) new × (came ≡ []))
    ⊎ ((count : ℕ) × gives old (Asks request room (read.Came count) came) new)

-- one call of such a bus, with so many tries
abbrev pub gives_patiently : {A : Type 0} → (A → Try → A → Type 0) → ℕ → A → Call → A → Type 0
gives_patiently gives tries old (Wrote frame acked) new = sends_patiently gives tries frame old acked new
gives_patiently gives tries old (Read request room came) new =
    asks_patiently gives tries request (replicate (length room) 0) old came new
