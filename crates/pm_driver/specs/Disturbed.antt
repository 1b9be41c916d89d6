-- What happens to a converter before and while a frame is being sent, in parts that are put together.
use Rattle.std.specs.Prelude.{ℕ, ◌+◌, ◌≤◌, Bool, cond, List, []}
use Rattle.pm_device.specs.Held.{Held}
use Rattle.pm_driver.specs.Adapter.{IsUnheard}
use Rattle.pm_driver.specs.Bus.{IsAsked, IsSent}

-- a restart of which nothing is heard, or none
abbrev pub IsDisturbed : Held → Bool → Held → Type 0
IsDisturbed old restarts new = (n : ℕ) → IsUnheard old n new (cond restarts 1 0 + n)

-- a part of a write, and of a read, in which nothing restarts
abbrev pub IsSentPart : List ℕ → Held → Held → Type 0
IsSentPart frame old new = (n : ℕ) → IsSent frame old n new n

abbrev pub IsAskedPart : List ℕ → ℕ → Held → List ℕ → Held → Type 0
IsAskedPart request needed old came new = (n : ℕ) → IsAsked request needed old n came new n

-- A write of which the converter was sent a part is one with what comes after it. Where it heard nothing, that may come
-- before more of the same, before a write and before a request, and is itself a write that is lost, and a request of
-- which nothing comes back. The counts of restarts add up.
pub record PartsCompose : Type 0 where
  pub sent : (frame : List ℕ) (first : Held) (a : ℕ) (second : Held) (b : ℕ) (third : Held) (c : ℕ) →
      IsSent frame first a second b → IsSent frame second b third c → IsSent frame first a third c
  pub unheard : (first : Held) (a : ℕ) (second : Held) (b : ℕ) (third : Held) (c : ℕ) →
      IsUnheard first a second b → IsUnheard second b third c → IsUnheard first a third c
  pub before_write : (frame : List ℕ) (first : Held) (a : ℕ) (second : Held) (b : ℕ) (third : Held) (c : ℕ) →
      IsUnheard first a second b → IsSent frame second b third c → IsSent frame first a third c
  pub before_read : (request : List ℕ) (needed : ℕ) (came : List ℕ) (first : Held) (a : ℕ) (second : Held) (b : ℕ)
      (third : Held) (c : ℕ) → IsUnheard first a second b → IsAsked request needed second b came third c →
      IsAsked request needed first a came third c
  pub lost_write : (frame : List ℕ) (first : Held) (a : ℕ) (second : Held) (b : ℕ) →
      IsUnheard first a second b → IsSent frame first a second b
  pub lost_read : (request : List ℕ) (needed : ℕ) (first : Held) (a : ℕ) (second : Held) (b : ℕ) → 1 ≤ needed →
      IsUnheard first a second b → IsAsked request needed first a [] second b

-- A request that is never sent: no byte of it is heard, none comes back, and the converter is as it was.
abbrev pub RequestsMayBeLost : Type 0
RequestsMayBeLost = (request : List ℕ) (needed : ℕ) (held : Held) (n : ℕ) → 1 ≤ needed →
    IsAsked request needed held n [] held n
