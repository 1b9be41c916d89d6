-- Simulated buses: the restarts of a plan, and tries that are enough.
use Rattle.std.specs.Prelude.{get_or, slice_get}
use Rattle.std.proofs.lemmas.Bool.{eq-eqb}
use Rattle.std.proofs.Common.{◌≡◌, ℕ, Bool, true, List, [], ◌∷◌, ◌++◌, refl, sym, ◌∙◌, ap, subst, ◌+◌, ◌<◌, ◌≤◌, arith, zero, suc, length}
use Rattle.std.proofs.Common.{replicate, cond, Some, take, eqb, inl, inr}
use Rattle.pm_device.specs.{Held.Held, History.device_next, declared.converter.Ending.TheVariants.Restart}
use Rattle.pm_device.specs.Effect as device
use Rattle.pm_world.specs.declared.event.Event.{Event}
use Rattle.pm_world.specs.Legal.{back_bytes, ending_of, heard_bytes, is_heard_whole, is_legal_return}
use Rattle.pm_world.specs.declared.event.Event.TheVariants.{Reading, RestartDevice}
use Rattle.pm_driver.specs.{Adapter.IsUnheard, Lemmas.Restarts.restarts-on, declared.buses.fault.Fault.Fault}
use Rattle.pm_driver.specs.{declared.buses.simulated_bus.SimulatedBus.SimulatedBus}
use Rattle.pm_driver.specs.Acts.{Read, Wrote}
use Rattle.pm_driver.specs.Bus.{AreAll, IsAsked, IsSent, held_after, held_after_one, is_beside_bus, may_hear}
use Rattle.pm_driver.specs.Disturbed.{IsSentPart, PartsCompose, RequestsMayBeLost, IsDisturbed}
use Rattle.pm_driver.specs.NeverRestarts.{NeverRestartsStays, PatientNeverRestartsStays, ReadsKeepNeverRestarts, patient_device}
use Rattle.pm_driver.specs.NeverRestarts.{patient_gives, patient_restarts}
use Rattle.pm_driver.specs.Patience.{asks_patiently, sends_patiently}
use Rattle.pm_driver.specs.Plan.{restarts_of, TurnsTo, device_in, gives_so, restarts_so, tries_so}
use Rattle.pm_driver.specs.WithoutRestart.{AreWithoutRestart, JobsRestartNothing, ReadsRestartNothing}
use Rattle.pm_part_laws.specs.Lemmas.Pageless.{answer_of}

-- What happens to a converter, in parts.

-- events and more of them
pub held-append : (frame : List ℕ) (held : Held) (second first : List Event) →
    held_after frame held (second ++ first) ≡ held_after frame (held_after frame held first) second
held-append frame held [] first = refl
held-append frame held (event ∷ second) first = ap (λ h. held_after_one frame h event) (held-append frame held second first)

pub all-append : (may : Event → Bool) (second first : List Event) → AreAll may second → AreAll may first →
    AreAll may (second ++ first)
all-append may [] first all earlier = earlier
all-append may (event ∷ second) first all earlier = (all.0, all-append may second first all.1 earlier)

-- what happens beside the bus may happen while a write is being sent
pub beside-may : (frame : List ℕ) (events : List Event) → AreAll is_beside_bus events → AreAll (may_hear frame) events
beside-may frame [] all = tt
beside-may frame (RestartDevice ∷ events) all = (refl, beside-may frame events all.1)
beside-may frame (Reading output code word ∷ events) all = (refl, beside-may frame events all.1)
beside-may frame (event ∷ events) all = let here = all.0 in cc

-- a write that the converter heard nothing of is one that was sent and is lost
lost-write : (frame : List ℕ) (first : Held) (a : ℕ) (second : Held) (b : ℕ) → IsUnheard first a second b →
    IsSent frame first a second b
lost-write frame first a second b is = record {
  events = is.events;
  may = beside-may frame is.events is.beside;
  after = is.after frame;
  count = is.count;
}

-- two parts of a write
sent-parts : (frame : List ℕ) (first : Held) (a : ℕ) (second : Held) (b : ℕ) (third : Held) (c : ℕ) →
    IsSent frame first a second b → IsSent frame second b third c → IsSent frame first a third c
sent-parts frame first a second b third c one two = record {
  events = two.events ++ one.events;
  may = all-append (may_hear frame) two.events one.events two.may one.may;
  after = held-append frame first two.events one.events
      ∙ (ap (λ h. held_after frame h two.events) one.after ∙ two.after);
  count = restarts-on two.events one.events a b c one.count two.count;
}

-- a request behind a time in which the converter heard nothing is a request
before-read : (request : List ℕ) (needed : ℕ) (came : List ℕ) (first : Held) (a : ℕ) (second : Held) (b : ℕ) (third : Held) (c : ℕ) →
    IsUnheard first a second b → IsAsked request needed second b came third c → IsAsked request needed first a came third c
before-read request needed came first a second b third c one is =
    let same : held_after request second is.before ≡ held_after request first (is.before ++ one.events) =
    sym (held-append request first is.before one.events ∙ ap (λ h. held_after request h is.before) (one.after request)) in
    record {
      before = is.before ++ one.events;
      arrival = is.arrival;
      back = is.back;
      beside_before = all-append is_beside_bus is.before one.events is.beside_before one.beside;
      legal = is.legal;
      returned = subst (λ h. is_legal_return request needed
          (is_heard_whole request (heard_bytes request is.arrival) (ending_of Restart is.arrival))
          (answer_of h request is.arrival) (back_bytes (answer_of h request is.arrival) is.back) ≡ true) same is.returned;
      came_is = subst (λ h. back_bytes (answer_of h request is.arrival) is.back ≡ came) same is.came_is;
      after = subst (λ h. device_next h (device.Hearing (heard_bytes request is.arrival) (ending_of Restart is.arrival)) ≡ third)
          same is.after;
      count = restarts-on is.before one.events a b c one.count is.count;
    }

-- parts compose
pub parts-compose : RequestsMayBeLost → PartsCompose
parts-compose lost = record {
  sent = sent-parts;
  unheard = λ first a second b third c one two. record {
    events = two.events ++ one.events;
    beside = all-append is_beside_bus two.events one.events two.beside one.beside;
    after = λ frame. held-append frame first two.events one.events
        ∙ (ap (λ h. held_after frame h two.events) (one.after frame) ∙ two.after frame);
    count = restarts-on two.events one.events a b c one.count two.count;
  };
  before_write = λ frame first a second b third c one two.
      sent-parts frame first a second b third c (lost-write frame first a second b one) two;
  before_read = before-read;
  lost_write = lost-write;
  lost_read = λ request needed first a second b some is.
      before-read request needed [] first a second b second b is (lost request needed second b some);
}

-- a time in which nothing was heard, and two parts of a write
pub sent-so : PartsCompose → (frame : List ℕ) (first : Held) (a : ℕ) (second : Held) (b : ℕ) (third fourth : Held) →
    IsUnheard first a second b → IsSentPart frame second third → IsSentPart frame third fourth → IsSent frame first a fourth b
sent-so parts frame first a second b third fourth before one two =
    parts.before_write frame first a second b fourth b before (parts.sent frame second b third b fourth b (one b) (two b))

-- The tries of a patient bus.

-- a room that was filled with zeros
pub room-so : (filled answer first : List ℕ) → filled ≡ replicate (length answer) 0 → length answer ≡ length first →
    filled ≡ replicate (length first) 0
room-so filled answer first is long = is ∙ ap (λ n. replicate n 0) long

-- before the first nothing was heard
none-heard : (held : Held) (n : ℕ) → IsUnheard held n held n
none-heard held n = record { events = []; beside = tt; after = λ frame. refl; count = omega arith }

-- one try more is left while not all are spent, and otherwise none
one-left : (left tried tries : ℕ) → left + tried ≡ tries → tried < tries → (fewer : ℕ) × (left ≡ suc fewer)
one-left zero tried tries count more = let no : ⊥ = omega arith in absurd no
one-left (suc fewer) tried tries count more = (fewer, refl)

none-left : (left tried tries : ℕ) → left + tried ≡ tries → tries ≤ tried → left ≡ zero
none-left left tried tries count over = omega arith

-- after this many unheard tries of a call: what the tries that are left lead to, all of them do
pub record Waits {A : Type 0} (held : A → Held) (restarts : A → ℕ) (goes_on : ℕ → A → Type 0) (tries : ℕ) (old : A) (tried : ℕ)
    (now : A) : Type 0 where
  pub unheard : IsUnheard (held old) (restarts old) (held now) (restarts now)
  pub left : ℕ
  pub count : left + tried ≡ tries
  pub goes : goes_on left now → goes_on tries old

pub waits-none : {A : Type 0} (held : A → Held) (restarts : A → ℕ) (goes_on : ℕ → A → Type 0) (tries : ℕ) (old : A) →
    Waits held restarts goes_on tries old 0 old
waits-none held restarts goes_on tries old = record {
  unheard = none-heard (held old) (restarts old);
  left = tries;
  count = omega arith;
  goes = λ rest. rest;
}

-- one more that was unheard
pub waits-more : PartsCompose → {A : Type 0} (held : A → Held) (restarts : A → ℕ) (goes_on : ℕ → A → Type 0) (tries : ℕ) (old : A)
    (tried : ℕ) (now new : A) → Waits held restarts goes_on tries old tried now → tried < tries →
    IsUnheard (held now) (restarts now) (held new) (restarts new) → ((fewer : ℕ) → goes_on fewer new → goes_on (suc fewer) now) →
    Waits held restarts goes_on tries old (tried + 1) new
waits-more parts held restarts goes_on tries old tried now new waits more unheard goes =
    let one = one-left waits.left tried tries waits.count more in
    let fewer = one.0 in
    let same = one.1 in
    let count = waits.count in
    record {
      unheard = parts.unheard (held old) (restarts old) (held now) (restarts now) (held new) (restarts new) waits.unheard unheard;
      left = fewer;
      count = omega arith;
      goes = λ rest. waits.goes (subst (λ n. goes_on n now) (sym same) (goes fewer rest));
    }

-- the last one
pub waits-last : {A : Type 0} (held : A → Held) (restarts : A → ℕ) (goes_on : ℕ → A → Type 0) (tries : ℕ) (old : A) (tried : ℕ)
    (now : A) → Waits held restarts goes_on tries old tried now → tried < tries → ((fewer : ℕ) → goes_on (suc fewer) now)
    → goes_on tries old
waits-last held restarts goes_on tries old tried now waits more last =
    let one = one-left waits.left tried tries waits.count more in
    waits.goes (subst (λ n. goes_on n now) (sym one.1) (last one.0))

-- no tries are left
pub waits-over : {A : Type 0} (held : A → Held) (restarts : A → ℕ) (goes_on : ℕ → A → Type 0) (tries : ℕ) (old : A) (tried : ℕ)
    (now : A) → Waits held restarts goes_on tries old tried now → tries ≤ tried → goes_on zero now → goes_on tries old
waits-over held restarts goes_on tries old tried now waits over end =
    waits.goes (subst (λ n. goes_on n now) (sym (none-left waits.left tried tries waits.count over)) end)

-- The restarts of a plan, counted.

-- what a list has at a place, as an option
pub got : (plan : List Fault) (n : ℕ) (fault : Fault) → n < length plan → ((d : Fault) → fault ≡ get_or plan n d) →
    slice_get plan n ≡ Some fault
got [] n fault short is = let no : ⊥ = omega arith in absurd no
got (f ∷ plan) zero fault short is = ap (λ (x : Fault). Some x) (sym (is f))
got (f ∷ plan) (suc n) fault short is = got plan n fault (omega arith) is

-- one fault more of a plan adds its own restart, if it has one, to the count
taken-suc : (plan : List Fault) (n : ℕ) (fault : Fault) → slice_get plan n ≡ Some fault →
    restarts_of (take (suc n) plan) ≡ cond fault.restarts 1 0 + restarts_of (take n plan)
taken-suc [] n fault is = cc
taken-suc (f ∷ plan) zero fault is =
    let same : f ≡ fault = cc in ap (λ (x : Fault). cond x.restarts 1 0 + 0) same
taken-suc (f ∷ plan) (suc n) fault is =
    let earlier = taken-suc plan n fault is in omega arith

pub taken-more : (plan : List Fault) (n : ℕ) (fault : Fault) → slice_get plan n ≡ Some fault →
    cond fault.restarts 1 0 + restarts_of (take n plan) ≡ restarts_of (take (n + 1) plan)
taken-more plan n fault is =
    let next : suc n ≡ n + 1 = omega arith in
    sym (taken-suc plan n fault is) ∙ ap (λ m. restarts_of (take m plan)) next

-- a fault's restart, counted
pub unheard-so : (plan : List Fault) (n : ℕ) (fault : Fault) (first second : Held) → slice_get plan n ≡ Some fault →
    IsDisturbed first fault.restarts second →
    IsUnheard first (restarts_of (take n plan)) second (restarts_of (take (n + 1) plan))
unheard-so plan n fault first second is before =
    subst (λ count. IsUnheard first (restarts_of (take n plan)) second count) (taken-more plan n fault is)
    (before (restarts_of (take n plan)))

-- Plans by which the converter never restarts.

-- a plan has no restart
none_in : List Fault → Bool
none_in plan = eqb (restarts_of plan) 0

none-so : (plan : List Fault) → none_in plan ≡ true → restarts_of plan ≡ 0
unfolding none_in
none-so plan is = grind (arith)

so-none : (plan : List Fault) → restarts_of plan ≡ 0 → none_in plan ≡ true
unfolding none_in
so-none plan is = eq-eqb (restarts_of plan) 0 is

-- none of a part of a plan that has none
none-part : (plan : List Fault) (n : ℕ) → restarts_of plan ≡ 0 → restarts_of (take n plan) ≡ 0
none-part plan zero none = refl
none-part [] (suc n) none = refl
none-part (fault ∷ plan) (suc n) none =
    let earlier = none-part plan n (omega arith) in omega arith

-- a count of a plan's restarts stays with each frame
count-stays : (old new : SimulatedBus) → TurnsTo old new → none_in old.plan.now ≡ true →
    (restarts_so new ≡ restarts_so old) × (none_in new.plan.now ≡ true)
count-stays old new turn none =
    let old_none = none-so old.plan.now none in (
      none-part new.plan.now new.next (ap restarts_of turn.plan ∙ old_none) ∙ sym (none-part old.plan.now old.next old_none),
      ap none_in turn.plan ∙ none,
    )

-- the count stays with all tries of a patient bus
sends-stays : (tries : ℕ) (frame : List ℕ) (acked : Bool) (old new : SimulatedBus) → sends_patiently tries_so tries frame old acked new →
    none_in old.plan.now ≡ true → (restarts_so new ≡ restarts_so old) × (none_in new.plan.now ≡ true)
sends-stays zero frame acked old new gave none =
    (ap restarts_so (sym gave.1), ap (λ (b : SimulatedBus). none_in b.plan.now) (sym gave.1) ∙ none)
sends-stays (suc left) frame acked old new (inl (middle, tried, rest)) none =
    let one = count-stays old middle tried.turn none in
    let others = sends-stays left frame acked middle new rest one.1 in
    (others.0 ∙ one.0, others.1)
sends-stays (suc left) frame acked old new (inr (inl tried)) none = count-stays old new tried.0.turn none
sends-stays (suc left) frame acked old new (inr (inr tried)) none = count-stays old new tried.0.turn none

asks-stays : (tries : ℕ) (request room came : List ℕ) (old new : SimulatedBus) → asks_patiently tries_so tries request room old came new →
    none_in old.plan.now ≡ true → (restarts_so new ≡ restarts_so old) × (none_in new.plan.now ≡ true)
asks-stays zero request room came old new gave none =
    (ap restarts_so (sym gave.1), ap (λ (b : SimulatedBus). none_in b.plan.now) (sym gave.1) ∙ none)
asks-stays (suc left) request room came old new (inl (middle, tried, rest)) none =
    let one = count-stays old middle tried.turn none in
    let others = asks-stays left request room came middle new rest one.1 in
    (others.0 ∙ one.0, others.1)
asks-stays (suc left) request room came old new (inr (inl tried)) none = count-stays old new tried.0.turn none
asks-stays (suc left) request room came old new (inr (inr (count, tried))) none = count-stays old new tried.turn none

patient-stays : AreWithoutRestart patient_gives patient_restarts (λ bus. none_in bus.adapter.plan.now)
patient-stays (Wrote frame acked) old new none gave = sends-stays old.tries frame acked old.adapter new.adapter gave.1 none
patient-stays (Read request room came) old new none gave = asks-stays old.tries request _ came old.adapter new.adapter gave.1 none

-- with each job
pub never-stays : JobsRestartNothing gives_so device_in restarts_so → NeverRestartsStays
never-stays law job old new result runs never =
    let all = law (λ bus. none_in bus.plan.now) (λ call old new none gave. count-stays old new gave.turn none) job old new result runs
    (so-none old.bus.plan.now never.none) in
    record { none = none-so new.bus.plan.now all.0; since = λ cell. all.1 cell (never.since cell) }

-- Each read that is no job keeps a plan without restarts one.
pub reads-stay : ReadsRestartNothing gives_so device_in restarts_so → ReadsKeepNeverRestarts
reads-stay law request room answer old new result looks never =
    let all = law (λ bus. none_in bus.plan.now) (λ call old new none gave. count-stays old new gave.turn none) request room answer old new
    result looks (so-none old.bus.plan.now never.none) in
    record { none = none-so new.bus.plan.now all.0; since = λ cell. all.1 cell (never.since cell) }

pub patient-never-stays : JobsRestartNothing patient_gives patient_device patient_restarts → PatientNeverRestartsStays
patient-never-stays law job old new result runs never =
    let all = law (λ bus. none_in bus.adapter.plan.now) patient-stays job old new result runs
    (so-none old.bus.adapter.plan.now never.none) in
    record { none = none-so new.bus.adapter.plan.now all.0; since = λ cell. all.1 cell (never.since cell) }
