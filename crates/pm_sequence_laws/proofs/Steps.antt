-- Steps of a sequence: each one, one after another, and their way back, at each moment of a life, as far as the words of an output count.
use Rattle.std.specs.Option.{option_map_or}
use Rattle.std.specs.Prelude.{◌*◌, ◌/◌, ◌%◌, is_some, unwrap_or, ◌||◌, is_none, option_and_then, option_map, ◌&&◌, map}
use Rattle.std.proofs.Math.Path.{fun_ext}
use Rattle.std.proofs.Common.{◌≡◌, ℕ, Bool, true, false, cond, Option, Some, None, refl, sym, ◌∙◌, ap, ◌<◌, ◌==◌, arith, ◌⊎◌, inl, inr}
use Rattle.std.proofs.Common.{List, [], ◌∷◌, ◌++◌, subst, Ok}
use Rattle.std.proofs.Math.Nat.{div-div-eq-div-mul, mul-div_cancel}
use Rattle.std.proofs.lemmas.Bool.{eq-eqb, eqb-true}
use Rattle.std.proofs.lemmas.List.{append_assoc, append-nil, append_cancel_right}
use Rattle.pm_table.specs.{declared.cell.Cell.Cell, declared.operation.Operation.Operation as Asks, declared.reg.Reg.Reg}
use Rattle.pm_table.specs.Cell.{same_register, IsCell}
use Rattle.pm_table.specs.Operation.{is_on, operation_of, register_for, has_on, selected_register}
use Rattle.pm_table.specs.declared.cell.Cell.TheVariants.{Out, Protect}
use Rattle.pm_table.specs.declared.operation.Operation.TheVariants as asks
use Rattle.pm_table.specs.declared.reg.Reg.TheVariants.{Operation, VoutCommand, VoutMax, MarginHigh, MarginLow, VoutMin}
use Rattle.pm_model.specs.declared.order_machine.PendingJob.{PendingJob}
use Rattle.pm_model.specs.Commanded.{Scale, limited, commanded, selected}
use Rattle.pm_model.specs.OrderMachine.{Step, End, machine_of}
use Rattle.pm_model.specs.Settings.{Settings, word_at}
use Rattle.pm_model.specs.declared.order_machine.PendingJob.TheVariants as pending
use Rattle.pm_device.specs.declared.config.Config.{Config}
use Rattle.pm_device.specs.Held.{shape_for, value_for}
use Rattle.pm_host.specs.{Ended.stage_job, Laws.EndsAreTold, Possible.only as possible_only, Refusals.is_busy}
use Rattle.pm_host.specs.{declared.knowledge.Possible.Possible, declared.knowledge.Possible.TheVariants.Any, declared.stage.Stage.Stage}
use Rattle.pm_host.specs.Summary.{possible_at, Summary}
use Rattle.pm_host.specs.Transcript as host
use Rattle.pm_host.specs.declared.command.Command.TheVariants.{RestoreUserAll, StoreUserAll}
use Rattle.pm_limits.specs.{Part.missing_word, declared.output_limits.OutputLimits.OutputLimits}
use Rattle.pm_limits.specs.{declared.part_registers.PartRegisters.PartRegisters}
use Rattle.pm_rail.specs.{Lemmas.Steps.goal-operation, Lemmas.Surveyed.has-none, declared.orders.PlanOrder.PlanOrder}
use Rattle.pm_rail.specs.Known.{known_word, Cells, cells_of, known_of, sole}
use Rattle.pm_rail.specs.Lemmas.Known.{is-planned, known-held, only-possible, IsPlanned, known-all, wanted-needed}
use Rattle.pm_rail.specs.Orders.{is_needed, plan_of}
use Rattle.pm_rail.specs.Plan.{goal_of, put}
use Rattle.pm_rail.specs.Registers.{Held, Wants}
use Rattle.pm_stairs.specs.Command.{command_of}
use Rattle.pm_world.specs.{Bands.HoldsMissing, Honest.IsSpelled, Setup.setup_of, State.asked, declared.event.Event.Event}
use Rattle.pm_world.specs.Confirmed.{restarts_converter, reads_cell, restarted_since}
use Rattle.pm_world.specs.Laws.{LivesAreOrders, PossibleWordsAreHeld}
use Rattle.pm_world.specs.Lemmas.Plans.{known-is, wanted-has}
use Rattle.pm_world.specs.Life.{life, now, state_of}
use Rattle.pm_world.specs.Lived.{EventsAreLived, IsLived}
use Rattle.pm_world.specs.Moves.{MovesBy, SettingsMoveByTheOpenJob, came_back, ordered, restored, words_at}
use Rattle.pm_world.specs.Plans.{Follows, KeepsPlans, MayAsk, PlansHoldInLives, held_at}
use Rattle.pm_world.specs.Possible.{host_has_read, restarts_host}
use Rattle.pm_world.specs.Retelling.{accepts, ends_between, open_pending, pending_of, retold, start_settings, taken_at, takes}
use Rattle.pm_world.specs.Retelling.{steps_of_event}
use Rattle.pm_world.specs.Retelling.{told_beside}
use Rattle.pm_world.specs.declared.event.Event.TheVariants.{Deliver, Exchange, Finish, RestartHost, RestartDevice}
use Rattle.pm_sequence_laws.specs.Back.{undoing_deed, GoesBack, StairsGoBack, back_step, counted_deed, counted_step, downs_of}
use Rattle.pm_sequence_laws.specs.Followed.{IsKnownFrom, MayNext, StairsAreFollowed}
use Rattle.pm_sequence_laws.specs.Ordered.{CellsTakeWhatIsOrdered, MayOrder, OrdersOnly, no_word}
use Rattle.pm_sequence_laws.specs.Stairs.{Stand, counting_word, counts, stand_by, Deed, Nothing, Sets, Turns, IsAtRest, IsOfStep, IsOver}
use Rattle.pm_sequence_laws.specs.Stairs.{IsReadFor, MayRest, AsksWithinDeed, TurnsNothing, done_to, stands_at, AreOver, AreSound}
use Rattle.pm_sequence_laws.specs.Stairs.{IsBetween}
use Rattle.pm_sequence_laws.specs.Stairs.{IsSoundStep, IsStairs, RailStep, Rails, counts_at, StairsHoldInLives, WasBetween, climbs}
use Rattle.pm_sequence_laws.specs.Stairs.{stair_of, stair_stand, stands, stair_start_of}

-- Words of an output as far as they count: what an output does by them is what it does by those that it holds.

some-two : 0 < 2
some-two = omega arith

some-four : 0 < 4
some-four = omega arith

-- a command has the bits of its byte but the last two
quarter : (byte : ℕ) → command_of byte / 4 ≡ byte / 4
unfolding command_of
quarter byte = go (byte / 16 % 4 == 3) where
  go : (x : Bool) → cond x (byte / 2 * 2) (byte / 4 * 4) / 4 ≡ byte / 4
  go true = sym (div-div-eq-div-mul (byte / 2 * 2) 2 2) ∙ ap (λ (n : ℕ). n / 2) (mul-div_cancel (byte / 2) some-two)
      ∙ div-div-eq-div-mul byte 2 2
  go false = mul-div_cancel (byte / 4) some-four

sixteenth : (byte : ℕ) → command_of byte / 16 ≡ byte / 16
sixteenth byte = sym (div-div-eq-div-mul (command_of byte) 4 4) ∙ ap (λ (n : ℕ). n / 4) (quarter byte) ∙ div-div-eq-div-mul byte 4 4

fraction : (byte : ℕ) → command_of byte / 64 ≡ byte / 64
fraction byte = sym (div-div-eq-div-mul (command_of byte) 4 16) ∙ ap (λ (n : ℕ). n / 16) (quarter byte) ∙ div-div-eq-div-mul byte 4 16

-- what a byte asks for, by its parts
by-parts : ℕ → ℕ → ℕ → Option Asks
by-parts top middle low = cond (top == 0 || top == 1) (Some asks.Off) (cond (middle == 8) (Some asks.On)
    (cond (low == 37 || low == 38) (Some asks.MarginLow) (cond (low == 41 || low == 42) (Some asks.MarginHigh) None)))

pub asks-same : (byte : ℕ) → operation_of (command_of byte) ≡ operation_of byte
unfolding by-parts
asks-same byte =
    ap (λ (n : ℕ). by-parts n (command_of byte / 16) (command_of byte / 4)) (fraction byte)
    ∙ ap (λ (n : ℕ). by-parts (byte / 64) n (command_of byte / 4)) (sixteenth byte)
    ∙ ap (λ (n : ℕ). by-parts (byte / 64) (byte / 16) n) (quarter byte)

-- the command of a command is itself
cut : Bool → ℕ → ℕ
cut x n = cond x (n / 2 * 2) (n / 4 * 4)

cut-twice : (x : Bool) (n : ℕ) → cut x (cut x n) ≡ cut x n
unfolding cut
cut-twice true n = ap (λ (m : ℕ). m * 2) (mul-div_cancel (n / 2) some-two)
cut-twice false n = ap (λ (m : ℕ). m * 4) (mul-div_cancel (n / 4) some-four)

pub itself-commanded : (byte : ℕ) → command_of (command_of byte) ≡ command_of byte
unfolding command_of cut
itself-commanded byte = ap (λ (n : ℕ). cut (n % 4 == 3) (command_of byte)) (sixteenth byte) ∙ cut-twice (byte / 16 % 4 == 3) byte

-- ---- What an output does ----

stand-at : (value : Scale) (held : Held) → Option Asks → Stand
stand-at value held o = record {
  on = option_map_or is_on o false;
  volts = limited (value (held (option_map_or register_for o VoutCommand))) (value (held VoutMin)) (value (held VoutMax));
}

stand-counted : (value : Scale) (held : Held) (o : Option Asks) → stand-at value (counts held) o ≡ stand-at value held o
unfolding stand-at
stand-counted value held None = refl
stand-counted value held (Some asks.Off) = refl
stand-counted value held (Some asks.On) = refl
stand-counted value held (Some asks.MarginLow) = refl
stand-counted value held (Some asks.MarginHigh) = refl

pub stand-counts : (value : Scale) (held : Held) → stand_by value (counts held) ≡ stand_by value held
unfolding stand-at
stand-counts value held = ap (stand-at value (counts held)) (asks-same (held Operation))
    ∙ stand-counted value held (operation_of (held Operation))

meant-by : Reg → Bool → Option Asks → Bool
meant-by register some o = same_register register (option_map_or register_for o VoutCommand) || some

pub needed-counts : (held : Held) (wants : Wants) (register : Reg) → is_needed (counts held) wants register ≡ is_needed held wants register
unfolding meant-by
needed-counts held wants Operation = refl
needed-counts held wants VoutMax = refl
needed-counts held wants VoutMin = refl
needed-counts held wants register = ap (meant-by register (is_some (wants register))) (asks-same (held Operation))

-- ---- What a deed makes of words ----

pub goal-counts : (held : Held) (wants : Wants) → wants Operation ≡ None → (register : Reg) →
    goal_of (counts held) wants register ≡ counting_word register (goal_of held wants register)
goal-counts held wants none Operation = ap (λ (o : Option ℕ). unwrap_or o (command_of (held Operation))) none
    ∙ sym (ap (λ (o : Option ℕ). command_of (unwrap_or o (held Operation))) none)
goal-counts held wants none VoutCommand = refl
goal-counts held wants none VoutMax = refl
goal-counts held wants none MarginHigh = refl
goal-counts held wants none MarginLow = refl
goal-counts held wants none VoutMin = refl

pub put-counts : (held : Held) (byte : ℕ) (register : Reg) →
    counts (put held Operation byte) register ≡ put (counts held) Operation (command_of byte) register
put-counts held byte Operation = refl
put-counts held byte VoutCommand = refl
put-counts held byte VoutMax = refl
put-counts held byte MarginHigh = refl
put-counts held byte MarginLow = refl
put-counts held byte VoutMin = refl

-- Steps of a sequence: each one, one after another, and their way back, at each moment of a life.

-- What a cell may hold while only some words are ordered for it.

-- the laws that this rests on
pub record Below : Type 0 where
  pub ends : EndsAreTold
  pub lives : EventsAreLived
  pub orders : LivesAreOrders
  pub moves : SettingsMoveByTheOpenJob

-- what is open after an event: the same, nothing, or the job that it asks for
abbrev pub GoesTo : Config → ℕ → List Event → Event → Type 0
GoesTo config passes before event =
    (open_pending config passes (event ∷ before) ≡ open_pending config passes before)
    ⊎ ((open_pending config passes (event ∷ before) ≡ None)
    ⊎ ((job : host.Job) × (asked (now config passes before) event ≡ Some job)
    × (open_pending config passes (event ∷ before) ≡ pending_of job)))

-- what is pending after some steps
abbrev pending_after : Settings → List Step → List Step → Option PendingJob
pending_after start steps before = (machine_of start (steps ++ before)).pending

abbrev pends : Settings → List Step → Option PendingJob
pends start before = (machine_of start before).pending

of-takes : (start : Settings) (before : List Step) (job : Option PendingJob) →
    pending_after start (takes job) before ≡ pends start before
unfolding machine_of
of-takes start before None = refl
of-takes start before (Some job) = refl

of-ends : (start : Settings) (before : List Step) (old new : Option PendingJob) →
    (pending_after start (ends_between old new) before ≡ pends start before)
    ⊎ (pending_after start (ends_between old new) before ≡ None)
unfolding machine_of
of-ends start before old new = go (is_some old && is_none new) where
  go : (b : Bool) → (pending_after start (cond b (End ∷ []) []) before ≡ pends start before)
      ⊎ (pending_after start (cond b (End ∷ []) []) before ≡ None)
  go true = inr refl
  go false = inl refl

-- an event that asks for no job
of-beside : (config : Config) (passes : ℕ) (before : List Event) (event : Event) →
    (pending_after (start_settings config) (told_beside config passes before event) (retold config passes before)
    ≡ pends (start_settings config) (retold config passes before))
    ⊎ (pending_after (start_settings config) (told_beside config passes before event) (retold config passes before) ≡ None)
unfolding told_beside machine_of
of-beside config passes before (Deliver arrival) =
    inl (of-takes (start_settings config) (retold config passes before) (taken_at config passes before (Deliver arrival)))
of-beside config passes before (Exchange arrival back) =
    of-ends (start_settings config) (retold config passes before) (open_pending config passes before)
    (open_pending config passes (Exchange arrival back ∷ before))
of-beside config passes before (Finish acked) =
    of-ends (start_settings config) (retold config passes before) (open_pending config passes before)
    (open_pending config passes (Finish acked ∷ before))
of-beside config passes before RestartHost = inr refl
of-beside config passes before RestartDevice = inl refl
of-beside config passes before event = inl refl

-- one that asks for one
of-asked : (start : Settings) (before : List Step) (job : Option PendingJob) →
    (pending_after start (accepts job) before ≡ pends start before) ⊎ (pending_after start (accepts job) before ≡ job)
unfolding machine_of
of-asked start before None = inl refl
of-asked start before (Some job) = inr refl

module _ (below : Below) (config : Config) (passes : ℕ) (before : List Event) (event : Event)
    (lived : IsLived config passes (event ∷ before)) where
  is-now : pending_after (start_settings config) (steps_of_event config passes before event) (retold config passes before)
      ≡ open_pending config passes (event ∷ before)
  unfolding retold
  is-now = (below.orders.orders config passes (event ∷ before) lived).job_is

  was-then : pends (start_settings config) (retold config passes before) ≡ open_pending config passes before
  was-then = (below.orders.orders config passes before (below.lives.earlier config passes (event ∷ []) before lived)).job_is

  told-is : (job : Option host.Job) → asked (now config passes before) event ≡ job → steps_of_event config passes before event
      ≡ option_map_or (λ j. accepts (pending_of j)) job (told_beside config passes before event)
  unfolding steps_of_event
  told-is job is = ap (λ (j : Option host.Job). option_map_or (λ j. accepts (pending_of j)) j (told_beside config passes before event)) is

  pub goes-to : GoesTo config passes before event
  goes-to = go (asked (now config passes before) event) refl where
    here : (job : Option host.Job) → asked (now config passes before) event ≡ job →
        open_pending config passes (event ∷ before) ≡ pending_after (start_settings config)
        (option_map_or (λ j. accepts (pending_of j)) job (told_beside config passes before event)) (retold config passes before)
    here job is = sym is-now ∙ ap (λ (steps : List Step). pending_after (start_settings config) steps (retold config passes before))
        (told-is job is)

    go : (job : Option host.Job) → asked (now config passes before) event ≡ job → GoesTo config passes before event
    go None is = elim (of-beside config passes before event) [
      | inl e ↦ inl (here None is ∙ e ∙ was-then)
      | inr e ↦ inr (inl (here None is ∙ e))
    ]
    go (Some job) is = elim (of-asked (start_settings config) (retold config passes before) (pending_of job)) [
      | inl e ↦ inl (here (Some job) is ∙ e ∙ was-then)
      | inr e ↦ inr (inr (job, is, here (Some job) is ∙ e))
    ]

-- none is open where the host is idle
idle-none : Below → (config : Config) (passes : ℕ) (events : List Event) → is_busy (now config passes events).host ≡ false →
    open_pending config passes events ≡ None
unfolding open_pending now state_of
idle-none below config passes events idle = ap (λ (j : Option host.Job). option_and_then pending_of j)
    (sym (below.ends.job (setup_of config passes) (life config passes events).entries)
    ∙ go (now config passes events).host.stage idle)
  where
    go : (stage : Option Stage) → is_some stage ≡ false → option_map stage_job stage ≡ None
    go None i = refl
    go (Some stage) i = cc

-- what may be asked for, of a job that is an order of the cell, or a restore
may-order : (cell : Cell) (allowed : ℕ → Bool) (job : host.Job) (word : ℕ) → MayOrder cell allowed (Some job) →
    pending_of job ≡ Some (pending.Order cell word) → allowed word ≡ true
may-order cell allowed (host.Order c w) word may is =
    let same_cell : c ≡ cell = cc in
    let same_word : w ≡ word = cc in
    ap allowed (sym same_word) ∙ may same_cell
may-order cell allowed (host.Send StoreUserAll) word may is = cc
may-order cell allowed (host.Send RestoreUserAll) word may is = cc
may-order cell allowed job word may is = cc

may-restore : (cell : Cell) (allowed : ℕ → Bool) (job : host.Job) → MayOrder cell allowed (Some job) →
    pending_of job ≡ Some pending.Restore → ⊥
may-restore cell allowed (host.Send RestoreUserAll) may is = may
may-restore cell allowed (host.Send StoreUserAll) may is = cc
may-restore cell allowed job may is = cc

-- at a moment: an order of the cell that is open is of an allowed word, and no restore is open
record IsFree (config : Config) (passes : ℕ) (cell : Cell) (allowed : ℕ → Bool) (events : List Event) : Type 0 where
  orders : (word : ℕ) → open_pending config passes events ≡ Some (pending.Order cell word) → allowed word ≡ true
  restores : open_pending config passes events ≡ Some pending.Restore → ⊥

free-next : Below → (config : Config) (passes : ℕ) (cell : Cell) (allowed : ℕ → Bool) (before : List Event) (event : Event) →
    IsLived config passes (event ∷ before) → MayOrder cell allowed (asked (now config passes before) event) →
    IsFree config passes cell allowed before → IsFree config passes cell allowed (event ∷ before)
free-next below config passes cell allowed before event lived may was = record {
  orders = λ word is. elim (goes-to below config passes before event lived) [
    | inl e ↦ was.orders word (sym e ∙ is)
    | inr (inl e) ↦ absurd (let bad = sym e ∙ is in cc)
    | inr (inr to) ↦ may-order cell allowed to.0 word (subst (MayOrder cell allowed) to.1 may) (sym to.2 ∙ is)
  ];
  restores = λ is. elim (goes-to below config passes before event lived) [
    | inl e ↦ was.restores (sym e ∙ is)
    | inr (inl e) ↦ let bad = sym e ∙ is in cc
    | inr (inr to) ↦ may-restore cell allowed to.0 (subst (MayOrder cell allowed) to.1 may) (sym to.2 ∙ is)
  ];
}

-- a word moves to what is open
by-move : {config : Config} {passes : ℕ} {cell : Cell} {allowed : ℕ → Bool} {before : List Event} {word : ℕ} {event : Event} →
    MovesBy config passes before cell word event → restarts_converter event ≡ false →
    IsFree config passes cell allowed before → allowed word ≡ true
by-move (came_back e) steady free = cc
by-move {word = word} (ordered arrival takes) steady free = free.orders word takes.opened
by-move (restored arrival takes out e) steady free = absurd (free.restores takes.opened)

-- a step of the word, and one of several
one-word : {old middle new : ℕ} (allowed : ℕ → Bool) → (middle ≡ old) ⊎ (allowed middle ≡ true) → (new ≡ middle) ⊎ (allowed new ≡ true) →
    (new ≡ old) ⊎ (allowed new ≡ true)
one-word allowed first (inr a) = inr a
one-word allowed (inl m) (inl n) = inl (n ∙ m)
one-word allowed (inr a) (inl n) = inr (ap allowed n ∙ a)

module _ (below : Below) (config : Config) (passes : ℕ) (cell : Cell) (allowed : ℕ → Bool) (here : IsCell config.count cell) where
  abbrev word_of : List Event → ℕ
  word_of events = word_at (words_at config passes events) cell

  free-later : (later before : List Event) → IsLived config passes (later ++ before) → OrdersOnly config passes cell allowed later before →
      IsFree config passes cell allowed before → IsFree config passes cell allowed (later ++ before)
  free-later [] before lived only was = was
  free-later (event ∷ later) before lived only was =
      free-next below config passes cell allowed (later ++ before) event lived only.1
      (free-later later before (below.lives.earlier config passes (event ∷ []) (later ++ before) lived) only.2 was)

  goes : (newer before : List Event) → IsLived config passes (newer ++ before) → OrdersOnly config passes cell allowed newer before →
      IsFree config passes cell allowed before →
      (word_of (newer ++ before) ≡ word_of before) ⊎ (allowed (word_of (newer ++ before)) ≡ true)
  goes [] before lived only was = inl refl
  goes (event ∷ newer) before lived only was =
      let lived' = below.lives.earlier config passes (event ∷ []) (newer ++ before) lived in
      one-word allowed (goes newer before lived' only.2 was)
      (elim ((below.moves config passes (event ∷ newer ++ before) lived).moves [] (newer ++ before) event cell refl here) [
        | inl e ↦ inl e
        | inr m ↦ inr (by-move m only.0 (free-later newer before lived' only.2 was))
      ])

  idle-free : (before : List Event) → is_busy (now config passes before).host ≡ false → IsFree config passes cell allowed before
  idle-free before idle = record {
    orders = λ word is. absurd (let bad = sym (idle-none below config passes before idle) ∙ is in cc);
    restores = λ is. let bad = sym (idle-none below config passes before idle) ∙ is in cc;
  }

pub cells-take : Below → CellsTakeWhatIsOrdered
cells-take below = record {
  took = λ config passes cell allowed newer later before lived here idle before_only only.
      goes below config passes cell allowed here newer (later ++ before) lived only
      (free-later below config passes cell allowed here later before (below.lives.earlier config passes newer (later ++ before) lived)
      before_only (idle-free below config passes cell allowed here before idle));
  kept = λ config passes cell later before lived here idle only.
      elim (goes below config passes cell no_word here later before lived only (idle-free below config passes cell no_word here before idle)) [
        | inl e ↦ e
        | inr bad ↦ cc
      ];
}

-- One step: what its output does, what the others do, and what is known when it is over.

-- the laws that this rests on
pub record SegmentsBelow : Type 0 where
  pub lives : EventsAreLived
  pub plans : PlansHoldInLives
  pub cells : CellsTakeWhatIsOrdered
  pub possible : PossibleWordsAreHeld

pub itself : (x : ℕ) → (x == x) ≡ true
itself x = eq-eqb x x refl

-- ---- What is asked for ----

module _ (config : Config) (passes : ℕ) (part : PartRegisters) (output : ℕ) (deed : Deed) where
  -- an order of another output's cell
  no-job : (later before : List Event) (other : ℕ) (r : Reg) → (other == output) ≡ false → (job : Option host.Job) →
      AsksWithinDeed config passes part output deed later before job → MayOrder (Out other r) no_word job
  no-job later before other r apart (Some (host.Order (Out o q) word)) may = λ same.
      let one : o ≡ other = cc in
      sym apart ∙ ap (λ (x : ℕ). x == output) (sym one ∙ may.0) ∙ itself output
  no-job later before other r apart (Some (host.Order Protect word)) may = λ same. cc
  no-job later before other r apart (Some (host.Send RestoreUserAll)) may = may
  no-job later before other r apart job may = tt

  pub none-other : (other : ℕ) (r : Reg) → (other == output) ≡ false → (newer before : List Event) →
      IsOfStep config passes part output deed newer before → OrdersOnly config passes (Out other r) no_word newer before
  none-other other r apart [] before of = tt
  none-other other r apart (event ∷ newer) before of = (
    of.0,
    no-job newer before other r apart (asked (now config passes (newer ++ before)) event) of.1,
    none-other other r apart newer before of.2,
  )

  -- what holds of all later events holds of the first of them
  pub first-of : (newer later before : List Event) →
      IsOfStep config passes part output deed (newer ++ later) before → IsOfStep config passes part output deed later before
  first-of [] later before of = of
  first-of (event ∷ newer) later before of = first-of newer later before of.2

module _ (config : Config) (passes : ℕ) (part : PartRegisters) (output : ℕ) (wants : Wants) where
  -- a step of settings follows its plan
  follow-job : (later before : List Event) (job : Option host.Job) →
      AsksWithinDeed config passes part output (Sets wants) later before job →
      MayAsk config passes part output wants later before job
  follow-job later before (Some (host.Order (Out o q) word)) may = λ same. may.1
  follow-job later before (Some (host.Order Protect word)) may = tt
  follow-job later before (Some (host.Send RestoreUserAll)) may = may
  follow-job later before job may = tt

  pub follows : (newer before : List Event) →
      IsOfStep config passes part output (Sets wants) newer before → Follows config passes part output wants newer before
  follows [] before of = tt
  follows (event ∷ newer) before of =
      (of.0, follow-job newer before (asked (now config passes (newer ++ before)) event) of.1, follows newer before of.2)

module _ (config : Config) (passes : ℕ) (part : PartRegisters) (output byte : ℕ) where
  -- a step that turns an output orders no other register of it, and of OPERATION its byte
  turn-job : (later before : List Event) (r : Reg) (allowed : ℕ → Bool) → (Operation ≡ r → allowed byte ≡ true) → (job : Option host.Job) →
      AsksWithinDeed config passes part output (Turns byte) later before job → MayOrder (Out output r) allowed job
  turn-job later before r allowed lets (Some (host.Order (Out o q) word)) may = λ same.
      let one : q ≡ r = cc in
      ap allowed may.1.1 ∙ lets (sym may.1.0 ∙ one)
  turn-job later before r allowed lets (Some (host.Order Protect word)) may = λ same. cc
  turn-job later before r allowed lets (Some (host.Send RestoreUserAll)) may = may
  turn-job later before r allowed lets job may = tt

  turn-all : (r : Reg) (allowed : ℕ → Bool) → (Operation ≡ r → allowed byte ≡ true) → (newer before : List Event) →
      IsOfStep config passes part output (Turns byte) newer before → OrdersOnly config passes (Out output r) allowed newer before
  turn-all r allowed lets [] before of = tt
  turn-all r allowed lets (event ∷ newer) before of = (
    of.0,
    turn-job newer before r allowed lets (asked (now config passes (newer ++ before)) event) of.1,
    turn-all r allowed lets newer before of.2,
  )

  turn-none : (r : Reg) → (r ≡ Operation → ⊥) → (newer before : List Event) →
      IsOfStep config passes part output (Turns byte) newer before → OrdersOnly config passes (Out output r) no_word newer before
  turn-none r apart newer before of = turn-all r no_word never newer before of where
    never : Operation ≡ r → no_word byte ≡ true
    never e = absurd (apart (sym e))

module _ (config : Config) (passes : ℕ) (cell : Cell) (allowed : ℕ → Bool) where
  last-of : (newer later before : List Event) →
      OrdersOnly config passes cell allowed (newer ++ later) before → OrdersOnly config passes cell allowed newer (later ++ before)
  last-of [] later before only = tt
  last-of (event ∷ newer) later before only = (
    only.0,
    subst (λ (es : List Event). MayOrder cell allowed (asked (now config passes es) event)) (append_assoc newer later before) only.1,
    last-of newer later before only.2,
  )

  first-only : (newer later before : List Event) →
      OrdersOnly config passes cell allowed (newer ++ later) before → OrdersOnly config passes cell allowed later before
  first-only [] later before only = only
  first-only (event ∷ newer) later before only = first-only newer later before only.2

-- ---- What was read ----

-- events that restart no converter
abbrev pub AreStill : List Event → Type 0
AreStill [] = Unit {0}
AreStill (event ∷ newer) = (restarts_converter event ≡ false) × AreStill newer

pub step-still : (config : Config) (passes : ℕ) (part : PartRegisters) (output : ℕ) (deed : Deed) (newer before : List Event) →
    IsOfStep config passes part output deed newer before → AreStill newer
step-still config passes part output deed [] before of = tt
step-still config passes part output deed (event ∷ newer) before of =
    (of.0, step-still config passes part output deed newer before of.2)

pub rest-still : (config : Config) (passes : ℕ) (later before : List Event) → IsAtRest config passes later before → AreStill later
rest-still config passes [] before rest = tt
rest-still config passes (event ∷ later) before rest = (rest.0, rest-still config passes later before rest.2)

-- a cell that was read since the converter's last restart still is after events at which it doesn't restart
pub since-still : (config : Config) (passes : ℕ) (cell : Cell) (newer before : List Event) →
    (host_has_read config passes cell before ≡ true → restarted_since config passes cell before ≡ false) → AreStill newer →
    host_has_read config passes cell (newer ++ before) ≡ true → restarted_since config passes cell (newer ++ before) ≡ false
unfolding restarted_since host_has_read
since-still config passes cell [] before since still = since
since-still config passes cell (event ∷ newer) before since still =
    go (reads_cell config passes cell (newer ++ before) event) (restarts_converter event)
    (restarted_since config passes cell (newer ++ before)) (restarts_host event)
    (host_has_read config passes cell (newer ++ before)) still.0
    (since-still config passes cell newer before since still.1)
  where
    go : (reads restarts since host read : Bool) → restarts ≡ false → (read ≡ true → since ≡ false) →
        cond host false (reads || read) ≡ true → cond reads false (restarts || since) ≡ false
    go true restarts since host read r s h = refl
    go false true since host read r s h = cc
    go false false since true read r s h = cc
    go false false since false read r s h = s h

pub since-later : (config : Config) (passes : ℕ) (part : PartRegisters) (output : ℕ) (deed : Deed) (cell : Cell)
    (newer before : List Event) →
    (host_has_read config passes cell before ≡ true → restarted_since config passes cell before ≡ false) →
    IsOfStep config passes part output deed newer before →
    host_has_read config passes cell (newer ++ before) ≡ true → restarted_since config passes cell (newer ++ before) ≡ false
since-later config passes part output deed cell newer before since of =
    since-still config passes cell newer before since (step-still config passes part output deed newer before of)

-- at rest no output's cell is ordered
rest-job : (other : ℕ) (r : Reg) (job : Option host.Job) → MayRest job → MayOrder (Out other r) no_word job
rest-job other r (Some (host.Order (Out o q) word)) may = absurd may
rest-job other r (Some (host.Order Protect word)) may = λ same. cc
rest-job other r (Some (host.Send RestoreUserAll)) may = may
rest-job other r job may = tt

pub rest-none : (config : Config) (passes : ℕ) (other : ℕ) (r : Reg) (later before : List Event) → IsAtRest config passes later before →
    OrdersOnly config passes (Out other r) no_word later before
rest-none config passes other r [] before rest = tt
rest-none config passes other r (event ∷ later) before rest = (
  rest.0,
  rest-job other r (asked (now config passes (later ++ before)) event) rest.1,
  rest-none config passes other r later before rest.2,
)

-- what holds of all later events holds of the first of them
pub first-rest : (config : Config) (passes : ℕ) (newer later before : List Event) → IsAtRest config passes (newer ++ later) before →
    IsAtRest config passes later before
first-rest config passes [] later before rest = rest
first-rest config passes (event ∷ newer) later before rest = first-rest config passes newer later before rest.2

-- ---- How an output stands ----

pub stands-is : (config : Config) (passes : ℕ) (events : List Event) (output : ℕ) →
    stands_at config passes events output ≡ stand_by (value_for config output) (held_at config passes events output)
unfolding commanded selected
stands-is config passes events output = refl

-- with the words of before, but for OPERATION
turned : (old new : Held) (byte : ℕ) → (new Operation ≡ byte) → ((r : Reg) → (r ≡ Operation → ⊥) → new r ≡ old r) →
    (r : Reg) → new r ≡ put old Operation byte r
turned old new byte is others Operation = is
turned old new byte is others VoutCommand = others VoutCommand (λ e. cc)
turned old new byte is others VoutMax = others VoutMax (λ e. cc)
turned old new byte is others MarginHigh = others MarginHigh (λ e. cc)
turned old new byte is others MarginLow = others MarginLow (λ e. cc)
turned old new byte is others VoutMin = others VoutMin (λ e. cc)

left : (old new : Held) → (new Operation ≡ old Operation) → ((r : Reg) → (r ≡ Operation → ⊥) → new r ≡ old r) →
    (r : Reg) → new r ≡ old r
left old new is others Operation = is
left old new is others VoutCommand = others VoutCommand (λ e. cc)
left old new is others VoutMax = others VoutMax (λ e. cc)
left old new is others MarginHigh = others MarginHigh (λ e. cc)
left old new is others MarginLow = others MarginLow (λ e. cc)
left old new is others VoutMin = others VoutMin (λ e. cc)

-- a part lacks no register but the limits
no-operation : (part : PartRegisters) (config : Config) (output word : ℕ) →
    missing_word part (shape_for config output) Operation ≡ Some word → ⊥
no-operation part config output word is = cc

-- a goal that is had: by each wanted word, and where none is wanted by the word that is kept
goal-had : (wants : Option ℕ) (old new : ℕ) → ((word : ℕ) → wants ≡ Some word → new ≡ word) →
    unwrap_or wants new ≡ unwrap_or wants old → new ≡ unwrap_or wants old
goal-had None old new had same = same
goal-had (Some word) old new had same = had word refl

-- a word that is put back, where the wanted ones are what they are
put-back : (wants : Option ℕ) (old new : ℕ) → unwrap_or wants new ≡ unwrap_or wants old →
    unwrap_or (option_map (λ (word : ℕ). old) wants) new ≡ old
put-back None old new same = same
put-back (Some word) old new same = refl

-- OPERATION put back
turned-back : (old new : Held) → (command_of (old Operation) ≡ old Operation) → ((r : Reg) → (r ≡ Operation → ⊥) → new r ≡ old r) → (r : Reg) →
    put new Operation (command_of (old Operation)) r ≡ old r
turned-back old new same others Operation = same
turned-back old new same others VoutCommand = others VoutCommand (λ e. cc)
turned-back old new same others VoutMax = others VoutMax (λ e. cc)
turned-back old new same others MarginHigh = others MarginHigh (λ e. cc)
turned-back old new same others MarginLow = others MarginLow (λ e. cc)
turned-back old new same others VoutMin = others VoutMin (λ e. cc)

-- the place of the output at any of the step's events, of two moments, and when it is over
pub record Segment (config : Config) (passes : ℕ) (part : PartRegisters) (output : ℕ) (deed : Deed)
    (newer later before : List Event) : Type 0 where
  pub goes : (stands_at config passes (newer ++ (later ++ before)) output ≡ stands_at config passes (later ++ before) output)
      ⊎ (stands_at config passes (newer ++ (later ++ before)) output
      ≡ stand_by (value_for config output) (done_to (counts_at config passes before output) deed))
  pub over : IsOver config passes part output deed (newer ++ (later ++ before)) → (register : Reg) →
      counts_at config passes (newer ++ (later ++ before)) output register
      ≡ done_to (counts_at config passes before output) deed register
  pub missing : HoldsMissing part config (now config passes (newer ++ (later ++ before))).device.words output
  pub back : (register : Reg) → done_to (counts_at config passes (newer ++ (later ++ before)) output)
      (undoing_deed (counts_at config passes before output) deed) register ≡ counts_at config passes before output register

module _ (laws : SegmentsBelow) (config : Config) (passes : ℕ) (part : PartRegisters) (output : ℕ) (wants : Wants)
    (newer later before : List Event) (spelled : IsSpelled config) (lived : IsLived config passes (newer ++ (later ++ before)))
    (here : output < config.count) (none : wants Operation ≡ None) (idle : is_busy (now config passes before).host ≡ false)
    (read : IsReadFor config passes output (Sets wants) (held_at config passes before output) before)
    (lacks : HoldsMissing part config (now config passes before).device.words output)
    (of : IsOfStep config passes part output (Sets wants) (newer ++ later) before) where
  abbrev events : List Event
  events = newer ++ (later ++ before)

  keeps : KeepsPlans config passes events
  keeps = laws.plans.keeps config passes events spelled lived

  is : events ≡ (newer ++ later) ++ before
  is = sym (append_assoc newer later before)

  plan : Follows config passes part output wants (newer ++ later) before
  plan = follows config passes part output wants (newer ++ later) before of

  same-goal : (r : Reg) → goal_of (held_at config passes events output) wants r ≡ goal_of (held_at config passes before output) wants r
  same-goal r = keeps.goal part output wants r (newer ++ later) before is here none idle read lacks plan

  operation : (es : List Event) → goal_of (held_at config passes es output) wants Operation
      ≡ goal_of (held_at config passes before output) wants Operation →
      held_at config passes es output Operation ≡ held_at config passes before output Operation
  operation es same = sym (goal-operation (held_at config passes es output) wants none) ∙ same
      ∙ goal-operation (held_at config passes before output) wants none

  later-goal : goal_of (held_at config passes (later ++ before) output) wants Operation
      ≡ goal_of (held_at config passes before output) wants Operation
  later-goal = (laws.plans.keeps config passes (later ++ before) spelled (laws.lives.earlier config passes newer (later ++ before) lived)).goal
      part output wants Operation later before refl here none idle read lacks (follows config passes part output wants later before
      (first-of config passes part output (Sets wants) newer later before of))

  on-now : has_on (held_at config passes events output Operation) ≡ has_on (held_at config passes before output Operation)
  on-now = ap has_on (operation events (same-goal Operation))

  on-later : has_on (held_at config passes (later ++ before) output Operation) ≡ has_on (held_at config passes before output Operation)
  on-later = ap has_on (operation (later ++ before) later-goal)

  on-goal : has_on (goal_of (held_at config passes before output) wants Operation) ≡ has_on (held_at config passes before output Operation)
  on-goal = ap has_on (goal-operation (held_at config passes before output) wants none)

  two : (on on' : Bool) (volts volts' : _) → on ≡ on' → volts ≡ volts' →
      ◌≡◌ {A = Stand} (record { on = on; volts = volts }) (record { on = on'; volts = volts' })
  two on on' volts volts' e f = cc

  same-counts : (r : Reg) → goal_of (counts_at config passes events output) wants r ≡ goal_of (counts_at config passes before output) wants r
  same-counts r = goal-counts (held_at config passes events output) wants none r ∙ ap (counting_word r) (same-goal r)
      ∙ sym (goal-counts (held_at config passes before output) wants none r)

  -- what the output does is the same by the words that are held and by what counts of them
  stand-goal : stand_by (value_for config output) (goal_of (held_at config passes before output) wants)
      ≡ stand_by (value_for config output) (goal_of (counts_at config passes before output) wants)
  stand-goal = sym (stand-counts (value_for config output) (goal_of (held_at config passes before output) wants))
      ∙ ap (λ (h : Held). stand_by (value_for config output) h)
      (fun_ext (λ (r : Reg). sym (goal-counts (held_at config passes before output) wants none r)))

  by-plan : Segment config passes part output (Sets wants) newer later before
  by-plan = record {
    goes = elim (keeps.held part output wants newer later before is here none idle read lacks plan) [
      | inl e ↦ inl (two _ _ _ _ (on-now ∙ sym on-later) e)
      | inr e ↦ inr (two _ _ _ _ (on-now ∙ sym on-goal) e ∙ stand-goal)
    ];
    over =
        λ over r. ap (counting_word r) (goal-had (wants r) (held_at config passes before output r) (held_at config passes events output r)
        (λ word wanted. (keeps.come_true part output over.0 wants r word here none
        (keeps.read part output wants (newer ++ later) before is here none idle read lacks plan)
        (keeps.missing part output wants (newer ++ later) before is here none idle read lacks plan) over.1 wanted).1)
        (same-goal r)) ∙ sym (goal-counts (held_at config passes before output) wants none r);
    missing = keeps.missing part output wants (newer ++ later) before is here none idle read lacks plan;
    back = λ r. put-back (wants r) (counts_at config passes before output r) (counts_at config passes events output r) (same-counts r);
  }

module _ (laws : SegmentsBelow) (config : Config) (passes : ℕ) (part : PartRegisters) (output byte : ℕ)
    (newer later before : List Event) (lived : IsLived config passes (newer ++ (later ++ before)))
    (here : output < config.count) (idle : is_busy (now config passes before).host ≡ false)
    (read : IsReadFor config passes output (Turns byte) (held_at config passes before output) before)
    (lacks : HoldsMissing part config (now config passes before).device.words output)
    (of : IsOfStep config passes part output (Turns byte) (newer ++ later) before) where
  abbrev events' : List Event
  events' = newer ++ (later ++ before)

  -- a register that isn't OPERATION, at both moments
  others : (r : Reg) → (r ≡ Operation → ⊥) →
      held_at config passes (newer ++ (later ++ before)) output r ≡ held_at config passes before output r
  others r apart = subst (λ (es : List Event). held_at config passes es output r ≡ held_at config passes before output r)
      (append_assoc newer later before)
      (laws.cells.kept config passes (Out output r) (newer ++ later) before
      (subst (λ (es : List Event). IsLived config passes es) (sym (append_assoc newer later before)) lived) here idle
      (turn-none config passes part output byte r apart (newer ++ later) before of))

  later-others : (r : Reg) → (r ≡ Operation → ⊥) →
      held_at config passes (later ++ before) output r ≡ held_at config passes before output r
  later-others r apart = laws.cells.kept config passes (Out output r) later before
      (laws.lives.earlier config passes newer (later ++ before) lived) here idle
      (turn-none config passes part output byte r apart later before (first-of config passes part output (Turns byte) newer later before of))

  abbrev is_byte : ℕ → Bool
  is_byte word = word == byte

  only : OrdersOnly config passes (Out output Operation) is_byte (newer ++ later) before
  only = turn-all config passes part output byte Operation is_byte (λ e. itself byte) (newer ++ later) before of

  moved : (held_at config passes events' output Operation ≡ held_at config passes (later ++ before) output Operation)
      ⊎ (held_at config passes events' output Operation ≡ byte)
  moved = elim (laws.cells.took config passes (Out output Operation) is_byte newer later before lived here idle
      (first-only config passes (Out output Operation) is_byte newer later before only)
      (last-of config passes (Out output Operation) is_byte newer later before only)) [
        | inl e ↦ inl e
        | inr e ↦ inr (eqb-true _ byte e)
      ]

  stood : (h : Held) → ((r : Reg) → held_at config passes events' output r ≡ h r) →
      stands_at config passes events' output ≡ stand_by (value_for config output) h
  stood h same = stands-is config passes events' output ∙ ap (λ (x : Held). stand_by (value_for config output) x) (fun_ext same)

  possible-byte : IsOver config passes part output (Turns byte) events' →
      command_of (held_at config passes events' output Operation) ≡ command_of byte
  possible-byte over = ap command_of (sym held' ∙ ap (λ (o : Option ℕ). unwrap_or o 0) known)
      ∙ sym (eqb-true (command_of byte) (command_of over.1.0) over.1.2) where
        known : known_word (Out output Operation) (possible_at (now config passes events').host (Out output Operation)) ≡ Some over.1.0
        known = over.1.1

        cell : Cell
        cell = Out output Operation

        some : is_none (known_word cell (possible_at (now config passes events').host cell)) ≡ false
        some = ap (λ (o : Option ℕ). is_none o) known

        listed : possible_at (now config passes events').host cell ≡ Any → ⊥
        listed any = let bad = sym (ap (λ (p : Possible). known_word cell p) any) ∙ known in cc

        since : restarted_since config passes cell events' ≡ false
        since = subst (λ (es : List Event). host_has_read config passes cell es ≡ true → restarted_since config passes cell es ≡ false)
            (append_assoc newer later before)
            (since-later config passes part output (Turns byte) cell (newer ++ later) before read of)
            ((laws.possible.held config passes events' lived).found cell here listed)

        held' : unwrap_or (known_word cell (possible_at (now config passes events').host cell)) 0 ≡ held_at config passes events' output Operation
        held' = known-held (λ c. possible_at (now config passes events').host c) cell (held_at config passes events' output Operation)
            ((laws.possible.held config passes events' lived).held cell here since) some

  by-turn : Segment config passes part output (Turns byte) newer later before
  by-turn = record {
    goes = elim moved [
      | inl e ↦ inl (stood (held_at config passes (later ++ before) output)
          (left (held_at config passes (later ++ before) output) (held_at config passes events' output) e
          (λ r apart. others r apart ∙ sym (later-others r apart))) ∙ sym (stands-is config passes (later ++ before) output))
      | inr e ↦ inr (stood (put (held_at config passes before output) Operation byte)
          (turned (held_at config passes before output) (held_at config passes events' output) byte e others)
          ∙ sym (stand-counts (value_for config output) (put (held_at config passes before output) Operation byte))
          ∙ ap (λ (h : Held). stand_by (value_for config output) h) (fun_ext (put-counts (held_at config passes before output) byte)))
    ];
    over = λ over. turned (counts_at config passes before output) (counts_at config passes events' output) (command_of byte)
        (possible-byte over) (λ r apart. ap (counting_word r) (others r apart));
    missing = λ r word is. others r (λ e. no-operation part config output word (subst (λ (x : Reg).
        missing_word part (shape_for config output) x ≡ Some word) e is)) ∙ lacks r word is;
    back = turned-back (counts_at config passes before output) (counts_at config passes events' output)
        (itself-commanded (held_at config passes before output Operation)) (λ r apart. ap (counting_word r) (others r apart));
  }

-- a step that orders nothing: each register of its output keeps its word
module _ (laws : SegmentsBelow) (config : Config) (passes : ℕ) (part : PartRegisters) (output : ℕ)
    (newer later before : List Event) (lived : IsLived config passes (newer ++ (later ++ before)))
    (here : output < config.count) (idle : is_busy (now config passes before).host ≡ false)
    (lacks : HoldsMissing part config (now config passes before).device.words output)
    (of : IsOfStep config passes part output Nothing (newer ++ later) before) where
  nothing-job : (later' before' : List Event) (r : Reg) (job : Option host.Job) →
      AsksWithinDeed config passes part output Nothing later' before' job → MayOrder (Out output r) no_word job
  nothing-job later' before' r (Some (host.Order (Out o q) word)) may = absurd may.1
  nothing-job later' before' r (Some (host.Order Protect word)) may = λ same. cc
  nothing-job later' before' r (Some (host.Send RestoreUserAll)) may = may
  nothing-job later' before' r job may = tt

  nothing-all : (r : Reg) (events before' : List Event) → IsOfStep config passes part output Nothing events before' →
      OrdersOnly config passes (Out output r) no_word events before'
  nothing-all r [] before' step = tt
  nothing-all r (event ∷ events) before' step = (
    step.0,
    nothing-job events before' r (asked (now config passes (events ++ before')) event) step.1,
    nothing-all r events before' step.2,
  )

  kept-all : (r : Reg) → held_at config passes (newer ++ (later ++ before)) output r ≡ held_at config passes before output r
  kept-all r = subst (λ (es : List Event). held_at config passes es output r ≡ held_at config passes before output r)
      (append_assoc newer later before)
      (laws.cells.kept config passes (Out output r) (newer ++ later) before
      (subst (λ (es : List Event). IsLived config passes es) (sym (append_assoc newer later before)) lived) here idle
      (nothing-all r (newer ++ later) before of))

  by-nothing : Segment config passes part output Nothing newer later before
  by-nothing = record {
    goes = inr (stands-is config passes (newer ++ (later ++ before)) output
        ∙ ap (λ (h : Held). stand_by (value_for config output) h) (fun_ext kept-all)
        ∙ sym (stand-counts (value_for config output) (held_at config passes before output)));
    over = λ over r. ap (counting_word r) (kept-all r);
    missing = λ r word is. kept-all r ∙ lacks r word is;
    back = λ r. ap (counting_word r) (kept-all r);
  }

-- each deed
pub segment : SegmentsBelow
    → (config : Config) (passes : ℕ) (part : PartRegisters) (output : ℕ) (deed : Deed) (newer later before : List Event) →
    IsSpelled config → IsLived config passes (newer ++ (later ++ before)) → output < config.count → TurnsNothing deed →
    is_busy (now config passes before).host ≡ false →
    IsReadFor config passes output deed (held_at config passes before output) before →
    HoldsMissing part config (now config passes before).device.words output →
    IsOfStep config passes part output deed (newer ++ later) before →
    Segment config passes part output deed newer later before
segment laws config passes part output (Sets wants) newer later before spelled lived here none idle read lacks of =
    by-plan laws config passes part output wants newer later before spelled lived here none idle read lacks of
segment laws config passes part output (Turns byte) newer later before spelled lived here none idle read lacks of =
    by-turn laws config passes part output byte newer later before lived here idle read lacks of
segment laws config passes part output Nothing newer later before spelled lived here none idle read lacks of =
    by-nothing laws config passes part output newer later before lived here idle lacks of

-- the host is idle where a step is over
pub over-idle : (config : Config) (passes : ℕ) (part : PartRegisters) (output : ℕ) (deed : Deed) (events : List Event) →
    IsOver config passes part output deed events → is_busy (now config passes events).host ≡ false
over-idle config passes part output (Sets wants) es over =
    (is-planned part (now config passes es).host over.0 output wants None over.1).idle
over-idle config passes part output (Turns byte) es over = over.0
over-idle config passes part output Nothing es over = over

-- Steps one after another, at each moment of a life.

-- two ways to take one list apart
split : (xs ys zs ws : List Event) → xs ++ ys ≡ zs ++ ws →
    ((m : List Event) × (xs ≡ zs ++ m) × (ws ≡ m ++ ys)) ⊎ ((m : List Event) × (zs ≡ xs ++ m) × (ys ≡ m ++ ws))
split [] ys zs ws e = inr (zs, refl, e)
split (x ∷ xs) ys [] ws e = inl (x ∷ xs, refl, sym e)
split (x ∷ xs) ys (z ∷ zs) ws e =
    let head : x ≡ z = cc in
    let tail : xs ++ ys ≡ zs ++ ws = cc in
    elim (split xs ys zs ws tail) [
      | inl more ↦ inl (more.0, ap (λ (l : List Event). x ∷ l) more.1 ∙ ap (λ (y : Event). y ∷ zs ++ more.0) head, more.2)
      | inr more ↦ inr (more.0, ap (λ (l : List Event). z ∷ l) more.1 ∙ ap (λ (y : Event). y ∷ xs ++ more.0) (sym head), more.2)
    ]

module _ (laws : SegmentsBelow) (config : Config) (passes : ℕ) (part : PartRegisters) (before : List Event) (spelled : IsSpelled config)
  where
    abbrev start : Rails
    start = stair_start_of config passes before

    -- the outputs at a moment at which the last of the steps is over
    pub record At (done : List RailStep) (events : List Event) : Type 0 where
      pub idle : is_busy (now config passes events).host ≡ false
      pub words : (output : ℕ) (register : Reg) → output < config.count →
          counts_at config passes events output register ≡ stair_of start done output register
      pub fresh : (cell : Cell) → (host_has_read config passes cell before ≡ true → restarted_since config passes cell before ≡ false) →
          host_has_read config passes cell events ≡ true → restarted_since config passes cell events ≡ false
      pub missing : (output : ℕ) → output < config.count → HoldsMissing part config (now config passes before).device.words output →
          HoldsMissing part config (now config passes events).device.words output

    -- all words of an output
    pub held-is : {done : List RailStep} {events : List Event} → At done events → (output : ℕ) → output < config.count →
        counts_at config passes events output ≡ stair_of start done output
    held-is at output here = fun_ext (λ (r : Reg). at.words output r here)

    pub read-at : {done : List RailStep} {events : List Event} → At done events → (output : ℕ) → output < config.count → (deed : Deed) →
        IsReadFor config passes output deed (stair_of start done output) before →
        IsReadFor config passes output deed (held_at config passes events output) events
    read-at {events = events} at output here (Sets wants) read = λ register needed.
        at.fresh (Out output register)
        (read register (subst (λ (h : Held). is_needed h wants register ≡ true) (held-is at output here)
        (needed-counts (held_at config passes events output) wants register ∙ needed)))
    read-at at output here (Turns byte) read = at.fresh (Out output Operation) read
    read-at at output here Nothing read = tt

    pub segment-at : {done : List RailStep} {older : List Event} → At done older → (step : RailStep) →
        IsSoundStep config passes part before step (stair_of start done step.output) → (newer later : List Event) →
        IsLived config passes (newer ++ (later ++ older)) →
        IsOfStep config passes part step.output step.deed (newer ++ later) older →
        Segment config passes part step.output step.deed newer later older
    segment-at {older = older} at step sound newer later lived of =
        segment laws config passes part step.output step.deed newer later older spelled lived sound.here sound.still at.idle
        (read-at at step.output sound.here step.deed sound.read) (at.missing step.output sound.here sound.missing) of

    -- the other outputs
    pub still : {done : List RailStep} {older : List Event} → At done older → (step : RailStep) (newer : List Event) →
        IsLived config passes (newer ++ older) → IsOfStep config passes part step.output step.deed newer older →
        (output : ℕ) (register : Reg) → output < config.count → (output == step.output) ≡ false →
        held_at config passes (newer ++ older) output register ≡ held_at config passes older output register
    still {older = older} at step newer lived of output register here apart =
        laws.cells.kept config passes (Out output register) newer older lived here at.idle
        (none-other config passes part step.output step.deed output register apart newer older of)

    missing-in : {done : List RailStep} {older : List Event} → At done older → (step : RailStep) →
        IsSoundStep config passes part before step (stair_of start done step.output) → (newer : List Event) →
        IsLived config passes (newer ++ older) → IsOfStep config passes part step.output step.deed newer older →
        (output : ℕ) → output < config.count → HoldsMissing part config (now config passes before).device.words output →
        (b : Bool) → (output == step.output) ≡ b → HoldsMissing part config (now config passes (newer ++ older)).device.words output
    missing-in {older = older} at step sound newer lived of output here lacks true e =
        subst (λ (o : ℕ). HoldsMissing part config (now config passes (newer ++ older)).device.words o)
        (sym (eqb-true output step.output e)) (segment-at at step sound [] newer lived of).missing
    missing-in at step sound newer lived of output here lacks false e = λ register word is.
        still at step newer lived of output register here e ∙ at.missing output here lacks register word is

    at-next : {done : List RailStep} {older : List Event} → At done older → (step : RailStep) →
        IsSoundStep config passes part before step (stair_of start done step.output) → (newer : List Event) →
        IsLived config passes (newer ++ older) → IsOfStep config passes part step.output step.deed newer older →
        IsOver config passes part step.output step.deed (newer ++ older) → At (step ∷ done) (newer ++ older)
    at-next {done = done} {older = older} at step sound newer lived of over = record {
      idle = over-idle config passes part step.output step.deed (newer ++ older) over;
      words = λ output register here. word-at output register here (output == step.output) refl;
      fresh = λ cell since. since-later config passes part step.output step.deed cell newer older (at.fresh cell since) of;
      missing = λ output here lacks. missing-in at step sound newer lived of output here lacks (output == step.output) refl;
    }
      where
        part-of : Segment config passes part step.output step.deed [] newer older
        part-of = segment-at at step sound [] newer lived of

        word-at : (output : ℕ) (register : Reg) → output < config.count → (b : Bool) → (output == step.output) ≡ b →
            counts_at config passes (newer ++ older) output register ≡ stair_of start (step ∷ done) output register
        word-at output register here true e =
            subst (λ (o : ℕ). counts_at config passes (newer ++ older) o register ≡ done_to (stair_of start done o) step.deed register)
            (sym (eqb-true output step.output e))
            (part-of.over over register
            ∙ ap (λ (h : Held). done_to h step.deed register) (held-is at step.output sound.here))
            ∙ sym (ap (λ (b : Bool). cond b (done_to (stair_of start done output) step.deed) (stair_of start done output) register) e)
        word-at output register here false e = ap (counting_word register) (still at step newer lived of output register here e)
            ∙ at.words output register here
            ∙ sym (ap (λ (b : Bool). cond b (done_to (stair_of start done output) step.deed) (stair_of start done output) register) e)

    -- before the first step
    rest-words : (later : List Event) → is_busy (now config passes before).host ≡ false → IsAtRest config passes later before →
        IsLived config passes (later ++ before) → (output : ℕ) (register : Reg) → output < config.count →
        held_at config passes (later ++ before) output register ≡ held_at config passes before output register
    rest-words later idle rest lived output register here = laws.cells.kept config passes (Out output register) later before lived here idle
        (rest-none config passes output register later before rest)

    at-start : (later : List Event) → is_busy (now config passes before).host ≡ false → IsAtRest config passes later before →
        IsLived config passes (later ++ before) → is_busy (now config passes (later ++ before)).host ≡ false → At [] (later ++ before)
    at-start later idle rest lived over = record {
      idle = over;
      words = λ output register here. ap (counting_word register) (rest-words later idle rest lived output register here);
      fresh = λ cell since. since-still config passes cell later before since (rest-still config passes later before rest);
      missing = λ output here lacks register word is. rest-words later idle rest lived output register here ∙ lacks register word is;
    }

    pub at-of : {steps : List RailStep} {events : List Event} → IsStairs config passes part before steps events →
        AreSound config passes part before steps → IsLived config passes events → AreOver config passes part steps events →
        At steps events
    at-of (stands later idle rest) sound lived over = at-start later idle rest lived over
    at-of (climbs step done newer older c was of) sound lived over =
        at-next (at-of c sound.1 (laws.lives.earlier config passes newer older lived) was) step sound.0 newer lived of over

    -- at any moment, what was read and what the part lacks
    pub fresh-of : {steps : List RailStep} {events : List Event} → IsStairs config passes part before steps events →
        AreSound config passes part before steps → IsLived config passes events → (cell : Cell) →
        (host_has_read config passes cell before ≡ true → restarted_since config passes cell before ≡ false) →
        host_has_read config passes cell events ≡ true → restarted_since config passes cell events ≡ false
    fresh-of (stands later idle rest) sound lived cell since =
        since-still config passes cell later before since (rest-still config passes later before rest)
    fresh-of (climbs step done newer older c was of) sound lived cell since =
        let at = at-of c sound.1 (laws.lives.earlier config passes newer older lived) was in
        since-later config passes part step.output step.deed cell newer older (at.fresh cell since) of

    pub missing-of : {steps : List RailStep} {events : List Event} → IsStairs config passes part before steps events →
        AreSound config passes part before steps → IsLived config passes events → (output : ℕ) → output < config.count →
        HoldsMissing part config (now config passes before).device.words output →
        HoldsMissing part config (now config passes events).device.words output
    missing-of (stands later idle rest) sound lived output here lacks = λ register word is.
        rest-words later idle rest lived output register here ∙ lacks register word is
    missing-of (climbs step done newer older c was of) sound lived output here lacks =
        missing-in (at-of c sound.1 (laws.lives.earlier config passes newer older lived) was) step sound.0 newer lived of output here lacks
        (output == step.output) refl

    -- its own stair, from its words before
    own-stair : {done : List RailStep} {older : List Event} → At done older → (step : RailStep) → step.output < config.count →
        stand_by (value_for config step.output) (done_to (counts_at config passes older step.output) step.deed)
        ≡ stair_stand config passes before (step ∷ done) step.output
    own-stair {done = done} at step here =
        let old = stair_of start done step.output in
        ap (λ (h : Held). stand_by (value_for config step.output) (done_to h step.deed)) (held-is at step.output here)
        ∙ sym (ap (λ (b : Bool). stand_by (value_for config step.output) (cond b (done_to old step.deed) old)) (itself step.output))

    between-step : {done : List RailStep} {older : List Event} → At done older → (step : RailStep) →
        IsSoundStep config passes part before step (stair_of start done step.output) → (newer : List Event) →
        IsLived config passes (newer ++ older) → IsOfStep config passes part step.output step.deed newer older →
        IsBetween config passes before (step ∷ done) (newer ++ older)
    between-step {done = done} {older = older} at step sound newer lived of = (
      λ output register here apart.
          ap (counting_word register) (still at step newer lived of output register here apart) ∙ at.words output register here,
      own,
    )
      where
        own : (stands_at config passes (newer ++ older) step.output ≡ stair_stand config passes before done step.output)
            ⊎ (stands_at config passes (newer ++ older) step.output ≡ stair_stand config passes before (step ∷ done) step.output)
        own = elim (segment-at at step sound newer [] lived
            (subst (λ (l : List Event). IsOfStep config passes part step.output step.deed l older) (sym (append-nil newer)) of)).goes [
              | inl e ↦ inl (e ∙ stands-is config passes older step.output
                  ∙ sym (stand-counts (value_for config step.output) (held_at config passes older step.output))
                  ∙ ap (λ (h : Held). stand_by (value_for config step.output) h) (held-is at step.output sound.here))
              | inr e ↦ inr (e ∙ own-stair at step sound.here)
            ]

    pub between-of : {steps : List RailStep} {events : List Event} → IsStairs config passes part before steps events →
        AreSound config passes part before steps → IsLived config passes events → IsBetween config passes before steps events
    between-of (stands later idle rest) sound lived = rest-words later idle rest lived
    between-of (climbs step done newer older c was of) sound lived =
        between-step (at-of c sound.1 (laws.lives.earlier config passes newer older lived) was) step sound.0 newer lived of

    -- a moment of the step under way
    was-now : {done : List RailStep} {older : List Event} → IsStairs config passes part before done older →
        AreOver config passes part done older → At done older → (step : RailStep) →
        IsSoundStep config passes part before step (stair_of start done step.output) → (newer later : List Event) →
        IsLived config passes (newer ++ (later ++ older)) →
        IsOfStep config passes part step.output step.deed (newer ++ later) older →
        WasBetween config passes part before (step ∷ done) (later ++ older) (newer ++ (later ++ older))
    was-now {done = done} {older = older} c was at step sound newer later lived of =
        let of' = first-of config passes part step.output step.deed newer later older of in
        record {
          ahead = [];
          begun = step ∷ done;
          is = refl;
          climbed = climbs step done later older c was of';
          between = between-step at step sound later (laws.lives.earlier config passes newer (later ++ older) lived) of';
          on = λ e. elim (segment-at at step sound newer later lived of).goes [
            | inl same ↦ inl same
            | inr up ↦ inr (up ∙ own-stair at step sound.here)
          ];
        }

    -- a moment of an earlier one
    was-earlier : {done : List RailStep} {earlier older events : List Event} (step : RailStep) →
        WasBetween config passes part before done earlier older → WasBetween config passes part before (step ∷ done) earlier events
    was-earlier step w = record {
      ahead = step ∷ w.ahead;
      begun = w.begun;
      is = ap (λ (l : List RailStep). step ∷ l) w.is;
      climbed = w.climbed;
      between = w.between;
      on = λ e. absurd (let bad = e in cc);
    }

    was-rest : (newer later : List Event) → is_busy (now config passes before).host ≡ false → IsAtRest config passes (newer ++ later) before →
        IsLived config passes (newer ++ (later ++ before)) →
        WasBetween config passes part before [] (later ++ before) (newer ++ (later ++ before))
    was-rest newer later idle rest lived =
        let rest' = first-rest config passes newer later before rest in
        record {
          ahead = [];
          begun = [];
          is = refl;
          climbed = stands later idle rest';
          between = rest-words later idle rest' (laws.lives.earlier config passes newer (later ++ before) lived);
          on = λ e. tt;
        }

    pub was-of : {steps : List RailStep} {events : List Event} → IsStairs config passes part before steps events →
        (newer later : List Event) → events ≡ newer ++ (later ++ before) →
        AreSound config passes part before steps → IsLived config passes events →
        WasBetween config passes part before steps (later ++ before) events
    was-of (stands all idle rest) newer later e sound lived =
        let same : all ≡ newer ++ later = append_cancel_right all (newer ++ later) before (e ∙ sym (append_assoc newer later before)) in
        subst (λ (es : List Event). WasBetween config passes part before [] (later ++ before) es) (sym e)
        (was-rest newer later idle (subst (λ (l : List Event). IsAtRest config passes l before) same rest)
        (subst (λ (es : List Event). IsLived config passes es) e lived))
    was-of (climbs step done all older c was of) newer later e sound lived = elim (split all older newer (later ++ before) e) [
      | inl more ↦
          let at = at-of c sound.1 (laws.lives.earlier config passes all older lived) was in
          let same : all ++ older ≡ newer ++ (more.0 ++ older) = ap (λ (l : List Event). l ++ older) more.1
          ∙ append_assoc newer more.0 older in
          subst (λ (es : List Event). WasBetween config passes part before (step ∷ done) es (all ++ older)) (sym more.2)
          (subst (λ (es : List Event). WasBetween config passes part before (step ∷ done) (more.0 ++ older) es) (sym same)
          (was-now c was at step sound.0 newer more.0 (subst (λ (es : List Event). IsLived config passes es) same lived)
          (subst (λ (l : List Event). IsOfStep config passes part step.output step.deed l older) more.1 of)))
      | inr more ↦ was-earlier step (was-of c more.0 later more.2 sound.1 (laws.lives.earlier config passes all older lived))
    ]

-- each output alone
each-of : (config : Config) (passes : ℕ) (before events : List Event) (step : RailStep) (done : List RailStep) →
    IsBetween config passes before (step ∷ done) events → (output : ℕ) → output < config.count → (b : Bool) → (output == step.output) ≡ b →
    (stands_at config passes events output ≡ stair_stand config passes before done output)
    ⊎ (stands_at config passes events output ≡ stair_stand config passes before (step ∷ done) output)
each-of config passes before events step done between output here true e =
    subst (λ (o : ℕ). (stands_at config passes events o ≡ stair_stand config passes before done o)
    ⊎ (stands_at config passes events o ≡ stair_stand config passes before (step ∷ done) o)) (sym (eqb-true output step.output e)) between.1
each-of config passes before events step done between output here false e =
    inl (stands-is config passes events output ∙ sym (stand-counts (value_for config output) (held_at config passes events output))
    ∙ ap (λ (h : Held). stand_by (value_for config output) h) (fun_ext (λ (r : Reg). between.0 output r here e)))

pub stairs-hold : SegmentsBelow → StairsHoldInLives
stairs-hold laws config passes events spelled lived = record {
  between = λ part steps before sound c. between-of laws config passes part before spelled c sound lived;
  each = λ part step done before sound c output here. each-of config passes before events step done
      (between-of laws config passes part before spelled c sound lived) output here (output == step.output) refl;
  earlier = λ part steps newer later before e sound c. was-of laws config passes part before spelled c newer later e sound lived;
  over = λ part steps before sound c over. (at-of laws config passes part before spelled c sound lived over).words;
  read = λ part steps before cell sound c since. fresh-of laws config passes part before spelled c sound lived cell since;
  missing = λ part steps before output sound c here lacks. missing-of laws config passes part before spelled c sound lived output here lacks;
}

-- The way back, step by step.

-- ---- Over words alone ----

-- a deed that is done is undone
undone-one : (wants : Option ℕ) (old : ℕ) → unwrap_or (option_map (λ (word : ℕ). old) wants) (unwrap_or wants old) ≡ old
undone-one None old = refl
undone-one (Some word) old = refl

undone-byte : (old : Held) (byte : ℕ) → command_of (old Operation) ≡ old Operation → (r : Reg) →
    put (put old Operation byte) Operation (command_of (old Operation)) r ≡ old r
undone-byte old byte same Operation = same
undone-byte old byte same VoutCommand = refl
undone-byte old byte same VoutMax = refl
undone-byte old byte same MarginHigh = refl
undone-byte old byte same MarginLow = refl
undone-byte old byte same VoutMin = refl

undone : (old : Held) (deed : Deed) → command_of (old Operation) ≡ old Operation → (r : Reg) →
    done_to (done_to old deed) (undoing_deed old deed) r ≡ old r
undone old (Sets wants) same r = undone-one (wants r) (old r)
undone old (Turns byte) same r = undone-byte old (command_of byte) same r
undone old Nothing same r = refl

-- a stair has commands alone
commanded-deed : (held : Held) (deed : Deed) → TurnsNothing deed → command_of (held Operation) ≡ held Operation →
    command_of (done_to held deed Operation) ≡ done_to held deed Operation
commanded-deed held (Sets wants) none same = ap (λ (o : Option ℕ). command_of (unwrap_or o (held Operation))) none ∙ same
    ∙ sym (ap (λ (o : Option ℕ). unwrap_or o (held Operation)) none)
commanded-deed held (Turns byte) none same = itself-commanded byte
commanded-deed held Nothing none same = same

stair-commanded : (config : Config) (passes : ℕ) (part : PartRegisters) (before : List Event) (done : List RailStep) →
    AreSound config passes part before done → (output : ℕ) →
    command_of (stair_of (stair_start_of config passes before) done output Operation) ≡ stair_of (stair_start_of config passes before) done output Operation
stair-commanded config passes part before [] sound output = itself-commanded (held_at config passes before output Operation)
stair-commanded config passes part before (step ∷ done) sound output =
    go (output == step.output) (stair-commanded config passes part before done sound.1 output)
  where
    old : Held
    old = stair_of (stair_start_of config passes before) done output

    go : (b : Bool) → command_of (old Operation) ≡ old Operation →
        command_of (cond b (done_to old step.deed) old Operation) ≡ cond b (done_to old step.deed) old Operation
    go true earlier = commanded-deed old step.deed sound.0.still earlier
    go false earlier = earlier

-- what undoes a deed turns nothing where it doesn't
back-still : (old : Held) (deed : Deed) → TurnsNothing deed → TurnsNothing (undoing_deed old deed)
back-still old (Sets wants) none = ap (λ (o : Option ℕ). option_map (λ (word : ℕ). old Operation) o) none
back-still old (Turns byte) none = tt
back-still old Nothing none = tt

-- two steps need the same registers
some-back : (wants : Option ℕ) (old : ℕ) → is_some (option_map (λ (word : ℕ). old) wants) ≡ is_some wants
some-back None old = refl
some-back (Some word) old = refl

abbrev meant : Reg → ℕ → Bool → Bool
meant register byte some = same_register register (selected_register byte) || some

needed-back : (old held : Held) (wants : Wants) → held Operation ≡ old Operation → (register : Reg) →
    is_needed held (λ r. option_map (λ (word : ℕ). old r) (wants r)) register ≡ is_needed old wants register
needed-back old held wants same Operation = refl
needed-back old held wants same VoutMax = refl
needed-back old held wants same VoutMin = refl
needed-back old held wants same register =
    ap (λ (byte : ℕ). meant register byte (is_some (option_map (λ (word : ℕ). old register) (wants register)))) same
    ∙ ap (λ (b : Bool). meant register (old Operation) b) (some-back (wants register) (old register))

module _ (count : ℕ) (start : Rails) where
  -- such rails are at the stair of the steps, or on the way to it from that before the newest step
  record IsHalf (step : RailStep) (done : List RailStep) (rails : Rails) : Type 0 where
    others : (output : ℕ) (register : Reg) → output < count → (output == step.output) ≡ false →
        rails output register ≡ stair_of start done output register
    own : (register : Reg) → done_to (rails step.output) (undoing_deed (stair_of start done step.output) step.deed) register
        ≡ stair_of start done step.output register

  abbrev IsWhole : List RailStep → Rails → Type 0
  IsWhole steps rails = (output : ℕ) (register : Reg) → output < count → rails output register ≡ stair_of start steps output register

  whole-half : (step : RailStep) (done : List RailStep) (rails : Rails) → step.output < count →
      command_of (stair_of start done step.output Operation) ≡ stair_of start done step.output Operation → IsWhole (step ∷ done) rails →
      IsHalf step done rails
  whole-half step done rails here same whole = record {
    others = λ output register there apart. whole output register there
        ∙ ap (λ (b : Bool). cond b (done_to (stair_of start done output) step.deed) (stair_of start done output) register) apart;
    own = λ register.
        let old = stair_of start done step.output in
        ap (λ (h : Held). done_to h (undoing_deed old step.deed) register)
        (fun_ext (λ (r : Reg). whole step.output r here) ∙ ap (λ (b : Bool). cond b (done_to old step.deed) old) (itself step.output))
        ∙ undone old step.deed same register;
  }

  -- one step down
  step-down : (from : Rails) (step : RailStep) (done downs : List RailStep) → IsHalf step done (stair_of from downs) →
      IsWhole done (stair_of from (back_step start done step ∷ downs))
  step-down from step done downs half output register here = go (output == step.output) refl where
    rails : Rails
    rails = stair_of from downs

    deed : Deed
    deed = undoing_deed (stair_of start done step.output) step.deed

    go : (b : Bool) → (output == step.output) ≡ b →
        cond b (done_to (stair_of from downs output) (undoing_deed (stair_of start done step.output) step.deed)) (stair_of from downs output) register
        ≡ stair_of start done output register
    go true e = subst (λ (o : ℕ). done_to (stair_of from downs o) (undoing_deed (stair_of start done step.output) step.deed) register
        ≡ stair_of start done o register) (sym (eqb-true output step.output e)) (half.own register)
    go false e = half.others output register here e

module _ (laws : SegmentsBelow) (config : Config) (passes : ℕ) (part : PartRegisters) (before : List Event) (spelled : IsSpelled config)
  where
    abbrev back_start : Rails
    back_start = stair_start_of config passes before

    -- the rails wherever steps are stopped
    half-at : {done : List RailStep} {older : List Event} → At laws config passes part before spelled done older → (step : RailStep) →
        IsSoundStep config passes part before step (stair_of back_start done step.output) → (newer : List Event) →
        IsLived config passes (newer ++ older) → IsOfStep config passes part step.output step.deed newer older →
        IsHalf config.count back_start step done (stair_start_of config passes (newer ++ older))
    half-at {older = older} at step sound newer lived of = record {
      others = λ output register here apart.
          ap (counting_word register) (still laws config passes part before spelled at step newer lived of output register here apart)
          ∙ at.words output register here;
      own = subst (λ (h : Held). (register : Reg) → done_to (counts_at config passes (newer ++ older) step.output) (undoing_deed h step.deed) register
          ≡ h register) (held-is laws config passes part before spelled at step.output sound.here)
          (segment-at laws config passes part before spelled at step sound [] newer lived of).back;
    }

    half-of : {step : RailStep} {done : List RailStep} {stop : List Event} → IsStairs config passes part before (step ∷ done) stop →
        AreSound config passes part before (step ∷ done) → IsLived config passes stop →
        IsHalf config.count back_start step done (stair_start_of config passes stop)
    half-of (climbs step done newer older c was of) sound lived =
        half-at (at-of laws config passes part before spelled c sound.1 (laws.lives.earlier config passes newer older lived) was)
        step sound.0 newer lived of

    -- what is read for the way back
    read-back : (stop : List Event) (output : ℕ) (deed : Deed) (old held : Held) → TurnsNothing deed →
        (done_to held (undoing_deed old deed) Operation ≡ old Operation) →
        ((cell : Cell) → (host_has_read config passes cell before ≡ true → restarted_since config passes cell before ≡ false) →
        host_has_read config passes cell stop ≡ true → restarted_since config passes cell stop ≡ false) →
        IsReadFor config passes output deed old before → IsReadFor config passes output (undoing_deed old deed) held stop
    read-back stop output (Sets wants) old held none own fresh read = λ register needed.
        let same = sym (ap (λ (o : Option ℕ). unwrap_or (option_map (λ (word : ℕ). old Operation) o) (held Operation)) none) ∙ own in
        fresh (Out output register) (read register (sym (needed-back old held wants same register) ∙ needed))
    read-back stop output (Turns byte) old held none own fresh read = fresh (Out output Operation) read
    read-back stop output Nothing old held none own fresh read = tt

    module _ (stop : List Event) (fresh : (cell : Cell) →
        (host_has_read config passes cell before ≡ true → restarted_since config passes cell before ≡ false) →
        host_has_read config passes cell stop ≡ true → restarted_since config passes cell stop ≡ false)
        (missing : (output : ℕ) → output < config.count → HoldsMissing part config (now config passes before).device.words output →
        HoldsMissing part config (now config passes stop).device.words output) where
      abbrev from : Rails
      from = stair_start_of config passes stop

      sound-back : (step : RailStep) (done downs : List RailStep) →
          IsSoundStep config passes part before step (stair_of back_start done step.output) →
          IsHalf config.count back_start step done (stair_of from downs) →
          IsSoundStep config passes part stop (back_step back_start done step) (stair_of from downs step.output)
      sound-back step done downs sound half = record {
        here = sound.here;
        still = back-still (stair_of back_start done step.output) step.deed sound.still;
        read = read-back stop step.output step.deed (stair_of back_start done step.output) (stair_of from downs step.output) sound.still
            (half.own Operation) fresh sound.read;
        missing = missing step.output sound.here sound.missing;
      }

      all-down : (step : RailStep) (newest left downs : List RailStep) → AreSound config passes part before (step ∷ newest ++ left) →
          IsHalf config.count back_start step (newest ++ left) (stair_of from downs) → AreSound config passes part stop downs →
          (IsWhole config.count back_start left (stair_of from (downs_of back_start (step ∷ newest) left downs)))
          × AreSound config passes part stop (downs_of back_start (step ∷ newest) left downs)
      all-down step [] left downs sound half are = (
        step-down config.count back_start from step left downs half,
        (sound-back step left downs sound.0 half, are),
      )
      all-down step (next ∷ newest) left downs sound half are =
          all-down next newest left (back_step back_start (next ∷ newest ++ left) step ∷ downs) sound.1
          (whole-half config.count back_start next (newest ++ left)
          (stair_of from (back_step back_start (next ∷ newest ++ left) step ∷ downs)) sound.1.0.here
          (stair-commanded config passes part before (newest ++ left) sound.1.1 next.output)
          (step-down config.count back_start from step (next ∷ newest ++ left) downs half))
          (sound-back step (next ∷ newest ++ left) downs sound.0 half, are)

    goes-back : (stop : List Event) (step : RailStep) (newest left : List RailStep) → IsLived config passes stop →
        AreSound config passes part before (step ∷ newest ++ left) → IsStairs config passes part before (step ∷ newest ++ left) stop →
        GoesBack config passes part before stop step newest left
    goes-back stop step newest left lived sound c =
        let both = all-down stop (fresh-of laws config passes part before spelled c sound lived)
        (missing-of laws config passes part before spelled c sound lived) step newest left [] sound (half-of c sound lived) tt in
        record { words = both.0; sound = both.1 }

-- the life before the steps
lived-start : SegmentsBelow
    → (config : Config) (passes : ℕ) (part : PartRegisters) (stop : List Event) {steps : List RailStep} {events : List Event} →
    IsStairs config passes part stop steps events → IsLived config passes events → IsLived config passes stop
lived-start laws config passes part stop (stands later idle rest) lived = laws.lives.earlier config passes later stop lived
lived-start laws config passes part stop (climbs step done newer older c was of) lived =
    lived-start laws config passes part stop c (laws.lives.earlier config passes newer older lived)

-- ---- Of a byte only the command counts ----

done-counted : (held : Held) (deed : Deed) → done_to held (counted_deed deed) ≡ done_to held deed
done-counted held (Sets wants) = refl
done-counted held (Turns byte) = ap (λ (word : ℕ). put held Operation word) (itself-commanded byte)
done-counted held Nothing = refl

stair-counted : (rails : Rails) (steps : List RailStep) (output : ℕ) →
    stair_of rails (map counted_step steps) output ≡ stair_of rails steps output
stair-counted rails [] output = refl
stair-counted rails (step ∷ steps) output = go (output == step.output) (stair-counted rails steps output) where
  go : (b : Bool) → stair_of rails (map counted_step steps) output ≡ stair_of rails steps output →
      cond b (done_to (stair_of rails (map counted_step steps) output) (counted_deed step.deed))
      (stair_of rails (map counted_step steps) output) ≡ cond b (done_to (stair_of rails steps output) step.deed) (stair_of rails steps output)
  go true same = ap (λ (h : Held). done_to h (counted_deed step.deed)) same ∙ done-counted (stair_of rails steps output) step.deed
  go false same = same

still-counted : (deed : Deed) → TurnsNothing (counted_deed deed) → TurnsNothing deed
still-counted (Sets wants) none = none
still-counted (Turns byte) none = tt
still-counted Nothing none = tt

read-counted : (config : Config) (passes output : ℕ) (deed : Deed) (held : Held) (before : List Event) →
    IsReadFor config passes output (counted_deed deed) held before → IsReadFor config passes output deed held before
read-counted config passes output (Sets wants) held before read = read
read-counted config passes output (Turns byte) held before read = read
read-counted config passes output Nothing held before read = tt

sound-counted : (config : Config) (passes : ℕ) (part : PartRegisters) (before : List Event) (steps : List RailStep) →
    AreSound config passes part before (map counted_step steps) → AreSound config passes part before steps
sound-counted config passes part before [] sound = tt
sound-counted config passes part before (step ∷ steps) sound = (
  record {
    here = sound.0.here;
    still = still-counted step.deed sound.0.still;
    read = read-counted config passes step.output step.deed (stair_of (stair_start_of config passes before) steps step.output) before
        (subst (λ (h : Held). IsReadFor config passes step.output (counted_deed step.deed) h before)
        (stair-counted (stair_start_of config passes before) steps step.output) sound.0.read);
    missing = sound.0.missing;
  },
  sound-counted config passes part before steps sound.1,
)

pub stairs-go-back : SegmentsBelow → StairsHoldInLives → StairsGoBack
stairs-go-back laws hold = record {
  there = λ config passes part before stop step newest left spelled lived sound c.
      goes-back laws config passes part before spelled stop step newest left lived sound c;
  back = λ config passes part before stop events step newest downs spelled lived sound c are d over output register here.
      let lived' = lived-start laws config passes part stop d lived in
      let same : newest ++ [] ≡ newest = append-nil newest in
      let way = goes-back laws config passes part before spelled stop step newest [] lived'
      (subst (λ (l : List RailStep). AreSound config passes part before (step ∷ l)) (sym same) sound)
      (subst (λ (l : List RailStep). IsStairs config passes part before (step ∷ l) stop) (sym same) c) in
      let all : AreSound config passes part stop downs = sound-counted config passes part stop downs
      (subst (λ (l : List RailStep). AreSound config passes part stop l) (sym are) way.sound) in
      (hold config passes events spelled lived).over part downs stop all d over output register here
      ∙ sym (ap (λ (h : Held). h register) (stair-counted (stair_start_of config passes stop) downs output))
      ∙ ap (λ (l : List RailStep). stair_of (stair_start_of config passes stop) l output register) are
      ∙ way.words output register here;
}

-- Steps event by event.

-- an order that is next by what is known now is one of the step's
module _ (config : Config) (passes : ℕ) (part : PartRegisters) where
  next-job : (output : ℕ) (deed : Deed) (later before : List Event) (job : Option host.Job) →
      MayNext config passes part output deed (later ++ before) job → AsksWithinDeed config passes part output deed later before job
  next-job output (Sets wants) later before (Some (host.Order (Out o q) word)) may = (may.0, inl may.1)
  next-job output (Turns byte) later before (Some (host.Order (Out o q) word)) may = may
  next-job output Nothing later before (Some (host.Order (Out o q) word)) may = may
  next-job output deed later before (Some (host.Order Protect word)) may = tt
  next-job output deed later before (Some (host.Send RestoreUserAll)) may = may
  next-job output deed later before job may = tt

  goes-on : {before events : List Event} {step : RailStep} {done : List RailStep} (event : Event) →
      IsStairs config passes part before (step ∷ done) events → restarts_converter event ≡ false →
      MayNext config passes part step.output step.deed events (asked (now config passes events) event) →
      IsStairs config passes part before (step ∷ done) (event ∷ events)
  goes-on event (climbs step done newer older c was of) steady may = climbs step done (event ∷ newer) older c was (
    steady,
    next-job step.output step.deed newer older (asked (now config passes (newer ++ older)) event) may,
    of,
  )

  rests : {before events : List Event} (event : Event) → IsStairs config passes part before [] events →
      restarts_converter event ≡ false → MayRest (asked (now config passes events) event) →
      IsStairs config passes part before [] (event ∷ events)
  rests event (stands later idle rest) steady may = stands (event ∷ later) idle (steady, may, rest)

module _ (laws : SegmentsBelow) (config : Config) (passes : ℕ) (part : PartRegisters) (output : ℕ) (events : List Event)
    (lived : IsLived config passes events) (here : output < config.count) where
  abbrev s : Summary
  s = (now config passes events).host

  -- a cell that is known holds what is known
  known-held-at : (register : Reg) →
      (host_has_read config passes (Out output register) events ≡ true → restarted_since config passes (Out output register) events
      ≡ false) →
      is_none (known_word (Out output register) (possible_at s (Out output register))) ≡ false →
      known_word (Out output register) (possible_at s (Out output register)) ≡ Some (held_at config passes events output register)
  known-held-at register since some =
      known-is (known_word cell (possible_at s cell)) some
      ∙ ap (λ (w : ℕ). Some w) (known-held (λ c. possible_at s c) cell (held_at config passes events output register)
      ((laws.possible.held config passes events lived).held cell here
      (since ((laws.possible.held config passes events lived).found cell here listed))) some)
    where
      cell : Cell
      cell = Out output register

      listed : possible_at s cell ≡ Any → ⊥
      listed any = let bad = sym (ap (λ (p : Possible). is_none (known_word cell p)) any) ∙ some in cc

  -- the only word that a cell may hold is the one that it holds
  sole-held-at : (register : Reg) (word : ℕ) →
      (host_has_read config passes (Out output register) events ≡ true → restarted_since config passes (Out output register) events
      ≡ false) →
      sole (possible_at s (Out output register)) ≡ Some word → word ≡ held_at config passes events output register
  sole-held-at register word since is = sym (ap (λ (o : Option ℕ). unwrap_or o 0) is)
      ∙ only-possible (held_at config passes events output register) (possible_at s cell)
      ((laws.possible.held config passes events lived).held cell here
      (since ((laws.possible.held config passes events lived).found cell here listed))) (ap (λ (o : Option ℕ). is_none o) is)
    where
      cell : Cell
      cell = Out output register

      listed : possible_at s cell ≡ Any → ⊥
      listed any = let bad = sym (ap (λ (p : Possible). sole p) any) ∙ is in cc

  known-plan : (limits : OutputLimits) (order : Option PlanOrder) (wants : Wants) (register : Reg) (word : ℕ) →
      IsReadFor config passes output (Sets wants) (held_at config passes events output) events →
      plan_of part s limits output wants ≡ Ok order → wants register ≡ Some word →
      known_word (Out output register) (possible_at s (Out output register)) ≡ Some (held_at config passes events output register)
  known-plan limits order wants register word read is wanted =
      known-held-at register (read register (wanted-needed (held_at config passes events output) wants register some))
      (ap (λ (p : Possible). is_none (known_word (Out output register) p)) (sym there)
      ∙ known-all cells output (known_of cells output) wants planned.known register
      (wanted-needed (known_of cells output) wants register some))
    where
      planned : IsPlanned part s limits output wants order
      planned = is-planned part s limits output wants order is

      cells : Cells
      cells = cells_of part planned.shape s

      some : is_some (wants register) ≡ true
      some = ap (λ (o : Option ℕ). is_some o) wanted

      there : cells (Out output register) ≡ possible_at s (Out output register)
      there = ap (λ (o : Option ℕ). option_map_or possible_only o (possible_at s (Out output register)))
          (has-none part planned.shape register (wanted-has part wants planned.there register some))

  -- a register of which a word is wanted isn't OPERATION: all of its word counts
  wanted-counts : (wants : Wants) → wants Operation ≡ None → (register : Reg) (word : ℕ) → wants register ≡ Some word →
      held_at config passes events output register ≡ counts_at config passes events output register
  wanted-counts wants none Operation word wanted = absurd (let bad = sym none ∙ wanted in cc)
  wanted-counts wants none register word wanted = refl

  known-deed : (deed : Deed) (before : List Event) (done : List RailStep) → TurnsNothing deed →
      IsReadFor config passes output deed (held_at config passes events output) events →
      ((register : Reg) → counts_at config passes events output register
      ≡ stair_of (stair_start_of config passes before) done output register) →
      IsKnownFrom config passes part before done output deed events
  known-deed (Sets wants) before done none read words = λ limits order register word is wanted.
      known-plan limits order wants register word read is wanted
      ∙ ap (λ (w : ℕ). Some w) (wanted-counts wants none register word wanted ∙ words register)
  known-deed (Turns byte) before done none read words = λ word is. ap command_of (sole-held-at Operation word read is) ∙ words Operation
  known-deed Nothing before done none read words = tt

pub stairs-are-followed : SegmentsBelow → StairsAreFollowed
stairs-are-followed laws = record {
  none = λ config passes part before idle. stands [] idle tt;
  rest = λ config passes part before events event c steady may. rests config passes part event c steady may;
  begin = λ config passes part before events step done c over. climbs step done [] events c over tt;
  more = λ config passes part before events event step done c steady may. goes-on config passes part event c steady may;
  known = λ config passes part before events step done spelled lived sound c over.
      let at = at-of laws config passes part before spelled c sound.1 lived over in
      known-deed laws config passes part step.output events lived sound.0.here step.deed before done sound.0.still
      (read-at laws config passes part before spelled at step.output sound.0.here step.deed sound.0.read)
      (λ register. at.words step.output register sound.0.here);
}

-- A list of steps over one host names what its stairs do.
