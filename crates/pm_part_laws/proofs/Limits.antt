-- What limits and bands are worth beside a part, the words of its own that an output has, and a survey there.
use Rattle.std.specs.Option.{option_map_or}
use Rattle.std.specs.Prelude.{IsSomeAnd, option_and_then, slice_index_or, is_none}
use Rattle.std.proofs.Common.{◌≡◌, ◌⊎◌, ◌<◌, inl, inr, ℕ, List, [], ◌∷◌, ◌++◌, Option, Some, refl, sym, ◌∙◌, ap, subst, arith, append_assoc}
use Rattle.std.proofs.Common.{◌^◌, true, None, Bool, false, ◌||◌, ap₂}
use Rattle.pm_num.specs.AnyFormat.{Shape, shape_value}
use Rattle.pm_num.specs.Ratio.{Ratio, AtMost}
use Rattle.pm_table.specs.{Cell.is_voltage, declared.cell.Cell.Cell, declared.reg.Reg.Reg}
use Rattle.pm_table.specs.declared.cell.Cell.TheVariants.{Out, Protect}
use Rattle.pm_table.specs.declared.reg.Reg.TheVariants.{VoutMax, VoutMin}
use Rattle.pm_model.specs.OrderMachine.{Accept}
use Rattle.pm_model.specs.Commanded.{commanded, limited}
use Rattle.pm_model.specs.Settings.{Words, word_at}
use Rattle.pm_model.specs.declared.order_machine.PendingJob.TheVariants as pending
use Rattle.pm_device.specs.declared.config.Config.{Config}
use Rattle.pm_device.specs.Held.{Held, value_for, shape_for}
use Rattle.pm_host.specs.{Jobs.accepted_job, declared.job.Job.Job as Asked}
use Rattle.pm_host.specs.Summary.{Summary, format_at, possible_at}
use Rattle.pm_host.specs.Transcript as host
use Rattle.pm_limits.specs.{Laws.GuardedOrdersAreWithin, Part.missing_word, declared.output_limits.OutputLimits.OutputLimits}
use Rattle.pm_limits.specs.{declared.part_registers.PartRegisters.PartRegisters}
use Rattle.pm_limits.specs.Band.{InBand, band_at, decides}
use Rattle.pm_limits.specs.Bounds.{Bounds, IsWithin}
use Rattle.pm_limits.specs.Guard.{Guarded, guard_fault}
use Rattle.pm_limits.specs.declared.output_limits.OutputLimits.TheVariants.{Unlimited, Between}
use Rattle.pm_rail.specs.Orders.{is_needed}
use Rattle.pm_rail.specs.Known.{Cells, cells_of, known_at, known_of}
use Rattle.pm_rail.specs.Registers.{Wants, wants_of}
use Rattle.pm_rail.specs.Survey as survey
use Rattle.pm_rail.specs.Survey.{asking, is_surveyed, next_job, wanted_in}
use Rattle.pm_world.specs.{Job.asked_by, Lemmas.Orders.told-asked, Life.now, Parts.StoredConfigsStartSo, State.asked}
use Rattle.pm_world.specs.{declared.event.Event.Event}
use Rattle.pm_world.specs.Laws.{LivesAreOrders, ListsSayEnough}
use Rattle.pm_world.specs.Lemmas.{now-config, in-format}
use Rattle.pm_world.specs.LimitLaws.{BandsAreHeld as WorldBands, LivesStayLimited}
use Rattle.pm_world.specs.Limited.{StaysLimited, WordWithin, OwnWithin as WorldWithin, OrdersWithin as WorldOrders}
use Rattle.pm_world.specs.Limited.{commands as limited_world_commands}
use Rattle.pm_world.specs.Retelling.{WasOrdered as world_ordered, IsOwnWord as world_own, CommandsOwn as world_commands, accepts}
use Rattle.pm_world.specs.Retelling.{pending_of, steps_of_event, told_beside}
use Rattle.pm_world.specs.Surveys.{AreKnownSince as WorldKnown, AreRead as WorldRead, SurveysHoldInLives, cells_at as world_cells}
use Rattle.pm_part_laws.specs.{Answers.answers, Formats.FormatsAreTrue}
use Rattle.pm_part_laws.specs.Alike.{LivesAlike, SameSettingsLiveAlike, narrow, with_host_restart}
use Rattle.pm_part_laws.specs.Happenings.{Happening, Happens, Hears, IsLifeBeside, MayAllHappen, beside}
use Rattle.pm_part_laws.specs.Lemmas.Narrow.{asked-at, at, at-event, at-heard, at-more, at-none, config, earlier-may, likely, shape-at}
use Rattle.pm_part_laws.specs.Lemmas.Narrow.{since, at-since, commands-at, missing-at, stands-at, asked-like, later-begins, later-restarts}
use Rattle.pm_part_laws.specs.Lemmas.Narrow.{read-at, read-beside, read-like, since-append, since-at}
use Rattle.pm_part_laws.specs.Limits.{AreGuardedBeside, BandsAreHeldBeside, BeginsWithin, OrdersWithinBeside, OwnWithinBeside}
use Rattle.pm_part_laws.specs.Limits.{PartsStayLimited}
use Rattle.pm_part_laws.specs.OwnWords.{IsOwnWordBeside, PartsCommandOwn, WasOrdered, commands_beside}
use Rattle.pm_part_laws.specs.Surveys.{AreKnownSinceBeside, SurveysHoldBeside, cells_at_beside, was_read_beside}

-- The words of its own that an output of a part has, by the life that is like what happened beside it.

module _ (stored : StoredConfigsStartSo) (held : Held) (passes : ℕ) (alike : LivesAlike held passes) where
  abbrev here : Config
  here = config held passes alike

  -- an event of the life that is like what happened, as a happening or as one of those that led to the part
  record IsOf (happened : List Happening) (event : Event) (older : List Event) : Type 0 where
    later : List Happening
    one : Event
    before : List Happening
    is : happened ≡ later ++ Happens one ∷ before
    event_is : likely held passes alike before one ≡ event
    older_is : at held passes alike before ≡ older

  record IsOlder (event : Event) (older : List Event) : Type 0 where
    later : List Event
    is : with_host_restart alike.earlier ≡ later ++ event ∷ older

  find : (happened : List Happening) (later older : List Event) (event : Event) → at held passes alike happened ≡ later ++ event ∷ older →
      IsOf happened event older ⊎ IsOlder event older
  find [] later older event is = inr (record { later = later; is = sym (at-none held passes alike) ∙ is })
  find (Hears bytes ending ∷ happened) later older event is =
      more (find happened later older event (sym (at-heard held passes alike bytes ending happened) ∙ is)) where
        more : IsOf happened event older ⊎ IsOlder event older → IsOf (Hears bytes ending ∷ happened) event older ⊎ IsOlder event older
        more (inl of) = inl (record {
          later = Hears bytes ending ∷ of.later;
          one = of.one;
          before = of.before;
          is = ap (λ (l : List Happening). Hears bytes ending ∷ l) of.is;
          event_is = of.event_is;
          older_is = of.older_is;
        })
        more (inr old) = inr old
  find (Happens one ∷ happened) later older event is =
      go later (sym (at-more held passes alike one happened) ∙ is) (λ l. find happened l older event)
    where
      go : (l : List Event) → likely held passes alike happened one ∷ at held passes alike happened ≡ l ++ event ∷ older →
          ((k : List Event) → at held passes alike happened ≡ k ++ event ∷ older → IsOf happened event older ⊎ IsOlder event older) →
          IsOf (Happens one ∷ happened) event older ⊎ IsOlder event older
      go [] same found =
          let first : likely held passes alike happened one ≡ event = cc in
          let rest : at held passes alike happened ≡ older = cc in
          inl (record { later = []; one = one; before = happened; is = refl; event_is = first; older_is = rest })
      go (x ∷ l) same found =
          let rest : at held passes alike happened ≡ l ++ event ∷ older = cc in
          more (found l rest)
        where
          more : IsOf happened event older ⊎ IsOlder event older → IsOf (Happens one ∷ happened) event older ⊎ IsOlder event older
          more (inl of) = inl (record {
            later = Happens one ∷ of.later;
            one = of.one;
            before = of.before;
            is = ap (λ (h : List Happening). Happens one ∷ h) of.is;
            event_is = of.event_is;
            older_is = of.older_is;
          })
          more (inr old) = inr old

  -- one that was ordered
  pub ordered-own : (happened : List Happening) → MayAllHappen held passes happened → (output : ℕ) (register : Reg) (word : ℕ) →
      world_ordered here passes (at held passes alike happened) (Out output register) word → IsOwnWordBeside held passes happened output register word
  ordered-own happened may output register word was = go (find happened was.later was.before was.event was.is) where
    asks : asked (now here passes was.before) was.event ≡ Some (host.Order (Out output register) word)
    asks = told-asked here passes was.before was.event (Out output register) word was.orders

    go : IsOf happened was.event was.before ⊎ IsOlder was.event was.before → IsOwnWordBeside held passes happened output register word
    go (inl of) = inr (inr (record {
      later = of.later;
      event = of.one;
      before = of.before;
      is = of.is;
      orders = sym (asked-at held passes alike of.one of.before
          (earlier-may held passes of.later (Happens of.one ∷ of.before) (subst (λ (l : List Happening). MayAllHappen held passes l) of.is may)).1)
          ∙ (subst (λ (e : Event). asked (now here passes (at held passes alike of.before)) (likely held passes alike of.before of.one)
          ≡ asked (now here passes (at held passes alike of.before)) e) of.event_is refl
          ∙ (ap (λ (l : List Event). asked (now here passes l) was.event) of.older_is ∙ asks));
    }))
    go (inr old) = inl (alike.reached.ordered output register word (record {
      later = old.later;
      event = was.event;
      before = was.before;
      is = old.is;
      orders = was.orders;
    }))

  pub own-beside : (happened : List Happening) → MayAllHappen held passes happened → (output : ℕ) (register : Reg) (word : ℕ) → output < 8 →
      world_own here passes (at held passes alike happened) (Out output register) word →
      IsOwnWordBeside held passes happened output register word
  own-beside happened may output register word there (inl start) = inr (inl (start ∙ stored.starts held.config held.store output register there))
  own-beside happened may output register word there (inr was) = ordered-own happened may output register word was

  -- an order that the host accepted is one of the life
  pub ordered-like : (happened : List Happening) → MayAllHappen held passes happened → (output : ℕ) (register : Reg) (word : ℕ) →
      WasOrdered held passes happened output register word → world_ordered here passes (at held passes alike happened) (Out output register) word
  unfolding steps_of_event
  ordered-like happened may output register word was = record {
    later = since held passes alike was.later (Happens was.event ∷ was.before);
    event = likely held passes alike was.before was.event;
    before = at held passes alike was.before;
    is = ap (at held passes alike) was.is ∙ at-event held passes alike was.later was.before was.event;
    orders = ap (λ (o : Option host.Job). option_map_or (λ job. accepts (pending_of job)) o
        (told_beside here passes (at held passes alike was.before) (likely held passes alike was.before was.event)))
        (asked-at held passes alike was.event was.before
        (earlier-may held passes was.later (Happens was.event ∷ was.before) (subst (λ (l : List Happening). MayAllHappen held passes l) was.is may)).1
        ∙ was.orders);
  }

pub command-own : SameSettingsLiveAlike → StoredConfigsStartSo → LivesAreOrders → PartsCommandOwn
command-own alike stored law = record {
  commanded = λ held passes happened output is there.
      let all = alike held passes is.part is.spelled is.made in
      let like = all.like happened is.may in
      let c = config held passes all in
      let own : (register : Reg) (word : ℕ) → world_own c passes (at held passes all happened) (Out output register) word →
      IsOwnWordBeside held passes happened output register word =
      λ register word. own-beside stored held passes all happened is.may output register word (below is there) in
      let shape = shape-at held passes all output in
      let so : world_commands c passes (at held passes all happened) output (commanded (value_for held.config output)
      (beside held passes happened).device.words output) =
      subst (λ (w : Words). world_commands c passes (at held passes all happened) output (commanded
      (value_for held.config output) w output)) like.words
      (subst (λ (s : Shape). world_commands c passes (at held passes all happened) output
      (commanded (shape_value s) (now c passes (at held passes all happened)).device.words output)) shape
      (subst (λ (k : Config). world_commands c passes (at held passes all happened) output
      (commanded (value_for k output) (now c passes (at held passes all happened)).device.words output))
      (now-config c passes (at held passes all happened)) (law.commanded c passes (at held passes all happened) output like.lived there))) in
      record {
        operation = so.operation;
        selected = so.selected;
        least = so.least;
        most = so.most;
        own_operation = own _ so.operation so.own_operation;
        own_selected = own _ so.selected so.own_selected;
        own_least = own _ so.least so.own_least;
        own_most = own _ so.most so.own_most;
        cut = subst (λ (s : Shape). commanded (value_for held.config output) (beside held passes happened).device.words output
            ≡ limited (shape_value s so.selected) (shape_value s so.least) (shape_value s so.most)) shape so.cut;
      };
  holds = λ held passes happened output register is there.
      let all = alike held passes is.part is.spelled is.made in
      let like = all.like happened is.may in
      own-beside stored held passes all happened is.may output register _ (below is there)
      (subst (λ (w : Words). world_own (config held passes all) passes (at held passes all happened) (Out output register) (word_at w
      (Out output register)))
      like.words (law.own (config held passes all) passes (at held passes all happened) (Out output register) like.lived there));
  stores = λ held passes happened output register is there.
      let all = alike held passes is.part is.spelled is.made in
      let like = all.like happened is.may in
      own-beside stored held passes all happened is.may output register _ (below is there)
      (subst (λ (w : Words). world_own (config held passes all) passes (at held passes all happened) (Out output register) (word_at w
      (Out output register)))
      like.store (law.stored (config held passes all) passes (at held passes all happened) (Out output register) like.lived there));
}
  where
    below : {held : Held} {passes : ℕ} {happened : List Happening} {output : ℕ} → IsLifeBeside held passes happened →
        output < held.config.count → output < 8
    below is there = let few = is.part.made.few in omega (arith, few, there)

-- an own word is one of the life that is like what happened
pub own-like : StoredConfigsStartSo → LivesAreOrders → (held : Held) (passes : ℕ) (alike : LivesAlike held passes) (happened : List Happening) →
    IsLifeBeside held passes happened → (output : ℕ) (register : Reg) (word : ℕ) → output < held.config.count →
    IsOwnWordBeside held passes happened output register word →
    world_own (config held passes alike) passes (at held passes alike happened) (Out output register) word
own-like stored law held passes alike happened is output register word there (inl begun) =
    go (law.own (config held passes alike) passes (with_host_restart alike.earlier) (Out output register) alike.reached.lived there) where
      go : world_own (config held passes alike) passes (with_host_restart alike.earlier) (Out output register)
          (word_at (now (config held passes alike) passes (with_host_restart alike.earlier)).device.words (Out output register)) →
          world_own (config held passes alike) passes (at held passes alike happened) (Out output register) word
      go (inl start) = inl (begun ∙ (ap (λ (w : Words). word_at w (Out output register)) (sym alike.reached.words_are) ∙ start))
      go (inr was) = inr (record {
        later = narrow held passes happened ++ was.later;
        event = was.event;
        before = was.before;
        is = ap (λ (l : List Event). narrow held passes happened ++ l) was.is
            ∙ sym (append_assoc (narrow held passes happened) was.later (was.event ∷ was.before));
        orders = was.orders ∙ ap (λ (n : ℕ). Accept
            (pending.Order (Out output register) n) ∷ [])
            (ap (λ (w : Words). word_at w (Out output register)) alike.reached.words_are ∙ sym begun);
      })
own-like stored law held passes alike happened is output register word there (inr (inl kept)) =
    inl (kept ∙ sym (stored.starts held.config held.store output register (let few = is.part.made.few in omega (arith, few, there))))
own-like stored law held passes alike happened is output register word there (inr (inr was)) =
    inr (ordered-like stored held passes alike happened is.may output register word was)

-- What limits and bands are worth, by the life that is like what happened beside a part.

-- what the laws below rest on
pub record Given : Type 0 where
  pub alike : SameSettingsLiveAlike
  pub stored : StoredConfigsStartSo
  pub orders : LivesAreOrders
  pub limits : LivesStayLimited

-- an output's places are below eight
pub below-eight : {held : Held} {passes : ℕ} {happened : List Happening} → IsLifeBeside held passes happened → (output : ℕ) →
    output < held.config.count → output < 8
below-eight is output there = let few = is.part.made.few in omega (arith, few, there)

module _ (laws : Given) (held : Held) (passes : ℕ) where
  module _ (happened : List Happening) (is : IsLifeBeside held passes happened) (output : ℕ) (there : output < held.config.count) where
    abbrev all : LivesAlike held passes
    all = laws.alike held passes is.part is.spelled is.made

    abbrev c : Config
    c = config held passes all

    abbrev events : List Event
    events = at held passes all happened

    own : (register : Reg) (word : ℕ) → world_own c passes events (Out output register) word → IsOwnWordBeside held passes happened output register word
    own register word = own-beside laws.stored held passes all happened is.may output register word (below-eight is output there)

    limits-of : StaysLimited c passes events
    limits-of = laws.limits c passes events all.spelled (all.like happened is.may).lived

    -- values in the part's own format
    value-is : (word : ℕ) → value_for c output word ≡ value_for held.config output word
    value-is word = ap (λ (s : Shape). shape_value s word) (shape-at held passes all output)

    own-within : (bounds : Bounds) → OwnWithinBeside held passes happened output bounds → WorldWithin c passes events output bounds
    own-within bounds within register word voltage is-own =
        subst (λ (v : Ratio). WordWithin register bounds v) (sym (value-is word)) (within register word voltage (own register word is-own))

  moments : (later before : List Happening) (is : IsLifeBeside held passes (later ++ before)) →
      at held passes (laws.alike held passes is.part is.spelled is.made) (later ++ before)
      ≡ since held passes (laws.alike held passes is.part is.spelled is.made) later before ++ at held passes
      (laws.alike held passes is.part is.spelled is.made) before
  moments later before is = at-since held passes (laws.alike held passes is.part is.spelled is.made) later before

  now-commands : (later before : List Happening) (is : IsLifeBeside held passes (later ++ before)) (output : ℕ) →
      limited_world_commands (config held passes (laws.alike held passes is.part is.spelled is.made)) passes
      (at held passes (laws.alike held passes is.part is.spelled is.made) before) output ≡ commands_beside held passes before output
  now-commands later before is output = commands-at held passes (laws.alike held passes is.part is.spelled is.made) before
      (earlier-may held passes later before is.may) output

  -- the later orders are of words within limits in both
  orders-like : (alike : LivesAlike held passes) (later before : List Happening) → MayAllHappen held passes (later ++ before) →
      (output : ℕ) (bounds : Bounds) →
      OrdersWithinBeside held passes later before output bounds →
      WorldOrders (config held passes alike) passes (since held passes alike later before) (at held passes alike before) output bounds
  orders-like alike [] before may output bounds within = tt
  orders-like alike (Hears bytes ending ∷ later) before may output bounds within = orders-like alike later before may.1 output bounds within
  orders-like alike (Happens event ∷ later) before may output bounds within = (
    λ register word voltage asks.
        subst (λ (s : Shape). IsWithin bounds (shape_value s word)) (sym (shape-at held passes alike output))
        (within.0 register word voltage (sym (asked-at held passes alike event (later ++ before) may.1)
        ∙ (ap (λ (l : List Event). asked (now (config held passes alike) passes l)
        (likely held passes alike (later ++ before) event))
        (at-since held passes alike later before) ∙ asks))),
    orders-like alike later before may.1 output bounds within.1,
  )

-- each own word that was ordered went through a guard
module _ (formats : FormatsAreTrue) (guards : GuardedOrdersAreWithin) (held : Held) (passes output : ℕ) (bounds : Bounds) (part : PartRegisters)
    (limits : List OutputLimits) (are : slice_index_or limits output Unlimited ≡ Between bounds)
  where
    guarded-at : (later : List Happening) (event : Event) (before : List Happening) →
        AreGuardedBeside held passes part limits (later ++ Happens event ∷ before) →
        option_and_then (guard_fault (record { host = (beside held passes before).host; limits = limits; registers = part })) (asked_by event) ≡ None
    guarded-at [] event before all = all.0
    guarded-at (Happens newer ∷ later) event before all = guarded-at later event before all.1
    guarded-at (Hears bytes ending ∷ later) event before all = guarded-at later event before all

    let-through : (g : Guarded) (o : Option Asked) (register : Reg) (word : ℕ) → option_and_then (guard_fault g) o ≡ None →
        option_and_then (accepted_job g.host) o ≡ Some (host.Order (Out output register) word) → is_voltage register ≡ true →
        slice_index_or g.limits output Unlimited ≡ Between bounds →
        IsSomeAnd (format_at g.host output) (λ shape. IsWithin bounds (shape_value shape word))
    let-through g None register word free asks voltage limited = cc
    let-through g (Some job) register word free asks voltage limited = guards.voltage g job output register word bounds free asks voltage limited

    ordered-within : (happened : List Happening) → IsLifeBeside held passes happened → AreGuardedBeside held passes part limits happened →
        (register : Reg) (word : ℕ) → is_voltage register ≡ true → WasOrdered held passes happened output register word →
        IsWithin bounds (value_for held.config output word)
    ordered-within happened is through register word voltage was =
        let s = (beside held passes was.before).host in
        let may = earlier-may held passes was.later (Happens was.event ∷ was.before) (subst
        (λ (l : List Happening). MayAllHappen held passes l) was.is is.may) in
        let before : IsLifeBeside held passes was.before = record { part = is.part; spelled = is.spelled; made = is.made; may = may.1 } in
        in-format (format_at s output) (shape_for held.config output) word bounds
        (λ shape known. formats.held held passes was.before output shape before known)
        (let-through (record { host = s; limits = limits; registers = part }) (asked_by was.event) register word
        (guarded-at was.later was.event was.before
        (subst (λ (l : List Happening). AreGuardedBeside held passes part limits l) was.is through))
        was.orders voltage are)

    guarded-own : (happened : List Happening) → IsLifeBeside held passes happened → AreGuardedBeside held passes part limits happened →
        (register : Reg) (word : ℕ) → is_voltage register ≡ true → IsOwnWordBeside held passes happened output register word →
        IsOwnWordBeside held passes [] output register word ⊎ IsWithin bounds (value_for held.config output word)
    guarded-own happened is through register word voltage (inl begun) = inl (inl begun)
    guarded-own happened is through register word voltage (inr (inl kept)) = inl (inr (inl kept))
    guarded-own happened is through register word voltage (inr (inr was)) = inr (ordered-within happened is through register word voltage was)

pub stay-limited : Given → FormatsAreTrue → GuardedOrdersAreWithin → PartsStayLimited
stay-limited laws formats guards = record {
  limited = λ held passes output bounds later before is there within.
      subst (λ (v : Ratio). IsWithin bounds v) (now-commands laws held passes later before is output)
      ((limits-of laws held passes (later ++ before) is output there).limited output bounds _ _ there (moments laws held passes later before is)
      (own-within laws held passes (later ++ before) is output there bounds within));
  most = λ held passes output most later before is there within.
      subst (λ (v : Ratio). AtMost v most) (now-commands laws held passes later before is output)
      ((limits-of laws held passes (later ++ before) is output there).most output most _ _ there (moments laws held passes later before is)
      (λ word is-own. subst (λ (v : Ratio). AtMost v most) (sym (value-is laws held passes (later ++ before) is output there word))
      (within word (own laws held passes (later ++ before) is output there VoutMax word is-own))));
  least = λ held passes output least later before is there within.
      subst (λ (v : Ratio). AtMost least v) (now-commands laws held passes later before is output)
      ((limits-of laws held passes (later ++ before) is output there).least output least _ _ there (moments laws held passes later before is)
      (record {
        above = λ word is-own. subst (λ (v : Ratio). AtMost least v) (sym (value-is laws held passes (later ++ before) is output there word))
            (within.above word (own laws held passes (later ++ before) is output there VoutMin word is-own));
        below = λ word most is-own is-most.
            subst (λ (v : Ratio). AtMost v (value_for (c laws held passes (later ++ before) is output there) output most))
            (sym (value-is laws held passes (later ++ before) is output there word))
            (subst (λ (v : Ratio). AtMost (value_for held.config output word) v) (sym (value-is laws held passes
            (later ++ before) is output there most))
            (within.below word most (own laws held passes (later ++ before) is output there VoutMin word is-own)
            (own laws held passes (later ++ before) is output there VoutMax most is-most)));
      }));
  guarded = λ held passes output bounds part limits happened is there are all begins register word voltage is-own.
      allowed register bounds held output word voltage begins
      (guarded-own formats guards held passes output bounds part limits are happened is all register word voltage is-own);
  ordered = λ held passes output bounds part limits happened is there are all register word voltage is-own.
      guarded-own formats guards held passes output bounds part limits are happened is all register word voltage is-own;
  newer = λ held passes output bounds later before is there within register word voltage is-own.
      older held passes output bounds later before is there register word
      ((limits-of laws held passes (later ++ before) is output there).newer output bounds _ _ (moments laws held passes later before is)
      (orders-like laws held passes (laws.alike held passes is.part is.spelled is.made) later before is.may output bounds within) register word voltage
      (own-like laws.stored laws.orders held passes (laws.alike held passes is.part is.spelled is.made)
      (later ++ before) is output register word there is-own));
  kept = λ held passes output bounds later before is there begins within register word voltage is-own.
      subst (λ (v : Ratio). WordWithin register bounds v) (value-is laws held passes (later ++ before) is output there word)
      ((limits-of laws held passes (later ++ before) is output there).kept output bounds _ _ (moments laws held passes later before is)
      (own-within laws held passes before (earlier held passes later before is) output there bounds begins)
      (orders-like laws held passes (laws.alike held passes is.part is.spelled is.made) later before is.may output bounds within) register word voltage
      (own-like laws.stored laws.orders held passes (laws.alike held passes is.part is.spelled is.made)
      (later ++ before) is output register word there is-own));
}
  where
    earlier : (held : Held) (passes : ℕ) (later before : List Happening) → IsLifeBeside held passes (later ++ before) →
        IsLifeBeside held passes before
    earlier held passes later before is =
        record { part = is.part; spelled = is.spelled; made = is.made; may = earlier-may held passes later before is.may }

    allowed : (register : Reg) (bounds : Bounds) (held : Held) (output word : ℕ) → is_voltage register ≡ true → BeginsWithin held output bounds →
        {passes : ℕ} → IsOwnWordBeside held passes [] output register word ⊎ IsWithin bounds (value_for held.config output word) →
        WordWithin register bounds (value_for held.config output word)
    allowed register bounds held output word voltage begins (inl (inl begun)) =
        subst (λ (w : ℕ). WordWithin register bounds (value_for held.config output w)) (sym begun) (begins register voltage).0
    allowed register bounds held output word voltage begins (inl (inr (inl kept))) =
        subst (λ (w : ℕ). WordWithin register bounds (value_for held.config output w)) (sym kept) (begins register voltage).1
    allowed register bounds held output word voltage begins (inl (inr (inr was))) = absurd (none was.later was.is) where
      none : (l : List Happening) → [] ≡ l ++ Happens was.event ∷ was.before → ⊥
      none [] e = cc
      none (x ∷ l) e = cc
    allowed register bounds held output word voltage begins (inr within) = go register within where
      go : (r : Reg) → IsWithin bounds (value_for held.config output word) → WordWithin r bounds (value_for held.config output word)
      go VoutMax is = is.from_least
      go VoutMin is = is.to_greatest
      go r is = is

    older : (held : Held) (passes output : ℕ) (bounds : Bounds) (later before : List Happening) (is : IsLifeBeside held passes (later ++ before)) →
        output < held.config.count → (register : Reg) (word : ℕ) →
        world_own (config held passes (laws.alike held passes is.part is.spelled is.made)) passes
        (at held passes (laws.alike held passes is.part is.spelled is.made) before) (Out output register) word
        ⊎ IsWithin bounds (value_for (config held passes (laws.alike held passes is.part is.spelled is.made)) output word) →
        IsOwnWordBeside held passes before output register word ⊎ IsWithin bounds (value_for held.config output word)
    older held passes output bounds later before is there register word (inl is-own) =
        inl (own laws held passes before (earlier held passes later before is) output there register word is-own)
    older held passes output bounds later before is there register word (inr within) =
        inr (subst (λ (s : Shape). IsWithin bounds (shape_value s word)) (shape-at held passes
        (laws.alike held passes is.part is.spelled is.made) output) within)

-- What an output commands lies in its band.
pub bands-held : SameSettingsLiveAlike → ListsSayEnough → WorldBands → BandsAreHeldBeside
bands-held alike lists law held passes part happened output band is there short stands missing gives =
    let all = alike held passes is.part is.spelled is.made in
    let like = all.like happened is.may in
    let c' = config held passes all in
    subst (λ (v : Ratio). InBand band v) (commands-at held passes all happened is.may output)
    (law c' passes part (at held passes all happened) output band all.spelled like.lived there
    (λ register. subst (λ (w : Words). word_at w (Out output register) < 2 ^ 16) (sym like.words) (short register))
    (stands-at held passes all lists happened is.may output stands)
    (missing-at held passes all happened is.may part output missing)
    (ap (λ (h : Summary). band_at part h output) like.host ∙ gives))

-- A survey beside a part, by the life that is like what happened there.

module _ (held : Held) (passes : ℕ) (alike : LivesAlike held passes) where
  abbrev life-config : Config
  life-config = config held passes alike

  -- what the host knows, in both
  module _ (lists : ListsSayEnough) (happened : List Happening) (may : MayAllHappen held passes happened) where
    abbrev life-events : List Event
    life-events = at held passes alike happened

    host-is : (now life-config passes life-events).host ≡ (beside held passes happened).host
    host-is = (alike.like happened may).host

    words-are : (now life-config passes life-events).device.words ≡ (beside held passes happened).device.words
    words-are = (alike.like happened may).words

    cells-are : (part : PartRegisters) (output : ℕ) → world_cells life-config passes part life-events output ≡ cells_at_beside held passes part happened output
    cells-are part output = ap₂ (λ (s : Shape) (h : Summary). cells_of part s h) (shape-at held passes alike output) host-is

    known-like : (part : PartRegisters) (output : ℕ) (wants : Wants) → AreKnownSinceBeside held passes part output wants happened →
        WorldKnown life-config passes part output wants life-events
    known-like part output wants known register needed =
        let so = known register (ap (λ (k : Cells). is_needed (known_of k output) wants register) (sym (cells-are part output)) ∙ needed) in (
          ap (λ (k : Cells). is_none (known_at k (Out output register))) (cells-are part output) ∙ so.0,
          λ there. since-at held passes alike lists (Out output register) happened may
              ∙ so.1 (ap (λ (s : Shape). missing_word part s register) (sym (shape-at held passes alike output)) ∙ there),
        )

    known-beside : (part : PartRegisters) (output : ℕ) (wants : Wants) → WorldKnown life-config passes part output wants life-events →
        AreKnownSinceBeside held passes part output wants happened
    known-beside part output wants known register needed =
        let so = known register (ap (λ (k : Cells). is_needed (known_of k output) wants register) (cells-are part output) ∙ needed) in (
          ap (λ (k : Cells). is_none (known_at k (Out output register))) (sym (cells-are part output)) ∙ so.0,
          λ there. sym (since-at held passes alike lists (Out output register) happened may)
              ∙ so.1 (ap (λ (s : Shape). missing_word part s register) (shape-at held passes alike output) ∙ there),
        )

-- what was read stays read
was-more : (held : Held) (passes : ℕ) (cell : Cell) (newer later before : List Happening) → was_read_beside held passes cell later before
    ≡ true →
    was_read_beside held passes cell (newer ++ later) before ≡ true
was-more held passes cell [] later before was = was
was-more held passes cell (one ∷ newer) later before was =
    or-true (answers held passes cell ((newer ++ later) ++ before) one) (was_read_beside held passes cell (newer ++ later) before)
    (was-more held passes cell newer later before was)
  where
    or-true : (a b : Bool) → b ≡ true → (a || b) ≡ true
    or-true true b is = refl
    or-true false b is = is

pub surveys : SameSettingsLiveAlike → ListsSayEnough → SurveysHoldInLives → SurveysHoldBeside
surveys alike lists law = record {
  begins = λ held passes v before is none.
      let all = alike held passes is.part is.spelled is.made in
      let past = at held passes all before in
      read-beside held passes all v [] before is.may
      ((law.follows (config held passes all) passes past (all.like before is.may).lived).begins v none);
  more = λ held passes v newer later before are. record {
    registers = λ register has. was-more held passes (Out v.output register) newer later before (are.registers register has);
    protect = λ has. was-more held passes Protect newer later before (are.protect has);
  };
  told = λ held passes part v newer later before event job end is there are next asks alone ended.
      let all = alike held passes is.part is.spelled is.made in
      let k = config held passes all in
      let whole = (newer ++ Happens event ∷ later) ++ before in
      let like = all.like whole is.may in
      let past = at held passes all before in
      let mid = since held passes all later before in
      let new = since held passes all newer (Happens event ∷ later ++ before) in
      let one = likely held passes all (later ++ before) event in
      let may-later = (earlier-may held passes newer (Happens event ∷ later ++ before)
      (subst (λ (l : List Happening). MayAllHappen held passes l) (append_assoc newer (Happens event ∷ later) before) is.may)).1 in
      let split : since held passes all (newer ++ Happens event ∷ later) before
      ≡ new ++ one ∷ mid = since-append held passes all newer (Happens event ∷ later) before in
      let life-events : at held passes all whole ≡ (new ++ one ∷ mid) ++ past =
      at-since held passes all (newer ++ Happens event ∷ later) before ∙ ap (λ (l : List Event). l ++ past) split in
      read-beside held passes all (survey.ended (asking v (Some job)) (Some job) end) (newer ++ Happens event ∷ later) before is.may
      (subst (λ (l : List Event). WorldRead k passes (survey.ended (asking v (Some job)) (Some job) end) l past) (sym split)
      ((law.follows k passes (at held passes all whole) like.lived).told part v new mid past one job end life-events there
      (read-like held passes all v later before may-later are)
      (ap (λ (l : List Event). next_job part v (now k passes l).host) (sym (at-since held passes all later before))
      ∙ (ap (λ (h : Summary). next_job part v h) (all.like (later ++ before) may-later).host ∙ next))
      (asked-like (beside held passes (later ++ before)) event ∙ asks)
      (later-begins held passes all newer (Happens event ∷ later ++ before) ∙ alone)
      (like.ended ∙ ended)));
  words = λ held passes part output wants register happened is there missing known needed.
      let all = alike held passes is.part is.spelled is.made in
      let like = all.like happened is.may in
      ap (λ (w : Words). word_at w (Out output register)) (sym like.words)
      ∙ ((law.keeps (config held passes all) passes (at held passes all happened) all.spelled like.lived).words part output wants register there
      (missing-at held passes all happened is.may part output missing) (known-like held passes all lists happened is.may part output wants known)
      (ap (λ (k : Cells). is_needed (known_of k output) wants register) (cells-are held passes all lists happened is.may part output) ∙ needed)
      ∙ ap (λ (k : Cells). known_of k output register) (cells-are held passes all lists happened is.may part output));
  one = λ held passes part output wants band happened is there missing known gives.
      let all = alike held passes is.part is.spelled is.made in
      let like = all.like happened is.may in
      let so = (law.keeps (config held passes all) passes (at held passes all happened) all.spelled like.lived).one part output wants band there
      (missing-at held passes all happened is.may part output missing) (known-like held passes all lists happened is.may part output wants known)
      (ap (λ (h : Summary). band_at part h output) like.host ∙ gives) in
      record {
        least = so.least ∙ commands-at held passes all happened is.may output;
        greatest = so.greatest ∙ commands-at held passes all happened is.may output;
      };
  known = λ held passes part v later before is there unread are steady surveyed.
      let all = alike held passes is.part is.spelled is.made in
      let like = all.like (later ++ before) is.may in
      known-beside held passes all lists (later ++ before) is.may part v.output (wants_of (wanted_in v.plan))
      ((law.keeps (config held passes all) passes (at held passes all (later ++ before)) all.spelled like.lived).known part v
      (since held passes all later before) (at held passes all before) (at-since held passes all later before) there
      (λ register lacks. read-at held passes all (Out v.output register) (later ++ before) is.may ∙ unread register lacks)
      (read-like held passes all v later before is.may are) (later-restarts held passes all later before ∙ steady)
      (ap (λ (h : Summary). is_surveyed part v h) like.host ∙ surveyed));
  band = λ held passes part v later before band is there short missing are steady others gives.
      let all = alike held passes is.part is.spelled is.made in
      let like = all.like (later ++ before) is.may in
      subst (λ (r : Ratio). InBand band r) (commands-at held passes all (later ++ before) is.may v.output)
      ((law.keeps (config held passes all) passes (at held passes all (later ++ before)) all.spelled like.lived).band part v
      (since held passes all later before) (at held passes all before) band (at-since held passes all later before) there
      (λ register. subst (λ (w : Words). word_at w (Out v.output register) < 2 ^ 16) (sym like.words) (short register))
      (missing-at held passes all (later ++ before) is.may part v.output missing)
      (read-like held passes all v later before is.may are) (later-restarts held passes all later before ∙ steady)
      (λ register decide named unread. since-at held passes all lists (Out v.output register) (later ++ before) is.may
      ∙ others register (ap (λ (h : Summary). decides (λ r. possible_at h (Out v.output r)) register) (sym like.host) ∙ decide)
      (λ any. named (ap (λ (h : Summary). possible_at h (Out v.output register)) like.host ∙ any)) unread)
      (ap (λ (h : Summary). band_at part h v.output) like.host ∙ gives));
}
