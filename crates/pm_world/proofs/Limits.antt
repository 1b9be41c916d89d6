-- An output commands a voltage within its limits at each moment of a life.
use Rattle.std.specs.Prelude.{slice_index_or, IsSomeAnd}
use Rattle.std.proofs.Common.{◌≡◌, ◌⊎◌, inl, inr, ℕ, ◌<◌, Bool, true, false, cond, ◌&&◌, ◌||◌, List, [], ◌∷◌, ◌++◌, Option, Some}
use Rattle.std.proofs.Common.{None, refl, sym, ◌∙◌, ap, subst, append_assoc, option_and_then}
use Rattle.pm_num.specs.{Lemmas.Over.at_most-trans}
use Rattle.pm_num.specs.AnyFormat.{shape_value}
use Rattle.pm_num.specs.Lemmas.Order.{above-at-most}
use Rattle.pm_num.specs.Ratio.{Ratio, AtMost, is_above, micros}
use Rattle.pm_table.specs.{declared.cell.Cell.Cell, declared.reg.Reg.Reg}
use Rattle.pm_table.specs.Cell.{is_voltage}
use Rattle.pm_table.specs.declared.cell.Cell.TheVariants.{Out}
use Rattle.pm_table.specs.declared.reg.Reg.TheVariants.{Operation, VoutCommand, VoutMax, MarginHigh, MarginLow, VoutMin}
use Rattle.pm_model.specs.{OrderMachine.Accept}
use Rattle.pm_model.specs.Commanded.{commanded, limited, selected_register}
use Rattle.pm_model.specs.declared.order_machine.PendingJob.TheVariants as pending
use Rattle.pm_device.specs.declared.config.Config.{Config}
use Rattle.pm_device.specs.Held.{shape_for, value_for}
use Rattle.pm_device.specs.Start.{IsSound, start_word}
use Rattle.pm_host.specs.{Jobs.accepted_job}
use Rattle.pm_host.specs.{declared.job.Job.Job}
use Rattle.pm_host.specs.Summary.{format_at}
use Rattle.pm_host.specs.Transcript as host
use Rattle.pm_host.specs.declared.job.Job.TheVariants as job
use Rattle.pm_limits.specs.{Lemmas.Guarded.guarded-voltage}
use Rattle.pm_limits.specs.{Lemmas.Selected.each-selected}
use Rattle.pm_limits.specs.{declared.output_limits.OutputLimits.OutputLimits, declared.part_registers.PartRegisters.PartRegisters}
use Rattle.pm_limits.specs.Band as limits
use Rattle.pm_limits.specs.Bounds.{Bounds, IsWithin}
use Rattle.pm_limits.specs.Guard.{Guarded, guard_fault}
use Rattle.pm_limits.specs.Lemmas.Cuts.{Cut, cut-greatest, cut-least}
use Rattle.pm_limits.specs.declared.guard.Within.TheVariants as within
use Rattle.pm_limits.specs.declared.output_limits.OutputLimits.TheVariants.{Unlimited, Between}
use Rattle.pm_world.specs.{Below.Below, Honest.IsSpelled, Job.asked_by, Lemmas.Formats.sound-dens}
use Rattle.pm_world.specs.{Lemmas.Orders.told-asked}
use Rattle.pm_world.specs.{declared.event.Event.Event}
use Rattle.pm_world.specs.Lemmas.{now-config, in-format}
use Rattle.pm_world.specs.Life.{now}
use Rattle.pm_world.specs.Limited.{AreGuarded, MaxAtMost, MinAtLeast, OrdersWithin, OwnWithin, StartsWithin, StaysLimited, WordWithin}
use Rattle.pm_world.specs.Limited.{commands}
use Rattle.pm_world.specs.Retelling.{CommandsOwn, IsOwnWord, steps_of_event}
use Rattle.pm_world.specs.State.{asked}
use Rattle.pm_world.proofs.Events.{IsLived, lived-before, newest}
use Rattle.pm_world.proofs.Formats.{formats-agree}
use Rattle.pm_world.proofs.Orders.{life-commands}

-- An output commands a voltage within limits that allow each of its own words.

-- a word that was a cell's own stays so
own-later : {config : Config} {passes : ℕ} {before : List Event} {cell : Cell} {word : ℕ} (later : List Event) →
    IsOwnWord config passes before cell word → IsOwnWord config passes (later ++ before) cell word
own-later later (inl start) = inl start
own-later later (inr was) = inr (record {
  later = later ++ was.later;
  event = was.event;
  before = was.before;
  is = ap (λ (l : List Event). later ++ l) was.is ∙ sym (append_assoc later was.later (was.event ∷ was.before));
  orders = was.orders;
})

-- what an output commanded before, by its own words until now
commands-own : Below → {config : Config} {passes : ℕ} {events : List Event} (output : ℕ) (later before : List Event) →
    IsLived config passes events → output < config.count → events ≡ later ++ before →
    CommandsOwn config passes events output (commands config passes before output)
commands-own laws {config = config} {passes = passes} {events = events} output later before lived here is =
    let past = lived-before config passes later before (subst (IsLived config passes) is lived) in
    let own = life-commands laws config passes before output past here in
    let keep = λ (cell : Cell) (word : ℕ) (o : IsOwnWord config passes before cell word).
    subst (λ (es : List Event). IsOwnWord config passes es cell word) (sym is) (own-later later o) in
    record {
      operation = own.operation;
      selected = own.selected;
      least = own.least;
      most = own.most;
      own_operation = keep _ own.operation own.own_operation;
      own_selected = keep _ own.selected own.own_selected;
      own_least = keep _ own.least own.own_least;
      own_most = keep _ own.most own.own_most;
      cut = ap (λ (k : Config). commanded (value_for k output) (now config passes before).device.words output)
          (sym (now-config config passes before)) ∙ own.cut;
    }

-- a voltage's register
pub selected-voltage : (byte : ℕ) → is_voltage (selected_register byte) ≡ true
selected-voltage byte = each-selected (λ r. is_voltage r ≡ true) refl refl refl byte

-- the value and the limits of what an output commands
cut-of : (config : Config) (output : ℕ) → IsSound config → output < config.count → (selected least most : ℕ) → Cut
cut-of config output sound here selected least most =
    let value = value_for config output in
    let dens = sound-dens config output sound here in
    record {
      selected = value selected;
      least = value least;
      greatest = value most;
      selected_den = dens selected;
      least_den = dens least;
      greatest_den = dens most;
    }

-- what is cut is at most what the selected value and VOUT_MIN's are at most
pub cut-upper : (c : Cut) (z : Ratio) → AtMost c.selected z → AtMost c.least z → AtMost (limited c.selected c.least c.greatest) z
cut-upper c z s l =
    go (is_above c.selected c.greatest) (is_above c.least c.selected) (is_above c.least c.greatest) refl refl
  where
    go : (over under crossed : Bool) → is_above c.selected c.greatest ≡ over → is_above c.least c.greatest ≡ crossed →
        AtMost (cond (over || under && crossed) c.greatest (cond under c.least c.selected)) z
    go true under crossed o x = at_most-trans c.greatest c.selected z c.selected_den (above-at-most c.selected c.greatest o) s
    go false true true o x = at_most-trans c.greatest c.least z c.least_den (above-at-most c.least c.greatest x) l
    go false true false o x = l
    go false false crossed o x = s

-- what is cut is at least what the selected value and VOUT_MAX's are at least
pub cut-lower : (c : Cut) (z : Ratio) → AtMost z c.selected → AtMost z c.greatest → AtMost z (limited c.selected c.least c.greatest)
cut-lower c z s g =
    go (is_above c.selected c.greatest) (is_above c.least c.selected) (is_above c.least c.greatest) refl
  where
    go : (over under crossed : Bool) → is_above c.least c.selected ≡ under →
        AtMost z (cond (over || under && crossed) c.greatest (cond under c.least c.selected))
    go true under crossed u = g
    go false true true u = g
    go false true false u = at_most-trans z c.selected c.least c.selected_den s (above-at-most c.least c.selected u)
    go false false crossed u = s

-- a selected register's word within limits has a value within them
selected-within : (byte : ℕ) (bounds : Bounds) (value : Ratio) → WordWithin (selected_register byte) bounds value → IsWithin bounds value
selected-within byte bounds value =
    each-selected (λ r. WordWithin r bounds value → IsWithin bounds value) (λ w. w) (λ w. w) (λ w. w) byte

-- a value within limits is one that they allow for any register
word-within : (register : Reg) (bounds : Bounds) (value : Ratio) → IsWithin bounds value → WordWithin register bounds value
word-within VoutMax bounds value within = within.from_least
word-within VoutMin bounds value within = within.to_greatest
word-within Operation bounds value within = within
word-within VoutCommand bounds value within = within
word-within MarginHigh bounds value within = within
word-within MarginLow bounds value within = within

-- at each moment of a life, an output whose own words limits allow commands a voltage within them
stays-limited : Below → {config : Config} {passes : ℕ} {events : List Event} → IsLived config passes events →
    (output : ℕ) (bounds : Bounds) (later before : List Event) → output < config.count →
    events ≡ later ++ before → OwnWithin config passes events output bounds →
    IsWithin bounds (commands config passes before output)
unfolding cut-of
stays-limited laws {config = config} lived output bounds later before here is within =
    let own = commands-own laws output later before lived here is in
    let value = value_for config output in
    let cut = cut-of config output lived.sound here own.selected own.least own.most in
    let selected = selected-within own.operation bounds (value own.selected)
    (within (selected_register own.operation) own.selected (selected-voltage own.operation) own.own_selected) in
    subst (λ (v : Ratio). IsWithin bounds v) (sym own.cut) (record {
      from_least = cut-lower cut (micros bounds.least) selected.from_least (within VoutMax own.most refl own.own_most);
      to_greatest = cut-upper cut (micros bounds.most) selected.to_greatest (within VoutMin own.least refl own.own_least);
    })

-- at each moment of a life, an output commands at most a voltage that none of its own words of VOUT_MAX lies above
stays-below : Below → {config : Config} {passes : ℕ} {events : List Event} → IsLived config passes events →
    (output : ℕ) (most : Ratio) (later before : List Event) → output < config.count →
    events ≡ later ++ before → MaxAtMost config passes events output most →
    AtMost (commands config passes before output) most
unfolding cut-of
stays-below laws {config = config} lived output most later before here is all =
    let own = commands-own laws output later before lived here is in
    let value = value_for config output in
    let cut = cut-of config output lived.sound here own.selected own.least own.most in
    subst (λ (v : Ratio). AtMost v most) (sym own.cut)
    (at_most-trans (limited (value own.selected) (value own.least) (value own.most)) (value own.most) most
    (sound-dens config output lived.sound here own.most) (cut-greatest cut) (all own.most own.own_most))

-- at each moment of a life, an output commands at least a voltage that none of its own words of VOUT_MIN lies below,
-- where none of these lies above one of VOUT_MAX
stays-above : Below → {config : Config} {passes : ℕ} {events : List Event} → IsLived config passes events →
    (output : ℕ) (least : Ratio) (later before : List Event) → output < config.count →
    events ≡ later ++ before → MinAtLeast config passes events output least →
    AtMost least (commands config passes before output)
unfolding cut-of
stays-above laws {config = config} lived output least later before here is all =
    let own = commands-own laws output later before lived here is in
    let value = value_for config output in
    let cut = cut-of config output lived.sound here own.selected own.least own.most in
    subst (λ (v : Ratio). AtMost least v) (sym own.cut)
    (at_most-trans least (value own.least) (limited (value own.selected) (value own.least) (value own.most))
    (sound-dens config output lived.sound here own.least) (all.above own.least own.own_least)
    (cut-least cut (all.below own.least own.most own.own_least own.own_most)))

-- An own word after one more event is one of before, or lies within limits that each word which it orders lies within.
one-newer : (config : Config) (passes : ℕ) (event : Event) (before : List Event) (output : ℕ) (bounds : Bounds) →
    ((register : Reg) (word : ℕ) → is_voltage register ≡ true →
    asked (now config passes before) event ≡ Some (host.Order (Out output register) word) →
    IsWithin bounds (value_for config output word)) →
    (register : Reg) (word : ℕ) → is_voltage register ≡ true → IsOwnWord config passes (event ∷ before) (Out output register) word →
    IsOwnWord config passes before (Out output register) word ⊎ IsWithin bounds (value_for config output word)
one-newer config passes event before output bounds newest register word voltage (inl start) = inl (inl start)
one-newer config passes event before output bounds newest register word voltage (inr was) = go was.later was.is where
  go : (later : List Event) → event ∷ before ≡ later ++ was.event ∷ was.before →
      IsOwnWord config passes before (Out output register) word ⊎ IsWithin bounds (value_for config output word)
  go [] is =
      let same : was.event ≡ event = cc in
      let rest : was.before ≡ before = cc in
      inr (newest register word voltage (told-asked config passes before event (Out output register) word
      (subst (λ e. steps_of_event config passes before e ≡ Accept (pending.Order (Out output register) word) ∷ []) same
      (subst (λ b. steps_of_event config passes b was.event ≡ Accept (pending.Order (Out output register) word) ∷ []) rest was.orders))))
  go (newer ∷ later) is =
      let rest : before ≡ later ++ was.event ∷ was.before = cc in
      inl (inr (record {
        later = later;
        event = was.event;
        before = was.before;
        is = rest;
        orders = was.orders;
      }))

-- the first of two, or what the second leads to
or-then : {A B C : Type 0} → A ⊎ C → (A → B ⊎ C) → B ⊎ C
or-then (inl a) more = more a
or-then (inr c) more = inr c

-- an own word after several events is one of before, or lies within limits that each word which they order lies within
stays-newer : (config : Config) (passes : ℕ) (output : ℕ) (bounds : Bounds) (later before : List Event) →
    OrdersWithin config passes later before output bounds →
    (register : Reg) (word : ℕ) → is_voltage register ≡ true → IsOwnWord config passes (later ++ before) (Out output register) word →
    IsOwnWord config passes before (Out output register) word ⊎ IsWithin bounds (value_for config output word)
stays-newer config passes output bounds [] before all register word voltage own = inl own
stays-newer config passes output bounds (event ∷ later) before all register word voltage own =
    or-then (one-newer config passes event (later ++ before) output bounds all.0 register word voltage own)
    (stays-newer config passes output bounds later before all.1 register word voltage)

-- own words that are all allowed stay so
stays-kept : (config : Config) (passes : ℕ) (output : ℕ) (bounds : Bounds) (later before : List Event) →
    OwnWithin config passes before output bounds → OrdersWithin config passes later before output bounds →
    OwnWithin config passes (later ++ before) output bounds
stays-kept config passes output bounds later before own all register word voltage is =
    go (stays-newer config passes output bounds later before all register word voltage is) where
      go : IsOwnWord config passes before (Out output register) word ⊎ IsWithin bounds (value_for config output word) →
          WordWithin register bounds (value_for config output word)
      go (inl old) = own register word voltage old
      go (inr within) = word-within register bounds (value_for config output word) within

-- a guard lets each event of a guarded life through
guarded-at : (config : Config) (passes : ℕ) (part : PartRegisters) (limits : List OutputLimits) (later : List Event) (event : Event)
    (before : List Event) →
    AreGuarded config passes part limits (later ++ event ∷ before) →
    option_and_then (guard_fault (record { host = (now config passes before).host; limits = limits; registers = part }))
    (asked_by event) ≡ None
guarded-at config passes part limits [] event before all = all.0
guarded-at config passes part limits (newer ∷ later) event before all = guarded-at config passes part limits later event before all.1

-- a word that a guard lets be ordered lies within its limits, in the format that the host knows
pub ordered-within : (g : Guarded) (asked : Option Job) (output : ℕ) (register : Reg) (word : ℕ) (bounds : Bounds) →
    option_and_then (guard_fault g) asked ≡ None →
    option_and_then (accepted_job g.host) asked ≡ Some (host.Order (Out output register) word) →
    is_voltage register ≡ true → slice_index_or g.limits output Unlimited ≡ Between bounds →
    IsSomeAnd (format_at g.host output) (λ shape. IsWithin bounds (shape_value shape word))
ordered-within g None output register word bounds free is voltage limits = cc
ordered-within g (Some job) output register word bounds free is voltage limits =
    guarded-voltage g job output register word bounds free is voltage limits

-- an own word is the start word or lies within the guard's limits if each job went through the guard
stays-ordered : Below → {config : Config} {passes : ℕ} {events : List Event} → IsLived config passes events → IsSpelled config →
    (output : ℕ) (bounds : Bounds) (part : PartRegisters) (limits : List OutputLimits) → output < config.count →
    slice_index_or limits output Unlimited ≡ Between bounds → AreGuarded config passes part limits events →
    (register : Reg) (word : ℕ) → is_voltage register ≡ true → IsOwnWord config passes events (Out output register) word →
    (word ≡ start_word config (Out output register)) ⊎ IsWithin bounds (value_for config output word)
stays-ordered laws lived spelled output bounds part limits here are all register word voltage (inl start) = inl start
stays-ordered laws {config = config} {passes = passes} {events = events} lived spelled output bounds part limits here are all register
    word voltage (inr was) =
    let s = (now config passes was.before).host in
    let past = subst (AreGuarded config passes part limits) was.is all in
    let whole = subst (IsLived config passes) was.is lived in
    let newest = lived-before config passes was.later (was.event ∷ was.before) whole in
    let before = lived-before config passes (was.event ∷ []) was.before newest in
    let agree = formats-agree laws config passes was.before before spelled in
    inr (in-format (format_at s output) (shape_for config output) word bounds (agree.held output)
    (ordered-within (record { host = s; limits = limits; registers = part }) (asked_by was.event) output register word bounds
    (guarded-at config passes part limits was.later was.event was.before past)
    (told-asked config passes was.before was.event (Out output register) word was.orders) voltage are))

-- limits allow an output's own words where they allow its start words and each job went through a guard with them
stays-guarded : Below → {config : Config} {passes : ℕ} {events : List Event} → IsLived config passes events → IsSpelled config →
    (output : ℕ) (bounds : Bounds) (part : PartRegisters) (limits : List OutputLimits) → output < config.count →
    slice_index_or limits output Unlimited ≡ Between bounds → AreGuarded config passes part limits events →
    StartsWithin config output bounds → OwnWithin config passes events output bounds
stays-guarded laws {config = config} lived spelled output bounds part limits here are all starts register word voltage is =
    go (stays-ordered laws lived spelled output bounds part limits here are all register word voltage is) where
      go : (word ≡ start_word config (Out output register)) ⊎ IsWithin bounds (value_for config output word) →
          WordWithin register bounds (value_for config output word)
      go (inl start) = subst (λ (w : ℕ). WordWithin register bounds (value_for config output w)) (sym start) (starts register voltage)
      go (inr within) = word-within register bounds (value_for config output word) within

-- Limits over a life.
pub stays : Below → (config : Config) (passes : ℕ) (events : List Event) → IsLived config passes events → IsSpelled config →
    StaysLimited config passes events
stays laws config passes events lived spelled = record {
  limited = stays-limited laws lived;
  most = stays-below laws lived;
  least = stays-above laws lived;
  guarded = stays-guarded laws lived spelled;
  ordered = stays-ordered laws lived spelled;
  newer = λ output bounds later before is all register word voltage own.
      stays-newer config passes output bounds later before all register word voltage
      (subst (λ es. IsOwnWord config passes es (Out output register) word) is own);
  kept = λ output bounds later before is own all. subst (λ es. OwnWithin config passes es output bounds) (sym is)
      (stays-kept config passes output bounds later before own all);
}
