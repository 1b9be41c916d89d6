-- What words of two kinds command, put together, also while the converter restarts.
use Rattle.std.specs.List.{list_any}
use Rattle.std.specs.Prelude.{◌≡◌, ◌⊎◌, ◌<◌, ℕ, Bool, true, false, cond, ◌&&◌, ◌||◌, List, [], ◌∷◌, refl}
use Rattle.std.proofs.Common.{inl, inr, sym, ◌∙◌, ap, subst, ◌++◌, Option, Some, None, unwrap_or}
use Rattle.pm_num.specs.Lemmas.Over.{at_most-trans}
use Rattle.pm_num.specs.Lemmas.Order.{above-at-most, at-most, not-above, same}
use Rattle.pm_num.specs.Ratio.{Ratio, AtMost, is_above}
use Rattle.pm_table.specs.{Operation.selected_register, declared.reg.Reg.Reg}
use Rattle.pm_table.specs.declared.cell.Cell.TheVariants.{Out, Protect}
use Rattle.pm_table.specs.declared.reg.Reg.TheVariants.{VoutMax, VoutMin, Operation}
use Rattle.pm_model.specs.declared.order_machine.PendingJob.{PendingJob}
use Rattle.pm_model.specs.Commanded.{Scale, limited, commanded, is_outside, selected}
use Rattle.pm_model.specs.Settings.{Words, word_at}
use Rattle.pm_model.specs.declared.order_machine.PendingJob.TheVariants as pending
use Rattle.pm_device.specs.{Effect.Kept, Held.value_for, declared.config.Config.Config}
use Rattle.pm_device.specs.Effect as device
use Rattle.pm_host.specs.Refusals.{is_busy}
use Rattle.pm_host.specs.Transcript as host
use Rattle.pm_host.specs.declared.command.Command.TheVariants.{ClearFaults, StoreUserAll, RestoreUserAll}
use Rattle.pm_rail.specs.Laws.{ScaleHasDens, would_be_cut}
use Rattle.pm_rail.specs.Lemmas.Limits.{over-is, under-is, within}
use Rattle.pm_rail.specs.Plan.{commands_by, goal_of, is_cut_by}
use Rattle.pm_rail.specs.Registers.{Held, Wants}
use Rattle.pm_world.specs.{Below.Below, Confirmed.restarts_converter, Honest.IsSpelled, Lemmas.Formats.sound-dens, Life.now}
use Rattle.pm_world.specs.{Limited.commands, Lived.IsLived, Plans.held_at, declared.event.Event.Event}
use Rattle.pm_world.specs.{declared.event.Event.TheVariants.RestartDevice}
use Rattle.pm_world.specs.Across.{MayWrite, RestartsKeepBetween, WritesWanted, first_words, stored_at}
use Rattle.pm_world.specs.Mixed.{AreMixed, LiesAmong, MixturesLieBetween, SomeAtLeast, SomeAtMost, start_let_go, would_command}
use Rattle.pm_world.specs.Moves.{MovesBy, StoresBy, store_at, stored}
use Rattle.pm_world.specs.Retelling.{open_pending, pending_of}
use Rattle.pm_world.specs.State.{State, asked, next}
use Rattle.pm_world.proofs.Events.{earlier, now-next}
use Rattle.pm_world.proofs.Orders.{CameBack, moves-so}
use Rattle.pm_world.proofs.Plans.{by-move, idle-none, open-asked, open-beside}

-- What words of two kinds command, put together.

-- two of two
between : {a b v : Ratio} → AtMost a v → AtMost v b → LiesAmong (a ∷ b ∷ []) v
between low high = record { below = inl low; above = inr (inl high) }

turned : {a b v : Ratio} → AtMost b v → AtMost v a → LiesAmong (a ∷ b ∷ []) v
turned low high = record { below = inr (inl low); above = inl high }

itself : (a b : Ratio) → LiesAmong (a ∷ b ∷ []) a
itself a b = record { below = inl (same a); above = inl (same a) }

low-turned : (a b v : Ratio) → SomeAtMost (b ∷ a ∷ []) v → SomeAtMost (a ∷ b ∷ []) v
low-turned a b v (inl one) = inr (inl one)
low-turned a b v (inr (inl one)) = inl one
low-turned a b v (inr (inr none)) = elim none [ ]

high-turned : (a b v : Ratio) → SomeAtLeast (b ∷ a ∷ []) v → SomeAtLeast (a ∷ b ∷ []) v
high-turned a b v (inl one) = inr (inl one)
high-turned a b v (inr (inl one)) = inl one
high-turned a b v (inr (inr none)) = elim none [ ]

swapped : {a b v : Ratio} → LiesAmong (b ∷ a ∷ []) v → LiesAmong (a ∷ b ∷ []) v
swapped {a = a} {b = b} {v = v} is = record { below = low-turned a b v is.below; above = high-turned a b v is.above }

not-both : {b : Bool} → b ≡ true → b ≡ false → ⊥
not-both yes-is no-is = let bad : true ≡ false = sym yes-is ∙ no-is in cc

-- the selected word of the one, with a limit of either
mixed-one : (s l g s' l' g' x y : Ratio) → 0 < l'.den →
    is_above s g ≡ false → is_above l s ≡ false → is_above s' g' ≡ false → is_above l' s' ≡ false →
    (x ≡ l) ⊎ (x ≡ l') → (y ≡ g) ⊎ (y ≡ g') → LiesAmong (s ∷ s' ∷ []) (limited s x y)
mixed-one s l g s' l' g' x y den sg ls sg' ls' low high =
    go (is_above s y) (is_above x s) (is_above x y) refl refl refl where
      over : (z : Ratio) → is_above s z ≡ true → (z ≡ g) ⊎ (z ≡ g') → LiesAmong (s ∷ s' ∷ []) z
      over z e (inl is) = absurd (not-both (subst (λ (r : Ratio). is_above s r ≡ true) is e) sg)
      over z e (inr is) = turned (subst (λ (r : Ratio). AtMost s' r) (sym is) (at-most s' g' sg')) (above-at-most s z e)

      crossed : is_above s y ≡ false → is_above x s ≡ true → is_above x y ≡ true → (x ≡ l) ⊎ (x ≡ l') → LiesAmong (s ∷ s' ∷ []) y
      crossed e f h (inl is) = absurd (not-both (subst (λ (r : Ratio). is_above r s ≡ true) is f) ls)
      crossed e f h (inr is) = between (at-most s y e)
          (at_most-trans y l' s' den (subst (λ (r : Ratio). AtMost y r) is (above-at-most x y h)) (at-most l' s' ls'))

      under : (z : Ratio) → is_above z s ≡ true → (z ≡ l) ⊎ (z ≡ l') → LiesAmong (s ∷ s' ∷ []) z
      under z f (inl is) = absurd (not-both (subst (λ (r : Ratio). is_above r s ≡ true) is f) ls)
      under z f (inr is) = between (above-at-most z s f) (subst (λ (r : Ratio). AtMost r s') (sym is) (at-most l' s' ls'))

      go : (a b c : Bool) → is_above s y ≡ a → is_above x s ≡ b → is_above x y ≡ c →
          LiesAmong (s ∷ s' ∷ []) (cond (a || b && c) y (cond b x s))
      go true b c e f h = over y e high
      go false true true e f h = crossed e f h low
      go false true false e f h = under x f low
      go false false c e f h = itself s s'

-- neither of the two is cut
mixed-uncut : (s l g s' l' g' w x y : Ratio) → 0 < l.den → 0 < l'.den →
    is_above s g ≡ false → is_above l s ≡ false → is_above s' g' ≡ false → is_above l' s' ≡ false →
    (w ≡ s) ⊎ (w ≡ s') → (x ≡ l) ⊎ (x ≡ l') → (y ≡ g) ⊎ (y ≡ g') → LiesAmong (s ∷ s' ∷ []) (limited w x y)
mixed-uncut s l g s' l' g' w x y den den' sg ls sg' ls' (inl is) low high =
    subst (λ (r : Ratio). LiesAmong (s ∷ s' ∷ []) (limited r x y)) (sym is) (mixed-one s l g s' l' g' x y den' sg ls sg' ls' low high)
mixed-uncut s l g s' l' g' w x y den den' sg ls sg' ls' (inr is) low high =
    subst (λ (r : Ratio). LiesAmong (s ∷ s' ∷ []) (limited r x y)) (sym is)
    (swapped (mixed-one s' l' g' s l g x y den sg' ls' sg ls (other low) (other high))) where
      other : {r p q : Ratio} → (r ≡ p) ⊎ (r ≡ q) → (r ≡ q) ⊎ (r ≡ p)
      other (inl e) = inr e
      other (inr e) = inl e

-- the parts of a cut that isn't one
neither : (a b : Bool) → (a || b) ≡ false → (a ≡ false) × (b ≡ false)
neither true b is = cc
neither false b is = (refl, is)

valued : (value : Scale) {a b c : ℕ} → (a ≡ b) ⊎ (a ≡ c) → (value a ≡ value b) ⊎ (value a ≡ value c)
valued value (inl e) = inl (ap value e)
valued value (inr e) = inr (ap value e)

uncut-between : (value : Scale) (start goal mixed : Held) (byte : ℕ) → ScaleHasDens value → AreMixed start goal mixed →
    would_be_cut value start byte ≡ false → would_be_cut value goal byte ≡ false →
    LiesAmong (would_command value start byte ∷ would_command value goal byte ∷ []) (would_command value mixed byte)
uncut-between value start goal mixed byte dens are one other =
    let s = value (start (selected_register byte)) in
    let s' = value (goal (selected_register byte)) in
    let first = neither (is_above s (value (start VoutMax))) (is_above (value (start VoutMin)) s) one in
    let second = neither (is_above s' (value (goal VoutMax))) (is_above (value (goal VoutMin)) s') other in
    subst (λ (r : Ratio). LiesAmong (r ∷ would_command value goal byte ∷ []) (would_command value mixed byte))
    (sym (within s (value (start VoutMin)) (value (start VoutMax)) first.0 first.1))
    (subst (λ (r : Ratio). LiesAmong (s ∷ r ∷ []) (would_command value mixed byte))
    (sym (within s' (value (goal VoutMin)) (value (goal VoutMax)) second.0 second.1))
    (mixed-uncut s (value (start VoutMin)) (value (start VoutMax)) s' (value (goal VoutMin)) (value (goal VoutMax))
    (value (mixed (selected_register byte))) (value (mixed VoutMin)) (value (mixed VoutMax))
    (dens (start VoutMin)) (dens (goal VoutMin)) first.0 first.1 second.0 second.1
    (valued value (are (selected_register byte))) (valued value (are VoutMin)) (valued value (are VoutMax))))

-- ---- of start words that are cut, with limits in order

clamp-low : (s l g : Ratio) → is_above l g ≡ false → AtMost l (limited s l g)
clamp-low s l g lg = go (is_above s g) (is_above l s) (is_above l g) refl refl lg where
  go : (a b c : Bool) → is_above s g ≡ a → is_above l s ≡ b → c ≡ false → AtMost l (cond (a || b && c) g (cond b l s))
  go true b c e f h = at-most l g lg
  go false true true e f h = cc
  go false true false e f h = same l
  go false false c e f h = at-most l s f

clamp-high : (s l g : Ratio) → AtMost (limited s l g) g
clamp-high s l g = go (is_above s g) (is_above l s) (is_above l g) refl refl refl where
  go : (a b c : Bool) → is_above s g ≡ a → is_above l s ≡ b → is_above l g ≡ c → AtMost (cond (a || b && c) g (cond b l s)) g
  go true b c e f h = same g
  go false true true e f h = same g
  go false true false e f h = at-most l g h
  go false false c e f h = at-most s g e

clamp-up : (s l g : Ratio) → is_above l s ≡ false → AtMost (limited s l g) s
clamp-up s l g ls = go (is_above s g) (is_above l s) (is_above l g) refl ls where
  go : (a b c : Bool) → is_above s g ≡ a → b ≡ false → AtMost (cond (a || b && c) g (cond b l s)) s
  go true b c e f = above-at-most s g e
  go false true c e f = cc
  go false false c e f = same s

clamp-down : (s l g : Ratio) → is_above s g ≡ false → is_above l g ≡ false → AtMost s (limited s l g)
clamp-down s l g sg lg = go (is_above s g) (is_above l s) (is_above l g) sg refl lg where
  go : (a b c : Bool) → a ≡ false → is_above l s ≡ b → c ≡ false → AtMost s (cond (a || b && c) g (cond b l s))
  go true b c e f h = cc
  go false true true e f h = cc
  go false true false e f h = above-at-most l s f
  go false false c e f h = same s

-- the values that are put together: those of the start words, with limits in order, and wanted ones that aren't cut
record Put : Type 0 where
  s : Ratio
  l : Ratio
  g : Ratio
  s' : Ratio
  l' : Ratio
  g' : Ratio
  den : 0 < l.den
  den' : 0 < l'.den
  selected' : 0 < s'.den
  lg : is_above l g ≡ false
  sg' : is_above s' g' ≡ false
  ls' : is_above l' s' ≡ false

module _ (p : Put) where
  lg' : is_above p.l' p.g' ≡ false
  lg' = not-above p.l' p.g' (at_most-trans p.l' p.s' p.g' p.selected' (at-most p.l' p.s' p.ls') (at-most p.s' p.g' p.sg'))

  abbrev t : Ratio
  t = limited p.s p.l p.g

  abbrev e : Ratio
  e = limited p.s p.l' p.g'

  abbrev Among : Ratio → Type 0
  Among v = LiesAmong (t ∷ p.s' ∷ e ∷ []) v

  -- the wanted word
  wanted-one : (x y : Ratio) → (x ≡ p.l) ⊎ (x ≡ p.l') → (y ≡ p.g) ⊎ (y ≡ p.g') → Among (limited p.s' x y)
  wanted-one x y low high = go (is_above p.s' y) (is_above x p.s') (is_above x y) refl refl refl where
    least : (z : Ratio) → is_above p.s' z ≡ true → (z ≡ p.g) ⊎ (z ≡ p.g') → AtMost t z
    least z h (inl is) = subst (λ (r : Ratio). AtMost t r) (sym is) (clamp-high p.s p.l p.g)
    least z h (inr is) = absurd (not-both (subst (λ (r : Ratio). is_above p.s' r ≡ true) is h) p.sg')

    most : (z : Ratio) → is_above z p.s' ≡ true → (z ≡ p.l) ⊎ (z ≡ p.l') → AtMost z t
    most z h (inl is) = subst (λ (r : Ratio). AtMost r t) (sym is) (clamp-low p.s p.l p.g p.lg)
    most z h (inr is) = absurd (not-both (subst (λ (r : Ratio). is_above r p.s' ≡ true) is h) p.ls')

    through : (z : Ratio) → is_above z p.s' ≡ true → is_above z y ≡ true → (z ≡ p.l) ⊎ (z ≡ p.l') → AtMost y t
    through z h k (inl is) = at_most-trans y p.l t p.den (subst (λ (r : Ratio). AtMost y r) is (above-at-most z y k))
        (clamp-low p.s p.l p.g p.lg)
    through z h k (inr is) = absurd (not-both (subst (λ (r : Ratio). is_above r p.s' ≡ true) is h) p.ls')

    go : (a b c : Bool) → is_above p.s' y ≡ a → is_above x p.s' ≡ b → is_above x y ≡ c → Among (cond (a || b && c) y (cond b x p.s'))
    go true b c f h k = record { below = inl (least y f high); above = inr (inl (above-at-most p.s' y f)) }
    go false true true f h k = record { below = inr (inl (at-most p.s' y f)); above = inl (through x h k low) }
    go false true false f h k = record { below = inr (inl (above-at-most x p.s' h)); above = inl (most x h low) }
    go false false c f h k = record { below = inr (inl (same p.s')); above = inr (inl (same p.s')) }

  -- the start word
  start-one : (x y : Ratio) → (x ≡ p.l) ⊎ (x ≡ p.l') → (y ≡ p.g) ⊎ (y ≡ p.g') → Among (limited p.s x y)
  start-one x y low high = go (is_above p.s y) (is_above x p.s) (is_above x y) refl refl refl where
    over : (z : Ratio) → is_above p.s z ≡ true → (z ≡ p.g) ⊎ (z ≡ p.g') → Among z
    over z h (inl is) =
        let at : t ≡ z = over-is p.s p.l p.g (subst (λ (r : Ratio). is_above p.s r ≡ true) is h) ∙ sym is in
        record {
          below = inl (subst (λ (r : Ratio). AtMost r z) (sym at) (same z));
          above = inl (subst (λ (r : Ratio). AtMost z r) (sym at) (same z));
        }
    over z h (inr is) =
        let at : e ≡ z = over-is p.s p.l' p.g' (subst (λ (r : Ratio). is_above p.s r ≡ true) is h) ∙ sym is in
        record {
          below = inr (inl (subst (λ (r : Ratio). AtMost p.s' r) (sym is) (at-most p.s' p.g' p.sg')));
          above = inr (inr (inl (subst (λ (r : Ratio). AtMost z r) (sym at) (same z))));
        }

    crossed-low : (z : Ratio) → (z ≡ p.g) ⊎ (z ≡ p.g') → SomeAtMost (t ∷ p.s' ∷ e ∷ []) z
    crossed-low z (inl is) = inl (subst (λ (r : Ratio). AtMost t r) (sym is) (clamp-high p.s p.l p.g))
    crossed-low z (inr is) = inr (inl (subst (λ (r : Ratio). AtMost p.s' r) (sym is) (at-most p.s' p.g' p.sg')))

    crossed-high : (z : Ratio) → is_above z y ≡ true → (z ≡ p.l) ⊎ (z ≡ p.l') → SomeAtLeast (t ∷ p.s' ∷ e ∷ []) y
    crossed-high z k (inl is) = inl (at_most-trans y p.l t p.den (subst (λ (r : Ratio). AtMost y r) is (above-at-most z y k))
        (clamp-low p.s p.l p.g p.lg))
    crossed-high z k (inr is) = inr (inl (at_most-trans y p.l' p.s' p.den' (subst (λ (r : Ratio). AtMost y r) is (above-at-most z y k))
        (at-most p.l' p.s' p.ls')))

    under : (z : Ratio) → is_above z p.s ≡ true → (z ≡ p.l) ⊎ (z ≡ p.l') → Among z
    under z h (inl is) =
        let at : t ≡ z = under-is p.s p.l p.g p.den (subst (λ (r : Ratio). is_above r p.s ≡ true) is h) p.lg ∙ sym is in
        record {
          below = inl (subst (λ (r : Ratio). AtMost r z) (sym at) (same z));
          above = inl (subst (λ (r : Ratio). AtMost z r) (sym at) (same z));
        }
    under z h (inr is) =
        let at : e ≡ z = under-is p.s p.l' p.g' p.den' (subst (λ (r : Ratio). is_above r p.s ≡ true) is h) lg' ∙ sym is in
        record {
          below = inr (inr (inl (subst (λ (r : Ratio). AtMost r z) (sym at) (same z))));
          above = inr (inl (subst (λ (r : Ratio). AtMost r p.s') (sym is) (at-most p.l' p.s' p.ls')));
        }

    inside-low : is_above x p.s ≡ false → (x ≡ p.l) ⊎ (x ≡ p.l') → SomeAtMost (t ∷ p.s' ∷ e ∷ []) p.s
    inside-low h (inl is) = inl (clamp-up p.s p.l p.g (subst (λ (r : Ratio). is_above r p.s ≡ false) is h))
    inside-low h (inr is) = inr (inr (inl (clamp-up p.s p.l' p.g' (subst (λ (r : Ratio). is_above r p.s ≡ false) is h))))

    inside-high : is_above p.s y ≡ false → (y ≡ p.g) ⊎ (y ≡ p.g') → SomeAtLeast (t ∷ p.s' ∷ e ∷ []) p.s
    inside-high h (inl is) = inl (clamp-down p.s p.l p.g (subst (λ (r : Ratio). is_above p.s r ≡ false) is h) p.lg)
    inside-high h (inr is) = inr (inr (inl (clamp-down p.s p.l' p.g' (subst (λ (r : Ratio). is_above p.s r ≡ false) is h) lg')))

    go : (a b c : Bool) → is_above p.s y ≡ a → is_above x p.s ≡ b → is_above x y ≡ c → Among (cond (a || b && c) y (cond b x p.s))
    go true b c f h k = over y f high
    go false true true f h k = record { below = crossed-low y high; above = crossed-high x k low }
    go false true false f h k = under x h low
    go false false c f h k = record { below = inside-low h low; above = inside-high f high }

  either : (w x y : Ratio) → (w ≡ p.s) ⊎ (w ≡ p.s') → (x ≡ p.l) ⊎ (x ≡ p.l') → (y ≡ p.g) ⊎ (y ≡ p.g') → Among (limited w x y)
  either w x y (inl is) low high = subst (λ (r : Ratio). Among (limited r x y)) (sym is) (start-one x y low high)
  either w x y (inr is) low high = subst (λ (r : Ratio). Among (limited r x y)) (sym is) (wanted-one x y low high)

ordered-between : (value : Scale) (start goal mixed : Held) (byte : ℕ) → ScaleHasDens value → AreMixed start goal mixed →
    is_above (value (start VoutMin)) (value (start VoutMax)) ≡ false → would_be_cut value goal byte ≡ false →
    LiesAmong (would_command value start byte ∷ would_command value goal byte ∷ start_let_go value start goal byte ∷ [])
    (would_command value mixed byte)
ordered-between value start goal mixed byte dens are ordered other =
    let s' = value (goal (selected_register byte)) in
    let second = neither (is_above s' (value (goal VoutMax))) (is_above (value (goal VoutMin)) s') other in
    subst (λ (r : Ratio). LiesAmong (would_command value start byte ∷ r ∷ start_let_go value start goal byte ∷ [])
    (would_command value mixed byte))
    (sym (within s' (value (goal VoutMin)) (value (goal VoutMax)) second.0 second.1))
    (either (record {
      s = value (start (selected_register byte));
      l = value (start VoutMin);
      g = value (start VoutMax);
      s' = s';
      l' = value (goal VoutMin);
      g' = value (goal VoutMax);
      den = dens (start VoutMin);
      den' = dens (goal VoutMin);
      selected' = dens (goal (selected_register byte));
      lg = ordered;
      sg' = second.0;
      ls' = second.1;
    }) (value (mixed (selected_register byte))) (value (mixed VoutMin)) (value (mixed VoutMax))
    (valued value (are (selected_register byte))) (valued value (are VoutMin)) (valued value (are VoutMax)))

pub all-between : MixturesLieBetween
all-between = record { uncut = uncut-between; ordered = ordered-between }

-- What an output's registers hold while wanted words are written and the converter restarts.

-- a job that is open orders no word of the output but a wanted one, and is no store and no restore
abbrev IsWanted : ℕ → Wants → Option PendingJob → Type 0
IsWanted output wants None = Unit {0}
IsWanted output wants (Some (pending.Order (Out other register) word)) = other ≡ output → wants register ≡ Some word
IsWanted output wants (Some (pending.Order Protect word)) = Unit {0}
IsWanted output wants (Some pending.Store) = ⊥
IsWanted output wants (Some pending.Restore) = ⊥

asked-wanted : (output : ℕ) (wants : Wants) (job : host.Job) → MayWrite output wants (Some job) → IsWanted output wants (pending_of job)
asked-wanted output wants (host.Order (Out other register) word) may = may
asked-wanted output wants (host.Order Protect word) may = tt
asked-wanted output wants (host.Send (ClearFaults of)) may = tt
asked-wanted output wants (host.Send StoreUserAll) may = absurd may
asked-wanted output wants (host.Send RestoreUserAll) may = absurd may
asked-wanted output wants (host.Check cell) may = tt
asked-wanted output wants (host.Learn of) may = tt

order-wanted : (output : ℕ) (wants : Wants) (register : Reg) (word : ℕ) → {o : Option PendingJob} →
    o ≡ Some (pending.Order (Out output register) word) → IsWanted output wants o → wants register ≡ Some word
order-wanted output wants register word is may = (subst (λ (o : Option PendingJob). IsWanted output wants o) is may) refl

no-restore : (output : ℕ) (wants : Wants) → {o : Option PendingJob} → IsWanted output wants o → o ≡ Some pending.Restore → ⊥
no-restore output wants may is = subst (λ (o : Option PendingJob). IsWanted output wants o) is may

no-store : (output : ℕ) (wants : Wants) → {o : Option PendingJob} → IsWanted output wants o → o ≡ Some pending.Store → ⊥
no-store output wants may is = subst (λ (o : Option PendingJob). IsWanted output wants o) is may

none-wanted : (output : ℕ) (wants : Wants) → {o : Option PendingJob} → o ≡ None → IsWanted output wants o
none-wanted output wants is = subst (λ (o : Option PendingJob). IsWanted output wants o) (sym is) tt

-- a restart brings the stored words back
came-back : Below → (config : Config) (passes : ℕ) (before : List Event) → IsLived config passes (RestartDevice ∷ before) →
    CameBack (now config passes before).device (now config passes (RestartDevice ∷ before)).device
unfolding next
came-back laws config passes before lived =
    subst (λ (s : State). CameBack (now config passes before).device s.device) (sym (now-next laws config passes before RestartDevice lived))
    (let kept = laws.writes_reach_one_cell.kept (now config passes before).device device.Restarted in
    record { words = ap (λ (k : Kept). k.words) kept; store = ap (λ (k : Kept). k.store) kept })

-- which event restarts the converter
restart-kind : (event : Event) → (event ≡ RestartDevice) ⊎ (restarts_converter event ≡ false)
restart-kind RestartDevice = inl refl
restart-kind event = inr refl

module _ (laws : Below) (config : Config) (passes output : ℕ) (wants : Wants) (before : List Event) (here : output < config.count)
    (idle : is_busy (now config passes before).host ≡ false) where
  record Written (later : List Event) : Type 0 where
    store : (register : Reg) → stored_at config passes (later ++ before) output register ≡ stored_at config passes before output register
    word : (register : Reg) → (held_at config passes (later ++ before) output register ≡ first_words config passes output later before register)
        ⊎ (wants register ≡ Some (held_at config passes (later ++ before) output register))
    pends : IsWanted output wants (open_pending config passes (later ++ before))

  open-next : (event : Event) (later : List Event) → IsLived config passes (event ∷ later ++ before) →
      MayWrite output wants (asked (now config passes (later ++ before)) event) → Written later →
      IsWanted output wants (open_pending config passes (event ∷ later ++ before))
  open-next event later lived may was = go (asked (now config passes (later ++ before)) event) refl may where
    go : (job : Option host.Job) → asked (now config passes (later ++ before)) event ≡ job → MayWrite output wants job →
        IsWanted output wants (open_pending config passes (event ∷ later ++ before))
    go (Some job) is m = subst (λ (o : Option PendingJob). IsWanted output wants o)
        (sym (open-asked laws config passes (later ++ before) event job lived is)) (asked-wanted output wants job m)
    go None is m = elim (open-beside laws config passes (later ++ before) event lived is) [
      | inl same ↦ subst (λ (o : Option PendingJob). IsWanted output wants o) (sym same) was.pends
      | inr none ↦ none-wanted output wants none
    ]

  restart-next : (later : List Event) → IsLived config passes (RestartDevice ∷ later ++ before) →
      MayWrite output wants (asked (now config passes (later ++ before)) RestartDevice) → Written later → Written (RestartDevice ∷ later)
  restart-next later lived may was =
      let back = came-back laws config passes (later ++ before) lived in
      record {
        store = λ register. ap (λ (w : Words). word_at w (Out output register)) back.store ∙ was.store register;
        word = λ register. inl (ap (λ (w : Words). word_at w (Out output register)) back.words ∙ was.store register);
        pends = open-next RestartDevice later lived may was;
      }

  steady-first : (event : Event) (later : List Event) → restarts_converter event ≡ false → (register : Reg) →
      first_words config passes output (event ∷ later) before register ≡ first_words config passes output later before register
  steady-first event later steady register = ap (λ (b : Bool). (cond (b || list_any restarts_converter later)
      (stored_at config passes before output) (held_at config passes before output)) register) steady

  stores-same : (event : Event) (later : List Event) → Written later →
      (store_at config passes (event ∷ later ++ before) ≡ store_at config passes (later ++ before))
      ⊎ StoresBy config passes (later ++ before) (store_at config passes (event ∷ later ++ before)) event →
      store_at config passes (event ∷ later ++ before) ≡ store_at config passes (later ++ before)
  stores-same event later was (inl same) = same
  stores-same event later was (inr (stored arrival takes is)) = absurd (no-store output wants was.pends takes.opened)

  word-next : (event : Event) (later : List Event) → restarts_converter event ≡ false → Written later → (register : Reg) →
      (held_at config passes (event ∷ later ++ before) output register ≡ held_at config passes (later ++ before) output register)
      ⊎ MovesBy config passes (later ++ before) (Out output register) (held_at config passes (event ∷ later ++ before) output register) event →
      (held_at config passes (event ∷ later ++ before) output register ≡ first_words config passes output (event ∷ later) before register)
      ⊎ (wants register ≡ Some (held_at config passes (event ∷ later ++ before) output register))
  word-next event later steady was register (inl same) = elim (was.word register) [
    | inl first ↦ inl (same ∙ first ∙ sym (steady-first event later steady register))
    | inr wanted ↦ inr (wanted ∙ ap (λ (w : ℕ). Some w) (sym same))
  ]
  word-next event later steady was register (inr move) =
      inr (order-wanted output wants register (held_at config passes (event ∷ later ++ before) output register)
      (by-move move steady (no-restore output wants was.pends)) was.pends)

  steady-next : (event : Event) (later : List Event) → restarts_converter event ≡ false → IsLived config passes (event ∷ later ++ before) →
      MayWrite output wants (asked (now config passes (later ++ before)) event) → Written later → Written (event ∷ later)
  steady-next event later steady lived may was =
      let moves = moves-so laws config passes (event ∷ later ++ before) lived in
      record {
        store = λ register. ap (λ (w : Words). word_at w (Out output register))
            (stores-same event later was (moves.stores [] (later ++ before) event refl)) ∙ was.store register;
        word = λ register. word-next event later steady was register (moves.moves [] (later ++ before) event (Out output register) refl here);
        pends = open-next event later lived may was;
      }

  all-written : (later : List Event) → IsLived config passes (later ++ before) → WritesWanted config passes output wants later before →
      Written later
  all-written [] lived writes = record {
    store = λ register. refl;
    word = λ register. inl refl;
    pends = none-wanted output wants (idle-none config passes before idle);
  }
  all-written (event ∷ later) lived writes =
      let was = all-written later (earlier lived) writes.1 in
      elim (restart-kind event) [
        | inl is ↦ subst (λ (e : Event). Written (e ∷ later)) (sym is)
            (restart-next later (subst (λ (e : Event). IsLived config passes (e ∷ later ++ before)) is lived)
            (subst (λ (e : Event). MayWrite output wants (asked (now config passes (later ++ before)) e)) is writes.0) was)
        | inr steady ↦ steady-next event later steady lived writes.0 was
      ]

  mixed : (later : List Event) → IsLived config passes (later ++ before) → WritesWanted config passes output wants later before →
      AreMixed (first_words config passes output later before) (goal_of (held_at config passes before output) wants)
      (held_at config passes (later ++ before) output)
  mixed later lived writes register = elim ((all-written later lived writes).word register) [
    | inl first ↦ inl first
    | inr wanted ↦ inr (sym (ap (λ (o : Option ℕ). unwrap_or o (held_at config passes before output register)) wanted))
  ]

  -- a byte of OPERATION is never ordered, so the register that is selected stays
  module _ (law : MixturesLieBetween) (spelled : IsSpelled config) (later : List Event) (lived : IsLived config passes (later ++ before))
      (writes : WritesWanted config passes output wants later before) (restarted : list_any restarts_converter later ≡ true)
      (none : wants Operation ≡ None)
      (alike : selected_register (stored_at config passes before output Operation)
      ≡ selected_register (held_at config passes before output Operation)) where
    from-store : AreMixed (stored_at config passes before output) (goal_of (held_at config passes before output) wants)
        (held_at config passes (later ++ before) output)
    from-store = subst (λ (b : Bool). AreMixed (cond b (stored_at config passes before output) (held_at config passes before output))
        (goal_of (held_at config passes before output) wants) (held_at config passes (later ++ before) output)) restarted
        (mixed later lived writes)

    selects : selected_register (held_at config passes (later ++ before) output Operation)
        ≡ selected_register (held_at config passes before output Operation)
    selects = elim (from-store Operation) [
      | inl first ↦ ap selected_register first ∙ alike
      | inr goal ↦ ap selected_register (goal
          ∙ ap (λ (o : Option ℕ). unwrap_or o (held_at config passes before output Operation)) none)
    ]

    abbrev value : ℕ → Ratio
    value = value_for config output

    abbrev first : Held
    first = stored_at config passes before output

    abbrev goal : Held
    goal = goal_of (held_at config passes before output) wants

    goal-byte : goal Operation ≡ held_at config passes before output Operation
    goal-byte = ap (λ (o : Option ℕ). unwrap_or o (held_at config passes before output Operation)) none

    -- what is commanded, by the byte that was held before
    commands-is : would_command value (held_at config passes (later ++ before) output) (held_at config passes before output Operation)
        ≡ commands config passes (later ++ before) output
    unfolding commanded selected
    commands-is = ap (λ (r : Reg). limited (value (held_at config passes (later ++ before) output r))
        (value (held_at config passes (later ++ before) output VoutMin)) (value (held_at config passes (later ++ before) output VoutMax)))
        (sym selects)

    first-is : would_command value first (held_at config passes before output Operation) ≡ commands_by value first
    first-is = ap (λ (r : Reg). limited (value (first r)) (value (first VoutMin)) (value (first VoutMax))) (sym alike)

    goal-is : would_command value goal (held_at config passes before output Operation) ≡ commands_by value goal
    goal-is = ap (λ (b : ℕ). limited (value (goal (selected_register b))) (value (goal VoutMin)) (value (goal VoutMax))) (sym goal-byte)

    first-uncut : is_cut_by value first ≡ false → would_be_cut value first (held_at config passes before output Operation) ≡ false
    first-uncut uncut = ap (λ (r : Reg). is_outside (value (first r)) (value (first VoutMin)) (value (first VoutMax))) (sym alike) ∙ uncut

    goal-uncut : is_cut_by value goal ≡ false → would_be_cut value goal (held_at config passes before output Operation) ≡ false
    goal-uncut uncut = ap (λ (b : ℕ). is_outside (value (goal (selected_register b))) (value (goal VoutMin)) (value (goal VoutMax)))
        (sym goal-byte) ∙ uncut

    between-now : is_cut_by value first ≡ false → is_cut_by value goal ≡ false →
        LiesAmong (commands_by value first ∷ commands_by value goal ∷ []) (commands config passes (later ++ before) output)
    between-now one other =
        subst (λ (v : Ratio). LiesAmong (commands_by value first ∷ commands_by value goal ∷ []) v) commands-is
        (subst (λ (v : Ratio). LiesAmong (v ∷ commands_by value goal ∷ []) (would_command value (held_at config passes (later ++ before) output)
        (held_at config passes before output Operation))) first-is
        (subst (λ (v : Ratio). LiesAmong (would_command value first (held_at config passes before output Operation) ∷ v ∷ [])
        (would_command value (held_at config passes (later ++ before) output) (held_at config passes before output Operation))) goal-is
        (law.uncut value first goal (held_at config passes (later ++ before) output) (held_at config passes before output Operation)
        (sound-dens config output lived.sound here) from-store (first-uncut one) (goal-uncut other))))

    let-go-now : is_above (value (first VoutMin)) (value (first VoutMax)) ≡ false → is_cut_by value goal ≡ false →
        LiesAmong (commands_by value first ∷ commands_by value goal ∷
        start_let_go value first goal (held_at config passes before output Operation) ∷ [])
        (commands config passes (later ++ before) output)
    let-go-now ordered other =
        let gone = start_let_go value first goal (held_at config passes before output Operation) in
        subst (λ (v : Ratio). LiesAmong (commands_by value first ∷ commands_by value goal ∷ gone ∷ []) v) commands-is
        (subst (λ (v : Ratio). LiesAmong (v ∷ commands_by value goal ∷ gone ∷ []) (would_command value
        (held_at config passes (later ++ before) output) (held_at config passes before output Operation))) first-is
        (subst (λ (v : Ratio). LiesAmong (would_command value first (held_at config passes before output Operation) ∷ v ∷ gone ∷ [])
        (would_command value (held_at config passes (later ++ before) output) (held_at config passes before output Operation))) goal-is
        (law.ordered value first goal (held_at config passes (later ++ before) output) (held_at config passes before output Operation)
        (sound-dens config output lived.sound here) from-store ordered (goal-uncut other))))

pub keeps-between : Below → MixturesLieBetween → RestartsKeepBetween
keeps-between laws law config passes events spelled lived = record {
  words = λ output wants later before is here idle writes.
      subst (λ (es : List Event). AreMixed (first_words config passes output later before)
      (goal_of (held_at config passes before output) wants) (held_at config passes es output)) (sym is)
      (mixed laws config passes output wants before here idle later (subst (λ (es : List Event). IsLived config passes es) is lived) writes);
  between = λ output wants later before is here idle writes restarted none alike one other.
      subst (λ (es : List Event). LiesAmong (commands_by (value_for config output) (stored_at config passes before output) ∷
      commands_by (value_for config output) (goal_of (held_at config passes before output) wants) ∷ [])
      (commands config passes es output)) (sym is)
      (between-now laws config passes output wants before here idle law spelled later
      (subst (λ (es : List Event). IsLived config passes es) is lived) writes restarted none alike one other);
  let_go = λ output wants later before is here idle writes restarted none alike one other.
      subst (λ (es : List Event). LiesAmong (commands_by (value_for config output) (stored_at config passes before output) ∷
      commands_by (value_for config output) (goal_of (held_at config passes before output) wants) ∷
      start_let_go (value_for config output) (stored_at config passes before output)
      (goal_of (held_at config passes before output) wants) (held_at config passes before output Operation) ∷ [])
      (commands config passes es output)) (sym is)
      (let-go-now laws config passes output wants before here idle law spelled later
      (subst (λ (es : List Event). IsLived config passes es) is lived) writes restarted none alike one other);
}
