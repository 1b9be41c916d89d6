-- What a course to wanted words asks for, whatever restarts, and so what an output commands.
use Rattle.std.specs.List.{list_any}
use Rattle.std.specs.Prelude.{is_some, option_and_then, ◌≢◌, Ok, option_map, unwrap_or}
use Rattle.std.proofs.lemmas.Bool.{or_parts}
use Rattle.std.proofs.Common.{◌≡◌, inl, inr, ℕ, false, List, [], ◌∷◌, ◌++◌, Option, Some, None, refl, sym, subst, ◌∙◌, append_assoc}
use Rattle.pm_num.specs.AnyFormat.{shape_value}
use Rattle.pm_table.specs.declared.reg.Reg.{Reg}
use Rattle.pm_table.specs.declared.cell.Cell.TheVariants.{Out, Protect}
use Rattle.pm_device.specs.declared.config.Config.{Config}
use Rattle.pm_host.specs.{Jobs.accepted_job, Summary.Summary, declared.job.Job.Job as Asked, declared.job.JobEnd.JobEnd}
use Rattle.pm_host.specs.Transcript as host
use Rattle.pm_host.specs.declared.command.Command.TheVariants.{StoreUserAll, RestoreUserAll}
use Rattle.pm_host.specs.declared.job.Job.TheVariants as job
use Rattle.pm_limits.specs.{declared.output_limits.OutputLimits.OutputLimits, declared.part_registers.PartRegisters.PartRegisters}
use Rattle.pm_rail.specs.{Laws.PlansEnd, Lemmas.Known.is-planned, Survey.wanted_in, declared.course.Course.Course}
use Rattle.pm_rail.specs.{declared.next.Next.Next as Said, declared.orders.PlanOrder.PlanOrder, declared.wanted.Wanted.Wanted}
use Rattle.pm_rail.specs.Course.{after_next, course_of, naming, next_of, renewed, told_of}
use Rattle.pm_rail.specs.Known.{cells_of, known_of}
use Rattle.pm_rail.specs.Lemmas.Says.{Names, asks-so, differing-same, ended-same, orders, reads, renewed-so, says-job}
use Rattle.pm_rail.specs.Orders.{order_of, plan_of}
use Rattle.pm_rail.specs.Plan.{goal_of, next_register}
use Rattle.pm_rail.specs.Registers.{Held, Wants, wants_of}
use Rattle.pm_rail.specs.declared.next.Next.TheVariants as said
use Rattle.pm_world.specs.{Ended.begins_other, Job.asked_by, Life.now, Moments.split-at, declared.event.Event.Event}
use Rattle.pm_world.specs.Across.{MayWrite, WritesWanted, KeepsBetween, RestartsKeepBetween}
use Rattle.pm_world.specs.Courses.{IsBeside, IsCourse, asks, asks_else, begins, beside, forgets, says, tells, tells_else}
use Rattle.pm_world.specs.Courses.{CoursesHoldInLives}
use Rattle.pm_world.specs.Lived.{EventsAreLived, IsLived}
use Rattle.pm_world.specs.State.{State, asked}
use Rattle.pm_course_laws.specs.Restarts.{AsksNoStore, IsNoStore, CoursesKeepBetween, GoesOn}

-- A course was one at each of its earlier moments.

-- an event that begins no other job asks for none
pub none-asked : (s : State) (event : Event) → begins_other event ≡ false → asked s event ≡ None
none-asked s event alone = go (asked_by event) (or_parts (is_some (asked_by event)) _ alone).0 where
  go : (o : Option Asked) → is_some o ≡ false → option_and_then (accepted_job s.host) o ≡ None
  go None h = refl
  go (Some job) h = cc

module _ (config : Config) (passes : ℕ) (part : PartRegisters) (begun : Course) (before : List Event) where
  abbrev Was : List Event → Type 0
  Was later = (course : Course) × IsCourse config passes part begun before course later

  -- events that ask for nothing come beside it
  besides : (course : Course) (newer later : List Event) → list_any begins_other newer ≡ false →
      IsCourse config passes part begun before course later → IsCourse config passes part begun before course (newer ++ later)
  besides course [] later alone is = is
  besides course (event ∷ newer) later alone is =
      let parts = or_parts (begins_other event) (list_any begins_other newer) alone in
      beside course (newer ++ later) event (besides course newer later parts.1 is)
      (subst (λ (o : Option host.Job). IsBeside part begun.survey.output o)
      (sym (none-asked (now config passes ((newer ++ later) ++ before)) event parts.0)) tt)

  any-drop : (rest piece : List Event) → list_any begins_other (rest ++ piece) ≡ false → list_any begins_other piece ≡ false
  any-drop [] piece alone = alone
  any-drop (event ∷ rest) piece alone = any-drop rest piece (or_parts (begins_other event) (list_any begins_other (rest ++ piece)) alone).1

  -- a moment after one event more is that or an earlier one
  one-more : (event : Event) (events rest later : List Event) → event ∷ events ≡ rest ++ later → Was (event ∷ events) →
      ((less : List Event) → events ≡ less ++ later → Was later) → Was later
  one-more event events [] later e whole fewer = subst Was e whole
  one-more event events (first ∷ rest) later e whole fewer = fewer rest cc

  -- a moment after several events that began no other job is that or an earlier one
  several : (course : Course) (newer events rest later : List Event) → newer ++ events ≡ rest ++ later →
      list_any begins_other newer ≡ false → IsCourse config passes part begun before course events →
      ((less : List Event) → events ≡ less ++ later → Was later) → Was later
  several course newer events rest later e alone is fewer = elim (split-at rest later newer events (sym e)) [
    | inl within ↦ fewer within.0 within.1
    | inr beyond ↦ subst Was (sym beyond.middle_is) (
      course,
      besides course beyond.piece events
          (any-drop beyond.rest beyond.piece (subst (λ es. list_any begins_other es ≡ false) beyond.newer_is alone)) is,
    )
  ]

  pub was-course : (course : Course) (events rest later : List Event) → IsCourse config passes part begun before course events →
      events ≡ rest ++ later → Was later
  was-course course events rest later begins e = go rest e where
    go : (rest : List Event) → [] ≡ rest ++ later → Was later
    go [] is = subst Was is (course, begins)
    go (first ∷ less) is = cc
  was-course course events rest later (beside _ events' event is may) e =
      one-more event events' rest later e (course, beside course events' event is may)
      (λ less e'. was-course course events' less later is e')
  was-course course events rest later (says limits course' _ is) e = was-course course' events rest later is e
  was-course course events rest later (asks limits course' events' event job is next asks_it) e =
      one-more event events' rest later e (course, asks limits course' events' event job is next asks_it)
      (λ less e'. was-course course' events' less later is e')
  was-course course events rest later (tells limits course' newer events' event job end is next asks_it alone ended) e =
      let begun_it = asks limits course' events' event job is next asks_it in
      several _ newer (event ∷ events') rest later e alone begun_it
      (λ less e'. one-more event events' less later e' (_, begun_it) (λ fewer f. was-course course' events' fewer later is f))
  was-course course events rest later (asks_else limits course' events' event byte left ordered job is bytes else asks_it) e =
      one-more event events' rest later e (course, asks_else limits course' events' event byte left ordered job is bytes else asks_it)
      (λ less e'. was-course course' events' less later is e')
  was-course course events rest later (tells_else limits course' newer events' event byte left ordered job end is bytes else asks_it alone
      ended) e =
      let begun_it = asks_else limits course' events' event byte left ordered job is bytes else asks_it in
      several _ newer (event ∷ events') rest later e alone begun_it
      (λ less e'. one-more event events' less later e' (_, begun_it) (λ fewer f. was-course course' events' fewer later is f))
  was-course course events rest later (forgets course' _ is) e = was-course course' events rest later is e

-- A course to wanted words asks for no other word of its output, whatever restarts.

-- ---- The order of a plan is of a wanted word ----

goal-wanted : (wants : Wants) (held : Held) (register : Reg) → goal_of held wants register ≢ held register →
    wants register ≡ Some (goal_of held wants register)
goal-wanted wants held register due = go (wants register) due where
  go : (o : Option ℕ) → unwrap_or o (held register) ≢ held register → o ≡ Some (unwrap_or o (held register))
  go None differs = absurd (differs refl)
  go (Some word) differs = refl

order-wanted : PlansEnd → (part : PartRegisters) (s : Summary) (limits : OutputLimits) (output : ℕ) (wants : Wants) (order : PlanOrder) →
    plan_of part s limits output wants ≡ Ok (Some order) → wants order.register ≡ Some order.word
order-wanted ends part s limits output wants order is =
    let planned = is-planned part s limits output wants (Some order) is in
    let known = known_of (cells_of part planned.shape s) output in
    go known (next_register (shape_value planned.shape) known wants) refl planned.next
    (λ q e. ends.due (shape_value planned.shape) known wants q e)
  where
    go : (known : Held) (next : Option Reg) {was : Option Reg} → was ≡ next → option_map (order_of known wants) next ≡ Some order →
        ((q : Reg) → was ≡ Some q → goal_of known wants q ≢ known q) → wants order.register ≡ Some order.word
    go known None e h due = cc
    go known (Some q) e h due =
        let one : order_of known wants q ≡ order = cc in
        subst (λ (o : PlanOrder). wants o.register ≡ Some o.word) one (goal-wanted wants known q (due q e))

-- ---- What may be asked for ----

-- what others may ask for writes nothing, but for a store
beside-writes : (part : PartRegisters) (output : ℕ) (wants : Wants) (o : Option host.Job) → IsBeside part output o → IsNoStore o →
    MayWrite output wants o
beside-writes part output wants None may unstored = tt
beside-writes part output wants (Some (host.Order (Out other register) word)) may unstored = λ same. absurd (may same)
beside-writes part output wants (Some (host.Order Protect word)) may unstored = tt
beside-writes part output wants (Some (host.Check cell)) may unstored = tt
beside-writes part output wants (Some (host.Learn learned)) may unstored = tt
beside-writes part output wants (Some (host.Send StoreUserAll)) may unstored = absurd unstored
beside-writes part output wants (Some (host.Send RestoreUserAll)) may unstored = absurd may
beside-writes part output wants (Some (host.Send command)) may unstored = tt

-- what holds of each job that the course names
by-job : (output : ℕ) (wants : Wants) (s : State) (event : Event) (one : Asked) → asked_by event ≡ Some one →
    MayWrite output wants (accepted_job s.host one) → MayWrite output wants (asked s event)
by-job output wants s event one e may =
    subst (λ (o : Option Asked). MayWrite output wants (option_and_then (accepted_job s.host) o)) (sym e) may

-- a course to these words of this output
record Own (output : ℕ) (wanted : Wanted) (course : Course) : Type 0 where
  pub output_is : course.survey.output ≡ output
  pub plan : course.survey.plan ≡ Some wanted
  pub words : course.byte ≡ None

own-renewed : (output : ℕ) (wanted : Wanted) (part : PartRegisters) (limits : OutputLimits) (s : Summary) (course : Course) →
    Own output wanted course → Own output wanted (renewed part limits s course)
own-renewed output wanted part limits s course own = renewed-so (Own output wanted) part limits s course own
    (record { output_is = own.output_is; plan = own.plan; words = own.words })

own-named : (output : ℕ) (wanted : Wanted) (course : Course) (next : Said) → Own output wanted course →
    Own output wanted (naming course next)
own-named output wanted course (said.Job one) own = record { output_is = own.output_is; plan = own.plan; words = own.words }
own-named output wanted course (said.Ended end) own = own

own-told : (output : ℕ) (wanted : Wanted) (course : Course) (end : JobEnd) → Own output wanted course →
    Own output wanted (told_of course end)
own-told output wanted course end own = record {
  output_is = (ended-same course.survey course.survey.asked end).1 ∙ own.output_is;
  plan = (ended-same course.survey course.survey.asked end).2 ∙ own.plan;
  words = (differing-same course course.survey.asked end).0 ∙ own.words;
}

own-after : (output : ℕ) (wanted : Wanted) (part : PartRegisters) (limits : OutputLimits) (s : Summary) (course : Course) →
    Own output wanted course → Own output wanted (after_next part limits s course)
own-after output wanted part limits s course own =
    own-named output wanted (renewed part limits s course) (next_of part limits s course) (own-renewed output wanted part limits s course
    own)

-- what such a course names writes nothing but a wanted word
named-writes : PlansEnd → (output : ℕ) (wanted : Wanted) (part : PartRegisters) (limits : OutputLimits) (s : State) (course : Course)
    (event : Event) (one : Asked) → Own output wanted course → next_of part limits s.host course ≡ said.Job one →
    asked_by event ≡ Some one → MayWrite output (wants_of wanted) (asked s event)
named-writes ends output wanted part limits s course event one own next asks_it =
    let own' = own-renewed output wanted part limits s.host course own in
    go own' (says-job part limits s.host (renewed part limits s.host course) own'.words one next).1 asks_it
  where
    go : Own output wanted (renewed part limits s.host course) → {j : Asked} →
        Names part limits s.host (renewed part limits s.host course) j →
        asked_by event ≡ Some j → MayWrite output (wants_of wanted) (asked s event)
    go own' (reads j is) e = asks-so (λ k. asked_by event ≡ Some k → MayWrite output (wants_of wanted) (asked s event)) part
        (renewed part limits s.host course).survey s.host
        (λ k. by-job output (wants_of wanted) s event (job.Learn (renewed part limits s.host course).survey.output) k tt)
        (λ r has k. by-job output (wants_of wanted) s event (job.Check (Out (renewed part limits s.host course).survey.output r)) k tt)
        (λ k. by-job output (wants_of wanted) s event (job.Check Protect) k tt) j is e
    go own' (orders order surveyed plan) e =
        by-job output (wants_of wanted) s event (job.Order (Out (renewed part limits s.host course).survey.output order.register)
        order.word) e
        (λ same. order-wanted ends part s.host limits output (wants_of wanted) order
        (subst (λ (o : ℕ). plan_of part s.host limits o (wants_of wanted) ≡ Ok (Some order)) own'.output_is
        (subst (λ (p : Option Wanted). plan_of part s.host limits (renewed part limits s.host course).survey.output
        (wants_of (wanted_in p)) ≡ Ok (Some order)) own'.plan plan)))

-- ---- Each event ----

module _ (ends : PlansEnd) (config : Config) (passes : ℕ) (part : PartRegisters) (output : ℕ) (wanted : Wanted) (tries : ℕ)
    (before : List Event) where
  abbrev wants : Wants
  wants = wants_of wanted

  abbrev at : List Event → Summary
  at events = (now config passes (events ++ before)).host

  unstored-drop : (rest later : List Event) → AsksNoStore config passes (rest ++ later) before → AsksNoStore config passes later before
  unstored-drop [] later none = none
  unstored-drop (event ∷ rest) later none = unstored-drop rest later none.1

  pub writes-drop : (rest later : List Event) → WritesWanted config passes output wants (rest ++ later) before →
      WritesWanted config passes output wants later before
  writes-drop [] later all = all
  writes-drop (event ∷ rest) later all = writes-drop rest later all.1

  quiet-writes : (newer later : List Event) → list_any begins_other newer ≡ false → WritesWanted config passes output wants later before →
      WritesWanted config passes output wants (newer ++ later) before
  quiet-writes [] later alone all = all
  quiet-writes (event ∷ newer) later alone all =
      let parts = or_parts (begins_other event) (list_any begins_other newer) alone in (
        subst (MayWrite output wants) (sym (none-asked (now config passes ((newer ++ later) ++ before)) event parts.0)) tt,
        quiet-writes newer later parts.1 all,
      )

  record Goes (course : Course) (later : List Event) : Type 0 where
    pub own : Own output wanted course
    pub all : WritesWanted config passes output wants later before

  against : {X : Type 0} {byte : ℕ} {course : Course} → Own output wanted course → course.byte ≡ Some byte → X
  against own bytes = let no = sym own.words ∙ bytes in cc

  goes : (course : Course) (later : List Event) → IsCourse config passes part (course_of output wanted tries) before course later →
      AsksNoStore config passes later before → Goes course later
  goes course later begins none = record { own = record { output_is = refl; plan = refl; words = refl }; all = tt }
  goes course later (beside _ earlier event is may) none =
      let so_far = goes course earlier is none.1 in
      record { own = so_far.own; all = (beside-writes part output wants _ may none.0, so_far.all) }
  goes course later (says limits was _ is) none =
      let so_far = goes was later is none in
      record { own = own-after output wanted part limits (at later) was so_far.own; all = so_far.all }
  goes course later (asks limits was earlier event one is next asks_it) none =
      let so_far = goes was earlier is none.1 in
      record {
        own = own-after output wanted part limits (at earlier) was so_far.own;
        all = (
          named-writes ends output wanted part limits (now config passes (earlier ++ before)) was event one so_far.own next asks_it,
          so_far.all,
        );
      }
  goes course later (tells limits was newer earlier event one end is next asks_it alone ended) none =
      let so_far = goes was earlier is (unstored-drop newer (event ∷ earlier) none).1 in
      record {
        own = own-told output wanted (after_next part limits (at earlier) was) end
            (own-after output wanted part limits (at earlier) was so_far.own);
        all = quiet-writes newer (event ∷ earlier) alone (
          named-writes ends output wanted part limits (now config passes (earlier ++ before)) was event one so_far.own next asks_it,
          so_far.all,
        );
      }
  goes course later (asks_else limits was earlier event byte left ordered one is bytes else asks_it) none =
      against (goes was earlier is none.1).own bytes
  goes course later (tells_else limits was newer earlier event byte left ordered one end is bytes else asks_it alone ended) none =
      against (goes was earlier is (unstored-drop newer (event ∷ earlier) none).1).own bytes
  goes course later (forgets was _ is) none =
      let so_far = goes was later is none in
      record {
        own = record { output_is = so_far.own.output_is; plan = so_far.own.plan; words = so_far.own.words };
        all = so_far.all;
      }

  pub writes : (course : Course) (later : List Event) → IsCourse config passes part (course_of output wanted tries) before course later →
      AsksNoStore config passes later before → WritesWanted config passes output wants later before
  writes course later is none = (goes course later is none).all

-- The law.

-- an earlier moment is one of a life
lived-then : EventsAreLived → (config : Config) (passes : ℕ) (rest later before : List Event) →
    IsLived config passes ((rest ++ later) ++ before) → IsLived config passes (later ++ before)
lived-then events config passes rest later before lived = events.earlier config passes rest (later ++ before)
    (subst (IsLived config passes) (append_assoc rest later before) lived)

written-then : PlansEnd → (config : Config) (passes : ℕ) (part : PartRegisters) (output : ℕ) (wanted : Wanted) (tries : ℕ) (course : Course)
    (rest later before : List Event) → GoesOn config passes part output wanted tries course (rest ++ later) before →
    WritesWanted config passes output (wants_of wanted) later before
written-then ends config passes part output wanted tries course rest later before goes =
    writes-drop ends config passes part output wanted tries before rest later
    (writes ends config passes part output wanted tries before course (rest ++ later) goes.is_course goes.unstored)

kept-then : EventsAreLived → RestartsKeepBetween → (config : Config) (passes : ℕ) (part : PartRegisters) (output : ℕ) (wanted : Wanted)
    (tries : ℕ) (course : Course) (rest later before : List Event) →
    GoesOn config passes part output wanted tries course (rest ++ later) before → KeepsBetween config passes (later ++ before)
kept-then events law config passes part output wanted tries course rest later before goes =
    law config passes (later ++ before) goes.spelled (lived-then events config passes rest later before goes.lived)

pub keep-between : PlansEnd → CoursesHoldInLives → EventsAreLived → RestartsKeepBetween → CoursesKeepBetween
keep-between ends courses events law = record {
  writes = λ config passes part output wanted tries course later before goes.
      writes ends config passes part output wanted tries before course later goes.is_course goes.unstored;
  earlier = λ config passes part output wanted tries course rest newer later before goes steady untold missing.
      let was = was-course config passes part (course_of output wanted tries) before course (rest ++ (newer ++ later)) rest (newer ++ later)
      goes.is_course refl in
      (courses.words config passes ((newer ++ later) ++ before) goes.spelled
      (lived-then events config passes rest (newer ++ later) before goes.lived)).held
      part output wanted tries was.0 [] newer later before refl
      (record { here = goes.here; idle = goes.idle; untold = untold; steady = steady; is_course = was.1 }) missing;
  between = λ config passes part output wanted tries course rest later before goes restarted alike one other.
      (kept-then events law config passes part output wanted tries course rest later before goes).between
      output (wants_of wanted) later before refl goes.here goes.idle
      (written-then ends config passes part output wanted tries course rest later before goes) restarted refl alike one other;
  let_go = λ config passes part output wanted tries course rest later before goes restarted alike one other.
      (kept-then events law config passes part output wanted tries course rest later before goes).let_go
      output (wants_of wanted) later before refl goes.here goes.idle
      (written-then ends config passes part output wanted tries course rest later before goes) restarted refl alike one other;
}
