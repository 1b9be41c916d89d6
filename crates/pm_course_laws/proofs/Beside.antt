-- What a course comes to beside a part, by the life that is like what happened there.
use Rattle.std.specs.{List.list_any, Result.result_ok}
use Rattle.std.specs.Prelude.{not, ◌&&◌, IsSomeAnd, ◌≤◌, ◌+◌, ◌==◌, ◌||◌, ◌≢◌, if◌then◌else◌, is_none, is_some, option_and_then}
use Rattle.std.specs.Prelude.{slice_index, unwrap_or}
use Rattle.std.proofs.Common.{◌≡◌, ◌⊎◌, inl, inr, ℕ, Bool, true, false, List, [], ◌∷◌, ◌++◌, Option, Some, None, Ok, refl, sym, ◌∙◌, ap}
use Rattle.std.proofs.Common.{ap₂, subst, append_assoc}
use Rattle.pm_num.specs.AnyFormat.{Shape, shape_value, InLinear11}
use Rattle.pm_num.specs.Ratio.{Ratio, is_above}
use Rattle.pm_table.specs.{Format.shape_in, Protection.is_allowed, Rules.first, VoutMode.mode_of}
use Rattle.pm_table.specs.{declared.coefficients.Coefficients.Coefficients, declared.reg.Reg.Reg}
use Rattle.pm_table.specs.Cell.{IsCell, cell_code}
use Rattle.pm_table.specs.Operation.{selected_register, has_on}
use Rattle.pm_table.specs.declared.cell.Cell.TheVariants.{Out, Protect}
use Rattle.pm_table.specs.declared.reg.Reg.TheVariants.{Operation, VoutMax, VoutMin}
use Rattle.pm_model.specs.Commanded.{commanded}
use Rattle.pm_model.specs.Settings.{Words, word_at}
use Rattle.pm_device.specs.declared.config.Config.{Config}
use Rattle.pm_device.specs.Held.{Held, shape_for, value_for}
use Rattle.pm_host.specs.{Refusals.is_busy, declared.job.Job.Job as Asked, declared.job.Job.TheVariants.Order}
use Rattle.pm_host.specs.Summary.{Summary, step_of}
use Rattle.pm_host.specs.Transcript as host
use Rattle.pm_host.specs.Transcript.{Entry, Finished}
use Rattle.pm_limits.specs.{Band.band_at, FaultWords.limit_fault_number, declared.band.Band.Band}
use Rattle.pm_limits.specs.{declared.output_limits.OutputLimits.OutputLimits, declared.output_limits.OutputLimits.TheVariants.Unlimited}
use Rattle.pm_limits.specs.{declared.part_registers.PartRegisters.PartRegisters}
use Rattle.pm_limits.specs.Guard.{Guarded, limits_at, guard_fault}
use Rattle.pm_limits.specs.Part.{has_register, missing_word}
use Rattle.pm_rail.specs.{Laws.IsStep, declared.apply_end.ApplyEnd.ApplyEnd, declared.fault.PlanFault.PlanFault}
use Rattle.pm_rail.specs.{declared.survey.Survey.Survey, declared.wanted.Wanted.Wanted}
use Rattle.pm_rail.specs.Course.{course_of, next_of}
use Rattle.pm_rail.specs.Orders.{limits_fault, protection_fault, words_fault}
use Rattle.pm_rail.specs.Plan.{commands_by, goal_of, put, is_cut_by, next_register}
use Rattle.pm_rail.specs.Registers as rail
use Rattle.pm_rail.specs.Registers.{wants_of, Wants}
use Rattle.pm_rail.specs.declared.next.Next.TheVariants as said
use Rattle.pm_course.specs.{Heard.heard_by, Surprise.surprises, declared.course_end.CourseEnd.TheVariants.Reached}
use Rattle.pm_course.specs.{declared.frame_course.FrameCourse.FrameCourse, declared.frames.Sending.Sending}
use Rattle.pm_course.specs.FrameCourse.{SaysNext, going_on, last_end, to_byte, to_survey, with_plan}
use Rattle.pm_course.specs.Frames.{HandsOut, Hears as HearsOf, again, begun as begun_job, heard, over as ended, refused as refused_job}
use Rattle.pm_course.specs.Wishes.{AreFormed, meant_faults}
use Rattle.pm_course.specs.declared.course_end.CourseNext.TheVariants.{Ended, Job}
use Rattle.pm_world.specs.{Bands.HoldsMissing, Confirmed.restarts_converter, Ended.begins_other, Laws.ListsSayEnough}
use Rattle.pm_world.specs.{Limited.commands as world_commands, Lived.IsLived, Plans.held_at as world_held}
use Rattle.pm_world.specs.{declared.event.Arrival.TheVariants.Whole, declared.event.Event.Event}
use Rattle.pm_world.specs.Across.{MayWrite, WritesWanted}
use Rattle.pm_world.specs.Courses.{AsksNoOrder, IsBeside, IsNoOrder, goal_at as world_goal, power_goal_at as world_power}
use Rattle.pm_world.specs.Life.{life, now}
use Rattle.pm_world.specs.Mixed.{LiesAmong, start_let_go}
use Rattle.pm_world.specs.State.{asked, share_of}
use Rattle.pm_world.specs.Surveys.{IsOneValue as WorldOne, MissingUnread as WorldUnread}
use Rattle.pm_world.specs.declared.event.Back.TheVariants as back
use Rattle.pm_world.specs.declared.event.Event.TheVariants.{Deliver, Exchange, Finish}
use Rattle.pm_part_laws.specs.OwnWords.{commands_beside}
use Rattle.pm_part_laws.specs.Alike.{IsLike, LivesAlike, with_host_restart, SameSettingsLiveAlike}
use Rattle.pm_part_laws.specs.Happenings.{EachAsks, Happening, Happens, Hears, MayAllHappen, beside}
use Rattle.pm_part_laws.specs.Lemmas.Narrow.{asked-at, asked-like, at, at-since, begins-like, commands-at, config, earlier-may}
use Rattle.pm_part_laws.specs.Lemmas.Narrow.{later-restarts, likely, missing-at, read-at, shape-at, since, since-append, read-beside}
use Rattle.pm_part_laws.specs.Lemmas.Narrow.{read-like, since-at}
use Rattle.pm_part_laws.specs.Surveys.{held_at_beside, IsOneValue}
use Rattle.pm_course_laws.specs.FrameWays.{FrameCoursesGoTheirWay}
use Rattle.pm_course_laws.specs.Between.{FrameCoursesKeepBetween, GoesOnBeside}
use Rattle.pm_course_laws.specs.Chains.{EndsBy, FitsPart, IsAskedFor, IsSwitched, Pair, byte_tries, held_fault, tries_for, output_words_of}
use Rattle.pm_course_laws.specs.FrameLives as frame
use Rattle.pm_course_laws.specs.FrameLives.{BeginsFrames, ChecksHad, FrameCoursesHoldInLives, IsFrameCourse, IsHad, MaySay, goes_on}
use Rattle.pm_course_laws.specs.FramesBeside.{BeginsBeside, FrameCoursesHoldBeside, HandedBeside, IsFrameCourseBeside, KeepsByteBeside}
use Rattle.pm_course_laws.specs.FramesBeside.{KeepsWords, asks as frames_beside_asks, begins as frames_beside_begins, begins_job, besides}
use Rattle.pm_course_laws.specs.FramesBeside.{goal_at_beside, hears, looks as frames_beside_looks, over, power_goal_at_beside, refused}
use Rattle.pm_course_laws.specs.FramesBeside.{stays}
use Rattle.pm_course_laws.specs.Progress as life_of
use Rattle.pm_course_laws.specs.Progress.{FrameCoursesGetThere, GetsRead, GetsSwitched, GetsThere, IsUndisturbed, pair_at}
use Rattle.pm_course_laws.specs.ProgressBeside.{ReadsStandBeside, FrameCoursesGetThereBeside, IsUndisturbedBeside}
use Rattle.pm_course_laws.specs.ProgressBeside.{asks as progress_beside_asks, begins as progress_beside_begins}
use Rattle.pm_course_laws.specs.ProgressBeside.{looks as progress_beside_looks, pair_beside, reads, writes}
use Rattle.pm_course_laws.specs.Reached.{HoldsWanted, ReachedSinceItRead, ReadsStand}
use Rattle.pm_course_laws.specs.ReachedBeside.{HoldsWantedBeside, ReachedSinceItReadBeside}
use Rattle.pm_course_laws.specs.Restarts.{AsksNoStore, CoursesKeepBetween, GoesOn, IsNoStore}
use Rattle.pm_course_laws.proofs.Worth.{said-so}

-- A course beside a part, as one of the life that is like what happened there.

-- the words of an output's registers
abbrev pub registers-in : ℕ → Words → rail.Held
registers-in output words register = word_at words (Out output register)

module _ (held : Held) (passes : ℕ) (alike : LivesAlike held passes) (before : List Happening) where
  abbrev pub c' : Config
  c' = config held passes alike

  abbrev pub past : List Event
  past = at held passes alike before

  abbrev pub later-events : List Happening → List Event
  later-events later = since held passes alike later before

  -- the life at a later moment
  pub like : (later : List Happening) → MayAllHappen held passes (later ++ before) →
      IsLike c' passes (later-events later ++ past) held (later ++ before) (life c' passes (with_host_restart alike.earlier)).entries
  like later may =
      subst (λ (l : List Event). IsLike c' passes l held (later ++ before) (life c' passes (with_host_restart alike.earlier)).entries)
      (at-since held passes alike later before) (alike.like (later ++ before) may)

  pub host-is : (later : List Happening) → MayAllHappen held passes (later ++ before) →
      (now c' passes (later-events later ++ past)).host ≡ (beside held passes (later ++ before)).host
  host-is later may = (like later may).host

  pub tells-is : (later : List Happening) (event : Event) → MayAllHappen held passes (Happens event ∷ later ++ before) →
      (share_of (now c' passes (later-events later ++ past)) (likely held passes alike (later ++ before) event)).told
      ≡ (share_of (beside held passes (later ++ before)) event).told
  tells-is later event may = ap (λ (l : List Event). (share_of (now c' passes l) (likely held passes alike (later ++ before) event)).told)
      (sym (at-since held passes alike later before)) ∙ alike.tells (later ++ before) event may

  pub asked-is : (later : List Happening) (event : Event) → MayAllHappen held passes (later ++ before) →
      asked (now c' passes (later-events later ++ past)) (likely held passes alike (later ++ before) event)
      ≡ asked (beside held passes (later ++ before)) event
  asked-is later event may = ap (λ (l : List Event). asked (now c' passes l) (likely held passes alike (later ++ before) event))
      (sym (at-since held passes alike later before)) ∙ asked-at held passes alike event (later ++ before) may

  -- its steps
  module _ (part : PartRegisters) (begun : FrameCourse) where
    abbrev pub Frames : FrameCourse → Bool → List Event → Type 0
    Frames c own l = IsFrameCourse c' passes part begun past c own l

    pub steps : (c : FrameCourse) (own : Bool) (later : List Happening) → IsFrameCourseBeside held passes part begun before c own later →
        MayAllHappen held passes (later ++ before) → Frames c own (later-events later)
    steps c own later frames_beside_begins may = frame.begins
    steps c own later (over limits f is o l end was says) may =
        frame.over limits f c own (later-events later) end (steps f own later was may)
        (subst (λ (h : Summary). SaysNext part limits h f (Ended end) c) (sym (host-is later may)) says)
    steps c own later (refused limits f is o l job number was says) may =
        frame.refused limits f is own (later-events later) job number (steps f own later was may)
        (subst (λ (h : Summary). SaysNext part limits h f (Job job) is) (sym (host-is later may)) says)
    steps c own later (frames_beside_asks limits f is o l event job was says named) may =
        frame.asks limits f c o (later-events l) (likely held passes alike (l ++ before) event) job (steps f o l was may.1)
        (subst (λ (h : Summary). SaysNext part limits h f (Job job) c) (sym (host-is l may.1)) says)
        (asked-like (beside held passes (l ++ before)) event ∙ named)
    steps c own later (hears f l event stage entry was alone open' told') may =
        subst (λ (h : Summary). Frames (heard_by f h.setup.addr stage entry (surprises h stage entry) (step_of h entry)) (goes_on (step_of h entry))
        (likely held passes alike (l ++ before) event ∷ later-events l)) (host-is l may.1)
        (frame.hears f (later-events l) (likely held passes alike (l ++ before) event) stage entry (steps f true l was may.1)
        (begins-like (beside held passes (l ++ before)) event ∙ alone)
        (ap (λ (h : Summary). h.stage) (host-is l may.1) ∙ open') (tells-is l event may ∙ told'))
    steps c own later (besides f o l event was may-be) may =
        subst (λ (b : Bool). Frames f (o && not b) (likely held passes alike (l ++ before) event ∷ later-events l))
        (begins-like (beside held passes (l ++ before)) event)
        (frame.beside f o (later-events l) (likely held passes alike (l ++ before) event) (steps f o l was may.1)
        (subst (λ (a : Option host.Job). IsBeside part begun.course.survey.output a) (sym (asked-is l event may.1)) may-be))
    steps c own later (frames_beside_looks f o l bytes ending was) may = steps f o l was may.1

    begins-so : (c : FrameCourse) (own : Bool) (later : List Happening) → MayAllHappen held passes (later ++ before) →
        BeginsBeside held passes part begun c own later before → BeginsFrames c' passes part begun c own (later-events later) past
    begins-so c own later may is = record {
      here = is.here;
      idle = ap is_busy (alike.like before (earlier-may held passes later before may)).host ∙ is.idle;
      untold = λ register lacks. read-at held passes alike (Out begun.course.survey.output register) before (earlier-may held passes later before may)
          ∙ is.untold register lacks;
      steady = later-restarts held passes alike later before ∙ is.steady;
      is_course = steps c own later is.is_course may;
    }

  -- what is asked for later
  no-order-so : (output : ℕ) (later : List Happening) → MayAllHappen held passes (later ++ before) →
      EachAsks (IsNoOrder output) held passes later before →
      AsksNoOrder c' passes output (later-events later) past
  no-order-so output [] may all = tt
  no-order-so output (Happens event ∷ later) may all =
      (subst (λ (a : Option host.Job). IsNoOrder output a) (sym (asked-is later event may.1)) all.0, no-order-so output later may.1 all.1)
  no-order-so output (Hears bytes ending ∷ later) may all = no-order-so output later may.1 all

  had-so : (part : PartRegisters) (output : ℕ) (later : List Happening) → MayAllHappen held passes (later ++ before) →
      EachAsks (IsHad part output) held passes later before → ChecksHad c' passes part output (later-events later) past
  had-so part output [] may all = tt
  had-so part output (Happens event ∷ later) may all =
      (subst (λ (a : Option host.Job). IsHad part output a) (sym (asked-is later event may.1)) all.0, had-so part output later may.1 all.1)
  had-so part output (Hears bytes ending ∷ later) may all = had-so part output later may.1 all

  -- the words of an output, and what it commands
  held-is : (later : List Happening) → MayAllHappen held passes (later ++ before) → (output : ℕ) →
      world_held c' passes (later-events later ++ past) output ≡ held_at_beside held passes (later ++ before) output
  held-is later may output = ap (registers-in output) (like later may).words

  pub commands-is : (later : List Happening) → MayAllHappen held passes (later ++ before) → (output : ℕ) →
      world_commands c' passes (later-events later ++ past) output ≡ commands_beside held passes (later ++ before) output
  commands-is later may output = ap (λ (l : List Event). world_commands c' passes l output) (sym (at-since held passes alike later before))
      ∙ commands-at held passes alike (later ++ before) may output

  -- two moments of what happened later
  module _ (later rest newer older : List Happening) (split : later
      ≡ rest ++ (newer ++ older)) (may : MayAllHappen held passes (later ++ before)) where
    abbrev pub rest-events : List Event
    rest-events = since held passes alike rest ((newer ++ older) ++ before)

    abbrev pub newer-events : List Event
    newer-events = since held passes alike newer (older ++ before)

    pub split-so : later-events later ≡ rest-events ++ (newer-events ++ later-events older)
    split-so = ap later-events split ∙ (since-append held passes alike rest (newer ++ older) before
        ∙ ap (λ (l : List Event). rest-events ++ l) (since-append held passes alike newer older before))

    may-newer : MayAllHappen held passes ((newer ++ older) ++ before)
    may-newer = earlier-may held passes rest ((newer ++ older) ++ before) (subst (λ (l : List Happening). MayAllHappen held passes l)
        (ap (λ (l : List Happening). l ++ before) split ∙ append_assoc rest (newer ++ older) before) may)

    may-older : MayAllHappen held passes (older ++ before)
    may-older = earlier-may held passes newer (older ++ before) (subst
        (λ (l : List Happening). MayAllHappen held passes l) (append_assoc newer older before) may-newer)

    newer-is : (newer-events ++ later-events older) ++ past ≡ later-events (newer ++ older) ++ past
    newer-is = ap (λ (l : List Event). l ++ past) (sym (since-append held passes alike newer older before))

    pub step-so : (output : ℕ) (goal goal' : Ratio) → goal ≡ goal' →
        IsStep goal (world_commands c' passes (later-events older ++ past) output)
        (world_commands c' passes ((newer-events ++ later-events older) ++ past) output) →
        IsStep goal' (commands_beside held passes (older ++ before) output)
        (commands_beside held passes ((newer ++ older) ++ before) output)
    step-so output goal goal' same step =
        subst (λ (v : Ratio). IsStep goal' v (commands_beside held passes ((newer ++ older) ++ before) output)) (commands-is older may-older output)
        (subst (λ (v : Ratio). IsStep goal' (world_commands c' passes (later-events older ++ past) output) v)
        (ap (λ (l : List Event). world_commands c' passes l output) newer-is ∙ commands-is (newer ++ older) may-newer output)
        (subst (λ (v : Ratio). IsStep v (world_commands c' passes (later-events older ++ past) output)
        (world_commands c' passes ((newer-events ++ later-events older) ++ past) output)) same step))

    held-newer : (output : ℕ) → world_held c' passes ((newer-events ++ later-events older) ++ past) output
        ≡ held_at_beside held passes ((newer ++ older) ++ before) output
    held-newer output = ap (λ (l : List Event). world_held c' passes l output) newer-is ∙ held-is (newer ++ older) may-newer output

    held-older : (output : ℕ) → world_held c' passes (later-events older ++ past) output
        ≡ held_at_beside held passes (older ++ before) output
    held-older output = held-is older may-older output

  -- what is wanted of an output, and what it would command with a byte of OPERATION
  pub goal-is : (output : ℕ) (wanted : Wanted) → MayAllHappen held passes before →
      world_goal c' passes output wanted past ≡ goal_at_beside held passes output wanted before
  goal-is output wanted may = ap₂ (λ (s : Shape) (h : rail.Held). commands_by (shape_value s) (goal_of h (wants_of wanted)))
      (shape-at held passes alike output)
      (ap (registers-in output) (alike.like before may).words)

  power-is : (output byte : ℕ) → MayAllHappen held passes before →
      world_power c' passes output byte past ≡ power_goal_at_beside held passes output byte before
  power-is output byte may = ap₂ (λ (s : Shape) (h : rail.Held). commands_by (shape_value s) (put h Operation byte))
      (shape-at held passes alike output)
      (ap (registers-in output) (alike.like before may).words)

  -- each register keeps its word
  keeps-so : (output : ℕ) (later : List Happening) → MayAllHappen held passes (later ++ before) →
      ((register : Reg) → world_held c' passes (later-events later ++ past) output register ≡ world_held c' passes past output register) →
      KeepsWords held passes output later before
  keeps-so output later may same register = ap (λ (h : rail.Held). h register) (sym (held-is later may output))
      ∙ (same register ∙ ap (λ (w : Words). word_at w (Out output register)) (alike.like before (earlier-may held passes later before may)).words)

  -- a course to a byte of OPERATION
  byte-so : (part : PartRegisters) (output byte : ℕ) (c : FrameCourse) (later : List Happening) (may : MayAllHappen held passes (later ++ before)) →
      ((register : Reg) (rest newer older : List Event) → later-events later ≡ rest ++ (newer ++ older) →
      (world_held c' passes ((newer ++ older) ++ past) output register ≡ world_held c' passes (older ++ past) output register)
      ⊎ ((register ≡ Operation) × (world_held c' passes ((newer ++ older) ++ past) output register ≡ byte))) →
      ((rest newer older : List Event) → later-events later ≡ rest ++ (newer ++ older) →
      IsStep (world_power c' passes output byte past)
      (world_commands c' passes (older ++ past) output) (world_commands c' passes ((newer ++ older) ++ past) output)) →
      ((limits : OutputLimits) (is : FrameCourse) → last_end c.end ≡ None →
      SaysNext part limits (now c' passes (later-events later ++ past)).host c (Ended Reached) is →
      world_held c' passes (later-events later ++ past) output Operation ≡ byte) →
      (AsksNoOrder c' passes output (later-events later) past → (register : Reg) →
      world_held c' passes (later-events later ++ past) output register ≡ world_held c' passes past output register) →
      KeepsByteBeside held passes part output byte c later before
  byte-so part output byte c later may words step reached untouched = record {
    words = λ register rest newer older split.
        elim (words register (rest-events later rest newer older split may) (newer-events later rest newer older split may) (later-events older)
        (split-so later rest newer older split may)) [
          | inl same ↦ inl (ap (λ (h : rail.Held). h register) (sym (held-newer later rest newer older split may output))
              ∙ (same ∙ ap (λ (h : rail.Held). h register) (held-older later rest newer older split may output)))
          | inr byte' ↦ inr (byte'.0, ap (λ (h : rail.Held). h register) (sym (held-newer later rest newer older split may output)) ∙ byte'.1)
        ];
    steps = λ rest newer older split. step-so later rest newer older split may output _ _ (power-is output byte
        (earlier-may held passes later before may))
        (step (rest-events later rest newer older split may) (newer-events later rest newer older split may) (later-events older)
        (split-so later rest newer older split may));
    come_true = λ limits is on says. ap (λ (h : rail.Held). h Operation) (sym (held-is later may output))
        ∙ reached limits is on (subst (λ (h : Summary). SaysNext part limits h c (Ended Reached) is) (sym (host-is later may)) says);
    untouched = λ none. keeps-so output later may (untouched (no-order-so output later may none));
  }

-- What the calls of a course do is what its way is made of.
hands-beside : (held : Held) (passes : ℕ) (part : PartRegisters) (begun c is : FrameCourse) (own : Bool) (later before : List Happening)
    (g new : Guarded) (sent : Option Sending) → IsFrameCourseBeside held passes part begun before c own later →
    g.host ≡ (beside held passes (later ++ before)).host → g.registers ≡ part → HandsOut g c sent new is →
    HandedBeside held passes part begun before own later g new is
hands-beside held passes part begun c is own later before g new sent was host' registers (again stage frame open' mine sending) = stays refl was
hands-beside held passes part begun c is own later before g new sent was host' registers (begun_job job frame new' is' says lets sending) =
    begins_job job lets (λ event asked'. frames_beside_asks (limits_at g c.course.survey.output) c is own later event job was
    (said-so part g (beside held passes (later ++ before)).host c is _ host' registers says) asked')
hands-beside held passes part begun c is own later before g new sent was host' registers (ended end is' says) =
    stays refl (over (limits_at g c.course.survey.output) c is own later end was
    (said-so part g (beside held passes (later ++ before)).host c is _ host' registers says))
hands-beside held passes part begun c is own later before g new sent was host' registers (refused_job job fault is' says refuses) =
    stays refl (refused (limits_at g c.course.survey.output) c is' own later job (limit_fault_number fault) was
    (said-so part g (beside held passes (later ++ before)).host c is' _ host' registers says))

tells-beside : (held : Held) (passes : ℕ) (part : PartRegisters) (begun c is : FrameCourse) (later before : List Happening)
    (g new : Guarded) (event : Event) (entry : host.Entry) → IsFrameCourseBeside held passes part begun before c true later →
    g.host ≡ (beside held passes (later ++ before)).host → begins_other event ≡ false →
    (share_of (beside held passes (later ++ before)) event).told ≡ Some entry → HearsOf g c entry (Ok tt) new is →
    IsFrameCourseBeside held passes part begun before is (goes_on (step_of g.host entry)) (Happens event ∷ later)
tells-beside held passes part begun c is later before g new event entry was host' alone told' heard' = go entry is told' heard' where
  go : (e : host.Entry) (f : FrameCourse) → (share_of (beside held passes (later ++ before)) event).told ≡ Some e → HearsOf g c e (Ok tt) new f →
      IsFrameCourseBeside held passes part begun before f (goes_on (step_of g.host e)) (Happens event ∷ later)
  go e f tells (heard stage new' open' comes next limits registers) =
      subst (λ (s : Summary). IsFrameCourseBeside held passes part begun before
      (heard_by c s.setup.addr stage e (surprises s stage e) (step_of s e)) (goes_on (step_of s e)) (Happens event ∷ later)) (sym host')
      (hears c later event stage e was alone (sym (ap (λ (s : Summary). s.stage) host') ∙ open') tells)

pub hold-beside : SameSettingsLiveAlike → FrameCoursesHoldInLives → FrameCoursesHoldBeside
hold-beside alike law = record {
  words = λ held passes part output words wanted voltages tries c own later before is means begun.
      let all = alike held passes is.part is.spelled is.made in
      let may-before = earlier-may held passes later before is.may in
      let host = host-is held passes all before later is.may in
      let missing : HoldsMissing part held.config (beside held passes before).device.words output →
      HoldsMissing part (config held passes all) (now (config held passes all) passes (at held passes all before)).device.words output =
      missing-at held passes all before may-before part output in
      let keeps = law.words (config held passes all) passes part output words wanted voltages tries c own (since held passes all later before)
      (at held passes all before) all.spelled (like held passes all before later is.may).lived
      (subst (λ (s : Shape). AreFormed (Some s) words voltages (Ok wanted)) (sym (shape-at held passes all output)) means)
      (begins-so held passes all before part (going_on (course_of output words tries) voltages) c own later is.may begun) in
      record {
        names = λ limits next job says. subst (λ (h : Summary). next_of part limits h (with_plan c.course (Some wanted)) ≡ said.Job job) host
            (keeps.names limits next job (subst (λ (h : Summary). SaysNext part limits h c (Job job) next) (sym host) says));
        free = λ g next job same registers says. keeps.free g next job (same ∙ sym host) registers
            (subst (λ (h : Summary). SaysNext part (limits_at g output) h c (Job job) next) (sym host) says);
        steps = λ lacks rest newer older split. step-so held passes all before later rest newer older split is.may output _ _
            (goal-is held passes all before output wanted may-before)
            (keeps.held (missing lacks) (rest-events held passes all before later rest newer older split is.may)
            (newer-events held passes all before later rest newer older split is.may) (since held passes all older before)
            (split-so held passes all before later rest newer older split is.may));
        kept = λ lacks register none. ap (λ (h : rail.Held). h register) (sym (held-is held passes all before later is.may output))
            ∙ (keeps.kept (missing lacks) register none
            ∙ ap (λ (w : Words). word_at w (Out output register)) (all.like before may-before).words);
        come_true = λ lacks limits next register word on says wants.
            ap (λ (h : rail.Held). h register) (sym (held-is held passes all before later is.may output))
            ∙ keeps.come_true (missing lacks) limits next register word on
            (subst (λ (h : Summary). SaysNext part limits h c (Ended Reached) next) (sym host) says) wants;
        commanded = λ lacks limits next on says. sym (commands-is held passes all before later is.may output)
            ∙ (keeps.commanded (missing lacks) limits next on (subst (λ (h : Summary). SaysNext part limits h c (Ended Reached) next) (sym host) says)
            ∙ goal-is held passes all before output wanted may-before);
        untouched = λ none. keeps-so held passes all before output later is.may (keeps.untouched
            (no-order-so held passes all before output later is.may none));
      };
  unformed = λ held passes part output words voltages tries c own later before refusal is bad begun.
      let all = alike held passes is.part is.spelled is.made in
      keeps-so held passes all before output later is.may
      (law.unformed (config held passes all) passes part output words voltages tries c own (since held passes all later before)
      (at held passes all before) refusal all.spelled (like held passes all before later is.may).lived
      (ap (λ (s : Shape). meant_faults s voltages) (shape-at held passes all output) ∙ bad)
      (begins-so held passes all before part (going_on (course_of output words tries) voltages) c own later is.may begun));
  surveys = λ held passes part output tries c own later before is begun.
      let all = alike held passes is.part is.spelled is.made in
      keeps-so held passes all before output later is.may
      (law.surveys (config held passes all) passes part output tries c own (since held passes all later before) (at held passes all before)
      all.spelled (like held passes all before later is.may).lived
      (begins-so held passes all before part (to_survey output tries) c own later is.may begun));
  off = λ held passes part output byte tries c own later before off is begun.
      let all = alike held passes is.part is.spelled is.made in
      let keeps = law.off (config held passes all) passes part output byte tries c own (since held passes all later before)
      (at held passes all before)
      off all.spelled (like held passes all before later is.may).lived
      (begins-so held passes all before part (to_byte output byte tries) c own later is.may begun) in
      byte-so held passes all before part output byte c later is.may keeps.words keeps.held keeps.come_true keeps.untouched;
  on = λ held passes part output byte tries c own later before on is had begun.
      let all = alike held passes is.part is.spelled is.made in
      let keeps = law.on (config held passes all) passes part output byte tries c own (since held passes all later before) (at held passes all before)
      on all.spelled (like held passes all before later is.may).lived (had-so held passes all before part output later is.may had)
      (begins-so held passes all before part (to_byte output byte tries) c own later is.may begun) in
      byte-so held passes all before part output byte c later is.may keeps.words keeps.held keeps.come_true keeps.untouched;
  says = λ held passes part output byte tries c next own later before limits job on is had begun says.
      let all = alike held passes is.part is.spelled is.made in
      let host = host-is held passes all before later is.may in
      let keeps = law.on (config held passes all) passes part output byte tries c own (since held passes all later before) (at held passes all before)
      on all.spelled (like held passes all before later is.may).lived (had-so held passes all before part output later is.may had)
      (begins-so held passes all before part (to_byte output byte tries) c own later is.may begun) in
      subst (λ (h : Summary). MaySay h c output byte job) host
      (keeps.says limits next job (subst (λ (h : Summary). SaysNext part limits h c (Job job) next) (sym host) says));
  hands = hands-beside;
  tells = tells-beside;
}

-- A course to wishes while the part restarts, by the life that is like what happened beside it.

module _ (held : Held) (passes : ℕ) (alike : LivesAlike held passes) (before : List Happening) where
  abbrev k : Config
  k = config held passes alike

  abbrev between_past : List Event
  between_past = at held passes alike before

  abbrev events : List Happening → List Event
  events later = since held passes alike later before

  -- what is asked for later
  no-store-so : (later : List Happening) → MayAllHappen held passes (later ++ before) → EachAsks IsNoStore held passes later before →
      AsksNoStore k passes (events later) between_past
  no-store-so [] may all = tt
  no-store-so (Happens event ∷ later) may all =
      (subst (λ (a : Option host.Job). IsNoStore a) (sym (asked-is held passes alike before later event may.1)) all.0, no-store-so later may.1 all.1)
  no-store-so (Hears bytes ending ∷ later) may all = no-store-so later may.1 all

  writes-so : (output : ℕ) (wants : Wants) (later : List Happening) → MayAllHappen held passes (later ++ before) →
      WritesWanted k passes output wants (events later) between_past → EachAsks (MayWrite output wants) held passes later before
  writes-so output wants [] may all = tt
  writes-so output wants (Happens event ∷ later) may all = (
    subst (λ (a : Option host.Job). MayWrite output wants a) (asked-is held passes alike before later event may.1) all.0,
    writes-so output wants later may.1 all.1,
  )
  writes-so output wants (Hears bytes ending ∷ later) may all = writes-so output wants later may.1 all

  -- the course of the life
  goes-so : FrameCoursesGoTheirWay → (part : PartRegisters) (output : ℕ) (wanted : Wanted) (later : List Happening)
      (is : GoesOnBeside held passes part output wanted later before) →
      GoesOn k passes part output wanted is.tries (with_plan is.course.course (Some wanted)) (events later) between_past
  goes-so ways part output wanted later is =
      let may = is.life.may in
      let lived = (like held passes alike before later may).lived in
      record {
        spelled = alike.spelled;
        lived = lived;
        here = is.here;
        idle = ap is_busy (alike.like before (earlier-may held passes later before may)).host ∙ is.idle;
        is_course = ways k passes part output is.words wanted is.voltages is.tries is.course is.own (events later) between_past
            alike.spelled lived is.here
            (subst (λ (s : Shape). AreFormed (Some s) is.words is.voltages (Ok wanted)) (sym (shape-at held passes alike output)) is.means)
            (steps held passes alike before part (going_on (course_of output is.words is.tries) is.voltages) is.course is.own later is.is_course may);
        unstored = no-store-so later may is.unstored;
      }

  -- what decides by the words that the output's registers hold and have stored, in the output's own format
  module _ (may : MayAllHappen held passes before) (output : ℕ) where
    same-by : {A : Type 0} (f : Shape → Words → Words → A) →
        f (shape_for k output) (now k passes between_past).device.store
        (now k passes between_past).device.words
        ≡ f (shape_for held.config output) (beside held passes before).device.store
        (beside held passes before).device.words
    same-by f = ap (λ (s : Shape). f s (now k passes between_past).device.store (now k passes between_past).device.words)
        (shape-at held passes alike output)
        ∙ ap₂ (λ (w v : Words). f (shape_for held.config output) w v) (alike.like before may).store (alike.like before may).words

abbrev among : ℕ → Wants → Shape → Words → Words → List Ratio
among output wants shape store words =
    commands_by (shape_value shape) (registers-in output store) ∷ commands_by (shape_value shape) (goal_of (registers-in output words) wants) ∷ []

abbrev among-let-go : ℕ → Wants → Shape → Words → Words → List Ratio
among-let-go output wants shape store words =
    commands_by (shape_value shape) (registers-in output store) ∷ commands_by (shape_value shape) (goal_of (registers-in output words) wants) ∷
    start_let_go (shape_value shape) (registers-in output store) (goal_of (registers-in output words) wants) (registers-in output words Operation)
    ∷ []

pub keep-between : SameSettingsLiveAlike → FrameCoursesGoTheirWay → CoursesKeepBetween → FrameCoursesKeepBetween
keep-between lives ways law = record {
  writes = λ held passes part output wanted later before is.
      let all = lives held passes is.life.part is.life.spelled is.life.made in
      writes-so held passes all before output (wants_of wanted) later is.life.may
      (law.writes (config held passes all) passes part output wanted is.tries (with_plan is.course.course (Some wanted))
      (since held passes all later before) (at held passes all before) (goes-so held passes all before ways part output wanted later is));
  earlier = λ held passes part output wanted rest newer older before is steady unread missing.
      let all = lives held passes is.life.part is.life.spelled is.life.made in
      let c = config held passes all in
      let past-events = at held passes all before in
      let later = rest ++ (newer ++ older) in
      let may = is.life.may in
      let may-before = earlier-may held passes later before may in
      let course = with_plan is.course.course (Some wanted) in
      step-so held passes all before later rest newer older refl may output _ _ (goal-is held passes all before output wanted may-before)
      (law.earlier c passes part output wanted is.tries course (rest-events held passes all before later rest newer older refl may)
      (newer-events held passes all before later rest newer older refl may) (since held passes all older before) past-events
      (subst (λ (l : List Event). GoesOn c passes part output wanted is.tries course l past-events)
      (split-so held passes all before later rest newer older refl may) (goes-so held passes all before ways part output wanted later is))
      (ap (λ (l : List Event). list_any restarts_converter l) (sym (since-append held passes all newer older before))
      ∙ (later-restarts held passes all (newer ++ older) before ∙ steady))
      (λ register lacks. read-at held passes all (Out output register) before may-before ∙ unread register lacks)
      (missing-at held passes all before may-before part output missing));
  between = λ held passes part output wanted rest later before is again selects uncut wanted-uncut.
      let all = lives held passes is.life.part is.life.spelled is.life.made in
      let course = with_plan is.course.course (Some wanted) in
      let wants = wants_of wanted in
      let may-later = later-may held passes rest later before is.life.may in
      let may-before = earlier-may held passes later before may-later in
      subst (λ (v : Ratio). LiesAmong (among output wants (shape_for held.config output) (beside held passes before).device.store
      (beside held passes before).device.words) v) (commands-is held passes all before later may-later output)
      (subst (λ (l : List Ratio). LiesAmong l (world_commands (config held passes all) passes
      (since held passes all later before ++ at held passes all before) output))
      (same-by held passes all before may-before output (among output wants))
      (law.between (config held passes all) passes part output wanted is.tries course (since held passes all rest (later ++ before))
      (since held passes all later before) (at held passes all before)
      (subst (λ (l : List Event). GoesOn (config held passes all) passes part output wanted is.tries course l (at held passes all before))
      (since-append held passes all rest later before) (goes-so held passes all before ways part output wanted (rest ++ later) is))
      (later-restarts held passes all later before ∙ again)
      (ap (λ (w : Words). selected_register (word_at w (Out output Operation))) (all.like before may-before).store
      ∙ (selects ∙ ap (λ (w : Words). selected_register (word_at w (Out output Operation))) (sym (all.like before may-before).words)))
      (same-by held passes all before may-before output (λ s w v. is_cut_by (shape_value s) (registers-in output w)) ∙ uncut)
      (same-by held passes all before may-before output (λ s w v. is_cut_by (shape_value s) (goal_of (registers-in output v) wants))
      ∙ wanted-uncut)));
  let_go = λ held passes part output wanted rest later before is again selects in-order wanted-uncut.
      let all = lives held passes is.life.part is.life.spelled is.life.made in
      let course = with_plan is.course.course (Some wanted) in
      let wants = wants_of wanted in
      let may-later = later-may held passes rest later before is.life.may in
      let may-before = earlier-may held passes later before may-later in
      subst (λ (v : Ratio). LiesAmong (among-let-go output wants (shape_for held.config output) (beside held passes before).device.store
      (beside held passes before).device.words) v) (commands-is held passes all before later may-later output)
      (subst (λ (l : List Ratio). LiesAmong l (world_commands (config held passes all) passes
      (since held passes all later before ++ at held passes all before) output))
      (same-by held passes all before may-before output (among-let-go output wants))
      (law.let_go (config held passes all) passes part output wanted is.tries course (since held passes all rest (later ++ before))
      (since held passes all later before) (at held passes all before)
      (subst (λ (l : List Event). GoesOn (config held passes all) passes part output wanted is.tries course l (at held passes all before))
      (since-append held passes all rest later before) (goes-so held passes all before ways part output wanted (rest ++ later) is))
      (later-restarts held passes all later before ∙ again)
      (ap (λ (w : Words). selected_register (word_at w (Out output Operation))) (all.like before may-before).store
      ∙ (selects ∙ ap (λ (w : Words). selected_register (word_at w (Out output Operation))) (sym (all.like before may-before).words)))
      (same-by held passes all before may-before output (λ s w v. is_above (shape_value s (word_at w (Out output VoutMin)))
      (shape_value s (word_at w (Out output VoutMax)))) ∙ in-order)
      (same-by held passes all before may-before output (λ s w v. is_cut_by (shape_value s) (goal_of (registers-in output v) wants))
      ∙ wanted-uncut)));
}
  where
    later-may : (held : Held) (passes : ℕ) (rest later before : List Happening) → MayAllHappen held passes ((rest ++ later) ++ before) →
        MayAllHappen held passes (later ++ before)
    later-may held passes rest later before may = earlier-may held passes rest (later ++ before)
        (subst (λ (l : List Happening). MayAllHappen held passes l) (append_assoc rest later before) may)

-- What the end Reached is worth beside a part, by the life that is like what happened there.

module _ (held : Held) (passes : ℕ) (alike : LivesAlike held passes) (lists : ListsSayEnough) where
  -- the answers that a survey counts, in both
  pub stands-like : (v : Survey) (happened : List Happening) → MayAllHappen held passes happened →
      ReadsStandBeside held passes v happened → ReadsStand (config held passes alike) passes v (at held passes alike happened)
  stands-like v happened may stand = record {
    registers = λ register read. since-at held passes alike lists (Out v.output register) happened may ∙ stand.registers register read;
    protect = λ read. since-at held passes alike lists Protect happened may ∙ stand.protect read;
  }

  stands-beside : (v : Survey) (happened : List Happening) → MayAllHappen held passes happened →
      ReadsStand (config held passes alike) passes v (at held passes alike happened) → ReadsStandBeside held passes v happened
  stands-beside v happened may stand = record {
    registers = λ register read. sym (since-at held passes alike lists (Out v.output register) happened may) ∙ stand.registers register read;
    protect = λ read. sym (since-at held passes alike lists Protect happened may) ∙ stand.protect read;
  }

  -- the output is as it is wanted
  wanted-beside : (part : PartRegisters) (output : ℕ) (wanted : Wanted) (happened : List Happening) → MayAllHappen held passes happened →
      HoldsWanted (config held passes alike) passes part output wanted (at held passes alike happened) →
      HoldsWantedBeside held passes part output wanted happened
  wanted-beside part output wanted happened may is = record {
    words = λ register word wants. ap (λ (w : Words). word_at w (Out output register)) (sym (alike.like happened may).words) ∙ is.words register word wants;
    commanded = sym (commands-at held passes alike happened may output) ∙ (is.commanded ∙ goal-is held passes alike happened output wanted may);
    one = band-so (band_at part (beside held passes happened).host output)
        (subst (λ (h : Summary). IsSomeAnd (band_at part h output) (λ band. WorldOne band (config held passes alike) passes
        (at held passes alike happened) output)) (alike.like happened may).host is.one);
  }
    where
      band-so : (band : Option Band) →
          IsSomeAnd band (λ b. WorldOne b (config held passes alike) passes (at held passes alike happened) output) →
          IsSomeAnd band (λ b. IsOneValue b held passes happened output)
      band-so None so = so
      band-so (Some band) so = record {
        least = so.least ∙ commands-at held passes alike happened may output;
        greatest = so.greatest ∙ commands-at held passes alike happened may output;
      }

pub reached-beside : SameSettingsLiveAlike → ListsSayEnough → ReachedSinceItRead → ReachedSinceItReadBeside
reached-beside alike lists law = record {
  reached = λ held passes part limits output words wanted voltages tries c next own later before is here means course stand unread missing on says.
      let all = alike held passes is.part is.spelled is.made in
      let k = config held passes all in
      let happened = later ++ before in
      let split = at-since held passes all later before in
      wanted-beside held passes all lists part output wanted happened is.may
      (subst (λ (l : List Event). HoldsWanted k passes part output wanted l) (sym split)
      (law.reached k passes part limits output words wanted voltages tries c next own (since held passes all later before) (at held passes all before)
      all.spelled (like held passes all before later is.may).lived here
      (subst (λ (s : Shape). AreFormed (Some s) words voltages (Ok wanted)) (sym (shape-at held passes all output)) means)
      (steps held passes all before part (going_on (course_of output words tries) voltages) c own later course is.may)
      (subst (λ (l : List Event). ReadsStand k passes c.course.survey l) split (stands-like held passes all lists c.course.survey happened is.may stand))
      (subst (λ (l : List Event). WorldUnread k passes part output l) split
      (λ register lacks. read-at held passes all (Out output register) happened is.may ∙ unread register lacks))
      (subst (λ (l : List Event). HoldsMissing part k (now k passes l).device.words output) split
      (missing-at held passes all happened is.may part output missing)) on
      (subst (λ (h : Summary). SaysNext part limits h c (Ended Reached) next) (sym (host-is held passes all before later is.may)) says)));
  steady = λ held passes v later before is are steady.
      let all = alike held passes is.part is.spelled is.made in
      let k = config held passes all in
      stands-beside held passes all lists v (later ++ before) is.may
      (subst (λ (l : List Event). ReadsStand k passes v l) (sym (at-since held passes all later before))
      (law.steady k passes v (since held passes all later before) (at held passes all before) (read-like held passes all v later before is.may are)
      (later-restarts held passes all later before ∙ steady)));
  reads = λ held passes part output words wanted voltages tries c own later before is here means course.
      let all = alike held passes is.part is.spelled is.made in
      read-beside held passes all c.course.survey later before is.may
      (law.reads (config held passes all) passes part output words wanted voltages tries c own (since held passes all later before)
      (at held passes all before) all.spelled (like held passes all before later is.may).lived here
      (subst (λ (s : Shape). AreFormed (Some s) words voltages (Ok wanted)) (sym (shape-at held passes all output)) means)
      (steps held passes all before part (going_on (course_of output words tries) voltages) c own later course is.may));
}

-- What a course comes to beside a part, as one of the life that is like what happened there.

-- ---- Two moments that are alike ----

-- They have the same guard, and converters that hold the same words and are made with the same formats.
record AreAlike (one other : Pair) : Type 0 where
  guard : one.guard ≡ other.guard
  words : one.held.words ≡ other.held.words
  shapes : (output : ℕ) → shape_for one.held.config output ≡ shape_for other.held.config output

abbrev beside_registers-in : ℕ → Words → rail.Held
beside_registers-in output words register = word_at words (Out output register)

value-is : {one other : Pair} → AreAlike one other → (output : ℕ) → value_for one.held.config output ≡ value_for other.held.config output
value-is alike output = ap (λ (s : Shape). shape_value s) (alike.shapes output)

words-is : {one other : Pair} → AreAlike one other → (output : ℕ) → output_words_of one.held output ≡ output_words_of other.held output
words-is alike output = ap (beside_registers-in output) alike.words

-- what decides an end is the same
fault-is : {one other : Pair} → AreAlike one other → (limits : OutputLimits) (output : ℕ) (wants : Wants) →
    held_fault limits one.held output wants ≡ held_fault limits other.held output wants
fault-is {one = one} {other = other} alike limits output wants =
    ap₂ (λ (s : Shape) (w : Words). fault s w) (alike.shapes output) alike.words
  where
    fault : Shape → Words → Option PlanFault
    fault s w = first (limits_fault limits (shape_value s) wants ∷ words_fault (shape_value s) (beside_registers-in output w) wants
        ∷ protection_fault (word_at w Protect) (beside_registers-in output w) wants ∷ [])

tries-is : {one other : Pair} → AreAlike one other → (limits : OutputLimits) (output : ℕ) (wants : Wants) →
    tries_for limits one.held output wants ≡ tries_for limits other.held output wants
tries-is {one = one} {other = other} alike limits output wants =
    ap₂ (λ (f : Option PlanFault) (r : Option Reg). if is_some f || is_none r then 15 else 28) (fault-is alike limits output wants)
    (ap₂ (λ (s : Shape) (w : Words). next_register (shape_value s) (beside_registers-in output w) wants) (alike.shapes output) alike.words)

byte-tries-is : {one other : Pair} → AreAlike one other → (output byte : ℕ) →
    byte_tries one.held output byte ≡ byte_tries other.held output byte
byte-tries-is alike output byte = ap (λ (h : rail.Held). if has_on byte then (if h Operation == byte then 10 else 20)
    else 1) (words-is alike output)

fits-is : {one other : Pair} → AreAlike one other → (part : PartRegisters) (output : ℕ) (wants : Wants) →
    FitsPart part other.held output wants → FitsPart part one.held output wants
fits-is alike part output wants fits = record {
  wanted = fits.wanted;
  selected = ap (λ (h : rail.Held). has_register part (selected_register (h Operation))) (words-is alike output) ∙ fits.selected;
  missing = λ register word lacks. ap (λ (h : rail.Held). h register) (words-is alike output)
      ∙ fits.missing register word (ap (λ (s : Shape). missing_word part s register) (sym (alike.shapes output)) ∙ lacks);
}

ends-is : {old new old' new' : Pair} → AreAlike old old' → AreAlike new new' → (output : ℕ) (wants : Wants) (end : ApplyEnd) →
    EndsBy output wants old end new (held_fault (limits_at old.guard output) old.held output wants) →
    EndsBy output wants old' end new' (held_fault (limits_at old'.guard output) old'.held output wants)
ends-is {old = old} {new = new} {old' = old'} {new' = new'} first' then' output wants end by =
    go (held_fault (limits_at old.guard output) old.held output wants) by
    (ap (λ (g : Guarded). held_fault (limits_at g output) old.held output wants) first'.guard
    ∙ fault-is first' (limits_at old'.guard output) output wants)
  where
    go : (f : Option PlanFault) → EndsBy output wants old end new f → f ≡ held_fault (limits_at old'.guard output) old'.held output wants →
        EndsBy output wants old' end new' (held_fault (limits_at old'.guard output) old'.held output wants)
    go f e same = subst (λ (g : Option PlanFault). EndsBy output wants old' end new' g) same (moved f e) where
      moved : (g : Option PlanFault) → EndsBy output wants old end new g → EndsBy output wants old' end new' g
      moved None is = record {
        reached = is.reached;
        words = λ register. ap (λ (h : rail.Held). h register) (sym (words-is then' output))
            ∙ (is.words register ∙ ap (λ (h : rail.Held). goal_of h wants register) (words-is first' output));
        commands = ap₂ (λ (s : Shape) (w : Words). commanded (shape_value s) w output) (sym (then'.shapes output)) (sym then'.words)
            ∙ (is.commands ∙ ap₂ (λ (s : Shape) (h : rail.Held). commands_by (shape_value s) (goal_of h wants)) (first'.shapes output)
            (words-is first' output));
        protect = ap (λ (w : Words). word_at w Protect) (sym then'.words)
            ∙ (is.protect ∙ ap (λ (w : Words). word_at w Protect) first'.words);
      }
      moved (Some fault) is = record { refused = is.refused; words = sym then'.words ∙ (is.words ∙ first'.words) }

switched-is : {old new old' new' : Pair} → AreAlike old old' → AreAlike new new' → (output byte : ℕ) → IsSwitched output byte old new →
    IsSwitched output byte old' new'
switched-is first' then' output byte is = record {
  takes = ap (λ (h : rail.Held). h Operation) (sym (words-is then' output)) ∙ is.takes;
  others = λ other two there. ap (λ (w : Words). word_at w other) (sym then'.words)
      ∙ (is.others other two (subst (λ (g : Guarded). IsCell g.host.setup.outputs other) (sym first'.guard) there)
      ∙ ap (λ (w : Words). word_at w other) first'.words);
  commands = ap₂ (λ (s : Shape) (w : Words). commanded (shape_value s) w output) (sym (then'.shapes output)) (sym then'.words)
      ∙ (is.commands ∙ ap₂ (λ (s : Shape) (h : rail.Held). commands_by (shape_value s) (put h Operation byte)) (first'.shapes output)
      (words-is first' output));
}

beside_asked-is : {old new old' new' : Pair} → AreAlike old old' → AreAlike new new' → (output byte : ℕ) (job : Asked) →
    IsAskedFor output byte old new job →
    IsAskedFor output byte old' new' job
beside_asked-is {old = old} {new = new} {old' = old'} {new' = new'} first' then' output byte job is = record {
  allowed = λ cell word e. subst (λ (w : Words). is_allowed (word_at w Protect) (cell_code cell) ≡ true)
      then'.words (is.allowed cell word e);
  free = subst (λ (g : Guarded). (guard_fault g job ≡ None)
      ⊎ ((job ≡ Order (Out output Operation) byte) × (new'.held.words ≡ old'.held.words)
      × (has_on byte ≡ true → limits_at g output ≢ Unlimited))) then'.guard (go is.free);
}
  where
    go : (guard_fault new.guard job ≡ None)
        ⊎ ((job ≡ Order (Out output Operation) byte) × (new.held.words ≡ old.held.words)
        × (has_on byte ≡ true → limits_at new.guard output ≢ Unlimited)) →
        (guard_fault new.guard job ≡ None)
        ⊎ ((job ≡ Order (Out output Operation) byte) × (new'.held.words ≡ old'.held.words)
        × (has_on byte ≡ true → limits_at new.guard output ≢ Unlimited))
    go (inl free) = inl free
    go (inr (same, kept, limits)) = inr (same, sym then'.words ∙ (kept ∙ first'.words), limits)

there-is : {old new old' new' : Pair} → AreAlike old old' → AreAlike new new' → (output : ℕ) (wanted : Wanted) (most : ℕ) (c : FrameCourse)
    (own : Bool) (n : ℕ) → GetsThere output wanted most old new c own n → GetsThere output wanted most old' new' c own n
there-is {new = new} {new' = new'} first' then' output wanted most c own n is = record {
  few = is.few;
  sends = λ e. ap (λ (g : Guarded). is_busy g.host) (sym then'.guard) ∙ is.sends e;
  free = λ e next job says. subst (λ (g : Guarded). (n + 1 ≤ most) × (guard_fault g job ≡ None)) then'.guard (is.free e next job
      (subst (λ (g : Guarded). SaysNext g.registers (limits_at g c.course.survey.output) g.host c (Job job) next) (sym then'.guard) says));
  ends = λ e next end says.
      let so = is.ends e next end
      (subst (λ (g : Guarded). SaysNext g.registers (limits_at g c.course.survey.output) g.host c (Ended end)
      next) (sym then'.guard) says) in
      record { way = so.way; says = so.says; ends = ends-is first' then' output (wants_of wanted) so.way so.ends };
}

switches-is : {old new old' new' : Pair} → AreAlike old old' → AreAlike new new' → (output byte most : ℕ) (c : FrameCourse)
    (own : Bool) (n : ℕ) → GetsSwitched output byte most old new c own n → GetsSwitched output byte most old' new' c own n
switches-is {new = new} {new' = new'} first' then' output byte most c own n is = record {
  few = is.few;
  sends = λ e. ap (λ (g : Guarded). is_busy g.host) (sym then'.guard) ∙ is.sends e;
  free = λ e next job says.
      let so = is.free e next job
      (subst (λ (g : Guarded). SaysNext g.registers (limits_at g c.course.survey.output) g.host c (Job job) next) (sym then'.guard) says) in
      (so.0, beside_asked-is first' then' output byte job so.1);
  ends = λ e next end says.
      let so = is.ends e next end
      (subst (λ (g : Guarded). SaysNext g.registers (limits_at g c.course.survey.output) g.host c (Ended end)
      next) (sym then'.guard) says) in
      (so.0, switched-is first' then' output byte so.1);
}

read-is : {old new old' new' : Pair} → AreAlike old old' → AreAlike new new' → (most : ℕ) (c : FrameCourse) (own : Bool) (n : ℕ) →
    GetsRead most old new c own n → GetsRead most old' new' c own n
read-is {new = new} {new' = new'} first' then' most c own n is = record {
  few = is.few;
  sends = λ e. ap (λ (g : Guarded). is_busy g.host) (sym then'.guard) ∙ is.sends e;
  free = λ e next job says. subst (λ (g : Guarded). (n + 1 ≤ most) × (guard_fault g job ≡ None)) then'.guard (is.free e next job
      (subst (λ (g : Guarded). SaysNext g.registers (limits_at g c.course.survey.output) g.host c (Job job) next) (sym then'.guard) says));
  ends = λ e next end says.
      let so = is.ends e next end
      (subst (λ (g : Guarded). SaysNext g.registers (limits_at g c.course.survey.output) g.host c (Ended end)
      next) (sym then'.guard) says) in
      (so.0, sym then'.words ∙ (so.1 ∙ first'.words));
}

-- ---- The steps of a course ----

module _ (held : Held) (passes : ℕ) (alike : LivesAlike held passes) (part : PartRegisters) (limits : List OutputLimits) where
  abbrev own : Config
  own = config held passes alike

  -- a moment beside the part and the like one of the life
  same-shapes : (events : List Event) (happened : List Happening) (entries : List Entry) → IsLike own passes events held happened entries →
      (output : ℕ) → shape_for (now own passes events).device.config output ≡ shape_for (beside held passes happened).device.config output
  unfolding shape_for
  same-shapes events happened entries is output = ap₂ (λ (m : List ℕ) (k : Coefficients). unwrap_or
      (option_and_then (λ mode. result_ok (shape_in mode k)) (result_ok (mode_of (slice_index m output)))) InLinear11)
      is.settings.modes (ap (λ (h : Held). h.config.coefficients) is.settings.same)

  moment : (events : List Event) (happened : List Happening) (entries : List Entry) → IsLike own passes events held happened entries →
      AreAlike (pair_at part limits own passes events) (pair_beside part limits held passes happened)
  moment events happened entries is = record {
    guard = ap (λ (h : Summary). record { host = h; limits = limits; registers = part }) is.host;
    words = is.words;
    shapes = λ output. same-shapes events happened entries is output;
  }

  module _ (before : List Happening) where
    abbrev past-events : List Event
    past-events = past held passes alike before

    abbrev events-of : List Happening → List Event
    events-of later = later-events held passes alike before later

    first-moment : MayAllHappen held passes before →
        AreAlike (pair_at part limits own passes past-events) (pair_beside part limits held passes before)
    first-moment may = moment past-events before _ (alike.like before may)

    later-moment : (later : List Happening) → MayAllHappen held passes (later ++ before) →
        AreAlike (pair_at part limits own passes (events-of later ++ past-events)) (pair_beside part limits held passes (later ++ before))
    later-moment later may = moment (events-of later ++ past-events) (later ++ before) _ (like held passes alike before later may)

    module _ (begun : FrameCourse) where
      abbrev Undisturbed : FrameCourse → Bool → ℕ → List Event → Type 0
      Undisturbed c mine n l = IsUndisturbed own passes part limits begun past-events c mine n l

      undisturbed : (c : FrameCourse) (mine : Bool) (n : ℕ) (later : List Happening) →
          IsUndisturbedBeside held passes part limits begun before c mine n later → MayAllHappen held passes (later ++ before) →
          Undisturbed c mine n (events-of later)
      undisturbed c mine n later progress_beside_begins may = life_of.begins
      undisturbed c mine n later (progress_beside_asks f is m l event job was says named) may =
          life_of.asks f c m (events-of l) (likely held passes alike (l ++ before) event) job (undisturbed f false m l was may.1)
          (subst (λ (h : Summary). SaysNext part (limits_at (pair_beside part limits held passes
          (l ++ before)).guard f.course.survey.output) h f
          (Job job) c) (sym (host-is held passes alike before l may.1)) says)
          (asked-like (beside held passes (l ++ before)) event ∙ named)
      undisturbed c mine n later (writes f m l stage was open' kind) may =
          let same = host-is held passes alike before (Happens (Deliver Whole) ∷ l) may.1 in
          subst (λ (h : Summary). Undisturbed (heard_by f h.setup.addr stage (Finished true) (surprises h stage (Finished true))
          (step_of h (Finished true))) (goes_on (step_of h (Finished true))) m (Finish true ∷ Deliver Whole ∷ events-of l)) same
          (life_of.writes f m (events-of l) stage (undisturbed f true m l was may.1.1) (ap (λ (h : Summary). h.stage) same ∙ open') kind)
      undisturbed c mine n later (reads f m l stage entry was open' kind told') may =
          let same = host-is held passes alike before l may.1 in
          subst (λ (h : Summary). Undisturbed (heard_by f h.setup.addr stage entry (surprises h stage entry) (step_of h entry))
          (goes_on (step_of h entry)) m (Exchange Whole back.Whole ∷ events-of l)) same
          (life_of.reads f m (events-of l) stage entry (undisturbed f true m l was may.1) (ap (λ (h : Summary). h.stage) same ∙ open') kind
          (tells-is held passes alike before l (Exchange Whole back.Whole) may ∙ told'))
      undisturbed c mine n later (progress_beside_looks f o m l bytes ending was) may = undisturbed f o m l was may.1

pub get-there-beside : SameSettingsLiveAlike → ListsSayEnough → FrameCoursesGetThere → FrameCoursesGetThereBeside
get-there-beside alike lists law = record {
  begins = λ held passes part limits output words wanted voltages tries c mine n later before is here means idle there fits enough undisturbed'.
      let all = alike held passes is.part is.spelled is.made in
      let may = earlier-may held passes later before is.may in
      let first' = first-moment held passes all part limits before may in
      let then' = later-moment held passes all part limits before later is.may in
      let tries-same = tries-is first' (limits_at (pair_beside part limits held passes before).guard output) output (wants_of wanted) in
      subst (λ (m : ℕ). GetsThere output wanted m (pair_beside part limits held passes before)
      (pair_beside part limits held passes (later ++ before))
      c mine n) tries-same
      (there-is first' then' output wanted _ c mine n
      (law.begins (config held passes all) passes part limits output words wanted voltages tries c mine n
      (since held passes all later before)
      (at held passes all before) all.spelled (like held passes all before later is.may).lived here
      (subst (λ (s : Shape). AreFormed (Some s) words voltages (Ok wanted)) (sym (shape-at held passes all output)) means)
      (ap is_busy (all.like before may).host ∙ idle) there (fits-is first' part output (wants_of wanted) fits)
      (subst (λ (m : ℕ). m ≤ tries) (sym tries-same) enough)
      (undisturbed held passes all part limits before (going_on (course_of output words tries) voltages) c mine
      n later undisturbed' is.may)));
  goes_on = λ held passes part limits output words wanted voltages tries begun c mine own' n later earlier before is here means way idle on once
      many stand there fits undisturbed'.
      let all = alike held passes is.part is.spelled is.made in
      let may = earlier-may held passes later (earlier ++ before) is.may in
      let split = at-since held passes all earlier before in
      let first' = first-moment held passes all part limits (earlier ++ before) may in
      let then' = later-moment held passes all part limits (earlier ++ before) later is.may in
      there-is first' then' output wanted 28 c mine n
      (subst (λ (l : List Event). GetsThere output wanted 28 (pair_at part limits (config held passes all) passes l)
      (pair_at part limits (config held passes all) passes (since held passes all later (earlier ++ before) ++ l)) c mine n) (sym split)
      (law.goes_on (config held passes all) passes part limits output words wanted voltages tries begun c mine own' n
      (since held passes all later (earlier ++ before)) (since held passes all earlier before) (at held passes all before) all.spelled
      (subst (λ (l : List Event). IsLived (config held passes all) passes (since held passes all later (earlier ++ before) ++ l)) split
      (like held passes all (earlier ++ before) later is.may).lived) here
      (subst (λ (s : Shape). AreFormed (Some s) words voltages (Ok wanted)) (sym (shape-at held passes all output)) means)
      (steps held passes all before part (going_on (course_of output words tries) voltages) begun own' earlier way may)
      (subst (λ (l : List Event). is_busy (now (config held passes all) passes l).host ≡ false) split
      (ap is_busy (all.like (earlier ++ before) may).host ∙ idle)) on once many
      (subst (λ (l : List Event). ReadsStand (config held passes all) passes begun.course.survey l) split
      (stands-like held passes all lists begun.course.survey (earlier ++ before) may stand)) there
      (subst (λ (l : List Event). FitsPart part (now (config held passes all) passes l).device output (wants_of wanted)) split
      (fits-is first' part output (wants_of wanted) fits))
      (subst (λ (l : List Event). IsUndisturbed (config held passes all) passes part limits begun l c mine n
      (since held passes all later (earlier ++ before))) split
      (undisturbed held passes all part limits (earlier ++ before) begun c mine n later undisturbed' is.may))));
  switches = λ held passes part limits output byte tries c mine n later before is here idle there allowed enough undisturbed'.
      let all = alike held passes is.part is.spelled is.made in
      let may = earlier-may held passes later before is.may in
      let first' = first-moment held passes all part limits before may in
      let then' = later-moment held passes all part limits before later is.may in
      let tries-same = byte-tries-is first' output byte in
      subst (λ (m : ℕ). GetsSwitched output byte m (pair_beside part limits held passes before)
      (pair_beside part limits held passes (later ++ before))
      c mine n) tries-same
      (switches-is first' then' output byte _ c mine n
      (law.switches (config held passes all) passes part limits output byte tries c mine n (since held passes all later before)
      (at held passes all before) all.spelled (like held passes all before later is.may).lived here
      (ap is_busy (all.like before may).host ∙ idle) there
      (ap (λ (w : Words). is_allowed (word_at w Protect) (cell_code (Out output Operation))) first'.words ∙ allowed)
      (subst (λ (m : ℕ). m ≤ tries) (sym tries-same) enough)
      (undisturbed held passes all part limits before (to_byte output byte tries) c mine n later undisturbed' is.may)));
  surveys = λ held passes part limits output tries c mine n later before is here idle there enough undisturbed'.
      let all = alike held passes is.part is.spelled is.made in
      let may = earlier-may held passes later before is.may in
      let first' = first-moment held passes all part limits before may in
      let then' = later-moment held passes all part limits before later is.may in
      read-is first' then' 10 c mine n
      (law.surveys (config held passes all) passes part limits output tries c mine n (since held passes all later before)
      (at held passes all before) all.spelled (like held passes all before later is.may).lived here
      (ap is_busy (all.like before may).host ∙ idle)
      (ap (λ (h : rail.Held). has_register part (selected_register (h Operation))) (words-is first' output) ∙ there) enough
      (undisturbed held passes all part limits before (to_survey output tries) c mine n later undisturbed' is.may));
}
