-- What a course that hands out frames says, what it is once it was told, and that it goes the way of the course to the words that it means.
use Rattle.std.specs.{List.list_any, Ordering.int_eq, Result.result_ok}
use Rattle.std.specs.Prelude.{if◌then◌else◌, is_none, ◌&&◌, ◌==◌, is_some, option_and_then, find, option_map, ◌||◌}
use Rattle.std.proofs.lemmas.Bool.{or_parts}
use Rattle.std.proofs.Common.{Bool, Err, None, Ok, Option, Result, Some, ap, false, inl, inr, refl, subst, sym, true, ℕ, ◌∙◌, ◌≡◌, ◌⊎◌, not}
use Rattle.std.proofs.Common.{List, [], ◌∷◌, ◌++◌, arith, cond, pos, ℤ, ◌<◌}
use Rattle.pm_num.specs.{Lemmas.Slope.direct-one_word, Lemmas.Unsigned.ulinear16-one_word}
use Rattle.pm_num.specs.AnyFormat.{Shape, InDirect, InUlinear16, shape_rank, shape_value}
use Rattle.pm_num.specs.Bounds.{IsAtLeast, IsAtMost}
use Rattle.pm_num.specs.Lemmas.OneWord.{IsOneWord, at_most_both, one_from_nearest}
use Rattle.pm_num.specs.Ratio.{Ratio, micros}
use Rattle.pm_num.specs.declared.fault.NumFault.TheVariants.{ExponentRange, ZeroSlope}
use Rattle.pm_table.specs.{VoutMode.mode_of, declared.coefficients.Coefficients.Coefficients as TableCoefficients, declared.reg.Reg.Reg}
use Rattle.pm_table.specs.{declared.vout_mode.VoutMode.VoutMode}
use Rattle.pm_table.specs.Format.{is_decimal, shape_in}
use Rattle.pm_table.specs.declared.cell.Cell.TheVariants.{Out, Protect}
use Rattle.pm_table.specs.declared.reg.Reg.TheVariants.{MarginHigh, MarginLow, Operation, VoutCommand, VoutMax, VoutMin}
use Rattle.pm_table.specs.declared.vout_mode.VoutMode.TheVariants.{Direct, Linear}
use Rattle.pm_device.specs.{Start.IsSound, declared.config.Config.Config}
use Rattle.pm_device.specs.Held.{mode_for, shape_for}
use Rattle.pm_host.specs.{Jobs.accepted_job, Refusals.is_busy, declared.host.Step.Step, declared.job.Job.Job as Asked}
use Rattle.pm_host.specs.{declared.job.JobEnd.JobEnd, declared.stage.Stage.Stage}
use Rattle.pm_host.specs.Summary.{Summary, format_at, step_of}
use Rattle.pm_host.specs.Transcript as host
use Rattle.pm_host.specs.Transcript.{Accepted, Entry, Finished, Got, Restarted}
use Rattle.pm_host.specs.declared.host.Step.TheVariants.{Next as StepNext, Ended as JobEnded}
use Rattle.pm_host.specs.declared.job.Job.TheVariants.{Check, Learn, Order, OrderMicro, Send}
use Rattle.pm_host.specs.declared.job.JobEnd.TheVariants as end
use Rattle.pm_host.specs.declared.question.Question.TheVariants.{Coefficients, Mode, Word}
use Rattle.pm_host.specs.declared.stage.Stage.TheVariants.{Asks, Reads, Sends, Writes}
use Rattle.pm_limits.specs.{Part.has_register, declared.output_limits.OutputLimits.OutputLimits}
use Rattle.pm_limits.specs.{declared.part_registers.PartRegisters.PartRegisters}
use Rattle.pm_rail.specs.{Laws.CoursesEnd, Registers.wants_of, declared.apply_end.ApplyEnd.TheVariants.Stopped}
use Rattle.pm_rail.specs.{declared.course.Course.Course, declared.course.Differing.Differing, declared.fault.PlanFault.PlanFault}
use Rattle.pm_rail.specs.{declared.next.Next.Next, declared.wanted.Wanted.Wanted}
use Rattle.pm_rail.specs.Course.{after_next, differing, going, going_to, is_carried_out, is_last, naming, next_of, once_more, order_next}
use Rattle.pm_rail.specs.Course.{survey_or_order, reading_for, renewed, says, taking, told_of}
use Rattle.pm_rail.specs.Lemmas.Says.{differing-same, ended-same, renewed-so}
use Rattle.pm_rail.specs.Orders.{missing_fault, is_wanted_missing, voltages}
use Rattle.pm_rail.specs.Survey.{due_by, due_job, ended, is_surveyed, wanted_in}
use Rattle.pm_rail.specs.declared.apply_end.ApplyEnd.TheVariants as way
use Rattle.pm_rail.specs.declared.apply_end.StopCause.TheVariants as stop
use Rattle.pm_rail.specs.declared.fault.PlanFault.TheVariants.{Busy, MissingRegister}
use Rattle.pm_rail.specs.declared.next.Next.TheVariants as said
use Rattle.pm_course.specs.{Ends.busy_end, Surprise.surprises, declared.course_end.CourseEnd.CourseEnd}
use Rattle.pm_course.specs.{declared.course_end.CourseEnd.TheVariants.Reached, declared.course_end.Refusal.Refusal}
use Rattle.pm_course.specs.{declared.frame_course.FrameCourse.FrameCourse, declared.voltages.Voltages.Voltages}
use Rattle.pm_course.specs.FrameCourse.{Says, SaysNext, asked_for, asking_for, course_ends, last_end, missing_of, planning, saying}
use Rattle.pm_course.specs.FrameCourse.{saying_by}
use Rattle.pm_course.specs.FrameCourse.{saying_for, saying_missing, saying_next, saying_planned, saying_source, source_of, with_plan}
use Rattle.pm_course.specs.Heard.{ended_by, forgetting, is_job_of, heard_by, mode_told, noting, stepped}
use Rattle.pm_course.specs.Wishes.{AreMeant, IsMeant, IsWordFor, is_missing, missing_at, missing_in, voltage_of}
use Rattle.pm_course.specs.declared.course_end.CourseNext.TheVariants.{Ended, Job}
use Rattle.pm_world.specs.{Ended.begins_other, Job.asked_by, Lemmas.Formats.slope, Life.now, declared.event.Event.Event}
use Rattle.pm_world.specs.Courses.{IsBeside, IsCourse, asks as course-asks, begins as course-begins, beside as course-beside, forgets}
use Rattle.pm_world.specs.Courses.{tells, CoursesHoldInLives}
use Rattle.pm_world.specs.Laws.{LivesAreFollowed, LearnedFormatsAreTrue}
use Rattle.pm_world.specs.Lived.{EventsAreLived, IsLived}
use Rattle.pm_world.specs.State.{State, asked, end_by, next as world_next, share_of}
use Rattle.pm_course_laws.specs.FrameLives.{IsFrameCourse, asks, begins, beside, goes_on, hears, over as frame_lives_over, refused}

-- What a course that hands out frames says, and what it is once it was told.

-- ---- What a course that hands out frames says, as what its way names ----

module _ (part : PartRegisters) (limits : OutputLimits) (s : Summary) (c : FrameCourse) where
  -- the way by these words
  abbrev pub way_to : Wanted → Course
  way_to formed = with_plan c.course (planning c.course formed)

  -- it goes by its words
  pub record Goes (words : Result Wanted Refusal) : Type 0 where
    pub formed : Wanted
    pub words_are : words ≡ Ok formed
    pub idle : is_busy s ≡ false
    pub there : missing_of part c ≡ None
    pub said : saying part limits s c words ≡ saying_planned part limits s c (Ok formed)

  pub by-words : (words : Result Wanted Refusal) (formed : Wanted) → last_end c.end ≡ None → is_busy s ≡ false → missing_of part c ≡ None →
      source_of s c.course c.course.byte ≡ None → words ≡ Ok formed →
      saying part limits s c words ≡ saying_planned part limits s c (Ok formed)
  by-words words formed l bi mi oi wi = ap (λ (e : Option CourseEnd). saying_by part limits s c words e) l
      ∙ (ap (λ (b : Bool). if b then course_ends c busy_end else saying_missing part limits s c words (missing_of part c)) bi
      ∙ (ap (λ (m : Option Refusal). saying_missing part limits s c words m) mi
      ∙ (ap (λ (o : Option ℕ). saying_source part limits s c words o) oi
      ∙ ap (λ (w : Result Wanted Refusal). saying_planned part limits s c w) wi)))

  goes-job : (words : Result Wanted Refusal) (job : Asked) → (saying part limits s c words).next ≡ Job job → Goes words
  goes-job words job is = by (last_end c.end) refl (is_busy s) refl (missing_of part c) refl
      (source_of s c.course c.course.byte) refl words refl
    where
      by : (l : Option CourseEnd) → last_end c.end ≡ l → (b : Bool) → is_busy s ≡ b → (m : Option Refusal) → missing_of part c ≡ m →
          (o : Option ℕ) → source_of s c.course c.course.byte ≡ o → (w : Result Wanted Refusal) → words ≡ w → Goes words
      by (Some end) l b bi m mi o oi w wi = let never = rw l at is in cc
      by None l true bi m mi o oi w wi = let never = rw (l, bi) at is in cc
      by None l false bi (Some r) mi o oi w wi = let never = rw (l, bi, mi) at is in cc
      by None l false bi None mi (Some byte) oi w wi = let never = rw (l, bi, mi, oi) at is in cc
      by None l false bi None mi None oi (Err r) wi = let never = rw (l, bi, mi, oi, wi) at is in cc
      by None l false bi None mi None oi (Ok formed) wi = record {
        formed = formed;
        words_are = wi;
        idle = bi;
        there = mi;
        said = by-words words formed l bi mi oi wi;
      }

  goes-reached : (words : Result Wanted Refusal) → last_end c.end ≡ None → (saying part limits s c words).next ≡ Ended Reached → Goes words
  goes-reached words l is = by (is_busy s) refl (missing_of part c) refl (source_of s c.course c.course.byte) refl words refl
    where
      by : (b : Bool) → is_busy s ≡ b → (m : Option Refusal) → missing_of part c ≡ m →
          (o : Option ℕ) → source_of s c.course c.course.byte ≡ o → (w : Result Wanted Refusal) → words ≡ w → Goes words
      by true bi m mi o oi w wi = let never = rw (l, bi) at is in cc
      by false bi (Some r) mi o oi w wi = let never = rw (l, bi, mi) at is in cc
      by false bi None mi (Some byte) oi w wi = let never = rw (l, bi, mi, oi) at is in cc
      by false bi None mi None oi (Err r) wi = let never = rw (l, bi, mi, oi, wi) at is in cc
      by false bi None mi None oi (Ok formed) wi = record {
        formed = formed;
        words_are = wi;
        idle = bi;
        there = mi;
        said = by-words words formed l bi mi oi wi;
      }

  -- nothing stands in the place of what its way names
  abbrev pub IsPlain : Type 0
  IsPlain = (j : Asked) → asked_for s c.course c.course.byte j ≡ Ok j

  -- the job that it says is the one that its way names
  pub record Named (job : Asked) (is : FrameCourse) (formed : Wanted) : Type 0 where
    pub next : next_of part limits s (way_to formed) ≡ said.Job job
    pub course : is.course ≡ asking_for c.course (after_next part limits s (way_to formed)) job job
    pub voltages : is.voltages ≡ c.voltages

  named-planned : IsPlain → (job : Asked) (is : FrameCourse) (formed : Wanted) →
      (saying_planned part limits s c (Ok formed)).next ≡ Job job →
      is ≡ (saying_planned part limits s c (Ok formed)).after → Named job is formed
  named-planned plain job is formed said' after = by (next_of part limits s (way_to formed)) refl said' after where
    aft : Course
    aft = after_next part limits s (way_to formed)

    by : (n : Next) → next_of part limits s (way_to formed) ≡ n → (saying_next s c aft n).next ≡ Job job →
        is ≡ (saying_next s c aft n).after →
        Named job is formed
    by (said.Ended end) e h i = cc
    by (said.Job j) e h i = so (subst (λ (r : Result Asked Refusal). (saying_for c aft j r).next ≡ Job job) (plain j) h)
        (subst (λ (r : Result Asked Refusal). is ≡ (saying_for c aft j r).after) (plain j) i) where
          so : Job j ≡ Job job → is ≡ (saying_for c aft j (Ok j)).after → Named job is formed
          so same it = let j-is : j ≡ job = cc in record {
            next = e ∙ ap (λ (k : Asked). said.Job k) j-is;
            course = ap (λ (f : FrameCourse). f.course) it ∙ ap (λ (k : Asked). asking_for c.course aft k k) j-is;
            voltages = ap (λ (f : FrameCourse). f.voltages) it;
          }

  -- a job named by its words, which its wishes have
  pub record NamedBy (says : Result Wanted Refusal) (job : Asked) (is : FrameCourse) : Type 0 where
    pub formed : Wanted
    pub words_are : says ≡ Ok formed
    pub idle : is_busy s ≡ false
    pub there : missing_of part c ≡ None
    pub named : Named job is formed

  pub named : IsPlain → (job : Asked) (is : FrameCourse) (says : SaysNext part limits s c (Job job) is) → NamedBy says.words job is
  named plain job is says = by (goes-job says.words job (sym says.next)) where
    by : Goes says.words → NamedBy says.words job is
    by goes = record {
      formed = goes.formed;
      words_are = goes.words_are;
      idle = goes.idle;
      there = goes.there;
      named = named-planned plain job is goes.formed
          (ap (λ (x : Says). x.next) (sym goes.said) ∙ sym says.next) (says.after ∙ ap (λ (x : Says). x.after) goes.said);
    }

  -- ---- A job in the place of the one that its way names ----

  pub record Turned (job : Asked) (is : FrameCourse) (formed : Wanted) : Type 0 where
    pub named : Asked
    pub next : next_of part limits s (way_to formed) ≡ said.Job named
    pub asked : asked_for s c.course c.course.byte named ≡ Ok job
    pub course : is.course ≡ asking_for c.course (after_next part limits s (way_to formed)) named job
    pub voltages : is.voltages ≡ c.voltages

  turned-planned : (job : Asked) (is : FrameCourse) (formed : Wanted) → (saying_planned part limits s c (Ok formed)).next ≡ Job job →
      is ≡ (saying_planned part limits s c (Ok formed)).after → Turned job is formed
  turned-planned job is formed said' after = by (next_of part limits s (way_to formed)) refl said' after where
    aft : Course
    aft = after_next part limits s (way_to formed)

    by : (n : Next) → next_of part limits s (way_to formed) ≡ n → (saying_next s c aft n).next ≡ Job job →
        is ≡ (saying_next s c aft n).after →
        Turned job is formed
    by (said.Ended end) e h i = cc
    by (said.Job j) e h i = so (asked_for s c.course c.course.byte j) refl h i where
      so : (r : Result Asked Refusal) → asked_for s c.course c.course.byte j ≡ r → (saying_for c aft j r).next ≡ Job job →
          is ≡ (saying_for c aft j r).after → Turned job is formed
      so (Err refusal) q k l = cc
      so (Ok other) q k l = let same : other ≡ job = cc in record {
        named = j;
        next = e;
        asked = subst (λ (x : Asked). asked_for s c.course c.course.byte j ≡ Ok x) same q;
        course = ap (λ (f : FrameCourse). f.course) l ∙ ap (λ (k : Asked). asking_for c.course aft j k) same;
        voltages = ap (λ (f : FrameCourse). f.voltages) l;
      }

  pub record TurnedBy (says : Result Wanted Refusal) (job : Asked) (is : FrameCourse) : Type 0 where
    pub formed : Wanted
    pub turned : Turned job is formed

  pub turned : (job : Asked) (is : FrameCourse) (says : SaysNext part limits s c (Job job) is) → TurnedBy says.words job is
  turned job is says = by (goes-job says.words job (sym says.next)) where
    by : Goes says.words → TurnedBy says.words job is
    by goes = record {
      formed = goes.formed;
      turned = turned-planned job is goes.formed
          (ap (λ (x : Says). x.next) (sym goes.said) ∙ sym says.next) (says.after ∙ ap (λ (x : Says). x.after) goes.said);
    }

  -- it has reached its end where its way has
  reached-planned : (formed : Wanted) → (saying_planned part limits s c (Ok formed)).next ≡ Ended Reached →
      next_of part limits s (way_to formed) ≡ said.Ended way.Reached
  reached-planned formed h = by (next_of part limits s (way_to formed)) refl h where
    aft : Course
    aft = after_next part limits s (way_to formed)

    by : (n : Next) → next_of part limits s (way_to formed) ≡ n → (saying_next s c aft n).next ≡ Ended Reached →
        next_of part limits s (way_to formed) ≡ said.Ended way.Reached
    by (said.Ended way.Reached) e i = e
    by (said.Ended (way.Stopped (stop.Refused fault))) e i = cc
    by (said.Ended (way.Stopped (stop.Differs register word))) e i = cc
    by (said.Ended (way.Stopped (stop.Spent job))) e i = cc
    by (said.Job j) e i = so (asked_for s c.course c.course.byte j) i where
      so : (r : Result Asked Refusal) → (saying_for c aft j r).next ≡ Ended Reached →
          next_of part limits s (way_to formed) ≡ said.Ended way.Reached
      so (Err refusal) k = cc
      so (Ok job) k = cc

  pub record ReachedBy (says : Result Wanted Refusal) : Type 0 where
    pub formed : Wanted
    pub words_are : says ≡ Ok formed
    pub idle : is_busy s ≡ false
    pub reached : next_of part limits s (way_to formed) ≡ said.Ended way.Reached

  pub reached : last_end c.end ≡ None → (is : FrameCourse) (says : SaysNext part limits s c (Ended Reached) is) →
      ReachedBy says.words
  reached on is says = by (goes-reached says.words on (sym says.next)) where
    by : Goes says.words → ReachedBy says.words
    by goes = record {
      formed = goes.formed;
      words_are = goes.words_are;
      idle = goes.idle;
      reached = reached-planned goes.formed (ap (λ (x : Says). x.next) (sym goes.said) ∙ sym says.next);
    }

  -- a course that has ended: its way is as it was
  pub record Stayed (is : FrameCourse) : Type 0 where
    pub course : is.course ≡ c.course
    pub voltages : is.voltages ≡ c.voltages

  over-planned : (end : CourseEnd) (formed : Wanted) → (saying_planned part limits s c (Ok formed)).next ≡ Ended end →
      Stayed (saying_planned part limits s c (Ok formed)).after
  over-planned end formed h = by (next_of part limits s (way_to formed)) h where
    aft : Course
    aft = after_next part limits s (way_to formed)

    by : (n : Next) → (saying_next s c aft n).next ≡ Ended end → Stayed (saying_next s c aft n).after
    by (said.Ended e) i = record { course = refl; voltages = refl }
    by (said.Job j) i = so (asked_for s c.course c.course.byte j) i where
      so : (r : Result Asked Refusal) → (saying_for c aft j r).next ≡ Ended end → Stayed (saying_for c aft j r).after
      so (Err refusal) k = record { course = refl; voltages = refl }
      so (Ok job) k = cc

  pub over : (end : CourseEnd) (is : FrameCourse) → SaysNext part limits s c (Ended end) is → Stayed is
  over end is says = subst (λ (f : FrameCourse). Stayed f) (sym says.after)
      (by (last_end c.end) refl (is_busy s) refl (missing_of part c) refl (source_of s c.course c.course.byte) refl says.words refl)
    where
      w' : Result Wanted Refusal
      w' = says.words

      by : (l : Option CourseEnd) → last_end c.end ≡ l → (b : Bool) → is_busy s ≡ b → (m : Option Refusal) → missing_of part c ≡ m →
          (o : Option ℕ) → source_of s c.course c.course.byte ≡ o → (w : Result Wanted Refusal) → says.words ≡ w →
          Stayed (saying part limits s c says.words).after
      by (Some e) l b bi m mi o oi w wi = rw l (record { course = refl; voltages = refl })
      by None l true bi m mi o oi w wi = rw (l, bi) (record { course = refl; voltages = refl })
      by None l false bi (Some r) mi o oi w wi = rw (l, bi, mi) (record { course = refl; voltages = refl })
      by None l false bi None mi (Some byte) oi w wi = rw (l, bi, mi, oi) (record { course = refl; voltages = refl })
      by None l false bi None mi None oi (Err r) wi = rw (l, bi, mi, oi, wi) (record { course = refl; voltages = refl })
      by None l false bi None mi None oi (Ok formed) wi =
          let goes : saying part limits s c says.words ≡ saying_planned part limits s c (Ok formed) =
          by-words says.words formed l bi mi oi wi in
          subst (λ (x : Says). Stayed x.after) (sym goes)
          (over-planned end formed (ap (λ (x : Says). x.next) (sym goes) ∙ sym says.next))

-- ---- While the format of an output isn't known, or is to be learned again, a course asks for that, whatever is wanted ----

module _ (part : PartRegisters) (limits : OutputLimits) (s : Summary) where
  -- the format isn't known, or is to be learned again
  abbrev pub IsUnlearned : Course → Type 0
  IsUnlearned c = (c.survey.learned ≡ false) ⊎ (format_at s c.survey.output ≡ None)

  due : (c : Course) → IsUnlearned c → due_job part c.survey s ≡ Some (Learn c.survey.output)
  due c (inl unlearned) = by (format_at s c.survey.output) where
    by : (f : Option Shape) → due_by part c.survey s f ≡ Some (Learn c.survey.output)
    by None = refl
    by (Some shape) = rw unlearned refl
  due c (inr none) = ap (λ (f : Option Shape). due_by part c.survey s f) none

  pub renewed-same : (c : Course) → IsUnlearned c → renewed part limits s c ≡ c
  renewed-same c unlearned = ap (λ (b : Bool). if b then once_more c else c) carried where
    surveyed : is_surveyed part c.survey s ≡ false
    surveyed = rw (due c unlearned) refl

    so : (a b d x : Bool) → d ≡ false → (a && (b && (d && x))) ≡ false
    so false b d x e = refl
    so true false d x e = refl
    so true true d x e = rw e refl

    carried : is_carried_out part limits s c ≡ false
    carried = so c.ordered (is_none c.twice) (is_surveyed part c.survey s) (is_last (order_next part limits s c)) surveyed

  -- what it says then
  says-now : (c : Course) → is_busy s ≡ false → c.byte ≡ None → IsUnlearned c → next_of part limits s c ≡ going part limits s c c.twice
  says-now c idle byte unlearned = ap (λ (x : Course). says part limits s x) (renewed-same c unlearned)
      ∙ ap (λ (b : Bool). if b then said.Ended (Stopped (stop.Refused Busy)) else going part limits s c c.twice) idle

  going-none : (c : Course) → c.byte ≡ None → IsUnlearned c →
      going part limits s c None ≡ reading_for part limits s c (missing_fault part (wants_of (wanted_in c.survey.plan)))
  going-none c byte unlearned = ap (λ (b : Option ℕ). going_to part limits s c b) byte

  reading-now : (c : Course) → IsUnlearned c → reading_for part limits s c None ≡ taking c (Learn c.survey.output)
  reading-now c unlearned = ap (λ (d : Option Asked). survey_or_order part limits s c d) (due c unlearned)

  pub next-due : (c : Course) → is_busy s ≡ false → c.byte ≡ None → IsUnlearned c → c.twice ≡ None →
      missing_fault part (wants_of (wanted_in c.survey.plan)) ≡ None → next_of part limits s c ≡ taking c (Learn c.survey.output)
  next-due c idle byte unlearned twice there = says-now c idle byte unlearned
      ∙ (ap (λ (t : Option Differing). going part limits s c t) twice
      ∙ (going-none c byte unlearned ∙ (ap (λ (m : Option PlanFault). reading_for part limits s c m) there ∙ reading-now c unlearned)))

  -- the job that it names then
  pub record Due (c : Course) (j : Asked) : Type 0 where
    pub twice : c.twice ≡ None
    pub takes : taking c (Learn c.survey.output) ≡ said.Job j

  due-job : (c : Course) (j : Asked) → is_busy s ≡ false → c.byte ≡ None → IsUnlearned c → next_of part limits s c ≡ said.Job j → Due c j
  due-job c j idle byte unlearned is = by c.twice refl (sym (says-now c idle byte unlearned) ∙ is) where
    by-missing : (m : Option PlanFault) → c.twice ≡ None → reading_for part limits s c m ≡ said.Job j → Due c j
    by-missing (Some fault) t h = cc
    by-missing None t h = record { twice = t; takes = sym (reading-now c unlearned) ∙ h }

    by : (t : Option Differing) → c.twice ≡ t → going part limits s c t ≡ said.Job j → Due c j
    by (Some differs) t h = cc
    by None t h = by-missing (missing_fault part (wants_of (wanted_in c.survey.plan))) t (sym (going-none c byte unlearned) ∙ h)

  -- it is the learn
  pub due-is : (c : Course) (j : Asked) → is_busy s ≡ false → c.byte ≡ None → IsUnlearned c → next_of part limits s c ≡ said.Job j →
      Learn c.survey.output ≡ j
  due-is c j idle byte unlearned is = by (c.survey.left == 0) (due-job c j idle byte unlearned is).takes where
    by : (b : Bool) → (if b then said.Ended (Stopped (stop.Spent (Learn c.survey.output))) else said.Job
        (Learn c.survey.output)) ≡ said.Job j →
        Learn c.survey.output ≡ j
    by true h = cc
    by false h = cc

  pub record Either (c : Course) (q : Option Wanted) (j : Asked) : Type 0 where
    pub next : next_of part limits s (with_plan c q) ≡ said.Job j
    pub after : after_next part limits s c ≡ naming c (said.Job j)
    pub after_other : after_next part limits s (with_plan c q) ≡ naming (with_plan c q) (said.Job j)

  after-due : (c : Course) (j : Asked) → IsUnlearned c → next_of part limits s c ≡ said.Job j →
      after_next part limits s c ≡ naming c (said.Job j)
  after-due c j unlearned is = ap (λ (n : Next). naming (renewed part limits s c) n) is
      ∙ ap (λ (x : Course). naming x (said.Job j)) (renewed-same c unlearned)

  pub learn-either : (c : Course) (q : Option Wanted) (j : Asked) → is_busy s ≡ false → c.byte ≡ None → IsUnlearned c →
      missing_fault part (wants_of (wanted_in q)) ≡ None → next_of part limits s c ≡ said.Job j → Either c q j
  learn-either c q j idle byte unlearned there is =
      let named = due-job c j idle byte unlearned is in
      let other : IsUnlearned (with_plan c q) = unlearned in
      let next' : next_of part limits s (with_plan c q) ≡ said.Job j =
      next-due (with_plan c q) idle byte other named.twice there ∙ named.takes in
      record {
        next = next';
        after = after-due c j unlearned is;
        after_other = after-due (with_plan c q) j other next';
      }

  -- it hasn't reached its end
  pub due-not-reached : (c : Course) → is_busy s ≡ false → c.byte ≡ None → IsUnlearned c →
      next_of part limits s c ≡ said.Ended way.Reached → ⊥
  due-not-reached c idle byte unlearned is = by c.twice (sym (says-now c idle byte unlearned) ∙ is) where
    by-left : (b : Bool) → (if b then said.Ended (Stopped (stop.Spent (Learn c.survey.output))) else said.Job (Learn c.survey.output))
        ≡ said.Ended way.Reached → ⊥
    by-left true h = cc
    by-left false h = cc

    by-missing : (m : Option PlanFault) → reading_for part limits s c m ≡ said.Ended way.Reached → ⊥
    by-missing (Some fault) h = cc
    by-missing None h = by-left (c.survey.left == 0) (sym (reading-now c unlearned) ∙ h)

    by : (t : Option Differing) → going part limits s c t ≡ said.Ended way.Reached → ⊥
    by (Some differs) h = cc
    by None h = by-missing (missing_fault part (wants_of (wanted_in c.survey.plan))) (sym (going-none c byte unlearned) ∙ h)

-- a course whose job this was, once it was told its end
abbrev told_by : Course → Option Asked → JobEnd → Course
told_by c job over = record (differing c job over) { survey = ended c.survey job over }

-- ---- Other words ----

told_by-plan : (c : Course) (p : Option Wanted) (job : Option Asked) (over : JobEnd) →
    with_plan (told_by c job over) p ≡ told_by (with_plan c p) job over
told_by-plan c p None over = refl
told_by-plan c p (Some (Order (Out output register) word)) (end.Differs read) = refl
told_by-plan c p (Some (Order (Out output register) word)) end.Done = refl
told_by-plan c p (Some (Order (Out output register) word)) end.Unknown = refl
told_by-plan c p (Some (Order (Out output register) word)) end.Learned = refl
told_by-plan c p (Some (Order Protect word)) (end.Differs read) = refl
told_by-plan c p (Some (Order Protect word)) end.Done = refl
told_by-plan c p (Some (Order Protect word)) end.Unknown = refl
told_by-plan c p (Some (Order Protect word)) end.Learned = refl
told_by-plan c p (Some (OrderMicro cell x)) over = refl
told_by-plan c p (Some (Send command)) over = refl
told_by-plan c p (Some (Check cell)) (end.Differs read) = refl
told_by-plan c p (Some (Check cell)) end.Done = refl
told_by-plan c p (Some (Check cell)) end.Unknown = refl
told_by-plan c p (Some (Check cell)) end.Learned = refl
told_by-plan c p (Some (Learn output)) (end.Differs read) = refl
told_by-plan c p (Some (Learn output)) end.Done = refl
told_by-plan c p (Some (Learn output)) end.Unknown = refl
told_by-plan c p (Some (Learn output)) end.Learned = refl

pub told-plan : (c : Course) (p : Option Wanted) (over : JobEnd) → with_plan (told_of c over) p ≡ told_of (with_plan c p) over
told-plan c p over = told_by-plan c p c.survey.asked over

-- a job that is asked for as it was named is named by the course to other words
pub asking-plan : (old c : Course) (p : Option Wanted) (job : Asked) →
    with_plan (asking_for old (naming c (said.Job job)) job job) p ≡ naming (with_plan c p) (said.Job job)
asking-plan old c p (Order cell word) = by c.ordered refl where
  by : (b : Bool) → c.ordered ≡ b →
      with_plan (asking_for old (naming c (said.Job (Order cell word))) (Order cell word) (Order cell word)) p
      ≡ naming (with_plan c p) (said.Job (Order cell word))
  by true e = rw e refl
  by false e = rw e refl
asking-plan old c p (OrderMicro cell x) = refl
asking-plan old c p (Check cell) = refl
asking-plan old c p (Learn output) = refl
asking-plan old c p (Send command) = refl

-- ---- The format is to be learned again ----

abbrev pub is_learn : Asked → Bool
is_learn (Learn output) = true
is_learn (Order cell word) = false
is_learn (OrderMicro cell x) = false
is_learn (Check cell) = false
is_learn (Send command) = false

told_by-forgets : (c : Course) (job : Asked) (over : JobEnd) → is_learn job ≡ false →
    told_by (forgetting c) (Some job) over ≡ forgetting (told_by c (Some job) over)
told_by-forgets c (Order (Out output register) word) (end.Differs read) e = refl
told_by-forgets c (Order (Out output register) word) end.Done e = refl
told_by-forgets c (Order (Out output register) word) end.Unknown e = refl
told_by-forgets c (Order (Out output register) word) end.Learned e = refl
told_by-forgets c (Order Protect word) (end.Differs read) e = refl
told_by-forgets c (Order Protect word) end.Done e = refl
told_by-forgets c (Order Protect word) end.Unknown e = refl
told_by-forgets c (Order Protect word) end.Learned e = refl
told_by-forgets c (OrderMicro cell x) over e = refl
told_by-forgets c (Send command) over e = refl
told_by-forgets c (Check cell) (end.Differs read) e = refl
told_by-forgets c (Check cell) end.Done e = refl
told_by-forgets c (Check cell) end.Unknown e = refl
told_by-forgets c (Check cell) end.Learned e = refl
told_by-forgets c (Learn output) over e = cc

pub told-forgets : (c : Course) (job : Asked) (over : JobEnd) → c.survey.asked ≡ Some job → is_learn job ≡ false →
    told_of (forgetting c) over ≡ forgetting (told_of c over)
told-forgets c job over asked free = ap (λ (j : Option Asked). told_by (forgetting c) j over) asked
    ∙ (told_by-forgets c job over free ∙ sym (ap (λ (j : Option Asked). forgetting (told_by c j over)) asked))

-- no answer to a learn surprises
pub learn-calm : (s : Summary) (output : ℕ) (stage : Stage) (entry : Entry) → is_job_of (Some (Learn output)) stage ≡ true →
    surprises s stage entry ≡ false
learn-calm s output (Writes cell word pass) entry is = cc
learn-calm s output (Reads cell word pass) entry is = cc
learn-calm s output (Sends command tries) entry is = cc
learn-calm s output (Asks (Word cell) tries) entry is = cc
learn-calm s output (Asks (Mode at) tries) (Accepted job) is = refl
learn-calm s output (Asks (Mode at) tries) (Finished acked) is = refl
learn-calm s output (Asks (Mode at) tries) (Got bytes) is = refl
learn-calm s output (Asks (Mode at) tries) Restarted is = refl
learn-calm s output (Asks (Coefficients at) tries) (Accepted job) is = refl
learn-calm s output (Asks (Coefficients at) tries) (Finished acked) is = refl
learn-calm s output (Asks (Coefficients at) tries) (Got bytes) is = refl
learn-calm s output (Asks (Coefficients at) tries) Restarted is = refl

-- the end of a course is no part of its way
pub ended-course : (c : FrameCourse) (mode : Option ℕ) (twice : Option Differing) → (ended_by c mode twice).course ≡ c.course
ended-course c (Some mode) twice = refl
ended-course c None (Some differs) = refl
ended-course c None None = refl

pub ended-voltages : (c : FrameCourse) (mode : Option ℕ) (twice : Option Differing) → (ended_by c mode twice).voltages ≡ c.voltages
ended-voltages c (Some mode) twice = refl
ended-voltages c None (Some differs) = refl
ended-voltages c None None = refl

-- A course that hands out frames goes the way of the course to the words that it means.

module _ (followed : LivesAreFollowed) (lives : EventsAreLived) (config : Config) (passes : ℕ) (part : PartRegisters)
    (begun : FrameCourse) (before : List Event) (plan : Option Wanted) where
  abbrev at : List Event → Summary
  at es = (now config passes (es ++ before)).host

  -- the way that it goes
  abbrev pub way_of : FrameCourse → Course
  way_of c = with_plan c.course plan

  abbrev pub Way : Course → List Event → Type 0
  Way x later = IsCourse config passes part (way_of begun) before x later

  -- what stays of a course all its life
  pub record Same (c : FrameCourse) : Type 0 where
    pub output : c.course.survey.output ≡ begun.course.survey.output
    pub plan' : c.course.survey.plan ≡ begun.course.survey.plan
    pub byte : c.course.byte ≡ begun.course.byte
    pub voltages : c.voltages ≡ begun.voltages

  -- the job that it says is the one that its way names
  pub record Names (limits : OutputLimits) (c is : FrameCourse) (later : List Event) (job : Asked) : Type 0 where
    pub next : next_of part limits (at later) (way_of c) ≡ said.Job job
    pub after : way_of is ≡ after_next part limits (at later) (way_of c)
    pub same : Same is

  -- a job that its way was asked for by an event: how the way stands then, and once it is told how that job ended
  pub record Opens (job : Asked) (x : Course) (event : Event) (older : List Event) : Type 0 where
    pub asked' : x.survey.asked ≡ Some job
    pub went : Way x (event ∷ older)
    pub told' : (newer : List Event) (end : JobEnd) → list_any begins_other newer ≡ false →
        (now config passes ((newer ++ event ∷ older) ++ before)).end ≡ Some end → Way (told_of x end) (newer ++ event ∷ older)

  -- a job that it says leads its way on
  pub record Leads (c is : FrameCourse) (later : List Event) (event : Event) (job : Asked) : Type 0 where
    pub same : Same is
    pub opens : Way (way_of c) later → Opens job (way_of is) event later

  asked-named : (limits : OutputLimits) (s : Summary) (was : Course) (job : Asked) → next_of part limits s was ≡ said.Job job →
      (after_next part limits s was).survey.asked ≡ Some job
  asked-named limits s was job is = ap (λ (n : Next). (naming (renewed part limits s was) n).survey.asked) is

  pub named-leads : (limits : OutputLimits) (c is : FrameCourse) (later : List Event) (event : Event) (job : Asked) →
      Names limits c is later job → asked_by event ≡ Some job → Leads c is later event job
  named-leads limits c is later event job n named = record {
    same = n.same;
    opens = λ way. subst (λ (x : Course). Opens job x event later) (sym n.after) (record {
      asked' = asked-named limits (at later) (way_of c) job n.next;
      went = course-asks limits (way_of c) later event job way n.next named;
      told' = λ newer end alone frame_lives_over. tells limits (way_of c) newer later event job end way n.next named alone frame_lives_over;
    });
  }

  -- the course that named a job, or where the format is to be learned again since
  pub data Forgets (job : Asked) (x : Course) : Course → Type 0 where
    kept : Forgets job x x
    forgot : is_learn job ≡ false → Forgets job x (forgetting x)

  -- how it stands: its way, and the open job, where that is its own
  pub data Tied : Course → Bool → List Event → Type 0 where
    loose : (x : Course) (later : List Event) → Way x later → Tied x false later
    opened : (x named : Course) (newer older : List Event) (event : Event) (job : Asked) → Opens job named event older →
        list_any begins_other newer ≡ false → Forgets job named x → Tied x true (newer ++ event ∷ older)

  -- ---- Events that begin no job ----

  beside-none : (s : State) (event : Event) → begins_other event ≡ false → IsBeside part begun.course.survey.output (asked s event)
  beside-none s event alone = subst (λ (o : Option host.Job). IsBeside part begun.course.survey.output o)
      (sym (go (asked_by event) (or_parts (is_some (asked_by event)) _ alone).0)) tt where
        go : (o : Option Asked) → is_some o ≡ false → option_and_then (accepted_job s.host) o ≡ None
        go None h = refl
        go (Some j) h = cc

  way-over : (x : Course) (newer es : List Event) → list_any begins_other newer ≡ false → Way x es → Way x (newer ++ es)
  way-over x [] es alone was = was
  way-over x (event ∷ newer) es alone was =
      let parts = or_parts (begins_other event) (list_any begins_other newer) alone in
      course-beside x (newer ++ es) event (way-over x newer es parts.1 was)
      (beside-none (now config passes ((newer ++ es) ++ before)) event parts.0)

  -- its way, whether its own job is open or not
  pub loosen : (x : Course) (own : Bool) (later : List Event) → Tied x own later → Way x later
  loosen x own later (loose y l way) = way
  loosen x own later (opened y named newer older event job opens alone forgets') = by forgets' where
    went : Way named (newer ++ event ∷ older)
    went = way-over named newer (event ∷ older) alone opens.went

    by : {z : Course} → Forgets job named z → Way z (newer ++ event ∷ older)
    by kept = went
    by (forgot free) = forgets named (newer ++ event ∷ older) went

  further : (x : Course) (later : List Event) (event : Event) → begins_other event ≡ false → Tied x true later → Tied x true (event ∷ later)
  further x later event alone (opened y named newer older first job opens others forgets') =
      opened y named (event ∷ newer) older first job opens (rw alone others) forgets'

  still : (x : Course) (own : Bool) (later : List Event) (event : Event) → Tied x own later →
      IsBeside part begun.course.survey.output (asked (now config passes (later ++ before)) event) →
      Tied x (own && not (begins_other event)) (event ∷ later)
  still x own later event tied may = by own (begins_other event) refl tied where
    loosened : (o : Bool) → Tied x o later → Tied x false (event ∷ later)
    loosened o t = loose x (event ∷ later) (course-beside x later event (loosen x o later t) may)

    by : (o b : Bool) → begins_other event ≡ b → Tied x o later → Tied x (o && not b) (event ∷ later)
    by true true e t = loosened true t
    by true false e t = further x later event e t
    by false true e t = loosened false t
    by false false e t = loosened false t

  -- ---- What is told ----

  forgotten : (x : Course) (later : List Event) (surprised : Bool) →
      ((output : ℕ) → x.survey.asked ≡ Some (Learn output) → surprised ≡ false) →
      Tied x true later → Tied (if surprised then forgetting x else x) true later
  forgotten x later false calm tied = tied
  forgotten x later true calm (opened y named newer older event job opens alone forgets') =
      by forgets' calm
    where
      free : (j : Asked) → job ≡ j → ((output : ℕ) → named.survey.asked ≡ Some (Learn output) → true ≡ false) → is_learn job ≡ false
      free (Learn output) e c = let never = c output (opens.asked' ∙ ap (λ (k : Asked). Some k) e) in cc
      free (Order cell word) e c = rw e refl
      free (OrderMicro cell w) e c = rw e refl
      free (Check cell) e c = rw e refl
      free (Send command) e c = rw e refl

      by : {z : Course} → Forgets job named z → ((output : ℕ) → z.survey.asked ≡ Some (Learn output) → true ≡ false) →
          Tied (forgetting z) true (newer ++ event ∷ older)
      by kept c = opened (forgetting named) named newer older event job opens alone (forgot (free job refl c))
      by (forgot f) c = opened (forgetting named) named newer older event job opens alone (forgot f)

  told : (x : Course) (later : List Event) (event : Event) (end : JobEnd) → begins_other event ≡ false →
      (now config passes ((event ∷ later) ++ before)).end ≡ Some end → Tied x true later → Tied (told_of x end) false (event ∷ later)
  told x later event end alone ended' (opened y named newer older first job opens others forgets') = by forgets' where
    went : Way (told_of named end) (event ∷ newer ++ first ∷ older)
    went = opens.told' (event ∷ newer) end (rw alone others) ended'

    by : {z : Course} → Forgets job named z → Tied (told_of z end) false (event ∷ newer ++ first ∷ older)
    by kept = loose (told_of named end) (event ∷ newer ++ first ∷ older) went
    by (forgot free) = loose (told_of (forgetting named) end) (event ∷ newer ++ first ∷ older)
        (subst (λ (z : Course). Way z (event ∷ newer ++ first ∷ older))
        (sym (told-forgets named job end opens.asked' free))
        (forgets (told_of named end) (event ∷ newer ++ first ∷ older) went))

  -- how the job ended, by what the host was told last
  end-told : (later : List Event) (event : Event) (entry : host.Entry) (end : JobEnd) → IsLived config passes (event ∷ later ++ before) →
      (share_of (now config passes (later ++ before)) event).told ≡ Some entry → step_of (at later) entry ≡ JobEnded end →
      (now config passes (event ∷ later ++ before)).end ≡ Some end
  unfolding world_next
  end-told later event entry end lived told' step =
      ap (λ (s : State). s.end) (followed.more config passes (later ++ before) event lived)
      ∙ rw told' (ap (λ (x : Step). end_by x) step)

  -- ---- All of it ----

  pub record Stands (c : FrameCourse) (own : Bool) (later : List Event) : Type 0 where
    pub same : Same c
    pub tied : Tied (way_of c) own later

  same-told : (c : FrameCourse) (x : Course) (end : JobEnd) → (x.survey.output ≡ c.course.survey.output) →
      (x.survey.plan ≡ c.course.survey.plan) → (x.byte ≡ c.course.byte) → (f : FrameCourse) → f.course ≡ told_of x end →
      f.voltages ≡ c.voltages → Same c → Same f
  same-told c x end output plan'' byte f course voltages same = record {
    output = ap (λ (y : Course). y.survey.output) course ∙ ((ended-same x.survey x.survey.asked end).1 ∙ (output ∙ same.output));
    plan' = ap (λ (y : Course). y.survey.plan) course ∙ ((ended-same x.survey x.survey.asked end).2 ∙ (plan'' ∙ same.plan'));
    byte = ap (λ (y : Course). y.byte) course ∙ ((differing-same x x.survey.asked end).0 ∙ (byte ∙ same.byte));
    voltages = voltages ∙ same.voltages;
  }

  heard : (c : FrameCourse) (later : List Event) (event : Event) (stage : Stage) (entry : host.Entry) → Stands c true later →
      IsLived config passes (event ∷ later ++ before) → begins_other event ≡ false →
      (share_of (now config passes (later ++ before)) event).told ≡ Some entry →
      Stands (heard_by c (at later).setup.addr stage entry (surprises (at later) stage entry) (step_of (at later) entry))
      (goes_on (step_of (at later) entry)) (event ∷ later)
  heard c later event stage entry was lived alone told' =
      by (step_of (at later) entry) refl (is_job_of c.course.survey.asked stage) refl (surprises (at later) stage entry) refl
    where
      addr : ℕ
      addr = (at later).setup.addr

      on : (step : Step) → step_of (at later) entry ≡ step → (f : FrameCourse) → Same f → way_of f ≡ way_of c →
          Stands f (goes_on step) (event ∷ later)
      on StepNext e f same is = record {
        same = same;
        tied = subst (λ (x : Course). Tied x true (event ∷ later)) (sym is) (further (way_of c) later event alone was.tied);
      }
      on (JobEnded end) e f same is = record {
        same = same;
        tied = subst (λ (x : Course). Tied x false (event ∷ later)) (sym is) (loose (way_of c) (event ∷ later)
            (course-beside (way_of c) later event (loosen (way_of c) true later was.tied)
            (beside-none (now config passes (later ++ before)) event alone)));
      }

      calm : is_job_of c.course.survey.asked stage ≡ true → (surprised : Bool) → surprises (at later) stage entry ≡ surprised →
          (output : ℕ) → (way_of c).survey.asked ≡ Some (Learn output) → surprised ≡ false
      calm mine surprised e output asked' = sym e ∙ learn-calm (at later) output stage entry
          (sym (ap (λ (j : Option Asked). is_job_of j stage) asked') ∙ mine)

      own-next : (surprised : Bool) → Tied (if surprised then forgetting (way_of c) else way_of c) true later →
          Stands (noting c addr stage entry surprised) true (event ∷ later)
      own-next true tied = record {
        same = record { output = was.same.output; plan' = was.same.plan'; byte = was.same.byte; voltages = was.same.voltages };
        tied = further (forgetting (way_of c)) later event alone tied;
      }
      own-next false tied = record {
        same = record { output = was.same.output; plan' = was.same.plan'; byte = was.same.byte; voltages = was.same.voltages };
        tied = further (way_of c) later event alone tied;
      }

      own-ended : (end : JobEnd) → step_of (at later) entry ≡ JobEnded end → (surprised : Bool) →
          Tied (if surprised then forgetting (way_of c) else way_of c) true later →
          Stands (stepped (noting c addr stage entry surprised) addr stage entry (JobEnded end)) false (event ∷ later)
      own-ended end e surprised tied = so surprised tied where
        f : Bool → FrameCourse
        f b = stepped (noting c addr stage entry b) addr stage entry (JobEnded end)

        course-is : (b : Bool) → (f b).course ≡ told_of (noting c addr stage entry b).course end
        course-is b = ended-course (record (noting c addr stage entry b) { course = told_of (noting c addr stage entry b).course end })
            (mode_told addr stage entry end) (told_of (noting c addr stage entry b).course end).twice

        voltages-are : (b : Bool) → (f b).voltages ≡ c.voltages
        voltages-are b = ended-voltages (record (noting c addr stage entry b) { course = told_of (noting c addr stage entry b).course end })
            (mode_told addr stage entry end) (told_of (noting c addr stage entry b).course end).twice

        over' : (now config passes ((event ∷ later) ++ before)).end ≡ Some end
        over' = end-told later event entry end lived told' e

        so : (b : Bool) → Tied (if b then forgetting (way_of c) else way_of c) true later → Stands (f b) false (event ∷ later)
        so true t = record {
          same = same-told c (forgetting c.course) end refl refl refl (f true) (course-is true) (voltages-are true) was.same;
          tied = subst (λ (x : Course). Tied x false (event ∷ later))
              (sym (ap (λ (x : Course). with_plan x plan) (course-is true) ∙ told-plan (forgetting c.course) plan end))
              (told (forgetting (way_of c)) later event end alone over' t);
        }
        so false t = record {
          same = same-told c c.course end refl refl refl (f false) (course-is false) (voltages-are false) was.same;
          tied = subst (λ (x : Course). Tied x false (event ∷ later))
              (sym (ap (λ (x : Course). with_plan x plan) (course-is false) ∙ told-plan c.course plan end))
              (told (way_of c) later event end alone over' t);
        }

      by : (step : Step) → step_of (at later) entry ≡ step → (mine : Bool) → is_job_of c.course.survey.asked stage ≡ mine →
          (surprised : Bool) → surprises (at later) stage entry ≡ surprised →
          Stands (if mine then stepped (noting c addr stage entry surprised) addr stage entry step else c) (goes_on step) (event ∷ later)
      by step e false m surprised u = on step e c was.same refl
      by StepNext e true m surprised u = own-next surprised (forgotten (way_of c) later surprised (calm m surprised u) was.tied)
      by (JobEnded end) e true m surprised u =
          own-ended end e surprised (forgotten (way_of c) later surprised (calm m surprised u) was.tied)

  -- it stands so if each job that it says leads its way on, as long as something holds of the events
  pub stands-by : (May : List Event → Type 0) → ((event : Event) (later : List Event) → May (event ∷ later) → May later) →
      ((limits : OutputLimits) (c is : FrameCourse) (later : List Event) (event : Event) (job : Asked) → Same c →
      IsLived config passes (later ++ before) → May (event ∷ later) → SaysNext part limits (at later) c (Job job) is →
      asked_by event ≡ Some job → Leads c is later event job) →
      (c : FrameCourse) (own : Bool) (later : List Event) → IsLived config passes (later ++ before) → May later →
      IsFrameCourse config passes part begun before c own later → Stands c own later
  stands-by May rest leads c own later lived may is = go is lived may where
    stays : (f g : FrameCourse) (o : Bool) (l : List Event) → g.course ≡ f.course → g.voltages ≡ f.voltages → Stands f o l → Stands g o l
    stays f g o l course voltages was = record {
      same = record {
        output = ap (λ (x : Course). x.survey.output) course ∙ was.same.output;
        plan' = ap (λ (x : Course). x.survey.plan) course ∙ was.same.plan';
        byte = ap (λ (x : Course). x.byte) course ∙ was.same.byte;
        voltages = voltages ∙ was.same.voltages;
      };
      tied = subst (λ (x : Course). Tied x o l) (sym (ap (λ (x : Course). with_plan x plan) course)) was.tied;
    }

    earlier : (event : Event) (l : List Event) → IsLived config passes (event ∷ l ++ before) → IsLived config passes (l ++ before)
    earlier event l lived' = lives.earlier config passes (event ∷ []) (l ++ before) lived'

    go : {f : FrameCourse} {o : Bool} {l : List Event} → IsFrameCourse config passes part begun before f o l →
        IsLived config passes (l ++ before) → May l → Stands f o l
    go begins lived' may' = record {
      same = record { output = refl; plan' = refl; byte = refl; voltages = refl };
      tied = loose (way_of begun) [] course-begins;
    }
    go (frame_lives_over limits f g o l end was says') lived' may' =
        let left = over part limits (at l) f end g says' in
        stays f g o l left.course left.voltages (go was lived' may')
    go (refused limits f g o l job number was says') lived' may' =
        let before' = go was lived' may' in
        record {
          same = record {
            output = before'.same.output;
            plan' = before'.same.plan';
            byte =
                before'.same.byte;
            voltages = before'.same.voltages;
          };
          tied = before'.tied;
        }
    go (asks limits f g o l event job was says' named) lived' may' =
        let before' = go was (earlier event l lived') (rest event l may') in
        let n = leads limits f g l event job before'.same (earlier event l lived') may' says' named in
        record {
          same = n.same;
          tied = opened (way_of g) (way_of g) [] l event job (n.opens (loosen (way_of f) o l before'.tied)) refl kept;
        }
    go (hears f l event stage entry was alone open' told') lived' may' =
        heard f l event stage entry (go was (earlier event l lived') (rest event l may')) lived' alone told'
    go (beside f o l event was may) lived' may' =
        let before' = go was (earlier event l lived') (rest event l may') in
        record { same = before'.same; tied = still (way_of f) o l event before'.tied may }

  -- it stands so if each job that it says is the one that its way names
  pub stands-all : ((limits : OutputLimits) (c is : FrameCourse) (later : List Event) (job : Asked) → Same c →
      IsLived config passes (later ++ before) → SaysNext part limits (at later) c (Job job) is → Names limits c is later job) →
      (c : FrameCourse) (own : Bool) (later : List Event) → IsLived config passes (later ++ before) →
      IsFrameCourse config passes part begun before c own later → Stands c own later
  stands-all names c own later lived is = stands-by (λ es. Unit {0}) (λ event es may. tt)
      (λ limits f g l event job same lived' may says' named. named-leads limits f g l event job
      (names limits f g l job same lived' says') named)
      c own later lived tt is

-- A job that a course says is the one that its way names.

-- What a course is given by the laws below it
pub record Given : Type 0 where
  pub followed : LivesAreFollowed
  pub lives : EventsAreLived
  pub formats : LearnedFormatsAreTrue
  pub courses : CoursesHoldInLives
  pub ends : CoursesEnd

pub own-plan : (x : Course) (p : Option Wanted) → x.survey.plan ≡ p → with_plan x p ≡ x
own-plan x p is = subst (λ (q : Option Wanted). with_plan x q ≡ x) is refl

module _ (laws : Given) (config : Config) (passes : ℕ) (part : PartRegisters) (begun : FrameCourse)
    (before : List Event) (plan : Option Wanted) where
  abbrev names_at : List Event → Summary
  names_at es = (now config passes (es ++ before)).host

  abbrev names_way_of : FrameCourse → Course
  names_way_of c = with_plan c.course plan

  abbrev NamesSame : FrameCourse → Type 0
  NamesSame c = Same laws.followed laws.lives config passes part begun before plan c

  abbrev NamesNames : OutputLimits → FrameCourse → FrameCourse → List Event → Asked → Type 0
  NamesNames limits c is later job = Names laws.followed laws.lives config passes part begun before plan limits c is later job

  module _ (limits : OutputLimits) (c is : FrameCourse) (later : List Event) (job : Asked) where
    abbrev aft : Wanted → Course
    aft formed = after_next part limits (names_at later) (way_to part limits (names_at later) c formed)

    same-is : (formed : Wanted) (x : Course) → NamesSame c → Named part limits (names_at later) c job is formed →
        aft formed ≡ naming x (said.Job job) →
        x.survey.output ≡ c.course.survey.output → x.byte ≡ c.course.byte → NamesSame is
    same-is formed x same named after output byte = record {
      output = ap (λ (y : Course). y.survey.output) named.course ∙ (ap (λ (y : Course). y.survey.output) after ∙ (output ∙ same.output));
      plan' = ap (λ (y : Course). y.survey.plan) named.course ∙ same.plan';
      byte = ap (λ (y : Course). y.byte) named.course ∙ (ap (λ (y : Course). y.byte) after ∙ (byte ∙ same.byte));
      voltages = named.voltages ∙ same.voltages;
    }

    -- the course that named it, on its way
    way-is : (formed : Wanted) (x : Course) → Named part limits (names_at later) c job is formed → aft formed ≡ naming x (said.Job job) →
        names_way_of is ≡ naming (with_plan x plan) (said.Job job)
    way-is formed x named after = ap (λ (y : Course). with_plan y plan) named.course
        ∙ (ap (λ (y : Course). with_plan (asking_for c.course y job job) plan) after ∙ asking-plan c.course x plan job)

    -- the words that it goes by are those of its way
    pub names-known : (formed : Wanted) → planning c.course formed ≡ plan → NamesSame c
        → Named part limits (names_at later) c job is formed →
        NamesNames limits c is later job
    names-known formed planned same named =
        let way-same : way_to part limits (names_at later) c formed ≡ names_way_of c =
        ap (λ (p : Option Wanted). with_plan c.course p) planned in
        let next' : next_of part limits (names_at later) (names_way_of c) ≡ said.Job job =
        subst (λ (y : Course). next_of part limits (names_at later) y ≡ said.Job job) way-same named.next in
        let r = renewed part limits (names_at later) (names_way_of c) in
        let after' : after_next part limits (names_at later) (names_way_of c) ≡ naming r (said.Job job) =
        ap (λ (n : Next). naming r n) next' in
        let after : aft formed ≡ naming r (said.Job job) =
        ap (λ (y : Course). after_next part limits (names_at later) y) way-same ∙ after' in
        let r-plan : r.survey.plan ≡ plan =
        renewed-so (λ (y : Course). y.survey.plan ≡ plan) part limits (names_at later) (names_way_of c) refl refl in
        record {
          next = next';
          after = way-is formed r named after ∙ (ap (λ (y : Course). naming y (said.Job job)) (own-plan r plan r-plan) ∙ sym after');
          same = same-is formed r same named after
              (renewed-so (λ (y : Course). y.survey.output ≡ c.course.survey.output) part limits (names_at later) (names_way_of c) refl
              refl)
              (renewed-so (λ (y : Course). y.byte ≡ c.course.byte) part limits (names_at later) (names_way_of c) refl refl);
        }

    -- it learns the format
    pub names-learn : (formed : Wanted) → NamesSame c → Named part limits (names_at later) c job is formed →
        Either part limits (names_at later) (way_to part limits (names_at later) c formed) plan job → NamesNames limits c is later job
    names-learn formed same named either = record {
      next = either.next;
      after = way-is formed (way_to part limits (names_at later) c formed) named either.after ∙ sym either.after_other;
      same = same-is formed (way_to part limits (names_at later) c formed) same named either.after refl refl;
    }

-- The words that wishes have in a format.

-- ---- One word ----

one-down : (value : ℕ → Ratio) (rank : ℕ → ℕ) → IsOneWord value rank → (x : Ratio) (u w : ℕ) → IsAtMost value rank x u →
    IsAtMost value rank x w → u ≡ w
one-down value rank one x u w h k =
    let p = h.greatest w k.word k.reached in
    let q = k.greatest u h.word h.reached in
    let same_uw = at_most_both (value u) (value w) q p in
    let same_wu = at_most_both (value w) (value u) p q in
    let r = h.spelling w k.word same_wu in
    let s = k.spelling u h.word same_uw in
    one u w h.word k.word same_uw (omega arith)

one-up : (value : ℕ → Ratio) (rank : ℕ → ℕ) → IsOneWord value rank → (x : Ratio) (u w : ℕ) → IsAtLeast value rank x u →
    IsAtLeast value rank x w → u ≡ w
one-up value rank one x u w h k =
    let p = h.least w k.word k.reached in
    let q = k.least u h.word h.reached in
    let same_uw = at_most_both (value u) (value w) p q in
    let same_wu = at_most_both (value w) (value u) q p in
    let r = h.spelling w k.word same_wu in
    let s = k.spelling u h.word same_uw in
    one u w h.word k.word same_uw (omega arith)

word-one : (shape : Shape) → IsOneWord (shape_value shape) (shape_rank shape) → (register : Reg) (x : ℤ) (u w : ℕ) →
    IsWordFor shape register x u → IsWordFor shape register x w → u ≡ w
word-one shape one VoutMax x u w h k = one-down (shape_value shape) (shape_rank shape) one (micros x) u w h k
word-one shape one VoutMin x u w h k = one-up (shape_value shape) (shape_rank shape) one (micros x) u w h k
word-one shape one Operation x u w h k = one_from_nearest (shape_value shape) (shape_rank shape) one (micros x) u w h k
word-one shape one VoutCommand x u w h k = one_from_nearest (shape_value shape) (shape_rank shape) one (micros x) u w h k
word-one shape one MarginHigh x u w h k = one_from_nearest (shape_value shape) (shape_rank shape) one (micros x) u w h k
word-one shape one MarginLow x u w h k = one_from_nearest (shape_value shape) (shape_rank shape) one (micros x) u w h k

meant-one : (shape : Shape) → IsOneWord (shape_value shape) (shape_rank shape) → (register : Reg) (voltage : Option ℤ)
    (word u w : Option ℕ) → IsMeant shape register voltage word u → IsMeant shape register voltage word w → u ≡ w
meant-one shape one register None word u w h k = h ∙ sym k
meant-one shape one register (Some x) word None w h k = absurd h
meant-one shape one register (Some x) word (Some u) None h k = absurd k
meant-one shape one register (Some x) word (Some u) (Some w) h k = ap (λ (n : ℕ). Some n) (word-one shape one register x u w h k)

-- the words are one
abbrev words_by : Option ℕ → Option ℕ → Option ℕ → Option ℕ → Option ℕ → Wanted
words_by command max high low min = record { command = command; max = max; margin_high = high; margin_low = low; min = min }

pub words-one : (shape : Shape) → IsOneWord (shape_value shape) (shape_rank shape) → (words : Wanted) (v : Voltages) (u w : Wanted) →
    AreMeant shape words v u → AreMeant shape words v w → u ≡ w
words-one shape one words v u w h k =
    let command = meant-one shape one VoutCommand (voltage_of v VoutCommand) words.command u.command w.command h.command k.command in
    let max = meant-one shape one VoutMax (voltage_of v VoutMax) words.max u.max w.max h.max k.max in
    let high = meant-one shape one MarginHigh (voltage_of v MarginHigh) words.margin_high u.margin_high
    w.margin_high h.margin_high k.margin_high in
    let low = meant-one shape one MarginLow (voltage_of v MarginLow) words.margin_low u.margin_low w.margin_low h.margin_low k.margin_low in
    let min = meant-one shape one VoutMin (voltage_of v VoutMin) words.min u.min w.min h.min k.min in
    ap (λ (x : Option ℕ). words_by x u.max u.margin_high u.margin_low u.min) command
    ∙ (ap (λ (x : Option ℕ). words_by w.command x u.margin_high u.margin_low u.min) max
    ∙ (ap (λ (x : Option ℕ). words_by w.command w.max x u.margin_low u.min) high
    ∙ (ap (λ (x : Option ℕ). words_by w.command w.max w.margin_high x u.min) low
    ∙ ap (λ (x : Option ℕ). words_by w.command w.max w.margin_high w.margin_low x) min)))

-- ---- Missing registers ----

pub find-none : (p q : Reg → Bool) (list : List Reg) → ((r : Reg) → p r ≡ false → q r ≡ false) → find p list ≡ None → find q list ≡ None
find-none p q [] less is = refl
find-none p q (r ∷ list) less is = by (p r) refl is (λ h. find-none p q list less h) where
  by : (b : Bool) → p r ≡ b → (if b then Some r else find p list) ≡ None → (find p list ≡ None → find q list ≡ None) →
      (if q r then Some r else find q list) ≡ None
  by true e h more = cc
  by false e h more = rw (less r e) (more h)

-- a word is meant only where a word or a voltage is wanted
meant-some : (shape : Shape) (register : Reg) (voltage : Option ℤ) (word w : Option ℕ) → IsMeant shape register voltage word w →
    (is_some word || is_some voltage) ≡ false → is_some w ≡ false
meant-some shape register None None w h e = rw h refl
meant-some shape register None (Some word) w h e = cc
meant-some shape register (Some x) None w h e = cc
meant-some shape register (Some x) (Some word) w h e = cc

-- no register is missing of the words that are meant, where none is of what is wished
pub none-missing : (part : PartRegisters) (shape : Shape) (words : Wanted) (v : Voltages) (w : Wanted) → AreMeant shape words v w →
    missing_in part words v ≡ None → missing_fault part (wants_of w) ≡ None
none-missing part shape words v w are is =
    ap (λ (r : Option Reg). option_map (λ register. MissingRegister register) r)
    (find-none (is_missing part words v) (is_wanted_missing part (wants_of w)) voltages less
    (none (find (is_missing part words v) voltages) is))
  where
    none : (found : Option Reg) → option_map missing_at found ≡ None → found ≡ None
    none None h = refl
    none (Some r) h = cc

    both : (a b n : Bool) → (a ≡ false → b ≡ false) → (a && n) ≡ false → (b && n) ≡ false
    both true true n f h = h
    both true false n f h = refl
    both false b n f h = rw (f refl) refl

    less : (r : Reg) → is_missing part words v r ≡ false → is_wanted_missing part (wants_of w) r ≡ false
    less Operation h = refl
    less VoutCommand h = both _ _ (not (has_register part VoutCommand))
        (meant-some shape VoutCommand (voltage_of v VoutCommand) words.command w.command are.command) h
    less VoutMax h = both _ _ (not (has_register part VoutMax)) (meant-some shape VoutMax (voltage_of v VoutMax) words.max w.max are.max) h
    less MarginHigh h = both _ _ (not (has_register part MarginHigh))
        (meant-some shape MarginHigh (voltage_of v MarginHigh) words.margin_high w.margin_high are.margin_high) h
    less MarginLow h = both _ _ (not (has_register part MarginLow))
        (meant-some shape MarginLow (voltage_of v MarginLow) words.margin_low w.margin_low are.margin_low) h
    less VoutMin h = both _ _ (not (has_register part VoutMin)) (meant-some shape VoutMin (voltage_of v VoutMin) words.min w.min are.min) h

-- ---- The words of a format that is made are one each ----

abbrev HasOne : Shape → Type 0
HasOne shape = IsOneWord (shape_value shape) (shape_rank shape)

shape-one : (mode : VoutMode) (c : TableCoefficients) (shape : Shape) → result_ok (shape_in mode c) ≡ Some shape → HasOne shape
shape-one (Linear n) c shape is =
    let same : InUlinear16 n ≡ shape = cc in subst (λ (s : Shape). HasOne s) same (ulinear16-one_word n)
shape-one Direct c shape is = go (int_eq c.m (pos 0)) (is_decimal c) refl is where
  go : (flat decimal : Bool) → int_eq c.m (pos 0) ≡ flat →
      result_ok (cond flat (Err ZeroSlope) (cond decimal (Ok (InDirect c.m c.b c.r)) (Err ExponentRange))) ≡ Some shape → HasOne shape
  go true decimal e is' = cc
  go false false e is' = cc
  go false true e is' =
      let same : InDirect c.m c.b c.r ≡ shape = cc in
      subst (λ (s : Shape). HasOne s) same (direct-one_word c.m c.b c.r (slope c.m e))

pub sound-one : (config : Config) (output : ℕ) → IsSound config → output < config.count → HasOne (shape_for config output)
sound-one config output sound here = go (result_ok (mode_of (mode_for config output))) (sound.formats output here) where
  go : (mode : Option VoutMode) →
      option_and_then (λ m. result_ok (shape_in m config.coefficients)) mode ≡ Some (shape_for config output) →
      HasOne (shape_for config output)
  go None is = cc
  go (Some mode) is = shape-one mode config.coefficients (shape_for config output) is
