-- Which orders that turn an output on a sequence begins: this project's own choice.
use Rattle.std.specs.Prelude.{◌≡◌, ◌⊎◌, Bool, true, false, not, [], Option, Some, Result, Ok, IfSome}
use Rattle.pm_host.specs.declared.fault.Untold.{Untold}
use Rattle.pm_host.specs.declared.job.Job.{Job}
use Rattle.pm_host.specs.Transcript.{Entry, Got}
use Rattle.pm_limits.specs.Guard.{Guarded}
use Rattle.pm_rail.specs.Survey.{nothing_read}
use Rattle.pm_stairs.specs.declared.sequence.Sequence.{Sequence as List}
use Rattle.pm_stairs.specs.declared.sequence.Turn.{Turn}
use Rattle.pm_stairs.specs.declared.sequence.Turn.TheVariants as turn
use Rattle.pm_stairs.specs.declared.step.WordStep.{WordStep}
use Rattle.pm_stairs.specs.OpenCourse.{course_open}
use Rattle.pm_stairs.specs.Sequence.{Turns}
use Rattle.pm_sequence.specs.declared.sequence.Act.{Act}
use Rattle.pm_sequence.specs.declared.sequence.Act.TheVariants as act
use Rattle.pm_sequence.specs.declared.sequence.Fresh.TheVariants as fresh
use Rattle.pm_sequence.specs.declared.sequence.Sequence.{Sequence}
use Rattle.pm_sequence.specs.declared.step.Step.{Step}
use Rattle.pm_sequence.specs.Frames.{Hears}
use Rattle.pm_sequence.specs.Gate.{is_on_order, is_job_order}
use Rattle.pm_sequence.specs.Sequence.{Acts, afresh_with, asked_of, is_fresh, shown}
use Rattle.pm_sequence_laws.specs.Turned.{is_turn_begin}

-- an act by which nothing is sent, and no time passes
abbrev pub rests : Act → Bool
rests (act.Job job) = false
rests (act.Begins job back) = false
rests (act.Passes back) = false
rests (act.Order job) = true
rests (act.Ask question) = false
rests act.Probe = false
rests act.Pause = false
rests (act.Wait milliseconds) = false
rests act.Again = true
rests (act.NoWayBack fault) = true
rests (act.Does found) = false
rests (act.Leaves why) = false
rests (act.Ended why) = true

-- The list named something of which nothing begins: the survey of its course begins anew, so that the format wasn't learned and nothing was read.
pub record BeginsAnew (g : Guarded) (ahead : Option Step) (old new : Sequence) (said : Act) : Type 0 where
  pub x : Turn
  pub list : List
  pub names : Turns g (shown old ahead) old.list x list
  pub is : new ≡ afresh_with (asked_of old list (is_turn_begin x))
  pub again : said ≡ act.Again
  pub unread : IfSome (course_open new.list.stairs) (λ course.
      (course.course.survey.learned ≡ false) × (course.course.survey.read ≡ nothing_read))

-- After an act no survey is fresh (`ends`), or one begins anew (`anew`); or the one that was stays fresh, by a read of its own (`reads`), or where
-- nothing is sent (`stays`).
pub data ComesFresh (g : Guarded) (ahead : Option Step) (old new : Sequence) : Act → Type 0 where
  ends : (said : Act) → new.fresh ≡ fresh.Nothing → ComesFresh g ahead old new said
  anew : (said : Act) → BeginsAnew g ahead old new said → ComesFresh g ahead old new said
  reads : (job : Job) → is_job_order job ≡ false → new.fresh ≡ old.fresh → is_fresh new.fresh new.list.stairs.reading ≡ true →
      ComesFresh g ahead old new (act.Job job)
  stays : (said : Act) → rests said ≡ true → new.fresh ≡ old.fresh → ComesFresh g ahead old new said

-- An order that turns an output on is named only where the survey of the course that names it is fresh; and that comes only of such acts. What is
-- heard makes none fresh, and a read without any answer leaves none.
pub record OrdersAreFresh : Type 0 where
  pub job : (g : Guarded) (under ahead : Option Step) (old new : Sequence) (job : Job) → Acts g under ahead old (act.Job job) new →
      is_on_order job ≡ true →
      (list : List) × (Turns g (shown old ahead) old.list (turn.Job job) list × (is_fresh old.fresh list.stairs.reading ≡ true))
  pub begins : (g : Guarded) (under ahead : Option Step) (old new : Sequence) (job : Job) (back : WordStep) →
      Acts g under ahead old (act.Begins job back) new → is_on_order job ≡ true → is_fresh old.fresh true ≡ true
  pub heard : (g after : Guarded) (old new : Sequence) (entry : Entry) (result : Result (Unit {0}) Untold) → Hears g old entry result after new →
      (new.fresh ≡ fresh.Nothing) ⊎ (new.fresh ≡ old.fresh)
  pub silent : (g after : Guarded) (old new : Sequence) → Hears g old (Got []) (Ok tt) after new → new.fresh ≡ fresh.Nothing
  pub comes : (g : Guarded) (under ahead : Option Step) (old new : Sequence) (said : Act) → Acts g under ahead old said new →
      ComesFresh g ahead old new said
