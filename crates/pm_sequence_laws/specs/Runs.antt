-- What a run of a sequence comes to: this project's own choice. What happened is newest first. A step is named by how many had begun with it.
use Rattle.std.specs.Prelude.{◌≡◌, ◌<◌, ℕ, zero, suc, Bool, true, false, ◌&&◌, ◌==◌, nat_lt, if◌then◌else◌, List, [], ◌∷◌, ◌++◌, Option, Some, None}
use Rattle.pm_host.specs.declared.job.Job.{Job}
use Rattle.pm_limits.specs.declared.fault.LimitFault.{LimitFault}
use Rattle.pm_limits.specs.Guard.{Guarded, guard_fault}
use Rattle.pm_sequence.specs.declared.sequence.Act.{Act}
use Rattle.pm_sequence.specs.declared.sequence.Act.TheVariants as act
use Rattle.pm_sequence.specs.declared.sequence.End.{End}
use Rattle.pm_sequence.specs.declared.sequence.End.TheVariants as end
use Rattle.pm_sequence.specs.declared.sequence.Rules.{Rules}
use Rattle.pm_delivery.specs.declared.verdict.Verdict.{Verdict}
use Rattle.pm_sequence.specs.declared.sequence.Sequence.{Sequence}
use Rattle.pm_sequence.specs.declared.step.Step.{Step}
use Rattle.pm_sequence.specs.Frames.{job_named, refusal_end, refused_act, refused_after}
use Rattle.pm_sequence.specs.Gate.{is_job_order}
use Rattle.pm_sequence.specs.Sequence.{Acts, is_verdict_good, new_sequence}

-- an order of a step began; its rail was looked at, and does what it is to; a step was left
pub data Mark : Type 0 where
  Orders : (step : ℕ) → Mark
  Does : (step : ℕ) → (found : Verdict) → Mark
  Leaves : Mark

-- the steps by their places; the newest that has begun
abbrev pub Places : Type 0
Places = ℕ → Option Step

abbrev pub under_at : Places → ℕ → Option Step
under_at steps zero = None
under_at steps (suc place) = steps place

-- what an act tells
abbrev pub marks_of : ℕ → Act → List Mark
marks_of n (act.Job job) = if is_job_order job then Orders n ∷ [] else []
marks_of n (act.Begins job back) = Orders n ∷ []
marks_of n (act.Passes back) = []
marks_of n (act.Order job) = []
marks_of n (act.Ask question) = []
marks_of n act.Probe = []
marks_of n act.Pause = []
marks_of n (act.Wait milliseconds) = []
marks_of n act.Again = []
marks_of n (act.NoWayBack fault) = []
marks_of n (act.Does found) = Does n found ∷ []
marks_of n (act.Leaves why) = Leaves ∷ []
marks_of n (act.Ended why) = []

-- what is heard changes what is known, and not how far the sequence has come
pub record Hears (old new : Sequence) : Type 0 where
  pub begun : new.list.begun ≡ old.list.begun
  pub shown : new.is_shown ≡ old.is_shown
  pub looked : new.is_looked ≡ old.is_looked
  pub left : new.left ≡ old.left
  pub ended : new.end ≡ old.end

-- A sequence says what comes next (`acts`), unless the guard refuses the job that it names (`refuses`); or it hears of a frame (`hears`).
pub data Runs (steps : Places) (tries : ℕ) (rules : Rules) : List Mark → Sequence → Type 0 where
  starts : Runs steps tries rules [] (new_sequence tries rules)
  acts : (g : Guarded) (said : Act) (marks : List Mark) (old new : Sequence) → Runs steps tries rules marks old →
      Acts g (under_at steps old.list.begun) (steps old.list.begun) old said new →
      Runs steps tries rules (marks_of new.list.begun said ++ marks) new
  refuses : (g : Guarded) (job : Job) (named : Act) (fault : LimitFault) (marks : List Mark) (old is : Sequence) → Runs steps tries rules marks old →
      Acts g (under_at steps old.list.begun) (steps old.list.begun) old named is → job_named named ≡ Some job → guard_fault g job ≡ Some fault →
      Runs steps tries rules (marks_of (refused_after old is named (refusal_end fault job)).list.begun
      (refused_act old is named (refusal_end fault job)) ++ marks) (refused_after old is named (refusal_end fault job))
  hears : (marks : List Mark) (old new : Sequence) → Runs steps tries rules marks old → Hears old new → Runs steps tries rules marks new

-- the rail of a step was found to do what it is to after its last order
abbrev pub settled : Places → List Mark → ℕ → Bool
settled steps [] n = false
settled steps (Orders m ∷ marks) n = if m == n then false else settled steps marks n
settled steps (Does m found ∷ marks) n = if m == n then is_verdict_good (under_at steps n) found else settled steps marks n
settled steps (Leaves ∷ marks) n = settled steps marks n

-- a step that has to deliver
abbrev pub must : Option Step → Bool
must None = false
must (Some step) = step.looks.is_wanted && step.looks.must_deliver

abbrev pub NoneLeft : List Mark → Type 0
NoneLeft [] = Unit {0}
NoneLeft (Orders m ∷ marks) = NoneLeft marks
NoneLeft (Does m found ∷ marks) = NoneLeft marks
NoneLeft (Leaves ∷ marks) = ⊥

abbrev pub ReachedSequencesDeliver : Type 0
ReachedSequencesDeliver = (steps : Places) (tries : ℕ) (rules : Rules) (marks : List Mark) (q : Sequence) →
    ((place : ℕ) → nat_lt place 65535 ≡ false → steps place ≡ None) →
    Runs steps tries rules marks q → q.end ≡ Some end.Reached →
    NoneLeft marks × (steps q.list.begun ≡ None)
    × ((place : ℕ) → place < q.list.begun → must (steps place) ≡ true → settled steps marks (suc place) ≡ true)
