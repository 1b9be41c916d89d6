-- Each call of a course or a list is a step of its run.
use Rattle.std.specs.Option.{option_map_or}
use Rattle.std.specs.Prelude.{◌++◌, unwrap_or, Result, IsSomeAnd, is_some, nat_lt, slice_get}
use Rattle.std.proofs.lemmas.Option.{slice_get_past}
use Rattle.std.proofs.Common.{◌≡◌, ◌∙◌, ℕ, Bool, true, false, List, ◌∷◌, Option, Some, None, Ok, ap, refl, subst, sym, ◌<◌, ◌≤◌, ◌-◌, zero}
use Rattle.std.proofs.Common.{suc, cond, [], length, Err, arith}
use Rattle.std.proofs.lemmas.Bool.{true≢false, lt-ltb, ltb-true, ltb-false}
use Rattle.pm_device.specs.Held.{Held}
use Rattle.pm_host.specs.{Jobs.accepted_job, declared.fault.Untold.Untold, declared.stage.Stage.Stage}
use Rattle.pm_host.specs.Summary.{Summary, host_next, step_of, finished, idle}
use Rattle.pm_host.specs.Transcript as host
use Rattle.pm_host.specs.Transcript.{Entry, Finished, Accepted}
use Rattle.pm_host.specs.declared.stage.Stage.TheVariants.{Writes, Reads, Asks, Sends}
use Rattle.pm_limits.specs.{Guard.Guarded, declared.part_registers.PartRegisters.PartRegisters}
use Rattle.pm_course.specs.{declared.frame_course.FrameCourse.FrameCourse, declared.frames.Sending.Sending}
use Rattle.pm_course.specs.{declared.hosted.Heard.Heard as CourseHeard}
use Rattle.pm_course.specs.Frames.{GoesOn, HandsOut, Hears, hands, heard as frames_heard, waits}
use Rattle.pm_stairs.specs.declared.step.Act.TheVariants as stairs
use Rattle.pm_sequence.specs.{Look.look_act, declared.look.LookAct.LookAct, declared.sequence.Act.Act, declared.sequence.Phase.Phase}
use Rattle.pm_sequence.specs.{declared.sequence.Rules.Rules, declared.sequence.Sequence.Sequence, declared.step.Step.Step}
use Rattle.pm_sequence.specs.Frames as does
use Rattle.pm_sequence.specs.Frames.{HandsOut as FramesHandsOut, Hears as FramesHears, HearsAt, heard_at, sequence_heard_by, is_unsent}
use Rattle.pm_sequence.specs.Frames.{heard_in}
use Rattle.pm_sequence.specs.Sequence.{due_in, new_sequence}
use Rattle.pm_sequence.specs.declared.look.LookAct.TheVariants as look
use Rattle.pm_sequence.specs.declared.sequence.End.TheVariants as end
use Rattle.pm_sequence.specs.declared.sequence.Phase.TheVariants as phase
use Rattle.pm_world.specs.{Ended.begins_other, declared.event.Event.Event}
use Rattle.pm_world.specs.State.{next as world_next, share_of}
use Rattle.pm_part_laws.specs.Happenings.{Happening, Happens, beside}
use Rattle.pm_course_laws.specs.FrameLives.{goes_on}
use Rattle.pm_course_laws.specs.FramesBeside.{FrameCoursesHoldBeside, HandedBeside, IsFrameCourseBeside, stays as frames_beside_stays}
use Rattle.pm_sequence_laws.specs.CourseCalls.{AreOf, ExportsAreStepsBeside, StepsOn, StepsTold, StepsToldOn, call_is_answered}
use Rattle.pm_sequence_laws.specs.Handed.{CallsAreRuns, OrdersGoOnce}
use Rattle.pm_sequence_laws.specs.Runs as run
use Rattle.pm_sequence_laws.specs.Runs.{Mark, Places, Runs, marks_of, under_at, Hears as HearsInRun, NoneLeft, ReachedSequencesDeliver}
use Rattle.pm_sequence_laws.specs.Runs.{must, settled}
use Rattle.pm_sequence_laws.specs.SequenceCalls as memory
use Rattle.pm_sequence_laws.specs.SequenceCalls.{IsReadBack, IsReadHeard, IsReadNext, RunsInMemory, SequenceCallsAreRuns, marks_next}
use Rattle.pm_sequence_laws.specs.SequenceCalls.{places_of, right_step}
use Rattle.pm_memory.specs.{CourseImage.course_in, Guard.guard_of, Heard.heard_image, Numbers.no_step, SequenceSaid.nothing_said}
use Rattle.pm_memory.specs.{SequenceStep.step_in, declared.course_image.CourseImage.CourseImage, declared.guard_image.GuardImage.GuardImage}
use Rattle.pm_memory.specs.{declared.host_step.HostStep.HostStep, declared.sending_image.SendingImage.SendingImage}
use Rattle.pm_memory.specs.{declared.sequence_image.SequenceImage.SequenceImage}
use Rattle.pm_memory.specs.{declared.sequence_step.SequenceRecordImage.SequenceRecordImage}
use Rattle.pm_memory.specs.{declared.sequence_step.SequenceStepImage.SequenceStepImage}
use Rattle.pm_memory.specs.Course.{AreBoth, HandsOutIn, HearsIn, HearsOnIn, memory_fault, hands_out, hears_it as course_hears_it, hears_on}
use Rattle.pm_memory.specs.Course.{refused_both, refused_frame, refused_told as course_refused_told, unasked as course_unasked}
use Rattle.pm_memory.specs.Course.{unasked_both}
use Rattle.pm_memory.specs.Sequence.{HearsIn as SequenceHearsIn, NextIn, ReadIn, one_step, rules_said, sequence_begun, step_at, step_read}
use Rattle.pm_memory.specs.Sequence.{step_under, refused_next, hands_next, refused_told as sequence_refused_told}
use Rattle.pm_memory.specs.Sequence.{unasked as sequence_unasked, hears_it as sequence_hears_it, of_a_look, of_a_job, refused_read}
use Rattle.pm_memory.specs.SequenceImage.{SequencesAreKept, sequence_image, sequence_in}

-- Each call is a step.

same-guard : (x y : Guarded) → Some x ≡ Some y → x ≡ y
same-guard x y is = ap (λ (o : Option Guarded). unwrap_or o x) is

same-course : (x y : FrameCourse) → Some x ≡ Some y → x ≡ y
same-course x y is = ap (λ (o : Option FrameCourse). unwrap_or o x) is

-- what memories mean they mean alone, and are refused by nothing
pub record Same (g g2 : Guarded) (c c2 : FrameCourse) : Type 0 where
  pub guard : g2 ≡ g
  pub course : c2 ≡ c

same : (host : GuardImage) (course : CourseImage) (g g2 : Guarded) (c c2 : FrameCourse) → AreBoth host course g c →
    AreBoth host course g2 c2 → Same g g2 c c2
same host course g g2 c c2 one other = record {
  guard = same-guard g2 g (sym other.guard ∙ one.guard);
  course = same-course c2 c (sym other.held ∙ one.held);
}

unrefused : (host : GuardImage) (course : CourseImage) (g : Guarded) (c : FrameCourse) → AreBoth host course g c →
    None ≡ memory_fault (guard_of host) (course_in course)
unrefused host course g c both =
    sym both.there ∙ ap (λ (x : Option FrameCourse). memory_fault (Some g) x) (sym both.held)
    ∙ ap (λ (x : Option Guarded). memory_fault x (course_in course)) (sym both.guard)

-- what a host hears
pub record Heard (g new : Guarded) (entry : Entry) : Type 0 where
  pub told : new.host ≡ host_next g.host entry
  pub registers : new.registers ≡ g.registers

hears-host : (g new : Guarded) (c : FrameCourse) (entry : Entry) (is : FrameCourse) → Hears g c entry (Ok tt) new is → Heard g new entry
hears-host g _ c entry _ (frames_heard stage new at comes after limits registers) = record { told = after; registers = registers }

-- the host beside a part after an event that tells it something
told-host : (held : Held) (passes : ℕ) (happened : List Happening) (event : Event) (entry : Entry) →
    (share_of (beside held passes happened) event).told ≡ Some entry →
    (beside held passes (Happens event ∷ happened)).host ≡ host_next (beside held passes happened).host entry
unfolding beside world_next
told-host held passes happened event entry told = rw told refl

module _ (law : FrameCoursesHoldBeside) (held : Held) (passes : ℕ) (part : PartRegisters) (begun c : FrameCourse)
    (later before : List Happening) (g : Guarded) where
  frames-step : (own : Bool) (old new : GuardImage) (was is : CourseImage) (number : ℕ) (sending : SendingImage) →
      IsFrameCourseBeside held passes part begun before c own later → AreOf held passes part (later ++ before) old was g c →
      HandsOutIn old was number new is sending → StepsOn held passes part begun before own later g new is
  frames-step own old _ was _ _ _ life of (refused_frame number sending fault nothing) =
      let never = unrefused old was g c of.both ∙ fault in cc
  frames-step own old _ was _ _ _ life of (hands_out g2 next c2 after sent new sending both handed frame is_after) =
      let is = same old was g g2 c c2 of.both both in
      let does : HandsOut g c sent next after =
      subst (λ (y : FrameCourse). HandsOut g y sent next after) is.course
      (subst (λ (x : Guarded). HandsOut x c2 sent next after) is.guard handed) in
      record {
        next = next;
        after = after;
        host = is_after.guard;
        course = refl;
        handed = law.hands held passes part begun c after own later before g next sent life of.life of.registers does;
      }

  told-step : (old new : GuardImage) (was is : CourseImage) (event : Event) (entry : Entry) (step : HostStep) →
      IsFrameCourseBeside held passes part begun before c true later → AreOf held passes part (later ++ before) old was g c →
      begins_other event ≡ false → (share_of (beside held passes (later ++ before)) event).told ≡ Some entry →
      call_is_answered step ≡ true → HearsIn old was entry step new is →
      StepsTold held passes part begun before event later entry g new is
  told-step old _ was _ event entry _ life of own told answered (course_refused_told number fault) =
      let never = unrefused old was g c of.both ∙ fault in cc
  told-step old _ was _ event entry _ life of own told answered (course_unasked g2 c2 fault both hear) =
      let never = answered in cc
  told-step old _ was _ event entry _ life of own told answered (course_hears_it g2 next c2 after new both hear is_after) =
      let is = same old was g g2 c c2 of.both both in
      let does : Hears g c entry (Ok tt) next after =
      subst (λ (y : FrameCourse). Hears g y entry (Ok tt) next after) is.course
      (subst (λ (x : Guarded). Hears x c2 entry (Ok tt) next after) is.guard hear) in
      let host = hears-host g next c entry after does in
      record {
        next = next;
        after = after;
        host = is_after.guard;
        told = host.told;
        registers = host.registers;
        course = refl;
        goes = law.tells held passes part begun c after later before g next event entry life of.life own told does;
      }

  -- it goes on, or waits before an order
  goes-step : (event : Event) (own : Bool) (between next : Guarded) (stops : Bool) (sent : Option Sending) (was after : FrameCourse) →
      IsFrameCourseBeside held passes part begun before was own (Happens event ∷ later) →
      between.host ≡ (beside held passes (Happens event ∷ (later ++ before))).host → between.registers ≡ part →
      GoesOn stops between was sent next after → HandedBeside held passes part begun before own (Happens event ∷ later) between next after
  goes-step event own between _ stops _ was _ life host registers (waits job is stopped says) = frames_beside_stays refl life
  goes-step event own between _ stops _ was _ life host registers (hands sent next after does goes) =
      law.hands held passes part begun was after own (Happens event ∷ later) before between next sent life host registers does

  told-on-step : (stops : Bool) (old new : GuardImage) (was is : CourseImage) (event : Event) (entry : Entry)
      (step : HostStep) (sending : SendingImage) →
      IsFrameCourseBeside held passes part begun before c true later → AreOf held passes part (later ++ before) old was g c →
      begins_other event ≡ false →
      (share_of (beside held passes (later ++ before)) event).told ≡ Some entry →
      call_is_answered step ≡ true → HearsOnIn stops old was entry step new is sending →
      StepsToldOn held passes part begun before event later entry g new is
  told-on-step stops old _ was _ event entry _ _ life of own told answered (refused_both number sending fault nothing) =
      let never = unrefused old was g c of.both ∙ fault in cc
  told-on-step stops old _ was _ event entry _ _ life of own told answered (unasked_both g2 c2 fault sending both hear nothing) =
      let never = answered in cc
  told-on-step stops old _ was _ event entry _ _ life of own told answered
      (hears_on g2 between next c2 middle after sent new sending both hear goes frame is_after) =
      let is = same old was g g2 c c2 of.both both in
      let does : Hears g c entry (Ok tt) between middle =
      subst (λ (y : FrameCourse). Hears g y entry (Ok tt) between middle) is.course
      (subst (λ (x : Guarded). Hears x c2 entry (Ok tt) between middle) is.guard hear) in
      let host = hears-host g between c entry middle does in
      let stands = law.tells held passes part begun c middle later before g between event entry life of.life own told does in
      let lives : between.host ≡ (beside held passes (Happens event ∷ (later ++ before))).host =
      host.told ∙ ap (λ (s : Summary). host_next s entry) of.life
      ∙ sym (told-host held passes (later ++ before) event entry told) in
      record {
        between = between;
        told = host.told;
        steps = record {
          next = next;
          after = after;
          host = is_after.guard;
          course = refl;
          handed = goes-step event (goes_on (step_of g.host entry)) between next stops sent middle after stands lives
              (host.registers ∙ of.registers) goes;
        };
      }

pub steps : FrameCoursesHoldBeside → ExportsAreStepsBeside
steps law = record {
  frames = λ held passes part begun c own later before g old new was is number sending life of did.
      frames-step law held passes part begun c later before g own old new was is number sending life of did;
  told = λ held passes part begun c later before g old new was is event entry step life of own told answered did.
      told-step law held passes part begun c later before g old new was is event entry step life of own told answered did;
  told_on = λ held passes part begun c later before g stops old new was is event entry step sending life of own told answered did.
      told-on-step law held passes part begun c later before g stops old new was is event entry step sending life of own told answered did;
}

-- Each call of a sequence is a step of its run, and an order that turns on is sent once.

-- Each call of a sequence is a step of its run.

-- what is heard changes what is known alone
stays : (old : Sequence) → HearsInRun old old
stays old = record { begun = refl; shown = refl; looked = refl; left = refl; ended = refl }

told : (g after : Guarded) (old new : Sequence) (entry : Entry) (result : Result (Unit {0}) Untold)
    → FramesHears g old entry result after new
    → HearsInRun old new
told g after old new entry result (does.nothing none) = stays old
told g after old new entry result (does.unheard course why opens hears) = stays old
told g after old new entry result (does.heard course is after' opens hears) =
    record { begun = refl; shown = refl; looked = refl; left = refl; ended = refl }

told-at : (g after : Guarded) (old new : Sequence) (stage : Stage) (entry : Entry) (result : CourseHeard)
    → HearsAt g old stage entry result after new
    → HearsInRun old new
told-at g after old new stage entry result (does.course named is opens tells) =
    record { begun = refl; shown = refl; looked = refl; left = refl; ended = refl }
told-at g after old new stage entry result (does.alone none tells) = stays old

module _ (steps : Places) (tries : ℕ) (rules : Rules) (marks : List Mark) (g : Guarded) (old : Sequence)
    (runs : Runs steps tries rules marks old) where
  handed : (after : Guarded) (new : Sequence) (sent : Option Sending) (said : Act)
      → FramesHandsOut g (under_at steps old.list.begun) (steps old.list.begun) old sent said after new
      → Runs steps tries rules (marks_of new.list.begun said ++ marks) new
  handed after new sent said (does.again stage sent' opened own first frame) = runs
  handed after new sent said (does.unsent stage heard sent' after' is opened own later hears frame) =
      run.hears marks old new runs (told-at g after old new stage (Finished false) heard hears)
  handed after new sent said (does.begins job said' sent' after' is names says lets frame) = run.acts g said marks old new runs says
  handed after new sent said (does.refused job named fault is names says refuses) = run.refuses g job named fault marks old is runs says names refuses
  handed after new sent said (does.says said' is none says) = run.acts g said marks old new runs says

module _ (g : Guarded) (old : Sequence) (bytes : List ℕ) where
  by-act : (x : LookAct) → HearsInRun old (sequence_heard_by g old bytes x)
  by-act (look.Ask question) = record { begun = refl; shown = refl; looked = refl; left = refl; ended = refl }
  by-act look.Probe = record { begun = refl; shown = refl; looked = refl; left = refl; ended = refl }
  by-act look.Pause = stays old
  by-act look.Again = stays old
  by-act look.Restarted = stays old
  by-act look.Over = stays old

  by-phase : (p : Phase) → HearsInRun old (heard_at p g old bytes)
  by-phase phase.Steps = stays old
  by-phase phase.Before = by-act (look_act old.look g.host.setup.passes (due_in g old.look.delivery))
  by-phase phase.After = by-act (look_act old.look g.host.setup.passes (due_in g old.look.delivery))

pub calls-run : CallsAreRuns
calls-run = record {
  hands = λ steps tries rules marks g after old new sent said runs out. handed steps tries rules marks g old runs after new sent said out;
  hears = λ g after old new entry result hears. told g after old new entry result hears;
  hears_at = λ g after old new stage entry result hears. told-at g after old new stage entry result hears;
  answered = λ g old bytes. by-phase g old bytes old.phase;
}

-- How often an order that turns on is sent.

abbrev later : Option Stage → Bool
later at = option_map_or is_unsent at false

-- a job begins with its first pass
begun-first : (s : Summary) (job : host.Job) → later (host_next s (Accepted job)).stage ≡ false
unfolding host_next
begun-first s (host.Order cell word) = refl
begun-first s (host.Check cell) = refl
begun-first s (host.Learn output) = refl
begun-first s (host.Send command) = refl

-- a write that has ended is read back
read-next : (s : Summary) (stage : Stage) → s.stage ≡ Some stage → is_unsent stage ≡ true
    → later (host_next s (Finished false)).stage ≡ false
unfolding host_next
read-next s (Writes cell word pass) is late = ap (λ (at : Option Stage). later (finished (idle s) at false).after.stage) is
read-next s (Reads cell word pass) is late = cc
read-next s (Asks question tries) is late = cc
read-next s (Sends command tries) is late = cc

begun-by : (g after : Guarded) (o : Option host.Job) → IsSomeAnd o (λ begun. after.host ≡ host_next g.host (Accepted begun))
    → later after.host.stage ≡ false
begun-by g after None ok = absurd ok
begun-by g after (Some job) ok = ap (λ (s : Summary). later s.stage) ok ∙ begun-first g.host job

heard-by : (g after : Guarded) (old new : Sequence) (stage : Stage) (result : CourseHeard) → g.host.stage ≡ Some stage
    → is_unsent stage ≡ true
    → HearsAt g old stage (Finished false) result after new → later after.host.stage ≡ false
heard-by g after old new stage result opened late (does.course named is opens tells) =
    ap (λ (s : Summary). later s.stage) tells.after ∙ read-next g.host stage opened late
heard-by g after old new stage result opened late (does.alone none tells) =
    ap (λ (s : Summary). later s.stage) tells.after ∙ read-next g.host stage opened late

once-so : (g after : Guarded) (under ahead : Option Step) (old new : Sequence) (sent : Option Sending) (frame : Sending) (said : Act)
    → FramesHandsOut g under ahead old sent said after new → sent ≡ Some frame → later after.host.stage ≡ false
once-so g after under ahead old new sent frame said (does.again stage sent' opened own first put) is =
    ap (λ (at : Option Stage). later at) opened ∙ first
once-so g after under ahead old new sent frame said (does.unsent stage heard sent' after' new' opened own late hears put) is =
    heard-by g after old new stage heard opened late hears
once-so g after under ahead old new sent frame said (does.begins job said' sent' after' new' names says lets put) is =
    begun-by g after (accepted_job g.host job) lets.ok
once-so g after under ahead old new sent frame said (does.refused job named fault new' names says refuses) is = cc
once-so g after under ahead old new sent frame said (does.says said' new' named says) is = cc

pub orders-once : OrdersGoOnce
orders-once g after under ahead old new sent said out = once-so g after under ahead old new (Some sent) sent said out refl

-- Each call of a list is a step of its run.

same-sequence : (x y : Sequence) → Some x ≡ Some y → x ≡ y
same-sequence x y is = ap (λ (o : Option Sequence). unwrap_or o x) is

-- a list that is asked about has at most 65,535 steps
is-short : (b : Bool) (o : Option ℕ) → cond b (Some no_step) o ≡ None → b ≡ false
is-short true o none = cc
is-short false o none = refl

-- a run of steps that may say anything where a wrong one stands
record Meant (places : Places) (steps : List SequenceStepImage) (tries rules : ℕ) (marks : List Mark) (image : SequenceImage) : Type 0
  where
    q : Sequence
    held : sequence_in image ≡ Some q
    runs : Runs places tries (rules_said rules) marks q
    short : is_some q.end ≡ true → nat_lt 65535 (length steps) ≡ false

module _ (kept : SequencesAreKept) (law : CallsAreRuns) (places : Places) (steps : List SequenceStepImage)
    (says : (n : ℕ) (step : Option Step) → step_at steps n ≡ Ok step → places n ≡ step) (tries rules : ℕ) where
  one-less : (n : ℕ) → suc n - 1 ≡ n
  one-less n = omega arith

  under-at : (n : ℕ) → step_under steps (suc n) ≡ step_at steps n
  under-at n =
      ap (λ (b : Bool). cond b (step_at steps (suc n - 1)) (Ok None)) (lt-ltb 0 (suc n) (omega arith))
      ∙ ap (λ (m : ℕ). step_at steps m) (one-less n)

  under-is : (begun : ℕ) (under : Option Step) → step_under steps begun ≡ Ok under → under_at places begun ≡ under
  under-is zero under is = ap right_step is
  under-is (suc n) under is = says n under (sym (under-at n) ∙ is)

  -- a run of the sequence that the memory means
  runs-of : (marks : List Mark) (image : SequenceImage) (q : Sequence) → Meant places steps tries rules marks image →
      sequence_in image ≡ Some q → Runs places tries (rules_said rules) marks q
  runs-of marks image q m held =
      subst (λ (x : Sequence). Runs places tries (rules_said rules) marks x) (same-sequence m.q q (sym m.held ∙ held)) m.runs

  short-of : (marks : List Mark) (image : SequenceImage) (q : Sequence) → Meant places steps tries rules marks image →
      sequence_in image ≡ Some q → is_some q.end ≡ true → nat_lt 65535 (length steps) ≡ false
  short-of marks image q m held over =
      m.short (ap (λ (x : Sequence). is_some x.end) (same-sequence m.q q (sym m.held ∙ held)) ∙ over)

  begun-meant : Meant places steps tries rules [] (sequence_begun tries rules)
  begun-meant = record {
    q = new_sequence tries (rules_said rules);
    held = kept.kept (new_sequence tries (rules_said rules)) nothing_said (record {
      list = record { under = tt; coming = tt };
      told = refl;
      over = refl;
    });
    runs = run.starts;
    short = λ over. absurd (true≢false (sym over));
  }

  next-meant : (marks : List Mark) (old new : GuardImage) (was is : SequenceImage) (records after : List SequenceRecordImage) (number : ℕ)
      (sending : SendingImage) → Meant places steps tries rules marks was →
      (call : NextIn old was steps records number new is after sending) → IsReadNext call →
      Meant places steps tries rules (marks_next call ++ marks) is
  next-meant marks old _ was _ records _ _ _ m (refused_next number sending fault nothing) read = m
  next-meant marks old _ was _ records _ _ _ m
      (hands_next g next q is under ahead sent said new told sending asked out frame tells after) read =
      let does : FramesHandsOut g (under_at places q.list.begun) (places q.list.begun) q sent said next is =
      subst (λ (u : Option Step). FramesHandsOut g u (places q.list.begun) q sent said next is)
      (sym (under-is q.list.begun under asked.under_at))
      (subst (λ (a : Option Step). FramesHandsOut g under a q sent said next is) (sym (says q.list.begun ahead asked.ahead_at)) out) in
      record {
        q = is;
        held = read;
        runs = law.hands places tries (rules_said rules) marks g next q is sent said (runs-of marks was q m asked.held) does;
        short = λ over. is-short (nat_lt 65535 (length steps)) _ asked.list;
      }

  -- what is heard changes what is known alone
  hears-meant : (marks : List Mark) (was image : SequenceImage) (q is : Sequence) → Meant places steps tries rules marks was →
      sequence_in was ≡ Some q → HearsInRun q is → sequence_in image ≡ Some is → Meant places steps tries rules marks image
  hears-meant marks was image q is m held hears read = record {
    q = is;
    held = read;
    runs = run.hears marks q is (runs-of marks was q m held) hears;
    short = λ over. short-of marks was q m held (sym (ap is_some hears.ended) ∙ over);
  }

  told-meant : (marks : List Mark) (old new : GuardImage) (was is : SequenceImage) (entry : Entry) (step : HostStep) →
      Meant places steps tries rules marks was → (call : SequenceHearsIn old was entry step new is) → IsReadHeard call →
      Meant places steps tries rules marks is
  told-meant marks old _ was _ entry _ m (sequence_refused_told number fault) read = m
  told-meant marks old _ was _ entry _ m (sequence_unasked g q is fault both hear) read = m
  told-meant marks old _ was _ entry _ m (sequence_hears_it g next q is new both hear after) read =
      hears-meant marks was (heard_image was is) q is m both.held (law.hears g next q is entry (Ok tt) hear) read

  read-meant : (marks : List Mark) (old new : GuardImage) (was is : SequenceImage) (bytes : List ℕ) (step : HostStep) →
      Meant places steps tries rules marks was → (call : ReadIn old was bytes step new is) → IsReadBack call →
      Meant places steps tries rules marks is
  read-meant marks old _ was _ bytes _ m (of_a_look g q both look) read =
      hears-meant marks was (sequence_image (heard_in g q bytes) was.said) q (heard_in g q bytes) m both.held (law.answered g q bytes) read
  read-meant marks old _ was _ bytes _ m (of_a_job g q step new is both look hear) read = told-meant marks old new was is _ step m hear read
  read-meant marks old _ was _ bytes _ m (refused_read number fault) read = m

  meant : (marks : List Mark) (image : SequenceImage) → RunsInMemory steps tries rules marks image →
      Meant places steps tries rules marks image
  meant _ _ memory.begins = begun-meant
  meant _ _ (memory.next marks old new was is records after number sending runs call read) =
      next-meant marks old new was is records after number sending (meant marks was runs) call read
  meant _ _ (memory.hears marks old new was is entry step runs call read) =
      told-meant marks old new was is entry step (meant marks was runs) call read
  meant _ _ (memory.reads marks old new was is bytes step runs call read) =
      read-meant marks old new was is bytes step (meant marks was runs) call read

-- A second reading of the list has a step where a wrong one stands. No call that isn't refused meets one, so the runs are of both readings.
any-step : Step
any-step = record {
  placed = record { host = 0; step = record { output = 0; act = stairs.Rests } };
  wait = 0;
  looks = record {
    is_wanted = false;
    must_deliver = false;
    tells_power_good = false;
    lacks_status_word = false;
    lacks_read_vout = false;
    fault_limits = 0;
    within = 0;
    rounds = 0;
  };
  before = record { asked = 0; fault = 0; word = 0 };
}

abbrev filled : Result (Option Step) ℕ → Option Step
filled (Ok step) = step
filled (Err number) = Some any-step

no-step : (step : Step) → Some step ≡ None → ⊥
no-step step e = cc

never-none : (r : Result Step ℕ) → filled (one_step r) ≡ None → ⊥
never-none (Ok step) e = no-step step e
never-none (Err number) e = no-step any-step e

abbrev filled_of : List SequenceStepImage → Places
filled_of steps place = filled (step_at steps place)

-- no step is there where none is, not even a wrong one
unread : (o : Option SequenceStepImage) → filled (step_read o) ≡ None → o ≡ None
unread None none = refl
unread (Some i) none = absurd (never-none (step_in i) none)

-- a list ends where it has nothing
ended-at : (steps : List SequenceStepImage) (n : ℕ) → slice_get steps n ≡ None → length steps ≤ n
ended-at [] n none = omega arith
ended-at (step ∷ steps) zero none = cc
ended-at (step ∷ steps) (suc n) none = let less = ended-at steps n none in omega arith

module _ (kept : SequencesAreKept) (law : CallsAreRuns) (steps : List SequenceStepImage) (tries rules : ℕ) (marks : List Mark)
    (image : SequenceImage) (runs : RunsInMemory steps tries rules marks image) where
  right-at : (n : ℕ) (step : Option Step) → step_at steps n ≡ Ok step → places_of steps n ≡ step
  right-at n step is = ap right_step is

  filled-at : (n : ℕ) (step : Option Step) → step_at steps n ≡ Ok step → filled_of steps n ≡ step
  filled-at n step is = ap filled is

  of-right : Meant (places_of steps) steps tries rules marks image
  of-right = meant kept law (places_of steps) steps right-at tries rules marks image runs

  of-filled : Meant (filled_of steps) steps tries rules marks image
  of-filled = meant kept law (filled_of steps) steps filled-at tries rules marks image runs

  past : (place : ℕ) → length steps ≤ place → step_at steps place ≡ Ok None
  past place after = ap step_read (slice_get_past steps place after)

  module _ (deliver : ReachedSequencesDeliver) (q : Sequence) (held : sequence_in image ≡ Some q) (over : q.end ≡ Some end.Reached) where
    own : Runs (places_of steps) tries (rules_said rules) marks q
    own = runs-of kept law (places_of steps) steps right-at tries rules marks image q of-right held

    few : length steps ≤ 65535
    few = ltb-false 65535 (length steps)
        (short-of kept law (places_of steps) steps right-at tries rules marks image q of-right held (ap is_some over))

    beyond : (place : ℕ) → nat_lt place 65535 ≡ false → step_at steps place ≡ Ok None
    beyond place far = let least = ltb-false place 65535 far in past place (omega (arith, few))

    -- each step has begun
    all-begun : length steps ≤ q.list.begun
    all-begun =
        let did = deliver (filled_of steps) tries (rules_said rules) marks q (λ place far. filled-at place None (beyond place far))
        (runs-of kept law (filled_of steps) steps filled-at tries rules marks image q of-filled held) over in
        ended-at steps q.list.begun (unread (slice_get steps q.list.begun) did.1)

    -- after the list's end no step has to deliver
    none-past : (place : ℕ) → length steps ≤ place → must (places_of steps place) ≡ true → ⊥
    none-past place after it = true≢false (sym it ∙ ap (λ r. must (right_step r)) (past place after))

    by-place : ((place : ℕ) → place < q.list.begun → must (places_of steps place) ≡ true →
        settled (places_of steps) marks (suc place) ≡ true) → (place : ℕ) (b : Bool) → nat_lt place q.list.begun ≡ b →
        must (places_of steps place) ≡ true → settled (places_of steps) marks (suc place) ≡ true
    by-place earlier place true less it = earlier place (ltb-true place q.list.begun less) it
    by-place earlier place false less it =
        let least = ltb-false place q.list.begun less in absurd (none-past place (omega (arith, all-begun)) it)

    delivered : NoneLeft marks × (length steps ≤ q.list.begun)
        × ((place : ℕ) → must (places_of steps place) ≡ true → settled (places_of steps) marks (suc place) ≡ true)
    delivered =
        let did = deliver (places_of steps) tries (rules_said rules) marks q (λ place far. right-at place None (beyond place far)) own over
        in
        (did.0, all-begun, λ place it. by-place did.2 place (nat_lt place q.list.begun) refl it)

pub runs-in-memory : SequencesAreKept → CallsAreRuns → ReachedSequencesDeliver → SequenceCallsAreRuns
runs-in-memory kept law deliver = record {
  runs = λ steps tries rules marks image runs. let m = of-right kept law steps tries rules marks image runs in
      record { q = m.q; held = m.held; runs = m.runs };
  reached = λ steps tries rules marks image q runs held over.
      delivered kept law steps tries rules marks image runs deliver q held over;
}
