-- A host, a course and a list in memory: what was written reads as it was.
use Rattle.std.specs.Prelude.{option_and_then, unwrap_or, ◌==◌, if◌then◌else◌, is_some, nat_lt, is_none, IfSome, ◌||◌, ◌&&◌, option_map}
use Rattle.std.proofs.Common.{◌≡◌, Bool, true, false, Option, Some, None, refl, sym, ap, ◌∙◌, subst, ℕ, ◌<◌, ℤ, rules}
use Rattle.pm_table.specs.{Rules.rule, declared.reg.Reg.Reg}
use Rattle.pm_host.specs.{Sound.IsSound, Summary.Summary, Transcript.Entry, declared.image.HostImage.HostImage, declared.job.Job.Job}
use Rattle.pm_host.specs.{declared.stage.Stage.Stage, declared.state.State.State}
use Rattle.pm_host.specs.Image.{held, host_of, is_current, is_sound, sound_in, stage_held}
use Rattle.pm_host.specs.declared.job.Job.TheVariants as asked
use Rattle.pm_rail.specs.{Course.course_of, Survey.wanted_in, declared.course.Differing.Differing, declared.survey.Reads.Reads}
use Rattle.pm_rail.specs.{declared.wanted.Wanted.Wanted}
use Rattle.pm_course.specs.{Heard.is_job_of, Wishes.no_voltages, declared.answer_fault.AnswerFault.AnswerFault}
use Rattle.pm_course.specs.{declared.frame_course.FrameCourse.FrameCourse}
use Rattle.pm_course.specs.FrameCourse.{going_on, refused_by, to_byte, to_survey, wanting}
use Rattle.pm_course.specs.declared.answer_fault.AnswerFault.TheVariants.{NoAnswer, NotAcknowledged, NotOurs, Short, Long, WrongCount}
use Rattle.pm_course.specs.declared.answer_fault.AnswerFault.TheVariants.{WrongPec}
use Rattle.pm_stairs.specs.{Sequence.heard_with, declared.sequence.Sequence.Sequence as List, declared.stairs.Stairs.Stairs}
use Rattle.pm_stairs.specs.{declared.stairs.Under.Under, declared.step.WordAct.WordAct, declared.step.WordStep.WordStep}
use Rattle.pm_stairs.specs.OpenCourse.{course_open, is_job_at, under_with, with_course}
use Rattle.pm_stairs.specs.declared.step.WordAct.TheVariants as words
use Rattle.pm_sequence.specs.{declared.look.Look.Look, declared.sequence.Fresh.Fresh, declared.sequence.Phase.Phase}
use Rattle.pm_sequence.specs.{declared.sequence.Sequence.Sequence}
use Rattle.pm_sequence.specs.Frames.{fresh_heard, list_heard}
use Rattle.pm_sequence.specs.declared.sequence.Fresh.TheVariants as fresh
use Rattle.pm_sequence.specs.declared.sequence.Phase.TheVariants as phase
use Rattle.pm_memory.specs.{Flag.flag, declared.course_image.CourseImage.CourseImage, declared.guard_image.GuardImage.GuardImage}
use Rattle.pm_memory.specs.{declared.list_image.ListImage.ListImage, declared.sequence_image.SaidImage.SaidImage}
use Rattle.pm_memory.specs.{declared.sequence_image.SequenceImage.SequenceImage}
use Rattle.pm_memory.specs.CourseEnd.{fault_held, fault_number}
use Rattle.pm_memory.specs.CourseImage.{course_image, course_in, differed_held, differed_image, CoursesAreKept, IsKept, course_held}
use Rattle.pm_memory.specs.CourseImage.{is_course}
use Rattle.pm_memory.specs.Guard.{guard_of, limits_kept}
use Rattle.pm_memory.specs.Heard.{course_heard, heard_image, stairs_heard, HearingsAreKept}
use Rattle.pm_memory.specs.Hosted.{IsThere, guard_in}
use Rattle.pm_memory.specs.ListImage.{list_image, list_in, held_with, list_meant, under_words, with_its_course}
use Rattle.pm_memory.specs.SequenceImage.{probe_answer_number, fresh_number, fresh_read, look_image, look_read, phase_read, phase_written}
use Rattle.pm_memory.specs.SequenceImage.{sequence_image, sequence_in, told_image_of, told_written, IsKeptList, IsKeptSequence}
use Rattle.pm_memory.specs.SequenceImage.{SequencesAreKept}
use Rattle.pm_memory.specs.SequenceImage.{sequence_mark, sequence_meant, sequence_read, sequence_version}
use Rattle.pm_memory.specs.Wanted.{wanted_image, wanted_meant, wish_image, wish_meant}

-- A course and a host in memory: what the numbers read as.

-- Memory that holds a host has its layout, and its state beside where its job stands.

pub record IsHeld (image : HostImage) (s : Summary) : Type 0 where
  pub current : is_current image ≡ true
  pub whole : held s.stage image.state ≡ s

unwrapped : (x y : Summary) → Some x ≡ Some y → x ≡ y
unwrapped x y is = ap (λ (o : Option Summary). unwrap_or o x) is

staged : (state : State) (stage : Option Stage) (s : Summary) → sound_in state stage ≡ Some s → held s.stage state ≡ s
staged state stage s is = by (is_sound (held stage state)) refl where
  by : (b : Bool) → is_sound (held stage state) ≡ b → held s.stage state ≡ s
  by true holds =
      let same : held stage state ≡ s = unwrapped (held stage state) s (rw holds at is) in
      ap (λ (x : Summary). held x.stage state) (sym same) ∙ same
  by false other = let never = rw other at is in cc

stood : (state : State) (at : Option (Option Stage)) (s : Summary) → option_and_then (sound_in state) at ≡ Some s → held s.stage state ≡ s
stood state None s is = cc
stood state (Some stage) s is = staged state stage s is

pub held-of : (image : HostImage) (s : Summary) → host_of image ≡ Some s → IsHeld image s
unfolding host_of
held-of image s is = by (is_current image) refl where
  by : (b : Bool) → is_current image ≡ b → IsHeld image s
  by true holds = record { current = holds; whole = stood image.state (stage_held image.stage) s (rw holds at is) }
  by false other = let never = rw other at is in cc

-- Memory that holds a host means it.

pub means : (image : GuardImage) (s : Summary) → host_of image.host ≡ Some s → (guard_in image).host ≡ s
means image s found = rw found refl

pub there-of : (image : GuardImage) (s : Summary) → host_of image.host ≡ Some s → IsSound s → IsThere image
there-of image s found sound =
    let kept = held-of image.host s found in
    let is = means image s found in
    record {
      there = found ∙ ap (λ (x : Summary). Some x) (sym is);
      current = kept.current;
      whole = ap (λ (x : Summary). held x.stage image.host.state) is ∙ kept.whole ∙ sym is;
      sound = subst (λ (x : Summary). IsSound x) (sym is) sound;
    }

pub guarded : (image : GuardImage) → IsThere image → guard_of image ≡ Some (guard_in image)
guarded image there = rw (there.there) refl

-- the limits of memory whose host changes stay
pub limits-stay : (image : GuardImage) (host : HostImage)
    → limits_kept (record { host = host; registers = image.registers; unused = image.unused; limits = image.limits }) ≡ limits_kept image
unfolding limits_kept
limits-stay image host = refl

pub found-in : (image : GuardImage) (s : Summary) → host_of image.host ≡ Some s → guard_of image ≡ Some (guard_in image)
found-in image s found = rw found refl

-- How a flag, a wish and the words that a plan wants are kept in memory: each is read as it was written.

pub flag-kept : (b : Bool) → (flag b == 1) ≡ b
flag-kept true = refl
flag-kept false = refl

wish-kept : (word : Option ℕ) → wish_meant (wish_image word) ≡ word
wish-kept None = refl
wish-kept (Some word) = refl

pub wanted-kept : (w : Wanted) → wanted_meant (wanted_image w) ≡ w
wanted-kept w =
    rw (wish-kept w.command, wish-kept w.max, wish-kept w.margin_high, wish-kept w.margin_low, wish-kept w.min) refl

pub plan-kept : (plan : Option Wanted)
    → (if flag (is_some plan) == 1 then Some (wanted_meant (wanted_image (wanted_in plan))) else None) ≡ plan
plan-kept None = refl
plan-kept (Some w) = ap (λ (x : Wanted). Some x) (wanted-kept w)

-- How the memory of a course is kept.

-- a fault is read as it was written, a byte is, and which registers differed are
fault-kept : (fault : Option AnswerFault) → fault_held (fault_number fault) ≡ fault
fault-kept None = refl
fault-kept (Some NoAnswer) = refl
fault-kept (Some NotAcknowledged) = refl
fault-kept (Some NotOurs) = refl
fault-kept (Some Short) = refl
fault-kept (Some Long) = refl
fault-kept (Some WrongCount) = refl
fault-kept (Some WrongPec) = refl

byte-kept : (byte : Option ℕ) → (if flag (is_some byte) == 1 then Some (unwrap_or byte 0) else None) ≡ byte
byte-kept None = refl
byte-kept (Some byte) = refl

differed-kept : (r : Reads) → r.protect ≡ false → differed_held (differed_image r) ≡ r
differed-kept r is = rw (
  flag-kept r.operation,
  flag-kept r.command,
  flag-kept r.max,
  flag-kept r.margin_high,
  flag-kept r.margin_low,
  flag-kept r.min,
) (ap (λ (b : Bool). record r { protect = b }) (sym is))

-- a course is read back from its numbers
pub kept : (c : FrameCourse) → IsKept c → course_in (course_image c) ≡ Some c
kept c is =
    let there : nat_lt c.course.survey.output 8 ≡ true = search rules in
    let read = c.course.survey.read in
    let v = c.voltages in
    rw (
      there,
      is.over,
      is.twice,
      is.asked,
      plan-kept c.course.survey.plan,
      byte-kept c.course.byte,
      fault-kept c.fault,
      differed-kept c.course.differed is.differed,
      flag-kept c.course.survey.learned,
      flag-kept c.course.ordered,
      flag-kept c.course.done,
      flag-kept read.operation,
      flag-kept read.command,
      flag-kept read.max,
      flag-kept read.margin_high,
      flag-kept read.margin_low,
      flag-kept read.min,
      flag-kept read.protect,
      flag-kept v.has_command,
      flag-kept v.has_max,
      flag-kept v.has_margin_high,
      flag-kept v.has_margin_low,
      flag-kept v.has_min,
    ) refl

-- courses that begin
survey-kept : (output tries : ℕ) → output < 8 → IsKept (to_survey output tries)
survey-kept output tries below = record { output = below; asked = refl; twice = refl; differed = refl; over = refl }

words-kept : (output : ℕ) (words : Wanted) (tries : ℕ) → output < 8 → IsKept (going_on (course_of output words tries) no_voltages)
words-kept output words tries below = record { output = below; asked = refl; twice = refl; differed = refl; over = refl }

byte-begun : (output byte tries : ℕ) → output < 8 → IsKept (to_byte output byte tries)
byte-begun output byte tries below = record { output = below; asked = refl; twice = refl; differed = refl; over = refl }

-- one that wants a voltage more, and one whose job is refused
wanting-kept : (c : FrameCourse) (register : Reg) (x : ℤ) → IsKept c → IsKept (wanting c register x)
wanting-kept c register x is =
    record { output = is.output; asked = is.asked; twice = is.twice; differed = is.differed; over = is.over }

none-twice : (twice : Option Differing) → is_none twice ≡ true → None ≡ twice
none-twice None is = refl
none-twice (Some differs) is = cc

refused-kept : (c : FrameCourse) (number : ℕ) (job : Job) → IsKept c → is_none c.course.twice ≡ true → IsKept (refused_by c number job)
refused-kept c number job is none = record {
  output = is.output;
  asked = is.asked;
  twice = none-twice c.course.twice none;
  differed = is.differed;
  over = refl;
}

pub courses : CoursesAreKept
courses = record {
  kept = kept;
  survey = survey-kept;
  words = words-kept;
  byte = byte-begun;
  wanting = wanting-kept;
  refused = refused-kept;
}

-- A list in memory: what was written reads as it was, and so does what a hearing changes.

-- How the memory of a sequence is kept.

there-kept : (there off : Bool) → (probe_answer_number there off == 1 || probe_answer_number there off == 3) ≡ there
there-kept true true = refl
there-kept true false = refl
there-kept false true = refl
there-kept false false = refl

off-kept : (there off : Bool) → nat_lt 1 (probe_answer_number there off) ≡ off
off-kept true true = refl
off-kept true false = refl
off-kept false true = refl
off-kept false false = refl

look-kept : (l : Look) (turned_on : ℕ) → look_read (look_image l turned_on) ≡ l
look-kept l turned_on = rw (
  flag-kept l.status.has_answered,
  flag-kept l.vout.has_answered,
  there-kept l.probe.is_there l.probe.is_off,
  off-kept l.probe.is_there l.probe.is_off,
  flag-kept l.probe.is_over,
) refl

phase-kept : (p : Phase) (lowers : Bool) → phase_read (phase_written p lowers) ≡ p
phase-kept phase.Steps true = refl
phase-kept phase.Steps false = refl
phase-kept phase.Before true = refl
phase-kept phase.Before false = refl
phase-kept phase.After true = refl
phase-kept phase.After false = refl

lowers-kept : (p : Phase) (lowers : Bool) → nat_lt 3 (phase_written p lowers) ≡ lowers
lowers-kept phase.Steps true = refl
lowers-kept phase.Steps false = refl
lowers-kept phase.Before true = refl
lowers-kept phase.Before false = refl
lowers-kept phase.After true = refl
lowers-kept phase.After false = refl

pub fresh-kept : (it : Fresh) → fresh_read (fresh_number it) ≡ it
fresh-kept fresh.Nothing = refl
fresh-kept fresh.Under = refl
fresh-kept fresh.Ahead = refl

fresh-by : (told : Option Job) (n : ℕ) → (told_image_of told n).fresh ≡ n
fresh-by None n = refl
fresh-by (Some (asked.Order cell word)) n = refl
fresh-by (Some (asked.OrderMicro cell x)) n = refl
fresh-by (Some (asked.Check cell)) n = refl
fresh-by (Some (asked.Learn output)) n = refl
fresh-by (Some (asked.Send command)) n = refl

fresh-told : (told : Option Job) (it : Fresh) → fresh_read (told_written told it).fresh ≡ it
fresh-told told it = ap (λ (n : ℕ). fresh_read n) (fresh-by told (fresh_number it)) ∙ fresh-kept it

-- a list whose newest step and whose first step ahead have these courses
abbrev made : List → Option Under → Option FrameCourse → List
made q newest coming = record q { stairs = record q.stairs { under = newest; coming = coming } }

abbrev step_of : ℕ → WordAct → FrameCourse → Under
step_of output act course = record { step = record { output = output; act = act }; course = course }

abbrev IsListKept : List → Type 0
IsListKept q = list_in (list_image q) ≡ Some q

none-at : (q : List) (coming : Option FrameCourse) → IfSome coming IsKept → IsListKept (made q None coming)
none-at q None is = rw (
  flag-kept q.is_free,
  flag-kept q.is_warned,
  flag-kept q.keeps_back,
  flag-kept q.ends_at_restart,
  flag-kept q.stairs.reading,
  flag-kept q.stairs.restarted,
) refl
none-at q (Some c) is = rw (
  kept c is,
  flag-kept q.is_free,
  flag-kept q.is_warned,
  flag-kept q.keeps_back,
  flag-kept q.ends_at_restart,
  flag-kept q.stairs.reading,
  flag-kept q.stairs.restarted,
) refl

some-at : (q : List) (output : ℕ) (act : WordAct) (course : FrameCourse) (coming : Option FrameCourse) → IsKept course
    → IfSome coming IsKept → IsListKept (made q (Some (step_of output act course)) coming)
some-at q output (words.Sets wanted) course None own is = rw (
  kept course own,
  wanted-kept wanted,
  flag-kept q.is_free,
  flag-kept q.is_warned,
  flag-kept q.keeps_back,
  flag-kept q.ends_at_restart,
  flag-kept q.stairs.reading,
  flag-kept q.stairs.restarted,
) refl
some-at q output (words.Sets wanted) course (Some c) own is = rw (
  kept course own,
  kept c is,
  wanted-kept wanted,
  flag-kept q.is_free,
  flag-kept q.is_warned,
  flag-kept q.keeps_back,
  flag-kept q.ends_at_restart,
  flag-kept q.stairs.reading,
  flag-kept q.stairs.restarted,
) refl
some-at q output (words.Turns byte) course None own is = rw (
  kept course own,
  flag-kept q.is_free,
  flag-kept q.is_warned,
  flag-kept q.keeps_back,
  flag-kept q.ends_at_restart,
  flag-kept q.stairs.reading,
  flag-kept q.stairs.restarted,
) refl
some-at q output (words.Turns byte) course (Some c) own is = rw (
  kept course own,
  kept c is,
  flag-kept q.is_free,
  flag-kept q.is_warned,
  flag-kept q.keeps_back,
  flag-kept q.ends_at_restart,
  flag-kept q.stairs.reading,
  flag-kept q.stairs.restarted,
) refl
some-at q output words.Nothing course None own is = rw (
  kept course own,
  flag-kept q.is_free,
  flag-kept q.is_warned,
  flag-kept q.keeps_back,
  flag-kept q.ends_at_restart,
  flag-kept q.stairs.reading,
  flag-kept q.stairs.restarted,
) refl
some-at q output words.Nothing course (Some c) own is = rw (
  kept course own,
  kept c is,
  flag-kept q.is_free,
  flag-kept q.is_warned,
  flag-kept q.keeps_back,
  flag-kept q.ends_at_restart,
  flag-kept q.stairs.reading,
  flag-kept q.stairs.restarted,
) refl

list-at : (q : List) (newest : Option Under) (coming : Option FrameCourse) → IfSome newest (λ under. IsKept under.course)
    → IfSome coming IsKept → IsListKept (made q newest coming)
list-at q None coming own is = none-at q coming is
list-at q (Some under) coming own is = some-at q under.step.output under.step.act under.course coming own is

list-kept : (q : List) → IsKeptList q → IsListKept q
list-kept q is = list-at q q.stairs.under q.stairs.coming is.under is.coming

sequence-kept : (q : Sequence) (said : SaidImage) → IsKeptSequence q → sequence_in (sequence_image q said) ≡ Some q
sequence-kept q said is = rw (
  list-kept q.list is.list,
  look-kept q.look q.turned_on,
  phase-kept q.phase q.lowers,
  lowers-kept q.phase q.lowers,
  is.told,
  fresh-told q.told q.fresh,
  is.over,
  flag-kept q.leaves,
  flag-kept q.asks,
  flag-kept q.is_read,
  flag-kept q.is_shown,
  flag-kept q.is_waited,
  flag-kept q.is_looked,
) refl

pub sequences : SequencesAreKept
sequences = record { kept = sequence-kept }

-- The numbers of a list that a hearing changes, and how they are read.

-- ---- What is written ----

abbrev stairs_at : Option WordStep → FrameCourse → Option FrameCourse → Bool → Bool → Stairs
stairs_at step course coming reading restarted =
    record { under = option_map (with_its_course course) step; coming = coming; reading = reading; restarted = restarted }

abbrev course_put : ListImage → FrameCourse → Bool → Bool → ListImage
course_put i is reading seen = if reading
    then record i { coming = course_image is; under = record i.under { is_restarted = flag seen } }
    else record i { course = course_image is; under = record i.under { is_restarted = flag seen } }

put-at : (i : ListImage) (is course : FrameCourse) (step : Option WordStep) (coming : Option FrameCourse) (reading restarted seen : Bool)
    → is_some (course_open (stairs_at step course coming reading restarted)) ≡ true
    → course_put i is reading (restarted || seen)
    ≡ stairs_heard i (with_course (stairs_at step course coming reading restarted) is seen)
put-at i is course step coming true restarted seen opened = refl
put-at i is course (Some step) coming false restarted seen opened = refl
put-at i is course None coming false restarted seen opened = cc

pub list-put : (i : ListImage) (is : FrameCourse) (restarted : Bool) → is_some (course_open (list_meant i).stairs) ≡ true
    → course_heard i is restarted ≡ stairs_heard i (heard_with (list_meant i) is restarted).stairs
list-put i is restarted opened =
    put-at i is (course_held i.course) (under_words i.under) (rule (i.under.has_coming == 1) (course_held i.coming)) (i.under.is_reading == 1)
    (i.under.is_restarted == 1) (restarted && i.ends_at_restart == 1) opened

-- ---- The course whose job was named last ----

under-at : (step : Option WordStep) (course : FrameCourse) (coming : Option FrameCourse) (reading restarted : Bool) → reading ≡ false
    → is_some (course_open (stairs_at step course coming reading restarted)) ≡ true
    → course_open (stairs_at step course coming reading restarted) ≡ Some course
under-at step course coming true restarted other opened = cc
under-at (Some step) course coming false restarted other opened = refl
under-at None course coming false restarted other opened = cc

pub open-under : (i : ListImage) → (i.under.is_reading == 1) ≡ false → is_some (course_open (list_meant i).stairs) ≡ true
    → course_open (list_meant i).stairs ≡ Some (course_held i.course)
open-under i other opened =
    under-at (under_words i.under) (course_held i.course) (rule (i.under.has_coming == 1) (course_held i.coming)) (i.under.is_reading == 1)
    (i.under.is_restarted == 1) other opened

job-under : (step : Option WordStep) (course : FrameCourse) (coming : Option FrameCourse) (reading restarted : Bool) (stage : Stage)
    → reading ≡ false → is_some step ≡ true
    → is_job_of course.course.survey.asked stage ≡ is_job_at (stairs_at step course coming reading restarted) stage
job-under step course coming true restarted stage other begun = cc
job-under (Some step) course coming false restarted stage other begun = refl
job-under None course coming false restarted stage other begun = cc

pub job-at : (i : ListImage) (stage : Stage) → (i.under.is_reading == 1) ≡ false → is_some (under_words i.under) ≡ true
    → is_job_of (course_held i.course).course.survey.asked stage ≡ is_job_at (list_meant i).stairs stage
job-at i stage other begun =
    job-under (under_words i.under) (course_held i.course) (rule (i.under.has_coming == 1) (course_held i.coming)) (i.under.is_reading == 1)
    (i.under.is_restarted == 1) stage other begun

-- ---- What is read ----

-- memory that means a list, or a sequence
record ReadList (i : ListImage) (q : List) : Type 0 where
  course : course_in i.course ≡ Some (course_held i.course)
  coming : course_in i.coming ≡ Some (course_held i.coming)
  is : q ≡ list_meant i

read-both : (i : ListImage) (course coming : Option FrameCourse) (q : List) → held_with i course coming ≡ Some q
    → (is_some course ≡ true) × (is_some coming ≡ true)
read-both i (Some course) (Some coming) q is = (refl, refl)
read-both i (Some course) None q is = cc
read-both i None coming q is = cc

held-if : (b : Bool) (i : CourseImage) → is_some (if b then Some (course_held i) else None) ≡ true
    → (if b then Some (course_held i) else None) ≡ Some (course_held i)
held-if true i is = refl
held-if false i is = cc

same-list : (x y : List) → Some x ≡ Some y → x ≡ y
same-list x y is = ap (λ (o : Option List). unwrap_or o x) is

read-list : (i : ListImage) (q : List) → list_in i ≡ Some q → ReadList i q
read-list i q is =
    let there = read-both i (course_in i.course) (course_in i.coming) q is in
    let course = held-if (is_course i.course) i.course there.0 in
    let coming = held-if (is_course i.coming) i.coming there.1 in
    record {
      course = course;
      coming = coming;
      is = same-list q (list_meant i) (sym is ∙ rw (course, coming) refl);
    }

-- the newest step is the same, but for its course
same-step : (step : Option WordStep) (course is : FrameCourse)
    → option_map (with_its_course is) step ≡ option_map (under_with is) (option_map (with_its_course course) step)
same-step None course is = refl
same-step (Some step) course is = refl

-- what the written list means
heard-list : (i : ListImage) (is : FrameCourse) (restarted reading : Bool) → (i.under.is_reading == 1) ≡ reading
    → (reading ≡ true → (i.under.has_coming == 1) ≡ true) → course_in i.course ≡ Some (course_held i.course)
    → course_in i.coming ≡ Some (course_held i.coming) → course_in (course_image is) ≡ Some is
    → list_in (course_heard i is restarted) ≡ Some (heard_with (list_meant i) is restarted)
heard-list i is restarted true at has course coming own =
    let seen = flag-kept (i.under.is_restarted == 1 || (restarted && i.ends_at_restart == 1)) in
    rw (at, course, own, seen) (rw (at, has refl) refl)
heard-list i is restarted false at has course coming own =
    let under = same-step (under_words i.under) (course_held i.course) is in
    let seen = flag-kept (i.under.is_restarted == 1 || (restarted && i.ends_at_restart == 1)) in
    rw (at, coming, own, seen) (rw at (ap (λ (u : Option Under). Some (record (list_meant i) {
      stairs = record (list_meant i).stairs {
        under = u;
        reading = false;
        restarted = i.under.is_restarted == 1 || (restarted && i.ends_at_restart == 1);
      };
    })) under))

-- a course that is open ahead was read for
coming-there : (step : Option WordStep) (course coming : FrameCourse) (reading restarted has : Bool) (named : FrameCourse)
    → course_open (stairs_at step course (rule has coming) reading restarted) ≡ Some named → reading ≡ true → has ≡ true
coming-there step course coming true restarted true named opened reads = refl
coming-there step course coming true restarted false named opened reads = cc
coming-there step course coming false restarted has named opened reads = cc

-- memory that means a sequence
record Read (was : SequenceImage) (b : Bool) (o : Option List) (q : Sequence) : Type 0 where
  marked : b ≡ true
  list : o ≡ Some q.list
  is : q ≡ sequence_read was q.list

read-at : (was : SequenceImage) (b : Bool) (o : Option List) (q : Sequence)
    → (if b then option_map (sequence_read was) o else None) ≡ Some q → Read was b o q
read-at was true (Some l) q is =
    let same = ap (λ (o : Option Sequence). unwrap_or o (sequence_read was l)) is in
    let list = ap (λ (x : Sequence). x.list) same in
    record {
      marked = refl;
      list = ap (λ (x : List). Some x) list;
      is = sym same ∙ ap (λ (x : List). sequence_read was x) list;
    }
read-at was true None q is = cc
read-at was false o q is = cc

heard-of-meant : (was : SequenceImage) (named is : FrameCourse) (restarted : Bool) (entry : Entry)
    → (was.mark == sequence_mark && was.version == sequence_version) ≡ true → ReadList was.list (list_meant was.list)
    → course_open (list_meant was.list).stairs ≡ Some named → IsKept is
    → let after = list_heard (sequence_meant was) entry (heard_with (list_meant was.list) is restarted) in
    sequence_in (heard_image was after) ≡ Some after
heard-of-meant was named is restarted entry marked list opened own =
    let i = was.list in
    let begun = ap (λ (o : Option FrameCourse). is_some o) opened in
    let has = coming-there (under_words i.under) (course_held i.course) (course_held i.coming) (i.under.is_reading == 1)
    (i.under.is_restarted == 1) (i.under.has_coming == 1) named opened in
    let means = heard-list i is restarted (i.under.is_reading == 1) refl has list.course list.coming (kept is own) in
    let written = list-put i is restarted begun in
    let fresh = fresh-kept (fresh_heard (fresh_read was.told.fresh) entry) in
    rw (marked, sym written, means, fresh) refl

heard : (was : SequenceImage) (q : Sequence) (named is : FrameCourse) (restarted : Bool) (entry : Entry) →
    sequence_in was ≡ Some q → course_open q.list.stairs ≡ Some named → IsKept is →
    let after = list_heard q entry (heard_with q.list is restarted) in sequence_in (heard_image was after) ≡ Some after
heard was q named is restarted entry held opened own =
    let read = read-at was (was.mark == sequence_mark && was.version == sequence_version) (list_in was.list) q held in
    let list = read-list was.list q.list read.list in
    let meant : q ≡ sequence_meant was = read.is ∙ ap (λ (x : List). sequence_read was x) list.is in
    let whole : ReadList was.list (list_meant was.list) = record { course = list.course; coming = list.coming; is = refl } in
    subst (λ (x : Sequence). course_open x.list.stairs ≡ Some named
    → sequence_in (heard_image was (list_heard x entry (heard_with x.list is restarted)))
    ≡ Some (list_heard x entry (heard_with x.list is restarted))) (sym meant)
    (λ at. heard-of-meant was named is restarted entry read.marked whole at own) opened

pub hearings : HearingsAreKept
hearings = record { heard = heard }
