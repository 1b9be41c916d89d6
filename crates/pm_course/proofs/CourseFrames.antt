-- What a course says case by case, the frame that it hands out, and when a check is done.
use Rattle.std.specs.Prelude.{◌&&◌, ◌==◌, if◌then◌else◌, is_none, is_some}
use Rattle.std.proofs.Common.{◌≡◌, ℕ, ◌+◌, Bool, true, false, List, [], ◌∷◌, Option, Some, None, refl, sym, ap, ◌∙◌, Result}
use Rattle.pm_table.specs.declared.cell.Cell.{Cell}
use Rattle.pm_frame.specs.{View.answer_payload, declared.fault.FrameFault.FrameFault, declared.message.Message.Message}
use Rattle.pm_frame.specs.Fault.{address_fault, answer_fault}
use Rattle.pm_host.specs.{Answers.good_payload, Image.held, Messages.cell_read, Refusals.is_busy, Transcript.Got}
use Rattle.pm_host.specs.{declared.question.Question.TheVariants.Word, declared.stage.Stage.Stage, declared.stage.Stage.TheVariants.Asks}
use Rattle.pm_host.specs.{declared.state.State.State}
use Rattle.pm_host.specs.Summary.{Summary, another, question_answered, idle, step_of}
use Rattle.pm_limits.specs.{Guard.Guarded, declared.output_limits.OutputLimits.OutputLimits}
use Rattle.pm_limits.specs.{declared.part_registers.PartRegisters.PartRegisters}
use Rattle.pm_rail.specs.{Course.is_order, Survey.wanted_in, declared.wanted.Wanted.Wanted}
use Rattle.pm_course.specs.{Ends.busy_end, Heard.bytes_fault, Hosted.IsSentAt, Wishes.AreFormed, declared.course_end.CourseEnd.CourseEnd}
use Rattle.pm_course.specs.{declared.course_end.CourseNext.CourseNext, declared.course_end.Refusal.Refusal}
use Rattle.pm_course.specs.{declared.frame_course.FrameCourse.FrameCourse, declared.frames.Sending.Sending}
use Rattle.pm_course.specs.FrameCourse.{Says, SaysNext, course_ends, format_now, last_end, missing_of, saying, saying_planned, source_of}
use Rattle.pm_course.specs.Frames.{GoesOn, HandsOut, IsSent, hands, waits}
use Rattle.pm_course.specs.Surprise.{is_done, looks_new, surprises}
use Rattle.pm_course.specs.declared.course_end.CourseEnd.TheVariants.{Refused, OtherSource}

-- A check is done if its answer is good, and only then.

asked-done : (s : Summary) (cell : Cell) (tries : ℕ) (payload : Option (List ℕ))
    → is_done (question_answered s (Word cell) tries payload).step ≡ is_some payload
asked-done s cell tries (Some payload) = refl
asked-done s cell tries None = last (tries + 1 == s.setup.passes) refl where
  last : (b : Bool) → (tries + 1 == s.setup.passes) ≡ b → is_done (another s (Word cell) tries).step ≡ false
  last true is = rw is refl
  last false is = rw is refl

pub done-good : (state : State) (cell : Cell) (tries : ℕ) (bytes : List ℕ)
    → is_done (step_of (held (Some (Asks (Word cell) tries)) state) (Got bytes))
    ≡ is_some (good_payload state.address (cell_read cell) bytes)
unfolding step_of
done-good state cell tries bytes =
    asked-done (idle (held (Some (Asks (Word cell) tries)) state)) cell tries (good_payload state.address (cell_read cell) bytes)

-- what came back surprises if it is good and new
pub good-new : (state : State) (cell : Cell) (tries : ℕ) (bytes : List ℕ)
    → (is_some (good_payload state.address (cell_read cell) bytes) && looks_new (held None state) cell bytes)
    ≡ surprises (held (Some (Asks (Word cell) tries)) state) (Asks (Word cell) tries) (Got bytes)
unfolding good_payload
good-new state cell tries bytes = by (is_none (answer_fault state.address (cell_read cell) bytes)) refl where
  by : (b : Bool) → is_none (answer_fault state.address (cell_read cell) bytes) ≡ b
      → (is_some (if is_none (answer_fault state.address (cell_read cell) bytes) then Some (answer_payload (cell_read cell) bytes) else None)
      && looks_new (held None state) cell bytes) ≡ surprises (held (Some (Asks (Word cell) tries)) state) (Asks (Word cell) tries) (Got bytes)
  by true is = rw is refl
  by false is = rw is refl

-- nothing is wrong with what is good
pub good-faultless : (addr : ℕ) (message : Message) (bytes : List ℕ) → is_some (good_payload addr message bytes) ≡ true
    → bytes_fault addr message bytes ≡ None
unfolding good_payload answer_fault address_fault
good-faultless addr message [] is = cc
good-faultless addr message (byte ∷ bytes) is = by (answer_fault addr message (byte ∷ bytes)) refl where
  by : (fault : Option FrameFault) → answer_fault addr message (byte ∷ bytes) ≡ fault → bytes_fault addr message (byte ∷ bytes) ≡ None
  by None none = rw none refl
  by (Some fault) some = let never = rw some at is in cc

-- What a course hands out: the frame of the stage at which a host's job stands is what the host is sending.

pub sent-at : (g : Guarded) (at : Option Stage) (sent : Option Sending) → g.host.stage ≡ at → IsSentAt g at sent → IsSent g sent
sent-at g None sent is s = rw is s
sent-at g (Some stage) sent is s = rw is s

never : (b : Bool) → b && false ≡ false
never true = refl
never false = refl

-- a course that isn't told to stop hands out what is next
pub never-stops : (old : Guarded) (was : FrameCourse) (sent : Option Sending) (new : Guarded) (is : FrameCourse)
    → GoesOn false old was sent new is → HandsOut old was sent new is
never-stops old was _ _ _ (waits job is stops says) = let wrong = sym (never (is_order job)) ∙ stops in cc
never-stops old was _ _ _ (hands sent new is does goes) = does

-- What a course says, case by case.

-- what a course is asked: of a part, within limits, by what the host knows, with words that its wishes have
pub record Asked : Type 0 where
  pub part : PartRegisters
  pub limits : OutputLimits
  pub s : Summary
  pub c : FrameCourse
  pub words : Result Wanted Refusal

abbrev pub said : Asked → Says
said a = saying a.part a.limits a.s a.c a.words

-- it has ended before
pub ended : (a : Asked) (over : CourseEnd) → last_end a.c.end ≡ Some over → said a ≡ course_ends a.c over
ended a over is = rw is refl

-- it goes on: a job is open
pub busy : (a : Asked) → last_end a.c.end ≡ None → is_busy a.s ≡ true → said a ≡ course_ends a.c busy_end
busy a on is = rw (on, is) refl

-- none is, and something is wanted of a register that the part doesn't have
pub missing : (a : Asked) (refusal : Refusal) → last_end a.c.end ≡ None → is_busy a.s ≡ false
    → missing_of a.part a.c ≡ Some refusal → said a ≡ course_ends a.c (Refused refusal)
missing a refusal on idle is = rw (on, idle, is) refl

-- nothing is, and OPERATION holds a byte that its cell doesn't take
pub sourced : (a : Asked) (byte : ℕ) → last_end a.c.end ≡ None → is_busy a.s ≡ false → missing_of a.part a.c ≡ None
    → source_of a.s a.c.course a.c.course.byte ≡ Some byte → said a ≡ course_ends a.c (OtherSource byte)
sourced a byte on idle there is = rw (on, idle, there, is) refl

-- it goes by its words
pub by_words : (a : Asked) → last_end a.c.end ≡ None → is_busy a.s ≡ false → missing_of a.part a.c ≡ None
    → source_of a.s a.c.course a.c.course.byte ≡ None → said a ≡ saying_planned a.part a.limits a.s a.c a.words
by_words a on idle there none = rw (on, idle, there, none) refl

-- what was said so
pub says : (a : Asked) (x : Says) (result : CourseNext) (new : FrameCourse)
    → AreFormed (format_now a.s a.c.course) (wanted_in a.c.course.survey.plan) a.c.voltages a.words → said a ≡ x → result ≡ x.next
    → new ≡ x.after → SaysNext a.part a.limits a.s a.c result new
says a x result new formed is next after = record {
  words = a.words;
  formed = formed;
  next = next ∙ ap (λ (y : Says). y.next) (sym is);
  after = after ∙ ap (λ (y : Says). y.after) (sym is);
}
