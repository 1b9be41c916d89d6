-- When a course takes the word that a register holds in the place of what is wanted of it. This project's own choice.
use Rattle.std.specs.Prelude.{◌≡◌, ℕ, ◌^◌, ℤ, pos, ◌+ℤ◌, ◌-ℤ◌, Bool, true, false, not, ◌&&◌, ◌||◌, ◌==◌, nat_lt, unsigned_abs, if◌then◌else◌, Option}
use Rattle.std.specs.Prelude.{Some, None, is_some, option_map, unwrap_or, find, [], ◌∷◌, Result, Ok, Err, IfOk}
use Rattle.std.specs.Result.{result_err}
use Rattle.pm_num.specs.declared.fault.NumFault.{NumFault}
use Rattle.pm_num.specs.declared.fault.NumFault.TheVariants.{TooLarge}
use Rattle.pm_num.specs.AnyFormat.{Shape, shape_value}
use Rattle.pm_num.specs.Ratio.{Ratio, IsMicroFloor, far_fault, is_above, micros}
use Rattle.pm_table.specs.declared.cell.Cell.TheVariants.{Out}
use Rattle.pm_table.specs.declared.reg.Reg.{Reg}
use Rattle.pm_table.specs.Rules.{first, rule}
use Rattle.pm_host.specs.Refusals.{is_busy}
use Rattle.pm_host.specs.Summary.{Summary, format_at, possible_at}
use Rattle.pm_limits.specs.Bounds.{outside_fault}
use Rattle.pm_limits.specs.declared.output_limits.OutputLimits.{OutputLimits}
use Rattle.pm_limits.specs.declared.output_limits.OutputLimits.TheVariants.{Between}
use Rattle.pm_limits.specs.FaultWords.{limit_fault_number}
use Rattle.pm_rail.specs.declared.fault.PlanFault.TheVariants as plan
use Rattle.pm_rail.specs.declared.wanted.Wanted.{Wanted}
use Rattle.pm_rail.specs.Course.{course_of}
use Rattle.pm_rail.specs.Known.{sole}
use Rattle.pm_rail.specs.Orders.{voltages}
use Rattle.pm_rail.specs.Registers.{wants_of, wanted_with_word}
use Rattle.pm_course.specs.declared.accept_fault.AcceptFault.TheVariants.{NotNear}
use Rattle.pm_course.specs.declared.course_end.CourseEnd.{CourseEnd}
use Rattle.pm_course.specs.declared.course_end.CourseEnd.TheVariants.{Reached, Refused, Differs, NoFormat, OtherSource, Spent}
use Rattle.pm_course.specs.declared.course_end.Refusal.{Refusal}
use Rattle.pm_course.specs.declared.frame_course.FrameCourse.{FrameCourse}
use Rattle.pm_course.specs.declared.voltages.Voltages.{Voltages}
use Rattle.pm_course.specs.AcceptFault.{accept_fault_number}
use Rattle.pm_course.specs.Ends.{refusal_of_plan}
use Rattle.pm_course.specs.FrameCourse.{going_on}
use Rattle.pm_course.specs.Wishes.{IsWordFor, no_word_number, refused_at, voltage_of, with_voltage}

-- P9: the word isn't near enough, or nothing is wanted
abbrev pub not_near : ℕ
not_near = accept_fault_number NotNear

-- The register whose word is taken: the one of which an order differed, or else the first of which something is wanted.
abbrev pub is_wished : Wanted → Voltages → Reg → Bool
is_wished words v register = is_some (wants_of words register) || is_some (voltage_of v register)

abbrev pub taken_of : Wanted → Voltages → Option CourseEnd → Option Reg
taken_of words v (Some (Differs register word)) = Some register
taken_of words v (Some Reached) = find (is_wished words v) voltages
taken_of words v (Some (Refused refusal)) = find (is_wished words v) voltages
taken_of words v (Some (NoFormat mode)) = find (is_wished words v) voltages
taken_of words v (Some (OtherSource byte)) = find (is_wished words v) voltages
taken_of words v (Some (Spent code fault)) = find (is_wished words v) voltages
taken_of words v None = find (is_wished words v) voltages

-- the whole microvolts of a value, rounded down; N5 beyond 10^15
abbrev pub IsFloor : Ratio → Result ℤ NumFault → Type 0
IsFloor value floor = (result_err floor ≡ far_fault value) × IfOk floor (IsMicroFloor value)

-- The microvolts that are wanted of a register: the voltage, or else the word's, rounded down. None where nothing is wanted.
abbrev pub IsAim : Shape → Option ℤ → Option ℕ → Result ℤ NumFault → Type 0
IsAim shape (Some x) word aim = aim ≡ Ok x
IsAim shape None (Some word) aim = IsFloor (shape_value shape word) aim
IsAim shape None None aim = aim ≡ Err TooLarge

-- a value lies within a tolerance of so many microvolts, both ends counted; none does of microvolts beyond 10^15
abbrev pub is_value_near : ℤ → ℕ → Ratio → Bool
is_value_near x tolerance value =
    not (is_above (micros (x -ℤ pos tolerance)) value) && not (is_above value (micros (x +ℤ pos tolerance)))

abbrev pub is_near_aim : Result ℤ NumFault → ℕ → Ratio → Bool
is_near_aim (Err fault) tolerance value = false
is_near_aim (Ok x) tolerance value = not (nat_lt (10 ^ 15) (unsigned_abs x)) && is_value_near x tolerance value

-- why a word isn't taken: P9 where it isn't near, then L3 or L4 by the limits
abbrev pub limits_refuse : OutputLimits → Ratio → Reg → Option Refusal
limits_refuse (Between bounds) value register = option_map (λ fault. refused_at (limit_fault_number fault) register) (outside_fault bounds value)
limits_refuse limits value register = None

abbrev pub near_refusal : OutputLimits → Ratio → Reg → Result ℤ NumFault → ℕ → Option Refusal
near_refusal limits value register aim tolerance = first (
    rule (not (is_near_aim aim tolerance value)) (refused_at not_near register) ∷
    limits_refuse limits value register ∷
    [])

-- the word of a voltage, or the number of why it has none
pub record IsFormed (shape : Shape) (register : Reg) (x : ℤ) (formed : Result ℕ ℕ) : Type 0 where
  pub fault : result_err formed ≡ no_word_number shape register x
  pub word : IfOk formed (IsWordFor shape register x)

-- Whole microvolts of which just this word is formed: those of its value, rounded down, or one more. None where neither is such, or
-- beyond 10^15.
abbrev pub is_formed : Result ℕ ℕ → ℕ → Bool
is_formed (Ok formed) word = formed == word
is_formed (Err number) word = false

abbrev pub meaning_by : ℤ → Result ℕ ℕ → Result ℕ ℕ → ℕ → Option ℤ
meaning_by x below above word = if is_formed below word then Some x else rule (is_formed above word) (x +ℤ pos 1)

pub data IsMeaning (shape : Shape) (register : Reg) (word : ℕ) : Option ℤ → Type 0 where
  far : (fault : NumFault) → far_fault (shape_value shape word) ≡ Some fault → IsMeaning shape register word None
  beyond : (x : ℤ) → IsMicroFloor (shape_value shape word) x → nat_lt (10 ^ 15) (unsigned_abs x) ≡ true → IsMeaning shape register word None
  means : (x : ℤ) (below above : Result ℕ ℕ) (meaning : Option ℤ) → IsMicroFloor (shape_value shape word) x
      → IsFormed shape register x below → IsFormed shape register (x +ℤ pos 1) above → meaning ≡ meaning_by x below above word
      → IsMeaning shape register word meaning

-- A course that begins anew, by the tries that are left, and that wants the word: as a word where one was wanted, as a voltage
-- that means it where one was. P9 where no whole microvolts mean it.
abbrev pub anew : FrameCourse → Wanted → Voltages → FrameCourse
anew c words v = going_on (course_of c.course.survey.output words c.course.survey.left) v

abbrev pub taking_word : FrameCourse → Wanted → Reg → ℕ → Option ℤ → Option ℤ → Result FrameCourse Refusal
taking_word c words register word None meaning = Ok (anew c (wanted_with_word words register word) c.voltages)
taking_word c words register word (Some x) (Some meaning) = Ok (anew c words (with_voltage c.voltages register meaning))
taking_word c words register word (Some x) None = Err (refused_at not_near register)

abbrev pub taken_unless : Option Refusal → Result FrameCourse Refusal → Result FrameCourse Refusal
taken_unless (Some refusal) taken = Err refusal
taken_unless None taken = taken

-- the word that a register of the course's output is known to hold
abbrev pub known_word_at : Summary → FrameCourse → Reg → Option ℕ
known_word_at s c register = sole (possible_at s (Out c.course.survey.output register))

-- What becomes of a course that is to take a held word: H3 while a job is open, P9 where nothing is wanted, P1 without a format, P4
-- where the word isn't known; otherwise it is judged.
pub data Takes (limits : OutputLimits) (s : Summary) (c : FrameCourse) (tolerance : ℕ) : Result FrameCourse Refusal → Type 0 where
  job_open : is_busy s ≡ true → Takes limits s c tolerance (Err (refusal_of_plan plan.Busy))
  no_plan : is_busy s ≡ false → c.course.survey.plan ≡ None
      → Takes limits s c tolerance (Err (record { number = not_near; register = None }))
  no_wish : (words : Wanted) → is_busy s ≡ false → c.course.survey.plan ≡ Some words → taken_of words c.voltages c.end ≡ None
      → Takes limits s c tolerance (Err (record { number = not_near; register = None }))
  no_format : (words : Wanted) (register : Reg) → is_busy s ≡ false → c.course.survey.plan ≡ Some words
      → taken_of words c.voltages c.end ≡ Some register → format_at s c.course.survey.output ≡ None
      → Takes limits s c tolerance (Err (refusal_of_plan plan.FormatUnknown))
  not_known : (words : Wanted) (register : Reg) (shape : Shape) → is_busy s ≡ false → c.course.survey.plan ≡ Some words
      → taken_of words c.voltages c.end ≡ Some register → format_at s c.course.survey.output ≡ Some shape
      → known_word_at s c register ≡ None
      → Takes limits s c tolerance (Err (refusal_of_plan (plan.NotKnown (Out c.course.survey.output register))))
  judged : (words : Wanted) (register : Reg) (shape : Shape) (word : ℕ) (aim : Result ℤ NumFault) (meaning : Option ℤ)
      (taken : Result FrameCourse Refusal)
      → is_busy s ≡ false → c.course.survey.plan ≡ Some words → taken_of words c.voltages c.end ≡ Some register
      → format_at s c.course.survey.output ≡ Some shape → known_word_at s c register ≡ Some word
      → IsAim shape (voltage_of c.voltages register) (wants_of words register) aim → IsMeaning shape register word meaning
      → taken ≡ taken_unless (near_refusal limits (shape_value shape word) register aim tolerance)
      (taking_word c words register word (voltage_of c.voltages register) meaning) → Takes limits s c tolerance taken

-- the answer, and the course after it: as it was where the word is refused
abbrev pub taken_answer : Result FrameCourse Refusal → Result (Unit {0}) Refusal
taken_answer (Ok c) = Ok tt
taken_answer (Err refusal) = Err refusal

abbrev pub taken_or : FrameCourse → Result FrameCourse Refusal → FrameCourse
taken_or was (Ok c) = c
taken_or was (Err refusal) = was

pub record Accepts (limits : OutputLimits) (s : Summary) (old : FrameCourse) (tolerance : ℕ) (result : Result (Unit {0}) Refusal)
    (new : FrameCourse) : Type 0 where
  pub taken : Result FrameCourse Refusal
  pub takes : Takes limits s old tolerance taken
  pub answer : result ≡ taken_answer taken
  pub after : new ≡ taken_or old taken
