-- How a course ended, and what was wrong with its last answer, as plain numbers, and what they mean. This project's own choice.
use Rattle.std.specs.Prelude.{ℕ, ◌%◌, ◌==◌, if◌then◌else◌, Option, Some, None, is_some, option_map}
use Rattle.std.specs.Option.{option_map_or}
use Rattle.pm_table.specs.declared.commands.Code.{Code}
use Rattle.pm_table.specs.Cell.{register_code, register_of}
use Rattle.pm_course.specs.declared.answer_fault.AnswerFault.{AnswerFault}
use Rattle.pm_course.specs.declared.answer_fault.AnswerFault.TheVariants.{NoAnswer, NotAcknowledged, NotOurs, Short, Long, WrongCount, WrongPec}
use Rattle.pm_course.specs.declared.course_end.CourseEnd.{CourseEnd}
use Rattle.pm_course.specs.declared.course_end.CourseEnd.TheVariants.{Reached, Refused, Differs, NoFormat, OtherSource, Spent}
use Rattle.pm_course.specs.declared.frame_course.FrameCourse.{FrameCourse}
use Rattle.pm_course.specs.AnswerFault.{answer_fault_number}
use Rattle.pm_course.specs.Ends.{code_of}
use Rattle.pm_memory.specs.declared.course_end_image.CourseEndImage.{CourseEndImage}
use Rattle.pm_memory.specs.declared.course_end_image.EndNumbers.{EndNumbers}
use Rattle.pm_memory.specs.Flag.{flag}

-- what was wrong with the last answer, 0 where nothing was
abbrev pub fault_number : Option AnswerFault → ℕ
fault_number fault = option_map_or answer_fault_number fault 0

abbrev pub fault_held : ℕ → Option AnswerFault
fault_held n =
    if n == 0x01 then Some NoAnswer
    else (if n == 0x02 then Some NotAcknowledged
    else (if n == 0x31 then Some NotOurs
    else (if n == 0x32 then Some Short
    else (if n == 0x33 then Some Long
    else (if n == 0x34 then Some WrongCount
    else (if n == 0x35 then Some WrongPec else None))))))

-- 0 where a course goes on; reached, refused, an order still differs, no try is left, another format, another source
abbrev pub kind_alone : ℕ → EndNumbers
kind_alone kind = record { kind = kind; number = 0; code = 0; has_code = 0; word = 0; fault = 0 }

abbrev pub end_numbers : Option CourseEnd → EndNumbers
end_numbers None = kind_alone 0
end_numbers (Some Reached) = kind_alone 1
end_numbers (Some (Refused refusal)) = record (kind_alone 2) {
  number = refusal.number;
  code = option_map_or (λ (code : Code). code.0) refusal.register 0;
  has_code = flag (is_some refusal.register);
}
end_numbers (Some (Differs register word)) = record (kind_alone 3) { code = register_code register; word = word }
end_numbers (Some (Spent code fault)) = record (kind_alone 4) { code = code.0; fault = fault_number fault }
end_numbers (Some (NoFormat mode)) = record (kind_alone 5) { word = mode }
end_numbers (Some (OtherSource byte)) = record (kind_alone 6) { word = byte }

-- what the numbers mean; in memory that was damaged any other kind says that the course goes on
abbrev pub end_held : EndNumbers → Option CourseEnd
end_held i =
    if i.kind == 1 then Some Reached
    else (if i.kind == 2 then Some (Refused (record { number = i.number; register = if i.has_code == 1 then Some (code_of i.code) else None }))
    else (if i.kind == 3 then option_map (λ register. Differs register i.word) (register_of i.code)
    else (if i.kind == 4 then Some (Spent (code_of i.code) (fault_held i.fault))
    else (if i.kind == 5 then Some (NoFormat (i.word % 256))
    else (if i.kind == 6 then Some (OtherSource i.word) else None)))))

-- how it is told
abbrev pub end_image : Option CourseEnd → CourseEndImage
end_image ended = let i = end_numbers ended in
    record { kind = i.kind; number = i.number; code = i.code; unused = 0; word = i.word; fault = i.fault }

abbrev pub end_answer : Option FrameCourse → CourseEndImage → CourseEndImage
end_answer None was = was
end_answer (Some c) was = end_image c.end
