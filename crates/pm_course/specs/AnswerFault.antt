-- What was wrong with what became of a frame, by its words and its number: this project's own choice. The faults of an answer
-- have those of a frame.
use Rattle.std.specs.Prelude.{ℕ, List, codes, Option, Some, None}
use Rattle.pm_frame.specs.declared.fault.FrameFault.{FrameFault}
use Rattle.pm_frame.specs.declared.fault.FrameFault.TheVariants as frame
use Rattle.pm_frame.specs.FaultWords.{frame_fault_number, frame_fault_words}
use Rattle.pm_course.specs.declared.answer_fault.AnswerFault.{AnswerFault}
use Rattle.pm_course.specs.declared.answer_fault.AnswerFault.TheVariants.{NoAnswer, NotAcknowledged, NotOurs, Short, Long, WrongCount, WrongPec}

abbrev pub answer_fault_words : AnswerFault → List ℕ
answer_fault_words NoAnswer = codes "no answer"
answer_fault_words NotAcknowledged = codes "not acknowledged"
answer_fault_words NotOurs = frame_fault_words frame.NotOurs
answer_fault_words Short = frame_fault_words (frame.Short 0)
answer_fault_words Long = frame_fault_words (frame.Long 0)
answer_fault_words WrongCount = frame_fault_words (frame.WrongCount 0)
answer_fault_words WrongPec = frame_fault_words (frame.WrongPec 0)

abbrev pub answer_fault_number : AnswerFault → ℕ
answer_fault_number NoAnswer = 1
answer_fault_number NotAcknowledged = 2
answer_fault_number NotOurs = frame_fault_number frame.NotOurs
answer_fault_number Short = frame_fault_number (frame.Short 0)
answer_fault_number Long = frame_fault_number (frame.Long 0)
answer_fault_number WrongCount = frame_fault_number (frame.WrongCount 0)
answer_fault_number WrongPec = frame_fault_number (frame.WrongPec 0)

-- the fault of an answer; none of one that no answer has
abbrev pub of_frame : FrameFault → Option AnswerFault
of_frame frame.NotOurs = Some NotOurs
of_frame (frame.Short place) = Some Short
of_frame (frame.Long place) = Some Long
of_frame (frame.WrongCount place) = Some WrongCount
of_frame (frame.WrongPec place) = Some WrongPec
of_frame (frame.UnknownCode place) = None
of_frame (frame.WrongDirection place) = None
of_frame (frame.Nested place) = None
