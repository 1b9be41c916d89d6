-- The letters and the names of the faults of frames, as programs print them: `F1 NotOurs`, and with a
-- place `F5 WrongPec 7`. This project's own choice.
use Rattle.std.specs.Prelude.{ℕ, List, [], ◌++◌, Option, Some, None, codes, decimal}
use Rattle.pm_frame.specs.declared.fault.FrameFault.{FrameFault}
use Rattle.pm_frame.specs.declared.fault.FrameFault.TheVariants.{NotOurs, Short, Long, WrongCount, WrongPec, UnknownCode, WrongDirection}
use Rattle.pm_frame.specs.declared.fault.FrameFault.TheVariants.{Nested}

-- the letter and the name
abbrev pub frame_fault_words : FrameFault → List ℕ
frame_fault_words NotOurs = codes "F1 NotOurs"
frame_fault_words (Short place) = codes "F2 Short"
frame_fault_words (Long place) = codes "F3 Long"
frame_fault_words (WrongCount place) = codes "F4 WrongCount"
frame_fault_words (WrongPec place) = codes "F5 WrongPec"
frame_fault_words (UnknownCode place) = codes "F6 UnknownCode"
frame_fault_words (WrongDirection place) = codes "F7 WrongDirection"
frame_fault_words (Nested place) = codes "F8 Nested"

-- the number of a fault as `pmhost.h` has it, which no other fault has
abbrev pub frame_fault_number : FrameFault → ℕ
frame_fault_number NotOurs = 0x31
frame_fault_number (Short place) = 0x32
frame_fault_number (Long place) = 0x33
frame_fault_number (WrongCount place) = 0x34
frame_fault_number (WrongPec place) = 0x35
frame_fault_number (UnknownCode place) = 0x36
frame_fault_number (WrongDirection place) = 0x37
frame_fault_number (Nested place) = 0x38

-- the place, where there is one
abbrev pub frame_fault_place : FrameFault → Option ℕ
frame_fault_place NotOurs = None
frame_fault_place (Short place) = Some place
frame_fault_place (Long place) = Some place
frame_fault_place (WrongCount place) = Some place
frame_fault_place (WrongPec place) = Some place
frame_fault_place (UnknownCode place) = Some place
frame_fault_place (WrongDirection place) = Some place
frame_fault_place (Nested place) = Some place

-- a place as it is printed after the words
abbrev pub place_text : Option ℕ → List ℕ
place_text None = []
place_text (Some place) = codes " " ++ decimal place

-- the words, and the place after them
abbrev pub frame_fault_text : FrameFault → List ℕ
frame_fault_text fault = frame_fault_words fault ++ place_text (frame_fault_place fault)
