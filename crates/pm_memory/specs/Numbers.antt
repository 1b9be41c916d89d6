-- The numbers that calls answer, of which no two mean two things: 0 where nothing is refused; a refusal's own,
-- which stands beside its words; E0h to E4h, E6h, E7h, E9h to EFh for what only a caller in C can ask wrongly; 91h
-- to 93h for where a voltage lies; 95h for a course that has ended; and 96h to 9Ah for what a sequence says. This project's own choice.
use Rattle.std.specs.Prelude.{ℕ, Option, Some, None}
use Rattle.pm_host.specs.declared.fault.HostFault.{HostFault}
use Rattle.pm_host.specs.FaultWords.{host_fault_number}
use Rattle.pm_limits.specs.declared.fault.LimitFault.{LimitFault}
use Rattle.pm_limits.specs.FaultWords.{limit_fault_number}

-- nothing is refused
abbrev pub accepted : ℕ
accepted = 0

-- the memory holds no host
abbrev pub no_host : ℕ
no_host = 0xE0

-- the command code is no cell's
abbrev pub no_cell : ℕ
no_cell = 0xE1

-- a frame of the other kind is being sent, or none
abbrev pub other_frame : ℕ
other_frame = 0xE2

-- no device has this address
abbrev pub no_address : ℕ
no_address = 0xE3

-- the numbers mean no packet that there is
abbrev pub no_packet : ℕ
no_packet = 0xE4

-- the output has no limits
abbrev pub no_limits_there : ℕ
no_limits_there = 0xE6

-- the number has no name
abbrev pub no_name : ℕ
no_name = 0xE7

-- the memory holds no course
abbrev pub no_course : ℕ
no_course = 0xE9

-- another than the output's registers may decide its voltage
abbrev pub no_band_there : ℕ
no_band_there = 0xEB

-- nothing was heard of the rail
abbrev pub no_delivery : ℕ
no_delivery = 0xEC

-- the course has no goal of the register
abbrev pub no_goal : ℕ
no_goal = 0xED

-- there is less room than there are steps
abbrev pub no_room : ℕ
no_room = 0xEA

-- the memory holds no sequence
abbrev pub no_sequence : ℕ
no_sequence = 0xF0

-- the numbers mean no step, or there is none to leave
abbrev pub no_step : ℕ
no_step = 0xEF

-- an output's voltage lies within its limits, or outside them, or it isn't known
abbrev pub within_yes : ℕ
within_yes = 0x91

abbrev pub within_no : ℕ
within_no = 0x92

abbrev pub within_not_known : ℕ
within_not_known = 0x93

-- a course has ended
abbrev pub course_ended : ℕ
course_ended = 0x95

-- a sequence is to be asked again, or the way back of a step would be refused
abbrev pub ask_again : ℕ
ask_again = 0x96

abbrev pub no_way_back : ℕ
no_way_back = 0x97

abbrev pub wait : ℕ
wait = 0x98

abbrev pub question_asked_number : ℕ
question_asked_number = 0x99

abbrev pub order_told_number : ℕ
order_told_number = 0x9A

-- what a call answers that is refused with this, or accepted
abbrev pub outcome : Option HostFault → ℕ
outcome None = accepted
outcome (Some fault) = host_fault_number fault

-- what a call answers that limits or the host refuse, or accepted
abbrev pub limit_outcome : Option LimitFault → ℕ
limit_outcome None = accepted
limit_outcome (Some fault) = limit_fault_number fault
