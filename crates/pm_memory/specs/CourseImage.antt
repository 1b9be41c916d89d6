-- A course as plain numbers in a caller's memory, and what they mean. This project's own choice.
use Rattle.std.specs.Prelude.{◌≡◌, ◌<◌, ℕ, ℤ, Bool, true, false, ◌&&◌, nat_lt, if◌then◌else◌, ◌==◌, Option, Some, None, is_some, is_none, option_map}
use Rattle.std.specs.Prelude.{unwrap_or}
use Rattle.pm_table.specs.Cell.{cell_at, cell_code}
use Rattle.pm_host.specs.declared.job.Job.{Job}
use Rattle.pm_host.specs.declared.job.Job.TheVariants.{Order, OrderMicro, Check, Learn, Send}
use Rattle.pm_rail.specs.declared.course.Course.{Course}
use Rattle.pm_rail.specs.declared.course.Differing.{Differing}
use Rattle.pm_rail.specs.declared.survey.Reads.{Reads}
use Rattle.pm_rail.specs.declared.wanted.Wanted.{Wanted}
use Rattle.pm_rail.specs.Survey.{wanted_in}
use Rattle.pm_course.specs.declared.course_end.CourseEnd.{CourseEnd}
use Rattle.pm_course.specs.declared.course_end.CourseEnd.TheVariants.{Reached, Refused, Differs, NoFormat, OtherSource, Spent}
use Rattle.pm_course.specs.declared.frame_course.FrameCourse.{FrameCourse}
use Rattle.pm_course.specs.declared.voltages.Voltages.{Voltages}
use Rattle.pm_table.specs.Codes as command
use Rattle.pm_table.specs.declared.reg.Reg.{Reg}
use Rattle.pm_rail.specs.Course.{course_of}
use Rattle.pm_course.specs.FrameCourse.{going_on, refused_by, to_byte, to_survey, wanting}
use Rattle.pm_course.specs.Wishes.{no_voltages}
use Rattle.pm_memory.specs.declared.course_image.CourseImage.{CourseImage}
use Rattle.pm_memory.specs.declared.course_image.DifferedImage.{DifferedImage}
use Rattle.pm_memory.specs.declared.course_image.HasImage.{HasImage}
use Rattle.pm_memory.specs.declared.course_image.ReadImage.{ReadImage}
use Rattle.pm_memory.specs.declared.course_image.VoltagesImage.{VoltagesImage}
use Rattle.pm_memory.specs.CourseEnd.{end_held, end_numbers, fault_held, fault_number}
use Rattle.pm_memory.specs.Flag.{flag}
use Rattle.pm_memory.specs.Wanted.{wanted_image, wanted_meant}

-- the bytes 'CP' and the number of this layout, which other memory lacks
abbrev pub course_mark : ℕ
course_mark = 0x5043

abbrev pub course_version : ℕ
course_version = 1

-- which cells were read; in memory that was damaged any number but 1 counts as 0
abbrev pub read_held : ReadImage → Reads
read_held i = record {
  operation = i.operation == 1;
  command = i.command == 1;
  max = i.max == 1;
  margin_high = i.margin_high == 1;
  margin_low = i.margin_low == 1;
  min = i.min == 1;
  protect = i.protect == 1;
}

abbrev pub read_image : Reads → ReadImage
read_image r = record {
  operation = flag r.operation;
  command = flag r.command;
  max = flag r.max;
  margin_high = flag r.margin_high;
  margin_low = flag r.margin_low;
  min = flag r.min;
  protect = flag r.protect;
}

-- the registers of which an order differed once: WRITE_PROTECT is ordered by no course
abbrev pub differed_held : DifferedImage → Reads
differed_held i = record {
  operation = i.operation == 1;
  command = i.command == 1;
  max = i.max == 1;
  margin_high = i.margin_high == 1;
  margin_low = i.margin_low == 1;
  min = i.min == 1;
  protect = false;
}

abbrev pub differed_image : Reads → DifferedImage
differed_image r = record {
  operation = flag r.operation;
  command = flag r.command;
  max = flag r.max;
  margin_high = flag r.margin_high;
  margin_low = flag r.margin_low;
  min = flag r.min;
}

-- the voltages that are wanted
abbrev pub voltages_image : Voltages → VoltagesImage
voltages_image v = record {
  command = v.command;
  max = v.max;
  margin_high = v.margin_high;
  margin_low = v.margin_low;
  min = v.min;
}

abbrev pub has_image : Voltages → HasImage
has_image v = record {
  command = flag v.has_command;
  max = flag v.has_max;
  margin_high = flag v.has_margin_high;
  margin_low = flag v.has_margin_low;
  min = flag v.has_min;
}

abbrev pub voltages_held : CourseImage → Voltages
voltages_held i = record {
  command = i.voltages.command;
  max = i.voltages.max;
  margin_high = i.voltages.margin_high;
  margin_low = i.voltages.margin_low;
  min = i.voltages.min;
  has_command = i.has.command == 1;
  has_max = i.has.max == 1;
  has_margin_high = i.has.margin_high == 1;
  has_margin_low = i.has.margin_low == 1;
  has_min = i.has.min == 1;
}

-- the job that a course asked for: a learn of its output, a check or an order, by a number, a command code and a word
abbrev pub job_in_numbers : ℕ → ℕ → ℕ → ℕ → Option Job
job_in_numbers kind code word output =
    if kind == 1 then Some (Learn output)
    else (if kind == 2 then option_map (λ cell. Check cell) (cell_at code output)
    else (if kind == 3 then option_map (λ cell. Order cell word) (cell_at code output) else None))

abbrev pub job_held : CourseImage → Option Job
job_held i = job_in_numbers i.asked i.code i.word i.output

abbrev pub job_kind : Option Job → ℕ
job_kind (Some (Learn output)) = 1
job_kind (Some (Check cell)) = 2
job_kind (Some (Order cell word)) = 3
job_kind (Some (OrderMicro cell x)) = 0
job_kind (Some (Send sent)) = 0
job_kind None = 0

abbrev pub job_code : Option Job → ℕ
job_code (Some (Learn output)) = command.vout_mode
job_code (Some (Check cell)) = cell_code cell
job_code (Some (Order cell word)) = cell_code cell
job_code (Some (OrderMicro cell x)) = 0
job_code (Some (Send sent)) = 0
job_code None = 0

abbrev pub job_word : Option Job → ℕ
job_word (Some (Order cell word)) = word
job_word (Some (Learn output)) = 0
job_word (Some (Check cell)) = 0
job_word (Some (OrderMicro cell x)) = 0
job_word (Some (Send sent)) = 0
job_word None = 0

-- the words that are wanted as such, of a course to wanted words
abbrev pub plan_held : CourseImage → Option Wanted
plan_held i = if i.planned == 1 then Some (wanted_meant i.wanted) else None

-- how it ended, and the order that differed a second time, which is an end
abbrev pub end_in_image : CourseImage → Option CourseEnd
end_in_image i = end_held (record {
  kind = i.end_kind;
  number = i.end_number;
  code = i.end_code;
  has_code = i.end_has;
  word = i.end_word;
  fault = i.end_fault;
})

abbrev pub twice_held : Option CourseEnd → Option Differing
twice_held None = None
twice_held (Some (Differs register word)) = Some (record { register = register; word = word })
twice_held (Some Reached) = None
twice_held (Some (Refused refusal)) = None
twice_held (Some (NoFormat mode)) = None
twice_held (Some (OtherSource byte)) = None
twice_held (Some (Spent code fault)) = None

abbrev pub way_held : CourseImage → Option CourseEnd → Course
way_held i ended = record {
  survey = record {
    output = i.output;
    plan = plan_held i;
    left = i.left;
    learned = i.learned == 1;
    read = read_held i.read;
    asked = job_held i;
  };
  byte = if i.has_byte == 1 then Some i.byte else None;
  ordered = i.ordered == 1;
  done = i.done == 1;
  differed = differed_held i.differed;
  twice = twice_held ended;
}

-- the course whose memory it is: the mark, the layout's number and an output that can be
abbrev pub is_course : CourseImage → Bool
is_course i = i.mark == course_mark && i.version == course_version && nat_lt i.output 8

abbrev pub course_held : CourseImage → FrameCourse
course_held i = record {
  course = way_held i (end_in_image i);
  voltages = voltages_held i;
  fault = fault_held i.fault;
  end = end_in_image i;
}

abbrev pub course_in : CourseImage → Option FrameCourse
course_in i = if is_course i then Some (course_held i) else None

-- how a course is written: each number is a function of what it means
abbrev pub course_image : FrameCourse → CourseImage
course_image c = let over = end_numbers c.end in record {
  mark = course_mark;
  version = course_version;
  left = c.course.survey.left;
  word = job_word c.course.survey.asked;
  byte = unwrap_or c.course.byte 0;
  end_word = over.word;
  wanted = wanted_image (wanted_in c.course.survey.plan);
  voltages = voltages_image c.voltages;
  output = c.course.survey.output;
  planned = flag (is_some c.course.survey.plan);
  learned = flag c.course.survey.learned;
  asked = job_kind c.course.survey.asked;
  code = job_code c.course.survey.asked;
  has_byte = flag (is_some c.course.byte);
  ordered = flag c.course.ordered;
  done = flag c.course.done;
  read = read_image c.course.survey.read;
  differed = differed_image c.course.differed;
  has = has_image c.voltages;
  fault = fault_number c.fault;
  end_kind = over.kind;
  end_number = over.number;
  end_code = over.code;
  end_has = over.has_code;
  end_fault = over.fault;
}

-- A course that memory keeps: its output is one that a device may have, its job is of that output, what differed twice is its end, and its
-- end reads as it is written.
pub record IsKept (c : FrameCourse) : Type 0 where
  pub output : c.course.survey.output < 8
  pub asked : let job = c.course.survey.asked in
      job_in_numbers (job_kind job) (job_code job) (job_word job) c.course.survey.output ≡ job
  pub twice : twice_held c.end ≡ c.course.twice
  pub differed : c.course.differed.protect ≡ false
  pub over : end_held (end_numbers c.end) ≡ c.end

-- What the calls of a course leave in its memory reads as the course that they speak of.
pub record CoursesAreKept : Type 0 where
  pub kept : (c : FrameCourse) → IsKept c → course_in (course_image c) ≡ Some c
  pub survey : (output tries : ℕ) → output < 8 → IsKept (to_survey output tries)
  pub words : (output : ℕ) (words : Wanted) (tries : ℕ) → output < 8 → IsKept (going_on (course_of output words tries) no_voltages)
  pub byte : (output byte tries : ℕ) → output < 8 → IsKept (to_byte output byte tries)
  pub wanting : (c : FrameCourse) (register : Reg) (x : ℤ) → IsKept c → IsKept (wanting c register x)
  pub refused : (c : FrameCourse) (number : ℕ) (job : Job) → IsKept c → is_none c.course.twice ≡ true → IsKept (refused_by c number job)
