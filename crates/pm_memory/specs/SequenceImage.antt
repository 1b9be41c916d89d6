-- A sequence as plain numbers in a caller's memory, and what they mean. This project's own choice.
use Rattle.std.specs.Prelude.{◌≡◌, ℕ, Bool, true, false, ◌+◌, ◌&&◌, ◌||◌, ◌==◌, nat_lt, if◌then◌else◌, Option, Some, None, option_map, IfSome}
use Rattle.pm_table.specs.Cell.{cell_at, cell_code, output_of}
use Rattle.pm_host.specs.declared.job.Job.{Job}
use Rattle.pm_host.specs.declared.job.Job.TheVariants.{Order, OrderMicro, Check, Learn, Send}
use Rattle.pm_stairs.specs.declared.sequence.Sequence.{Sequence as List}
use Rattle.pm_sequence.specs.declared.look.Look.{Look}
use Rattle.pm_sequence.specs.declared.look.Silence.{Silence}
use Rattle.pm_sequence.specs.declared.sequence.Fresh.{Fresh}
use Rattle.pm_sequence.specs.declared.sequence.Fresh.TheVariants as fresh
use Rattle.pm_sequence.specs.declared.sequence.Phase.{Phase}
use Rattle.pm_sequence.specs.declared.sequence.Phase.TheVariants as phase
use Rattle.pm_sequence.specs.declared.sequence.Sequence.{Sequence}
use Rattle.pm_memory.specs.declared.look_image.LookImage.{LookImage}
use Rattle.pm_memory.specs.declared.look_image.SilenceImage.{SilenceImage}
use Rattle.pm_memory.specs.declared.sequence_image.SaidImage.{SaidImage}
use Rattle.pm_memory.specs.declared.sequence_image.SequenceImage.{SequenceImage}
use Rattle.pm_memory.specs.declared.sequence_image.ToldImage.{ToldImage}
use Rattle.pm_memory.specs.CourseImage.{IsKept}
use Rattle.pm_memory.specs.Flag.{flag}
use Rattle.pm_memory.specs.SequenceEnd.{end_read, end_written}
use Rattle.pm_memory.specs.ListImage.{list_image, list_in, list_meant}

-- the bytes 'SQ' and the number of this layout, which other memory lacks
abbrev pub sequence_mark : ℕ
sequence_mark = 0x5153

abbrev pub sequence_version : ℕ
sequence_version = 1

-- ---- A look ----

abbrev pub silence_image : Silence → SilenceImage
silence_image s = record { rounds = s.rounds; has_answered = flag s.has_answered }

abbrev pub silence_read : SilenceImage → Silence
silence_read i = record { rounds = i.rounds; has_answered = i.has_answered == 1 }

-- the read of OPERATION: 1 if any answer came, and 2 more if the last one leaves the output off
abbrev pub probe_answer_number : Bool → Bool → ℕ
probe_answer_number there off = flag there + (if off then 2 else 0)

-- with how many orders that turn its output on the step under way had
abbrev pub look_image : Look → ℕ → LookImage
look_image l turned_on = record {
  delivery = l.delivery;
  stood = l.stood;
  status = silence_image l.status;
  vout = silence_image l.vout;
  probed = l.probe.asked;
  is_there = probe_answer_number l.probe.is_there l.probe.is_off;
  is_over = flag l.probe.is_over;
  turned_on = turned_on;
}

abbrev pub look_read : LookImage → Look
look_read i = record {
  delivery = i.delivery;
  stood = i.stood;
  status = silence_read i.status;
  vout = silence_read i.vout;
  probe = record { asked = i.probed; is_there = i.is_there == 1 || i.is_there == 3; is_off = nat_lt 1 i.is_there; is_over = i.is_over == 1 };
}

-- ---- A sequence ----

abbrev pub phase_number : Phase → ℕ
phase_number phase.Steps = 0
phase_number phase.Before = 1
phase_number phase.After = 2

abbrev pub phase_read : ℕ → Phase
phase_read n = if n == 1 || n == 5 then phase.Before else (if n == 2 || n == 6 then phase.After else phase.Steps)

-- whether a rail is looked at
abbrev pub is_looking : Phase → Bool
is_looking phase.Steps = false
is_looking phase.Before = true
is_looking phase.After = true

-- with 4 more if the step under way lowers its output
abbrev pub phase_written : Phase → Bool → ℕ
phase_written p lowers = phase_number p + (if lowers then 4 else 0)

abbrev pub fresh_number : Fresh → ℕ
fresh_number fresh.Nothing = 0
fresh_number fresh.Under = 1
fresh_number fresh.Ahead = 2

abbrev pub fresh_read : ℕ → Fresh
fresh_read n = if n == 1 then fresh.Under else (if n == 2 then fresh.Ahead else fresh.Nothing)

-- the order that was told last, and whose survey is fresh
abbrev pub told_image_of : Option Job → ℕ → ToldImage
told_image_of None n = record { has = 0; code = 0; output = 0; fresh = n; word = 0 }
told_image_of (Some (Order cell word)) n = record { has = 1; code = cell_code cell; output = output_of cell; fresh = n; word = word }
told_image_of (Some (OrderMicro cell x)) n = record { has = 0; code = 0; output = 0; fresh = n; word = 0 }
told_image_of (Some (Check cell)) n = record { has = 0; code = 0; output = 0; fresh = n; word = 0 }
told_image_of (Some (Learn output)) n = record { has = 0; code = 0; output = 0; fresh = n; word = 0 }
told_image_of (Some (Send command)) n = record { has = 0; code = 0; output = 0; fresh = n; word = 0 }

abbrev pub told_written : Option Job → Fresh → ToldImage
told_written told it = told_image_of told (fresh_number it)

abbrev pub told_read : ToldImage → Option Job
told_read i = if i.has == 1 then option_map (λ cell. Order cell i.word) (cell_at i.code i.output) else None

abbrev pub sequence_read : SequenceImage → List → Sequence
sequence_read i list = record {
  list = list;
  look = look_read i.look;
  look_host = i.look_host;
  phase = phase_read i.phase;
  is_read = i.is_read == 1;
  is_shown = i.is_shown == 1;
  is_waited = i.is_waited == 1;
  is_looked = i.is_looked == 1;
  leaves = i.leaves == 1;
  asks = i.asks == 1;
  told = told_read i.told;
  fresh = fresh_read i.told.fresh;
  turned_on = i.look.turned_on;
  lowers = nat_lt 3 i.phase;
  left = i.left;
  end = end_read i.end;
}

abbrev pub sequence_in : SequenceImage → Option Sequence
sequence_in i = if i.mark == sequence_mark && i.version == sequence_version then option_map (sequence_read i) (list_in i.list) else None

-- what the numbers mean of memory that holds one
abbrev pub sequence_meant : SequenceImage → Sequence
sequence_meant i = sequence_read i (list_meant i.list)

-- how it is written, with what was said last
abbrev pub sequence_image : Sequence → SaidImage → SequenceImage
sequence_image q said = record {
  mark = sequence_mark;
  version = sequence_version;
  left = q.left;
  leaves = flag q.leaves;
  asks = flag q.asks;
  said = said;
  list = list_image q.list;
  look = look_image q.look q.turned_on;
  look_host = q.look_host;
  phase = phase_written q.phase q.lowers;
  is_read = flag q.is_read;
  is_shown = flag q.is_shown;
  is_waited = flag q.is_waited;
  is_looked = flag q.is_looked;
  end = end_written q.end;
  told = told_written q.told q.fresh;
}

-- A list that memory keeps: so are its courses.
pub record IsKeptList (q : List) : Type 0 where
  pub under : IfSome q.stairs.under (λ under. IsKept under.course)
  pub coming : IfSome q.stairs.coming IsKept

-- A sequence that memory keeps: so is its list, and the order that it told and its end read as they are written.
pub record IsKeptSequence (q : Sequence) : Type 0 where
  pub list : IsKeptList q.list
  pub told : told_read (told_written q.told q.fresh) ≡ q.told
  pub over : end_read (end_written q.end) ≡ q.end

-- What a call leaves in the memory of a sequence reads as the sequence that it speaks of.
pub record SequencesAreKept : Type 0 where
  pub kept : (q : Sequence) (said : SaidImage) → IsKeptSequence q → sequence_in (sequence_image q said) ≡ Some q
