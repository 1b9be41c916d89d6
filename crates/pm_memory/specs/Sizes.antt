-- How many bytes stand in a caller's memory, by the counts of outputs, registers and places. None is padding:
-- a byte stands anywhere, a word of two bytes at an even place,
-- a number of eight at one that eight divides.
use Rattle.std.specs.Prelude.{ℕ, ◌+◌, ◌-◌, ◌*◌}
use Rattle.pm_table.specs.Cell.{places}

-- a word
abbrev pub word_size : ℕ
word_size = 2

-- what is known of a cell: a count of words and 16 words; a flag and a word
abbrev pub cell_size : ℕ
cell_size = (1 + 16) * word_size + 2 * word_size

-- the stage of a job: four bytes and a word
abbrev pub stage_size : ℕ
stage_size = 4 + word_size

-- the format of an output: two bytes and two words
abbrev pub format_size : ℕ
format_size = 2 + 2 * word_size

-- the limits of an output: two numbers of eight bytes
abbrev pub limits_size : ℕ
limits_size = 2 * 8

-- a host: the mark, the version, four bytes of setup, its stage, the formats, what is known of each cell, and
-- whether a restart was seen; four bytes of the part's registers, three words of no meaning, and the limits of each output
abbrev pub host_size : ℕ
host_size = 2 * word_size + 4 + stage_size + 8 * format_size + places * cell_size + word_size
    + 4 + 3 * word_size + 8 * limits_size

-- the version of this library, 0.1: the greater part in the upper byte, the lesser in the lower one
abbrev pub library_version : ℕ
library_version = 0x0001

-- a course: the mark, the version, the tries left and three words; five wishes of a flag and a word, five voltages of eight bytes, and
-- 32 bytes: eight of its survey and its way, seven of what was read, six of what differed, five of which voltages are wanted, and six
-- of its last answer and its end
abbrev pub course_size : ℕ
course_size = 6 * word_size + 5 * (2 * word_size) + 5 * 8 + 8 + 7 + 6 + 5 + 6

-- what came of a question: two bytes and a word
abbrev pub heard_size : ℕ
heard_size = 2 + word_size

-- a delivery: the mark, the version, four bytes, three words, and thirteen questions
abbrev pub delivery_size : ℕ
delivery_size = 2 * word_size + 4 + 3 * word_size + 13 * heard_size

-- what a step does: eight bytes, and five wishes of two words and four bytes of a voltage
abbrev pub placed_size : ℕ
placed_size = 8 + 5 * (2 * word_size + 4)

-- how far a list has come: the tries and the steps begun; four bytes; the step under way, in eight bytes, two words and five wishes; and two
-- courses
abbrev pub list_size : ℕ
list_size = 2 * word_size + 4 + (8 + 2 * word_size + 5 * (2 * word_size)) + 2 * course_size

-- a step of a sequence: what it does, four bytes, two words, four bytes of a wait, and what was heard before
abbrev pub sequence_step_size : ℕ
sequence_step_size = placed_size + 4 + 2 * word_size + 4 + heard_size

-- a record: a step, a delivery, and two bytes of no meaning
abbrev pub sequence_record_size : ℕ
sequence_record_size = sequence_step_size + delivery_size + 2

-- what is said: six bytes, three words, four bytes of milliseconds and eight of a voltage
abbrev pub said_size : ℕ
said_size = 6 + 3 * word_size + 4 + 8

-- a sequence: the mark, the version, the steps that were left and two bytes; what was said; how far its list has come; a look, which is a delivery without its
-- mark and version, what was heard before and eight bytes; six bytes; its end, in six bytes and two words; and an order, in four bytes and
-- a word
abbrev pub sequence_size : ℕ
sequence_size = 3 * word_size + 2 + said_size + list_size + (delivery_size - 2 * word_size + heard_size + 8) + 6 + (6 + 2 * word_size)
    + (4 + word_size)
