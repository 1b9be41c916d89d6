-- How many bytes stand in a caller's memory, by the counts of outputs, registers and places. None is padding:
-- a byte stands anywhere, a word of two bytes at an even place.
use Rattle.std.specs.Prelude.{ℕ, ◌+◌, ◌*◌, length}
use Rattle.pm_table.specs.Cell.{places, register_count}
use Rattle.pm_device.specs.Held.{device_readings, output_readings}

-- a word
abbrev pub part_word_size : ℕ
part_word_size = 2

-- how an output starts: two bytes and a word for each register
abbrev pub output_size : ℕ
output_size = 2 + register_count * part_word_size

-- a configuration: four bytes and three words, and the outputs
abbrev pub config_size : ℕ
config_size = 4 + 3 * part_word_size + 8 * output_size

-- the readings: a word for each of the device, and one of each output for each of an output
abbrev pub readings_size : ℕ
readings_size = length device_readings * part_word_size + length output_readings * 8 * part_word_size

-- a part: the mark, the version, its configuration, PAGE and a byte, four latches of the device and one of each
-- output, the readings, and the word of each cell and in the store
abbrev pub part_size : ℕ
part_size = 2 * part_word_size + config_size + 2 + 4 + 8 + readings_size + 2 * places * part_word_size
