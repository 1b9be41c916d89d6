-- What stands in a host's memory, as a function of what it means: a byte of a format that isn't known is FFh, every
-- other number without a meaning is 0, and so is each behind a count. Two hosts that mean the same are then equal byte
-- for byte. This project's own choice.
use Rattle.std.specs.Prelude.{◌≡◌, ℕ, ℤ, pos, negsuc, ◌-◌, true, is_some, if◌then◌else◌, List, ◌++◌, length, map, replicate, Option, Some, None, option_map}
use Rattle.pm_num.specs.AnyFormat.{Shape, InUlinear16, InDirect}
use Rattle.pm_table.specs.declared.cell.Cell.{Cell}
use Rattle.pm_table.specs.Cell.{cell_code, output_of}
use Rattle.pm_table.specs.Coefficients.{coefficient_bytes}
use Rattle.pm_host.specs.declared.command.Command.{Command}
use Rattle.pm_host.specs.declared.command.Command.TheVariants.{ClearFaults}
use Rattle.pm_host.specs.declared.format_image.FormatImage.{FormatImage}
use Rattle.pm_host.specs.declared.image.HostImage.{HostImage}
use Rattle.pm_host.specs.declared.image.StageImage.{StageImage}
use Rattle.pm_host.specs.declared.knowledge.Knowledge.{Knowledge}
use Rattle.pm_host.specs.declared.knowledge.Possible.{Possible}
use Rattle.pm_host.specs.declared.knowledge.Possible.TheVariants.{Any, Words}
use Rattle.pm_host.specs.declared.question.Question.{Question}
use Rattle.pm_host.specs.declared.question.Question.TheVariants.{Word, Mode, Coefficients}
use Rattle.pm_host.specs.declared.stage.Stage.{Stage}
use Rattle.pm_host.specs.declared.stage.Stage.TheVariants.{Writes, Reads, Asks, Sends}
use Rattle.pm_host.specs.declared.knowledge.Standing.{Standing}
use Rattle.pm_host.specs.declared.knowledge.Standing.TheVariants.{Confirmed, Unknown}
use Rattle.pm_host.specs.declared.standing_image.StandingImage.{StandingImage}
use Rattle.pm_host.specs.declared.state.State.{State}
use Rattle.pm_host.specs.declared.words_image.WordsImage.{WordsImage}
use Rattle.pm_host.specs.Command.{command_code}
use Rattle.pm_host.specs.Image.{format_held, formats_held, host_of, image_mark, image_version, known_held, stage_held, standing_held, words_held}
use Rattle.pm_host.specs.Known.{Known}
use Rattle.pm_host.specs.Summary.{Summary}

-- the words that a cell may hold
abbrev pub words_image : Possible → WordsImage
words_image Any = record { count = 0; words = replicate 16 0 }
words_image (Words listed) = record {
  count = length listed.items;
  words = listed.items ++ replicate (16 - length listed.items) 0;
}

-- what is said of a cell
abbrev pub standing_image : Standing → StandingImage
standing_image (Confirmed word) = record { is_confirmed = 1; word = word }
standing_image Unknown = record { is_confirmed = 0; word = 0 }

-- what is known of all cells
abbrev pub known_image : Known → Knowledge
known_image known = record {
  possible = map words_image known.possible;
  standing = map standing_image known.standing;
  seen = if known.seen then 1 else 0;
}

-- the byte of VOUT_MODE that names ULINEAR16 with this exponent
abbrev pub mode_byte : ℤ → ℕ
mode_byte (pos n) = n
mode_byte (negsuc n) = 31 - n

-- the bytes that mean a format, which is never LINEAR11; FFh where there is none
abbrev pub format_image : Option Shape → FormatImage
format_image (Some (InUlinear16 n)) = record { mode = mode_byte n; coefficients = replicate 5 0xFF }
format_image (Some (InDirect m b r)) = record {
  mode = 0x40;
  coefficients = coefficient_bytes (record { m = m; b = b; r = r });
}
format_image _ = record { mode = 0xFF; coefficients = replicate 5 0xFF }

-- the stage of an open job at a cell, at an output, with a question, and with a command, as plain numbers
abbrev pub cell_stage : ℕ → Cell → ℕ → ℕ → StageImage
cell_stage kind cell word count =
    record { kind = kind; code = cell_code cell; output = output_of cell; count = count; word = word }

abbrev pub output_stage : ℕ → ℕ → ℕ → StageImage
output_stage kind output count = record { kind = kind; code = 0; output = output; count = count; word = 0 }

abbrev pub question_stage : Question → ℕ → StageImage
question_stage (Word cell) count = cell_stage 3 cell 0 count
question_stage (Mode output) count = output_stage 4 output count
question_stage (Coefficients output) count = output_stage 5 output count

abbrev pub command_stage : Command → ℕ → StageImage
command_stage (ClearFaults output) count =
    record { kind = 6; code = command_code (ClearFaults output); output = output; count = count; word = 0 }
command_stage command count =
    record { kind = 7; code = command_code command; output = 0; count = count; word = 0 }

-- the stage of the open job as plain numbers, all 0 if none is open
abbrev pub stage_image : Option Stage → StageImage
stage_image None = output_stage 0 0 0
stage_image (Some (Writes cell word pass)) = cell_stage 1 cell word pass
stage_image (Some (Reads cell word pass)) = cell_stage 2 cell word pass
stage_image (Some (Asks question tries)) = question_stage question tries
stage_image (Some (Sends command tries)) = command_stage command tries

-- an image has the numbers that are written for what it means: of possible words, of what is said of a cell, of what is known, and of the
-- formats
abbrev pub IsWordsImage : WordsImage → Type 0
IsWordsImage words = words ≡ words_image (words_held words)

abbrev pub IsStandingImage : StandingImage → Type 0
IsStandingImage said = said ≡ standing_image (standing_held said)

-- numbers that mean a format are those of it
abbrev pub IsFormatImage : FormatImage → Type 0
IsFormatImage format = is_some (format_held format) ≡ true → format ≡ format_image (format_held format)

unfoldable pub IsKnown : Knowledge → Type 0
IsKnown known = known ≡ known_image (known_held known)

unfoldable pub AreFormatImages : List FormatImage → Type 0
AreFormatImages formats = formats ≡ map format_image (formats_held formats)

-- what a host holds beside its open job is written so
pub record IsState (state : State) : Type 0 where
  pub unused : state.unused ≡ 0
  pub formats : AreFormatImages state.formats
  pub known : IsKnown state.known

-- a host is, with where its open job stands
pub record IsImage (image : HostImage) : Type 0 where
  pub stage : option_map stage_image (stage_held image.stage) ≡ Some image.stage
  pub state : IsState image.state

-- the memory of a host
abbrev pub state_image : Summary → State
state_image s = record {
  address = s.setup.addr;
  outputs = s.setup.outputs;
  passes = s.setup.passes;
  unused = 0;
  formats = map format_image s.formats;
  known = known_image s.known;
}

abbrev pub image_of : Summary → HostImage
image_of s = record {
  mark = image_mark;
  version = image_version;
  stage = stage_image s.stage;
  state = state_image s;
}

-- the memory of a host that is written so is that of what it holds
abbrev pub ImagesAreMeanings : Type 0
ImagesAreMeanings = (image : HostImage) (s : Summary) → IsImage image → host_of image ≡ Some s → image ≡ image_of s
