-- The image of a host: plain numbers in a caller's memory, and what they mean. Every number has a
-- meaning, so that memory of any bytes is an image; that it is a host's is asked apart. This project's
-- own choice.
use Rattle.std.specs.Prelude.{ℕ, Bool, true, false, ◌&&◌, nat_lt, if◌then◌else◌, ◌==◌, List, map, take, Option, Some, None, Result, Ok, Err, option_map, option_and_then}
use Rattle.std.specs.Result.{result_ok}
use Rattle.pm_num.specs.AnyFormat.{Shape}
use Rattle.pm_table.specs.declared.cell.Cell.{Cell}
use Rattle.pm_table.specs.declared.fault.TableFault.{TableFault}
use Rattle.pm_table.specs.declared.vout_mode.VoutMode.{VoutMode}
use Rattle.pm_table.specs.Cell.{cell_at, cell_accepts, is_cell}
use Rattle.pm_table.specs.Coefficients.{coefficients_of}
use Rattle.pm_table.specs.Format.{shape_in}
use Rattle.pm_table.specs.VoutMode.{mode_of}
use Rattle.pm_host.specs.declared.format_image.FormatImage.{FormatImage}
use Rattle.pm_host.specs.declared.image.HostImage.{HostImage}
use Rattle.pm_host.specs.declared.knowledge.Knowledge.{Knowledge}
use Rattle.pm_host.specs.declared.knowledge.Possible.{Possible}
use Rattle.pm_host.specs.declared.knowledge.Possible.TheVariants.{Any, Words}
use Rattle.pm_host.specs.declared.question.Question.TheVariants.{Word, Mode, Coefficients}
use Rattle.pm_host.specs.declared.stage.Stage.{Stage}
use Rattle.pm_host.specs.declared.stage.Stage.TheVariants.{Writes, Reads, Asks, Sends}
use Rattle.pm_host.specs.declared.image.StageImage.{StageImage}
use Rattle.pm_host.specs.declared.knowledge.Standing.{Standing}
use Rattle.pm_host.specs.declared.knowledge.Standing.TheVariants.{Confirmed, Unknown}
use Rattle.pm_host.specs.declared.standing_image.StandingImage.{StandingImage}
use Rattle.pm_host.specs.declared.state.State.{State}
use Rattle.pm_host.specs.declared.words_image.WordsImage.{WordsImage}
use Rattle.pm_host.specs.Cells.{is_command}
use Rattle.pm_host.specs.Command.{command_of_code}
use Rattle.pm_host.specs.Known.{Known}
use Rattle.pm_host.specs.Possible.{is_possible}
use Rattle.pm_host.specs.Question.{is_question}
use Rattle.pm_host.specs.Refusals.{is_within}
use Rattle.pm_host.specs.Summary.{Summary, summary, possible_at, standing_at}
use Rattle.pm_host.specs.Transcript.{Setup}

-- no word but the listed ones is possible
abbrev pub listing : List ℕ → Possible
listing words = Words (record { items = words })

-- a count of 1 to 16 lists that many words, any other stands for any word
abbrev pub words_held : WordsImage → Possible
words_held i = if is_within 1 16 i.count then listing (take i.count i.words) else Any

abbrev pub standing_held : StandingImage → Standing
standing_held i = if i.is_confirmed == 1 then Confirmed i.word else Unknown

-- what is known of all cells
unfoldable pub known_held : Knowledge → Known
known_held k = record {
  possible = map words_held k.possible;
  standing = map standing_held k.standing;
  seen = k.seen == 1;
}

-- the format of what VOUT_MODE said, with these bytes of COEFFICIENTS
abbrev pub format_in : Result VoutMode TableFault → List ℕ → Option Shape
format_in (Ok mode) bytes = result_ok (shape_in mode (coefficients_of bytes))
format_in (Err fault) bytes = None

-- the format that the bytes of VOUT_MODE and COEFFICIENTS mean
abbrev pub format_held : FormatImage → Option Shape
format_held i = format_in (mode_of i.mode) i.coefficients

unfoldable pub formats_held : List FormatImage → List (Option Shape)
formats_held formats = map format_held formats

-- a stage of the cell that the image names
abbrev pub at_cell : StageImage → (Cell → Stage) → Option Stage
at_cell i stage = option_map stage (cell_at i.code i.output)

-- the stage that sends the command of the code that the image has, at this output or at the device
abbrev pub at_command : StageImage → Option ℕ → Option Stage
at_command i output = option_map (λ command. Sends command i.count) (command_of_code i.code output)

-- the stage that the numbers mean, where they mean one
abbrev pub stage_in : StageImage → Option Stage
stage_in i =
    if i.kind == 1 then at_cell i (λ cell. Writes cell i.word i.count)
    else (if i.kind == 2 then at_cell i (λ cell. Reads cell i.word i.count)
    else (if i.kind == 3 then at_cell i (λ cell. Asks (Word cell) i.count)
    else (if i.kind == 4 then Some (Asks (Mode i.output) i.count)
    else (if i.kind == 5 then Some (Asks (Coefficients i.output) i.count)
    else (if i.kind == 6 then at_command i (Some i.output)
    else (if i.kind == 7 then at_command i None
    else None))))))

-- the stage of the open job, if one is open: kind 0 is none; None for a kind or a command code that means nothing
unfoldable pub stage_held : StageImage → Option (Option Stage)
stage_held i = if i.kind == 0 then Some None else option_map (λ stage. Some stage) (stage_in i)

-- what a host holds whose open job is at this stage
abbrev pub held : Option Stage → State → Summary
held stage state = summary state.address state.outputs state.passes stage
    (formats_held state.formats) (known_held state.known)

-- a host may be made with this
abbrev pub is_setup : Setup → Bool
is_setup setup = is_within 0x08 0x77 setup.addr && is_within 1 8 setup.outputs
    && is_within 1 15 setup.passes

-- nothing is confirmed
abbrev pub is_unconfirmed : Standing → Bool
is_unconfirmed (Confirmed word) = false
is_unconfirmed Unknown = true

-- an order of this cell and word may be open
abbrev pub may_order : Summary → Cell → ℕ → Bool
may_order s cell word = is_cell s.setup.outputs cell && cell_accepts cell word
    && is_possible word (possible_at s cell) && is_unconfirmed (standing_at s cell)

-- an open job may stand at this stage
abbrev pub is_stage : Summary → Option Stage → Bool
is_stage s None = true
is_stage s (Some (Writes cell word pass)) =
    may_order s cell word && nat_lt pass s.setup.passes
is_stage s (Some (Reads cell word pass)) =
    may_order s cell word && nat_lt pass s.setup.passes
is_stage s (Some (Asks question tries)) =
    is_question s.setup.outputs question && nat_lt tries s.setup.passes
is_stage s (Some (Sends command tries)) =
    is_command s.setup.outputs command && nat_lt tries s.setup.passes

-- the numbers are those of a host
unfoldable pub is_sound : Summary → Bool
is_sound s = is_setup s.setup && is_stage s s.stage

-- the bytes 'PM' and the number of this layout, which an image of another layout lacks
abbrev pub image_mark : ℕ
image_mark = 0x504D

abbrev pub image_version : ℕ
image_version = 6

-- the image has this layout
abbrev pub is_current : HostImage → Bool
is_current image = image.mark == image_mark && image.version == image_version

-- the host of these numbers, where they are a host's
abbrev pub sound_in : State → Option Stage → Option Summary
sound_in state stage = if is_sound (held stage state) then Some (held stage state) else None

-- the host whose image it is
unfoldable pub host_of : HostImage → Option Summary
host_of image =
    if is_current image then option_and_then (sound_in image.state) (stage_held image.stage) else None
