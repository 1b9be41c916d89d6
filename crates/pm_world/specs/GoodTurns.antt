-- What a frame that nothing disturbs makes of any open job, whatever went before, and how the job ends once its frames come
-- so: this project's own choice. Lists are newest first.
use Rattle.std.specs.Prelude.{◌≡◌, ◌+◌, ◌≤◌, ℕ, ◌==◌, Bool, true, not, ◌&&◌, if◌then◌else◌, List, [], ◌∷◌, length, Option, Result, Ok, Some, None}
use Rattle.pm_table.specs.declared.cell.Cell.{Cell}
use Rattle.pm_table.specs.declared.cell.Cell.TheVariants.{Protect}
use Rattle.pm_table.specs.Cell.{cell_code}
use Rattle.pm_table.specs.Protection.{is_allowed}
use Rattle.pm_table.specs.declared.fault.TableFault.{TableFault}
use Rattle.pm_table.specs.declared.vout_mode.VoutMode.{VoutMode}
use Rattle.pm_table.specs.declared.vout_mode.VoutMode.TheVariants.{Direct}
use Rattle.pm_table.specs.VoutMode.{mode_of}
use Rattle.pm_device.specs.declared.config.Config.{Config}
use Rattle.pm_device.specs.Held.{mode_for}
use Rattle.pm_host.specs.declared.command.Command.{Command}
use Rattle.pm_host.specs.declared.job.JobEnd.{JobEnd}
use Rattle.pm_host.specs.declared.job.JobEnd.TheVariants.{Done, Differs, Learned, Unknown}
use Rattle.pm_host.specs.declared.question.Question.TheVariants.{Word, Mode, Coefficients}
use Rattle.pm_host.specs.declared.stage.Stage.{Stage}
use Rattle.pm_host.specs.declared.stage.Stage.TheVariants.{Asks, Reads, Sends, Writes}
use Rattle.pm_host.specs.Frames.{frames_left}
use Rattle.pm_host.specs.Messages.{cell_read}
use Rattle.pm_host.specs.Question.{question_message}
use Rattle.pm_host.specs.Summary.{stage_message}
use Rattle.pm_world.specs.declared.event.Event.{Event}
use Rattle.pm_world.specs.GoodBus.{IsRead, IsWritten, word_held_after, stage_after}
use Rattle.pm_world.specs.Honest.{IsSpelled}
use Rattle.pm_world.specs.Legal.{frame_of}
use Rattle.pm_world.specs.Lived.{IsLived}
use Rattle.pm_world.specs.Life.{now}

-- the frame that a stage sends came whole: an exchange, or a write, which is acknowledged or not
abbrev pub ComesWhole : Config → ℕ → Bool → Stage → List Event → List Event → Type 0
ComesWhole config passes acked (Asks question tries) before after = IsRead config passes (question_message question) before after
ComesWhole config passes acked (Reads cell word pass) before after = IsRead config passes (cell_read cell) before after
ComesWhole config passes acked stage before after = IsWritten (frame_of config.addr (stage_message stage)) acked before after

-- what a frame makes of a job: it ends so, or goes on at this stage
pub data Turn : Type 0 where
  Ends : (end : JobEnd) → Turn
  GoesOn : (stage : Stage) → Turn

-- A learn that read VOUT_MODE asks for the coefficients where that is DIRECT, and has learned a format otherwise.
abbrev pub mode_turn : ℕ → Result VoutMode TableFault → Turn
mode_turn output (Ok Direct) = GoesOn (Asks (Coefficients output) 0)
mode_turn output mode = Ends Learned

-- An order whose cell was read to hold this word is done where that is its own. Otherwise it is written again in the next
-- pass, and in the last one it differs.
abbrev pub read_turn : ℕ → Cell → ℕ → ℕ → ℕ → Turn
read_turn passes cell word pass held =
    if held == word then Ends Done
    else (if pass + 1 == passes then Ends (Differs held) else GoesOn (Writes cell word (pass + 1)))

-- A command is done where its write was acknowledged. Otherwise it is sent again in the next try, and after the last one
-- nothing says whether it was carried out.
abbrev pub send_turn : ℕ → Command → ℕ → Bool → Turn
send_turn passes command tries acked =
    if acked then Ends Done
    else (if tries + 1 == passes then Ends Unknown else GoesOn (Sends command (tries + 1)))

-- What a frame that comes whole makes of a job, of each stage, by the VOUT_MODE bytes of the converter and the words that it holds. The write
-- of an order is followed by a read of its cell, acknowledged or not, and allowed by WRITE_PROTECT or not.
abbrev pub turn_by : (ℕ → ℕ) → (Cell → ℕ) → ℕ → Bool → Stage → Turn
turn_by modes words passes acked (Asks (Word cell) tries) = Ends Done
turn_by modes words passes acked (Asks (Mode output) tries) = mode_turn output (mode_of (modes output))
turn_by modes words passes acked (Asks (Coefficients output) tries) = Ends Learned
turn_by modes words passes acked (Writes cell word pass) = GoesOn (Reads cell word pass)
turn_by modes words passes acked (Reads cell word pass) = read_turn passes cell word pass (words cell)
turn_by modes words passes acked (Sends command tries) = send_turn passes command tries acked

-- what it makes of a job by what the converter holds after these events
abbrev pub turn_of : Config → ℕ → List Event → Bool → Stage → Turn
turn_of config passes before acked stage = turn_by (mode_for config) (word_held_after config passes before) passes acked stage

-- a job took this turn: it is open no more and ended so, or it is open at this stage
abbrev pub Took : Option Stage → Option JobEnd → Turn → Type 0
Took stage ended (Ends end) = (stage ≡ None) × (ended ≡ Some end)
Took stage ended (GoesOn next) = (stage ≡ Some next) × (ended ≡ None)

abbrev pub Turns : Config → ℕ → List Event → Turn → Type 0
Turns config passes after turn = Took (stage_after config passes after) (now config passes after).end turn

-- the write of a command is acknowledged
abbrev pub is_taken : Bool → Stage → Bool
is_taken acked (Sends command tries) = acked
is_taken acked stage = true

-- All frames of a job come whole, one after another, while it is open: as many as this list has, which says whether each
-- is acknowledged. A command's are.
abbrev pub ComeWhole : Config → ℕ → List Bool → List Event → List Event → Type 0
ComeWhole config passes [] before after = after ≡ before
ComeWhole config passes (acked ∷ more) before after =
    (stage : Stage) × (middle : List Event) × (stage_after config passes before ≡ Some stage)
    × (is_taken acked stage ≡ true) × ComesWhole config passes acked stage before middle
    × ComeWhole config passes more middle after

-- An order whose cell holds this word ends so. `takes`: a write of it is left that WRITE_PROTECT allows.
abbrev pub order_end_holding : Bool → ℕ → ℕ → JobEnd
order_end_holding takes word held = if held == word then Done else (if takes then Done else Differs held)

-- How an open job ends from this stage on, by the words that the converter holds, once all its frames come whole. An order is done but where
-- its cell holds another word, and either WRITE_PROTECT forbids its code or the read of its last pass is what is left.
abbrev pub good_end_by : (Cell → ℕ) → ℕ → Stage → JobEnd
good_end_by words passes (Asks (Word cell) tries) = Done
good_end_by words passes (Asks (Mode output) tries) = Learned
good_end_by words passes (Asks (Coefficients output) tries) = Learned
good_end_by words passes (Sends command tries) = Done
good_end_by words passes (Writes cell word pass) = order_end_holding (is_allowed (words Protect) (cell_code cell)) word (words cell)
good_end_by words passes (Reads cell word pass) =
    order_end_holding (not (pass + 1 == passes) && is_allowed (words Protect) (cell_code cell)) word (words cell)

-- how the job ends by what the converter holds after these events
abbrev pub good_end : Config → ℕ → List Event → Stage → JobEnd
good_end config passes before stage = good_end_by (word_held_after config passes before) passes stage

-- Each frame of an open job that comes whole makes of the job just what its stage says, whatever went before (`turn`). Once its frames come
-- whole there are no more of them than the job had left (`few`), and it ends just as said (`ends`).
pub record OpenJobsEnd : Type 0 where
  pub turn : (config : Config) (passes : ℕ) (before after : List Event) (stage : Stage) (acked : Bool) →
      IsSpelled config → IsLived config passes after → stage_after config passes before ≡ Some stage →
      ComesWhole config passes acked stage before after →
      Turns config passes after (turn_of config passes before acked stage)
  pub few : (config : Config) (passes : ℕ) (frames : List Bool) (before after : List Event) →
      IsSpelled config → IsLived config passes after → ComeWhole config passes frames before after →
      length frames + frames_left (now config passes after).host ≤ frames_left (now config passes before).host
  pub ends : (config : Config) (passes : ℕ) (frames : List Bool) (before after : List Event) (stage : Stage) →
      IsSpelled config → IsLived config passes after → stage_after config passes before ≡ Some stage →
      ComeWhole config passes frames before after → stage_after config passes after ≡ None →
      (now config passes after).end ≡ Some (good_end config passes before stage)
