-- How an open job ends beside a part as it is, once its frames come whole, while anybody reads the part: this project's own choice. Lists
-- are newest first.
use Rattle.std.specs.Prelude.{◌≡◌, ◌+◌, ◌≤◌, ℕ, Bool, true, false, List, [], ◌∷◌, ◌++◌, length, Some, None}
use Rattle.std.specs.List.{list_all, list_any}
use Rattle.pm_frame.specs.declared.message.Message.{Message}
use Rattle.pm_model.specs.Settings.{word_at}
use Rattle.pm_device.specs.Held.{Held, mode_for}
use Rattle.pm_host.specs.declared.job.JobEnd.{JobEnd}
use Rattle.pm_host.specs.declared.stage.Stage.{Stage}
use Rattle.pm_host.specs.declared.stage.Stage.TheVariants.{Asks, Reads}
use Rattle.pm_host.specs.Frames.{frames_left}
use Rattle.pm_host.specs.Messages.{cell_read}
use Rattle.pm_host.specs.Question.{question_message}
use Rattle.pm_host.specs.Summary.{stage_message}
use Rattle.pm_world.specs.declared.event.Arrival.{Arrival}
use Rattle.pm_world.specs.declared.event.Back.{Back}
use Rattle.pm_world.specs.declared.event.Event.TheVariants.{Exchange, Finish}
use Rattle.pm_world.specs.GoodBus.{comes_whole, delivers_whole, is_beside, is_reading_change}
use Rattle.pm_world.specs.GoodTurns.{Took, Turn, good_end_by, is_taken, turn_by}
use Rattle.pm_world.specs.Legal.{frame_of}
use Rattle.pm_part_laws.specs.Happenings.{Happening, Happens, Hears, IsLifeBeside, beside}
use Rattle.pm_part_laws.specs.Moves.{words_at_beside}

-- a reading of the part changes, or it hears bytes that are no job's; beside these what is sent may be delivered
abbrev pub is_reading_or_heard : Happening → Bool
is_reading_or_heard (Happens event) = is_reading_change event
is_reading_or_heard (Hears bytes ending) = true

abbrev pub is_beside_or_heard : Happening → Bool
is_beside_or_heard (Happens event) = is_beside event
is_beside_or_heard (Hears bytes ending) = true

-- a delivery by which the write of this frame is heard whole
abbrev pub delivers : List ℕ → Happening → Bool
delivers frame (Happens event) = delivers_whole frame event
delivers frame (Hears bytes ending) = false

-- The write of this frame was heard whole at least once, whatever else was delivered, and is over, acknowledged or not. Readings changed
-- and bytes were heard that are no job's in between, and nothing else happened.
pub record IsWrittenBeside (frame : List ℕ) (acked : Bool) (before happened : List Happening) : Type 0 where
  pub between : List Happening
  pub is : happened ≡ Happens (Finish acked) ∷ between ++ before
  pub aside : list_all is_beside_or_heard between ≡ true
  pub whole : list_any (delivers frame) between ≡ true

-- The exchange of this request came whole. Readings changed and bytes were heard that are no job's before it, and nothing else happened.
pub record IsReadBeside (held : Held) (passes : ℕ) (request : Message) (before happened : List Happening) : Type 0 where
  pub arrival : Arrival
  pub back : Back
  pub looks : List Happening
  pub is : happened ≡ Happens (Exchange arrival back) ∷ looks ++ before
  pub aside : list_all is_reading_or_heard looks ≡ true
  pub whole : comes_whole (beside held passes (looks ++ before)) request arrival back ≡ true

-- the frame that a stage sends came whole: an exchange, or a write, which is acknowledged or not
abbrev pub ComesWholeBeside : Held → ℕ → Bool → Stage → List Happening → List Happening → Type 0
ComesWholeBeside held passes acked (Asks question tries) before after = IsReadBeside held passes (question_message question) before after
ComesWholeBeside held passes acked (Reads cell word pass) before after = IsReadBeside held passes (cell_read cell) before after
ComesWholeBeside held passes acked stage before after = IsWrittenBeside (frame_of held.config.addr (stage_message stage)) acked before after

-- All frames of a job come whole, one after another, while it is open: as many as this list has, which says whether each is acknowledged.
-- A command's are.
abbrev pub ComeWholeBeside : Held → ℕ → List Bool → List Happening → List Happening → Type 0
ComeWholeBeside held passes [] before after = after ≡ before
ComeWholeBeside held passes (acked ∷ more) before after =
    (stage : Stage) × (middle : List Happening) × ((beside held passes before).host.stage ≡ Some stage)
    × (is_taken acked stage ≡ true) × ComesWholeBeside held passes acked stage before middle
    × ComeWholeBeside held passes more middle after

-- what a frame that comes whole makes of a job, and how the job ends once all its frames do, by the words that the part then holds
abbrev pub turn_at : Held → ℕ → List Happening → Bool → Stage → Turn
turn_at held passes before acked stage = turn_by (mode_for held.config) (word_at (words_at_beside held passes before)) passes acked stage

abbrev pub good_end_at : Held → ℕ → List Happening → Stage → JobEnd
good_end_at held passes before stage = good_end_by (word_at (words_at_beside held passes before)) passes stage

-- Each frame of an open job that comes whole makes of the job just what its stage says, whatever went before (`turn`). Once its frames come
-- whole there are no more of them than the job had left (`few`), and it ends just as said (`ends`).
pub record OpenJobsEndBeside : Type 0 where
  pub turn : (held : Held) (passes : ℕ) (before after : List Happening) (stage : Stage) (acked : Bool) →
      IsLifeBeside held passes after → (beside held passes before).host.stage ≡ Some stage →
      ComesWholeBeside held passes acked stage before after →
      Took (beside held passes after).host.stage (beside held passes after).end (turn_at held passes before acked stage)
  pub few : (held : Held) (passes : ℕ) (frames : List Bool) (before after : List Happening) →
      IsLifeBeside held passes after → ComeWholeBeside held passes frames before after →
      length frames + frames_left (beside held passes after).host ≤ frames_left (beside held passes before).host
  pub ends : (held : Held) (passes : ℕ) (frames : List Bool) (before after : List Happening) (stage : Stage) →
      IsLifeBeside held passes after → (beside held passes before).host.stage ≡ Some stage →
      ComeWholeBeside held passes frames before after → (beside held passes after).host.stage ≡ None →
      (beside held passes after).end ≡ Some (good_end_at held passes before stage)
