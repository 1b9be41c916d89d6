-- What is said of a life, of what happened beside a part: each look back is the same.
use Rattle.std.proofs.Common.{◌≡◌, ℕ, Bool, false, cond, ◌||◌, ◌&&◌, List, [], ◌∷◌, ◌++◌, Option, refl, sym, ◌∙◌, ap, ap₂, subst}
use Rattle.std.proofs.Common.{append_assoc}
use Rattle.std.specs.Prelude.{option_and_then, slice_index, unwrap_or}
use Rattle.std.specs.Result.{result_ok}
use Rattle.pm_num.specs.AnyFormat.{InLinear11, Shape, shape_value}
use Rattle.pm_table.specs.declared.cell.Cell.TheVariants.{Out, Protect}
use Rattle.pm_model.specs.Commanded.{commanded}
use Rattle.pm_model.specs.Settings.{Words, word_at}
use Rattle.pm_limits.specs.declared.part_registers.PartRegisters.{PartRegisters}
use Rattle.pm_limits.specs.Part.{missing_word}
use Rattle.pm_limits.specs.Band.{decides}
use Rattle.pm_rail.specs.declared.survey.Survey.{Survey}
use Rattle.pm_world.specs.Bands.{BandStands as WorldStands, HoldsMissing}
use Rattle.pm_world.specs.Uncertainty.{since_restart}
use Rattle.pm_world.specs.Limited.{commands as world_commands}
use Rattle.pm_table.specs.Format.{shape_in}
use Rattle.pm_table.specs.VoutMode.{mode_of}
use Rattle.std.specs.List.{list_any}
use Rattle.pm_table.specs.declared.cell.Cell.{Cell}
use Rattle.pm_device.specs.declared.config.Config.{Config}
use Rattle.pm_device.specs.declared.converter.Ending.{Ending}
use Rattle.pm_device.specs.Held.{Held}
use Rattle.pm_device.specs.Held.{shape_for}
use Rattle.pm_host.specs.declared.job.Job.{Job as Asked}
use Rattle.pm_host.specs.Jobs.{accepted_job}
use Rattle.pm_host.specs.Summary.{Summary, possible_at}
use Rattle.pm_host.specs.Transcript.{Entry, Restarted, open_job}
use Rattle.pm_world.specs.declared.event.Event.{Event}
use Rattle.pm_world.specs.declared.event.Event.TheVariants.{Exchange, RestartHost}
use Rattle.pm_world.specs.Confirmed.{reads, reads_cell, restarts_converter}
use Rattle.pm_world.specs.Confirmed.{restarted_since as world_since}
use Rattle.pm_world.specs.Laws.{ListsSayEnough}
use Rattle.pm_world.specs.Ended.{begins_other}
use Rattle.pm_world.specs.Job.{asked_by, job_of}
use Rattle.pm_world.specs.Lemmas.{entries-more, now-config}
use Rattle.pm_world.specs.Life.{life, now}
use Rattle.pm_world.specs.Parts.{stored_config}
use Rattle.pm_world.specs.Possible.{host_has_read as world_read, restarted_between as world_between, restarted_since_host as world_host}
use Rattle.pm_world.specs.Possible.{answer_surprises, surprises_by as world_surprises}
use Rattle.pm_world.specs.Possible.{restarts_host}
use Rattle.pm_world.specs.Retelling.{open_pending as world_pending, pending_of}
use Rattle.pm_world.specs.Setup.{setup_of}
use Rattle.pm_world.specs.State.{State, asked, share_of}
use Rattle.pm_world.specs.Surveys.{AreRead as WorldRead, was_read as world_was}
use Rattle.pm_part_laws.specs.Alike.{LivesAlike, event_like, events_like, narrow, with_host_restart}
use Rattle.pm_part_laws.specs.Answers.{answers, host_has_read_beside, renews, restarted_between_beside, restarted_since_beside}
use Rattle.pm_part_laws.specs.Answers.{restarted_since_host_beside, surprises_by_beside}
use Rattle.pm_part_laws.specs.Happenings.{Happening, Happens, Hears, MayAllHappen, begins_another, beside, restarts, entries_beside}
use Rattle.pm_part_laws.specs.Limits.{BandStandsBeside}
use Rattle.pm_part_laws.specs.Moves.{open_pending_beside}
use Rattle.pm_part_laws.specs.OwnWords.{commands_beside}
use Rattle.pm_part_laws.specs.Settings.{modes_of}
use Rattle.pm_part_laws.specs.Surveys.{AreRead, was_read_beside}
use Rattle.pm_part_laws.specs.Lemmas.Renewed.{newest-same, open-same, reads-same, surprises-same}

-- an event and the like one
pub restarts-like : (s : State) (event : Event) → restarts_converter (event_like s event) ≡ restarts_converter event
restarts-like s (Exchange arrival so) = refl
restarts-like s event = refl

pub renews-like : (s : State) (event : Event) → restarts_host (event_like s event) ≡ restarts_host event
renews-like s (Exchange arrival so) = refl
renews-like s event = refl

pub begins-like : (s : State) (event : Event) → begins_other (event_like s event) ≡ begins_other event
begins-like s (Exchange arrival so) = refl
begins-like s event = refl

pub asked-like : (s : State) (event : Event) → asked_by (event_like s event) ≡ asked_by event
asked-like s (Exchange arrival so) = refl
asked-like s event = refl

module _ (held : Held) (passes : ℕ) (alike : LivesAlike held passes) where
  abbrev pub config : Config
  config = stored_config held.config held.store

  -- the life that is like what happened
  abbrev pub at : List Happening → List Event
  at happened = narrow held passes happened ++ with_host_restart alike.earlier

  -- the event that is like one
  abbrev pub likely : List Happening → Event → Event
  likely before event = event_like (beside held passes before) event

  pub at-none : at [] ≡ with_host_restart alike.earlier
  unfolding narrow
  at-none = refl

  pub at-more : (event : Event) (before : List Happening) → at (Happens event ∷ before) ≡ likely before event ∷ at before
  unfolding narrow
  at-more event before = refl

  pub at-heard : (bytes : List ℕ) (ending : Ending) (before : List Happening) → at (Hears bytes ending ∷ before) ≡ at before
  unfolding narrow
  at-heard bytes ending before = refl

  -- the host heard nothing after its restart but what it was told beside the part
  abbrev pub older : List Entry
  older = (life config passes alike.earlier).entries

  pub entries-at : (happened : List Happening) → MayAllHappen held passes happened →
      (life config passes (at happened)).entries ≡ entries_beside held passes happened ++ Restarted ∷ older
  entries-at happened may = (alike.like happened may).told_is
      ∙ ap (λ (l : List Entry). entries_beside held passes happened ++ l) (entries-more config passes alike.earlier RestartHost)

  -- the host was told the same since it last started
  pub newest-at : (happened : List Happening) → MayAllHappen held passes happened →
      since_restart (life config passes (at happened)).entries ≡ since_restart (entries_beside held passes happened)
  newest-at happened may = ap since_restart (entries-at happened may) ∙ newest-same older (entries_beside held passes happened)

  -- the job that an event asks for, as the host accepts it
  pub asked-at : (event : Event) (before : List Happening) → MayAllHappen held passes before →
      asked (now config passes (at before)) (likely before event) ≡ asked (beside held passes before) event
  asked-at event before may =
      ap (λ (o : Option Asked). option_and_then (accepted_job (now config passes (at before)).host) o) (asked-like (beside held passes before) event)
      ∙ ap (λ (h : Summary). job_of h event) (alike.like before may).host

  -- the VOUT_MODE bytes, and the format of an output's voltages
  pub modes-at : modes_of config ≡ modes_of held.config
  unfolding beside narrow
  modes-at = subst (λ (c : Config). modes_of c ≡ modes_of held.config) (now-config config passes (at [])) (alike.like [] tt).settings.modes

  pub shape-at : (output : ℕ) → shape_for config output ≡ shape_for held.config output
  unfolding shape_for
  shape-at output = ap (λ (m : List ℕ). unwrap_or
      (option_and_then (λ mode. result_ok (shape_in mode held.config.coefficients)) (result_ok (mode_of (slice_index m output)))) InLinear11)
      modes-at

  -- what an output commands, and the words of registers that the part doesn't have
  pub commands-at : (happened : List Happening) → MayAllHappen held passes happened → (output : ℕ) →
      world_commands config passes (at happened) output ≡ commands_beside held passes happened output
  commands-at happened may output =
      ap₂ (λ (s : Shape) (w : Words). commanded (shape_value s) w output) (shape-at output) (alike.like happened may).words

  pub missing-at : (happened : List Happening) → MayAllHappen held passes happened → (part : PartRegisters) (output : ℕ) →
      HoldsMissing part held.config (beside held passes happened).device.words output →
      HoldsMissing part config (now config passes (at happened)).device.words output
  missing-at happened may part output missing register word lacks =
      ap (λ (w : Words). word_at w (Out output register)) (alike.like happened may).words
      ∙ missing register word (ap (λ (s : Shape). missing_word part s register) (sym (shape-at output)) ∙ lacks)

  -- the order, store or restore that is open
  pub pending-at : (happened : List Happening) → MayAllHappen held passes happened →
      world_pending config passes (at happened) ≡ open_pending_beside held passes happened
  unfolding world_pending
  pending-at happened may = ap (option_and_then pending_of)
      (ap (open_job (setup_of config passes)) (entries-at happened may) ∙ open-same older (setup_of config passes) (entries_beside held passes happened))

  -- a good answer, and one that surprises
  pub answers-at : (cell : Cell) (event : Event) (before : List Happening) → MayAllHappen held passes (Happens event ∷ before) →
      reads_cell config passes cell (at before) (likely before event) ≡ answers held passes cell before (Happens event)
  answers-at cell event before may =
      ap₂ (λ (l : List Entry) (t : Option Entry). reads (setup_of config passes) l cell t) (entries-at before may.1) (alike.tells before event may)
      ∙ reads-same older (setup_of config passes) (entries_beside held passes before) cell (share_of (beside held passes before) event).told

  pub surprises-at : (cell : Cell) (event : Event) (before : List Happening) → MayAllHappen held passes (Happens event ∷ before) →
      world_surprises config passes cell (at before) (likely before event) ≡ surprises_by_beside held passes cell before (Happens event)
  surprises-at cell event before may =
      ap₂ (λ (l : List Entry) (t : Option Entry). answer_surprises (setup_of config passes) l cell t) (entries-at before may.1)
      (alike.tells before event may)
      ∙ surprises-same (setup_of config passes) older (entries_beside held passes before) cell
      (share_of (beside held passes before) event).told

  -- a restart of the converter since the host's last good answer for a cell
  pub since-at : ListsSayEnough → (cell : Cell) (happened : List Happening) → MayAllHappen held passes happened →
      world_since config passes cell (at happened) ≡ restarted_since_beside held passes cell happened
  unfolding restarted_since_beside world_since narrow
  since-at lists cell [] may = lists.since config passes cell (with_host_restart alike.earlier) alike.reached.steady
  since-at lists cell (Happens event ∷ before) may =
      ap₂ (λ (a b : Bool). cond a false b) (answers-at cell event before may)
      (ap₂ (λ (a b : Bool). a || b) (restarts-like (beside held passes before) event) (since-at lists cell before may.1))
  since-at lists cell (Hears bytes ending ∷ before) may = since-at lists cell before may.1

  pub read-at : (cell : Cell) (happened : List Happening) → MayAllHappen held passes happened →
      world_read config passes cell (at happened) ≡ host_has_read_beside held passes cell happened
  unfolding host_has_read_beside world_read narrow
  read-at cell [] may = refl
  read-at cell (Happens event ∷ before) may =
      ap₂ (λ (a b : Bool). cond a false b) (renews-like (beside held passes before) event)
      (ap₂ (λ (a b : Bool). a || b) (answers-at cell event before may) (read-at cell before may.1))
  read-at cell (Hears bytes ending ∷ before) may = read-at cell before may.1

  pub between-at : ListsSayEnough → (cell : Cell) (happened : List Happening) → MayAllHappen held passes happened →
      world_between config passes cell (at happened) ≡ restarted_between_beside held passes cell happened
  unfolding restarted_between_beside world_between narrow
  between-at lists cell [] may = refl
  between-at lists cell (Happens event ∷ before) may =
      ap₂ (λ (a b : Bool). cond a false b) (renews-like (beside held passes before) event)
      (ap₂ (λ (a b : Bool). a || b)
      (ap₂ (λ (a b : Bool). a && b) (answers-at cell event before may)
      (ap₂ (λ (a b : Bool). a && b) (read-at cell before may.1) (since-at lists cell before may.1)))
      (between-at lists cell before may.1))
  between-at lists cell (Hears bytes ending ∷ before) may = between-at lists cell before may.1

  pub host-at : (happened : List Happening) → world_host (at happened) ≡ restarted_since_host_beside happened
  unfolding restarted_since_host_beside world_host narrow
  host-at [] = refl
  host-at (Happens event ∷ before) =
      ap₂ (λ (a b : Bool). cond a false b) (renews-like (beside held passes before) event)
      (ap₂ (λ (a b : Bool). a || b) (restarts-like (beside held passes before) event) (host-at before))
  host-at (Hears bytes ending ∷ before) = host-at before

  -- the answers that a band rests on
  pub stands-at : ListsSayEnough → (happened : List Happening) → MayAllHappen held passes happened → (output : ℕ) →
      BandStandsBeside held passes happened output → WorldStands config passes (at happened) (now config passes (at happened)).host output
  stands-at lists happened may output stands register decide named =
      let host = (alike.like happened may).host in
      since-at lists (Out output register) happened may
      ∙ stands register (ap (λ (h : Summary). decides (λ r. possible_at h (Out output r)) register) (sym host) ∙ decide)
      (λ any. named (ap (λ (h : Summary). possible_at h (Out output register)) host ∙ any))

  -- the events that are like what happened later
  abbrev pub since : List Happening → List Happening → List Event
  since [] before = []
  since (one ∷ later) before = events_like (beside held passes (later ++ before)) one ++ since later before

  pub at-since : (later before : List Happening) → at (later ++ before) ≡ since later before ++ at before
  unfolding narrow
  at-since [] before = refl
  at-since (one ∷ later) before =
      append_assoc (events_like (beside held passes (later ++ before)) one) (narrow held passes (later ++ before))
      (with_host_restart alike.earlier)
      ∙ (ap (λ (l : List Event). events_like (beside held passes (later ++ before)) one ++ l) (at-since later before)
      ∙ sym (append_assoc (events_like (beside held passes (later ++ before)) one) (since later before) (at before)))

  -- what is asked of the later events
  pub later-restarts : (later before : List Happening) → list_any restarts_converter (since later before) ≡ list_any restarts later
  later-restarts [] before = refl
  later-restarts (Happens event ∷ later) before =
      ap₂ (λ (a b : Bool). a || b) (restarts-like (beside held passes (later ++ before)) event) (later-restarts later before)
  later-restarts (Hears bytes ending ∷ later) before = later-restarts later before

  pub later-begins : (later before : List Happening) → list_any begins_other (since later before) ≡ list_any begins_another later
  later-begins [] before = refl
  later-begins (Happens event ∷ later) before =
      ap₂ (λ (a b : Bool). a || b) (begins-like (beside held passes (later ++ before)) event) (later-begins later before)
  later-begins (Hears bytes ending ∷ later) before = later-begins later before

  pub later-renews : (later before : List Happening) → list_any restarts_host (since later before) ≡ list_any renews later
  later-renews [] before = refl
  later-renews (Happens event ∷ later) before =
      ap₂ (λ (a b : Bool). a || b) (renews-like (beside held passes (later ++ before)) event) (later-renews later before)
  later-renews (Hears bytes ending ∷ later) before = later-renews later before

  -- what was read later
  pub was-at : (cell : Cell) (later before : List Happening) → MayAllHappen held passes (later ++ before) →
      world_was config passes cell (since later before) (at before) ≡ was_read_beside held passes cell later before
  was-at cell [] before may = refl
  was-at cell (Happens event ∷ later) before may =
      ap₂ (λ (a b : Bool). a || b)
      (ap (λ (l : List Event). reads_cell config passes cell l (likely (later ++ before) event)) (sym (at-since later before))
      ∙ answers-at cell event (later ++ before) may)
      (was-at cell later before may.1)
  was-at cell (Hears bytes ending ∷ later) before may = was-at cell later before may.1

  pub read-like : (v : Survey) (later before : List Happening) → MayAllHappen held passes (later ++ before) → AreRead held passes v later before →
      WorldRead config passes v (since later before) (at before)
  read-like v later before may are = record {
    registers = λ register has. was-at (Out v.output register) later before may ∙ are.registers register has;
    protect = λ has. was-at Protect later before may ∙ are.protect has;
  }

  pub read-beside : (v : Survey) (later before : List Happening) → MayAllHappen held passes (later ++ before) →
      WorldRead config passes v (since later before) (at before) → AreRead held passes v later before
  read-beside v later before may are = record {
    registers = λ register has. sym (was-at (Out v.output register) later before may) ∙ are.registers register has;
    protect = λ has. sym (was-at Protect later before may) ∙ are.protect has;
  }

  -- the later of these events, one part after another
  pub since-append : (newer later before : List Happening) → since (newer ++ later) before ≡ since newer (later ++ before) ++ since later before
  since-append [] later before = refl
  since-append (one ∷ newer) later before =
      ap₂ (λ (s : State) (l : List Event). events_like s one ++ l)
      (ap (beside held passes) (append_assoc newer later before)) (since-append newer later before)
      ∙ sym (append_assoc (events_like (beside held passes (newer ++ (later ++ before))) one) (since newer (later ++ before)) (since later before))

  -- an event stands between what happened before it and later
  pub at-event : (later before : List Happening) (event : Event) →
      at (later ++ Happens event ∷ before) ≡ since later (Happens event ∷ before) ++ likely before event ∷ at before
  at-event later before event = at-since later (Happens event ∷ before)
      ∙ ap (λ (l : List Event). since later (Happens event ∷ before) ++ l) (at-more event before)

-- what may all happen may happen up to each moment
pub earlier-may : (held : Held) (passes : ℕ) (later before : List Happening) → MayAllHappen held passes (later ++ before) →
    MayAllHappen held passes before
earlier-may held passes [] before may = may
earlier-may held passes (one ∷ later) before may = earlier-may held passes later before may.1
