-- How orders and other open jobs end where each frame comes whole.
use Rattle.std.specs.Option.{option_map_or}
use Rattle.std.specs.List.{list_all, list_any}
use Rattle.std.specs.Prelude.{Result, Ok, Err, length, IsSomeAnd, option_and_then}
use Rattle.std.proofs.Common.{◌≡◌, ◌≢◌, ◌≤◌, ◌<◌, ◌+◌, ℕ, Bool, true, false, not, cond, eqb, ◌&&◌, List, [], ◌∷◌, Option, Some, None, refl}
use Rattle.std.proofs.Common.{sym, ◌∙◌, ap, ap₂, subst, is_some, is_none, IsSome, inl, inr, option_map, arith, ◌||◌, map, ◌↔◌}
use Rattle.std.proofs.lemmas.Bool.{and_right, cond-false, cond-true, eq-eqb, eqb-true, false≢true}
use Rattle.pm_table.specs.{Cell.cell_code, Protection.is_allowed, VoutMode.mode_of, declared.cell.Cell.Cell}
use Rattle.pm_table.specs.{declared.cell.Cell.TheVariants.Protect, declared.fault.TableFault.TableFault}
use Rattle.pm_table.specs.{declared.vout_mode.VoutMode.VoutMode}
use Rattle.pm_table.specs.declared.vout_mode.VoutMode.TheVariants.{Direct, Linear}
use Rattle.pm_frame.specs.declared.message.Message.{Message}
use Rattle.pm_frame.specs.Layout.{IsWrite, is_read_message}
use Rattle.pm_model.specs.Settings.{Words, word_at}
use Rattle.pm_device.specs.{Start.IsSound, declared.config.Config.Config}
use Rattle.pm_device.specs.Held.{mode_for, Held}
use Rattle.pm_host.specs.{Jobs.accepted_job, Lemmas.writes_cell, Question.question_message, Sound.IsStage, declared.command.Command.Command}
use Rattle.pm_host.specs.{declared.job.Job.Job, declared.job.JobEnd.JobEnd, declared.stage.Stage.Stage}
use Rattle.pm_host.specs.Ended.{job_in, stage_job}
use Rattle.pm_host.specs.Frames.{frames_from, frames_left}
use Rattle.pm_host.specs.Messages.{cell_read, command_message, cell_write}
use Rattle.pm_host.specs.Refusals.{IsSetup, micro_word}
use Rattle.pm_host.specs.Summary.{Summary, stage_message, begins, host_next, sending_in}
use Rattle.pm_host.specs.Transcript as host
use Rattle.pm_host.specs.declared.job.JobEnd.TheVariants.{Done, Differs, Learned, Unknown}
use Rattle.pm_host.specs.declared.question.Question.TheVariants.{Word, Mode, Coefficients}
use Rattle.pm_host.specs.declared.stage.Stage.TheVariants.{Asks, Reads, Sends as SendsCommand, Writes}
use Rattle.pm_world.specs.{Below.Below, Job.asked_by, Legal.frame_of, Setup.setup_of, declared.event.Arrival.Arrival}
use Rattle.pm_world.specs.{declared.event.Arrival.TheVariants.Whole, declared.event.Back.Back, declared.event.Event.Event}
use Rattle.pm_world.specs.{declared.way.Way.Way}
use Rattle.pm_world.specs.GoodBus.{IsRead, IsWritten, WasWritten, word_held_after, stage_after, delivers_whole, is_beside}
use Rattle.pm_world.specs.GoodTurns.{ComeWhole, ComesWhole, Ends, GoesOn, OpenJobsEnd, Turn, Turns, good_end, is_taken, mode_turn}
use Rattle.pm_world.specs.GoodTurns.{order_end_holding, read_turn, send_turn, turn_of}
use Rattle.pm_world.specs.Honest.{IsSpelled, WentThrough, honest, is_whole, sent_by}
use Rattle.pm_world.specs.Life.{life, now, state_of, AreTaken}
use Rattle.pm_world.specs.State.{State, asked, HasWord, event_limit, next}
use Rattle.pm_world.specs.Way.{HasGone, WasSent, WasUndisturbed, begun, delivered_on, exchanged_on, finished_on, way_goes_on, hears_whole}
use Rattle.pm_world.specs.Way.{way_read_on, way_after, way_of}
use Rattle.pm_world.specs.declared.event.Back.TheVariants as back
use Rattle.pm_world.specs.declared.event.Event.TheVariants.{Deliver, Finish, Exchange, OrderMicro, Reading, RestartDevice, RestartHost}
use Rattle.pm_world.specs.declared.way.Way.TheVariants.{Off, Sent, Written, Through}
use Rattle.pm_world.proofs.Events.{IsLived, now-setup, now-sound, whole-cell, earlier, now-next, order-device, order-entries, order-stage}
use Rattle.pm_world.proofs.Events.{asked-next, frame-write, lived-by, next-deliver-host, now-taken, sent-stage, taken-whole}
use Rattle.pm_world.proofs.Formats.{open-end}
use Rattle.pm_world.proofs.GoodFrames.{LearnsMode, coefficients-learned, mode-learned, send-done, written-lived, check-done, order-again}
use Rattle.pm_world.proofs.GoodFrames.{order-done, order-last, read-lived, was-answered, resent, unacked-end, write-done, pass-done}

-- What each frame that comes whole makes of an open job, and how the job ends once all its frames do.

-- ---- one frame

-- a job that has ended is open no more
over-so : Below → (config : Config) (passes : ℕ) (events : List Event) (end : JobEnd) → (now config passes events).end ≡ Some end →
    stage_after config passes events ≡ None
unfolding now state_of host.open_job
over-so laws config passes events end is = go (stage_after config passes events) refl where
  setup : host.Setup
  setup = setup_of config passes

  entries : List host.Entry
  entries = (life config passes events).entries

  none : job_in (now config passes events).host ≡ None
  none = laws.ends_are_told.job setup entries ∙ ap (λ e. cond (is_none e) (host.last_job entries) None) is

  go : (o : Option Stage) → stage_after config passes events ≡ o → o ≡ None
  go None e = refl
  go (Some stage) e = let bad : Some (stage_job stage) ≡ None = sym (ap (option_map stage_job) e) ∙ none in cc

-- a job that is open has no end
open-so : Below → (config : Config) (passes : ℕ) (events : List Event) (stage : Stage) →
    stage_after config passes events ≡ Some stage → (now config passes events).end ≡ None
unfolding now state_of
open-so laws config passes events stage is =
    open-end (setup_of config passes) (life config passes events).entries
    (subst IsSome (laws.ends_are_told.job (setup_of config passes) (life config passes events).entries)
    (ap (λ (o : Option Stage). is_some (option_map stage_job o)) is))

-- a turn that ends the job, and one that goes on
ends-so : Below → (config : Config) (passes : ℕ) (events : List Event) (end : JobEnd) → (now config passes events).end ≡ Some end →
    Turns config passes events (Ends end)
ends-so laws config passes events end is = (over-so laws config passes events end is, is)

goes-so : Below → (config : Config) (passes : ℕ) (events : List Event) (stage : Stage) → stage_after config passes events ≡ Some stage →
    Turns config passes events (GoesOn stage)
goes-so laws config passes events stage is = (is, open-so laws config passes events stage is)

-- two numbers that a test tells apart differ
differ-so : (a b : ℕ) → eqb a b ≡ false → a ≢ b
differ-so a b apart e = false≢true (sym apart ∙ eq-eqb a b e)

-- one that is below another, and whose successor isn't that one
next-below : (a b : ℕ) → a < b → eqb (a + 1) b ≡ false → a + 1 < b
next-below a b below apart = let other = differ-so (a + 1) b apart in omega (arith, below, other)

-- an order is in a pass that the host has
pass-left : Below → {config : Config} {passes : ℕ} {events : List Event} {cell : Cell} {word pass : ℕ} → IsLived config passes events →
    (now config passes events).host.stage ≡ Some (Reads cell word pass) → pass < passes
pass-left laws {config = config} {passes = passes} {events = events} {pass = pass} lived stage =
    subst (λ (u : host.Setup). pass < u.passes) (now-setup config passes events)
    (subst (IsStage (now config passes events).host) stage (now-sound laws config passes events lived).stage).left

-- the read of an order
read-turns : Below → {config : Config} {passes : ℕ} {before after : List Event} {cell : Cell} {word pass : ℕ} →
    IsLived config passes before → IsLived config passes after →
    (now config passes before).host.stage ≡ Some (Reads cell word pass) → IsRead config passes (cell_read cell) before after →
    Turns config passes after (read_turn passes cell word pass (word_held_after config passes before cell))
read-turns laws {config = config} {passes = passes} {before = before} {after = after} {cell = cell} {word = word} {pass = pass} lived all
    stage read = go (eqb held word) (eqb (pass + 1) passes) refl refl
  where
    held : ℕ
    held = word_held_after config passes before cell

    go : (same last : Bool) → eqb held word ≡ same → eqb (pass + 1) passes ≡ last →
        Turns config passes after (cond same (Ends Done) (cond last (Ends (Differs held)) (GoesOn (Writes cell word (pass + 1)))))
    go true last s l = ends-so laws config passes after Done (order-done laws lived all stage read (eqb-true held word s)).done
    go false true s l =
        ends-so laws config passes after (Differs held)
        (order-last laws lived all stage read (differ-so held word s) (eqb-true (pass + 1) passes l)).1
    go false false s l =
        goes-so laws config passes after (Writes cell word (pass + 1))
        (order-again laws lived all stage read (differ-so held word s) (next-below pass passes (pass-left laws lived stage) l)).0

-- a command is in a try that the host has
try-left : Below → {config : Config} {passes : ℕ} {events : List Event} {command : Command} {tries : ℕ} → IsLived config passes events →
    (now config passes events).host.stage ≡ Some (SendsCommand command tries) → tries < passes
try-left laws {config = config} {passes = passes} {events = events} {tries = tries} lived stage =
    subst (λ (u : host.Setup). tries < u.passes) (now-setup config passes events)
    (subst (IsStage (now config passes events).host) stage (now-sound laws config passes events lived).stage).left

-- the write of a command
send-turns : Below → {config : Config} {passes : ℕ} {before after : List Event} {command : Command} {tries : ℕ} (acked : Bool) →
    IsLived config passes before → IsLived config passes after →
    (now config passes before).host.stage ≡ Some (SendsCommand command tries) →
    IsWritten (frame_of config.addr (command_message command)) acked before after →
    Turns config passes after (send_turn passes command tries acked)
send-turns laws {config = config} {passes = passes} {after = after} true lived all stage w =
    ends-so laws config passes after Done (send-done laws all stage w).0
send-turns laws {config = config} {passes = passes} {after = after} {command = command} {tries = tries} false lived all stage w =
    go (eqb (tries + 1) passes) refl
  where
    go : (last : Bool) → eqb (tries + 1) passes ≡ last →
        Turns config passes after (cond last (Ends Unknown) (GoesOn (SendsCommand command (tries + 1))))
    go true l = ends-so laws config passes after Unknown (unacked-end laws all stage (eqb-true (tries + 1) passes l) w).0
    go false l =
        goes-so laws config passes after (SendsCommand command (tries + 1))
        (resent laws all stage (next-below tries passes (try-left laws lived stage) l) w).0

-- the read of VOUT_MODE
mode-turns : Below → {config : Config} {passes : ℕ} {before after : List Event} {output tries : ℕ} →
    IsLived config passes before → IsLived config passes after → IsSpelled config →
    (now config passes before).host.stage ≡ Some (Asks (Mode output) tries) →
    IsRead config passes (question_message (Mode output)) before after →
    Turns config passes after (mode_turn output (mode_of (mode_for config output)))
mode-turns laws {config = config} {passes = passes} {after = after} {output = output} lived all spelled stage read =
    go (mode_of (mode_for config output)) refl (mode-learned laws lived all spelled stage read)
  where
    go : (mode : Result VoutMode TableFault) → mode_of (mode_for config output) ≡ mode →
        LearnsMode config passes output after → Turns config passes after (mode_turn output mode)
    go (Ok Direct) e (inl found) = absurd (found.0 e)
    go (Ok Direct) e (inr asks) = goes-so laws config passes after (Asks (Coefficients output) 0) asks.1
    go (Ok (Linear exponent)) e (inl found) = ends-so laws config passes after Learned found.1.learned
    go (Ok (Linear exponent)) e (inr asks) = (let bad : Ok (Linear exponent) ≡ Ok Direct = sym e ∙ asks.0 in cc)
    go (Err fault) e (inl found) = ends-so laws config passes after Learned found.1.learned
    go (Err fault) e (inr asks) = (let bad : Err fault ≡ Ok Direct = sym e ∙ asks.0 in cc)

-- what came before a frame was lived through
whole-lived : {config : Config} {passes : ℕ} (acked : Bool) (stage : Stage) {before after : List Event} → IsLived config passes after →
    ComesWhole config passes acked stage before after → IsLived config passes before
whole-lived acked (Asks question tries) all frame = read-lived all frame
whole-lived acked (Reads cell word pass) all frame = read-lived all frame
whole-lived acked (Writes cell word pass) all frame = written-lived all frame
whole-lived acked (SendsCommand command tries) all frame = written-lived all frame

-- each frame
turns : Below → {config : Config} {passes : ℕ} {before after : List Event} (acked : Bool) (stage : Stage) → IsSpelled config →
    IsLived config passes before → IsLived config passes after → stage_after config passes before ≡ Some stage →
    ComesWhole config passes acked stage before after →
    Turns config passes after (turn_of config passes before acked stage)
turns laws {config = config} {passes = passes} {after = after} acked (Asks (Word cell) tries) spelled lived all is frame =
    ends-so laws config passes after Done (check-done laws lived all is frame).done
turns laws {config = config} {passes = passes} {after = after} acked (Asks (Mode output) tries) spelled lived all is frame =
    mode-turns laws lived all spelled is frame
turns laws {config = config} {passes = passes} {after = after} acked (Asks (Coefficients output) tries) spelled lived all is frame =
    ends-so laws config passes after Learned (coefficients-learned laws lived all spelled is frame).learned
turns laws {config = config} {passes = passes} {after = after} acked (Writes cell word pass) spelled lived all is frame =
    goes-so laws config passes after (Reads cell word pass) (write-done laws lived all is frame).stage
turns laws {config = config} {passes = passes} {after = after} acked (Reads cell word pass) spelled lived all is frame =
    read-turns laws lived all is frame
turns laws {config = config} {passes = passes} {after = after} acked (SendsCommand command tries) spelled lived all is frame =
    send-turns laws acked lived all is frame

-- ---- all frames

-- nothing of how a job ends is lost by a turn
abbrev Keeps : Config → ℕ → List Event → List Event → Stage → Turn → Type 0
Keeps config passes before after stage (Ends end) = end ≡ good_end config passes before stage
Keeps config passes before after stage (GoesOn next) = good_end config passes after next ≡ good_end config passes before stage

-- at least one frame less is left after a turn
abbrev Fewer : ℕ → Stage → Turn → Type 0
Fewer passes stage (Ends end) = 1 ≤ frames_from passes stage
Fewer passes stage (GoesOn next) = 1 + frames_from passes next ≤ frames_from passes stage

-- an order whose write is allowed is done, whatever its cell held
done-anyway : (b : Bool) (end : JobEnd) → cond b Done (cond true Done end) ≡ Done
done-anyway true end = refl
done-anyway false end = refl

-- an order whose cell holds its word is done
held-done : (takes : Bool) (word held : ℕ) → held ≡ word → order_end_holding takes word held ≡ Done
held-done takes word held e = cond-true (eqb held word) _ _ (eq-eqb held word e)

-- the write of an order
write-keeps : {config : Config} {passes : ℕ} {cell : Cell} {word pass : ℕ} {acked : Bool} {before after : List Event} →
    WasWritten config passes cell word pass acked before after →
    good_end config passes after (Reads cell word pass) ≡ good_end config passes before (Writes cell word pass)
write-keeps {config = config} {passes = passes} {cell = cell} {word = word} {pass = pass} {before = before} {after = after} w =
    go (is_allowed (word_held_after config passes before Protect) (cell_code cell)) refl
  where
    left : Bool
    left = not (eqb (pass + 1) passes)

    go : (allowed : Bool) → is_allowed (word_held_after config passes before Protect) (cell_code cell) ≡ allowed →
        order_end_holding (left && is_allowed (word_held_after config passes after Protect) (cell_code cell)) word
        (word_held_after config passes after cell)
        ≡ order_end_holding allowed word (word_held_after config passes before cell)
    go true e =
        held-done (left && is_allowed (word_held_after config passes after Protect) (cell_code cell)) word
        (word_held_after config passes after cell)
        (w.taken e)
        ∙ sym (done-anyway (eqb (word_held_after config passes before cell) word) (Differs (word_held_after config passes before cell)))
    go false e =
        ap (λ (ws : Words). order_end_holding (left && is_allowed (word_at ws Protect) (cell_code cell)) word (word_at ws cell)) (w.kept e)
        ∙ ap (λ b. order_end_holding b word (word_held_after config passes before cell))
        (and_right left (is_allowed (word_held_after config passes before Protect) (cell_code cell)) e)

-- the read of an order
read-keeps : (config : Config) (passes : ℕ) (cell : Cell) (word pass : ℕ) (before after : List Event) →
    (now config passes after).device.words ≡ (now config passes before).device.words →
    Keeps config passes before after (Reads cell word pass) (read_turn passes cell word pass (word_held_after config passes before cell))
read-keeps config passes cell word pass before after words =
    go (eqb held word) (eqb (pass + 1) passes) refl refl
  where
    held : ℕ
    held = word_held_after config passes before cell

    allowed : Bool
    allowed = is_allowed (word_held_after config passes before Protect) (cell_code cell)

    go : (same last : Bool) → eqb held word ≡ same → eqb (pass + 1) passes ≡ last →
        Keeps config passes before after (Reads cell word pass)
        (cond same (Ends Done) (cond last (Ends (Differs held)) (GoesOn (Writes cell word (pass + 1)))))
    go true last s l =
        sym (held-done (not (eqb (pass + 1) passes) && allowed) word held (eqb-true held word s))
    go false true s l = sym (ap (λ b. order_end_holding (not b && allowed) word held) l ∙ cond-false (eqb held word) Done (Differs held) s)
    go false false s l =
        ap (λ (ws : Words). order_end_holding (is_allowed (word_at ws Protect) (cell_code cell)) word (word_at ws cell)) words
        ∙ sym (ap (λ b. order_end_holding (not b && allowed) word held) l)

-- the read of VOUT_MODE
mode-keeps : (config : Config) (passes : ℕ) (before after : List Event) (output tries : ℕ) (mode : Result VoutMode TableFault) →
    Keeps config passes before after (Asks (Mode output) tries) (mode_turn output mode)
mode-keeps config passes before after output tries (Ok Direct) = refl
mode-keeps config passes before after output tries (Ok (Linear exponent)) = refl
mode-keeps config passes before after output tries (Err fault) = refl

-- each frame, which is acknowledged where it is a command's
keeps : Below → {config : Config} {passes : ℕ} {before after : List Event} (acked : Bool) (stage : Stage) →
    IsLived config passes before → IsLived config passes after → stage_after config passes before ≡ Some stage →
    is_taken acked stage ≡ true → ComesWhole config passes acked stage before after →
    Keeps config passes before after stage (turn_of config passes before acked stage)
keeps laws acked (Asks (Word cell) tries) lived all is well frame = refl
keeps laws {config = config} {passes = passes} {before = before} {after = after} acked (Asks (Mode output) tries) lived all is well frame =
    mode-keeps config passes before after output tries (mode_of (mode_for config output))
keeps laws acked (Asks (Coefficients output) tries) lived all is well frame = refl
keeps laws acked (Writes cell word pass) lived all is well frame = write-keeps (write-done laws lived all is frame)
keeps laws {config = config} {passes = passes} {before = before} {after = after} acked (Reads cell word pass) lived all is well frame =
    read-keeps config passes cell word pass before after
    (was-answered laws (cell_read cell) all (ap (option_map stage_message) is) frame).words
keeps laws true (SendsCommand command tries) lived all is well frame = refl
keeps laws false (SendsCommand command tries) lived all is well frame = cc

-- what is left of a stage's frames
send-fewer : (passes : ℕ) (command : Command) (tries : ℕ) (acked : Bool) → tries < passes →
    Fewer passes (SendsCommand command tries) (send_turn passes command tries acked)
send-fewer passes command tries true left = omega (arith, left)
send-fewer passes command tries false left = go (eqb (tries + 1) passes) where
  go : (last : Bool) → Fewer passes (SendsCommand command tries) (cond last (Ends Unknown) (GoesOn (SendsCommand command (tries + 1))))
  go true = omega (arith, left)
  go false = omega (arith, left)

read-fewer : (passes : ℕ) (cell : Cell) (word pass held : ℕ) → pass < passes →
    Fewer passes (Reads cell word pass) (read_turn passes cell word pass held)
read-fewer passes cell word pass held left = go (eqb held word) (eqb (pass + 1) passes) where
  go : (same last : Bool) → Fewer passes (Reads cell word pass)
      (cond same (Ends Done) (cond last (Ends (Differs held)) (GoesOn (Writes cell word (pass + 1)))))
  go true last = omega (arith, left)
  go false true = omega (arith, left)
  go false false = omega (arith, left)

mode-fewer : (passes output tries : ℕ) (mode : Result VoutMode TableFault) → tries < passes →
    Fewer passes (Asks (Mode output) tries) (mode_turn output mode)
mode-fewer passes output tries (Ok Direct) left = omega (arith, left)
mode-fewer passes output tries (Ok (Linear exponent)) left = omega (arith, left)
mode-fewer passes output tries (Err fault) left = omega (arith, left)

fewer : (config : Config) (passes : ℕ) (before : List Event) (s : Summary) (acked : Bool) (stage : Stage) → s.setup.passes ≡ passes →
    IsStage s (Some stage) → Fewer passes stage (turn_of config passes before acked stage)
fewer config passes before s acked (Asks (Word cell) tries) same is = let left = subst (λ n. tries < n) same is.left in omega (arith, left)
fewer config passes before s acked (Asks (Mode output) tries) same is =
    mode-fewer passes output tries (mode_of (mode_for config output)) (subst (λ n. tries < n) same is.left)
fewer config passes before s acked (Asks (Coefficients output) tries) same is =
    let left = subst (λ n. tries < n) same is.left in omega (arith, left)
fewer config passes before s acked (Writes cell word pass) same is = let left = subst (λ n. pass < n) same is.left in omega (arith, left)
fewer config passes before s acked (Reads cell word pass) same is =
    read-fewer passes cell word pass (word_held_after config passes before cell) (subst (λ n. pass < n) same is.left)
fewer config passes before s acked (SendsCommand command tries) same is =
    send-fewer passes command tries acked (subst (λ n. tries < n) same is.left)

-- how many frames are left, by the stage
left-is : (config : Config) (passes : ℕ) (events : List Event) (o : Option Stage) → stage_after config passes events ≡ o →
    frames_left (now config passes events).host ≡ option_map_or (frames_from passes) o 0
left-is config passes events o is =
    ap₂ (λ n (x : Option Stage). option_map_or (frames_from n) x 0) (ap (λ (u : host.Setup). u.passes) (now-setup config passes events)) is

-- each frame that comes whole leaves one less
one-less : Below → {config : Config} {passes : ℕ} {before after : List Event} (acked : Bool) (stage : Stage) → IsSpelled config →
    IsLived config passes before → IsLived config passes after → stage_after config passes before ≡ Some stage →
    ComesWhole config passes acked stage before after →
    1 + frames_left (now config passes after).host ≤ frames_left (now config passes before).host
one-less laws {config = config} {passes = passes} {before = before} {after = after} acked stage spelled lived all is frame =
    go (turn_of config passes before acked stage) (turns laws acked stage spelled lived all is frame)
    (fewer config passes before (now config passes before).host acked stage
    (ap (λ (u : host.Setup). u.passes) (now-setup config passes before))
    (subst (IsStage (now config passes before).host) is (now-sound laws config passes before lived).stage))
  where
    was : frames_left (now config passes before).host ≡ frames_from passes stage
    was = left-is config passes before (Some stage) is

    go : (t : Turn) → Turns config passes after t → Fewer passes stage t →
        1 + frames_left (now config passes after).host ≤ frames_left (now config passes before).host
    go (Ends end) over less = let none = left-is config passes after None over.0 in omega (arith, less, was, none)
    go (GoesOn next) on less = let some = left-is config passes after (Some next) on.0 in omega (arith, less, was, some)

-- what came before several frames was lived through
all-lived : (config : Config) (passes : ℕ) (frames : List Bool) (before after : List Event) → IsLived config passes after →
    ComeWhole config passes frames before after → IsLived config passes before
all-lived config passes [] before after all none = subst (IsLived config passes) none all
all-lived config passes (acked ∷ more) before after all (stage, middle, is, well, frame, rest) =
    whole-lived acked stage (all-lived config passes more middle after all rest) frame

-- there are no more frames than the job had left
frames-few : Below → (config : Config) (passes : ℕ) (frames : List Bool) (before after : List Event) → IsSpelled config →
    IsLived config passes after → ComeWhole config passes frames before after →
    length frames + frames_left (now config passes after).host ≤ frames_left (now config passes before).host
frames-few laws config passes [] before after spelled all none =
    let same = ap (λ es. frames_left (now config passes es).host) none in omega (arith, same)
frames-few laws config passes (acked ∷ more) before after spelled all (stage, middle, is, well, frame, rest) =
    let half = all-lived config passes more middle after all rest in
    let rest_few = frames-few laws config passes more middle after spelled all rest in
    let one = one-less laws acked stage spelled (whole-lived acked stage half frame) half is frame in
    omega (arith, rest_few, one)

-- no frame follows an end
none-after : (config : Config) (passes : ℕ) (frames : List Bool) (before after : List Event) → stage_after config passes before ≡ None →
    ComeWhole config passes frames before after → after ≡ before
none-after config passes [] before after over none = none
none-after config passes (acked ∷ more) before after over (stage, middle, is, well, frame, rest) = let bad : Some stage ≡ None =
    sym is ∙ over in cc

-- a job whose frames all come whole ends as its stage says
frames-end : Below → (config : Config) (passes : ℕ) (frames : List Bool) (before after : List Event) (stage : Stage) →
    IsSpelled config → IsLived config passes after → stage_after config passes before ≡ Some stage →
    ComeWhole config passes frames before after → stage_after config passes after ≡ None →
    (now config passes after).end ≡ Some (good_end config passes before stage)
frames-end laws config passes [] before after stage spelled all is none over =
    let bad : Some stage ≡ None = sym is ∙ (sym (ap (stage_after config passes) none) ∙ over) in cc
frames-end laws config passes (acked ∷ more) before after stage spelled all is
    (one, middle, open', well, frame, rest) over =
    go (turn_of config passes before acked one) (turns laws acked one spelled lived half open' frame)
    (keeps laws acked one lived half open' well frame)
    (λ next there. frames-end laws config passes more middle after next spelled all there rest over)
  where
    half : IsLived config passes middle
    half = all-lived config passes more middle after all rest

    lived : IsLived config passes before
    lived = whole-lived acked one half frame

    same : good_end config passes before one ≡ good_end config passes before stage
    same = (let e : Some one ≡ Some stage = sym open' ∙ is in let s : one ≡ stage = cc in ap (good_end config passes before) s)

    go : (t : Turn) → Turns config passes middle t → Keeps config passes before middle one t →
        ((next : Stage) → stage_after config passes middle ≡ Some next →
        (now config passes after).end ≡ Some (good_end config passes middle next)) →
        (now config passes after).end ≡ Some (good_end config passes before stage)
    go (Ends end) closed kept on = ap (λ es. (now config passes es).end) (none-after config passes more middle after closed.0 rest)
        ∙ (closed.1 ∙ ap (λ e. Some e) (kept ∙ same))
    go (GoesOn next) opened kept on = on next opened.0 ∙ ap (λ e. Some e) (kept ∙ same)

-- every open job
pub jobs-end : Below → OpenJobsEnd
jobs-end laws = record {
  turn = λ config passes before after stage acked spelled all is frame.
      turns laws acked stage spelled (whole-lived acked stage all frame) all is frame;
  few = λ config passes frames before after spelled all whole. frames-few laws config passes frames before after spelled all whole;
  ends = λ config passes frames before after stage spelled all is whole over. frames-end laws config passes frames before after stage
      spelled all is whole over;
}

-- An order whose write is delivered whole, and whose read nothing disturbs: its first pass.

-- deliveries alone stand beside a write
all-deliver : (arrivals : List Arrival) → list_all is_beside (map (λ arrival. Deliver arrival) arrivals) ≡ true
all-deliver [] = refl
all-deliver (arrival ∷ arrivals) = all-deliver arrivals

-- some delivery hears the frame whole where one of the arrivals does
any-whole : (frame : List ℕ) (arrivals : List Arrival) →
    list_any (delivers_whole frame) (map (λ arrival. Deliver arrival) arrivals) ≡ list_any (is_whole frame) arrivals
any-whole frame [] = refl
any-whole frame (arrival ∷ arrivals) = ap (λ b. is_whole frame arrival || b) (any-whole frame arrivals)

-- an undisturbed order goes through
pub went-through : Below → {config : Config} {passes : ℕ} (before : List Event) (order : Event) {cell : Cell} {word : ℕ}
    (arrivals : List Arrival) {acked : Bool} →
    IsLived config passes (honest order arrivals acked before) → asked (now config passes before) order ≡ Some (host.Order cell word) →
    is_allowed (word_at (now config passes before).device.words Protect) (cell_code cell) ≡ true →
    list_any (is_whole (frame_of config.addr (cell_write cell word))) arrivals ≡ true →
    WentThrough config passes cell word acked before (honest order arrivals acked before)
went-through laws {config = config} {passes = passes} before order {cell = cell} {word = word} arrivals {acked = acked} lived asks allowed
    whole =
    let frame = frame_of config.addr (cell_write cell word) in
    let middle = Finish acked ∷ sent_by order arrivals before in
    let written : IsWritten frame acked (order ∷ before) middle = record {
      between = map (λ arrival. Deliver arrival) arrivals;
      is = refl;
      beside = all-deliver arrivals;
      whole = any-whole frame arrivals ∙ whole;
    } in
    let first = written-lived (earlier lived) written in
    let begun = now-next laws config passes before order first in
    let e = pass-done laws first (earlier lived) lived
    (ap (λ (t : State). t.host.stage) begun ∙ order-stage (now config passes before) order cell word asks)
    (ap (λ (h : Held). is_allowed (word_at h.words Protect) (cell_code cell))
    (ap (λ (t : State). t.device) begun ∙ order-device (now config passes before) order cell word asks) ∙ allowed)
    written (whole-cell config passes cell middle) in
    record {
      answer = e.answer;
      good = e.good;
      two_frames = e.two_frames
          ∙ ap (λ xs. host.Got e.answer ∷ host.Finished acked ∷ xs) (order-entries config passes before order cell word asks);
      done = e.done;
      confirmed = e.confirmed;
      held = e.held;
    }

-- How far an order has come is what form its events have.

-- the form of events at each way
abbrev FormOf : Config → ℕ → List Event → Way → Type 0
FormOf config passes events Off = Unit {0}
FormOf config passes events (Sent cell word whole) = WasSent config passes cell word whole events
FormOf config passes events (Written cell word) = (acked : Bool) × (rest : List Event) × (events ≡ Finish acked ∷ rest)
    × WasSent config passes cell word true rest
FormOf config passes events (Through cell word) = WasUndisturbed config passes cell word events

-- what a host hears of its write while that is being sent
heard-of : (h : Summary) (addr : ℕ) (cell : Cell) (word : ℕ) (arrival : Arrival) → h.setup.addr ≡ addr
    → h.stage ≡ Some (Writes cell word 0) →
    hears_whole h arrival ≡ is_whole (frame_of addr (cell_write cell word)) arrival
heard-of h addr cell word arrival at stage =
    ap (λ o. option_map_or (λ m. not (is_read_message m) && is_whole (frame_of h.setup.addr m) arrival) (option_map stage_message o) false)
    stage
    ∙ (ap (λ b. not b && is_whole (frame_of h.setup.addr (cell_write cell word)) arrival) (writes_cell cell word)
    ∙ ap (λ a. is_whole (frame_of a (cell_write cell word)) arrival) at)

module _ (laws : Below) (config : Config) (passes : ℕ) where
  -- an order's first write is heard whole in a life exactly if it arrives whole
  sent-heard : (events : List Event) (cell : Cell) (word : ℕ) (arrival : Arrival) →
      IsLived config passes (Deliver arrival ∷ events) → (now config passes events).host.stage ≡ Some (Writes cell word 0) →
      hears_whole (now config passes (Deliver arrival ∷ events)).host arrival
      ≡ is_whole (frame_of config.addr (cell_write cell word)) arrival
  sent-heard events cell word arrival lived stage =
      let s = now config passes events in
      ap (λ (h : Summary). hears_whole h arrival)
      (ap (λ (t : State). t.host) (now-next laws config passes events (Deliver arrival) lived) ∙ next-deliver-host s arrival)
      ∙ heard-of s.host config.addr cell word arrival (ap (λ (u : host.Setup). u.addr) (now-setup config passes events)) stage

  -- the way has its form after a delivery
  delivered-form : (before : List Event) (arrival : Arrival) (way : Way) →
      IsLived config passes (Deliver arrival ∷ before) → FormOf config passes before way →
      FormOf config passes (Deliver arrival ∷ before)
      (delivered_on (hears_whole (now config passes (Deliver arrival ∷ before)).host arrival) way)
  delivered-form before arrival (Sent cell word whole) lived form =
      let stage = subst (λ es. (now config passes es).host.stage ≡ Some (Writes cell word 0)) (sym form.is)
      (sent-stage laws form.before form.order form.arrivals (subst (IsLived config passes) form.is (earlier lived)) form.asks) in
      record {
        order = form.order;
        arrivals = arrival ∷ form.arrivals;
        before = form.before;
        is = ap (λ (es : List Event). Deliver arrival ∷ es) form.is;
        asks = form.asks;
        allowed = form.allowed;
        heard = ap₂ (λ a b. a || b) (sym (sent-heard before cell word arrival lived stage)) form.heard;
      }
  delivered-form before arrival way lived form = tt

  -- after the end of a write
  finished-form : (before : List Event) (acked : Bool) (way : Way) → FormOf config passes before way →
      FormOf config passes (Finish acked ∷ before) (finished_on way)
  finished-form before acked (Sent cell word true) form = (acked, before, refl, form)
  finished-form before acked way form = tt

  -- after an exchange
  exchanged-form : (before : List Event) (arrival : Arrival) (returned : Back) (way : Way) →
      FormOf config passes before way → FormOf config passes (Exchange arrival returned ∷ before) (exchanged_on arrival returned way)
  exchanged-form before Whole back.Whole (Written cell word) (acked, rest, is, sent) = record {
    order = sent.order;
    arrivals = sent.arrivals;
    acked = acked;
    before = sent.before;
    is = ap (λ (es : List Event). Exchange Whole back.Whole ∷ es) (is ∙ ap (λ (es : List Event). Finish acked ∷ es) sent.is);
    asks = sent.asks;
    allowed = sent.allowed;
    heard = sent.heard;
  }
  exchanged-form before arrival returned way form = tt

  -- an event that asks for a job, and has a word, asks for one that is accepted
  asked-some : (s : State) (event : Event) → is_some (asked_by event) ≡ true → HasWord s event
      → (job : host.Job) × (asked s event ≡ Some job)
  asked-some s (OrderMicro cell x) asks word = go (micro_word s.host cell x) word where
    go : (o : Option ℕ) → IsSome o → (job : host.Job) × (option_map (λ w. host.Order cell w) o ≡ Some job)
    go None some = cc
    go (Some w) some = (host.Order cell w, refl)
  asked-some s event asks word = go (asked s event) refl where
    go : (o : Option host.Job) → asked s event ≡ o → (job : host.Job) × (asked s event ≡ Some job)
    go (Some job) e = (job, e)
    go None e = cc

  -- the stage after an event that asks for a job is the one that the job begins with
  job-stage : (s : State) (event : Event) (job : host.Job) → asked s event ≡ Some job →
      (next s event).host.stage ≡ (begins s.host job).after.stage
  unfolding host_next
  job-stage s event job asks = ap (λ (t : State). t.host.stage) (asked-next s event job asks)

  -- the way has its form after a job was accepted
  begun-form : (before : List Event) (event : Event) (job : host.Job) →
      IsLived config passes (event ∷ before) → asked (now config passes before) event ≡ Some job →
      FormOf config passes (event ∷ before) (begun (now config passes (event ∷ before)) (now config passes (event ∷ before)).host.stage)
  begun-form before event job lived asks =
      let s = now config passes before in
      let t = now config passes (event ∷ before) in
      let same = now-next laws config passes before event lived in
      let stage = ap (λ (u : State). u.host.stage) same ∙ job-stage s event job asks in
      subst (λ o. FormOf config passes (event ∷ before) (begun t o)) (sym stage) (of job asks same)
    where
      of : (job : host.Job) → asked (now config passes before) event ≡ Some job →
          now config passes (event ∷ before) ≡ next (now config passes before) event →
          FormOf config passes (event ∷ before)
          (begun (now config passes (event ∷ before)) (begins (now config passes before).host job).after.stage)
      of (host.Order cell word) asks same =
          go (is_allowed (word_at (now config passes (event ∷ before)).device.words Protect) (cell_code cell)) refl
        where
          go : (b : Bool) → is_allowed (word_at (now config passes (event ∷ before)).device.words Protect) (cell_code cell) ≡ b →
              FormOf config passes (event ∷ before) (cond b (Sent cell word false) Off)
          go true allowed = record {
            order = event;
            arrivals = [];
            before = before;
            is = refl;
            asks = asks;
            allowed = sym (ap (λ (h : Held). is_allowed (word_at h.words Protect) (cell_code cell))
                (ap (λ (u : State). u.device) same ∙ order-device (now config passes before) event cell word asks)) ∙ allowed;
            heard = refl;
          }
          go false allowed = tt
      of job asks same = tt

  -- after one more event
  step-form : (before : List Event) (event : Event) (way : Way) →
      IsLived config passes (event ∷ before) → FormOf config passes before way →
      FormOf config passes (event ∷ before) (way_after (now config passes (event ∷ before)) event way)
  step-form before (Deliver arrival) way lived form = delivered-form before arrival way lived form
  step-form before (Finish acked) way lived form = finished-form before acked way form
  step-form before (Exchange arrival returned) way lived form =
      exchanged-form before arrival returned way form
  step-form before RestartDevice way lived form = tt
  step-form before RestartHost way lived form = tt
  step-form before (Reading output code word) way lived form = tt
  step-form before event way lived form =
      let found = asked-some (now config passes before) event refl lived.legal.0.word in
      begun-form before event found.0 lived found.1

  -- each life has such a form
  formed : (events : List Event) → IsLived config passes events →
      FormOf config passes events (way_of config passes events)
  unfolding way_of
  formed [] lived = tt
  formed (event ∷ before) lived =
      step-form before event (way_of config passes before) lived (formed before (earlier lived))

  -- an event with a job asks for one
  asks-one : (s : State) (event : Event) (job : host.Job) → asked s event ≡ Some job → is_some (asked_by event) ≡ true
  asks-one s event job asks = go (asked_by event) asks where
    go : (o : Option Job) → option_and_then (accepted_job s.host) o ≡ Some job → is_some o ≡ true
    go None e = cc
    go (Some one) e = refl

  -- an order and its deliveries are on their way
  way-sent : (before : List Event) (order : Event) (arrivals : List Arrival) (cell : Cell) (word : ℕ) →
      IsLived config passes (sent_by order arrivals before) → asked (now config passes before) order ≡ Some (host.Order cell word) →
      is_allowed (word_at (now config passes before).device.words Protect) (cell_code cell) ≡ true →
      way_of config passes (sent_by order arrivals before)
      ≡ Sent cell word (list_any (is_whole (frame_of config.addr (cell_write cell word))) arrivals)
  unfolding way_of
  way-sent before order [] cell word lived asks allowed =
      let s = now config passes before in
      let t = now config passes (order ∷ before) in
      let same = now-next laws config passes before order lived in
      let stage = ap (λ (u : State). u.host.stage) same ∙ order-stage s order cell word asks in
      ap (λ b. cond b (begun t t.host.stage) (way_goes_on t order (way_of config passes before)))
      (asks-one s order (host.Order cell word) asks)
      ∙ (ap (begun t) stage
      ∙ ap (λ b. cond b (Sent cell word false) Off)
      (ap (λ (h : Held). is_allowed (word_at h.words Protect) (cell_code cell))
      (ap (λ (u : State). u.device) same ∙ order-device s order cell word asks) ∙ allowed))
  way-sent before order (arrival ∷ arrivals) cell word lived asks allowed =
      let events = sent_by order arrivals before in
      ap₂ (λ b way. delivered_on b way)
      (sent-heard events cell word arrival lived (sent-stage laws before order arrivals (earlier lived) asks))
      (way-sent before order arrivals cell word (earlier lived) asks allowed)

  -- an order is through after its end and its read
  way-through : (events : List Event) (cell : Cell) (word : ℕ) (acked : Bool) →
      way_of config passes events ≡ Sent cell word true →
      way_of config passes (Exchange Whole back.Whole ∷ Finish acked ∷ events) ≡ Through cell word
  unfolding way_of
  way-through events cell word acked sent = ap (λ way. way_read_on (finished_on way)) sent

-- on its way exactly where the events have that form
pub sent-by : Below → {config : Config} {passes : ℕ} {events : List Event} {cell : Cell} {word : ℕ} {whole : Bool} →
    IsLived config passes events →
    (way_of config passes events ≡ Sent cell word whole) ↔ WasSent config passes cell word whole events
sent-by laws {config = config} {passes = passes} {events = events} {cell = cell} {word = word} {whole = whole} lived = (
  λ is. subst (FormOf config passes events) is (formed laws config passes events lived),
  λ form. ap (way_of config passes) form.is
      ∙ (way-sent laws config passes form.before form.order form.arrivals cell word (subst (IsLived config passes) form.is lived) form.asks
      form.allowed
      ∙ ap (λ b. Sent cell word b) form.heard),
)

-- the events before the last two
earliest : {config : Config} {passes : ℕ} {one other : Event} {before : List Event} → IsLived config passes (one ∷ other ∷ before) →
    IsLived config passes before
earliest lived = earlier (earlier lived)

-- through exactly where they have that
pub through-by : Below → {config : Config} {passes : ℕ} {events : List Event} {cell : Cell} {word : ℕ} → IsLived config passes events →
    (way_of config passes events ≡ Through cell word) ↔ WasUndisturbed config passes cell word events
through-by laws {config = config} {passes = passes} {events = events} {cell = cell} {word = word} lived = (
  λ is. subst (FormOf config passes events) is (formed laws config passes events lived),
  λ form. ap (way_of config passes) form.is
      ∙ way-through laws config passes (sent_by form.order form.arrivals form.before) cell word form.acked
      (way-sent laws config passes form.before form.order form.arrivals cell word
      (earliest (subst (IsLived config passes) form.is lived)) form.asks form.allowed
      ∙ ap (λ b. Sent cell word b) form.heard),
)

-- such an order went through
pub gone-by : Below → {config : Config} {passes : ℕ} {events : List Event} {cell : Cell} {word : ℕ} → IsLived config passes events →
    WasUndisturbed config passes cell word events → HasGone config passes cell word events
gone-by laws {config = config} {passes = passes} {cell = cell} {word = word} lived form = record {
  acked = form.acked;
  before = form.before;
  went = subst (λ es. WentThrough config passes cell word form.acked form.before es) (sym form.is)
      (went-through laws form.before form.order form.arrivals (subst (IsLived config passes) form.is lived) form.asks form.allowed
      form.heard);
}

-- one whose write was heard whole goes through by its end and its read, which are taken
pub ahead-by : Below → (config : Config) (passes : ℕ) (events : List Event) (cell : Cell) (word : ℕ) (acked : Bool) →
    IsSound config → IsSetup (setup_of config passes) → AreTaken config passes events →
    way_of config passes events ≡ Sent cell word true → (now config passes events).taken + 2 ≤ event_limit →
    AreTaken config passes (Exchange Whole back.Whole ∷ Finish acked ∷ events)
    × HasGone config passes cell word (Exchange Whole back.Whole ∷ Finish acked ∷ events)
ahead-by laws config passes events cell word acked sound made taken way room =
    let form = (sent-by laws (lived-by config passes events sound made taken)).0 way in
    let count = now-taken config passes events in
    let many = ap (λ (es : List Event). length es) form.is in
    let all : AreTaken config passes (Exchange Whole back.Whole ∷ Finish acked ∷ events) =
    subst (λ es. AreTaken config passes (Exchange Whole back.Whole ∷ Finish acked ∷ es)) (sym form.is)
    (taken-whole laws form.before form.order form.arrivals acked
    (record { sound = sound; made = made; taken = subst (AreTaken config passes) form.is taken; room = omega arith }) form.asks) in
    let lived = lived-by config passes (Exchange Whole back.Whole ∷ Finish acked ∷ events) sound made all in (
      all,
      gone-by laws lived ((through-by laws lived).0 (way-through laws config passes events cell word acked way)),
    )

-- the code's test of a write's frame is the definition's
pub heard-shown : (h : Summary) (arrival : Arrival) (frame : List ℕ) →
    IsSomeAnd (sending_in h) (λ message. IsWrite h.setup.addr message frame) → is_whole frame arrival ≡ hears_whole h arrival
heard-shown h arrival frame shown = go (sending_in h) shown where
  go : (o : Option Message) → IsSomeAnd o (λ message. IsWrite h.setup.addr message frame) → is_whole frame arrival
      ≡ option_map_or (λ m. not (is_read_message m) && is_whole (frame_of h.setup.addr m) arrival) o false
  go None is = absurd is
  go (Some message) is =
      ap (λ f. is_whole f arrival) (is.spelled ∙ sym (frame-write h.setup.addr message is.writes))
      ∙ ap (λ b. not b && is_whole (frame_of h.setup.addr message) arrival) (sym is.writes)
