-- What plans and surveys are worth over a life.
use Rattle.std.specs.{List.list_any, Option.option_map_or}
use Rattle.std.specs.Prelude.{IsSome, IsSomeAnd, is_none, is_some, option_and_then, option_map, option_to_list, find, unwrap_or}
use Rattle.std.proofs.{Math.Path.fun_ext, lemmas.Bool.Decides.nat_tests}
use Rattle.std.proofs.Common.{◌≡◌, ◌⊎◌, inl, inr, ℕ, ◌==◌, Bool, true, false, cond, not, ◌||◌, ◌&&◌, List, [], ◌∷◌, ◌++◌, Option, Some}
use Rattle.std.proofs.Common.{None, refl, sym, ◌∙◌, ap, ap₂, subst, append_assoc, ◌<◌, ◌≢◌, Ok, arith}
use Rattle.std.proofs.lemmas.Bool.{or_parts, or_left, or_right, eq-eqb}
use Rattle.pm_num.specs.Ratio.{Ratio}
use Rattle.pm_num.specs.AnyFormat.{Shape, shape_value}
use Rattle.pm_table.specs.{Operation.selected_register, RuleLemmas.rule-none, declared.cell.Cell.Cell, declared.reg.Reg.Reg}
use Rattle.pm_table.specs.Cell.{registers, same_register, cell_accepts, is_operation}
use Rattle.pm_table.specs.Rules.{first, rule}
use Rattle.pm_table.specs.declared.cell.Cell.TheVariants.{Out, Protect}
use Rattle.pm_table.specs.declared.reg.Reg.TheVariants.{Operation, VoutCommand, VoutMax, MarginHigh, MarginLow, VoutMin}
use Rattle.pm_model.specs.declared.order_machine.PendingJob.{PendingJob}
use Rattle.pm_model.specs.Commanded.{Scale, commanded, selected, limited}
use Rattle.pm_model.specs.Settings.{word_at, Words}
use Rattle.pm_model.specs.declared.order_machine.PendingJob.TheVariants as pending
use Rattle.pm_device.specs.declared.config.Config.{Config}
use Rattle.pm_device.specs.Held.{value_for, shape_for}
use Rattle.pm_host.specs.{Answers.good_word, Jobs.accepted_job, Refusals.is_busy, declared.host.Step.Step, declared.job.Job.Job}
use Rattle.pm_host.specs.{declared.job.JobEnd.JobEnd, declared.knowledge.Possible.Possible, declared.stage.Stage.Stage}
use Rattle.pm_host.specs.Ended.{EndTells, StepTells, job_in, word_told}
use Rattle.pm_host.specs.Marks.{Good, goods, read_by}
use Rattle.pm_host.specs.Possible.{is_possible, only}
use Rattle.pm_host.specs.Summary.{Summary, format_at, step_by, possible_at}
use Rattle.pm_host.specs.Transcript as host
use Rattle.pm_host.specs.declared.command.Command.TheVariants.{RestoreUserAll, StoreUserAll}
use Rattle.pm_host.specs.declared.host.Step.TheVariants.{Next, Ended}
use Rattle.pm_host.specs.declared.job.Job.TheVariants as job
use Rattle.pm_host.specs.declared.job.JobEnd.TheVariants.{Done, Learned}
use Rattle.pm_host.specs.declared.knowledge.Possible.TheVariants.{Any, Words as Listed}
use Rattle.pm_limits.specs.{Ends.farthest_word, Laws.WholePartsMissNothing, declared.band.Band.Band, declared.ends.Side.Side}
use Rattle.pm_limits.specs.{declared.fault.LimitFault.TheVariants.MissingRegister, declared.output_limits.OutputLimits.OutputLimits}
use Rattle.pm_limits.specs.{declared.part_registers.PartRegisters.PartRegisters}
use Rattle.pm_limits.specs.Band as limits
use Rattle.pm_limits.specs.Band.{Known, band_at, each_selection, end_with, operations}
use Rattle.pm_limits.specs.Part.{has_register, missing_word, all_registers}
use Rattle.pm_limits.specs.declared.ends.Side.TheVariants.{Lowest, Highest}
use Rattle.pm_rail.specs.{declared.orders.PlanOrder.PlanOrder, declared.survey.Reads.Reads, declared.survey.Survey.Survey}
use Rattle.pm_rail.specs.Known.{cells_of, known_at, known_of, Cells, known_word, sole, sole_of}
use Rattle.pm_rail.specs.Laws.{MayHold, PlansAreOfWhatIsHeld, PlansAreWithoutGlitch, PlansEnd, IsStep, SurveysEndKnown}
use Rattle.pm_rail.specs.Lemmas.Known.{IsPlanned, is-planned, known-all, known-held, wanted-needed}
use Rattle.pm_rail.specs.Lemmas.Steps.{chain, goal-operation, goal-put}
pub use Rattle.pm_rail.specs.Lemmas.Surveyed.{has-none}
use Rattle.pm_rail.specs.Orders.{is_needed, order_of, plan_of, unknown_fault, is_meant}
use Rattle.pm_rail.specs.Plan.{goal_of, is_cut_by, next_register, put, commands_by}
use Rattle.pm_rail.specs.Registers.{wants_of, Held, Wants}
use Rattle.pm_rail.specs.Survey as survey
use Rattle.pm_rail.specs.Survey.{and_read, asking, due_by, due_job, ended, next_job, nothing_read, is_surveyed, wanted_in}
use Rattle.pm_world.specs.{Bands.HoldsMissing, Below.Below, Ended.begins_other, Honest.IsSpelled, Job.asked_by, Lemmas.Formats.sound-dens}
use Rattle.pm_world.specs.{Lemmas.entries-more, LimitLaws.BandsAreHeld, Limited.commands, Setup.setup_of, declared.event.Event.Event}
use Rattle.pm_world.specs.Confirmed.{is_good_for, reads, reads_cell, restarted_since, restarts_converter}
use Rattle.pm_world.specs.Lemmas.Plans.{known-is, wanted-has}
use Rattle.pm_world.specs.Life.{life, now, state_of}
use Rattle.pm_world.specs.Moves.{MovesBy, came_back, ordered, restored}
use Rattle.pm_world.specs.Plans.{held_at, IsReadSince, Follows, IsPlansOrder, KeepsPlans, MayAsk, last_order, newest_order}
use Rattle.pm_world.specs.Possible.{restarts_host, host_has_read}
use Rattle.pm_world.specs.Retelling.{open_pending, pending_of}
use Rattle.pm_world.specs.State.{asked, share_of}
use Rattle.pm_world.specs.Surveys.{AreRead, FollowsSurveys, was_read, AreKnownSince, IsOneValue, KeepsSurveys, MissingUnread, cells_at}
use Rattle.pm_world.proofs.Events.{IsLived, earlier, now-setup}
use Rattle.pm_world.proofs.Formats.{IsOrOver, TellsFrame, beside-tells, by-acceptance, by-frame, by-silence, span-job, beside-frame}
use Rattle.pm_world.proofs.Formats.{formats-agree}
use Rattle.pm_world.proofs.HeldWords.{frame-read, idle-moves, possible-held}
use Rattle.pm_world.proofs.Orders.{moves-so, Goes, open_pending-is, stage_pending}
use Rattle.pm_world.proofs.Retold.{here-possible, stands as band_lives_stands, alone, band-of}
use Rattle.pm_world.proofs.Standings.{restart-told}

-- What a survey counts as read was read.

-- ---- What was read ----

-- what was read at the older of some events, and at the newer
pub read-older : (config : Config) (passes : ℕ) (cell : Cell) (newer older before : List Event) →
    was_read config passes cell older before ≡ true → was_read config passes cell (newer ++ older) before ≡ true
read-older config passes cell [] older before read = read
read-older config passes cell (event ∷ newer) older before read =
    or_right (reads_cell config passes cell ((newer ++ older) ++ before) event) (was_read config passes cell (newer ++ older) before)
    (read-older config passes cell newer older before read)

pub read-newer : (config : Config) (passes : ℕ) (cell : Cell) (newer older before : List Event) →
    was_read config passes cell newer (older ++ before) ≡ true → was_read config passes cell (newer ++ older) before ≡ true
read-newer config passes cell [] older before read = cc
read-newer config passes cell (event ∷ newer) older before read =
    ap₂ (λ (b c : Bool). b || c)
    (ap (λ (es : List Event). reads_cell config passes cell es event) (append_assoc newer older before)) refl
    ∙ go (reads_cell config passes cell (newer ++ (older ++ before)) event) (was_read config passes cell newer (older ++ before)) read
    (read-newer config passes cell newer older before)
  where
    go : (now_read newer_read : Bool) → (now_read || newer_read) ≡ true →
        (newer_read ≡ true → was_read config passes cell (newer ++ older) before ≡ true) →
        (now_read || was_read config passes cell (newer ++ older) before) ≡ true
    go true newer_read h more = refl
    go false newer_read h more = more h

-- a cell that was read at events at which the converter doesn't restart was read since its last restart
pub read-since : (config : Config) (passes : ℕ) (cell : Cell) (later before : List Event) →
    was_read config passes cell later before ≡ true → list_any restarts_converter later ≡ false →
    restarted_since config passes cell (later ++ before) ≡ false
unfolding restarted_since
read-since config passes cell [] before read steady = cc
read-since config passes cell (event ∷ later) before read steady =
    go (reads_cell config passes cell (later ++ before) event) (restarts_converter event) (was_read config passes cell later before)
    read (or_parts (restarts_converter event) (list_any restarts_converter later) steady).0
    (λ older. read-since config passes cell later before older
    (or_parts (restarts_converter event) (list_any restarts_converter later) steady).1)
  where
    go : (reads restarts older : Bool) → (reads || older) ≡ true → restarts ≡ false →
        (older ≡ true → restarted_since config passes cell (later ++ before) ≡ false) →
        cond reads false (restarts || restarted_since config passes cell (later ++ before)) ≡ false
    go true restarts older h quiet more = refl
    go false true older h quiet more = cc
    go false false older h quiet more = more h

-- ---- A check that is done was answered ----

-- a word that was told was in an answer
told-answer : (addr : ℕ) (cell : Cell) (entry : host.Entry) (P : ℕ → Type 0) → IsSomeAnd (word_told addr cell entry) P →
    (bytes : List ℕ) × (entry ≡ host.Got bytes) × (word : ℕ) × (good_word addr cell bytes ≡ Some word)
told-answer addr cell (host.Accepted job) P told = absurd told
told-answer addr cell (host.Finished acked) P told = absurd told
told-answer addr cell host.Restarted P told = absurd told
told-answer addr cell (host.Got bytes) P told =
    let found = go (good_word addr cell bytes) refl told in (bytes, refl, found.0, found.1)
  where
    go : (o : Option ℕ) → good_word addr cell bytes ≡ o → IsSomeAnd o P → (word : ℕ) × (good_word addr cell bytes ≡ Some word)
    go None e t = absurd t
    go (Some word) e t = (word, e)

-- a good answer while a check is open reads its cell
check-reads : Below → (setup : host.Setup) (entries : List host.Entry) (cell : Cell) (bytes : List ℕ) (word : ℕ) →
    host.open_job setup entries ≡ Some (host.Check cell) → good_word setup.addr cell bytes ≡ Some word →
    reads setup entries cell (Some (host.Got bytes)) ≡ true
unfolding goods
check-reads laws setup entries cell bytes word open' good =
    ap (λ (ms : List _). list_any (is_good_for cell) ms)
    (ap (λ (j : Option host.Job). option_to_list (option_and_then
    (λ c. option_map (λ w. Good c w) (good_word setup.addr c bytes)) (read_by j (host.told_since entries)))) open'
    ∙ ap (λ (o : Option ℕ). option_to_list (option_map (λ w. Good cell w) o)) good)
    ∙ ap (λ (b : Bool). b || false) ((laws.cells_are_told_apart cell cell).1 refl)

-- the open job, by the transcript
open-life : Below → (config : Config) (passes : ℕ) (events : List Event) (job : host.Job) →
    job_in (now config passes events).host ≡ Some job →
    host.open_job (setup_of config passes) (life config passes events).entries ≡ Some job
unfolding now state_of
open-life laws config passes events job is = sym (laws.ends_are_told.job (setup_of config passes) (life config passes events).entries) ∙ is

-- a job that is open or over is the open one if some job is open
pub open-one : (job : host.Job) (s : Summary) → IsSome (job_in s) → IsOrOver job s → job_in s ≡ Some job
open-one job s some (inl is) = is
open-one job s some (inr none) = (let bad : false ≡ true = subst (λ (o : Option host.Job). IsSome o) none some in cc)

-- while no other job begins, a check that is done has read its cell
pub check-done : Below → (config : Config) (passes : ℕ) (newer before : List Event) (event : Event) (cell : Cell) →
    IsLived config passes (newer ++ event ∷ before) → asked (now config passes before) event ≡ Some (host.Check cell) →
    list_any begins_other newer ≡ false → (now config passes (newer ++ event ∷ before)).end ≡ Some Done →
    was_read config passes cell newer (event ∷ before) ≡ true
check-done laws config passes [] before event cell lived asks alone done =
    let going = (by-acceptance laws config passes before event (host.Check cell) lived asks).going in cc
check-done laws config passes (newest ∷ newer) before event cell lived asks alone done =
    told _ refl (beside-tells (now config passes (newer ++ event ∷ before)) newest
    (or_parts (begins_other newest) (list_any begins_other newer) alone).0)
    (λ over. check-done laws config passes newer before event cell (earlier lived) asks
    (or_parts (begins_other newest) (list_any begins_other newer) alone).1 over)
  where
    parts : (begins_other newest ≡ false) × (list_any begins_other newer ≡ false)
    parts = or_parts (begins_other newest) (list_any begins_other newer) alone

    answered : (entry : host.Entry) → (share_of (now config passes (newer ++ event ∷ before)) newest).told ≡ Some entry →
        job_in (now config passes (newer ++ event ∷ before)).host ≡ Some (host.Check cell) →
        IsSomeAnd (job_in (now config passes (newer ++ event ∷ before)).host)
        (λ job. EndTells job entry Done (now config passes (newer ++ event ∷ before)).host
        (now config passes (newest ∷ newer ++ event ∷ before)).host) →
        reads_cell config passes cell (newer ++ event ∷ before) newest ≡ true
    answered entry e open' tells =
        let says = subst (λ (o : Option host.Job). IsSomeAnd o (λ job. EndTells job entry Done
        (now config passes (newer ++ event ∷ before)).host (now config passes (newest ∷ newer ++ event ∷ before)).host)) open' tells in
        let answer = told-answer (now config passes (newer ++ event ∷ before)).host.setup.addr cell entry _ says.0 in
        ap (λ (o : Option host.Entry). reads (setup_of config passes) (life config passes (newer ++ event ∷ before)).entries cell o)
        (e ∙ ap (λ (x : host.Entry). Some x) answer.1)
        ∙ check-reads laws (setup_of config passes) (life config passes (newer ++ event ∷ before)).entries cell answer.0 answer.2
        (open-life laws config passes (newer ++ event ∷ before) (host.Check cell) open')
        (subst (λ (s : host.Setup). good_word s.addr cell answer.0 ≡ Some answer.2) (now-setup config passes
        (newer ++ event ∷ before)) answer.3)

    told : (entry : Option host.Entry) → (share_of (now config passes (newer ++ event ∷ before)) newest).told ≡ entry → TellsFrame entry →
        ((now config passes (newer ++ event ∷ before)).end ≡ Some Done → was_read config passes cell newer (event ∷ before) ≡ true) →
        was_read config passes cell (newest ∷ newer) (event ∷ before) ≡ true
    told None e frame older = or_right (reads_cell config passes cell (newer ++ event ∷ before) newest) _
        (older (sym (by-silence config passes (newer ++ event ∷ before) newest e).1 ∙ done))
    told (Some entry) e frame older =
        let frame' = by-frame laws config passes (newer ++ event ∷ before) newest entry lived e frame in
        let tells = subst (λ (end : Option JobEnd). StepTells (now config passes (newer ++ event ∷ before)).host entry (step_by end)
        (now config passes (newest ∷ newer ++ event ∷ before)).host) done frame'.tells in
        or_left _ (was_read config passes cell newer (event ∷ before))
        (answered entry e (open-one (host.Check cell) (now config passes (newer ++ event ∷ before)).host frame'.open'
        (span-job laws config passes newer before event (host.Check cell) (earlier lived) asks parts.1)) tells.1)

-- ---- What a survey asks for ----

-- a check of a register is one of the survey's output
own-first : (output other : ℕ) (register : Reg) (learns : Bool) (unread : Option Reg) (protect : Bool) (missing : Option Reg)
    (again : Bool) →
    first (rule learns (job.Learn output) ∷ option_map (λ r. job.Check (Out output r)) unread ∷ rule protect (job.Check Protect)
    ∷ option_map (λ r. job.Check (Out output r)) missing ∷ rule again (job.Check Protect) ∷ []) ≡ Some (job.Check (Out other register)) →
    other ≡ output
own-first output other register true unread protect missing again is = cc
own-first output other register false (Some r) protect missing again is =
    let same : job.Check (Out output r) ≡ job.Check (Out other register) = cc in cc
own-first output other register false None true missing again is = cc
own-first output other register false None false (Some r) again is =
    let same : job.Check (Out output r) ≡ job.Check (Out other register) = cc in cc
own-first output other register false None false None true is = cc
own-first output other register false None false None false is = cc

own-due : (part : PartRegisters) (v : Survey) (s : Summary) (other : ℕ) (register : Reg) →
    due_job part v s ≡ Some (job.Check (Out other register)) → other ≡ v.output
own-due part v s other register due = go (format_at s v.output) due where
  go : (format : Option Shape) → due_by part v s format ≡ Some (job.Check (Out other register)) → other ≡ v.output
  go None is = cc
  go (Some shape) is =
      let cells = cells_of part shape s in
      let known = known_of cells v.output in
      let wants = wants_of (survey.wanted_in v.plan) in
      own-first v.output other register (not v.learned)
      (find (survey.is_unread part v.read known wants) registers)
      (is_some v.plan && not v.read.protect)
      (find (survey.is_unsure part cells v.output known wants) registers)
      (is_some v.plan && is_none (known_at cells Protect)) is

pub own-output : (part : PartRegisters) (v : Survey) (s : Summary) (other : ℕ) (register : Reg) →
    next_job part v s ≡ Some (job.Check (Out other register)) → other ≡ v.output
own-output part v s other register next = go (v.left == 0) next where
  go : (b : Bool) → cond b None (due_job part v s) ≡ Some (job.Check (Out other register)) → other ≡ v.output
  go true h = cc
  go false h = own-due part v s other register h

-- ---- What counts as read ----

-- one more register counts as read
and-has : (r : Reads) (output : ℕ) (q register : Reg) → survey.has_read (and_read r (Out output q)) register ≡ true →
    (register ≡ q) ⊎ (survey.has_read r register ≡ true)
and-has r output Operation Operation h = inl refl
and-has r output VoutCommand VoutCommand h = inl refl
and-has r output VoutMax VoutMax h = inl refl
and-has r output MarginHigh MarginHigh h = inl refl
and-has r output MarginLow MarginLow h = inl refl
and-has r output VoutMin VoutMin h = inl refl
and-has r output q register h = inr h

and-protect : (r : Reads) (output : ℕ) (q : Reg) → (and_read r (Out output q)).protect ≡ r.protect
and-protect r output Operation = refl
and-protect r output VoutCommand = refl
and-protect r output VoutMax = refl
and-protect r output MarginHigh = refl
and-protect r output MarginLow = refl
and-protect r output VoutMin = refl

protect-has : (r : Reads) (register : Reg) → survey.has_read (and_read r Protect) register ≡ survey.has_read r register
protect-has r Operation = refl
protect-has r VoutCommand = refl
protect-has r VoutMax = refl
protect-has r MarginHigh = refl
protect-has r MarginLow = refl
protect-has r VoutMin = refl

-- a survey that has read nothing
none-has : (register : Reg) → survey.has_read nothing_read register ≡ true → ⊥
none-has Operation h = cc
none-has VoutCommand h = cc
none-has VoutMax h = cc
none-has MarginHigh h = cc
none-has MarginLow h = cc
none-has VoutMin h = cc

none-read : (config : Config) (passes : ℕ) (v : Survey) (before : List Event) → v.read ≡ nothing_read → AreRead config passes v [] before
none-read config passes v before nothing = record {
  registers = λ register has. absurd (none-has register (sym (ap (λ (r : Reads). survey.has_read r register) nothing) ∙ has));
  protect = λ has. let bad = sym (ap (λ (r : Reads). r.protect) nothing) ∙ has in cc;
}

-- more events
more-read : (config : Config) (passes : ℕ) (v : Survey) (newer later before : List Event) → AreRead config passes v later before →
    AreRead config passes v (newer ++ later) before
more-read config passes v newer later before are = record {
  registers = λ register has. read-older config passes (Out v.output register) newer later before (are.registers register has);
  protect = λ has. read-older config passes Protect newer later before (are.protect has);
}

-- a survey of the same output that counts the same as read
same-read : (config : Config) (passes : ℕ) (v w : Survey) (later before : List Event) → w.output ≡ v.output → w.read ≡ v.read →
    AreRead config passes v later before → AreRead config passes w later before
same-read config passes v w later before output read are = record {
  registers = λ register has. subst (λ (o : ℕ). was_read config passes (Out o register) later before ≡ true) (sym output)
      (are.registers register (sym (ap (λ (r : Reads). survey.has_read r register) read) ∙ has));
  protect = λ has. are.protect (sym (ap (λ (r : Reads). r.protect) read) ∙ has);
}

-- a cell that was read counts
cell-read : (config : Config) (passes : ℕ) (v : Survey) (later before : List Event) (cell : Cell) →
    ((other : ℕ) (register : Reg) → cell ≡ Out other register → other ≡ v.output) →
    was_read config passes cell later before ≡ true → AreRead config passes v later before →
    AreRead config passes (ended (asking v (Some (job.Check cell))) (Some (job.Check cell)) Done) later before
cell-read config passes v later before Protect own read are = record {
  registers = λ register has. are.registers register (sym (protect-has v.read register) ∙ has);
  protect = λ has. read;
}
cell-read config passes v later before (Out other q) own read are = record {
  registers = λ register has. elim (and-has v.read other q register has) [
    | inl same ↦ subst (λ (r : Reg). was_read config passes (Out v.output r) later before ≡ true) (sym same)
        (subst (λ (o : ℕ). was_read config passes (Out o q) later before ≡ true) (own other q refl) read)
    | inr had ↦ are.registers register had
  ];
  protect = λ has. are.protect (sym (and-protect v.read other q) ∙ has);
}

-- what is asked for
asks-check : (s : _) (event : Event) (cell : Cell) → asked_by event ≡ Some (job.Check cell) → asked s event ≡ Some (host.Check cell)
asks-check s event cell is = ap (λ (o : Option Job). option_and_then (accepted_job s.host) o) is

-- a check of a survey's own output ended, which counts where it is done
pub check-ended : Below → (config : Config) (passes : ℕ) (v : Survey) (newer later before : List Event) (event : Event) (cell : Cell)
    (end : JobEnd) → IsLived config passes (newer ++ event ∷ (later ++ before)) →
    ((other : ℕ) (register : Reg) → cell ≡ Out other register → other ≡ v.output) → AreRead config passes v later before →
    asked_by event ≡ Some (job.Check cell) → list_any begins_other newer ≡ false →
    (now config passes (newer ++ event ∷ (later ++ before))).end ≡ Some end →
    AreRead config passes (ended (asking v (Some (job.Check cell))) (Some (job.Check cell)) end) (newer ++ event ∷ later) before
check-ended laws config passes v newer later before event cell Done lived own are asks alone done =
    cell-read config passes v (newer ++ event ∷ later) before cell own
    (read-newer config passes cell newer (event ∷ later) before
    (check-done laws config passes newer (later ++ before) event cell lived (asks-check (now config passes
    (later ++ before)) event cell asks)
    alone done))
    (more-read config passes v newer (event ∷ later) before (more-read config passes v (event ∷ []) later before are))
check-ended laws config passes v newer later before event cell end lived own are asks alone done =
    same-read config passes v _ (newer ++ event ∷ later) before refl refl
    (more-read config passes v newer (event ∷ later) before (more-read config passes v (event ∷ []) later before are))

-- a job of the survey ended
ended-read : Below → (config : Config) (passes : ℕ) (part : PartRegisters) (v : Survey) (newer later before : List Event)
    (event : Event) (job : Job)
    (end : JobEnd) → IsLived config passes (newer ++ event ∷ (later ++ before)) →
    AreRead config passes v later before → next_job part v (now config passes (later ++ before)).host ≡ Some job →
    asked_by event ≡ Some job → list_any begins_other newer ≡ false →
    (now config passes (newer ++ event ∷ (later ++ before))).end ≡ Some end →
    AreRead config passes (ended (asking v (Some job)) (Some job) end) (newer ++ event ∷ later) before
ended-read laws config passes part v newer later before event (job.Check cell) end lived are next asks alone done =
    check-ended laws config passes v newer later before event cell end lived
    (λ other register same. own-output part v (now config passes (later ++ before)).host other register
    (next ∙ ap (λ (c : Cell). Some (job.Check c)) same)) are asks alone done
ended-read laws config passes part v newer later before event (job.Learn output) Learned lived are next asks alone done =
    same-read config passes v _ (newer ++ event ∷ later) before refl refl
    (more-read config passes v newer (event ∷ later) before (more-read config passes v (event ∷ []) later before are))
ended-read laws config passes part v newer later before event j end lived are next asks alone done =
    same-read config passes v _ (newer ++ event ∷ later) before refl refl
    (more-read config passes v newer (event ∷ later) before (more-read config passes v (event ∷ []) later before are))

-- what a survey counts as read is followed
pub follows-surveys : Below → (config : Config) (passes : ℕ) (events : List Event) → IsLived config passes events →
    FollowsSurveys config passes events
follows-surveys laws config passes events lived = record {
  begins = λ v nothing. none-read config passes v events nothing;
  more = λ v newer later before is are. more-read config passes v newer later before are;
  told = λ part v newer later before event job end is here are next asks alone done.
      let same = is ∙ append_assoc newer (event ∷ later) before in
      ended-read laws config passes part v newer later before event job end (subst (IsLived config passes) same lived) are next asks alone
      (ap (λ (es : List Event). (now config passes es).end) (sym same) ∙ done);
}

-- An order that is done was read back: the converter holds its word.

-- while no other job begins and the converter doesn't restart, an order that is done is over, and its cell has the word
pub order-done : Below → (config : Config) (passes : ℕ) (newer before : List Event) (event : Event) (cell : Cell) (word : ℕ) →
    IsLived config passes (newer ++ event ∷ before) → asked (now config passes before) event ≡ Some (host.Order cell word) →
    list_any begins_other newer ≡ false → list_any restarts_converter newer ≡ false →
    (now config passes (newer ++ event ∷ before)).end ≡ Some Done →
    (job_in (now config passes (newer ++ event ∷ before)).host ≡ None)
    × (word_at (now config passes (newer ++ event ∷ before)).device.words cell ≡ word)
order-done laws config passes [] before event cell word lived asks alone steady done =
    let going = (by-acceptance laws config passes before event (host.Order cell word) lived asks).going in cc
order-done laws config passes (newest ∷ newer) before event cell word lived asks alone steady done =
    told _ refl (beside-tells (now config passes (newer ++ event ∷ before)) newest parts.0)
    (λ over. order-done laws config passes newer before event cell word (earlier lived) asks parts.1 still.1 over)
  where
    parts : (begins_other newest ≡ false) × (list_any begins_other newer ≡ false)
    parts = or_parts (begins_other newest) (list_any begins_other newer) alone

    still : (restarts_converter newest ≡ false) × (list_any restarts_converter newer ≡ false)
    still = or_parts (restarts_converter newest) (list_any restarts_converter newer) steady

    told : (entry : Option host.Entry) → (share_of (now config passes (newer ++ event ∷ before)) newest).told ≡ entry → TellsFrame entry →
        ((now config passes (newer ++ event ∷ before)).end ≡ Some Done →
        (job_in (now config passes (newer ++ event ∷ before)).host ≡ None)
        × (word_at (now config passes (newer ++ event ∷ before)).device.words cell ≡ word)) →
        (job_in (now config passes (newest ∷ newer ++ event ∷ before)).host ≡ None)
        × (word_at (now config passes (newest ∷ newer ++ event ∷ before)).device.words cell ≡ word)
    told None e frame older =
        let silent = by-silence config passes (newer ++ event ∷ before) newest e in
        let was = older (sym silent.1 ∙ done) in (
          ap job_in silent.0 ∙ was.0,
          idle-moves laws config passes (newer ++ event ∷ before) newest cell lived still.0 was.0 ∙ was.1,
        )
    told (Some entry) e frame older =
        let frame' = by-frame laws config passes (newer ++ event ∷ before) newest entry lived e frame in
        let tells = subst (λ (end : Option JobEnd). StepTells (now config passes (newer ++ event ∷ before)).host entry (step_by end)
        (now config passes (newest ∷ newer ++ event ∷ before)).host) done frame'.tells in
        let opened = open-one (host.Order cell word) (now config passes (newer ++ event ∷ before)).host frame'.open'
        (span-job laws config passes newer before event (host.Order cell word) (earlier lived) asks parts.1) in
        let says = subst (λ (o : Option host.Job). IsSomeAnd o (λ job. EndTells job entry Done
        (now config passes (newer ++ event ∷ before)).host (now config passes (newest ∷ newer ++ event ∷ before)).host)) opened tells.1 in (
          tells.0,
          frame-read laws config passes (newer ++ event ∷ before) newest cell word word entry lived parts.0 opened e says.0.0,
        )

-- What one more event makes of the open job, and of an output's words while its orders are a plan's.

-- ---- The open job, event by event ----

-- the order, store or restore of the open job
pub pending-open : Below → (config : Config) (passes : ℕ) (events : List Event) →
    open_pending config passes events ≡ option_and_then pending_of (job_in (now config passes events).host)
unfolding open_pending now state_of
pending-open laws config passes events = ap (λ (j : Option host.Job). option_and_then pending_of j)
    (sym (laws.ends_are_told.job (setup_of config passes) (life config passes events).entries))

-- after a restart of the host none is open
pub restarted-none : (setup : host.Setup) (entries : List host.Entry) → host.open_job setup (host.Restarted ∷ entries) ≡ None
unfolding host.open_job host.last_job_end
restarted-none setup entries = refl

restart-none : (config : Config) (passes : ℕ) (before : List Event) (event : Event) → restarts_host event ≡ true →
    open_pending config passes (event ∷ before) ≡ None
unfolding open_pending
restart-none config passes before event restarts =
    let entries = (life config passes before).entries in
    ap (λ (j : Option host.Job). option_and_then pending_of j)
    (ap (λ (es : List host.Entry). host.open_job (setup_of config passes) es)
    (entries-more config passes before event
    ∙ ap (λ (t : Option host.Entry). option_to_list t ++ entries) (restart-told (now config passes before) event restarts))
    ∙ restarted-none (setup_of config passes) entries)

-- an event that asks for no job leaves the open one, or ends it
pub open-beside : Below → (config : Config) (passes : ℕ) (before : List Event) (event : Event) →
    IsLived config passes (event ∷ before) → asked (now config passes before) event ≡ None →
    Goes (open_pending config passes before) (open_pending config passes (event ∷ before))
open-beside laws config passes before event lived none = go (restarts_host event) refl where
  pends : Option host.Job → Option PendingJob
  pends job = option_and_then pending_of job

  was : open_pending config passes before ≡ pends (job_in (now config passes before).host)
  was = pending-open laws config passes before

  is : open_pending config passes (event ∷ before) ≡ pends (job_in (now config passes (event ∷ before)).host)
  is = pending-open laws config passes (event ∷ before)

  stays : job_in (now config passes (event ∷ before)).host ≡ job_in (now config passes before).host →
      Goes (open_pending config passes before) (open_pending config passes (event ∷ before))
  stays same = inl (is ∙ ap pends same ∙ sym was)

  by : (step : Step) (entry : host.Entry) →
      StepTells (now config passes before).host entry step (now config passes (event ∷ before)).host →
      Goes (open_pending config passes before) (open_pending config passes (event ∷ before))
  by Next entry tells = stays tells.0
  by (Ended end) entry tells = inr (is ∙ ap pends tells.0)

  told : (entry : Option host.Entry) → (share_of (now config passes before) event).told ≡ entry → TellsFrame entry →
      Goes (open_pending config passes before) (open_pending config passes (event ∷ before))
  told None e frame = stays (ap (λ (s : Summary). job_in s) (by-silence config passes before event e).0)
  told (Some entry) e frame = by _ entry (by-frame laws config passes before event entry lived e frame).tells

  go : (restarts : Bool) → restarts_host event ≡ restarts →
      Goes (open_pending config passes before) (open_pending config passes (event ∷ before))
  go true restarts = inr (restart-none config passes before event restarts)
  go false steady = told _ refl (beside-frame (now config passes before) event none steady)

-- one that asks for a job leaves this open
pub open-asked : Below → (config : Config) (passes : ℕ) (before : List Event) (event : Event) (job : host.Job) →
    IsLived config passes (event ∷ before) → asked (now config passes before) event ≡ Some job →
    open_pending config passes (event ∷ before) ≡ pending_of job
open-asked laws config passes before event job lived is = pending-open laws config passes (event ∷ before)
    ∙ ap (λ (j : Option host.Job). option_and_then pending_of j) (by-acceptance laws config passes before event job lived is).open'

-- no order, store or restore is open while the host is idle
pub idle-none : (config : Config) (passes : ℕ) (events : List Event) → is_busy (now config passes events).host ≡ false →
    open_pending config passes events ≡ None
idle-none config passes events idle = open_pending-is config passes events ∙ go (now config passes events).host.stage idle where
  go : (stage : Option Stage) → is_some stage ≡ false → stage_pending stage ≡ None
  go None i = refl
  go (Some stage) i = cc

-- a job that is an order, or a restore
pub pending-order : (job : host.Job) (cell : Cell) (word : ℕ) → pending_of job ≡ Some (pending.Order cell word) →
    job ≡ host.Order cell word
pending-order (host.Order c w) cell word h =
    let same_cell : c ≡ cell = cc in
    let same_word : w ≡ word = cc in cc
pending-order (host.Send StoreUserAll) cell word h = cc
pending-order (host.Send RestoreUserAll) cell word h = cc
pending-order job cell word h = cc

pub pending-restore : (job : host.Job) → pending_of job ≡ Some pending.Restore → job ≡ host.Send RestoreUserAll
pending-restore (host.Send RestoreUserAll) h = refl
pending-restore (host.Send StoreUserAll) h = cc
pending-restore job h = cc

-- ---- The words, event by event ----

-- The open job is an order of the word that moved at an event, if the converter didn't restart and no restore was open.
pub by-move : {config : Config} {passes : ℕ} {before : List Event} {cell : Cell} {word : ℕ} {event : Event} →
    MovesBy config passes before cell word event → restarts_converter event ≡ false →
    (open_pending config passes before ≡ Some pending.Restore → ⊥) →
    open_pending config passes before ≡ Some (pending.Order cell word)
by-move (came_back e) steady free = cc
by-move (ordered arrival takes) steady free = takes.opened
by-move (restored arrival takes out e) steady free = absurd (free takes.opened)

-- An event at which a word moved asks for no job.
by-asked : {config : Config} {passes : ℕ} {before : List Event} {cell : Cell} {word : ℕ} {event : Event} → (job : host.Job) →
    MovesBy config passes before cell word event → asked (now config passes before) event ≡ Some job → ⊥
by-asked job (came_back e) is = cc
by-asked job (ordered arrival takes) is = cc
by-asked job (restored arrival takes out e) is = cc

-- The register of a cell, or another where it has none.
register_in : Reg → Cell → Reg
register_in other (Out output register) = register
register_in other Protect = other

-- registers that test as one are one
pub one-register : Below → (q r : Reg) → same_register q r ≡ true → q ≡ r
unfolding register_in
one-register laws q r same = ap (λ (c : Cell). register_in q c) ((laws.cells_are_told_apart (Out 0 q) (Out 0 r)).0 same)

-- a register tests as itself
pub register-itself : Below → (q : Reg) → same_register q q ≡ true
register-itself laws q = (laws.cells_are_told_apart (Out 0 q) (Out 0 q)).1 refl

pub put-itself : Below → (held : Held) (q : Reg) (word : ℕ) → put held q word q ≡ word
put-itself laws held q word = ap (λ (b : Bool). cond b word (held q)) (register-itself laws q)

-- an order that the plan gives: it has taken, or is the next one
abbrev pub IsReady : PartRegisters → Scale → Wants → Held → Reg → ℕ → Type 0
IsReady part value wants held q word = (held q ≡ word) ⊎ ((next_register value held wants ≡ Some q)
    × (goal_of held wants q ≡ word) × (is_cut_by value (goal_of held wants) ≡ false) × (has_register part q ≡ true))

-- at a moment an open order of the output is such a one, and no restore is open
pub record Stands (config : Config) (passes : ℕ) (part : PartRegisters) (output : ℕ) (wants : Wants) (events : List Event) : Type 0 where
  pub ready : (q : Reg) (word : ℕ) → open_pending config passes events ≡ Some (pending.Order (Out output q) word) →
      IsReady part (value_for config output) wants (held_at config passes events output) q word
  pub free : open_pending config passes events ≡ Some pending.Restore → ⊥

-- an event leaves the output's words
abbrev pub Stays : (config : Config) (passes output : ℕ) → List Event → Event → Type 0
Stays config passes output before event =
    held_at config passes (event ∷ before) output ≡ held_at config passes before output

-- The plan's next order took at an event.
pub record Took (config : Config) (passes : ℕ) (part : PartRegisters) (output : ℕ) (wants : Wants) (before : List Event)
    (event : Event) : Type 0 where
  pub q : Reg
  pub next : next_register (value_for config output) (held_at config passes before output) wants ≡ Some q
  pub uncut : is_cut_by (value_for config output) (goal_of (held_at config passes before output) wants) ≡ false
  pub has : has_register part q ≡ true
  pub is : held_at config passes (event ∷ before) output
      ≡ put (held_at config passes before output) q (goal_of (held_at config passes before output) wants q)
  pub opened : open_pending config passes before
      ≡ Some (pending.Order (Out output q) (goal_of (held_at config passes before output) wants q))

module _ (laws : Below) (config : Config) (passes : ℕ) (part : PartRegisters) (output : ℕ) (wants : Wants) (before : List Event)
    (event : Event)
    (here : output < config.count) (lived : IsLived config passes (event ∷ before))
    (steady : restarts_converter event ≡ false) (stands : Stands config passes part output wants before) where
  abbrev was : Held
  was = held_at config passes before output

  abbrev then_held : Held
  then_held = held_at config passes (event ∷ before) output

  moved : (r : Reg) → (then_held r ≡ was r) ⊎ MovesBy config passes before (Out output r) (then_held r) event
  moved r = (moves-so laws config passes (event ∷ before) lived).moves [] before event (Out output r) refl here

  opened : (r : Reg) → (then_held r ≡ was r) ⊎ (open_pending config passes before ≡ Some (pending.Order (Out output r) (then_held r)))
  opened r = elim (moved r) [
    | inl e ↦ inl e
    | inr m ↦ inr (by-move m steady stands.free)
  ]

  pub asked-stays : (job : host.Job) → asked (now config passes before) event ≡ Some job → Stays config passes output before event
  asked-stays job asks = fun_ext (λ (r : Reg). elim (moved r) [
    | inl e ↦ e
    | inr m ↦ absurd (by-asked job m asks)
  ])

  -- no order of this output is open
  other-stays : ((r : Reg) (word : ℕ) → open_pending config passes before ≡ Some (pending.Order (Out output r) word) → ⊥) →
      Stays config passes output before event
  other-stays never = fun_ext (λ (r : Reg). elim (opened r) [
    | inl e ↦ e
    | inr p ↦ absurd (never r _ p)
  ])

  -- this order is open
  order-goes : (other : ℕ) (q : Reg) (word : ℕ) → open_pending config passes before ≡ Some (pending.Order (Out other q) word) →
      Stays config passes output before event ⊎ Took config passes part output wants before event
  order-goes other q word open' = elim (opened q) [
    | inl e ↦ inl (all e)
    | inr p ↦
        let same_output : other ≡ output = cc in
        let same_word : word ≡ then_held q = cc in
        let there : open_pending config passes before ≡ Some (pending.Order (Out output q) word)
        = open' ∙ ap (λ (o : ℕ). Some (pending.Order (Out o q) word)) same_output in
        elim (stands.ready q word there) [
          | inl had ↦ inl (all (sym same_word ∙ sym had))
          | inr plan ↦ inr (record {
            q = q;
            next = plan.0;
            uncut = plan.2;
            has = plan.3;
            is = taken (sym same_word ∙ sym plan.1);
            opened = there ∙ ap (λ (w : ℕ). Some (pending.Order (Out output q) w)) (sym plan.1);
          })
        ]
  ]
    where
      -- another register's word doesn't move
      beside : (r : Reg) → open_pending config passes before ≡ Some (pending.Order (Out output r) (then_held r)) → q ≡ r
      beside r p = cc

      all : then_held q ≡ was q → Stays config passes output before event
      all e = fun_ext (λ (r : Reg). elim (opened r) [
        | inl e' ↦ e'
        | inr p ↦ subst (λ (x : Reg). then_held x ≡ was x) (beside r p) e
      ])

      place : then_held q ≡ goal_of was wants q → (r : Reg) → then_held r ≡ was r → (b : Bool) → same_register q r ≡ b →
          then_held r ≡ put was q (goal_of was wants q) r
      place e r e' true s = subst (λ (x : Reg). then_held x ≡ put was q (goal_of was wants q) x) (one-register laws q r s)
          (e ∙ sym (put-itself laws was q (goal_of was wants q)))
      place e r e' false s = e' ∙ sym (ap (λ (b : Bool). cond b (goal_of was wants q) (was r)) s)

      taken : then_held q ≡ goal_of was wants q → then_held ≡ put was q (goal_of was wants q)
      taken e = fun_ext (λ (r : Reg). elim (opened r) [
        | inr p ↦ subst (λ (x : Reg). then_held x ≡ put was q (goal_of was wants q) x) (beside r p)
            (e ∙ sym (put-itself laws was q (goal_of was wants q)))
        | inl e' ↦ place e r e' (same_register q r) refl
      ])

  pub goes : Stays config passes output before event ⊎ Took config passes part output wants before event
  goes = go (open_pending config passes before) refl where
    go : (o : Option PendingJob) → open_pending config passes before ≡ o →
        Stays config passes output before event ⊎ Took config passes part output wants before event
    go (Some (pending.Order (Out other q) word)) e = order-goes other q word e
    go (Some (pending.Order Protect word)) e = inl (other-stays (λ r w p. cc))
    go (Some pending.Store) e = inl (other-stays (λ r w p. cc))
    go (Some pending.Restore) e = inl (other-stays (λ r w p. cc))
    go None e = inl (other-stays (λ r w p. cc))

-- What a plan answers in a life, where what it needs was read since the converter's last restart.

-- the laws of plans
pub record Plans : Type 0 where
  pub glitch : PlansAreWithoutGlitch
  pub answers : PlansAreOfWhatIsHeld
  pub ends : PlansEnd

-- what is needed goes by the word of OPERATION
pub needed-same : (held other : Held) (wants : Wants) → held Operation ≡ other Operation → (register : Reg) →
    is_needed held wants register ≡ is_needed other wants register
needed-same held other wants same Operation = refl
needed-same held other wants same VoutMax = refl
needed-same held other wants same VoutMin = refl
needed-same held other wants same register =
    ap (λ (byte : ℕ). same_register register (selected_register byte) || is_some (wants register)) same

-- what holds in the format that a host knows holds in the converter's own
own-format : (P : Shape → Type 0) (known : Option Shape) (own : Shape) → ((shape : Shape) → known ≡ Some shape → shape ≡ own) →
    IsSomeAnd known P → P own
own-format P None own agree holds = absurd holds
own-format P (Some shape) own agree holds = subst P (agree shape refl) holds

-- a register that stands at a word of its own is one that the part lacks
pub is-lacking : (part : PartRegisters) (shape : Shape) (register : Reg) (word : ℕ) → missing_word part shape register ≡ Some word →
    has_register part register ≡ false
is-lacking part shape register word is = go (has_register part register) refl where
  go : (b : Bool) → has_register part register ≡ b → has_register part register ≡ false
  go true e = absurd (let bad = sym (has-none part shape register e) ∙ is in cc)
  go false e = e

-- a word that isn't the one that is held is wanted
wanted-is : (wanted : Option ℕ) (held : ℕ) → unwrap_or wanted held ≢ held → is_some wanted ≡ true
wanted-is None held differs = absurd (differs refl)
wanted-is (Some word) held differs = refl

module _ (laws : Below) (plans : Plans) {config : Config} {passes : ℕ} {events : List Event} (part : PartRegisters)
    (limits : OutputLimits) (output : ℕ) (wants : Wants) (order : Option PlanOrder) (lived : IsLived config passes events)
    (spelled : IsSpelled config) (here : output < config.count) (none : wants Operation ≡ None)
    (since : IsReadSince config passes output wants events)
    (missing : HoldsMissing part config (now config passes events).device.words output)
    (is : plan_of part (now config passes events).host limits output wants ≡ Ok order) where
  abbrev s : Summary
  s = (now config passes events).host

  abbrev cells : Cells
  cells = cells_of part (shape_for config output) s

  abbrev known : Held
  known = known_of cells output

  abbrev held_now : Held
  held_now = held_at config passes events output

  agree : (shape : Shape) → format_at s output ≡ Some shape → shape ≡ shape_for config output
  agree = (formats-agree laws config passes events lived spelled).held output

  planned : IsPlanned part s limits output wants order
  planned = is-planned part s limits output wants order is

  -- what is needed by what is held is possible
  possible : (register : Reg) → is_needed held_now wants register ≡ true →
      is_possible (held_now register) (cells (Out output register)) ≡ true
  possible register needed = here-possible (missing_word part (shape_for config output) register) (possible_at s (Out output register))
      (held_now register) (missing register)
      (band_lives_stands (possible_at s (Out output register)) (held_now register)
      (λ listed. (possible-held laws config passes events lived).held (Out output register) here
      (since register needed ((possible-held laws config passes events lived).found (Out output register) here listed))))

  -- what is needed by what is known is known
  some : (register : Reg) → is_needed known wants register ≡ true → is_none (known_at cells (Out output register)) ≡ false
  some = known-all cells output known wants
      (subst (λ (shape : Shape). unknown_fault (cells_of part shape s) output (known_of (cells_of part shape s) output) wants ≡ None)
      (agree planned.shape planned.format) planned.known)

  operation : known Operation ≡ held_now Operation
  operation = known-held cells (Out output Operation) (held_now Operation) (possible Operation refl) (some Operation refl)

  may-own : (register : Reg) → is_needed known wants register ≡ true → is_possible (held_now register) (cells (Out output register)) ≡ true
  may-own register needed = possible register (sym (needed-same known held_now wants operation register) ∙ needed)

  may : MayHold part s output wants held_now
  may shape format = subst (λ (f : Shape). (register : Reg) → is_needed (known_of (cells_of part f s) output) wants register ≡ true →
      is_possible (held_now register) (cells_of part f s (Out output register)) ≡ true) (sym (agree shape format)) may-own

  uncut : is_cut_by (value_for config output) (goal_of held_now wants) ≡ false
  uncut = own-format (λ shape. is_cut_by (shape_value shape) (goal_of held_now wants) ≡ false) (format_at s output)
      (shape_for config output)
      agree (plans.answers.uncut part s limits output wants order held_now none may is)

  next : option_map (order_of held_now wants) (next_register (value_for config output) held_now wants) ≡ order
  next = own-format (λ shape. option_map (order_of held_now wants) (next_register (shape_value shape) held_now wants) ≡ order)
      (format_at s output) (shape_for config output) agree (plans.answers.next part s limits output wants order held_now none may is)

  -- an order that the plan gives is the next one of the words that are held
  pub ready-order : (q : Reg) (word : ℕ) → order ≡ Some (record { register = q; word = word }) →
      IsReady part (value_for config output) wants (held_at config passes events output) q word
  ready-order q word one = go (next_register (value_for config output) held_now wants) refl (next ∙ one) where
    go : (r : Option Reg) → next_register (value_for config output) held_now wants ≡ r →
        option_map (order_of held_now wants) r ≡ Some (record { register = q; word = word }) →
        IsReady part (value_for config output) wants held_now q word
    go None e n = cc
    go (Some r) e n =
        let two : order_of held_now wants r ≡ record { register = q; word = word } = cc in
        let same : r ≡ q = ap (λ (o : PlanOrder). o.register) two in
        let has = wanted-has part wants planned.there r
        (wanted-is (wants r) (held_now r) (plans.ends.due (value_for config output) held_now wants r e)) in
        inr (
          e ∙ ap (λ (x : Reg). Some x) same,
          ap (λ (x : Reg). goal_of held_now wants x) (sym same) ∙ ap (λ (o : PlanOrder). o.word) two,
          uncut,
          ap (λ (x : Reg). has_register part x) (sym same) ∙ has,
        )

  -- each wanted word is known and held if the plan has no further order
  pub come-true : (register : Reg) (word : ℕ) → order ≡ None → wants register ≡ Some word →
      (known_word (Out output register) (possible_at (now config passes events).host (Out output register)) ≡ Some word)
      × (held_at config passes events output register ≡ word)
  come-true register word over wanted =
      let wants-some = ap (λ (o : Option ℕ). is_some o) wanted in
      let needed = wanted-needed known wants register wants-some in
      let is' : plan_of part s limits output wants ≡ Ok None = is ∙ ap (λ (o : Option PlanOrder). Ok o) over in
      let has = plans.answers.done part s limits output wants held_now register word none may is' wanted in
      let there : cells (Out output register) ≡ possible_at s (Out output register)
      = ap (λ (o : Option ℕ). option_map_or only o (possible_at s (Out output register)))
      (has-none part (shape_for config output) register (wanted-has part wants planned.there register wants-some)) in (
        ap (λ (p : Possible). known_word (Out output register) p) (sym there)
            ∙ known-is (known_at cells (Out output register)) (some register needed)
            ∙ ap (λ (w : ℕ). Some w) (known-held cells (Out output register) (held_now register) (may-own register needed)
            (some register needed) ∙ has),
        has,
      )

-- A plan, at each moment of a life.

-- a register that was read since the converter's last restart still is after events at which it doesn't restart
since-later : (config : Config) (passes : ℕ) (part : PartRegisters) (output : ℕ) (wants : Wants) (register : Reg)
    (later before : List Event) →
    (host_has_read config passes (Out output register) before ≡ true → restarted_since config passes (Out output register) before ≡ false) →
    Follows config passes part output wants later before →
    host_has_read config passes (Out output register) (later ++ before) ≡ true →
    restarted_since config passes (Out output register) (later ++ before) ≡ false
unfolding restarted_since host_has_read
since-later config passes part output wants register [] before since follows = since
since-later config passes part output wants register (event ∷ later) before since follows =
    go (reads_cell config passes (Out output register) (later ++ before) event) (restarts_converter event)
    (restarted_since config passes (Out output register) (later ++ before)) (restarts_host event)
    (host_has_read config passes (Out output register) (later ++ before)) follows.0
    (since-later config passes part output wants register later before since follows.2)
  where
    go : (reads restarts since host read : Bool) → restarts ≡ false → (read ≡ true → since ≡ false) →
        cond host false (reads || read) ≡ true → cond reads false (restarts || since) ≡ false
    go true restarts since host read r s h = refl
    go false true since host read r s h = cc
    go false false since true read r s h = cc
    go false false since false read r s h = s h

-- What holds at a later moment: an order of the output that is open is the last one, which the plan gives; no restore is
-- open, what is wanted stays, and so do the words of registers that the part doesn't have.
pub record Later (config : Config) (passes : ℕ) (part : PartRegisters) (output : ℕ) (wants : Wants)
    (later before : List Event) : Type 0 where
  pub opened : (q : Reg) (word : ℕ) → open_pending config passes (later ++ before) ≡ Some (pending.Order (Out output q) word) →
      last_order config passes output later before ≡ Some (record { register = q; word = word })
  pub last : (q : Reg) (word : ℕ) → last_order config passes output later before ≡ Some (record { register = q; word = word }) →
      IsReady part (value_for config output) wants (held_at config passes (later ++ before) output) q word
  pub free : open_pending config passes (later ++ before) ≡ Some pending.Restore → ⊥
  pub goal : goal_of (held_at config passes (later ++ before) output) wants ≡ goal_of (held_at config passes before output) wants
  pub missing : HoldsMissing part config (now config passes (later ++ before)).device.words output

-- orders that are one have one register and one word
one-order : (q r : Reg) (w v : ℕ) →
    ◌≡◌ {A = Option PlanOrder} (Some (record { register = q; word = w })) (Some (record { register = r; word = v })) →
    (q ≡ r) × (w ≡ v)
one-order q r w v e = (
  ap (λ (o : Option PlanOrder). option_map_or (λ x. x.register) o q) e,
  ap (λ (o : Option PlanOrder). option_map_or (λ x. x.word) o w) e,
)

-- numbers that test as one are one
one-number : (x y : ℕ) → (x == y) ≡ true → x ≡ y
one-number x y h = grind (arith, nat_tests)

module _ (laws : Below) (plans : Plans) (config : Config) (passes : ℕ) (part : PartRegisters) (output : ℕ) (wants : Wants)
    (event : Event) (later before : List Event)
    (here : output < config.count) (none : wants Operation ≡ None) (lived : IsLived config passes (event ∷ later ++ before))
    (spelled : IsSpelled config) (since : IsReadSince config passes output wants (later ++ before))
    (steady : restarts_converter event ≡ false)
    (may : MayAsk config passes part output wants later before (asked (now config passes (later ++ before)) event))
    (was : Later config passes part output wants later before) where
  stands : Stands config passes part output wants (later ++ before)
  stands = record { ready = λ q word p. was.last q word (was.opened q word p); free = was.free }

  went : Stays config passes output (later ++ before) event ⊎ Took config passes part output wants (later ++ before) event
  went = goes laws config passes part output wants (later ++ before) event here lived steady stands

  -- the newest order, by the job that is asked for
  newest-is : (job : Option host.Job) → asked (now config passes (later ++ before)) event ≡ job →
      last_order config passes output (event ∷ later) before ≡ newest_order output job (last_order config passes output later before)
  newest-is job a = ap (λ (j : Option host.Job). newest_order output j (last_order config passes output later before)) a

  itself-newest : (q : Reg) (word : ℕ) (older : Option PlanOrder) →
      newest_order output (Some (host.Order (Out output q) word)) older ≡ Some (record { register = q; word = word })
  itself-newest q word older = ap (λ (b : Bool). cond b (Some (record { register = q; word = word })) older) (eq-eqb output output refl)

  next-opened : (q : Reg) (word : ℕ) → open_pending config passes (event ∷ later ++ before) ≡ Some (pending.Order (Out output q) word) →
      last_order config passes output (event ∷ later) before ≡ Some (record { register = q; word = word })
  next-opened q word p = go (asked (now config passes (later ++ before)) event) refl where
    go : (job : Option host.Job) → asked (now config passes (later ++ before)) event ≡ job →
        last_order config passes output (event ∷ later) before ≡ Some (record { register = q; word = word })
    go (Some job) a =
        let is = pending-order job (Out output q) word
        (sym (open-asked laws config passes (later ++ before) event job lived a) ∙ p) in
        newest-is (Some job) a
        ∙ ap (λ (j : host.Job). newest_order output (Some j) (last_order config passes output later before)) is
        ∙ itself-newest q word (last_order config passes output later before)
    go None a = elim (open-beside laws config passes (later ++ before) event lived a) [
      | inr o ↦ absurd (let bad = sym o ∙ p in cc)
      | inl o ↦ newest-is None a ∙ was.opened q word (sym o ∙ p)
    ]

  -- an order that was given is there still
  kept-ready : (q : Reg) (word : ℕ) → last_order config passes output later before ≡ Some (record { register = q; word = word }) →
      IsReady part (value_for config output) wants (held_at config passes (event ∷ later ++ before) output) q word
  kept-ready q word l = elim went [
    | inl stays ↦ subst (λ (h : Held). IsReady part (value_for config output) wants h q word) (sym stays) (was.last q word l)
    | inr took ↦
        let both = sym (was.opened took.q (goal_of (held_at config passes (later ++ before) output) wants took.q) took.opened) ∙ l in
        let one = one-order took.q q (goal_of (held_at config passes (later ++ before) output) wants took.q) word both in
        let same_register' = one.0 in
        let same_word = one.1 in
        inl (ap (λ (h : Held). h q) took.is
        ∙ subst (λ (x : Reg). put (held_at config passes (later ++ before) output) took.q
        (goal_of (held_at config passes (later ++ before) output) wants took.q) x ≡ word) same_register'
        (put-itself laws (held_at config passes (later ++ before) output) took.q
        (goal_of (held_at config passes (later ++ before) output) wants took.q) ∙ same_word))
  ]

  -- one that is given now
  new-ready : (job : host.Job) → asked (now config passes (later ++ before)) event ≡ Some job → (q : Reg) (word : ℕ) →
      IsPlansOrder config passes part output wants later before (record { register = q; word = word }) →
      IsReady part (value_for config output) wants (held_at config passes (event ∷ later ++ before) output) q word
  new-ready job a q word ordered' = elim ordered' [
    | inr again ↦ kept-ready q word again
    | inl planned ↦ subst (λ (h : Held). IsReady part (value_for config output) wants h q word)
        (sym (asked-stays laws config passes part output wants (later ++ before) event here lived steady stands job a))
        (ready-order laws plans part planned.0 output wants (Some (record { register = q; word = word })) (earlier lived) spelled here
        none since was.missing planned.1 q word refl)
  ]

  next-last : (q : Reg) (word : ℕ) →
      last_order config passes output (event ∷ later) before ≡ Some (record { register = q; word = word }) →
      IsReady part (value_for config output) wants (held_at config passes (event ∷ later ++ before) output) q word
  next-last q word l = go (asked (now config passes (later ++ before)) event) refl may where
    order : (other : ℕ) (r : Reg) (w : ℕ) → asked (now config passes (later ++ before)) event ≡ Some (host.Order (Out other r) w) →
        (other ≡ output → IsPlansOrder config passes part output wants later before (record { register = r; word = w })) →
        (b : Bool) → (other == output) ≡ b →
        cond b (Some (record { register = r; word = w })) (last_order config passes output later before)
        ≡ Some (record { register = q; word = word }) →
        IsReady part (value_for config output) wants (held_at config passes (event ∷ later ++ before) output) q word
    order other r w a m true e is =
        let one : ◌≡◌ {A = PlanOrder} (record { register = r; word = w }) (record { register = q; word = word }) = cc in
        subst (λ (x : Reg). IsReady part (value_for config output) wants (held_at config passes (event ∷ later ++ before) output) x word)
        (ap (λ (o : PlanOrder). o.register) one)
        (subst (λ (x : ℕ). IsReady part (value_for config output) wants (held_at config passes (event ∷ later ++ before) output) r x)
        (ap (λ (o : PlanOrder). o.word) one) (new-ready (host.Order (Out other r) w) a r w (m (one-number other output e))))
    order other r w a m false e is = kept-ready q word is

    go : (job : Option host.Job) → asked (now config passes (later ++ before)) event ≡ job →
        MayAsk config passes part output wants later before job →
        IsReady part (value_for config output) wants (held_at config passes (event ∷ later ++ before) output) q word
    go (Some (host.Order (Out other r) w)) a m = order other r w a m (other == output) refl
        (sym (newest-is (Some (host.Order (Out other r) w)) a) ∙ l)
    go job a m = kept-ready q word (sym (newest-is job a) ∙ l)

  next-free : open_pending config passes (event ∷ later ++ before) ≡ Some pending.Restore → ⊥
  next-free p = go (asked (now config passes (later ++ before)) event) refl may where
    go : (job : Option host.Job) → asked (now config passes (later ++ before)) event ≡ job →
        MayAsk config passes part output wants later before job → ⊥
    go (Some job) a m = subst (λ (j : host.Job). MayAsk config passes part output wants later before (Some j))
        (pending-restore job (sym (open-asked laws config passes (later ++ before) event job lived a) ∙ p)) m
    go None a m = elim (open-beside laws config passes (later ++ before) event lived a) [
      | inr o ↦ let bad = sym o ∙ p in cc
      | inl o ↦ was.free (sym o ∙ p)
    ]

  goal-next : goal_of (held_at config passes (event ∷ later ++ before) output) wants
      ≡ goal_of (held_at config passes (later ++ before) output) wants
  goal-next = elim went [
    | inl stays ↦ ap (λ (h : Held). goal_of h wants) stays
    | inr took ↦ ap (λ (h : Held). goal_of h wants) took.is
        ∙ fun_ext (λ (r : Reg). goal-put (held_at config passes (later ++ before) output) wants took.q r)
  ]

  missing-next : HoldsMissing part config (now config passes (event ∷ later ++ before)).device.words output
  missing-next register word lacks = elim went [
    | inl stays ↦ ap (λ (h : Held). h register) stays ∙ was.missing register word lacks
    | inr took ↦ ap (λ (h : Held). h register) took.is
        ∙ ap (λ (b : Bool). cond b (goal_of (held_at config passes (later ++ before) output) wants took.q)
        (held_at config passes (later ++ before) output register))
        (apart took.q took.has (same_register took.q register) refl) ∙ was.missing register word lacks
  ]
    where
      apart : (q : Reg) → has_register part q ≡ true → (b : Bool) → same_register q register ≡ b → same_register q register ≡ false
      apart q has false e = e
      apart q has true e = absurd (let bad = sym has ∙ ap (λ (r : Reg). has_register part r) (one-register laws q register e)
          ∙ is-lacking part (shape_for config output) register word lacks in cc)

  pub later-next : Later config passes part output wants (event ∷ later) before
  later-next = record { opened = next-opened; last = next-last; free = next-free; goal = goal-next ∙ was.goal; missing = missing-next }

  pub step-next : IsStep (commands_by (value_for config output) (goal_of (held_at config passes before output) wants))
      (commands config passes (later ++ before) output) (commands config passes (event ∷ later ++ before) output)
  unfolding commanded selected
  step-next = elim went [
    | inl stays ↦ inl (ap (λ (h : Held). commands_by (value_for config output) h) stays)
    | inr took ↦
        let value = value_for config output in
        let held = held_at config passes (later ++ before) output in
        let is = took.is ∙ sym (ap (λ (o : Option Reg). option_map_or (λ register. put held register
        (goal_of held wants register)) o held) took.next) in
        subst (λ (g : Held). IsStep (commands_by value g) (commands_by value held)
        (commands_by value (held_at config passes (event ∷ later ++ before) output))) was.goal
        (subst (λ (h : Held). IsStep (commands_by value (goal_of held wants)) (commands_by value held) (commands_by value h)) (sym is)
        (plans.glitch.one value held wants (sound-dens config output lived.sound here) none took.uncut))
  ]

module _ (laws : Below) (plans : Plans) (config : Config) (passes : ℕ) (part : PartRegisters) (output : ℕ) (wants : Wants)
    (before : List Event)
    (spelled : IsSpelled config) (here : output < config.count) (none : wants Operation ≡ None)
    (idle : is_busy (now config passes before).host ≡ false) (since : IsReadSince config passes output wants before)
    (missing : HoldsMissing part config (now config passes before).device.words output) where
  start-later : Later config passes part output wants [] before
  start-later = record {
    opened = λ q word p. let bad = sym (idle-none config passes before idle) ∙ p in cc;
    last = λ q word l. cc;
    free = λ p. let bad = sym (idle-none config passes before idle) ∙ p in cc;
    goal = refl;
    missing = missing;
  }

  -- what is needed stays what it was, and so does what was read
  since-all : (later : List Event) → Follows config passes part output wants later before →
      Later config passes part output wants later before →
      IsReadSince config passes output wants (later ++ before)
  since-all later follows was register needed =
      let operation : held_at config passes (later ++ before) output Operation ≡ held_at config passes before output Operation
      = sym (goal-operation (held_at config passes (later ++ before) output) wants none)
      ∙ ap (λ (h : Held). h Operation) was.goal ∙ goal-operation (held_at config passes before output) wants none in
      since-later config passes part output wants register later before
      (since register (sym (needed-same (held_at config passes (later ++ before) output) (held_at config passes before output) wants
      operation register) ∙ needed))
      follows

  later-holds : (later : List Event) → IsLived config passes (later ++ before) → Follows config passes part output wants later before →
      Later config passes part output wants later before
  later-holds [] lived follows = start-later
  later-holds (event ∷ later) lived follows =
      let was = later-holds later (earlier lived) follows.2 in
      later-next laws plans config passes part output wants event later before here none lived spelled (since-all later follows.2 was)
      follows.0 follows.1 was

  pub missing-later : (later : List Event) → IsLived config passes (later ++ before) →
      Follows config passes part output wants later before →
      HoldsMissing part config (now config passes (later ++ before)).device.words output
  missing-later later lived follows = (later-holds later lived follows).missing

  pub goal-later : (later : List Event) → IsLived config passes (later ++ before) → Follows config passes part output wants later before →
      (register : Reg) →
      goal_of (held_at config passes (later ++ before) output) wants register ≡ goal_of (held_at config passes before output) wants register
  goal-later later lived follows register = ap (λ (h : Held). h register) (later-holds later lived follows).goal

  pub read-later : (later : List Event) → IsLived config passes (later ++ before) → Follows config passes part output wants later before →
      IsReadSince config passes output wants (later ++ before)
  read-later later lived follows = since-all later follows (later-holds later lived follows)

  pub holds : (newer later : List Event) → IsLived config passes ((newer ++ later) ++ before) →
      Follows config passes part output wants (newer ++ later) before →
      IsStep (commands_by (value_for config output) (goal_of (held_at config passes before output) wants))
      (commands config passes (later ++ before) output) (commands config passes ((newer ++ later) ++ before) output)
  holds [] later lived follows = inl refl
  holds (event ∷ newer) later lived follows =
      let was = later-holds (newer ++ later) (earlier lived) follows.2 in
      chain (commands_by (value_for config output) (goal_of (held_at config passes before output) wants))
      (commands config passes (later ++ before) output) (commands config passes ((newer ++ later) ++ before) output)
      (commands config passes ((event ∷ newer ++ later) ++ before) output)
      (holds newer later (earlier lived) follows.2)
      (step-next laws plans config passes part output wants event (newer ++ later) before here none lived spelled
      (since-all (newer ++ later) follows.2 was) follows.0 follows.1 was)

-- what plans are worth in a life
pub keeps-plans : Below → Plans → (config : Config) (passes : ℕ) (events : List Event) → IsLived config passes events →
    IsSpelled config → KeepsPlans config passes events
keeps-plans laws plans config passes events lived spelled = record {
  held = λ part output wants newer later before is here none idle since missing follows.
      subst (λ (es : List Event). IsStep (commands_by (value_for config output) (goal_of (held_at config passes before output) wants))
      (commands config passes (later ++ before) output) (commands config passes es output)) (sym is)
      (holds laws plans config passes part output wants before spelled here none idle since missing newer later
      (subst (λ (es : List Event). IsLived config passes es) is lived) follows);
  read = λ part output wants later before is here none idle since missing follows.
      subst (λ (es : List Event). IsReadSince config passes output wants es) (sym is)
      (read-later laws plans config passes part output wants before spelled here none idle since missing later
      (subst (λ (es : List Event). IsLived config passes es) is lived) follows);
  goal = λ part output wants register later before is here none idle since missing follows.
      subst (λ (es : List Event). goal_of (held_at config passes es output) wants register
      ≡ goal_of (held_at config passes before output) wants register) (sym is)
      (goal-later laws plans config passes part output wants before spelled here none idle since missing later
      (subst (λ (es : List Event). IsLived config passes es) is lived) follows register);
  missing = λ part output wants later before is here none idle since missing follows.
      subst (λ (es : List Event). HoldsMissing part config (now config passes es).device.words output) (sym is)
      (missing-later laws plans config passes part output wants before spelled here none idle since missing later
      (subst (λ (es : List Event). IsLived config passes es) is lived) follows);
  come_true = λ part output limits wants register word here none since missing over wanted.
      come-true laws plans part limits output wants None lived spelled here none since missing over register word refl wanted;
}

-- nothing is missing of a part with every register
pub none-missing : WholePartsMissNothing → (config : Config) (words : Words) (output : ℕ) → HoldsMissing all_registers config words output
none-missing whole config words output register word lacks =
    absurd (let bad = sym (has-none all_registers (shape_for config output) register (not-lacking (has_register all_registers register)
    (rule-none (not (has_register all_registers register)) MissingRegister (whole.checked (Out output register))))) ∙ lacks in cc)
  where
    not-lacking : (b : Bool) → not b ≡ false → b ≡ true
    not-lacking true h = refl
    not-lacking false h = cc

-- What an output commands where all that decides is known by answers since the converter's last restart.

-- what is possible is one word if that word alone is
sole-listed : (words : List ℕ) → is_none (sole_of words) ≡ false → words ≡ unwrap_or (sole_of words) 0 ∷ []
sole-listed [] some = cc
sole-listed (word ∷ []) some = refl
sole-listed (word ∷ other ∷ words) some = cc

sole-only : (possible : Possible) → is_none (sole possible) ≡ false → possible ≡ only (unwrap_or (sole possible) 0)
sole-only Any some = cc
sole-only (Listed words) some = ap (λ (ws : List ℕ). Listed (record { items = ws })) (sole-listed words.items some)

-- a cell that is known may hold the word that is known, and no other
known-only : (cell : Cell) (possible : Possible) →
    is_none (option_and_then (λ w. rule (cell_accepts cell w) w) (sole possible)) ≡ false →
    possible ≡ only (unwrap_or (option_and_then (λ w. rule (cell_accepts cell w) w) (sole possible)) 0)
known-only cell possible some = go (sole possible) refl some where
  go : (word : Option ℕ) → sole possible ≡ word → is_none (option_and_then (λ w. rule (cell_accepts cell w) w) word) ≡ false →
      possible ≡ only (unwrap_or (option_and_then (λ w. rule (cell_accepts cell w) w) word) 0)
  go None e h = cc
  go (Some word) e h = by (cell_accepts cell word) h where
    by : (b : Bool) → is_none (rule b word) ≡ false → possible ≡ only (unwrap_or (rule b word) 0)
    by true n = sole-only possible (ap (λ (o : Option ℕ). is_none o) e) ∙ ap (λ (o : Option ℕ). only (unwrap_or o 0)) e
    by false n = cc

-- a byte that is known of OPERATION is one that it takes
accepted-byte : (cell : Cell) (possible : Possible) → is_none (known_word cell possible) ≡ false → {byte : ℕ} →
    unwrap_or (known_word cell possible) 0 ≡ byte → cell_accepts cell byte ≡ true
accepted-byte cell possible some is = subst (λ (w : ℕ). cell_accepts cell w ≡ true) is (go (sole possible) some) where
  go : (word : Option ℕ) → is_none (option_and_then (λ w. rule (cell_accepts cell w) w) word) ≡ false →
      cell_accepts cell (unwrap_or (option_and_then (λ w. rule (cell_accepts cell w) w) word) 0) ≡ true
  go None h = cc
  go (Some word) h = by (cell_accepts cell word) refl h where
    by : (b : Bool) → cell_accepts cell word ≡ b → is_none (rule b word) ≡ false →
        cell_accepts cell (unwrap_or (rule b word) 0) ≡ true
    by true e n = e
    by false e n = cc

-- a byte that OPERATION takes and that alone is possible is all that it may be
one-operation : (byte : ℕ) → is_operation byte ≡ true → operations (only byte) ≡ byte ∷ []
one-operation byte taken = ap (λ (b : Bool). cond (not b || false) each_selection (byte ∷ [])) taken

-- the end of what is known, where each register that decides may hold its one word alone
one-end : (side : Side) (shape : Shape) (known : Known) (words : Words) (output : ℕ) →
    is_operation (word_at words (Out output Operation)) ≡ true →
    known Operation ≡ only (word_at words (Out output Operation)) →
    known (selected_register (word_at words (Out output Operation)))
    ≡ only (word_at words (Out output (selected_register (word_at words (Out output Operation))))) →
    known VoutMax ≡ only (word_at words (Out output VoutMax)) → known VoutMin ≡ only (word_at words (Out output VoutMin)) →
    end_with side shape known (operations (known Operation)) ≡ commanded (shape_value shape) words output
unfolding end_with commanded selected
one-end side shape known words output taken operation select max min =
    ap (λ (bytes : List ℕ). end_with side shape known bytes)
    (ap (λ (p : Possible). operations p) operation ∙ one-operation (word_at words (Out output Operation)) taken)
    ∙ ap (λ (p : Possible). limited (end p) (end (known VoutMin)) (end (known VoutMax))) select
    ∙ ap (λ (p : Possible). limited (end (only word)) (end p) (end (known VoutMax))) min
    ∙ ap (λ (p : Possible). limited (end (only word)) (end (only (word_at words (Out output VoutMin)))) (end p)) max
  where
    end : Possible → Ratio
    end possible = shape_value shape (farthest_word side shape (shape_value shape) possible)

    word : ℕ
    word = word_at words (Out output (selected_register (word_at words (Out output Operation))))

-- a register that is meant is needed, as the one is that OPERATION selects
meant-needed : (held : Held) (wants : Wants) (register : Reg) → is_meant held wants register ≡ true → is_needed held wants register ≡ true
meant-needed held wants Operation meant = refl
meant-needed held wants VoutMax meant = refl
meant-needed held wants VoutMin meant = refl
meant-needed held wants register meant = meant

selected-needed : Below → (held : Held) (wants : Wants) → is_needed held wants (selected_register (held Operation)) ≡ true
selected-needed laws held wants = meant-needed held wants (selected_register (held Operation))
    (ap (λ (b : Bool). b || is_some (wants (selected_register (held Operation)))) (register-itself laws (selected_register
    (held Operation))))

module _ (laws : Below) {config : Config} {passes : ℕ} {events : List Event} (part : PartRegisters) (output : ℕ) (wants : Wants)
    (lived : IsLived config passes events) (here : output < config.count)
    (missing : HoldsMissing part config (now config passes events).device.words output)
    (all : AreKnownSince config passes part output wants events) where
  abbrev lives_cells : Cells
  lives_cells = cells_at config passes part events output

  -- what is held may be
  lives_may : (register : Reg) → is_needed (known_of lives_cells output) wants register ≡ true →
      is_possible (held_at config passes events output register) (lives_cells (Out output register)) ≡ true
  lives_may register needed = go (missing_word part (shape_for config output) register) refl where
    go : (word : Option ℕ) → missing_word part (shape_for config output) register ≡ word →
        is_possible (held_at config passes events output register)
        (option_map_or only word (possible_at (now config passes events).host (Out output register))) ≡ true
    go None none = (possible-held laws config passes events lived).held (Out output register) here ((all register needed).1 none)
    go (Some word) is = alone (held_at config passes events output register) word (missing register word is)

  -- what is known of a register that is needed is held
  pub known-held-at : (register : Reg) → is_needed (known_of (cells_at config passes part events output) output) wants register ≡ true →
      known_of (cells_at config passes part events output) output register ≡ held_at config passes events output register
  known-held-at register needed =
      known-held lives_cells (Out output register) (held_at config passes events output register) (lives_may register needed)
      (all register needed).0

  -- The word that is held of a register that is needed is alone possible.
  one-word : (register : Reg) → is_needed (known_of lives_cells output) wants register ≡ true →
      lives_cells (Out output register) ≡ only (held_at config passes events output register)
  one-word register needed = known-only (Out output register) (lives_cells (Out output register)) (all register needed).0
      ∙ ap (λ (w : ℕ). only w) (known-held-at register needed)

  chosen : lives_cells (Out output (selected_register (held_at config passes events output Operation)))
      ≡ only (held_at config passes events output (selected_register (held_at config passes events output Operation)))
  chosen = one-word (selected_register (held_at config passes events output Operation))
      (subst (λ (byte : ℕ). is_needed (known_of lives_cells output) wants (selected_register byte) ≡ true)
      (known-held-at Operation refl) (selected-needed laws (known_of lives_cells output) wants))

  ends : (side : Side) → end_with side (shape_for config output)
      (limits.known_of_output part (shape_for config output) (now config passes events).host output)
      (operations (possible_at (now config passes events).host (Out output Operation))) ≡ commands config passes events output
  ends side = one-end side (shape_for config output)
      (limits.known_of_output part (shape_for config output) (now config passes events).host output)
      (now config passes events).device.words output
      (accepted-byte (Out output Operation) (lives_cells (Out output Operation)) (all Operation refl).0
      (known-held-at Operation refl)) (one-word Operation refl) chosen (one-word VoutMax refl) (one-word VoutMin refl)

  pub one-value : (band : Band) → IsSpelled config → band_at part (now config passes events).host output ≡ Some band →
      IsOneValue band config passes events output
  one-value band spelled is =
      let s = (now config passes events).host in
      let same = band-of _ (format_at s output) (λ f. limits.known_of_output part f s output)
      (operations (possible_at s (Out output Operation))) (shape_for config output) band
      ((formats-agree laws config passes events lived spelled).held output) is in
      record {
        least = sym (ap (λ (b : Band). b.least) same) ∙ ends Lowest;
        greatest = sym (ap (λ (b : Band). b.greatest) same) ∙ ends Highest;
      }

  -- what a plan needs is read since
  pub read-so : MissingUnread config passes part output events → IsReadSince config passes output wants events
  read-so unread register needed read = go (has_register part register) refl where
    go : (b : Bool) → has_register part register ≡ b → restarted_since config passes (Out output register) events ≡ false
    go true has = (all register
        (needed-same (known_of lives_cells output) (held_at config passes events output) wants
        (known-held-at Operation refl) register ∙ needed)).1 (has-none part (shape_for config output) register has)
    go false lacks = absurd (let bad = sym (unread register lacks) ∙ read in cc)

-- what is needed is known since the converter's last restart if a survey has ended by its own rule
known-since : Below → SurveysEndKnown → {config : Config} {passes : ℕ} {events : List Event} (part : PartRegisters) (v : Survey)
    (later before : List Event) → IsLived config passes events → IsSpelled config → v.output < config.count →
    events ≡ later ++ before → MissingUnread config passes part v.output events →
    AreRead config passes v later before → list_any restarts_converter later ≡ false →
    is_surveyed part v (now config passes events).host ≡ true →
    AreKnownSince config passes part v.output (wants_of (wanted_in v.plan)) events
known-since laws ended {config = config} {passes = passes} {events = events} part v later before lived spelled here is unread are steady
    surveyed register needed =
    by (format_at (now config passes events).host v.output) refl
    ((formats-agree laws config passes events lived spelled).held v.output) ((ended.format part v
    (now config passes events).host surveyed).1)
  where
    since : has_register part register ≡ true → survey.has_read v.read register ≡ true →
        restarted_since config passes (Out v.output register) events ≡ false
    since has read = subst (λ (es : List Event). restarted_since config passes (Out v.output register) es ≡ false) (sym is)
        (read-since config passes (Out v.output register) later before (are.registers register read) steady)

    fresh : (b : Bool) → has_register part register ≡ b → (has_register part register ≡ true → survey.has_read v.read register ≡ true) →
        is_none (known_at (cells_at config passes part events v.output) (Out v.output register)) ≡ false →
        missing_word part (shape_for config v.output) register ≡ None →
        restarted_since config passes (Out v.output register) events ≡ false
    fresh true has read known none = since has (read has)
    fresh false lacks read known none = absurd (not-known (possible_at (now config passes events).host (Out v.output register)) refl
        (ap (λ (p : Possible). is_none (known_word (Out v.output register) p))
        (sym (ap (λ (o : Option ℕ). option_map_or only o (possible_at (now config passes events).host
        (Out v.output register))) none)) ∙ known))
      where
        listed-was-read : possible_at (now config passes events).host (Out v.output register) ≢ Any → ⊥
        listed-was-read listed =
            let read' = (possible-held laws config passes events lived).found (Out v.output register) here listed in
            let bad = sym (unread register lacks) ∙ read' in cc

        not-known : (p : Possible) → possible_at (now config passes events).host (Out v.output register) ≡ p →
            is_none (known_word (Out v.output register) p) ≡ false → ⊥
        not-known Any e n = cc
        not-known (Listed words) e n = listed-was-read (λ any. let bad = sym e ∙ any in cc)

    by : (format : Option Shape) → format_at (now config passes events).host v.output ≡ format →
        ((shape : Shape) → format_at (now config passes events).host v.output ≡ Some shape → shape ≡ shape_for config v.output) →
        is_none (format_at (now config passes events).host v.output) ≡ false →
        (is_none (known_at (cells_at config passes part events v.output) (Out v.output register)) ≡ false)
        × (missing_word part (shape_for config v.output) register ≡ None →
        restarted_since config passes (Out v.output register) events ≡ false)
    by None e agree some = absurd (let bad = sym (ap (λ (o : Option Shape). is_none o) e) ∙ some in cc)
    by (Some shape) e agree some =
        let own = e ∙ ap (λ (s : Shape). Some s) (agree shape e) in
        let known = ended.known part v (now config passes events).host (shape_for config v.output) register surveyed own needed in
        (known.1, fresh (has_register part register) refl known.0 known.1)

-- what surveys are worth in a life
pub keeps-surveys : Below → BandsAreHeld → SurveysEndKnown → (config : Config) (passes : ℕ) (events : List Event) →
    IsLived config passes events → IsSpelled config → KeepsSurveys config passes events
keeps-surveys laws bands ended config passes events lived spelled = record {
  words = λ part output wants register here missing all needed.
      sym (known-held-at laws part output wants lived here missing all register needed);
  one = λ part output wants band here missing all is. one-value laws part output wants lived here missing all band spelled is;
  known = λ part v later before is here unread are steady surveyed.
      known-since laws ended part v later before lived spelled here is unread are steady surveyed;
  ready = λ part v later before is here unread missing are steady surveyed.
      read-so laws part v.output (wants_of (wanted_in v.plan)) lived here missing
      (known-since laws ended part v later before lived spelled here is unread are steady surveyed) unread;
  band = λ part v later before band is here short missing are steady others gives.
      bands config passes part events v.output band spelled lived here short
      (λ register decides' listed. either v later before is are steady register (survey.has_read v.read register) refl
      (others register decides' listed)) missing gives;
}
  where
    either : (v : Survey) (later before : List Event) → events ≡ later ++ before → AreRead config passes v later before →
        list_any restarts_converter later ≡ false → (register : Reg) (read : Bool) → survey.has_read v.read register ≡ read →
        (survey.has_read v.read register ≡ false → restarted_since config passes (Out v.output register) events ≡ false) →
        restarted_since config passes (Out v.output register) events ≡ false
    either v later before is are steady register true read other =
        subst (λ (es : List Event). restarted_since config passes (Out v.output register) es ≡ false) (sym is)
        (read-since config passes (Out v.output register) later before (are.registers register read) steady)
    either v later before is are steady register false read other = other read
