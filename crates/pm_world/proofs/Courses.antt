-- What a course to wanted words is worth over a life.
use Rattle.std.specs.List.{list_any}
use Rattle.std.specs.Prelude.{option_and_then, option_map, option_to_list, if◌then◌else◌, Ok, is_some, is_none, unwrap_or}
use Rattle.std.proofs.{Math.Path.fun_ext, lemmas.Bool.or_parts}
use Rattle.std.proofs.Common.{◌≡◌, ◌≢◌, ℕ, Bool, true, false, cond, ◌||◌, List, [], ◌∷◌, ◌++◌, Option, Some, None, refl, sym, ◌∙◌, ap}
use Rattle.std.proofs.Common.{subst, ◌⊎◌, inl, inr, ◌<◌, append_assoc, append-nil}
use Rattle.pm_num.specs.Ratio.{Ratio}
use Rattle.pm_table.specs.{Cell.same_cell, declared.cell.Cell.Cell, declared.reg.Reg.Reg}
use Rattle.pm_table.specs.declared.cell.Cell.TheVariants.{Out, Protect}
use Rattle.pm_model.specs.Commanded.{commanded, selected}
use Rattle.pm_model.specs.declared.order_machine.PendingJob.TheVariants as pending
use Rattle.pm_device.specs.{Held.value_for, declared.config.Config.Config}
use Rattle.pm_host.specs.{Answers.good_word, Jobs.accepted_job, Refusals.is_busy, Summary.Summary}
use Rattle.pm_host.specs.{declared.command.Command.TheVariants.RestoreUserAll, declared.host.Step.Step, declared.job.Job.Job as Asked}
use Rattle.pm_host.specs.{declared.job.JobEnd.JobEnd, declared.stage.Stage.Stage}
use Rattle.pm_host.specs.Ended.{StepTells, job_in, stage_job}
use Rattle.pm_host.specs.Marks.{Good, goods, read_by}
use Rattle.pm_host.specs.Transcript as host
use Rattle.pm_host.specs.declared.host.Step.TheVariants.{Next, Ended}
use Rattle.pm_host.specs.declared.job.Job.TheVariants as job
use Rattle.pm_limits.specs.{Part.has_register, declared.output_limits.OutputLimits.OutputLimits}
use Rattle.pm_limits.specs.{declared.part_registers.PartRegisters.PartRegisters}
use Rattle.pm_rail.specs.{Laws.IsStep, Orders.plan_of, declared.apply_end.ApplyEnd.TheVariants.Reached, declared.course.Course.Course}
use Rattle.pm_rail.specs.{declared.next.Next.Next as Said, declared.orders.PlanOrder.PlanOrder, declared.survey.Survey.Survey}
use Rattle.pm_rail.specs.{declared.wanted.Wanted.Wanted}
use Rattle.pm_rail.specs.Course.{after_next, course_of, is_order, naming, next_of, renewed, says as says_of, told_of}
use Rattle.pm_rail.specs.Lemmas.Says.{Names, asks-so, differing-same, ended-same, orders, reads, renewed-none, renewed-so, says-job}
use Rattle.pm_rail.specs.Lemmas.Says.{says-reached, named-so, told-own}
use Rattle.pm_rail.specs.Plan.{commands_by, goal_of}
use Rattle.pm_rail.specs.Registers.{Held, Wants, wants_of}
use Rattle.pm_rail.specs.Survey.{is_surveyed, next_job, wanted_in}
use Rattle.pm_rail.specs.declared.next.Next.TheVariants as said
use Rattle.pm_world.specs.{Bands.HoldsMissing, Below.Below, Ended.begins_other, Honest.IsSpelled, Job.asked_by, Lemmas.entries-more}
use Rattle.pm_world.specs.{Limited.commands, Setup.setup_of, declared.event.Event.Event}
use Rattle.pm_world.specs.Confirmed.{is_good_for, reads as reads_told, reads_cell, restarts_converter}
use Rattle.pm_world.specs.Courses.{IsBeside, goal_at, IsCourse, asks, asks_else, begins, beside, forgets, says, tells, tells_else}
use Rattle.pm_world.specs.Courses.{KeepsCourses, AsksNoOrder, IsElse, IsNoOrder, IsUntouched, asking_else, protects, selects, turns}
use Rattle.pm_world.specs.Life.{life, now, state_of}
use Rattle.pm_world.specs.Moments.{Beyond, same-commands, split-at}
use Rattle.pm_world.specs.Moves.{MovesBy, came_back, ordered as moves_ordered, restored}
use Rattle.pm_world.specs.Plans.{Follows, PlansHoldInLives, held_at, IsReadSince, MayAsk}
use Rattle.pm_world.specs.Possible.{host_has_read, restarts_host}
use Rattle.pm_world.specs.Retelling.{open_pending, pending_of}
use Rattle.pm_world.specs.State.{asked, share_of, State}
use Rattle.pm_world.specs.Surveys.{MissingUnread, SurveysHoldInLives, AreRead}
use Rattle.pm_world.proofs.Events.{IsLived, earlier, lived-before}
use Rattle.pm_world.proofs.Formats.{TellsFrame, beside-frame, by-acceptance, by-frame, by-silence, any-parts}
use Rattle.pm_world.proofs.Orders.{moves-so}
use Rattle.pm_world.proofs.Plans.{pending-open, pending-order, pending-restore, restarted-none, Stands, Took, goes}
use Rattle.pm_world.proofs.Standings.{restart-told}

-- The events beside a course, and parts of lists of them.

-- the laws that a course is worth something by
pub record Given : Type 0 where
  pub below : Below
  pub plans : PlansHoldInLives
  pub surveys : SurveysHoldInLives

-- ---- The open job ----

-- the open job, by what the host was told
pub opened-is : Below → (config : Config) (passes : ℕ) (events : List Event) →
    job_in (now config passes events).host ≡ host.open_job (setup_of config passes) (life config passes events).entries
unfolding now state_of
opened-is laws config passes events = laws.ends_are_told.job (setup_of config passes) (life config passes events).entries

restart-idle : Below → (config : Config) (passes : ℕ) (before : List Event) (event : Event) → restarts_host event ≡ true →
    job_in (now config passes (event ∷ before)).host ≡ None
restart-idle laws config passes before event restarts =
    let entries = (life config passes before).entries in
    opened-is laws config passes (event ∷ before)
    ∙ (ap (λ (es : List host.Entry). host.open_job (setup_of config passes) es)
    (entries-more config passes before event
    ∙ ap (λ (t : Option host.Entry). option_to_list t ++ entries) (restart-told (now config passes before) event restarts))
    ∙ restarted-none (setup_of config passes) entries)

-- cells of two outputs are two, and those of registers of which the part has one and not the other
two-outputs : Below → (one other : ℕ) (r m : Reg) → one ≢ other → same_cell (Out one r) (Out other m) ≡ false
two-outputs laws one other r m two = go (same_cell (Out one r) (Out other m)) refl where
  go : (b : Bool) → same_cell (Out one r) (Out other m) ≡ b → b ≡ false
  go true same =
      let is : Out one r ≡ Out other m = (laws.cells_are_told_apart (Out one r) (Out other m)).0 same in
      let output : one ≡ other = cc in absurd (two output)
  go false same = refl

pub two-registers : Below → (part : PartRegisters) (one other : ℕ) (r m : Reg) → has_register part r ≡ true → has_register part m ≡ false →
    same_cell (Out one r) (Out other m) ≡ false
two-registers laws part one other r m has none = go (same_cell (Out one r) (Out other m)) refl where
  go : (b : Bool) → same_cell (Out one r) (Out other m) ≡ b → b ≡ false
  go true same =
      let is : Out one r ≡ Out other m = (laws.cells_are_told_apart (Out one r) (Out other m)).0 same in
      let register : r ≡ m = cc in cc
  go false same = refl

-- What holds of no job, of the open one and of the one that is asked for holds of the open one after an event.
pub open-kept : Below → (config : Config) (passes : ℕ) (P : Option host.Job → Type 0) → P None → (before : List Event) (event : Event) →
    IsLived config passes (event ∷ before) → P (job_in (now config passes before).host) → P (asked (now config passes before) event) →
    P (job_in (now config passes (event ∷ before)).host)
open-kept laws config passes P none before event lived was may = go (asked (now config passes before) event) refl where
  by : (step : Step) (entry : host.Entry) →
      StepTells (now config passes before).host entry step (now config passes (event ∷ before)).host →
      P (job_in (now config passes (event ∷ before)).host)
  by Next entry told' = subst P (sym told'.0) was
  by (Ended end) entry told' = subst P (sym told'.0) none

  told : (entry : Option host.Entry) → (share_of (now config passes before) event).told ≡ entry → TellsFrame entry →
      P (job_in (now config passes (event ∷ before)).host)
  told None e frame = subst P (sym (ap (λ (s : Summary). job_in s) (by-silence config passes before event e).0)) was
  told (Some entry) e frame = by _ entry (by-frame laws config passes before event entry lived e frame).tells

  still : (b : Bool) → restarts_host event ≡ b → asked (now config passes before) event ≡ None →
      P (job_in (now config passes (event ∷ before)).host)
  still true r a = subst P (sym (restart-idle laws config passes before event r)) none
  still false r a = told _ refl (beside-frame (now config passes before) event a r)

  go : (o : Option host.Job) → asked (now config passes before) event ≡ o → P (job_in (now config passes (event ∷ before)).host)
  go (Some begun) a = subst P (a ∙ sym (by-acceptance laws config passes before event begun lived a).open') may
  go None a = still (restarts_host event) refl a

-- What the host is told is no good answer for a cell that its open job doesn't read.
reads-none : (setup : host.Setup) (entries : List host.Entry) (cell : Cell) →
    ((c : Cell) → read_by (host.open_job setup entries) (host.told_since entries) ≡ Some c → same_cell c cell ≡ false) →
    (told : Option host.Entry) → reads_told setup entries cell told ≡ false
unfolding goods
reads-none setup entries cell other (Some (host.Got bytes)) = by (read_by (host.open_job setup entries) (host.told_since entries)) other where
  by : (r : Option Cell) → ((c : Cell) → r ≡ Some c → same_cell c cell ≡ false) →
      list_any (is_good_for cell) (option_to_list (option_and_then
      (λ c. option_map (λ word. Good c word) (good_word setup.addr c bytes)) r)) ≡ false
  by None f = refl
  by (Some c) f = word-by (good_word setup.addr c bytes) where
    word-by : (w : Option ℕ) → list_any (is_good_for cell) (option_to_list (option_map (λ word. Good c word) w)) ≡ false
    word-by None = refl
    word-by (Some w) = ap (λ (b : Bool). b || false) (f c refl)
reads-none setup entries cell other None = refl
reads-none setup entries cell other (Some (host.Accepted j)) = refl
reads-none setup entries cell other (Some (host.Finished acked)) = refl
reads-none setup entries cell other (Some host.Restarted) = refl

-- A cell that it doesn't read stays unread.
pub unread-kept : Below → (config : Config) (passes : ℕ) (cell : Cell) (before : List Event) (event : Event) →
    ((told : List host.Entry) (c : Cell) → read_by (job_in (now config passes before).host) told ≡ Some c → same_cell c cell ≡ false) →
    host_has_read config passes cell before ≡ false → host_has_read config passes cell (event ∷ before) ≡ false
unfolding host_has_read
unread-kept laws config passes cell before event other was =
    go (restarts_host event) (reads_cell config passes cell before event) (host_has_read config passes cell before)
    (reads-none (setup_of config passes) (life config passes before).entries cell
    (λ c e. other (host.told_since (life config passes before).entries) c
    (ap (λ (j : Option host.Job). read_by j (host.told_since (life config passes before).entries)) (opened-is laws config passes before) ∙ e))
    (share_of (now config passes before) event).told) was
  where
    go : (host' one rest : Bool) → one ≡ false → rest ≡ false → cond host' false (one || rest) ≡ false
    go true one rest e f = refl
    go false true rest e f = cc
    go false false rest e f = f

module _ (laws : Below) (config : Config) (passes : ℕ) (part : PartRegisters) (output : ℕ) where
  abbrev pub Open : List Event → Type 0
  Open events = IsBeside part output (job_in (now config passes events).host)

  -- the open job is no order of the output, and no restore, if it is one that others may ask for
  pub no-order : (events : List Event) → Open events → (q : Reg) (word : ℕ) →
      open_pending config passes events ≡ Some (pending.Order (Out output q) word) → ⊥
  no-order events quiet q word p = go (job_in (now config passes events).host) refl (sym (pending-open laws config passes events) ∙ p) where
    go : (j : Option host.Job) → job_in (now config passes events).host ≡ j →
        option_and_then pending_of j ≡ Some (pending.Order (Out output q) word) → ⊥
    go None e h = cc
    go (Some open') e h =
        let is = pending-order open' (Out output q) word h in
        let two = subst (λ (x : Option host.Job). IsBeside part output x) (e ∙ ap (λ (x : host.Job). Some x) is) quiet in
        two refl

  pub no-restore : (events : List Event) → Open events → open_pending config passes events ≡ Some pending.Restore → ⊥
  no-restore events quiet p = go (job_in (now config passes events).host) refl (sym (pending-open laws config passes events) ∙ p) where
    go : (j : Option host.Job) → job_in (now config passes events).host ≡ j → option_and_then pending_of j ≡ Some pending.Restore → ⊥
    go None e h = cc
    go (Some open') e h =
        let is = pending-restore open' h in
        subst (λ (x : Option host.Job). IsBeside part output x) (e ∙ ap (λ (x : host.Job). Some x) is) quiet

  -- it stays one while none other is asked for
  pub open-more : (before : List Event) (event : Event) → IsLived config passes (event ∷ before) → Open before →
      IsBeside part output (asked (now config passes before) event) → Open (event ∷ before)
  open-more before event lived quiet may =
      open-kept laws config passes (λ (j : Option host.Job). IsBeside part output j) tt before event lived quiet may

  -- what the host is told then is no good answer for a register that the part doesn't have
  pub unread : (o : Option host.Job) → IsBeside part output o → (m : Reg) → has_register part m ≡ false →
      (told : List host.Entry) (c : Cell) → read_by o told ≡ Some c → same_cell c (Out output m) ≡ false
  unread None b m lacks told c e = cc
  unread (Some (host.Order (Out other r) w)) b m lacks told c e = turn (host.is_write_turn told) e where
    turn : (t : Bool) → (if t then None else Some (Out other r)) ≡ Some c → same_cell c (Out output m) ≡ false
    turn true h = cc
    turn false h = let is : Out other r ≡ c = cc in
        subst (λ (x : Cell). same_cell x (Out output m) ≡ false) is (two-outputs laws other output r m b)
  unread (Some (host.Order Protect w)) b m lacks told c e = turn (host.is_write_turn told) e where
    turn : (t : Bool) → (if t then None else Some Protect) ≡ Some c → same_cell c (Out output m) ≡ false
    turn true h = cc
    turn false h = let is : Protect ≡ c = cc in subst (λ (x : Cell). same_cell x (Out output m) ≡ false) is refl
  unread (Some (host.Check (Out other r))) b m lacks told c e = let is : Out other r ≡ c = cc in
      subst (λ (x : Cell). same_cell x (Out output m) ≡ false) is (two-registers laws part other output r m b lacks)
  unread (Some (host.Check Protect)) b m lacks told c e = let is : Protect ≡ c = cc in
      subst (λ (x : Cell). same_cell x (Out output m) ≡ false) is refl
  unread (Some (host.Learn learned)) b m lacks told c e = cc
  unread (Some (host.Send command)) b m lacks told c e = cc

  pub unread-more : (before : List Event) (event : Event) → Open before → MissingUnread config passes part output before →
      MissingUnread config passes part output (event ∷ before)
  unread-more before event quiet was = λ m lacks. unread-kept laws config passes (Out output m) before event
      (λ told c e. unread (job_in (now config passes before).host) quiet m lacks told c e) (was m lacks)

-- ---- Moments ----

-- events that follow a plan, without the newest of them
pub follows-drop : (config : Config) (passes : ℕ) (part : PartRegisters) (output : ℕ) (wants : Wants) (rest events before : List Event) →
    Follows config passes part output wants (rest ++ events) before → Follows config passes part output wants events before
follows-drop config passes part output wants [] events before follows = follows
follows-drop config passes part output wants (event ∷ rest) events before follows = follows-drop config passes part output wants rest
    events before follows.2

pub goal-commands : (config : Config) (passes output : ℕ) (wanted : Wanted) (events before : List Event) →
    held_at config passes events output ≡ goal_of (held_at config passes before output) (wants_of wanted) →
    commands config passes events output ≡ goal_at config passes output wanted before
unfolding commanded selected
goal-commands config passes output wanted events before same = ap (λ (h : Held). commands_by (value_for config output) h) same

-- How far a course to wanted words has come, and that each event leads on.

module _ (laws : Given) (config : Config) (passes : ℕ) (part : PartRegisters) (output : ℕ) (wanted : Wanted) (before : List Event)
    (spelled : IsSpelled config) (here : output < config.count)
    (missing : HoldsMissing part config (now config passes before).device.words output) where
  abbrev wants : Wants
  wants = wants_of wanted

  abbrev at : List Event → Summary
  at es = (now config passes (es ++ before)).host

  -- the output's words at each of these moments are those of before
  abbrev pub Stays : List Event → Type 0
  Stays later = (rest piece : List Event) (register : Reg) → later ≡ rest ++ piece →
      held_at config passes (piece ++ before) output register ≡ held_at config passes before output register

  stays-more : (es : List Event) (event : Event) → Stays es →
      held_at config passes (event ∷ es ++ before) output ≡ held_at config passes (es ++ before) output → Stays (event ∷ es)
  stays-more es event was same = λ rest piece register is. go piece register rest is where
    go : (piece : List Event) (register : Reg) (rest : List Event) → event ∷ es ≡ rest ++ piece →
        held_at config passes (piece ++ before) output register ≡ held_at config passes before output register
    go piece register [] is = ap (λ (l : List Event). held_at config passes (l ++ before) output register) (sym is)
        ∙ (ap (λ (h : Reg → ℕ). h register) same ∙ was [] es register refl)
    go piece register (x ∷ rest) is = let below : es ≡ rest ++ piece = cc in was rest piece register below

  -- What a course has come to: its survey is still reading, and the output's words stayed; or from a moment on, at which
  -- all that the plan needs was read, the events follow the plan.
  pub record Reading (course : Course) (es : List Event) : Type 0 where
    pub unordered : course.ordered ≡ false
    pub stays : Stays es
    pub are : AreRead config passes course.survey es before
    pub untold : MissingUnread config passes part output (es ++ before)
    pub quiet : IsBeside part output (job_in (at es))

  pub record Ordering (es : List Event) : Type 0 where
    pub newer : List Event
    pub later : List Event
    pub is : es ≡ newer ++ later
    pub stays : Stays later
    pub since : IsReadSince config passes output wants (later ++ before)
    pub idle : is_busy (at later) ≡ false
    pub follows : Follows config passes part output wants newer (later ++ before)

  pub record Way (course : Course) (es : List Event) : Type 0 where
    pub own : course.survey.output ≡ output
    pub plan : course.survey.plan ≡ Some wanted
    pub words : course.byte ≡ None
    pub phase : Reading course es ⊎ Ordering es

  -- while the words stay, so do those of the registers that the part doesn't have
  pub holds-missing : (es : List Event) → Stays es → HoldsMissing part config (now config passes (es ++ before)).device.words output
  holds-missing es stays = λ register word is. stays [] es register refl ∙ missing register word is

  -- ---- One more event ----

  -- the jobs that may be asked for at a moment: those of others, and the plan's next order
  abbrev pub IsFine : List Event → Option host.Job → Type 0
  IsFine es o = IsBeside part output o ⊎ ((limits : OutputLimits) × (order : PlanOrder)
      × (o ≡ Some (host.Order (Out output order.register) order.word)) × (plan_of part (at es) limits output wants ≡ Ok (Some order)))

  words-stay : (es : List Event) (event : Event) → IsLived config passes (event ∷ es ++ before) → restarts_converter event ≡ false →
      IsBeside part output (job_in (at es)) →
      held_at config passes (event ∷ es ++ before) output ≡ held_at config passes (es ++ before) output
  words-stay es event lived steady quiet = go (goes laws.below config passes part output wants (es ++ before) event here lived steady stands)
    where
      stands : Stands config passes part output wants (es ++ before)
      stands = record {
        ready = λ q word p. absurd (no-order laws.below config passes part output (es ++ before) quiet q word p);
        free = λ p. no-restore laws.below config passes part output (es ++ before) quiet p;
      }

      go : (held_at config passes (event ∷ es ++ before) output ≡ held_at config passes (es ++ before) output)
          ⊎ Took config passes part output wants (es ++ before) event →
          held_at config passes (event ∷ es ++ before) output ≡ held_at config passes (es ++ before) output
      go (inl same) = same
      go (inr took) = absurd (no-order laws.below config passes part output (es ++ before) quiet took.q _ took.opened)

  pub reading-more : (course : Course) (es : List Event) (event : Event) → Reading course es → IsLived config passes (event ∷ es ++ before) →
      restarts_converter event ≡ false → IsBeside part output (asked (now config passes (es ++ before)) event) → Reading course (event ∷ es)
  reading-more course es event was lived steady may = record {
    unordered = was.unordered;
    stays = stays-more es event was.stays (words-stay es event lived steady was.quiet);
    are = (laws.surveys.follows config passes (event ∷ es ++ before) lived).more course.survey (event ∷ []) es before refl was.are;
    untold = unread-more laws.below config passes part output (es ++ before) event was.quiet was.untold;
    quiet = open-more laws.below config passes part output (es ++ before) event lived was.quiet may;
  }

  beside-may : (newer older : List Event) (o : Option host.Job) → IsBeside part output o →
      MayAsk config passes part output wants newer older o
  beside-may newer older (Some (host.Order (Out other r) w)) b = λ same. absurd (b same)
  beside-may newer older (Some (host.Order Protect w)) b = tt
  beside-may newer older (Some (host.Check cell)) b = tt
  beside-may newer older (Some (host.Learn learned)) b = tt
  beside-may newer older (Some (host.Send RestoreUserAll)) b = absurd b
  beside-may newer older (Some (host.Send command)) b = tt
  beside-may newer older None b = tt

  fine-may : (es newer later : List Event) → es ≡ newer ++ later → (o : Option host.Job) → IsFine es o →
      MayAsk config passes part output wants newer (later ++ before) o
  fine-may es newer later is o (inl b) = beside-may newer (later ++ before) o b
  fine-may es newer later is o (inr (limits, order, named, plan)) =
      subst (λ (x : Option host.Job). MayAsk config passes part output wants newer (later ++ before) x) (sym named)
      (λ same. inl (
        limits,
        ap (λ (l : List Event). plan_of part (now config passes l).host limits output wants)
            (sym (ap (λ (l : List Event). l ++ before) is ∙ append_assoc newer later before)) ∙ plan,
      ))

  pub ordering-more : (es : List Event) (event : Event) → Ordering es → restarts_converter event ≡ false →
      IsFine es (asked (now config passes (es ++ before)) event) → Ordering (event ∷ es)
  ordering-more es event was steady fine =
      let moment : es ++ before ≡ was.newer ++ (was.later ++ before) =
      ap (λ (l : List Event). l ++ before) was.is ∙ append_assoc was.newer was.later before in
      record {
        newer = event ∷ was.newer;
        later = was.later;
        is = ap (λ (l : List Event). event ∷ l) was.is;
        stays = was.stays;
        since = was.since;
        idle = was.idle;
        follows = (
          steady,
          subst (λ (l : List Event). MayAsk config passes part output wants was.newer (was.later ++ before) (asked (now config passes l) event))
              moment (fine-may es was.newer was.later was.is (asked (now config passes (es ++ before)) event) fine),
          was.follows,
        );
      }

  -- an event that begins no other job asks for none
  pub asks-none : (s : State) (event : Event) → begins_other event ≡ false → asked s event ≡ None
  asks-none s event alone = go (asked_by event) (or_parts (is_some (asked_by event)) (restarts_host event) alone).0 where
    go : (o : Option Asked) → is_some o ≡ false → option_and_then (accepted_job s.host) o ≡ None
    go None h = refl
    go (Some j) h = cc

  pub beside-none : (s : State) (event : Event) → begins_other event ≡ false → IsBeside part output (asked s event)
  beside-none s event alone = subst (λ (o : Option host.Job). IsBeside part output o) (sym (asks-none s event alone)) tt

  pub reading-all : (course : Course) (newer es : List Event) → Reading course es → IsLived config passes ((newer ++ es) ++ before) →
      list_any restarts_converter newer ≡ false → list_any begins_other newer ≡ false → Reading course (newer ++ es)
  reading-all course [] es was lived steady alone = was
  reading-all course (event ∷ newer) es was lived steady alone =
      let still = or_parts (restarts_converter event) (list_any restarts_converter newer) steady in
      let other = or_parts (begins_other event) (list_any begins_other newer) alone in
      reading-more course (newer ++ es) event (reading-all course newer es was (earlier lived) still.1 other.1) lived still.0
      (beside-none (now config passes ((newer ++ es) ++ before)) event other.0)

  pub ordering-all : (newer es : List Event) → Ordering es → list_any restarts_converter newer ≡ false → list_any begins_other newer ≡ false →
      Ordering (newer ++ es)
  ordering-all [] es was steady alone = was
  ordering-all (event ∷ newer) es was steady alone =
      let still = or_parts (restarts_converter event) (list_any restarts_converter newer) steady in
      let other = or_parts (begins_other event) (list_any begins_other newer) alone in
      ordering-more (newer ++ es) event (ordering-all newer es was still.1 other.1) still.0
      (inl (beside-none (now config passes ((newer ++ es) ++ before)) event other.0))

-- A course to wanted words, at each moment of a life.

module _ (laws : Given) (config : Config) (passes : ℕ) (part : PartRegisters) (output : ℕ) (wanted : Wanted) (before : List Event)
    (spelled : IsSpelled config) (here : output < config.count)
    (missing : HoldsMissing part config (now config passes before).device.words output) where
  abbrev steps_wants : Wants
  steps_wants = wants_of wanted

  abbrev steps_at : List Event → Summary
  steps_at es = (now config passes (es ++ before)).host

  abbrev StepsReading : Course → List Event → Type 0
  StepsReading course es = Reading laws config passes part output wanted before spelled here missing course es

  abbrev StepsOrdering : List Event → Type 0
  StepsOrdering es = Ordering laws config passes part output wanted before spelled here missing es

  abbrev StepsWay : Course → List Event → Type 0
  StepsWay course es = Way laws config passes part output wanted before spelled here missing course es

  abbrev StepsIsFine : List Event → Option host.Job → Type 0
  StepsIsFine es o = IsFine laws config passes part output wanted before spelled here missing es o

  -- all that the plan needs was read, where its survey has ended by its own rule
  pub ready : (course : Course) (es : List Event) → course.survey.output ≡ output → course.survey.plan ≡ Some wanted
      → StepsReading course es →
      IsLived config passes (es ++ before) → list_any restarts_converter es ≡ false → is_surveyed part course.survey (steps_at es) ≡ true →
      IsReadSince config passes output steps_wants (es ++ before)
  ready course es own plan was lived steady surveyed =
      let since = (laws.surveys.keeps config passes (es ++ before) spelled lived).ready part course.survey es before refl
      (subst (λ (o : ℕ). o < config.count) (sym own) here)
      (subst (λ (o : ℕ). MissingUnread config passes part o (es ++ before)) (sym own) was.untold)
      (subst (λ (o : ℕ). HoldsMissing part config (now config passes (es ++ before)).device.words o) (sym own)
      (holds-missing laws config passes part output wanted before spelled here missing es was.stays))
      was.are steady surveyed in
      subst (λ (o : ℕ). IsReadSince config passes o steps_wants (es ++ before)) own
      (subst (λ (p : Option Wanted). IsReadSince config passes course.survey.output (wants_of (wanted_in p)) (es ++ before)) plan since)

  -- a new survey
  pub way-renewed : (limits : OutputLimits) (course : Course) (es : List Event) → StepsWay course es
      → StepsWay (renewed part limits (steps_at es) course) es
  way-renewed limits course es way = record {
    own = renewed-so (λ (c : Course). c.survey.output ≡ output) part limits (steps_at es) course way.own way.own;
    plan = renewed-so (λ (c : Course). c.survey.plan ≡ Some wanted) part limits (steps_at es) course way.plan way.plan;
    words = renewed-so (λ (c : Course). c.byte ≡ None) part limits (steps_at es) course way.words way.words;
    phase = go way.phase;
  }
    where
      go : StepsReading course es ⊎ StepsOrdering es → StepsReading (renewed part limits (steps_at es) course) es ⊎ StepsOrdering es
      go (inl reading) = inl (subst (λ (c : Course). StepsReading c es)
          (sym (renewed-none part limits (steps_at es) course reading.unordered)) reading)
      go (inr ordering) = inr ordering

  -- a job of a survey is one that others may ask for too, and no order
  record IsRead (asked' : Asked) : Type 0 where
    pub plain : is_order asked' ≡ false
    pub may : (s : State) (event : Event) → asked_by event ≡ Some asked' → IsBeside part output (asked s event)

  read-job : (v : Survey) (s : Summary) (asked' : Asked) → next_job part v s ≡ Some asked' → IsRead asked'
  read-job v s asked' is = asks-so IsRead part v s
      (record { plain = refl; may = λ t event e. by t event (job.Learn v.output) e tt })
      (λ r has. record { plain = refl; may = λ t event e. by t event (job.Check (Out v.output r)) e has })
      (record { plain = refl; may = λ t event e. by t event (job.Check Protect) e tt }) asked' is
    where
      by : (t : State) (event : Event) (j : Asked) → asked_by event ≡ Some j → IsBeside part output (accepted_job t.host j) →
          IsBeside part output (asked t event)
      by t event j e b = subst (λ (o : Option Asked). IsBeside part output (option_and_then (accepted_job t.host) o)) (sym e) b

  -- What a job is that a course names at a moment: its survey still reads and asks for it, or the plan is followed and it is
  -- one that may be asked for.
  data Comes (limits : OutputLimits) (course : Course) (es : List Event) (asked' : Asked) : Type 0 where
    steps_still : StepsReading course es → next_job part course.survey (steps_at es) ≡ Some asked' → IsRead asked' →
        Comes limits course es asked'
    now-on : StepsOrdering es → ((event : Event) → asked_by event ≡ Some asked' →
        StepsIsFine es (asked (now config passes (es ++ before)) event)) → Comes limits course es asked'

  comes : (limits : OutputLimits) (course : Course) (es : List Event) (asked' : Asked) → StepsWay course es →
      IsLived config passes (es ++ before) → list_any restarts_converter es ≡ false →
      says_of part limits (steps_at es) course ≡ said.Job asked' → Comes limits course es asked'
  comes limits course es asked' way lived steady is = by named.1 way.phase where
    named : (is_busy (steps_at es) ≡ false) × Names part limits (steps_at es) course asked'
    named = says-job part limits (steps_at es) course way.words asked' is

    by : {j : Asked} → Names part limits (steps_at es) course j → StepsReading course es ⊎ StepsOrdering es → Comes limits course es j
    by (reads j asks') (inl reading) = steps_still reading asks' (read-job course.survey (steps_at es) j asks')
    by (reads j asks') (inr ordering) =
        now-on ordering (λ event e. inl ((read-job course.survey (steps_at es) j asks').may (now config passes (es ++ before)) event e))
    by (orders order surveyed plan) phase = now-on (start phase) (λ event e. inr (limits, order, accepted event e, planned)) where
      start : StepsReading course es ⊎ StepsOrdering es → StepsOrdering es
      start (inl reading) = record {
        newer = [];
        later = es;
        is = refl;
        stays = reading.stays;
        since = ready course es way.own way.plan reading lived steady surveyed;
        idle = named.0;
        follows = tt;
      }
      start (inr ordering) = ordering

      accepted : (event : Event) → asked_by event ≡ Some (job.Order (Out course.survey.output order.register) order.word) →
          asked (now config passes (es ++ before)) event ≡ Some (host.Order (Out output order.register) order.word)
      accepted event e = ap (λ (o : Option Asked). option_and_then (accepted_job (steps_at es)) o) e
          ∙ ap (λ (o : ℕ). Some (host.Order (Out o order.register) order.word)) way.own

      planned : plan_of part (steps_at es) limits output steps_wants ≡ Ok (Some order)
      planned = sym (ap (λ (o : ℕ). plan_of part (steps_at es) limits o steps_wants) way.own)
          ∙ (sym (ap (λ (p : Option Wanted). plan_of part (steps_at es) limits course.survey.output (wants_of (wanted_in p))) way.plan)
          ∙ plan)

  -- the course that named a job
  named-is : (limits : OutputLimits) (course : Course) (s : Summary) (asked' : Asked) → next_of part limits s course ≡ said.Job asked' →
      after_next part limits s course ≡ naming (renewed part limits s course) (said.Job asked')
  named-is limits course s asked' is = ap (λ (n : Said). naming (renewed part limits s course) n) is

  -- a course that names a job of its survey reads on
  reading-named : (course : Course) (es : List Event) (asked' : Asked) → StepsReading course es → is_order asked' ≡ false →
      StepsReading (naming course (said.Job asked')) es
  reading-named course es asked' was free = record {
    unordered = ap (λ (b : Bool). b || is_order asked') was.unordered ∙ free;
    stays = was.stays;
    are = record { registers = was.are.registers; protect = was.are.protect };
    untold = was.untold;
    quiet = was.quiet;
  }

  -- it says something
  way-says : (limits : OutputLimits) (course : Course) (es : List Event) → StepsWay course es → IsLived config passes (es ++ before) →
      list_any restarts_converter es ≡ false → StepsWay (after_next part limits (steps_at es) course) es
  way-says limits course es way lived steady = go (next_of part limits (steps_at es) course) refl where
    r : Course
    r = renewed part limits (steps_at es) course

    way' : StepsWay r es
    way' = way-renewed limits course es way

    phase : (j : Asked) → Comes limits r es j → StepsReading (naming r (said.Job j)) es ⊎ StepsOrdering es
    phase j (steps_still reading asks' is) = inl (reading-named r es j reading is.plain)
    phase j (now-on ordering fine) = inr ordering

    go : (n : Said) → next_of part limits (steps_at es) course ≡ n → StepsWay (naming r n) es
    go (said.Ended end) e = way'
    go (said.Job j) e = record {
      own = way'.own;
      plan = way'.plan;
      words = way'.words;
      phase = phase j (comes limits r es j way' lived steady e);
    }

  -- the host is asked for the job that it named
  way-asks : (limits : OutputLimits) (course : Course) (es : List Event) (event : Event) (j : Asked) → StepsWay course es →
      IsLived config passes (event ∷ es ++ before) → list_any restarts_converter (event ∷ es) ≡ false →
      next_of part limits (steps_at es) course ≡ said.Job j → asked_by event ≡ Some j →
      StepsWay (after_next part limits (steps_at es) course) (event ∷ es)
  way-asks limits course es event j way lived steady is named =
      subst (λ (c : Course). StepsWay c (event ∷ es)) (sym (named-is limits course (steps_at es) j is)) (record {
        own = way'.own;
        plan = way'.plan;
        words = way'.words;
        phase = phase (comes limits r es j way' (earlier lived) parts.1 is);
      })
    where
      r : Course
      r = renewed part limits (steps_at es) course

      way' : StepsWay r es
      way' = way-renewed limits course es way

      parts : (restarts_converter event ≡ false) × (list_any restarts_converter es ≡ false)
      parts = or_parts (restarts_converter event) (list_any restarts_converter es) steady

      phase : Comes limits r es j → StepsReading (naming r (said.Job j)) (event ∷ es) ⊎ StepsOrdering (event ∷ es)
      phase (steps_still reading asks' is') =
          inl (reading-more laws config passes part output wanted before spelled here missing (naming r (said.Job j)) es event
          (reading-named r es j reading is'.plain) lived
          parts.0 (is'.may (now config passes (es ++ before)) event named))
      phase (now-on ordering fine) =
          inr (ordering-more laws config passes part output wanted before spelled here missing es event ordering parts.0 (fine event named))

  -- a course that is told how its job ended goes on its way
  way-tells : (limits : OutputLimits) (course : Course) (newer es : List Event) (event : Event) (j : Asked) (end : JobEnd) →
      StepsWay course es → IsLived config passes ((newer ++ event ∷ es) ++ before) →
      list_any restarts_converter (newer ++ event ∷ es) ≡ false →
      next_of part limits (steps_at es) course ≡ said.Job j → asked_by event ≡ Some j → list_any begins_other newer ≡ false →
      (now config passes ((newer ++ event ∷ es) ++ before)).end ≡ Some end →
      StepsWay (told_of (after_next part limits (steps_at es) course) end) (newer ++ event ∷ es)
  way-tells limits course newer es event j end way lived steady is named alone over =
      subst (λ (c : Course). StepsWay (told_of c end) (newer ++ event ∷ es)) (sym (named-is limits course (steps_at es) j is)) (record {
        own = (ended-same n.survey (Some j) end).1 ∙ way'.own;
        plan = (ended-same n.survey (Some j) end).2 ∙ way'.plan;
        words = (differing-same n (Some j) end).0 ∙ way'.words;
        phase = phase (comes limits r es j way' (earlier below) second.1 is);
      })
    where
      r : Course
      r = renewed part limits (steps_at es) course

      n : Course
      n = naming r (said.Job j)

      way' : StepsWay r es
      way' = way-renewed limits course es way

      below : IsLived config passes (event ∷ es ++ before)
      below = lived-before config passes newer (event ∷ es ++ before)
          (subst (λ (l : List Event). IsLived config passes l) (append_assoc newer (event ∷ es) before) lived)

      first : (list_any restarts_converter newer ≡ false) × (list_any restarts_converter (event ∷ es) ≡ false)
      first = any-parts restarts_converter newer (event ∷ es) steady

      second : (restarts_converter event ≡ false) × (list_any restarts_converter es ≡ false)
      second = or_parts (restarts_converter event) (list_any restarts_converter es) first.1

      phase : Comes limits r es j → StepsReading (told_of n end) (newer ++ event ∷ es) ⊎ StepsOrdering (newer ++ event ∷ es)
      phase (steps_still reading asks' is') =
          let gone = reading-all laws config passes part output wanted before spelled here missing n newer (event ∷ es)
          (reading-more laws config passes part output wanted before spelled here missing n es event
          (reading-named r es j reading is'.plain) below second.0
          (is'.may (now config passes (es ++ before)) event named)) lived first.0 alone in
          inl (record {
            unordered = (differing-same n (Some j) end).1 ∙ gone.unordered;
            stays = gone.stays;
            are = (laws.surveys.follows config passes ((newer ++ event ∷ es) ++ before) lived).told part r.survey newer es before event j end
                refl (subst (λ (o : ℕ). o < config.count) (sym way'.own) here) reading.are asks' named alone over;
            untold = gone.untold;
            quiet = gone.quiet;
          })
      phase (now-on ordering fine) =
          inr (ordering-all laws config passes part output wanted before spelled here missing newer (event ∷ es)
          (ordering-more laws config passes part output wanted before spelled here missing es event ordering second.0
          (fine event named)) first.0 alone)

  -- something else happens
  way-beside : (course : Course) (es : List Event) (event : Event) → StepsWay course es → IsLived config passes (event ∷ es ++ before) →
      restarts_converter event ≡ false → IsBeside part output (asked (now config passes (es ++ before)) event)
      → StepsWay course (event ∷ es)
  way-beside course es event way lived steady may = record {
    own = way.own;
    plan = way.plan;
    words = way.words;
    phase = go way.phase;
  }
    where
      go : StepsReading course es ⊎ StepsOrdering es → StepsReading course (event ∷ es) ⊎ StepsOrdering (event ∷ es)
      go (inl reading) = inl (reading-more laws config passes part output wanted before spelled here missing course es event reading lived
          steady may)
      go (inr ordering) = inr (ordering-more laws config passes part output wanted before spelled here missing es event ordering steady
          (inl may))

  -- the format is to be learned again
  way-forgets : (course : Course) (es : List Event) → StepsWay course es →
      StepsWay (record course { survey = record course.survey { learned = false } }) es
  way-forgets course es way = record {
    own = way.own;
    plan = way.plan;
    words = way.words;
    phase = go way.phase;
  }
    where
      go : StepsReading course es ⊎ StepsOrdering es
          → StepsReading (record course { survey = record course.survey { learned = false } }) es ⊎ StepsOrdering es
      go (inl reading) = inl (record {
        unordered = reading.unordered;
        stays = reading.stays;
        are = record { registers = reading.are.registers; protect = reading.are.protect };
        untold = reading.untold;
        quiet = reading.quiet;
      })
      go (inr ordering) = inr ordering

  -- it begins
  way-begins : (tries : ℕ) → IsLived config passes before → is_busy (now config passes before).host ≡ false →
      MissingUnread config passes part output before → StepsWay (course_of output wanted tries) []
  way-begins tries lived idle untold = record {
    own = refl;
    plan = refl;
    words = refl;
    phase = inl (record {
      unordered = refl;
      stays = λ rest piece register is. nothing-in rest piece register is;
      are = (laws.surveys.follows config passes before lived).begins (course_of output wanted tries).survey refl;
      untold = untold;
      quiet = subst (λ (o : Option host.Job). IsBeside part output o) (sym (none (now config passes before).host idle)) tt;
    });
  }
    where
      nothing-in : (rest piece : List Event) (register : Reg) → [] ≡ rest ++ piece →
          held_at config passes (piece ++ before) output register ≡ held_at config passes before output register
      nothing-in [] piece register is = ap (λ (x : List Event). held_at config passes (x ++ before) output register) (sym is)
      nothing-in (x ∷ rest) piece register is = cc

      none : (s : Summary) → is_busy s ≡ false → job_in s ≡ None
      none s free = go s.stage free where
        go : (stage : Option Stage) → is_some stage ≡ false → option_map stage_job stage ≡ None
        go None i = refl
        go (Some stage) i = cc

  -- one to words has no byte
  no-byte : (course : Course) (byte : ℕ) → course.byte ≡ None → course.byte ≡ Some byte → ⊥
  no-byte course byte none is = let both : None ≡ Some byte = sym none ∙ is in cc

  -- all of it
  pub way-all : (tries : ℕ) (course : Course) (es : List Event) → IsLived config passes (es ++ before) →
      list_any restarts_converter es ≡ false →
      is_busy (now config passes before).host ≡ false → MissingUnread config passes part output before →
      IsCourse config passes part (course_of output wanted tries) before course es → StepsWay course es
  way-all tries course es lived steady idle untold is = go is lived steady where
    go : {c : Course} {l : List Event} → IsCourse config passes part (course_of output wanted tries) before c l →
        IsLived config passes (l ++ before) → list_any restarts_converter l ≡ false → StepsWay c l
    go begins lived' steady' = way-begins tries lived' idle untold
    go (beside c later event was may) lived' steady' =
        let parts = or_parts (restarts_converter event) (list_any restarts_converter later) steady' in
        way-beside c later event (go was (earlier lived') parts.1) lived' parts.0 may
    go (says limits c later was) lived' steady' = way-says limits c later (go was lived' steady') lived' steady'
    go (asks limits c later event j was is' named) lived' steady' =
        let parts = or_parts (restarts_converter event) (list_any restarts_converter later) steady' in
        way-asks limits c later event j (go was (earlier lived') parts.1) lived' steady' is' named
    go (tells limits c newer later event j end was is' named alone over) lived' steady' =
        let first = any-parts restarts_converter newer (event ∷ later) steady' in
        let second = or_parts (restarts_converter event) (list_any restarts_converter later) first.1 in
        let below = lived-before config passes newer (event ∷ later ++ before)
        (subst (λ (l : List Event). IsLived config passes l) (append_assoc newer (event ∷ later) before) lived') in
        way-tells limits c newer later event j end (go was (earlier below) second.1) lived' steady' is' named alone over
    go (asks_else limits c later event byte left ordered j was to' may named) lived' steady' =
        let parts = or_parts (restarts_converter event) (list_any restarts_converter later) steady' in
        absurd (no-byte c byte (go was (earlier lived') parts.1).words to')
    go (tells_else limits c newer later event byte left ordered j end was to' may named alone over) lived' steady' =
        let first = any-parts restarts_converter newer (event ∷ later) steady' in
        let second = or_parts (restarts_converter event) (list_any restarts_converter later) first.1 in
        let below = lived-before config passes newer (event ∷ later ++ before)
        (subst (λ (l : List Event). IsLived config passes l) (append_assoc newer (event ∷ later) before) lived') in
        absurd (no-byte c byte (go was (earlier below) second.1).words to')
    go (forgets c later was) lived' steady' = way-forgets c later (go was lived' steady')

-- What a course to wanted words is worth over a life.

module _ (laws : Given) (config : Config) (passes : ℕ) (part : PartRegisters) (output : ℕ) (wanted : Wanted) (before : List Event)
    (spelled : IsSpelled config) (here : output < config.count)
    (missing : HoldsMissing part config (now config passes before).device.words output) where
  abbrev lives_wants : Wants
  lives_wants = wants_of wanted

  abbrev lives_at : List Event → Summary
  lives_at es = (now config passes (es ++ before)).host

  abbrev LivesStays : List Event → Type 0
  LivesStays later = Stays laws config passes part output wanted before spelled here missing later

  abbrev LivesReading : Course → List Event → Type 0
  LivesReading course es = Reading laws config passes part output wanted before spelled here missing course es

  abbrev LivesOrdering : List Event → Type 0
  LivesOrdering es = Ordering laws config passes part output wanted before spelled here missing es

  abbrev LivesWay : Course → List Event → Type 0
  LivesWay course es = Way laws config passes part output wanted before spelled here missing course es

  -- what the output commands stays, if its words do
  stay-commands : (later : List Event) → LivesStays later → (rest piece : List Event) → later ≡ rest ++ piece →
      commands config passes (piece ++ before) output ≡ commands config passes before output
  stay-commands later stays rest piece is = same-commands config passes output (piece ++ before) before
      (fun_ext (λ (r : Reg). stays rest piece r is))

  abbrev Moves : List Event → List Event → Type 0
  Moves one other = IsStep (goal_at config passes output wanted before)
      (commands config passes one output) (commands config passes other output)

  -- two moments at which the words stayed
  within : (later : List Event) → LivesStays later → (y newer' later' : List Event) →
      later ≡ y ++ (newer' ++ later') → Moves (later' ++ before) ((newer' ++ later') ++ before)
  within later stays y newer' later' is = inl (stay-commands later stays y (newer' ++ later') is
      ∙ sym (stay-commands later stays (y ++ newer') later' (is ∙ sym (append_assoc y newer' later'))))

  -- two moments from one on at which the plan may begin
  from-ready : (es : List Event) (o : LivesOrdering es) (x y : List Event) →
      Follows config passes part output lives_wants (x ++ y) (o.later ++ before) →
      IsLived config passes ((x ++ y) ++ (o.later ++ before)) →
      Moves (y ++ (o.later ++ before)) ((x ++ y) ++ (o.later ++ before))
  from-ready es o x y follows' lived =
      subst (λ (h : Held). IsStep (commands_by (value_for config output) (goal_of h lives_wants))
      (commands config passes (y ++ (o.later ++ before)) output) (commands config passes ((x ++ y) ++ (o.later ++ before)) output))
      (fun_ext (λ (r : Reg). o.stays [] o.later r refl))
      ((laws.plans.keeps config passes ((x ++ y) ++ (o.later ++ before)) spelled lived).held part output lives_wants x y
      (o.later ++ before) refl here refl o.idle o.since
      (holds-missing laws config passes part output wanted before spelled here missing o.later o.stays) follows')

  beyond-step : (es : List Event) (o : LivesOrdering es) (newer' later' : List Event)
      → IsLived config passes ((newer' ++ later') ++ before) →
      Beyond (newer' ++ later') o.newer o.later → Moves (later' ++ before) ((newer' ++ later') ++ before)
  beyond-step es o newer' later' lived beyond =
      let later = o.later in
      let x = beyond.piece in
      let moment : (newer' ++ later') ++ before ≡ x ++ (later ++ before) =
      ap (λ (l : List Event). l ++ before) beyond.middle_is ∙ append_assoc x later before in
      let piece : Follows config passes part output lives_wants x (later ++ before) =
      follows-drop config passes part output lives_wants beyond.rest x (later ++ before)
      (subst (λ (l : List Event). Follows config passes part output lives_wants l (later ++ before)) beyond.newer_is o.follows) in
      let there : IsLived config passes (x ++ (later ++ before)) = subst (λ (l : List Event). IsLived config passes l) moment lived in
      elim (split-at newer' later' x later beyond.middle_is) [
        | inl older ↦
            let empty : x ≡ x ++ [] = sym (append-nil x) in
            let ends : commands config passes (later ++ before) output ≡ commands config passes (later' ++ before) output =
            stay-commands later o.stays [] later refl ∙ sym (stay-commands later o.stays older.0 later' older.1) in
            subst (λ (r : Ratio). IsStep (goal_at config passes output wanted before) r
            (commands config passes ((newer' ++ later') ++ before) output)) ends
            (subst (λ (l : List Event). Moves (later ++ before) l) (ap (λ (l : List Event). l ++ (later ++ before)) (sym empty) ∙ sym moment)
            (from-ready es o x []
            (subst (λ (l : List Event). Follows config passes part output lives_wants l (later ++ before)) empty piece)
            (subst (λ (l : List Event). IsLived config passes (l ++ (later ++ before))) empty there)))
        | inr second ↦
            let one : later' ++ before ≡ second.piece ++ (later ++ before) =
            ap (λ (l : List Event). l ++ before) second.middle_is ∙ append_assoc second.piece later before in
            subst (λ (l : List Event). Moves l ((newer' ++ later') ++ before)) (sym one)
            (subst (λ (l : List Event). Moves (second.piece ++ (later ++ before)) l)
            (ap (λ (l : List Event). l ++ (later ++ before)) (sym second.newer_is) ∙ sym moment)
            (from-ready es o second.rest second.piece
            (subst (λ (l : List Event). Follows config passes part output lives_wants l (later ++ before)) second.newer_is piece)
            (subst (λ (l : List Event). IsLived config passes (l ++ (later ++ before))) second.newer_is there)))
      ]

  -- the output commands, of any two moments, at the later one what it does at the earlier one, or what is wanted
  pub keeps-rail : (course : Course) (es rest newer' later' : List Event) → IsLived config passes (es ++ before) →
      LivesWay course es → es ≡ rest ++ (newer' ++ later') → Moves (later' ++ before) ((newer' ++ later') ++ before)
  keeps-rail course es rest newer' later' lived way split = go way.phase where
    there : IsLived config passes ((newer' ++ later') ++ before)
    there = lived-before config passes rest ((newer' ++ later') ++ before)
        (subst (λ (l : List Event). IsLived config passes l)
        (ap (λ (l : List Event). l ++ before) split ∙ append_assoc rest (newer' ++ later') before) lived)

    go : LivesReading course es ⊎ LivesOrdering es → Moves (later' ++ before) ((newer' ++ later') ++ before)
    go (inl reading) = within es reading.stays rest newer' later' split
    go (inr o) = elim (split-at rest (newer' ++ later') o.newer o.later (sym split ∙ o.is)) [
      | inl inside ↦ within o.later o.stays inside.0 newer' later' inside.1
      | inr beyond ↦ beyond-step es o newer' later' there beyond
    ]

  moment : (es newer later : List Event) → es ≡ newer ++ later → es ++ before ≡ newer ++ (later ++ before)
  moment es newer later is = ap (λ (l : List Event). l ++ before) is ∙ append_assoc newer later before

  -- what is to be held at the end is what it was before
  goal-stays : (course : Course) (es : List Event) → IsLived config passes (es ++ before) → LivesWay course es → (register : Reg) →
      goal_of (held_at config passes (es ++ before) output) lives_wants register
      ≡ goal_of (held_at config passes before output) lives_wants register
  goal-stays course es lived way register = go way.phase where
    go : LivesReading course es ⊎ LivesOrdering es → goal_of (held_at config passes (es ++ before) output) lives_wants register
        ≡ goal_of (held_at config passes before output) lives_wants register
    go (inl reading) = ap (λ (w : ℕ). unwrap_or (lives_wants register) w) (reading.stays [] es register refl)
    go (inr o) = (laws.plans.keeps config passes (es ++ before) spelled lived).goal part output lives_wants register o.newer
        (o.later ++ before)
        (moment es o.newer o.later o.is) here refl o.idle o.since
        (holds-missing laws config passes part output wanted before spelled here missing o.later o.stays) o.follows
        ∙ ap (λ (w : ℕ). unwrap_or (lives_wants register) w) (o.stays [] o.later register refl)

  -- a register of which no word is wanted keeps its word
  pub keeps-others : (course : Course) (es : List Event) → IsLived config passes (es ++ before) → LivesWay course es → (register : Reg) →
      lives_wants register ≡ None →
      held_at config passes (es ++ before) output register ≡ held_at config passes before output register
  keeps-others course es lived way register none =
      sym (ap (λ (o : Option ℕ). unwrap_or o (held_at config passes (es ++ before) output register)) none)
      ∙ goal-stays course es lived way register
      ∙ ap (λ (o : Option ℕ). unwrap_or o (held_at config passes before output register)) none

  -- each wanted word is held, if the course has ended `Reached`
  pub comes-true : (limits : OutputLimits) (course : Course) (es : List Event) → IsLived config passes (es ++ before) →
      list_any restarts_converter es ≡ false → LivesWay course es → next_of part limits (lives_at es) course ≡ said.Ended Reached →
      (register : Reg) (word : ℕ) → lives_wants register ≡ Some word → held_at config passes (es ++ before) output register ≡ word
  comes-true limits course es lived steady way reached register word wanted' =
      ((laws.plans.keeps config passes (es ++ before) spelled lived).come_true part output limits lives_wants register word here refl
      (since way'.phase) (holds way'.phase) planned wanted').1
    where
      r : Course
      r = renewed part limits (lives_at es) course

      way' : LivesWay r es
      way' = way-renewed laws config passes part output wanted before spelled here missing limits course es way

      over : (is_surveyed part r.survey (lives_at es) ≡ true) × (is_none r.survey.plan ≡ false →
          plan_of part (lives_at es) limits r.survey.output (wants_of (wanted_in r.survey.plan)) ≡ Ok None)
      over = says-reached part limits (lives_at es) r way'.words reached

      planned : plan_of part (lives_at es) limits output lives_wants ≡ Ok None
      planned = sym (ap (λ (o : ℕ). plan_of part (lives_at es) limits o lives_wants) way'.own)
          ∙ (sym (ap (λ (p : Option Wanted). plan_of part (lives_at es) limits r.survey.output (wants_of (wanted_in p))) way'.plan)
          ∙ over.1 (ap (λ (p : Option Wanted). is_none p) way'.plan))

      since : LivesReading r es ⊎ LivesOrdering es → IsReadSince config passes output lives_wants (es ++ before)
      since (inl reading) = ready laws config passes part output wanted before spelled here missing r es way'.own way'.plan reading lived
          steady over.0
      since (inr o) = (laws.plans.keeps config passes (es ++ before) spelled lived).read part output lives_wants o.newer (o.later ++ before)
          (moment es o.newer o.later o.is) here refl o.idle o.since
          (holds-missing laws config passes part output wanted before spelled here missing o.later o.stays) o.follows

      holds : LivesReading r es ⊎ LivesOrdering es → HoldsMissing part config (now config passes (es ++ before)).device.words output
      holds (inl reading) = holds-missing laws config passes part output wanted before spelled here missing es reading.stays
      holds (inr o) = (laws.plans.keeps config passes (es ++ before) spelled lived).missing part output lives_wants o.newer
          (o.later ++ before)
          (moment es o.newer o.later o.is) here refl o.idle o.since
          (holds-missing laws config passes part output wanted before spelled here missing o.later o.stays) o.follows

  pub commands-goal : (limits : OutputLimits) (course : Course) (es : List Event) → IsLived config passes (es ++ before) →
      list_any restarts_converter es ≡ false → LivesWay course es → next_of part limits (lives_at es) course ≡ said.Ended Reached →
      commands config passes (es ++ before) output ≡ goal_at config passes output wanted before
  commands-goal limits course es lived steady way reached =
      goal-commands config passes output wanted (es ++ before) before (fun_ext (λ (r : Reg). at-goal r (lives_wants r) refl)) where
        at-goal : (register : Reg) (word : Option ℕ) → lives_wants register ≡ word →
            held_at config passes (es ++ before) output register ≡ goal_of (held_at config passes before output) lives_wants register
        at-goal register (Some word) is = comes-true limits course es lived steady way reached register word is
            ∙ sym (ap (λ (o : Option ℕ). unwrap_or o (held_at config passes before output register)) is)
        at-goal register None is = keeps-others course es lived way register is
            ∙ sym (ap (λ (o : Option ℕ). unwrap_or o (held_at config passes before output register)) is)

-- what courses to wanted words are worth
pub keeps-courses : Given → (config : Config) (passes : ℕ) (events : List Event) → IsSpelled config → IsLived config passes events →
    KeepsCourses config passes events
keeps-courses laws config passes events spelled lived = record {
  held = λ part output wanted tries course rest newer later before is b missing.
      let l = there ((rest ++ (newer ++ later)) ++ before) is in
      keeps-rail laws config passes part output wanted before spelled b.here missing course (rest ++ (newer ++ later)) rest newer later l
      (way-all laws config passes part output wanted before spelled b.here missing tries course (rest ++ (newer ++ later)) l b.steady
      b.idle b.untold b.is_course) refl;
  come_true = λ part limits output wanted tries course register word later before is b missing reached wanted'.
      let l = there (later ++ before) is in
      ap (λ (es : List Event). held_at config passes es output register) is
      ∙ comes-true laws config passes part output wanted before spelled b.here missing limits course later l b.steady
      (way-all laws config passes part output wanted before spelled b.here missing tries course later l b.steady b.idle b.untold
      b.is_course)
      (sym (ap (λ (es : List Event). next_of part limits (now config passes es).host course) is) ∙ reached) register word wanted';
  kept = λ part output wanted tries course register later before is b missing none.
      let l = there (later ++ before) is in
      ap (λ (es : List Event). held_at config passes es output register) is
      ∙ keeps-others laws config passes part output wanted before spelled b.here missing course later l
      (way-all laws config passes part output wanted before spelled b.here missing tries course later l b.steady b.idle b.untold
      b.is_course) register none;
  commanded = λ part limits output wanted tries course later before is b missing reached.
      let l = there (later ++ before) is in
      ap (λ (es : List Event). commands config passes es output) is
      ∙ commands-goal laws config passes part output wanted before spelled b.here missing limits course later l b.steady
      (way-all laws config passes part output wanted before spelled b.here missing tries course later l b.steady b.idle b.untold
      b.is_course)
      (sym (ap (λ (es : List Event). next_of part limits (now config passes es).host course) is) ∙ reached);
}
  where
    there : (other : List Event) → events ≡ other → IsLived config passes other
    there other is = subst (λ (es : List Event). IsLived config passes es) is lived

-- Until a course has ordered anything, each register of its output keeps its word.

-- what a course names is of its output
after-output : (part : PartRegisters) (limits : OutputLimits) (s : Summary) (course : Course) →
    (after_next part limits s course).survey.output ≡ course.survey.output
after-output part limits s course = go (next_of part limits s course)
    ∙ renewed-so (λ (c : Course). c.survey.output ≡ course.survey.output) part limits s course refl refl
  where
    go : (n : Said) → (naming (renewed part limits s course) n).survey.output ≡ (renewed part limits s course).survey.output
    go (said.Job j) = refl
    go (said.Ended end) = refl

-- events of a list that asks for no order, without the newer ones
no-order-below : (config : Config) (passes output : ℕ) (newer later before : List Event) →
    AsksNoOrder config passes output (newer ++ later) before → AsksNoOrder config passes output later before
no-order-below config passes output [] later before none = none
no-order-below config passes output (event ∷ newer) later before none = no-order-below config passes output newer later before none.1

module _ (laws : Below) (config : Config) (passes : ℕ) (part : PartRegisters) (output : ℕ) (before : List Event)
    (here : output < config.count) where
  abbrev untouched_at : List Event → State
  untouched_at es = now config passes (es ++ before)

  -- no order of the output is open, nor a restore, and the words stayed
  record Stood (es : List Event) : Type 0 where
    pub quiet : IsBeside part output (job_in (untouched_at es).host)
    pub same : (r : Reg) → held_at config passes (es ++ before) output r ≡ held_at config passes before output r

  stays : (es : List Event) (event : Event) (r : Reg) → IsBeside part output (job_in (untouched_at es).host) →
      IsLived config passes (event ∷ es ++ before) → restarts_converter event ≡ false →
      held_at config passes (event ∷ es ++ before) output r ≡ held_at config passes (es ++ before) output r
  stays es event r quiet lived steady =
      elim ((moves-so laws config passes (event ∷ es ++ before) lived).moves [] (es ++ before) event (Out output r) refl here) [
        | inl e ↦ e
        | inr m ↦ absurd (none m steady)
      ]
    where
      none : {word : ℕ} {by : Event} → MovesBy config passes (es ++ before) (Out output r) word by → restarts_converter by ≡ false → ⊥
      none (came_back e) s = cc
      none (moves_ordered arrival takes) s = no-order laws config passes part output (es ++ before) quiet r _ takes.opened
      none (restored arrival takes out e) s = no-restore laws config passes part output (es ++ before) quiet takes.opened

  stood-more : (es : List Event) (event : Event) → Stood es → IsLived config passes (event ∷ es ++ before) →
      restarts_converter event ≡ false → IsBeside part output (asked (untouched_at es) event) → Stood (event ∷ es)
  stood-more es event was lived steady may = record {
    quiet = open-more laws config passes part output (es ++ before) event lived was.quiet may;
    same = λ r. stays es event r was.quiet lived steady ∙ was.same r;
  }

  untouched_beside-none : (s : State) (event : Event) → begins_other event ≡ false → IsBeside part output (asked s event)
  untouched_beside-none s event alone = subst (λ (o : Option host.Job). IsBeside part output o)
      (sym (go (asked_by event) (or_parts (is_some (asked_by event)) _ alone).0)) tt where
        go : (o : Option Asked) → is_some o ≡ false → option_and_then (accepted_job s.host) o ≡ None
        go None h = refl
        go (Some j) h = cc

  stood-over : (newer es : List Event) → Stood es → IsLived config passes ((newer ++ es) ++ before) →
      list_any restarts_converter newer ≡ false → list_any begins_other newer ≡ false → Stood (newer ++ es)
  stood-over [] es was lived steady alone = was
  stood-over (event ∷ newer) es was lived steady alone =
      let still = or_parts (restarts_converter event) (list_any restarts_converter newer) steady in
      let other = or_parts (begins_other event) (list_any begins_other newer) alone in
      stood-more (newer ++ es) event (stood-over newer es was (earlier lived) still.1 other.1) lived still.0
      (untouched_beside-none (untouched_at (newer ++ es)) event other.0)

  -- a job that a course names and asks for, and that is no order, is one that others may ask for too
  named-may : (limits : OutputLimits) (course : Course) (es : List Event) (event : Event) (j : Asked) →
      course.survey.output ≡ output → next_of part limits (untouched_at es).host course ≡ said.Job j → asked_by event ≡ Some j →
      IsNoOrder output (asked (untouched_at es) event) → IsBeside part output (asked (untouched_at es) event)
  named-may limits course es event j own is named none =
      by j named (named-so (λ (k : Asked). IsNoOrder output (accepted_job (untouched_at es).host k)
      → IsBeside part output (accepted_job (untouched_at es).host k))
      part limits (untouched_at es).host r
      (λ k n. asks-so (λ (x : Asked). IsNoOrder output (accepted_job (untouched_at es).host x)
      → IsBeside part output (accepted_job (untouched_at es).host x))
      part r.survey (untouched_at es).host (λ m. tt) (λ register has m. has) (λ m. tt) k n)
      (λ order m. m) j is).1
    where
      r : Course
      r = renewed part limits (untouched_at es).host course

      by : (k : Asked) → asked_by event ≡ Some k →
          (IsNoOrder output (accepted_job (untouched_at es).host k) → IsBeside part output (accepted_job (untouched_at es).host k)) →
          IsBeside part output (asked (untouched_at es) event)
      by k e so = subst (λ (o : Option Asked). IsBeside part output (option_and_then (accepted_job (untouched_at es).host) o)) (sym e)
          (so (subst (λ (o : Option Asked). IsNoOrder output (option_and_then (accepted_job (untouched_at es).host) o)) e none))

  -- a job that a course asks for in the place of the one that it names, and that is no order, is such a job too
  else-may : (course : Course) (byte : ℕ) (es : List Event) (event : Event) (j : Asked) → course.survey.output ≡ output →
      IsElse part course.survey.output byte j → asked_by event ≡ Some j →
      IsNoOrder output (asked (untouched_at es) event) → IsBeside part output (asked (untouched_at es) event)
  else-may course byte es event j own may named none = by j named (so may) where
    so : {k : Asked} → IsElse part course.survey.output byte k →
        IsNoOrder output (accepted_job (untouched_at es).host k) → IsBeside part output (accepted_job (untouched_at es).host k)
    so protects m = tt
    so (selects register has) m = has
    so turns m = m

    by : (k : Asked) → asked_by event ≡ Some k →
        (IsNoOrder output (accepted_job (untouched_at es).host k) → IsBeside part output (accepted_job (untouched_at es).host k)) →
        IsBeside part output (asked (untouched_at es) event)
    by k e may' = subst (λ (o : Option Asked). IsBeside part output (option_and_then (accepted_job (untouched_at es).host) o)) (sym e)
        (may' (subst (λ (o : Option Asked). IsNoOrder output (option_and_then (accepted_job (untouched_at es).host) o)) e none))

  else-output : (limits : OutputLimits) (course : Course) (es : List Event) → course.survey.output ≡ output →
      (renewed part limits (untouched_at es).host course).survey.output ≡ output
  else-output limits course es own = renewed-so (λ (c : Course). c.survey.output ≡ output) part limits (untouched_at es).host course own own

  stood-all : (begun course : Course) (es : List Event) → begun.survey.output ≡ output → IsLived config passes (es ++ before) →
      list_any restarts_converter es ≡ false → is_busy (now config passes before).host ≡ false →
      AsksNoOrder config passes output es before → IsCourse config passes part begun before course es → Stood es
  stood-all begun course es start lived steady idle none is = (go is lived steady none).1 where
    go : {c : Course} {l : List Event} → IsCourse config passes part begun before c l → IsLived config passes (l ++ before) →
        list_any restarts_converter l ≡ false → AsksNoOrder config passes output l before → (c.survey.output ≡ output) × Stood l
    go begins lived' steady' none' = (
      start,
      record {
        quiet = subst (λ (o : Option host.Job). IsBeside part output o) (sym (free (now config passes before).host idle)) tt;
        same = λ r. refl;
      },
    )
      where
        free : (s : Summary) → is_busy s ≡ false → job_in s ≡ None
        free s e = by s.stage e where
          by : (stage : Option Stage) → is_some stage ≡ false → option_map stage_job stage ≡ None
          by None i = refl
          by (Some stage) i = cc
    go (beside c later event was may) lived' steady' none' =
        let parts = or_parts (restarts_converter event) (list_any restarts_converter later) steady' in
        let before' = go was (earlier lived') parts.1 none'.1 in (
          before'.0,
          stood-more later event before'.1 lived' parts.0
              (subst (λ (o : ℕ). IsBeside part o (asked (now config passes (later ++ before)) event)) start may),
        )
    go (says limits c later was) lived' steady' none' =
        let before' = go was lived' steady' none' in
        (after-output part limits (now config passes (later ++ before)).host c ∙ before'.0, before'.1)
    go (asks limits c later event j was is' named) lived' steady' none' =
        let parts = or_parts (restarts_converter event) (list_any restarts_converter later) steady' in
        let before' = go was (earlier lived') parts.1 none'.1 in (
          after-output part limits (now config passes (later ++ before)).host c ∙ before'.0,
          stood-more later event before'.1 lived' parts.0 (named-may limits c later event j before'.0 is' named none'.0),
        )
    go (tells limits c newer later event j end was is' named alone over) lived' steady' none' =
        let first = any-parts restarts_converter newer (event ∷ later) steady' in
        let second = or_parts (restarts_converter event) (list_any restarts_converter later) first.1 in
        let none-first = no-order-below config passes output newer (event ∷ later) before none' in
        let below = lived-before config passes newer (event ∷ later ++ before)
        (subst (λ (l : List Event). IsLived config passes l) (append_assoc newer (event ∷ later) before) lived') in
        let before' = go was (earlier below) second.1 none-first.1 in (
          told-own (after_next part limits (now config passes (later ++ before)).host c) end
              ∙ (after-output part limits (now config passes (later ++ before)).host c ∙ before'.0),
          stood-over newer (event ∷ later)
              (stood-more later event before'.1 below second.0 (named-may limits c later event j before'.0 is' named none-first.0))
              lived' first.0 alone,
        )
    go (asks_else limits c later event byte left ordered' j was to' may named) lived' steady' none' =
        let parts = or_parts (restarts_converter event) (list_any restarts_converter later) steady' in
        let before' = go was (earlier lived') parts.1 none'.1 in (
          else-output limits c later before'.0,
          stood-more later event before'.1 lived' parts.0 (else-may c byte later event j before'.0 may named none'.0),
        )
    go (tells_else limits c newer later event byte left ordered' j end was to' may named alone over) lived' steady' none' =
        let first = any-parts restarts_converter newer (event ∷ later) steady' in
        let second = or_parts (restarts_converter event) (list_any restarts_converter later) first.1 in
        let none-first = no-order-below config passes output newer (event ∷ later) before none' in
        let below = lived-before config passes newer (event ∷ later ++ before)
        (subst (λ (l : List Event). IsLived config passes l) (append_assoc newer (event ∷ later) before) lived') in
        let before' = go was (earlier below) second.1 none-first.1 in (
          told-own (asking_else (renewed part limits (now config passes (later ++ before)).host c) j left ordered') end
              ∙ else-output limits c later before'.0,
          stood-over newer (event ∷ later)
              (stood-more later event before'.1 below second.0 (else-may c byte later event j before'.0 may named none-first.0))
              lived' first.0 alone,
        )
    go (forgets c later was) lived' steady' none' = go was lived' steady' none'

pub untouched : Below → (config : Config) (passes : ℕ) (events : List Event) → IsLived config passes events →
    IsUntouched config passes events
untouched laws config passes events lived = record {
  held = λ part begun course register later before is b none.
      ap (λ (es : List Event). held_at config passes es begun.survey.output register) is
      ∙ (stood-all laws config passes part begun.survey.output before b.here begun course later refl
      (subst (λ (es : List Event). IsLived config passes es) is lived) b.steady b.idle none b.is_course).same register;
}
