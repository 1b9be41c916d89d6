-- Each part is one that some life led to, and what a life leaves is a part.
use Rattle.std.specs.Result.{result_ok}
use Rattle.std.specs.List.{list_any, range_with_len}
use Rattle.std.specs.Option.{option_map_or, option_or}
use Rattle.std.specs.Prelude.{not, option_and_then, option_to_list, ◌↔◌, IsTrue, get_or, length, map, slice_index, unwrap_or}
use Rattle.std.proofs.{lemmas.Bool.Decides.Decides-eqb, lemmas.Grind.same_number_lists, lemmas.Simd.map-map}
use Rattle.std.proofs.{lemmas.Slice.Eq.bytes_eq-Decides}
use Rattle.std.proofs.Common.{◌≡◌, ◌⊎◌, inl, inr, ◌≤◌, ◌<◌, ◌||◌, ◌&&◌, ℕ, zero, suc, Bool, true, false, cond, eqb, arith, List, [], ◌∷◌}
use Rattle.std.proofs.Common.{◌++◌, Option, Some, None, refl, sym, ◌∙◌, ap, ap₂, subst}
use Rattle.std.proofs.lemmas.Bool.{eqb-true, lt-ltb}
use Rattle.std.proofs.lemmas.List.{get_or-replicate, length-map}
use Rattle.std.proofs.lemmas.List.FromFn.{get_or-map-range_with_len, length-map-range_with_len}
use Rattle.pm_num.specs.AnyFormat.{InLinear11}
use Rattle.pm_table.specs.{Commands.line_of, Format.shape_in, Protection.is_allowed, Rules.rule, VoutMode.mode_of, declared.cell.Cell.Cell}
use Rattle.pm_table.specs.{declared.reg.Reg.Reg, declared.reg.Reg.TheVariants.Operation}
use Rattle.pm_table.specs.Cell.{IsCell, cell_accepts, cell_code, cell_in, is_cell, place_of, places, same_cell}
use Rattle.pm_table.specs.Laws.{CellsAreToldApart, CellsHavePlaces}
use Rattle.pm_table.specs.Lemmas.{IsCell-eight, is_cell-there}
use Rattle.pm_table.specs.declared.cell.Cell.TheVariants.{Out, Protect}
use Rattle.pm_frame.specs.{Layout.is_read_message, declared.message.Message.Message}
use Rattle.pm_model.specs.declared.order_machine.PendingJob.{PendingJob}
use Rattle.pm_model.specs.Laws.{SettingsAreAMap, OrdersStayInTheirCells}
use Rattle.pm_model.specs.OrderMachine.{Accept, store_taken, words_taken, Back, CanTake, End, IsAccepted, IsRun, Step, Take, machine_of}
use Rattle.pm_model.specs.Settings.{AreWords, Words, with_word, word_at, Settings, with_outputs}
use Rattle.pm_model.specs.declared.order_machine.PendingJob.TheVariants as pending
use Rattle.pm_model.specs.declared.order_machine.PendingJob.TheVariants.{Order as PendingJobOrder, Restore, Store}
use Rattle.pm_device.specs.{History.start_of, declared.config.Config.Config, declared.output_start.OutputStart.OutputStart}
use Rattle.pm_device.specs.Held.{shape_for, shape_made}
use Rattle.pm_device.specs.Laws.{PastsAreFollowed, WordsHaveAnOrigin}
use Rattle.pm_device.specs.Start.{IsSound, register_start, start_word, start_words}
use Rattle.pm_device.specs.declared.converter.Ending.TheVariants.{Restart, Stop}
use Rattle.pm_host.specs.{Possible.has_room, declared.fault.HostFault.HostFault, declared.knowledge.Possible.TheVariants.Any}
use Rattle.pm_host.specs.Known.{all_any, nothing_known}
use Rattle.pm_host.specs.Refusals.{IsSetup, order_fault}
use Rattle.pm_host.specs.Summary.{Summary, host_next, possible_at, sending_in, start}
use Rattle.pm_host.specs.Transcript as host
use Rattle.pm_host.specs.Transcript.{last_job_end, open_job}
use Rattle.pm_host.specs.declared.fault.HostFault.TheVariants.{BadWord, TooUncertain, UnknownOutput}
use Rattle.pm_world.specs.{Confirmed.restarts_converter, Honest.is_whole, declared.event.Arrival.TheVariants.Whole}
use Rattle.pm_world.specs.{declared.event.Event.Event}
use Rattle.pm_world.specs.Job.{job_of, refusal_of_event}
use Rattle.pm_world.specs.Laws.{LivesAreFollowed, LivesAreOrders}
use Rattle.pm_world.specs.Legal.{frame_of, is_legal_hearing}
use Rattle.pm_world.specs.Lemmas.{entries-more, write-heard}
use Rattle.pm_world.specs.Life.{life, now, state_of}
use Rattle.pm_world.specs.Lived.{EventsAreLived, IsLived}
use Rattle.pm_world.specs.Moves.{JobTakes, SettingsMoveByTheOpenJob, store_at, words_at}
use Rattle.pm_world.specs.Parts.{IsPart, PartsAreReached, StoredConfigsStartSo, stored_config, stored_start, AreWordsOf, IsMade}
use Rattle.pm_world.specs.Parts.{LivesLeaveParts, StartsAreParts}
use Rattle.pm_world.specs.Retelling.{WasOrdered, accepts, open_pending, pending_code, pending_message, pending_of, taken_at, takes}
use Rattle.pm_world.specs.Retelling.{steps_of_event}
use Rattle.pm_world.specs.Retelling.{told_beside, retold, start_settings}
use Rattle.pm_world.specs.Setup.{setup_of, world_start}
use Rattle.pm_world.specs.State.{State, asked, cause_beside, delivered, delivery_cause, event_cause, host_after, next, refused}
use Rattle.pm_world.specs.State.{share_beside, tells, device_after}
use Rattle.pm_world.specs.declared.cause.Cause.TheVariants.{NotBetrayed, WrongKind}
use Rattle.pm_world.specs.declared.event.Event.TheVariants.{Deliver, Order, RestartHost}
use Rattle.pm_world.proofs.Orders.{asked-told}

-- Each part is one that some life led to: an earlier host ordered what is stored and what is held.

-- what the crates below say
pub record Reaching : Type 0 where
  pub apart : CellsAreToldApart
  pub places : CellsHavePlaces
  pub map : SettingsAreAMap
  pub lived : EventsAreLived
  pub followed : LivesAreFollowed
  pub moves : SettingsMoveByTheOpenJob

-- A moment of a life: the host as it starts, these words and this store; no restart of the converter so far, and this of each
-- word that was ordered.
record Moment (P : Cell → ℕ → Type 0) (config : Config) (passes : ℕ) (words store : Words) : Type 0 where
  events : List Event
  lived : IsLived config passes events
  host : (now config passes events).host ≡ start (setup_of config passes)
  words_are : words_at config passes events ≡ words
  store_is : store_at config passes events ≡ store
  steady : list_any restarts_converter events ≡ false
  ordered : (cell : Cell) (word : ℕ) → WasOrdered config passes events cell word → P cell word

-- ---- a job, whose write is heard once

-- an event that asks for a job leaves the converter, and the host accepts the job
next-host : (s : State) (event : Event) (job : host.Job) → asked s event ≡ Some job →
    (next s event).host ≡ host_next s.host (host.Accepted job)
unfolding next
next-host s event job asks =
    ap (λ o. host_after s.host (option_map_or (λ j. tells (host.Accepted j)) o (share_beside s event)).told) asks

next-device : (s : State) (event : Event) (job : host.Job) → asked s event ≡ Some job → (next s event).device ≡ s.device
unfolding next
next-device s event job asks =
    ap (λ o. device_after s.device (option_map_or (λ j. tells (host.Accepted j)) o (share_beside s event)).heard) asks

-- a delivery tells the host nothing
deliver-host : (s : State) (message : Message) → sending_in s.host ≡ Some message → (next s (Deliver Whole)).host ≡ s.host
unfolding next
deliver-host s message sends = ap (λ o. host_after s.host (delivered s Whole o).told) sends

-- a restart of the host
restart-host : (s : State) → (next s RestartHost).host ≡ start s.host.setup
unfolding next host_next
restart-host s = refl

restart-device : (s : State) → (next s RestartHost).device ≡ s.device
unfolding next
restart-device s = refl

-- a write that is being sent may be delivered whole
deliver-free : (s : State) (message : Message) → sending_in s.host ≡ Some message → is_read_message message ≡ false →
    event_cause s (Deliver Whole) ≡ None
deliver-free s message sends writes =
    let frame = frame_of s.host.setup.addr message in
    ap (delivery_cause s Whole) sends
    ∙ (ap (λ b. option_or (rule b WrongKind) (rule (not (is_legal_hearing frame frame (cond b Restart Stop))) NotBetrayed)) writes
    ∙ ap (λ b. rule (not b) NotBetrayed) (write-heard frame))

-- the frame that is delivered is heard whole
whole-frame : (frame : List ℕ) → is_whole frame Whole ≡ true
whole-frame frame = ap (λ b. b && true) ((bytes_eq-Decides frame frame).1 refl)

-- a step that is told is no order that is accepted
no-end : (config : Config) (passes : ℕ) (before : List Event) (job : PendingJob) → steps_of_event config passes before RestartHost ≡ Accept job ∷ [] → ⊥
unfolding steps_of_event told_beside
no-end config passes before job is = cc

no-take : (config : Config) (passes : ℕ) (before : List Event) (job : PendingJob) → steps_of_event config passes before (Deliver Whole) ≡ Accept job ∷ [] → ⊥
unfolding steps_of_event told_beside
no-take config passes before job is = go (taken_at config passes before (Deliver Whole)) is where
  go : (o : Option PendingJob) → takes o ≡ Accept job ∷ [] → ⊥
  go None e = cc
  go (Some p) e = cc

-- a job that an event asks for is open then
opened-job : (config : Config) (passes : ℕ) (before : List Event) (event : Event) (job : host.Job) (p : PendingJob) →
    asked (now config passes before) event ≡ Some job →
    ((entries : List host.Entry) → option_and_then pending_of (open_job (setup_of config passes) (host.Accepted job ∷ entries)) ≡ Some p) →
    open_pending config passes (event ∷ before) ≡ Some p
unfolding open_pending
opened-job config passes before event job p asks opened =
    let s = now config passes before in
    let entries = (life config passes before).entries in
    ap (λ es. option_and_then pending_of (open_job (setup_of config passes) es))
    (entries-more config passes before event
    ∙ ap (λ o. option_to_list (option_map_or (λ j. tells (host.Accepted j)) o (share_beside s event)).told ++ entries) asks)
    ∙ opened entries

-- A job of a new host that sends one write, which an event asks for.
record Sends (config : Config) (passes : ℕ) (event : Event) (job : host.Job) (p : PendingJob) : Type 0 where
  asks : (s : Summary) → job_of s event ≡ Some job
  free : refusal_of_event (start (setup_of config passes)) event ≡ None
  beside : (s : State) → cause_beside s event ≡ None
  sends : sending_in (host_next (start (setup_of config passes)) (host.Accepted job)) ≡ Some (pending_message p)
  same : (host_next (start (setup_of config passes)) (host.Accepted job)).setup ≡ setup_of config passes
  writes : is_read_message (pending_message p) ≡ false
  opened : (entries : List host.Entry) →
      option_and_then pending_of (open_job (setup_of config passes) (host.Accepted job ∷ entries)) ≡ Some p
  quiet : restarts_converter event ≡ false

-- It is asked for, its write is heard once, and the host restarts: it took.
taken : Reaching → (P : Cell → ℕ → Type 0) (config : Config) (passes : ℕ) (words store : Words) (m : Moment P config passes words store)
    (event : Event) (job : host.Job) (p : PendingJob) → Sends config passes event job p →
    is_allowed (word_at words Protect) (pending_code p) ≡ true →
    ((cell : Cell) (word : ℕ) → accepts (pending_of job) ≡ Accept (pending.Order cell word) ∷ [] → P cell word) →
    Moment P config passes (words_taken words store (Some p)) (store_taken words store (Some p))
taken laws P config passes words store m event job p is allowed orders =
    let setup = setup_of config passes in
    let s = now config passes m.events in
    let asks : asked s event ≡ Some job = is.asks s.host in
    let begun = event ∷ m.events in
    let lived1 = laws.lived.more config passes m.events event m.lived
    (ap₂ option_or (ap refused (ap (λ (h : Summary). refusal_of_event h event) m.host ∙ is.free)) (is.beside s)) in
    let more1 = laws.followed.more config passes m.events event lived1 in
    let s1 = now config passes begun in
    let host1 : s1.host ≡ host_next (start setup) (host.Accepted job) =
    ap (λ (t : State). t.host) more1 ∙ (next-host s event job asks ∙ ap (λ h. host_next h (host.Accepted job)) m.host) in
    let device1 : s1.device ≡ s.device = ap (λ (t : State). t.device) more1 ∙ next-device s event job asks in
    let sending1 : sending_in s1.host ≡ Some (pending_message p) = ap sending_in host1 ∙ is.sends in
    let heard = Deliver Whole ∷ begun in
    let lived2 = laws.lived.more config passes begun (Deliver Whole) lived1
    (deliver-free s1 (pending_message p) sending1 is.writes) in
    let more2 = laws.followed.more config passes begun (Deliver Whole) lived2 in
    let s2 = now config passes heard in
    let host2 : s2.host ≡ s1.host = ap (λ (t : State). t.host) more2 ∙ deliver-host s1 (pending_message p) sending1 in
    let words1 : words_at config passes begun ≡ words = ap (λ d. d.words) device1 ∙ m.words_are in
    let store1 : store_at config passes begun ≡ store = ap (λ d. d.store) device1 ∙ m.store_is in
    let jt : JobTakes config passes begun Whole p = record {
      opened = opened-job config passes m.events event job p asks is.opened;
      whole = whole-frame (frame_of config.addr (pending_message p));
      allowed = ap (λ w. is_allowed (word_at w Protect) (pending_code p)) words1 ∙ allowed;
    } in
    let took = (laws.moves config passes heard lived2).takes [] begun Whole p refl jt in
    let lived3 = laws.lived.more config passes heard RestartHost lived2 refl in
    let more3 = laws.followed.more config passes heard RestartHost lived3 in
    let device3 = ap (λ (t : State). t.device) more3 ∙ restart-device s2 in
    record {
      events = RestartHost ∷ heard;
      lived = lived3;
      host = ap (λ (t : State). t.host) more3
          ∙ (restart-host s2 ∙ ap start (ap (λ (h : Summary). h.setup) (host2 ∙ host1) ∙ is.same));
      words_are = ap (λ d. d.words) device3 ∙ (took.0 ∙ ap₂ (λ w t. words_taken w t (Some p)) words1 store1);
      store_is = ap (λ d. d.store) device3 ∙ (took.1 ∙ ap₂ (λ w t. store_taken w t (Some p)) words1 store1);
      steady = ap₂ (λ a b. a || b) is.quiet m.steady;
      ordered = λ cell word was. go asks cell word was.later was.event was.before was.is was.orders;
    }
  where
    go : asked (now config passes m.events) event ≡ Some job → (cell : Cell) (word : ℕ) (later : List Event) (e : Event) (before : List Event) →
        RestartHost ∷ Deliver Whole ∷ event ∷ m.events ≡ later ++ e ∷ before →
        steps_of_event config passes before e ≡ Accept (pending.Order cell word) ∷ [] → P cell word
    go asks cell word [] e before at orders' =
        let here : RestartHost ≡ e = cc in
        absurd (no-end config passes before (pending.Order cell word) (ap (steps_of_event config passes before) here ∙ orders'))
    go asks cell word (x ∷ []) e before at orders' =
        let here : Deliver Whole ≡ e = cc in
        absurd (no-take config passes before (pending.Order cell word) (ap (steps_of_event config passes before) here ∙ orders'))
    go asks cell word (x ∷ y ∷ []) e before at orders' =
        let here : event ≡ e = cc in
        let rest : m.events ≡ before = cc in
        orders cell word (sym (asked-told config passes m.events event job asks)
        ∙ (ap₂ (λ b f. steps_of_event config passes b f) rest here ∙ orders'))
    go asks cell word (x ∷ y ∷ z ∷ later) e before at orders' =
        let rest : m.events ≡ later ++ e ∷ before = cc in
        m.ordered cell word (record { later = later; event = e; before = before; is = rest; orders = orders' })

-- ---- an order, and a store

-- nothing is known to a new host
any-at : (setup : host.Setup) (cell : Cell) → IsCell 8 cell → CellsHavePlaces → possible_at (start setup) cell ≡ Any
unfolding nothing_known all_any
any-at setup cell there have = get_or-replicate places (place_of cell) Any Any (have.below cell there)

-- the refusals of an order of an idle host: the cell is there, it accepts the word, and there is room for the word
abbrev first-fault : Bool → Bool → Bool → Option HostFault
first-fault there accepted room = option_or (option_or (rule (not there) UnknownOutput) None) (option_or (rule (not accepted) BadWord)
    (option_or (rule (not room) TooUncertain) None))

-- a new host takes the order of a word that the cell accepts
order-free : Reaching → (setup : host.Setup) (cell : Cell) (word : ℕ) → setup.outputs ≤ 8 → is_cell setup.outputs cell ≡ true →
    cell_accepts cell word ≡ true → order_fault (start setup) cell word ≡ None
order-free laws setup cell word few there accepted =
    let eight = IsCell-eight setup.outputs cell few (is_cell-there setup.outputs cell there) in
    let room : has_room word (possible_at (start setup) cell) ≡ true = ap (has_room word) (any-at setup cell eight laws.places) in
    ap₂ (λ a b. first-fault a b (has_room word (possible_at (start setup) cell))) there accepted
    ∙ ap (λ c. first-fault true true c) room

order-sends : Reaching → (config : Config) (passes : ℕ) (cell : Cell) (word : ℕ) → config.count ≤ 8 → is_cell config.count cell ≡ true →
    cell_accepts cell word ≡ true → Sends config passes (Order cell word) (host.Order cell word) (pending.Order cell word)
unfolding host_next open_job last_job_end
order-sends laws config passes cell word few there accepted = record {
  asks = λ s. refl;
  free = order-free laws (setup_of config passes) cell word few there accepted;
  beside = λ s. refl;
  sends = refl;
  same = refl;
  writes = writes cell;
  opened = λ entries. refl;
  quiet = refl;
} where
  writes : (c : Cell) → is_read_message (pending_message (pending.Order c word)) ≡ false
  writes (Out output register) = refl
  writes Protect = refl

-- ---- words, cell by cell

-- at 00h each cell may be written
open-cell : (cell : Cell) → is_allowed 0 (cell_code cell) ≡ true
unfolding line_of
open-cell (Out output Operation) = refl
open-cell (Out output register) = refl
open-cell Protect = refl

-- WRITE_PROTECT itself at each byte that it takes
open-protect : (word : ℕ) → cell_accepts Protect word ≡ true → is_allowed word (cell_code Protect) ≡ true
unfolding line_of
open-protect word accepted = accepted

-- words that are the same at each cell are the same
same-words : Reaching → (words others : Words) → AreWords words → AreWords others →
    ((cell : Cell) → IsCell 8 cell → word_at words cell ≡ word_at others cell) → words ≡ others
same-words laws words others size other_size same =
    laws.map.one words (word_at others) size same
    ∙ sym (laws.map.one others (word_at others) other_size (λ cell there. refl))

-- the word of a cell after a write, and of any other
put-here : Reaching → (words : Words) (cell : Cell) (word : ℕ) → AreWords words → IsCell 8 cell → word_at (with_word words cell word) cell ≡ word
put-here laws words cell word size there =
    laws.map.read words cell cell word size there there
    ∙ ap (λ b. cond b word (word_at words cell)) ((laws.apart cell cell).1 refl)

pub put-other : Reaching → (words : Words) (cell other : Cell) (word : ℕ) → AreWords words → IsCell 8 cell → IsCell 8 other → (cell ≡ other → ⊥) →
    word_at (with_word words cell word) other ≡ word_at words other
put-other laws words cell other word size there here differs =
    laws.map.read words cell other word size there here ∙ go (same_cell cell other) (laws.apart cell other).0
  where
    go : (b : Bool) → (IsTrue b → cell ≡ other) → cond b word (word_at words other) ≡ word_at words other
    go true same = absurd (differs (same refl))
    go false same = refl

-- the cells before this place have the wanted words, the others their old ones
record Swept (old wanted words : Words) (k : ℕ) : Type 0 where
  size : AreWords words
  done : (cell : Cell) → IsCell 8 cell → place_of cell < k → word_at words cell ≡ word_at wanted cell
  left : (cell : Cell) → IsCell 8 cell → k ≤ place_of cell → word_at words cell ≡ word_at old cell

-- the words of one cell more
swept-more : Reaching → (old wanted words new : Words) (k : ℕ) → k < places → Swept old wanted words k → AreWords new →
    word_at new (cell_in k) ≡ word_at wanted (cell_in k) →
    ((cell : Cell) → IsCell 8 cell → (cell_in k ≡ cell → ⊥) → word_at new cell ≡ word_at words cell) → Swept old wanted new (suc k)
swept-more laws old wanted words new k below swept size here others = record {
  size = size;
  done = λ cell there before. elim (same-or cell there) [
    | inl at ↦ subst (λ c. word_at new c ≡ word_at wanted c) at here
    | inr off ↦ others cell there off ∙ swept.done cell there (before-so cell there off before)
  ];
  left = λ cell there after. others cell there
      (λ at. not-here cell at after)
      ∙ swept.left cell there (omega (arith, after));
} where
  is-place : (cell : Cell) → cell_in k ≡ cell → place_of cell ≡ k
  is-place cell at = ap place_of (sym at) ∙ laws.places.again k below

  same-or : (cell : Cell) → IsCell 8 cell → (cell_in k ≡ cell) ⊎ (cell_in k ≡ cell → ⊥)
  same-or cell there = go (same_cell (cell_in k) cell) (laws.apart (cell_in k) cell) where
    go : (b : Bool) → (IsTrue b ↔ (cell_in k ≡ cell)) → (cell_in k ≡ cell) ⊎ (cell_in k ≡ cell → ⊥)
    go true both = inl (both.0 refl)
    go false both = inr (λ e. let is = both.1 e in cc)

  before-so : (cell : Cell) → IsCell 8 cell → (cell_in k ≡ cell → ⊥) → place_of cell < suc k → place_of cell < k
  before-so cell there off before = below-of (place_of cell) k before (λ e. off (ap cell_in (sym e) ∙ laws.places.back cell there)) where
    below-of : (a b : ℕ) → a < suc b → (a ≡ b → ⊥) → a < b
    below-of a b less differs = elim (nat-split a b less) [
      | inl so ↦ so
      | inr same ↦ absurd (differs same)
    ] where
      nat-split : (a b : ℕ) → a < suc b → (a < b) ⊎ (a ≡ b)
      nat-split a b less = split (eqb a b) refl where
        split : (t : Bool) → eqb a b ≡ t → (a < b) ⊎ (a ≡ b)
        split true e = inr (eqb-true a b e)
        split false e =
            let differ : a ≡ b → ⊥ = λ same. (let yes = (Decides-eqb a b).1 same in cc) in
            inl (omega (arith, less, differ))

  not-here : (cell : Cell) → cell_in k ≡ cell → suc k ≤ place_of cell → ⊥
  not-here cell at after = let p = is-place cell at in omega (arith, p, after)

-- ---- all cells, one after another

-- the words so far, with the moment at which they are held
record Sweep (P : Cell → ℕ → Type 0) (config : Config) (passes : ℕ) (old wanted store : Words) (k : ℕ) : Type 0 where
  words : Words
  swept : Swept old wanted words k
  moment : Moment P config passes words store

-- what the sweep asks of the words: WRITE_PROTECT is open, the wanted words are accepted, and where there is no cell nothing changes
record MaySweep (P : Cell → ℕ → Type 0) (config : Config) (old wanted : Words) : Type 0 where
  few : config.count ≤ 8
  size : AreWords old
  open_now : word_at old Protect ≡ 0
  accepted : (cell : Cell) → IsCell config.count cell → cell_accepts cell (word_at wanted cell) ≡ true
  absent : (cell : Cell) → IsCell 8 cell → is_cell config.count cell ≡ false → word_at old cell ≡ word_at wanted cell
  told_so : (cell : Cell) → IsCell config.count cell → P cell (word_at wanted cell)

-- one more cell
sweep-more : Reaching → (P : Cell → ℕ → Type 0) (config : Config) (passes : ℕ) (old wanted store : Words) → MaySweep P config old wanted →
    (k : ℕ) → k < places → Sweep P config passes old wanted store k → Sweep P config passes old wanted store (suc k)
sweep-more laws P config passes old wanted store may k below sweep = go (is_cell config.count cell) refl where
  cell : Cell
  cell = cell_in k

  there : IsCell 8 cell
  there = laws.places.there k below

  place : place_of cell ≡ k
  place = laws.places.again k below

  protect : word_at sweep.words Protect ≡ 0
  protect = sweep.swept.left Protect tt (let b = below in omega (arith, b)) ∙ may.open_now

  go : (b : Bool) → is_cell config.count cell ≡ b → Sweep P config passes old wanted store (suc k)
  go true is =
      let word = word_at wanted cell in
      let here = is_cell-there config.count cell is in
      record {
        words = with_word sweep.words cell word;
        swept = swept-more laws old wanted sweep.words (with_word sweep.words cell word) k below sweep.swept
            (laws.map.kept sweep.words cell word sweep.swept.size)
            (put-here laws sweep.words cell word sweep.swept.size there)
            (λ other other_there off. put-other laws sweep.words cell other word sweep.swept.size there other_there off);
        moment = taken laws P config passes sweep.words store sweep.moment (Order cell word) (host.Order cell word)
            (pending.Order cell word) (order-sends laws config passes cell word may.few is (may.accepted cell here))
            (ap (λ p. is_allowed p (cell_code cell)) protect ∙ open-cell cell)
            (λ c w at. told-this c w word (may.told_so cell here) at);
      }
    where
      told-this : (c : Cell) (w word : ℕ) → P cell word →
          accepts (pending_of (host.Order cell word)) ≡ Accept (pending.Order c w) ∷ [] → P c w
      told-this c w word so at =
          let one : pending.Order cell word ≡ pending.Order c w = cc in
          order-subst cell c word w one so
        where
          order-subst : (a b : Cell) (x y : ℕ) → pending.Order a x ≡ pending.Order b y → P a x → P b y
          order-subst a b x y e so' =
              let cells : a ≡ b = cc in
              let words : x ≡ y = cc in
              subst (λ c'. P c' y) cells (subst (λ w'. P a w') words so')
  go false is = record {
    words = sweep.words;
    swept = swept-more laws old wanted sweep.words sweep.words k below sweep.swept sweep.swept.size
        (sweep.swept.left cell there (let p = place in omega (arith, p)) ∙ may.absent cell there is) (λ other other_there off. refl);
    moment = sweep.moment;
  }

-- all of them up to a place
sweep-to : Reaching → (P : Cell → ℕ → Type 0) (config : Config) (passes : ℕ) (old wanted store : Words) → MaySweep P config old wanted →
    Moment P config passes old store → (k : ℕ) → k ≤ places → Sweep P config passes old wanted store k
sweep-to laws P config passes old wanted store may moment zero below = record {
  words = old;
  swept = record { size = may.size; done = λ cell there before. absurd (let b = before in omega (arith, b)); left = λ cell there after. refl };
  moment = moment;
}
sweep-to laws P config passes old wanted store may moment (suc k) below =
    sweep-more laws P config passes old wanted store may k (let b = below in omega (arith, b))
    (sweep-to laws P config passes old wanted store may moment k (let b = below in omega (arith, b)))

-- An earlier host orders all cells' words.
swept-all : Reaching → (P : Cell → ℕ → Type 0) (config : Config) (passes : ℕ) (old wanted store : Words) → MaySweep P config old wanted →
    AreWords wanted → Moment P config passes old store → Moment P config passes wanted store
swept-all laws P config passes old wanted store may size moment =
    let all = sweep-to laws P config passes old wanted store may moment places (omega arith) in
    subst (λ w. Moment P config passes w store)
    (same-words laws all.words wanted all.swept.size size (λ cell there. all.swept.done cell there (laws.places.below cell there)))
    all.moment

-- ---- the words of a start

-- each cell's
pub start-word : Reaching → (config : Config) (cell : Cell) → IsCell 8 cell → word_at (start_words config) cell ≡ start_word config cell
unfolding start_words
start-word laws config cell there = (laws.map.made (start_word config)).1 cell there

pub start-size : Reaching → (config : Config) → AreWords (start_words config)
unfolding start_words
start-size laws config = (laws.map.made (start_word config)).0

-- ---- a configuration that starts with what is stored

-- its words, its VOUT_MODE bytes and its formats
start-at : (config : Config) (store : Words) (output : ℕ) (register : Reg) → output < 8 →
    start_word (stored_config config store) (Out output register) ≡ word_at store (Out output register)
start-at config store output register there =
    ap (λ (l : List ℕ). slice_index l output) (map-map (register_start register) (stored_start config store) (range_with_len 0 8))
    ∙ (get_or-map-range_with_len (λ o. register_start register (stored_start config store o)) 0 8 output output 0 there (omega arith)
    ∙ by register)
  where
    by : (r : Reg) → register_start r (stored_start config store output) ≡ word_at store (Out output r)
    by Operation = refl
    by register = refl

mode-same : (config : Config) (store : Words) → length config.starts ≡ 8 →
    map (λ (s : OutputStart). s.mode) (stored_config config store).starts ≡ map (λ (s : OutputStart). s.mode) config.starts
mode-same config store size =
    same_number_lists (map (λ (s : OutputStart). s.mode) (stored_config config store).starts) (map (λ (s : OutputStart). s.mode) config.starts)
    (long ∙ sym other-long) (λ k below. at k (subst (λ n. k < n) long below))
  where
    long : length (map (λ (s : OutputStart). s.mode) (stored_config config store).starts) ≡ 8
    long = length-map (stored_config config store).starts (λ (s : OutputStart). s.mode)
        ∙ length-map-range_with_len (stored_start config store) 0 8

    other-long : length (map (λ (s : OutputStart). s.mode) config.starts) ≡ 8
    other-long = length-map config.starts (λ (s : OutputStart). s.mode) ∙ size

    at : (k : ℕ) → k < 8 → get_or (map (λ (s : OutputStart). s.mode) (stored_config config store).starts) k 0
        ≡ get_or (map (λ (s : OutputStart). s.mode) config.starts) k 0
    at k below = ap (λ (l : List ℕ). get_or l k 0) (map-map (λ (s : OutputStart). s.mode) (stored_start config store) (range_with_len 0 8))
        ∙ get_or-map-range_with_len (λ o. (stored_start config store o).mode) 0 8 k k 0 below (omega arith)

pub stored-so : StoredConfigsStartSo
stored-so = record { starts = start-at; modes = mode-same }

-- it is sound
stored-shape : (config : Config) (store : Words) → length config.starts ≡ 8 → (output : ℕ) →
    shape_made (stored_config config store) output ≡ shape_made config output
stored-shape config store size output =
    ap (λ (modes : List ℕ). option_and_then (λ mode. result_ok (shape_in mode config.coefficients))
    (result_ok (mode_of (slice_index modes output)))) (mode-same config store size)

stored-for : (config : Config) (store : Words) → length config.starts ≡ 8 → (output : ℕ) →
    shape_for (stored_config config store) output ≡ shape_for config output
unfolding shape_for
stored-for config store size output = ap (λ o. unwrap_or o InLinear11) (stored-shape config store size output)

stored-sound : (config : Config) (words store : Words) → IsPart config words store → IsSound (stored_config config store)
stored-sound config words store part = record {
  some = part.made.some;
  few = part.made.few;
  address = part.made.address;
  starts = accepted;
  formats = λ output there. stored-shape config store part.made.places output
      ∙ (part.made.formats output there ∙ ap (λ s. Some s) (sym (stored-for config store part.made.places output)));
} where
  accepted : (cell : Cell) → IsCell config.count cell → cell_accepts cell (start_word (stored_config config store) cell) ≡ true
  accepted (Out output register) there =
      ap (λ w. cell_accepts (Out output register) w)
      (start-at config store output register (IsCell-eight config.count (Out output register) part.made.few there))
      ∙ part.stored.accepted (Out output register) there
  accepted Protect there = part.stored.accepted Protect tt

-- it starts with what is stored
stored-words : Reaching → (config : Config) (words store : Words) → IsPart config words store → start_words (stored_config config store) ≡ store
stored-words laws config words store part =
    same-words laws (start_words (stored_config config store)) store (start-size laws (stored_config config store)) part.stored.size at
  where
    at : (cell : Cell) → IsCell 8 cell → word_at (start_words (stored_config config store)) cell ≡ word_at store cell
    at (Out output register) there = start-word laws (stored_config config store) (Out output register) there
        ∙ start-at config store output register there
    at Protect there = start-word laws (stored_config config store) Protect tt

-- ---- the life of an earlier host

-- before any event
first-moment : Reaching → (P : Cell → ℕ → Type 0) (config : Config) (passes : ℕ) (words store : Words) → IsPart config words store →
    IsSetup (setup_of config passes) → Moment P (stored_config config store) passes store store
unfolding world_start start_of
first-moment laws P config passes words store part made =
    let none = laws.followed.none (stored_config config store) passes made in
    let same = stored-words laws config words store part in
    record {
      events = [];
      lived = laws.lived.none (stored_config config store) passes (stored-sound config words store part) made;
      host = ap (λ (t : State). t.host) none;
      words_are = ap (λ (t : State). t.device.words) none ∙ same;
      store_is = ap (λ (t : State). t.device.store) none ∙ same;
      steady = refl;
      ordered = λ cell word was. absurd (no-event was.later was.event was.before was.is);
    }
  where
    no-event : (later : List Event) (event : Event) (before : List Event) → [] ≡ later ++ event ∷ before → ⊥
    no-event [] event before is = cc
    no-event (newer ∷ later) event before is = cc

-- what is said of each word that was ordered
abbrev Ordered : Words → Cell → ℕ → Type 0
Ordered words (Out output register) word = word ≡ word_at words (Out output register)
Ordered words Protect word = Unit {0}

held-told : (words : Words) (cell : Cell) → Ordered words cell (word_at words cell)
held-told words (Out output register) = refl
held-told words Protect = tt

module _ (laws : Reaching) (config : Config) (passes : ℕ) (words store : Words) (part : IsPart config words store)
    (made : IsSetup (setup_of config passes)) where
  abbrev P : Cell → ℕ → Type 0
  P = Ordered words

  -- WRITE_PROTECT is opened
  abbrev opened : Words
  opened = with_word store Protect 0

  open-moment : Moment P (stored_config config store) passes opened store
  open-moment = taken laws P (stored_config config store) passes store store (first-moment laws P config passes words store part made)
      (Order Protect 0) (host.Order Protect 0) (pending.Order Protect 0)
      (order-sends laws (stored_config config store) passes Protect 0 part.made.few refl refl)
      (open-protect (word_at store Protect) (part.stored.accepted Protect tt))
      (λ c w at. told-open c w at)
    where
      told-open : (c : Cell) (w : ℕ) → accepts (pending_of (host.Order Protect 0)) ≡ Accept (pending.Order c w) ∷ [] → P c w
      told-open (Out output register) w at = absurd (let one : pending.Order Protect 0 ≡ pending.Order (Out output register) w = cc in
          let cells : Protect ≡ Out output register = cc in cc)
      told-open Protect w at = tt

  out-off : (output : ℕ) (register : Reg) → Out output register ≡ Protect → ⊥
  out-off output register e = cc

  -- what is held is ordered
  may-sweep : MaySweep P (stored_config config store) opened words
  may-sweep = record {
    few = part.made.few;
    size = laws.map.kept store Protect 0 part.stored.size;
    open_now = put-here laws store Protect 0 part.stored.size tt;
    accepted = part.held.accepted;
    absent = absent;
    told_so = λ cell there. held-told words cell;
  } where
    absent : (cell : Cell) → IsCell 8 cell → is_cell config.count cell ≡ false → word_at opened cell ≡ word_at words cell
    absent (Out output register) there none =
        put-other laws store Protect (Out output register) 0 part.stored.size tt there (λ e. out-off output register (sym e))
        ∙ sym (part.absent (Out output register) there none)
    absent Protect there none = cc

  last-moment : Moment P (stored_config config store) passes words store
  last-moment = swept-all laws P (stored_config config store) passes opened words store may-sweep part.held.size open-moment

-- Each part was reached.
pub reaches : Reaching → PartsAreReached
reaches laws config passes words store part made =
    let m = last-moment laws config passes words store part made in (
      m.events,
      record {
        lived = m.lived;
        host = m.host;
        words_are = m.words_are;
        store_is = m.store_is;
        steady = m.steady;
        ordered = λ output register word was. m.ordered (Out output register) word was;
      },
    )

-- What a life leaves is a part: nothing that a host does leaves the words that its cells accept.

-- more of what the crates below say
pub record Leaving : Type 0 where
  pub all : Reaching
  pub orders : LivesAreOrders
  pub stay : OrdersStayInTheirCells
  pub origin : WordsHaveAnOrigin
  pub pasts : PastsAreFollowed

-- the words and the store of the order machine, where there is no cell, are those of the start
record Kept (start : Settings) (words store : Words) : Type 0 where
  size : AreWords words
  stored_size : AreWords store
  held : (cell : Cell) → IsCell 8 cell → is_cell start.count cell ≡ false → word_at words cell ≡ word_at start.words cell
  stored : (cell : Cell) → IsCell 8 cell → is_cell start.count cell ≡ false → word_at store cell ≡ word_at start.words cell

-- a cell that is there isn't one that isn't
there-off : (count : ℕ) (cell other : Cell) → IsCell count cell → is_cell count other ≡ false → cell ≡ other → ⊥
there-off count cell other there none same = go other (subst (IsCell count) same there) none where
  go : (c : Cell) → IsCell count c → is_cell count c ≡ false → ⊥
  go (Out output register) here none' = let yes = lt-ltb output count here in cc
  go Protect here none' = cc

-- the outputs' words of others keep the words where there is no cell
outputs-kept : Reaching → (start : Settings) (words others : Words) → AreWords others →
    ((cell : Cell) → IsCell 8 cell → is_cell start.count cell ≡ false → word_at others cell ≡ word_at start.words cell) →
    (cell : Cell) → IsCell 8 cell → is_cell start.count cell ≡ false → word_at (with_outputs words others) cell ≡ word_at start.words cell
outputs-kept laws start words others size kept (Out output register) there none =
    laws.map.outputs words others output register size there ∙ kept (Out output register) there none
outputs-kept laws start words others size kept Protect there none = cc

-- a job that takes leaves them
taken-kept : Leaving → (start : Settings) (words store : Words) (p : Option PendingJob) → CanTake start.count p → start.count ≤ 8 →
    Kept start words store → Kept start (words_taken words store p) (store_taken words store p)
taken-kept laws start words store None can few kept = kept
taken-kept laws start words store (Some (PendingJobOrder cell word)) can few kept = record {
  size = laws.all.map.kept words cell word kept.size;
  stored_size = kept.stored_size;
  held = λ other there none. put-other laws.all words cell other word kept.size (IsCell-eight start.count cell few can.0) there
      (there-off start.count cell other can.0 none) ∙ kept.held other there none;
  stored = kept.stored;
}
taken-kept laws start words store (Some Store) can few kept = record {
  size = kept.size;
  stored_size = laws.all.map.whole store words kept.size;
  held = kept.held;
  stored = outputs-kept laws.all start store words kept.size kept.held;
}
taken-kept laws start words store (Some Restore) can few kept = record {
  size = laws.all.map.whole words store kept.stored_size;
  stored_size = kept.stored_size;
  held = outputs-kept laws.all start words store kept.stored_size kept.stored;
  stored = kept.stored;
}

-- a pending job can take
can-take : (start : Settings) (steps : List Step) (p : Option PendingJob) → IsAccepted start steps p → CanTake start.count p
can-take start steps None is = tt
can-take start steps (Some job) is = is.0

-- each run leaves them
run-kept : Leaving → (start : Settings) (steps : List Step) → start.count ≤ 8 → AreWords start.words → IsRun start steps →
    Kept start (machine_of start steps).words (machine_of start steps).store
unfolding machine_of
run-kept laws start [] few size run = record {
  size = size;
  stored_size = size;
  held = λ cell there none. refl;
  stored = λ cell there none. refl;
}
run-kept laws start (Accept job ∷ before) few size run = run-kept laws start before few size run.1
run-kept laws start (End ∷ before) few size run = run-kept laws start before few size run.1
run-kept laws start (Back ∷ before) few size run =
    let kept = run-kept laws start before few size run.1 in
    record { size = kept.stored_size; stored_size = kept.stored_size; held = kept.stored; stored = kept.stored }
run-kept laws start (Take ∷ before) few size run =
    taken-kept laws start (machine_of start before).words (machine_of start before).store (machine_of start before).pending
    (can-take start before (machine_of start before).pending (laws.stay.pending start before run.1)) few
    (run-kept laws start before few size run.1)

-- what a life leaves there
life-kept : Leaving → (config : Config) (passes : ℕ) (events : List Event) → IsLived config passes events →
    Kept (start_settings config) (words_at config passes events) (store_at config passes events)
life-kept laws config passes events lived =
    let run = laws.orders.orders config passes events lived in
    subst (λ w. Kept (start_settings config) w (store_at config passes events)) run.words_are
    (subst (λ s. Kept (start_settings config) (machine_of (start_settings config) (retold config passes events)).words s) run.store_is
    (run-kept laws (start_settings config) (retold config passes events) lived.sound.few (start-size laws.all config) run.run))

-- how a converter is made
made-so : (config : Config) → IsSound config → length config.starts ≡ 8 → IsMade config
made-so config sound places = record {
  some = sound.some;
  few = sound.few;
  address = sound.address;
  places = places;
  formats = sound.formats;
}

-- What a life leaves is a part.
pub leaves : Leaving → LivesLeaveParts
unfolding now state_of
leaves laws config passes events lived places =
    let kept = life-kept laws config passes events lived in
    let past = (life config passes events).past in
    record {
      made = made-so config lived.sound places;
      held = record { size = kept.size; accepted = λ cell there. laws.origin.accepted config past cell lived.sound there };
      stored = record { size = kept.stored_size; accepted = λ cell there. laws.origin.stored_accepted config past cell lived.sound there };
      absent = λ cell there none. kept.held cell there none ∙ sym (kept.stored cell there none);
    }

-- What a converter starts with is one.
pub starts : Reaching → StartsAreParts
starts laws config sound places =
    let words : AreWordsOf config.count (start_words config) = record {
      size = start-size laws config;
      accepted = λ cell there. ap (λ w. cell_accepts cell w)
          (start-word laws config cell (IsCell-eight config.count cell sound.few there)) ∙ sound.starts cell there;
    } in
    record { made = made-so config sound places; held = words; stored = words; absent = λ cell there none. refl }
