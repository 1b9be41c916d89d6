-- What frames that nothing disturbs make of each open job, in a life.
use Rattle.std.specs.{Option.option_and_then, Result.result_ok}
use Rattle.std.specs.List.{list_all, list_any}
use Rattle.std.specs.Prelude.{slice_index_or, Result, Err}
use Rattle.std.proofs.{lemmas.List.FromFn.length-map-range_with_len, lemmas.Option.none-some}
use Rattle.std.proofs.Common.{◌≡◌, ◌≢◌, ℕ, Bool, true, false, not, ◌||◌, cond, eqb, ◌+◌, ◌<◌, List, [], ◌∷◌, ◌++◌, length, Some, None, refl}
use Rattle.std.proofs.Common.{option_map, sym, ◌∙◌, ap, subst, arith, ◌⊎◌, inl, inr, Ok, ◌≤◌, Option, ap₂}
use Rattle.std.proofs.lemmas.Bool.{and_parts, cond-false, cond-true, eq-eqb, ne_eqb, false≢true, or_cases, or_left, or_right}
use Rattle.std.proofs.lemmas.List.{get_or-replicate, get_or-set_other, get_or-set_same}
use Rattle.pm_num.specs.AnyFormat.{InUlinear16, Shape}
use Rattle.pm_table.specs.{Format.shape_in, Protection.is_allowed, VoutMode.mode_of, declared.cell.Cell.Cell}
use Rattle.pm_table.specs.{declared.cell.Cell.TheVariants.Protect, declared.coefficients.Coefficients.Coefficients as AnyCoefficients}
use Rattle.pm_table.specs.{declared.fault.TableFault.TableFault, declared.vout_mode.VoutMode.VoutMode}
use Rattle.pm_table.specs.Cell.{IsCell, cell_accepts, cell_in, place_of, places, same_cell, cell_code}
use Rattle.pm_table.specs.Codes as command
use Rattle.pm_table.specs.Coefficients.{coefficient_bytes, coefficients_of}
use Rattle.pm_table.specs.declared.vout_mode.VoutMode.TheVariants.{Linear, Direct}
use Rattle.pm_frame.specs.{Layout.fits_layout, declared.message.Message.Message}
use Rattle.pm_model.specs.{OrderMachine.words_taken, declared.order_machine.PendingJob.PendingJob}
use Rattle.pm_model.specs.Settings.{word_at, Words}
use Rattle.pm_model.specs.declared.order_machine.PendingJob.TheVariants as pending
use Rattle.pm_device.specs.{declared.config.Config.Config, declared.converter.Ending.TheVariants.Restart}
use Rattle.pm_device.specs.Effect as device
use Rattle.pm_device.specs.Held.{Held, mode_for, shape_for}
use Rattle.pm_device.specs.Reply.{reply_of, register_bytes}
use Rattle.pm_host.specs.{Cells.table, Lemmas.all_any-length, Now.host_now, declared.command.Command.Command}
use Rattle.pm_host.specs.{declared.knowledge.Possible.Possible, declared.knowledge.Possible.TheVariants.Any}
use Rattle.pm_host.specs.Answers.{good_payload, good_word, word_in}
use Rattle.pm_host.specs.Known.{Known, all_any, known_after, known_now, known_possible, known_standing}
use Rattle.pm_host.specs.Marks.{Good, marks}
use Rattle.pm_host.specs.Messages.{cell_read, coefficients_read, mode_read, cell_write}
use Rattle.pm_host.specs.Possible.{is_possible, only, possible_of}
use Rattle.pm_host.specs.Sound.{IsStage, IsOrdering}
use Rattle.pm_host.specs.Summary.{Change, Summary, request_answered, question_answered as question_asked, change, ends, idle, marked}
use Rattle.pm_host.specs.Summary.{host_next}
use Rattle.pm_host.specs.Summary.{read_another, read_back, sending_in, stage_message, step_of, format_at, learned, mode_taken, finished}
use Rattle.pm_host.specs.Summary.{possible_at}
use Rattle.pm_host.specs.Transcript as host
use Rattle.pm_host.specs.declared.job.JobEnd.TheVariants.{Done, Differs, Unknown as JobEndUnknown}
use Rattle.pm_host.specs.declared.knowledge.Standing.TheVariants.{Confirmed, Unknown}
use Rattle.pm_host.specs.declared.question.Question.TheVariants.{Word, Mode, Coefficients}
use Rattle.pm_host.specs.declared.stage.Stage.TheVariants.{Asks, Reads, Writes, Sends as SendsCommand}
use Rattle.pm_world.specs.{Below.Below, Lemmas.now-config, Setup.setup_of, declared.event.Arrival.Arrival, declared.event.Back.Back}
use Rattle.pm_world.specs.{declared.event.Event.Event}
use Rattle.pm_world.specs.GoodBus.{IsRead, ReadDone, WasRead, comes_whole, word_held_after, is_reading_change, WasLearned, stage_after}
use Rattle.pm_world.specs.GoodBus.{IsWritten}
use Rattle.pm_world.specs.GoodBus.{WentInPass, delivers_whole, is_beside, WasWritten, WritesAgain, AreThere, Checks, Sweeps, is_among}
use Rattle.pm_world.specs.GoodBus.{is_surprising, GoodFrames}
use Rattle.pm_world.specs.Honest.{IsSpelled, is_whole}
use Rattle.pm_world.specs.Legal.{answer_in, back_bytes, frame_of, heard_bytes, heard_ending}
use Rattle.pm_world.specs.Life.{life, now, state_of}
use Rattle.pm_world.specs.Moves.{store_at, words_at}
use Rattle.pm_world.specs.Retelling.{open_pending, pending_code, taken_at}
use Rattle.pm_world.specs.State.{State, answer_to, end_after, end_by, exchanged, host_after, next, share_of}
use Rattle.pm_world.specs.declared.event.Event.TheVariants.{Exchange, Reading, Deliver, Finish, RestartDevice, Check}
use Rattle.pm_world.proofs.Events.{IsLived, earlier, lived-before, newest, now-next, now-setup, read-word, eight, read-fits}
use Rattle.pm_world.proofs.Events.{same_cell-itself, now-sound, now-standings, share-entries, good-answer, Fixed, Sends, deliver-sends}
use Rattle.pm_world.proofs.Events.{next-deliver-host, write-fits, deliver-entries, now-are, asked-next}
use Rattle.pm_world.proofs.Formats.{from_some, whole-same, AsksSo, coefficients-true, direct-found, is_request, mode-true, true-host}
use Rattle.pm_world.proofs.Formats.{mode-shape}
use Rattle.pm_world.proofs.Orders.{event-stays, exchanged-stays, sent-fits, Went, takes-by, went, open_pending-is, stage_pending}
use Rattle.pm_world.proofs.Standings.{same-cells}

-- What an exchange that nothing disturbs makes of a world, and readings before it.

-- nothing happened that the host was told of, or that moved a word
pub record IsQuiet (config : Config) (passes : ℕ) (before events : List Event) : Type 0 where
  pub host : (now config passes events).host ≡ (now config passes before).host
  pub words : (now config passes events).device.words ≡ (now config passes before).device.words
  pub store : (now config passes events).device.store ≡ (now config passes before).device.store
  pub entries : (life config passes events).entries ≡ (life config passes before).entries

-- as nothing at all
pub quiet-none : (config : Config) (passes : ℕ) (before : List Event) → IsQuiet config passes before before
quiet-none config passes before = record { host = refl; words = refl; store = refl; entries = refl }

-- a reading
pub quiet-reading : Below → {config : Config} {passes : ℕ} (before : List Event) (event : Event) →
    IsLived config passes (event ∷ before) → is_reading_change event ≡ true → IsQuiet config passes before (event ∷ before)
unfolding next
quiet-reading laws {config = config} {passes = passes} before (Reading output code word) lived is =
    let s = now config passes before in
    let event = Reading output code word in
    let same = now-next laws config passes before event lived in
    let stays = event-stays laws s.device (device.Reading output code.0 word) refl in
    record {
      host = ap (λ (t : State). t.host) same;
      words = ap (λ (t : State). t.device.words) same ∙ stays.words;
      store = ap (λ (t : State). t.device.store) same ∙ stays.store;
      entries = share-entries config passes before event None refl;
    }
quiet-reading laws before event lived is = cc

-- two quiet stretches, one after the other, are a quiet one
pub quiet-both : {config : Config} {passes : ℕ} {before between events : List Event} → IsQuiet config passes before between →
    IsQuiet config passes between events → IsQuiet config passes before events
quiet-both one two = record {
  host = two.host ∙ one.host;
  words = two.words ∙ one.words;
  store = two.store ∙ one.store;
  entries = two.entries ∙ one.entries;
}

-- readings, one after another
pub quiet-readings : Below → {config : Config} {passes : ℕ} (before readings : List Event) →
    IsLived config passes (readings ++ before) → list_all is_reading_change readings ≡ true →
    IsQuiet config passes before (readings ++ before)
quiet-readings laws {config = config} {passes = passes} before [] lived all = quiet-none config passes before
quiet-readings laws before (event ∷ readings) lived all =
    let parts = and_parts (is_reading_change event) (list_all is_reading_change readings) all in
    quiet-both (quiet-readings laws before readings (earlier lived) parts.1) (quiet-reading laws (readings ++ before) event lived parts.0)

-- what an exchange that comes whole tells the host
whole-told : (s : State) (request : Message) (arrival : Arrival) (back : Back) → sending_in s.host ≡ Some request →
    comes_whole s request arrival back ≡ true →
    (share_of s (Exchange arrival back)).told
    ≡ Some (host.Got (answer_in (reply_of s.device (frame_of s.host.setup.addr request) Restart)))
whole-told s request arrival back sending whole =
    let addr = s.host.setup.addr in
    let frame = frame_of addr request in
    ap (λ o. (exchanged s arrival back o).told) sending
    ∙ ap (λ b. Some (host.Got b)) (whole-same s.device frame (heard_bytes frame arrival) (heard_ending request arrival)
    (back_bytes (answer_to s.device addr request arrival) back) whole)

-- After such an exchange the host was told the converter's answer, from what that held, and the words stay.
pub record WasAnswered (config : Config) (passes : ℕ) (request : Message) (before after : List Event) : Type 0 where
  pub held : Held
  pub config_is : held.config ≡ config
  pub words_are : held.words ≡ (now config passes before).device.words
  pub answer : List ℕ
  pub is : answer ≡ answer_in (reply_of held (frame_of config.addr request) Restart)
  pub summary : (now config passes after).host ≡ host_next (now config passes before).host (host.Got answer)
  pub end : (now config passes after).end ≡ end_by (step_of (now config passes before).host (host.Got answer))
  pub words : (now config passes after).device.words ≡ (now config passes before).device.words
  pub entries : (life config passes after).entries ≡ host.Got answer ∷ (life config passes before).entries

-- a request was answered by one exchange that came whole
at-once : Below → {config : Config} {passes : ℕ} (before : List Event) (request : Message) (arrival : Arrival) (back : Back) →
    IsLived config passes (Exchange arrival back ∷ before) → sending_in (now config passes before).host ≡ Some request →
    comes_whole (now config passes before) request arrival back ≡ true →
    WasAnswered config passes request before (Exchange arrival back ∷ before)
unfolding next
at-once laws {config = config} {passes = passes} before request arrival back lived sending whole =
    let s = now config passes before in
    let event = Exchange arrival back in
    let same = now-next laws config passes before event lived in
    let addr : s.host.setup.addr ≡ config.addr = ap (λ (u : host.Setup). u.addr) (now-setup config passes before) in
    let told = whole-told s request arrival back sending whole in
    let stays = exchanged-stays laws s arrival back (sending_in s.host) (sent-fits laws config passes before (earlier lived))
    (newest lived) in
    record {
      held = s.device;
      config_is = now-config config passes before;
      words_are = refl;
      answer = answer_in (reply_of s.device (frame_of s.host.setup.addr request) Restart);
      is = ap (λ a. answer_in (reply_of s.device (frame_of a request) Restart)) addr;
      summary = ap (λ (t : State). t.host) same ∙ ap (host_after s.host) told;
      end = ap (λ (t : State). t.end) same ∙ ap (end_after s.host s.end) told;
      words = ap (λ (t : State). t.device.words) same ∙ stays.words;
      entries = share-entries config passes before event _ told;
    }

-- an exchange after readings tells the same
pub was-answered : Below → {config : Config} {passes : ℕ} (request : Message) {before after : List Event} →
    IsLived config passes after → sending_in (now config passes before).host ≡ Some request →
    IsRead config passes request before after → WasAnswered config passes request before after
was-answered laws {config = config} {passes = passes} request {before = before} {after = after} lived sending read =
    let middle = read.readings ++ before in
    let all = subst (IsLived config passes) read.is lived in
    let quiet = quiet-readings laws before read.readings (earlier all) read.beside in
    let one = at-once laws middle request read.arrival read.back all (ap sending_in quiet.host ∙ sending) read.whole in
    subst (WasAnswered config passes request before) (sym read.is) (record {
      held = one.held;
      config_is = one.config_is;
      words_are = one.words_are ∙ quiet.words;
      answer = one.answer;
      is = one.is;
      summary = one.summary ∙ ap (λ h. host_next h (host.Got one.answer)) quiet.host;
      end = one.end ∙ ap (λ h. end_by (step_of h (host.Got one.answer))) quiet.host;
      words = one.words ∙ quiet.words;
      entries = one.entries ∙ ap (λ l. host.Got one.answer ∷ l) quiet.entries;
    })

-- each cell that is there accepts its word
now-accepted : Below → {config : Config} {passes : ℕ} {events : List Event} (cell : Cell) → IsLived config passes events →
    IsCell config.count cell → cell_accepts cell (word_held_after config passes events cell) ≡ true
unfolding now state_of
now-accepted laws {config = config} {passes = passes} {events = events} cell lived here =
    laws.words_have_an_origin.accepted config (life config passes events).past cell lived.sound here

-- what is read of a cell is the converter's word
pub answered-word : Below → {config : Config} {passes : ℕ} {before after : List Event} (cell : Cell) → IsLived config passes before →
    IsCell config.count cell → (a : WasAnswered config passes (cell_read cell) before after) →
    good_word config.addr cell a.answer ≡ Some (word_held_after config passes before cell)
answered-word laws {config = config} {passes = passes} {before = before} cell lived here a =
    let k = sym a.config_is in
    ap (good_word config.addr cell) a.is
    ∙ (ap (λ (c : Config). good_word c.addr cell (answer_in (reply_of a.held (frame_of c.addr (cell_read cell)) Restart))) k
    ∙ (read-word laws a.held cell (subst (λ (c : Config). IsCell c.count cell) k here)
    (ap (λ w. cell_accepts cell (word_at w cell)) a.words_are ∙ now-accepted laws cell lived here)
    (read-fits laws (setup_of config passes) cell here)
    ∙ ap (λ w. Some (word_at w cell)) a.words_are))

-- the cell of a check that is open is there
check-there : Below → {config : Config} {passes : ℕ} {events : List Event} {cell : Cell} {tries : ℕ} → IsLived config passes events →
    (now config passes events).host.stage ≡ Some (Asks (Word cell) tries) → IsCell config.count cell
check-there laws {config = config} {passes = passes} {events = events} {cell = cell} lived stage =
    subst (λ (u : host.Setup). IsCell u.outputs cell) (now-setup config passes events)
    (subst (IsStage (now config passes events).host) stage (now-sound laws config passes events lived).stage).there

-- the cell of an order that is read back is there
pub order-there : Below → {config : Config} {passes : ℕ} {events : List Event} {cell : Cell} {word pass : ℕ}
    → IsLived config passes events →
    (now config passes events).host.stage ≡ Some (Reads cell word pass) → IsCell config.count cell
order-there laws {config = config} {passes = passes} {events = events} {cell = cell} lived stage =
    subst (λ (u : host.Setup). IsCell u.outputs cell) (now-setup config passes events)
    (subst (IsStage (now config passes events).host) stage (now-sound laws config passes events lived).stage).there

-- a check that has its answer
pub check-change : (h : Summary) (cell : Cell) (word tries : ℕ) (bytes : List ℕ) → h.stage ≡ Some (Asks (Word cell) tries) →
    good_word h.setup.addr cell bytes ≡ Some word → change h (host.Got bytes) ≡ ends (marked (idle h) (Good cell word)) Done
check-change h cell word tries bytes stage good =
    let found = from_some word_in (good_payload h.setup.addr (cell_read cell) bytes) word good in
    ap (λ o. request_answered (idle h) o bytes) stage
    ∙ (ap (question_asked (idle h) (Word cell) tries) found.1 ∙ ap (λ n. ends (marked (idle h) (Good cell n)) Done) found.2)

-- an order that is read back and has its answer
pub order-change : (h : Summary) (cell : Cell) (word read pass : ℕ) (bytes : List ℕ) → h.stage ≡ Some (Reads cell word pass) →
    good_word h.setup.addr cell bytes ≡ Some read →
    change h (host.Got bytes) ≡ read_another (marked (idle h) (Good cell read)) cell word pass read
order-change h cell word read pass bytes stage good =
    ap (λ o. request_answered (idle h) o bytes) stage ∙ ap (read_back (idle h) cell word pass) good

-- the host holds words for each place
now-possibles : (config : Config) (passes : ℕ) (events : List Event) → length (now config passes events).host.known.possible ≡ places
unfolding now state_of host_now known_now table
now-possibles config passes events = length-map-range_with_len {X = Possible}
    (λ place. possible_of (marks (setup_of config passes) (life config passes events).entries) (cell_in place)) 0 places

-- any word is possible at each place if nothing is known
any-at : (place : ℕ) → place < places → slice_index_or all_any place Any ≡ Any
unfolding all_any
any-at place below = get_or-replicate places place Any Any below

-- places of cells that differ do
places-differ : Below → (cell other : Cell) → IsCell 8 cell → IsCell 8 other → same_cell cell other ≡ false → place_of other ≢ place_of cell
places-differ laws cell other here there differ e =
    let same : cell ≡ other =
    sym (laws.cells_have_places.back cell here) ∙ (ap cell_in (sym e) ∙ laws.cells_have_places.back other there) in
    let so : same_cell cell other ≡ true = ap (same_cell cell) (sym same) ∙ same_cell-itself cell in
    let bad : true ≡ false = sym so ∙ differ in cc

-- what a good answer makes of what is known
record KnowsOf (known : Known) (cell : Cell) (word : ℕ) (after : Known) : Type 0 where
  confirmed : known_standing after cell ≡ Confirmed word
  alone : known_possible after cell ≡ only word
  others : (other : Cell) → IsCell 8 other → same_cell cell other ≡ false → known_possible after other
      ≡ cond (not (is_possible word (known_possible known cell))) Any (known_possible known other)
  seen : after.seen ≡ (not (is_possible word (known_possible known cell)) || known.seen)

-- what is known after a good answer is as `KnowsOf` says, by its definition
knows-of : Below → (known : Known) (cell : Cell) (word : ℕ) → IsCell 8 cell → length known.possible ≡ places →
    length known.standing ≡ places → KnowsOf known cell word (known_after known (Good cell word))
knows-of laws known cell word here possibles standings =
    record {
      confirmed = get_or-set_same known.standing (place_of cell) (Confirmed word) Unknown (within standings);
      alone = get_or-set_same (cond expected known.possible all_any) (place_of cell) (only word) Any (within (long expected));
      others = λ other there differ.
          get_or-set_other (cond expected known.possible all_any) (place_of cell) (place_of other) (only word) Any
          (places-differ laws cell other here there differ)
          ∙ rest expected other there;
      seen = refl;
    }
  where
    expected : Bool
    expected = is_possible word (known_possible known cell)

    within : {n : ℕ} → n ≡ places → place_of cell < n
    within e = subst (λ m. place_of cell < m) (sym e) (laws.cells_have_places.below cell here)

    long : (b : Bool) → length (cond b known.possible all_any) ≡ places
    long true = possibles
    long false = all_any-length

    rest : (b : Bool) (other : Cell) → IsCell 8 other → slice_index_or (cond b known.possible all_any) (place_of other) Any
        ≡ cond (not b) Any (known_possible known other)
    rest true other there = refl
    rest false other there = any-at (place_of other) (laws.cells_have_places.below other there)

-- a cell was read where the good answer is all that was learned
pub was-read : Below → {config : Config} {passes : ℕ} {before after : List Event} {cell : Cell} → IsLived config passes before →
    IsCell config.count cell → (a : WasAnswered config passes (cell_read cell) before after) →
    (now config passes after).host.known
    ≡ known_after (now config passes before).host.known (Good cell (word_held_after config passes before cell)) →
    WasRead config passes cell before after
was-read laws {config = config} {passes = passes} {before = before} {after = after} {cell = cell} lived here a known =
    let word = word_held_after config passes before cell in
    let kept : word ≡ word_held_after config passes after cell = ap (λ w. word_at w cell) (sym a.words) in
    let k = knows-of laws (now config passes before).host.known cell word (eight config.count cell lived.sound.few here)
    (now-possibles config passes before) (now-standings config passes before) in
    record {
      answer = a.answer;
      good = answered-word laws cell lived here a ∙ ap (λ w. Some w) kept;
      one_frame = a.entries;
      confirmed = ap (λ n. known_standing n cell) known ∙ (k.confirmed ∙ ap (λ w. Confirmed w) kept);
      alone = ap (λ n. known_possible n cell) known ∙ (k.alone ∙ ap only kept);
      others = λ other there differ. ap (λ n. known_possible n other) known ∙ k.others other there differ;
      seen = ap (λ (n : Known). n.seen) known ∙ k.seen;
      kept = a.words;
    }

-- a check is done by one good answer
pub check-done : Below → {config : Config} {passes : ℕ} {before after : List Event} {cell : Cell} {tries : ℕ} →
    IsLived config passes before → IsLived config passes after →
    (now config passes before).host.stage ≡ Some (Asks (Word cell) tries) → IsRead config passes (cell_read cell) before after →
    ReadDone config passes cell before after
unfolding host_next step_of
check-done laws {config = config} {passes = passes} {before = before} {after = after} {cell = cell} {tries = tries} lived all stage read =
    let h = (now config passes before).host in
    let a = was-answered laws (cell_read cell) all (ap (option_map stage_message) stage) read in
    let here = check-there laws lived stage in
    let good = ap (λ (u : host.Setup). good_word u.addr cell a.answer) (now-setup config passes before)
    ∙ answered-word laws cell lived here a in
    let turn = check-change h cell (word_held_after config passes before cell) tries a.answer stage good in
    record {
      read = was-read laws lived here a (ap (λ (t : Summary). t.known) a.summary ∙ ap (λ (t : Change). t.after.known) turn);
      done = a.end ∙ ap (λ (t : Change). end_by t.step) turn;
    }

-- an order whose word the converter holds is done by one good answer
pub order-done : Below → {config : Config} {passes : ℕ} {before after : List Event} {cell : Cell} {word pass : ℕ} →
    IsLived config passes before → IsLived config passes after →
    (now config passes before).host.stage ≡ Some (Reads cell word pass) → IsRead config passes (cell_read cell) before after →
    word_held_after config passes before cell ≡ word → ReadDone config passes cell before after
unfolding host_next step_of
order-done laws {config = config} {passes = passes} {before = before} {after = after} {cell = cell} {word = word} {pass = pass} lived all
    stage read held =
    let h = (now config passes before).host in
    let found = word_held_after config passes before cell in
    let a = was-answered laws (cell_read cell) all (ap (option_map stage_message) stage) read in
    let here = order-there laws lived stage in
    let good = ap (λ (u : host.Setup). good_word u.addr cell a.answer) (now-setup config passes before)
    ∙ answered-word laws cell lived here a in
    let turn = order-change h cell word found pass a.answer stage good
    ∙ cond-true (eqb found word) _ _ (eq-eqb found word held) in
    record {
      read = was-read laws lived here a (ap (λ (t : Summary). t.known) a.summary ∙ ap (λ (t : Change). t.after.known) turn);
      done = a.end ∙ ap (λ (t : Change). end_by t.step) turn;
    }

-- one whose word it doesn't hold writes again, where a pass is left
pub order-again : Below → {config : Config} {passes : ℕ} {before after : List Event} {cell : Cell} {word pass : ℕ} →
    IsLived config passes before → IsLived config passes after →
    (now config passes before).host.stage ≡ Some (Reads cell word pass) → IsRead config passes (cell_read cell) before after →
    word_held_after config passes before cell ≢ word → pass + 1 < passes →
    ((now config passes after).host.stage ≡ Some (Writes cell word (pass + 1)))
    × WasAnswered config passes (cell_read cell) before after
unfolding host_next step_of
order-again laws {config = config} {passes = passes} {before = before} {after = after} {cell = cell} {word = word} {pass = pass} lived all
    stage read differs left =
    let h = (now config passes before).host in
    let found = word_held_after config passes before cell in
    let a = was-answered laws (cell_read cell) all (ap (option_map stage_message) stage) read in
    let here = order-there laws lived stage in
    let more : pass + 1 ≢ h.setup.passes = λ e.
    (let same : pass + 1 ≡ passes = e ∙ ap (λ (u : host.Setup). u.passes) (now-setup config passes before) in
    absurd (omega (arith, left, same))) in
    let good = ap (λ (u : host.Setup). good_word u.addr cell a.answer) (now-setup config passes before)
    ∙ answered-word laws cell lived here a in
    let turn = order-change h cell word found pass a.answer stage good
    ∙ (cond-false (eqb found word) _ _ (ne_eqb found word differs)
    ∙ cond-false (eqb (pass + 1) h.setup.passes) _ _ (ne_eqb (pass + 1) h.setup.passes more)) in
    (ap (λ (t : Summary). t.stage) a.summary ∙ ap (λ (t : Change). t.after.stage) turn, a)

-- an order whose word it doesn't hold differs in the last pass
pub order-last : Below → {config : Config} {passes : ℕ} {before after : List Event} {cell : Cell} {word pass : ℕ} →
    IsLived config passes before → IsLived config passes after →
    (now config passes before).host.stage ≡ Some (Reads cell word pass) → IsRead config passes (cell_read cell) before after →
    word_held_after config passes before cell ≢ word → pass + 1 ≡ passes →
    WasRead config passes cell before after
    × ((now config passes after).end ≡ Some (Differs (word_held_after config passes before cell)))
unfolding host_next step_of
order-last laws {config = config} {passes = passes} {before = before} {after = after} {cell = cell} {word = word} {pass = pass} lived all
    stage read differs last =
    let h = (now config passes before).host in
    let found = word_held_after config passes before cell in
    let a = was-answered laws (cell_read cell) all (ap (option_map stage_message) stage) read in
    let here = order-there laws lived stage in
    let same : pass + 1 ≡ h.setup.passes = last ∙ sym (ap (λ (u : host.Setup). u.passes) (now-setup config passes before)) in
    let good = ap (λ (u : host.Setup). good_word u.addr cell a.answer) (now-setup config passes before)
    ∙ answered-word laws cell lived here a in
    let turn = order-change h cell word found pass a.answer stage good
    ∙ (cond-false (eqb found word) _ _ (ne_eqb found word differs)
    ∙ cond-true (eqb (pass + 1) h.setup.passes) _ _ (eq-eqb (pass + 1) h.setup.passes same)) in (
      was-read laws lived here a (ap (λ (t : Summary). t.known) a.summary ∙ ap (λ (t : Change). t.after.known) turn),
      a.end ∙ ap (λ (t : Change). end_by t.step) turn,
    )

-- what came before a frame that nothing disturbs was lived through
pub read-lived : {config : Config} {passes : ℕ} {request : Message} {before after : List Event} → IsLived config passes after →
    IsRead config passes request before after → IsLived config passes before
read-lived {config = config} {passes = passes} {before = before} all read =
    lived-before config passes (Exchange read.arrival read.back ∷ read.readings) before (subst (IsLived config passes) read.is all)

-- A learn whose requests nothing disturbs.

-- the output of a learn that is open is there
learn-there : Below → {config : Config} {passes : ℕ} {events : List Event} {output tries : ℕ} → IsLived config passes events →
    (now config passes events).host.stage ≡ Some (Asks (Mode output) tries) → output < config.count
learn-there laws {config = config} {passes = passes} {events = events} {output = output} lived stage =
    subst (λ (u : host.Setup). output < u.outputs) (now-setup config passes events)
    (subst (IsStage (now config passes events).host) stage (now-sound laws config passes events lived).stage).there

-- also where it asks for the coefficients
asks-there : Below → {config : Config} {passes : ℕ} {events : List Event} {output tries : ℕ} → IsLived config passes events →
    (now config passes events).host.stage ≡ Some (Asks (Coefficients output) tries) → output < config.count
asks-there laws {config = config} {passes = passes} {events = events} {output = output} lived stage =
    subst (λ (u : host.Setup). output < u.outputs) (now-setup config passes events)
    (subst (IsStage (now config passes events).host) stage (now-sound laws config passes events lived).stage).there

-- what a good answer to the read of VOUT_MODE is
record GoodMode (config : Config) (output : ℕ) (answer : List ℕ) : Type 0 where
  payload : List ℕ
  good : good_payload config.addr (mode_read output) answer ≡ Some payload
  byte : word_in payload ≡ mode_for config output

-- it comes of a whole exchange
mode-answer : Below → {config : Config} {passes : ℕ} {before after : List Event} {output : ℕ} → IsLived config passes before →
    IsSpelled config → output < config.count → fits_layout (mode_read output) ≡ true →
    (a : WasAnswered config passes (mode_read output) before after) → GoodMode config output a.answer
mode-answer laws {config = config} {output = output} lived spelled below fits a =
    subst (λ (k : Config). GoodMode k output a.answer) a.config_is
    (let held = a.held in
    let addr = held.config.addr in
    let there : output < held.config.count = subst (λ (k : Config). output < k.count) (sym a.config_is) below in
    let small : output < 8 = (let few = lived.sound.few in omega (arith, below, few)) in
    let is : a.answer ≡ answer_in (reply_of held (frame_of addr (mode_read output)) Restart) = a.is
    ∙ ap (λ (k : Config). answer_in (reply_of held (frame_of k.addr (mode_read output)) Restart)) (sym a.config_is) in
    let found = laws.reads_are_answered.mode held output (frame_of addr (mode_read output)) (is_request addr (mode_read output) refl fits)
    there in
    let payload = register_bytes command.vout_mode (mode_for held.config output) in
    let good : good_payload addr (mode_read output) a.answer ≡ Some payload =
    ap (good_payload addr (mode_read output)) (is ∙ ap answer_in found.1)
    ∙ good-answer laws addr (mode_read output) payload found.0 found.2 in
    record {
      payload = payload;
      good = good;
      byte = mode-true laws held output (subst IsSpelled (sym a.config_is) spelled) (small, there) fits (λ h. is) good;
    })

-- the format of an output that was learned
learned-so : Below → {config : Config} {passes : ℕ} {before after : List Event} {output : ℕ} (shape : Shape) (bytes : List ℕ) →
    IsLived config passes before → output < config.count → shape ≡ shape_for config output →
    (now config passes after).host ≡ host_next (now config passes before).host (host.Got bytes) →
    (now config passes after).end ≡ end_by (step_of (now config passes before).host (host.Got bytes)) →
    change (now config passes before).host (host.Got bytes) ≡ learned (idle (now config passes before).host) output (Some shape) →
    WasLearned config passes output after
unfolding host_next step_of
learned-so laws {config = config} {passes = passes} {before = before} {output = output} shape bytes lived below is summary end turn =
    let h = (now config passes before).host in
    let long = (now-sound laws config passes before lived).formats in
    record {
      learned = end ∙ ap (λ (t : Change). end_by t.step) turn;
      format = ap (λ (t : Summary). format_at t output) summary
          ∙ (ap (λ (t : Change). format_at t.after output) turn
          ∙ (get_or-set_same h.formats output (Some shape) None (let few = lived.sound.few in omega (arith, long, below, few))
          ∙ ap (λ (s : Shape). Some s) is));
    }

-- VOUT_MODE is DIRECT, and the coefficients are asked for
abbrev AsksOn : Config → ℕ → ℕ → List Event → Type 0
AsksOn config passes output after = (mode_of (mode_for config output) ≡ Ok Direct)
    × (stage_after config passes after ≡ Some (Asks (Coefficients output) 0))

-- a learn that read VOUT_MODE has learned a format, or asks on
abbrev pub LearnsMode : Config → ℕ → ℕ → List Event → Type 0
LearnsMode config passes output after = ((mode_of (mode_for config output) ≢ Ok Direct) × WasLearned config passes output after)
    ⊎ AsksOn config passes output after

-- a learn that reads VOUT_MODE
pub mode-learned : Below → {config : Config} {passes : ℕ} {before after : List Event} {output tries : ℕ} →
    IsLived config passes before → IsLived config passes after → IsSpelled config →
    (now config passes before).host.stage ≡ Some (Asks (Mode output) tries) → IsRead config passes (mode_read output) before after →
    LearnsMode config passes output after
unfolding host_next
mode-learned laws {config = config} {passes = passes} {before = before} {after = after} {output = output} {tries = tries} lived all spelled
    stage read = go (mode_of (mode_for config output)) refl
  where
    h : Summary
    h = (now config passes before).host

    below : output < config.count
    below = learn-there laws lived stage

    a : WasAnswered config passes (mode_read output) before after
    a = was-answered laws (mode_read output) all (ap (option_map stage_message) stage) read

    answer : GoodMode config output a.answer
    answer = mode-answer laws lived spelled below
        (sent-fits laws config passes before lived (mode_read output) (ap (option_map stage_message) stage)) a

    turn : change (now config passes before).host (host.Got a.answer)
        ≡ mode_taken (idle (now config passes before).host) output (mode_of (mode_for config output))
    turn = ap (λ o. request_answered (idle h) o a.answer) stage
        ∙ (ap (λ (u : host.Setup). question_asked (idle h) (Mode output) tries (good_payload u.addr (mode_read output) a.answer))
        (now-setup config passes before)
        ∙ (ap (question_asked (idle h) (Mode output) tries) answer.good ∙ ap (λ n. mode_taken (idle h) output (mode_of n)) answer.byte))

    go : (mode : Result VoutMode TableFault) → mode_of (mode_for config output) ≡ mode → LearnsMode config passes output after
    go (Err fault) e = absurd (none-some (shape_for config output)
        (sym (ap (λ r. option_and_then (λ (m : VoutMode). result_ok (shape_in m config.coefficients)) (result_ok r)) e)
        ∙ lived.sound.formats output below))
    go (Ok (Linear exponent)) e =
        inl (
          (λ direct. let bad : Ok (Linear exponent) ≡ Ok Direct = sym e ∙ direct in cc),
          learned-so laws (InUlinear16 exponent) a.answer lived below
              (mode-shape config output (Linear exponent) (InUlinear16 exponent) (lived.sound.formats output below) e refl)
              a.summary a.end (turn ∙ ap (mode_taken (idle h) output) e),
        )
    go (Ok Direct) e = inr (
      e,
      ap (λ (t : Summary). t.stage) a.summary ∙ ap (λ (t : Change). t.after.stage) (turn ∙ ap (mode_taken (idle h) output) e),
    )

-- what a good answer to the read of the coefficients is
record GoodCoefficients (config : Config) (answer : List ℕ) : Type 0 where
  payload : List ℕ
  good : good_payload config.addr coefficients_read answer ≡ Some payload
  numbers : coefficients_of payload ≡ config.coefficients

-- it comes of a whole exchange where some output is DIRECT
coefficients-answer : Below → {config : Config} {passes : ℕ} {before after : List Event} (output : ℕ) → IsSpelled config →
    (output < config.count) × (mode_of (mode_for config output) ≡ Ok Direct) → fits_layout coefficients_read ≡ true →
    (a : WasAnswered config passes coefficients_read before after) → GoodCoefficients config a.answer
coefficients-answer laws {config = config} {passes = passes} output spelled there fits a =
    subst (λ (k : Config). GoodCoefficients k a.answer) a.config_is
    (let held = a.held in
    let addr = held.config.addr in
    let here = subst (λ (k : Config). (output < k.count) × (mode_of (mode_for k output) ≡ Ok Direct)) (sym a.config_is) there in
    let is : a.answer ≡ answer_in (reply_of held (frame_of addr coefficients_read) Restart) = a.is
    ∙ ap (λ (k : Config). answer_in (reply_of held (frame_of k.addr coefficients_read) Restart)) (sym a.config_is) in
    let found = laws.reads_are_answered.coefficients held (frame_of addr coefficients_read) (is_request addr coefficients_read refl fits)
    (direct-found held.config.starts held.config.count output here.0 here.1) in
    let payload = coefficient_bytes held.config.coefficients in
    let good : good_payload addr coefficients_read a.answer ≡ Some payload =
    ap (good_payload addr coefficients_read) (is ∙ ap answer_in found.1)
    ∙ good-answer laws addr coefficients_read payload found.0 found.2 in
    record {
      payload = payload;
      good = good;
      numbers = coefficients-true laws held (setup_of config passes) output (subst IsSpelled (sym a.config_is) spelled) here (λ h. is) good;
    })

-- a learn that reads the coefficients
pub coefficients-learned : Below → {config : Config} {passes : ℕ} {before after : List Event} {output tries : ℕ} →
    IsLived config passes before → IsLived config passes after → IsSpelled config →
    (now config passes before).host.stage ≡ Some (Asks (Coefficients output) tries) →
    IsRead config passes coefficients_read before after → WasLearned config passes output after
coefficients-learned laws {config = config} {passes = passes} {before = before} {after = after} {output = output} {tries = tries} lived all
    spelled stage read =
    learned-so laws (shape_for config output) a.answer lived below refl a.summary a.end
    (ap (λ o. request_answered (idle h) o a.answer) stage
    ∙ (ap (λ (u : host.Setup). question_asked (idle h) (Coefficients output) tries (good_payload u.addr coefficients_read a.answer))
    (now-setup config passes before)
    ∙ (ap (question_asked (idle h) (Coefficients output) tries) answer.good
    ∙ ap (learned (idle h) output) (ap (λ (c : AnyCoefficients). result_ok (shape_in Direct c)) answer.numbers ∙ shape))))
  where
    h : Summary
    h = (now config passes before).host

    below : output < config.count
    below = asks-there laws lived stage

    direct : mode_of (mode_for config output) ≡ Ok Direct
    direct = subst (AsksSo config) stage (true-host laws config passes before lived spelled).asks

    shape : result_ok (shape_in Direct config.coefficients) ≡ Some (shape_for config output)
    shape = sym (ap (λ r. option_and_then (λ (m : VoutMode). result_ok (shape_in m config.coefficients)) (result_ok r)) direct)
        ∙ lived.sound.formats output below

    a : WasAnswered config passes coefficients_read before after
    a = was-answered laws coefficients_read all (ap (option_map stage_message) stage) read

    answer : GoodCoefficients config a.answer
    answer = coefficients-answer laws output spelled (below, direct)
        (sent-fits laws config passes before lived coefficients_read (ap (option_map stage_message) stage)) a

-- The turns of an order, and of a command, in a pass that nothing disturbs.

-- what holds of a world while the order that was open is
fixed-at : Below → {config : Config} {passes : ℕ} {before : List Event} {cell : Cell} {word pass : ℕ} →
    IsLived config passes before → IsOrdering (now config passes before).host cell word pass → (events : List Event) →
    Fixed (now config passes events) cell word
fixed-at laws {config = config} {passes = passes} {before = before} {cell = cell} {word = word} lived is events =
    let setup = setup_of config passes in
    let same = sym (now-config config passes events) in
    let there : IsCell config.count cell = subst (λ (u : host.Setup). IsCell u.outputs cell) (now-setup config passes before) is.there in
    record {
      addr = ap (λ (u : host.Setup). u.addr) (now-setup config passes events) ∙ ap (λ (k : Config). k.addr) same;
      there = subst (λ (k : Config). IsCell k.count cell) same there;
      few = subst (λ (k : Config). k.count ≤ 8) same lived.sound.few;
      accepted = is.accepted;
      write_fits = write-fits laws setup cell word there is.accepted;
      read_fits = read-fits laws setup cell there;
      are = now-are laws config passes events;
    }

-- the write of an order is being sent after these events, and was heard whole or not
record IsSending (config : Config) (passes : ℕ) (cell : Cell) (word pass : ℕ) (before events : List Event) (whole : Bool) : Type 0 where
  sends : Sends (now config passes events) cell word pass whole
  entries : (life config passes events).entries ≡ (life config passes before).entries

-- one more event beside it
more-beside : Below → {config : Config} {passes : ℕ} {before events : List Event} {cell : Cell} {word pass : ℕ} {whole : Bool}
    (event : Event) → Fixed (now config passes events) cell word → IsLived config passes (event ∷ events) → is_beside event ≡ true →
    IsSending config passes cell word pass before events whole →
    IsSending config passes cell word pass before (event ∷ events)
    (delivers_whole (frame_of config.addr (cell_write cell word)) event || whole)
more-beside laws {config = config} {passes = passes} {before = before} {events = events} {cell = cell} {word = word} {pass = pass}
    {whole = whole} (Deliver arrival) fixed lived is so_far = record {
      sends = subst (λ (s : State). Sends s cell word pass (is_whole (frame_of config.addr (cell_write cell word)) arrival || whole))
          (sym (now-next laws config passes events (Deliver arrival) lived))
          (subst (λ (k : Config). Sends (next (now config passes events) (Deliver arrival)) cell word pass
          (is_whole (frame_of k.addr (cell_write cell word)) arrival || whole))
          (now-config config passes events) (deliver-sends laws arrival fixed so_far.sends (newest lived)));
      entries = deliver-entries config passes events arrival ∙ so_far.entries;
    }
more-beside laws {config = config} {passes = passes} {before = before} {events = events} {cell = cell} {word = word} {pass = pass}
    {whole = whole} (Reading output code value) fixed lived is so_far =
    let quiet = quiet-reading laws events (Reading output code value) lived refl in
    record {
      sends = record {
        stage = ap (λ (h : Summary). h.stage) quiet.host ∙ so_far.sends.stage;
        allowed = ap (λ (w : Words). is_allowed (word_at w Protect) (cell_code cell)) quiet.words ∙ so_far.sends.allowed;
        held = λ h. ap (λ (w : Words). word_at w cell) quiet.words ∙ so_far.sends.held h;
      };
      entries = quiet.entries ∙ so_far.entries;
    }
more-beside laws event fixed lived is so_far = cc

-- events beside it, one after another
all-beside : Below → {config : Config} {passes : ℕ} (before : List Event) {cell : Cell} {word pass : ℕ} (between : List Event) →
    ((events : List Event) → Fixed (now config passes events) cell word) →
    IsLived config passes (between ++ before) → list_all is_beside between ≡ true →
    IsSending config passes cell word pass before before false →
    IsSending config passes cell word pass before (between ++ before)
    (list_any (delivers_whole (frame_of config.addr (cell_write cell word))) between)
all-beside laws before [] fixed lived all first = first
all-beside laws before (event ∷ between) fixed lived all first =
    let parts = and_parts (is_beside event) (list_all is_beside between) all in
    more-beside laws event (fixed (between ++ before)) lived parts.0
    (all-beside laws before between fixed (earlier lived) parts.1 first)

-- the end of the write begins its read
pub finish-reads : (s : State) (acked : Bool) (cell : Cell) (word pass : ℕ) → s.host.stage ≡ Some (Writes cell word pass) →
    (next s (Finish acked)).host.stage ≡ Some (Reads cell word pass)
unfolding next host_next
finish-reads s acked cell word pass stage = ap (λ o. (finished (idle s.host) o acked).after.stage) stage

-- after a write that was heard whole the host reads the cell, which has the word
pub record IsReading (config : Config) (passes : ℕ) (cell : Cell) (word pass : ℕ) (acked : Bool) (before events : List Event) : Type 0 where
  pub stage : (now config passes events).host.stage ≡ Some (Reads cell word pass)
  pub held : word_held_after config passes events cell ≡ word
  pub entries : (life config passes events).entries ≡ host.Finished acked ∷ (life config passes before).entries

-- the host reads the cell, which has the word, after an allowed write of it was heard whole
pub written-turn : Below → {config : Config} {passes : ℕ} {before events : List Event} {cell : Cell} {word pass : ℕ} {acked : Bool} →
    IsLived config passes before → IsLived config passes events →
    (now config passes before).host.stage ≡ Some (Writes cell word pass) →
    is_allowed (word_held_after config passes before Protect) (cell_code cell) ≡ true →
    IsWritten (frame_of config.addr (cell_write cell word)) acked before events →
    IsReading config passes cell word pass acked before events
unfolding next
written-turn laws {config = config} {passes = passes} {before = before} {events = events} {cell = cell} {word = word} {pass = pass}
    {acked = acked} lived all stage allowed w =
    let middle = w.between ++ before in
    let whole = subst (IsLived config passes) w.is all in
    let is : IsOrdering (now config passes before).host cell word pass =
    subst (IsStage (now config passes before).host) stage (now-sound laws config passes before lived).stage in
    let so = all-beside laws before w.between (fixed-at laws lived is) (earlier whole) w.beside (record {
      sends = record { stage = stage; allowed = allowed; held = λ h. cc };
      entries = refl;
    }) in
    let same = now-next laws config passes middle (Finish acked) whole in
    subst (IsReading config passes cell word pass acked before) (sym w.is) (record {
      stage = ap (λ (t : State). t.host.stage) same ∙ finish-reads (now config passes middle) acked cell word pass so.sends.stage;
      held = ap (λ (t : State). word_at t.device.words cell) same ∙ so.sends.held w.whole;
      entries = share-entries config passes middle (Finish acked) (Some (host.Finished acked)) refl
          ∙ ap (λ l. host.Finished acked ∷ l) so.entries;
    })

-- an order goes through in a pass that nothing disturbs, whichever it is
pub pass-done : Below → {config : Config} {passes : ℕ} {before middle after : List Event} {cell : Cell} {word pass : ℕ} {acked : Bool} →
    IsLived config passes before → IsLived config passes middle → IsLived config passes after →
    (now config passes before).host.stage ≡ Some (Writes cell word pass) →
    is_allowed (word_held_after config passes before Protect) (cell_code cell) ≡ true →
    IsWritten (frame_of config.addr (cell_write cell word)) acked before middle →
    IsRead config passes (cell_read cell) middle after → WentInPass config passes cell word acked before after
pass-done laws {config = config} {passes = passes} {after = after} {cell = cell} lived half all stage allowed w r =
    let turn = written-turn laws lived half stage allowed w in
    let e = order-done laws half all turn.stage r turn.held in
    let held : word_held_after config passes after cell ≡ _ = ap (λ (x : Words). word_at x cell) e.read.kept ∙ turn.held in
    record {
      answer = e.read.answer;
      good = e.read.good ∙ ap (λ n. Some n) held;
      two_frames = e.read.one_frame ∙ ap (λ l. host.Got e.read.answer ∷ l) turn.entries;
      done = e.done;
      confirmed = e.read.confirmed ∙ ap (λ n. Confirmed n) held;
      alone = e.read.alone ∙ ap only held;
      held = held;
    }

-- the next pass does an order whose read gave another word
pub three-done : Below → {config : Config} {passes : ℕ} {before first middle after : List Event} {cell : Cell} {word pass : ℕ}
    {acked : Bool} → IsLived config passes before → IsLived config passes first → IsLived config passes middle →
    IsLived config passes after →
    (now config passes before).host.stage ≡ Some (Reads cell word pass) →
    (word_held_after config passes before cell ≢ word) × (pass + 1 < passes) →
    is_allowed (word_held_after config passes before Protect) (cell_code cell) ≡ true →
    IsRead config passes (cell_read cell) before first →
    IsWritten (frame_of config.addr (cell_write cell word)) acked first middle →
    IsRead config passes (cell_read cell) middle after →
    WentInPass config passes cell word acked first after
    × ((answer : List ℕ) × ((life config passes first).entries ≡ host.Got answer ∷ (life config passes before).entries))
three-done laws {cell = cell} lived one half all stage (differs, left) allowed read w r =
    let again = order-again laws lived one stage read differs left in (
      pass-done laws one half all again.0 (ap (λ (x : Words). is_allowed (word_at x Protect) (cell_code cell)) again.1.words ∙ allowed) w r,
      (again.1.answer, again.1.entries),
    )

-- what leaves the host
pub record LeavesHost (config : Config) (passes : ℕ) (before events : List Event) : Type 0 where
  pub summary : (now config passes events).host ≡ (now config passes before).host
  pub entries : (life config passes events).entries ≡ (life config passes before).entries

-- one event beside a write
host-beside : Below → {config : Config} {passes : ℕ} (events : List Event) (event : Event) → IsLived config passes (event ∷ events) →
    is_beside event ≡ true → LeavesHost config passes events (event ∷ events)
host-beside laws {config = config} {passes = passes} events (Deliver arrival) lived is = record {
  summary = ap (λ (s : State). s.host) (now-next laws config passes events (Deliver arrival) lived)
      ∙ next-deliver-host (now config passes events) arrival;
  entries = deliver-entries config passes events arrival;
}
host-beside laws events (Reading output code value) lived is =
    let quiet = quiet-reading laws events (Reading output code value) lived refl in
    record { summary = quiet.host; entries = quiet.entries }
host-beside laws events event lived is = cc

-- events beside it, one after another
pub hosts-beside : Below → {config : Config} {passes : ℕ} (before between : List Event) → IsLived config passes (between ++ before) →
    list_all is_beside between ≡ true → LeavesHost config passes before (between ++ before)
hosts-beside laws before [] lived all = record { summary = refl; entries = refl }
hosts-beside laws before (event ∷ between) lived all =
    let parts = and_parts (is_beside event) (list_all is_beside between) all in
    let so_far = hosts-beside laws before between (earlier lived) parts.1 in
    let one = host-beside laws (between ++ before) event lived parts.0 in
    record { summary = one.summary ∙ so_far.summary; entries = one.entries ∙ so_far.entries }

-- a command that is acknowledged is done
abbrev SentDone : Config → ℕ → List Event → List Event → Type 0
SentDone config passes before after = ((now config passes after).end ≡ Some Done)
    × ((life config passes after).entries ≡ host.Finished true ∷ (life config passes before).entries)

-- the step of an acknowledged write of a command ends the command Done
next-sent : (s : State) (command : Command) (tries : ℕ) → s.host.stage ≡ Some (SendsCommand command tries) →
    (next s (Finish true)).end ≡ Some Done
unfolding next step_of
next-sent s command tries stage = ap (λ o. end_by (finished (idle s.host) o true).step) stage

-- a command is done by its write if that is acknowledged
pub send-done : Below → {config : Config} {passes : ℕ} {frame : List ℕ} {before after : List Event} {command : Command} {tries : ℕ} →
    IsLived config passes after → (now config passes before).host.stage ≡ Some (SendsCommand command tries) →
    IsWritten frame true before after → SentDone config passes before after
send-done laws {config = config} {passes = passes} {before = before} {command = command} {tries = tries} all stage w =
    let middle = w.between ++ before in
    let whole = subst (IsLived config passes) w.is all in
    let so = hosts-beside laws before w.between (earlier whole) w.beside in
    subst (SentDone config passes before) (sym w.is) (
      ap (λ (t : State). t.end) (now-next laws config passes middle (Finish true) whole)
          ∙ next-sent (now config passes middle) command tries (ap (λ (h : Summary). h.stage) so.summary ∙ stage),
      share-entries config passes middle (Finish true) (Some (host.Finished true)) refl ∙ ap (λ l. host.Finished true ∷ l) so.entries,
    )

-- what came before such a write was lived through
pub written-lived : {config : Config} {passes : ℕ} {frame : List ℕ} {acked : Bool} {before events : List Event} →
    IsLived config passes events → IsWritten frame acked before events → IsLived config passes before
written-lived {config = config} {passes = passes} {acked = acked} {before = before} all w =
    lived-before config passes (Finish acked ∷ w.between) before (subst (IsLived config passes) w.is all)

-- What a write that comes whole makes of an open job, allowed by WRITE_PROTECT or not, and acknowledged or not.

-- ---- the read of an order

-- an order whose word the converter doesn't hold is written again where a pass is left
pub again-done : Below → {config : Config} {passes : ℕ} {before after : List Event} {cell : Cell} {word pass : ℕ} →
    IsLived config passes before → IsLived config passes after →
    (now config passes before).host.stage ≡ Some (Reads cell word pass) → IsRead config passes (cell_read cell) before after →
    word_held_after config passes before cell ≢ word → pass + 1 < passes → WritesAgain config passes cell word pass before after
again-done laws {cell = cell} lived all stage read differs left =
    let again = order-again laws lived all stage read differs left in
    record {
      answer = again.1.answer;
      good = answered-word laws cell lived (order-there laws lived stage) again.1;
      one_frame = again.1.entries;
      stage = again.0;
      kept = again.1.words;
    }

-- ---- the write of an order

-- a delivery of an order's write whose code WRITE_PROTECT forbids moves no word
deliver-keeps : Below → {config : Config} {passes : ℕ} {events : List Event} {cell : Cell} {word pass : ℕ} (arrival : Arrival) →
    IsLived config passes (Deliver arrival ∷ events) → (now config passes events).host.stage ≡ Some (Writes cell word pass) →
    is_allowed (word_held_after config passes events Protect) (cell_code cell) ≡ false →
    words_at config passes (Deliver arrival ∷ events) ≡ words_at config passes events
deliver-keeps laws {config = config} {passes = passes} {events = events} {cell = cell} {word = word} arrival lived stage forbidden =
    by (went laws config passes events (Deliver arrival) lived)
  where
    opened : open_pending config passes events ≡ Some (pending.Order cell word)
    opened = open_pending-is config passes events ∙ ap stage_pending stage

    none : (o : Option PendingJob) → taken_at config passes events (Deliver arrival) ≡ o → o ≡ None
    none None e = refl
    none (Some job) e =
        let t = takes-by config passes events arrival job e in
        let same : Some job ≡ Some (pending.Order cell word) = sym t.opened ∙ opened in
        let is : job ≡ pending.Order cell word = cc in
        absurd (false≢true (sym forbidden
        ∙ subst (λ j. is_allowed (word_held_after config passes events Protect) (pending_code j) ≡ true) is t.allowed))

    by : Went config passes events (Deliver arrival) (now config passes events).device
        (now config passes (Deliver arrival ∷ events)).device
        → words_at config passes (Deliver arrival ∷ events) ≡ words_at config passes events
    by (inl back) = (let no : Deliver arrival ≡ RestartDevice = back.0 in cc)
    by (inr took) = took.words
        ∙ ap (words_taken (words_at config passes events) (store_at config passes events))
        (none (taken_at config passes events (Deliver arrival)) refl)

-- an event beside such a write moves no word
beside-keeps : Below → {config : Config} {passes : ℕ} {events : List Event} {cell : Cell} {word pass : ℕ} (event : Event) →
    IsLived config passes (event ∷ events) → is_beside event ≡ true → (now config passes events).host.stage ≡ Some (Writes cell word pass) →
    is_allowed (word_held_after config passes events Protect) (cell_code cell) ≡ false →
    words_at config passes (event ∷ events) ≡ words_at config passes events
beside-keeps laws (Deliver arrival) lived is stage forbidden = deliver-keeps laws arrival lived stage forbidden
beside-keeps laws {events = events} (Reading output code value) lived is stage forbidden =
    (quiet-reading laws events (Reading output code value) lived refl).words
beside-keeps laws event lived is stage forbidden = cc

-- several events beside it move none either
all-keep : Below → {config : Config} {passes : ℕ} (before : List Event) {cell : Cell} {word pass : ℕ} (between : List Event) →
    IsLived config passes (between ++ before) → list_all is_beside between ≡ true →
    (now config passes before).host.stage ≡ Some (Writes cell word pass) →
    is_allowed (word_held_after config passes before Protect) (cell_code cell) ≡ false →
    words_at config passes (between ++ before) ≡ words_at config passes before
all-keep laws before [] lived all stage forbidden = refl
all-keep laws before {cell = cell} (event ∷ between) lived all stage forbidden =
    let parts = and_parts (is_beside event) (list_all is_beside between) all in
    let so_far = all-keep laws before between (earlier lived) parts.1 stage forbidden in
    let host = hosts-beside laws before between (earlier lived) parts.1 in
    beside-keeps laws event lived parts.0 (ap (λ (h : Summary). h.stage) host.summary ∙ stage)
    (ap (λ (w : Words). is_allowed (word_at w Protect) (cell_code cell)) so_far ∙ forbidden) ∙ so_far

-- the write of an order that comes whole, allowed or not
pub write-done : Below → {config : Config} {passes : ℕ} {before after : List Event} {cell : Cell} {word pass : ℕ} {acked : Bool} →
    IsLived config passes before → IsLived config passes after →
    (now config passes before).host.stage ≡ Some (Writes cell word pass) →
    IsWritten (frame_of config.addr (cell_write cell word)) acked before after →
    WasWritten config passes cell word pass acked before after
unfolding next
write-done laws {config = config} {passes = passes} {before = before} {cell = cell} {word = word} {pass = pass} {acked = acked} lived all
    stage w =
    let middle = w.between ++ before in
    let whole = subst (IsLived config passes) w.is all in
    let so = hosts-beside laws before w.between (earlier whole) w.beside in
    let same = now-next laws config passes middle (Finish acked) whole in
    subst (WasWritten config passes cell word pass acked before) (sym w.is) (record {
      stage = ap (λ (t : State). t.host.stage) same
          ∙ finish-reads (now config passes middle) acked cell word pass (ap (λ (h : Summary). h.stage) so.summary ∙ stage);
      one_frame = share-entries config passes middle (Finish acked) (Some (host.Finished acked)) refl
          ∙ ap (λ l. host.Finished acked ∷ l) so.entries;
      taken = λ allowed. subst (λ es. word_held_after config passes es cell ≡ word) w.is
          (written-turn laws lived all stage allowed w).held;
      kept = λ forbidden. ap (λ (t : State). t.device.words) same
          ∙ all-keep laws before w.between (earlier whole) w.beside stage forbidden;
    })

-- ---- commands that aren't acknowledged

-- what the host makes of a command that isn't acknowledged
abbrev sent_again : Summary → Command → ℕ → Change
sent_again h command tries = finished (idle h) (Some (SendsCommand command tries)) false

-- its write is over, and it wasn't acknowledged
record IsUnacked (config : Config) (passes : ℕ) (command : Command) (tries : ℕ) (before after : List Event) : Type 0 where
  summary : (now config passes after).host ≡ (sent_again (now config passes before).host command tries).after
  end : (now config passes after).end ≡ end_by (sent_again (now config passes before).host command tries).step
  entries : (life config passes after).entries ≡ host.Finished false ∷ (life config passes before).entries

-- the host is told of it
unacked-turn : Below → {config : Config} {passes : ℕ} {frame : List ℕ} {before after : List Event} {command : Command} {tries : ℕ} →
    IsLived config passes after → (now config passes before).host.stage ≡ Some (SendsCommand command tries) →
    IsWritten frame false before after → IsUnacked config passes command tries before after
unfolding next step_of host_next
unacked-turn laws {config = config} {passes = passes} {before = before} {command = command} {tries = tries} all stage w =
    let middle = w.between ++ before in
    let whole = subst (IsLived config passes) w.is all in
    let so = hosts-beside laws before w.between (earlier whole) w.beside in
    let same = now-next laws config passes middle (Finish false) whole in
    let turn : finished (idle (now config passes middle).host) (now config passes middle).host.stage false
    ≡ sent_again (now config passes before).host command tries = ap (λ (h : Summary). finished (idle h) h.stage false) so.summary
    ∙ ap (λ o. finished (idle (now config passes before).host) o false) stage in
    subst (IsUnacked config passes command tries before) (sym w.is) (record {
      summary = ap (λ (t : State). t.host) same ∙ ap (λ (c : Change). c.after) turn;
      end = ap (λ (t : State). t.end) same ∙ ap (λ (c : Change). end_by c.step) turn;
      entries = share-entries config passes middle (Finish false) (Some (host.Finished false)) refl
          ∙ ap (λ l. host.Finished false ∷ l) so.entries;
    })

-- a command that isn't acknowledged is sent again
pub resent : Below → {config : Config} {passes : ℕ} {frame : List ℕ} {before after : List Event} {command : Command} {tries : ℕ} →
    IsLived config passes after → (now config passes before).host.stage ≡ Some (SendsCommand command tries) → tries + 1 < passes →
    IsWritten frame false before after →
    ((now config passes after).host.stage ≡ Some (SendsCommand command (tries + 1)))
    × ((life config passes after).entries ≡ host.Finished false ∷ (life config passes before).entries)
resent laws {config = config} {passes = passes} {before = before} {command = command} {tries = tries} all stage left w =
    let h = (now config passes before).host in
    let u = unacked-turn laws all stage w in
    let more : tries + 1 ≢ h.setup.passes = λ e.
    (let same : tries + 1 ≡ passes = e ∙ ap (λ (u : host.Setup). u.passes) (now-setup config passes before) in
    absurd (omega (arith, left, same))) in (
      ap (λ (t : Summary). t.stage) u.summary
          ∙ ap (λ (c : Change). c.after.stage) (cond-false (eqb (tries + 1) h.setup.passes) _ _ (ne_eqb (tries + 1) h.setup.passes more)),
      u.entries,
    )

-- after the last try its end is unknown
pub unacked-end : Below → {config : Config} {passes : ℕ} {frame : List ℕ} {before after : List Event} {command : Command} {tries : ℕ} →
    IsLived config passes after → (now config passes before).host.stage ≡ Some (SendsCommand command tries) → tries + 1 ≡ passes →
    IsWritten frame false before after →
    ((now config passes after).end ≡ Some JobEndUnknown)
    × ((life config passes after).entries ≡ host.Finished false ∷ (life config passes before).entries)
unacked-end laws {config = config} {passes = passes} {before = before} {command = command} {tries = tries} all stage last w =
    let h = (now config passes before).host in
    let u = unacked-turn laws all stage w in
    let same : tries + 1 ≡ h.setup.passes = last ∙ sym (ap (λ (u : host.Setup). u.passes) (now-setup config passes before)) in (
      u.end ∙ ap (λ (c : Change). end_by c.step) (cond-true (eqb (tries + 1) h.setup.passes) _ _ (eq-eqb (tries + 1) h.setup.passes same)),
      u.entries,
    )

-- One check after another, by exchanges that nothing disturbs.

-- what a check makes of what was known before it was asked for
record Checked (config : Config) (passes : ℕ) (cell : Cell) (before after : List Event) : Type 0 where
  alone : possible_at (now config passes after).host cell ≡ only (word_held_after config passes after cell)
  others : (other : Cell) → IsCell 8 other → same_cell cell other ≡ false → possible_at (now config passes after).host other
      ≡ cond (is_surprising config passes before cell) Any (possible_at (now config passes before).host other)
  seen : (now config passes after).host.known.seen
      ≡ (is_surprising config passes before cell || (now config passes before).host.known.seen)
  kept : (now config passes after).device.words ≡ (now config passes before).device.words

-- what the host knows and the converter holds when a cell was asked for
record WasAsked (config : Config) (passes : ℕ) (cell : Cell) (before after : List Event) : Type 0 where
  stage : (now config passes after).host.stage ≡ Some (Asks (Word cell) 0)
  known : (now config passes after).host.known ≡ (now config passes before).host.known
  words : (now config passes after).device.words ≡ (now config passes before).device.words

-- a check that is asked for leaves what the host knows and the converter holds
asked-so : Below → {config : Config} {passes : ℕ} (cell : Cell) (before : List Event) → IsLived config passes (Check cell ∷ before) →
    WasAsked config passes cell before (Check cell ∷ before)
unfolding host_next
asked-so laws {config = config} {passes = passes} cell before lived =
    let same = now-next laws config passes before (Check cell) lived
    ∙ asked-next (now config passes before) (Check cell) (host.Check cell) refl in
    record {
      stage = ap (λ (s : State). s.host.stage) same;
      known = ap (λ (s : State). s.host.known) same;
      words = ap (λ (s : State). s.device.words) same;
    }

-- what surprises is found by what is known and held
same-surprise : (words words' : Words) (known known' : Known) (cell : Cell) → words' ≡ words → known' ≡ known →
    not (is_possible (word_at words' cell) (known_possible known' cell))
    ≡ not (is_possible (word_at words cell) (known_possible known cell))
same-surprise words words' known known' cell w k =
    ap₂ (λ (x : Words) (n : Known). not (is_possible (word_at x cell) (known_possible n cell))) w k

-- what came before a check was lived through
checks-lived : {config : Config} {passes : ℕ} {cell : Cell} {before after : List Event} → IsLived config passes after →
    Checks config passes cell before after → IsLived config passes before
checks-lived {config = config} {passes = passes} {cell = cell} {before = before} lived c =
    lived-before config passes c.readings before (earlier (read-lived lived c.read))

-- a check
checked : Below → {config : Config} {passes : ℕ} {cell : Cell} {before after : List Event} → IsLived config passes after →
    Checks config passes cell before after → Checked config passes cell before after
checked laws {config = config} {passes = passes} {cell = cell} {before = before} {after = after} lived c =
    let start = Check cell ∷ c.readings ++ before in
    let begun = read-lived lived c.read in
    let quiet = quiet-readings laws before c.readings (earlier begun) c.beside in
    let asked = asked-so laws cell (c.readings ++ before) begun in
    let known = asked.known ∙ ap (λ (h : Summary). h.known) quiet.host in
    let words = asked.words ∙ quiet.words in
    let read = (check-done laws begun lived asked.stage c.read).read in
    let surprise : is_surprising config passes start cell ≡ is_surprising config passes before cell =
    same-surprise _ _ _ _ cell words known in
    record {
      alone = read.alone;
      others = λ other there differ. read.others other there differ
          ∙ ap₂ (λ (b : Bool) (n : Known). cond b Any (known_possible n other)) surprise known;
      seen = read.seen ∙ ap₂ (λ (b : Bool) (n : Known). b || n.seen) surprise known;
      kept = read.kept ∙ words;
    }

-- the converter's word is alone possible for a cell; or any is
record IsAlone (config : Config) (passes : ℕ) (events : List Event) (cell : Cell) : Type 0 where
  is : possible_at (now config passes events).host cell ≡ only (word_held_after config passes events cell)

data IsSettled (config : Config) (passes : ℕ) (events : List Event) (cell : Cell) : Type 0 where
  any : possible_at (now config passes events).host cell ≡ Any → IsSettled config passes events cell
  alone : IsAlone config passes events cell → IsSettled config passes events cell

-- then it doesn't surprise
not-surprising : {config : Config} {passes : ℕ} {events : List Event} (cell : Cell) → IsSettled config passes events cell →
    is_surprising config passes events cell ≡ false
not-surprising {config = config} {passes = passes} {events = events} cell (any free) =
    ap (λ (p : Possible). not (is_possible (word_held_after config passes events cell) p)) free
not-surprising {config = config} {passes = passes} {events = events} cell (alone one) =
    let word = word_held_after config passes events cell in
    ap (λ (p : Possible). not (is_possible word p)) one.is ∙ ap (λ b. not (b || false)) (eq-eqb word word refl)

-- a cell whose word stays, and its possible words too, is alone or settled as before
alone-kept : {config : Config} {passes : ℕ} {before after : List Event} {cell : Cell} →
    (now config passes after).device.words ≡ (now config passes before).device.words →
    possible_at (now config passes after).host cell ≡ possible_at (now config passes before).host cell →
    IsAlone config passes before cell → IsAlone config passes after cell
alone-kept {cell = cell} kept same one = record { is = same ∙ (one.is ∙ ap (λ (w : Words). only (word_at w cell)) (sym kept)) }

-- the cell that was checked is alone
itself-alone : Below → {config : Config} {passes : ℕ} {before after : List Event} {cell : Cell} (other : Cell) →
    Checked config passes cell before after → same_cell cell other ≡ true → IsAlone config passes after other
itself-alone laws {config = config} {passes = passes} {after = after} {cell = cell} other c same =
    subst (IsAlone config passes after) (same-cells laws cell other same) (record { is = c.alone })

-- a settled cell stays settled
settled-after : Below → {config : Config} {passes : ℕ} {before after : List Event} {cell : Cell} (other : Cell) →
    Checked config passes cell before after → IsCell 8 other → IsSettled config passes before other → IsSettled config passes after other
settled-after laws {config = config} {passes = passes} {before = before} {after = after} {cell = cell} other c there settled =
    go (same_cell cell other) refl
  where
    left : (b : Bool) → possible_at (now config passes after).host other ≡ cond b Any (possible_at (now config passes before).host other) →
        IsSettled config passes before other → IsSettled config passes after other
    left true e h = any e
    left false e (any free) = any (e ∙ free)
    left false e (alone one) = alone (alone-kept c.kept e one)

    go : (b : Bool) → same_cell cell other ≡ b → IsSettled config passes after other
    go true same = alone (itself-alone laws other c same)
    go false differ = left (is_surprising config passes before cell) (c.others other there differ) settled

-- a word that is alone stays so where the check doesn't surprise
alone-after : Below → {config : Config} {passes : ℕ} {before after : List Event} {cell : Cell} (other : Cell) →
    Checked config passes cell before after → IsCell 8 other → is_surprising config passes before cell ≡ false →
    IsAlone config passes before other → IsAlone config passes after other
alone-after laws {config = config} {passes = passes} {before = before} {after = after} {cell = cell} other c there expected one =
    go (same_cell cell other) refl
  where
    go : (b : Bool) → same_cell cell other ≡ b → IsAlone config passes after other
    go true same = itself-alone laws other c same
    go false differ = alone-kept c.kept
        (c.others other there differ ∙ ap (λ b. cond b Any (possible_at (now config passes before).host other)) expected) one

-- what came before checks was lived through
sweeps-lived : {config : Config} {passes : ℕ} (cells : List Cell) (before after : List Event) → IsLived config passes after →
    Sweeps config passes cells before after → IsLived config passes before
sweeps-lived {config = config} {passes = passes} [] before after lived s = subst (IsLived config passes) s lived
sweeps-lived (cell ∷ cells) before after lived s = checks-lived (sweeps-lived cells s.0 after lived s.2) s.1

-- the first of them, and a cell that is among them
first-checked : Below → {config : Config} {passes : ℕ} (cell : Cell) (cells : List Cell) (before after : List Event) →
    IsLived config passes after → (s : Sweeps config passes (cell ∷ cells) before after) → Checked config passes cell before s.0
first-checked laws cell cells before after lived s = checked laws (sweeps-lived cells s.0 after lived s.2) s.1

-- it is the first, or among the rest
among-cases : (other cell : Cell) (cells : List Cell) → is_among other (cell ∷ cells) ≡ true →
    (same_cell cell other ≡ true) ⊎ (is_among other cells ≡ true)
among-cases other cell cells among = or_cases (same_cell cell other) (is_among other cells) among

-- a cell among the rest is among all
among-more : (other cell : Cell) (cells : List Cell) → is_among other cells ≡ true → is_among other (cell ∷ cells) ≡ true
among-more other cell cells among = or_right (same_cell cell other) (is_among other cells) among

-- a cell is settled, or is to be checked
data IsBound (config : Config) (passes : ℕ) (events : List Event) (cells : List Cell) (cell : Cell) : Type 0 where
  among : is_among cell cells ≡ true → IsBound config passes events cells cell
  settled : IsSettled config passes events cell → IsBound config passes events cells cell

-- after one check
bound-after : Below → {config : Config} {passes : ℕ} {before after : List Event} (cell : Cell) (cells : List Cell) (other : Cell) →
    Checked config passes cell before after → IsCell 8 other → IsBound config passes before (cell ∷ cells) other →
    IsBound config passes after cells other
bound-after laws cell cells other one there (settled h) = settled (settled-after laws other one there h)
bound-after laws cell cells other one there (among h) = elim (among-cases other cell cells h) [
  | inl same ↦ settled (alone (itself-alone laws other one same))
  | inr rest ↦ among rest
]

-- after all of them it is settled
all-settled : Below → {config : Config} {passes : ℕ} (cells : List Cell) (before after : List Event) (other : Cell) →
    IsLived config passes after → Sweeps config passes cells before after → IsCell 8 other →
    IsBound config passes before cells other → IsSettled config passes after other
all-settled laws [] before after other lived s there (among h) = cc
all-settled laws {config = config} {passes = passes} [] before after other lived s there (settled h) =
    subst (λ e. IsSettled config passes e other) (sym s) h
all-settled laws (cell ∷ cells) before after other lived s there h =
    all-settled laws cells s.0 after other lived s.2 there
    (bound-after laws cell cells other (first-checked laws cell cells before after lived s) there h)

-- a cell has the converter's word alone possible, or is to be checked
data IsDue (config : Config) (passes : ℕ) (events : List Event) (cells : List Cell) (cell : Cell) : Type 0 where
  waits : is_among cell cells ≡ true → IsDue config passes events cells cell
  single : IsAlone config passes events cell → IsDue config passes events cells cell

-- after a check that doesn't surprise
due-after : Below → {config : Config} {passes : ℕ} {before after : List Event} (cell : Cell) (cells : List Cell) (other : Cell) →
    Checked config passes cell before after → is_surprising config passes before cell ≡ false → IsCell 8 other →
    IsDue config passes before (cell ∷ cells) other → IsDue config passes after cells other
due-after laws cell cells other one expected there (single h) = single (alone-after laws other one there expected h)
due-after laws cell cells other one expected there (waits h) = elim (among-cases other cell cells h) [
  | inl same ↦ single (itself-alone laws other one same)
  | inr rest ↦ waits rest
]

-- each cell is alone after all checks if all were settled before
all-alone : Below → {config : Config} {passes : ℕ} (cells : List Cell) (before after : List Event) (other : Cell) →
    IsLived config passes after → Sweeps config passes cells before after → AreThere 8 cells → IsCell 8 other →
    ((cell : Cell) → is_among cell cells ≡ true → IsSettled config passes before cell) →
    IsDue config passes before cells other → IsAlone config passes after other
all-alone laws [] before after other lived s all there settled_all (waits h) = cc
all-alone laws {config = config} {passes = passes} [] before after other lived s all there settled_all (single h) =
    subst (λ e. IsAlone config passes e other) (sym s) h
all-alone laws (cell ∷ cells) before after other lived s all there settled_all h =
    let one = first-checked laws cell cells before after lived s in
    let expected = not-surprising cell
    (settled_all cell (or_left (same_cell cell cell) (is_among cell cells) (same_cell-itself cell))) in
    all-alone laws cells s.0 after other lived s.2 (λ c h. all c (among-more c cell cells h)) there
    (λ c h. settled-after laws c one (all c (among-more c cell cells h)) (settled_all c (among-more c cell cells h)))
    (due-after laws cell cells other one expected there h)

-- checks of some cells and then of others
record Parts (config : Config) (passes : ℕ) (cells others : List Cell) (before after : List Event) : Type 0 where
  middle : List Event
  first : Sweeps config passes cells before middle
  second : Sweeps config passes others middle after

-- checks of two lists of cells are checks of the first and then of the second, by one cell after another
sweeps-parts : (config : Config) (passes : ℕ) (cells others : List Cell) (before after : List Event) →
    Sweeps config passes (cells ++ others) before after → Parts config passes cells others before after
sweeps-parts config passes [] others before after s = record { middle = before; first = refl; second = s }
sweeps-parts config passes (cell ∷ cells) others before after s =
    let rest = sweeps-parts config passes cells others s.0 after s.2 in
    record { middle = rest.middle; first = (s.0, s.1, rest.first); second = rest.second }

-- the converter's word is alone possible for each cell after all cells were checked, and all but the last once more
pub swept : Below → {config : Config} {passes : ℕ} (before after : List Event) (cells : List Cell) (last : Cell) →
    IsLived config passes after → AreThere config.count (last ∷ cells) → Sweeps config passes (cells ++ last ∷ cells) before after →
    (cell : Cell) → is_among cell (last ∷ cells) ≡ true →
    possible_at (now config passes after).host cell ≡ only (word_held_after config passes after cell)
swept laws {config = config} {passes = passes} before after cells last lived all s cell h =
    let parts = sweeps-parts config passes cells (last ∷ cells) before after s in
    let middle = parts.middle in
    let again = parts.second in
    let half = sweeps-lived cells again.0 after lived again.2 in
    let one = checked laws half again.1 in
    let here : AreThere 8 cells = λ c is. eight config.count c lived.sound.few (all c (among-more c last cells is)) in
    let settled_all : (c : Cell) → is_among c cells ≡ true → IsSettled config passes again.0 c = λ c is.
    settled-after laws c one (here c is)
    (all-settled laws cells before middle c (checks-lived half again.1) parts.first (here c is) (among is)) in
    (all-alone laws cells again.0 after cell lived again.2 here (eight config.count cell lived.sound.few (all cell h)) settled_all
    (elim (among-cases cell last cells h) [
      | inl same ↦ single (itself-alone laws cell one same)
      | inr rest ↦ waits rest
    ])).is

-- what was seen stays so over checks
seen-stays : Below → {config : Config} {passes : ℕ} (cells : List Cell) (before after : List Event) → IsLived config passes after →
    Sweeps config passes cells before after → (now config passes before).host.known.seen ≡ true →
    (now config passes after).host.known.seen ≡ true
seen-stays laws {config = config} {passes = passes} [] before after lived s seen = ap (λ e. (now config passes e).host.known.seen) s ∙ seen
seen-stays laws {config = config} {passes = passes} (cell ∷ cells) before after lived s seen =
    let one = first-checked laws cell cells before after lived s in
    seen-stays laws cells s.0 after lived s.2
    (one.seen ∙ or_right (is_surprising config passes before cell) (now config passes before).host.known.seen seen)

-- what a check makes of a word that isn't possible for a cell: it is seen, or it is a word of another cell, and isn't possible yet
data Awaits (config : Config) (passes : ℕ) (after : List Event) (cells : List Cell) (cell : Cell) : Type 0 where
  saw : (now config passes after).host.known.seen ≡ true → Awaits config passes after cells cell
  still : is_among cell cells ≡ true → is_surprising config passes after cell ≡ true → Awaits config passes after cells cell

-- one check sees a word that isn't possible for a cell, or leaves it to be checked
awaits : Below → {config : Config} {passes : ℕ} {before after : List Event} (first : Cell) (cells : List Cell) (cell : Cell) →
    Checked config passes first before after → IsCell 8 cell → is_among cell (first ∷ cells) ≡ true →
    is_surprising config passes before cell ≡ true → Awaits config passes after cells cell
awaits laws {config = config} {passes = passes} {before = before} {after = after} first cells cell one there h is =
    go (is_surprising config passes before first) refl (same_cell first cell) refl
  where
    go : (b : Bool) → is_surprising config passes before first ≡ b → (c : Bool) → same_cell first cell ≡ c →
        Awaits config passes after cells cell
    go true e c same = saw (one.seen ∙ ap (λ b. b || (now config passes before).host.known.seen) e)
    go false e true same =
        let both : true ≡ false = sym is
        ∙ (ap (is_surprising config passes before) (sym (same-cells laws first cell same)) ∙ e) in cc
    go false e false differ = still (sym (ap (λ b. b || is_among cell cells) differ) ∙ h)
        (ap₂ (λ (w : Words) (p : Possible). not (is_possible (word_at w cell) p)) one.kept
        (one.others cell there differ ∙ ap (λ b. cond b Any (possible_at (now config passes before).host cell)) e) ∙ is)

-- checks show a restart where one of the cells has a word that wasn't possible
pub shows : Below → {config : Config} {passes : ℕ} (cells : List Cell) (before after : List Event) (cell : Cell) →
    IsLived config passes after → AreThere config.count cells → Sweeps config passes cells before after → is_among cell cells ≡ true →
    is_surprising config passes before cell ≡ true → (now config passes after).host.known.seen ≡ true
shows laws [] before after cell lived all s h is = cc
shows laws {config = config} {passes = passes} (first ∷ cells) before after cell lived all s h is =
    elim (awaits laws first cells cell (first-checked laws first cells before after lived s)
    (eight config.count cell lived.sound.few (all cell h)) h is) [
      | saw seen ↦ seen-stays laws cells s.0 after lived s.2 seen
      | still rest surprise ↦ shows laws cells s.0 after cell lived (λ c k. all c (among-more c first cells k)) s.2 rest surprise
    ]

-- What frames that nothing disturbs make of each open job, in a life.

-- the events up to some moment were lived through
up-to : {config : Config} {passes : ℕ} {events : List Event} (later after : List Event) → IsLived config passes events →
    events ≡ later ++ after → IsLived config passes after
up-to {config = config} {passes = passes} later after lived is =
    lived-before config passes later after (subst (IsLived config passes) is lived)

-- each job
pub frames-good : Below → {config : Config} {passes : ℕ} {events : List Event} → IsLived config passes events →
    GoodFrames config passes events
frames-good laws {config = config} {passes = passes} {events = events} lived = record {
  check = λ later before after cell tries is stage read.
      let all = up-to later after lived is in
      check-done laws (read-lived all read) all stage read;
  order = λ later before middle after cell word pass acked is stage allowed written read.
      let all = up-to later after lived is in
      let half = read-lived all read in
      pass-done laws (written-lived half written) half all stage allowed written read;
  read_back = λ later before after cell word pass is stage held read.
      let all = up-to later after lived is in
      order-done laws (read-lived all read) all stage read held;
  three = λ later before first middle after cell word pass acked is stage differs left allowed again written read.
      let all = up-to later after lived is in
      let half = read-lived all read in
      let one = written-lived half written in
      three-done laws (read-lived one again) one half all stage (differs, left) allowed again written read;
  write = λ later before after cell word pass acked is stage written.
      let all = up-to later after lived is in
      write-done laws (written-lived all written) all stage written;
  again = λ later before after cell word pass is stage differs left read.
      let all = up-to later after lived is in
      again-done laws (read-lived all read) all stage read differs left;
  last = λ later before after cell word pass is stage differs end read.
      let all = up-to later after lived is in
      order-last laws (read-lived all read) all stage read differs end;
  send = λ later before after command tries is stage written. send-done laws (up-to later after lived is) stage written;
  resend = λ later before after command tries is stage left written. resent laws (up-to later after lived is) stage left written;
  unacked = λ later before after command tries is stage last written. unacked-end laws (up-to later after lived is) stage last written;
  mode = λ later before after output tries is spelled stage read.
      let all = up-to later after lived is in
      mode-learned laws (read-lived all read) all spelled stage read;
  coefficients = λ later before after output tries is spelled stage read.
      let all = up-to later after lived is in
      coefficients-learned laws (read-lived all read) all spelled stage read;
  sweep = λ later before after cells last is. swept laws before after cells last (up-to later after lived is);
  shown = λ later before after cells cell is. shows laws cells before after cell (up-to later after lived is);
}
