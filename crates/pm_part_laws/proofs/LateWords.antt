-- Words that are taken late: what waits in the queue, what is sent, and what the host says of it, event by event.
use Rattle.std.specs.List.{list_any}
use Rattle.std.specs.Prelude.{option_map, option_to_list}
use Rattle.std.proofs.lemmas.Bool.{eq-eqb}
use Rattle.std.proofs.Common.{◌≡◌, ◌≤◌, ◌+◌, ℕ, zero, suc, Bool, true, false, cond, List, [], ◌∷◌, ◌++◌, Option, Some, None, refl, sym, ◌∙◌}
use Rattle.std.proofs.Common.{ap, subst, arith, eqb, ◌||◌, option_and_then, ◌⊎◌, inl, inr}
use Rattle.pm_table.specs.{Lemmas.IsCell-eight, declared.cell.Cell.Cell}
use Rattle.pm_table.specs.Cell.{is_output_cell, same_cell, IsCell}
use Rattle.pm_table.specs.declared.cell.Cell.TheVariants.{Out, Protect}
use Rattle.pm_model.specs.declared.order_machine.PendingJob.{PendingJob}
use Rattle.pm_model.specs.OrderMachine.{store_taken, words_taken}
use Rattle.pm_model.specs.Settings.{Words, AreWords, word_at}
use Rattle.pm_model.specs.declared.order_machine.PendingJob.TheVariants as pending
use Rattle.pm_host.specs.{Answers.good_word, Laws.PossibleWordsAreFollowed, Now.AreTold, Refusals.IsSetup, Standing.standing_of}
use Rattle.pm_host.specs.{Told.is_of_frame, declared.command.Command.Command, declared.knowledge.Possible.TheVariants.Any}
use Rattle.pm_host.specs.Marks.{Mark, Put, Good, Restored, send_marks, put_by, read_by, puts, goods, marks}
use Rattle.pm_host.specs.Possible.{is_possible, possible_of}
use Rattle.pm_host.specs.Transcript.{Setup, Entry, Job, Order, Check, Learn, Send, is_write_turn, open_job, told_since, Accepted, Finished}
use Rattle.pm_host.specs.Transcript.{Got, Restarted}
use Rattle.pm_host.specs.declared.command.Command.TheVariants.{StoreUserAll, RestoreUserAll}
use Rattle.pm_host.specs.declared.knowledge.Standing.TheVariants.{Confirmed, Unknown}
use Rattle.pm_part_laws.specs.LateBelow.{Below}
use Rattle.pm_part_laws.specs.Late.{Waiting, MayWait, all_longer, frames_in, pending_sent_in, waiting_at, waiting_without, pending_sent_by}
use Rattle.pm_part_laws.specs.Late.{Both, Event}
use Rattle.pm_part_laws.specs.Late.{Hears, Takes, Restarts, Tells, MayComeEach, both_after, IsOwn, was_held, was_stored, was_sent, IsRecent}
use Rattle.pm_part_laws.specs.Late.{IsTrueAnswer, answers_late, frames_to_answer, restarted_since_late, gives_cell_word}
use Rattle.pm_part_laws.specs.LateWords.{LateWordsAreOwn, LateWordsWerePossible, LateConfirmationsAreHeld}
use Rattle.pm_world.specs.Confirmed.{is_good_for}

-- What waits in the queue was sent, as many frames ago as it counts.

-- a job was sent at a moment since which no more frames ended than this
pub record SentAgo (frames : ℕ) (setup : Setup) (entries : List Entry) (job : PendingJob) : Type 0 where
  pub since : List Entry
  pub moment : List Entry
  pub is : entries ≡ since ++ moment
  pub sent : pending_sent_in setup moment ≡ Some job
  pub few : frames_in since ≤ frames

-- each write of a queue was sent as many frames ago as it counts, and counts no more than it may
pub record IsQueued (frames : ℕ) (setup : Setup) (entries : List Entry) (waits : Waiting) : Type 0 where
  pub ago : SentAgo waits.frames setup entries waits.job
  pub most : waits.frames ≤ frames

abbrev pub AreQueued : ℕ → Setup → List Entry → List Waiting → Type 0
AreQueued frames setup entries [] = Unit {0}
AreQueued frames setup entries (waits ∷ rest) = IsQueued frames setup entries waits × AreQueued frames setup entries rest

-- what is being sent is queued as it's heard
pub hears-queued : (frames : ℕ) (setup : Setup) (entries : List Entry) (queue : List Waiting) (job : Option PendingJob) →
    pending_sent_in setup entries ≡ job → AreQueued frames setup entries queue →
    AreQueued frames setup entries (option_to_list (option_map (λ j. record { job = j; frames = 0 }) job) ++ queue)
hears-queued frames setup entries queue None e are = are
hears-queued frames setup entries queue (Some job) e are = (
  record {
    ago = record { since = []; moment = entries; is = refl; sent = e; few = omega arith };
    most = omega arith;
  },
  are,
)

-- what is taken leaves the others
pub without-queued : (frames : ℕ) (setup : Setup) (entries : List Entry) (place : ℕ) (queue : List Waiting) →
    AreQueued frames setup entries queue → AreQueued frames setup entries (waiting_without place queue)
without-queued frames setup entries place [] are = tt
without-queued frames setup entries zero (waits ∷ rest) are = are.1
without-queued frames setup entries (suc place) (waits ∷ rest) are = (are.0, without-queued frames setup entries place rest are.1)

-- what is taken was sent
pub taken-sent : (frames : ℕ) (setup : Setup) (entries : List Entry) (place : ℕ) (queue : List Waiting) (job : PendingJob) →
    waiting_at place queue ≡ Some job → AreQueued frames setup entries queue → SentAgo frames setup entries job
taken-sent frames setup entries place [] job e are = cc
taken-sent frames setup entries zero (waits ∷ rest) job e are =
    let ago = are.0.ago in
    record { since = ago.since; moment = ago.moment; is = ago.is; sent = ago.sent ∙ e; few = omega (arith, ago.few, are.0.most) }
taken-sent frames setup entries (suc place) (waits ∷ rest) job e are = taken-sent frames setup entries place rest job e are.1

-- a frame that ends counts for each
longer : (frames : ℕ) (setup : Setup) (entries : List Entry) (entry : Entry) (queue : List Waiting) → is_of_frame entry ≡ true →
    MayWait frames queue → AreQueued frames setup entries queue → AreQueued frames setup (entry ∷ entries) (all_longer queue)
longer frames setup entries entry [] e may are = tt
longer frames setup entries entry (waits ∷ rest) e may are =
    let ago = are.0.ago in (
      record {
        ago = record {
          since = entry ∷ ago.since;
          moment = ago.moment;
          is = ap (λ (es : List Entry). entry ∷ es) ago.is;
          sent = ago.sent;
          few = subst (λ b. cond b (frames_in ago.since + 1) (frames_in ago.since) ≤ waits.frames + 1) (sym e) (omega (arith, ago.few));
        };
        most = omega (arith, may.0);
      },
      longer frames setup entries entry rest e may.1 are.1,
    )

-- an entry that is no frame's leaves the counts
later : (frames : ℕ) (setup : Setup) (entries : List Entry) (entry : Entry) (queue : List Waiting) → is_of_frame entry ≡ false →
    AreQueued frames setup entries queue → AreQueued frames setup (entry ∷ entries) queue
later frames setup entries entry [] e are = tt
later frames setup entries entry (waits ∷ rest) e are =
    let ago = are.0.ago in (
      record {
        ago = record {
          since = entry ∷ ago.since;
          moment = ago.moment;
          is = ap (λ (es : List Entry). entry ∷ es) ago.is;
          sent = ago.sent;
          few = subst (λ b. cond b (frames_in ago.since + 1) (frames_in ago.since) ≤ waits.frames) (sym e) ago.few;
        };
        most = are.0.most;
      },
      later frames setup entries entry rest e are.1,
    )

-- an entry that the host is told leaves a queue
pub tells-queued : (frames : ℕ) (setup : Setup) (entries : List Entry) (entry : Entry) (queue : List Waiting) →
    (is_of_frame entry ≡ true → MayWait frames queue) → AreQueued frames setup entries queue →
    AreQueued frames setup (entry ∷ entries) (cond (is_of_frame entry) (all_longer queue) queue)
tells-queued frames setup entries entry queue may are = go (is_of_frame entry) refl where
  go : (b : Bool) → is_of_frame entry ≡ b → AreQueued frames setup (entry ∷ entries) (cond b (all_longer queue) queue)
  go true e = longer frames setup entries entry queue e (may e) are
  go false e = later frames setup entries entry queue e are

-- What the host is sending, by its open job.

-- an order whose write is being sent is open
pub order-open : (job : Option Job) (told : List Entry) (cell : Cell) (word : ℕ) →
    pending_sent_by job told ≡ Some (pending.Order cell word) → job ≡ Some (Order cell word)
order-open None told cell word e = cc
order-open (Some (Order other given)) told cell word e = go (is_write_turn told) e where
  go : (b : Bool) → cond b (Some (pending.Order other given)) None ≡ Some (pending.Order cell word) →
      Some (Order other given) ≡ Some (Order cell word)
  go true is = cc
  go false is = cc
order-open (Some (Check other)) told cell word e = cc
order-open (Some (Learn output)) told cell word e = cc
order-open (Some (Send StoreUserAll)) told cell word e = cc
order-open (Some (Send RestoreUserAll)) told cell word e = cc
order-open (Some (Send command)) told cell word e = cc

-- a restore whose frame is being sent is open
pub restore-open : (job : Option Job) (told : List Entry) → pending_sent_by job told ≡ Some pending.Restore → job
    ≡ Some (Send RestoreUserAll)
restore-open None told e = cc
restore-open (Some (Order other given)) told e = go (is_write_turn told) e where
  go : (b : Bool) → cond b (Some (pending.Order other given)) None ≡ Some pending.Restore →
      Some (Order other given) ≡ Some (Send RestoreUserAll)
  go true is = cc
  go false is = cc
restore-open (Some (Check other)) told e = cc
restore-open (Some (Learn output)) told e = cc
restore-open (Some (Send StoreUserAll)) told e = cc
restore-open (Some (Send RestoreUserAll)) told e = refl
restore-open (Some (Send command)) told e = cc

-- what was told before a moment's entries was told in turn too
pub told-before : (setup : Setup) (since moment : List Entry) → AreTold setup (since ++ moment) → AreTold setup moment
told-before setup [] moment told = told
told-before setup (entry ∷ since) moment told = told-before setup since moment told.1

-- What the host says of a cell after one more entry.

-- what holds of no mark, of a write's and of a restore's holds of those of what begins to be sent
pub of-puts : (P : List Mark → Type 0) → P [] → ((cell : Cell) (word : ℕ) → P (Put cell word ∷ [])) → P (Restored ∷ []) →
    (setup : Setup) (entries : List Entry) → P (puts setup entries)
unfolding puts
of-puts P none put restored setup entries = go (open_job setup entries) where
  by_turn : (b : Bool) (cell : Cell) (word : ℕ) → P (cond b (Put cell word ∷ []) [])
  by_turn true cell word = put cell word
  by_turn false cell word = none

  by_command : (command : Command) → P (send_marks command)
  by_command RestoreUserAll = restored
  by_command command = none

  go : (job : Option Job) → P (put_by job (told_since entries))
  go None = none
  go (Some (Send command)) = by_command command
  go (Some (Order cell word)) = by_turn (is_write_turn (told_since entries)) cell word
  go (Some job) = none

-- what holds of no mark and of that of a good answer holds of those of what came back
pub of-goods : (P : List Mark → Type 0) (setup : Setup) (before : List Entry) (bytes : List ℕ) → P [] →
    ((cell : Cell) (word : ℕ) → read_by (open_job setup before) (told_since before) ≡ Some cell →
    good_word setup.addr cell bytes ≡ Some word → P (Good cell word ∷ [])) → P (goods setup before bytes)
unfolding goods
of-goods P setup before bytes none good = go (read_by (open_job setup before) (told_since before)) refl where
  by_word : (cell : Cell) → read_by (open_job setup before) (told_since before) ≡ Some cell → (found : Option ℕ) →
      good_word setup.addr cell bytes ≡ found → P (option_to_list (option_map (λ word. Good cell word) found))
  by_word cell asked None is = none
  by_word cell asked (Some word) is = good cell word asked is

  go : (asked : Option Cell) → read_by (open_job setup before) (told_since before) ≡ asked →
      P (option_to_list (option_and_then (λ c. option_map (λ word. Good c word) (good_word setup.addr c bytes)) asked))
  go None asked = none
  go (Some cell) asked = by_word cell asked (good_word setup.addr cell bytes) refl

-- a word that is possible stays so as something begins to be sent
pub puts-possible : PossibleWordsAreFollowed → (setup : Setup) (entries : List Entry) (ms : List Mark) (cell : Cell) (word : ℕ) →
    is_possible word (possible_of ms cell) ≡ true → is_possible word (possible_of (puts setup entries ++ ms) cell) ≡ true
puts-possible marks setup entries ms cell word h = of-puts (λ new. is_possible word (possible_of (new ++ ms) cell) ≡ true) h
    (λ put given. marks.put ms put cell given word ∙ by_put (same_cell put cell) given)
    (marks.restored ms cell word ∙ by_restore (is_output_cell cell)) setup entries
  where
    by_put : (b : Bool) (given : ℕ) →
        cond b (is_possible word (possible_of ms cell) || eqb given word) (is_possible word (possible_of ms cell)) ≡ true
    by_put true given = ap (λ p. p || eqb given word) h
    by_put false given = h

    by_restore : (b : Bool) → cond b true (is_possible word (possible_of ms cell)) ≡ true
    by_restore true = refl
    by_restore false = h

-- what begins to be sent confirms nothing
pub puts-confirm : (setup : Setup) (entries : List Entry) (ms : List Mark) (cell : Cell) (word : ℕ) →
    standing_of (puts setup entries ++ ms) cell ≡ Confirmed word → standing_of ms cell ≡ Confirmed word
puts-confirm setup entries ms cell word = of-puts
    (λ new. standing_of (new ++ ms) cell ≡ Confirmed word → standing_of ms cell ≡ Confirmed word) (λ h. h)
    (λ put given. unless (same_cell put cell)) (unless (is_output_cell cell)) setup entries
  where
    unless : (b : Bool) → cond b Unknown (standing_of ms cell) ≡ Confirmed word → standing_of ms cell ≡ Confirmed word
    unless true h = cc
    unless false h = h

-- the word of a good answer is possible
pub good-possible : PossibleWordsAreFollowed → (ms : List Mark) (read cell : Cell) (word : ℕ) → same_cell read cell ≡ true →
    is_possible word (possible_of (Good read word ∷ ms) cell) ≡ true
good-possible marks ms read cell word same = marks.good ms read cell word word ∙
    subst (λ b. cond b (eqb word word) (cond (is_possible word (possible_of ms read)) (is_possible word (possible_of ms cell)) true) ≡ true)
    (sym same) (eq-eqb word word refl)

-- What holds of both ends at each moment, and what a write that is taken leaves.

-- the host was told in turn, there is a word for each cell, and what waits was sent
pub record Stands (frames : ℕ) (setup : Setup) (both : Both) : Type 0 where
  pub told : AreTold setup both.entries
  pub words : AreWords both.words
  pub store : AreWords both.store
  pub queued : AreQueued frames setup both.entries both.waiting

-- there is a word for each cell after a write is taken
words-taken : Below → (words store : Words) (job : Option PendingJob) → AreWords words → AreWords store →
    AreWords (words_taken words store job)
words-taken laws words store None are stored = are
words-taken laws words store (Some (pending.Order cell word)) are stored = laws.map.kept words cell word are
words-taken laws words store (Some pending.Store) are stored = are
words-taken laws words store (Some pending.Restore) are stored = laws.map.whole words store stored

store-taken : Below → (words store : Words) (job : Option PendingJob) → AreWords words → AreWords store →
    AreWords (store_taken words store job)
store-taken laws words store None are stored = stored
store-taken laws words store (Some (pending.Order cell word)) are stored = stored
store-taken laws words store (Some pending.Store) are stored = laws.map.whole store words are
store-taken laws words store (Some pending.Restore) are stored = stored

pub stands : Below → (frames : ℕ) (setup : Setup) (held stored : Words) → AreWords held → AreWords stored → (events : List Event) →
    MayComeEach frames setup held stored events → Stands frames setup (both_after setup held stored events)
stands laws frames setup held stored are have [] came = record { told = tt; words = are; store = have; queued = tt }
stands laws frames setup held stored are have (Hears ∷ before) came =
    let both = both_after setup held stored before in
    let so_far = stands laws frames setup held stored are have before came.1 in
    record {
      told = so_far.told;
      words = so_far.words;
      store = so_far.store;
      queued = hears-queued frames setup both.entries both.waiting (pending_sent_in setup both.entries) refl so_far.queued;
    }
stands laws frames setup held stored are have (Takes place ∷ before) came =
    let both = both_after setup held stored before in
    let so_far = stands laws frames setup held stored are have before came.1 in
    record {
      told = so_far.told;
      words = words-taken laws both.words both.store (waiting_at place both.waiting) so_far.words so_far.store;
      store = store-taken laws both.words both.store (waiting_at place both.waiting) so_far.words so_far.store;
      queued = without-queued frames setup both.entries place both.waiting so_far.queued;
    }
stands laws frames setup held stored are have (Restarts ∷ before) came =
    let so_far = stands laws frames setup held stored are have before came.1 in
    record { told = so_far.told; words = so_far.store; store = so_far.store; queued = tt }
stands laws frames setup held stored are have (Tells entry ∷ before) came =
    let both = both_after setup held stored before in
    let so_far = stands laws frames setup held stored are have before came.1 in
    record {
      told = (came.0.comes, so_far.told);
      words = so_far.words;
      store = so_far.store;
      queued = tells-queued frames setup both.entries entry both.waiting came.0.waits so_far.queued;
    }

-- the job that was sent at a moment is open there
sent-there : Below → (setup : Setup) (since moment : List Entry) (cell : Cell) (word : ℕ) → IsSetup setup →
    AreTold setup (since ++ moment) → pending_sent_in setup moment ≡ Some (pending.Order cell word) → IsCell 8 cell
sent-there laws setup since moment cell word made told sent =
    IsCell-eight setup.outputs cell made.few_outputs (laws.orders.there setup moment cell word made (told-before setup since moment told)
    (order-open (open_job setup moment) (told_since moment) cell word sent))

-- a fact on the word of a cell after an order for another or for it
by-order : (P : ℕ → Type 0) (b : Bool) (word old : ℕ) → (b ≡ true → P word) → P old → P (cond b word old)
by-order P true word old new kept = new refl
by-order P false word old new kept = kept

-- What a job that was sent leaves a cell: a fact that holds of the word that the cell had, and of one that the job gives it.
pub taken-word : Below → (setup : Setup) (both : Both) (since moment : List Entry) (job : PendingJob) (cell : Cell) (P : ℕ → Type 0) →
    IsSetup setup → AreTold setup (since ++ moment) → AreWords both.words → AreWords both.store → IsCell 8 cell →
    pending_sent_in setup moment ≡ Some job → P (word_at both.words cell) → ((word : ℕ) → job ≡ pending.Order cell word → P word) →
    ((output : _) (register : _) → job ≡ pending.Restore → cell ≡ Out output register → P (word_at both.store cell)) →
    P (word_at (words_taken both.words both.store (Some job)) cell)
taken-word laws setup both since moment (pending.Order other word) cell P made told are stored there sent kept ordered restored =
    subst P (sym (laws.map.read both.words other cell word are (sent-there laws setup since moment other word made told sent) there))
    (by-order P (same_cell other cell) word (word_at both.words cell)
    (λ same. ordered word (ap (λ c. pending.Order c word) ((laws.apart other cell).0 same))) kept)
taken-word laws setup both since moment pending.Store cell P made told are stored there sent kept ordered restored = kept
taken-word laws setup both since moment pending.Restore (Out output register) P made told are stored there sent kept ordered restored =
    subst P (sym (laws.map.outputs both.words both.store output register stored there)) (restored output register refl refl)
taken-word laws setup both since moment pending.Restore Protect P made told are stored there sent kept ordered restored =
    subst P (sym (laws.map.protect both.words both.store stored)) kept

-- Each cell has a word of its own, event by event.

own-more : (setup : Setup) (held stored : Words) (entries : List Entry) (cell : Cell) (word : ℕ) (entry : Entry) →
    IsOwn setup held stored entries cell word → IsOwn setup held stored (entry ∷ entries) cell word
own-more setup held stored entries cell word entry (was_held is) = was_held is
own-more setup held stored entries cell word entry (was_stored is) = was_stored is
own-more setup held stored entries cell word entry (was_sent since moment is sent) =
    was_sent (entry ∷ since) moment (ap (λ (es : List Entry). entry ∷ es) is) sent

-- the cell holds, and has stored, a word of its own
record HasOwn (setup : Setup) (held stored : Words) (both : Both) (cell : Cell) : Type 0 where
  pub word : IsOwn setup held stored both.entries cell (word_at both.words cell)
  pub kept : IsOwn setup held stored both.entries cell (word_at both.store cell)

-- a store that is taken copies each word but that of WRITE_PROTECT
stored-own : Below → (setup : Setup) (held stored : Words) (both : Both) (cell : Cell) (job : PendingJob) → AreWords both.words →
    IsCell 8 cell → HasOwn setup held stored both cell →
    IsOwn setup held stored both.entries cell (word_at (store_taken both.words both.store (Some job)) cell)
stored-own laws setup held stored both cell (pending.Order other word) are there own = own.kept
stored-own laws setup held stored both (Out output register) pending.Store are there own =
    subst (IsOwn setup held stored both.entries (Out output register))
    (sym (laws.map.outputs both.store both.words output register are there)) own.word
stored-own laws setup held stored both Protect pending.Store are there own =
    subst (IsOwn setup held stored both.entries Protect) (sym (laws.map.protect both.store both.words are)) own.kept
stored-own laws setup held stored both cell pending.Restore are there own = own.kept

taken-own : Below → (frames : ℕ) (setup : Setup) (held stored : Words) (both : Both) (cell : Cell) (job : Option PendingJob) →
    IsSetup setup → Stands frames setup both → IsCell 8 cell → ((one : PendingJob) → job ≡ Some one →
    SentAgo frames setup both.entries one) →
    HasOwn setup held stored both cell → HasOwn setup held stored (record both {
      words = words_taken both.words both.store job;
      store = store_taken both.words both.store job;
    }) cell
taken-own laws frames setup held stored both cell None made stands there sent own = record { word = own.word; kept = own.kept }
taken-own laws frames setup held stored both cell (Some job) made stands there sent own =
    let ago = sent job refl in
    record {
      word = taken-word laws setup both ago.since ago.moment job cell (IsOwn setup held stored both.entries cell) made
          (subst (AreTold setup) ago.is stands.told) stands.words stands.store there ago.sent own.word
          (λ word is. was_sent ago.since ago.moment ago.is (ago.sent ∙ ap (λ j. Some j) is))
          (λ output register is of. own.kept);
      kept = stored-own laws setup held stored both cell job stands.words there own;
    }

has-own : Below → (frames : ℕ) (setup : Setup) (held stored : Words) (events : List Event) (cell : Cell) → IsSetup setup →
    AreWords held → AreWords stored → MayComeEach frames setup held stored events → IsCell 8 cell →
    HasOwn setup held stored (both_after setup held stored events) cell
has-own laws frames setup held stored [] cell made are have came there = record { word = was_held refl; kept = was_stored refl }
has-own laws frames setup held stored (Hears ∷ before) cell made are have came there =
    let so_far = has-own laws frames setup held stored before cell made are have came.1 there in
    record { word = so_far.word; kept = so_far.kept }
has-own laws frames setup held stored (Takes place ∷ before) cell made are have came there =
    let both = both_after setup held stored before in
    let standing = stands laws frames setup held stored are have before came.1 in
    let own = taken-own laws frames setup held stored both cell (waiting_at place both.waiting) made standing there
    (λ job is. taken-sent frames setup both.entries place both.waiting job is standing.queued)
    (has-own laws frames setup held stored before cell made are have came.1 there) in
    record { word = own.word; kept = own.kept }
has-own laws frames setup held stored (Restarts ∷ before) cell made are have came there =
    let so_far = has-own laws frames setup held stored before cell made are have came.1 there in
    record { word = so_far.kept; kept = so_far.kept }
has-own laws frames setup held stored (Tells entry ∷ before) cell made are have came there =
    let both = both_after setup held stored before in
    let so_far = has-own laws frames setup held stored before cell made are have came.1 there in
    record {
      word = own-more setup held stored both.entries cell (word_at both.words cell) entry so_far.word;
      kept = own-more setup held stored both.entries cell (word_at both.store cell) entry so_far.kept;
    }

pub late-own : Below → LateWordsAreOwn
late-own laws = record {
  held = λ frames setup held stored events cell late there. (has-own laws frames setup held stored events cell late.made late.holds
      late.stores late.came (IsCell-eight setup.outputs cell late.made.few_outputs there)).word;
  stored = λ frames setup held stored events cell late there. (has-own laws frames setup held stored events cell late.made late.holds
      late.stores late.came (IsCell-eight setup.outputs cell late.made.few_outputs there)).kept;
}

-- What the host says of a cell is true of moments not long ago, event by event.

-- from a moment to an answer no more frames ended than from it to now
to-answer : (setup : Setup) (cell : Cell) (since moment : List Entry) → frames_to_answer setup cell since moment ≤ frames_in since
to-answer setup cell [] moment = omega arith
to-answer setup cell (entry ∷ since) moment =
    go (answers_late setup (since ++ moment) cell entry) (is_of_frame entry) (to-answer setup cell since moment)
  where
    go : (b c : Bool) → frames_to_answer setup cell since moment ≤ frames_in since →
        cond b (cond c (frames_in since + 1) (frames_in since)) (frames_to_answer setup cell since moment)
        ≤ cond c (frames_in since + 1) (frames_in since)
    go true c h = omega arith
    go false true h = omega (arith, h)
    go false false h = h

-- a moment at which a job was sent that waits no longer is recent
sent-recent : (frames : ℕ) (setup : Setup) (cell : Cell) (entries : List Entry) (job : PendingJob) →
    (ago : SentAgo frames setup entries job) →
    IsRecent frames setup cell entries ago.moment
sent-recent frames setup cell entries job ago = record {
  since = ago.since;
  is = ago.is;
  few = omega (arith, to-answer setup cell ago.since ago.moment, ago.few);
}

-- a moment stays recent where no answer comes
recent-more : (frames : ℕ) (setup : Setup) (cell : Cell) (entries moment : List Entry) (entry : Entry) →
    answers_late setup entries cell entry ≡ false → IsRecent frames setup cell entries moment →
    IsRecent frames setup cell (entry ∷ entries) moment
recent-more frames setup cell entries moment entry none recent = record {
  since = entry ∷ recent.since;
  is = ap (λ (es : List Entry). entry ∷ es) recent.is;
  few = subst (λ b. cond b (frames_in (entry ∷ recent.since)) (frames_to_answer setup cell recent.since moment) ≤ frames)
      (sym (subst (λ (es : List Entry). answers_late setup es cell entry ≡ false) recent.is none)) recent.few;
}

-- now is recent
recent-now : (frames : ℕ) (setup : Setup) (cell : Cell) (entries : List Entry) → IsRecent frames setup cell entries entries
recent-now frames setup cell entries = record { since = []; is = refl; few = omega arith }

-- a word was possible at a recent moment
record WasListed (frames : ℕ) (setup : Setup) (entries : List Entry) (cell : Cell) (word : ℕ) : Type 0 where
  pub moment : List Entry
  pub recent : IsRecent frames setup cell entries moment
  pub possible : is_possible word (possible_of (marks setup moment) cell) ≡ true

-- a write that gives the cell a word was being sent at a recent moment
record WasWritten (frames : ℕ) (setup : Setup) (entries : List Entry) (cell : Cell) : Type 0 where
  pub moment : List Entry
  pub job : PendingJob
  pub recent : IsRecent frames setup cell entries moment
  pub sent : pending_sent_in setup moment ≡ Some job
  pub writes_it : gives_cell_word cell job ≡ true

-- what the marks say of a cell's word, where the part didn't restart since the last good answer for the cell
abbrev Says : ℕ → Setup → List Entry → List Mark → Cell → ℕ → Type 0
Says frames setup entries ms cell held = (word : ℕ) → standing_of ms cell ≡ Confirmed word →
    (held ≡ word) ⊎ WasWritten frames setup entries cell

record IsKnown (frames : ℕ) (setup : Setup) (entries : List Entry) (cell : Cell) (restarted : Bool) (held : ℕ) : Type 0 where
  pub listed : restarted ≡ false → WasListed frames setup entries cell held
  pub says : restarted ≡ false → Says frames setup entries (marks setup entries) cell held

listed-more : (frames : ℕ) (setup : Setup) (entries : List Entry) (entry : Entry) (cell : Cell) (held : ℕ) →
    answers_late setup entries cell entry ≡ false → WasListed frames setup entries cell held →
    WasListed frames setup (entry ∷ entries) cell held
listed-more frames setup entries entry cell held none was = record {
  moment = was.moment;
  recent = recent-more frames setup cell entries was.moment entry none was.recent;
  possible = was.possible;
}

says-more : (frames : ℕ) (setup : Setup) (entries : List Entry) (entry : Entry) (ms : List Mark) (cell : Cell) (held : ℕ) →
    answers_late setup entries cell entry ≡ false → Says frames setup entries ms cell held →
    Says frames setup (entry ∷ entries) ms cell held
says-more frames setup entries entry ms cell held none says word confirmed = elim (says word confirmed) [
  | inl is ↦ inl is
  | inr was ↦ inr (record {
    moment = was.moment;
    job = was.job;
    recent = recent-more frames setup cell entries was.moment entry none was.recent;
    sent = was.sent;
    writes_it = was.writes_it;
  })
]

-- an entry without a good answer for the cell, behind which something may begin to be sent
quiet-known : (frames : ℕ) (setup : Setup) (entries : List Entry) (entry : Entry) (cell : Cell) (restarted : Bool) (held : ℕ) →
    answers_late setup entries cell entry ≡ false → marks setup (entry ∷ entries) ≡ puts setup (entry ∷ entries) ++ marks setup entries →
    IsKnown frames setup entries cell restarted held → IsKnown frames setup (entry ∷ entries) cell restarted held
quiet-known frames setup entries entry cell restarted held none is known = record {
  listed = λ fresh. listed-more frames setup entries entry cell held none (known.listed fresh);
  says = λ fresh word confirmed. says-more frames setup entries entry (marks setup entries) cell held none (known.says fresh) word
      (puts-confirm setup (entry ∷ entries) (marks setup entries) cell word
      (subst (λ ms. standing_of ms cell ≡ Confirmed word) is confirmed));
}

-- bytes that came back: what holds of a cell after the marks of a good answer, or of none, before something begins to be sent
abbrev KnownBy : ℕ → Setup → List Entry → Entry → Cell → Bool → ℕ → List Mark → Type 0
KnownBy frames setup entries entry cell restarted held new = answers_late setup entries cell entry ≡ list_any (is_good_for cell) new →
    marks setup (entry ∷ entries) ≡ puts setup (entry ∷ entries) ++ (new ++ marks setup entries) →
    IsKnown frames setup entries cell restarted held →
    IsKnown frames setup (entry ∷ entries) cell (cond (answers_late setup entries cell entry) false restarted) held

-- what isn't an answer for the cell
other-known : (frames : ℕ) (setup : Setup) (entries : List Entry) (entry : Entry) (cell : Cell) (restarted : Bool) (held : ℕ) (new : List
    Mark) →
    answers_late setup entries cell entry ≡ false →
    marks setup (entry ∷ entries) ≡ puts setup (entry ∷ entries) ++ (new ++ marks setup entries) →
    standing_of (new ++ marks setup entries) cell ≡ standing_of (marks setup entries) cell →
    IsKnown frames setup entries cell restarted held →
    IsKnown frames setup (entry ∷ entries) cell (cond (answers_late setup entries cell entry) false restarted) held
other-known frames setup entries entry cell restarted held new none is same known =
    subst (λ b. IsKnown frames setup (entry ∷ entries) cell (cond b false restarted) held) (sym none) (record {
      listed = λ fresh. listed-more frames setup entries entry cell held none (known.listed fresh);
      says = λ fresh word confirmed. says-more frames setup entries entry (marks setup entries) cell held none (known.says fresh) word
          (sym same ∙ puts-confirm setup (entry ∷ entries) (new ++ marks setup entries) cell word
          (subst (λ ms. standing_of ms cell ≡ Confirmed word) is confirmed));
    })

-- an answer for the cell
answered-known : Below →
    (frames : ℕ) (setup : Setup) (entries : List Entry) (entry : Entry) (cell : Cell) (restarted : Bool) (held word : ℕ)
    (read : Cell) → same_cell read cell ≡ true → held ≡ word →
    marks setup (entry ∷ entries) ≡ puts setup (entry ∷ entries) ++ (Good read word ∷ marks setup entries) →
    IsKnown frames setup (entry ∷ entries) cell restarted held
answered-known laws frames setup entries entry cell restarted held word read same its is = record {
  listed = λ fresh. record {
    moment = entry ∷ entries;
    recent = recent-now frames setup cell (entry ∷ entries);
    possible = subst (λ ms. is_possible held (possible_of ms cell) ≡ true) (sym is)
        (puts-possible laws.marks setup (entry ∷ entries) (Good read word ∷ marks setup entries) cell held
        (subst (λ w. is_possible w (possible_of (Good read word ∷ marks setup entries) cell) ≡ true) (sym its)
        (good-possible laws.marks (marks setup entries) read cell word same)));
  };
  says = λ fresh other confirmed. inl (its ∙ confirms other (subst (λ b. cond b (Confirmed word) (standing_of (marks setup entries) cell)
      ≡ Confirmed other) same (puts-confirm setup (entry ∷ entries) (Good read word ∷ marks setup entries) cell other
      (subst (λ ms. standing_of ms cell ≡ Confirmed other) is confirmed))));
}
  where
    confirms : (other : ℕ) → Confirmed word ≡ Confirmed other → word ≡ other
    confirms other e = cc

got-known : Below → (frames : ℕ) (setup : Setup) (both : Both) (bytes : List ℕ) (cell : Cell) (restarted : Bool) →
    IsTrueAnswer setup both (Got bytes) → IsKnown frames setup both.entries cell restarted (word_at both.words cell) →
    IsKnown frames setup (Got bytes ∷ both.entries) cell (cond (answers_late setup both.entries cell (Got bytes)) false restarted)
    (word_at both.words cell)
got-known laws frames setup both bytes cell restarted answer known =
    of-goods (KnownBy frames setup both.entries (Got bytes) cell restarted (word_at both.words cell)) setup both.entries bytes
    (λ none is so_far. other-known frames setup both.entries (Got bytes) cell restarted (word_at both.words cell) [] none is refl so_far)
    (λ read word asked good. by_cell read word (answer read word asked good) (same_cell read cell) refl)
    refl refl known
  where
    by_cell : (read : Cell) (word : ℕ) → word_at both.words read ≡ word → (b : Bool) → same_cell read cell ≡ b →
        KnownBy frames setup both.entries (Got bytes) cell restarted (word_at both.words cell) (Good read word ∷ [])
    by_cell read word has true same e is so_far =
        answered-known laws frames setup both.entries (Got bytes) cell _ (word_at both.words cell) word read same
        (ap (word_at both.words) (sym ((laws.apart read cell).0 same)) ∙ has) is
    by_cell read word has false same e is so_far =
        other-known frames setup both.entries (Got bytes) cell restarted (word_at both.words cell) (Good read word ∷ [])
        (e ∙ ap (λ b. b || false) same) is
        (ap (λ b. cond b (Confirmed word) (standing_of (marks setup both.entries) cell)) same) so_far

-- what the host is told
tells-known : Below → (frames : ℕ) (setup : Setup) (both : Both) (entry : Entry) (cell : Cell) (restarted : Bool) →
    IsTrueAnswer setup both entry → IsKnown frames setup both.entries cell restarted (word_at both.words cell) →
    IsKnown frames setup (entry ∷ both.entries) cell (cond (answers_late setup both.entries cell entry) false restarted) (word_at both.words
    cell)
unfolding possible_of
tells-known laws frames setup both (Accepted job) cell restarted answer known =
    quiet-known frames setup both.entries (Accepted job) cell restarted (word_at both.words cell) refl refl known
tells-known laws frames setup both (Finished acked) cell restarted answer known =
    quiet-known frames setup both.entries (Finished acked) cell restarted (word_at both.words cell) refl refl known
tells-known laws frames setup both (Got bytes) cell restarted answer known =
    got-known laws frames setup both bytes cell restarted answer known
tells-known laws frames setup both Restarted cell restarted answer known = record {
  listed = λ fresh. record {
    moment = Restarted ∷ both.entries;
    recent = recent-now frames setup cell (Restarted ∷ both.entries);
    possible = refl;
  };
  says = λ fresh word confirmed. cc;
}

-- a write that is taken
takes-known : Below → (frames : ℕ) (setup : Setup) (both : Both) (cell : Cell) (restarted : Bool) (job : Option PendingJob) →
    IsSetup setup → Stands frames setup both → IsCell 8 cell → ((one : PendingJob) → job ≡ Some one →
    SentAgo frames setup both.entries one) →
    IsKnown frames setup both.entries cell restarted (word_at both.words cell) →
    IsKnown frames setup both.entries cell restarted (word_at (words_taken both.words both.store job) cell)
takes-known laws frames setup both cell restarted None made standing there sent known = known
takes-known laws frames setup both cell restarted (Some job) made standing there sent known =
    let ago = sent job refl in
    let told = subst (AreTold setup) ago.is standing.told in
    taken-word laws setup both ago.since ago.moment job cell (IsKnown frames setup both.entries cell restarted) made told
    standing.words standing.store there ago.sent known (λ word is. ordered word is ago told) (λ output register is of. restored output
    register is of ago told)
  where
    ordered : (word : ℕ) → job ≡ pending.Order cell word → (ago : SentAgo frames setup both.entries job) →
        AreTold setup (ago.since ++ ago.moment) → IsKnown frames setup both.entries cell restarted word
    ordered word is ago told =
        let sent_it = ago.sent ∙ ap (λ j. Some j) is in
        record {
          listed = λ fresh. record {
            moment = ago.moment;
            recent = sent-recent frames setup cell both.entries job ago;
            possible = laws.orders.possible setup ago.moment cell word made (told-before setup ago.since ago.moment told)
                (order-open (open_job setup ago.moment) (told_since ago.moment) cell word sent_it);
          };
          says = λ fresh other confirmed. inr (record {
            moment = ago.moment;
            job = pending.Order cell word;
            recent = sent-recent frames setup cell both.entries job ago;
            sent = sent_it;
            writes_it = (laws.apart cell cell).1 refl;
          });
        }

    restored : (output : _) (register : _) → job ≡ pending.Restore → cell ≡ Out output register →
        (ago : SentAgo frames setup both.entries job) →
        AreTold setup (ago.since ++ ago.moment) → IsKnown frames setup both.entries cell restarted (word_at both.store cell)
    restored output register is of ago told =
        let sent_it = ago.sent ∙ ap (λ j. Some j) is in
        let any = laws.restores.possible setup ago.moment output register (told-before setup ago.since ago.moment told)
        (restore-open (open_job setup ago.moment) (told_since ago.moment) sent_it) in
        record {
          listed = λ fresh. record {
            moment = ago.moment;
            recent = sent-recent frames setup cell both.entries job ago;
            possible = ap (is_possible (word_at both.store cell))
                (subst (λ c. possible_of (marks setup ago.moment) c ≡ Any) (sym of) any);
          };
          says = λ fresh other confirmed. inr (record {
            moment = ago.moment;
            job = pending.Restore;
            recent = sent-recent frames setup cell both.entries job ago;
            sent = sent_it;
            writes_it = ap is_output_cell of;
          });
        }

is-known : Below → (frames : ℕ) (setup : Setup) (held stored : Words) (events : List Event) (cell : Cell) → IsSetup setup →
    AreWords held → AreWords stored → MayComeEach frames setup held stored events → IsCell 8 cell →
    let both = both_after setup held stored events in
    IsKnown frames setup both.entries cell (restarted_since_late setup held stored cell events) (word_at both.words cell)
is-known laws frames setup held stored [] cell made are have came there = record {
  listed = λ fresh. record {
    moment = [];
    recent = recent-now frames setup cell [];
    possible = laws.marks.none cell (word_at held cell);
  };
  says = λ fresh word confirmed. cc;
}
is-known laws frames setup held stored (Hears ∷ before) cell made are have came there =
    is-known laws frames setup held stored before cell made are have came.1 there
is-known laws frames setup held stored (Takes place ∷ before) cell made are have came there =
    let both = both_after setup held stored before in
    let standing = stands laws frames setup held stored are have before came.1 in
    takes-known laws frames setup both cell (restarted_since_late setup held stored cell before)
    (waiting_at place both.waiting) made standing
    there
    (λ job is. taken-sent frames setup both.entries place both.waiting job is standing.queued)
    (is-known laws frames setup held stored before cell made are have came.1 there)
is-known laws frames setup held stored (Restarts ∷ before) cell made are have came there =
    record { listed = λ fresh. cc; says = λ fresh. cc }
is-known laws frames setup held stored (Tells entry ∷ before) cell made are have came there =
    tells-known laws frames setup (both_after setup held stored before) entry cell (restarted_since_late setup held stored cell before)
    came.0.true_answer (is-known laws frames setup held stored before cell made are have came.1 there)

pub late-possible : Below → LateWordsWerePossible
late-possible laws frames setup held stored events cell late there fresh =
    let nearby = IsCell-eight setup.outputs cell late.made.few_outputs there in
    let was = (is-known laws frames setup held stored events cell late.made late.holds late.stores late.came nearby).listed fresh in
    record {
      moment = was.moment;
      recent = was.recent;
      possible = ap (is_possible (word_at (both_after setup held stored events).words cell)) (laws.told.possible setup was.moment cell
          nearby)
          ∙ was.possible;
    }

pub late-confirmed : Below → LateConfirmationsAreHeld
late-confirmed laws frames setup held stored events cell word late there fresh quiet confirmed =
    let nearby = IsCell-eight setup.outputs cell late.made.few_outputs there in
    let both = both_after setup held stored events in
    let says = (is-known laws frames setup held stored events cell late.made late.holds late.stores late.came nearby).says fresh word
    (sym (laws.told.standing setup both.entries cell nearby) ∙ confirmed) in
    elim says [
      | inl is ↦ is
      | inr was ↦ against (sym (quiet was.moment was.job was.recent was.sent) ∙ was.writes_it)
    ]
  where
    against : {X : Type 0} → false ≡ true → X
    against e = cc
