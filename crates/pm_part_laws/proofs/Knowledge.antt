-- What a host's words on a part are worth, how its settings move, and an order that nothing disturbs, by the life that is like what happened beside it.
use Rattle.std.specs.List.{range_with_len, list_any}
use Rattle.std.specs.Prelude.{slice_index, option_to_list}
use Rattle.std.proofs.Common.{◌≡◌, ℕ, List, map, sym, ◌∙◌, ap, subst, [], ◌∷◌, ◌++◌, Option, Some, None, refl, true, ap₂, ◌⊎◌, inl, inr}
use Rattle.pm_num.specs.{NearestWord.nearest_word, Ratio.micros}
use Rattle.pm_num.specs.AnyFormat.{Shape, shape_rank, shape_value}
use Rattle.pm_table.specs.{Protection.is_allowed, declared.cell.Cell.Cell}
use Rattle.pm_table.specs.Cell.{output_of, cell_code, IsCell}
use Rattle.pm_table.specs.declared.cell.Cell.TheVariants.{Out, Protect}
use Rattle.pm_model.specs.declared.order_machine.PendingJob.{PendingJob}
use Rattle.pm_model.specs.OrderMachine.{store_taken, words_taken}
use Rattle.pm_model.specs.Settings.{Words, word_at, with_outputs}
use Rattle.pm_device.specs.{Held.Held, Start.start_with_words, declared.config.Config.Config}
use Rattle.pm_device.specs.History.{after_outcome as device_after_outcome, device_next}
use Rattle.pm_host.specs.{Marks.marks, Possible.is_possible, Refusals.IsSetup, Transcript.Entry}
use Rattle.pm_host.specs.Summary.{Summary, format_at, standing_at, possible_at}
use Rattle.pm_host.specs.Transcript as host
use Rattle.pm_world.specs.{Confirmed.restarts_converter, Ended.begins_other, Lemmas.entries-more, Lived.IsLived, Retelling.pending_code}
use Rattle.pm_world.specs.{Setup.setup_of, declared.event.Arrival.Arrival, declared.event.Event.Event}
use Rattle.pm_world.specs.Honest.{FormatsAgree, IsSpelled}
use Rattle.pm_world.specs.Laws.{PossibleWordsAreExact, LearnedFormatsAreTrue, HonestOrdersGoThrough as WorldOrders}
use Rattle.pm_world.specs.Laws.{ConfirmedSettingsAreHeld, ListsSayEnough, PossibleWordsAreHeld, DifferingOrdersNeverTook}
use Rattle.pm_world.specs.Life.{life, now}
use Rattle.pm_world.specs.Moves as world
use Rattle.pm_world.specs.Moves.{JobTakes as WorldTakes, MovesBy as WorldMoves, StoresBy as WorldStores, SettingsMoveByTheOpenJob}
use Rattle.pm_world.specs.Moves.{words_at as world_words, store_at as world_store}
use Rattle.pm_world.specs.Parts.{AreWordsOf, IsPart, LivesLeaveParts}
use Rattle.pm_world.specs.State.{share_of, State}
use Rattle.pm_world.specs.Uncertainty.{AreOpen, ArePossible, Choice, Leaves, due_before, since_restart, witness_events, witness_start}
use Rattle.pm_world.specs.declared.event.Event.TheVariants.{OrderMicro, Deliver, RestartDevice}
use Rattle.pm_part_laws.specs.{Exact.PossibleIsExact, Formats.FormatsAreTrue, Lemmas.Made.made-so, Parts.PartsStayParts}
use Rattle.pm_part_laws.specs.Alike.{LivesAlike, SameSettingsLiveAlike, event_like}
use Rattle.pm_part_laws.specs.Answers.{host_has_read_beside, restarted_since_beside, surprises_by_beside}
use Rattle.pm_part_laws.specs.Happenings.{entries_beside, Happening, Happens, beside, Hears, IsLifeBeside, MayAllHappen}
use Rattle.pm_part_laws.specs.HonestOrders.{HonestOrdersGoThrough, events_among, honest_frames}
use Rattle.pm_part_laws.specs.Knowledge.{ConfirmedIsHeld, PossibleIsHeld, SeenIsTrue}
use Rattle.pm_part_laws.specs.Lemmas.Narrow.{at, config, host-at, modes-at, newest-at, shape-at, asked-at, at-event, at-more, at-since}
use Rattle.pm_part_laws.specs.Lemmas.Narrow.{earlier-may, later-begins, later-renews, likely, since, between-at, read-at, since-at}
use Rattle.pm_part_laws.specs.Lemmas.Narrow.{surprises-at, later-restarts, pending-at, since-append}
use Rattle.pm_part_laws.specs.Moves.{DiffersNeverTook, JobTakes, MovesBy, PartsMoveByTheOpenJob, StoresBy, came_back, ordered, restored}
use Rattle.pm_part_laws.specs.Moves.{store_at_beside, stored, words_at_beside}

-- What a host calls possible beside a part is exact, by the life that is like what happened there.

-- the life that is left is one of a world like the part
leaves-beside : (held : Held) (passes : ℕ) (alike : LivesAlike held passes) (entries : List Entry) (chosen : Choice) (start : Config)
    (events : List Event) →
    Leaves (config held passes alike) passes entries chosen start events → Leaves held.config passes entries chosen start events
leaves-beside held passes alike entries chosen start events is = record {
  alike = record {
    addr = is.alike.addr;
    count = is.alike.count;
    shapes = λ output there. is.alike.shapes output there ∙ shape-at held passes alike output;
  };
  sound = is.sound;
  made = is.made;
  steady = is.steady;
  legal = is.legal;
  told = is.told;
  left = is.left;
}

leaves-like : (held : Held) (passes : ℕ) (alike : LivesAlike held passes) (entries : List Entry) (chosen : Choice) (start : Config)
    (events : List Event) →
    Leaves held.config passes entries chosen start events → Leaves (config held passes alike) passes entries chosen start events
leaves-like held passes alike entries chosen start events is = record {
  alike = record {
    addr = is.alike.addr;
    count = is.alike.count;
    shapes = λ output there. is.alike.shapes output there ∙ sym (shape-at held passes alike output);
  };
  sound = is.sound;
  made = is.made;
  steady = is.steady;
  legal = is.legal;
  told = is.told;
  left = is.left;
}

-- the start of the life that is left
start-at : (held : Held) (passes : ℕ) (alike : LivesAlike held passes) (words : Choice) →
    witness_start (config held passes alike) words ≡ witness_start held.config words
start-at held passes alike words = ap (λ (m : List ℕ). record held.config {
  starts = map (λ output. start_with_words (slice_index m output) (λ register. words (Out output register))) (range_with_len 0 8);
  protect = 0;
}) (modes-at held passes alike)

pub exact : SameSettingsLiveAlike → PossibleWordsAreExact → PossibleIsExact
exact alike law = record {
  witness = λ held passes happened chosen is steady open' possible.
      let all = alike held passes is.part is.spelled is.made in
      let like = all.like happened is.may in
      let c = config held passes all in
      let events = at held passes all happened in
      let entries = since_restart (entries_beside held passes happened) in
      let setup = setup_of held.config passes in
      let same = newest-at held passes all happened is.may in
      let whole = law.witness c passes events chosen like.lived (host-at held passes all happened ∙ steady)
      (subst (λ (l : List Entry). AreOpen (marks setup l)) (sym same) open')
      (subst (λ (h : Summary). ArePossible held.config h chosen) (sym like.host) possible) in
      subst (λ (k : Config). Leaves held.config passes entries chosen k (witness_events setup chosen entries))
      (start-at held passes all (due_before chosen (marks setup entries)))
      (leaves-beside held passes all entries chosen (witness_start c (due_before chosen (marks setup entries))) (witness_events setup chosen entries)
      (subst (λ (l : List Entry). Leaves c passes l chosen (witness_start c (due_before chosen (marks setup l)))
      (witness_events setup chosen l)) same whole));
  only = λ held passes happened retold chosen other is leaves.
      let all = alike held passes is.part is.spelled is.made in
      let like = all.like happened is.may in
      subst (λ (h : Summary). ArePossible held.config h chosen) like.host
      (law.only (config held passes all) passes (at held passes all happened) retold chosen other like.lived
      (subst (λ (l : List Entry). Leaves (config held passes all) passes l chosen other retold) (sym (newest-at held passes all happened is.may))
      (leaves-like held passes all (since_restart (entries_beside held passes happened)) chosen other retold leaves)));
}

-- The formats that a host learned beside a part, by the life that is like what happened there.

-- what one more event tells
told-more : (held : Held) (passes : ℕ) (before : List Happening) (event : Event) →
    entries_beside held passes (Happens event ∷ before) ≡ option_to_list (share_of (beside held passes before) event).told
    ++ entries_beside held passes before
unfolding entries_beside
told-more held passes before event = refl

-- Formats over lives are so beside a part.
pub formats : SameSettingsLiveAlike → LearnedFormatsAreTrue → FormatsAreTrue
formats alike law = record {
  held = λ held passes happened output shape is known.
      let all = alike held passes is.part is.spelled is.made in
      let like = all.like happened is.may in
      (agree all happened like.lived).held output shape (ap (λ (h : Summary). format_at h output) like.host ∙ known)
      ∙ shape-at held passes all output;
  ended = λ held passes newer later before event output is asks alone ended same.
      let all = alike held passes is.part is.spelled is.made in
      let middle = later ++ Happens event ∷ before in
      let like = all.like (newer ++ middle) is.may in
      let may-middle = earlier-may held passes newer middle is.may in
      let may-before = earlier-may held passes later (Happens event ∷ before) may-middle in
      let split = at-event held passes all later before event in
      ap (λ (h : Summary). format_at h output) (sym like.host)
      ∙ ((agree all (newer ++ middle) like.lived).ended (since held passes all newer middle) (since held passes all later (Happens event ∷ before))
      (at held passes all before) (likely held passes all before event) output
      (at-since held passes all newer middle ∙ ap (λ (l : List Event). since held passes all newer middle ++ l) split)
      (asked-at held passes all event before may-before.1 ∙ asks) (later-begins held passes all later (Happens event ∷ before) ∙ alone)
      (ap (λ (l : List Event). (now (config held passes all) passes l).end) (sym split) ∙ ((all.like middle may-middle).ended ∙ ended))
      (later-renews held passes all newer middle ∙ same)
      ∙ ap (λ (s : Shape). Some s) (shape-at held passes all output));
  kept = λ held passes later before event job output is asks alone other.
      let all = alike held passes is.part is.spelled is.made in
      let whole = later ++ Happens event ∷ before in
      let like = all.like whole is.may in
      let may-before = earlier-may held passes later (Happens event ∷ before) is.may in
      let split = at-event held passes all later before event in
      let c = config held passes all in
      ap (λ (h : Summary). format_at h output) (sym like.host)
      ∙ (ap (λ (l : List Event). format_at (now c passes l).host output) split
      ∙ ((agree all whole like.lived).kept [] (since held passes all later (Happens event ∷ before))
      (at held passes all before) (likely held passes all before event) job output split
      (asked-at held passes all event before may-before.1 ∙ asks) (later-begins held passes all later (Happens event ∷ before) ∙ alone)
      (λ learned. other (sym like.ended ∙ (ap (λ (l : List Event). (now c passes l).end) split ∙ learned)))
      ∙ ap (λ (h : Summary). format_at h output) (all.like before may-before.1).host));
  nearest = λ held passes before cell microvolts is.
      let all = alike held passes is.part is.spelled is.made in
      let like = all.like (Happens (OrderMicro cell microvolts) ∷ before) is.may in
      let c = config held passes all in
      let past = at held passes all before in
      let found = (law.nearest c passes (at held passes all (Happens (OrderMicro cell microvolts) ∷ before)) all.spelled like.lived).nearest [] past
      cell microvolts (at-more held passes all (OrderMicro cell microvolts) before) in
      record {
        word = found.word;
        nearest = subst (λ (s : Shape). nearest_word (shape_value s) (shape_rank s) (micros microvolts) ≡ Some found.word)
            (shape-at held passes all (output_of cell)) found.nearest;
        ordered = told-more held passes before (OrderMicro cell microvolts)
            ∙ ap (λ (o : Option host.Entry). option_to_list o ++ entries_beside held passes before)
            (sym (all.tells before (OrderMicro cell microvolts) is.may)
            ∙ newest (share_of (now c passes past) (OrderMicro cell microvolts)).told (life c passes past).entries
            (host.Accepted (host.Order cell found.word)) (sym (entries-more c passes past (OrderMicro cell microvolts)) ∙ found.ordered));
      };
}
  where
    agree : {held : Held} {passes : ℕ} (all : LivesAlike held passes) (happened : List Happening) →
        IsLived (config held passes all) passes (at held passes all happened) →
        FormatsAgree (config held passes all) passes (at held passes all happened)
    agree {held = held} {passes = passes} all happened lived = law.agree (config held passes all) passes
        (at held passes all happened) all.spelled lived

    -- the newest entry of a list that has one more
    newest : (o : Option host.Entry) (entries : List host.Entry) (entry : host.Entry) → option_to_list o ++ entries ≡ entry ∷ entries → o ≡ Some entry
    newest (Some e) entries entry is = let same : e ≡ entry = cc in ap (λ (x : host.Entry). Some x) same
    newest None entries entry is = absurd (longer entries entry is) where
      longer : (l : List host.Entry) (x : host.Entry) → l ≡ x ∷ l → ⊥
      longer [] x e = cc
      longer (y ∷ l) x e = longer l y (let rest : l ≡ y ∷ l = cc in rest)

-- An order that nothing disturbs, by the life that is like what happened beside a part.

-- Events whose like ones are themselves.
abbrev ArePlain : List Event → Type 0
ArePlain [] = Unit {0}
ArePlain (event ∷ events) = ((s : State) → event_like s event ≡ event) × ArePlain events

delivered-plain : (arrivals : List Arrival) → ArePlain (map (λ arrival. Deliver arrival) arrivals)
delivered-plain [] = tt
delivered-plain (arrival ∷ arrivals) = (λ s. refl, delivered-plain arrivals)

since-plain : (held : Held) (passes : ℕ) (alike : LivesAlike held passes) (later before : List Happening) → ArePlain (events_among later) →
    since held passes alike later before ≡ events_among later
since-plain held passes alike [] before plain = refl
since-plain held passes alike (Happens event ∷ later) before plain =
    ap₂ (λ (e : Event) (l : List Event). e ∷ l) (plain.0 (beside held passes (later ++ before))) (since-plain held passes alike later before plain.1)
since-plain held passes alike (Hears bytes ending ∷ later) before plain = since-plain held passes alike later before plain

pub honest-through : SameSettingsLiveAlike → WorldOrders → HonestOrdersGoThrough
honest-through alike law held passes frames before order cell word arrivals acked is honest asks allowed whole =
    let all = alike held passes is.part is.spelled is.made in
    let c = config held passes all in
    let happened = frames ++ Happens order ∷ before in
    let like = all.like happened is.may in
    let may-before = (earlier-may held passes frames (Happens order ∷ before) is.may).1 in
    let past = at held passes all before in
    let one = likely held passes all before order in
    let plain = since-plain held passes all frames (Happens order ∷ before)
    (subst (λ (l : List Event). ArePlain l) (sym honest) (λ s. refl, (λ s. refl, delivered-plain arrivals))) ∙ honest in
    let events : at held passes all happened ≡ honest_frames arrivals acked ++ one ∷ past =
    at-event held passes all frames before order ∙ ap (λ (l : List Event). l ++ one ∷ past) plain in
    let went = (law.through c passes (at held passes all happened) like.lived).through [] past one cell word arrivals acked events
    (asked-at held passes all order before may-before ∙ asks)
    (subst (λ (w : Words). is_allowed (word_at w Protect) (cell_code cell) ≡ true) (sym (all.like before may-before).words) allowed) whole in
    record {
      done = sym like.ended ∙ (ap (λ (l : List Event). (now c passes l).end) events ∙ went.done);
      confirmed = ap (λ (h : Summary). standing_at h cell) (sym like.host)
          ∙ (ap (λ (l : List Event). standing_at (now c passes l).host cell) events ∙ went.confirmed);
      holds = ap (λ (w : Words). word_at w cell) (sym like.words)
          ∙ (ap (λ (l : List Event). word_at (now c passes l).device.words cell) events ∙ went.held);
    }

-- What a host's words on a part are worth, by the life that is like what happened beside it.

pub confirmed : SameSettingsLiveAlike → ConfirmedSettingsAreHeld → ListsSayEnough → ConfirmedIsHeld
confirmed alike law lists held passes happened cell word is there standing steady =
    let all = alike held passes is.part is.spelled is.made in
    let like = all.like happened is.may in
    ap (λ (w : Words). word_at w cell) (sym like.words)
    ∙ (law (config held passes all) passes (at held passes all happened) like.lived).held cell word there
    (ap (λ (h : Summary). standing_at h cell) like.host ∙ standing) (since-at held passes all lists cell happened is.may ∙ steady)

pub possible : SameSettingsLiveAlike → PossibleWordsAreHeld → ListsSayEnough → PossibleIsHeld
possible alike law lists = record {
  found = λ held passes happened cell is there named.
      let all = alike held passes is.part is.spelled is.made in
      let like = all.like happened is.may in
      sym (read-at held passes all cell happened is.may)
      ∙ (law.held (config held passes all) passes (at held passes all happened) like.lived).found cell there
      (λ any. named (ap (λ (h : Summary). possible_at h cell) (sym like.host) ∙ any));
  held = λ held passes happened cell is there steady.
      let all = alike held passes is.part is.spelled is.made in
      let like = all.like happened is.may in
      subst (λ (h : Summary). is_possible (word_at (beside held passes happened).device.words cell) (possible_at h cell) ≡ true) like.host
      (subst (λ (w : Words). is_possible (word_at w cell) (possible_at (now (config held passes all) passes
      (at held passes all happened)).host cell) ≡ true)
      like.words
      ((law.held (config held passes all) passes (at held passes all happened) like.lived).held cell there
      (since-at held passes all lists cell happened is.may ∙ steady)));
}

pub seen : SameSettingsLiveAlike → PossibleWordsAreHeld → ListsSayEnough → SeenIsTrue
seen alike law lists = record {
  surprises = λ held passes later before one cell is surprise. surprised held passes later before one cell is surprise;
  between = λ held passes happened is said.
      let all = alike held passes is.part is.spelled is.made in
      let like = all.like happened is.may in
      let found = (law.seen (config held passes all) passes (at held passes all happened) like.lived).between
      (ap (λ (h : Summary). h.known.seen) like.host ∙ said) in
      (found.0, found.1, sym (between-at held passes all lists found.0 happened is.may) ∙ found.2);
  restarted = λ held passes happened is said.
      let all = alike held passes is.part is.spelled is.made in
      let like = all.like happened is.may in
      sym (host-at held passes all happened) ∙ (law.seen (config held passes all) passes (at held passes all happened) like.lived).restarted
      (ap (λ (h : Summary). h.known.seen) like.host ∙ said);
}
  where
    surprised : (held : Held) (passes : ℕ) (later before : List Happening) (one : Happening) (cell : Cell) →
        IsLifeBeside held passes (later ++ one ∷ before) → surprises_by_beside held passes cell before one ≡ true →
        (host_has_read_beside held passes cell before ≡ true) × (restarted_since_beside held passes cell before ≡ true)
    surprised held passes later before (Hears bytes ending) cell is surprise = cc
    surprised held passes later before (Happens event) cell is surprise =
        let all = alike held passes is.part is.spelled is.made in
        let like = all.like (later ++ Happens event ∷ before) is.may in
        let may = earlier-may held passes later (Happens event ∷ before) is.may in
        let found = (law.seen (config held passes all) passes (at held passes all (later ++ Happens event ∷ before)) like.lived).surprises
        (since held passes all later (Happens event ∷ before)) (at held passes all before) (likely held passes all before event) cell
        (at-event held passes all later before event) (surprises-at held passes all cell event before may ∙ surprise) in
        (sym (read-at held passes all cell before may.1) ∙ found.0, sym (since-at held passes all lists cell before may.1) ∙ found.1)

-- How the settings and the store of a part move, by the life that is like what happened beside it.

module _ (held : Held) (passes : ℕ) (alike : LivesAlike held passes) (before : List Happening) (may : MayAllHappen held passes before) where
  abbrev here : Config
  here = config held passes alike

  abbrev past : List Event
  past = at held passes alike before

  words-are : world_words here passes past ≡ words_at_beside held passes before
  words-are = (alike.like before may).words

  store-is : world_store here passes past ≡ store_at_beside held passes before
  store-is = (alike.like before may).store

  -- the open job takes in both
  takes-beside : (arrival : Arrival) (job : PendingJob) → WorldTakes here passes past arrival job → JobTakes held passes before arrival job
  takes-beside arrival job is = record {
    opened = sym (pending-at held passes alike before may) ∙ is.opened;
    whole = is.whole;
    allowed = subst (λ (w : Words). is_allowed (word_at w Protect) (pending_code job) ≡ true) words-are is.allowed;
  }

  takes-like : (arrival : Arrival) (job : PendingJob) → JobTakes held passes before arrival job → WorldTakes here passes past arrival job
  takes-like arrival job is = record {
    opened = pending-at held passes alike before may ∙ is.opened;
    whole = is.whole;
    allowed = subst (λ (w : Words). is_allowed (word_at w Protect) (pending_code job) ≡ true) (sym words-are) is.allowed;
  }

  -- what moved a word, and the store
  moves-beside : (event : Event) (cell : Cell) (word : ℕ) → WorldMoves here passes past cell word (likely held passes alike before event) →
      MovesBy held passes before cell word (Happens event)
  moves-beside RestartDevice cell word (world.came_back is) = came_back (is ∙ ap (λ (w : Words). word_at w cell) store-is)
  moves-beside (Deliver arrival) cell word (world.ordered way takes) = ordered arrival (takes-beside arrival _ takes)
  moves-beside (Deliver arrival) cell word (world.restored way takes of is) =
      restored arrival (takes-beside arrival _ takes) of (is ∙ ap (λ (w : Words). word_at w cell) store-is)
  moves-beside event cell word by = elim by [ ]

  stores-beside : (event : Event) (store : Words) → WorldStores here passes past store (likely held passes alike before event) →
      StoresBy held passes before store (Happens event)
  stores-beside (Deliver arrival) store (world.stored way takes is) =
      stored arrival (takes-beside arrival _ takes) (is ∙ ap₂ with_outputs store-is words-are)
  stores-beside event store by = elim by [ ]

pub parts-move : SameSettingsLiveAlike → SettingsMoveByTheOpenJob → PartsMoveByTheOpenJob
unfolding beside device_next device_after_outcome
parts-move alike law = record {
  moves = moved;
  stores = stored-so;
  takes = λ held passes before arrival job is takes.
      let all = alike held passes is.part is.spelled is.made in
      let like = all.like (Happens (Deliver arrival) ∷ before) is.may in
      let c = config held passes all in
      let past = at held passes all before in
      let w = words-are held passes all before is.may.1 in
      let s = store-is held passes all before is.may.1 in
      let taken = (law c passes (at held passes all (Happens (Deliver arrival) ∷ before)) like.lived).takes [] past arrival job
      (at-more held passes all (Deliver arrival) before) (takes-like held passes all before is.may.1 arrival job takes) in (
        sym like.words ∙ (ap (world_words c passes) (at-more held passes all (Deliver arrival) before)
            ∙ (taken.0 ∙ ap₂ (λ (a b : Words). words_taken a b (Some job)) w s)),
        sym like.store ∙ (ap (world_store c passes) (at-more held passes all (Deliver arrival) before)
            ∙ (taken.1 ∙ ap₂ (λ (a b : Words). store_taken a b (Some job)) w s)),
      );
}
  where
    moved : (held : Held) (passes : ℕ) (before : List Happening) (one : Happening) (cell : Cell) →
        IsLifeBeside held passes (one ∷ before) → IsCell held.config.count cell →
        (word_at (words_at_beside held passes (one ∷ before)) cell ≡ word_at (words_at_beside held passes before) cell)
        ⊎ MovesBy held passes before cell (word_at (words_at_beside held passes (one ∷ before)) cell) one
    moved held passes before (Hears bytes ending) cell is there = inl (ap (λ (w : Words). word_at w cell) is.may.0.words)
    moved held passes before (Happens event) cell is there =
        let all = alike held passes is.part is.spelled is.made in
        let like = all.like (Happens event ∷ before) is.may in
        let c = config held passes all in
        let past = at held passes all before in
        let new : world_words c passes (likely held passes all before event ∷ past) ≡ words_at_beside held passes (Happens event ∷ before) =
        ap (world_words c passes) (sym (at-more held passes all event before)) ∙ like.words in
        elim ((law c passes (at held passes all (Happens event ∷ before)) like.lived).moves [] past (likely held passes all before event) cell
        (at-more held passes all event before) there) [
          | inl same ↦ inl (ap (λ (w : Words). word_at w cell) (sym new) ∙ (same
              ∙ ap (λ (w : Words). word_at w cell) (words-are held passes all before is.may.1)))
          | inr by ↦ inr (moves-beside held passes all before is.may.1 event cell _
              (subst (λ (w : Words). WorldMoves c passes past cell (word_at w cell) (likely held passes all before event)) new by))
        ]

    stored-so : (held : Held) (passes : ℕ) (before : List Happening) (one : Happening) → IsLifeBeside held passes (one ∷ before) →
        (store_at_beside held passes (one ∷ before) ≡ store_at_beside held passes before) ⊎ StoresBy held passes before (store_at_beside held passes (one ∷ before)) one
    stored-so held passes before (Hears bytes ending) is = inl is.may.0.store
    stored-so held passes before (Happens event) is =
        let all = alike held passes is.part is.spelled is.made in
        let like = all.like (Happens event ∷ before) is.may in
        let c = config held passes all in
        let past = at held passes all before in
        let new : world_store c passes (likely held passes all before event ∷ past) ≡ store_at_beside held passes (Happens event ∷ before) =
        ap (world_store c passes) (sym (at-more held passes all event before)) ∙ like.store in
        elim ((law c passes (at held passes all (Happens event ∷ before)) like.lived).stores [] past (likely held passes all before event)
        (at-more held passes all event before)) [
          | inl same ↦ inl (sym new ∙ (same ∙ store-is held passes all before is.may.1))
          | inr by ↦ inr (stores-beside held passes all before is.may.1 event _
              (subst (λ (w : Words). WorldStores c passes past w (likely held passes all before event)) new by))
        ]

-- An order that ended as Differs never took.
pub never-took : SameSettingsLiveAlike → DifferingOrdersNeverTook → DiffersNeverTook
never-took alike law held passes later since' before order cell word read is asks alone steady ended =
    let all = alike held passes is.part is.spelled is.made in
    let c = config held passes all in
    let middle = since' ++ Happens order ∷ before in
    let like = all.like (later ++ middle) is.may in
    let may-middle = earlier-may held passes later middle is.may in
    let may-before = earlier-may held passes since' (Happens order ∷ before) may-middle in
    let newer = since held passes all later middle in
    let mid = since held passes all since' (Happens order ∷ before) in
    let past = at held passes all before in
    let one = likely held passes all before order in
    let whole : at held passes all (later ++ middle) ≡ newer ++ (mid ++ one ∷ past) =
    at-since held passes all later middle ∙ ap (λ (l : List Event). newer ++ l) (at-event held passes all since' before order) in
    let parts : since held passes all (later ++ since') (Happens order ∷ before) ≡ newer ++ mid =
    since-append held passes all later since' (Happens order ∷ before) in
    let found = (law c passes (at held passes all (later ++ middle)) like.lived).never [] newer mid past one cell word read whole
    (asked-at held passes all order before may-before.1 ∙ asks)
    (ap (λ (l : List Event). list_any begins_other l) (sym parts) ∙ (later-begins held passes all (later ++ since') (Happens order ∷ before) ∙ alone))
    (ap (λ (l : List Event). list_any restarts_converter l) (sym parts)
    ∙ (later-restarts held passes all (later ++ since') (Happens order ∷ before) ∙ steady))
    (ap (λ (l : List Event). (now c passes l).end) (sym whole) ∙ (like.ended ∙ ended)) in (
      found.0,
      ap (λ (w : Words). word_at w cell) (sym (all.like middle may-middle).words)
          ∙ (ap (λ (l : List Event). word_at (world_words c passes l) cell) (at-event held passes all since' before order) ∙ found.1),
    )

-- What is left of a part beside which a host began, by the life that is like what happened there.

pub parts-stay : SameSettingsLiveAlike → LivesLeaveParts → PartsStayParts
unfolding beside
parts-stay alike law held passes other happened is setup =
    let all = alike held passes is.part is.spelled is.made in
    let like = all.like happened is.may in
    let left = law (config held passes all) passes (at held passes all happened) like.lived refl in
    let new = beside held passes happened in
    let same = sym (made-so held passes happened) in
    let part : IsPart held.config new.device.words new.device.store = record {
      made = is.part.made;
      held = subst (λ (w : Words). AreWordsOf held.config.count w) like.words left.held;
      stored = subst (λ (w : Words). AreWordsOf held.config.count w) like.store left.stored;
      absent = λ cell place none. subst (λ (w : Words). word_at w cell ≡ word_at new.device.store cell) like.words
          (subst (λ (w : Words). word_at (now (config held passes all) passes (at held passes all happened)).device.words cell
          ≡ word_at w cell) like.store (left.absent cell place none));
    } in
    record {
      part = subst (λ (c : Config). IsPart c new.device.words new.device.store) same part;
      spelled = subst (λ (c : Config). IsSpelled c) same is.spelled;
      made = subst (λ (c : Config). IsSetup (setup_of c other)) same setup;
      may = tt;
    }
