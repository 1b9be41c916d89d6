-- What a claim says was held at the last read, and no narrower claim would be true.
use Rattle.std.specs.List.{list_any}
use Rattle.std.specs.Prelude.{◌==◌, option_to_list, slice_get, ◌&&◌, is_none, nat_lt, option_map, filter, reverse, IsSome}
use Rattle.std.proofs.{lemmas.Bool.Decides.nat_tests, lemmas.Option.same_Some}
use Rattle.std.proofs.Common.{arith, zero, suc, ◌≡◌, ◌≢◌, ℕ, Bool, true, false, ◌||◌, List, [], ◌∷◌, ◌++◌, Option, Some, None, refl, sym}
use Rattle.std.proofs.Common.{◌∙◌, ap, subst, cond, ◌<◌, ℤ, not, ◌⊎◌, inl, inr}
use Rattle.std.proofs.lemmas.Bool.{and_parts, or_parts}
use Rattle.pm_num.specs.{AnyFormat.Shape, Lemmas.Over.at_most-trans}
use Rattle.pm_num.specs.Lemmas.Order.{at-most, not-above}
use Rattle.pm_num.specs.Ratio.{Ratio, is_above, micros}
use Rattle.pm_table.specs.{Laws.CellsAreToldApart, declared.cell.Cell.Cell, declared.cell.Cell.TheVariants.Out, declared.reg.Reg.Reg}
use Rattle.pm_table.specs.Cell.{IsCell, is_cell, is_output_cell, same_cell, cell_accepts}
use Rattle.pm_table.specs.Lemmas.{is_cell-there, same_cell-itself}
use Rattle.pm_table.specs.declared.reg.Reg.TheVariants as reg
use Rattle.pm_table.specs.declared.reg.Reg.TheVariants.{Operation, VoutMax, VoutMin}
use Rattle.pm_model.specs.declared.order_machine.PendingJob.{PendingJob}
use Rattle.pm_model.specs.Commanded.{limited, selected_register, Scale, commanded, selected}
use Rattle.pm_model.specs.Settings.{word_at, Words as Settings}
use Rattle.pm_device.specs.declared.config.Config.{Config}
use Rattle.pm_device.specs.Held.{shape_for, value_for, Held}
use Rattle.pm_host.specs.{Now.host_now, Refusals.IsSetup, declared.command.Command.TheVariants.RestoreUserAll}
use Rattle.pm_host.specs.{declared.knowledge.Possible.Possible}
use Rattle.pm_host.specs.Laws.{PossibleWordsAreFollowed, TranscriptsAreFollowed}
use Rattle.pm_host.specs.Marks.{Mark, Put, Good, Restored, Restart, goods, marks, put_by, puts}
use Rattle.pm_host.specs.Possible.{is_listed, is_possible, possible_of, once, possible_from, words_since}
use Rattle.pm_host.specs.Summary.{Summary, possible_at, format_at}
use Rattle.pm_host.specs.Transcript.{Setup, Job, Order, Send, Entry, Accepted, Finished, Got, Restarted, open_job, told_since}
use Rattle.pm_host.specs.Transcript.{is_write_turn}
use Rattle.pm_host.specs.declared.knowledge.Possible.TheVariants.{Any, Words}
use Rattle.pm_limits.specs.{declared.band.Band.Band, declared.ends.Side.Side, declared.fault.LimitFault.LimitFault}
use Rattle.pm_limits.specs.{declared.output_limits.OutputLimits.TheVariants.Between, declared.part_registers.PartRegisters.PartRegisters}
use Rattle.pm_limits.specs.Band.{HasDens, InBand, Known, band_at, band_with, band_within, end_with, is_yes, known_of_output}
use Rattle.pm_limits.specs.Band.{may_select_avsbus}
use Rattle.pm_limits.specs.Band.{operation_end, operations, within_of, word_end, side_end}
use Rattle.pm_limits.specs.Bounds.{Bounds, IsWithin, bounds_fault}
use Rattle.pm_limits.specs.declared.ends.Side.TheVariants.{Lowest, Highest}
use Rattle.pm_limits.specs.declared.guard.Within.TheVariants as within
use Rattle.pm_log.specs.{declared.act.Act.Act, declared.claim.Claim.Claim}
use Rattle.pm_log.specs.Checks.{Accepts, AreClaimed, LogsAreTranscripts, MightCome, is_claimed, is_only, is_word_only, replayed, transcript}
use Rattle.pm_log.specs.declared.claim.Claim.TheVariants.{Holds, Commands}
use Rattle.pm_world.specs.{Honest.IsSpelled, Lemmas.Formats.sound-dens, Lemmas.Limits.yes-parts, Lemmas.SinceRestart.since-same}
use Rattle.pm_world.specs.{Lemmas.entries-more, Limited.commands, Retelling.open_pending, Setup.setup_of, State.share_of, Surveys.was_read}
use Rattle.pm_world.specs.{declared.event.Event.Event}
use Rattle.pm_world.specs.Bands.{AreShort, BandStands, HoldsMissing, MissingUntold, end_choices}
use Rattle.pm_world.specs.Confirmed.{is_good_for, reads, reads_cell, restarted_since, restarts_converter}
use Rattle.pm_world.specs.Laws.{LivesAreFollowed, PossibleWordsAreHeld, LearnedFormatsAreTrue, PossibleWordsAreExact, ListsSayEnough}
use Rattle.pm_world.specs.Lemmas.Hosts.{same-outputs, like-setup}
use Rattle.pm_world.specs.Life.{life, now, state_of}
use Rattle.pm_world.specs.LimitLaws.{BandsAreHeld, BandsAreExact}
use Rattle.pm_world.specs.Lived.{EventsAreLived, IsLived}
use Rattle.pm_world.specs.Moves.{MovesBy, SettingsMoveByTheOpenJob, came_back, ordered, restored, words_at}
use Rattle.pm_world.specs.Possible.{host_has_read, restarts_host, restarted_since_host}
use Rattle.pm_world.specs.Uncertainty.{AreOpen, ArePossible, Choice, due_before, may_hold, since_restart, witness_events, witness_start}
use Rattle.pm_part_laws.specs.Alike.{LivesAlike, SameSettingsLiveAlike}
use Rattle.pm_part_laws.specs.Happenings.{Happening, Happens, Hears, MayAllHappen, beside}
use Rattle.pm_part_laws.specs.Lemmas.Narrow.{at, at-since, commands-at, config, earlier-may, missing-at, newest-at, pending-at}
use Rattle.pm_part_laws.specs.Lemmas.Narrow.{restarts-like, since, since-at, stands-at}
use Rattle.pm_log_laws.specs.Checked as world
use Rattle.pm_log_laws.specs.Checked.{HeldWhenRead, TellsLog, LeavesOther, CommandsOther, LeavesCell, LeavesCommand, may_write}
use Rattle.pm_log_laws.specs.Checked.{AcceptedClaimsAreHeld, AcceptedClaimsStay, AcceptedVoltagesStay}
use Rattle.pm_log_laws.specs.CheckedBeside.{AcceptedClaimsHoldBeside, LeavesCellBeside as CheckedBesideLeavesCell}

-- What was possible stays so until the next good answer for the cell, and so what a claim says was held at the last one.

-- the laws below
pub record Below : Type 0 where
  pub transcripts : TranscriptsAreFollowed
  pub possible : PossibleWordsAreFollowed
  pub logs : LogsAreTranscripts
  pub events : EventsAreLived
  pub lives : LivesAreFollowed
  pub words : PossibleWordsAreHeld

-- ---- Marks ----

-- a word that was possible is, after marks that aren't a good answer for the cell
keeps-one : PossibleWordsAreFollowed → (mark : Mark) (before : List Mark) (cell : Cell) (word : ℕ) →
    is_good_for cell mark ≡ false → is_possible word (possible_of before cell) ≡ true →
    is_possible word (possible_of (mark ∷ before) cell) ≡ true
keeps-one law (Put put other) before cell word none was = law.put before put cell other word ∙ go (same_cell put cell) was where
  go : (b : Bool) → is_possible word (possible_of before cell) ≡ true →
      cond b (is_possible word (possible_of before cell) || other == word) (is_possible word (possible_of before cell)) ≡ true
  go true e = ap (λ (p : Bool). p || other == word) e
  go false e = e
keeps-one law (Good read other) before cell word none was =
    law.good before read cell other word
    ∙ (ap (λ (b : Bool). cond b (other == word) (cond (is_possible other (possible_of before read)) (is_possible word (possible_of before cell)) true)) none
    ∙ go (is_possible other (possible_of before read)) was)
  where
    go : (b : Bool) → is_possible word (possible_of before cell) ≡ true →
        cond b (is_possible word (possible_of before cell)) true ≡ true
    go true e = e
    go false e = refl
keeps-one law Restored before cell word none was = law.restored before cell word ∙ go (is_output_cell cell) was where
  go : (b : Bool) → is_possible word (possible_of before cell) ≡ true →
      cond b true (is_possible word (possible_of before cell)) ≡ true
  go true e = refl
  go false e = e
keeps-one law Restart before cell word none was = law.restart before cell word

keeps-all : PossibleWordsAreFollowed → (more before : List Mark) (cell : Cell) (word : ℕ) →
    list_any (is_good_for cell) more ≡ false → is_possible word (possible_of before cell) ≡ true →
    is_possible word (possible_of (more ++ before) cell) ≡ true
keeps-all law [] before cell word none was = was
keeps-all law (mark ∷ more) before cell word none was =
    let apart = or_parts (is_good_for cell mark) (list_any (is_good_for cell) more) none in
    keeps-one law mark (more ++ before) cell word apart.0 (keeps-all law more before cell word apart.1 was)

-- what begins to be sent is no good answer
puts-none : (cell : Cell) (job : Option Job) (told : List Entry) → list_any (is_good_for cell) (put_by job told) ≡ false
puts-none cell None told = refl
puts-none cell (Some (Order put word)) told = go (is_write_turn told) where
  go : (b : Bool) → list_any (is_good_for cell) (cond b (Put put word ∷ []) []) ≡ false
  go true = refl
  go false = refl
puts-none cell (Some (Send RestoreUserAll)) told = refl
puts-none cell (Some (Send command)) told = refl
puts-none cell (Some job) told = refl

puts-no : (setup : Setup) (cell : Cell) (entries : List Entry) → list_any (is_good_for cell) (puts setup entries) ≡ false
unfolding puts
puts-no setup cell entries = puts-none cell (open_job setup entries) (told_since entries)

-- ---- Events ----

-- a word that was possible is, after an entry that is no good answer for the cell
keeps-entry : PossibleWordsAreFollowed → (setup : Setup) (before : List Entry) (cell : Cell) (word : ℕ) (told : Option Entry) →
    reads setup before cell told ≡ false → is_possible word (possible_of (marks setup before) cell) ≡ true →
    is_possible word (possible_of (marks setup (option_to_list told ++ before)) cell) ≡ true
keeps-entry law setup before cell word None none was = was
keeps-entry law setup before cell word (Some (Accepted job)) none was =
    keeps-all law (puts setup (Accepted job ∷ before)) (marks setup before) cell word (puts-no setup cell (Accepted job ∷ before)) was
keeps-entry law setup before cell word (Some (Finished acked)) none was =
    keeps-all law (puts setup (Finished acked ∷ before)) (marks setup before) cell word (puts-no setup cell (Finished acked ∷ before)) was
keeps-entry law setup before cell word (Some (Got bytes)) none was =
    keeps-all law (puts setup (Got bytes ∷ before)) (goods setup before bytes ++ marks setup before) cell word
    (puts-no setup cell (Got bytes ∷ before))
    (keeps-all law (goods setup before bytes) (marks setup before) cell word none was)
keeps-entry law setup before cell word (Some Restarted) none was = law.restart (marks setup before) cell word

-- the words that the cell may hold by the marks of some events
abbrev possible_in : Config → ℕ → Cell → List Event → Possible
possible_in config passes cell events = possible_of (marks (setup_of config passes) (life config passes events).entries) cell

-- a word that was possible is, after an event that gives the host no such answer
keeps-event : PossibleWordsAreFollowed → (config : Config) (passes : ℕ) (before : List Event) (event : Event) (cell : Cell) (word : ℕ) →
    reads_cell config passes cell before event ≡ false → is_possible word (possible_in config passes cell before) ≡ true →
    is_possible word (possible_in config passes cell (event ∷ before)) ≡ true
keeps-event law config passes before event cell word none was =
    subst (λ (es : List Entry). is_possible word (possible_of (marks (setup_of config passes) es) cell) ≡ true)
    (sym (entries-more config passes before event))
    (keeps-entry law (setup_of config passes) (life config passes before).entries cell word
    (share_of (now config passes before) event).told none was)

-- the last good answer for the cell since the host last started
record LastRead (config : Config) (passes : ℕ) (cell : Cell) (events : List Event) : Type 0 where
  pub later : List Event
  pub event : Event
  pub before : List Event
  pub at : events ≡ later ++ event ∷ before
  pub read : reads_cell config passes cell before event ≡ true
  pub last : was_read config passes cell later (event ∷ before) ≡ false
  pub steady : list_any restarts_host later ≡ false
  pub keeps : (word : ℕ) → is_possible word (possible_in config passes cell (event ∷ before)) ≡ true →
      is_possible word (possible_in config passes cell events) ≡ true

last-read : PossibleWordsAreFollowed → (config : Config) (passes : ℕ) (cell : Cell) (events : List Event) →
    host_has_read config passes cell events ≡ true → LastRead config passes cell events
unfolding host_has_read
last-read law config passes cell [] is = cc
last-read law config passes cell (event ∷ before) is =
    go (λ h. last-read law config passes cell before h) (restarts_host event) (reads_cell config passes cell before event) refl refl is
  where
    go : (host_has_read config passes cell before ≡ true → LastRead config passes cell before) → (restart read : Bool) →
        restarts_host event ≡ restart → reads_cell config passes cell before event ≡ read →
        cond restart false (read || host_has_read config passes cell before) ≡ true → LastRead config passes cell (event ∷ before)
    go earlier true read e r h = cc
    go earlier false true e r h = record {
      later = [];
      event = event;
      before = before;
      at = refl;
      read = r;
      last = refl;
      steady = refl;
      keeps = λ word was. was;
    }
    go earlier false false e r h =
        let was = earlier h in
        let here : reads_cell config passes cell (was.later ++ was.event ∷ was.before) event ≡ false
        = subst (λ (es : List Event). reads_cell config passes cell es event ≡ false) was.at r in
        record {
          later = event ∷ was.later;
          event = was.event;
          before = was.before;
          at = ap (λ (es : List Event). event ∷ es) was.at;
          read = was.read;
          last = ap (λ (b : Bool). b || was_read config passes cell was.later (was.event ∷ was.before)) here ∙ was.last;
          steady = ap (λ (b : Bool). b || list_any restarts_host was.later) e ∙ was.steady;
          keeps = λ word held. keeps-event law config passes before event cell word r (was.keeps word held);
        }

-- a cell that was just read wasn't left by a restart since
just-read : (config : Config) (passes : ℕ) (cell : Cell) (before : List Event) (event : Event) →
    reads_cell config passes cell before event ≡ true → restarted_since config passes cell (event ∷ before) ≡ false
unfolding restarted_since
just-read config passes cell before event read =
    ap (λ (b : Bool). cond b false (restarts_converter event || restarted_since config passes cell before)) read

-- ---- What a claim says ----

-- one word alone is possible: another isn't
only-word : (word other : ℕ) (possible : Possible) → is_only word possible ≡ true → is_possible other possible ≡ true → other ≡ word
only-word word other Any alone may = cc
only-word word other (Words words) alone may = go words.items alone may where
  go : (ws : List ℕ) → is_word_only word ws ≡ true → is_listed other ws ≡ true → other ≡ word
  go [] a m = cc
  go (listed ∷ []) a m = grind (arith, nat_tests)
  go (listed ∷ second ∷ ws) a m = cc

only-found : (word : ℕ) (possible : Possible) → is_only word possible ≡ true → possible ≢ Any
only-found word Any alone e = cc
only-found word (Words words) alone e = cc

-- a claim that is one of those that are known
one-claimed : (s : Summary) (claims : List Claim) (at : ℕ) (claim : Claim) → AreClaimed s claims → slice_get claims at ≡ Some claim →
    is_claimed s claim ≡ true
one-claimed s [] at claim known is = cc
one-claimed s (first ∷ claims) zero claim known is =
    subst (λ (c : Claim). is_claimed s c ≡ true) (same_Some first claim is) known.0
one-claimed s (first ∷ claims) (suc at) claim known is = one-claimed s claims at claim known.1 is

-- ---- A log, and a life that tells it ----

-- the host holds what the replay of the log does
pub same-host : Below → (config : Config) (passes : ℕ) (events : List Event) (log : List Act) → IsLived config passes events →
    TellsLog config passes events log → MightCome (setup_of config passes) log →
    (now config passes events).host ≡ replayed (setup_of config passes) log
unfolding now state_of
same-host laws config passes events log lived tells come =
    let setup = setup_of config passes in
    let here = since-same laws.transcripts setup (life config passes events).entries lived.made (laws.lives.told config passes events lived) in
    let there = since-same laws.transcripts setup (transcript setup log) lived.made (laws.logs.told setup log lived.made come) in
    here.same ∙ (ap (λ (es : List Entry). host_now setup es) tells ∙ (sym there.same ∙ laws.logs.same setup log lived.made come))

-- what a claim that is known says of a life
pub record Claimed (config : Config) (passes : ℕ) (cell : Cell) (word : ℕ) (events : List Event) : Type 0 where
  pub there : IsCell config.count cell
  pub alone : is_only word (possible_at (now config passes events).host cell) ≡ true

pub known-now : Below → (config : Config) (passes : ℕ) (events : List Event) (log : List Act) (claims : List Claim) (at : ℕ) (claim : Claim) →
    IsLived config passes events → TellsLog config passes events log → Accepts (setup_of config passes) log claims →
    slice_get claims at ≡ Some claim → is_claimed (now config passes events).host claim ≡ true
known-now laws config passes events log claims at claim lived tells accepts is =
    subst (λ (s : Summary). is_claimed s claim ≡ true)
    (sym (same-host laws config passes events log lived tells accepts.come))
    (one-claimed (replayed (setup_of config passes) log) claims at claim accepts.claimed is)

pub claimed : Below → (config : Config) (passes : ℕ) (events : List Event) (log : List Act) (claims : List Claim) (at : ℕ)
    (cell : Cell) (word : ℕ) →
    IsLived config passes events → TellsLog config passes events log → Accepts (setup_of config passes) log claims →
    slice_get claims at ≡ Some (Holds cell word) → Claimed config passes cell word events
claimed laws config passes events log claims at cell word lived tells accepts is =
    let here = known-now laws config passes events log claims at (Holds cell word) lived tells accepts is in
    let apart = and_parts (is_cell (now config passes events).host.setup.outputs cell) _ here in
    record {
      there = is_cell-there config.count cell
          (subst (λ (n : ℕ). is_cell n cell ≡ true) (same-outputs config passes events) apart.0);
      alone = apart.1;
    }

-- the word is held, where the converter didn't restart since
pub held-now : Below → (config : Config) (passes : ℕ) (events : List Event) (cell : Cell) (word : ℕ) → IsLived config passes events →
    Claimed config passes cell word events → restarted_since config passes cell events ≡ false →
    word_at (now config passes events).device.words cell ≡ word
held-now laws config passes events cell word lived claim since =
    only-word word (word_at (now config passes events).device.words cell) (possible_at (now config passes events).host cell) claim.alone
    ((laws.words.held config passes events lived).held cell claim.there since)

-- a claimed word was held at the last good answer
pub held-then : Below → (config : Config) (passes : ℕ) (events : List Event) (cell : Cell) (word : ℕ) → IsLived config passes events →
    Claimed config passes cell word events → HeldWhenRead config passes cell word events
held-then laws config passes events cell word lived claim =
    let here = laws.words.held config passes events lived in
    let was = last-read laws.possible config passes cell events
    (here.found cell claim.there (only-found word (possible_at (now config passes events).host cell) claim.alone)) in
    let moment = was.event ∷ was.before in
    let lived_then : IsLived config passes moment = laws.events.earlier config passes was.later moment
    (subst (λ (es : List Event). IsLived config passes es) was.at lived) in
    let there = laws.words.held config passes moment lived_then in
    let word_then = word_at (now config passes moment).device.words cell in
    let may : is_possible word_then (possible_at (now config passes moment).host cell) ≡ true
    = there.held cell claim.there (just-read config passes cell was.before was.event was.read) in
    let marked : is_possible word_then (possible_in config passes cell moment) ≡ true
    = subst (λ (p : Possible). is_possible word_then p ≡ true) (there.possible cell claim.there) may in
    let kept : is_possible word_then (possible_at (now config passes events).host cell) ≡ true
    = subst (λ (p : Possible). is_possible word_then p ≡ true) (sym (here.possible cell claim.there)) (was.keeps word_then marked) in
    record {
      later = was.later;
      event = was.event;
      before = was.before;
      at = was.at;
      read = was.read;
      last = was.last;
      steady = was.steady;
      held = only-word word word_then (possible_at (now config passes events).host cell) claim.alone kept;
    }

-- What an output commands lies between the microvolts that are claimed.

-- a cut value has a positive denominator where the three have
limited-den : (selected least greatest : Ratio) → 0 < selected.den → 0 < least.den → 0 < greatest.den →
    0 < (limited selected least greatest).den
limited-den selected least greatest s l g =
    go (is_above selected greatest || is_above least selected && is_above least greatest) (is_above least selected)
  where
    go : (cut low : Bool) → 0 < (cond cut greatest (cond low least selected)).den
    go true low = g
    go false true = l
    go false false = s

end-den : (side : Side) (shape : Shape) (known : Known) (bytes : List ℕ) → HasDens shape → 0 < (end_with side shape known bytes).den
unfolding end_with
end-den side shape known bytes dens = limited-den _ _ _
    (dens (word_end side shape known (selected_register (operation_end side shape known bytes))))
    (dens (word_end side shape known VoutMin)) (dens (word_end side shape known VoutMax))

-- a band of a host whose formats have them
record HasEnds (band : Band) : Type 0 where
  pub least : 0 < band.least.den
  pub greatest : 0 < band.greatest.den

band-ends : (part : PartRegisters) (s : Summary) (output : ℕ) (band : Band) →
    ((shape : Shape) → format_at s output ≡ Some shape → HasDens shape) → band_at part s output ≡ Some band → HasEnds band
band-ends part s output band dens is = go (may_select_avsbus (possible_at s (Out output Operation))) (format_at s output) refl is where
  go : (avs : Bool) (format : Option Shape) → format_at s output ≡ format →
      cond avs None (option_map (λ shape. band_with shape (known_of_output part shape s output) (operations (possible_at s (Out output Operation)))) format)
      ≡ Some band → HasEnds band
  go true format e h = cc
  go false None e h = cc
  go false (Some shape) e h =
      let known = known_of_output part shape s output in
      let bytes = operations (possible_at s (Out output Operation)) in
      subst (λ (b : Band). HasEnds b) (same_Some (band_with shape known bytes) band h) (record {
        least = end-den Lowest shape known bytes (dens shape e);
        greatest = end-den Highest shape known bytes (dens shape e);
      })

in-bounds : (bounds : Bounds) (band : Band) (value : Ratio) → HasEnds band → is_yes (band_within bounds band) ≡ true →
    InBand band value → IsWithin bounds value
in-bounds bounds band value ends said inside =
    let parts = yes-parts bounds band said in
    record {
      from_least = at_most-trans (micros bounds.least) band.least value ends.least
          (at-most (micros bounds.least) band.least parts.0) inside.from_least;
      to_greatest = at_most-trans value band.greatest (micros bounds.most) ends.greatest
          inside.to_greatest (at-most band.greatest (micros bounds.most) parts.1);
    }

-- a claim that is known speaks of an output that is there
pub output-there : Below → (config : Config) (passes : ℕ) (events : List Event) (log : List Act) (claims : List Claim) (at : ℕ) (output : ℕ)
    (part : PartRegisters) (least most : ℤ) → IsLived config passes events → TellsLog config passes events log →
    Accepts (setup_of config passes) log claims → slice_get claims at ≡ Some (Commands output part least most) → output < config.count
output-there laws config passes events log claims at output part least most lived tells accepts is =
    let s = (now config passes events).host in
    let known = known-now laws config passes events log claims at (Commands output part least most) lived tells accepts is in
    let apart = and_parts (nat_lt output s.setup.outputs) _ known in
    let inside : nat_lt output config.count ≡ true = subst (λ (n : ℕ). nat_lt output n ≡ true) (same-outputs config passes events) apart.0 in
    grind (arith, nat_tests)

-- what an output commands lies between the microvolts of a claim that is known
pub commands-claimed : Below → BandsAreHeld → LearnedFormatsAreTrue →
    (config : Config) (passes : ℕ) (events : List Event) (log : List Act) (claims : List Claim) (at : ℕ) (output : ℕ)
    (part : PartRegisters) (least most : ℤ) →
    IsSpelled config → IsLived config passes events → TellsLog config passes events log →
    Accepts (setup_of config passes) log claims → slice_get claims at ≡ Some (Commands output part least most) →
    AreShort (now config passes events).device.words output →
    BandStands config passes events (now config passes events).host output →
    HoldsMissing part config (now config passes events).device.words output →
    IsWithin (record { least = least; most = most }) (commands config passes events output)
commands-claimed laws bands formats config passes events log claims at output part least most spelled lived tells accepts is short stands missing =
    let s = (now config passes events).host in
    let known = known-now laws config passes events log claims at (Commands output part least most) lived tells accepts is in
    let apart = and_parts (nat_lt output s.setup.outputs) _ known in
    let here : output < config.count = output-there laws config passes events log claims at output part least most lived tells accepts is in
    let yes = (and_parts (is_none (bounds_fault least most)) _ apart.1).1 in
    let agree = formats.agree config passes events spelled lived in
    go here agree.held (band_at part s output) refl yes
  where
    go : output < config.count →
        ((output : ℕ) (shape : Shape) → format_at (now config passes events).host output ≡ Some shape → shape ≡ shape_for config output) →
        (b : Option Band) → band_at part (now config passes events).host output ≡ b →
        is_yes (within_of (Between (record { least = least; most = most })) b) ≡ true →
        IsWithin (record { least = least; most = most }) (commands config passes events output)
    go here agree None e said = cc
    go here agree (Some band) e said = in-bounds (record { least = least; most = most }) band (commands config passes events output)
        (band-ends part (now config passes events).host output band
        (λ shape found. subst (λ (f : Shape). HasDens f) (sym (agree output shape found)) (sound-dens config output lived.sound here)) e)
        said
        (bands config passes part events output band spelled lived here short stands missing e)

-- Another word that a cell may hold than the one that is claimed, and the life that leaves it.

-- ---- The words of a list ----

-- the second of two possible words isn't the first
abbrev AreApart : Possible → Type 0
AreApart Any = Unit {0}
AreApart (Words words) = (first second : ℕ) (rest : List ℕ) → words.items ≡ first ∷ second ∷ rest → (second == first) ≡ false

-- the head of a filtered list passed the test
filter-head : (p : ℕ → Bool) (words : List ℕ) (head : ℕ) (rest : List ℕ) → filter p words ≡ head ∷ rest → p head ≡ true
filter-head p [] head rest is = cc
filter-head p (word ∷ words) head rest is = go (λ h. filter-head p words head rest h) (p word) refl is where
  go : (filter p words ≡ head ∷ rest → p head ≡ true) → (b : Bool) → p word ≡ b →
      cond b (word ∷ filter p words) (filter p words) ≡ head ∷ rest → p head ≡ true
  go later true e h =
      let same : word ≡ head = cc in
      subst (λ (w : ℕ). p w ≡ true) same e
  go later false e h = later h

not-true : (b : Bool) → not b ≡ true → b ≡ false
not-true true h = cc
not-true false h = refl

once-apart : (words : List ℕ) (first second : ℕ) (rest : List ℕ) → once words ≡ first ∷ second ∷ rest → (second == first) ≡ false
once-apart [] first second rest is = cc
once-apart (word ∷ words) first second rest is =
    let same : word ≡ first = cc in
    let tail : filter (λ other. not (other == word)) (once words) ≡ second ∷ rest = cc in
    let apart : (second == word) ≡ false = not-true (second == word) (filter-head (λ other. not (other == word)) (once words) second rest tail) in
    subst (λ (w : ℕ). (second == w) ≡ false) same apart

from-apart : (found : Option (List ℕ)) → AreApart (possible_from found)
from-apart None = tt
from-apart (Some words) = λ first second rest is. once-apart (reverse words) first second rest is

of-apart : (told : List Mark) (cell : Cell) → AreApart (possible_of told cell)
unfolding possible_of
of-apart told cell = from-apart (words_since told cell)

-- ---- The choice ----

-- a listed word that isn't this one; of two words that each register takes, where any may be there, too
abbrev other_in : ℕ → List ℕ → ℕ
other_in word [] = 0
other_in word (listed ∷ words) = cond (listed == word) (other_in word words) listed

abbrev pick_other : ℕ → Possible → ℕ
pick_other word Any = cond (word == 0x00) 0x80 0x00
pick_other word (Words words) = other_in word words.items

-- the held one, where words are listed
abbrev pick_held : ℕ → Possible → ℕ
pick_held held Any = 0x00
pick_held held (Words words) = held

abbrev choose : Summary → Settings → Cell → ℕ → Choice
choose s held cell word = λ other.
    cond (same_cell cell other) (pick_other word (possible_at s other)) (pick_held (word_at held other) (possible_at s other))

-- each register takes 00h and 80h
takes-off : (output : ℕ) (register : Reg) → cell_accepts (Out output register) 0x00 ≡ true
takes-off output reg.Operation = refl
takes-off output register = refl

takes-on : (output : ℕ) (register : Reg) → cell_accepts (Out output register) 0x80 ≡ true
takes-on output reg.Operation = refl
takes-on output register = refl

-- the other word may be there, and isn't the claimed one
record IsOther (cell : Cell) (word : ℕ) (possible : Possible) : Type 0 where
  may : may_hold cell (pick_other word possible) possible ≡ true
  other : pick_other word possible ≢ word

any-other : (output : ℕ) (register : Reg) (word : ℕ) → IsOther (Out output register) word Any
any-other output register word = go (word == 0x00) refl where
  go : (b : Bool) → (word == 0x00) ≡ b → IsOther (Out output register) word Any
  go true e = record {
    may = ap (λ (c : Bool). cell_accepts (Out output register) (cond c 0x80 0x00)) e ∙ takes-on output register;
    other = λ same. let zero_is : word ≡ 0x00 = grind (arith, nat_tests) in
        let bad : 0x80 ≡ word = ap (λ (c : Bool). cond c 0x80 0x00) (sym e) ∙ same in absurd (omega (arith, bad, zero_is));
  }
  go false e = record {
    may = ap (λ (c : Bool). cell_accepts (Out output register) (cond c 0x80 0x00)) e ∙ takes-off output register;
    other = λ same. let bad : 0x00 ≡ word = ap (λ (c : Bool). cond c 0x80 0x00) (sym e) ∙ same in
        let worse : (word == 0x00) ≡ true = subst (λ (w : ℕ). (w == 0x00) ≡ true) bad refl in cc;
  }

-- a list has another word than this one
list-other : (word held : ℕ) (words : List ℕ) → is_word_only word words ≡ false → is_listed held words ≡ true →
    ((first second : ℕ) (rest : List ℕ) → words ≡ first ∷ second ∷ rest → (second == first) ≡ false) →
    (is_listed (other_in word words) words ≡ true) × (other_in word words ≢ word)
list-other word held [] alone listed apart = cc
list-other word held (first ∷ []) alone listed apart = (
  ap (λ (b : Bool). is_listed (cond b 0 first) (first ∷ [])) alone ∙ grind (arith, nat_tests),
  λ same. let bad : first ≡ word = ap (λ (b : Bool). cond b 0 first) (sym alone) ∙ same in grind (arith, nat_tests),
)
list-other word held (first ∷ second ∷ rest) alone listed apart = go (first == word) (second == word) refl refl where
  go : (one two : Bool) → (first == word) ≡ one → (second == word) ≡ two →
      (is_listed (cond one (cond two (other_in word rest) second) first) (first ∷ second ∷ rest) ≡ true)
      × (cond one (cond two (other_in word rest) second) first ≢ word)
  go true true e f = let bad = apart first second rest refl in grind (arith, nat_tests)
  go true false e f = (grind (arith, nat_tests), λ same. grind (arith, nat_tests))
  go false two e f = (grind (arith, nat_tests), λ same. grind (arith, nat_tests))

is-other : (output : ℕ) (register : Reg) (word held : ℕ) (possible : Possible) → is_only word possible ≡ false →
    is_possible held possible ≡ true → AreApart possible → IsOther (Out output register) word possible
is-other output register word held Any alone listed apart = any-other output register word
is-other output register word held (Words words) alone listed apart =
    let found = list-other word held words.items alone listed apart in
    record { may = found.0; other = found.1 }

-- ---- A life ----

-- if the converter didn't restart since the host did, it didn't since a good answer
no-restart : (config : Config) (passes : ℕ) (cell : Cell) (events : List Event) → restarted_since_host events ≡ false →
    host_has_read config passes cell events ≡ true → restarted_since config passes cell events ≡ false
unfolding restarted_since_host host_has_read restarted_since
no-restart config passes cell [] steady read = cc
no-restart config passes cell (event ∷ before) steady read =
    go (λ s h. no-restart config passes cell before s h) (restarts_host event) (restarts_converter event)
    (reads_cell config passes cell before event) steady read
  where
    go : (restarted_since_host before ≡ false → host_has_read config passes cell before ≡ true → restarted_since config passes cell before ≡ false) →
        (host device reads : Bool) → cond host false (device || restarted_since_host before) ≡ false →
        cond host false (reads || host_has_read config passes cell before) ≡ true →
        cond reads false (device || restarted_since config passes cell before) ≡ false
    go later true device reads s h = cc
    go later false device true s h = refl
    go later false true false s h = cc
    go later false false false s h = later s h

abbrev held_in : Config → ℕ → List Event → Cell → ℕ
held_in config passes events cell = word_at (now config passes events).device.words cell

abbrev possible_now : Config → ℕ → List Event → Cell → Possible
possible_now config passes events cell = possible_at (now config passes events).host cell

-- the word that is held is possible for each cell
held-possible : Below → (config : Config) (passes : ℕ) (events : List Event) (cell : Cell) → IsLived config passes events →
    restarted_since_host events ≡ false → IsCell config.count cell →
    is_possible (held_in config passes events cell) (possible_now config passes events cell) ≡ true
held-possible laws config passes events cell lived steady there = go (possible_now config passes events cell) refl where
  go : (p : Possible) → possible_now config passes events cell ≡ p → is_possible (held_in config passes events cell) p ≡ true
  go Any e = refl
  go (Words words) e =
      let here = laws.words.held config passes events lived in
      subst (λ (p : Possible). is_possible (held_in config passes events cell) p ≡ true) e
      (here.held cell there (no-restart config passes cell events steady (here.found cell there (λ any. let bad = sym e ∙ any in cc))))

-- the choice is of possible words
chosen-possible : Below → CellsAreToldApart → (config : Config) (passes : ℕ) (events : List Event) (output : ℕ) (register : Reg) (word : ℕ) →
    IsLived config passes events → restarted_since_host events ≡ false →
    IsOther (Out output register) word (possible_now config passes events (Out output register)) →
    ArePossible config (now config passes events).host
    (choose (now config passes events).host (now config passes events).device.words (Out output register) word)
chosen-possible laws apart config passes events output register word lived steady other = λ o r here.
    go o r here (same_cell (Out output register) (Out o r)) refl
  where
    held-one : (o : ℕ) (r : Reg) (held : ℕ) (p : Possible) → is_possible held p ≡ true →
        may_hold (Out o r) (pick_held held p) p ≡ true
    held-one o r held Any is = takes-off o r
    held-one o r held (Words words) is = is

    go : (o : ℕ) (r : Reg) → o < config.count → (b : Bool) → same_cell (Out output register) (Out o r) ≡ b →
        may_hold (Out o r) (cond b (pick_other word (possible_now config passes events (Out o r)))
        (pick_held (held_in config passes events (Out o r)) (possible_now config passes events (Out o r))))
        (possible_now config passes events (Out o r)) ≡ true
    go o r here true e = subst (λ (c : Cell). may_hold c (pick_other word (possible_now config passes events c)) (possible_now config passes events c) ≡ true)
        ((apart (Out output register) (Out o r)).0 e) other.may
    go o r here false e = held-one o r (held_in config passes events (Out o r)) (possible_now config passes events (Out o r))
        (held-possible laws config passes events (Out o r) lived steady here)

-- what was told since a restart has no other before it
pub since-twice : (entries : List Entry) → since_restart (since_restart entries) ≡ since_restart entries
since-twice [] = refl
since-twice (Accepted job ∷ before) = ap (λ (es : List Entry). Accepted job ∷ es) (since-twice before)
since-twice (Finished acked ∷ before) = ap (λ (es : List Entry). Finished acked ∷ es) (since-twice before)
since-twice (Got bytes ∷ before) = ap (λ (es : List Entry). Got bytes ∷ es) (since-twice before)
since-twice (Restarted ∷ before) = refl

-- the claim is false of a life that tells the log
pub open-life : Below → CellsAreToldApart → PossibleWordsAreExact → (config : Config) (passes : ℕ) (events : List Event) (log : List Act)
    (output : ℕ) (register : Reg) (word : ℕ) →
    IsLived config passes events → TellsLog config passes events log → MightCome (setup_of config passes) log →
    restarted_since_host events ≡ false →
    AreOpen (marks (setup_of config passes) (since_restart (transcript (setup_of config passes) log))) →
    output < config.count →
    is_claimed (replayed (setup_of config passes) log) (Holds (Out output register) word) ≡ false →
    LeavesOther config passes log (Out output register) word
open-life laws apart exact config passes events log output register word lived tells come steady unwritten there unknown =
    let cell = Out output register in
    let host = (now config passes events).host in
    let setup = setup_of config passes in
    let claim : Claim = Holds cell word in
    let entries = since_restart (life config passes events).entries in
    let unclaimed : is_claimed host claim ≡ false = subst (λ (s : Summary). is_claimed s claim ≡ false)
    (sym (same-host laws config passes events log lived tells come)) unknown in
    let inside : nat_lt output host.setup.outputs ≡ true = subst (λ (n : ℕ). nat_lt output n ≡ true)
    (sym (same-outputs config passes events)) (grind (arith, nat_tests)) in
    let alone : is_only word (possible_at host cell) ≡ false
    = ap (λ (b : Bool). b && is_only word (possible_at host cell)) (sym inside) ∙ unclaimed in
    let here = laws.words.held config passes events lived in
    let other = is-other output register word (held_in config passes events cell) (possible_at host cell) alone
    (held-possible laws config passes events cell lived steady there)
    (subst (λ (p : Possible). AreApart p) (sym (here.possible cell there)) (of-apart (marks setup (life config passes events).entries) cell)) in
    let chosen = choose host (now config passes events).device.words cell word in
    let unlocked : AreOpen (marks setup entries) = subst (λ (es : List Entry). AreOpen (marks setup es)) (sym tells) unwritten in
    let leaves = exact.witness config passes events chosen lived steady unlocked
    (chosen-possible laws apart config passes events output register word lived steady other) in
    let start = witness_start config (due_before chosen (marks setup entries)) in
    let retold = witness_events setup chosen entries in
    let same : setup_of start passes ≡ setup = like-setup config start passes leaves.alike.addr leaves.alike.count in
    record {
      start = start;
      events = retold;
      alike = leaves.alike;
      lived = record {
        sound = leaves.sound;
        made = subst (λ (s : Setup). IsSetup s) (sym same) lived.made;
        legal = leaves.legal;
      };
      steady = leaves.steady;
      tells = ap (λ (es : List Entry). since_restart es) leaves.told
          ∙ (since-twice (life config passes events).entries
          ∙ (tells ∙ ap (λ (s : Setup). since_restart (transcript s log)) (sym same)));
      other = λ is. other.other
          (sym (ap (λ (b : Bool). cond b (pick_other word (possible_at host cell)) (pick_held (held_in config passes events cell) (possible_at host cell)))
          (same_cell-itself cell))
          ∙ (sym (leaves.left output register there) ∙ is));
    }

-- A life that tells a log and commands a voltage outside of what isn't known.

-- a band that isn't within limits has an end outside of them
record Outside (bounds : Bounds) (band : Band) : Type 0 where
  pub side : Side
  pub out : IsWithin bounds (side_end side band) → ⊥

outside : (bounds : Bounds) (band : Band) → is_yes (band_within bounds band) ≡ false → Outside bounds band
outside bounds band said = go (is_above (micros bounds.least) band.least) (is_above band.greatest (micros bounds.most))
    (is_above (micros bounds.least) band.greatest || is_above band.least (micros bounds.most)) refl refl said
  where
    go : (low high out : Bool) → is_above (micros bounds.least) band.least ≡ low → is_above band.greatest (micros bounds.most) ≡ high →
        is_yes (cond (not (low || high)) within.Yes (cond out within.No within.NotKnown)) ≡ false → Outside bounds band
    go true high out e f h = record {
      side = Lowest;
      out = λ inside. let bad = not-above (micros bounds.least) band.least inside.from_least in cc;
    }
    go false true out e f h = record {
      side = Highest;
      out = λ inside. let bad = not-above band.greatest (micros bounds.most) inside.to_greatest in cc;
    }
    go false false out e f h = cc

pub open-voltage : Below → BandsAreExact → (config : Config) (passes : ℕ) (events : List Event) (log : List Act) (output : ℕ) (part : PartRegisters)
    (least most : ℤ) →
    IsSpelled config → IsLived config passes events → TellsLog config passes events log → MightCome (setup_of config passes) log →
    restarted_since_host events ≡ false →
    AreOpen (marks (setup_of config passes) (since_restart (transcript (setup_of config passes) log))) →
    MissingUntold part config (replayed (setup_of config passes) log) →
    output < config.count → bounds_fault least most ≡ None → IsSome (band_at part (replayed (setup_of config passes) log) output) →
    is_claimed (replayed (setup_of config passes) log) (Commands output part least most) ≡ false →
    CommandsOther config passes log output (record { least = least; most = most })
open-voltage laws exact config passes events log output part least most spelled lived tells come steady unwritten missing there sound banded unknown =
    let same = same-host laws config passes events log lived tells come in
    let host = (now config passes events).host in
    let setup = setup_of config passes in
    let bounds : Bounds = record { least = least; most = most } in
    let unclaimed : is_claimed host (Commands output part least most) ≡ false
    = subst (λ (s : Summary). is_claimed s (Commands output part least most) ≡ false) (sym same) unknown in
    let inside : nat_lt output host.setup.outputs ≡ true = subst (λ (n : ℕ). nat_lt output n ≡ true)
    (sym (same-outputs config passes events)) (grind (arith, nat_tests)) in
    let said : is_yes (within_of (Between bounds) (band_at part host output)) ≡ false
    = ap (λ (b : Bool). b && is_yes (within_of (Between bounds) (band_at part host output)))
    (sym (ap (λ (o : Option LimitFault). is_none o) sound))
    ∙ (ap (λ (b : Bool). b && (is_none (bounds_fault least most) && is_yes (within_of (Between bounds) (band_at part host output)))) (sym inside) ∙ unclaimed) in
    go there (subst (λ (es : List Entry). AreOpen (marks setup es)) (sym tells) unwritten)
    (subst (λ (s : Summary). MissingUntold part config s) (sym same) missing)
    (band_at part host output) refl (subst (λ (s : Summary). IsSome (band_at part s output)) (sym same) banded) said
  where
    go : output < config.count → AreOpen (marks (setup_of config passes) (since_restart (life config passes events).entries)) →
        MissingUntold part config (now config passes events).host →
        (b : Option Band) → band_at part (now config passes events).host output ≡ b → IsSome b →
        is_yes (within_of (Between (record { least = least; most = most })) b) ≡ false →
        CommandsOther config passes log output (record { least = least; most = most })
    go there unlocked untold None e some said = cc
    go there unlocked untold (Some band) e some said =
        let setup = setup_of config passes in
        let entries = since_restart (life config passes events).entries in
        let end = outside (record { least = least; most = most }) band said in
        let sides : ℕ → Side = λ o. end.side in
        let found = exact config passes part events sides spelled lived steady untold unlocked in
        let leaves = found.0 in
        let chosen = end_choices part config (now config passes events).host sides in
        let start = witness_start config (due_before chosen (marks setup entries)) in
        let retold = witness_events setup chosen entries in
        let same : setup_of start passes ≡ setup = like-setup config start passes leaves.alike.addr leaves.alike.count in
        record {
          start = start;
          events = retold;
          alike = leaves.alike;
          lived = record {
            sound = leaves.sound;
            made = subst (λ (s : Setup). IsSetup s) (sym same) lived.made;
            legal = leaves.legal;
          };
          steady = leaves.steady;
          tells = ap (λ (es : List Entry). since_restart es) leaves.told
              ∙ (since-twice (life config passes events).entries
              ∙ (tells ∙ ap (λ (s : Setup). since_restart (transcript s log)) (sym same)));
          outside = λ within. end.out (subst (λ (v : Ratio). IsWithin (record { least = least; most = most }) v) (found.1 output band there e) within);
        }

-- A cell's word stays while the converter doesn't restart and no job that may write it is open; and so does what an output commands.

-- such an event moves no word of it
no-move : {config : Config} {passes : ℕ} {before : List Event} {cell : Cell} {word : ℕ} {event : Event} →
    MovesBy config passes before cell word event → restarts_converter event ≡ false →
    may_write cell (open_pending config passes before) ≡ false → ⊥
no-move (came_back is) steady apart = cc
no-move {cell = cell} (ordered arrival takes) steady apart =
    let bad = sym (same_cell-itself cell) ∙ (sym (ap (λ (o : Option PendingJob). may_write cell o) takes.opened) ∙ apart) in cc
no-move {cell = cell} (restored arrival takes output is) steady apart =
    let bad : true ≡ false = sym (ap (λ (o : Option PendingJob). may_write cell o) takes.opened) ∙ apart in cc

pub stay : SettingsMoveByTheOpenJob → EventsAreLived → (config : Config) (passes : ℕ) (cell : Cell) (before : List Event) → IsCell config.count cell →
    (later : List Event) → IsLived config passes (later ++ before) → LeavesCell config passes cell later before →
    word_at (words_at config passes (later ++ before)) cell ≡ word_at (words_at config passes before) cell
stay law events config passes cell before there [] lived leaves = refl
stay law events config passes cell before there (event ∷ later) lived leaves =
    go ((law config passes (event ∷ later ++ before) lived).moves [] (later ++ before) event cell refl there)
    (stay law events config passes cell before there later (events.earlier config passes (event ∷ []) (later ++ before) lived) leaves.2)
  where
    go : (word_at (words_at config passes (event ∷ later ++ before)) cell ≡ word_at (words_at config passes (later ++ before)) cell)
        ⊎ MovesBy config passes (later ++ before) cell (word_at (words_at config passes (event ∷ later ++ before)) cell) event →
        word_at (words_at config passes (later ++ before)) cell ≡ word_at (words_at config passes before) cell →
        word_at (words_at config passes (event ∷ later ++ before)) cell ≡ word_at (words_at config passes before) cell
    go (inl same) was = same ∙ was
    go (inr by) was = absurd (no-move by leaves.0 leaves.1)

-- the words by which an output commands are the same in both
abbrev Same : Settings → Settings → ℕ → Reg → Type 0
Same words others output register = word_at words (Out output register) ≡ word_at others (Out output register)

same_command : (value : Scale) (words others : Settings) (output : ℕ) → Same words others output Operation →
    Same words others output (selected_register (word_at others (Out output Operation))) →
    Same words others output VoutMax → Same words others output VoutMin →
    commanded value words output ≡ commanded value others output
unfolding commanded selected
same_command value words others output operation chosen most least =
    let picked : word_at words (Out output (selected_register (word_at words (Out output Operation))))
    ≡ word_at others (Out output (selected_register (word_at others (Out output Operation))))
    = ap (λ (byte : ℕ). word_at words (Out output (selected_register byte))) operation ∙ chosen in
    λ i. limited (value (picked i)) (value (least i)) (value (most i))

pub command-stays : SettingsMoveByTheOpenJob → EventsAreLived → (config : Config) (passes : ℕ) (output : ℕ) (later before : List Event) →
    output < config.count → IsLived config passes (later ++ before) → LeavesCommand config passes output later before →
    commands config passes (later ++ before) output ≡ commands config passes before output
command-stays law events config passes output later before here lived leaves =
    let keeps = λ (register : Reg) (left : LeavesCell config passes (Out output register) later before).
    stay law events config passes (Out output register) before here later lived left in
    same_command (value_for config output) (words_at config passes (later ++ before)) (words_at config passes before) output
    (keeps Operation leaves.operation)
    (keeps (selected_register (word_at (words_at config passes before) (Out output Operation))) leaves.selected)
    (keeps VoutMax leaves.most) (keeps VoutMin leaves.least)

-- What the claims of a log are worth beside a part, by the life that is like what happened there.

-- nothing later may write a cell, in both
leaves-like : (held : Held) (passes : ℕ) (alike : LivesAlike held passes) (cell : Cell) (later before : List Happening) →
    MayAllHappen held passes (later ++ before) → CheckedBesideLeavesCell held passes cell later before →
    world.LeavesCell (config held passes alike) passes cell (since held passes alike later before) (at held passes alike before)
leaves-like held passes alike cell [] before may leaves = tt
leaves-like held passes alike cell (Happens event ∷ later) before may leaves = (
  restarts-like (beside held passes (later ++ before)) event ∙ leaves.0,
  ap (λ (l : List Event). may_write cell (open_pending (config held passes alike) passes l)) (sym (at-since held passes alike later before))
      ∙ (ap (may_write cell) (pending-at held passes alike (later ++ before) may.1) ∙ leaves.1),
  leaves-like held passes alike cell later before may.1 leaves.2,
)
leaves-like held passes alike cell (Hears bytes ending ∷ later) before may leaves = leaves-like held passes alike cell later before may.1 leaves

short-at : (held : Held) (passes : ℕ) (alike : LivesAlike held passes) (happened : List Happening) → MayAllHappen held passes happened →
    (output : ℕ) →
    AreShort (beside held passes happened).device.words output →
    AreShort (now (config held passes alike) passes (at held passes alike happened)).device.words output
short-at held passes alike happened may output short =
    subst (λ (w : Settings). AreShort w output) (sym (alike.like happened may).words) short

pub claims-beside : SameSettingsLiveAlike → ListsSayEnough → AcceptedClaimsAreHeld → AcceptedClaimsStay → AcceptedVoltagesStay →
    AcceptedClaimsHoldBeside
claims-beside alike lists accepted stays voltages = record {
  holds = λ held passes happened log claims at' cell word is tells accepts claims-it steady.
      let all = alike held passes is.part is.spelled is.made in
      let like = all.like happened is.may in
      ap (λ (w : Settings). word_at w cell) (sym like.words)
      ∙ accepted.held (config held passes all) passes (at held passes all happened) log claims at' cell word like.lived
      (newest-at held passes all happened is.may ∙ tells) accepts claims-it (since-at held passes all lists cell happened is.may ∙ steady);
  voltage = λ held passes happened log claims at' output part least most is tells accepts claims-it short stands missing.
      let all = alike held passes is.part is.spelled is.made in
      let like = all.like happened is.may in
      subst (λ (v : Ratio). IsWithin (record { least = least; most = most }) v) (commands-at held passes all happened is.may output)
      (accepted.commands (config held passes all) passes (at held passes all happened) log claims at' output part least most all.spelled like.lived
      (newest-at held passes all happened is.may ∙ tells) accepts claims-it (short-at held passes all happened is.may output short)
      (stands-at held passes all lists happened is.may output stands) (missing-at held passes all happened is.may part output missing));
  stays = λ held passes later before log claims at' cell word is tells accepts claims-it steady leaves.
      let all = alike held passes is.part is.spelled is.made in
      let like = all.like (later ++ before) is.may in
      let may-before = earlier-may held passes later before is.may in
      let c = config held passes all in
      ap (λ (w : Settings). word_at w cell) (sym like.words)
      ∙ (ap (λ (l : List Event). word_at (now c passes l).device.words cell) (at-since held passes all later before)
      ∙ stays c passes (since held passes all later before) (at held passes all before) log claims at' cell word
      (subst (λ (l : List Event). IsLived c passes l) (at-since held passes all later before) like.lived)
      (newest-at held passes all before may-before ∙ tells) accepts claims-it (since-at held passes all lists cell before may-before ∙ steady)
      (leaves-like held passes all cell later before is.may leaves));
  voltage_stays = λ held passes later before log claims at' output part least most is tells accepts claims-it short stands missing leaves.
      let all = alike held passes is.part is.spelled is.made in
      let like = all.like (later ++ before) is.may in
      let may-before = earlier-may held passes later before is.may in
      let c = config held passes all in
      subst (λ (v : Ratio). IsWithin (record { least = least; most = most }) v)
      (ap (λ (l : List Event). commands c passes l output) (sym (at-since held passes all later before))
      ∙ commands-at held passes all (later ++ before) is.may output)
      (voltages c passes (since held passes all later before) (at held passes all before) log claims at' output part least most all.spelled
      (subst (λ (l : List Event). IsLived c passes l) (at-since held passes all later before) like.lived)
      (newest-at held passes all before may-before ∙ tells) accepts claims-it (short-at held passes all before may-before output short)
      (stands-at held passes all lists before may-before output stands) (missing-at held passes all before may-before part output missing)
      (record {
        operation = leaves-like held passes all (Out output Operation) later before is.may leaves.operation;
        selected = leaves-like held passes all
            (Out output (selected_register (word_at (now c passes (at held passes all before)).device.words
            (Out output Operation)))) later before is.may
            (subst (λ (w : Settings). CheckedBesideLeavesCell held passes
            (Out output (selected_register (word_at w (Out output Operation)))) later before)
            (sym (all.like before may-before).words) leaves.selected);
        most = leaves-like held passes all _ later before is.may leaves.most;
        least = leaves-like held passes all _ later before is.may leaves.least;
      }));
}
