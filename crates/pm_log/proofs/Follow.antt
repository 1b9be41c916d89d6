-- A replay of acts and lines of a log: what is known then, and which claims are taken on trust.
use Rattle.std.specs.Option.{option_map_or}
use Rattle.std.specs.Prelude.{IsSomeAnd, IfSome, option_map, reverse, is_none, is_some, not, ◌&&◌, ◌||◌, ◌==◌, nat_le, nat_lt}
use Rattle.std.specs.Prelude.{if◌then◌else◌, replicate, slice_index_or, get_or, option_to_list, bytes_eq}
use Rattle.std.proofs.{lemmas.Bool.Decides.nat_tests, lemmas.Bool.and_parts}
use Rattle.std.proofs.Common.{◌≡◌, ◌+◌, length, ℕ, Bool, true, false, List, [], ◌∷◌, ◌++◌, Option, Some, None, Result, Ok, Err, refl, sym}
use Rattle.std.proofs.Common.{◌∙◌, ap, subst, ◌≢◌, ◌<◌, arith, ◌≤◌, ℤ, suc, append_assoc, append-nil, zero, take, cond}
use Rattle.std.proofs.lemmas.List.{reverse-reverse, get_or-replicate, get_or_past, get_or-set_other, get_or-set_same, length-replicate}
use Rattle.std.proofs.lemmas.List.{length-set}
use Rattle.pm_table.specs.{Rules.first, declared.cell.Cell.Cell, declared.reg.Reg.Reg}
use Rattle.pm_table.specs.Cell.{cell_in, is_cell, place_of, places, same_cell}
use Rattle.pm_table.specs.Laws.{CellsAreToldApart, CellsHavePlaces}
use Rattle.pm_table.specs.declared.cell.Cell.TheVariants.{Out, Protect}
use Rattle.pm_table.specs.declared.reg.Reg.TheVariants.{Operation, VoutCommand, VoutMax, MarginHigh, MarginLow, VoutMin}
use Rattle.pm_frame.specs.declared.message.Message.{Message}
use Rattle.pm_frame.specs.Layout.{is_read_message, sent, with_pec}
use Rattle.pm_host.specs.{Laws.TranscriptsAreFollowed, Lemmas.accepted-free, Messages.IsFrameOf, Told.entry_told, Transcript.Setup}
use Rattle.pm_host.specs.{declared.fault.HostFault.HostFault, declared.host.Told.Told, declared.job.Job.Job, declared.stage.Stage.Stage}
use Rattle.pm_host.specs.Jobs.{accepted_job, begin_fault, Begins}
use Rattle.pm_host.specs.Now.{host_now, AreTold}
use Rattle.pm_host.specs.Refusals.{is_busy, may_come, setup_fault, is_within, IsSetup}
use Rattle.pm_host.specs.Summary.{Summary, host_next, start, sending_in}
use Rattle.pm_host.specs.Transcript as host
use Rattle.pm_host.specs.declared.host.Told.TheVariants as told
use Rattle.pm_limits.specs.declared.part_registers.PartRegisters.{PartRegisters}
use Rattle.pm_limits.specs.Part.{all_registers, has_register}
use Rattle.pm_log.specs.{Jobs.job_in_frame, declared.act.Act.Act, declared.check_fault.ActFault.TheVariants.Refused}
use Rattle.pm_log.specs.{declared.claim.Claim.Claim}
use Rattle.pm_log.specs.{declared.fault.LogFault.LogFault, declared.log_line.LogLine.LogLine}
use Rattle.pm_log.specs.Answered.{cell_of_answer, with_answer, answer_line, belied, belied_at, no_answers}
use Rattle.pm_log.specs.Checks.{Accepts, Checks, MightComeFrom, act_next, all_after, is_claimed, is_own, host_told_fault, entry_of_act}
use Rattle.pm_log.specs.Checks.{ReplaysAct}
use Rattle.pm_log.specs.Checks.{AreClaimed, IsEntry, entries_from, frame_of_message}
use Rattle.pm_log.specs.Lacks.{both, has_all, lacking_more, lacks_nothing, not_allowed, part_at}
use Rattle.pm_log.specs.Laws.{Log, at_hand, host_after_log, known_of_lines, known_by_line, log_of_lines, log_told, log_with, told_of_packet}
use Rattle.pm_log.specs.Laws.{acts_with_job, with_restart}
use Rattle.pm_log.specs.Laws.{with_transfer, answered_since, line_answers, are_lacking, claims_lack, IsLacking, IsTrusted}
use Rattle.pm_log.specs.Logs.{Known, known_with_host, claimed, distrusted, headed, is_address, line_accepted, transfer_told as heard}
use Rattle.pm_log.specs.Logs.{known_told_with, unknown_claim}
use Rattle.pm_log.specs.Logs.{with_claim, answered_or, came_of, lacking_fault, known_before_lines}
use Rattle.pm_log.specs.Replays.{begun_with_frame, first_told, frame_fits, free, is_answer, named_told, transferred}
use Rattle.pm_log.specs.Verdicts.{trusted_at, trusted_below}
use Rattle.pm_log.specs.declared.act.Act.TheVariants as act
use Rattle.pm_log.specs.declared.check_fault.ActFault.TheVariants as act_fault
use Rattle.pm_log.specs.declared.check_fault.CheckFault.TheVariants as check
use Rattle.pm_log.specs.declared.claim.Claim.TheVariants.{Holds, Commands}
use Rattle.pm_log.specs.declared.log_line.LogLine.TheVariants.{Note, Head, Claimed, Sent, Failed}

-- What is known after lines of a log, which claims are taken on trust, and what an accepted one says.

-- Lines that are accepted, and the acts that they are.

-- ---- one frame

-- a frame that is sent is one of an open job
busy_of : (s : Summary) (frame : List ℕ) → is_own s frame ≡ true → is_busy s ≡ true
busy_of s frame own = go s.stage refl
  where
    go : (o : Option Stage) → s.stage ≡ o → is_busy s ≡ true
    go None is = let none : is_own s frame ≡ false = rw is refl in absurd (cc)
    go (Some stage) is = rw is refl

-- nothing is against a frame that the host sends
no_fault : (s : Summary) (frame : List ℕ) (came : Told) → frame_fits s frame (entry_told came) ≡ true → host_told_fault s frame came ≡ None
no_fault s frame (told.Finished acked) is =
    let parts = and_parts _ _ is in rw (busy_of s frame parts.0, parts.0, parts.1) refl
no_fault s frame (told.Got bytes) is =
    let parts = and_parts _ _ is in rw (busy_of s frame parts.0, parts.0, parts.1) refl

-- a host with no job open sends nothing
unsent : (s : Summary) (frame : List ℕ) (entry : host.Entry) → is_busy s ≡ false → frame_fits s frame entry ≡ false
unsent s frame entry idle = go s.stage refl
  where
    go : (o : Option Stage) → s.stage ≡ o → frame_fits s frame entry ≡ false
    go None is = rw is refl
    go (Some stage) is = let busy : is_busy s ≡ true = rw is refl in absurd (cc)

-- no job is open after a restart
idle_of : (s : Summary) → is_busy (free s) ≡ false
unfolding host_next
idle_of s = go (is_busy s) refl
  where
    go : (b : Bool) → is_busy s ≡ b → is_busy (free s) ≡ false
    go true is = rw is refl
    go false is = rw is is

-- ---- the acts of a transfer

-- a job that is begun after these acts, and its first frame
begun : (st : Summary) (acts : List Act) (asked : Job) (frame : List ℕ) (came : Told) → is_busy (all_after st acts) ≡ false →
    begin_fault (all_after st acts) asked ≡ None → frame_fits (act_next (all_after st acts) (act.Begun asked)) frame (entry_told came)
    ≡ true →
    MightComeFrom st acts → MightComeFrom st (act.Sent (at_hand frame) came ∷ act.Begun asked ∷ acts)
begun st acts asked frame came idle none fit come = (
  no_fault (act_next (all_after st acts) (act.Begun asked)) frame came fit,
  (and_parts _ _ fit).1,
  (
    ap (λ (o : Option HostFault). option_map (λ fault. act_fault.Refused fault) o) none,
    go (accepted_job (all_after st acts) asked) refl,
    come,
  ),
)
  where
    go : (o : Option host.Job) → accepted_job (all_after st acts) asked ≡ o →
        IsSomeAnd (option_map (λ job. host.Accepted job) (accepted_job (all_after st acts) asked)) (λ entry. may_come (all_after st acts) entry ≡ true)
    go None is =
        let same : act_next (all_after st acts) (act.Begun asked) ≡ all_after st acts
        = ap (λ (o : Option host.Job). option_map_or (λ entry. host_next (all_after st acts) entry) (option_map (λ job. host.Accepted job) o) (all_after st acts)) is in
        let unfit : frame_fits (act_next (all_after st acts) (act.Begun asked)) frame (entry_told came) ≡ false
        = subst (λ (t : Summary). frame_fits t frame (entry_told came) ≡ false) (sym same) (unsent (all_after st acts) frame (entry_told came) idle) in
        absurd (cc)
    go (Some job) is = rw is (ap (λ (o : Option HostFault). is_none o) (accepted-free (all_after st acts) asked job is none))

-- what is held after the restart before a job, which might come
freed : (st : Summary) (acts : List Act) → all_after st (with_restart (all_after st acts) acts) ≡ free (all_after st acts)
freed st acts = go (is_busy (all_after st acts)) refl
  where
    go : (b : Bool) → is_busy (all_after st acts) ≡ b → all_after st (with_restart (all_after st acts) acts) ≡ free (all_after st acts)
    go true is = rw is refl
    go false is = rw is refl

free_comes : (st : Summary) (acts : List Act) → MightComeFrom st acts → MightComeFrom st (with_restart (all_after st acts) acts)
free_comes st acts come = go (is_busy (all_after st acts)) refl
  where
    go : (b : Bool) → is_busy (all_after st acts) ≡ b → MightComeFrom st (with_restart (all_after st acts) acts)
    go true is = rw is (refl, refl, come)
    go false is = rw is come

-- ---- a line

-- a log whose host could be made, and whose acts might come
abbrev pub Comes : Log → Type 0
Comes log = (setup_fault log.setup.outputs log.setup.passes ≡ None) × MightComeFrom (start log.setup) log.acts

-- what is known is what a host holds that heard the acts
pub record Follows (log : Option Log) (known : Known) : Type 0 where
  pub held : known.host ≡ option_map host_after_log log
  pub come : IfSome log Comes

-- what two results hold is one
ok_one : (r : Result (Summary × Bool) LogFault) (t s : Summary) (u b : Bool) → r ≡ Ok (t, u) → r ≡ Ok (s, b) → s ≡ t
ok_one r t s u b made is = let same : (s, b) ≡ (t, u) = cc in ap (λ (p : Summary × Bool). p.0) same

-- a transfer that is taken is the acts that it is
record Takes (st : Summary) (acts : List Act) (frame : List ℕ) (came : Told) (s : Summary) : Type 0 where
  held : s ≡ all_after st (with_transfer (all_after st acts) frame came acts)
  come : MightComeFrom st (with_transfer (all_after st acts) frame came acts)

first_taken : (st : Summary) (acts : List Act) (frame : List ℕ) (came : Told) (s : Summary) (is_told : Bool) (asked : Job) →
    MightComeFrom st acts → begin_fault (free (all_after st acts)) asked ≡ None →
    first_told (act_next (free (all_after st acts)) (act.Begun asked)) frame (entry_told came) ≡ Ok (s, is_told) →
    (s ≡ all_after st (act.Sent (at_hand frame) came ∷ act.Begun asked ∷ with_restart (all_after st acts) acts))
    × MightComeFrom st (act.Sent (at_hand frame) came ∷ act.Begun asked ∷ with_restart (all_after st acts) acts)
first_taken st acts frame came s is_told asked come none is =
    go (frame_fits (act_next (free (all_after st acts)) (act.Begun asked)) frame (entry_told came)) refl
  where
    go : (b : Bool) → frame_fits (act_next (free (all_after st acts)) (act.Begun asked)) frame (entry_told came) ≡ b →
        (s ≡ all_after st (act.Sent (at_hand frame) came ∷ act.Begun asked ∷ with_restart (all_after st acts) acts))
        × MightComeFrom st (act.Sent (at_hand frame) came ∷ act.Begun asked ∷ with_restart (all_after st acts) acts)
    go false unfit = let bad = rw unfit at is in absurd (cc)
    go true fit =
        let got = rw fit at is in
        let same = freed st acts in
        let now : s ≡ host_next (act_next (free (all_after st acts)) (act.Begun asked)) (entry_told came) = ok_one _ _ _ _ _ refl got in (
          now ∙ ap (λ (t : Summary). host_next (act_next t (act.Begun asked)) (entry_told came)) (sym same),
          begun st (with_restart (all_after st acts) acts) asked frame came
              (subst (λ (t : Summary). is_busy t ≡ false) (sym same) (idle_of (all_after st acts)))
              (subst (λ (t : Summary). begin_fault t asked ≡ None) (sym same) none)
              (subst (λ (t : Summary). frame_fits (act_next t (act.Begun asked)) frame (entry_told came) ≡ true) (sym same) fit)
              (free_comes st acts come),
        )

begun_taken : (st : Summary) (acts : List Act) (frame : List ℕ) (came : Told) (s : Summary) (is_told : Bool) (asked : Job)
    (fault : Option HostFault) → MightComeFrom st acts → begin_fault (free (all_after st acts)) asked ≡ fault →
    begun_with_frame fault (free (all_after st acts)) asked frame (entry_told came) ≡ Ok (s, is_told) →
    (s ≡ all_after st (act.Sent (at_hand frame) came ∷ act.Begun asked ∷ with_restart (all_after st acts) acts))
    × MightComeFrom st (act.Sent (at_hand frame) came ∷ act.Begun asked ∷ with_restart (all_after st acts) acts)
begun_taken st acts frame came s is_told asked (Some fault) come none is = absurd (cc)
begun_taken st acts frame came s is_told asked None come none is = first_taken st acts frame came s is_told asked come none is

named_taken : (st : Summary) (acts : List Act) (frame : List ℕ) (came : Told) (s : Summary) (is_told : Bool)
    (named : Result (Option Job) LogFault) → MightComeFrom st acts →
    named_told (all_after st acts) named frame (entry_told came) ≡ Ok (s, is_told) →
    (s ≡ all_after st (acts_with_job (all_after st acts) (act.Sent (at_hand frame) came) named acts))
    × MightComeFrom st (acts_with_job (all_after st acts) (act.Sent (at_hand frame) came) named acts)
named_taken st acts frame came s is_told (Err fault) come is = absurd (cc)
named_taken st acts frame came s is_told (Ok None) come is = (ok_one _ _ _ _ _ refl is, come)
named_taken st acts frame came s is_told (Ok (Some asked)) come is =
    begun_taken st acts frame came s is_told asked (begin_fault (free (all_after st acts)) asked) come refl is

takes : (st : Summary) (acts : List Act) (frame : List ℕ) (came : Told) (s : Summary) (is_told : Bool) →
    MightComeFrom st acts → transferred (all_after st acts) frame (entry_told came) ≡ Ok (s, is_told) → Takes st acts frame came s
takes st acts frame came s is_told come is = go (frame_fits (all_after st acts) frame (entry_told came)) refl
  where
    go : (b : Bool) → frame_fits (all_after st acts) frame (entry_told came) ≡ b → Takes st acts frame came s
    go true fit =
        let got = rw fit at is in
        record {
          held = rw fit (ok_one _ _ _ _ _ refl got);
          come = rw fit (no_fault (all_after st acts) frame came fit, (and_parts _ _ fit).1, come);
        }
    go false unfit =
        let named = named_taken st acts frame came s is_told
        (job_in_frame (all_after st acts).setup.addr frame (is_answer (entry_told came))) come (rw unfit at is) in
        record { held = rw unfit named.0; come = rw unfit named.1 }

-- ---- a line

-- what two results hold is one, and one that has refused doesn't
pub same_known : (r : Result Known LogFault) (a b : Known) → r ≡ Ok a → r ≡ Ok b → b ≡ a
same_known r a b made is = cc

-- the host of the log hears a transfer
told_follows : (number : ℕ) (log : Option Log) (known new : Known) (frame : List ℕ) (came : Told) → Follows log known →
    heard number known known.host frame (entry_told came) ≡ Ok new → Follows (option_map (log_told frame came) log) new
told_follows number None known new frame came was is =
    let none = rw was.held at is in absurd (cc)
told_follows number (Some log) known new frame came was is =
    go (transferred (host_after_log log) frame (entry_told came)) refl (rw was.held at is)
  where
    go : (r : Result (Summary × Bool) LogFault) → transferred (host_after_log log) frame (entry_told came) ≡ r →
        known_told_with known (with_answer number known.answers (cell_of_answer (host_after_log log).setup.addr frame (entry_told came))) r
        ≡ Ok new →
        Follows (Some (log_told frame came log)) new
    go (Err fault) at is = absurd (cc)
    go (Ok (s, is_told)) at is =
        let taken = takes (start log.setup) log.acts frame came s is_told was.come.1 at in
        record {
          held = ap (λ (k : Known). k.host) (same_known _ _ _ refl is) ∙ ap (λ (t : Summary). Some t) taken.held;
          come = (was.come.0, taken.come);
        }

-- a head begins a log
begun_follows : (known new : Known) (setup : host.Setup) (fault : Option HostFault) → setup_fault setup.outputs setup.passes ≡ fault →
    known_with_host known fault setup ≡ Ok new → Follows (Some (record { setup = setup; acts = [] })) new
begun_follows known new setup (Some fault) at is = absurd (cc)
begun_follows known new setup None at is =
    record { held = ap (λ (k : Known). k.host) (same_known _ _ _ refl is); come = (at, tt) }

headed_follows : (known new : Known) (setup : host.Setup) (b : Bool) → is_address setup.addr ≡ b → headed known setup ≡ Ok new →
    Follows (Some (record { setup = setup; acts = [] })) new
headed_follows known new setup true at is = begun_follows known new setup (setup_fault setup.outputs setup.passes) refl (rw at at is)
headed_follows known new setup false at is = let bad = rw at at is in absurd (cc)

-- a claim that is accepted: nothing is against what it says of the part, it is known, and what is known then
pub record IsAccepted (known new : Known) (s : Summary) (claim : Claim) : Type 0 where
  pub trusted : distrusted known s.setup.addr claim ≡ None
  pub claimed_is : is_claimed s claim ≡ true
  pub after : new ≡ with_claim known s.setup.addr claim

claimed_by : (known new : Known) (s : Summary) (claim : Claim) (f : Option LogFault) (b : Bool) → distrusted known s.setup.addr claim ≡ f →
    is_claimed s claim ≡ b → claimed known (Some s) claim ≡ Ok new → IsAccepted known new s claim
claimed_by known new s claim (Some fault) b why at is = let bad = rw why at is in absurd (cc)
claimed_by known new s claim None true why at is =
    record { trusted = why; claimed_is = at; after = same_known _ _ _ refl (rw (why, at) at is) }
claimed_by known new s claim None false why at is = let bad = rw (why, at) at is in absurd (cc)

pub claimed_known : (known new : Known) (s : Summary) (claim : Claim) → claimed known (Some s) claim ≡ Ok new →
    IsAccepted known new s claim
claimed_known known new s claim is =
    claimed_by known new s claim (distrusted known s.setup.addr claim) (is_claimed s claim) refl refl is

claim_follows : (log : Option Log) (known new : Known) (claim : Claim) → Follows log known → claimed known known.host claim ≡ Ok new →
    Follows log new
claim_follows None known new claim was is = let none = rw was.held at is in absurd (cc)
claim_follows (Some log) known new claim was is =
    let kept =
    claimed_known known new (host_after_log log) claim (subst (λ (o : Option Summary). claimed known o claim ≡ Ok new) was.held is) in
    record { held = ap (λ (k : Known). k.host) kept.after ∙ was.held; come = was.come }

-- one line more
line_follows : (number : ℕ) (log : Option Log) (known new : Known) (line : LogLine) → Follows log known → line_accepted number known line ≡ Ok new →
    Follows (log_with log line) new
line_follows number log known new Note was is = subst (λ (k : Known). Follows log k) (sym (same_known _ _ _ refl is)) was
line_follows number log known new (Head addr outputs passes) was is =
    headed_follows known new (record { addr = addr; outputs = outputs; passes = passes }) (is_address addr) refl is
line_follows number log known new (Claimed claim) was is = claim_follows log known new claim was is
line_follows number log known new (Sent parts) was is = sent parts.read refl
  where
    sent : (read : Option (List ℕ)) → parts.read ≡ read → Follows (option_map (log_told parts.write (told_of_packet parts.read)) log) new
    sent None at = rw at (told_follows number log known new parts.write (told.Finished true) was (rw at at is))
    sent (Some bytes) at = rw at (told_follows number log known new parts.write (told.Got (at_hand bytes)) was (rw at at is))
line_follows number log known new (Failed write) was is = told_follows number log known new write (told.Finished false) was is

-- lines one after another
pub follows : (allowed : List PartRegisters) (lines : List LogLine) (known : Known) → known_of_lines allowed lines ≡ Ok known →
    Follows (log_of_lines lines) known
follows allowed [] known is = record { held = ap (λ (k : Known). k.host) (same_known _ _ _ refl is); come = tt }
follows allowed (line ∷ before) known is = go (known_of_lines allowed before) refl is (λ was at. follows allowed before was at)
  where
    go : (r : Result Known LogFault) → known_of_lines allowed before ≡ r → known_by_line (length before + 1) r line ≡ Ok known →
        ((was : Known) → known_of_lines allowed before ≡ Ok was → Follows (log_of_lines before) was) →
        Follows (log_with (log_of_lines before) line) known
    go (Ok was) at is so_far = line_follows (length before + 1) (log_of_lines before) was known line (so_far was at) is
    go (Err fault) at is so_far = absurd (cc)

-- ---- the law

-- lines before lines that are accepted are accepted
before_is : (allowed : List PartRegisters) (later before : List LogLine) (known : Known) → known_of_lines allowed (later ++ before)
    ≡ Ok known →
    (was : Known) × (known_of_lines allowed before ≡ Ok was)
before_is allowed [] before known is = (known, is)
before_is allowed (line ∷ later) before known is =
    go (known_of_lines allowed (later ++ before)) refl is (λ mid at. before_is allowed later before mid at)
  where
    go : (r : Result Known LogFault) → known_of_lines allowed (later ++ before) ≡ r → known_by_line (length (later ++ before) + 1) r line
        ≡ Ok known →
        ((mid : Known) → known_of_lines allowed (later ++ before) ≡ Ok mid → (was : Known) × (known_of_lines allowed before ≡ Ok was)) →
        (was : Known) × (known_of_lines allowed before ≡ Ok was)
    go (Ok mid) at is earlier = earlier mid at
    go (Err fault) at is earlier = absurd (cc)

-- a claim in lines that are accepted: what was known before it, and after it
pub record ClaimIn (allowed : List PartRegisters) (before : List LogLine) (claim : Claim) : Type 0 where
  pub was : Known
  pub new : Known
  pub at : known_of_lines allowed before ≡ Ok was
  pub claims : claimed was was.host claim ≡ Ok new

pub claim_in : (allowed : List PartRegisters) (later before : List LogLine) (claim : Claim) (known : Known) →
    known_of_lines allowed (later ++ Claimed claim ∷ before) ≡ Ok known → ClaimIn allowed before claim
claim_in allowed later before claim known is = at_claim (before_is allowed later (Claimed claim ∷ before) known is)
  where
    at_claim : (was : Known) × (known_of_lines allowed (Claimed claim ∷ before) ≡ Ok was) → ClaimIn allowed before claim
    at_claim (new, at) = go (known_of_lines allowed before) refl at
      where
        go : (r : Result Known LogFault) → known_of_lines allowed before ≡ r → known_by_line (length before + 1) r (Claimed claim)
            ≡ Ok new →
            ClaimIn allowed before claim
        go (Ok was) at is = record { was = was; new = new; at = at; claims = is }
        go (Err fault) at is = absurd (cc)

-- what `check` says of acts, oldest first
pub accepts_acts : (log : Log) (claim : Claim) → Comes log → is_claimed (host_after_log log) claim ≡ true →
    Accepts log.setup (reverse log.acts) (claim ∷ [])
accepts_acts log claim come known =
    let same = reverse-reverse log.acts in
    record {
      made = come.0;
      come = subst (λ (acts : List Act). MightComeFrom (start log.setup) acts) (sym same) come.1;
      claimed = (subst (λ (acts : List Act). is_claimed (all_after (start log.setup) acts) claim ≡ true) (sym same) known, tt);
    }

pub refuses_acts : (log : Log) (claim : Claim) → Comes log → is_claimed (host_after_log log) claim ≡ false →
    Checks log.setup (reverse log.acts) (claim ∷ []) (Err (check.Claim 0))
refuses_acts log claim come unknown =
    let same = reverse-reverse log.acts in (
      come.0,
      subst (λ (acts : List Act). MightComeFrom (start log.setup) acts) (sym same) come.1,
      tt,
      subst (λ (acts : List Act). is_claimed (all_after (start log.setup) acts) claim ≡ false) (sym same) unknown,
    )

-- a claim that isn't accepted, though nothing is against what it says of the part, isn't known
pub unclaimed : (known : Known) (s : Summary) (claim : Claim) (fault : LogFault) (b : Bool) → is_claimed s claim ≡ b →
    distrusted known s.setup.addr claim ≡ None → claimed known (Some s) claim ≡ Err fault → is_claimed s claim ≡ false
unclaimed known s claim fault true at none is = let bad = rw (none, at) at is in absurd (cc)
unclaimed known s claim fault false at none is = at

-- What is said of parts: the lines of their answers, and which registers they lack.

-- the laws of the crates below on which this rests
pub record Below : Type 0 where
  pub apart : CellsAreToldApart
  pub placed : CellsHavePlaces
  pub kept : (s : Summary) (entry : host.Entry) → (host_next s entry).setup ≡ s.setup

-- ---- lists

-- a list of one item has it at each place, and is read so past its end
anywhere : {X : Type 0} (n i : ℕ) (a : X) → slice_index_or (replicate n a) i a ≡ a
anywhere n i a = go (nat_lt i n) refl
  where
    go : (b : Bool) → nat_lt i n ≡ b → slice_index_or (replicate n a) i a ≡ a
    go true small = get_or-replicate n i a a (grind (arith, nat_tests))
    go false large =
        let size = length-replicate n a in
        get_or_past (replicate n a) i a (grind (arith, nat_tests, size))

-- ---- registers

-- a register that neither lacks is one that both have
has_both : (one other : PartRegisters) (register : Reg) →
    has_register (both one other) register ≡ (has_register one register && has_register other register)
has_both one other Operation = refl
has_both one other VoutCommand = refl
has_both one other VoutMax = refl
has_both one other MarginHigh = refl
has_both one other MarginLow = refl
has_both one other VoutMin = refl

-- one that is said to be lacking is let be so
or_not : (said allowed : Bool) → (said || not allowed) ≡ true → said ≡ false → allowed ≡ false
or_not true allowed is lacks = absurd (cc)
or_not false true is lacks = absurd (cc)
or_not false false is lacks = refl

pub let_be : (allowed part : PartRegisters) → has_all (not_allowed allowed part) ≡ true → (register : Reg) → has_register part register ≡ false →
    has_register allowed register ≡ false
let_be allowed part all Operation lacks = absurd (cc)
let_be allowed part all VoutCommand lacks = absurd (cc)
let_be allowed part all VoutMax lacks = or_not _ _ (and_parts _ _ (and_parts _ _ (and_parts _ _ all).0).0).0 lacks
let_be allowed part all MarginHigh lacks = or_not _ _ (and_parts _ _ (and_parts _ _ (and_parts _ _ all).0).0).1 lacks
let_be allowed part all MarginLow lacks = or_not _ _ (and_parts _ _ (and_parts _ _ all).0).1 lacks
let_be allowed part all VoutMin lacks = or_not _ _ (and_parts _ _ all).1 lacks

may_be : (said allowed : Bool) → (said ≡ false → allowed ≡ false) → (said || not allowed) ≡ true
may_be true allowed is = refl
may_be false allowed is = rw (is refl) refl

pub all_let : (allowed part : PartRegisters) → ((register : Reg) → has_register part register ≡ false → has_register allowed register ≡ false) →
    has_all (not_allowed allowed part) ≡ true
all_let allowed part is =
    rw (
      may_be part.vout_max allowed.vout_max (is VoutMax),
      may_be part.vout_margin_high allowed.vout_margin_high (is MarginHigh),
      may_be part.vout_margin_low allowed.vout_margin_low (is MarginLow),
      may_be part.vout_min allowed.vout_min (is VoutMin),
    ) refl

pub trust_no_fault : (addr : ℕ) (left : PartRegisters) (b : Bool) → has_all left ≡ b → lacking_fault addr left ≡ None → has_all left ≡ true
trust_no_fault addr left true at is = at
trust_no_fault addr left false at is = let bad = rw at at is in absurd (cc)

-- ---- answers

-- the first of four is none exactly if each is
pub none_of : {X : Type 0} (a b c d : Option X) → first (a ∷ b ∷ c ∷ d ∷ []) ≡ None → (a ≡ None) × (b ≡ None) × (c ≡ None) × (d ≡ None)
none_of None None None None is = (refl, refl, refl, refl)
none_of (Some x) b c d is = absurd (cc)
none_of None (Some x) c d is = absurd (cc)
none_of None None (Some x) d is = absurd (cc)
none_of None None None (Some x) is = absurd (cc)

pub none_answered : (found : Option (Cell × ℕ)) (addr : ℕ) (fault : Option LogFault) → answered_or found addr fault ≡ None →
    (found ≡ None) × (fault ≡ None)
none_answered None addr fault is = (refl, is)
none_answered (Some (cell, line)) addr fault is = absurd (cc)

-- there was no answer for a register that is said to be lacking and isn't belied
pub unbelied : (lines : List (Option ℕ)) (part : PartRegisters) (output : ℕ) (register : Reg) → belied_at lines part output register ≡ None →
    has_register part register ≡ false → is_some (answer_line lines (Out output register)) ≡ false
unbelied lines part output register none lacks = go (answer_line lines (Out output register)) refl (rw lacks at none)
  where
    go : (line : Option ℕ) → answer_line lines (Out output register) ≡ line → option_map {U = Cell × ℕ} (λ n. (Out output register, n)) line ≡ None →
        is_some line ≡ false
    go None at is = refl
    go (Some n) at is = absurd (cc)

pub is_belied_not : (lines : List (Option ℕ)) (part : PartRegisters) (output : ℕ) (register : Reg) →
    (has_register part register ≡ false → is_cell 8 (Out output register) ≡ true → is_some (answer_line lines (Out output register)) ≡ false) →
    belied_at lines part output register ≡ None
is_belied_not lines part output register is = go (has_register part register) refl
  where
    line_none : (line : Option ℕ) → is_some line ≡ false → line ≡ None
    line_none None none = refl
    line_none (Some n) none = absurd (cc)

    there : (b : Bool) → is_cell 8 (Out output register) ≡ b → has_register part register ≡ false →
        answer_line lines (Out output register) ≡ None
    there false at lacks = rw at refl
    there true at lacks = line_none _ (is lacks at)

    go : (b : Bool) → has_register part register ≡ b → belied_at lines part output register ≡ None
    go true at = rw at refl
    go false at = rw at (ap (λ (o : Option ℕ). option_map {U = Cell × ℕ} (λ n. (Out output register, n)) o) (there (is_cell 8 (Out output register)) refl at))

module _ (below : Below) where
  -- the line of an answer is that of its cell
  line_more : (number : ℕ) (lines : List (Option ℕ)) (found : Option Cell) (cell : Cell) → length lines ≡ places → is_cell 8 cell ≡ true →
      is_some (answer_line (with_answer number lines found) cell)
      ≡ (option_map_or (λ c. same_cell c cell) found false || is_some (answer_line lines cell))
  line_more number lines None cell size there = refl
  line_more number lines (Some c) cell size there = go (same_cell c cell) refl (is_cell 8 c) refl
    where
      -- law: a cell of at most eight outputs has a place
      at_place : (c : Cell) → is_cell 8 c ≡ true → place_of c < length lines
      at_place (Out output register) is =
          subst (λ (n : ℕ). place_of (Out output register) < n) (sym size) (below.placed.below (Out output register) (grind (arith, nat_tests)))
      at_place Protect is = subst (λ (n : ℕ). place_of Protect < n) (sym size) (below.placed.below Protect tt)

      one_cell : (c : Cell) → is_cell 8 c ≡ true → cell_in (place_of c) ≡ c
      one_cell (Out output register) is = below.placed.back (Out output register) (grind (arith, nat_tests))
      one_cell Protect is = below.placed.back Protect tt

      own : is_some (answer_line (with_answer number lines (Some cell)) cell) ≡ true
      own = rw there (ap is_some (get_or-set_same lines (place_of cell) (Some number) None (at_place cell there)))

      two : same_cell c cell ≡ false → is_cell 8 c ≡ true → place_of cell ≢ place_of c
      two other is same =
          let one : cell ≡ c = sym (one_cell cell there) ∙ ap cell_in same ∙ one_cell c is in
          let bad = (below.apart c cell).1 (sym one) in
          absurd (cc)

      go : (b : Bool) → same_cell c cell ≡ b → (is : Bool) → is_cell 8 c ≡ is →
          is_some (answer_line (with_answer number lines (Some c)) cell) ≡ (same_cell c cell || is_some (answer_line lines cell))
      go true same is at =
          let one : c ≡ cell = (below.apart c cell).0 same in
          rw same (subst (λ (d : Cell). is_some (answer_line (with_answer number lines (Some d)) cell) ≡ true) (sym one) own)
      go false other false at = rw (other, at) refl
      go false other true at =
          rw (other, at, there) (ap is_some (get_or-set_other lines (place_of c) (place_of cell) (Some number) None (two other at)))

  -- a host's setup stays
  act_kept : (s : Summary) (act : Act) → (act_next s act).setup ≡ s.setup
  act_kept s act = go (entry_of_act s act)
    where
      go : (o : Option host.Entry) → (option_map_or (λ entry. host_next s entry) o s).setup ≡ s.setup
      go None = refl
      go (Some entry) = below.kept s entry

  pub setup_kept : (s : Summary) (acts : List Act) → (all_after s acts).setup ≡ s.setup
  setup_kept s [] = refl
  setup_kept s (act ∷ before) = act_kept (all_after s before) act ∙ setup_kept s before

  pub held_addr : (log : Log) → (host_after_log log).setup.addr ≡ log.setup.addr
  held_addr log = ap (λ (setup : host.Setup). setup.addr) (setup_kept (start log.setup) log.acts)

-- ---- lines

-- what is kept of parts follows the lines
pub record Tracks (allowed : List PartRegisters) (log : Option Log) (lines : List LogLine) (known : Known) : Type 0 where
  pub size : length known.answers ≡ places
  pub same : known.allowed ≡ allowed
  pub taken : length known.without ≡ 128
  pub short : IfSome log (λ l. l.setup.addr < 128)
  pub answered : IfSome log (λ l. (cell : Cell) → is_cell 8 cell ≡ true →
      is_some (answer_line known.answers cell) ≡ answered_since l.setup.addr cell lines)
  pub lacking : (addr : ℕ) (register : Reg) → has_register (part_at known.without addr) register ≡ not (are_lacking addr register lines)

-- no line
no_answers_size : length no_answers ≡ places
unfolding no_answers
no_answers_size = length-replicate {A = Option ℕ} places None

no_lines : (allowed : List PartRegisters) → Tracks allowed None [] (known_before_lines allowed)
unfolding no_answers lacks_nothing
no_lines allowed = record {
  size = no_answers_size;
  same = refl;
  taken = length-replicate 128 all_registers;
  short = tt;
  answered = tt;
  lacking = λ addr register. ap (λ (p : PartRegisters). has_register p register) (all_there addr) ∙ has_every register;
}
  where
    all_there : (addr : ℕ) → part_at lacks_nothing addr ≡ all_registers
    all_there addr = anywhere 128 addr all_registers

    has_every : (register : Reg) → has_register all_registers register ≡ true
    has_every Operation = refl
    has_every VoutCommand = refl
    has_every VoutMax = refl
    has_every MarginHigh = refl
    has_every MarginLow = refl
    has_every VoutMin = refl

-- a line of which nothing is kept
quiet : {allowed : List PartRegisters} {log : Option Log} {before : List LogLine} {known : Known} (line : LogLine) (new : Known) →
    new ≡ known → ((addr : ℕ) (cell : Cell) → answered_since addr cell (line ∷ before) ≡ answered_since addr cell before) →
    ((addr : ℕ) (register : Reg) → are_lacking addr register (line ∷ before) ≡ are_lacking addr register before) →
    Tracks allowed log before known → Tracks allowed log (line ∷ before) new
quiet {allowed = allowed} {log = log} {before = before} {known = known} line new is silent mute was =
    subst (λ (k : Known). Tracks allowed log (line ∷ before) k) (sym is) (record {
      size = was.size;
      same = was.same;
      taken = was.taken;
      short = was.short;
      answered = go log was.answered;
      lacking = λ addr register. was.lacking addr register ∙ ap not (sym (mute addr register));
    })
  where
    go : (o : Option Log) → IfSome o (λ l. (cell : Cell) → is_cell 8 cell ≡ true →
        is_some (answer_line known.answers cell) ≡ answered_since l.setup.addr cell before) →
        IfSome o (λ l. (cell : Cell) → is_cell 8 cell ≡ true →
        is_some (answer_line known.answers cell) ≡ answered_since l.setup.addr cell (line ∷ before))
    go None is = tt
    go (Some l) is = λ cell there. is cell there ∙ sym (silent l.setup.addr cell)

-- a head
headed_is : (known new : Known) (setup : host.Setup) (b : Bool) (fault : Option HostFault) → is_address setup.addr ≡ b →
    setup_fault setup.outputs setup.passes ≡ fault → headed known setup ≡ Ok new →
    (setup.addr < 128) × (new ≡ record known { host = Some (start setup); answers = no_answers })
headed_is known new setup false fault at made is = let bad = rw at at is in absurd (cc)
headed_is known new setup true (Some fault) at made is = let bad = rw (at, made) at is in absurd (cc)
headed_is known new setup true None at made is = (
  (let high = (and_parts (nat_le 0x08 setup.addr) (nat_le setup.addr 0x77) at).1 in grind (arith, nat_tests, high)),
  same_known _ _ _ refl (rw (at, made) at is),
)

no_answer : (cell : Cell) → is_cell 8 cell ≡ true → is_some (answer_line no_answers cell) ≡ false
unfolding no_answers
no_answer cell there = rw there (ap is_some (anywhere places (place_of cell) None))

head_tracks : (allowed : List PartRegisters) (log : Option Log) (before : List LogLine) (known new : Known) (addr outputs passes : ℕ) →
    Tracks allowed log before known → headed known (record { addr = addr; outputs = outputs; passes = passes }) ≡ Ok new →
    Tracks allowed (Some (record { setup = record { addr = addr; outputs = outputs; passes = passes }; acts = [] }))
    (Head addr outputs passes ∷ before) new
head_tracks allowed log before known new addr outputs passes was is =
    let setup : host.Setup = record { addr = addr; outputs = outputs; passes = passes } in
    let made = headed_is known new setup (is_address addr) (setup_fault outputs passes) refl refl is in
    subst (λ (k : Known). Tracks allowed (Some (record { setup = setup; acts = [] })) (Head addr outputs passes ∷ before) k) (sym made.1)
    (record {
      size = no_answers_size;
      same = was.same;
      taken = was.taken;
      short = made.0;
      answered = no_answer;
      lacking = was.lacking;
    })

-- a claim
not_both : (here : Bool) (held lacks : Bool) (first : Bool) → first ≡ not lacks →
    (if here then first && held else first) ≡ not (here && not held || lacks)
not_both true true true first is = rw is refl
not_both true true false first is = rw is refl
not_both true false true first is = rw is refl
not_both true false false first is = rw is refl
not_both false held lacks first is = is

lacking_at : (without : List PartRegisters) (at addr : ℕ) (part : PartRegisters) (register : Reg) (here : Bool) → (at == addr) ≡ here →
    at < length without →
    has_register (part_at (lacking_more without at part) addr) register
    ≡ (if here then has_register (part_at without addr) register && has_register part register
    else has_register (part_at without addr) register)
lacking_at without at addr part register true same small =
    let one : at ≡ addr = grind (arith, nat_tests) in
    subst (λ (n : ℕ). has_register (part_at (lacking_more without at part) n) register
    ≡ (has_register (part_at without n) register && has_register part register)) one
    (ap (λ (p : PartRegisters). has_register p register) (get_or-set_same without at (both (part_at without at) part) all_registers small)
    ∙ has_both (part_at without at) part register)
lacking_at without at addr part register false other small =
    ap (λ (p : PartRegisters). has_register p register)
    (get_or-set_other without at addr (both (part_at without at) part) all_registers (λ same. apart same))
  where
    apart : addr ≡ at → ⊥
    apart same = grind (arith, nat_tests)

claim_tracks : (below : Below) (allowed : List PartRegisters) (log : Log) (before : List LogLine) (known new : Known) (claim : Claim) →
    log_of_lines before ≡ Some log → known.host ≡ Some (host_after_log log) → Tracks allowed (Some log) before known →
    new ≡ with_claim known (host_after_log log).setup.addr claim → Tracks allowed (Some log) (Claimed claim ∷ before) new
claim_tracks below allowed log before known new (Holds cell word) some host was is =
    subst (λ (k : Known). Tracks allowed (Some log) (Claimed (Holds cell word) ∷ before) k) (sym is) (record {
      size = was.size;
      same = was.same;
      taken = was.taken;
      short = was.short;
      answered = was.answered;
      lacking = was.lacking;
    })
claim_tracks below allowed log before known new (Commands output part least most) some host was is =
    let at = held_addr below log in
    let made : new ≡ with_claim known log.setup.addr (Commands output part least most)
    = is ∙ ap (λ (addr : ℕ). with_claim known addr (Commands output part least most)) at in
    subst (λ (k : Known). Tracks allowed (Some log) (Claimed (Commands output part least most) ∷ before) k) (sym made) (record {
      size = was.size;
      same = was.same;
      taken = length-set known.without log.setup.addr (both (part_at known.without log.setup.addr) part) ∙ was.taken;
      short = was.short;
      answered = was.answered;
      lacking = λ addr register.
          lacking_at known.without log.setup.addr addr part register (log.setup.addr == addr) refl
          (subst (λ (n : ℕ). log.setup.addr < n) (sym was.taken) was.short)
          ∙ not_both (log.setup.addr == addr) (has_register part register) (are_lacking addr register before)
          (has_register (part_at known.without addr) register) (was.lacking addr register)
          ∙ ap (λ (o : Option Log). not (claims_lack o addr register (Commands output part least most) || are_lacking addr register before))
          (sym some);
    })

-- a transfer
module _ (below : Below) where
  told_tracks : (allowed : List PartRegisters) (log : Option Log) (before : List LogLine) (known new : Known) (line : LogLine) (number : ℕ)
      (frame : List ℕ) (entry : host.Entry) (came : Told) → Follows log known → Tracks allowed log before known →
      ((addr : ℕ) (cell : Cell) → answered_since addr cell (line ∷ before)
      ≡ (option_map_or (λ c. same_cell c cell) (cell_of_answer addr frame entry) false || answered_since addr cell before)) →
      ((addr : ℕ) (register : Reg) → are_lacking addr register (line ∷ before) ≡ are_lacking addr register before) →
      heard number known known.host frame entry ≡ Ok new → Tracks allowed (option_map (log_told frame came) log) (line ∷ before) new
  told_tracks allowed None before known new line number frame entry came follow was since mute is =
      let none = rw follow.held at is in absurd (cc)
  told_tracks allowed (Some log) before known new line number frame entry came follow was since mute is =
      go (transferred (host_after_log log) frame entry) (rw follow.held at is)
    where
      addr : ℕ
      addr = (host_after_log log).setup.addr

      lines : List (Option ℕ)
      lines = with_answer number known.answers (cell_of_answer addr frame entry)

      go : (r : Result (Summary × Bool) LogFault) → known_told_with known lines r ≡ Ok new →
          Tracks allowed (Some (log_told frame came log)) (line ∷ before) new
      go (Err fault) is = absurd (cc)
      go (Ok (s, is_told)) is =
          subst (λ (k : Known). Tracks allowed (Some (log_told frame came log)) (line ∷ before) k) (sym (same_known _ _ _ refl is)) (record {
            size = size (cell_of_answer addr frame entry);
            same = was.same;
            taken = was.taken;
            short = was.short;
            answered = λ cell there.
                line_more below number known.answers (cell_of_answer addr frame entry) cell was.size there
                ∙ ap (λ (n : ℕ). option_map_or (λ c. same_cell c cell) (cell_of_answer n frame entry) false || is_some (answer_line known.answers cell))
                (held_addr below log)
                ∙ ap (λ (b : Bool). option_map_or (λ c. same_cell c cell) (cell_of_answer log.setup.addr frame entry) false || b)
                (was.answered cell there)
                ∙ sym (since log.setup.addr cell);
            lacking = λ at register. was.lacking at register ∙ ap not (sym (mute at register));
          })
        where
          size : (found : Option Cell) → length (with_answer number known.answers found) ≡ places
          size None = was.size
          size (Some c) = there (is_cell 8 c) refl
            where
              there : (b : Bool) → is_cell 8 c ≡ b → length (with_answer number known.answers (Some c)) ≡ places
              there true at = rw at (length-set known.answers (place_of c) (Some number) ∙ was.size)
              there false at = rw at was.size

  -- one line more
  line_tracks : (allowed : List PartRegisters) (before : List LogLine) (known new : Known) (line : LogLine) (number : ℕ) →
      Follows (log_of_lines before) known → Tracks allowed (log_of_lines before) before known → line_accepted number known line ≡ Ok new →
      Tracks allowed (log_of_lines (line ∷ before)) (line ∷ before) new
  line_tracks allowed before known new Note number follow was is =
      quiet Note new (same_known _ _ _ refl is) (λ addr cell. refl) (λ addr register. refl) was
  line_tracks allowed before known new (Head addr outputs passes) number follow was is =
      head_tracks allowed (log_of_lines before) before known new addr outputs passes was is
  line_tracks allowed before known new (Claimed claim) number follow was is = go (log_of_lines before) refl follow was
    where
      go : (log : Option Log) → log_of_lines before ≡ log → Follows log known → Tracks allowed log before known →
          Tracks allowed log (Claimed claim ∷ before) new
      go None at follow was = let none = rw follow.held at is in absurd (cc)
      go (Some log) at follow was =
          claim_tracks below allowed log before known new claim at follow.held was
          (claimed_known known new (host_after_log log) claim (subst (λ (o : Option Summary). claimed known o claim ≡ Ok new) follow.held is)).after
  line_tracks allowed before known new (Sent parts) number follow was is =
      told_tracks allowed (log_of_lines before) before known new (Sent parts) number parts.write (came_of parts.read)
      (told_of_packet parts.read)
      follow was (λ addr cell. refl) (λ addr register. refl) is
  line_tracks allowed before known new (Failed write) number follow was is =
      told_tracks allowed (log_of_lines before) before known new (Failed write) number write (host.Finished false) (told.Finished false)
      follow was (λ addr cell. refl) (λ addr register. refl) is

  -- lines one after another
  pub tracks : (allowed : List PartRegisters) (lines : List LogLine) (known : Known) → known_of_lines allowed lines ≡ Ok known →
      Tracks allowed (log_of_lines lines) lines known
  tracks allowed [] known is = subst (λ (k : Known). Tracks allowed None [] k) (sym (same_known _ _ _ refl is)) (no_lines allowed)
  tracks allowed (line ∷ before) known is = go (known_of_lines allowed before) refl is (λ was at. tracks allowed before was at)
    where
      go : (r : Result Known LogFault) → known_of_lines allowed before ≡ r → known_by_line (length before + 1) r line ≡ Ok known →
          ((was : Known) → known_of_lines allowed before ≡ Ok was → Tracks allowed (log_of_lines before) before was) →
          Tracks allowed (log_of_lines (line ∷ before)) (line ∷ before) known
      go (Ok was) at is so_far =
          line_tracks allowed before was known line (length before + 1) (follows allowed before was at) (so_far was at) is
      go (Err fault) at is so_far = absurd (cc)

-- The law of lines: what is accepted, refused, and said of parts.

neither : (a b : Bool) → not (a || b) ≡ true → b ≡ false
neither false false is = refl
neither false true is = absurd (cc)
neither true b is = absurd (cc)

-- a host has at most eight outputs
outputs_small : (outputs passes : ℕ) → setup_fault outputs passes ≡ None → outputs ≤ 8
outputs_small outputs passes none = go (is_within 1 8 outputs) refl
  where
    go : (b : Bool) → is_within 1 8 outputs ≡ b → outputs ≤ 8
    go true within = let high = neither (nat_lt outputs 1) (nat_lt 8 outputs) within in grind (arith, nat_tests, high)
    go false beyond = let bad = rw beyond at none in absurd (cc)

module _ (below : Below) (allowed : List PartRegisters) (log : Log) (before : List LogLine) (known : Known)
    (follow : Follows (Some log) known) (track : Tracks allowed (Some log) before known) where
  -- an output that a claim speaks of is one of at most eight
  small : (output : ℕ) → nat_lt output (host_after_log log).setup.outputs ≡ true → nat_lt output 8 ≡ true
  small output there =
      let most = outputs_small log.setup.outputs log.setup.passes follow.come.0 in
      let same = ap (λ (setup : Setup). setup.outputs) (setup_kept below (start log.setup) log.acts) in
      let lower = subst (λ (n : ℕ). nat_lt output n ≡ true) same there in
      grind (arith, nat_tests, most, lower)

  -- nothing is against what a claim says of the part: it is to be trusted
  trusted_lacks : (output : ℕ) (part : PartRegisters) (least most : ℤ) →
      distrusted known log.setup.addr (Commands output part least most) ≡ None → nat_lt output 8 ≡ true →
      IsLacking allowed log.setup.addr before output part
  trusted_lacks output part least most none there =
      let addr = log.setup.addr in
      let parts = none_answered (belied known.answers part output) addr
      (lacking_fault addr (not_allowed (part_at known.allowed addr) part)) none in
      let all = trust_no_fault addr (not_allowed (part_at known.allowed addr) part)
      (has_all (not_allowed (part_at known.allowed addr) part)) refl parts.1 in
      let each = none_of (belied_at known.answers part output VoutMax) (belied_at known.answers part output MarginHigh)
      (belied_at known.answers part output MarginLow) (belied_at known.answers part output VoutMin) parts.0 in
      record {
        permitted = λ register lacks.
            subst (λ (a : List PartRegisters). has_register (part_at a log.setup.addr) register ≡ false) track.same
            (let_be (part_at known.allowed log.setup.addr) part all register lacks);
        unanswered = λ register lacks.
            sym (track.answered (Out output register) there)
            ∙ unbelied known.answers part output register (none_at register each) lacks;
      }
    where
      none_at : (register : Reg) → (belied_at known.answers part output VoutMax ≡ None)
          × (belied_at known.answers part output MarginHigh ≡ None) × (belied_at known.answers part output MarginLow ≡ None)
          × (belied_at known.answers part output VoutMin ≡ None) → belied_at known.answers part output register ≡ None
      none_at Operation each = refl
      none_at VoutCommand each = refl
      none_at VoutMax each = each.0
      none_at MarginHigh each = each.1
      none_at MarginLow each = each.2
      none_at VoutMin each = each.3

  trusted_claim : (claim : Claim) → distrusted known (host_after_log log).setup.addr claim ≡ None → is_claimed (host_after_log log) claim
      ≡ true →
      IsTrusted allowed log.setup.addr before claim
  trusted_claim (Holds cell word) none is = tt
  trusted_claim (Commands output part least most) none is =
      trusted_lacks output part least most
      (subst (λ (addr : ℕ). distrusted known addr (Commands output part least most) ≡ None) (held_addr below log) none)
      (small output (and_parts _ _ is).0)

  -- a claim that is to be trusted has nothing against it
  nothing_against : (claim : Claim) → IsTrusted allowed log.setup.addr before claim → distrusted known (host_after_log log).setup.addr claim
      ≡ None
  nothing_against (Holds cell word) trust = refl
  nothing_against (Commands output part least most) trust =
      let addr = log.setup.addr in
      let all = all_let (part_at known.allowed addr) part (permits part trust.permitted) in
      subst (λ (addr : ℕ). distrusted known addr (Commands output part least most) ≡ None) (sym (held_addr below log))
      (rw (none_at VoutMax, none_at MarginHigh, none_at MarginLow, none_at VoutMin, all) refl)
    where
      permits : (part : PartRegisters) →
          ((register : Reg) → has_register part register ≡ false → has_register (part_at allowed log.setup.addr) register ≡ false) →
          (register : Reg) → has_register part register ≡ false → has_register (part_at known.allowed log.setup.addr) register ≡ false
      permits part is register lacks =
          subst (λ (a : List PartRegisters). has_register (part_at a log.setup.addr) register ≡ false) (sym track.same) (is register lacks)

      none_at : (register : Reg) → belied_at known.answers part output register ≡ None
      none_at register =
          is_belied_not known.answers part output register
          (λ lacks there. track.answered (Out output register) there ∙ trust.unanswered register lacks)

module _ (below : Below) where
  pub accepts : (allowed : List PartRegisters) (later before : List LogLine) (claim : Claim) (known : Known) →
      known_of_lines allowed (later ++ Claimed claim ∷ before) ≡ Ok known →
      IsSomeAnd (log_of_lines before) (λ log. Accepts log.setup (reverse log.acts) (claim ∷ [])
      × IsTrusted allowed log.setup.addr before claim)
  accepts allowed later before claim known is =
      let found = claim_in allowed later before claim known is in
      go found.was found.new (log_of_lines before) (follows allowed before found.was found.at) (tracks below allowed before found.was found.at)
      found.claims
    where
      go : (was new : Known) (o : Option Log) → Follows o was → Tracks allowed o before was → claimed was was.host claim ≡ Ok new →
          IsSomeAnd o (λ log. Accepts log.setup (reverse log.acts) (claim ∷ []) × IsTrusted allowed log.setup.addr before claim)
      go was new None follow track is = let none = rw follow.held at is in absurd (cc)
      go was new (Some log) follow track is =
          let done = claimed_known was new (host_after_log log) claim (subst (λ (o : Option Summary). claimed was o claim ≡ Ok new) follow.held is) in (
            accepts_acts log claim follow.come done.claimed_is,
            trusted_claim below allowed log before was follow track claim done.trusted done.claimed_is,
          )

  pub refuses : (allowed : List PartRegisters) (before : List LogLine) (number : ℕ) (claim : Claim) (known : Known) (log : Log)
      (fault : LogFault) → known_of_lines allowed before ≡ Ok known → log_of_lines before ≡ Some log →
      line_accepted number known (Claimed claim) ≡ Err fault → IsTrusted allowed log.setup.addr before claim →
      Checks log.setup (reverse log.acts) (claim ∷ []) (Err (check.Claim 0))
  refuses allowed before number claim known log fault at some is trust =
      let follow = subst (λ (o : Option Log). Follows o known) some (follows allowed before known at) in
      let track = subst (λ (o : Option Log). Tracks allowed o before known) some (tracks below allowed before known at) in
      refuses_acts log claim follow.come
      (unclaimed known (host_after_log log) claim fault (is_claimed (host_after_log log) claim) refl
      (nothing_against below allowed log before known follow track claim trust)
      (subst (λ (o : Option Summary). claimed known o claim ≡ Err fault) follow.held is))

  pub says : (allowed : List PartRegisters) (lines : List LogLine) (known : Known) (addr : ℕ) (register : Reg) →
      known_of_lines allowed lines ≡ Ok known → has_register (part_at known.without addr) register ≡ not (are_lacking addr register lines)
  says allowed lines known addr register is = (tracks below allowed lines known is).lacking addr register

-- What is said of the parts at addresses, one after another.

-- nothing is said of no address
pub trusted_none : (parts : List PartRegisters) (text : List ℕ) → text ≡ text ++ trusted_below parts 0
unfolding trusted_below
trusted_none parts text = sym (append-nil text)

-- one address more
pub trusted_more : (parts : List PartRegisters) (addr : ℕ) (text : List ℕ) →
    (text ++ trusted_below parts addr) ++ trusted_at addr (part_at parts addr) ≡ text ++ trusted_below parts (addr + 1)
unfolding trusted_below
trusted_more parts addr text =
    let next : suc addr ≡ addr + 1 = omega arith in
    append_assoc text (trusted_below parts addr) (trusted_at addr (part_at parts addr))
    ∙ subst (λ (n : ℕ). text ++ trusted_below parts (suc addr) ≡ text ++ trusted_below parts n) next refl

-- A replay of acts, frame by frame.

-- The acts of a log: why one may come, and the transcript that they are.

-- a job that begins is an act
pub checks_begun : (s new : Summary) (asked : Job) → Begins {X = Unit {0}} s asked (Ok tt) new → ReplaysAct s (act.Begun asked) (Ok tt) new
checks_begun s new asked begins =
    (ap (λ (o : Option HostFault). option_map (λ fault. Refused fault) o) (sym begins.fault), go (accepted_job s asked) refl begins.ok)
  where
    go : (o : Option host.Job) → accepted_job s asked ≡ o → IsSomeAnd o (λ j. new ≡ host_next s (host.Accepted j)) →
        IsSomeAnd (option_map (λ j. host.Accepted j) o) (λ entry. IsEntry s entry new)
    go None is ok = absurd ok
    go (Some job) is ok =
        (ap (λ (o : Option HostFault). is_none o) (accepted-free s asked job is (sym begins.fault)), ok)

-- one more claim
claimed-suc : (s : Summary) (claims : List Claim) (j : ℕ) (d : Claim) → j < length claims →
    is_claimed s (get_or claims j d) ≡ true → AreClaimed s (take j claims) → AreClaimed s (take (suc j) claims)
claimed-suc s [] j d inside one known = absurd (omega (arith, inside))
claimed-suc s (claim ∷ claims) zero d inside one known = (one, tt)
claimed-suc s (claim ∷ claims) (suc j) d inside one known = (known.0, claimed-suc s claims j d (omega (arith, inside)) one known.1)

pub claimed-more : (s : Summary) (claims : List Claim) (j : ℕ) (d : Claim) → j < length claims →
    true ≡ is_claimed s (get_or claims j d) → AreClaimed s (take j claims) → AreClaimed s (take (j + 1) claims)
claimed-more s claims j d inside one known =
    let same : suc j ≡ j + 1 = omega arith in
    subst (λ n. AreClaimed s (take n claims)) same (claimed-suc s claims j d inside (sym one) known)

-- the transcript of acts, newest first, might come, and leaves what their replay does
pub record Followed (setup : host.Setup) (acts : List Act) : Type 0 where
  pub told : AreTold setup (entries_from (start setup) acts)
  pub same : host_now setup (entries_from (start setup) acts) ≡ all_after (start setup) acts

pub follow : TranscriptsAreFollowed → (setup : host.Setup) (acts : List Act) → IsSetup setup →
    MightComeFrom (start setup) acts → Followed setup acts
follow laws setup [] made come = record { told = tt; same = laws.none setup made }
follow laws setup (act ∷ before) made come =
    go (entry_of_act (all_after (start setup) before) act) refl come.1 (follow laws setup before made come.2)
  where
    go : (e : Option host.Entry) → entry_of_act (all_after (start setup) before) act ≡ e →
        IsSomeAnd e (λ entry. may_come (all_after (start setup) before) entry ≡ true) →
        Followed setup before → Followed setup (act ∷ before)
    go None is may was = absurd may
    go (Some entry) is may was =
        let s = all_after (start setup) before in
        let entries = entries_from (start setup) before in
        let more : entries_from (start setup) (act ∷ before) ≡ entry ∷ entries
        = ap (λ (o : Option host.Entry). option_to_list o ++ entries) is in
        let after : all_after (start setup) (act ∷ before) ≡ host_next s entry
        = ap (λ (o : Option host.Entry). option_map_or (λ e. host_next s e) o s) is in
        let told : AreTold setup (entry ∷ entries)
        = (subst (λ (t : Summary). may_come t entry ≡ true) (sym was.same) may, was.told) in
        record {
          told = subst (λ (es : List host.Entry). AreTold setup es) (sym more) told;
          same = ap (λ (es : List host.Entry). host_now setup es) more
              ∙ (laws.more setup entries entry made told
              ∙ (ap (λ (t : Summary). host_next t entry) was.same ∙ sym after));
        }

-- The bytes of a frame, as a function of its message.

pub frame-is : (addr : ℕ) (message : Message) (bytes : List ℕ) → IsFrameOf addr message bytes → bytes ≡ frame_of_message addr message
frame-is addr message bytes frame = go (is_read_message message) refl where
  go : (b : Bool) → is_read_message message ≡ b → bytes ≡ cond b (sent addr message) (with_pec [] (sent addr message))
  go true e = (frame.request e).spelled
  go false e = (frame.write e).spelled

pub own_is : (s : Summary) (bytes frame : List ℕ) → IsSomeAnd (sending_in s) (λ message. IsFrameOf s.setup.addr message bytes) →
    bytes_eq bytes frame ≡ is_own s frame
own_is s bytes frame shown = go (sending_in s) shown where
  go : (m : Option Message) → IsSomeAnd m (λ message. IsFrameOf s.setup.addr message bytes) →
      bytes_eq bytes frame ≡ option_map_or (λ message. bytes_eq (frame_of_message s.setup.addr message) frame) m false
  go None is = absurd is
  go (Some message) is = ap (λ (b : List ℕ). bytes_eq b frame) (frame-is s.setup.addr message bytes is)
