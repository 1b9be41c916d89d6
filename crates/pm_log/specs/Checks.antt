-- A log of what a host was asked for and told, and what it claims: this project's own choice. The lists of acts and
-- claims of a log are oldest first, those of acts that came before another newest first.
use Rattle.std.specs.Prelude.{if◌then◌else◌, ◌≡◌, ℕ, ℤ, nat_lt, is_none, Bool, true, false, not, ◌&&◌, ◌==◌, List, [], ◌∷◌, ◌++◌, reverse, take, slice_get, Option, Some, None}
use Rattle.std.specs.Prelude.{IsSomeAnd, option_map, option_to_list, bytes_eq, Result, Ok, Err}
use Rattle.std.specs.Option.{option_map_or}
use Rattle.pm_table.specs.declared.cell.Cell.{Cell}
use Rattle.pm_table.specs.Cell.{is_cell}
use Rattle.pm_table.specs.Rules.{first, rule}
use Rattle.pm_host.specs.declared.knowledge.Possible.{Possible}
use Rattle.pm_host.specs.declared.knowledge.Possible.TheVariants.{Any, Words}
use Rattle.pm_host.specs.declared.host.Told.{Told}
use Rattle.pm_host.specs.declared.host.Told.TheVariants as told
use Rattle.pm_frame.specs.declared.message.Message.{Message}
use Rattle.pm_frame.specs.Layout.{is_read_message, sent, with_pec}
use Rattle.pm_host.specs.Jobs.{accepted_job, begin_fault}
use Rattle.pm_host.specs.Now.{host_now, AreTold}
use Rattle.pm_host.specs.Refusals.{IsSetup, is_busy, may_come, sends_read, sends_write, setup_fault}
use Rattle.pm_host.specs.Summary.{Summary, host_next, possible_at, sending_in, start}
use Rattle.pm_host.specs.Told.{entry_told}
use Rattle.pm_host.specs.Transcript.{Setup, Entry, Accepted, Restarted}
use Rattle.pm_log.specs.declared.act.Act.{Act}
use Rattle.pm_log.specs.declared.act.Act.TheVariants as act
use Rattle.pm_log.specs.declared.claim.Claim.{Claim}
use Rattle.pm_log.specs.declared.claim.Claim.TheVariants.{Holds, Commands}
use Rattle.pm_limits.specs.declared.output_limits.OutputLimits.TheVariants.{Between}
use Rattle.pm_limits.specs.declared.part_registers.PartRegisters.{PartRegisters}
use Rattle.pm_limits.specs.Band.{band_at, is_yes, within_of}
use Rattle.pm_limits.specs.Bounds.{bounds_fault}
use Rattle.pm_log.specs.declared.check_fault.ActFault.{ActFault}
use Rattle.pm_log.specs.declared.check_fault.ActFault.TheVariants.{Refused, NothingSent, OtherFrame, WrongKind}
use Rattle.pm_log.specs.declared.check_fault.CheckFault.{CheckFault}
use Rattle.pm_log.specs.declared.check_fault.CheckFault.TheVariants as check

-- The entry of a host's transcript that an act is, for a host that holds this. An order in microvolts is that of its word;
-- None where it has none.
abbrev pub entry_of_act : Summary → Act → Option Entry
entry_of_act s (act.Begun job) = option_map (λ begun. Accepted begun) (accepted_job s job)
entry_of_act s (act.Sent frame told) = Some (entry_told told)
entry_of_act s act.Restarted = Some Restarted

-- the bytes that a host sends for a message: all of a write, a request up to its repeated start; these are those of what is sent
abbrev pub frame_of_message : ℕ → Message → List ℕ
frame_of_message addr message = if is_read_message message then sent addr message else with_pec [] (sent addr message)

abbrev pub is_own : Summary → List ℕ → Bool
is_own s frame = option_map_or (λ message. bytes_eq (frame_of_message s.setup.addr message) frame) (sending_in s) false

-- why an act can't have come: the host refuses the job, sends nothing, sends another frame, or one of the other kind
abbrev pub host_awaits : Summary → Told → Bool
host_awaits s (told.Finished acked) = sends_write s
host_awaits s (told.Got bytes) = sends_read s

abbrev pub host_told_fault : Summary → List ℕ → Told → Option ActFault
host_told_fault s frame told = first (
    rule (not (is_busy s)) NothingSent ∷
    rule (not (is_own s frame)) OtherFrame ∷
    rule (not (host_awaits s told)) WrongKind ∷
    [])

abbrev pub act_fault : Summary → Act → Option ActFault
act_fault s (act.Begun job) = option_map (λ fault. Refused fault) (begin_fault s job)
act_fault s (act.Sent frame told) = host_told_fault s frame.now told
act_fault s act.Restarted = None

-- an act came: nothing is against it, and its entry is one that might come
abbrev pub IsEntry : Summary → Entry → Summary → Type 0
IsEntry old entry new = (may_come old entry ≡ true) × (new ≡ host_next old entry)

-- what a call does that replays an act, and one that replays what came of a frame
abbrev pub ReplaysAct : Summary → Act → Result (Unit {0}) ActFault → Summary → Type 0
ReplaysAct old act (Ok done) new =
    (act_fault old act ≡ None) × IsSomeAnd (entry_of_act old act) (λ entry. IsEntry old entry new)
ReplaysAct old act (Err fault) new = (act_fault old act ≡ Some fault) × (new ≡ old)

abbrev pub Tells : Summary → List ℕ → Told → Result (Unit {0}) ActFault → Summary → Type 0
Tells old frame told (Ok done) new = (host_told_fault old frame told ≡ None) × IsEntry old (entry_told told) new
Tells old frame told (Err fault) new = (host_told_fault old frame told ≡ Some fault) × (new ≡ old)

-- what an act makes of what a host holds
abbrev pub act_next : Summary → Act → Summary
act_next s act = option_map_or (λ entry. host_next s entry) (entry_of_act s act) s

-- what a host holds after acts, newest first, and the entries of its transcript that they are
abbrev pub all_after : Summary → List Act → Summary
all_after s [] = s
all_after s (act ∷ before) = act_next (all_after s before) act

abbrev pub entries_from : Summary → List Act → List Entry
entries_from s [] = []
entries_from s (act ∷ before) = option_to_list (entry_of_act (all_after s before) act) ++ entries_from s before

-- each of the acts might come where it stands
abbrev pub MightComeFrom : Summary → List Act → Type 0
MightComeFrom s [] = Unit {0}
MightComeFrom s (act ∷ before) = (act_fault (all_after s before) act ≡ None)
    × IsSomeAnd (entry_of_act (all_after s before) act) (λ entry. may_come (all_after s before) entry ≡ true)
    × MightComeFrom s before

-- a log, oldest first: what a new host holds after it, its transcript, newest first, and whether its acts might come
abbrev pub replayed : Setup → List Act → Summary
replayed setup acts = all_after (start setup) (reverse acts)

abbrev pub transcript : Setup → List Act → List Entry
transcript setup acts = entries_from (start setup) (reverse acts)

abbrev pub MightCome : Setup → List Act → Type 0
MightCome setup acts = MightComeFrom (start setup) (reverse acts)

-- the word is the only one of a list; one word alone is possible, and it is this one
abbrev pub is_word_only : ℕ → List ℕ → Bool
is_word_only word (listed ∷ []) = listed == word
is_word_only word words = false

abbrev pub is_only : ℕ → Possible → Bool
is_only word Any = false
is_only word (Words words) = is_word_only word words.items

-- the cell may hold no other word; and the band of an output, of a part with these registers, lies within these microvolts
abbrev pub holds_only : Summary → Cell → ℕ → Bool
holds_only s cell word = is_only word (possible_at s cell)

abbrev pub commands_within : Summary → PartRegisters → ℕ → ℤ → ℤ → Bool
commands_within s part output least most = is_none (bounds_fault least most)
    && is_yes (within_of (Between (record { least = least; most = most })) (band_at part s output))

-- the claim is known: what it speaks of is there, and what it says is so by all that is possible
abbrev pub is_claimed : Summary → Claim → Bool
is_claimed s (Holds cell word) = is_cell s.setup.outputs cell && holds_only s cell word
is_claimed s (Commands output part least most) = nat_lt output s.setup.outputs && commands_within s part output least most

-- each of the claims is known
abbrev pub AreClaimed : Summary → List Claim → Type 0
AreClaimed s [] = Unit {0}
AreClaimed s (claim ∷ claims) = (is_claimed s claim ≡ true) × AreClaimed s claims

-- the acts of a log are replayed, up to the first that can't have come
abbrev pub Replays : Summary → List Act → Result (Unit {0}) CheckFault → Summary → Type 0
Replays old acts (Ok done) new = MightComeFrom old (reverse acts) × (new ≡ all_after old (reverse acts))
Replays old acts (Err (check.Act at fault)) new = MightComeFrom old (reverse (take at acts))
    × IsSomeAnd (slice_get acts at) (λ act. act_fault (all_after old (reverse (take at acts))) act ≡ Some fault)
Replays old acts (Err fault) new = ⊥

-- the claims are looked at, up to the first that isn't known
abbrev pub Knows : Summary → List Claim → Result (Unit {0}) CheckFault → Type 0
Knows s claims (Ok done) = AreClaimed s claims
Knows s claims (Err (check.Claim at)) = AreClaimed s (take at claims)
    × IsSomeAnd (slice_get claims at) (λ claim. is_claimed s claim ≡ false)
Knows s claims (Err fault) = ⊥

-- A log is accepted: there is such a host, each act might come where it stands, and each claim is known by them.
pub record Accepts (setup : Setup) (acts : List Act) (claims : List Claim) : Type 0 where
  pub made : setup_fault setup.outputs setup.passes ≡ None
  pub come : MightCome setup acts
  pub claimed : AreClaimed (replayed setup acts) claims

-- What a check of a log answers: no such host, the first act that can't have come, the first claim that isn't known, or that
-- it is accepted.
abbrev pub Checks : Setup → List Act → List Claim → Result (Unit {0}) CheckFault → Type 0
Checks setup acts claims (Ok done) = Accepts setup acts claims
Checks setup acts claims (Err (check.Setup fault)) = setup_fault setup.outputs setup.passes ≡ Some fault
Checks setup acts claims (Err (check.Act at fault)) = (setup_fault setup.outputs setup.passes ≡ None)
    × MightCome setup (take at acts)
    × IsSomeAnd (slice_get acts at) (λ act. act_fault (replayed setup (take at acts)) act ≡ Some fault)
Checks setup acts claims (Err (check.Claim at)) = (setup_fault setup.outputs setup.passes ≡ None)
    × MightCome setup acts
    × AreClaimed (replayed setup acts) (take at claims)
    × IsSomeAnd (slice_get claims at) (λ claim. is_claimed (replayed setup acts) claim ≡ false)

-- What a host holds after a log whose acts might come is what the definitions find in its transcript, which might come.
pub record LogsAreTranscripts : Type 0 where
  pub told : (setup : Setup) (acts : List Act) → IsSetup setup → MightCome setup acts →
      AreTold setup (transcript setup acts)
  pub same : (setup : Setup) (acts : List Act) → IsSetup setup → MightCome setup acts →
      host_now setup (transcript setup acts) ≡ replayed setup acts
