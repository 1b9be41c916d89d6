-- What the laws of this crate say, each by a name that a crate above takes it by. They hold of lists
-- of any length, and of addresses and messages of any size.
use Rattle.std.specs.Prelude.{◌≡◌, ◌≢◌, ◌<◌, ◌≤◌, ◌%◌, ℕ, List, [], ◌∷◌, ◌++◌, length, None, true, false}
use Rattle.pm_frame.specs.declared.message.Message.{Message}
use Rattle.pm_frame.specs.Betrayal.{is_betrayed}
use Rattle.pm_frame.specs.Damage.{DifferWithinEight, EndsInPec, changed_bits, message_bit}
use Rattle.pm_frame.specs.Fault.{write_fault, request_fault, answer_fault, whole_answer}
use Rattle.pm_frame.specs.Layout.{AreBytes, IsWrite, IsRequest, IsAnswer, sent, is_read_message, fits_layout}
use Rattle.pm_frame.specs.Pec.{pec_of}
use Rattle.pm_frame.specs.View.{message_in, answer_payload}

-- Bytes have no fault as a write exactly where they have the layout of some message that writes,
-- which is the one read by their places; they are then no other message, and no strict prefix of
-- them is a write to the same address.
pub record WritesAreExact : Type 0 where
  pub faultless : (addr : ℕ) (bytes : List ℕ) → AreBytes bytes →
      write_fault addr bytes ≡ None → (message : Message) × IsWrite addr message bytes
  pub spelled : (addr : ℕ) (message : Message) (bytes : List ℕ) →
      IsWrite addr message bytes → write_fault addr bytes ≡ None
  pub places : (addr : ℕ) (message : Message) (bytes : List ℕ) →
      IsWrite addr message bytes → message_in bytes ≡ message
  pub one : (addr : ℕ) (message other : Message) (bytes : List ℕ) →
      IsWrite addr message bytes → IsWrite addr other bytes → message ≡ other
  pub front : (addr : ℕ) (message other : Message) (front rest : List ℕ) →
      IsWrite addr message front → IsWrite addr other (front ++ rest) → rest ≡ []

-- Bytes have no fault as a request exactly where they have the layout of some message that reads,
-- which is the one read by their places; they are then no other message, and no strict prefix of
-- them is a request to the same address.
pub record RequestsAreExact : Type 0 where
  pub faultless : (addr : ℕ) (bytes : List ℕ) →
      request_fault addr bytes ≡ None → (message : Message) × IsRequest addr message bytes
  pub spelled : (addr : ℕ) (message : Message) (bytes : List ℕ) →
      IsRequest addr message bytes → request_fault addr bytes ≡ None
  pub places : (addr : ℕ) (message : Message) (bytes : List ℕ) →
      IsRequest addr message bytes → message_in bytes ≡ message
  pub one : (addr : ℕ) (message other : Message) (bytes : List ℕ) →
      IsRequest addr message bytes → IsRequest addr other bytes → message ≡ other
  pub front : (addr : ℕ) (message other : Message) (front rest : List ℕ) →
      IsRequest addr message front → IsRequest addr other (front ++ rest) → rest ≡ []

-- What came back for a read that fits has no fault exactly where it has the layout of an answer with
-- some payload, which stands at its place; it then has no other payload, and no strict prefix of it
-- is an answer to that request.
pub record AnswersAreExact : Type 0 where
  pub faultless : (addr : ℕ) (request : Message) (bytes : List ℕ) →
      is_read_message request ≡ true → fits_layout request ≡ true →
      answer_fault addr request bytes ≡ None →
      (payload : List ℕ) × IsAnswer addr request payload bytes
  pub spelled : (addr : ℕ) (request : Message) (payload bytes : List ℕ) →
      IsAnswer addr request payload bytes → answer_fault addr request bytes ≡ None
  pub places : (addr : ℕ) (request : Message) (payload bytes : List ℕ) →
      IsAnswer addr request payload bytes → answer_payload request bytes ≡ payload
  pub one : (addr : ℕ) (request : Message) (payload other bytes : List ℕ) →
      IsAnswer addr request payload bytes → IsAnswer addr request other bytes → payload ≡ other
  pub front : (addr : ℕ) (request : Message) (payload other front rest : List ℕ) →
      IsAnswer addr request payload front →
      IsAnswer addr request other (front ++ rest) → rest ≡ []

-- What is cut short has a fault, and so has what its last byte betrays: a strict prefix of a write,
-- of a request, of an answer; a write whose last byte isn't the PEC of those before it; a request,
-- or a prefix of one, that a stop ended; an answer that is shorter than a whole one, or whose last
-- byte isn't the PEC of the request's bytes followed by those before it. So a write without a fault
-- ends in its PEC, and so does a request followed by an answer without one.
pub record DamageIsRefused : Type 0 where
  pub write_cut : (addr : ℕ) (front rest : List ℕ) →
      write_fault addr (front ++ rest) ≡ None → rest ≢ [] → write_fault addr front ≢ None
  pub write_betrayed : (addr last : ℕ) (front : List ℕ) →
      last ≢ pec_of front → write_fault addr (front ++ last ∷ []) ≢ None
  pub write_ends : (addr : ℕ) (bytes : List ℕ) →
      write_fault addr bytes ≡ None → EndsInPec bytes
  pub request_cut : (addr : ℕ) (front rest : List ℕ) →
      request_fault addr (front ++ rest) ≡ None → rest ≢ [] → request_fault addr front ≢ None
  pub request_written : (addr other : ℕ) (front rest : List ℕ) →
      request_fault addr (front ++ rest) ≡ None → write_fault other front ≢ None
  pub answer_cut : (addr : ℕ) (request : Message) (front rest : List ℕ) →
      answer_fault addr request (front ++ rest) ≡ None → rest ≢ [] →
      answer_fault addr request front ≢ None
  pub answer_short : (addr : ℕ) (request : Message) (bytes : List ℕ) →
      length bytes < whole_answer request → answer_fault addr request bytes ≢ None
  pub answer_betrayed : (addr last : ℕ) (request : Message) (front : List ℕ) →
      last ≢ pec_of (sent addr request ++ front) →
      answer_fault addr request (front ++ last ∷ []) ≢ None
  pub answer_ends : (addr : ℕ) (request : Message) (bytes : List ℕ) →
      answer_fault addr request bytes ≡ None → EndsInPec (sent addr request ++ bytes)

-- What the PEC betrays is no write, and no answer to the request that was sent.
pub record BetrayalIsRefused : Type 0 where
  pub write : (addr : ℕ) (bytes : List ℕ) →
      is_betrayed [] bytes ≡ true → write_fault addr bytes ≢ None
  pub answer : (addr : ℕ) (request : Message) (bytes : List ℕ) →
      is_betrayed (sent addr request) bytes ≡ true → answer_fault addr request bytes ≢ None

-- A change that lies within eight neighbouring bits of a message, its PEC included, is betrayed: the
-- PEC of the whole isn't what it was, and what ended in its PEC doesn't any more. The eight bits
-- may be of two bytes; the message may be of any length.
pub record BurstsAreBetrayed : Type 0 where
  pub code : (sent heard : List ℕ) → AreBytes sent → AreBytes heard →
      length sent ≡ length heard → sent ≢ heard → DifferWithinEight sent heard →
      pec_of sent ≢ pec_of heard
  pub whole : (sent heard : List ℕ) → AreBytes sent → AreBytes heard →
      length sent ≡ length heard → sent ≢ heard → DifferWithinEight sent heard →
      EndsInPec sent → ¬ EndsInPec heard

-- Two messages of 16 bytes that differ in their first bit and their last one, which are 127 apart, and
-- in no other, and that both end in their PEC.
pub record FarBitsPass : Type 0 where
  pub sent : List ℕ
  pub heard : List ℕ
  pub sent_size : length sent ≡ 16
  pub heard_size : length heard ≡ 16
  pub sent_bytes : AreBytes sent
  pub heard_bytes : AreBytes heard
  pub first : message_bit sent 0 ≢ message_bit heard 0
  pub last : message_bit sent 127 ≢ message_bit heard 127
  pub no_other : changed_bits sent heard ≡ 2
  pub sent_ends : EndsInPec sent
  pub heard_ends : EndsInPec heard

-- A change of one, two or three bits anywhere in a message of at most 15 bytes, its PEC included, is
-- betrayed, and so is a change of an odd number of bits in a message of any length. Two bits that
-- are 127 apart, as the first and the last of 16 bytes, are not.
pub record FewChangesAreBetrayed : Type 0 where
  pub few : (sent heard : List ℕ) → AreBytes sent → AreBytes heard →
      length sent ≡ length heard → sent ≢ heard → length sent ≤ 15 →
      changed_bits sent heard ≤ 3 → pec_of sent ≢ pec_of heard
  pub few_whole : (sent heard : List ℕ) → AreBytes sent → AreBytes heard →
      length sent ≡ length heard → sent ≢ heard → length sent ≤ 15 →
      changed_bits sent heard ≤ 3 → EndsInPec sent → ¬ EndsInPec heard
  pub odd : (sent heard : List ℕ) → AreBytes sent → AreBytes heard →
      length sent ≡ length heard → changed_bits sent heard % 2 ≡ 1 → pec_of sent ≢ pec_of heard
  pub odd_whole : (sent heard : List ℕ) → AreBytes sent → AreBytes heard →
      length sent ≡ length heard → changed_bits sent heard % 2 ≡ 1 →
      EndsInPec sent → ¬ EndsInPec heard
  pub far_pass : FarBitsPass

-- What the PEC always betrays, in a part of a packet that wasn't betrayed as it was sent, its last
-- byte included, whatever stood before it in the packet: a change within eight neighbouring bits, a
-- change of one, two or three bits in at most 15 bytes, and a change of an odd number of bits.
pub record DamageIsBetrayed : Type 0 where
  pub burst : (before sent heard : List ℕ) → AreBytes sent → AreBytes heard →
      is_betrayed before sent ≡ false → length sent ≡ length heard → sent ≢ heard →
      DifferWithinEight sent heard → is_betrayed before heard ≡ true
  pub few : (before sent heard : List ℕ) → AreBytes sent → AreBytes heard →
      is_betrayed before sent ≡ false → length sent ≡ length heard → sent ≢ heard →
      length sent ≤ 15 → changed_bits sent heard ≤ 3 → is_betrayed before heard ≡ true
  pub odd : (before sent heard : List ℕ) → AreBytes sent → AreBytes heard →
      is_betrayed before sent ≡ false → length sent ≡ length heard →
      changed_bits sent heard % 2 ≡ 1 → is_betrayed before heard ≡ true
