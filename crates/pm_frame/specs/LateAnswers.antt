-- When an answer to one request passes for an answer to another, as one that comes late may. The PEC is SMBus's; the
-- layouts are those of this crate.
use Rattle.std.specs.Prelude.{◌≡◌, ℕ, List, [], ◌∷◌, ◌++◌, true, None}
use Rattle.pm_frame.specs.declared.message.Message.{Message}
use Rattle.pm_frame.specs.Fault.{answer_fault}
use Rattle.pm_frame.specs.Layout.{IsAnswer, read_address, sent, is_read_message, fits_layout, has_count, answer_length}
use Rattle.pm_frame.specs.Pec.{pec_of}

-- the PEC of a request and of the read address, with which its answer begins
unfoldable pub request_code : ℕ → Message → ℕ
request_code addr request = pec_of (sent addr request ++ read_address addr ∷ [])

-- the answers of two requests have one form: a count before the payload of both or of none, and payloads of one length
pub record HaveOneForm (request other : Message) : Type 0 where
  pub count : has_count request ≡ has_count other
  pub size : answer_length request ≡ answer_length other

-- What comes back is judged alike for two requests that have one PEC up to the read address and answers of one form, so that each answer to
-- the one is an answer to the other, with the same payload. An answer to one request passes for an answer to another only if the two have
-- one PEC up to the read address.
pub record LateAnswersPass : Type 0 where
  pub judged : (addr : ℕ) (request other : Message) (bytes : List ℕ) → HaveOneForm request other →
      request_code addr request ≡ request_code addr other → answer_fault addr request bytes ≡ answer_fault addr other bytes
  pub passes : (addr : ℕ) (request other : Message) (payload bytes : List ℕ) → HaveOneForm request other →
      is_read_message other ≡ true → fits_layout other ≡ true → request_code addr request ≡ request_code addr other →
      IsAnswer addr request payload bytes → IsAnswer addr other payload bytes
  pub shared : (addr : ℕ) (request other : Message) (payload bytes : List ℕ) → IsAnswer addr request payload bytes →
      answer_fault addr other bytes ≡ None → request_code addr request ≡ request_code addr other
