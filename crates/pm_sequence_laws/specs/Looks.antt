-- A look at an output of a part, by what it asked and what came back: this project's own choice. Lists are newest first.
use Rattle.std.specs.Prelude.{◌≡◌, ◌+◌, ℕ, Bool, true, List, [], ◌∷◌, ◌++◌}
use Rattle.pm_frame.specs.PagedRead.{paged_request}
use Rattle.pm_device.specs.declared.converter.Ending.{Ending}
use Rattle.pm_device.specs.Held.{Held}
use Rattle.pm_device.specs.Reply.{reply_of}
use Rattle.pm_delivery.specs.declared.delivery.Delivery.{Delivery}
use Rattle.pm_delivery.specs.declared.question.Question.{Question}
use Rattle.pm_delivery.specs.Deliveries.{again, heard_of, looking_after, with_heard}
use Rattle.pm_delivery.specs.Heard.{heard_after}
use Rattle.pm_delivery.specs.Questions.{answer_to_question, question_code, question_size}
use Rattle.pm_world.specs.Legal.{is_heard_whole, is_legal_return}
use Rattle.pm_world.specs.Legal as legal
use Rattle.pm_part_laws.specs.Happenings.{Happening, Hears, beside}

-- What may come back of a request, of which the part heard these bytes with this ending, and of whose answer the payload has this size: the
-- part's own answer to the whole request, or fewer bytes than a whole answer has, or bytes that the packet error code betrays. A world asks the
-- same of each return.
abbrev pub CameBack : Held → List ℕ → ℕ → List ℕ → Ending → List ℕ → Type 0
CameBack device request size heard ending bytes =
    is_legal_return request (3 + size) (is_heard_whole request heard ending) (legal.answer_in (reply_of device heard ending)) bytes ≡ true

-- A look that began at an earlier moment, and what it has heard since (`begins`, at that moment): it heard what came back of a request of its
-- own, however that arrived (`hears`), it began a further round (`asks_again`), or anything else happened beside the part (`passes_by`).
pub data IsLook (held : Held) (passes : ℕ) (before : List Happening) : Delivery → List Happening → Type 0 where
  begins : (d : Delivery) (is_off lowers : Bool) → IsLook held passes before (looking_after d is_off lowers) []
  hears : (d : Delivery) (question : Question) (heard : List ℕ) (ending : Ending) (bytes : List ℕ) (later : List Happening) →
      IsLook held passes before d later →
      CameBack (beside held passes (later ++ before)).device (paged_request held.config.addr d.output (question_code question))
      (question_size question) heard ending bytes →
      IsLook held passes before
      (with_heard d question (heard_after (heard_of d question) (answer_to_question held.config.addr d.output question bytes)))
      (Hears heard ending ∷ later)
  asks_again : (d : Delivery) (later : List Happening) → IsLook held passes before d later → IsLook held passes before (again d) later
  passes_by : (d : Delivery) (one : Happening) (later : List Happening) → IsLook held passes before d later →
      IsLook held passes before d (one ∷ later)
