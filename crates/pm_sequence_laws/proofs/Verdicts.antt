-- What a look counts as read was answered it by the part, and what a verdict says was read.
use Rattle.std.specs.Prelude.{bytes_eq, nat_lt, slice_index, Err}
use Rattle.std.proofs.Common.{◌≡◌, ◌≢◌, inl, inr, ℕ, ◌+◌, ◌/◌, ◌%◌, ◌<◌, ◌==◌, Bool, true, false, not, ◌&&◌, ◌||◌, cond, List, [], ◌∷◌, ◌++◌, length}
use Rattle.std.proofs.Common.{Option, Some, None, refl, sym, ◌∙◌, ap, ap₂, subst, arith, take, append_assoc}
use Rattle.std.proofs.Math.Nat.{mod-add-div'}
use Rattle.std.proofs.lemmas.Bool.{and_parts, or_cases, true≢false}
use Rattle.std.proofs.lemmas.Bool.Decides.{nat_tests}
use Rattle.std.proofs.lemmas.Slice.Eq.{bytes_eq-Decides}
use Rattle.pm_table.specs.Codes as command
use Rattle.pm_table.specs.Commands.{line_of, payload_length}
use Rattle.pm_table.specs.RuleLemmas.{none-or, none-rule, or-none, rule-none}
use Rattle.pm_frame.specs.declared.fault.FrameFault.{FrameFault}
use Rattle.pm_frame.specs.declared.fault.FrameFault.TheVariants as frame
use Rattle.pm_frame.specs.declared.message.Message.TheVariants.{PagePlusRead}
use Rattle.pm_frame.specs.BlockRead.{block_payload}
use Rattle.pm_frame.specs.Betrayal.{is_betrayed}
use Rattle.pm_frame.specs.Fault.{answer_fault, length_fault, opening_fault, whole_answer}
use Rattle.pm_frame.specs.FaultWords.{frame_fault_number}
use Rattle.pm_frame.specs.Laws.{BetrayalIsRefused, DamageIsRefused}
use Rattle.pm_frame.specs.Layout.{fits_layout, read_address, with_pec}
use Rattle.pm_frame.specs.PagedRead.{is_other_count, paged_fault, paged_request}
use Rattle.pm_device.specs.declared.converter.Ending.{Ending}
use Rattle.pm_device.specs.declared.converter.Ending.TheVariants.{Restart, Stop}
use Rattle.pm_device.specs.declared.config.Config.{Config}
use Rattle.pm_device.specs.Held.{Held}
use Rattle.pm_device.specs.Laws.{AnswersWith, ReadsAreAnswered, RegistersSayWhatCallsSay}
use Rattle.pm_device.specs.Reply.{register_bytes, register_word, reply_of}
use Rattle.pm_device.specs.Status.{cut_at, is_output_on, bit_if_set, status_cml_of}
use Rattle.pm_rail.specs.declared.power.Power.{Power}
use Rattle.pm_rail.specs.declared.power.Power.TheVariants as power
use Rattle.pm_delivery.specs.declared.delivery.Delivery.{Delivery}
use Rattle.pm_delivery.specs.declared.delivery.FaultBit.{FaultBit}
use Rattle.pm_delivery.specs.declared.due.Due.{Due}
use Rattle.pm_delivery.specs.declared.due.Due.TheVariants.{Again, Ask, Nothing}
use Rattle.pm_delivery.specs.declared.heard.Heard.{Heard}
use Rattle.pm_delivery.specs.declared.question.Question.{Question}
use Rattle.pm_delivery.specs.declared.question.Question.TheVariants.{ReadVout, StatusWord}
use Rattle.pm_delivery.specs.declared.reading.Reading.{Reading}
use Rattle.pm_delivery.specs.declared.reading.Reading.TheVariants as read
use Rattle.pm_delivery.specs.declared.reading.Reading.TheVariants.{Outside, Right}
use Rattle.pm_delivery.specs.declared.verdict.Verdict.{Verdict}
use Rattle.pm_delivery.specs.declared.verdict.Verdict.TheVariants.{CommandedOff, Delivers, IsOff, NoPowerGood, NotKnownOn, NotYet, PowerGoodAlone, StillOn, WentOff}
use Rattle.pm_delivery.specs.Deliveries.{has_status, has_vout, is_off, lacks_power_good, look_off, looks_on, new_fault}
use Rattle.pm_delivery.specs.Due.{due_of}
use Rattle.pm_delivery.specs.Ended.{once_over, verdict_at, delivery_verdict_of}
use Rattle.pm_delivery.specs.Heard.{asked_more, heard_after, is_good}
use Rattle.pm_delivery.specs.Questions.{answer_by, no_answer, word_in_payload}
use Rattle.pm_delivery.specs.StatusBits.{has_bit, off, power_good_not}
use Rattle.pm_delivery.specs.Verdict.{not_known, unanswered, verdict_alone, verdict_by, verdict_known, verdict_off, verdict_on, verdict_read, verdict_sound, verdict_status, verdict_with, verdict_without}
use Rattle.pm_world.specs.Legal.{is_heard_whole, is_legal_return}
use Rattle.pm_world.specs.Legal as legal
use Rattle.pm_part_laws.specs.Lemmas.Made.{made-so}
use Rattle.pm_part_laws.specs.Happenings.{Happening, Hears, beside}
use Rattle.pm_sequence_laws.specs.Delivers.{VerdictsAreOfAnswers, WasAnswered, WasOn}
use Rattle.pm_sequence_laws.specs.Looks.{CameBack, IsLook, asks_again, begins, hears, passes_by}

-- ---- One answer ----

-- a count of two, and no other
two-counted : (count : ℕ) → is_other_count (Some 2) count ≡ false → count ≡ 2
two-counted count h = grind (arith, nat_tests, h)

two-right : (count size : ℕ) → count ≡ 2 → size ≡ 2 → (true && not (count == size)) ≡ false
two-right count size is two = grind (arith, nat_tests, is, two)

-- bytes without a fault of a paged read of two bytes have none as an answer to the read of such a code
no-fault : (addr output code : ℕ) (bytes : List ℕ) → payload_length code ≡ 2 →
    paged_fault addr output code (Some 2) bytes ≡ None → answer_fault addr (PagePlusRead output code) bytes ≡ None
unfolding paged_fault answer_fault opening_fault
no-fault addr output code bytes two none =
    let opened = or-none _ _ none in
    let counted = or-none _ _ opened.1 in
    let sized = or-none _ _ counted.1 in
    let coded = or-none _ _ sized.1 in
    let is = two-counted (slice_index bytes 1) (rule-none _ (frame.WrongCount 1) counted.0) in
    none-or _ _ (or-none _ _ opened.0).0
    (none-or _ _ (ap (λ n. length_fault n bytes) (ap (λ n. 3 + n) two ∙ sym (ap (λ n. n + 3) is)) ∙ sized.0)
    (none-or _ _ (none-rule _ (frame.WrongCount 1) (two-right (slice_index bytes 1) (payload_length code) is two))
    (none-or _ _ coded.0 refl)))

-- a code of two bytes that PAGE_PLUS reads
pub record IsWordRead (output code : ℕ) : Type 0 where
  pub fits : fits_layout (PagePlusRead output code) ≡ true
  pub two : payload_length code ≡ 2

pub status-read : (output : ℕ) → IsWordRead output command.status_word
unfolding line_of
status-read output = record { fits = refl; two = refl }

pub voltage-read : (output : ℕ) → IsWordRead output command.read_vout
unfolding line_of
voltage-read output = record { fits = refl; two = refl }

-- the word that a good answer of a code says is what the part's register said, and the part heard the whole request
pub record IsOwn (device : Held) (output code word : ℕ) (heard : List ℕ) (ending : Ending) : Type 0 where
  pub heard_is : heard ≡ paged_request device.config.addr output code
  pub ending_is : ending ≡ Restart
  pub word_is : register_word device output code ≡ word

module _ (betrayed : BetrayalIsRefused) (damaged : DamageIsRefused) (reads : ReadsAreAnswered) (device : Held) (output code : ℕ)
    (reading : IsWordRead output code) (here : output < device.config.count) where
  abbrev request : List ℕ
  request = paged_request device.config.addr output code

  -- the part's own answer
  own-answer : AnswersWith device request (PagePlusRead output code) (register_bytes code (register_word device output code))
  own-answer = reads.answered device (PagePlusRead output code) request (record { reads = refl; fits = reading.fits; spelled = refl })
      (grind (arith, nat_tests, here))

  -- the word that stands in it
  own-word : (bytes : List ℕ) → bytes ≡ own-answer.0 → word_in_payload (block_payload bytes) ≡ register_word device output code
  own-word bytes is =
      let word = register_word device output code in
      let payload = ap (λ n. take n (word % 256 ∷ word / 256 ∷ [])) reading.two in
      let spelled = is ∙ own-answer.2.spelled ∙ ap (λ p. with_pec request (read_address device.config.addr ∷ length p ∷ p)) payload in
      ap (λ b. word_in_payload (block_payload b)) spelled ∙ mod-add-div' word 256

  -- a whole answer that came back is the part's
  is-own : (heard bytes : List ℕ) (ending : Ending) (word : ℕ) → CameBack device request 2 heard ending bytes →
      paged_fault device.config.addr output code (Some 2) bytes ≡ None → word_in_payload (block_payload bytes) ≡ word →
      IsOwn device output code word heard ending
  unfolding is_legal_return
  is-own heard bytes ending word came none said =
      let fine = no-fault device.config.addr output code bytes reading.two none in
      elim (or_cases (is_heard_whole request heard ending && bytes_eq bytes (legal.answer_in (reply_of device heard ending)))
      (nat_lt (length bytes) 5 || is_betrayed request bytes) came) [
        | inl whole ↦ whole-is heard bytes ending word said (and_parts (is_heard_whole request heard ending) _ whole)
        | inr other ↦ absurd (elim (or_cases (nat_lt (length bytes) 5) (is_betrayed request bytes) other) [
          | inl short ↦ damaged.answer_short device.config.addr (PagePlusRead output code) bytes (short-is bytes short) fine
          | inr wrong ↦ betrayed.answer device.config.addr (PagePlusRead output code) bytes wrong fine
        ])
      ]
    where
      short-is : (bytes : List ℕ) → nat_lt (length bytes) 5 ≡ true → length bytes < whole_answer (PagePlusRead output code)
      short-is bytes short = subst (λ n. length bytes < 3 + n) (sym reading.two) (grind (arith, nat_tests, short))

      whole-is : (heard bytes : List ℕ) (ending : Ending) (word : ℕ) → word_in_payload (block_payload bytes) ≡ word →
          (is_heard_whole request heard ending ≡ true) × (bytes_eq bytes (legal.answer_in (reply_of device heard ending)) ≡ true) →
          IsOwn device output code word heard ending
      whole-is heard bytes Stop word said both = cc
      whole-is heard bytes Restart word said both =
          let same = (bytes_eq-Decides heard request).0 both.0 in
          let answer = (bytes_eq-Decides bytes (legal.answer_in (reply_of device heard Restart))).0 both.1 in
          record {
            heard_is = same;
            ending_is = refl;
            word_is = sym (own-word bytes (answer ∙ ap (λ b. legal.answer_in (reply_of device b Restart)) same ∙ ap legal.answer_in own-answer.1))
                ∙ said;
          }

-- ---- What is heard ----

-- the number of a fault isn't that of a good answer
fault-number : (fault : FrameFault) → (frame_fault_number fault == 0) ≡ false
fault-number frame.NotOurs = refl
fault-number (frame.Short place) = refl
fault-number (frame.Long place) = refl
fault-number (frame.WrongCount place) = refl
fault-number (frame.WrongPec place) = refl
fault-number (frame.UnknownCode place) = refl
fault-number (frame.WrongDirection place) = refl
fault-number (frame.Nested place) = refl

-- what was answered stays so
more : {held : Held} {passes output code word : ℕ} {later before : List Happening} (one : Happening) →
    WasAnswered held passes output code word later before → WasAnswered held passes output code word (one ∷ later) before
more one was = record { newer = one ∷ was.newer; older = was.older; is = ap (λ l. one ∷ l) was.is; word_is = was.word_is }

-- STATUS_WORD and READ_VOUT of a look
record IsAnswered (held : Held) (passes : ℕ) (d : Delivery) (later before : List Happening) : Type 0 where
  status : is_good d.status_word ≡ true → WasAnswered held passes d.output command.status_word d.status_word.word later before
  voltage : is_good d.read_vout ≡ true → WasAnswered held passes d.output command.read_vout d.read_vout.word later before

module _ (betrayed : BetrayalIsRefused) (damaged : DamageIsRefused) (reads : ReadsAreAnswered) (held : Held) (passes : ℕ)
    (before : List Happening) where
  -- a good answer that came
  took : (output code : ℕ) (heard bytes : List ℕ) (ending : Ending) (later : List Happening) (old : Heard) → IsWordRead output code →
      output < held.config.count →
      CameBack (beside held passes (later ++ before)).device (paged_request held.config.addr output code) 2 heard ending bytes →
      (empty : Bool) (fault : Option FrameFault) → paged_fault held.config.addr output code (Some 2) bytes ≡ fault →
      is_good (heard_after old (cond empty (Err no_answer) (answer_by bytes fault))) ≡ true →
      WasAnswered held passes output code (heard_after old (cond empty (Err no_answer) (answer_by bytes fault))).word (Hears heard ending ∷ later) before
  took output code heard bytes ending later old reading here came true fault is good =
      absurd (true≢false (sym (and_parts (not (asked_more old.asked == 0)) false good).1))
  took output code heard bytes ending later old reading here came false (Some fault) is good =
      absurd (true≢false (sym (and_parts (not (asked_more old.asked == 0)) (frame_fault_number fault == 0) good).1 ∙ fault-number fault))
  took output code heard bytes ending later old reading here came false None is good =
      let d = (beside held passes (later ++ before)).device in
      let made = made-so held passes (later ++ before) in
      let own = is-own betrayed damaged reads d output code reading (subst (λ (c : Config). output < c.count) (sym made) here) heard bytes ending
      (word_in_payload (block_payload bytes))
      (subst (λ (c : Config). CameBack d (paged_request c.addr output code) 2 heard ending bytes) (sym made) came)
      (subst (λ (c : Config). paged_fault c.addr output code (Some 2) bytes ≡ None) (sym made) is) refl in
      record {
        newer = [];
        older = later;
        is = ap₂ (λ h e. Hears h e ∷ later) (own.heard_is ∙ ap (λ (c : Config). paged_request c.addr output code) made) own.ending_is;
        word_is = own.word_is;
      }

  answered : (d : Delivery) (later : List Happening) → d.output < held.config.count → IsLook held passes before d later →
      IsAnswered held passes d later before
  answered d later here (begins d' off lowers) = record { status = λ good. cc; voltage = λ good. cc }
  answered d later here (hears d' StatusWord heard ending bytes later' look came) =
      let was = answered d' later' here look in
      record {
        status = took d'.output command.status_word heard bytes ending later' d'.status_word (status-read d'.output) here came
            (length bytes == 0) (paged_fault held.config.addr d'.output command.status_word (Some 2) bytes) refl;
        voltage = λ good. more (Hears heard ending) (was.voltage good);
      }
  answered d later here (hears d' ReadVout heard ending bytes later' look came) =
      let was = answered d' later' here look in
      record {
        status = λ good. more (Hears heard ending) (was.status good);
        voltage = took d'.output command.read_vout heard bytes ending later' d'.read_vout (voltage-read d'.output) here came
            (length bytes == 0) (paged_fault held.config.addr d'.output command.read_vout (Some 2) bytes) refl;
      }
  answered d later here (hears d' question heard ending bytes later' look came) =
      let was = answered d' later' here look in
      record { status = λ good. more (Hears heard ending) (was.status good); voltage = λ good. more (Hears heard ending) (was.voltage good) }
  answered d later here (asks_again d' later' look) = record { status = λ good. cc; voltage = λ good. cc }
  answered d later here (passes_by d' one later' look) =
      let was = answered d' later' here look in
      record { status = λ good. more one (was.status good); voltage = λ good. more one (was.voltage good) }

-- ---- What a verdict says ----

-- bit 6 and bit 11 of STATUS_WORD follow OPERATION
off-bit : (on cut cml : Bool) →
    has_bit (bit_if_set 0x40 (not on) + bit_if_set 0x02 cml + bit_if_set 0x01 cut + bit_if_set 0x8000 cut + bit_if_set 0x0800 (not on)) off
    ≡ not on
off-bit true true true = refl
off-bit true true false = refl
off-bit true false true = refl
off-bit true false false = refl
off-bit false true true = refl
off-bit false true false = refl
off-bit false false true = refl
off-bit false false false = refl

once-is : (due : Due) (verdict wanted : Verdict) → NotYet ≢ wanted → once_over due verdict ≡ wanted → verdict ≡ wanted
once-is Nothing verdict wanted other is = is
once-is (Ask question) verdict wanted other is = absurd (other is)
once-is Again verdict wanted other is = absurd (other is)

at-is : (power : Power) (due : Due) (verdict wanted : Verdict) → NotYet ≢ wanted → CommandedOff ≢ wanted → NotKnownOn ≢ wanted →
    verdict_at power due verdict ≡ wanted → verdict ≡ wanted
at-is power.On due verdict wanted yet gone known is = once-is due verdict wanted yet is
at-is power.Off due verdict wanted yet gone known is = absurd (gone is)
at-is power.NotKnown due verdict wanted yet gone known is = absurd (known is)

-- a rail that delivers is on by STATUS_WORD, and has power good
record IsOn (d : Delivery) : Type 0 where
  good : is_good d.status_word ≡ true
  on : is_off d ≡ false
  power_good : lacks_power_good d ≡ false

by-power : (d : Delivery) (reading : Reading) → verdict_by d reading ≡ Delivers → lacks_power_good d ≡ false
by-power d reading is = go (lacks_power_good d) refl where
  go : (lacks : Bool) → lacks_power_good d ≡ lacks → lacks ≡ false
  go false e = refl
  go true e = absurd (no (has_vout d) reading is) where
    no : (has : Bool) (reading : Reading) → cond has (verdict_with d reading) (verdict_without d) ≡ Delivers → ⊥
    no false reading is = let bad : NoPowerGood ≡ Delivers = sym (ap (λ b. cond b NoPowerGood Delivers) e) ∙ is in cc
    no true Right is = let bad : PowerGoodAlone ≡ Delivers = sym (ap (λ b. cond b PowerGoodAlone Delivers) e) ∙ is in cc
    no true read.NotKnown is = cc
    no true Outside is = cc
    no true read.Above is = cc
    no true read.Beyond is = cc

known-by : (d : Delivery) (reading : Reading) (register : Option Question) → verdict_known d reading register ≡ Delivers →
    verdict_by d reading ≡ Delivers
known-by d reading None is = is
known-by d reading (Some register) is = cc

sound-by : (d : Delivery) (reading : Reading) (fault : Option FaultBit) → verdict_sound d reading fault ≡ Delivers →
    verdict_by d reading ≡ Delivers
sound-by d reading None is = known-by d reading (unanswered d) is
sound-by d reading (Some fault) is = cc

status-on : (d : Delivery) (reading : Reading) → verdict_status d reading ≡ Delivers → IsOn d
status-on d reading is = go (is_good d.status_word) (is_off d) refl refl is where
  go : (good gone : Bool) → is_good d.status_word ≡ good → is_off d ≡ gone →
      cond (not good) (not_known d StatusWord) (cond gone IsOff (verdict_sound d reading (new_fault d))) ≡ Delivers → IsOn d
  go false gone g o is = cc
  go true true g o is = cc
  go true false g o is = record { good = g; on = o; power_good = by-power d reading (sound-by d reading (new_fault d) is) }

alone-not : (d : Delivery) (reading : Reading) (has : Bool) → cond has (verdict_read d reading) (not_known d StatusWord) ≡ Delivers → ⊥
alone-not d reading false is = cc
alone-not d Right true is = cc
alone-not d read.NotKnown true is = cc
alone-not d Outside true is = cc
alone-not d read.Above true is = cc
alone-not d read.Beyond true is = cc

on-on : (d : Delivery) (reading : Reading) (has : Bool) → cond has (verdict_status d reading) (verdict_alone d reading) ≡ Delivers → IsOn d
on-on d reading true is = status-on d reading is
on-on d reading false is = absurd (alone-not d reading (has_vout d) is)

off-not : (d : Delivery) (good gone : Bool) → cond (not good) (not_known d StatusWord) (cond gone WentOff StillOn) ≡ Delivers → ⊥
off-not d false gone is = cc
off-not d true true is = cc
off-not d true false is = cc

delivers-on : (d : Delivery) (most : ℕ) (power : Power) (reading : Reading) → delivery_verdict_of d most power reading ≡ Delivers → IsOn d
delivers-on d most power reading is = go (looks_on d) (d.look == look_off) is where
  go : (after off : Bool) → cond after (verdict_at power (due_of d most power reading) (verdict_on d reading))
      (cond off (once_over (due_of d most power reading) (verdict_off d)) NotYet) ≡ Delivers → IsOn d
  go true off is = on-on d reading (has_status d)
      (at-is power (due_of d most power reading) (verdict_on d reading) Delivers (λ e. cc) (λ e. cc) (λ e. cc) is)
  go false true is = absurd (off-not d (is_good d.status_word) (is_off d)
      (once-is (due_of d most power reading) (verdict_off d) Delivers (λ e. cc) is))
  go false false is = cc

-- a rail that went off is off by STATUS_WORD
never-gone : (d : Delivery) (reading : Reading) (register : Option Question) → verdict_known d reading register ≡ WentOff → ⊥
never-gone d reading (Some register) is = cc
never-gone d reading None is = go (has_vout d) (lacks_power_good d) reading is where
  with-is : (lacks : Bool) (reading : Reading) → lacks_power_good d ≡ lacks → verdict_with d reading ≡ WentOff → ⊥
  with-is true Right e is = let bad : PowerGoodAlone ≡ WentOff = sym (ap (λ b. cond b PowerGoodAlone Delivers) e) ∙ is in cc
  with-is false Right e is = let bad : Delivers ≡ WentOff = sym (ap (λ b. cond b PowerGoodAlone Delivers) e) ∙ is in cc
  with-is lacks read.NotKnown e is = cc
  with-is lacks Outside e is = cc
  with-is lacks read.Above e is = cc
  with-is lacks read.Beyond e is = cc

  go : (has lacks : Bool) (reading : Reading) → cond has (verdict_with d reading) (cond lacks NoPowerGood Delivers) ≡ WentOff → ⊥
  go true lacks reading is = with-is (lacks_power_good d) reading refl is
  go false true reading is = cc
  go false false reading is = cc

sound-gone : (d : Delivery) (reading : Reading) (fault : Option FaultBit) → verdict_sound d reading fault ≡ WentOff → ⊥
sound-gone d reading None is = never-gone d reading (unanswered d) is
sound-gone d reading (Some fault) is = cc

alone-gone : (d : Delivery) (reading : Reading) (has : Bool) → cond has (verdict_read d reading) (not_known d StatusWord) ≡ WentOff → ⊥
alone-gone d reading false is = cc
alone-gone d Right true is = cc
alone-gone d read.NotKnown true is = cc
alone-gone d Outside true is = cc
alone-gone d read.Above true is = cc
alone-gone d read.Beyond true is = cc

status-gone : (d : Delivery) (reading : Reading) (good gone : Bool) →
    cond (not good) (not_known d StatusWord) (cond gone IsOff (verdict_sound d reading (new_fault d))) ≡ WentOff → ⊥
status-gone d reading false gone is = cc
status-gone d reading true true is = cc
status-gone d reading true false is = sound-gone d reading (new_fault d) is

on-gone : (d : Delivery) (reading : Reading) (has : Bool) → cond has (verdict_status d reading) (verdict_alone d reading) ≡ WentOff → ⊥
on-gone d reading true is = status-gone d reading (is_good d.status_word) (is_off d) is
on-gone d reading false is = alone-gone d reading (has_vout d) is

off-is : (d : Delivery) → verdict_off d ≡ WentOff → is_off d ≡ true
off-is d is = go (is_good d.status_word) (is_off d) refl is where
  go : (good gone : Bool) → is_off d ≡ gone → cond (not good) (not_known d StatusWord) (cond gone WentOff StillOn) ≡ WentOff → is_off d ≡ true
  go false gone o is = cc
  go true true o is = o
  go true false o is = cc

went-off : (d : Delivery) (most : ℕ) (power : Power) (reading : Reading) → delivery_verdict_of d most power reading ≡ WentOff → is_off d
    ≡ true
went-off d most power reading is = go (looks_on d) (d.look == look_off) is where
  go : (after off : Bool) → cond after (verdict_at power (due_of d most power reading) (verdict_on d reading))
      (cond off (once_over (due_of d most power reading) (verdict_off d)) NotYet) ≡ WentOff → is_off d ≡ true
  go true off is = absurd (on-gone d reading (has_status d)
      (at-is power (due_of d most power reading) (verdict_on d reading) WentOff (λ e. cc) (λ e. cc) (λ e. cc) is))
  go false true is = off-is d (once-is (due_of d most power reading) (verdict_off d) WentOff (λ e. cc) is)
  go false false is = cc

-- what STATUS_WORD said of an output that was answered
module _ (says : RegistersSayWhatCallsSay) {held : Held} {passes output : ℕ} {later before : List Happening} (word : ℕ)
    (was : WasAnswered held passes output command.status_word word later before) where
  abbrev then : Held
  then = (beside held passes (was.older ++ before)).device

  off-then : has_bit (register_word then output command.status_word) off ≡ not (is_output_on then output)
  off-then = ap (λ w. has_bit w off) (says.status_word then output)
      ∙ off-bit (is_output_on then output) (cut_at then.cut output) (not (status_cml_of then == 0))

  on-is : (on : Bool) → has_bit word off ≡ not on → is_output_on then output ≡ on
  on-is on is = go (is_output_on then output) on (sym off-then ∙ (ap (λ w. has_bit w off) was.word_is ∙ is)) where
    go : (x y : Bool) → not x ≡ not y → x ≡ y
    go true true e = refl
    go false false e = refl
    go true false e = cc
    go false true e = cc

  was-on : (on : Bool) → has_bit word off ≡ not on → (on ≡ true → has_bit word power_good_not ≡ false) →
      WasOn held passes output on later before
  was-on on off_is good = record {
    newer = was.newer ++ Hears (paged_request held.config.addr output command.status_word) Restart ∷ [];
    older = was.older;
    is = was.is ∙ sym (append_assoc was.newer (Hears (paged_request held.config.addr output command.status_word) Restart ∷ []) was.older);
    off_is = ap (λ w. has_bit w off) was.word_is ∙ off_is;
    power_good = λ is. ap (λ w. has_bit w power_good_not) was.word_is ∙ good is;
    on_is = on-is on off_is;
  }

-- a bit that a good word has, or hasn't
bit-of : (good bit said : Bool) → good ≡ true → (good && bit) ≡ said → bit ≡ said
bit-of true bit said g is = is
bit-of false bit said g is = cc

pub verdicts : BetrayalIsRefused → DamageIsRefused → ReadsAreAnswered → RegistersSayWhatCallsSay → VerdictsAreOfAnswers
verdicts betrayed damaged reads says = record {
  status = λ held passes d later before here look. (all held passes d later before here look).status;
  voltage = λ held passes d later before here look. (all held passes d later before here look).voltage;
  delivers = λ held passes d later before here look most power reading is.
      let on = delivers-on d most power reading is in
      was-on says d.status_word.word ((all held passes d later before here look).status on.good) true
      (bit-of (is_good d.status_word) (has_bit d.status_word.word off) false on.good on.on)
      (λ e. bit-of (is_good d.status_word) (has_bit d.status_word.word power_good_not) false on.good on.power_good);
  went_off = λ held passes d later before here look most power reading is.
      let both = and_parts (is_good d.status_word) (has_bit d.status_word.word off) (went-off d most power reading is) in
      was-on says d.status_word.word ((all held passes d later before here look).status both.0) false both.1 (λ e. cc);
} where
  all : (held : Held) (passes : ℕ) (d : Delivery) (later before : List Happening) → d.output < held.config.count →
      IsLook held passes before d later → IsAnswered held passes d later before
  all held passes d later before here look = answered betrayed damaged reads held passes before d later here look
