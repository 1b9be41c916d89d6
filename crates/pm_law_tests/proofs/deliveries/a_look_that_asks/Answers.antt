use Rattle.std.specs.Prelude.{bytes_eq}
use Rattle.std.proofs.Common.{◌≡◌, ℕ, ◌<◌, List, ◌∷◌, ◌++◌, ◌&&◌, refl, sym, ◌∙◌, ap, subst}
use Rattle.std.proofs.lemmas.Bool.{and_from, or_left}
use Rattle.std.proofs.lemmas.Slice.Eq.{bytes_eq-Decides}
use Rattle.pm_frame.specs.PagedRead.{paged_request}
use Rattle.pm_device.specs.declared.converter.Ending.TheVariants.{Restart}
use Rattle.pm_device.specs.declared.converter.Heard.{Heard as Reply}
use Rattle.pm_device.specs.Effect as device
use Rattle.pm_device.specs.Held.{Held}
use Rattle.pm_device.specs.History.{device_next}
use Rattle.pm_device.specs.Reply.{reply_of}
use Rattle.pm_delivery.specs.declared.delivery.Delivery.{Delivery}
use Rattle.pm_delivery.specs.declared.heard.Heard.{Heard}
use Rattle.pm_delivery.specs.declared.question.Question.{Question}
use Rattle.pm_delivery.specs.declared.question.Question.TheVariants.{Before}
use Rattle.pm_delivery.specs.Deliveries.{heard_of, with_heard}
use Rattle.pm_delivery.specs.Heard.{heard_after}
use Rattle.pm_delivery.specs.Questions.{answer_to_question, question_code, question_size}
use Rattle.pm_world.specs.Legal.{is_legal_return}
use Rattle.pm_world.specs.Legal as legal
use Rattle.pm_part_laws.specs.Happenings.{Hears, beside}
use Rattle.pm_sequence_laws.specs.Looks.{CameBack, IsLook, hears}
use Rattle.pm_law_tests.specs.Deliveries.{LookLife, LooksAt}
use Rattle.pm_law_tests.proofs.deliveries.a_look_that_asks.Goals as goal

-- an answer leaves the output
same-output : (d : Delivery) (question : Question) (heard : Heard) → (with_heard d question heard).output ≡ d.output
same-output d Before heard = refl
same-output d question heard = refl

-- the part's own answer to a whole request may come back
own-came : (d : Held) (request : List ℕ) (size : ℕ) → CameBack d request size request Restart (legal.answer_in (reply_of d request Restart))
unfolding is_legal_return
own-came d request size =
    let answer = legal.answer_in (reply_of d request Restart) in
    or_left (bytes_eq request request && bytes_eq answer answer) _ (and_from (bytes_eq request request) (bytes_eq answer answer)
    ((bytes_eq-Decides request request).1 refl) ((bytes_eq-Decides answer answer).1 refl))

-- a look that asked, and the part that answered
asked : (life : LookLife) (d : Delivery) (part : Held) (address : ℕ) (question : Question) → LooksAt life d part →
    address ≡ life.held.config.addr →
    let request = paged_request address d.output (question_code question) in
    LooksAt (record life { later = Hears request Restart ∷ life.later })
    (with_heard d question (heard_after (heard_of d question)
    (answer_to_question address d.output question (legal.answer_in (reply_of part request Restart)))))
    (device_next part (device.Hearing request Restart))
unfolding beside
asked life d part address question looks own =
    let request = paged_request address d.output (question_code question) in
    let bytes = legal.answer_in (reply_of part request Restart) in
    let then = (beside life.held life.passes (life.later ++ life.before)).device in
    record {
      look = subst (λ (a : ℕ). IsLook life.held life.passes life.before
          (with_heard d question (heard_after (heard_of d question) (answer_to_question a d.output question bytes))) (Hears request Restart ∷ life.later)) (sym own)
          (hears d question request Restart bytes life.later looks.look
          (subst (λ (p : Held). CameBack p (paged_request life.held.config.addr d.output (question_code question)) (question_size question)
          request Restart bytes) looks.device_is
          (subst (λ (a : ℕ). CameBack part (paged_request a d.output (question_code question)) (question_size question) request Restart bytes) own
          (own-came part request (question_size question)))));
      here = subst (λ (o : ℕ). o < life.held.config.count) (sym (same-output d question _)) looks.here;
      device_is = ap (λ (p : Held). device_next p (device.Hearing request Restart)) looks.device_is;
    }

pub returns : goal.returns
returns g c =
    let d = c.args.delivery.now in
    let part = c.args.device.now in
    let question = c.args.question in
    let request = paged_request c.args.address d.output (question_code question) in
    let life : LookLife = record g.life { later = Hears request Restart ∷ g.life.later } in
    let sent = c.request-sent.ensures in
    let bytes = c.answer_in.ensures.value ∙ ap (λ (r : Reply). legal.answer_in r)
    (c.hear-reply.ensures.reply ∙ ap (λ (b : List ℕ). reply_of part b Restart) sent) in
    let answer = c.answer_of-answer.ensures ∙ ap (λ (b : List ℕ). answer_to_question c.args.address d.output question b) bytes in
    let heard = c.hear.ensures ∙ ap (λ a. with_heard d question (heard_after (heard_of d question) a)) answer in
    let after = c.hear-reply.ensures.after ∙ ap (λ (b : List ℕ). device_next part (device.Hearing b Restart)) sent in
    subst (λ (p : Held). LooksAt life c.hear.new.self p) (sym after)
    (subst (λ (n : Delivery). LooksAt life n (device_next part (device.Hearing request Restart))) (sym heard)
    (asked g.life d part c.args.address question c.requires.0 c.requires.1.0))
