use Rattle.std.proofs.Common.{◌≡◌, ◌↔◌, ap, refl, subst, Result, Ok, Err, IsErrAnd, IsErrOf}
use Rattle.pm_num.specs.declared.fault.NumFault.{NumFault}
use Rattle.pm_tool.specs.NumberText.{IsNumberText, Refuses, RefusesNumber, number_line_of}
use Rattle.pm_tool.specs.declared.numbers.answer.Answer.{Answer}
use Rattle.pm_tool.specs.declared.numbers.fault.NumberFault.{NumberFault}
use Rattle.pm_tool.specs.declared.numbers.fault.NumberFault.TheVariants.{Num}
use Rattle.pm_tool.specs.declared.numbers.question.Question.{Question}
use Rattle.pm_tool.proofs.numbers.line_asked.Goals as goal

-- ---- reading a question finds no fault of a number

-- ---- what `?` passes up, over plain results

-- a fault is passed up as it is
passed : {T : Type 0} (r : Result T NumberFault) (f : NumberFault) → IsErrAnd r (λ y. y ≡ f) → r ≡ Err f
passed (Ok x) f is = absurd is
passed (Err y) f is = ap Err is

-- what is refused of a question is refused of its texts
refused_as : (a : Result Answer NumFault) {q : Result Question NumberFault} {asked : Question} → Ok asked ≡ q
    → ((fault : NumFault) → (a ≡ Err fault) ↔ Refuses asked fault) → (fault : NumFault) → (a ≡ Err fault) ↔ RefusesNumber q fault
refused_as a same refused = subst (λ (p : Result Question NumberFault).
    (fault : NumFault) → (a ≡ Err fault) ↔ RefusesNumber p fault) same refused

-- the fault of a number is passed up
number_refused : {T : Type 0} (r : Result T NumberFault) (q : Result Question NumberFault) (n : NumFault) (a : Result Answer NumFault)
    → r ≡ Err (Num n) → a ≡ Err n → ((fault : NumFault) → (a ≡ Err fault) ↔ RefusesNumber q fault) → (fault : NumFault)
    → IsErrOf r (Num fault) ↔ RefusesNumber q fault
number_refused r q n a is failed refused fault = (
  λ h.
      let found : a ≡ Err fault = cc in
      (refused fault).0 found,
  λ h.
      let found : a ≡ Err fault = (refused fault).1 h in
      cc,
)

-- ---- the answers

pub returns-in_err-line-clause-memory : goal.returns-in_err-line-clause-memory
returns-in_err-line-clause-memory c = λ _.
    let answer = c.in_ok-answer.answer in
    let text = number_line_of answer in (
      text,
      subst (λ (q : Result Question NumberFault). IsNumberText q text) c.in_ok-question.ensures.asked
          (answer, c.in_ok-answer.ensures.answered, refl),
    )
