use Rattle.std.proofs.Common.{◌≡◌, ◌∙◌, Bool, Option, Some, None, ap, sym}
use Rattle.std.specs.Prelude.{◌&&◌, is_some}
use Rattle.pm_host.specs.declared.host.Step.{Step}
use Rattle.pm_host.specs.declared.question.Question.TheVariants.{Word}
use Rattle.pm_host.specs.declared.stage.Stage.{Stage}
use Rattle.pm_host.specs.declared.stage.Stage.TheVariants.{Asks}
use Rattle.pm_host.specs.Answers.{good_payload}
use Rattle.pm_host.specs.Image.{held}
use Rattle.pm_host.specs.Messages.{cell_read}
use Rattle.pm_host.specs.Summary.{Summary, step_of}
use Rattle.pm_host.specs.Transcript.{Got}
use Rattle.pm_course.specs.Heard.{heard_by}
use Rattle.pm_course.specs.Surprise.{is_done, surprises}
use Rattle.pm_course.proofs.CourseFrames.{done-good, good-new}
use Rattle.pm_course.proofs.frame_course.FrameCourse.checked_by.Goals as goal

pub heard_so-requires-clause-fault : goal.heard_so-requires-clause-fault
heard_so-requires-clause-fault g c =
    let old = g.H.Hosted.guarded c.args.host.now in
    let state = c.state-state.result.now in
    let bytes = c.args.bytes.now in
    let stage = Asks (Word c.args.cell) c.args.tries in
    let whole : held (Some stage) state ≡ old.host =
    ap (λ (at : Option Stage). held at state) (sym c.requires.stage) ∙ c.state-state.ensures.state in
    let good : c.is_done.result ≡ is_some (good_payload state.address (cell_read c.args.cell) bytes) =
    c.is_done.ensures ∙ ap (λ (step : Step). is_done step) c.hear_at-heard.ensures.step
    ∙ ap (λ (s : Summary). is_done (step_of s (Got bytes))) (sym whole) ∙ done-good state c.args.cell c.args.tries bytes in
    c.noticed_check-noticed.ensures.fault good

pub returns-clause-told : goal.returns-clause-told
returns-clause-told g c =
    let old = g.H.Hosted.guarded c.args.host.now in
    let was = c.args.self.now in
    let state = c.state-state.result.now in
    let bytes = c.args.bytes.now in
    let cell = c.args.cell in
    let stage = Asks (Word cell) c.args.tries in
    let s0 = held (Some stage) state in
    let hears = c.hear_at-heard.ensures in
    let whole : s0 ≡ old.host = ap (λ (at : Option Stage). held at state) (sym c.requires.stage) ∙ c.state-state.ensures.state in
    let good : c.is_done.result ≡ is_some (good_payload state.address (cell_read cell) bytes) =
    c.is_done.ensures ∙ ap (λ (step : Step). is_done step) hears.step
    ∙ ap (λ (s : Summary). is_done (step_of s (Got bytes))) (sym whole) ∙ done-good state cell c.args.tries bytes in
    let surprised : c.noticed_check-noticed.result.surprised ≡ surprises s0 stage (Got bytes) =
    c.noticed_check-noticed.ensures.surprised
    ∙ ap (λ (b : Bool). b && c.looks_new-is_new.result) good
    ∙ ap (λ (n : Bool). is_some (good_payload state.address (cell_read cell) bytes) && n) c.looks_new-is_new.ensures
    ∙ good-new state cell c.args.tries bytes in
    record {
      after = hears.after;
      limits = hears.limits;
      registers = hears.registers;
      step = hears.step;
      at = hears.stage;
      heard = c.heard_so.ensures
          ∙ ap (λ (b : Bool). heard_by was state.address stage (Got bytes) b c.hear_at-heard.result.step) surprised
          ∙ ap (λ (step : Step). heard_by was state.address stage (Got bytes) (surprises s0 stage (Got bytes)) step) hears.step
          ∙ ap (λ (s : Summary). heard_by was s.setup.addr stage (Got bytes) (surprises s stage (Got bytes)) (step_of old.host (Got bytes))) whole;
    }
