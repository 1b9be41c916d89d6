-- What the definitions say of a whole transcript, as one summary.
use Rattle.std.specs.Prelude.{◌≡◌, ◌/◌, true, is_some, if◌then◌else◌, List, [], ◌∷◌, length, map, Option, option_map}
use Rattle.std.specs.List.{range_with_len}
use Rattle.pm_host.specs.declared.question.Question.TheVariants.{Word, Mode, Coefficients}
use Rattle.pm_host.specs.declared.stage.Stage.{Stage}
use Rattle.pm_host.specs.declared.stage.Stage.TheVariants.{Writes, Reads, Asks, Sends}
use Rattle.pm_host.specs.Known.{known_now}
use Rattle.pm_host.specs.Marks.{marks}
use Rattle.pm_host.specs.Refusals.{may_come}
use Rattle.pm_host.specs.Summary.{Summary}
use Rattle.pm_host.specs.Transcript.{Setup, Job, Order, Check, Learn, Send, Entry, open_job, told_since, is_write_turn, vout_mode_told}
use Rattle.pm_host.specs.Transcript.{coefficients_tries, format_of_output}

-- the stage of an open job, by what was told since it was accepted
abbrev pub job_stage : Setup → Job → List Entry → Stage
job_stage setup (Order cell word) told =
    if is_write_turn told then Writes cell word (length told / 2)
    else Reads cell word (length told / 2)
job_stage setup (Check cell) told = Asks (Word cell) (length told)
job_stage setup (Learn output) told =
    if is_some (vout_mode_told setup output told)
    then Asks (Coefficients output) (coefficients_tries setup output told)
    else Asks (Mode output) (length told)
job_stage setup (Send command) told = Sends command (length told)

unfoldable pub stage_of : Setup → List Entry → Option Stage
stage_of setup entries =
    option_map (λ job. job_stage setup job (told_since entries)) (open_job setup entries)

unfoldable pub host_now : Setup → List Entry → Summary
host_now setup entries = record {
  setup = setup;
  stage = stage_of setup entries;
  formats = map (format_of_output setup entries) (range_with_len 0 8);
  known = known_now (marks setup entries);
}

-- each entry of a transcript was one that might come
abbrev pub AreTold : Setup → List Entry → Type 0
AreTold setup [] = Unit {0}
AreTold setup (entry ∷ before) = (may_come (host_now setup before) entry ≡ true) × AreTold setup before
