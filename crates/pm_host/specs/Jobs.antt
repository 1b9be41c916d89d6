-- What a host is asked for, which job that is, and how it begins: this project's own choice.
use Rattle.std.specs.Prelude.{◌≡◌, ◌*◌, ◌≤◌, Option, Some, option_map, option_and_then, IsSomeAnd, Result, Ok, Err, OnOk, OnErr}
use Rattle.std.specs.Result.{result_err}
use Rattle.pm_num.specs.AnyFormat.{shape_value, shape_rank}
use Rattle.pm_num.specs.Nearest.{IsNearest}
use Rattle.pm_num.specs.Ratio.{micros}
use Rattle.pm_table.specs.Cell.{output_of}
use Rattle.pm_host.specs.declared.fault.HostFault.{HostFault}
use Rattle.pm_host.specs.declared.job.Job.{Job}
use Rattle.pm_host.specs.declared.job.Job.TheVariants.{Order, OrderMicro, Check, Learn, Send}
use Rattle.pm_host.specs.declared.stage.Stage.{Stage}
use Rattle.pm_host.specs.Ended.{job_in, BeginsWith}
use Rattle.pm_host.specs.Frames.{frames_left}
use Rattle.pm_host.specs.Refusals.{job_fault, micro_fault, micro_word}
use Rattle.pm_host.specs.Summary.{Summary, host_next, format_at}
use Rattle.pm_host.specs.Transcript as accepted

-- The job that is accepted: what is asked for, in microvolts that of the nearest word in the format that the
-- host learned.
abbrev pub accepted_job : Summary → Job → Option accepted.Job
accepted_job s (Order cell word) = Some (accepted.Order cell word)
accepted_job s (OrderMicro cell x) = option_map (λ word. accepted.Order cell word) (micro_word s cell x)
accepted_job s (Check cell) = Some (accepted.Check cell)
accepted_job s (Learn output) = Some (accepted.Learn output)
accepted_job s (Send command) = Some (accepted.Send command)

-- why it is refused
abbrev pub begin_fault : Summary → Job → Option HostFault
begin_fault s (OrderMicro cell x) = micro_fault s cell x
begin_fault s job = option_and_then (job_fault s) (accepted_job s job)

-- the word of an order in microvolts is the nearest of the output's format
abbrev pub HasNearestWord : Summary → Job → Type 0
HasNearestWord s (OrderMicro cell x) = IsSomeAnd (format_at s (output_of cell))
    (λ shape. IsSomeAnd (micro_word s cell x) (IsNearest (shape_value shape) (shape_rank shape) (micros x)))
HasNearestWord s job = Unit {0}

-- how a host begins a job that it is asked for
pub record Begins {X : Type 0} (old : Summary) (job : Job) (result : Result X HostFault) (new : Summary) : Type 0 where
  -- it is refused exactly for these
  pub fault : result_err result ≡ begin_fault old job
  -- otherwise it is accepted
  pub ok : OnOk result (IsSomeAnd (accepted_job old job) (λ begun. new ≡ host_next old (accepted.Accepted begun)))
  pub nearest : OnOk result (HasNearestWord old job)
  -- it is open then, and of an order's cell nothing is confirmed any more
  pub begun : OnOk result (job_in new ≡ accepted_job old job)
  pub uncertain : OnOk result (IsSomeAnd (accepted_job old job) (BeginsWith new))
  -- a refused job changes nothing
  pub err : OnErr result (new ≡ old)
  -- the host stays that of its device
  pub kept : new.setup ≡ old.setup
  -- it sends at most twice as many frames as it has passes
  pub left : OnOk result (frames_left new ≤ 2 * new.setup.passes)

-- the stage of the open job after the call that begins a job; it is what it was before if the call refuses
abbrev pub begun_at : Option Stage → Result Stage HostFault → Option Stage
begun_at before (Ok stage) = Some stage
begun_at before (Err fault) = before
