-- What the host that replays a log learns of a transfer. This project's own choice.
use Rattle.std.specs.Prelude.{ℕ, Bool, true, false, ◌&&◌, if◌then◌else◌, List, Option, Some, None, Result, Ok, Err}
use Rattle.pm_host.specs.declared.fault.HostFault.{HostFault}
use Rattle.pm_host.specs.declared.job.Job.{Job}
use Rattle.pm_host.specs.Jobs.{begin_fault}
use Rattle.pm_host.specs.Refusals.{is_busy, may_come}
use Rattle.pm_host.specs.Summary.{Summary, host_next}
use Rattle.pm_host.specs.Transcript.{Entry, Got, Restarted}
use Rattle.pm_log.specs.declared.act.Act.TheVariants.{Begun}
use Rattle.pm_log.specs.Checks.{act_next, is_own}
use Rattle.pm_log.specs.Jobs.{job_in_frame}
use Rattle.pm_log.specs.declared.fault.LogFault.{LogFault}
use Rattle.pm_log.specs.declared.fault.LogFault.TheVariants.{NoJob, Refused}

-- the frame is the one that the host sends, and this may come of it
abbrev pub frame_fits : Summary → List ℕ → Entry → Bool
frame_fits s frame entry = is_own s frame && may_come s entry

-- the host with no job open: it restarts if one is
abbrev pub free : Summary → Summary
free s = if is_busy s then host_next s Restarted else s

-- what came of the first frame of a job that was begun
abbrev pub first_told : Summary → List ℕ → Entry → Result (Summary × Bool) LogFault
first_told s frame entry = if frame_fits s frame entry then Ok (host_next s entry, true) else Err NoJob

-- a job begins with this frame
abbrev pub begun_with_frame : Option HostFault → Summary → Job → List ℕ → Entry → Result (Summary × Bool) LogFault
begun_with_frame (Some fault) s job frame entry = Err (Refused fault)
begun_with_frame None s job frame entry = first_told (act_next s (Begun job)) frame entry

abbrev pub named_told : Summary → Result (Option Job) LogFault → List ℕ → Entry → Result (Summary × Bool) LogFault
named_told s (Err fault) frame entry = Err fault
named_told s (Ok None) frame entry = Ok (s, false)
named_told s (Ok (Some job)) frame entry = begun_with_frame (begin_fault (free s) job) (free s) job frame entry

-- what came of a request
abbrev pub is_answer : Entry → Bool
is_answer (Got bytes) = true
is_answer _ = false

-- What a host holds after a transfer, and whether it heard it: as the open job's next frame, or as the first of the job
-- that the frame names. A read that is none of a job's says nothing to it.
abbrev pub transferred : Summary → List ℕ → Entry → Result (Summary × Bool) LogFault
transferred s frame entry = if frame_fits s frame entry then Ok (host_next s entry, true)
    else named_told s (job_in_frame s.setup.addr frame (is_answer entry)) frame entry
