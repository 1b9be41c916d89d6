-- What the crate promises.
pub mod Answered
pub mod Checks
pub mod Holdings
pub mod Jobs
pub mod Lacks
pub mod Laws
pub mod Lines
pub mod Logs
pub mod Replays
pub mod TakenLogs
pub mod Texts
pub mod Verdicts
