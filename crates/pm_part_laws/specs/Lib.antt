-- What the crate promises.
pub mod Alike
pub mod Answers
pub mod LateBelow
pub mod Exact
pub mod Formats
pub mod Happenings
pub mod HonestOrders
pub mod Knowledge
pub mod Late
pub mod LateWords
pub mod Limits
pub mod Moves
pub mod OpenJobs
pub mod OwnWords
pub mod Parts
pub mod Settings
pub mod Surveys
-- How it is kept.
pub mod Lemmas
