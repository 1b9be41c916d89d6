-- What the crate promises.
pub mod Answers
pub mod Cells
pub mod Command
pub mod Ended
pub mod FaultWords
pub mod Frames
pub mod Image
pub mod Jobs
pub mod Laws
pub mod Marks
pub mod Messages
pub mod Now
pub mod Possible
pub mod Question
pub mod Refusals
pub mod Standing
pub mod Summary
pub mod Told
pub mod Transcript
pub mod Turn
-- How it is kept.
pub mod Known
pub mod Lemmas
pub mod Memory
pub mod Progress
pub mod Sound
