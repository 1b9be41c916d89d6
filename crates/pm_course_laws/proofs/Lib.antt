-- Lemmas of this crate.
mod Beside
mod ByteReads
mod Worth
mod ChainFrames
mod ChainedBytes
mod ChainedCourses
mod ChainedSurveys
mod CourseFrames
mod FrameSurveys
mod Jobs
mod Said
mod Progress
mod Reached
mod Restarts
mod Switches
