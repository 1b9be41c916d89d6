-- Lemmas of this crate.
mod CourseFrames
