-- What the crate promises.
pub mod Command
pub mod Steps
pub mod Due
pub mod Stairs
pub mod OpenCourse
pub mod WayBack
pub mod Sequence
