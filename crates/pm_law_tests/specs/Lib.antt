-- What the crate promises.
pub mod ByName
pub mod Beside
pub mod Deliveries
pub mod Drivers
pub mod Exports
pub mod FrameCourses
pub mod Late
pub mod Restarts
pub mod Stairs
pub mod Progress
