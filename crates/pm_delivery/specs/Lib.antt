-- What the crate promises.
pub mod Heard
pub mod Questions
pub mod StatusBits
pub mod Deliveries
pub mod Reading
pub mod Due
pub mod Verdict
pub mod Ended
pub mod Beyond
pub mod FaultWords
