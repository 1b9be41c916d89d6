-- What the crate promises.
pub mod FaultWords
pub mod Registers
pub mod Plan
pub mod Known
pub mod Orders
pub mod Rail
pub mod Survey
pub mod Course
pub mod Laws
pub mod Lemmas
