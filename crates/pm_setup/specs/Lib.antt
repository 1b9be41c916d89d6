-- What the crate promises.
pub mod FaultWords
