-- What the crate promises.
pub mod Held
pub mod Start
pub mod Verdict
pub mod Effect
pub mod Status
pub mod Reply
pub mod History
pub mod Image
pub mod FaultWords
pub mod Laws
pub mod Memory
