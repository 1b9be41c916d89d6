-- What the crate promises.
pub mod Betrayal
pub mod BlockRead
pub mod Damage
pub mod Fault
pub mod FaultWords
pub mod LateAnswers
pub mod Laws
pub mod Layout
pub mod PagedRead
pub mod Pec
pub mod PlainRead
pub mod SharedCodes
pub mod View
-- How it is kept.
pub mod Lemmas
pub mod Whole
