-- What the crate promises.
pub mod Address
pub mod Cell
pub mod Codes
pub mod Coefficients
pub mod Commands
pub mod FaultWords
pub mod Format
pub mod Laws
pub mod Names
pub mod Operation
pub mod Protection
pub mod Rules
pub mod VoutMode
-- How it is kept.
pub mod Lemmas
pub mod RuleLemmas
