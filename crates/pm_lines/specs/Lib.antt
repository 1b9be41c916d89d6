-- What the crate promises.
pub mod Bytes
pub mod Digits
pub mod Engine
pub mod Faults
pub mod Laws
pub mod Lines
pub mod Numbers
pub mod Pairs
pub mod Streams
-- How it is kept.
pub mod Lemmas
