-- What the crate promises.
pub mod AnyFormat
pub mod Bounds
pub mod FaultWords
pub mod Formats
pub mod Laws
pub mod Nearest
pub mod NearestWord
pub mod Parameters
pub mod Ratio
pub mod Value
-- How it is kept.
pub mod Lemmas
pub mod Steps
