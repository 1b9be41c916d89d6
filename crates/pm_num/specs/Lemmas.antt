-- Lemmas on whole numbers, fractions and words, which the laws of the formats rest on. No public
-- clause cites them.
pub mod Any
pub mod Found
pub mod Integers
pub mod Over
pub mod OneWord
pub mod Order
pub mod Unsigned
pub mod Slope
pub mod Spelling
