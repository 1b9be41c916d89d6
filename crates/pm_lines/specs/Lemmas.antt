-- Lemmas on what an engine reads and writes, and on the pieces of a text and of a line, which the crates above rest on. No
-- public clause cites them.
pub mod Engines
pub mod Joins
pub mod Numbered
pub mod Paired
pub mod Writing
