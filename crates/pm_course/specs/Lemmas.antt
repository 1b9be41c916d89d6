-- Lemmas on what became of a frame, which the crates above rest on. No public clause cites them.
pub mod Awaited
