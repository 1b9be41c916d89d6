-- Lemmas on drivers, which the crates above rest on. No public clause cites them.
pub mod Restarts
