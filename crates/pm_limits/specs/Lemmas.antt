-- Lemmas on bands and limits, which the crates above rest on. No public clause cites them.
pub mod Bands
pub mod Cuts
pub mod Farthest
pub mod Guarded
pub mod Selected
