-- Lemmas on surveys and courses, which the crates above rest on. No public clause cites them.
pub mod Limits
pub mod Steps
pub mod Ends
pub mod Known
pub mod Accepted
pub mod Told
pub mod Surveyed
pub mod Says
pub mod Power
pub mod AskedFree
pub mod Places
