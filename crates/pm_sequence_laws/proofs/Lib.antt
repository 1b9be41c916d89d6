-- Lemmas.
pub mod Found
mod Callers
mod Steps
mod Calls
pub mod Judged
mod Verdicts
