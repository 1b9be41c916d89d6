-- Lemmas of this crate.
mod Alike
mod Knowledge
mod LateWords
mod Limits
