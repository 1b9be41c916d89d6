-- Lemmas of this crate.
mod Seen
