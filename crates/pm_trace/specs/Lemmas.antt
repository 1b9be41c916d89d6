-- Lemmas on the lines of a trace, and on the whole millionths of a fraction, which the crates above rest on. No public clause cites them.
pub mod Counts
pub mod Floor
pub mod Marks
pub mod OpenLines
pub mod PlainLines
pub mod Runs
pub mod Said
