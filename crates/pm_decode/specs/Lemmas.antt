-- Lemmas on the lines of a capture, which the crates above rest on. No public clause cites them.
pub mod TimedLines
