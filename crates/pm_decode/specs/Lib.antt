-- What the crate promises.
pub mod CaptureText
pub mod Hearing
pub mod Hints
pub mod JsonCounts
pub mod JsonText
pub mod Laws
pub mod LongEngine
pub mod Options
pub mod Outcome
pub mod PageSteps
pub mod Readings
pub mod ShownReadings
pub mod Specials
pub mod TimedLines
pub mod WordChanges
pub mod Words
-- How it is kept.
pub mod Captures
pub mod Capturing
pub mod UsualLines
pub mod WrittenCaptures
-- What the crates above rest on besides.
pub mod Lemmas
