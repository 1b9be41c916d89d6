-- What the crate promises.
pub mod Answers
pub mod CodeNames
pub mod Contents
pub mod Counts
pub mod Decoding
pub mod Laws
pub mod Modes
pub mod Otherwise
pub mod Outcome
pub mod Pages
pub mod Pieces
pub mod ShownLines
pub mod Statuses
pub mod Taught
pub mod Trace
pub mod TraceText
pub mod ValueText
pub mod Values
-- How it is kept.
pub mod Holdings
pub mod Marks
pub mod OpenLines
pub mod Parts
pub mod Written
-- What the crates above rest on besides.
pub mod Lemmas
