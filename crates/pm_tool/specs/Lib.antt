-- What the crate promises.
pub mod AddressList
pub mod Arguments
pub mod Commandline
pub mod Execution
pub mod HeardText
pub mod Lacking
pub mod NumberFaults
pub mod NumberText
pub mod Options
pub mod Outcome
pub mod Question
pub mod ReadingList
pub mod Refusals
pub mod Script
pub mod Telling
pub mod Usage
-- How it is kept.
pub mod LineEvent
