-- What the crate promises.
pub mod Base
pub mod EventLines
pub mod Kinds
pub mod Laws
pub mod Readers
pub mod Replay
pub mod Report
pub mod ScenarioText
