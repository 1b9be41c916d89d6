-- What the crate promises.
pub mod Band
pub mod Bounds
pub mod Ends
pub mod Part
pub mod FaultWords
pub mod Guard
pub mod Laws
pub mod OutputEnds
pub mod OutputLimits
pub mod Lemmas
