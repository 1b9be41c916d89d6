-- What the crate promises.
pub mod Between
pub mod Chains
pub mod FrameLives
pub mod FrameWays
pub mod FramesBeside
pub mod Progress
pub mod ProgressBeside
pub mod Reached
pub mod ReachedBeside
pub mod Restarts
