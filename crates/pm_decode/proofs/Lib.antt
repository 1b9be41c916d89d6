pub mod Shown
pub mod Captures
