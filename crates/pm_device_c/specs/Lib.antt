-- What the crate promises.
pub mod Numbers
pub mod Part
pub mod Sizes
