pub mod Texts
pub mod Options
