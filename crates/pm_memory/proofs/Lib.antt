pub mod Kept
mod Calls
mod Named
mod Ceils
