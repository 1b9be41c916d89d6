-- What the crate promises.
pub mod Settings
pub mod Commanded
pub mod OrderMachine
pub mod Laws
