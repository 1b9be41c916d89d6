pub mod Jobs
pub mod Memory
