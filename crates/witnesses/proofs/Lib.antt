pub mod Saying
pub mod Settings
