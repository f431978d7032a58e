pub mod Places
pub mod Views
pub mod Checks
pub mod Steps
pub mod Promises
pub mod Whole
