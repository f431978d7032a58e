pub mod Levels
pub mod Ranges
pub mod Tables
pub mod Loads
pub mod Admission
pub mod Rows
