pub mod Levels
pub mod Loads
pub mod Rows
pub mod OneRow
pub mod Admitting
