pub mod Order
pub mod Entries
pub mod Steps
