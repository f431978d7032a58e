pub mod Lists
pub mod Tasks
pub mod Test
pub mod Ticks
pub mod Theorems
pub mod Search
