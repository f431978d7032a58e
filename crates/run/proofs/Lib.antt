pub mod Asking
pub mod Composed
pub mod Placing
pub mod Firsts
pub mod Planning
pub mod Begun
pub mod Keeping
pub mod Wholes
