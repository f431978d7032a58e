pub mod Run
pub mod Cases
