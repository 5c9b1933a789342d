pub mod Keeping
pub mod Readiness
pub mod Stepping
pub mod Commands
pub mod Ending
pub mod Pairs
