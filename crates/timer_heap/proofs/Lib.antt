pub mod Rises
pub mod Sinks
pub mod Places
pub mod Swaps
pub mod Changes
