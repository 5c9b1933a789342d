pub mod Checks
pub mod Frames
pub mod Members
pub mod Entries
pub mod Laws
