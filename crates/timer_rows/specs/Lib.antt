pub mod Counts
pub mod Rows
pub mod Buckets
pub mod Kept
pub mod Links
pub mod Walks
pub mod Slots
