pub mod Faults
pub mod Columns
pub mod Text
pub mod Writing
