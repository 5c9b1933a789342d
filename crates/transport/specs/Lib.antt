pub mod Parts
pub mod Begins
pub mod Asked
