pub mod Place
pub mod Cascade
pub mod Layout
pub mod Placed
pub mod Emptying
pub mod Once
