pub mod Places
pub mod Levels
pub mod Emptying
pub mod Dues
pub mod Cascading
pub mod Layouts
