pub mod Lent
pub mod Noting
pub mod Playing
pub mod Outcome
pub mod Alike
pub mod Telling
