pub mod Raised
pub mod Rulings
pub mod Numbers
pub mod Calls
