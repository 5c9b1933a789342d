pub mod Ready
pub mod Restarts
pub mod Ends
pub mod Timers
pub mod Begins
