pub mod Run
pub mod Law
pub mod Progress
pub mod Text
