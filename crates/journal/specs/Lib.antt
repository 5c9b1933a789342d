pub mod Text
pub mod Notes
