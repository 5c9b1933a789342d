pub mod State
pub mod Link
pub mod Rules
pub mod Questions
pub mod Begin
pub mod Examples
pub mod Obeys
