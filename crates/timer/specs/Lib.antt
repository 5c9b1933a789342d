pub mod Faults
pub mod Meaning
pub mod Frame
pub mod Rules
pub mod History
