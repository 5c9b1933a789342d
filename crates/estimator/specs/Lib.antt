pub mod Estimate
pub mod Laws
