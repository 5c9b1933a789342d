pub mod Spots
pub mod Lists
