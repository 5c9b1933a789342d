pub mod Quota
