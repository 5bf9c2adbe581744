pub mod Admitting
pub mod Checks
pub mod Ways
