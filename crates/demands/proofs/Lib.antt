pub mod Premises
pub mod Meeting
pub mod Demands
