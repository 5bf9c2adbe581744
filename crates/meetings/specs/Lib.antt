pub mod Check
pub mod Passing
pub mod Steps
