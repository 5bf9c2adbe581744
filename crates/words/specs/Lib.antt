pub mod Answers
pub mod Ticks
pub mod Refused
