pub mod Numbers
pub mod Counts
