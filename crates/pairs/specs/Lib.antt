pub mod Range
pub mod Probes
pub mod Steps
