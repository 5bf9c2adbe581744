pub mod Converting
pub mod Plan
pub mod Checks
pub mod Sound
pub mod Ends
