pub mod Check
pub mod Plan
pub mod Programs
