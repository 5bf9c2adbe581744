pub mod Promises
pub mod HolderLaws
pub mod NextLaws
pub mod Given
