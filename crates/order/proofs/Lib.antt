pub mod Listed
pub mod Following
