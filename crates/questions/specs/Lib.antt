pub mod Carrying
pub mod Replies
pub mod Opening
