pub mod Promises
pub mod Seen
pub mod Laws
pub mod Composing
pub mod Passed
pub mod Widths
pub mod Folding
