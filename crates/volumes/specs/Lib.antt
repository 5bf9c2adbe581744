pub mod Layout
pub mod Reading
pub mod Writing
pub mod Cases
pub mod ReadLaws
pub mod ReadThenWrite
