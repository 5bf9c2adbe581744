pub mod Wire
pub mod Meeting
pub mod FirstShared
pub mod CleanTest
pub mod Window
