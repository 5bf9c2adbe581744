pub mod Lag
pub mod Apartness
pub mod FirstShared
pub mod CleanTest
pub mod Moving
pub mod Window
pub mod Windows
