pub mod Ranks
pub mod Comparing
pub mod Looking
pub mod Ranking
