pub mod Above
pub mod Chains
