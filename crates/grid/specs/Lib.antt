pub mod Prepared
pub mod Laws
