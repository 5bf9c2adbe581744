pub mod Passing
pub mod Seeking
pub mod Lending
