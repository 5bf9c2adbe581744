pub mod Promises
pub mod WriteLaws
pub mod WriteThenRead
pub mod RoundTrips
