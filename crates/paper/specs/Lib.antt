pub mod Printed
pub mod Paper
pub mod Laws
