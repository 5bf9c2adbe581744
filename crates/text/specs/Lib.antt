pub mod Text
pub mod Putting
pub mod TextLaws
pub mod Printing
