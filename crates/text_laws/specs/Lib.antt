pub mod Digits
pub mod Blanks
pub mod Words
pub mod Numbers
pub mod Fields
