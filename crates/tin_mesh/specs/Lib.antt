pub mod Tin
