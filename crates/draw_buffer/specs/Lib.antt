pub mod Times
pub mod Places
pub mod Corners
pub mod Vertices
pub mod Exchange
pub mod Buffer
