pub mod Laws
mod Reading
pub mod Writing
pub mod Unique
