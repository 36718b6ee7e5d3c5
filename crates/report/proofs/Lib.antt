pub mod Rows
mod Writing
pub mod Unique
