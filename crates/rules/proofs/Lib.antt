pub mod Tables
pub mod Moved
pub mod Unique
pub mod Parts
