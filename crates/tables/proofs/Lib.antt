pub mod Values
mod Comparing
mod Inserts
mod Seeks
mod Enters
pub mod Tables
pub mod Unique
