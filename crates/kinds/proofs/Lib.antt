mod OtherCodes
pub mod Different
mod Counts
pub mod Unique
