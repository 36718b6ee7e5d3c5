pub mod Amounts
pub mod Sums
mod Unique
