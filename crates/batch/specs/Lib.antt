pub mod Sums
pub mod Batch
pub mod Walk
