mod Weights
pub mod Afters
pub mod Unique
