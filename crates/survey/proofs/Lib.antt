mod Details
pub mod Steps
mod Adequate
mod Highs
mod Turns
pub mod Theorems
pub mod Unique
