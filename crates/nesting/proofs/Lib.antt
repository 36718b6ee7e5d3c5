pub mod Coding
pub mod Wholes
pub mod Cuts
mod Rest
mod Steps
mod Forward
mod Backward
mod Live
pub mod Answer
pub mod OneDivision
pub mod Theorems
pub mod Moved
pub mod Parts
pub mod Examples
mod Arms
pub mod Unique
