pub mod Numbers
mod Ends
mod Tests
mod Answers
mod Laws
mod Divided
mod Opening
pub mod Theorems
pub mod Unique
