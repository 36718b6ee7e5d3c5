pub mod Chain
pub mod Corrected
mod Parts
pub mod Held
pub mod Every
pub mod Same
pub mod Numbers
pub mod Orders
mod Sent
mod Moving
mod Leaves
pub mod Chains
mod Copies
pub mod Bracket
pub mod Table
pub mod CodeList
mod OtherCodes
mod Prefix
pub mod Examples
pub mod Unique
