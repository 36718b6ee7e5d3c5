mod Bytes
mod Walks
mod Frames
mod Entries
pub mod Pieces
pub mod Chains
pub mod Lookup
pub mod Unique
