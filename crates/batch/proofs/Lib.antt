mod Rooms
mod Laws
mod Marked
mod Repeated
mod Ends
mod Adequate
pub mod Accounts
mod Trailers
mod Turns
mod Judged
pub mod Examples
pub mod Unique
