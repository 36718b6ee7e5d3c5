mod Places
mod Copies
mod Greatest
mod Walks
pub mod Looks
pub mod Climbs
mod Firsts
mod Hashes
mod Marks
mod Classes
mod Passes
pub mod Ranges
mod Visits
mod Sought
pub mod Schedules
mod Flagging
pub mod Unique
