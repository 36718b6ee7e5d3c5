mod Schedules
mod Places
mod Judging
mod Overs
mod Flagging
mod Sizes
mod Reported
mod Turns
pub mod Unique
