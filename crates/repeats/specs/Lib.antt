pub mod Repeats
pub mod Climb
pub mod Sieve
pub mod Blocks
pub mod Schedules
pub mod Marking
