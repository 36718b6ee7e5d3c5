mod Days
mod Dates
pub mod Counts
mod Spans
pub mod DayNumbers
pub mod Examples
mod Unique
