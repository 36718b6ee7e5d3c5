pub mod Division
pub mod Paid
pub mod Records
pub mod Promise
pub mod Reader
