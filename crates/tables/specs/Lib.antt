pub mod Kind
pub mod Comparing
pub mod Tables
