mod Ready
pub mod Examples
pub mod Theorems
pub mod Unique
pub mod Ascii
