pub mod CodePage
pub mod Shown
mod Figures
pub mod Unique
