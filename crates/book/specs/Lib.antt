pub mod Book
pub mod Reading
