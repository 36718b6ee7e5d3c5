pub mod Laws
pub mod Times
pub mod Firsts
pub mod Unique
