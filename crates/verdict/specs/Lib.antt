pub mod Answer
pub mod Order
