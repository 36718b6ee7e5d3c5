pub mod Report
pub mod Standing
