pub mod Sums
pub mod Laws
pub mod Weights
pub mod Finding
