pub mod Sums
pub mod Balance
pub mod Weights
pub mod Judged
