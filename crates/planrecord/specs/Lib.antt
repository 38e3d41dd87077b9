pub mod Stock
pub mod Records
