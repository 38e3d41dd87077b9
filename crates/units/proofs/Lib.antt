pub mod Over
pub mod Split
pub mod Scaled
