pub mod Units
pub mod Few
pub mod Parts
pub mod Scales
pub mod Frames
