pub mod Answers
pub mod Limits
pub mod Numbers
pub mod Bytes
pub mod Few
pub mod Frames
