pub mod Layout
pub mod Questions
pub mod Spelled
pub mod Stages
pub mod Agreed
