pub mod Asked
pub mod Slices
pub mod Arcs
pub mod Agreeing
