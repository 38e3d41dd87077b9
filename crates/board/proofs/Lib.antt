pub mod EvenLimits
pub mod OnBytes
