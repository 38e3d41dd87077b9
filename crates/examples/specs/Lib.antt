pub mod Plans
pub mod Table
