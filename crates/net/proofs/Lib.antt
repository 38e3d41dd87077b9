pub mod Rows
pub mod Tests
pub mod Below
pub mod Takers
pub mod Words
pub mod Gcds
