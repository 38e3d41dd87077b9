pub mod Made
pub mod Booked
