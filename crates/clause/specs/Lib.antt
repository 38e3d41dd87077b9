pub mod Kinds
pub mod Sets
pub mod Certificates
