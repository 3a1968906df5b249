pub mod Code
pub mod Digest
