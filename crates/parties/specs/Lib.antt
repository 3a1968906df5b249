pub mod protocol
pub mod records
pub mod Answer
pub mod Sizes
pub mod directory
pub mod node
pub mod client
