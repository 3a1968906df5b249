pub mod Say
pub mod Settle
pub mod Session
