pub mod Memory
pub mod Part
pub mod Service
pub mod ServiceClaim
