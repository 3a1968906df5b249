pub mod formats
pub mod events
pub mod model
pub mod invariants
pub mod steps
pub mod claim
