pub mod Parcels
pub mod Sent
pub mod UnderWay
pub mod Acts
pub mod Happens
pub mod Event
pub mod Oldest
