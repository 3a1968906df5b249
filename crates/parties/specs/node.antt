pub mod ToNode
pub mod NodeCode
