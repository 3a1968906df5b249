pub mod BytesLaws
pub mod FormLaws
pub mod NodesLaws
pub mod RecordLaws
pub mod SizeLaws
pub mod PositionLaws
pub mod PlaceLaws
pub mod SpliceLaws
