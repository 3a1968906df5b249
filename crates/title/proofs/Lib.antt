pub mod MemoryLaws
pub mod RecordPartLaws
pub mod TablePartLaws
pub mod FreshMemoryLaws
pub mod PartLaws
pub mod ShowsLaws
pub mod FreshLaws
pub mod Service
