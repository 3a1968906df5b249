pub mod EndLaws
pub mod FreshLaws
pub mod RebuildLaws
pub mod RoomLaws
pub mod UpdateEndLaws
pub mod UpdateLaws
