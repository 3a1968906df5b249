pub mod FitLaws
pub mod SettleLaws
pub mod SessionLaws
pub mod LineLaws
pub mod SayLaws
pub mod SessionClaim
