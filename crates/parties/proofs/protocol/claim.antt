pub mod EdgeCases
pub mod ClaimHolds
pub mod Demand
pub mod ExampleRun
pub mod StringLaws
pub mod ExampleClaim
