pub mod Answer
pub mod Planes
pub mod Arrange
pub mod Recording
pub mod Permutation
pub mod Undoing
pub mod Edges
pub mod Shuffle
