-- The laws of planning, and that each promise leaves one answer.
pub mod Laws
pub mod Stages
pub mod Theorems
pub mod Unique
