-- The laws of the words, and that each promise leaves one answer.
pub mod Laws
pub mod Unique
