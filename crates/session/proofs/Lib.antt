-- The laws of a session's record and of its calls; and that each promise leaves one answer.
pub mod Laws
pub mod Unique
