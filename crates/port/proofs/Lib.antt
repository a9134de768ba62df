-- The laws of the bytes of a session, that saving and loading give it back, that a call by bytes is the call by value, and that each promise leaves
-- one answer.
pub mod ByValue
pub mod Canonical
pub mod Laws
pub mod Roundtrip
pub mod Unique
