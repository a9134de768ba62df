pub mod Fields
pub mod Limits
pub mod Packets
pub mod Tests
pub mod Words
