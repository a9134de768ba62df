pub mod Euclid
pub mod Lists
pub mod Microframes
pub mod RingFacts
pub mod Steps
pub mod Stores
pub mod Unique
pub mod Walk
