pub mod Gcd
pub mod RingSums
pub mod Stores
