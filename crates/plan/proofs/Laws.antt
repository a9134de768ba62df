pub mod Chains
pub mod Control
pub mod Data
pub mod Laid
pub mod Layout
pub mod Numbered
pub mod Refusals
pub mod Split
