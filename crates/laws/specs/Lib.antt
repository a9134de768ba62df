pub mod Demand3
pub mod Drawing
pub mod Ending
pub mod Example
pub mod Invariant
pub mod Run
pub mod Wrong
