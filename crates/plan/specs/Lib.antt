pub mod ControlPlan
pub mod DataStages
pub mod Numbers
pub mod Planning
pub mod Refusals
pub mod StageLength
