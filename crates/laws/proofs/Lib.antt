-- What the calls of a session do, for the reader; and demand 3: the laws of drawings and of a run's steps, and the theorem.
pub mod Calls
pub mod Controller
pub mod Drawn
pub mod Ended
pub mod Example
pub mod Fitting
pub mod Keeping
pub mod Lists
pub mod Opening
pub mod Planned
pub mod Polling
pub mod Promises
pub mod Reclaiming
pub mod Settling
pub mod Stopping
pub mod Submitting
pub mod Theorem
