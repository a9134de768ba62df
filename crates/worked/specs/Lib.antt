pub mod Camera
pub mod Table
