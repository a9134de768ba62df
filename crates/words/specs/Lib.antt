pub mod Field
pub mod Numbers
pub mod Words
