pub mod Accepted
pub mod Examples
pub mod FirstLine
pub mod Lined
pub mod Room
pub mod Turn
pub mod Whole
