pub mod Answers
pub mod Values
pub mod Flat
pub mod Calls
pub mod ReadBack
pub mod computed
