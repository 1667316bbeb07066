pub mod Reading
pub mod Sequence
pub mod computed
