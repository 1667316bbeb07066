pub mod Counts
pub mod Growth
pub mod Limits
pub mod Uses
pub mod computed
