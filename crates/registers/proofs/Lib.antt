pub mod Growth
pub mod Outside
pub mod Packed
