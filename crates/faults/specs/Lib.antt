pub mod Lawful
pub mod Order
pub mod Rules
pub mod computed
