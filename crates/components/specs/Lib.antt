pub mod Reads
pub mod Tokens
pub mod computed
