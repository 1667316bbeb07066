pub mod Bias
pub mod Decode
pub mod Encode
pub mod Fields
pub mod Numbers
pub mod Refusal
pub mod RoundTrip
pub mod computed
