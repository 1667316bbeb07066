pub mod Branching
pub mod Bytes
pub mod Checking
pub mod Listing
pub mod Numbers
pub mod Reading
