pub mod Bytes
pub mod Checking
pub mod Listing
pub mod Numbers
pub mod Reading
pub mod RefusedPrograms
pub mod RightPrograms
