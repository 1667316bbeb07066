-- What the code computes. Nobody has to believe these definitions: laws tie them to those beside this folder, which transcribe the papers.
pub mod Faults
pub mod Header
pub mod LawfulTests
pub mod Profile
