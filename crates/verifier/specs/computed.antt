-- What the code computes. Nobody has to believe these definitions: laws tie them to those beside this folder, which transcribe the papers.
pub mod Glance
pub mod State
pub mod Step
pub mod Steps
