-- What the code computes. Nobody has to believe these definitions: laws tie them to those beside this folder, which transcribe the papers.
pub mod Props
pub mod Turn
pub mod Writers
