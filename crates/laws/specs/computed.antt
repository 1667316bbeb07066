-- What proofs compute. Nobody has to believe these definitions: laws turn each into what it says.
pub mod Tests
