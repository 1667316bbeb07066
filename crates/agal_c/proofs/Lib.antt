pub mod CallLaws
pub mod FieldBytes
pub mod ReadBack
