pub mod AcceptedRun
pub mod ReadingLaws
pub mod ReadsInOrder
