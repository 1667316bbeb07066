pub mod AccessFields
pub mod AccessLaws
pub mod Bits
pub mod Lacking
pub mod Numbers
pub mod QuickLaws
pub mod ReadCases
pub mod WrittenLaws
