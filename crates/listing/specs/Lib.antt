pub mod Decimal
pub mod First
pub mod Items
pub mod Line
pub mod Names
pub mod Printing
pub mod Text
pub mod computed
