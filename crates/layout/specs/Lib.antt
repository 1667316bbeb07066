pub mod Layout
pub mod Opcodes
pub mod Programs
pub mod Records
pub mod Samplers
pub mod Selections
pub mod Swizzles
pub mod computed
