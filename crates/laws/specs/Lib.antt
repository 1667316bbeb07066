pub mod computed
