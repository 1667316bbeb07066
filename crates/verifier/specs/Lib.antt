pub mod Accepted
pub mod BenchCases
pub mod Exact
pub mod Numbers
pub mod Verdict
pub mod computed
