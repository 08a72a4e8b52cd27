pub mod FaultLines
pub mod Along
