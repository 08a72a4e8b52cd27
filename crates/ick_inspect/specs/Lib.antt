pub mod Text
pub mod Names
pub mod Summary
pub mod Positions
pub mod Statements
