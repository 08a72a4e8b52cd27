pub mod Marks
pub mod Expressions
pub mod Bodies
pub mod Heads
pub mod Statements
pub mod Walks
