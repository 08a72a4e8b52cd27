pub mod Words
pub mod Job
pub mod Tool
pub mod Gives
pub mod Program
