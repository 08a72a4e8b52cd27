pub mod Arguments
pub mod Call
pub mod OutcomesCall
pub mod Room
pub mod StepCall
pub mod StagesCall
