pub mod ArgumentLemmas
pub mod CallLemmas
pub mod OutcomesLemmas
pub mod StepLemmas
pub mod StagesLemmas
