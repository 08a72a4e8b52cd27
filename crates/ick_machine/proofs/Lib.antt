pub mod AnswerLemmas
mod StepLemmas
mod Readiness
mod Propositions
mod StepsLemmas
mod AlongLemmas
mod RunLemmas
mod Marks
mod TrailMarks
mod Stack
pub mod WholeLemmas
mod PassedOver
mod CopyLemmas
mod FedLemmas
mod LiveLemmas
mod PrinterLemmas
