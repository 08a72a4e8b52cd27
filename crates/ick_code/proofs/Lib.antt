pub mod Bools
pub mod Members
pub mod TakeLemmas
pub mod SameNames
pub mod Trees
pub mod Sizes
pub mod SlotLemmas
pub mod LabelLemmas
pub mod TableLemmas
pub mod EmitLemmas
pub mod CountLemmas
pub mod Finds
pub mod Covers
pub mod Slotted
pub mod Runs
pub mod NamedOps
pub mod Frames
pub mod AskLaws
pub mod Leads
pub mod CompiledStatements
pub mod CodeLemmas
pub mod RowWords
mod ProgramRows
mod Rows
mod CornerRows
mod TapeRows
