pub mod OrdinaryLaws
pub mod DrawLaws
pub mod SeededLaws
pub mod ChosenLaws
pub mod DriveLaws
pub mod OutputLaws
pub mod StreamLaws
mod Rows
