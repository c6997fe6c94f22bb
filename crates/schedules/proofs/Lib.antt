-- The theorems about the registers that any code of a tree names, in Theorems; and the laws that they are by.
pub mod PartLaws
pub mod LiveLaws
pub mod StepLaws
pub mod CountLaws
pub mod ScheduleLaws
pub mod OursLaws
pub mod Theorems
