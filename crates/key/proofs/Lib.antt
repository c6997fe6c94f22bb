-- The laws of the definitions in specs/, and the third demand.
pub mod DeviceLaws
pub mod GatheringLaws
pub mod EncodingLaws
pub mod FinishLaws
pub mod DemandLaws
pub mod SameKeyLaws
pub mod OlderSheetLaws
pub mod SampleLaws
pub mod AnswerLaws
pub mod AlikeLaws
pub mod SchoolLaws
