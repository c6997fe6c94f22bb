-- The laws of the definitions in specs/.
pub mod MeaningLaws
pub mod KnownLaws
pub mod ReadingLaws
pub mod StandsLaws
