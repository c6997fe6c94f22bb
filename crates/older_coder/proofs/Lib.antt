-- The laws of the definitions in specs/.
pub mod FlagLaws
pub mod WriterLaws
