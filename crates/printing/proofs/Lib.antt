-- A key can be read back in one way only; how lines are written, and how long they are.
pub mod KeyLaws
pub mod PrintingLaws
