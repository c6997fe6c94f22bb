-- What a list of lifts keeps of a tree, and what one lift and the loop over the lifts write.
pub mod LiftingLaws
pub mod LiftOneLaws
pub mod LiftAllLaws
