-- What a call of the player says in one number, and a table from two slices.
mod PlayingLaws
mod TableFromLaws
