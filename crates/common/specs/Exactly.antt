-- "exactly when": one statement holds exactly when another does.
pub record Exactly (A B : Type 0) : Type 0 where
  pub only : A → B
  pub always : B → A
