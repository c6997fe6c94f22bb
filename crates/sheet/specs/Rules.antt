-- What reading may differ in, from one request of 02 to the next and from one file to another.
use Rattle.std.specs.Prelude.{◌≡◌, Bool, true, false, ℕ, ◌≤◌}
use Rattle.tree.specs.Tree.{most_group, most_nodes}

pub record Rules : Type 0 where
  -- how many nodes the tree may have
  pub nodes : ℕ
  -- the last number that a group may have
  pub last_group : ℕ
  -- whether lifts and marks, a question's tasks, may stand in it
  pub tasks : Bool
  -- whether `I` may stand in it
  pub intersections : Bool

-- the same rules with another number of nodes
abbrev pub with_nodes : ℕ → Rules → Rules
with_nodes n rules = record { nodes = n; last_group = rules.last_group; tasks = rules.tasks; intersections = rules.intersections }

-- the same rules with another last group
abbrev pub with_last_group : ℕ → Rules → Rules
with_last_group g rules = record { nodes = rules.nodes; last_group = g; tasks = rules.tasks; intersections = rules.intersections }

-- the same rules with tasks or without
abbrev pub with_tasks : Bool → Rules → Rules
with_tasks b rules = record { nodes = rules.nodes; last_group = rules.last_group; tasks = b; intersections = rules.intersections }

-- the same rules with `I` or without
abbrev pub with_intersections : Bool → Rules → Rules
with_intersections b rules = record { nodes = rules.nodes; last_group = rules.last_group; tasks = rules.tasks; intersections = b }

-- `more` allow whatever `few` allow
pub record Stricter (few more : Rules) : Type 0 where
  pub nodes : few.nodes ≤ more.nodes
  pub last_group : few.last_group ≤ more.last_group
  pub tasks : few.tasks ≡ true → more.tasks ≡ true
  pub intersections : few.intersections ≡ true → more.intersections ≡ true

-- the rules of 01 for a sheet: "group (1 to 9999)", "the tree, at most 1,023 nodes and 8 different groups" (the 8 are `most_groups` of
-- `tree` specs/Tree.antt, to this day)
abbrev pub base_rules : Rules
base_rules = record { nodes = 1023; last_group = 9999; tasks = true; intersections = false }

-- those until request 4, with request 1: "The tree of a sheet is limited to 255 nodes"
abbrev pub earlier_rules : Rules
earlier_rules = with_nodes 255 base_rules

-- those until request 6, with request 4: "Reading, tree, code, patch and marks all accept 1 to 60,000": the groups that trees have
abbrev pub two_operator_rules : Rules
two_operator_rules = with_last_group most_group earlier_rules

-- today's, with request 6: "The sheet gains `I`, a third operator"
abbrev pub sheet_rules : Rules
sheet_rules = with_intersections true two_operator_rules

-- request 5: "The candidate's file is read by the sheet rules, except that its tree may have 8,191 nodes, with 5 at the one after; a lift
-- or a mark in it is out of its place."
abbrev pub candidate_rules : Rules
candidate_rules = with_tasks false (with_nodes most_nodes sheet_rules)
