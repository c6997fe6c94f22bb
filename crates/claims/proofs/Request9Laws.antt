-- Request 9's record, from the theorems of `schedules`.
use mathlib.Core.Path.{◌≡◌, refl, ap}
use mathlib.Core.List.{map}
use Rattle.tree.specs.Tree.{Tree}
use Rattle.code.specs.Devices.{newer_player, code_on, older_player}
use Rattle.code.specs.Effects.{newer_effect, older_effect}
use Rattle.code.proofs.NewerLaws.{newer_acts, code_is}
use Rattle.code.proofs.OlderLaws.{older_acts}
use Rattle.schedules.proofs.ScheduleLaws.{children_first, least_need}
use Rattle.schedules.proofs.OursLaws.{code_for_lem}
use Rattle.schedules.proofs.Theorems.{code_fewest, code_named, nodes_least, nodes_needed, thirteen_needed}
use Rattle.claims.specs.Request9.{newer_code, Request9}

-- 01's code is that of one of the devices
newer : (t : Tree) → map newer_effect (code_on newer_player t) ≡ newer_code t
newer t = ap (map newer_effect) (code_is t)

pub request_9 : Request9
request_9 = record {
  as_few = λ t other K. (rw (← newer t) (code_fewest newer_player newer_effect newer_acts t other K), code_fewest older_player older_effect older_acts t other K);
  ours = λ t. (rw (newer t) at (code_for_lem newer_player newer_effect newer_acts t), code_for_lem older_player older_effect older_acts t);
  children_first = λ t before s behind S p most own. children_first S before s behind refl p most own;
  as_needed = λ t. (least_need t, rw (← newer t) (code_named newer_player newer_effect newer_acts t), code_named older_player older_effect older_acts t);
  nodes = nodes_least;
  any_nodes = nodes_needed;
  thirteen = thirteen_needed;
}
