use Rattle.tree.proofs.CollectLaws.{some_found}
use Rattle.gather.proofs.WholeLaws.{faultless, faultless_list, the_same, first_few, together_few, marks_first, all_returned, ordered}
use Rattle.gather.proofs.rearrange.Goals as goal

pub unwrap-first-requires : goal.unwrap-first-requires
unwrap-first-requires c = some_found _ _ c.groups_of.ensures (first_few (faultless _ _ _ c.requires.out_value))

pub unwrap-all-requires : goal.unwrap-all-requires
unwrap-all-requires c =
    let first = rw c.unwrap-first.ensures at c.groups_of.ensures in
    some_found _ _ c.add_groups.ensures (together_few (faultless _ _ _ c.requires.out_value) _ first)

pub gather_ordered-requires : goal.gather_ordered-requires
gather_ordered-requires c =
    let f = faultless _ _ _ c.requires.out_value in
    let first = rw c.unwrap-first.ensures at c.groups_of.ensures in
    let all = rw c.unwrap-all.ensures at c.add_groups.ensures in
    record { listed = faultless_list f; ordered = rw c.as_slice.ensures.found (ordered f _ first _ all c.requires.fact); most_nodes_in_bounds = f.space }

pub returns : goal.returns
returns c =
    let f = faultless _ _ _ c.requires.out_value in
    let first = rw c.unwrap-first.ensures at c.groups_of.ensures in
    let all = rw c.unwrap-all.ensures at c.add_groups.ensures in
    let done = rw c.as_slice.ensures.found at c.gather_ordered.ensures in record {
      gathers_tree = λ t q. rw (marks_first f _ first _ all) at (done.gathers_tree t (the_same q));
      by = λ t q. all_returned f _ first _ all t (the_same q) (done.by t q);
    }
