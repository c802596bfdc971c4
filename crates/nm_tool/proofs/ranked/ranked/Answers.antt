use Rattle.std.proofs.Common.{List, length, map, rules, ◌∙◌, ap, arith}
use Rattle.std.specs.Prelude.{filter}
use Rattle.std.proofs.lemmas.Fn.{filter_same}
use Rattle.nm_tool.specs.declared.kept.Kept.{Kept}
use Rattle.nm_tool.specs.Order.{entries_in_order}
use Rattle.nm_tool.specs.Kept.{shown_name_in, ranked_entry}
use Rattle.nm_tool.specs.Ranked.{has_nonempty_name}
use Rattle.nm_tool.proofs.Ranking.{entries_made, same_length}
use Rattle.nm_tool.proofs.ranked.ranked.Goals as goal

pub returns : goal.returns
returns c =
    let name_of = shown_name_in c.args.strings.now in
    ap (map (ranked_entry c.args.by_value name_of))
    (same_length c.from_vec-named.result c.sort.new.rows
    (omega (
      arith,
      c.sort.auto.rows,
      ap (λ (l : List Kept). length l) c.as_mut_slice.ensures.value,
    )))
    ∙ entries_made c.args.by_value name_of c.args.list c.retain.new.self.items _
    (filter_same _ (has_nonempty_name name_of) _ (λ x b f' k. search rules) _ _ c.retain.ensures.filtered
    ∙ ap (filter (has_nonempty_name name_of)) c.into_vec-rows.ensures)
    (c.sort.ensures
    ∙ ap (λ (l : List Kept). entries_in_order (map (ranked_entry c.args.by_value name_of) l))
    (c.as_mut_slice.ensures.value ∙ c.from_vec-named.ensures))
