use Rattle.std.proofs.Common.{List, sym, subst}
use Rattle.nm_tool.specs.declared.kept.Kept.{Kept}
use Rattle.nm_tool.specs.Kept.{shown_name_in}
use Rattle.nm_tool.specs.Ranked.{AreKeyed}
use Rattle.nm_tool.proofs.Ranking.{are_keyed, keyed_moved, keys_rise, moved_order}
use Rattle.nm_tool.proofs.ranked.sort_by_keys.Goals as goal

pub returns-clause-moved : goal.returns-clause-moved
returns-clause-moved c =
    moved_order (shown_name_in c.args.strings.now) c.shared_front-place.result c.args.rows.now
    c.set_keys.new.rows _ c.set_keys.ensures c.sort_unstable.ensures.permutation

pub returns-clause-keyed : goal.returns-clause-keyed
returns-clause-keyed c =
    let name_of = shown_name_in c.args.strings.now in
    let shares = c.shared_front-place.ensures.shares in
    keyed_moved name_of c.set_keys.new.rows _ c.sort_unstable.ensures.permutation
    (subst (λ (rows : List Kept). AreKeyed name_of rows) (sym c.set_keys.ensures)
    (are_keyed name_of c.shared_front-place.result shares.0 c.args.rows.now shares.1))

pub returns-clause-rises : goal.returns-clause-rises
returns-clause-rises c = keys_rise _ c.sort_unstable.ensures.sorted
