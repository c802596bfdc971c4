use Rattle.std.proofs.Common.{rules}
use Rattle.std.specs.Ordering.{is_lt}
use Rattle.std.proofs.lemmas.List.Sorted.{ranks_by}
use Rattle.std.proofs.lemmas.Fn.{always_returns_same}
use Rattle.nm_tool.specs.Kept.{shown_name_in}
use Rattle.nm_tool.specs.Ranked.{names_cmp}
use Rattle.nm_tool.proofs.Ranking.{names_cmp_total, sorted_names}
use Rattle.nm_tool.proofs.ranked.sort_by_names.Goals as goal

pub returns : goal.returns
returns c =
    let name_of = shown_name_in c.args.strings.now in
    sorted_names name_of _ _ c.sort_unstable_by.ensures.permutation
    (c.sort_unstable_by.ensures.sorted (λ a b. is_lt (names_cmp name_of a b))
    (ranks_by (names_cmp_total name_of) (λ x. x))
    (always_returns_same _ _ _ (λ a r f k. search rules)))
