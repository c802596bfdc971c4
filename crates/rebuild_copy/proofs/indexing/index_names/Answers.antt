use Rattle.std.proofs.Common.{List, ℕ, sym, ◌∙◌, subst}
use Rattle.rebuild_select.specs.Sought.Names.{AreUpTo}
use Rattle.rebuild_copy.proofs.indexing.index_names.Goals as goal

pub fill_index-requires-clause-up_to : goal.fill_index-requires-clause-up_to
fill_index-requires-clause-up_to c =
    subst (λ (l : List (List ℕ)). AreUpTo c.longest-longest.result l)
    (sym c.new-index.ensures.sought) c.longest-longest.ensures

pub fill_index-requires-clause-none : goal.fill_index-requires-clause-none
fill_index-requires-clause-none c = c.new-index.ensures.none

pub returns-in-Ok-clause-sought : goal.returns-in-Ok-clause-sought
returns-in-Ok-clause-sought c = c.in-Ok.ensures.sought ∙ c.new-index.ensures.sought
