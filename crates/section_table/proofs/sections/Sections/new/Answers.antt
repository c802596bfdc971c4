use Rattle.std.proofs.Common.{[], ◌∙◌, arith}
use Rattle.std.specs.Prelude.{vec_capacity}
use Rattle.section_table.proofs.Beginnings.{no_sections, none_seen, same_sections_in, same_view}
use Rattle.section_table.proofs.sections.Sections.new.Goals as goal

pub invariant_of-result : goal.invariant_of-result
invariant_of-result c =
    same_sections_in [] c.new.result [] c.new-2.result.items [] c.new-3.result.items []
    c.new-4.result.items 0 (vec_capacity c.new-4.result)
    c.new.ensures c.new-2.ensures.items c.new-3.ensures.items c.new-4.ensures.items
    (omega arith) (no_sections 0)

pub returns : goal.returns
returns c =
    same_view 0 [] c.new.result [] c.new-2.result.items [] c.new-3.result.items []
    c.new-4.result.items
    c.new.ensures c.new-2.ensures.items c.new-3.ensures.items c.new-4.ensures.items
    ∙ none_seen 0
