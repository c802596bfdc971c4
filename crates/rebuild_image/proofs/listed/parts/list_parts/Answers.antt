use Rattle.std.proofs.Common.{◌∙◌, ◌++◌, ◌∷◌, [], List, ap}
use Rattle.elf_layout.specs.declared.parts.PartAt.{PartAt}
use Rattle.elf_update_plan.proofs.PartLaws.{listed_steps}
use Rattle.rebuild_image.proofs.listed.parts.list_parts.Goals as goal

pub returns-clause-ok : goal.returns-clause-ok
returns-clause-ok c = λ o object is.
    listed_steps o c.push.new.self c.push-2.new.self c.push_sections.new.parts c.push-3.new.self
    c.header_part.result c.segments_part.result c.table_part.result (c.header_part.ensures o is)
    (c.segments_part.ensures o object is) (c.table_part.ensures o object is)
    (c.in_ok-push.ensures.ok
    ∙ ap (λ (l : List PartAt). l ++ c.header_part.result ∷ []) c.in_ok-parts.ensures.ok)
    c.in_ok-push-2.ensures.ok (c.in_ok-push_sections.ensures.ok o is) c.in_ok-push-3.ensures.ok
