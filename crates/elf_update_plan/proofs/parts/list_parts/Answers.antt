use Rattle.std.proofs.Common.{◌∙◌, ◌++◌, ◌∷◌, [], List, ap}
use Rattle.elf_descriptor.specs.elf_layout.declared.parts.PartAt.{PartAt}
use Rattle.elf_update_plan.proofs.PartLaws.{listed_steps}
use Rattle.elf_update_plan.proofs.parts.list_parts.Goals as goal

pub returns-clause-ok : goal.returns-clause-ok
returns-clause-ok g c =
    listed_steps c.args.elf.now.o c.push.new.self c.push-2.new.self c.push_sections.new.parts c.push-3.new.self
    c.header_part.result c.segments_part.result c.table_part.result c.header_part.ensures
    c.segments_part.ensures c.table_part.ensures
    (c.in_ok-push.ensures.ok ∙ ap (λ (l : List PartAt). l ++ c.header_part.result ∷ []) c.in_ok-parts.ensures.ok)
    c.in_ok-push-2.ensures.ok c.in_ok-push_sections.ensures.ok c.in_ok-push-3.ensures.ok
