use Rattle.std.proofs.Common.{Some, Option, ap, sym, ◌∙◌}
use Rattle.elf_object.specs.elf_xlate.declared.content.Items.{Items}
use Rattle.section_data.proofs.used.Used.note_end.Goals as goal

pub returns : goal.returns
returns c =
    ap (λ (r : Option Items). record c.args.self.now { raw = r })
    (ap Some c.note_end.ensures ∙ sym c.in-Some.is)
