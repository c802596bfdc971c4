use Rattle.std.proofs.Common.{arith, ◌≡◌, Some, None, ap, ◌∙◌, sym}
use Rattle.std.proofs.lemmas.Map.Text.{text_keys}
use Rattle.elf_outside.specs.Kept.{kept}
use Rattle.elf_outside.specs.MemFiles.{emptied}
use Rattle.elf_outside.proofs.memory.files.set_empty.Goals as goal

pub returns-in-Some-clause-ok : goal.returns-in-Some-clause-ok
returns-in-Some-clause-ok c =
    record { set = grind (arith, text_keys); others = λ other differs. grind (arith, text_keys) }

pub returns-in-Ok-clause-ok : goal.returns-in-Ok-clause-ok
returns-in-Ok-clause-ok c =
    let none : kept c.args.names.now c.args.name.now ≡ None = grind (arith, text_keys) in
    record {
      set = c.in-Ok.ensures.ok.set ∙ ap (λ k. Some (emptied k)) (sym none);
      others = λ other differs. grind (arith, text_keys);
    }
