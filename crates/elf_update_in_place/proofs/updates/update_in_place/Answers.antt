use Rattle.std.proofs.Common.{◌∙◌, ℕ, Ok, sym, ap}
use Rattle.elf_update_to.proofs.elf_update_plan.PlacingLaws.{clean_answer}
use Rattle.elf_update_in_place.proofs.updates.update_in_place.Goals as goal

pub returns-clause-answer : goal.returns-clause-answer
returns-clause-answer g c =
    clean_answer c.args.elf.now.o (sym c.if-dirty.ensures.dirty)
    ∙ ap (λ (n : ℕ). Ok n) (sym c.base_len.ensures)

pub returns-clause-whole : goal.returns-clause-whole
returns-clause-whole g c = λ clean. c.if-dirty.ensures.whole (c.if-dirty.ensures.dirty ∙ clean)
