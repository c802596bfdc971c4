use Rattle.std.proofs.Common.{refl, ap, ◌∙◌, length, List}
use Rattle.elf_types.specs.declared.records.Phdr.{Phdr}
use Rattle.elf_descriptor.proofs.SpareCalls.{reserved_by}
use Rattle.elf_descriptor.proofs.body.Body.make_spare.Goals as goal

pub returns-clause-ok : goal.returns-clause-ok
returns-clause-ok c =
    reserved_by c.args.self.now _ _ c.requires.over refl (ap (λ (l : List Phdr). length l) (c.in_ok-phdrs.ensures.ok ∙ c.as_slice.ensures)) (c.in_ok-shdrs.ensures.ok ∙ c.requires.counts.shnum)
