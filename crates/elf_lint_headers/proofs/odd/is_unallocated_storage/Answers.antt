use Rattle.std.proofs.Common.{◌≡◌, ◌==◌, ◌/◌, ◌%◌, false, ne_eqb, sym, ◌∙◌, subst}
use Rattle.elf_types.specs.declared.constants.TheConstants.{SHF_TLS}
use Rattle.elf_types.specs.declared.records.Shdr.{Shdr}
use Rattle.elf_lint_headers.proofs.OddLemmas.{no_storage}
use Rattle.elf_lint_headers.proofs.odd.is_unallocated_storage.Goals as goal

pub returns-else-h-eq1 : goal.returns-else-h-eq1
returns-else-h-eq1 g c =
    let none = ne_eqb (c.args.h.now.flags / SHF_TLS % 2) 1 c.if-h-eq1.false in
    none
    ∙ sym (no_storage c.args.elf.now.o c.args.s.0
    (subst (λ (h : Shdr). (h.flags / SHF_TLS % 2 == 1) ≡ false) c.requires.header none))
