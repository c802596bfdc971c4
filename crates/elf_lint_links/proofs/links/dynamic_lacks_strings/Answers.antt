use Rattle.std.proofs.Common.{◌≡◌, ◌==◌, false, ne_eqb, sym, ◌∙◌, subst}
use Rattle.elf_types.specs.declared.constants.TheConstants.{SHT_DYNAMIC}
use Rattle.elf_types.specs.declared.records.Shdr.{Shdr}
use Rattle.elf_lint_links.proofs.LinkLemmas.{no_dynamic}
use Rattle.elf_lint_links.proofs.links.dynamic_lacks_strings.Goals as goal

pub returns-else-h-eq-SHT_DYNAMIC : goal.returns-else-h-eq-SHT_DYNAMIC
returns-else-h-eq-SHT_DYNAMIC g c =
    let none = ne_eqb c.args.h.now.stype SHT_DYNAMIC c.if-h-eq-SHT_DYNAMIC.false in
    none
    ∙ sym (no_dynamic c.args.elf.now.o c.args.s.0
    (subst (λ (h : Shdr). (h.stype == SHT_DYNAMIC) ≡ false) c.requires.header none))
