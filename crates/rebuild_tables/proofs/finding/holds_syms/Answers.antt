use Rattle.std.proofs.Common.{subst}
use Rattle.elf_types.specs.declared.records.Kind.{Kind}
use Rattle.rebuild_tables.specs.Finding.{HoldsKind}
use Rattle.rebuild_tables.proofs.finding.holds_syms.Goals as goal

pub returns-in-Some : goal.returns-in-Some
returns-in-Some g c = λ yes.
    subst (λ (kind : Kind). HoldsKind c.args.elf.now.o c.args.s.0 kind) (c.is_of_syms.ensures yes)
    c.in-Some.ensures
