use Rattle.std.proofs.Common.{ap, arith}
use Rattle.elf_types.specs.declared.records.Kind.TheVariants as kinds
use Rattle.elf_types.specs.declared.records.Shdr.{Shdr}
use Rattle.symbol_lookup.proofs.elf_descriptor.LendLaws.{lend_there}
use Rattle.hash_build.proofs.CallLaws.{too_many, not_too_many, counted}
use Rattle.hash_build.proofs.tables.table_with.Goals as goal

pub section_header-requires : goal.section_header-requires
section_header-requires g c =
    (lend_there c.args.elf.now.o kinds.Sym c.args.s.0 0 c.requires.passed).0

pub returns-then-count-ge-TOO_MANY-clause-refused :
    goal.returns-then-count-ge-TOO_MANY-clause-refused
returns-then-count-ge-TOO_MANY-clause-refused g c =
    too_many c.args.elf.now.o c.args.s.0 c.args.count c.requires.passed c.requires.count
    (omega arith)

pub returns-clause-table : goal.returns-clause-table
returns-clause-table g c = record {
  passed = not_too_many c.args.elf.now.o c.args.s.0 c.args.count c.requires.passed
      c.requires.count (omega arith);
  strings = ap (λ (h : Shdr). h.link) c.section_header.ensures;
  count = counted c.args.elf.now.o c.args.s.0 c.args.count c.requires.passed c.requires.count;
  few = omega arith;
}
