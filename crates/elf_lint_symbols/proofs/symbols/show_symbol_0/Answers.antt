use Rattle.std.proofs.Common.{List, length, ap, sym, ◌∙◌, arith}
use Rattle.std.specs.Prelude.{codes, slice_get}
use Rattle.elf_types.specs.declared.records.Sym.{Sym}
use Rattle.tool_objects.proofs.ElfSteps.{elf_left, elf_after, elf_says, elf_says_none, elf_unread}
use Rattle.elf_lint_findings.specs.declared.places.Place.TheVariants.{Item}
use Rattle.elf_lint_findings.specs.Findings.{finding, findings_shown, found_if}
use Rattle.elf_lint_findings.specs.Looking.{section_symbols}
use Rattle.elf_lint_findings.proofs.FindingLemmas.{no_findings}
use Rattle.elf_lint_findings.proofs.LentLemmas.{symbols_are}
use Rattle.elf_lint_symbols.specs.Symbols.{is_used, at_symbol_0}
use Rattle.elf_lint_symbols.proofs.TableLemmas.{symbol_0_found, symbol_0_none}
use Rattle.elf_lint_symbols.proofs.symbols.show_symbol_0.Goals as goal

pub returns-then-t-eq0 : goal.returns-then-t-eq0
returns-then-t-eq0 g c =
    let s = c.args.t.section.0 in
    let name = c.args.name.now in
    elf_says_none g.S.Source g.O.Sink g.E.Sink (λ o. findings_shown name (at_symbol_0 s (section_symbols o s))) c.args.elf.now _ c.args.outputs.now (elf_left g.S.Source c.args.elf.now)
    (λ told. ap (findings_shown name) (symbol_0_none s (section_symbols c.args.elf.now.o s) (sym c.requires.count ∙ c.if-t-eq0.true)) ∙ no_findings name)

pub item_there-requires-clause-there : goal.item_there-requires-clause-there
item_there-requires-clause-there g c =
    let all = ap length (symbols_are c.args.elf.now.o c.args.t.section.0 c.requires.passed) in
    let count = c.requires.count in
    let some = c.if-t-eq0.false in
    omega (arith, all, count, some)

pub returns-in-Ok : goal.returns-in-Ok
returns-in-Ok g c =
    let s = c.args.t.section.0 in
    let o = c.args.elf.now.o in
    let x = c.in-Ok.x in
    let name = c.args.name.now in
    let one = findings_shown name (found_if (is_used x) (finding 21 (Item s 0) (codes "symbol 0 is in use"))) in
    elf_after g.S.Source g.O.Sink g.E.Sink (λ o. one) (λ o. findings_shown name (at_symbol_0 s (section_symbols o s))) _ c.args.elf.now c.item_there.new.elf _ c.args.outputs.now _ c.in-Ok.ensures.reads.elf
    (elf_says g.S.Source g.O.Sink g.E.Sink (λ o. one) _ c.item_there.new.elf _ c.args.outputs.now _ (elf_left g.S.Source c.item_there.new.elf)
    (λ told. rw c.is_used.ensures at c.find_if.ensures.reports) c.find_if.ensures.leaves)
    (λ told. ap (findings_shown name) (symbol_0_found s (section_symbols o s) x (ap (λ (l : List Sym). slice_get l 0) (symbols_are o s c.requires.passed) ∙ c.in-Ok.ensures.value told)))

pub returns-in-Err : goal.returns-in-Err
returns-in-Err g c =
    elf_unread g.S.Source g.O.Sink g.E.Sink Sym c.in-Err.stop _ c.args.elf.now _ c.args.outputs.now c.in-Err.ensures.reads
