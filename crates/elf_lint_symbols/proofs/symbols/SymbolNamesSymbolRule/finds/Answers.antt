use Rattle.std.proofs.Common.{ℕ, true, false, Option, IfSome, ap, sym, ◌∙◌, subst}
use Rattle.std.specs.Prelude.{nat_le, is_none}
use Rattle.std.proofs.lemmas.Bool.{not-false}
use Rattle.tool_objects.proofs.LearnLemmas.{elf_read, learns_now}
use Rattle.tool_objects.specs.AtHand.Strings.{EndsAt}
use Rattle.tool_objects.proofs.at_hand.Ends.{unreadable_test}
use Rattle.elf_lint_symbols.proofs.TableLemmas.{no_name}
use Rattle.elf_lint_symbols.proofs.symbols.SymbolNamesSymbolRule.finds.Goals as goal

pub returns-in-Some : goal.returns-in-Some
returns-in-Some g c =
    let o = c.args.elf.now.o in
    let t = c.args.t in
    let at = c.from-at.result in
    learns_now g.S.Source _ _ c.args.elf.now
    (λ told.
    let ends = subst (λ (end : Option ℕ). IfSome end (EndsAt o t.strings.0)) c.in-Some.is
    (c.requires.end told) in
    no_name o t.section.0 _ c.args.x t.strings.0 at (nat_le c.in-Some.end at)
    (sym c.requires.table.named ∙ not-false t.named c.if-not-t.false) c.requires.table.strings
    c.from-at.ensures (sym (unreadable_test o t.strings.0 c.in-Some.end ends at)))

pub returns-in-Ok-Some : goal.returns-in-Ok-Some
returns-in-Ok-Some g c =
    let value = rw c.in-Ok-Some.field-0-is at c.in-Ok-Some.ensures.value in record {
      value = λ told. no_name c.args.elf.now.o c.args.t.section.0 _ c.args.x c.args.t.strings.0 c.from-at.result false
          (sym c.requires.table.named ∙ not-false c.args.t.named c.if-not-t.false) c.requires.table.strings c.from-at.ensures (ap is_none (value told));
      reads = record { elf = elf_read g.S.Source _ _ c.args.elf.now _ c.in-Ok-Some.is c.string_at.follows.holds-at-none; read = tt; write = tt };
    }

pub returns-in-Ok-None : goal.returns-in-Ok-None
returns-in-Ok-None g c =
    let value = rw c.in-Ok-None.field-0-is at c.in-Ok-None.ensures.value in record {
      value = λ told. no_name c.args.elf.now.o c.args.t.section.0 _ c.args.x c.args.t.strings.0 c.from-at.result true
          (sym c.requires.table.named ∙ not-false c.args.t.named c.if-not-t.false) c.requires.table.strings c.from-at.ensures (ap is_none (value told));
      reads = record { elf = elf_read g.S.Source _ _ c.args.elf.now _ c.in-Ok-None.is c.string_at.follows.holds-at-none; read = tt; write = tt };
    }
