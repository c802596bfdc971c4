use Rattle.std.proofs.Common.{◌≡◌, Option, IfOk, subst}
use Rattle.elf_types.specs.declared.records.Kind.TheVariants as kinds
use Rattle.elf_types.specs.declared.records.Sym.{Sym}
use Rattle.elf_object.specs.Answers.{items_at, syms_of, lend_refusal, entry_answer}
use Rattle.tool_objects.specs.elf_descriptor.Entries.{entry}
use Rattle.tool_objects.specs.elf_descriptor.Reads.{wanted}
use Rattle.tool_output.specs.Stops.{value_or_stop}
use Rattle.tool_objects.proofs.OnceReads.{once_read}
use Rattle.tool_objects.proofs.QueryLemmas.{learns_unless, unless_stated, value_there}
use Rattle.nm_tool.proofs.symbols.symbol_at.Goals as goal

pub returns : goal.returns
returns g c =
    let s = c.args.t.symbols.0 in
    let o = c.args.elf.now.o in
    let call = entry kinds.Sym syms_of s 0 c.args.i in
    rw c.unless_refused.ensures (learns_unless g.S.Source call _ c.args.elf.now _ (once_read _ _ _ _) _ c.item.result
    (λ told. subst (λ (v : Option Sym). IfOk (value_or_stop c.item.result) (λ x. x ≡ v))
    (value_there (lend_refusal o kinds.Sym s 0) (syms_of (items_at o s 0)) c.args.i c.requires.passed)
    (unless_stated c.args.elf.now.told (wanted call c.args.elf.now) c.item.result (entry_answer (lend_refusal o kinds.Sym s 0) (syms_of (items_at o s 0)) c.args.i) c.item.ensures.answer told))
    c.item.ensures.looks)
