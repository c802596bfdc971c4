use Rattle.std.proofs.Common.{◌≡◌, Option, IfOk, subst}
use Rattle.tool_objects.specs.elf_object.Answers.{items_at, lend_refusal, entry_answer}
use Rattle.tool_objects.specs.elf_descriptor.Entries.{entry}
use Rattle.tool_objects.specs.elf_descriptor.Reads.{wanted}
use Rattle.tool_objects.specs.tool_output.Stops.{value_or_stop}
use Rattle.tool_objects.proofs.OnceReads.{once_read}
use Rattle.tool_objects.proofs.QueryLemmas.{learns_unless, unless_stated}
use Rattle.elf_lint_findings.proofs.LentLemmas.{lent_value}
use Rattle.elf_lint_findings.proofs.data.item_at.Goals as goal

pub returns : goal.returns
returns g c =
    let s = c.args.s.0 in
    let o = c.args.elf.now.o in
    let t = g.T.Listed in
    let call = entry t.kind t.list_of s 0 c.args.i in
    rw c.unless_refused.ensures (learns_unless g.S.Source call _ c.args.elf.now _ (once_read _ _ _ _) _ c.item.result
    (λ told. subst (λ (v : Option g.row.T.Denot). IfOk (value_or_stop c.item.result) (λ x. x ≡ v))
    (lent_value (lend_refusal o t.kind s 0) (t.list_of (items_at o s 0)) c.args.i)
    (unless_stated c.args.elf.now.told (wanted call c.args.elf.now) c.item.result (entry_answer (lend_refusal o t.kind s 0) (t.list_of (items_at o s 0)) c.args.i) c.item.ensures.answer told))
    c.item.ensures.looks)
