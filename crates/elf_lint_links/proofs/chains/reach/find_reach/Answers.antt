use Rattle.std.proofs.Common.{ℕ, List, sym, subst}
use Rattle.std.specs.Prelude.{IfOk}
use Rattle.elf_types.specs.declared.records.Order.{Order}
use Rattle.elf_lint_findings.specs.elf_descriptor.Reads.{wanted}
use Rattle.elf_lint_findings.specs.gelf_view.Calls as calls
use Rattle.elf_lint_findings.proofs.tool_objects.OnceReads.{once_read}
use Rattle.elf_lint_findings.proofs.tool_objects.QueryLemmas.{reads_on, reads_stop, settled_by, settled_ok, settled_none}
use Rattle.elf_lint_findings.specs.Looking.{data_bytes}
use Rattle.elf_lint_findings.proofs.LentLemmas.{bytes_told}
use Rattle.elf_lint_links.specs.Chains.Reach.{IsReach}
use Rattle.elf_lint_links.proofs.chains.ReachLaws.{reach_none}
use Rattle.elf_lint_links.proofs.chains.WalkLemmas.{reads_either}
use Rattle.elf_lint_links.proofs.chains.reach.find_reach.Goals as goal

pub returns-in-Ok-clause-is : goal.returns-in-Ok-clause-is
returns-in-Ok-clause-is g c = λ told.
    let o = c.args.elf.now.o in
    let s = c.args.s.0 in
    let r = c.reach_or_stop.result in
    let is = bytes_told o s c.args.elf.now.told (wanted (calls.bytes s 0) c.args.elf.now)
    c.in-Ok.bytes.now c.in-Ok.ensures.answer told in
    subst (λ (k : Order). IfOk r (IsReach (g.R.CheckedVersionEntry.next_in k (data_bytes o s))))
    c.order-of_order.ensures
    (subst (λ (b : List ℕ). IfOk r (IsReach (g.R.CheckedVersionEntry.next_in c.order-of_order.result b))) is
    c.reach_or_stop.ensures.ok)

pub returns-in-Ok-clause-reads : goal.returns-in-Ok-clause-reads
returns-in-Ok-clause-reads g c =
    reads_either g.S.Source c.args.elf.now _
    (settled_by g.S.Source (calls.bytes c.args.s.0 0) _ c.bytes.result c.args.elf.now _
    c.bytes.follows.holds-at-none (once_read _ _ _ _) (settled_ok c.in-Ok.is))
    c.reach_or_stop.result c.reach_or_stop.ensures.err

pub returns-in-None-clause-is : goal.returns-in-None-clause-is
returns-in-None-clause-is g c = λ told.
    let o = c.args.elf.now.o in
    reach_none (g.R.CheckedVersionEntry.next_in o.header.order (data_bytes o c.args.s.0)) 0 c.new.result
    c.new.ensures

pub returns-in-None-clause-reads : goal.returns-in-None-clause-reads
returns-in-None-clause-reads g c =
    reads_on g.S.Source (calls.bytes c.args.s.0 0) _ c.args.elf.now _ c.bytes.result _
    c.bytes.follows.holds-at-none (once_read _ _ _ _)
    (settled_none c.in-Err.is (sym c.in-None.ensures))

pub returns-in-Some-clause-reads : goal.returns-in-Some-clause-reads
returns-in-Some-clause-reads g c =
    reads_stop g.S.Source (calls.bytes c.args.s.0 0) _ c.args.elf.now _ c.in-Err.e _
    (sym c.in-Some.ensures) (rw c.in-Err.is at c.bytes.follows.holds-at-none)
