use Rattle.std.proofs.Common.{ℕ, List, sym, subst}
use Rattle.std.specs.Prelude.{IfSome}
use Rattle.elf_types.specs.declared.records.Class.{Class}
use Rattle.elf_types.specs.declared.records.Order.{Order}
use Rattle.elf_types.specs.declared.records.Kind.TheVariants as kinds
use Rattle.hash_model.specs.elf_object.Answers.{items_at, bytes_of, lend_refusal}
use Rattle.tool_objects.specs.elf_descriptor.Reads.{wanted}
use Rattle.tool_objects.specs.gelf_view.Calls as calls
use Rattle.tool_objects.proofs.QueryLemmas.{reads_on, reads_stop, settled_ok, settled_none}
use Rattle.elf_lint_findings.specs.Looking.{data_bytes}
use Rattle.elf_lint_findings.proofs.LentLemmas.{bytes_told, no_bytes}
use Rattle.elf_lint_hashes.proofs.LentLemmas.{as_many_bytes}
use Rattle.elf_lint_hashes.specs.Gnu.{IsSoundIn, GnuTableFitsIn}
use Rattle.elf_lint_hashes.proofs.GnuWhole.{sound_of_none}
use Rattle.tool_objects.proofs.OnceReads.{once_read}
use Rattle.elf_lint_hashes.proofs.gnu_sections.table_of.Goals as goal

pub returns-in-Ok-clause-is : goal.returns-in-Ok-clause-is
returns-in-Ok-clause-is g c = λ told.
    let o = c.args.elf.now.o in
    let s = c.args.s.0 in
    let n = c.args.count in
    let r = c.sound_in.result in
    let is = bytes_told o s c.args.elf.now.told (wanted (calls.bytes s 0) c.args.elf.now) c.in-Ok.bytes.now c.in-Ok.ensures.answer told in
    subst (λ (k : Class). IsSoundIn k o.header.order (data_bytes o s) n r) c.object_class-of_class.ensures
    (subst (λ (k : Order). IsSoundIn c.object_class-of_class.result k (data_bytes o s) n r) c.order-of_order.ensures
    (subst (λ (b : List ℕ). IsSoundIn c.object_class-of_class.result c.order-of_order.result b n r) is c.sound_in.ensures.is))

pub returns-in-Ok-clause-lies : goal.returns-in-Ok-clause-lies
unfolding data_bytes
returns-in-Ok-clause-lies g c =
    let o = c.args.elf.now.o in
    let s = c.args.s.0 in
    subst (λ (n : ℕ). IfSome c.sound_in.result (GnuTableFitsIn n)) (as_many_bytes (bytes_of (items_at o s 0)) (lend_refusal o kinds.Bytes s 0) c.in-Ok.bytes.now c.in-Ok.ensures.like) c.sound_in.ensures.lies

pub returns-in-Ok-clause-reads : goal.returns-in-Ok-clause-reads
returns-in-Ok-clause-reads g c = reads_on g.S.Source (calls.bytes c.args.s.0 0) _ c.args.elf.now _ c.bytes.result _ c.bytes.follows.holds-at-none (once_read _ _ _ _) (settled_ok c.in-Ok.is)

pub returns-in-None-clause-is : goal.returns-in-None-clause-is
returns-in-None-clause-is g c = λ told.
    let o = c.args.elf.now.o in
    let s = c.args.s.0 in
    sound_of_none o.header.class o.header.order (data_bytes o s) c.args.count
    (no_bytes o s c.args.elf.now.told (wanted (calls.bytes s 0) c.args.elf.now) c.in-Err.e (sym c.in-None.ensures) c.in-Err.ensures.answer)

pub returns-in-None-clause-reads : goal.returns-in-None-clause-reads
returns-in-None-clause-reads g c = reads_on g.S.Source (calls.bytes c.args.s.0 0) _ c.args.elf.now _ c.bytes.result _ c.bytes.follows.holds-at-none (once_read _ _ _ _) (settled_none c.in-Err.is (sym c.in-None.ensures))

pub returns-in-Some-clause-reads : goal.returns-in-Some-clause-reads
returns-in-Some-clause-reads g c =
    reads_stop g.S.Source (calls.bytes c.args.s.0 0) _ c.args.elf.now _ c.in-Err.e _ (sym c.in-Some.ensures) (rw c.in-Err.is at c.bytes.follows.holds-at-none)
