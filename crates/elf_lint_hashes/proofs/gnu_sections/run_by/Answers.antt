use Rattle.std.proofs.Common.{ℕ, List, sym, ap, ◌∙◌, subst}
use Rattle.elf_types.specs.declared.records.Kind.TheVariants as kinds
use Rattle.hash_model.specs.elf_object.Answers.{items_at, bytes_of, lend_refusal}
use Rattle.tool_objects.specs.elf_descriptor.Reads.{wanted}
use Rattle.tool_objects.specs.gelf_view.Calls as calls
use Rattle.tool_objects.proofs.QueryLemmas.{reads_on, reads_stop, settled_ok, settled_none}
use Rattle.elf_lint_findings.specs.Looking.{data_bytes}
use Rattle.elf_lint_findings.proofs.LentLemmas.{bytes_told, no_bytes}
use Rattle.elf_lint_hashes.proofs.LentLemmas.{as_many_bytes}
use Rattle.elf_lint_hashes.specs.Gnu.{gnu_section_of, run_after, GnuTableFitsIn}
use Rattle.elf_lint_hashes.proofs.GnuWhole.{no_room}
use Rattle.tool_objects.proofs.OnceReads.{once_read}
use Rattle.elf_lint_hashes.proofs.gnu_sections.run_by.Goals as goal

pub run_after-requires-clause-lies : goal.run_after-requires-clause-lies
unfolding data_bytes
run_after-requires-clause-lies g c =
    let o = c.args.elf.now.o in
    let s = c.args.s.0 in
    subst (λ (n : ℕ). GnuTableFitsIn n c.args.t) (sym (as_many_bytes (bytes_of (items_at o s 0)) (lend_refusal o kinds.Bytes s 0) c.in-Ok.bytes.now c.in-Ok.ensures.like)) c.requires.lies

pub returns-in-Ok : goal.returns-in-Ok
returns-in-Ok g c =
    let o = c.args.elf.now.o in
    let s = c.args.s.0 in
    let t = c.args.t in record {
      value = λ told. c.run_after.ensures
          ∙ ap (λ (b : List ℕ). run_after t.class (gnu_section_of t b) t.count c.args.start c.args.i c.args.listed)
          (bytes_told o s c.args.elf.now.told (wanted (calls.bytes s 0) c.args.elf.now) c.in-Ok.bytes.now c.in-Ok.ensures.answer told);
      reads = reads_on g.S.Source (calls.bytes s 0) _ c.args.elf.now _ c.bytes.result _ c.bytes.follows.holds-at-none (once_read _ _ _ _) (settled_ok c.in-Ok.is);
    }

pub returns-in-None : goal.returns-in-None
returns-in-None g c =
    let o = c.args.elf.now.o in
    let s = c.args.s.0 in record {
      value = λ told. absurd (no_room c.args.t (data_bytes o s)
          (no_bytes o s c.args.elf.now.told (wanted (calls.bytes s 0) c.args.elf.now) c.in-Err.e (sym c.in-None.ensures) c.in-Err.ensures.answer)
          c.requires.lies);
      reads = reads_on g.S.Source (calls.bytes s 0) _ c.args.elf.now _ c.bytes.result _ c.bytes.follows.holds-at-none (once_read _ _ _ _) (settled_none c.in-Err.is (sym c.in-None.ensures));
    }

pub returns-in-Some : goal.returns-in-Some
returns-in-Some g c = record {
  value = λ told. tt;
  reads = reads_stop g.S.Source (calls.bytes c.args.s.0 0) _ c.args.elf.now _ c.in-Err.e _ (sym c.in-Some.ensures) (rw c.in-Err.is at c.bytes.follows.holds-at-none);
}
