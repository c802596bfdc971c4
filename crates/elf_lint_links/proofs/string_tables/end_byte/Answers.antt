use Rattle.std.proofs.Common.{◌≡◌, ℕ, [], Option, None, refl, sym, ap, ◌∙◌}
use Rattle.elf_lint_findings.specs.elf_descriptor.Reads.{wanted}
use Rattle.elf_lint_findings.specs.gelf_view.Calls as calls
use Rattle.elf_lint_findings.proofs.tool_objects.QueryLemmas.{reads_on, reads_stop, settled_ok, settled_none}
use Rattle.elf_lint_findings.proofs.LentLemmas.{bytes_told, no_bytes}
use Rattle.elf_lint_links.specs.declared.string_tables.End.{End}
use Rattle.elf_lint_links.specs.declared.string_tables.End.TheVariants.{First, Last}
use Rattle.elf_lint_links.specs.StringTables.{byte_at_end}
use Rattle.elf_lint_findings.proofs.tool_objects.OnceReads.{once_read}
use Rattle.elf_lint_links.proofs.string_tables.end_byte.Goals as goal

no_byte : (end : End) → ◌≡◌ {A = Option ℕ} None (byte_at_end end [])
no_byte First = refl
no_byte Last = refl

pub returns-in-Ok : goal.returns-in-Ok
returns-in-Ok g c =
    let s = c.args.s.0 in
    let o = c.args.elf.now.o in record {
      value = λ told. c.byte_at_end.ensures
          ∙ ap (byte_at_end c.args.end) (bytes_told o s c.args.elf.now.told (wanted (calls.bytes s 0) c.args.elf.now) c.in-Ok.bytes.now c.in-Ok.ensures.answer told);
      reads = reads_on g.S.Source _ _ c.args.elf.now _ c.bytes.result _ c.bytes.follows.holds-at-none (once_read _ _ _ _) (settled_ok c.in-Ok.is);
    }

pub returns-in-Some : goal.returns-in-Some
returns-in-Some g c =
    let s = c.args.s.0 in record {
      value = λ told. tt;
      reads = reads_stop g.S.Source (calls.bytes s 0) _ c.args.elf.now _ c.in-Err.e _ (sym c.in-Some.ensures) (rw c.in-Err.is at c.bytes.follows.holds-at-none);
    }

pub returns-in-None : goal.returns-in-None
returns-in-None g c =
    let s = c.args.s.0 in
    let o = c.args.elf.now.o in record {
      value = λ told. no_byte c.args.end
          ∙ ap (byte_at_end c.args.end) (sym (no_bytes o s c.args.elf.now.told (wanted (calls.bytes s 0) c.args.elf.now) c.in-Err.e (sym c.in-None.ensures) c.in-Err.ensures.answer));
      reads = reads_on g.S.Source _ _ c.args.elf.now _ c.bytes.result _ c.bytes.follows.holds-at-none (once_read _ _ _ _) (settled_none c.in-Err.is (sym c.in-None.ensures));
    }
