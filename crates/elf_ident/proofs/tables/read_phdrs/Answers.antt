use Rattle.std.proofs.Common.{◌∙◌, ◌*◌, ap, ℕ}
use Rattle.elf_ident.proofs.TableLemmas.{phdrs_read}
use Rattle.elf_ident.proofs.tables.read_phdrs.Goals as goal

pub returns-clause-value : goal.returns-clause-value
returns-clause-value g c =
    phdrs_read (g.S.Source.holds c.args.src.now) c.args.h.now c.args.count c.table_size-len.result c.in_ok-bytes.bytes c.as_slice.result.now _
    c.as_slice.ensures c.in_ok-bytes.ensures.len (c.table_size-len.ensures ∙ ap (λ (s : ℕ). c.args.count * s) c.phdr_size.ensures)
    c.get_phdrs.ensures.value c.in_ok-bytes.ensures.bytes
