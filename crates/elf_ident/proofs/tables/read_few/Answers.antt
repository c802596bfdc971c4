use Rattle.std.proofs.Common.{◌∙◌, ◌*◌, ap, ℕ}
use Rattle.elf_ident.proofs.TableLemmas.{shdrs_read}
use Rattle.elf_ident.proofs.tables.read_few.Goals as goal

pub returns-clause-value : goal.returns-clause-value
returns-clause-value g c =
    shdrs_read (g.S.Source.holds c.args.src.now) c.args.h.now c.args.count c.table_size-len.result c.in_ok-bytes.bytes c.as_slice.result.now _
    c.as_slice.ensures c.in_ok-bytes.ensures.len (c.table_size-len.ensures ∙ ap (λ (s : ℕ). c.args.count * s) c.shdr_size.ensures)
    c.get_shdrs.ensures.value c.in_ok-bytes.ensures.bytes
