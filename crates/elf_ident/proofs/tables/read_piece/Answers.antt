use Rattle.std.proofs.Common.{◌≡◌, ◌∙◌, ℕ, length, ap, arith}
use Rattle.std.specs.Prelude.{◌%◌}
use Rattle.elf_xlate.specs.Headers.{shdr_size}
use Rattle.elf_ident.proofs.PieceLemmas.{piece_read, table_read_on, asks_as_read}
use Rattle.elf_ident.proofs.tables.read_piece.Goals as goal

pub add_shdrs-requires : goal.add_shdrs-requires
add_shdrs-requires g c =
    let long : length c.read.new.buf ≡ length c.args.bytes.now = omega (arith, c.read.auto.buf) in
    ap (λ (n : ℕ). n % shdr_size c.args.h.now.class) long ∙ c.requires.whole

pub returns-clause-value : goal.returns-clause-value
returns-clause-value g c =
    piece_read c.add_shdrs.result (g.S.Source.holds c.args.src.now) c.args.h.now
    (length c.args.bytes.now) c.args.at c.read.new.buf c.args.shdrs.now c.add_shdrs.new.shdrs
    (omega (arith, c.read.auto.buf)) c.in_default.ensures.bytes c.add_shdrs.ensures.value

pub returns-clause-table : goal.returns-clause-table
returns-clause-table g c =
    table_read_on c.add_shdrs.result c.args.h.now.class (length c.args.bytes.now)
    (length c.read.new.buf) c.args.shdrs.now c.add_shdrs.new.shdrs
    (omega (arith, c.read.auto.buf)) c.add_shdrs.ensures.table

pub returns-clause-asks : goal.returns-clause-asks
returns-clause-asks g c =
    asks_as_read g.S.Source c.add_shdrs.result c.args.src.now c.read.new.src
    (length c.args.bytes.now) (length c.args.bytes.now) (omega arith) c.in_default.ensures.asks
    c.add_shdrs.ensures.err
