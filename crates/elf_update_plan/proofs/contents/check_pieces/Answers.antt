use Rattle.std.proofs.Common.{sym, ◌∙◌, arith}
use Rattle.elf_descriptor.specs.elf_object.Object.{home_piece, section_at, piece_at}
use Rattle.elf_descriptor.specs.elf_object.Refusal.{unfit_in_piece}
use Rattle.elf_update_plan.proofs.RowLaws.{none_at_first}
use Rattle.elf_update_plan.proofs.ContentLaws.{row_stop, row_end, row_goes_on, no_pieces, some_pieces, count_is}
use Rattle.elf_update_plan.proofs.contents.check_pieces.Goals as goal

pub returns-then-not-has_file_bytes : goal.returns-then-not-has_file_bytes
returns-then-not-has_file_bytes g c =
    no_pieces c.args.elf.now.o.header.class c.args.s (section_at c.args.elf.now.o c.args.s)
    (sym c.has_file_bytes.ensures ∙ c.if-not-has_file_bytes.true)

pub loop-p-init : goal.loop-p-init
loop-p-init g c =
    none_at_first (unfit_in_piece c.args.elf.now.o.header.class c.args.s) home_piece
    (section_at c.args.elf.now.o c.args.s).pieces

pub returns-in-Err : goal.returns-in-Err
unfolding piece_at
returns-in-Err g c =
    let o = c.args.elf.now.o in
    some_pieces o.header.class c.args.s (section_at o c.args.s) _ (sym c.has_file_bytes.ensures
    ∙ c.if-not-has_file_bytes.false)
    (row_stop (unfit_in_piece o.header.class c.args.s) home_piece (section_at o c.args.s).pieces c.loop-p.p c.in-Err.e
    (omega (
      arith,
      c.loop-p-test.true,
      c.count_pieces-p-end.ensures,
      count_is c.args.elf.now.o
          c.args.s,
    )) c.loop-p.invariant c.in-Err.ensures)

pub loop-p-preserved : goal.loop-p-preserved
unfolding piece_at
loop-p-preserved g c =
    let o = c.args.elf.now.o in
    row_goes_on (unfit_in_piece o.header.class c.args.s) home_piece (section_at o c.args.s).pieces
    c.loop-p.p c.loop-p.invariant c.in_default.ensures

pub returns : goal.returns
returns g c =
    let o = c.args.elf.now.o in
    some_pieces o.header.class c.args.s (section_at o c.args.s) _ (sym c.has_file_bytes.ensures
    ∙ c.if-not-has_file_bytes.false)
    (row_end (unfit_in_piece o.header.class c.args.s) home_piece (section_at o c.args.s).pieces c.loop-p.p
    (omega (
      arith,
      c.loop-p-test.false,
      c.count_pieces-p-end.ensures,
      count_is c.args.elf.now.o
          c.args.s,
    )) c.loop-p.invariant)
