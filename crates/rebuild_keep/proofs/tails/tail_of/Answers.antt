use Rattle.std.proofs.Common.{ap, sym, ◌∙◌, arith}
use Rattle.rebuild_names.specs.elf_xlate.Headers.{ehdr_size}
use Rattle.elf_update_plan.proofs.RowLaws.{ok_is, told_class_is}
use Rattle.rebuild_keep.proofs.EndLaws.{tail_none, tail_is}
use Rattle.rebuild_keep.proofs.tails.tail_of.Goals as goal

pub returns-then-phnum-eq0 : goal.returns-then-phnum-eq0
returns-then-phnum-eq0 g c =
    tail_none c.args.elf.now.o c.args.removed.now
    (sym (ok_is _ _ c.phnum.ensures) ∙ c.if-phnum-eq0.true)

pub returns : goal.returns
returns g c =
    let o = c.args.elf.now.o in
    tail_is o c.args.removed.now c.max-front.result c.with_segments.result
    c.with_homes-end.result c.base_len.result c.min.result c.ehdr_size.result c.table_end.result
    (λ none. c.if-phnum-eq0.false (ok_is _ _ c.phnum.ensures ∙ none))
    (c.ehdr_size.ensures ∙ ap ehdr_size (told_class_is o c.ehdr.result c.ehdr.ensures))
    c.table_end.ensures c.max-front.ensures c.with_segments.ensures c.with_homes-end.ensures
    c.base_len.ensures (omega arith) c.min.ensures
