use Rattle.std.proofs.Common.{sym, ◌∙◌, arith}
use Rattle.rebuild_keep.proofs.elf_update_plan.RowLaws.{ok_is}
use Rattle.rebuild_join.proofs.KeepLaws.{none_listed, some_listed, not_listed, list_wanted}
use Rattle.rebuild_join.proofs.keeping.list_joined.Goals as goal

pub returns-then-shnum-eq0 : goal.returns-then-shnum-eq0
returns-then-shnum-eq0 g c =
    none_listed c.args.stripped.now c.args.debug.now _
    (sym (ok_is _ _ c.shnum.ensures) ∙ c.if-shnum-eq0.true) c.new.ensures.headers
    c.new.ensures.sizes

pub returns-in-Err : goal.returns-in-Err
returns-in-Err g c =
    list_wanted c.args.stripped.now c.args.debug.now c.in-Err.e c.in-Err.ensures.err

pub add_all-requires-clause-some : goal.add_all-requires-clause-some
add_all-requires-clause-some g c =
    let count = ok_is _ _ c.shnum.ensures in omega (arith, count, c.if-shnum-eq0.false)

pub add_all-requires-clause-first : goal.add_all-requires-clause-first
add_all-requires-clause-first g c = c.in-Ok.ensures.first

pub returns-in-Ok-add_all : goal.returns-in-Ok-add_all
returns-in-Ok-add_all g c =
    some_listed c.args.stripped.now c.args.debug.now c.add_all.new.contents
    c.requires.debug.object (λ none. c.if-shnum-eq0.false (ok_is _ _ c.shnum.ensures ∙ none))
    c.in-Ok-add_all.ensures

pub returns-in-Err-add_all : goal.returns-in-Err-add_all
returns-in-Err-add_all g c =
    not_listed c.args.stripped.now c.args.debug.now c.in-Err-add_all.fault c.add_all.new.contents
    c.in-Err-add_all.ensures
