use Rattle.std.proofs.Common.{sym, ◌∙◌}
use Rattle.rebuild_object.proofs.elf_update_plan.RowLaws.{ok_is}
use Rattle.rebuild_debug.proofs.KeepLaws.{half_none, half_listed, half_not_listed, half_wanted}
use Rattle.rebuild_debug.proofs.keeping.list_half.Goals as goal

pub returns-then-shnum-eq0 : goal.returns-then-shnum-eq0
returns-then-shnum-eq0 g c =
    half_none c.args.elf.now _ (sym (ok_is _ _ c.shnum.ensures) ∙ c.if-shnum-eq0.true)
    c.new.ensures.headers c.new.ensures.sizes c.new.ensures.ranges c.new.ensures.kinds

pub returns-in-Err : goal.returns-in-Err
returns-in-Err g c = half_wanted c.args.elf.now c.in-Err.e c.in-Err.ensures.err

pub add_sections-requires-clause-first : goal.add_sections-requires-clause-first
add_sections-requires-clause-first g c = c.in-Ok.ensures.first

pub add_sections-requires-clause-read : goal.add_sections-requires-clause-read
add_sections-requires-clause-read g c = c.in-Ok.ensures.read

pub returns-in-Ok-add_sections : goal.returns-in-Ok-add_sections
returns-in-Ok-add_sections g c =
    half_listed c.args.elf.now c.add_sections.new.contents c.requires.object
    (λ none. c.if-shnum-eq0.false (ok_is _ _ c.shnum.ensures ∙ none))
    c.in-Ok-add_sections.ensures

pub returns-in-Err-add_sections : goal.returns-in-Err-add_sections
returns-in-Err-add_sections g c =
    half_not_listed c.args.elf.now c.in-Err-add_sections.e c.add_sections.new.contents
    c.in-Err-add_sections.ensures
