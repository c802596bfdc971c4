-- Some items more are appended, until none is left.
use Rattle.std.proofs.Common.{sym, ◌∙◌}
use Rattle.std.proofs.lemmas.Bool.{eqb-true}
use Rattle.elf_xlate.proofs.Appended.{none_appended, some_appended, all_appended}
use Rattle.elf_xlate.proofs.Pieces.{all_pass}
use Rattle.elf_xlate.proofs.encode.encode_each.Goals as goal

pub loop-rest-init : goal.loop-rest-init
loop-rest-init g c = none_appended _ _ _ _

pub loop-rest-preserved : goal.loop-rest-preserved
loop-rest-preserved g c =
    some_appended _ _ _ _ _ _ _ _ _ c.loop-rest.invariant c.split_at.ensures.by_index.0
    (c.append_items.ensures.fits c.if-not-append_items.false)
    (c.append_items.ensures.bytes c.if-not-append_items.false) c.append_items.ensures.front

pub returns-clause-fits : goal.returns-clause-fits
returns-clause-fits g c = λ _.
    let none = eqb-true _ 0 (sym c.is_empty.ensures ∙ c.loop-rest-test.false) in
    all_pass _ _ (all_appended _ _ _ _ _ _ c.loop-rest.invariant none).1

pub returns-clause-bytes : goal.returns-clause-bytes
returns-clause-bytes g c = λ _.
    let none = eqb-true _ 0 (sym c.is_empty.ensures ∙ c.loop-rest-test.false) in
    (all_appended _ _ _ _ _ _ c.loop-rest.invariant none).0
