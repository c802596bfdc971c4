use Rattle.std.proofs.Common.{List, sym, subst, arith}
use Rattle.elf_types.specs.declared.records.Shdr.{Shdr}
use Rattle.rebuild_image.proofs.listed.StoreLaws.{StoredBelow, no_place_stored, one_stored, all_stored}
use Rattle.rebuild_image.proofs.listed.stored.placed_shdrs.Goals as goal

pub loop-s-init : goal.loop-s-init
loop-s-init c = λ o is header.
    subst (λ (l : List Shdr). StoredBelow c.args.places.now o l 0) (sym c.in_ok-headers.ensures.ok)
    (no_place_stored c.args.places.now o)

pub loop-s-preserved : goal.loop-s-preserved
loop-s-preserved c = λ o is header.
    one_stored c.args.places.now o c.loop-s.headers c.push.new.self c.loop-s.s c.placed_shdr.result
    (c.loop-s.invariant o is header) c.in_ok-push.ensures.ok (c.placed_shdr.ensures o is header)

pub returns-clause-ok : goal.returns-clause-ok
returns-clause-ok c = λ o is header.
    all_stored c.args.places.now o c.loop-s.headers c.loop-s.s
    (omega (arith, is.count, c.len-s-end.ensures, c.loop-s-test.false, c.loop-s.auto.s-end))
    (c.loop-s.invariant o is header)
