use Rattle.std.proofs.Common.{◌≡◌, true, false, refl, sym, ◌∙◌, arith}
use Rattle.rebuild_keep.proofs.elf_update_plan.RowLaws.{ok_is}
use Rattle.rebuild_keep.specs.rebuild_model.Split.{same_phdr}
use Rattle.rebuild_join.proofs.joined.MatchLaws.{lengths_differ, rest_more, rest_differs, rest_none}
use Rattle.rebuild_join.proofs.joined.matching.same_segments.Goals as goal

pub returns-then-phnum : goal.returns-then-phnum
returns-then-phnum g c =
    let a = ok_is _ _ c.phnum.ensures in
    let b = ok_is _ _ c.phnum-2.ensures in
    lengths_differ same_phdr c.args.stripped.now.o.phdrs c.args.debug.now.o.phdrs
    (λ same. c.if-phnum.true (a ∙ same ∙ sym b))

pub loop-i-init : goal.loop-i-init
loop-i-init g c = refl

pub phdr_at-one-requires : goal.phdr_at-one-requires
phdr_at-one-requires g c =
    let count = ok_is _ _ c.phnum-i-end.ensures in omega (arith, count, c.loop-i-test.true)

pub phdr_at-other-requires : goal.phdr_at-other-requires
phdr_at-other-requires g c =
    let a = ok_is _ _ c.phnum.ensures in
    let b = ok_is _ _ c.phnum-2.ensures in
    let count = ok_is _ _ c.phnum-i-end.ensures in
    omega (arith, a, b, count, c.if-phnum.false, c.loop-i-test.true)

pub loop-i-preserved : goal.loop-i-preserved
loop-i-preserved g c =
    let a = ok_is _ _ c.phnum.ensures in
    let b = ok_is _ _ c.phnum-2.ensures in
    let count = ok_is _ _ c.phnum-i-end.ensures in
    let yes : c.same_phdr.result ≡ true = cc in
    rest_more same_phdr c.args.stripped.now.o.phdrs c.args.debug.now.o.phdrs c.loop-i.i
    c.phdr_at-one.result c.phdr_at-other.result c.same_phdr.result
    (omega (arith, count, c.loop-i-test.true))
    (omega (arith, a, b, count, c.if-phnum.false, c.loop-i-test.true))
    c.phdr_at-one.ensures c.phdr_at-other.ensures c.same_phdr.ensures yes c.loop-i.invariant

pub returns-then-not-same_phdr : goal.returns-then-not-same_phdr
returns-then-not-same_phdr g c =
    let a = ok_is _ _ c.phnum.ensures in
    let b = ok_is _ _ c.phnum-2.ensures in
    let count = ok_is _ _ c.phnum-i-end.ensures in
    let no : c.same_phdr.result ≡ false = cc in
    rest_differs same_phdr c.args.stripped.now.o.phdrs c.args.debug.now.o.phdrs c.loop-i.i
    c.phdr_at-one.result c.phdr_at-other.result c.same_phdr.result
    (omega (arith, count, c.loop-i-test.true))
    (omega (arith, a, b, count, c.if-phnum.false, c.loop-i-test.true))
    c.phdr_at-one.ensures c.phdr_at-other.ensures c.same_phdr.ensures no c.loop-i.invariant

pub returns : goal.returns
returns g c =
    let a = ok_is _ _ c.phnum.ensures in
    let b = ok_is _ _ c.phnum-2.ensures in
    let count = ok_is _ _ c.phnum-i-end.ensures in
    rest_none same_phdr c.args.stripped.now.o.phdrs c.args.debug.now.o.phdrs c.loop-i.i
    (omega (arith, count, c.loop-i-test.false))
    (omega (arith, a, b, count, c.if-phnum.false, c.loop-i-test.false))
    c.loop-i.invariant
