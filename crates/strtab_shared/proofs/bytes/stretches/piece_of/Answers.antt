use Rattle.std.proofs.Common.{arith, sym, subst}
use Rattle.strtab_shared.specs.declared.bytes.stretches.Stretch.{Stretch}
use Rattle.strtab_shared.specs.Bytes.Stretches.{no_stretch}
use Rattle.strtab_shared.proofs.bytes.StretchLaws.{IsFoundIn, rising, found_in, piece_found}
use Rattle.strtab_shared.proofs.bytes.stretches.piece_of.Goals as goal

pub index_at-i-requires : goal.index_at-i-requires
index_at-i-requires c = rising c.args.text.now 0 c.args.stretches.now c.requires.stand

pub stretch_at-s-requires : goal.stretch_at-s-requires
stretch_at-s-requires c =
    (found_in c.args.text.now 0 c.args.at c.args.stretches.now c.index_at-i.result no_stretch
    c.requires.stand (omega arith) (omega (arith, c.requires.below))
    (λ k below. c.index_at-i.ensures.before k no_stretch below)
    (λ k from below. c.index_at-i.ensures.behind k no_stretch from below)).there

found : (c : goal.After-stretch_at-s) → IsFoundIn c.args.text.now 0 c.args.at
    c.args.stretches.now c.index_at-i.result c.stretch_at-s.result
found c =
    subst (λ (s : Stretch). IsFoundIn c.args.text.now 0 c.args.at c.args.stretches.now
    c.index_at-i.result s) (sym c.stretch_at-s.ensures)
    (found_in c.args.text.now 0 c.args.at c.args.stretches.now c.index_at-i.result no_stretch
    c.requires.stand (omega arith) (omega (arith, c.requires.below))
    (λ k below. c.index_at-i.ensures.before k no_stretch below)
    (λ k from below. c.index_at-i.ensures.behind k no_stretch from below))

pub rest_of-requires-clause-inside : goal.rest_of-requires-clause-inside
rest_of-requires-clause-inside c = (found c).lies

pub rest_of-requires-clause-begun : goal.rest_of-requires-clause-begun
rest_of-requires-clause-begun c = (found c).begun

pub rest_of-requires-clause-ends : goal.rest_of-requires-clause-ends
rest_of-requires-clause-ends c = (found c).ends

pub returns : goal.returns
returns c =
    piece_found c.args.text.now c.args.stretches.now c.args.at c.index_at-i.result
    c.stretch_at-s.result c.rest_of.result.now
    (subst (λ (s : Stretch). IsFoundIn c.args.text.now 0 c.args.at c.args.stretches.now
    c.index_at-i.result s) (sym c.stretch_at-s.ensures)
    (found_in c.args.text.now 0 c.args.at c.args.stretches.now c.index_at-i.result no_stretch
    c.requires.stand (omega arith) (omega (arith, c.requires.below))
    (λ k below. c.index_at-i.ensures.before k no_stretch below)
    (λ k from below. c.index_at-i.ensures.behind k no_stretch from below))) c.rest_of.ensures
