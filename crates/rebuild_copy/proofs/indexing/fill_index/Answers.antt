use Rattle.std.proofs.Common.{List, ℕ, sym, ◌∙◌, subst, arith}
use Rattle.rebuild_select.specs.Sought.Names.{AreUpTo}
use Rattle.rebuild_copy.specs.Rows.{held_in}
use Rattle.rebuild_copy.proofs.IndexLaws.{indexed_none, indexed_more, indexed_all}
use Rattle.rebuild_copy.proofs.indexing.fill_index.Goals as goal

pub loop-s-init : goal.loop-s-init
loop-s-init c =
    indexed_none c.args.x.now (held_in c.args.x.now c.table_of-table.result) c.args.index.now
    c.requires.none

pub index_section-requires : goal.index_section-requires
index_section-requires c =
    subst (λ (l : List (List ℕ)). AreUpTo c.args.longest l) (sym c.loop-s.invariant.same)
    c.requires.up_to

pub loop-s-preserved : goal.loop-s-preserved
loop-s-preserved c =
    let first = c.loop-s.auto.s in
    indexed_more c.args.x.now (held_in c.args.x.now c.table_of-table.result) c.args.index.now.sought
    c.loop-s.index c.loop-s.s c.loop-s.invariant c.index_section.new.index
    (omega (arith, first)) c.loop-s-test.true c.index_section.ensures.sought c.in-Ok.ensures.put

pub returns-in-Err-clause-sought : goal.returns-in-Err-clause-sought
returns-in-Err-clause-sought c = c.index_section.ensures.sought ∙ c.loop-s.invariant.same

pub returns-clause-sought : goal.returns-clause-sought
returns-clause-sought c = c.loop-s.invariant.same

pub returns-clause-index : goal.returns-clause-index
returns-clause-index c =
    indexed_all c.args.x.now (held_in c.args.x.now c.table_of-table.result) c.args.index.now.sought
    c.loop-s.index c.loop-s.s c.loop-s.invariant c.loop-s-test.false c.table_of-table.ensures
