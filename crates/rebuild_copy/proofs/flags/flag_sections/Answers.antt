use Rattle.std.proofs.Common.{ℕ, List, [], Option, refl, sym, subst, arith}
use Rattle.elf_object.specs.Object.{Object}
use Rattle.rebuild_edits.specs.Edits.Names.{names_now}
use Rattle.rebuild_copy.specs.Indexes.{IsIndexOf}
use Rattle.rebuild_copy.proofs.TurnLaws.{flag_none, flag_more, flag_stops, flag_all}
use Rattle.rebuild_copy.proofs.FindLaws.{flag_sought}
use Rattle.rebuild_copy.proofs.flags.flag_sections.Goals as goal

pub loop-change-init : goal.loop-change-init
loop-change-init c = (
  (λ marks renames o p is holds.
      flag_none marks renames c.args.changes.now o p c.args.x.now is),
  omega arith,
)

pub flag_section-requires : goal.flag_section-requires
flag_section-requires c =
    flag_sought c.args.index.now.sought c.args.changes.now c.loop-change.change-index
    c.change-item.result c.loop-change-test.true c.change-item.is c.requires

pub loop-change-preserved : goal.loop-change-preserved
loop-change-preserved c = (
  (λ marks renames o p is holds.
      let so_far = c.loop-change.invariant.0 marks renames o p is holds in
      flag_more marks renames c.args.changes.now o p c.loop-change.change-index c.loop-change.x
      so_far (λ (q : Object). IsIndexOf c.args.index.now (names_now q marks renames))
      c.change-item.result c.flag_section.new.x c.loop-change-test.true c.change-item.is
      (subst (λ (l : List (Option (List ℕ))). IsIndexOf c.args.index.now l)
      (sym (so_far.flagged.names refl)) holds) (c.in-Ok.ensures marks renames)),
  let first = c.loop-change.invariant.1 in
      let second = (c.in-Ok.ensures [] []).less in omega (arith, first, second),
)

pub returns-in-Err : goal.returns-in-Err
returns-in-Err c = λ marks renames. record {
  unread = (c.in-Err.ensures marks renames).unread;
  less = tt;
  turns = λ o p is holds.
      let so_far = c.loop-change.invariant.0 marks renames o p is holds in
      flag_stops marks renames c.args.changes.now o p c.loop-change.change-index c.loop-change.x
      so_far (λ (q : Object). IsIndexOf c.args.index.now (names_now q marks renames))
      c.change-item.result c.in-Err.fault c.flag_section.new.x c.loop-change-test.true
      c.change-item.is
      (subst (λ (l : List (Option (List ℕ))). IsIndexOf c.args.index.now l)
      (sym (so_far.flagged.names refl)) holds) (c.in-Err.ensures marks renames);
}

pub returns : goal.returns
returns c = λ marks renames. record {
  unread = tt;
  less = c.loop-change.invariant.1;
  turns = λ o p is holds.
      flag_all marks renames c.args.changes.now o p c.loop-change.change-index c.loop-change.x
      (c.loop-change.invariant.0 marks renames o p is holds) c.loop-change-test.false;
}
