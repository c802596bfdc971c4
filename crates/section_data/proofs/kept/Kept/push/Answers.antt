use Rattle.std.proofs.Common.{Some, sym, ap, ◌∙◌}
use Rattle.section_data.specs.Views.{home_view}
use Rattle.section_data.specs.Kept.{unboxed}
use Rattle.section_data.proofs.Keeping.{pushed_kept, pushed_seen, unpushed_seen}
use Rattle.section_data.proofs.kept.Kept.push.Goals as goal

pub invariant_of-self-2 : goal.invariant_of-self-2
invariant_of-self-2 c =
    pushed_kept c.self.inside.section (home_view c.self.inside.at c.self.inside.len c.self.inside.kind c.self.inside.out)
    c.self.inside.empty_read c.self.inside.has_first c.self.inside.first c.self.inside.len (unboxed c.self.inside.used) (unboxed c.open.new.slot)
    c.deref_mut.result.now c.push.new.self c.args.self.now c.self.invariant c.in_default.ensures.ok
    (ap unboxed c.in-Some.is ∙ ap Some (sym c.deref_mut.ensures.value)) c.self.view_is c.push.result c.args.piece c.if-not-self.false c.requires
    c.push.ensures.rest c.push.ensures.ok c.push.ensures.unchanged

pub returns-clause-ok : goal.returns-clause-ok
returns-clause-ok c =
    pushed_seen c.self.inside.section (home_view c.self.inside.at c.self.inside.len c.self.inside.kind c.self.inside.out)
    c.self.inside.empty_read c.self.inside.has_first c.self.inside.first c.self.inside.len (unboxed c.self.inside.used) (unboxed c.open.new.slot)
    c.deref_mut.result.now c.push.new.self c.args.self.now c.self.invariant c.in_default.ensures.ok
    (ap unboxed c.in-Some.is ∙ ap Some (sym c.deref_mut.ensures.value)) c.self.view_is c.push.result c.args.piece c.if-not-self.false
    c.push.ensures.rest c.push.ensures.ok

pub returns-clause-unchanged : goal.returns-clause-unchanged
returns-clause-unchanged c =
    unpushed_seen c.self.inside.section (home_view c.self.inside.at c.self.inside.len c.self.inside.kind c.self.inside.out)
    c.self.inside.empty_read c.self.inside.has_first c.self.inside.first c.self.inside.len (unboxed c.self.inside.used) (unboxed c.open.new.slot)
    c.deref_mut.result.now c.push.new.self c.args.self.now c.self.invariant c.in_default.ensures.ok
    (ap unboxed c.in-Some.is ∙ ap Some (sym c.deref_mut.ensures.value)) c.self.view_is c.push.result
    c.push.ensures.rest c.push.ensures.unchanged
