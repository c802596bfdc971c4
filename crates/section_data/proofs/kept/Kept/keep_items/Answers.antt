use Rattle.std.proofs.Common.{Some, sym, ap, ◌∙◌}
use Rattle.section_data.specs.Views.{home_view}
use Rattle.section_data.specs.Kept.{unboxed}
use Rattle.section_data.proofs.Keeping.{items_kept, items_seen}
use Rattle.section_data.proofs.kept.Kept.keep_items.Goals as goal

pub invariant_of-self-2 : goal.invariant_of-self-2
invariant_of-self-2 c =
    items_kept c.self.inside.section (home_view c.self.inside.at c.self.inside.len c.self.inside.kind c.self.inside.out)
    c.self.inside.empty_read c.self.inside.has_first c.self.inside.first c.self.inside.len (unboxed c.self.inside.used) (unboxed c.open.new.slot)
    c.deref_mut.result.now c.set_held.new.self c.args.self.now c.self.invariant c.in_ok-open.ensures.ok
    (ap unboxed c.in-Some.is ∙ ap Some (sym c.deref_mut.ensures.value)) c.self.view_is c.args.items c.set_held.ensures

pub returns-clause-ok : goal.returns-clause-ok
returns-clause-ok c =
    items_seen c.self.inside.section (home_view c.self.inside.at c.self.inside.len c.self.inside.kind c.self.inside.out)
    c.self.inside.empty_read c.self.inside.has_first c.self.inside.first c.self.inside.len (unboxed c.self.inside.used) (unboxed c.open.new.slot)
    c.deref_mut.result.now c.set_held.new.self c.args.self.now c.self.invariant c.in_ok-open.ensures.ok
    (ap unboxed c.in-Some.is ∙ ap Some (sym c.deref_mut.ensures.value)) c.self.view_is c.args.items c.set_held.ensures
