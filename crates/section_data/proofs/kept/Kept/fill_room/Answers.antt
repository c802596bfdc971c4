use Rattle.std.proofs.Common.{Some, Option, sym, ap, subst, ◌∙◌}
use Rattle.section_data.specs.Views.{home_view}
use Rattle.section_data.specs.declared.used.Used.{Used}
use Rattle.section_data.specs.Kept.{unboxed, kept_view, used_view, IsUsed}
use Rattle.section_data.proofs.Keeping.{room_filled}
use Rattle.section_data.proofs.kept.Kept.fill_room.Goals as goal

pub returns-clause-fills : goal.returns-clause-fills
returns-clause-fills g c =
    let home = home_view c.self.inside.at c.self.inside.len c.self.inside.kind c.self.inside.out in
    let is = ap unboxed c.in-Some.is ∙ ap Some (sym c.deref_mut.ensures.value) in
    room_filled c.self.inside.section home c.self.inside.empty_read c.self.inside.has_first c.self.inside.first c.fill_room.result _
    c.deref_mut.result.now c.fill_room.new.self c.args.self.now
    (ap (λ (o : Option Used). kept_view c.self.inside.section home c.self.inside.empty_read c.self.inside.has_first c.self.inside.first (used_view o)) (sym is)
    ∙ c.self.view_is)
    c.requires.unread c.requires.inside (subst (λ (o : Option Used). IsUsed c.self.inside.len o) is c.self.invariant.used) c.fill_room.ensures.fills
