use Rattle.std.proofs.Common.{Some, Option, sym, ap, subst, ◌∙◌}
use Rattle.section_data.specs.Views.{home_view}
use Rattle.section_data.specs.declared.used.Used.{Used}
use Rattle.section_data.specs.Kept.{unboxed, kept_view, used_view, IsKept}
use Rattle.section_data.proofs.kept.Kept.note_end.Goals as goal

pub invariant_of-self-2 : goal.invariant_of-self-2
invariant_of-self-2 c =
    let inside = c.self.inside in
    let is = ap unboxed c.in-Some.is ∙ ap Some (sym c.deref_mut.ensures.value) in
    subst (λ (o : Option Used). IsKept inside.len inside.has_first inside.first o)
    (is ∙ ap Some (sym c.note_end.ensures)) c.self.invariant

pub returns : goal.returns
returns c =
    let inside = c.self.inside in
    let home = home_view inside.at inside.len inside.kind inside.out in
    let is = ap unboxed c.in-Some.is ∙ ap Some (sym c.deref_mut.ensures.value) in
    ap (λ (o : Option Used).
    kept_view inside.section home inside.empty_read inside.has_first inside.first (used_view o))
    (ap Some c.note_end.ensures ∙ sym is)
    ∙ c.self.view_is
