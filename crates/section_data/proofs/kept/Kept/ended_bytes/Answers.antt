use Rattle.std.proofs.Common.{List, ℕ, Some, Option, inl, sym, ap, subst, ◌∙◌}
use Rattle.section_data.specs.Views.{CellView}
use Rattle.section_data.specs.declared.used.Used.{Used}
use Rattle.section_data.specs.Leaves.{bytes_or_none}
use Rattle.section_data.specs.Kept.{used_view, unboxed}
use Rattle.section_data.specs.Nuls.{IsEndedFront}
use Rattle.section_data.proofs.Keeping.{bytes_are}
use Rattle.section_data.proofs.kept.Kept.ended_bytes.Goals as goal

pub returns-in-Some : goal.returns-in-Some
returns-in-Some c =
    let is = ap unboxed c.in-Some.is ∙ ap Some (sym c.deref.ensures) in
    subst (λ (l : List ℕ). IsEndedFront l c.ended.result.now)
    (ap (λ (o : Option Used). bytes_or_none (used_view o).bytes) (sym is)
    ∙ sym (bytes_are c.self.inside.empty_read (used_view (unboxed c.self.inside.used)).bytes)
    ∙ ap (λ (v : CellView). bytes_or_none v.raw) c.self.view_is)
    c.ended.ensures

pub returns-in-None : goal.returns-in-None
returns-in-None c =
    inl
    (sym (ap (λ (o : Option Used). bytes_or_none (used_view o).bytes) (ap unboxed c.in-None.is))
    ∙ sym (bytes_are c.self.inside.empty_read (used_view (unboxed c.self.inside.used)).bytes)
    ∙ ap (λ (v : CellView). bytes_or_none v.raw) c.self.view_is)
