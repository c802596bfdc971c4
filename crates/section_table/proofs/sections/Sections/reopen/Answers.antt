use Rattle.std.proofs.Common.{ℕ, false, List, length, replicate, ap, sym, ◌∙◌, arith}
use Rattle.std.specs.Prelude.{vec_capacity}
use Rattle.section_table.specs.Sections.{SectionView}
use Rattle.section_table.proofs.Views.{view_length, seen_header}
use Rattle.section_table.proofs.Beginnings.{none_made, view_reopened}
use Rattle.section_table.proofs.sections.Sections.reopen.Goals as goal

pub invariant_of-self : goal.invariant_of-self
invariant_of-self c =
    let fits = c.self.invariant.fits in
    let room = c.clear.ensures.capacity in
    none_made c.self.inside.headers c.fill.new.self.items c.fill-2.new.self.items
    c.clear.new.self.items (vec_capacity c.clear.new.self) c.self.invariant.few
    (c.fill.ensures.items (λ y same. same)
    ∙ ap (λ (n : ℕ). replicate n false) (c.self.inside.marks.ok.0 ∙ c.self.invariant.each_mark))
    (c.fill-2.ensures.items (λ y same. same)
    ∙ ap (λ (n : ℕ). replicate {A = ℕ} n 0) (c.self.inside.slots.ok.0 ∙ c.self.invariant.each_slot))
    c.clear.ensures.items (omega (arith, fits, room))

pub returns : goal.returns
returns c =
    let size = c.self.inside.form.size in
    let headers = c.self.inside.headers in
    let marks = c.self.inside.marks.items in
    let slots = c.self.inside.slots.items in
    let cells = c.self.inside.cells.items in
    let seen = c.self.view_is in
    let long =
    sym (ap (λ (l : List SectionView). length l) seen)
    ∙ view_length size headers marks slots cells in
    view_reopened c.args.size headers c.fill.new.self.items c.fill-2.new.self.items
    c.clear.new.self.items c.args.self.now
    (c.fill.ensures.items (λ y same. same)
    ∙ ap (λ (n : ℕ). replicate n false) (c.self.inside.marks.ok.0 ∙ c.self.invariant.each_mark))
    (c.fill-2.ensures.items (λ y same. same)
    ∙ ap (λ (n : ℕ). replicate {A = ℕ} n 0) (c.self.inside.slots.ok.0 ∙ c.self.invariant.each_slot))
    long c.requires
    (λ s there.
    sym (seen_header size headers marks slots cells c.args.self.now seen s
    (omega (arith, there, long))))
