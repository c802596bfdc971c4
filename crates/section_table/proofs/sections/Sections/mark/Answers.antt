use Rattle.std.proofs.Common.{List, set, true, ap, ◌∙◌, arith}
use Rattle.std.proofs.lemmas.List.{length-set}
use Rattle.section_table.specs.Sections.{SectionView, section_in}
use Rattle.section_table.proofs.Views.{seen_below, view_marked}
use Rattle.section_table.proofs.sections.Sections.mark.Goals as goal

pub index_mut-requires : goal.index_mut-requires
index_mut-requires c =
    let inside = c.self.inside in
    let below =
    seen_below inside.form.size inside.headers inside.marks.items inside.slots.items
    inside.cells.items c.args.self.now c.self.view_is c.args.s c.requires in
    let count = c.self.invariant.each_mark in
    let long = inside.marks.ok.0 in
    omega (arith, below, count, long)

pub invariant_of-self : goal.invariant_of-self
invariant_of-self c = record {
  few = c.self.invariant.few;
  each_mark = length-set c.self.inside.marks.items c.args.s true ∙ c.self.invariant.each_mark;
  each_slot = c.self.invariant.each_slot;
  within = c.self.invariant.within;
  apart = c.self.invariant.apart;
  made = c.self.invariant.made;
  fits = c.self.invariant.fits;
}

pub returns : goal.returns
returns c =
    let size = c.self.inside.form.size in
    let headers = c.self.inside.headers in
    let marks = c.self.inside.marks.items in
    let slots = c.self.inside.slots.items in
    let cells = c.self.inside.cells.items in
    let seen = c.self.view_is in
    let below =
    seen_below size headers marks slots cells c.args.self.now seen c.args.s c.requires in
    view_marked size headers marks slots cells c.args.s below c.self.invariant.each_mark
    ∙ ap (λ (l : List SectionView).
    set l c.args.s (record (section_in l c.args.s) { marked = true })) seen
