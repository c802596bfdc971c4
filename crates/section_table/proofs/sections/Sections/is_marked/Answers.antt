use Rattle.std.proofs.Common.{false, ◌∙◌, arith}
use Rattle.std.proofs.lemmas.List.{get_or_read}
use Rattle.section_table.proofs.Views.{seen_below, seen_marked}
use Rattle.section_table.proofs.sections.Sections.is_marked.Goals as goal

pub index-requires : goal.index-requires
index-requires c =
    let inside = c.self.inside in
    let below =
    seen_below inside.form.size inside.headers inside.marks.items inside.slots.items
    inside.cells.items c.args.self.now c.self.view_is c.args.s c.requires in
    let count = c.self.invariant.each_mark in
    let long = inside.marks.ok.0 in
    omega (arith, below, count, long)

pub returns : goal.returns
returns c =
    let size = c.self.inside.form.size in
    let headers = c.self.inside.headers in
    let marks = c.self.inside.marks.items in
    let slots = c.self.inside.slots.items in
    let cells = c.self.inside.cells.items in
    let seen = c.self.view_is in
    let below =
    seen_below size headers marks slots cells c.args.self.now seen c.args.s c.requires in
    let count = c.self.invariant.each_mark in
    get_or_read marks c.args.s c.index.result.now (omega (arith, below, count)) c.index.ensures
    false
    ∙ seen_marked size headers marks slots cells c.args.self.now seen c.args.s c.requires
