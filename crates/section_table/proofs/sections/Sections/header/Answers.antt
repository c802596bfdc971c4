use Rattle.std.proofs.Common.{◌∙◌}
use Rattle.section_table.proofs.Views.{seen_below, seen_header}
use Rattle.section_table.proofs.sections.Sections.header.Goals as goal

pub at-requires : goal.at-requires
at-requires c =
    let inside = c.self.inside in
    seen_below inside.form.size inside.headers inside.marks.items inside.slots.items
    inside.cells.items c.args.self.now c.self.view_is c.args.s c.requires

pub returns : goal.returns
returns c =
    let inside = c.self.inside in
    c.at.ensures
    ∙ seen_header inside.form.size inside.headers inside.marks.items inside.slots.items
    inside.cells.items c.args.self.now c.self.view_is c.args.s c.requires
