use Rattle.std.proofs.Common.{◌++◌, ℕ, List, ap, ◌∙◌}
use Rattle.rebuild_model.specs.Split.{loaded_header}
use Rattle.elf_object.specs.Sections.{header_at}
use Rattle.rebuild_join.proofs.RangeLaws.{found_before, out_found}
use Rattle.rebuild_join.proofs.AddLaws.{range_added, range_refused, adds_as}
use Rattle.rebuild_join.proofs.adding.add_loaded.Goals as goal

pub returns-in-Ok : goal.returns-in-Ok
returns-in-Ok g c = λ (more : List ℕ).
    let s = c.args.stripped.now in
    adds_as s.told (s.o.base ++ more) c.loaded_header-joined.result s.o c.args.t.0
    c.args.contents.now c.add.new.self
    (loaded_header c.args.header.now (header_at s.o c.args.t.0)) c.add.result
    (c.loaded_header-joined.ensures
    ∙ ap (loaded_header c.args.header.now) c.section_header.ensures)
    (range_added s.told (s.o.base ++ more) c.loaded_header-joined.result s.o c.args.t.0
    c.args.contents.now c.add.new.self c.in-Ok.range c.add.result
    (found_before s c.args.t.0 c.requires.there c.requires.stripped c.in-Ok.range
    c.in-Ok.ensures more) c.add.ensures.added c.add.ensures.err)

pub returns-in-Err : goal.returns-in-Err
returns-in-Err g c = λ (more : List ℕ).
    let s = c.args.stripped.now in
    range_refused s.told (s.o.base ++ more)
    (loaded_header c.args.header.now (header_at s.o c.args.t.0)) s.o c.args.t.0
    c.args.contents.now c.args.contents.now c.in-Err.e
    (out_found s c.args.t.0 c.requires.there c.requires.stripped (s.o.base ++ more) c.in-Err.e
    c.in-Err.ensures)
