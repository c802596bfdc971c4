use Rattle.std.proofs.Common.{ap, ◌∙◌}
use Rattle.elf_types.specs.declared.records.Class.{Class}
use Rattle.elf_types.specs.declared.records.Order.{Order}
use Rattle.elf_object.specs.Calls as calls
use Rattle.tool_files.specs.elf_descriptor.Reads.{wanted}
use Rattle.elf_object.specs.Answers.{bytes_of}
use Rattle.rebuild_model.specs.Rehashed.{shape_of}
use Rattle.hash_build.specs.declared.shape.GnuShape.{GnuShape}
use Rattle.hash_build.specs.Calls.{stated}
use Rattle.rehash_tool.proofs.CallLemmas.{items_given, items_refused}
use Rattle.rehash_tool.proofs.steps.kept_shape.Goals as goal

pub returns-in-Ok-clause-gives : goal.returns-in-Ok-clause-gives
returns-in-Ok-clause-gives g c =
    let o = c.args.elf.now.o in
    let bytes = bytes_of c.in-Ok.items.now in
    items_given g.S.Source stated
    (λ l. shape_of o.header.class o.header.order (bytes_of l)) c.args.n c.args.elf.now _
    (wanted (calls.section_data c.args.n 0) c.args.elf.now) c.data.result c.in-Ok.items
    c.in-Ok.items.now c.shape_of.result c.in-Ok.is
    c.in-Ok.ensures.answer
    (c.shape_of.ensures.value
    ∙ ap (λ (x : Class). shape_of x c.form_of-class.result.1 bytes) c.form_of-class.ensures.class
    ∙ ap (λ (x : Order). shape_of o.header.class x bytes) c.form_of-class.ensures.order)
    c.data.follows.holds-at-none

pub returns-in-Err-clause-gives : goal.returns-in-Err-clause-gives
returns-in-Err-clause-gives g c =
    let o = c.args.elf.now.o in
    items_refused g.S.Source {U = GnuShape} stated
    (λ l. shape_of o.header.class o.header.order (bytes_of l)) c.args.n c.args.elf.now _
    (wanted (calls.section_data c.args.n 0) c.args.elf.now) c.data.result c.in-Err.e c.in-Err.is
    c.in-Err.ensures.answer c.data.follows.holds-at-none
