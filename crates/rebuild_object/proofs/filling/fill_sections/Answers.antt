use Rattle.std.proofs.Common.{◌≡◌, true, false, length, sym, ap, ◌∙◌}
use Rattle.std.proofs.lemmas.Bool.{eqb-true, eq-eqb}
use Rattle.elf_object.specs.Object.{Object}
use Rattle.rebuild_plan.proofs.rebuild_keep.FillLaws.{null_made, null_told, null_class}
use Rattle.rebuild_object.proofs.FillLaws.{none_planned, all_planned}
use Rattle.rebuild_object.proofs.filling.fill_sections.Goals as goal

pub returns-then-is_empty-clause-sections : goal.returns-then-is_empty-clause-sections
returns-then-is_empty-clause-sections g c =
    none_planned c.args.elf.now.told c.args.elf.now.o c.args.x.now c.args.made.now
    (eqb-true (length c.args.x.now.listed.headers) 0
    (sym c.is_empty.ensures ∙ c.if-is_empty.true)) c.requires.empty c.requires.count

pub add_sections-requires-clause-first : goal.add_sections-requires-clause-first
add_sections-requires-clause-first g c =
    ap (λ (o : Object). length o.sections)
    (null_made c.args.made.now c.newnull.new.self c.requires.empty c.in_default.ensures.answer.1)

pub add_sections-requires-clause-class : goal.add_sections-requires-clause-class
add_sections-requires-clause-class g c =
    null_class c.args.made.now c.newnull.new.self c.requires.empty c.in_default.ensures.answer.1
    ∙ c.requires.class

pub returns-clause-sections : goal.returns-clause-sections
returns-clause-sections g c =
    all_planned c.add_sections.result c.args.elf.now.told c.args.elf.now.o c.args.x.now
    c.args.made.now c.newnull.new.self c.add_sections.new.made
    (λ none.
    let yes = eq-eqb (length c.args.x.now.listed.headers) 0 none in
    let clash = sym c.is_empty.ensures ∙ c.if-is_empty.false in
    let never : true ≡ false = sym yes ∙ clash in cc)
    (null_made c.args.made.now c.newnull.new.self c.requires.empty c.in_default.ensures.answer.1)
    (null_told c.args.made.now c.newnull.new.self c.requires.empty c.in_default.ensures.answer.1)
    c.add_sections.ensures.adds
