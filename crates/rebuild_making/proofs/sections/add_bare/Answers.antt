use Rattle.rebuild_model.specs.elf_object.Calls.{newscn_refusal}
use Rattle.rebuild_model.specs.elf_object.Steps.{new_number}
use Rattle.rebuild_making.proofs.RefusedLaws.{edits_refused}
use Rattle.rebuild_making.proofs.AddLaws.{newscn_states, bare_first, bare_number, bare_made, bare_passed, bare_refused}
use Rattle.rebuild_making.proofs.sections.add_bare.Goals as goal

pub returns-in-Err-clause-err : goal.returns-in-Err-clause-err
returns-in-Err-clause-err g c =
    let o = c.args.elf.now.o in
    bare_first o c.args.h.now c.in-Err.e
    (edits_refused (newscn_refusal o) (new_number o) c.args.elf.now c.newscn.new.self _ c.in-Err.e
    (newscn_states o) c.in-Err.ensures)

pub returns-in-Err-update_shdr-clause-err : goal.returns-in-Err-update_shdr-clause-err
returns-in-Err-update_shdr-clause-err g c =
    bare_refused c.args.elf.now c.newscn.new.self c.update_shdr.new.self c.args.h.now c.in-Ok.s.0
    c.requires c.in-Ok.ensures.0 c.in-Ok.ensures.1 c.in-Err-update_shdr.e
    c.in-Err-update_shdr.ensures.answer

pub returns-clause-number : goal.returns-clause-number
returns-clause-number g c =
    bare_number c.args.elf.now c.newscn.new.self c.update_shdr.new.self c.args.h.now c.in-Ok.s.0
    c.requires c.in-Ok.ensures.0 c.in-Ok.ensures.1

pub returns-clause-made : goal.returns-clause-made
returns-clause-made g c =
    bare_made c.args.elf.now c.newscn.new.self c.update_shdr.new.self c.args.h.now c.in-Ok.s.0
    c.requires c.in-Ok.ensures.0 c.in-Ok.ensures.1 c.in_default.ensures.state

pub returns-clause-passed : goal.returns-clause-passed
returns-clause-passed g c =
    bare_passed c.args.elf.now c.newscn.new.self c.update_shdr.new.self c.args.h.now c.in-Ok.s.0
    c.requires c.in-Ok.ensures.0 c.in-Ok.ensures.1 c.in_default.ensures.answer
