use Rattle.std.proofs.Common.{ℕ, List, subst}
use Rattle.elf_xlate.specs.declared.content.Items.TheVariants as items
use Rattle.elf_object.specs.Calls as calls
use Rattle.elf_descriptor.specs.Edits.{stepped}
use Rattle.c_calls.specs.Editing.Edited.{MakesPiece}
use Rattle.c_calls.proofs.editing.EditLemmas.{wanting}
use Rattle.c_calls.proofs.editing.pieces.add_bytes.Goals as goal

pub returns-in-Ok : goal.returns-in-Ok
returns-in-Ok c =
    subst (λ (b : List ℕ). MakesPiece c.args.s.0 b c.args.align c.add_own.result
    c.args.object.now.elf c.add_own.new.object.elf c.args.out.now c.add_own.new.out)
    c.in-Ok.ensures.ok c.add_own.ensures

pub returns-in-Err : goal.returns-in-Err
returns-in-Err c =
    let old = c.args.object.now.elf in
    let call = calls.newdata_aligned c.args.s.0 (items.Bytes c.args.bytes.now) c.args.align in
    wanting (λ (d : ℕ × ℕ). (d.1, stepped call old)) (Unit {0}) (call.answer old.o) c.in-Err.e
    c.code_of.result (c.args.out.now, old) tt c.in-Err.ensures.err c.code_of.ensures
