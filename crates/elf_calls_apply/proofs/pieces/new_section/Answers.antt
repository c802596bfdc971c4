use Rattle.std.proofs.Common.{Ok, Err, refl}
use Rattle.symbol_lookup.specs.elf_object.Calls as calls
use Rattle.symbol_lookup.specs.elf_object.Calls.{newscn_refusal}
use Rattle.symbol_lookup.specs.elf_object.Steps.{new_number}
use Rattle.elf_update_plan.specs.elf_descriptor.Edits.{grown}
use Rattle.elf_update_plan.proofs.elf_descriptor.EditSections.{none_more}
use Rattle.elf_calls_apply.specs.Stated.{stated_call}
use Rattle.elf_calls_apply.specs.declared.answers.Answer.TheVariants as answer
use Rattle.elf_calls_apply.proofs.Refusing.{answer_refuses, newscn_refuses}
use Rattle.elf_calls_apply.proofs.Meeting.{edits_meet, none_due}
use Rattle.elf_calls_apply.proofs.pieces.new_section.Goals as goal

pub returns-in-Ok : goal.returns-in-Ok
unfolding stated_call
returns-in-Ok g c =
    let o = c.args.elf.now.o in
    edits_meet g.S.Source answer.Section calls.newscn _ _ (Ok c.in-Ok.s.0) c.args.elf.now c.newscn.new.self (grown calls.newscn c.args.elf.now) c.in-Ok.ensures
    (λ e is. answer_refuses (newscn_refusal o) (new_number o) e (newscn_refuses o) is) refl refl refl (λ i. none_more _ _ i) (λ i. none_more _ _ i) (none_due _ _ _)

pub returns-in-Err : goal.returns-in-Err
unfolding stated_call
returns-in-Err g c =
    let o = c.args.elf.now.o in
    edits_meet g.S.Source answer.Section calls.newscn _ _ (Err c.in-Err.e) c.args.elf.now c.newscn.new.self (grown calls.newscn c.args.elf.now) c.in-Err.ensures
    (λ e is. answer_refuses (newscn_refusal o) (new_number o) e (newscn_refuses o) is) refl refl refl (λ i. none_more _ _ i) (λ i. none_more _ _ i) (none_due _ _ _)
