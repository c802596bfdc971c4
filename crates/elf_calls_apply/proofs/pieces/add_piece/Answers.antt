use Rattle.std.proofs.Common.{Ok, Err, refl, sym, ◌∙◌}
use Rattle.symbol_lookup.specs.elf_object.Calls as calls
use Rattle.elf_xlate.specs.declared.content.Items.TheVariants as items
use Rattle.symbol_lookup.specs.elf_object.Answers.{piece_count}
use Rattle.symbol_lookup.specs.elf_object.Calls.{newdata_refusal}
use Rattle.elf_update_plan.specs.elf_descriptor.Edits.{stepped, numbers_of}
use Rattle.elf_calls_apply.specs.Stated.{stated_call, piece_shown}
use Rattle.elf_calls_apply.proofs.Refusing.{answer_refuses, newdata_refuses}
use Rattle.elf_calls_apply.proofs.Meeting.{edits_meet, dropped_edits}
use Rattle.elf_calls_apply.proofs.pieces.add_piece.Goals as goal

pub returns-in-Ok : goal.returns-in-Ok
unfolding stated_call
returns-in-Ok g c =
    let o = c.args.elf.now.o in
    let put = calls.newdata_aligned c.args.s.0 (items.Bytes c.args.bytes) c.args.align in
    edits_meet g.S.Source piece_shown put _ _ (Ok (c.in-Ok.d.section, c.in-Ok.d.piece)) c.args.elf.now c.newdata_aligned.new.self (stepped put c.args.elf.now)
    (dropped_edits numbers_of c.newdata_aligned.result (Ok c.in-Ok.d) (items.Bytes c.args.bytes) c.args.elf.now c.newdata_aligned.new.self (put.answer o) (stepped put c.args.elf.now) (sym c.refusal_alone.ensures ∙ c.in-Ok.is) c.newdata_aligned.ensures)
    (λ e is. answer_refuses (newdata_refusal o c.args.s.0 (items.Bytes c.args.bytes) c.args.align) (c.args.s.0, piece_count o c.args.s.0) e (newdata_refuses o c.args.s.0 (items.Bytes c.args.bytes) c.args.align) is)
    refl refl refl (λ i. refl) (λ i. refl) refl

pub returns-in-Err : goal.returns-in-Err
unfolding stated_call
returns-in-Err g c =
    let o = c.args.elf.now.o in
    let put = calls.newdata_aligned c.args.s.0 (items.Bytes c.args.bytes) c.args.align in
    edits_meet g.S.Source piece_shown put _ _ (Err c.in-Err.e) c.args.elf.now c.newdata_aligned.new.self (stepped put c.args.elf.now)
    (dropped_edits numbers_of c.newdata_aligned.result (Err c.in-Err.e) (items.Bytes c.args.bytes) c.args.elf.now c.newdata_aligned.new.self (put.answer o) (stepped put c.args.elf.now) (sym c.refusal_alone.ensures ∙ c.in-Err.is) c.newdata_aligned.ensures)
    (λ e is. answer_refuses (newdata_refusal o c.args.s.0 (items.Bytes c.args.bytes) c.args.align) (c.args.s.0, piece_count o c.args.s.0) e (newdata_refuses o c.args.s.0 (items.Bytes c.args.bytes) c.args.align) is)
    refl refl refl (λ i. refl) (λ i. refl) refl
