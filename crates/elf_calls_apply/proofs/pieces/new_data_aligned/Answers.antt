use Rattle.std.proofs.Common.{ℕ, List, subst, ◌∙◌}
use Rattle.elf_calls_script.specs.declared.calls.Call.TheVariants as call
use Rattle.elf_calls_apply.specs.Applies.{Applies, result_of}
use Rattle.elf_calls_apply.proofs.Meeting.{wants_memory}
use Rattle.elf_calls_apply.proofs.pieces.new_data_aligned.Goals as goal

pub returns-in-Ok : goal.returns-in-Ok
returns-in-Ok g c = subst (λ (b : List ℕ). Applies g.S.Source (call.NewDataAligned c.args.s b c.args.align) (result_of c.add_piece.result) c.args.elf.now c.add_piece.new.elf) (c.in-Ok.ensures.ok ∙ c.as_slice.ensures) c.add_piece.ensures

pub returns-in-Err : goal.returns-in-Err
returns-in-Err g c = rw c.in-Err.ensures.err (wants_memory g.S.Source _ _ _ _ _ c.args.elf.now)
