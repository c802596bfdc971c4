use Rattle.std.proofs.Common.{◌≡◌, Some, None, sym, ◌∙◌, subst}
use Rattle.section_table.proofs.elf_object.AnswerLaws.{answered_refusal, answered_value}
use Rattle.section_table.specs.elf_object.Answers.{piece_refusal}
use Rattle.elf_descriptor.specs.State.{State}
use Rattle.elf_descriptor.specs.Held.{IsHeld}
use Rattle.elf_descriptor.proofs.Objects.{piece_refusal_is}
use Rattle.elf_descriptor.proofs.Loaded.{held_as}
use Rattle.elf_descriptor.proofs.descriptor.Elf.held.Goals as goal

pub returns-in-Err-clause-refusal : goal.returns-in-Err-clause-refusal
returns-in-Err-clause-refusal g c =
    subst (λ (st : State g.row.S.Denot). Some c.in-Err.e ≡ piece_refusal st.o c.args.d.section c.args.d.piece) c.self.view_is
    (sym (piece_refusal_is _ _ c.self.inside.body c.args.d.section c.args.d.piece ∙ answered_refusal _ _ c.in-Err.e (sym c.in-Err.ensures.answer)))

pub returns-clause-refusal : goal.returns-clause-refusal
returns-clause-refusal g c =
    subst (λ (st : State g.row.S.Denot). None ≡ piece_refusal st.o c.args.d.section c.args.d.piece) c.self.view_is
    (sym (piece_refusal_is _ _ c.self.inside.body c.args.d.section c.args.d.piece ∙ (answered_value _ _ _ (sym c.in_default.ensures.answer)).0))

pub returns-clause-held : goal.returns-clause-held
returns-clause-held g c =
    subst (λ (st : State g.row.S.Denot). IsHeld st c.args.d.section c.args.d.piece c.held_at.result)
    c.self.view_is
    (held_as g.S.Source c.self.inside.src c.self.inside.body c.args.d.section c.args.d.piece
    c.held_at.result c.self.invariant
    c.held_at.ensures.cell c.held_at.ensures.held)
