use Rattle.std.proofs.Common.{Err, subst}
use Rattle.std.specs.Prelude.{IfErr}
use Rattle.elf_descriptor.specs.elf_object.Words.{AnswersRead}
use Rattle.elf_descriptor.specs.elf_object.Strings.{strptr, strptr_refusals}
use Rattle.elf_descriptor.specs.State.{State}
use Rattle.elf_descriptor.specs.Reads.{wanted}
use Rattle.gelf_view.proofs.string_calls.note_and_fetch.Goals as goal

pub returns-clause-begins : goal.returns-clause-begins
returns-clause-begins g c = rw c.note_pieces.ensures at c.fetch_start.ensures.begins

pub returns-clause-answer : goal.returns-clause-answer
returns-clause-answer g c =
    subst (λ (st : State g.row.S.Denot). IfErr c.fetch_start.result
    (λ e. AnswersRead st.told (wanted (strptr c.args.s.0 c.args.offset) st)
    (strptr_refusals st.o c.args.s.0 c.args.offset) (Err e)
    ((strptr c.args.s.0 c.args.offset).answer st.o)))
    c.note_pieces.ensures c.fetch_start.ensures.answer

pub returns-clause-queries : goal.returns-clause-queries
returns-clause-queries g c = rw c.note_pieces.ensures at c.fetch_start.ensures.queries
