use Rattle.std.proofs.Common.{Option, sym, ap, ◌∙◌}
use Rattle.std.specs.Option.{option_map}
use Rattle.elf_types.specs.declared.records.ScnId.{ScnId}
use Rattle.gelf_view.proofs.IndexTables.{extended_answers, extended_none}
use Rattle.gelf_view.proofs.symbol_calls.extended_index.Goals as goal

pub returns-in-Some-clause-answer : goal.returns-in-Some-clause-answer
returns-in-Some-clause-answer g c =
    extended_answers c.args.elf.now c.args.s.0 c.in-Some.table.0 c.args.i c.word.result (ap (λ (t : Option ScnId). option_map (λ x. x.0) t) (sym c.in-Some.is) ∙ c.requires) c.word.ensures.answer

pub returns-in-None-clause-answer : goal.returns-in-None-clause-answer
returns-in-None-clause-answer g c = extended_none c.args.elf.now.o c.args.s.0 c.args.i (ap (λ (t : Option ScnId). option_map (λ x. x.0) t) (sym c.in-None.is) ∙ c.requires)
