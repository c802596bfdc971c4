use Rattle.std.proofs.Common.{sym}
use Rattle.hash_model.proofs.elf_object.AnswerLaws.{answered_value, answered_refusal, answers_refused}
use Rattle.hash_model.specs.Listed.{find_linear_answer}
use Rattle.elf_types.specs.declared.records.Kind.TheVariants as kinds
use Rattle.hash_model.specs.elf_object.Answers.{lend_refusal}
use Rattle.symbol_lookup.specs.Lookups.{find_linear}
use Rattle.symbol_lookup.proofs.TopLaws.{linear_answers, linear_looks, refused_looks}
use Rattle.symbol_lookup.proofs.linear.find_linear.Goals as goal

pub first_match-requires-clause-passed : goal.first_match-requires-clause-passed
first_match-requires-clause-passed g c = (answered_value _ _ _ (sym c.in-Ok.ensures.answer)).0

pub first_match-requires-clause-count : goal.first_match-requires-clause-count
first_match-requires-clause-count g c = (answered_value _ _ _ (sym c.in-Ok.ensures.answer)).1

pub returns-in-Ok-clause-answer : goal.returns-in-Ok-clause-answer
returns-in-Ok-clause-answer g c = linear_answers g.S.Source c.args.elf.now c.first_match.new.elf c.args.s.0 c.args.name.now c.first_match.result (answered_value _ _ _ (sym c.in-Ok.ensures.answer)).0 c.first_match.ensures.follows c.first_match.ensures.searches

pub returns-in-Ok-clause-looks : goal.returns-in-Ok-clause-looks
returns-in-Ok-clause-looks g c = linear_looks g.S.Source c.args.elf.now c.first_match.new.elf c.args.s.0 c.args.name.now c.first_match.result (answered_value _ _ _ (sym c.in-Ok.ensures.answer)).0 c.first_match.ensures.searches

pub returns-in-Err-clause-answer : goal.returns-in-Err-clause-answer
unfolding find_linear_answer
returns-in-Err-clause-answer g c = answers_refused c.args.elf.now.told _ (lend_refusal c.args.elf.now.o kinds.Sym c.args.s.0 0) _ c.in-Err.e c.in-Err.ensures.err (answered_refusal _ _ c.in-Err.e (sym c.in-Err.ensures.answer))

pub returns-in-Err-clause-looks : goal.returns-in-Err-clause-looks
returns-in-Err-clause-looks g c = refused_looks g.S.Source (find_linear c.args.s.0 c.args.name.now) c.args.elf.now c.in-Err.e c.in-Err.ensures.err
