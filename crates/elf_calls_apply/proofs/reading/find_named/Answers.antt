use Rattle.std.proofs.Common.{List, ℕ, subst}
use Rattle.elf_calls_script.specs.declared.calls.Call.TheVariants as call
use Rattle.elf_calls_apply.specs.Applies.{Applies, result_of}
use Rattle.elf_calls_apply.proofs.reading.find_named.Goals as goal

pub returns-clause-meets : goal.returns-clause-meets
returns-clause-meets g c = subst (λ (name : List ℕ). Applies g.S.Source (call.Find c.args.s name) (result_of c.answer_find.result) c.args.elf.now c.answer_find.new.elf) c.as_slice.ensures c.answer_find.ensures.meets
