use Rattle.std.proofs.Common.{Option, [], ◌∷◌, sym, ap, ◌∙◌}
use Rattle.std.proofs.lemmas.Result.{IfErr-weaker}
use Rattle.elf_types.specs.declared.records.Kind.TheVariants as kinds
use Rattle.elf_types.specs.declared.errors.ElfError.{ElfError}
use Rattle.elf_types.specs.Answers.{first_refusal}
use Rattle.hash_model.proofs.elf_object.AnswerLaws.{lend_passed, answered_value, answered_refusal}
use Rattle.symbol_lookup.specs.Lookups.{linked_refusal, sysv_refusal}
use Rattle.symbol_lookup.proofs.lookups.table_of_words.Goals as goal

pub table_of-requires : goal.table_of-requires
table_of-requires g c = (lend_passed c.args.elf.now.o kinds.Word c.args.h.0 0 (answered_value _ _ _ (sym c.in-Ok.ensures.answer)).0).0

pub returns-in-Ok-clause-refused : goal.returns-in-Ok-clause-refused
unfolding sysv_refusal
returns-in-Ok-clause-refused g c =
    let passed = (answered_value _ _ _ (sym c.in-Ok.ensures.answer)).0 in
    IfErr-weaker c.table_of.result _ _
    (λ e refused.
    ap (λ (r : Option ElfError). first_refusal (r ∷ linked_refusal c.args.elf.now.o c.args.h.0 ∷ [])) passed
    ∙ ap (λ (r : Option ElfError). first_refusal (r ∷ [])) refused)
    c.table_of.ensures.refused

pub returns-in-Err-clause-refused : goal.returns-in-Err-clause-refused
unfolding sysv_refusal
returns-in-Err-clause-refused g c = ap (λ (r : Option ElfError). first_refusal (r ∷ linked_refusal c.args.elf.now.o c.args.h.0 ∷ [])) (answered_refusal _ _ c.in-Err.e (sym c.in-Err.ensures.answer))
