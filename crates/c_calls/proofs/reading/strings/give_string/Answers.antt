use Rattle.std.proofs.Common.{ℕ, List, length, refl}
use Rattle.elf_object.specs.Strings.{strptr_refusals}
use Rattle.c_records.proofs.GivesLemmas.{found_given, found_refused}
use Rattle.c_handles.proofs.objects.ImageLaws.{same_object}
use Rattle.c_calls.proofs.reading.Refused.{text_refused}
use Rattle.c_calls.proofs.reading.strings.give_string.Goals as goal

pub returns-in-Ok-clause-gives : goal.returns-in-Ok-clause-gives
returns-in-Ok-clause-gives c =
    found_given (λ (text : List ℕ). length text) _ c.args.out.now c.args.object.now.elf.told
    c.args.object.now.told _ (strptr_refusals c.args.object.now.elf.o c.args.s.0 c.args.offset)
    c.in-Ok.string.now _ refl c.in-Ok.ensures.answer

pub returns-in-Err-clause-gives : goal.returns-in-Err-clause-gives
returns-in-Err-clause-gives c =
    found_refused (λ (text : List ℕ). length text) _ c.args.out.now c.args.object.now.elf.told
    c.args.object.now.told _ (strptr_refusals c.args.object.now.elf.o c.args.s.0 c.args.offset)
    c.in-Err.e c.code_of.result c.code_of.ensures
    (text_refused c.strptr.result c.in-Err.e c.in-Err.is
    c.strptr.follows.holds-at-none.reads.source.read) c.in-Err.ensures.answer

pub returns-in-Ok-clause-object : goal.returns-in-Ok-clause-object
returns-in-Ok-clause-object c = same_object _ _ _ _ _ (c.strptr.follows.holds-at-none)

pub returns-in-Err-clause-object : goal.returns-in-Err-clause-object
returns-in-Err-clause-object c = same_object _ _ _ _ _ (c.strptr.follows.holds-at-none)
