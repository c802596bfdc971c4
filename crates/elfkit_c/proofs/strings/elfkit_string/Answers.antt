use Rattle.std.proofs.Common.{subst, ◌∙◌}
use Rattle.elf_object.specs.Strings as strings
use Rattle.elf_descriptor.specs.Reads.{wanted}
use Rattle.c_handles.specs.declared.objects.opened.OpenObject.{OpenObject}
use Rattle.c_records.specs.Gives.{GivesRead}
use Rattle.std.proofs.Common.{ℕ, List, length}
use Rattle.elfkit_c.proofs.HandleLaws.{holds}
use Rattle.elfkit_c.proofs.strings.elfkit_string.Goals as goal

pub returns-clause-gives : goal.returns-clause-gives
returns-clause-gives c =
    let call = strings.strptr c.args.section c.args.offset in
    subst (λ (x : OpenObject). GivesRead (λ (text : List ℕ). length text) (wanted call x.elf)
    (call.answer x.elf.o) c.give_string-number.result c.args.out.now c.give_string-number.new.out)
    (c.as_mut.ensures.value ∙ c.take-object.ensures.object) c.give_string-number.ensures.gives

pub returns-clause-holds : goal.returns-clause-holds
returns-clause-holds c =
    holds c.args.h.now c.put.new.self c.as_mut.result.now c.give_string-number.new.object
    (c.as_mut.ensures.value ∙ c.take-object.ensures.object) c.give_string-number.ensures.object
    c.put.ensures
