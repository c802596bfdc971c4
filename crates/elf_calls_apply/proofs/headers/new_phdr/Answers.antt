use Rattle.std.proofs.Common.{refl}
use Rattle.symbol_lookup.specs.elf_object.Calls as calls
use Rattle.symbol_lookup.specs.elf_object.Calls.{newphdr_refusal}
use Rattle.elf_update_plan.specs.elf_descriptor.Edits.{stepped}
use Rattle.elf_calls_apply.specs.Stated.{stated_call, done_shown}
use Rattle.elf_calls_apply.proofs.Refusing.{answer_refuses, newphdr_refuses}
use Rattle.elf_calls_apply.proofs.Meeting.{edits_meet}
use Rattle.elf_calls_apply.proofs.headers.new_phdr.Goals as goal

pub returns : goal.returns
unfolding stated_call
returns g c =
    rw c.done.ensures
    (edits_meet g.S.Source done_shown (calls.newphdr c.args.n) _ _ c.newphdr.result c.args.elf.now c.newphdr.new.self (stepped (calls.newphdr c.args.n) c.args.elf.now) c.newphdr.ensures
    (λ e is. answer_refuses (newphdr_refusal c.args.n) tt e (newphdr_refuses c.args.n) is) refl refl refl (λ i. refl) (λ i. refl) refl)
