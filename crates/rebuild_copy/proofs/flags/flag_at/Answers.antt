use Rattle.std.proofs.Common.{ℕ}
use Rattle.elf_object.specs.Object.{Object}
use Rattle.elf_object.specs.Calls as calls
use Rattle.elf_object.specs.Sections.{header_at, edited}
use Rattle.rebuild_model.specs.Copied.{or_strip, with_bits, flags_fault}
use Rattle.rebuild_copy.specs.Steps.{always_holds}
use Rattle.rebuild_copy.proofs.FindLaws.{fault_alters, unfaulted_alters}
use Rattle.rebuild_copy.proofs.flags.flag_at.Goals as goal

pub returns-in-None : goal.returns-in-None
returns-in-None c =
    let x = c.args.change.now in
    unfaulted_alters c.args.s (λ (p : Object). flags_fault p c.args.s x.name x.bits)
    (λ (p : Object) (n : ℕ). or_strip (edited (calls.update_shdr n (with_bits x.bits
    (header_at p n))) p))
    c.args.x.now c.put_flags.new.x always_holds c.put_flags.result c.in-None.ensures.fault
    (λ p none. tt) c.put_flags.ensures

pub returns-in-Some : goal.returns-in-Some
returns-in-Some c =
    let x = c.args.change.now in
    fault_alters c.args.s (λ (p : Object). flags_fault p c.args.s x.name x.bits)
    (λ (p : Object) (n : ℕ). or_strip (edited (calls.update_shdr n (with_bits x.bits
    (header_at p n))) p))
    c.args.x.now c.args.x.now c.in-Some.fault c.in-Some.ensures.fault c.in-Some.ensures.unread
