use Rattle.std.proofs.Common.{◌≡◌, ℕ, true}
use Rattle.elf_xlate.specs.declared.content.Items.TheVariants as items
use Rattle.elf_object.specs.Object.{Object, occupies_file}
use Rattle.elf_object.specs.Calls as calls
use Rattle.elf_object.specs.Sections.{header_at, edited}
use Rattle.rebuild_model.specs.Copied.{or_strip, update_fault}
use Rattle.rebuild_copy.proofs.FindLaws.{fault_alters, unfaulted_alters}
use Rattle.rebuild_copy.proofs.UpdateLaws.{filled_known}
use Rattle.rebuild_copy.proofs.updating.update_at.Goals as goal

pub returns-in-None : goal.returns-in-None
returns-in-None c =
    let x = c.args.change.now in
    unfaulted_alters c.args.s (λ (p : Object). update_fault p c.args.s x.name x.bytes)
    (λ (p : Object) (n : ℕ). or_strip (edited (calls.replace n 0 (items.Bytes x.bytes)) p))
    c.args.x.now c.put_update.new.x (λ p. occupies_file (header_at p c.args.s) ≡ true)
    c.put_update.result c.in-None.ensures.fault
    (λ p none. filled_known p c.args.s x.name x.bytes none) c.put_update.ensures

pub returns-in-Some : goal.returns-in-Some
returns-in-Some c =
    let x = c.args.change.now in
    fault_alters c.args.s (λ (p : Object). update_fault p c.args.s x.name x.bytes)
    (λ (p : Object) (n : ℕ). or_strip (edited (calls.replace n 0 (items.Bytes x.bytes)) p))
    c.args.x.now c.args.x.now c.in-Some.fault c.in-Some.ensures.fault c.in-Some.ensures.unread
