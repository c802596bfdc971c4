-- One section that is made: what is refused and what is read.
use Rattle.std.proofs.Common.{◌≡◌, ℕ, ◌<◌, true, List, length, Option, None, Result, Ok, Err, refl, sym, subst}
use Rattle.std.specs.Prelude.{IfErr, OnOk}
use Rattle.elf_types.specs.declared.constants.TheConstants.{MAX_SECTIONS}
use Rattle.elf_types.specs.declared.records.Class.{Class}
use Rattle.elf_types.specs.declared.records.Shdr.{Shdr}
use Rattle.elf_types.specs.declared.errors.ElfError.{ElfError}
use Rattle.elf_types.specs.declared.errors.ElfError.TheVariants.{Memory}
use Rattle.rebuild_model.specs.elf_outside.declared.sources.Source.{Ghosts}
use Rattle.rebuild_model.specs.elf_xlate.declared.content.Items.{Items}
use Rattle.rebuild_model.specs.elf_xlate.Headers.{shdr_fits}
use Rattle.rebuild_model.specs.elf_xlate.Translation.{first_unfit}
use Rattle.rebuild_model.specs.elf_object.Object.{Object}
use Rattle.elf_update_plan.specs.elf_descriptor.State.{State}
use Rattle.elf_update_plan.specs.elf_descriptor.Reads.{Looks}
use Rattle.rebuild_making.specs.Refused.{RefusedBy, UnreadBy}
use Rattle.rebuild_making.specs.Made.{added_refusal}
use Rattle.rebuild_making.specs.Making.{reading_homes}
use Rattle.rebuild_making.proofs.RefusedLaws.{only_memory, unread_memory}
use Rattle.rebuild_making.proofs.AddLaws.{none_refuses}
use Rattle.rebuild_making.proofs.LookLaws.{looks_at, looks_as, at_value, at_error}

-- a section that fits is refused for want of memory alone
pub refused_memory : {A : Type 0} (r : Result A ElfError) (o p : Object) (h : Shdr)
    (items : Items) → length o.sections < MAX_SECTIONS → o.header.class ≡ p.header.class
    → shdr_fits p.header.class h ≡ true → first_unfit p.header.class items ≡ None
    → IfErr r (RefusedBy (added_refusal o h items)) → IfErr r (λ e. e ≡ Memory)
refused_memory (Ok x) o p h items room class fits each by = tt
refused_memory (Err e) o p h items room class fits each by =
    only_memory (added_refusal o h items) e
    (none_refuses o h items room
    (subst (λ (c : Class). shdr_fits c h ≡ true) (sym class) fits)
    (subst (λ (c : Class). first_unfit c items ≡ None) (sym class) each)) by

pub memory_unread : {A : Type 0} (r : Result A ElfError) (stated : Option ElfError)
    → IfErr r (λ e. e ≡ Memory) → IfErr r (UnreadBy stated)
memory_unread (Ok x) stated only = tt
memory_unread (Err e) stated only = unread_memory stated e only

pub passes_on : {A : Type 0} (r : Result A ElfError) (P : Type 0) → P → OnOk r P
passes_on (Ok x) P is = is
passes_on (Err e) P is = tt

pub read_then_memory : {S T U : Type 0} (g : Ghosts S) (x : T) (q : Result U ElfError) (old new : State S)
    (reads : Object → List ℕ) → IfErr q (λ e. e ≡ Memory)
    → Looks g (reading_homes reads) (Ok x) old new → Looks g (reading_homes reads) q old new
read_then_memory g x q old new reads only is =
    looks_as g q old new reads (reads old.o) refl
    (at_value g x q old new (reads old.o) only (looks_at g (Ok x) old new reads is))

pub one_unread : {S T U : Type 0} (g : Ghosts S) (e : ElfError) (old new : State S)
    (reads : Object → List ℕ) → Looks {T = T} g (reading_homes reads) (Err e) old new
    → Looks {T = U} g (reading_homes reads) (Err e) old new
one_unread {S} {T} {U} g e old new reads is =
    let r : Result T ElfError = Err e in
    let q : Result U ElfError = Err e in
    looks_as g q old new reads (reads old.o) refl
    (at_error g e old new (reads old.o) (looks_at g r old new reads is))
