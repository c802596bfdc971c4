-- The object that ELF_F_LAYOUT and an update of the header leave.
use Rattle.std.proofs.Common.{◌≡◌, ℕ, true, Result, Ok, Err, OnOk, refl, ap, ◌∙◌}
use Rattle.elf_types.specs.declared.records.TheConstants.{LAYOUT}
use Rattle.elf_types.specs.declared.records.Ehdr.{Ehdr}
use Rattle.elf_types.specs.declared.records.Part.TheVariants as part
use Rattle.elf_types.specs.declared.errors.ElfError.{ElfError}
use Rattle.elf_update.specs.elf_object.Object.{Object, header_of}
use Rattle.elf_update.specs.elf_object.Steps.{stored_ehdr, with_ehdr, with_flags}
use Rattle.elf_update.specs.elf_object.Calls as calls
use Rattle.elf_descriptor.specs.State.{State}
use Rattle.elf_descriptor.specs.Edits.{StepsTo, stepped, flagged}
use Rattle.example_set_entry.specs.Entries.{with_entry}

ok_is : {T : Type 0} (a b : T) → ◌≡◌ {A = Result T ElfError} (Ok a) (Ok b) → a ≡ b
ok_is a b h = cc

stored_is : (entry : ℕ) (o : Object)
    → with_ehdr (with_flags o part.Object true LAYOUT)
    (record (header_of (with_flags o part.Object true LAYOUT)) { entry = entry })
    ≡ with_entry entry o
unfolding with_ehdr stored_ehdr with_flags header_of
stored_is entry o = refl

pub entry_stored : {S : Type 0} (result : Result (Unit {0}) ElfError) (old mid new : State S)
    (header : Ehdr) (entry : ℕ)
    → mid ≡ flagged (calls.flag part.Object true LAYOUT) old
    → ◌≡◌ {A = Result Ehdr ElfError} (Ok header) (calls.ehdr.answer mid.o)
    → StepsTo result mid new (stepped (calls.update_ehdr (record header { entry = entry })) mid)
    → OnOk result (new.o ≡ with_entry entry old.o)
entry_stored {S = S} (Ok u) old mid new header entry flag_is header_is new_is =
    ap (λ (s : State S). s.o) new_is
    ∙ ap (λ (h : Ehdr). with_ehdr mid.o (record h { entry = entry }))
    (ok_is header (header_of mid.o) header_is)
    ∙ ap (λ (s : State S). with_ehdr s.o (record (header_of s.o) { entry = entry })) flag_is
    ∙ stored_is entry old.o
entry_stored {S = S} (Err e) old mid new header entry flag_is header_is new_is = tt
