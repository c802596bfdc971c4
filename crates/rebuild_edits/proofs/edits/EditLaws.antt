-- Edits, as steps of copy.
use Rattle.std.proofs.Common.{◌≡◌, ℕ, Result, Ok, refl, sym, ap, ◌∙◌, arith}
use Rattle.elf_types.specs.declared.records.Shdr.{Shdr}
use Rattle.elf_types.specs.declared.errors.ElfError.{ElfError}
use Rattle.elf_types.specs.Answers.{◌>>=◌}
use Rattle.rebuild_names.specs.elf_xlate.declared.content.Items.{Items}
use Rattle.law_rebuild.specs.elf_object.Object.{Object, Section}
use Rattle.law_rebuild.specs.elf_object.Steps.{with_section, with_piece_at, with_own, with_shdr}
use Rattle.law_rebuild.specs.elf_object.Calls.{Call}
use Rattle.law_rebuild.proofs.elf_object.StepLaws.{section_count-with_section}
use Rattle.rebuild_making.specs.elf_descriptor.State.{State}
use Rattle.law_rebuild.specs.elf_object.Sections.{edited}
use Rattle.rebuild_changes.specs.rebuild_model.Copied.{or_strip}
use Rattle.rebuild_edits.specs.Edits.Steps.{KeepsIndex, Alters}
use Rattle.rebuild_edits.proofs.edits.StepLaws.{keeps_as}

-- ---- The string index stays

keeps_section : (o : Object) (s : ℕ) (c : Section) → KeepsIndex o (with_section o s c)
unfolding with_section
keeps_section o s c =
    let count = section_count-with_section o s c in
    record { index = refl; count = omega (arith, count) }

pub keeps_own : (o : Object) (s p : ℕ) (items : Items) → KeepsIndex o (with_own o s p items)
unfolding with_own with_piece_at
keeps_own o s p items = keeps_section o s _

pub keeps_header : (o : Object) (s : ℕ) (h : Shdr) → KeepsIndex o (with_shdr o s h)
unfolding with_shdr
keeps_header o s h = keeps_section o s _

-- ---- An edit that is done

pub edit_done : {S A T : Type 0} (call : Call A) (old new : State S) (x : A) (y : T)
    → call.answer old.o ≡ Ok x → new.o ≡ call.after old.o → new.told ≡ old.told
    → KeepsIndex old.o (call.after old.o)
    → Alters (or_strip (edited call old.o)) (Ok y) old new
edit_done {S} {A} call old new x y is object told keeps = record {
  told = told;
  keeps = keeps_as old.o (call.after old.o) new.o object keeps;
  unread = tt;
  altered = λ t.
      ap (λ (r : Result A ElfError). or_strip (r >>= λ z. Ok (call.after old.o))) is
      ∙ ap (λ (o : Object). Ok o) (sym object);
}
