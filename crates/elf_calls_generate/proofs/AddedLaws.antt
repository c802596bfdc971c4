-- A section that is added to an object of class 64: nothing refuses it.
use Rattle.std.proofs.Common.{◌≡◌, ◌<◌, ◌^◌, List, [], ◌∷◌, ◌++◌, length, Option, Some, None, Result, Ok, Err, OnOk, IfErr, refl, sym, ap, ◌∙◌}
use Rattle.elf_types.specs.declared.records.Shdr.{Shdr}
use Rattle.elf_types.specs.declared.errors.ElfError.{ElfError}
use Rattle.elf_types.specs.declared.errors.ElfError.TheVariants.{Memory, Read, Write}
use Rattle.elf_xlate.specs.declared.content.Items.{Items}
use Rattle.elf_xlate.specs.Headers.{shdr_fits}
use Rattle.elf_xlate.proofs.Broad.{none_unfit}
use Rattle.elf_object.specs.Object.{Object, Section}
use Rattle.elf_object.specs.Open.{created_over}
use Rattle.elf_descriptor.specs.State.{State}
use Rattle.rebuild_making.specs.Refused.{RefusedBy}
use Rattle.rebuild_making.specs.Made.{with_last, grown_to, added_refusal}
use Rattle.rebuild_making.proofs.AddLaws.{none_refuses}
use Rattle.elf_calls_generate.specs.Stages.{StandsFor, staged}

-- all that may come is want of memory
wants_alone : (r : Option ElfError) (e : ElfError) → r ≡ None → RefusedBy r e → e ≡ Memory
wants_alone r Memory passes by = refl
wants_alone r Read passes by = absurd by
wants_alone r Write passes by = absurd by
wants_alone r e passes by =
    let never : ◌≡◌ {A = Option ElfError} None (Some e) = sym passes ∙ by in cc

added_passes : (sections : List Section) (h : Shdr) (items : Items) → length sections < 2 ^ 20
    → added_refusal (staged sections) h items ≡ None
unfolding created_over shdr_fits
added_passes sections h items few =
    none_refuses (staged sections) h items few refl (none_unfit items)

module _ {S : Type 0} where
  pub added_made : {T : Type 0} (r : Result T ElfError) (old new : State S)
      (sections : List Section) (c : Section) → StandsFor (staged sections) old
      → OnOk r (new ≡ grown_to old (with_last old.o c))
      → OnOk r (StandsFor (staged (sections ++ c ∷ [])) new)
  added_made (Ok x) old new sections c at h = record {
    object = ap (λ (s : State S). s.o) h ∙ ap (λ (o : Object). with_last o c) at.object;
    told = ap (λ (s : State S). s.told) h ∙ at.told;
  }
  added_made (Err e) old new sections c at h = tt

  pub added_wants : {T : Type 0} (r : Result T ElfError) (old : State S) (sections : List Section)
      (h : Shdr) (items : Items) → StandsFor (staged sections) old → length sections < 2 ^ 20
      → IfErr r (RefusedBy (added_refusal old.o h items)) → IfErr r (λ e. e ≡ Memory)
  added_wants (Ok x) old sections h items at few by = tt
  added_wants (Err e) old sections h items at few by =
      wants_alone (added_refusal old.o h items) e
      (ap (λ (o : Object). added_refusal o h items) at.object
      ∙ added_passes sections h items few) by
