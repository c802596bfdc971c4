-- Edits that may want memory.
use Rattle.std.proofs.Common.{◌≡◌, ℕ, true, false, List, Option, Result, Ok, Err, refl, sym, ap, ◌∙◌, subst}
use Rattle.std.specs.Prelude.{OnOk, OnErr, IfOk, IfErr}
use Rattle.std.proofs.Math.ListN.{replicate}
use Rattle.std.proofs.lemmas.List.{length-replicate}
use Rattle.elf_types.specs.declared.records.Phdr.{Phdr}
use Rattle.elf_types.specs.declared.errors.ElfError.{ElfError}
use Rattle.elf_types.specs.declared.errors.ElfError.TheVariants.{Memory}
use Rattle.elf_types.specs.Answers.{answered, IsRefusal}
use Rattle.section_table.specs.elf_outside.declared.sources.Source.{Ghosts}
use Rattle.section_table.specs.elf_object.Object.{no_phdr}
use Rattle.section_table.specs.elf_object.Steps.{with_phdrs, with_new_phdrs}
use Rattle.section_table.specs.elf_object.Words.{Edits}
use Rattle.section_table.specs.elf_object.Calls.{Call}
use Rattle.section_table.proofs.elf_object.AnswerLaws.{answered_refusal, answered_value, edited, edit_refused, edit_wants}
use Rattle.elf_descriptor.specs.declared.body.Body.{Body}
use Rattle.elf_descriptor.specs.Views.{object_of, state_of, ready_of}
use Rattle.elf_descriptor.specs.Edits.{IsStepped, homes_of, stepped}
use Rattle.elf_descriptor.proofs.EditLaws.{state_stepped}
use Rattle.elf_descriptor.proofs.EditPieces.{same_stepped}

-- ---- The answer alone

-- a refusal that is met
pub refused_alone : {A B : Type 0} (refusal : Option ElfError) (v : B) (w : A) (e : ElfError) → IsRefusal e → Err e ≡ answered refusal v → Edits (Err e) (tt {0}) (tt {0}) (answered refusal w) (tt {0})
refused_alone refusal v w e is met = edit_refused (tt {0}) (tt {0}) refusal w e is (answered_refusal refusal v e (sym met))

-- what is not refused is done, or wants memory
pub done_alone : {A B : Type 0} (refusal : Option ElfError) (v x : A) (w : B) (r : Result B ElfError) → Ok x ≡ answered refusal v → IfOk r (λ y. y ≡ w) → IfErr r (λ e. e ≡ Memory)
    → Edits r (tt {0}) (tt {0}) (answered refusal w) (tt {0})
done_alone refusal v x w (Ok y) passed value memory =
    subst (λ z. Edits (Ok z) (tt {0}) (tt {0}) (answered refusal w) (tt {0})) (sym value) (edited (tt {0}) (tt {0}) refusal w (answered_value refusal v x (sym passed)).0)
done_alone refusal v x w (Err e) passed value memory =
    subst (λ (d : ElfError). Edits (Err d) (tt {0}) (tt {0}) (answered refusal w) (tt {0})) (sym memory) (edit_wants (tt {0}) (tt {0}) refusal w (answered_value refusal v x (sym passed)).0)

pub done_unit : (r : Result (Unit {0}) ElfError) → IfOk r (λ y. y ≡ tt {0})
done_unit (Ok x) = refl
done_unit (Err e) = tt

-- an Ok is stated
pub edits_stated : {A : Type 0} (r stated : Result A ElfError) → Edits r (tt {0}) (tt {0}) stated (tt {0}) → IfOk r (λ x. stated ≡ Ok x)
edits_stated (Ok x) stated is = is.0
edits_stated (Err e) stated is = tt

pub edits_left : {A S : Type 0} (e : ElfError) (old new stepped : S) (stated : Result A ElfError) → Edits (Err e) (tt {0}) (tt {0}) stated (tt {0}) → new ≡ old → Edits (Err e) old new stated stepped
edits_left Memory old new stepped stated is same = (is.0, same)
edits_left e old new stepped stated is same = (is.0, same)

-- ---- The state

module _ {S : Type 0} (g : Ghosts S) (source : S) where
  pub edits_to : {A : Type 0} (c : Call A) (r : Result A ElfError) (old new : Body) → Edits r (tt {0}) (tt {0}) (c.answer (object_of (g.holds source) (g.size source) old)) (tt {0})
      → OnOk r (IsStepped c.after false old new) → OnErr r (IsStepped (λ o. o) (ready_of old) old new)
      → Edits r (state_of g source old) (state_of g source new) (c.answer (state_of g source old).o) (stepped c (state_of g source old))
  edits_to c (Ok x) old new is step same = (is.0, state_stepped g source c.after false old new step)
  edits_to c (Err e) old new is step same =
      edits_left e (state_of g source old) (state_of g source new) (stepped c (state_of g source old)) (c.answer (state_of g source old).o) is (state_stepped g source (λ o. o) (ready_of old) old new same)

-- ---- Program headers

pub phdrs_zeroed : (old new : Body) (n : ℕ) (phdrs : List Phdr) → phdrs ≡ replicate n no_phdr → new ≡ record old { header = record old.header { phnum = n }; phdrs = phdrs; segments_marked = true; ready = false }
    → IsStepped (λ o. with_new_phdrs o n) false old new
unfolding object_of with_new_phdrs with_phdrs homes_of
phdrs_zeroed old new n phdrs zeros is = subst (λ (b : Body). IsStepped (λ o. with_new_phdrs o n) false old b) (sym is) (record {
  object = λ image size.
      ap (λ (l : List Phdr). record (object_of image size old) { header = record old.header { phnum = n }; phdrs = l; segments_marked = true }) zeros
      ∙ ap (λ (k : ℕ). record (object_of image size old) { header = record old.header { phnum = k }; phdrs = replicate n no_phdr; segments_marked = true }) (sym (length-replicate n no_phdr));
  homes = refl;
  class = refl;
  order = refl;
  base = refl;
  written = refl;
  marks = λ h. h;
  ready = refl;
})

pub left_same : {A E : Type 0} (r : Result A E) (old new : Body) → OnErr r (new ≡ old) → OnErr r (IsStepped (λ o. o) (ready_of old) old new)
left_same (Ok x) old new same = tt
left_same (Err e) old new same = subst (λ (b : Body). IsStepped (λ o. o) (ready_of old) old b) (sym same) (same_stepped old)

-- what holds holds on an error
pub on_err : {A E : Type 0} {P : Type 0} (r : Result A E) → P → OnErr r P
on_err (Ok x) is = tt
on_err (Err e) is = is

pub left_alone : (old new : Body) → new ≡ old → IsStepped (λ o. o) (ready_of old) old new
left_alone old new same = subst (λ (b : Body). IsStepped (λ o. o) (ready_of old) old b) (sym same) (same_stepped old)
