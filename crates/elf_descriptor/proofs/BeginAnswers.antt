-- The answer of a call that begins a descriptor, once the front is read.
use Rattle.std.proofs.Common.{[], ◌∷◌, ◌≡◌, ℕ, ◌≤◌, List, Option, Some, None, Result, Ok, Err, sym, ap, ◌∙◌, subst, false, refl}
use Rattle.std.specs.Prelude.{IfSome, IfOk, IfErr, ◌||◌, map}
use Rattle.std.specs.List.{list_any}
use Rattle.elf_types.specs.declared.records.Shdr.{Shdr}
use Rattle.elf_types.specs.declared.constants.TheConstants.{MAX_IMAGE}
use Rattle.elf_types.specs.declared.errors.ElfError.{ElfError}
use Rattle.elf_types.specs.declared.errors.ElfError.TheVariants.{Memory}
use Rattle.elf_types.specs.Answers.{Follows, stated_refusal}
use Rattle.section_table.specs.elf_outside.declared.sources.Source.{Ghosts}
use Rattle.section_table.specs.elf_outside.Asks.{Asks, ReadRose}
use Rattle.section_table.proofs.elf_outside.AskLemmas.{asks_then}
use Rattle.section_table.specs.elf_ident.declared.fronts.Front.{Front}
use Rattle.section_table.specs.elf_ident.Front.{front}
use Rattle.section_table.specs.elf_ident.Reading.{IsFittingFront, IsCounted, HasTables}
use Rattle.section_table.specs.elf_object.Object.{Object, is_dirty, some_section_marked, some_piece_marked}
use Rattle.section_table.specs.elf_object.Open.{begun, begun_or_refused, opened, opened_section}
use Rattle.elf_descriptor.specs.State.{State}
use Rattle.elf_descriptor.specs.Views.{source_bytes}
use Rattle.elf_descriptor.specs.Begun.{begun_state, begun_answer, source_after, IsBegun}

opened_by : (bytes : List ℕ) (r : Result Front ElfError) → front bytes ≡ r → opened bytes ≡ begun_or_refused r bytes
unfolding opened
opened_by bytes r is = ap (λ (q : Result Front ElfError). begun_or_refused q bytes) is

-- a front that was read begins the object of the image
pub opened_told : (old new : Option (List ℕ)) (f : Front) → new ≡ old → IfSome old (λ bytes. Follows (Ok f) (front bytes)) → IfSome new (λ bytes. opened bytes ≡ Ok (begun f bytes))
opened_told old new f same is = subst (λ (image : Option (List ℕ)). IfSome image (λ bytes. opened bytes ≡ Ok (begun f bytes))) (sym same) (by_image old is)
  where
    by_image : (image : Option (List ℕ)) → IfSome image (λ bytes. Follows (Ok f) (front bytes)) → IfSome image (λ bytes. opened bytes ≡ Ok (begun f bytes))
    by_image None is = tt
    by_image (Some bytes) is = opened_by bytes (Ok f) is

-- a refusal of the front is one of the object
pub opened_refused : (image : Option (List ℕ)) (e : ElfError) → IfSome image (λ bytes. Follows {T = Front} (Err e) (front bytes)) → IfSome image (λ bytes. Follows {T = Object} (Err e) (opened bytes))
opened_refused None e is = tt
opened_refused (Some bytes) e is = by_refusal (stated_refusal e) is
  where
    by_refusal : (o : Option ElfError) → IfSome o (λ d. front bytes ≡ Err d) → IfSome o (λ d. opened bytes ≡ Err d)
    by_refusal None is = tt
    by_refusal (Some d) is = opened_by bytes (Err d) is

-- ---- The front began a descriptor, or there was no memory for it

module _ {S : Type 0} (g : Ghosts S) (f : Front) (source : S) where
  pub over_source : (r : Result (State S) (S × ElfError)) → IfOk r (λ e. e ≡ begun_state g f source) → IfErr r (λ back. (back.0 ≡ source) × (back.1 ≡ Memory)) → source_after r ≡ source
  unfolding begun_state
  over_source (Ok e) state back = ap (λ (t : State S). t.source) state
  over_source (Err b) state back = back.0

  over_object : (e : State S) (bytes : List ℕ) → g.holds source ≡ Some bytes → e ≡ begun_state g f source → e.o ≡ begun f bytes
  unfolding begun_state
  over_object e bytes holds state =
      ap (λ (t : State S). t.o) state ∙ ap (λ (image : Option (List ℕ)). begun f (source_bytes image (g.size source))) holds

  pub over_answers : (r : Result (State S) (S × ElfError)) (image : Option (List ℕ)) → g.holds source ≡ image → IfSome image (λ bytes. opened bytes ≡ Ok (begun f bytes))
      → IfOk r (λ e. e ≡ begun_state g f source) → IfErr r (λ back. (back.0 ≡ source) × (back.1 ≡ Memory)) → IfSome image (λ bytes. Follows (begun_answer r) (opened bytes))
  over_answers r None holds is state back = tt
  over_answers (Ok e) (Some bytes) holds is state back = let ok : Object → Result Object ElfError = λ o. Ok o in is ∙ ap ok (sym (over_object e bytes holds state))
  over_answers (Err b) (Some bytes) holds is state back = subst (λ (d : ElfError). Follows {T = Object} (Err d) (opened bytes)) (sym back.1) tt

  pub over_begun : (r : Result (State S) (S × ElfError)) (old : S) → IsFittingFront f → IsCounted f → HasTables f.ehdr (g.size old) → g.size old ≤ MAX_IMAGE
      → IfOk r (λ e. e ≡ begun_state g f source) → IfOk r (IsBegun g old)
  unfolding begun_state
  over_begun (Ok e) old fitting counted tables small state = record {
    front = f;
    fitting = fitting;
    counted = counted;
    tables = tables;
    small = small;
    state = state ∙ ap (begun_state g f) (sym (ap (λ (t : State S). t.source) state));
  }
  over_begun (Err b) old fitting counted tables small state = tt

  over_read : (r : Result (State S) (S × ElfError)) (before now : ℕ) → IfErr r (λ back. (back.0 ≡ source) × (back.1 ≡ Memory)) → ReadRose (begun_answer r) before now
  over_read (Ok e) before now back = tt
  over_read (Err b) before now back = subst (λ (d : ElfError). ReadRose {T = Object} (Err d) before now) (sym back.1) tt

  pub over_asks : (r : Result (State S) (S × ElfError)) (read : Result Front ElfError) (old : S) (n : ℕ) → Asks g read old source n
      → IfOk r (λ e. e ≡ begun_state g f source) → IfErr r (λ back. (back.0 ≡ source) × (back.1 ≡ Memory)) → Asks g (begun_answer r) old (source_after r) n
  over_asks r read old n asks state back =
      subst (λ (s : S). Asks g (begun_answer r) old s n) (sym (over_source r state back))
      (asks_then g read (begun_answer r) old source n asks (over_read r (g.faults old) (g.faults source) back))

  pub over_bound : (r : Result (State S) (S × ElfError)) (image : Option (List ℕ)) (most : List ℕ → ℕ) → IfSome image (λ bytes. g.taken source ≤ most bytes)
      → IfOk r (λ e. e ≡ begun_state g f source) → IfErr r (λ back. (back.0 ≡ source) × (back.1 ≡ Memory)) → IfSome image (λ bytes. g.taken (source_after r) ≤ most bytes)
  over_bound r image most bound state back =
      subst (λ (s : S). IfSome image (λ bytes. g.taken s ≤ most bytes)) (sym (over_source r state back)) bound

-- ---- What is begun is clean

none_marked : (image : List ℕ) (headers : List Shdr) → list_any (λ s. s.marked || some_piece_marked s) (map (opened_section image) headers) ≡ false
unfolding some_piece_marked opened_section
none_marked image [] = refl
none_marked image (h ∷ rest) = none_marked image rest

-- nothing of what a descriptor begins is dirty
pub begun_clean : {S : Type 0} (g : Ghosts S) (src : S) (e : State S) → IsBegun g src e → is_dirty e.o ≡ false
unfolding is_dirty begun some_section_marked begun_state
begun_clean {S} g src e is = subst (λ (t : State S). is_dirty t.o ≡ false) (sym is.state) (of_front is.front (source_bytes (g.holds e.source) (g.size e.source)))
  where
    of_front : (f : Front) (bytes : List ℕ) → is_dirty (begun f bytes) ≡ false
    of_front f bytes = none_marked bytes f.shdrs
