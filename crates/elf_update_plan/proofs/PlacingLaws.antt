-- How an update is refused, and what it leaves where it is.
use Rattle.std.proofs.Common.{◌≡◌, inl, inr, ℕ, Bool, true, false, List, [], ◌∷◌, Option, Some, None, Result, Ok, Err, length, map, refl, sym, ap, ◌∙◌, subst}
use Rattle.std.specs.Prelude.{if◌then◌else◌, IfSome, IfOk, IfErr}
use Rattle.std.specs.Option.{option_map, option_or}
use Rattle.elf_types.specs.declared.records.Class.{Class}
use Rattle.elf_types.specs.declared.records.Ehdr.{Ehdr}
use Rattle.elf_types.specs.declared.records.Part.{Part}
use Rattle.elf_types.specs.declared.errors.ElfError.{ElfError}
use Rattle.elf_types.specs.declared.errors.ElfError.TheVariants.{Memory, Read, Write, Overlap, TooLarge}
use Rattle.elf_types.specs.Answers.{answered, first_refusal, IsRefusal}
use Rattle.elf_descriptor.specs.elf_layout.declared.parts.PartAt.{PartAt}
use Rattle.elf_descriptor.specs.elf_layout.declared.parts.Places.{Places}
use Rattle.elf_descriptor.specs.elf_layout.Capping.{capped}
use Rattle.elf_descriptor.specs.elf_layout.Layout.{refusal_of, refusal_within, overlap_refusal, is_too_large, limit_of, placing, placing_within, layout_refusal, places_of as parts_places, MayWantMemory}
use Rattle.elf_descriptor.specs.elf_layout.Meeting.{overlap_of}
use Rattle.elf_descriptor.specs.elf_object.Object.{Object, header_of, is_dirty}
use Rattle.elf_descriptor.specs.elf_object.Layout.{parts_of, places_of, placed}
use Rattle.elf_descriptor.specs.elf_object.Image.{image_length}
use Rattle.elf_descriptor.specs.elf_object.Refusal.{content_refusal, placing_refusal, refusal}
use Rattle.elf_descriptor.specs.elf_object.Words.{UpdateAnswers, Updates}
use Rattle.elf_descriptor.specs.elf_object.Calls.{update_null}
use Rattle.elf_descriptor.proofs.elf_object.RefusalLaws.{update_refuses}
use Rattle.elf_descriptor.specs.law_object.Laws.{IsCappedAlike}
use Rattle.elf_descriptor.proofs.law_object.ImageLaws.{placed-clean}
use Rattle.elf_descriptor.specs.State.{State}
use Rattle.elf_update_plan.specs.declared.places.PlacedParts.{PlacedParts}
use Rattle.elf_update_plan.specs.Placing.{ArePlaced, IsRefused, IsUnplaced}

-- ---- The refusals in their order

passes_on : (p : Option ElfError) → first_refusal (p ∷ []) ≡ p
passes_on None = refl
passes_on (Some e) = refl

pub contents_passed : (o : Object) → is_dirty o ≡ true → content_refusal o ≡ None → refusal o ≡ placing_refusal o
unfolding refusal
contents_passed o dirty passed =
    ap (λ (b : Bool). if b then first_refusal (content_refusal o ∷ placing_refusal o ∷ []) else None) dirty
    ∙ ap (λ (r : Option ElfError). first_refusal (r ∷ placing_refusal o ∷ [])) passed
    ∙ passes_on (placing_refusal o)

pub contents_refused : (o : Object) (e : ElfError) → is_dirty o ≡ true → content_refusal o ≡ Some e → refusal o ≡ Some e
unfolding refusal
contents_refused o e dirty is =
    ap (λ (b : Bool). if b then first_refusal (content_refusal o ∷ placing_refusal o ∷ []) else None) dirty
    ∙ ap (λ (r : Option ElfError). first_refusal (r ∷ placing_refusal o ∷ [])) is

pub passed_from : (r : Option ElfError) → ◌≡◌ {A = Result (Unit {0}) ElfError} (Ok tt) (answered r tt) → r ≡ None
passed_from None h = refl
passed_from (Some e) h = cc

pub refused_from : (r : Option ElfError) (e : ElfError)
    → ◌≡◌ {A = Result (Unit {0}) ElfError} (Err e) (answered r tt) → r ≡ Some e
refused_from None e h = cc
refused_from (Some d) e h = cc

-- ---- Want of memory

may_want : (parts : List PartAt) (layout : Bool) (base : ℕ) (class : Class) (n : ℕ)
    → MayWantMemory (answered (refusal_of parts layout base class) n)
unfolding refusal_of refusal_within overlap_refusal
may_want parts layout base class n =
    by_parts layout (overlap_of parts) (is_too_large parts layout base (limit_of class))
  where
    by_parts : (l : Bool) (pair : Option (Part × Part)) (t : Bool)
        → MayWantMemory (answered (option_or (if l then option_map (λ p. Overlap p.0 p.1) pair else
        None) (if t then Some TooLarge else None)) n)
    by_parts true (Some pair) t = tt
    by_parts true None true = tt
    by_parts true None false = tt
    by_parts false pair true = tt
    by_parts false pair false = tt

pub placing_wants_memory : (o : Object) → is_dirty o ≡ true → content_refusal o ≡ None → IsRefused o Memory
unfolding placing_refusal
placing_wants_memory o dirty passed =
    inl (
      refl,
      subst (λ (r : Option ElfError). MayWantMemory (answered r (image_length o)))
          (sym (contents_passed o dirty passed))
          (may_want (parts_of o) o.layout (length o.base) o.header.class (image_length o)),
    )

pub wants_as : (o : Object) (e : ElfError) → is_dirty o ≡ true → content_refusal o ≡ None → e ≡ Memory → IsRefused o e
wants_as o e dirty passed is = subst (IsRefused o) (sym is) (placing_wants_memory o dirty passed)

-- ---- Placing

pub placing_same : (o : Object) (parts : List PartAt) (layout : Bool) (base : ℕ) (h : Ehdr)
    → layout ≡ o.layout → base ≡ length o.base → h ≡ header_of o
    → placing parts layout base h.class ≡ placing parts o.layout (length o.base) o.header.class
unfolding header_of
placing_same o parts layout base h laid long is =
    ap (λ (b : Bool). placing parts b base h.class) laid
    ∙ ap (λ (n : ℕ). placing parts o.layout n h.class) long
    ∙ ap (λ (x : Ehdr). placing parts o.layout (length o.base) x.class) is

pub unplaced : (stated : Result Places ElfError) (e : ElfError) → IfSome (layout_refusal e) (λ d. stated ≡ Err d)
    → (e ≡ Memory → MayWantMemory stated) → IsUnplaced stated e
unplaced stated Memory follows may = inl (refl, may refl)
unplaced stated e follows may = inr follows

answered_ok : {A : Type 0} (r : Option ElfError) (x y : A) → answered r x ≡ Ok y → (r ≡ None) × (x ≡ y)
answered_ok None x y h = (refl, cc)
answered_ok (Some e) x y h = cc

answered_err : {A : Type 0} (r : Option ElfError) (x : A) (e : ElfError) → answered r x ≡ Err e → r ≡ Some e
answered_err None x e h = cc
answered_err (Some d) x e h = cc

module _ (o : Object) (dirty : is_dirty o ≡ true) (passed : content_refusal o ≡ None) (alike : IsCappedAlike o) where
  pub are_placed : (r : PlacedParts) → r.parts ≡ map capped (parts_of o)
      → placing (map capped (parts_of o)) o.layout (length o.base) o.header.class ≡ Ok r.places → ArePlaced o r
  unfolding placing placing_within places_of placing_refusal refusal_of
  are_placed r parts is =
      let both = answered_ok (refusal_of (parts_of o) o.layout (length o.base) o.header.class)
      (parts_places (parts_of o) o.layout (length o.base)) r.places
      (sym alike.placed ∙ is) in
      record {
        passed = contents_passed o dirty passed ∙ both.0;
        parts = parts ∙ alike.same both.0;
        places = sym both.1;
      }

  pub not_placed : (e : ElfError) → IsUnplaced
      (placing (map capped (parts_of o)) o.layout (length o.base) o.header.class) e → IsRefused o e
  unfolding placing placing_within placing_refusal refusal_of
  not_placed e (inl want) = wants_as o e dirty passed want.0
  not_placed e (inr is) =
      inr (contents_passed o dirty passed ∙ answered_err
      (refusal_of (parts_of o) o.layout (length o.base) o.header.class)
      (parts_places (parts_of o) o.layout (length o.base)) e (sym alike.placed ∙ is))

-- ---- An update

-- a refusal, or want of memory
pub refused_cases : (o : Object) (e : ElfError) (P : ElfError → Type 0) → IsRefused o e
    → (MayWantMemory (update_null.answer o) → P Memory)
    → ((x : ElfError) → update_null.answer o ≡ Err x → IsRefusal x → P x) → P e
refused_cases o e P (inl want) memory other = subst P (sym want.0) (memory want.1)
refused_cases o e P (inr is) memory other =
    other e (ap (λ (r : Option ElfError). answered r (image_length o)) is)
    (subst (λ (r : Option ElfError). IfSome r IsRefusal) is (update_refuses o))

pub refused_answer : (o : Object) (e : ElfError) → IsRefused o e
    → UpdateAnswers {A = ℕ} (Err e) (update_null.answer o)
refused_answer o e is =
    refused_cases o e (λ (x : ElfError). UpdateAnswers {A = ℕ} (Err x) (update_null.answer o)) is
    (λ may. may) by_error
  where
    by_error : (x : ElfError) → update_null.answer o ≡ Err x → IsRefusal x
        → UpdateAnswers {A = ℕ} (Err x) (update_null.answer o)
    by_error Memory stated never = absurd never
    by_error Read stated never = absurd never
    by_error Write stated never = absurd never
    by_error x stated fine = stated

pub updates_refused : {S : Type 0} (o : Object) (e : ElfError) (old stepped : S) → IsRefused o e
    → Updates (Err e) old old (update_null.answer o) stepped
updates_refused o e old stepped is =
    refused_cases o e (λ (x : ElfError). Updates (Err x) old old (update_null.answer o) stepped) is
    (λ may. (may, refl)) by_error
  where
    by_error : (x : ElfError) → update_null.answer o ≡ Err x → IsRefusal x
        → Updates (Err x) old old (update_null.answer o) stepped
    by_error Memory stated never = absurd never
    by_error x stated fine = (stated, refl)

-- what was placed, and how it was refused
pub placed_ok : (o : Object) (dirty : is_dirty o ≡ true) (passed : content_refusal o ≡ None) (alike : IsCappedAlike o)
    (parts : List PartAt) (r : Result PlacedParts ElfError) → parts ≡ map capped (parts_of o)
    → IfOk r (λ p. placing parts o.layout (length o.base) o.header.class ≡ Ok p.places) → IfOk r (λ p. p.parts ≡ parts)
    → IfOk r (ArePlaced o)
placed_ok o dirty passed alike parts (Ok p) is places same =
    are_placed o dirty passed alike p (same ∙ is)
    (ap (λ (l : List PartAt). placing l o.layout (length o.base) o.header.class) (sym is) ∙ places)
placed_ok o dirty passed alike parts (Err e) is places same = tt

pub placed_err : (o : Object) (dirty : is_dirty o ≡ true) (passed : content_refusal o ≡ None) (alike : IsCappedAlike o)
    (parts : List PartAt) (r : Result PlacedParts ElfError) → parts ≡ map capped (parts_of o)
    → IfErr r (IsUnplaced (placing parts o.layout (length o.base) o.header.class)) → IfErr r (IsRefused o)
placed_err o dirty passed alike parts (Ok p) is never = tt
placed_err o dirty passed alike parts (Err e) is unplaced =
    not_placed o dirty passed alike e (subst (λ (l : List PartAt). IsUnplaced
    (placing l o.layout (length o.base) o.header.class) e) is unplaced)

-- ---- Where nothing is dirty, and where places are stored

pub clean_answer : (o : Object) → is_dirty o ≡ false → update_null.answer o ≡ Ok (length o.base)
unfolding refusal image_length
clean_answer o clean =
    ap (λ (b : Bool). answered (if b then first_refusal
    (content_refusal o ∷ placing_refusal o ∷ []) else None)
    (if b then (places_of o).end else length o.base)) clean

pub placed_answer : (o : Object) (r : PlacedParts) → is_dirty o ≡ true → ArePlaced o r
    → update_null.answer o ≡ Ok r.places.end
unfolding image_length
placed_answer o r dirty are =
    ap (λ (x : Option ElfError). answered x (if is_dirty o then (places_of o).end else length o.base)) are.passed
    ∙ ends
  where
    ends : ◌≡◌ {A = Result ℕ ElfError} (Ok (if is_dirty o then (places_of o).end else length o.base)) (Ok r.places.end)
    ends =
        ap (λ (b : Bool). Ok (if b then (places_of o).end else length o.base)) dirty
        ∙ ap (λ (p : Places). Ok p.end) (sym are.places)

pub same_state : {S : Type 0} (e : State S) → is_dirty e.o ≡ false → e ≡ record e { o = placed e.o }
same_state {S} e clean = sym (ap (λ (q : Object). record e { o = q }) (placed-clean e.o clean))
