-- Edits of the pieces of a section: their refusals, and their steps.
use Rattle.std.proofs.Common.{◌≡◌, ℕ, Bool, false, List, [], ◌∷◌, map, get_or, set, Option, Some, None, Result, Ok, Err, refl, sym, ap, ◌∙◌, subst, length}
use Rattle.std.specs.Prelude.{OnOk, OnErr, IfOk, ◌&&◌}
use Rattle.std.proofs.lemmas.List.{set-get_or}
use Rattle.elf_types.specs.declared.records.Class.{Class}
use Rattle.elf_types.specs.declared.records.Part.TheVariants as part
use Rattle.elf_types.specs.declared.errors.ElfError.{ElfError}
use Rattle.elf_types.specs.declared.errors.ElfError.TheVariants.{Unfit}
use Rattle.elf_types.specs.Answers.{answered, first_refusal}
use Rattle.section_table.specs.elf_xlate.declared.content.Items.{Items}
use Rattle.section_table.specs.elf_xlate.Translation.{first_unfit}
use Rattle.section_table.specs.elf_object.Object.{Object, Piece, section_at, piece_at, home_piece}
use Rattle.section_table.specs.elf_object.Answers.{no_data, reserved}
use Rattle.section_table.specs.elf_object.Steps.{with_section, with_piece_at, with_own, own_piece}
use Rattle.section_table.specs.elf_object.Words.{handing_back}
use Rattle.section_table.specs.elf_object.Calls.{replace_refusal, unfit_items}
use Rattle.section_table.specs.section_data.Views.{CellView}
use Rattle.section_table.specs.section_data.Held.{piece_in}
use Rattle.section_table.specs.section_data.Leaves.{replaced}
use Rattle.section_table.specs.section_data.Refused.{replace_refused, no_piece, unfit_piece}
use Rattle.section_table.specs.Sections.{SectionView as Scn, absent_scn}
use Rattle.elf_descriptor.specs.declared.body.Body.{Body}
use Rattle.elf_descriptor.specs.Views.{object_of, section_of, scn_at, no_scn, ready_of, is_of_source, has_lengths, has_mark}
use Rattle.elf_descriptor.specs.Edits.{IsStepped, homes_of, without_pieces}
use Rattle.elf_descriptor.proofs.Objects.{no_section_is, no_data_is}
use Rattle.elf_descriptor.proofs.EditSteps.{pieces_stepped}

-- ---- Refusals

-- what the first two tests refuse is refused
pub two_refused : {A E : Type 0} (a b : Option E) (later : List (Option E)) (v w : A) (e : E) → Err e ≡ answered (first_refusal (a ∷ b ∷ [])) v → Err e ≡ answered (first_refusal (a ∷ b ∷ later)) w
two_refused None None later v w e is = cc
two_refused None (Some d) later v w e is = let same : e ≡ d = cc in ap Err same
two_refused (Some d) b later v w e is = let same : e ≡ d = cc in ap Err same

-- what they let pass the others refuse
pub two_passed : {A E : Type 0} (a b : Option E) (later : List (Option E)) (v x : A) → Ok x ≡ answered (first_refusal (a ∷ b ∷ [])) v → first_refusal (a ∷ b ∷ later) ≡ first_refusal later
two_passed None None later v x is = refl
two_passed None (Some d) later v x is = cc
two_passed (Some d) b later v x is = cc

pub unfit_numbered : (o : Object) (class : Class) (c : CellView) (s p : ℕ) (items : Items) → o.header.class ≡ class → c.section ≡ s → unfit_items o s p items ≡ unfit_piece class c p items
unfit_numbered o class c s p items same number =
    ap (λ (k : Class). elim (first_unfit k items) [ None ↦ None | Some i ↦ Some (Unfit (part.Piece s p) i) ]) same
    ∙ ap (λ (n : ℕ). elim (first_unfit class items) [ None ↦ None | Some i ↦ Some (Unfit (part.Piece n p) i) ]) (sym number)

module _ (image : Option (List ℕ)) (size : ℕ) (b : Body) (s p : ℕ) (items : Items) where
  replace_tests : (scn_at b s).cell.section ≡ s → replace_refusal (object_of image size b) s p items
      ≡ first_refusal (no_scn b s ∷ reserved s ∷ no_piece (scn_at b s).cell p ∷ unfit_piece b.header.class (scn_at b s).cell p items ∷ [])
  unfolding replace_refusal object_of
  replace_tests number =
      ap (λ (r : Option ElfError). first_refusal (r ∷ reserved s ∷ no_data (object_of image size b) s p ∷ unfit_items (object_of image size b) s p items ∷ [])) (no_section_is image size b s)
      ∙ ap (λ (r : Option ElfError). first_refusal (no_scn b s ∷ reserved s ∷ r ∷ unfit_items (object_of image size b) s p items ∷ [])) (no_data_is image size b s p)
      ∙ ap (λ (r : Option ElfError). first_refusal (no_scn b s ∷ reserved s ∷ no_piece (scn_at b s).cell p ∷ r ∷ [])) (unfit_numbered (object_of image size b) b.header.class (scn_at b s).cell s p items refl number)

  pub replace_refused_first : (e : ElfError) → Err e ≡ answered (first_refusal (no_scn b s ∷ reserved s ∷ [])) (tt {0})
      → Err (items, e) ≡ handing_back items (answered (replace_refusal (object_of image size b) s p items) (tt {0}))
  unfolding replace_refusal
  replace_refused_first e is =
      ap (λ (r : Result (Unit {0}) ElfError). handing_back items r)
      (two_refused (no_scn b s) (reserved s) (no_data (object_of image size b) s p ∷ unfit_items (object_of image size b) s p items ∷ []) (tt {0}) (tt {0}) e is
      ∙ ap (λ (r : Option ElfError). answered (first_refusal (r ∷ reserved s ∷ no_data (object_of image size b) s p ∷ unfit_items (object_of image size b) s p items ∷ [])) (tt {0})) (sym (no_section_is image size b s)))

  pub replace_refused_then : (x : Unit {0}) (r : Result (Unit {0}) (Items × ElfError)) → (scn_at b s).cell.section ≡ s → Ok x ≡ answered (first_refusal (no_scn b s ∷ reserved s ∷ [])) (tt {0})
      → r ≡ handing_back items (answered (replace_refused b.header.class (scn_at b s).cell p items) (tt {0}))
      → r ≡ handing_back items (answered (replace_refusal (object_of image size b) s p items) (tt {0}))
  unfolding replace_refused
  replace_refused_then x r number passed is =
      is
      ∙ ap (λ (t : Option ElfError). handing_back items (answered t (tt {0})))
      (sym (replace_tests number ∙ two_passed (no_scn b s) (reserved s) (no_piece (scn_at b s).cell p ∷ unfit_piece b.header.class (scn_at b s).cell p items ∷ []) (tt {0}) x passed))

-- an Ok is stated
pub answered_back : {A B : Type 0} (items : B) (stated : Result A ElfError) (r : Result A (B × ElfError)) → r ≡ handing_back items stated → IfOk r (λ x. stated ≡ Ok x)
answered_back {A} {B} items (Ok x) r is = subst (λ (q : Result A (B × ElfError)). IfOk q (λ y. ◌≡◌ {A = Result A ElfError} (Ok x) (Ok y))) (sym is) refl
answered_back {A} {B} items (Err e) r is = subst (λ (q : Result A (B × ElfError)). IfOk q (λ y. ◌≡◌ {A = Result A ElfError} (Err e) (Ok y))) (sym is) tt

-- ---- Steps

-- the same sections are kept
pub items_same : (old : Body) (sections : List Scn) → sections ≡ old.sections
    → IsStepped (λ o. o) (ready_of old) old (record old { sections = sections })
unfolding object_of homes_of
items_same old sections items = record {
  object = λ image size. ap (λ (l : List Scn). record (object_of image size old) { sections = map (section_of image) l }) items;
  homes = ap (λ (l : List Scn). map without_pieces l) items;
  class = refl;
  order = refl;
  base = refl;
  written = refl;
  marks = λ h. h;
  ready = ap (λ (l : List Scn). old.ready && (is_of_source old.base && has_lengths old.spare (length old.phdrs) (length l))) items;
}

-- the section is written as it was
pub section_same : (old new : Body) (s : ℕ) (x : Scn) → x ≡ scn_at old s → new ≡ record old { sections = new.sections }
    → new.sections ≡ set old.sections s x → IsStepped (λ o. o) (ready_of old) old new
unfolding object_of homes_of scn_at
section_same old new s x read rest is =
    let items : new.sections ≡ old.sections = is ∙ ap (λ (y : Scn). set old.sections s y) read
    ∙ set-get_or old.sections s absent_scn in
    record {
      object = λ image size. ap (λ (b : Body). object_of image size b) rest ∙ ap (λ (l : List Scn). record (object_of image size old) { sections = map (section_of image) l }) items;
      homes = ap (λ (l : List Scn). map without_pieces l) items;
      class = ap (λ (b : Body). b.header.class) rest;
      order = ap (λ (b : Body). b.header.order) rest;
      base = ap (λ (b : Body). b.base) rest;
      written = ap (λ (b : Body). b.written) rest;
      marks = λ h. ap has_mark (sym rest) ∙ h;
      ready = ap ready_of rest ∙ ap (λ (l : List Scn). old.ready && (is_of_source old.base && has_lengths old.spare (length old.phdrs) (length l))) items;
    }

abbrev pub owned_in : ℕ → Items → List Piece → List Piece
owned_in p items pieces = set pieces p (own_piece items (get_or pieces p home_piece).align)

pub piece_owned : (o : Object) (s p : ℕ) (items : Items) → with_section o s (record (section_at o s) { pieces = owned_in p items (section_at o s).pieces }) ≡ with_own o s p items
unfolding with_own with_piece_at piece_at
piece_owned o s p items = refl

pub piece_replaced : (old new : Body) (s p : ℕ) (items : Items) (x : Scn) → x ≡ scn_at old s → new ≡ record old { sections = new.sections }
    → new.sections ≡ set old.sections s (record x { cell = replaced x.cell p items })
    → IsStepped (λ o. with_own o s p items) (ready_of old) old new
unfolding piece_in
piece_replaced old new s p items x read rest is =
    pieces_stepped (λ o. with_own o s p items) old.ready old new s x (owned_in p items) read rest is (λ o. piece_owned o s p items)

pub same_stepped : (b : Body) → IsStepped (λ o. o) (ready_of b) b b
same_stepped b = record { object = λ image size. refl; homes = refl; class = refl; order = refl; base = refl; written = refl; marks = λ h. h; ready = refl }

pub then_unready : (after : Object → Object) (ready : Bool) (old new : Body) → IsStepped after ready old new → IsStepped after false old (record new { ready = false })
unfolding object_of homes_of
then_unready after ready old new step = record { object = step.object; homes = step.homes; class = step.class; order = step.order; base = step.base; written = step.written; marks = step.marks; ready = refl }

-- ---- By the answer of the cell

module _ {A : Type 0} (old new : Body) (s p : ℕ) (items : Items) (x : Scn) (cell : CellView) (read : x ≡ scn_at old s) (rest : new ≡ record old { sections = new.sections })
    (is : new.sections ≡ set old.sections s (record x { cell = cell })) where
  pub replace_steps : (r : Result A (Items × ElfError)) → OnOk r (cell ≡ replaced x.cell p items) → OnOk r (IsStepped (λ o. with_own o s p items) (ready_of old) old new)
  replace_steps (Ok v) there =
      piece_replaced old new s p items x read rest
      (is ∙ ap (λ (c : CellView). set old.sections s (record x { cell = c })) there)
  replace_steps (Err e) there = tt

  pub cell_stays : (r : Result A (Items × ElfError)) → OnErr r (cell ≡ x.cell) → OnErr r (IsStepped (λ o. o) (ready_of old) old new)
  cell_stays (Ok v) there = tt
  cell_stays (Err e) there =
      section_same old new s x read rest
      (is ∙ ap (λ (c : CellView). set old.sections s (record x { cell = c })) there)
