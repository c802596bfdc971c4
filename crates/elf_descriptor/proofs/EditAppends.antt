-- A piece that is added to a section: its refusals, and its step.
use Rattle.std.proofs.Common.{◌≡◌, ℕ, false, List, [], ◌∷◌, ◌++◌, length, set, Option, Some, None, Result, Ok, Err, refl, sym, ap, ◌∙◌, subst}
use Rattle.std.specs.Prelude.{OnOk, OnErr, IfOk, not, nat_le}
use Rattle.elf_types.specs.declared.records.DataId.{DataId}
use Rattle.elf_types.specs.declared.constants.TheConstants.{MAX_PIECES}
use Rattle.elf_types.specs.declared.errors.ElfError.{ElfError}
use Rattle.elf_types.specs.declared.errors.ElfError.TheVariants.{Memory, TooMany, BadAlign}
use Rattle.elf_types.specs.Answers.{answered, refused_if, first_refusal, IsRefusal}
use Rattle.section_table.specs.elf_xlate.declared.content.Items.{Items}
use Rattle.section_table.specs.elf_outside.declared.sources.Source.{Ghosts}
use Rattle.section_table.specs.elf_object.Object.{Section}
use Rattle.section_table.specs.elf_object.Answers.{reserved, piece_count}
use Rattle.section_table.specs.elf_object.Steps.{with_new_piece, own_piece}
use Rattle.section_table.specs.elf_object.Words.{Edits, EditsWith, result_map}
use Rattle.section_table.specs.elf_object.Calls.{Call, newdata_refusal, unfit_items, is_piece_align}
use Rattle.section_table.specs.section_data.Views.{CellView}
use Rattle.section_table.specs.section_data.Leaves.{appended}
use Rattle.section_table.specs.section_data.Refused.{append_refused, unfit_piece}
use Rattle.section_table.specs.Sections.{SectionView as Scn}
use Rattle.elf_descriptor.specs.declared.body.Body.{Body}
use Rattle.elf_descriptor.specs.Views.{object_of, section_of, state_of, scn_at, no_scn, ready_of}
use Rattle.elf_descriptor.specs.Edits.{IsStepped, numbers_of, stepped}
use Rattle.elf_descriptor.proofs.Objects.{section_is, no_section_is}
use Rattle.elf_descriptor.proofs.EditSteps.{pieces_stepped}
use Rattle.elf_descriptor.proofs.EditLaws.{state_stepped}
use Rattle.elf_descriptor.proofs.EditPieces.{two_refused, two_passed, unfit_numbered, section_same}
use Rattle.elf_descriptor.proofs.EditGrows.{refused_alone, edits_left}

-- ---- The answer of the cell

pub in_section : (refusal : Option ElfError) (s n p : ℕ) → answered refusal n ≡ Ok p → answered {A = ℕ × ℕ} refusal (s, n) ≡ Ok (s, p)
in_section None s n p is = let same : n ≡ p = cc in let pair : ℕ → Result (ℕ × ℕ) ElfError = λ k. Ok (s, k) in ap pair same
in_section (Some e) s n p is = cc

edits_alone : {A B S : Type 0} (e : ElfError) (refusal : Option ElfError) (v : A) (w : B) (old new stepped : S) → Edits (Err e) old new (answered refusal v) stepped
    → Edits (Err e) (tt {0}) (tt {0}) (answered refusal w) (tt {0})
edits_alone Memory None v w old new stepped is = (refl, refl)
edits_alone Memory (Some d) v w old new stepped is = cc
edits_alone e None v w old new stepped is = cc
edits_alone e (Some d) v w old new stepped is = let same : d ≡ e = cc in (ap Err same, refl)

edits_same : {A S : Type 0} (e : ElfError) (old new stepped : S) (stated : Result A ElfError) → Edits (Err e) old new stated stepped → new ≡ old
edits_same Memory old new stepped stated is = is.1
edits_same e old new stepped stated is = is.1

pub with_alone : {A B S : Type 0} (refused : Items × ElfError) (items : Items) (refusal : Option ElfError) (v : A) (w : B) (old new stepped : S)
    → EditsWith (Err refused) items old new (answered refusal v) stepped → EditsWith (Err refused) items (tt {0}) (tt {0}) (answered refusal w) (tt {0})
with_alone (back, e) items refusal v w old new stepped is = (is.0, edits_alone e refusal v w old new stepped is.1)

with_same : {A S : Type 0} (refused : Items × ElfError) (items : Items) (old new stepped : S) (stated : Result A ElfError) → EditsWith (Err refused) items old new stated stepped → new ≡ old
with_same (back, e) items old new stepped stated is = edits_same e old new stepped stated is.1

-- ---- The step

pub piece_appended : (old new : Body) (s align : ℕ) (items : Items) (x : Scn) (cell : CellView) → x ≡ scn_at old s → new ≡ record old { sections = new.sections }
    → new.sections ≡ set old.sections s (record x { cell = cell })
    → cell ≡ appended x.cell items align
    → IsStepped (λ o. with_new_piece o s items align) (ready_of old) old new
unfolding with_new_piece
piece_appended old new s align items x cell read rest is there =
    pieces_stepped (λ o. with_new_piece o s items align) old.ready old new s x (λ l. l ++ own_piece items align ∷ []) read rest
    (is ∙ ap (λ (c : CellView). set old.sections s (record x { cell = c })) there) (λ o. refl)

pub piece_refused : {A : Type 0} (old new : Body) (s : ℕ) (refused : Items × ElfError) (items : Items) (x : Scn) (cell stepped : CellView) (stated : Result A ElfError) → x ≡ scn_at old s
    → new ≡ record old { sections = new.sections }
    → new.sections ≡ set old.sections s (record x { cell = cell })
    → EditsWith (Err refused) items x.cell cell stated stepped
    → IsStepped (λ o. o) (ready_of old) old new
piece_refused old new s refused items x cell stepped stated read rest is came =
    section_same old new s x read rest
    (is
    ∙ ap (λ (c : CellView). set old.sections s (record x { cell = c }))
    (with_same refused items x.cell cell stepped stated came))

-- ---- Refusals

module _ (image : Option (List ℕ)) (size : ℕ) (b : Body) (s align : ℕ) (items : Items) where
  count_is : piece_count (object_of image size b) s ≡ length (scn_at b s).cell.pieces
  unfolding piece_count section_of
  count_is = ap (λ (c : Section). length c.pieces) (section_is image size b s)

  newdata_tests : (scn_at b s).cell.section ≡ s → newdata_refusal (object_of image size b) s items align
      ≡ first_refusal (no_scn b s ∷ reserved s ∷ refused_if (nat_le MAX_PIECES (length (scn_at b s).cell.pieces)) TooMany ∷ refused_if (not (is_piece_align align)) (BadAlign align) ∷ unfit_piece b.header.class (scn_at b s).cell (length (scn_at b s).cell.pieces) items ∷ [])
  unfolding newdata_refusal object_of
  newdata_tests number =
      ap (λ (r : Option ElfError). first_refusal (r ∷ reserved s ∷ refused_if (nat_le MAX_PIECES (piece_count (object_of image size b) s)) TooMany ∷ refused_if (not (is_piece_align align)) (BadAlign align) ∷ unfit_items (object_of image size b) s (piece_count (object_of image size b) s) items ∷ []))
      (no_section_is image size b s)
      ∙ ap (λ (n : ℕ). first_refusal (no_scn b s ∷ reserved s ∷ refused_if (nat_le MAX_PIECES n) TooMany ∷ refused_if (not (is_piece_align align)) (BadAlign align) ∷ unfit_items (object_of image size b) s n items ∷ []))
      count_is
      ∙ ap (λ (r : Option ElfError). first_refusal (no_scn b s ∷ reserved s ∷ refused_if (nat_le MAX_PIECES (length (scn_at b s).cell.pieces)) TooMany ∷ refused_if (not (is_piece_align align)) (BadAlign align) ∷ r ∷ []))
      (unfit_numbered (object_of image size b) b.header.class (scn_at b s).cell s (length (scn_at b s).cell.pieces) items refl number)

  pub newdata_refused_first : (e : ElfError) → IsRefusal e → Err e ≡ answered (first_refusal (no_scn b s ∷ reserved s ∷ [])) (tt {0})
      → EditsWith {A = ℕ × ℕ} {B = Items} (Err (items, e)) items (tt {0}) (tt {0}) (answered {A = ℕ × ℕ} (newdata_refusal (object_of image size b) s items align) (s, piece_count (object_of image size b) s)) (tt {0})
  unfolding newdata_refusal
  newdata_refused_first e is met =
      let tests : List (Option ElfError) = refused_if (nat_le MAX_PIECES (piece_count (object_of image size b) s)) TooMany ∷ refused_if (not (is_piece_align align)) (BadAlign align) ∷ unfit_items (object_of image size b) s (piece_count (object_of image size b) s) items ∷ [] in (
        refl,
        refused_alone {A = ℕ × ℕ} (newdata_refusal (object_of image size b) s items align) (tt {0}) (s, piece_count (object_of image size b) s) e is
            (two_refused (no_scn b s) (reserved s) tests (tt {0}) (tt {0}) e met
            ∙ ap (λ (r : Option ElfError). answered (first_refusal (r ∷ reserved s ∷ tests)) (tt {0})) (sym (no_section_is image size b s))),
      )

  pub newdata_then : (r : Result DataId (Items × ElfError)) (x : Unit {0}) → (scn_at b s).cell.section ≡ s → Ok x ≡ answered (first_refusal (no_scn b s ∷ reserved s ∷ [])) (tt {0})
      → EditsWith (result_map numbers_of r) items (tt {0}) (tt {0}) (answered {A = ℕ × ℕ} (append_refused b.header.class (scn_at b s).cell items align) (s, length (scn_at b s).cell.pieces)) (tt {0})
      → EditsWith (result_map numbers_of r) items (tt {0}) (tt {0}) (answered {A = ℕ × ℕ} (newdata_refusal (object_of image size b) s items align) (s, piece_count (object_of image size b) s)) (tt {0})
  unfolding append_refused
  newdata_then r x number passed is =
      let tests : List (Option ElfError) = refused_if (nat_le MAX_PIECES (length (scn_at b s).cell.pieces)) TooMany ∷ refused_if (not (is_piece_align align)) (BadAlign align) ∷ unfit_piece b.header.class (scn_at b s).cell (length (scn_at b s).cell.pieces) items ∷ [] in
      subst (λ (stated : Result (ℕ × ℕ) ElfError). EditsWith (result_map numbers_of r) items (tt {0}) (tt {0}) stated (tt {0}))
      (ap (λ (t : Option ElfError). answered {A = ℕ × ℕ} t (s, length (scn_at b s).cell.pieces)) (sym (newdata_tests number ∙ two_passed (no_scn b s) (reserved s) tests (tt {0}) x passed))
      ∙ ap (λ (n : ℕ). answered {A = ℕ × ℕ} (newdata_refusal (object_of image size b) s items align) (s, n)) (sym count_is)) is

-- ---- The state

pub with_stated : {A D : Type 0} (view : D → A) (r : Result D (Items × ElfError)) (items : Items) (stated : Result A ElfError) → EditsWith (result_map view r) items (tt {0}) (tt {0}) stated (tt {0})
    → IfOk r (λ x. stated ≡ Ok (view x))
with_stated view (Ok x) items stated is = is.0
with_stated view (Err e) items stated is = tt

with_left : {A S : Type 0} (refused : Items × ElfError) (items : Items) (old new stepped : S) (stated : Result A ElfError) → EditsWith (Err refused) items (tt {0}) (tt {0}) stated (tt {0})
    → new ≡ old → EditsWith (Err refused) items old new stated stepped
with_left (back, e) items old new stepped stated is same = (is.0, edits_left e old new stepped stated is.1 same)

module _ {S : Type 0} (g : Ghosts S) (source : S) where
  pub edits_with_to : {A D : Type 0} (c : Call A) (view : D → A) (r : Result D (Items × ElfError)) (items : Items) (old new : Body)
      → EditsWith (result_map view r) items (tt {0}) (tt {0}) (c.answer (object_of (g.holds source) (g.size source) old)) (tt {0})
      → OnOk r (IsStepped c.after false old new) → OnErr r (IsStepped (λ o. o) (ready_of old) old new)
      → EditsWith (result_map view r) items (state_of g source old) (state_of g source new) (c.answer (state_of g source old).o) (stepped c (state_of g source old))
  edits_with_to c view (Ok x) items old new is step same = (is.0, state_stepped g source c.after false old new step)
  edits_with_to c view (Err e) items old new is step same =
      with_left e items (state_of g source old) (state_of g source new) (stepped c (state_of g source old)) (c.answer (state_of g source old).o) is (state_stepped g source (λ o. o) (ready_of old) old new same)
