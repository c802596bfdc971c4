-- A section that is added by calls, one after another, is the section that is stated.
use Rattle.std.proofs.Common.{◌≡◌, ◌==◌, ◌<◌, ℕ, Bool, true, false, not, List, [], ◌∷◌, ◌++◌, length, length-append, Option, Some, None, Result, Ok, Err, refl, sym, ap, ◌∙◌, subst, arith}
use Rattle.std.specs.Prelude.{IfSome, IfErr, OnOk, nat_le, if◌then◌else◌}
use lib.Count.{ones}
use Rattle.std.proofs.Math.Seq.{get_or-append_seam, set-append_seam}
use Rattle.std.proofs.lemmas.Bool.{ne_eqb, lt-leb}
use Rattle.elf_types.specs.declared.records.Shdr.{Shdr}
use Rattle.elf_types.specs.declared.records.Part.TheVariants as part
use Rattle.elf_types.specs.declared.errors.ElfError.{ElfError}
use Rattle.elf_types.specs.declared.errors.ElfError.TheVariants.{NoSection, Reserved, TooMany, BadAlign, Unfit}
use Rattle.elf_types.specs.declared.constants.TheConstants.{MAX_PIECES, MAX_SECTIONS, PN_XNUM}
use Rattle.elf_types.specs.Answers.{refused_if, first_refusal, answered, IsRefusal}
use Rattle.rebuild_model.specs.elf_xlate.declared.content.Items.{Items}
use Rattle.rebuild_model.specs.elf_xlate.Headers.{shdr_fits}
use Rattle.rebuild_model.specs.elf_xlate.Translation.{first_unfit}
use Rattle.rebuild_model.specs.elf_object.Object.{Object, Section, section_at, new_section, absent_section, occupies_file}
use Rattle.rebuild_model.specs.elf_object.Steps.{with_section, with_sections, with_new_section, new_number, with_shdr, with_new_piece, own_piece}
use Rattle.rebuild_model.specs.elf_object.Answers.{no_section, reserved, piece_count}
use Rattle.rebuild_model.specs.elf_object.Calls.{update_shdr_refusal, newscn_refusal, newdata_refusal, unfit_items, is_piece_align, newphdr_refusal}
use Rattle.rebuild_model.specs.elf_object.Calls as calls
use Rattle.rebuild_model.specs.elf_object.Words.{Edits, EditsWith, result_map}
use Rattle.rebuild_model.proofs.elf_object.AnswerLaws.{answered_value}
use Rattle.rebuild_model.proofs.elf_object.RefusalLaws.{Refuses, test_refuses, first_refuses}
use Rattle.elf_update_plan.specs.elf_descriptor.State.{State}
use Rattle.elf_update_plan.specs.elf_descriptor.Edits.{grown, stepped, with_none}
use Rattle.rebuild_model.specs.Rebuilt.{made_section}
use Rattle.rebuild_making.specs.Refused.{RefusedBy}
use Rattle.rebuild_making.specs.Made.{refusal_alone, with_last, bare_section, grown_to, with_new_data, new_data_refusal, unfit_header, bare_refusal, unfit_data, added_refusal}
use Rattle.rebuild_making.proofs.RefusedLaws.{alone, passes_first, first_step_refused, refused_later, refused_as, answer_refused, answer_passed}

-- ---- The last section

last_at : (o : Object) (c : Section) → section_at (with_last o c) (length o.sections) ≡ c
unfolding section_at
last_at o c = get_or-append_seam o.sections c [] absent_section

same_count : (l : List Section) (c d : Section) → length (l ++ c ∷ []) ≡ length (l ++ d ∷ [])
same_count l c d = length-append l (c ∷ []) ∙ sym (length-append l (d ∷ []))

last_set : (o : Object) (c d : Section)
    → with_section (with_last o c) (length o.sections) d ≡ with_last o d
unfolding with_section
last_set o c d =
    ap (λ (l : List Section). record (with_last o c) { sections = l })
    (set-append_seam o.sections c [] d)
    ∙ ap (λ (n : ℕ). record o {
      header = record o.header { shnum = n };
      sections = o.sections ++ d ∷ [];
    }) (same_count o.sections c d)

shdr_stored : (o : Object) (h : Shdr)
    → with_shdr (with_last o new_section) (length o.sections) h ≡ with_last o (bare_section h)
unfolding with_shdr
shdr_stored o h =
    ap (λ (c : Section). with_section (with_last o new_section) (length o.sections)
    (record c { header = h; marked = true })) (last_at o new_section)
    ∙ last_set o new_section (bare_section h)

-- with data
piece_added : (o : Object) (h : Shdr) (items : Items)
    → with_new_piece (with_last o (bare_section h)) (length o.sections) items 1
    ≡ with_last o (record (bare_section h) { pieces = own_piece items 1 ∷ [] })
unfolding with_new_piece
piece_added o h items =
    ap (λ (c : Section). with_section (with_last o (bare_section h)) (length o.sections)
    (record c { pieces = c.pieces ++ own_piece items 1 ∷ [] })) (last_at o (bare_section h))
    ∙ last_set o (bare_section h) (record (bare_section h) { pieces = own_piece items 1 ∷ [] })

-- by whether the section has bytes in the file
made_when : (h : Shdr) (items : Items) (b : Bool) → occupies_file h ≡ b
    → made_section h items
    ≡ record (bare_section h) { pieces = if b then own_piece items 1 ∷ [] else [] }
unfolding made_section
made_when h items b is =
    ap (λ (t : Bool). record (bare_section h) {
      pieces = if t then own_piece items 1 ∷ [] else [];
    }) is

-- ---- What the calls refuse, where there are sections

module _ (o : Object) (some : 0 < length o.sections) where
  not_zero : (length o.sections == 0) ≡ false
  not_zero = ne_eqb (length o.sections) 0 (λ is. omega (arith, is, some))

  grown_is : with_new_section o ≡ with_last o new_section
  unfolding with_new_section
  grown_is =
      ap (λ (b : Bool). with_sections o (o.sections
      ++ (if b then new_section ∷ new_section ∷ [] else new_section ∷ []))) not_zero

  pub number_is : new_number o ≡ length o.sections
  number_is = ap (λ (b : Bool). if b then 1 else length o.sections) not_zero

  there : (c : Section) → no_section (with_last o c) (length o.sections) ≡ None
  there c =
      ap (λ (b : Bool). refused_if b
      (NoSection (length o.sections) (length (o.sections ++ c ∷ []))))
      (lt-leb (length (o.sections ++ c ∷ [])) (length o.sections)
      (omega (arith, length-append o.sections (c ∷ []))))

  usable : reserved (length o.sections) ≡ None
  usable = ap (λ (b : Bool). refused_if b Reserved) not_zero

  shdr_refusal : (h : Shdr)
      → update_shdr_refusal (with_last o new_section) (length o.sections) h
      ≡ unfit_header o (length o.sections) h
  unfolding update_shdr_refusal unfit_header
  shdr_refusal h =
      let unfit = refused_if (not (shdr_fits o.header.class h))
      (Unfit (part.Section (length o.sections)) 0) in
      ap (λ (r : Option ElfError). first_refusal
      (r ∷ reserved (length o.sections) ∷ unfit ∷ [])) (there new_section)
      ∙ ap (λ (r : Option ElfError). first_refusal (r ∷ unfit ∷ [])) usable
      ∙ alone unfit

  no_pieces : (h : Shdr) → piece_count (with_last o (bare_section h)) (length o.sections) ≡ 0
  unfolding piece_count
  no_pieces h = ap (λ (c : Section). length c.pieces) (last_at o (bare_section h))

  data_refusal : (h : Shdr) (items : Items)
      → newdata_refusal (with_last o (bare_section h)) (length o.sections) items 1
      ≡ unfit_items o (length o.sections) 0 items
  unfolding newdata_refusal is_piece_align ones
  data_refusal h items =
      let count = piece_count (with_last o (bare_section h)) (length o.sections) in
      let unfit = λ (n : ℕ). unfit_items o (length o.sections) n items in
      let rest = λ (n : ℕ). refused_if (nat_le MAX_PIECES n) TooMany
      ∷ refused_if (not (is_piece_align 1)) (BadAlign 1) ∷ unfit n ∷ [] in
      ap (λ (r : Option ElfError). first_refusal (r ∷ reserved (length o.sections) ∷ rest count))
      (there (bare_section h))
      ∙ ap (λ (r : Option ElfError). first_refusal (r ∷ rest count)) usable
      ∙ ap (λ (n : ℕ). first_refusal (rest n)) (no_pieces h)
      ∙ alone (unfit 0)

-- ---- What is refused is stated

pub newscn_states : (o : Object) → IfSome (newscn_refusal o) IsRefusal
newscn_states o = test_refuses (nat_le MAX_SECTIONS (length o.sections)) TooMany tt

pub newphdr_states : (n : ℕ) → IfSome (newphdr_refusal n) IsRefusal
newphdr_states n = test_refuses (nat_le PN_XNUM n) TooMany tt

header_states : (o : Object) (s : ℕ) (h : Shdr) → IfSome (unfit_header o s h) IsRefusal
unfolding unfit_header
header_states o s h =
    test_refuses (not (shdr_fits o.header.class h)) (Unfit (part.Section s) 0) tt

items_state : (o : Object) (s p : ℕ) (items : Items) → IfSome (unfit_items o s p items) IsRefusal
items_state o s p items = by_first (first_unfit o.header.class items)
  where
    by_first : (found : Option ℕ) → Refuses (elim found [
      | None ↦ None
      | Some i ↦ Some (Unfit (part.Piece s p) i)
    ])
    by_first None = tt
    by_first (Some i) = tt

pub newdata_states : (o : Object) (s : ℕ) (items : Items) (align : ℕ)
    → IfSome (newdata_refusal o s items align) IsRefusal
unfolding newdata_refusal
newdata_states o s items align =
    first_refuses
    (no_section o s
    ∷ reserved s
    ∷ refused_if (nat_le MAX_PIECES (piece_count o s)) TooMany
    ∷ refused_if (not (is_piece_align align)) (BadAlign align)
    ∷ unfit_items o s (piece_count o s) items
    ∷ []) (
      test_refuses (nat_le (length o.sections) s) (NoSection s (length o.sections)) tt,
      (
        test_refuses (s == 0) Reserved tt,
        (
          test_refuses (nat_le MAX_PIECES (piece_count o s)) TooMany tt,
          (
            test_refuses (not (is_piece_align align)) (BadAlign align) tt,
            (items_state o s (piece_count o s) items, tt),
          ),
        ),
      ),
    )

-- what hands the items back is refused by the same
pub data_edits : {A C B S : Type 0} (f : A → C) (came : Result A (B × ElfError))
    (r : Result A ElfError) (items : B) (old new stepped : S) (stated : Result C ElfError)
    → refusal_alone came ≡ r → EditsWith (result_map f came) items old new stated stepped
    → Edits (result_map f r) old new stated stepped
data_edits {A} f (Ok x) r items old new stepped stated is edits =
    subst (λ (a : Result A ElfError). Edits (result_map f a) old new stated stepped) is edits
data_edits {A} f (Err (back, e)) r items old new stepped stated is edits =
    subst (λ (a : Result A ElfError). Edits (result_map f a) old new stated stepped) is edits.1

-- ---- A section without data

-- with an object, which counts as one of so many sections
abbrev state_with : {S : Type 0} → State S → Object → ℕ → State S
state_with old q n = record old {
  o = q;
  loaded = with_none n old.loaded;
  held = with_none n old.held;
  room = with_none n old.room;
  ready = false;
}

module _ {S : Type 0} (old mid new : State S) (h : Shdr) (s : ℕ)
    (some : 0 < length old.o.sections)
    (number : answered (newscn_refusal old.o) (new_number old.o) ≡ Ok s)
    (mid_is : mid ≡ grown calls.newscn old) where
  number_passed : newscn_refusal old.o ≡ None
  number_passed = (answered_value (newscn_refusal old.o) (new_number old.o) s number).0

  pub bare_number : s ≡ length old.o.sections
  bare_number =
      (answered_value (newscn_refusal old.o) (new_number old.o) s number).1
      ∙ number_is old.o some

  mid_made : mid ≡ grown_to old (with_last old.o new_section)
  mid_made = mid_is ∙ ap (λ (q : Object). grown_to old q) (grown_is old.o some)

  pub bare_made : new ≡ stepped (calls.update_shdr s h) mid
      → new ≡ grown_to old (with_last old.o (bare_section h))
  bare_made new_is =
      new_is
      ∙ ap (λ (n : ℕ). stepped (calls.update_shdr n h) mid) bare_number
      ∙ ap (λ (m : State S). stepped (calls.update_shdr (length old.o.sections) h) m) mid_made
      ∙ ap (λ (q : Object). state_with old q (length (old.o.sections ++ new_section ∷ [])))
      (shdr_stored old.o h)
      ∙ ap (λ (n : ℕ). state_with old (with_last old.o (bare_section h)) n)
      (same_count old.o.sections new_section (bare_section h))

  refusal_is : update_shdr_refusal mid.o s h ≡ unfit_header old.o (length old.o.sections) h
  refusal_is =
      ap (λ (n : ℕ). update_shdr_refusal mid.o n h) bare_number
      ∙ ap (λ (m : State S). update_shdr_refusal m.o (length old.o.sections) h) mid_made
      ∙ shdr_refusal old.o some h

  pub bare_passed :
      ◌≡◌ {A = Result (Unit {0}) ElfError} (Ok tt) (answered (update_shdr_refusal mid.o s h) tt)
      → bare_refusal old.o h ≡ None
  unfolding bare_refusal
  bare_passed came =
      let unfit = unfit_header old.o (length old.o.sections) h in
      passes_first (newscn_refusal old.o) (unfit ∷ []) number_passed
      ∙ alone unfit
      ∙ sym refusal_is
      ∙ answer_passed (update_shdr_refusal mid.o s h) tt tt came

  pub bare_refused : (e : ElfError)
      → ◌≡◌ {A = Result (Unit {0}) ElfError} (Err e) (answered (update_shdr_refusal mid.o s h) tt)
      → RefusedBy (bare_refusal old.o h) e
  unfolding bare_refusal
  bare_refused e came =
      let unfit = unfit_header old.o (length old.o.sections) h in
      refused_later (newscn_refusal old.o) (unfit ∷ []) e number_passed
      (refused_as unfit (first_refusal (unfit ∷ [])) e (sym (alone unfit))
      (answer_refused unfit tt e (header_states old.o (length old.o.sections) h)
      (came ∙ ap (λ (r : Option ElfError). answered r tt) refusal_is)))

pub bare_first : (o : Object) (h : Shdr) (e : ElfError) → RefusedBy (newscn_refusal o) e
    → RefusedBy (bare_refusal o h) e
unfolding bare_refusal
bare_first o h e by =
    first_step_refused (newscn_refusal o) (unfit_header o (length o.sections) h ∷ []) e by

-- ---- Its data

pub data_pushed : {S : Type 0} (s : State S) (n : ℕ) (h : Shdr) (items : Items) (b : Bool)
    → occupies_file h ≡ b
    → with_new_data s n h items ≡ (if b then stepped (calls.newdata n items) s else s)
data_pushed s n h items b is =
    ap (λ (t : Bool). if t then stepped (calls.newdata n items) s else s) is

pub data_refused : (o : Object) (s : ℕ) (h : Shdr) (items : Items) (b : Bool)
    → occupies_file h ≡ b
    → new_data_refusal o s h items ≡ (if b then newdata_refusal o s items 1 else None)
unfolding new_data_refusal
data_refused o s h items b is =
    ap (λ (t : Bool). if t then newdata_refusal o s items 1 else None) is

module _ {S : Type 0} (old mid : State S) (h : Shdr) (items : Items) (s : ℕ)
    (some : 0 < length old.o.sections) (number : s ≡ length old.o.sections)
    (mid_is : mid ≡ grown_to old (with_last old.o (bare_section h))) where
  data_is : (b : Bool) → occupies_file h ≡ b
      → (if b then stepped (calls.newdata (length old.o.sections) items)
      (grown_to old (with_last old.o (bare_section h)))
      else grown_to old (with_last old.o (bare_section h)))
      ≡ grown_to old (with_last old.o (made_section h items))
  data_is true is =
      let c = record (bare_section h) { pieces = own_piece items 1 ∷ [] } in
      ap (λ (q : Object). state_with old q (length (old.o.sections ++ bare_section h ∷ [])))
      (piece_added old.o h items)
      ∙ ap (λ (n : ℕ). state_with old (with_last old.o c) n)
      (same_count old.o.sections (bare_section h) c)
      ∙ ap (λ (d : Section). grown_to old (with_last old.o d)) (sym (made_when h items true is))
  data_is false is =
      ap (λ (d : Section). grown_to old (with_last old.o d)) (sym (made_when h items false is))

  added_is : with_new_data mid s h items ≡ grown_to old (with_last old.o (made_section h items))
  added_is =
      ap (λ (n : ℕ). with_new_data mid n h items) number
      ∙ ap (λ (m : State S). with_new_data m (length old.o.sections) h items) mid_is
      ∙ data_is (occupies_file h) refl

  stated_data : new_data_refusal mid.o s h items ≡ unfit_data old.o h items
  unfolding new_data_refusal unfit_data
  stated_data =
      ap (λ (n : ℕ). if occupies_file h then newdata_refusal mid.o n items 1 else None) number
      ∙ ap (λ (m : State S). if occupies_file h
      then newdata_refusal m.o (length old.o.sections) items 1 else None) mid_is
      ∙ ap (λ (r : Option ElfError). if occupies_file h then r else None)
      (data_refusal old.o some h items)

  pub section_made : (r : Result (Unit {0}) ElfError) (new : State S)
      → OnOk r (new ≡ with_new_data mid s h items)
      → OnOk r (new ≡ grown_to old (with_last old.o (made_section h items)))
  section_made (Ok u) new is = is ∙ added_is
  section_made (Err e) new is = tt

  pub section_passed : (r : Result (Unit {0}) ElfError) → bare_refusal old.o h ≡ None
      → OnOk r (new_data_refusal mid.o s h items ≡ None)
      → OnOk r (added_refusal old.o h items ≡ None)
  unfolding added_refusal
  section_passed (Ok u) none is =
      passes_first (bare_refusal old.o h) (unfit_data old.o h items ∷ []) none
      ∙ alone (unfit_data old.o h items)
      ∙ sym stated_data
      ∙ is
  section_passed (Err e) none is = tt

  pub section_refused : (r : Result (Unit {0}) ElfError) → bare_refusal old.o h ≡ None
      → IfErr r (RefusedBy (new_data_refusal mid.o s h items))
      → IfErr r (RefusedBy (added_refusal old.o h items))
  unfolding added_refusal
  section_refused (Ok u) none by = tt
  section_refused (Err e) none by =
      let unfit = unfit_data old.o h items in
      refused_later (bare_refusal old.o h) (unfit ∷ []) e none
      (refused_as (new_data_refusal mid.o s h items) (first_refusal (unfit ∷ [])) e
      (stated_data ∙ sym (alone unfit)) by)

pub added_first : (o : Object) (h : Shdr) (items : Items) (e : ElfError)
    → RefusedBy (bare_refusal o h) e → RefusedBy (added_refusal o h items) e
unfolding added_refusal
added_first o h items e by =
    first_step_refused (bare_refusal o h) (unfit_data o h items ∷ []) e by

-- ---- Where nothing refuses it

pub none_refuses : (o : Object) (h : Shdr) (items : Items) → length o.sections < MAX_SECTIONS
    → shdr_fits o.header.class h ≡ true → first_unfit o.header.class items ≡ None
    → added_refusal o h items ≡ None
unfolding added_refusal bare_refusal unfit_header unfit_data
none_refuses o h items room fits each =
    let many = refused_if (nat_le MAX_SECTIONS (length o.sections)) TooMany in
    let unfit = refused_if (not (shdr_fits o.header.class h))
    (Unfit (part.Section (length o.sections)) 0) in
    let bare : first_refusal (many ∷ unfit ∷ []) ≡ None =
    passes_first many (unfit ∷ [])
    (ap (λ (b : Bool). refused_if b TooMany) (lt-leb MAX_SECTIONS (length o.sections) room))
    ∙ alone unfit
    ∙ ap (λ (b : Bool). refused_if (not b) (Unfit (part.Section (length o.sections)) 0)) fits in
    passes_first (first_refusal (many ∷ unfit ∷ [])) (unfit_data o h items ∷ []) bare
    ∙ alone (unfit_data o h items)
    ∙ by_bytes (occupies_file h)
  where
    by_bytes : (b : Bool)
        → (if b then unfit_items o (length o.sections) 0 items else None) ≡ None
    by_bytes true =
        ap (λ (r : Option ℕ). elim r as (λ (x : Option ℕ). Option ElfError) [
          | None ↦ None
          | Some i ↦ Some (Unfit (part.Piece (length o.sections) 0) i)
        ]) each
    by_bytes false = refl
