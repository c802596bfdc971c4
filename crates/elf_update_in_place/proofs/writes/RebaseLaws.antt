-- An object over another base of the same length has the same parts, and its places stay stored.
use Rattle.std.proofs.Common.{◌≡◌, ℕ, ◌+◌, ◌<◌, ◌≤◌, true, false, List, [], ◌∷◌, ◌++◌, Option, None, length, get_or, refl, sym, ap, ◌∙◌, subst}
use Rattle.std.specs.Prelude.{map, if◌then◌else◌}
use Rattle.std.specs.List.{enumerate_from}
use Rattle.elf_types.specs.declared.errors.ElfError.{ElfError}
use Rattle.elf_types.specs.declared.records.DataId.{DataId}
use Rattle.elf_types.specs.declared.records.Part.{Part}
use Rattle.elf_types.specs.declared.records.Part.TheVariants as part
use Rattle.elf_types.specs.Answers.{first_refusal}
use Rattle.elf_layout.specs.declared.parts.PartAt.{PartAt}
use Rattle.elf_layout.specs.declared.parts.Places.{Places}
use Rattle.elf_layout.specs.Layout.{places_of as parts_places, refusal_of}
use Rattle.elf_update_to.specs.elf_object.Answers.{piece_count}
use Rattle.elf_update_to.specs.elf_object.Object.{Object, Section, section_at, piece_at, header_of, is_dirty, some_section_marked}
use Rattle.elf_update_to.specs.elf_object.Valid.{IsObject}
use Rattle.elf_update_to.specs.elf_object.Joined.{file_bytes, pieces_end, piece_blocks}
use Rattle.elf_update_to.specs.elf_object.Layout.{header_part, segments_part, section_part, table_part, section_numbers, parts_of, places_of, placed_header, placed_shdr, placed_section, placed_by}
use Rattle.elf_update_to.specs.elf_object.Image.{front_blocks}
use Rattle.elf_update_to.specs.elf_object.Refusal.{too_many, unfit_segment, unfit_item, missing_home, content_refusal, placing_refusal, refusal}
use Rattle.elf_update_to.proofs.law_object.ImageLaws.{placed-dirty}
use Rattle.elf_update_to.specs.elf_descriptor.State.{State}
use Rattle.elf_update_to.specs.Origins.{absent_piece}
use Rattle.elf_update_to.specs.Descriptors.{HasStoredPlaces, stored_pieces, HasToRead}
use Rattle.elf_update_to.proofs.DataLaws.{some_there}
use Rattle.elf_update_to.proofs.CopyLaws.{read_there}
use Rattle.elf_update_in_place.specs.Writes.Overwrites.{NeedsNoRead}

same_map : {X Y : Type 0} (f g : X → Y) (l : List X) → ((x : X) → f x ≡ g x) → map f l ≡ map g l
same_map f g [] h = refl
same_map f g (x ∷ l) h = let here = h x in let rest = same_map f g l h in cc

-- ---- Parts and places

section-rebased : (o : Object) (base : List ℕ) (s : ℕ)
    → section_part (record o { base = base }) s ≡ section_part o s
unfolding section_part file_bytes pieces_end piece_blocks section_at
section-rebased o base s = refl

parts-rebased : (o : Object) (base : List ℕ) → parts_of (record o { base = base }) ≡ parts_of o
unfolding parts_of
parts-rebased o base =
    ap (λ (l : List PartAt). header_part o ∷ segments_part o ∷ l ++ table_part o ∷ [])
    (same_map (section_part (record o { base = base })) (section_part o) (section_numbers o)
    (section-rebased o base))

places-rebased : (o : Object) (base : List ℕ) → length base ≡ length o.base
    → places_of (record o { base = base }) ≡ places_of o
unfolding places_of
places-rebased o base long =
    ap (λ (l : List PartAt). parts_places l o.layout (length base)) (parts-rebased o base)
    ∙ ap (parts_places (parts_of o) o.layout) long

row-rebased : (places : Places) (o : Object) (base : List ℕ) (row : ℕ × Section)
    → placed_section places (record o { base = base }) row.0 row.1
    ≡ placed_section places o row.0 row.1
unfolding placed_section placed_shdr placed_header header_of file_bytes pieces_end piece_blocks section_at
row-rebased places o base row = refl

placed_by-rebased : (places : Places) (o : Object) (base : List ℕ)
    → placed_by places (record o { base = base }) ≡ record (placed_by places o) { base = base }
unfolding placed_by placed_header header_of
placed_by-rebased places o base =
    ap (λ (l : List Section).
    record o { header = placed_header places o; sections = l; base = base })
    (same_map (λ (row : ℕ × Section). placed_section places (record o { base = base }) row.0 row.1)
    (λ (row : ℕ × Section). placed_section places o row.0 row.1) (enumerate_from 0 o.sections)
    (row-rebased places o base))

dirty-rebased : (o : Object) (base : List ℕ) → is_dirty (record o { base = base }) ≡ is_dirty o
unfolding is_dirty some_section_marked
dirty-rebased o base = refl

-- ---- Refusals

content-rebased : (o : Object) (base : List ℕ)
    → content_refusal (record o { base = base }) ≡ content_refusal o
unfolding content_refusal too_many unfit_segment unfit_item missing_home section_at
content-rebased o base = refl

placing-rebased : (o : Object) (base : List ℕ) → length base ≡ length o.base
    → placing_refusal (record o { base = base }) ≡ placing_refusal o
unfolding placing_refusal
placing-rebased o base long =
    ap (λ (l : List PartAt). refusal_of l o.layout (length base) o.header.class)
    (parts-rebased o base)
    ∙ ap (λ (n : ℕ). refusal_of (parts_of o) o.layout n o.header.class) long

refusal-rebased : (o : Object) (base : List ℕ) → length base ≡ length o.base
    → refusal (record o { base = base }) ≡ refusal o
unfolding refusal is_dirty some_section_marked
refusal-rebased o base long =
    ap (λ (r : Option ElfError).
    if is_dirty o then first_refusal (r ∷ placing_refusal (record o { base = base }) ∷ []) else None)
    (content-rebased o base)
    ∙ ap (λ (r : Option ElfError).
    if is_dirty o then first_refusal (content_refusal o ∷ r ∷ []) else None)
    (placing-rebased o base long)

-- ---- An object whose places are stored

stored_rebased : (o : Object) (base : List ℕ) → length base ≡ length o.base
    → IsObject (record o { base = base }) → HasStoredPlaces o → HasStoredPlaces (record o { base = base })
stored_rebased o base long object stored =
    let dirty : is_dirty (record o { base = base }) ≡ true =
    dirty-rebased o base ∙ stored.ready.dirty in
    record {
      ready = record {
        object = object;
        dirty = dirty;
        passed = refusal-rebased o base long ∙ stored.ready.passed;
      };
      placed = placed-dirty (record o { base = base }) dirty
          ∙ ap (λ (p : Places). placed_by p (record o { base = base })) (places-rebased o base long)
          ∙ placed_by-rebased (places_of o) o base
          ∙ ap (λ (q : Object). record q { base = base })
          (sym (placed-dirty o stored.ready.dirty) ∙ stored.placed);
    }

pieces_rebased : (o : Object) (base : List ℕ) (p : Part)
    → stored_pieces (record o { base = base }) p ≡ stored_pieces o p
unfolding front_blocks section_at
pieces_rebased o base part.Header = refl
pieces_rebased o base part.Segments = refl
pieces_rebased o base part.Table = refl
pieces_rebased o base (part.Section s) = refl
pieces_rebased o base part.Object = refl
pieces_rebased o base (part.Piece s p) = refl

at_hand_rebased : {S : Type 0} (e : State S) (base : List ℕ) (x : S) (p : Part) → NeedsNoRead e p
    → NeedsNoRead (record e { o = record e.o { base = base }; source = x }) p
unfolding piece_at piece_count section_at
at_hand_rebased e base x part.Header is = tt
at_hand_rebased e base x part.Segments is = tt
at_hand_rebased e base x part.Table is = tt
at_hand_rebased e base x (part.Section s) is = is
at_hand_rebased e base x part.Object is = tt
at_hand_rebased e base x (part.Piece s p) is = tt

-- ---- After a step that changed the base alone

module _ {S : Type 0} (e f : State S)
    (state : f ≡ record e { o = record e.o { base = f.o.base }; source = f.source }) where
  pub stored_after : length f.o.base ≡ length e.o.base → IsObject f.o → HasStoredPlaces e.o → HasStoredPlaces f.o
  stored_after long object stored =
      let same : f.o ≡ record e.o { base = f.o.base } = ap (λ (q : State S). q.o) state in
      subst HasStoredPlaces (sym same)
      (stored_rebased e.o f.o.base long (subst IsObject same object) stored)

  pub pieces_after : (p : Part) → stored_pieces f.o p ≡ stored_pieces e.o p
  pieces_after p =
      ap (λ (q : State S). stored_pieces q.o p) state ∙ pieces_rebased e.o f.o.base p

  pub at_hand_after : (p : Part) → NeedsNoRead e p → NeedsNoRead f p
  at_hand_after p is =
      subst (λ (q : State S). NeedsNoRead q p) (sym state) (at_hand_rebased e f.o.base f.source p is)

-- what needs no read has not to be read
pub not_to_read : {S : Type 0} (e : State S) (of : Part) (p from n : ℕ) (d : DataId)
    → NeedsNoRead e of → 0 < n → from + n ≤ length (get_or (stored_pieces e.o of) p absent_piece).1
    → HasToRead e of p d → ⊥
not_to_read e of p from n d held some there is =
    let hand = subst (λ (x : Part). NeedsNoRead e x) is.section held in
    let within = read_there e of p d is from n n refl there in
    let place = some_there e.o d.section d.piece from n some within in
    let loaded = hand d.piece place.filled place.section place.piece is.unread.clean in
    let clash : false ≡ true = sym is.unread.unread ∙ loaded in cc
