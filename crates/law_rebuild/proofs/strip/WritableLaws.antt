-- What is made of an object without some of its sections has something to write, and an update
-- refuses it for its places alone.
use Rattle.std.proofs.Common.{◌≡◌, ℕ, zero, suc, ◌+◌, ◌<◌, Bool, true, false, not, ◌&&◌, ◌||◌, List, [], ◌∷◌, length, take, get_or, Option, Some, None, refl, ap, ◌∙◌, arith}
use Rattle.std.specs.Prelude.{All, nat_le, filter, if◌then◌else◌, ◌==◌, map}
use Rattle.std.specs.List.{range_with_len, enumerate_from}
use Rattle.std.specs.Option.{option_map}
use Rattle.std.proofs.lemmas.Bool.{and_right, eqb-false}
use Rattle.std.proofs.lemmas.List.Elements.{All-nil, All-cons, All-head, All-tail, All-map, All-weaker, All-filter, All-get_or}
use Rattle.elf_types.specs.Answers.{refused_if, first_refusal}
use Rattle.elf_types.specs.declared.records.Class.{Class}
use Rattle.elf_types.specs.declared.records.Shdr.{Shdr}
use Rattle.elf_types.specs.declared.records.Part.TheVariants as part
use Rattle.elf_types.specs.declared.errors.ElfError.{ElfError}
use Rattle.elf_types.specs.declared.errors.ElfError.TheVariants.{OutOfFile, TooMany, Unfit}
use Rattle.elf_types.specs.declared.constants.TheConstants.{PN_XNUM, SHN_LORESERVE}
use Rattle.hash_model.specs.elf_xlate.declared.content.Items.{Items}
use Rattle.hash_model.specs.elf_xlate.Headers.{phdr_fits}
use Rattle.hash_model.specs.elf_xlate.Translation.{first_unfit}
use Rattle.hash_model.proofs.elf_xlate.Pieces.{all_pass}
use Rattle.hash_model.specs.elf_ident.Front.{zero_shdr}
use Rattle.hash_model.specs.elf_object.Object.{Object, Section, Piece, absent_section, new_section, section_at, occupies_file, has_file_bytes, home_is_clean, is_dirty, some_section_marked}
use Rattle.hash_model.specs.elf_object.Open.{opened_section, begun, created_over}
use Rattle.hash_model.specs.elf_object.Refusal.{too_many, unfit_segment, unfit_in_piece, unfit_in_section, unfit_item, missing_in_section, missing_home, content_refusal, placing_refusal, refusal}
use Rattle.hash_model.specs.elf_object.Steps.{stored_ehdr, with_ehdr, with_phdrs, with_layout, own_piece}
use Rattle.hash_model.specs.elf_object.Calls.{newphdr_refusal}
use Rattle.hash_model.specs.elf_object.Valid.{IsObject}
use Rattle.hash_model.proofs.elf_object.PassedLaws.{not_refused}
use Rattle.law_object.proofs.PlacedLaws.{each_row}
use Rattle.hash_model.specs.elf_object.Sections.{is_among}
use Rattle.rebuild_model.specs.Followed.{kept_sections}
use Rattle.rebuild_model.specs.Arranged.{Rebuilt, over_base, place_from, table_place_from, section_from, placed_from}
use Rattle.rebuild_model.specs.Rebuilt.{rebuilt_items, rebuilt_header, rebuilt_section, made_section, rebuilt_sections, rebuilt_index, rebuilt_tail, rebuilt_object, assembled}
use Rattle.law_rebuild.specs.Strip.Made.{FitsClass, IsWritable, RebuiltIsWritable, BegunFitsClass}
use Rattle.law_rebuild.proofs.strip.KeptLaws.{IsInRange, range_within}
use Rattle.law_rebuild.proofs.strip.ArrangedLaws.{arranged_keeps}
use Rattle.law_rebuild.proofs.strip.RebuiltLaws.{IsRebuilt, rebuilt_known}
use Rattle.law_rebuild.proofs.strip.FollowedLaws.{rebuilt_items_fit}

-- ---- Lists of refusals of which none comes

next_none : (r : Option ElfError) (rs : List (Option ElfError)) → r ≡ None
    → first_refusal rs ≡ None → first_refusal (r ∷ rs) ≡ None
next_none None rs here rest = rest
next_none (Some e) rs here rest = cc

rows_none : {X : Type 0} (f : ℕ → X → Option ElfError) (n : ℕ) (l : List X)
    → ((k : ℕ) → All (λ x. f k x ≡ None) l)
    → first_refusal (map (λ row. f row.0 row.1) (enumerate_from n l)) ≡ None
rows_none f n [] each = refl
rows_none f n (x ∷ l) each =
    next_none (f n x) (map (λ row. f row.0 row.1) (enumerate_from (n + 1) l))
    (All-head (λ y. f n y ≡ None) x l (each n))
    (rows_none f (n + 1) l (λ k. All-tail (λ y. f k y ≡ None) x l (each k)))

-- ---- Sections whose pieces are own

-- a piece has items of its own, which fit
abbrev pub OwnFits : Class → Piece → Type 0
OwnFits class p = (owned : Items) × (p.own ≡ Some owned) × (first_unfit class owned ≡ None)

pub record HasOwnPieces (class : Class) (c : Section) : Type 0 where
  pub inside : c.home.out ≡ false
  pub pieces : All (OwnFits class) c.pieces

piece_passes : (class : Class) (s i : ℕ) (p : Piece) → OwnFits class p
    → unfit_in_piece class s i p ≡ None
unfolding unfit_in_piece
piece_passes class s i p is =
    ap (λ (x : Option Items). elim x [
      | None ↦ None
      | Some held ↦ option_map (Unfit (part.Piece s i)) (first_unfit class held)
    ]) is.1
    ∙ ap (λ (x : Option ℕ). option_map (Unfit (part.Piece s i)) x) is.2

section_passes : (class : Class) (s : ℕ) (c : Section) → HasOwnPieces class c
    → unfit_in_section class s c ≡ None
unfolding unfit_in_section
section_passes class s c is = by_test (has_file_bytes s c)
  where
    by_test : (b : Bool) → (if b then first_refusal
        (map (λ row. unfit_in_piece class s row.0 row.1) (enumerate_from 0 c.pieces))
        else None) ≡ None
    by_test true =
        rows_none (unfit_in_piece class s) 0 c.pieces (λ i.
        All-weaker (OwnFits class) (λ p. unfit_in_piece class s i p ≡ None)
        (λ p own. piece_passes class s i p own) c.pieces is.pieces)
    by_test false = refl

home_passes : (class : Class) (s : ℕ) (c : Section) → HasOwnPieces class c
    → missing_in_section s c ≡ None
unfolding missing_in_section
home_passes class s c is =
    ap (λ (b : Bool). refused_if b (OutOfFile s))
    (and_right (has_file_bytes s c && home_is_clean c) c.home.out is.inside)

-- ---- An object of such sections

pub record HasContent (q : Object) : Type 0 where
  pub few : nat_le PN_XNUM (length q.phdrs) ≡ false
  pub first : occupies_file (section_at q 0).header ≡ false
  pub segments : unfit_segment q ≡ None
  pub sections : All (HasOwnPieces q.header.class) q.sections
  pub marked : q.header_marked ≡ true

neither : (a b c d : Bool) → a ≡ false → d ≡ false
    → refused_if ((a && b) || (c && d)) TooMany ≡ None
neither true b c d x y = cc
neither false b c true x y = cc
neither false b true false x y = refl
neither false b false false x y = refl

content_none : (q : Object) → HasContent q → content_refusal q ≡ None
unfolding content_refusal too_many unfit_item missing_home
content_none q is =
    next_none (too_many q) (unfit_segment q ∷ unfit_item q ∷ missing_home q ∷ [])
    (neither (nat_le PN_XNUM (length q.phdrs)) (length q.sections == 0)
    (nat_le SHN_LORESERVE (length q.sections)) (occupies_file (section_at q 0).header) is.few
    is.first)
    (next_none (unfit_segment q) (unfit_item q ∷ missing_home q ∷ []) is.segments
    (next_none (unfit_item q) (missing_home q ∷ [])
    (rows_none (unfit_in_section q.header.class) 0 q.sections (λ s.
    All-weaker (HasOwnPieces q.header.class) (λ c. unfit_in_section q.header.class s c ≡ None)
    (λ c own. section_passes q.header.class s c own) q.sections is.sections))
    (next_none (missing_home q) []
    (rows_none missing_in_section 0 q.sections (λ s.
    All-weaker (HasOwnPieces q.header.class) (λ c. missing_in_section s c ≡ None)
    (λ c own. home_passes q.header.class s c own) q.sections is.sections))
    refl)))

header_dirty : (q : Object) → q.header_marked ≡ true → is_dirty q ≡ true
unfolding is_dirty
header_dirty q marked =
    by_marks q.marked q.header_marked q.segments_marked (some_section_marked q) marked
  where
    by_marks : (a b c d : Bool) → b ≡ true → (a || b || c || d) ≡ true
    by_marks true b c d e = refl
    by_marks false true c d e = refl
    by_marks false false c d e = cc

pub is_writable : (q : Object) → HasContent q → IsWritable q
unfolding refusal
is_writable q is =
    let dirty = header_dirty q is.marked in
    let content = content_none q is in
    record {
      dirty = dirty;
      content = content;
      refused =
          ap (λ (b : Bool). if b
          then first_refusal (content_refusal q ∷ placing_refusal q ∷ []) else None) dirty
          ∙ ap (λ (r : Option ElfError). first_refusal (r ∷ placing_refusal q ∷ [])) content
          ∙ alone (placing_refusal q);
    }
  where
    alone : (r : Option ElfError) → first_refusal (None ∷ r ∷ []) ≡ r
    alone None = refl
    alone (Some e) = refl

-- ---- Sections of what is made

pub made_owned : (class : Class) (h : Shdr) (owned : Items) → first_unfit class owned ≡ None
    → HasOwnPieces class (made_section h owned)
unfolding made_section
made_owned class h owned fit =
    record { inside = refl; pieces = pieces (occupies_file h) }
  where
    pieces : (b : Bool) → All (OwnFits class) (if b then own_piece owned 1 ∷ [] else [])
    pieces true =
        All-cons (OwnFits class) (own_piece owned 1) [] (owned, refl, fit)
        (All-nil (OwnFits class))
    pieces false = All-nil (OwnFits class)

pub new_owned : (class : Class) → HasOwnPieces class new_section
new_owned class = record { inside = refl; pieces = All-nil (OwnFits class) }

rebuilt_owned : (o : Object) (removed : List ℕ) (s : ℕ) → IsObject o → FitsClass o
    → s < length o.sections → HasOwnPieces o.header.class (rebuilt_section o removed s)
unfolding rebuilt_section
rebuilt_owned o removed s ok fit inside = by_test (s == 0) refl
  where
    by_test : (b : Bool) → (s == 0) ≡ b → HasOwnPieces o.header.class
        (if b then new_section
        else made_section (rebuilt_header o removed s) (rebuilt_items o removed s))
    by_test true e = new_owned o.header.class
    by_test false e =
        let from : 0 < s = omega (arith, eqb-false s 0 e) in
        made_owned o.header.class (rebuilt_header o removed s) (rebuilt_items o removed s)
        (rebuilt_items_fit o removed s ok fit from inside)

all_owned : (o : Object) (removed : List ℕ) → IsObject o → FitsClass o
    → All (HasOwnPieces o.header.class) (rebuilt_sections o removed)
unfolding rebuilt_sections kept_sections
all_owned o removed ok fit =
    All-map (HasOwnPieces o.header.class) (rebuilt_section o removed)
    (filter (λ s. not (is_among removed s)) (range_with_len 0 (length o.sections)))
    (All-filter (λ s. not (is_among removed s))
    (λ s. HasOwnPieces o.header.class (rebuilt_section o removed s))
    (range_with_len 0 (length o.sections))
    (All-weaker (λ s. IsInRange 0 (0 + length o.sections) s)
    (λ s. HasOwnPieces o.header.class (rebuilt_section o removed s))
    (λ s is. rebuilt_owned o removed s ok fit (omega (arith, is.1)))
    (range_with_len 0 (length o.sections)) (range_within 0 (length o.sections))))

-- section 0 is made of section 0
first_made : (f : ℕ → Section) (keep : ℕ → Bool) (n : ℕ) → keep 0 ≡ true → f 0 ≡ new_section
    → occupies_file
    (get_or (map f (filter keep (range_with_len 0 n))) 0 absent_section).header ≡ false
unfolding zero_shdr
first_made f keep zero passes is = refl
first_made f keep (suc n) passes is =
    ap (λ (b : Bool). occupies_file (get_or (map f (if b
    then 0 ∷ filter keep (range_with_len 1 n) else filter keep (range_with_len 1 n))) 0
    absent_section).header) passes
    ∙ ap (λ (c : Section). occupies_file c.header) is

first_empty : (o : Object) (removed : List ℕ) → is_among removed 0 ≡ false
    → occupies_file (get_or (rebuilt_sections o removed) 0 absent_section).header ≡ false
unfolding rebuilt_sections kept_sections rebuilt_section
first_empty o removed stays =
    first_made (rebuilt_section o removed) (λ s. not (is_among removed s)) (length o.sections)
    (ap not stays) refl

-- ---- What is made, before its places are given

assembled_content : (o : Object) (base : List ℕ) (layout : Bool) (index : ℕ)
    (sections : List Section) → nat_le PN_XNUM (length o.phdrs) ≡ false
    → occupies_file (get_or sections 0 absent_section).header ≡ false → unfit_segment o ≡ None
    → All (HasOwnPieces o.header.class) sections
    → HasContent (assembled
    (with_layout (created_over o.header.class o.header.order base) layout) o index sections)
unfolding assembled with_ehdr stored_ehdr with_phdrs created_over unfit_segment section_at
assembled_content o base layout index sections few first segments each =
    record { few = few; first = first; segments = segments; sections = each; marked = refl }

-- over the base that a tail leaves
pub over_base_content : (o : Object) (tail : Option ℕ) (index : ℕ) (sections : List Section)
    → newphdr_refusal (length o.phdrs) ≡ None
    → occupies_file (get_or sections 0 absent_section).header ≡ false → unfit_segment o ≡ None
    → All (HasOwnPieces o.header.class) sections
    → HasContent (assembled (over_base o tail) o index sections)
unfolding over_base created_over
over_base_content o None index sections passed first segments each =
    assembled_content o [] false index sections
    (not_refused (nat_le PN_XNUM (length o.phdrs)) TooMany passed) first segments each
over_base_content o (Some tail) index sections passed first segments each =
    assembled_content o (take tail o.base) true index sections
    (not_refused (nat_le PN_XNUM (length o.phdrs)) TooMany passed) first segments each

rebuilt_content : (o : Object) (removed : List ℕ) (r : Rebuilt) → IsObject o → FitsClass o
    → is_among removed 0 ≡ false → IsRebuilt o removed r
    → HasContent (rebuilt_object o removed)
unfolding rebuilt_object
rebuilt_content o removed r ok fit stays known =
    over_base_content o (rebuilt_tail o removed) (rebuilt_index o removed)
    (rebuilt_sections o removed) known.segments (first_empty o removed stays) fit.segments
    (all_owned o removed ok fit)

-- ---- With its places

section_from_owned : (q : Object) (tail s : ℕ) (c : Section) → HasOwnPieces q.header.class c
    → HasOwnPieces q.header.class (section_from q tail s c)
unfolding section_from
section_from_owned q tail s c is = by_place (place_from q tail s)
  where
    by_place : (place : Option ℕ) → HasOwnPieces q.header.class (elim place [
      | None ↦ c
      | Some new ↦ record c { header = record c.header { offset = new }; marked = true }
    ])
    by_place None = is
    by_place (Some new) = record { inside = is.inside; pieces = is.pieces }

section_from_type : (q : Object) (tail s : ℕ) (c : Section)
    → (section_from q tail s c).header.stype ≡ c.header.stype
unfolding section_from
section_from_type q tail s c = by_place (place_from q tail s)
  where
    by_place : (place : Option ℕ)
        → (let made : Section = elim place [
          | None ↦ c
          | Some new ↦ record c { header = record c.header { offset = new }; marked = true }
        ] in made.header.stype) ≡ c.header.stype
    by_place None = refl
    by_place (Some new) = refl

first_from : (f : ℕ → Section → Section) (l : List Section)
    → ((c : Section) → (f 0 c).header.stype ≡ c.header.stype)
    → occupies_file (get_or l 0 absent_section).header ≡ false
    → occupies_file (get_or (map (λ row. f row.0 row.1) (enumerate_from 0 l)) 0
    absent_section).header ≡ false
first_from f [] same first = first
first_from f (c ∷ l) same first =
    ap (λ (t : ℕ). not (t == 0 || t == 8)) (same c) ∙ first

pub placed_content : (q : Object) (tail : ℕ) → HasContent q → HasContent (placed_from q tail)
unfolding placed_from with_ehdr stored_ehdr unfit_segment section_at
placed_content q tail is = by_test (length q.sections == 0)
  where
    by_test : (b : Bool) → HasContent (if b then q else with_ehdr
        (record q {
          sections = map (λ row. section_from q tail row.0 row.1) (enumerate_from 0 q.sections);
        })
        (record q.header { shoff = table_place_from q tail }))
    by_test true = is
    by_test false = record {
      few = is.few;
      first = first_from (section_from q tail) q.sections (section_from_type q tail 0) is.first;
      segments = is.segments;
      sections = All-map (HasOwnPieces q.header.class) (λ row. section_from q tail row.0 row.1)
          (enumerate_from 0 q.sections)
          (each_row (λ row. HasOwnPieces q.header.class (section_from q tail row.0 row.1))
          q.sections absent_section
          (λ i h. section_from_owned q tail i (get_or q.sections i absent_section)
          (All-get_or (HasOwnPieces q.header.class) q.sections i absent_section h is.sections)));
      marked = refl;
    }

pub rebuilt_is_writable : RebuiltIsWritable
rebuilt_is_writable o removed r ok fit stays e =
    let known = rebuilt_known o removed r e in
    let is = rebuilt_content o removed r ok fit stays known in
    is_writable r.object
    (arranged_keeps HasContent
    (record { object = rebuilt_object o removed; tail = rebuilt_tail o removed }) r known.is is
    (λ tail stated passed. placed_content (rebuilt_object o removed) tail is))

-- ---- An object that is begun

opened_passes : (class : Class) (s : ℕ) (image : List ℕ) (h : Shdr)
    → unfit_in_section class s (opened_section image h) ≡ None
unfolding unfit_in_section unfit_in_piece opened_section
opened_passes class s image h = by_test (has_file_bytes s (opened_section image h))
  where
    by_test : (b : Bool) → ◌≡◌ {A = Option ElfError}
        (if b then first_refusal (None ∷ []) else None) None
    by_test true = refl
    by_test false = refl

pub begun_fits_class : BegunFitsClass
unfolding unfit_segment unfit_item begun
begun_fits_class f image is = record {
  segments = ap (λ (x : Option ℕ). option_map (Unfit part.Segments) x)
      (all_pass (phdr_fits f.ehdr.class) f.phdrs is.fitting_phdrs);
  items = rows_none (unfit_in_section f.ehdr.class) 0 (map (opened_section image) f.shdrs)
      (λ s. All-map (λ c. unfit_in_section f.ehdr.class s c ≡ None) (opened_section image)
      f.shdrs (λ i d h. opened_passes f.ehdr.class s image (get_or f.shdrs i d)));
}
