-- Lists that are compared one after another, and what halves that match have in common.
use Rattle.std.proofs.Common.{◌≡◌, ℕ, suc, ◌+◌, ◌<◌, ◌≤◌, ◌&&◌, Bool, true, false, List, [], ◌∷◌, length, map, drop, get_or, Result, Ok, refl, sym, ap, ◌∙◌, subst}
use Rattle.std.specs.Prelude.{slice_get, Some}
use Rattle.std.specs.Cmp.Lexicographic.{pointwise}
use Rattle.std.proofs.lemmas.Bool.{and_parts}
use Rattle.std.proofs.lemmas.List.{drop_more, drop_all, length-map}
use Rattle.std.proofs.lemmas.Option.{get_or_from_slice_get}
use Rattle.elf_types.specs.declared.records.Class.{Class}
use Rattle.elf_types.specs.declared.records.Class.TheVariants.{C32, C64}
use Rattle.elf_types.specs.declared.records.Ehdr.{Ehdr}
use Rattle.elf_types.specs.declared.records.Shdr.{Shdr}
use Rattle.elf_types.specs.declared.errors.ElfError.{ElfError}
use Rattle.elf_xlate.specs.Headers.{shdr_fits}
use Rattle.rebuild_keep.specs.elf_object.Object.{Object, header_of}
use Rattle.rebuild_keep.specs.elf_object.Valid.{IsObject}
use Rattle.rebuild_keep.proofs.law_object.KeepLaws.{section_at_is}
use Rattle.rebuild_keep.proofs.law_object.PlacedLaws.{shdr_fits_each, shdr_fits_all}
use Rattle.rebuild_keep.proofs.elf_update_plan.RowLaws.{ok_is}
use Rattle.rebuild_keep.specs.elf_object.Sections.{header_at}
use Rattle.rebuild_keep.specs.rebuild_model.Split.{same_class, same_header, same_phdr, same_loaded, allocated, allocated_headers, loaded_header, matches}

-- ---- Two lists

module _ {X Y : Type 0} (E : X → Y → Bool) where
  -- lists of other lengths differ
  pub lengths_differ : (xs : List X) (ys : List Y) → (length xs ≡ length ys → ⊥)
      → false ≡ pointwise E xs ys
  lengths_differ [] [] other = absurd (other refl)
  lengths_differ [] (y ∷ ys) other = refl
  lengths_differ (x ∷ xs) [] other = refl
  lengths_differ (x ∷ xs) (y ∷ ys) other =
      by_test (E x y) (lengths_differ xs ys (λ same. other (ap suc same)))
    where
      by_test : (b : Bool) → false ≡ pointwise E xs ys → false ≡ (b && pointwise E xs ys)
      by_test true later = later
      by_test false later = refl

  pub same_long : (xs : List X) (ys : List Y) → pointwise E xs ys ≡ true → length xs ≡ length ys
  same_long [] [] same = refl
  same_long [] (y ∷ ys) same = let clash : false ≡ true = same in cc
  same_long (x ∷ xs) [] same = let clash : false ≡ true = same in cc
  same_long (x ∷ xs) (y ∷ ys) same =
      ap suc (same_long xs ys (and_parts (E x y) (pointwise E xs ys) same).1)

  -- what is left of them
  abbrev pub RestTells : List X → List Y → ℕ → Type 0
  RestTells xs ys i = pointwise E (drop i xs) (drop i ys) ≡ pointwise E xs ys

  rest_here : (xs : List X) (ys : List Y) (i : ℕ) (x : X) (y : Y) → i < length xs → i < length ys
      → x ≡ get_or xs i x → y ≡ get_or ys i y
      → pointwise E (drop i xs) (drop i ys)
      ≡ (E x y && pointwise E (drop (i + 1) xs) (drop (i + 1) ys))
  rest_here xs ys i x y there too at at_too =
      ap (λ (l : List X). pointwise E l (drop i ys)) (drop_more xs i x there)
      ∙ ap (λ (l : List Y). pointwise E (get_or xs i x ∷ drop (i + 1) xs) l)
      (drop_more ys i y too)
      ∙ ap (λ (z : X). E z (get_or ys i y) && pointwise E (drop (i + 1) xs) (drop (i + 1) ys))
      (sym at)
      ∙ ap (λ (z : Y). E x z && pointwise E (drop (i + 1) xs) (drop (i + 1) ys)) (sym at_too)

  pub rest_more : (xs : List X) (ys : List Y) (i : ℕ) (x : X) (y : Y) (r : Bool)
      → i < length xs → i < length ys → x ≡ get_or xs i x → y ≡ get_or ys i y → r ≡ E x y
      → r ≡ true → RestTells xs ys i → RestTells xs ys (i + 1)
  rest_more xs ys i x y r there too at at_too is same tells =
      sym (ap (λ (b : Bool). b && pointwise E (drop (i + 1) xs) (drop (i + 1) ys))
      (sym is ∙ same))
      ∙ sym (rest_here xs ys i x y there too at at_too)
      ∙ tells

  pub rest_differs : (xs : List X) (ys : List Y) (i : ℕ) (x : X) (y : Y) (r : Bool)
      → i < length xs → i < length ys → x ≡ get_or xs i x → y ≡ get_or ys i y → r ≡ E x y
      → r ≡ false → RestTells xs ys i → false ≡ pointwise E xs ys
  rest_differs xs ys i x y r there too at at_too is other tells =
      sym (ap (λ (b : Bool). b && pointwise E (drop (i + 1) xs) (drop (i + 1) ys))
      (sym is ∙ other))
      ∙ sym (rest_here xs ys i x y there too at at_too)
      ∙ tells

  pub rest_none : (xs : List X) (ys : List Y) (i : ℕ) → length xs ≤ i → length ys ≤ i
      → RestTells xs ys i → true ≡ pointwise E xs ys
  rest_none xs ys i all all_too tells =
      sym (ap (λ (l : List X). pointwise E l (drop i ys)) (drop_all i xs all)
      ∙ ap (λ (l : List Y). pointwise E [] l) (drop_all i ys all_too))
      ∙ tells

pub both_mapped : {X Y A B : Type 0} (E : A → B → Bool) (f : X → A) (g : Y → B) (xs : List X)
    (ys : List Y) → pointwise (λ x y. E (f x) (g y)) xs ys ≡ pointwise E (map f xs) (map g ys)
both_mapped E f g [] [] = refl
both_mapped E f g [] (y ∷ ys) = refl
both_mapped E f g (x ∷ xs) [] = refl
both_mapped E f g (x ∷ xs) (y ∷ ys) = ap (λ (b : Bool). E (f x) (g y) && b) (both_mapped E f g xs ys)

-- ---- Headers

-- the counts are not compared
pub counts_same : (a b : Object) → same_header (header_of a) (header_of b)
    ≡ same_header a.header b.header
unfolding same_header header_of
counts_same a b = refl

pub headers_told : (a b : Object) (one other : Ehdr) (r : Bool)
    → ◌≡◌ {A = Result Ehdr ElfError} (Ok one) (Ok (header_of a))
    → ◌≡◌ {A = Result Ehdr ElfError} (Ok other) (Ok (header_of b))
    → r ≡ same_header one other → r ≡ same_header a.header b.header
headers_told a b one other r is is_too same =
    same
    ∙ ap (λ (h : Ehdr). same_header h other) (ok_is one (header_of a) is)
    ∙ ap (same_header (header_of a)) (ok_is other (header_of b) is_too)
    ∙ counts_same a b

-- ---- The allocated sections

-- the numbers of two lists, by what they name
module _ (a b : Object) where
  abbrev pub alike : ℕ → ℕ → Bool
  alike t s = same_loaded (header_at a t) (header_at b s)

  pub places_are : (xs ys : List ℕ) (r : Bool) → xs ≡ allocated a → ys ≡ allocated b
      → r ≡ pointwise alike xs ys
      → r ≡ pointwise same_loaded (allocated_headers a) (allocated_headers b)
  places_are xs ys r one other is =
      is
      ∙ ap (λ (l : List ℕ). pointwise alike l ys) one
      ∙ ap (pointwise alike (allocated a)) other
      ∙ both_mapped same_loaded (header_at a) (header_at b) (allocated a) (allocated b)

pub number_at_is : (l : List ℕ) (i x : ℕ) → slice_get l i ≡ Some x → x ≡ get_or l i x
number_at_is l i x at = sym (get_or_from_slice_get l i x x at)

-- ---- Halves that match

first_of_three : (a b c : Bool) → (a && b && c) ≡ true → (a ≡ true) × (c ≡ true)
first_of_three a b c is =
    let last = and_parts (a && b) c is in ((and_parts a b last.0).0, last.1)

class_same : (a b : Class) → same_class a b ≡ true → b ≡ a
class_same C32 C32 is = refl
class_same C32 C64 is = let clash : false ≡ true = is in cc
class_same C64 C32 is = let clash : false ≡ true = is in cc
class_same C64 C64 is = refl

-- whether they do, as it was told
pub match_told : (a b : Object) (r t : Bool) → r ≡ matches a b → r ≡ t → matches a b ≡ t
match_told a b r t is at = sym is ∙ at

module _ (a b : Object) (same : matches a b ≡ true) where
  header_matches : same_header a.header b.header ≡ true
  unfolding matches
  header_matches =
      (first_of_three (same_header a.header b.header) (pointwise same_phdr a.phdrs b.phdrs)
      (pointwise same_loaded (allocated_headers a) (allocated_headers b)) same).0

  places_match : pointwise same_loaded (allocated_headers a) (allocated_headers b) ≡ true
  unfolding matches
  places_match =
      (first_of_three (same_header a.header b.header) (pointwise same_phdr a.phdrs b.phdrs)
      (pointwise same_loaded (allocated_headers a) (allocated_headers b)) same).1

  pub match_class : b.header.class ≡ a.header.class
  unfolding same_header
  match_class =
      class_same a.header.class b.header.class
      (first_of_eight (same_class a.header.class b.header.class) _ _ _ _ _ _ _ header_matches)
    where
      first_of_eight : (a b c d e f g h : Bool)
          → (a && b && c && d && e && f && g && h) ≡ true → a ≡ true
      first_of_eight true b c d e f g h is = refl
      first_of_eight false b c d e f g h is = cc

  pub match_many : length (allocated a) ≡ length (allocated b)
  match_many =
      sym (length-map (allocated a) (header_at a))
      ∙ same_long same_loaded (allocated_headers a) (allocated_headers b) places_match
      ∙ length-map (allocated b) (header_at b)

-- ---- Headers that fit

pub told_fits : (o : Object) (s : ℕ) (class : Class) (h : Shdr) → IsObject o
    → o.header.class ≡ class → h ≡ header_at o s → shdr_fits class h ≡ true
told_fits o s class h is same at =
    subst (λ (x : Shdr). shdr_fits class x ≡ true) (sym at)
    (subst (λ (c : Class). shdr_fits c (header_at o s) ≡ true) same (section_at_is o s is).fitting)

pub joined_fits : (class : Class) (h g : Shdr) → shdr_fits class h ≡ true → shdr_fits class g ≡ true
    → shdr_fits class (loaded_header h g) ≡ true
joined_fits class h g fits fits_too =
    let each = shdr_fits_each class h fits in
    let place = shdr_fits_each class g fits_too in
    shdr_fits_all class (loaded_header h g) (record {
      flags = each.flags;
      addr = each.addr;
      offset = place.offset;
      size = each.size;
      addralign = each.addralign;
      entsize = each.entsize;
    })
