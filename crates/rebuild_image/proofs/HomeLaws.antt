-- The bytes of a home stand in the base of an object in which nothing is dirty, and are stored as
-- they are.
use Rattle.std.proofs.Common.{◌≡◌, ℕ, zero, suc, Bool, true, false, List, [], ◌∷◌, ◌<◌, ◌^◌, length, take, drop, get_or, Result, Ok, Err, refl, sym, ap, ◌∙◌, subst, ⊎_elim}
use Rattle.std.specs.Prelude.{map, if◌then◌else◌, All}
use Rattle.std.proofs.lemmas.Bool.{cases_lt}
use Rattle.std.proofs.lemmas.List.{get_or_past}
use Rattle.std.proofs.lemmas.List.Elements.{All-get_or, All-nil}
use Rattle.elf_types.specs.Lists.{AreBytes}
use Rattle.elf_types.specs.declared.records.Class.{Class}
use Rattle.elf_types.specs.declared.records.Order.{Order}
use Rattle.elf_types.specs.declared.records.Shdr.{Shdr}
use Rattle.elf_types.specs.declared.errors.ElfError.{ElfError}
use Rattle.rebuild_model.specs.elf_ident.declared.fronts.Front.{Front}
use Rattle.rebuild_model.specs.elf_ident.Front.{front}
use Rattle.elf_xlate.specs.declared.content.Items.{Items}
use Rattle.elf_xlate.specs.declared.content.Items.TheVariants as items
use Rattle.elf_xlate.specs.Translation.{encoded}
use Rattle.elf_xlate.proofs.Bytes.{lowest_same}
use Rattle.rebuild_model.specs.elf_object.Object.{Object, Section, section_at, absent_section, occupies_file}
use Rattle.rebuild_model.specs.elf_object.Open.{home_of, home_bytes, home_len, opened_section, begun, begun_or_refused, opened}
use Rattle.rebuild_model.specs.elf_object.Valid.{IsObject, IsSection, as_opened}
use Rattle.rebuild_model.specs.elf_object.Joined.{aligned_pieces, piece_bytes}
use Rattle.rebuild_model.specs.elf_object.Steps.{own_piece}
use Rattle.rebuild_model.specs.Rebuilt.{made_section}
use Rattle.rebuild_image.specs.Homes.{HomesStand, HomesAreStored}

-- ---- Homes as they are opened

Stands : List ℕ → Section → Type 0
Stands image c = c.home.out ≡ false → c.raw ≡ take c.home.len (drop c.home.at image)

opened_stands : (image : List ℕ) (h : Shdr) → Stands image (opened_section image h)
unfolding Stands opened_section home_of home_bytes
opened_stands image h inside =
    ap (λ (b : Bool). if b then [] else take (home_len h) (drop h.offset image)) inside

absent_stands : (image : List ℕ) → Stands image absent_section
unfolding Stands
absent_stands image inside = refl

each_stands : (image : List ℕ) (headers : List Shdr) (s : ℕ)
    → Stands image (get_or (map (opened_section image) headers) s absent_section)
each_stands image [] s = absent_stands image
each_stands image (h ∷ headers) zero = opened_stands image h
each_stands image (h ∷ headers) (suc s) = each_stands image headers s

begun_stands : (f : Front) (o : Object) (s : ℕ) → begun f o.base ≡ as_opened o
    → Stands o.base (section_at o s)
unfolding begun section_at
begun_stands f o s same =
    let sections : map (opened_section o.base) f.shdrs ≡ o.sections = ap
    (λ (q : Object). q.sections) same in
    subst (λ (l : List Section). Stands o.base (get_or l s absent_section)) sections
    (each_stands o.base f.shdrs s)

opened_stand : (o : Object) (s : ℕ) → opened o.base ≡ Ok (as_opened o)
    → Stands o.base (section_at o s)
unfolding opened
opened_stand o s made = by_front (front o.base) made
  where
    by_front : (r : Result Front ElfError) → begun_or_refused r o.base ≡ Ok (as_opened o)
        → Stands o.base (section_at o s)
    by_front (Ok f) e = begun_stands f o s (let same : begun f o.base ≡ as_opened o = cc in same)
    by_front (Err x) e = cc

pub homes_stand : HomesStand
unfolding Stands
homes_stand o s tied clean inside = opened_stand o s (tied clean) inside

-- ---- As they are stored

-- a section that is not there has no bytes
home_is_bytes : (o : Object) (s : ℕ) → IsObject o → AreBytes (section_at o s).raw
unfolding section_at
home_is_bytes o s object = by_list o.sections object.sections
  where
    by_list : (l : List Section) → All (IsSection o.header.class) l
        → AreBytes (get_or l s absent_section).raw
    by_list l each = ⊎_elim
        (λ there. (All-get_or (IsSection o.header.class) l s absent_section there each).home.bytes)
        (λ past. subst (λ (c : Section). AreBytes c.raw) (sym (get_or_past l s absent_section past))
        (All-nil (λ n. n < 2 ^ 8)))
        (cases_lt s (length l))

abbrev one_piece : List ℕ → List (ℕ × List ℕ)
one_piece bytes = (1, bytes) ∷ []

pub made_pieces : (class : Class) (order : Order) (h : Shdr) (made : Items)
    → occupies_file h ≡ true
    → aligned_pieces class order (made_section h made) ≡ (1, encoded class order made) ∷ []
unfolding aligned_pieces made_section piece_bytes
made_pieces class order h made filled =
    ap (λ (b : Bool). map (λ p. (p.align, piece_bytes class order [] p))
    (if b then own_piece made 1 ∷ [] else [])) filled

stored_bytes : (class : Class) (order : Order) (raw : List ℕ) → AreBytes raw
    → encoded class order (items.Bytes raw) ≡ raw
unfolding encoded
stored_bytes class order raw are = lowest_same raw are

pub homes_are_stored : HomesAreStored
homes_are_stored o s class order h object tied clean inside filled =
    made_pieces class order h (items.Bytes (section_at o s).raw) filled
    ∙ ap one_piece
    (stored_bytes class order (section_at o s).raw (home_is_bytes o s object)
    ∙ homes_stand o s tied clean inside)
