-- The parts of the stripped half as it was written, and how a section of what two halves are
-- combined to stands beside them.
use Rattle.std.proofs.Common.{◌≡◌, ℕ, ◌+◌, ◌-◌, ◌*◌, ◌<◌, ◌≤◌, Bool, true, false, ◌&&◌, List, [], ◌∷◌, ◌++◌, length, get_or, None, Ok, refl, sym, ap, ◌∙◌, subst, arith, ◌⊎◌, zero-mul}
use Rattle.std.specs.Prelude.{nat_lt, if◌then◌else◌, map}
use Rattle.std.specs.List.{range_with_len, AllByRecursion}
use Rattle.std.proofs.lemmas.Bool.{and_right}
use Rattle.elf_layout.specs.declared.parts.PartAt.{PartAt}
use Rattle.elf_layout.specs.Layout.{in_order_from, length_from, length_of, standing, places_of as parts_places}
use Rattle.elf_layout.specs.Meeting.{has_bytes, end_of, meets}
use Rattle.elf_object.specs.Object.{Object, is_dirty}
use Rattle.elf_object.specs.Open.{begun, opened}
use Rattle.elf_object.specs.Image.{image_length, image}
use Rattle.elf_object.specs.Layout.{section_part, table_part, parts_of, places_of}
use Rattle.elf_object.specs.Refusal.{placing_refusal, refusal}
use Rattle.law_rebuild.proofs.law_object.ImageLaws.{length-image}
use Rattle.law_rebuild.proofs.law_object.PlaceLaws.{Pairs, ends_within, standing_apart}
use Rattle.law_rebuild.proofs.law_object.PlacedLaws.{update_passes}
use Rattle.law_rebuild.proofs.law_object.StandLaws.{row_left}
use Rattle.rebuild_model.specs.Arranged.{movable}
use Rattle.law_split.specs.Halves.{origin_number}
use Rattle.law_split.proofs.Extents.{tail_row}
use Rattle.law_split.proofs.Overlaps.{NoneShared, SameExtent, EndsBy, BeginsFrom}
use Rattle.law_split.proofs.Whole.{begun_of}

-- ---- The stripped half, as it was written

-- how long an image with ELF_F_LAYOUT is
long_by_parts : (q : Object) → is_dirty q ≡ true → q.layout ≡ true
    → image_length q ≡ length_from (length q.base) (parts_of q)
unfolding image_length places_of parts_places length_of standing
long_by_parts q dirty layout =
    ap (λ (b : Bool). if b then length_from (if q.layout then length q.base else 0)
    (if q.layout then parts_of q else in_order_from 0 (parts_of q)) else length q.base) dirty
    ∙ ap (λ (b : Bool). length_from (if b then length q.base else 0)
    (if b then parts_of q else in_order_from 0 (parts_of q))) layout

base_opened : (out : List ℕ) (o : Object) → opened out ≡ Ok o → length o.base ≡ length out
unfolding begun
base_opened out o e =
    let found = begun_of out o e in
    sym (ap (λ (x : Object). length x.base) found.2)

-- parts that share no byte, and end by the end of the image
pub record IsLaid (q : Object) (long : ℕ) : Type 0 where
  pub pairs : Pairs NoneShared (parts_of q)
  pub ends : AllByRecursion (EndsBy long) (parts_of q)

pub laid_of : (q : Object) (out : List ℕ) (o : Object) → is_dirty q ≡ true → q.layout ≡ true
    → refusal q ≡ None → image q ≡ out → opened out ≡ Ok o → IsLaid q (length o.base)
unfolding placing_refusal standing end_of
laid_of q out o dirty layout passed is e =
    let both = update_passes q dirty passed in
    let apart = standing_apart (parts_of q) q.layout (length q.base) q.header.class both.1 in
    let long : length_from (length q.base) (parts_of q) ≡ length o.base =
    sym (base_opened out o e ∙ ap length (sym is) ∙ length-image q
    ∙ long_by_parts q dirty layout) in
    record {
      pairs = subst (λ (b : Bool). Pairs NoneShared
          (if b then parts_of q else in_order_from 0 (parts_of q))) layout apart;
      ends = subst (λ (n : ℕ). AllByRecursion (EndsBy n) (parts_of q)) long
          (ends_within (length q.base) (parts_of q));
    }

pub row_part : (q : Object) (t : ℕ) (d : PartAt) → 1 ≤ t → t < length q.sections
    → get_or (map (section_part q) (range_with_len 1 (length q.sections - 1))
    ++ table_part q ∷ []) (t - 1) d ≡ section_part q t
row_part q t d from below =
    let one : 1 + (t - 1) ≡ t = omega (arith, from) in
    row_left (section_part q) (length q.sections - 1) (table_part q) (t - 1) d
    (omega (arith, from, below))
    ∙ ap (section_part q) one

-- a part that has no length
pub lengthless_apart : (a b : PartAt) → a.len ≡ 0 → NoneShared a b
unfolding meets has_bytes
lengthless_apart a b none =
    ap (λ (n : ℕ). (a.filled && nat_lt 0 n) && has_bytes b && nat_lt a.at (end_of b)
    && nat_lt b.at (end_of a)) none
    ∙ ap (λ (c : Bool). c && has_bytes b && nat_lt a.at (end_of b) && nat_lt b.at (end_of a))
    (and_right a.filled false refl)

pub times_none : (n m : ℕ) → n ≡ 0 → n * m ≡ 0
times_none n m none = ap (λ (k : ℕ). k * m) none ∙ zero-mul m

-- ---- How the sections of what is combined stand

-- one that was in the stripped half
pub record IsLoadedPart (removed : List ℕ) (whole q r0 : Object) (tail s : ℕ) : Type 0 where
  pub number : ℕ
  pub from : 1 ≤ number
  pub below : number < length r0.sections
  pub origin : origin_number whole removed number ≡ s
  pub same : SameExtent (section_part q s) (section_part r0 number)
  pub ends : EndsBy tail (section_part q s)

-- one that is placed from the tail on
pub record IsMovedPart (p q : Object) (tail s : ℕ) : Type 0 where
  pub index : ℕ
  pub inside : index < length (movable p)
  pub number : get_or (movable p) index 0 ≡ s
  pub same : SameExtent (section_part q s)
      (get_or (in_order_from tail (tail_row p)) index (table_part p))
  pub begins : BeginsFrom tail (section_part q s)

-- it was in the stripped half, it is placed from the tail on, or it has no bytes in the file
abbrev pub StandsAs : List ℕ → Object → Object → Object → Object → ℕ → ℕ → Type 0
StandsAs removed whole p q r0 tail s =
    IsLoadedPart removed whole q r0 tail s
    ⊎ (IsMovedPart p q tail s ⊎ ((section_part q s).filled ≡ false))
