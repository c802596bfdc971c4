-- One section that is placed behind an end, and the whole step.
use Rattle.std.proofs.Common.{◌≡◌, ◌+◌, ◌-◌, ◌<◌, ◌≤◌, ◌^◌, ℕ, Bool, true, false, not, ◌==◌, min, List, [], ◌∷◌, ◌++◌, length, map, Option, Some, None, Result, Ok, Err, refl, sym, ap, ◌∙◌, subst, arith, lit<}
use Rattle.std.specs.Prelude.{filter, if◌then◌else◌}
use Rattle.std.specs.List.{range_with_len, enumerate_from}
use Rattle.std.proofs.lemmas.Bool.{and_parts, not-true, eq-eqb, lt-leb, true_from_ne_false}
use Rattle.elf_types.specs.declared.records.Class.{Class}
use Rattle.elf_types.specs.declared.records.Class.TheVariants.{C32, C64}
use Rattle.elf_types.specs.declared.records.Shdr.{Shdr}
use Rattle.elf_types.specs.declared.errors.ElfError.{ElfError}
use Rattle.elf_types.specs.declared.errors.ElfError.TheVariants.{NoSection, TooLarge}
use Rattle.elf_types.specs.Answers.{answered, refused_if}
use Rattle.rebuild_model.specs.elf_layout.declared.parts.PartAt.{PartAt}
use Rattle.rebuild_model.specs.elf_layout.Layout.{rounded_up, place_of, end_after, in_order_from, some_above, limit_of}
use Rattle.rebuild_model.proofs.elf_layout.Placed.{end_after-null}
use Rattle.rebuild_model.specs.elf_object.Object.{Object, section_at, is_null, is_allocated as has_alloc, occupies_file}
use Rattle.rebuild_model.specs.elf_object.Answers.{no_section}
use Rattle.rebuild_model.specs.elf_object.Joined.{file_bytes, pieces_end}
use Rattle.rebuild_model.specs.elf_object.Layout.{section_part, table_part}
use Rattle.rebuild_model.specs.elf_object.Steps.{with_ehdr, with_shdr}
use Rattle.rebuild_model.specs.elf_object.Calls as calls
use Rattle.rebuild_model.specs.elf_object.Words.{result_map}
use Rattle.rebuild_model.proofs.elf_object.AnswerLaws.{answered_value, answered_refusal}
use Rattle.elf_update_plan.proofs.law_object.PlaceLaws.{rounded_up-ge}
use Rattle.elf_update_plan.proofs.law_object.ImageLaws.{length-joined}
use Rattle.elf_update_plan.proofs.law_object.StandLaws.{file_bytes_when}
use Rattle.elf_update_plan.specs.elf_descriptor.State.{State}
use Rattle.elf_update_plan.specs.elf_descriptor.Edits.{stepped, StepsTo}
use Rattle.rebuild_model.specs.elf_object.Sections.{is_allocated, header_at}
use Rattle.rebuild_model.specs.Arranged.{movable, parts_from, section_from, placed_from, table_place_from, tail_refusal, arranged}
use Rattle.rebuild_making.specs.Placing.{is_movable, end_with, FitsBehind, MayStand, with_place, made_of, placed_state}

-- ---- Limits

pub class_limit_small : (class : Class) → limit_of class < 2 ^ 63
unfolding limit_of
class_limit_small C32 = lit< tt
class_limit_small C64 = lit< tt

pub allocated_same : (h : Shdr) → has_alloc h ≡ is_allocated h
unfolding has_alloc is_allocated
allocated_same h = refl

pub section_known : (o : Object) (s : ℕ) → s < length o.sections → no_section o s ≡ None
section_known o s there =
    ap (λ (b : Bool). refused_if b (NoSection s (length o.sections)))
    (lt-leb (length o.sections) s there)

-- ---- One section, by its header and the size of its data

abbrev pair : ℕ → ℕ → ℕ × ℕ
pair m n = (m, n)

-- what is found of a section: its place and the end after it
abbrev IsNext : Object → ℕ → ℕ → ℕ → ℕ → ℕ → Type 0
IsNext o s end limit place next =
    FitsBehind limit end (section_part o s)
    × ◌≡◌ {A = ℕ × ℕ} (place, next)
    (place_of end (section_part o s), end_after end (section_part o s))

module _ (o : Object) (s end : ℕ) (is : is_movable o s ≡ true) where
  not_null : is_null (header_at o s) ≡ false
  not_null =
      not-true (is_null (header_at o s))
      (and_parts (not (is_null (header_at o s))) (not (is_allocated (header_at o s))) is).0

  place_is : place_of end (section_part o s) ≡ rounded_up end (header_at o s).addralign
  unfolding place_of section_part
  place_is =
      ap (λ (b : Bool). rounded_up end (if b then 1 else (header_at o s).addralign)) not_null

  place_ge : end ≤ place_of end (section_part o s)
  unfolding place_of
  place_ge = rounded_up-ge end (section_part o s).align

  bare_part : occupies_file (header_at o s) ≡ false → (section_part o s).filled ≡ false
  unfolding section_part
  bare_part bare = bare

  end_bare : occupies_file (header_at o s) ≡ false → end_after end (section_part o s) ≡ end
  end_bare bare = end_after-null end (section_part o s) (bare_part bare)

  end_filled : 0 < s → occupies_file (header_at o s) ≡ true
      → end_after end (section_part o s) ≡ place_of end (section_part o s) + pieces_end o s
  unfolding end_after section_part
  end_filled first filled =
      ap (λ (b : Bool). if b
      then place_of end (section_part o s) + length (file_bytes o s) else end) filled
      ∙ ap (λ (n : ℕ). place_of end (section_part o s) + n)
      (length-joined o s (file_bytes_when s (section_at o s) first ∙ filled))

-- by its header as it is told
module _ (o : Object) (s end limit : ℕ) (h : Shdr) (told : h ≡ header_at o s)
    (is : is_movable o s ≡ true) where
  aligned : rounded_up end h.addralign ≡ place_of end (section_part o s)
  aligned =
      ap (λ (x : Shdr). rounded_up end x.addralign) told ∙ sym (place_is o s end is)

  -- its place is above the limit
  pub found_above : (rounded_up end h.addralign ≤ limit → ⊥)
      → FitsBehind limit end (section_part o s) → ⊥
  found_above never fits = never (subst (λ (n : ℕ). n ≤ limit) (sym aligned) fits.0)

  module _ (place : ℕ)
      (found : (rounded_up end h.addralign ≤ limit) × (place ≡ rounded_up end h.addralign)) where
    stands : place ≡ place_of end (section_part o s)
    stands = found.1 ∙ aligned

    within : place_of end (section_part o s) ≤ limit
    within = subst (λ (n : ℕ). n ≤ limit) aligned found.0

    pub place_within : place ≤ limit
    place_within = omega (arith, found.0, found.1)

    same_type : (b : Bool) → occupies_file h ≡ b → occupies_file (header_at o s) ≡ b
    same_type b kind = ap (λ (x : Shdr). occupies_file x) (sym told) ∙ kind

    -- it has no bytes in the file
    pub found_bare : occupies_file h ≡ false → IsNext o s end limit place end
    found_bare bare =
        let same = end_bare o s end is (same_type false bare) in (
          (within, omega (arith, same, within, place_ge o s end is)),
          ap (λ (n : ℕ). pair n end) stands
              ∙ ap (λ (n : ℕ). pair (place_of end (section_part o s)) n) (sym same),
        )

    module _ (first : 0 < s) (filled : occupies_file h ≡ true) (len : ℕ)
        (size : len ≡ min (pieces_end o s) (2 ^ 64 - 1)) where
      ends_at : end_after end (section_part o s)
          ≡ place_of end (section_part o s) + pieces_end o s
      ends_at = end_filled o s end is first (same_type true filled)

      -- its bytes pass the limit
      pub found_long : limit - place < len → FitsBehind limit end (section_part o s) → ⊥
      found_long long all =
          let ends = all.1 in
          omega (arith, long, size, stands, place_within, ends, ends_at)

      -- they do not
      pub found_filled : limit < 2 ^ 63 → len ≤ limit - place
          → IsNext o s end limit place (place + len)
      found_filled small short =
          let whole : len ≡ pieces_end o s = omega (arith, small, short, size) in
          let after : end_after end (section_part o s) ≡ place + len =
          omega (arith, ends_at, whole, stands) in (
            (within, omega (arith, after, short, place_within)),
            ap (λ (n : ℕ). pair n (place + len)) stands
                ∙ ap (λ (n : ℕ). pair (place_of end (section_part o s)) n) (sym after),
          )

-- where it is not placed, the end stays
pub stays_behind : (o : Object) (s end limit : ℕ) → is_movable o s ≡ false
    → MayStand o limit end s × (end ≡ end_with o end s)
unfolding end_with
stays_behind o s end limit out = (
  (λ is. let clash : false ≡ true = sym out ∙ is in cc),
  sym (ap (λ (b : Bool). if b then end_after end (section_part o s) else end) out),
)

pub goes_behind : (o : Object) (s end limit place next : ℕ) → is_movable o s ≡ true
    → IsNext o s end limit place next → MayStand o limit end s × (next ≡ end_with o end s)
unfolding end_with
goes_behind o s end limit place next is found = (
  (λ t. found.0),
  ap (λ (p : ℕ × ℕ). p.1) found.1
      ∙ sym (ap (λ (b : Bool). if b then end_after end (section_part o s) else end) is),
)

-- ---- Its place is stored

pub place_stays : {S : Type 0} (old : State S) (s end : ℕ) → is_movable old.o s ≡ false
    → old ≡ record old { o = with_place old.o end s; ready = old.ready }
unfolding with_place
place_stays {S} old s end out =
    sym (ap (λ (b : Bool). record old {
      o = if b then with_shdr old.o s (record (header_at old.o s) {
        offset = place_of end (section_part old.o s);
      }) else old.o;
    }) out)

place_put : (o : Object) (s end place : ℕ) → is_movable o s ≡ true
    → place ≡ place_of end (section_part o s)
    → with_shdr o s (record (header_at o s) { offset = place }) ≡ with_place o end s
unfolding with_place
place_put o s end place is at =
    ap (λ (n : ℕ). with_shdr o s (record (header_at o s) { offset = n })) at
    ∙ sym (ap (λ (b : Bool). if b then with_shdr o s (record (header_at o s) {
      offset = place_of end (section_part o s);
    }) else o) is)

pub place_goes : {S : Type 0} (old new : State S) (s end limit place next : ℕ)
    → is_movable old.o s ≡ true → IsNext old.o s end limit place next
    → new ≡ stepped (calls.update_shdr s (record (header_at old.o s) { offset = place })) old
    → new ≡ record old { o = with_place old.o end s; ready = new.ready }
place_goes {S} old new s end limit place next is found put =
    put
    ∙ ap (λ (q : Object). record old { o = q; ready = false })
    (place_put old.o s end place is (ap (λ (p : ℕ × ℕ). p.0) found.1))
    ∙ ap (λ (b : Bool). record old { o = with_place old.o end s; ready = b })
    (sym (ap (λ (x : State S). x.ready) put))

pub found_fits : (o : Object) (s end limit place next : ℕ) (class : Class)
    → limit ≡ limit_of class → IsNext o s end limit place next → place ≤ limit_of class
found_fits o s end limit place next class same found =
    let at = ap (λ (p : ℕ × ℕ). p.0) found.1 in
    let fits = found.0.0 in
    omega (arith, at, fits, same)

-- ---- Without sections

parts_empty : (o : Object) (tail : ℕ) → length o.sections ≡ 0 → parts_from o tail ≡ []
unfolding parts_from movable in_order_from
parts_empty o tail none =
    ap (λ (n : ℕ). in_order_from tail
    (map (section_part o) (filter (is_movable o) (range_with_len 1 (n - 1)))
    ++ (if n == 0 then [] else table_part o ∷ []))) none

pub empty_passes : (o : Object) (tail : ℕ) → length o.sections ≡ 0 → tail_refusal o tail ≡ None
unfolding tail_refusal some_above
empty_passes o tail none =
    ap (λ (l : List PartAt). refused_if (some_above (limit_of o.header.class) l) TooLarge)
    (parts_empty o tail none)

pub empty_stays : {S : Type 0} (old : State S) (tail : ℕ) → length old.o.sections ≡ 0
    → old ≡ placed_state old tail
empty_stays {S} old tail none =
    sym (ap (λ (b : Bool).
    if b then old else record old { o = placed_from old.o tail; ready = false })
    (eq-eqb (length old.o.sections) 0 none))

-- ---- What is refused

module _ (o : Object) (tail limit : ℕ) (same : limit ≡ limit_of o.header.class) where
  refusal_by : (b : Bool) → some_above limit (parts_from o tail) ≡ b
      → tail_refusal o tail ≡ refused_if b TooLarge
  unfolding tail_refusal
  refusal_by b is =
      ap (λ (n : ℕ). refused_if (some_above n (parts_from o tail)) TooLarge) (sym same)
      ∙ ap (λ (t : Bool). refused_if t TooLarge) is

  pub tail_passes : some_above limit (parts_from o tail) ≡ false → tail_refusal o tail ≡ None
  tail_passes is = refusal_by false is

  pub tail_refused : (some_above limit (parts_from o tail) ≡ false → ⊥)
      → tail_refusal o tail ≡ Some TooLarge
  tail_refused never =
      refusal_by true (true_from_ne_false (some_above limit (parts_from o tail)) never)

pub passes_answer : (r : Option ElfError) → r ≡ None
    → ◌≡◌ {A = Result (Unit {0}) ElfError} (Ok tt) (answered r tt)
passes_answer r none = sym (ap (λ (x : Option ElfError). answered x tt) none)

pub refusal_answered : (r : Option ElfError) (e : ElfError) → r ≡ Some e
    → ◌≡◌ {A = Result (Unit {0}) ElfError} (Err e) (answered r tt)
refusal_answered r e is = sym (ap (λ (x : Option ElfError). answered x tt) is)

-- ---- The definition

placed_none : (o : Object) (tail : ℕ) → (length o.sections == 0) ≡ true
    → o ≡ placed_from o tail
unfolding placed_from
placed_none o tail none =
    sym (ap (λ (b : Bool). if b then o else with_ehdr (record o {
      sections = map (λ r. section_from o tail r.0 r.1) (enumerate_from 0 o.sections);
    }) (record o.header { shoff = table_place_from o tail })) none)

placed_object : {S : Type 0} (old : State S) (tail : ℕ) (b : Bool)
    → (length old.o.sections == 0) ≡ b → (placed_state old tail).o ≡ placed_from old.o tail
placed_object {S} old tail b is =
    ap (λ (t : Bool).
    (if t then old else record old { o = placed_from old.o tail; ready = false }).o) is
    ∙ by_test b is
  where
    by_test : (b : Bool) → (length old.o.sections == 0) ≡ b
        → (if b then old else record old { o = placed_from old.o tail; ready = false }).o
        ≡ placed_from old.o tail
    by_test true none = placed_none old.o tail none
    by_test false some = refl

pub arranged_as : {S : Type 0} (r : Result (Unit {0}) ElfError) (old new : State S) (tail : ℕ)
    → r ≡ answered (tail_refusal old.o tail) tt → StepsTo r old new (placed_state old tail)
    → result_map (λ _. made_of new.o (Some tail)) r ≡ arranged (made_of old.o (Some tail))
unfolding arranged
arranged_as {S} (Ok u) old new tail came is =
    ap (λ (q : Object). Ok (made_of q (Some tail)))
    (ap (λ (x : State S). x.o) is
    ∙ placed_object old tail (length old.o.sections == 0) refl)
    ∙ sym (ap (λ (x : Option ElfError).
    answered x (made_of (placed_from old.o tail) (Some tail)))
    (answered_value (tail_refusal old.o tail) tt u (sym came)).0)
arranged_as {S} (Err e) old new tail came is =
    sym (ap (λ (x : Option ElfError).
    answered x (made_of (placed_from old.o tail) (Some tail)))
    (answered_refusal (tail_refusal old.o tail) tt e (sym came)))

pub arranged_none : (o : Object)
    → ◌≡◌ (result_map {E = ElfError} (λ (u : Unit {0}). made_of o None) (Ok tt))
    (arranged (made_of o None))
unfolding arranged
arranged_none o = refl
