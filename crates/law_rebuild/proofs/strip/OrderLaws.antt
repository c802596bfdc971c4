-- An object whose symbols are in another order is an object.
use Rattle.std.proofs.Common.{◌≡◌, ℕ, ◌^◌, ◌<◌, ◌≤◌, Bool, true, false, not, ◌&&◌, List, [], ◌∷◌, length, fold, Option, Some, None, refl, ap, inl, inr, subst, arith}
use Rattle.std.specs.Prelude.{nat_eq, nat_le, nat_lt, if◌then◌else◌, ◌==◌}
use Rattle.std.specs.List.{position}
use Rattle.std.proofs.lemmas.Bool.{cases_lt, lt-leb, eqb-true, and_parts, not-true}
use Rattle.std.proofs.lemmas.List.Quantifiers.{position-Some}
use Rattle.elf_types.specs.Answers.{refused_if, first_refusal, answered}
use Rattle.elf_types.specs.declared.records.Kind.{Kind}
use Rattle.elf_types.specs.declared.records.Part.TheVariants as part
use Rattle.elf_types.specs.declared.records.Shdr.{Shdr}
use Rattle.elf_types.specs.declared.errors.ElfError.{ElfError}
use Rattle.elf_types.specs.declared.errors.ElfError.TheVariants.{NoSection, Reserved, Unfit}
use Rattle.elf_types.specs.declared.constants.TheConstants.{SHT_GROUP}
use Rattle.hash_model.specs.elf_xlate.declared.content.Items.TheVariants as items
use Rattle.hash_model.specs.elf_xlate.Headers.{shdr_fits}
use Rattle.hash_model.specs.elf_ident.Front.{zero_shdr}
use Rattle.hash_model.specs.elf_object.Object.{Object, Section}
use Rattle.hash_model.specs.elf_object.Answers.{items_at, syms_of}
use Rattle.hash_model.specs.elf_object.Calls.{update_shdr, update_shdr_refusal}
use Rattle.hash_model.specs.elf_object.Due.{all_sections}
use Rattle.hash_model.specs.elf_object.Steps.{with_own, with_shdr}
use Rattle.hash_model.specs.elf_object.Valid.{IsObject}
use Rattle.hash_model.proofs.elf_object.PassedLaws.{step_ok}
use Rattle.law_object.proofs.KeepLaws.{section_at_is, with_own_is, update_shdr_keeps}
use Rattle.law_object.proofs.StandLaws.{section_at-past}
use Rattle.hash_model.specs.elf_object.Sections.{header_at}
use Rattle.hash_model.specs.Reordered.{in_order, new_index, kind_by_symbols, items_by_symbols, with_signature, reordered_section, reordered}
use Rattle.law_rebuild.proofs.strip.SectionLaws.{relinked_is}

fold_keeps : {A B : Type 0} (P : A → Type 0) (f : A → B → A)
    → ((a : A) (b : B) → P a → P (f a b)) → (a : A) (l : List B) → P a → P (fold f a l)
fold_keeps P f keeps a [] is = is
fold_keeps P f keeps a (x ∷ l) is = fold_keeps P f keeps (f a x) l (keeps a x is)

pub new_index_small : (order : List ℕ) (i : ℕ) → length order ≤ 2 ^ 32 → i < 2 ^ 32
    → new_index order i < 2 ^ 32
unfolding new_index
new_index_small order i few small = by_place (position (nat_eq i) order) refl
  where
    by_place : (place : Option ℕ) → position (nat_eq i) order ≡ place
        → (let found : ℕ = elim place [ None ↦ i | Some new ↦ new ] in found) < 2 ^ 32
    by_place None e = small
    by_place (Some new) e =
        let stands = position-Some (nat_eq i) order new 0 e in
        omega (arith, stands.0, few)

-- tests that all pass
three_pass : (a b c : Bool) (x y z : ElfError) → a ≡ false → b ≡ false → c ≡ false
    → first_refusal (refused_if a x ∷ refused_if b y ∷ refused_if c z ∷ []) ≡ None
three_pass false false false x y z p q r = refl
three_pass false false true x y z p q r = cc
three_pass false true c x y z p q r = cc
three_pass true b c x y z p q r = cc

-- a header of a section from 1 on, with another sh_info
info_kept : (o : Object) (n info : ℕ) → IsObject o → n < length o.sections
    → (n == 0) ≡ false → info < 2 ^ 32
    → IsObject (with_shdr o n (record (header_at o n) { info = info }))
unfolding update_shdr_refusal
info_kept o n info ok inside from small =
    let is = section_at_is o n ok in
    let h : Shdr = record (header_at o n) { info = info } in
    let header = relinked_is o.header.class (header_at o n) (header_at o n).name
    (header_at o n).link info is.header is.fitting is.header.name is.header.link small in
    let passed : update_shdr_refusal o n (record (header_at o n) { info = info }) ≡ None =
    three_pass (nat_le (length o.sections) n) (n == 0) (not (shdr_fits o.header.class h))
    (NoSection n (length o.sections)) Reserved (Unfit (part.Section n) 0)
    (lt-leb (length o.sections) n inside) from (ap not header.1) in
    subst IsObject (step_ok (update_shdr n h) o tt (ap (λ (r : Option ElfError). answered r tt)
    passed))
    (update_shdr_keeps n h header.0 o ok)

-- a group stands in the object
group_inside : (o : Object) (n : ℕ) → ((header_at o n).stype == SHT_GROUP) ≡ true
    → n < length o.sections
unfolding zero_shdr
group_inside o n group = elim (cases_lt n (length o.sections)) [
  | inl inside ↦ inside
  | inr past ↦
      let none : (header_at o n).stype ≡ 0 =
      ap (λ (c : Section). c.header.stype) (section_at-past o n past) in
      let is = eqb-true (header_at o n).stype SHT_GROUP group in
      absurd (omega (arith, none, is))
]

section_keeps : (s : ℕ) (order : List ℕ) (o : Object) (n : ℕ) → length order ≤ 2 ^ 32
    → IsObject o → IsObject (reordered_section s order o n)
unfolding reordered_section
section_keeps s order o n few ok =
    by_tests ((header_at o n).link == s) ((header_at o n).stype == SHT_GROUP && not (n == 0)) refl
    (kind_by_symbols (header_at o n).stype)
  where
    by_info : (b : Bool) → ((header_at o n).stype == SHT_GROUP && not (n == 0)) ≡ true
        → IsObject (if b
        then with_shdr o n
        (record (header_at o n) { info = new_index order (header_at o n).info })
        else o)
    by_info true e =
        let tests = and_parts ((header_at o n).stype == SHT_GROUP) (not (n == 0)) e in
        info_kept o n (new_index order (header_at o n).info) ok (group_inside o n tests.0)
        (not-true (n == 0) tests.1)
        (new_index_small order (header_at o n).info few (section_at_is o n ok).header.info)
    by_info false e = ok

    by_tests : (links group : Bool)
        → ((header_at o n).stype == SHT_GROUP && not (n == 0)) ≡ group
        → (kind : Option Kind) → IsObject (if not links then o
        else (if group then with_signature o order n
        else (elim kind [
          | None ↦ o
          | Some k ↦ with_own o n 0 (items_by_symbols order (items_at o n 0))
        ])))
    by_tests false group e kind = ok
    by_tests true true e kind = by_info (nat_lt (header_at o n).info (length order)) e
    by_tests true false e None = ok
    by_tests true false e (Some k) = with_own_is o n 0 (items_by_symbols order (items_at o n 0)) ok

pub reordered_is_object : (o : Object) (s : ℕ) (order : List ℕ) → IsObject o
    → length order ≤ 2 ^ 32 → IsObject (reordered o s order)
unfolding reordered
reordered_is_object o s order ok few =
    fold_keeps IsObject (reordered_section s order) (λ p n is. section_keeps s order p n few is)
    (with_own o s 0 (items.Sym (in_order order (syms_of (items_at o s 0))))) (all_sections o)
    (with_own_is o s 0 (items.Sym (in_order order (syms_of (items_at o s 0)))) ok)
