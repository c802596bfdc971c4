-- Sections that get other bytes: no name changes by that but where it is the section of the names.
use Rattle.std.proofs.Common.{◌≡◌, ◌==◌, ◌-◌, ◌<◌, ℕ, true, List, [], ◌∷◌, length, map, Option, None, Result, Ok, Err, refl, sym, ap, ◌∙◌, subst, inl, inr}
use Rattle.std.specs.Prelude.{IfErr, IfSome, OnOk, if◌then◌else◌}
use Rattle.std.specs.List.{range_with_len}
use Rattle.std.proofs.lemmas.Bool.{cases_eq}
use Rattle.elf_types.specs.declared.records.Ehdr.{Ehdr}
use Rattle.elf_types.specs.declared.errors.ElfError.{ElfError}
use Rattle.elf_types.specs.declared.errors.ElfError.TheVariants.{Memory}
use Rattle.elf_types.specs.Answers.{answered, ◌>>=◌}
use Rattle.elf_xlate.specs.declared.content.Items.{Items}
use Rattle.elf_xlate.specs.declared.content.Items.TheVariants as items
use Rattle.elf_object.specs.Object.{Object, Section, section_at}
use Rattle.elf_object.specs.Calls.{replace}
use Rattle.elf_object.specs.Steps.{with_section, with_piece_at, with_own}
use Rattle.elf_object.specs.Strings.{section_name, string_answer, readable, is_name}
use Rattle.elf_object.proofs.StepLaws.{section_at-with_own, section_at-with_own_other, section_count-with_own}
use Rattle.elf_object.specs.Sections.{edited}
use Rattle.rebuild_model.specs.Copied.{CopyFault as StatedFault, names_in, section_named, update_fault, or_strip, with_bytes}
use Rattle.law_rebuild.proofs.copy.EachChange.{updated_known}
use Rattle.rebuild_select.specs.declared.sought.sections.NameIndex.{NameIndex}
use Rattle.rebuild_plan.specs.declared.arranged.Arranged.{Arranged}
use Rattle.rebuild_changes.specs.declared.faults.CopyFault.{CopyFault}
use Rattle.rebuild_changes.specs.declared.faults.CopyFault.TheVariants as faults
use Rattle.rebuild_changes.specs.declared.changes.NameBytes.{NameBytes}
use Rattle.rebuild_changes.specs.Stated.{bytes_pair, stated_copy_fault}
use Rattle.rebuild_edits.specs.Edits.Edits.{updated_at}
use Rattle.rebuild_edits.specs.Edits.Steps.{IsPresentSection}
use Rattle.rebuild_edits.proofs.edits.FindLaws.{names_at_first}
use Rattle.rebuild_edits.proofs.edits.FlagLaws.{string_in_section, string_as}
use Rattle.rebuild_edits.proofs.edits.StepLaws.{find_then}
use Rattle.rebuild_edits.proofs.edits.RenameLaws.{map_same}
use Rattle.rebuild_copy.specs.Rows.{Origin, IsContents}
use Rattle.rebuild_copy.specs.Steps.{known, Turns}
use Rattle.rebuild_copy.specs.Indexes.{IsIndexOf, FindsNamed, UpdatesNameIndex, section_name_at}
use Rattle.rebuild_copy.proofs.TurnLaws.{turns_not, found_not, TurnedTo}
use Rattle.rebuild_copy.proofs.IndexLaws.{named_there}
use Rattle.rebuild_copy.proofs.RenameLaws.{want_unread}

-- ---- The names stay

module _ (p : Object) (n : ℕ) (own : Items) (below : n < length p.sections)
    (apart : n ≡ p.header.shstrndx → ⊥) where
  abbrev updated : Object
  updated = with_own p n 0 own

  own_header : updated.header ≡ p.header
  unfolding with_own with_piece_at with_section
  own_header = refl

  name_field : (t : ℕ) → (section_at updated t).header.name ≡ (section_at p t).header.name
  name_field t = elim (cases_eq t n) [
    | inl same ↦
        ap (λ (k : ℕ). (section_at updated k).header.name) same
        ∙ ap (λ (c : Section). c.header.name) (section_at-with_own p n 0 own below)
        ∙ sym (ap (λ (k : ℕ). (section_at p k).header.name) same)
    | inr other ↦
        ap (λ (c : Section). c.header.name) (section_at-with_own_other p n t 0 own other)
  ]

  string_stays : (offset : ℕ)
      → string_answer updated p.header.shstrndx offset ≡ string_answer p p.header.shstrndx offset
  string_stays offset =
      let k = p.header.shstrndx in
      string_as updated k offset
      ∙ ap (λ (count : ℕ). string_in_section count updated.header.class updated.header.order k
      offset (section_at updated k)) (section_count-with_own p n 0 own)
      ∙ ap (λ (h : Ehdr). string_in_section (length p.sections) h.class h.order k offset
      (section_at updated k)) own_header
      ∙ ap (λ (c : Section). string_in_section (length p.sections) p.header.class p.header.order
      k offset c) (section_at-with_own_other p n k 0 own (λ same. apart (sym same)))
      ∙ sym (string_as p k offset)

  name_stays : (t : ℕ) → section_name updated t ≡ section_name p t
  unfolding section_name
  name_stays t =
      ap (λ (h : Ehdr). if h.shstrndx == 0 then None
      else readable (string_answer updated h.shstrndx (section_at updated t).header.name))
      own_header
      ∙ ap (λ (at : ℕ). if p.header.shstrndx == 0 then None
      else readable (string_answer updated p.header.shstrndx at)) (name_field t)
      ∙ ap (λ (r : Result (List ℕ) ElfError). if p.header.shstrndx == 0 then None
      else readable r) (string_stays (section_at p t).header.name)

  pub names_stay : names_in updated ≡ names_in p
  unfolding names_in
  names_stay =
      ap (λ (count : ℕ). None ∷ map (section_name updated) (range_with_len 1 (count - 1)))
      (section_count-with_own p n 0 own)
      ∙ ap (λ (l : List (Option (List ℕ))). None ∷ l)
      (map_same (section_name p) (section_name updated) 1 (length p.sections - 1)
      (λ t low. name_stays t))

-- ---- An update whose section is known

same_number : (a b : ℕ) → ◌≡◌ {A = Result ℕ StatedFault} (Ok a) (Ok b) → a ≡ b
same_number a b h = cc

module _ (p : Object) (s : ℕ) (name bytes : List ℕ)
    (found : section_named (names_in p) name ≡ Ok s) where
  as_bytes : with_bytes p (name, bytes) ≡ updated_at p s name bytes
  unfolding with_bytes
  as_bytes =
      ap (λ (r : Result ℕ StatedFault). r >>= λ s.
      answered (update_fault p s name bytes) s >>= λ s.
      or_strip (edited (replace s 0 (items.Bytes bytes)) p)) found

  pub names_after : (left : Object) → updated_at p s name bytes ≡ Ok left
      → left.header.shstrndx ≡ p.header.shstrndx → (s ≡ left.header.shstrndx → ⊥)
      → names_in p ≡ names_in left
  names_after left is index apart =
      let made = updated_known p (name, bytes) left (as_bytes ∙ is) in
      let number = same_number made.number s (sym made.chosen ∙ found) in
      sym (ap names_in made.is
      ∙ names_stay p made.number (items.Bytes bytes) made.below
      (λ same. apart (sym number ∙ same ∙ sym index)))

-- ---- The index after it

pub updated_to : (o : Origin) (p : Object) (s : ℕ) (name bytes : List ℕ) (x : Arranged)
    (old new : NameIndex) (r : Result (Unit {0}) CopyFault)
    → section_named (names_in p) name ≡ Ok s → IsIndexOf old (names_in p)
    → Turns {T = Unit {0}} o p (updated_at p s name bytes) (Ok tt) x
    → ((q : Object) (names : List (Option (List ℕ))) → IsContents o q x → IsIndexOf old names
    → ((s ≡ q.header.shstrndx → ⊥) → names ≡ names_in q)
    → OnOk r (IsIndexOf new (names_in q)))
    → IfErr r (λ fault. fault ≡ faults.Strip Memory)
    → UpdatesNameIndex o p (updated_at p s name bytes) r x new
updated_to o p s name bytes x old new (Ok u) found index one again want = record {
  turns = record {
    left = one.left;
    alters = record {
      told = one.alters.told;
      keeps = one.alters.keeps;
      unread = tt;
      altered = one.alters.altered;
    };
    contents = one.contents;
  };
  indexed = again one.left (names_in p) one.contents index
      (names_after p s name bytes found one.left (one.alters.altered refl)
      one.alters.keeps.index);
}
updated_to o p s name bytes x old new (Err f) found index one again want = record {
  turns = turns_not o p (Unit {0}) (updated_at p s name bytes) f x (want_unread (Err f) want)
      (subst (λ (g : CopyFault).
      IfSome (stated_copy_fault g) (λ d. updated_at p s name bytes ≡ Err d)) (sym want) tt);
  indexed = tt;
}

-- the section was found by the index
module _ (o : Origin) (p : Object) (name bytes : List ℕ) where
  abbrev next : ℕ → Result Object StatedFault
  next s = updated_at p s name bytes

  pub found_updated : (s : ℕ) (r : Result (Unit {0}) CopyFault) (x : Arranged)
      (index : NameIndex) → FindsNamed (names_in p) name (Ok s)
      → UpdatesNameIndex o p (next s) r x index → UpdatesNameIndex o p (with_bytes p (name, bytes)) r x index
  unfolding with_bytes
  found_updated s r x index found step = record {
    turns = record {
      left = step.turns.left;
      alters = find_then (λ (n : ℕ). n) (section_named (names_in p) name)
          (λ (q : Object) (n : ℕ). next n) s r (known p) (known p) (known step.turns.left)
          (found.finds p) step.turns.alters;
      contents = step.turns.contents;
    };
    indexed = step.indexed;
  }

  pub unfound_updated : (f : CopyFault) (x : Arranged) (index : NameIndex)
      → FindsNamed (names_in p) name (Err f)
      → UpdatesNameIndex o p (with_bytes p (name, bytes)) (Err f) x index
  unfolding with_bytes
  unfound_updated f x index found = record {
    turns = found_not o p {T = ℕ} (Unit {0}) (λ (n : ℕ). n)
        (section_named (names_in p) name) next f x (found.finds p);
    indexed = tt;
  }

-- a section that has a name is there
pub named_in_there : (p : Object) (name : List ℕ) (s : ℕ)
    → is_name name (section_name_at (names_in p) s) ≡ true → IsPresentSection p s
named_in_there p name s has =
    named_there p [] [] name s
    (subst (λ (l : List (Option (List ℕ))). is_name name (section_name_at l s) ≡ true)
    (sym (names_at_first p [] [] refl)) has)

-- ---- One after another

-- after so many changes
pub record AllUpdatedTo (changes : List NameBytes) (i : ℕ) (o : Origin) (p : Object)
    (x : Arranged) (index : NameIndex) : Type 0 where
  pub turned : TurnedTo bytes_pair with_bytes changes i o p x
  pub indexed : IsIndexOf index (names_in turned.left)
