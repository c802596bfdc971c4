-- Section 0, added where there is none, before another one is added.
use Rattle.std.proofs.Common.{◌≡◌, ◌==◌, ◌+◌, ◌<◌, ◌≤◌, ℕ, Bool, true, false, List, [], ◌∷◌, ◌++◌, length, get_or, None, Result, if◌then◌else◌, refl, sym, ap, ◌∙◌, subst, inl, inr, arith}
use Rattle.std.specs.Prelude.{nat_le}
use Rattle.std.proofs.lemmas.Bool.{cases_eq, eq-eqb, ne_eqb}
use Rattle.std.proofs.lemmas.List.{nil_from_length}
use Rattle.elf_types.specs.declared.constants.TheConstants.{MAX_SECTIONS, SHT_STRTAB}
use Rattle.elf_types.specs.declared.records.Ehdr.{Ehdr}
use Rattle.elf_types.specs.declared.records.Kind.TheVariants as kinds
use Rattle.elf_types.specs.declared.errors.ElfError.TheVariants.{TooMany}
use Rattle.elf_types.specs.Answers.{refused_if}
use Rattle.elf_xlate.specs.declared.content.Items.TheVariants as items
use Rattle.elf_xlate.specs.Translation.{encoded}
use Rattle.elf_ident.specs.Front.{zero_shdr}
use Rattle.elf_object.specs.Object.{Object, Section, header_of, section_at, absent_section, new_section}
use Rattle.elf_object.specs.Calls as calls
use Rattle.elf_object.specs.Steps.{with_sections, with_new_section, with_null_section, own_piece}
use Rattle.elf_object.specs.Valid.{IsObject}
use Rattle.law_object.proofs.KeepLaws.{newnull_keeps}
use Rattle.rebuild_model.specs.Rebuilt.{made_section}
use Rattle.rebuild_model.specs.Copied.{CopyFault as StatedFault, with_added}
use Rattle.law_rebuild.proofs.strip.CopyLaws.{edited_keeps}
use Rattle.rebuild_plan.specs.declared.arranged.Arranged.{Arranged}
use Rattle.rebuild_changes.specs.declared.faults.CopyFault.{CopyFault}
use Rattle.rebuild_edits.specs.Edits.Steps.{IsAltered}
use Rattle.rebuild_copy.specs.Rows.{IsGatheredSection, Origin, IsContents}
use Rattle.rebuild_copy.specs.Edits.{IsPushedLast, HasFirstSection}
use Rattle.rebuild_copy.specs.Steps.{Turns}
use Rattle.rebuild_copy.proofs.RowLaws.{zero_empty, HasSameFrame, shnum_is}
use Rattle.rebuild_copy.proofs.PushLaws.{contents_pushed}
use Rattle.rebuild_copy.proofs.EditLaws.{fit_bytes}
use Rattle.rebuild_copy.proofs.GrownLaws.{added_by, added_as}

-- ---- Section 0, where there is none

module _ (p : Object) where
  null_there : (length p.sections ≡ 0 → ⊥) → with_null_section p ≡ p
  unfolding with_null_section
  null_there some =
      ap (λ (b : Bool). if b then with_sections p (new_section ∷ []) else p)
      (ne_eqb (length p.sections) 0 some)

  null_made : length p.sections ≡ 0
      → with_null_section p ≡ with_sections p (new_section ∷ [])
  unfolding with_null_section
  null_made none =
      ap (λ (b : Bool). if b then with_sections p (new_section ∷ []) else p)
      (eq-eqb (length p.sections) 0 none)

  abbrev first_alone : Object
  first_alone = with_sections p (new_section ∷ [])

  grows_alike : length p.sections ≡ 0 → with_new_section p ≡ with_new_section first_alone
  unfolding with_new_section
  grows_alike none =
      ap (λ (b : Bool). with_sections p
      (p.sections ++ (if b then new_section ∷ new_section ∷ [] else new_section ∷ [])))
      (eq-eqb (length p.sections) 0 none)
      ∙ ap (λ (l : List Section). with_sections p (l ++ new_section ∷ new_section ∷ []))
      (nil_from_length p.sections none)

  -- a section is added as to that
  pub added_alike : (change : List ℕ × List ℕ)
      → with_added (with_null_section p) change ≡ with_added p change
  added_alike change = elim (cases_eq (length p.sections) 0) [
    | inr some ↦ ap (λ (q : Object). with_added q change) (null_there some)
    | inl none ↦
        ap (λ (q : Object). with_added q change) (null_made none)
        ∙ added_as first_alone change
        ∙ sym (added_as p change
        ∙ ap (λ (n : ℕ). added_by change.1 (refused_if (nat_le MAX_SECTIONS n) TooMany)
        (if n == 0 then 1 else n) (with_new_section p)) none
        ∙ ap (added_by change.1 None 1) (grows_alike none))
  ]

  null_object : IsObject p → IsObject (with_null_section p)
  null_object is =
      edited_keeps calls.newnull p (with_null_section p) newnull_keeps is refl

  pub null_some : 0 < length (with_null_section p).sections
  null_some = elim (cases_eq (length p.sections) 0) [
    | inr some ↦
        let same = ap (λ (q : Object). length q.sections) (null_there some) in
        omega (arith, same, some)
    | inl none ↦
        let same = ap (λ (q : Object). length q.sections) (null_made none) in
        omega (arith, same)
  ]

zero_untyped : zero_shdr.stype ≡ SHT_STRTAB → ⊥
unfolding zero_shdr
zero_untyped typed = omega (arith, typed)

module _ (o : Origin) (p : Object) (x : Arranged) (is : IsContents o p x) (y : Arranged)
    (first : HasFirstSection x y) where
  shnum_now : x.listed.header.shnum ≡ length p.sections
  shnum_now = shnum_is o p x is.listed

  module _ (none : length p.sections ≡ 0) (pushed : IsPushedLast 1 zero_shdr [] x y) where
    abbrev alone_now : Object
    alone_now = with_sections p (new_section ∷ [])

    new_made : new_section ≡ made_section zero_shdr (items.Bytes [])
    unfolding made_section
    new_made =
        ap (λ (b : Bool). record (made_section zero_shdr (items.Bytes [])) {
          pieces = if b then own_piece (items.Bytes []) 1 ∷ [] else [];
        }) (sym zero_empty)

    empty_row : IsGatheredSection p.header.class p.header.order
        (o.bases.each (length p.sections)) y.held new_section zero_shdr pushed.range.len
        pushed.range kinds.Bytes
    empty_row = record {
      header = refl;
      own = items.Bytes [];
      section = new_made;
      kind_is = refl;
      are = pushed.are;
      fits = fit_bytes p.header.class [];
      strings = λ typed. refl;
      size_is = pushed.holds.len
          ∙ sym (ap (λ (b : Bool). if b
          then length (encoded p.header.class p.header.order (items.Bytes [])) else 0)
          zero_empty);
      small = let long = pushed.holds.len in let small = pushed.small in omega (arith, long, small);
      range_is = λ full later. let clash : true ≡ false = sym full ∙ zero_empty in cc;
    }

    header_alone : y.listed.header ≡ header_of alone_now
    unfolding header_of
    header_alone =
        pushed.header ∙ ap (λ (h : Ehdr). record h { shnum = 1 }) is.listed.header

    alone_frame : HasSameFrame p alone_now
    alone_frame = record {
      class = refl;
      order = refl;
      layout = refl;
      base = refl;
      pad = refl;
      phdrs = refl;
      fill = refl;
      marked = refl;
      version = refl;
      ehsize = refl;
      phentsize = refl;
      shentsize = refl;
      front = refl;
      unmarked = refl;
      segments_marked = refl;
    }

    at_end : section_at alone_now (length p.sections) ≡ new_section
    unfolding section_at
    at_end = ap (λ (k : ℕ). get_or (new_section ∷ []) k absent_section) none

    alone_first : section_at alone_now 0 ≡ new_section
    unfolding section_at
    alone_first = refl

    alone_left : IsContents o alone_now y
    alone_left =
        contents_pushed o p alone_now x y is.listed zero_shdr pushed.range.len pushed.range
        kinds.Bytes []
        alone_frame (let one : 1 ≡ length p.sections + 1 = omega (arith, none) in one)
        (λ t below. absurd (omega (arith, below, none))) pushed.headers pushed.sizes
        pushed.ranges pushed.kinds_are pushed.holds.all
        (subst (λ (c : Section). IsGatheredSection p.header.class p.header.order
        (o.bases.each (length p.sections)) y.held c zero_shdr pushed.range.len pushed.range
        kinds.Bytes) (sym at_end) empty_row)
        is.table zero_untyped (ap (λ (h : Ehdr). h.shstrndx) pushed.header)
        (subst IsObject (null_made p none) (null_object p is.listed.object)) pushed.tail
        header_alone alone_first

  pub first_left : IsContents o (with_null_section p) y
  first_left = elim (cases_eq (length p.sections) 0) [
    | inl none ↦
        subst (λ (q : Object). IsContents o q y) (sym (null_made p none))
        (alone_left none (first.none (shnum_now ∙ none)))
    | inr some ↦
        subst (λ (q : Object). IsContents o q y) (sym (null_there p some))
        (subst (λ (z : Arranged). IsContents o p z)
        (sym (first.some (λ none. some (sym shnum_now ∙ none)))) is)
  ]

-- and then one is added to it
index_null : (q : Object) → (with_null_section q).header.shstrndx ≡ q.header.shstrndx
unfolding with_null_section
index_null q = by_test (length q.sections == 0)
  where
    by_test : (b : Bool) → (if b then with_sections q (new_section ∷ []) else q).header.shstrndx
        ≡ q.header.shstrndx
    by_test true = refl
    by_test false = refl

pub added_behind : {T : Type 0} (o : Origin) (p : Object) (change : List ℕ × List ℕ)
    (r : Result T CopyFault) (y : Arranged)
    → Turns o (with_null_section p) (with_added (with_null_section p) change) r y
    → Turns o p (with_added p change) r y
added_behind {T} o p change r y turns = record {
  left = turns.left;
  alters = record {
    told = turns.alters.told;
    keeps =
        let keeps = turns.alters.keeps in
        record {
          index = keeps.index ∙ index_null p;
          count = let count = keeps.count in let few = count_null p in omega (arith, count, few);
        };
    unread = turns.alters.unread;
    altered = λ t.
        subst (λ (a : Result Object StatedFault). IsAltered r a turns.left) (added_alike p change)
        (turns.alters.altered t);
  };
  contents = turns.contents;
}
  where
    count_null : (q : Object) → length q.sections ≤ length (with_null_section q).sections
    count_null q = elim (cases_eq (length q.sections) 0) [
      | inr some ↦
          let same = ap (λ (r : Object). length r.sections) (null_there q some) in
          omega (arith, same)
      | inl none ↦ omega (arith, none)
    ]
