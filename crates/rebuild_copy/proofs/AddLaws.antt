-- Contents to which a section is added.
use Rattle.std.proofs.Common.{◌≡◌, ◌+◌, ◌<◌, ℕ, Bool, true, false, List, [], ◌∷◌, length, Some, None, Result, Ok, Err, if◌then◌else◌, refl, sym, ap, ◌∙◌, subst, inl, inr, arith}
use Rattle.std.proofs.lemmas.Bool.{cases_eq}
use Rattle.std.specs.Prelude.{OnOk, nat_le}
use Rattle.elf_types.specs.declared.constants.TheConstants.{MAX_SECTIONS, SHT_STRTAB}
use Rattle.elf_types.specs.declared.records.Ehdr.{Ehdr}
use Rattle.elf_types.specs.declared.errors.ElfError.{ElfError}
use Rattle.elf_types.specs.declared.errors.ElfError.TheVariants.{TooMany}
use Rattle.elf_types.specs.declared.records.Kind.TheVariants as kinds
use Rattle.elf_types.specs.declared.records.Shdr.{Shdr}
use Rattle.elf_types.specs.Answers.{refused_if}
use Rattle.elf_xlate.specs.declared.content.Items.TheVariants as items
use Rattle.elf_xlate.specs.Translation.{encoded}
use Rattle.elf_ident.specs.Front.{zero_shdr}
use Rattle.elf_object.specs.Object.{Object, Section, header_of, occupies_file}
use Rattle.elf_object.specs.Calls.{newscn_refusal}
use Rattle.elf_object.specs.Steps.{with_null_section, own_piece}
use Rattle.rebuild_model.specs.Rebuilt.{made_section}
use Rattle.rebuild_model.specs.Copied.{added_header, with_added}
use Rattle.law_rebuild.proofs.strip.MadeSections.{bytes_encoded}
use Rattle.rebuild_plan.specs.declared.arranged.Arranged.{Arranged}
use Rattle.rebuild_plan.specs.Reading.{ranges_due}
use Rattle.rebuild_plan.proofs.rebuild_image.FrontLaws.{held_bytes_stay}
use Rattle.rebuild_changes.specs.declared.faults.CopyFault.{CopyFault}
use Rattle.rebuild_changes.specs.declared.faults.CopyFault.TheVariants as faults
use Rattle.rebuild_copy.specs.Rows.{IsGatheredSection, Origin, IsContents}
use Rattle.rebuild_copy.specs.Edits.{IsPushedLast, HasFirstSection}
use Rattle.rebuild_copy.specs.Steps.{ReadsNoMore, Turns, AltersContents, always_holds}
use Rattle.rebuild_copy.proofs.DueLaws.{due_pushed, due_same}
use Rattle.rebuild_copy.proofs.RowLaws.{shnum_is}
use Rattle.rebuild_copy.proofs.PushLaws.{contents_pushed}
use Rattle.rebuild_copy.proofs.EditLaws.{fit_bytes}
use Rattle.rebuild_copy.proofs.TurnLaws.{turns_not, less_then}
use Rattle.rebuild_copy.proofs.GrownLaws.{last_section, filled, filled_long, filled_last, filled_before, filled_frame, filled_header, index_same, added_ok, added_many, filled_object}
use Rattle.rebuild_copy.proofs.NullLaws.{null_some, first_left, added_behind}

-- ---- What was gathered

added_filled : occupies_file added_header ≡ true
unfolding zero_shdr
added_filled = refl

untyped : added_header.stype ≡ SHT_STRTAB → ⊥
untyped typed = omega (arith, typed)

module _ (o : Origin) (p : Object) (x : Arranged) (is : IsContents o p x)
    (change : List ℕ × List ℕ) (some : 0 < length p.sections) (count : ℕ) (y : Arranged)
    (pushed : IsPushedLast count added_header change.1 x y)
    (count_is : count ≡ x.listed.header.shnum + 1) where
  abbrev made : Object
  made = filled p change.1

  encoded_is : encoded p.header.class p.header.order (items.Bytes change.1) ≡ change.1
  encoded_is = bytes_encoded p.header.class p.header.order change.1 pushed.are

  last_made : last_section p change.1 ≡ made_section added_header (items.Bytes change.1)
  unfolding made_section
  last_made =
      ap (λ (b : Bool). record (made_section added_header (items.Bytes change.1)) {
        pieces = if b then own_piece (items.Bytes change.1) 1 ∷ [] else [];
      }) (sym added_filled)

  row : IsGatheredSection p.header.class p.header.order (o.bases.each (length p.sections)) y.held
      (last_section p change.1) added_header pushed.range.len pushed.range kinds.Bytes
  row = record {
    header = refl;
    own = items.Bytes change.1;
    section = last_made;
    kind_is = refl;
    are = pushed.are;
    fits = fit_bytes p.header.class change.1;
    strings = λ typed. refl;
    size_is = pushed.holds.len
        ∙ ap (λ (l : List ℕ). length l) (sym encoded_is)
        ∙ sym (ap (λ (b : Bool). if b
        then length (encoded p.header.class p.header.order (items.Bytes change.1)) else 0)
        added_filled);
    small = let long = pushed.holds.len in let small = pushed.small in omega (arith, long, small);
    range_is = λ full later.
        held_bytes_stay change.1 x.held y.held later (o.bases.each (length p.sections))
        pushed.range pushed.holds
        ∙ sym encoded_is;
  }

  header_now : y.listed.header ≡ header_of made
  header_now =
      pushed.header
      ∙ ap (λ (k : ℕ). record x.listed.header { shnum = k })
      (count_is ∙ ap (λ (k : ℕ). k + 1) (shnum_is o p x is.listed))
      ∙ ap (λ (h : Ehdr). record h { shnum = length p.sections + 1 }) is.listed.header
      ∙ sym (filled_header p change.1)

  pub added_left : newscn_refusal p ≡ None → IsContents o made y
  added_left passed =
      contents_pushed o p made x y is.listed added_header pushed.range.len pushed.range
      kinds.Bytes change.1
      (filled_frame p change.1) (filled_long p change.1)
      (λ t below. filled_before p change.1 t below) pushed.headers pushed.sizes pushed.ranges
      pushed.kinds_are pushed.holds.all
      (subst (λ (c : Section). IsGatheredSection p.header.class p.header.order
      (o.bases.each (length p.sections)) y.held c added_header pushed.range.len pushed.range
      kinds.Bytes) (sym (filled_last p change.1)) row)
      is.table untyped (ap (λ (h : Ehdr). h.shstrndx) pushed.header)
      (filled_object p change some is.listed.object passed) pushed.tail header_now
      (filled_before p change.1 0 some ∙ is.listed.first some)

  pub added_turned : newscn_refusal p ≡ None
      → Turns {T = Unit {0}} o p (with_added p change) (Ok tt) y
  added_turned passed =
      let long = filled_long p change.1 in
      record {
        left = made;
        alters = record {
          told = refl;
          keeps = record { index = index_same p change.1; count = omega (arith, long) };
          unread = tt;
          altered = λ t. added_ok p change some passed;
        };
        contents = added_left passed;
      }

pub added_not : (o : Origin) (p : Object) (change : List ℕ × List ℕ) (y : Arranged)
    → 0 < length p.sections → newscn_refusal p ≡ Some TooMany
    → Turns {T = Unit {0}} o p (with_added p change) (Err (faults.Strip TooMany)) y
added_not o p change y some refused =
    turns_not o p (Unit {0}) (with_added p change) (faults.Strip TooMany) y tt
    (added_many p change some refused)

-- the refusal of elf_newscn, by what was gathered
pub room_is : (o : Origin) (p : Object) (x : Arranged) (b : Bool) → IsContents o p x
    → nat_le MAX_SECTIONS x.listed.header.shnum ≡ b → newscn_refusal p ≡ refused_if b TooMany
room_is o p x b is at =
    ap (λ (n : ℕ). refused_if (nat_le MAX_SECTIONS n) TooMany) (sym (shnum_is o p x is.listed))
    ∙ ap (λ (c : Bool). refused_if c TooMany) at

-- ---- Contents to which a section is added

-- no more is read of the base
pushed_less : (count : ℕ) (h : Shdr) (bytes : List ℕ) (x y : Arranged)
    → IsPushedLast count h bytes x y → ReadsNoMore x y
pushed_less count h bytes x y pushed =
    let same = ap ranges_due pushed.ranges in
    let less = due_pushed x.ranges pushed.range pushed.holds.held in
    omega (arith, same, less)

first_less : (x y : Arranged) → HasFirstSection x y → ReadsNoMore x y
first_less x y first = elim (cases_eq x.listed.header.shnum 0) [
  | inl none ↦ pushed_less 1 zero_shdr [] x y (first.none none)
  | inr some ↦ due_same y.ranges x.ranges (ap (λ (z : Arranged). z.ranges) (first.some some))
]

pub last_full : (change : List ℕ × List ℕ) (x y : Arranged)
    → nat_le MAX_SECTIONS x.listed.header.shnum ≡ true
    → AltersContents {T = Unit {0}} (λ p. 0 < length p.sections) (λ p. with_added p change)
    (Err (faults.Strip TooMany)) x y
last_full change x y full = record {
  unread = tt;
  less = tt;
  turns = λ o p is some. added_not o p change y some (room_is o p x true is full);
}

pub last_alters : (change : List ℕ × List ℕ) (x y : Arranged) (count : ℕ)
    → nat_le MAX_SECTIONS x.listed.header.shnum ≡ false → count ≡ x.listed.header.shnum + 1
    → IsPushedLast count added_header change.1 x y
    → AltersContents {T = Unit {0}} (λ p. 0 < length p.sections) (λ p. with_added p change)
    (Ok tt) x y
last_alters change x y count room at pushed = record {
  unread = tt;
  less = pushed_less count added_header change.1 x y pushed;
  turns = λ o p is some.
      added_turned o p x is change some count y pushed at (room_is o p x false is room);
}

pub first_then : (change : List ℕ × List ℕ) (x y z : Arranged) (r : Result (Unit {0}) CopyFault)
    → HasFirstSection x y
    → AltersContents (λ p. 0 < length p.sections) (λ p. with_added p change) r y z
    → AltersContents always_holds (λ p. with_added p change) r x z
first_then change x y z r first step = record {
  unread = step.unread;
  less = less_then r x y z (first_less x y first) step.less;
  turns = λ o p is holds.
      added_behind o p change r z
      (step.turns o (with_null_section p) (first_left o p x is y first) (null_some p));
}

pub zero_pushed : (x y : Arranged) (r : Result (Unit {0}) ElfError) → x.listed.header.shnum ≡ 0
    → OnOk r (IsPushedLast 1 zero_shdr [] x y) → OnOk r (HasFirstSection x y)
zero_pushed x y (Ok u) none pushed =
    record { none = λ at. pushed; some = λ some. absurd (some none) }
zero_pushed x y (Err e) none pushed = tt
