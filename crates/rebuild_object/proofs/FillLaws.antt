-- An object that was created gets what was planned.
use Rattle.std.proofs.Common.{◌≡◌, ◌⊎◌, inl, inr, ℕ, zero, ◌+◌, ◌-◌, ◌<◌, ◌≤◌, ◌==◌, ◌&&◌, suc, Bool, true, false, not, List, [], ◌∷◌, length, None, Result, Ok, Err, if◌then◌else◌, refl, sym, ap, ◌∙◌, subst, arith}
use Rattle.std.specs.Prelude.{IsTrue, IfSome, OnOk, nat_le, unwrap_or}
use Rattle.std.proofs.lemmas.Bool.{eq-eqb, ne_eqb, lt-leb}
use Rattle.std.proofs.lemmas.List.FromFn.{length-range_with_len}
use Rattle.elf_types.specs.Answers.{refused_if, first_refusal}
use Rattle.elf_types.specs.Lists.{AreBytes}
use Rattle.elf_types.specs.declared.records.Class.{Class}
use Rattle.elf_types.specs.declared.records.Ehdr.{Ehdr}
use Rattle.elf_types.specs.declared.records.Part.TheVariants as part
use Rattle.elf_types.specs.declared.records.Phdr.{Phdr}
use Rattle.elf_types.specs.declared.errors.ElfError.{ElfError}
use Rattle.elf_types.specs.declared.errors.ElfError.TheVariants.{NoSection, Unfit}
use Rattle.elf_xlate.specs.Fields.{fits}
use Rattle.elf_xlate.specs.Headers.{ehdr_fits}
use Rattle.elf_object.specs.Object.{Object, Section, new_section}
use Rattle.elf_object.specs.Steps.{stored_ehdr, with_ehdr, with_phdrs, with_sections}
use Rattle.elf_object.specs.Calls.{update_ehdr_refusal}
use Rattle.elf_object.specs.Calls as calls
use Rattle.rebuild_plan.specs.elf_descriptor.State.{State}
use Rattle.rebuild_plan.specs.elf_descriptor.Edits.{stepped}
use Rattle.elf_outside.specs.declared.sources.Source.{Ghosts}
use Rattle.elf_outside.specs.Asks.{Asks}
use Rattle.rebuild_model.specs.Arranged.{over_base}
use Rattle.rebuild_plan.specs.rebuild_making.Making.{sections_by}
use Rattle.rebuild_plan.specs.rebuild_keep.Makes.{AsksFor}
use Rattle.rebuild_plan.proofs.rebuild_keep.AskLaws.{asks_more, asks_twice}
use Rattle.rebuild_plan.specs.rebuild_making.Made.{with_more}
use Rattle.rebuild_plan.specs.rebuild_making.Based.{IsMadeOver}
use Rattle.rebuild_plan.specs.declared.arranged.Arranged.{Arranged}
use Rattle.rebuild_plan.proofs.rebuild_keep.FillLaws.{has_none, segments_class}
use Rattle.rebuild_object.specs.Objects.{Bases, IsObjectRead, arranged_header, arranged_numbers, bases_of, items_over, sections_in, sections_over, object_over, object_from_arranged, object_due, section_ranges_due}
use Rattle.rebuild_object.specs.Fitting.{IsArrangementReady}
use Rattle.rebuild_object.specs.Filled.{HasSectionsOf, HasPlanned, IsMadeBy}
use Rattle.rebuild_object.proofs.FrontLaws.{front_of, front_suits, front_long, front_over}
use Rattle.rebuild_object.proofs.ReadLaws.{zero_bases, zero_bases_suit}
use Rattle.rebuild_object.proofs.StatedLaws.{stated_long}

-- ---- Sections

pub none_over : (b : Bases) (o : Object) (x : Arranged) → length x.listed.headers ≡ 0
    → sections_over b o x ≡ []
unfolding sections_over
none_over b o x none =
    ap (λ (t : Bool). if t then []
    else new_section ∷ sections_by (arranged_header x) (items_over b o x) (arranged_numbers x))
    (eq-eqb (length x.listed.headers) 0 none)

pub some_over : (b : Bases) (o : Object) (x : Arranged) → (length x.listed.headers ≡ 0 → ⊥)
    → sections_over b o x
    ≡ new_section ∷ sections_by (arranged_header x) (items_over b o x) (arranged_numbers x)
unfolding sections_over
some_over b o x some =
    ap (λ (t : Bool). if t then []
    else new_section ∷ sections_by (arranged_header x) (items_over b o x) (arranged_numbers x))
    (ne_eqb (length x.listed.headers) 0 some)

more_made : (m : Object) (l : List Section)
    → with_more (with_sections m (new_section ∷ [])) l ≡ with_sections m (new_section ∷ l)
more_made m l = refl

pub none_planned : {S : Type 0} (told : Bool) (o : Object) (x : Arranged) (made : State S)
    → length x.listed.headers ≡ 0 → made.o.sections ≡ [] → made.o.header.shnum ≡ 0
    → HasPlanned told o x made made
none_planned {S} told o x made none empty count =
    let has = has_none true [] made refl empty count in
    let same : made.o ≡ with_sections made.o [] =
    has.object ∙ ap (λ (l : List Section). with_sections made.o l) (has.exact refl) in
    record {
      told_is = refl;
      exact = λ t. same ∙ ap (λ (l : List Section). with_sections made.o l)
          (sym (none_over (bases_of o.base) o x none));
      bases = zero_bases o;
      suit = zero_bases_suit o;
      read = same ∙ ap (λ (l : List Section). with_sections made.o l)
          (sym (none_over (zero_bases o) o x none));
    }

pub all_planned : {A S : Type 0} (r : Result A ElfError) (told : Bool) (o : Object) (x : Arranged)
    (made mid new : State S) → (length x.listed.headers ≡ 0 → ⊥)
    → mid.o ≡ with_sections made.o (new_section ∷ []) → mid.told ≡ made.told
    → OnOk r (HasSectionsOf told o x (arranged_numbers x) mid new)
    → OnOk r (HasPlanned told o x made new)
all_planned (Ok u) told o x made mid new some mid_is mid_told has =
    let whole : new.o ≡ with_sections made.o (new_section ∷ has.sections) =
    has.object
    ∙ ap (λ (m : Object). with_more m has.sections) mid_is
    ∙ more_made made.o has.sections in
    record {
      told_is = has.told_is ∙ mid_told;
      exact = λ t. whole ∙ ap (λ (l : List Section). with_sections made.o l)
          (ap (λ (l : List Section). new_section ∷ l) (has.exact t)
          ∙ sym (some_over (bases_of o.base) o x some));
      bases = has.read.bases;
      suit = has.read.suit;
      read = whole ∙ ap (λ (l : List Section). with_sections made.o l)
          (ap (λ (l : List Section). new_section ∷ l) has.read.is
          ∙ sym (some_over has.read.bases o x some));
    }
all_planned (Err e) told o x made mid new some mid_is mid_told has = tt

pub long_over : (b : Bases) (o : Object) (x : Arranged)
    → length (sections_over b o x) ≡ length x.listed.headers
long_over b o x = by (length x.listed.headers) refl
  where
    by : (n : ℕ) → length x.listed.headers ≡ n → length (sections_over b o x) ≡ n
    by zero is = ap (λ (l : List Section). length l) (none_over b o x is)
    by (suc n) is =
        let some : length x.listed.headers ≡ 0 → ⊥ = λ none. omega (arith, is, none) in
        let count = stated_long (arranged_header x) (items_over b o x) (arranged_numbers x)
        ∙ length-range_with_len 1 (length x.listed.headers - 1) in
        ap (λ (l : List Section). length l) (some_over b o x some)
        ∙ omega (arith, count, is)

-- ---- The header

header_parts : (m : Object) (h : Ehdr) → update_ehdr_refusal m h
    ≡ first_refusal
    (refused_if (not (h.shstrndx == 0) && nat_le (length m.sections) h.shstrndx)
    (NoSection h.shstrndx (length m.sections))
    ∷ refused_if (not (fits m.header.class h.entry && fits m.header.class h.phoff
    && fits m.header.class h.shoff)) (Unfit part.Header 0) ∷ [])
unfolding update_ehdr_refusal stored_ehdr ehdr_fits
header_parts m h = refl

pub fits_parts : (h : Ehdr) → IsTrue (ehdr_fits h)
    → (fits h.class h.entry && fits h.class h.phoff && fits h.class h.shoff) ≡ true
unfolding ehdr_fits
fits_parts h is = is

and_false : (b : Bool) → (b && false) ≡ false
and_false true = refl
and_false false = refl

index_passes : (n i : ℕ) → (i ≡ 0) ⊎ (i < n) → (not (i == 0) && nat_le n i) ≡ false
index_passes n i (inl none) = ap (λ (b : Bool). not b && nat_le n i) (eq-eqb i 0 none)
index_passes n i (inr below) =
    ap (λ (b : Bool). not (i == 0) && b) (lt-leb n i below) ∙ and_false (not (i == 0))

pub header_passes : (m : Object) (h : Ehdr) (n : ℕ) → length m.sections ≡ n
    → h.class ≡ m.header.class → IsTrue (ehdr_fits h) → (h.shstrndx ≡ 0) ⊎ (h.shstrndx < n)
    → update_ehdr_refusal m h ≡ None
header_passes m h n count class is below =
    let first : (not (h.shstrndx == 0) && nat_le (length m.sections) h.shstrndx) ≡ false =
    ap (λ (k : ℕ). not (h.shstrndx == 0) && nat_le k h.shstrndx) count
    ∙ index_passes n h.shstrndx below in
    let second : (fits m.header.class h.entry && fits m.header.class h.phoff
    && fits m.header.class h.shoff) ≡ true =
    ap (λ (c : Class). fits c h.entry && fits c h.phoff && fits c h.shoff) (sym class)
    ∙ fits_parts h is in
    header_parts m h
    ∙ ap (λ (a : Bool). first_refusal (refused_if a (NoSection h.shstrndx (length m.sections))
    ∷ refused_if (not (fits m.header.class h.entry && fits m.header.class h.phoff
    && fits m.header.class h.shoff)) (Unfit part.Header 0) ∷ [])) first
    ∙ ap (λ (b : Bool). first_refusal (None ∷ refused_if (not b) (Unfit part.Header 0) ∷ []))
    second

pub filled_passes : {S : Type 0} (told : Bool) (o : Object) (x : Arranged)
    (made mid filled : State S) → mid ≡ stepped (calls.phdrs_mut o.phdrs) made
    → HasPlanned told o x mid filled
    → made.o.header.class ≡ o.header.class → IsArrangementReady o x
    → update_ehdr_refusal filled.o x.listed.header ≡ None
filled_passes {S} told o x made mid filled mid_is has class is =
    let count : length filled.o.sections ≡ length x.listed.headers =
    ap (λ (m : Object). length m.sections) has.read ∙ long_over has.bases o x in
    let same : filled.o.header.class ≡ o.header.class =
    ap (λ (m : Object). m.header.class) has.read
    ∙ segments_class o made mid mid_is class in
    header_passes filled.o x.listed.header (length x.listed.headers) count
    (is.header.class ∙ sym same) is.header.fits is.header.index

-- ---- All of it

segments_then : (m : Object) (phdrs : List Phdr) (l : List Section)
    → with_sections (with_phdrs m phdrs) l ≡ with_phdrs (with_sections m l) phdrs
unfolding with_phdrs
segments_then m phdrs l = refl

pub made_by : {S : Type 0} (told : Bool) (o : Object) (x : Arranged)
    (made mid filled new : State S) → mid ≡ stepped (calls.phdrs_mut o.phdrs) made
    → HasPlanned told o x mid filled
    → new ≡ stepped (calls.update_ehdr x.listed.header) filled
    → IsMadeBy told o x made new
made_by {S} told o x made mid filled new mid_is has is = record {
  told_is = ap (λ (s : State S). s.told) is ∙ has.told_is ∙ ap (λ (s : State S). s.told) mid_is;
  exact = λ t. with_all (sections_in o x) (has.exact t);
  bases = has.bases;
  suit = has.suit;
  read = with_all (sections_over has.bases o x) has.read;
}
  where
    with_all : (l : List Section) → filled.o ≡ with_sections mid.o l → new.o
        ≡ with_ehdr (with_phdrs (with_sections made.o l) o.phdrs) x.listed.header
    with_all l filled_is =
        ap (λ (s : State S). s.o) is
        ∙ ap (λ (m : Object). with_ehdr m x.listed.header)
        (filled_is
        ∙ ap (λ (s : State S). with_sections s.o l) mid_is
        ∙ segments_then made.o o.phdrs l)

-- ---- The whole step

module _ {S : Type 0} (old mid : State S) (stays : mid ≡ record old { source = mid.source }) where
  pub stays_object : mid.o ≡ old.o
  stays_object = ap (λ (s : State S). s.o) stays

  pub stays_told : mid.told ≡ old.told
  stays_told = ap (λ (s : State S). s.told) stays

  pub asks_created : {T : Type 0} (g : Ghosts S) (r : Result T ElfError) (n : ℕ)
      → Asks g r old.source mid.source n → AsksFor g r old mid n
  asks_created g r n asks = record {
    object = stays_object;
    told = stays_told;
    source = asks;
  }

  pub made_whole : {R : Type 0} (x : Arranged) (made new : State R)
      → (IsTrue old.told → made.o ≡ over_base old.o x.tail)
      → IsMadeBy mid.told mid.o x made new → IsTrue old.told
      → new.o ≡ object_from_arranged old.o x
  unfolding object_over
  made_whole x made new created is t =
      is.exact (subst (λ (b : Bool). IsTrue b) (sym stays_told) t)
      ∙ ap (λ (o : Object). with_ehdr
      (with_phdrs (with_sections made.o (sections_in o x)) o.phdrs) x.listed.header)
      stays_object
      ∙ ap (λ (m : Object). with_ehdr
      (with_phdrs (with_sections m (sections_in old.o x)) old.o.phdrs) x.listed.header)
      (created t)

  pub read_whole : {R : Type 0} (told : Bool) (x : Arranged) (made new : State R)
      → IfSome x.tail (λ n. n ≤ length old.o.base) → IsMadeOver told old.o x.tail made
      → AreBytes made.o.base → IsMadeBy mid.told mid.o x made new → IsObjectRead old.o x new.o
  unfolding object_over sections_over
  read_whole {R} told x made new below over are is =
      let by : IsMadeBy mid.told old.o x made new =
      subst (λ (o : Object). IsMadeBy mid.told o x made new) stays_object is in
      let front = front_of old.o over.base in
      record {
        bases = record { front = front; each = by.bases.each };
        suit = record {
          front_bytes = front_suits old.o over.base
              (subst AreBytes (ap (λ (o : Object). o.base) over.made_is.object) are);
          front_long = front_long old.o x.tail over.base below over.long;
          bytes = by.suit.bytes;
          long = by.suit.long;
        };
        is = by.read
            ∙ ap (λ (m : Object). with_ehdr
            (with_phdrs (with_sections m (sections_over by.bases old.o x)) old.o.phdrs)
            x.listed.header)
            (over.made_is.object ∙ front_over old.o x.tail over.base below over.long);
      }

due_is : (x : Arranged)
    → object_due x ≡ unwrap_or x.tail 0 + section_ranges_due x (length x.listed.headers - 1)
unfolding object_due
due_is x = refl

pub asks_front : {S T : Type 0} (g : Ghosts S) (r : Result T ElfError) (old new : State S)
    (x : Arranged) → AsksFor g r old new (unwrap_or x.tail 0)
    → AsksFor g r old new (object_due x)
asks_front g r old new x is =
    let same = due_is x in
    asks_more g r old new (unwrap_or x.tail 0) (object_due x) (omega (arith, same)) is

pub asks_whole : {S T U : Type 0} (g : Ghosts S) (r : Result T ElfError) (q : Result U ElfError)
    (old mid new : State S) (x : Arranged) → AsksFor g r old mid (unwrap_or x.tail 0)
    → AsksFor g q mid new (section_ranges_due x (length x.listed.headers - 1))
    → AsksFor g q old new (object_due x)
asks_whole {S} {T} {U} g r q old mid new x first second =
    subst (λ (n : ℕ). AsksFor g q old new n) (sym (due_is x))
    (asks_twice g r q old mid new (unwrap_or x.tail 0)
    (section_ranges_due x (length x.listed.headers - 1)) first second)
