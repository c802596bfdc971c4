-- An object that was created gets its program headers, its sections and its header.
use Rattle.std.proofs.Common.{◌≡◌, ◌⊎◌, inl, inr, ◌-◌, ◌<◌, ◌≤◌, ◌==◌, ◌&&◌, ℕ, Bool, true, false, not, List, [], ◌∷◌, length, map, Option, Some, None, Result, Ok, Err, if◌then◌else◌, refl, sym, ap, ◌∙◌, subst, arith}
use Rattle.std.specs.Prelude.{IfSome, OnOk, nat_le}
use Rattle.std.proofs.lemmas.Bool.{and_cases, eq-eqb, eqb-true, leb-false, not-false}
use Rattle.elf_types.specs.declared.records.Class.{Class}
use Rattle.elf_types.specs.declared.records.Ehdr.{Ehdr}
use Rattle.elf_types.specs.declared.records.Phdr.{Phdr}
use Rattle.elf_types.specs.declared.records.Part.TheVariants as part
use Rattle.elf_types.specs.declared.errors.ElfError.{ElfError}
use Rattle.elf_types.specs.declared.errors.ElfError.TheVariants.{Memory, Read, Write, NoSection, Unfit}
use Rattle.elf_types.specs.Answers.{refused_if, first_refusal, answered, IsRefusal}
use Rattle.rebuild_making.specs.elf_outside.Asks.{ReadRose}
use Rattle.rebuild_names.specs.elf_xlate.Fields.{fits}
use Rattle.rebuild_names.specs.elf_xlate.Headers.{ehdr_fits}
use Rattle.rebuild_making.specs.elf_object.Object.{Object, Section, new_section}
use Rattle.rebuild_making.specs.elf_object.Words.{Edits}
use Rattle.rebuild_making.specs.elf_object.Steps.{stored_ehdr, with_ehdr, with_phdrs, with_sections, with_null_section}
use Rattle.rebuild_making.specs.elf_object.Calls.{newphdr_refusal, update_ehdr_refusal}
use Rattle.rebuild_making.specs.elf_object.Calls as calls
use Rattle.rebuild_making.proofs.elf_object.AnswerLaws.{answered_value, answered_refusal}
use Rattle.rebuild_making.proofs.elf_object.PassedLaws.{none_first, not_refused}
use Rattle.elf_update_plan.specs.elf_descriptor.State.{State}
use Rattle.elf_update_plan.specs.elf_descriptor.Edits.{StepsTo, stepped, grown, nulled}
use Rattle.rebuild_making.specs.rebuild_model.Rebuilt.{assembled, index_refusal}
use Rattle.rebuild_making.specs.Refused.{RefusedBy, UnreadBy}
use Rattle.rebuild_making.proofs.RefusedLaws.{alone}
use Rattle.rebuild_keep.specs.Answers.{filled_refusal, HasSections, IsFilled}
use Rattle.rebuild_keep.proofs.MakeLaws.{refused_unread, stated_quiet, quiet_rose}

-- ---- No sections

none_listed : (numbers : List ℕ) → length numbers ≤ 0 → numbers ≡ []
none_listed [] none = refl
none_listed (s ∷ numbers) none = absurd (omega (arith, none))

-- there are no numbers then
no_numbers : (o : Object) (numbers : List ℕ) → length o.sections ≡ 0
    → length numbers ≤ length o.sections - 1 → numbers ≡ []
no_numbers o numbers none few = none_listed numbers (omega (arith, none, few))

same_object : (m : Object) → m.sections ≡ [] → m.header.shnum ≡ 0 → m ≡ with_sections m []
same_object m empty count =
    ap (λ (l : List Section). record m { sections = l }) empty
    ∙ ap (λ (n : ℕ). record m { header = record m.header { shnum = n }; sections = [] }) count

pub has_none : {S : Type 0} (told : Bool) (stated : List Section) (made : State S) → stated ≡ []
    → made.o.sections ≡ [] → made.o.header.shnum ≡ 0 → HasSections told stated made made
has_none told stated made none empty count = record {
  sections = [];
  object = same_object made.o empty count;
  long = ap (λ (l : List Section). length l) (sym none);
  exact = λ t. sym none;
  told_is = refl;
}

pub none_passed : (o : Object) (refusal : ℕ → Option ElfError) (numbers : List ℕ)
    → length o.sections ≡ 0 → length numbers ≤ length o.sections - 1
    → first_refusal (map refusal numbers) ≡ None
none_passed o refusal numbers none few =
    ap (λ (l : List ℕ). first_refusal (map refusal l)) (no_numbers o numbers none few)

-- ---- Section 0

pub null_memory : {S : Type 0} (e : ElfError) (old new stepped : S)
    → Edits {A = Unit {0}} (Err e) old new (Ok tt) stepped → e ≡ Memory
null_memory Memory old new stepped came = refl
null_memory e old new stepped came =
    let clash : ◌≡◌ {A = Result (Unit {0}) ElfError} (Ok tt) (Err e) = came.0 in cc

module _ {S : Type 0} (made mid : State S) (empty : made.o.sections ≡ [])
    (is : mid ≡ nulled made) where
  null_object : with_null_section made.o ≡ with_sections made.o (new_section ∷ [])
  unfolding with_null_section
  null_object =
      ap (λ (b : Bool). if b then with_sections made.o (new_section ∷ []) else made.o)
      (eq-eqb (length made.o.sections) 0 (ap (λ (l : List Section). length l) empty))

  null_state : mid ≡ grown calls.newnull made
  null_state =
      is
      ∙ ap (λ (b : Bool). if b then grown calls.newnull made else made)
      (eq-eqb (length made.o.sections) 0 (ap (λ (l : List Section). length l) empty))

  pub null_made : mid.o ≡ with_sections made.o (new_section ∷ [])
  null_made = ap (λ (s : State S). s.o) null_state ∙ null_object

  pub null_told : mid.told ≡ made.told
  null_told = ap (λ (s : State S). s.told) null_state

  pub null_class : mid.o.header.class ≡ made.o.header.class
  null_class = ap (λ (o : Object). o.header.class) null_made

-- ---- Refusals, one after another

unread_by : (r q : Option ElfError) (e : ElfError) → (r ≡ Some e → q ≡ Some e) → UnreadBy r e
    → UnreadBy q e
unread_by r q Memory behind by = tt
unread_by r q Read behind by = tt
unread_by r q Write behind by = by
unread_by r q e behind by = behind by

module _ (o : Object) (refusal : ℕ → Option ElfError) (numbers : List ℕ)
    (sections : List Section) (index : ℕ) where
  filled_first : (e : ElfError) → newphdr_refusal (length o.phdrs) ≡ Some e
      → filled_refusal o refusal numbers sections index ≡ Some e
  unfolding filled_refusal
  filled_first e is =
      ap (λ (r : Option ElfError). first_refusal (r ∷ first_refusal (map refusal numbers)
      ∷ index_refusal o sections index ∷ [])) is

  pub segments_refused : (e : ElfError) → RefusedBy (newphdr_refusal (length o.phdrs)) e
      → UnreadBy (filled_refusal o refusal numbers sections index) e
  segments_refused e by =
      unread_by (newphdr_refusal (length o.phdrs)) (filled_refusal o refusal numbers sections index)
      e (filled_first e) (refused_unread (newphdr_refusal (length o.phdrs)) e by)

  module _ (segments : newphdr_refusal (length o.phdrs) ≡ None) where
    filled_second : filled_refusal o refusal numbers sections index
        ≡ first_refusal (first_refusal (map refusal numbers) ∷ index_refusal o sections index ∷ [])
    unfolding filled_refusal
    filled_second =
        ap (λ (r : Option ElfError). first_refusal (r ∷ first_refusal (map refusal numbers)
        ∷ index_refusal o sections index ∷ [])) segments

    pub sections_refused : (e : ElfError) → UnreadBy (first_refusal (map refusal numbers)) e
        → UnreadBy (filled_refusal o refusal numbers sections index) e
    sections_refused e by =
        unread_by (first_refusal (map refusal numbers))
        (filled_refusal o refusal numbers sections index) e
        (λ is. filled_second
        ∙ ap (λ (r : Option ElfError). first_refusal (r ∷ index_refusal o sections index ∷ [])) is)
        by

    pub filled_third : first_refusal (map refusal numbers) ≡ None
        → filled_refusal o refusal numbers sections index ≡ index_refusal o sections index
    filled_third none =
        filled_second
        ∙ ap (λ (r : Option ElfError). first_refusal (r ∷ index_refusal o sections index ∷ [])) none
        ∙ alone (index_refusal o sections index)

-- ---- The header

abbrev by_parts : Class → ℕ → Ehdr → Option ElfError
by_parts class n h = first_refusal
    (refused_if (not (h.shstrndx == 0) && nat_le n h.shstrndx) (NoSection h.shstrndx n)
    ∷ refused_if (not (fits class h.entry && fits class h.phoff && fits class h.shoff))
    (Unfit part.Header 0)
    ∷ [])

header_parts : (m : Object) (h : Ehdr)
    → update_ehdr_refusal m h ≡ by_parts m.header.class (length m.sections) h
unfolding update_ehdr_refusal stored_ehdr ehdr_fits
header_parts m h = refl

index_parts : (o : Object) (sections : List Section) (index : ℕ)
    → index_refusal o sections index
    ≡ by_parts o.header.class (length sections) (record o.header { shstrndx = index })
unfolding index_refusal update_ehdr_refusal stored_ehdr ehdr_fits
index_parts o sections index = refl

pub header_refused : (o m : Object) (sections : List Section) (index : ℕ)
    → m.header.class ≡ o.header.class → length m.sections ≡ length sections
    → update_ehdr_refusal m (record o.header { shstrndx = index })
    ≡ index_refusal o sections index
header_refused o m sections index class count =
    header_parts m (record o.header { shstrndx = index })
    ∙ ap (λ (c : Class). by_parts c (length m.sections) (record o.header { shstrndx = index }))
    class
    ∙ ap (λ (n : ℕ). by_parts o.header.class n (record o.header { shstrndx = index })) count
    ∙ sym (index_parts o sections index)

index_below : (class : Class) (n index : ℕ) (h : Ehdr) → h.shstrndx ≡ index
    → by_parts class n h ≡ None → (index ≡ 0) ⊎ (index < n)
index_below class n index h at none =
    let first : (not (h.shstrndx == 0) && nat_le n h.shstrndx) ≡ false =
    not_refused (not (h.shstrndx == 0) && nat_le n h.shstrndx) (NoSection h.shstrndx n)
    (none_first (refused_if (not (h.shstrndx == 0) && nat_le n h.shstrndx)
    (NoSection h.shstrndx n)) _ none) in
    subst (λ (i : ℕ). (i ≡ 0) ⊎ (i < n)) at
    (elim (and_cases (not (h.shstrndx == 0)) (nat_le n h.shstrndx) first) [
      | inl zero_is ↦ inl (eqb-true h.shstrndx 0 (not-false (h.shstrndx == 0) zero_is))
      | inr low ↦ inr (leb-false n h.shstrndx low)
    ])

-- ---- All of it

segments_then : (m : Object) (phdrs : List Phdr) (l : List Section)
    → with_sections (with_phdrs m phdrs) l ≡ with_phdrs (with_sections m l) phdrs
unfolding with_phdrs
segments_then m phdrs l = refl

pub with_segments_same : (m : Object) (phdrs : List Phdr)
    → ((with_phdrs m phdrs).sections ≡ m.sections)
    × ((with_phdrs m phdrs).header.shnum ≡ m.header.shnum)
    × ((with_phdrs m phdrs).header.class ≡ m.header.class)
unfolding with_phdrs
with_segments_same m phdrs = (refl, refl, refl)

filled_index : (m o : Object) (index : ℕ) (l : List Section)
    → ((assembled m o index l).header.shstrndx ≡ index)
    × ((assembled m o index l).sections ≡ l)
unfolding assembled with_ehdr stored_ehdr with_phdrs
filled_index m o index l = (refl, refl)

as_assembled : (m o : Object) (index : ℕ) (l : List Section)
    → with_ehdr (with_phdrs (with_sections m l) o.phdrs) (record o.header { shstrndx = index })
    ≡ assembled m o index l
unfolding assembled
as_assembled m o index l = refl

module _ {S : Type 0} (told : Bool) (o : Object) (index : ℕ) (stated : List Section)
    (made segments filled new : State S)
    (segments_are : segments ≡ stepped (calls.phdrs_mut o.phdrs) made)
    (class : made.o.header.class ≡ o.header.class)
    (has : HasSections told stated segments filled) where
  segments_object : segments.o ≡ with_phdrs made.o o.phdrs
  segments_object = ap (λ (s : State S). s.o) segments_are

  filled_object : filled.o ≡ with_phdrs (with_sections made.o has.sections) o.phdrs
  filled_object =
      has.object
      ∙ ap (λ (m : Object). with_sections m has.sections) segments_object
      ∙ segments_then made.o o.phdrs has.sections

  filled_class : filled.o.header.class ≡ o.header.class
  filled_class =
      ap (λ (m : Object). m.header.class) has.object
      ∙ ap (λ (m : Object). m.header.class) segments_object
      ∙ (with_segments_same made.o o.phdrs).2
      ∙ class

  filled_count : length filled.o.sections ≡ length stated
  filled_count = ap (λ (m : Object). length m.sections) has.object ∙ has.long

  -- the refusal of the header is that of the string index
  pub last_refused : update_ehdr_refusal filled.o (record o.header { shstrndx = index })
      ≡ index_refusal o stated index
  last_refused = header_refused o filled.o stated index filled_class filled_count

  is_filled : index_refusal o stated index ≡ None
      → new ≡ stepped (calls.update_ehdr (record o.header { shstrndx = index })) filled
      → IsFilled told o index stated made new
  is_filled passes is =
      let object : new.o ≡ assembled made.o o index has.sections =
      ap (λ (s : State S). s.o) is
      ∙ ap (λ (m : Object). with_ehdr m (record o.header { shstrndx = index })) filled_object
      ∙ as_assembled made.o o index has.sections in
      let parts = filled_index made.o o index has.sections in
      let below = index_below o.header.class (length stated) index
      (record o.header { shstrndx = index }) refl (sym (index_parts o stated index) ∙ passes) in
      record {
        sections = has.sections;
        object = object;
        long = has.long;
        exact = has.exact;
        told_is = ap (λ (s : State S). s.told) is ∙ has.told_is
            ∙ ap (λ (s : State S). s.told) segments_are;
        index_is = subst (λ (m : Object).
            (m.header.shstrndx ≡ 0) ⊎ (m.header.shstrndx < length m.sections)) (sym object)
            (rw (parts.0, parts.1, has.long) below);
      }

  pub filled_on : (r : Result (Unit {0}) ElfError)
      → r ≡ answered (update_ehdr_refusal filled.o (record o.header { shstrndx = index })) tt
      → StepsTo r filled new
      (stepped (calls.update_ehdr (record o.header { shstrndx = index })) filled)
      → OnOk r (IsFilled told o index stated made new)
  filled_on (Ok u) answer steps =
      is_filled (sym last_refused ∙ (answered_value
      (update_ehdr_refusal filled.o (record o.header { shstrndx = index })) tt u
      (sym answer)).0) steps
  filled_on (Err e) answer steps = tt

-- ---- The program headers

module _ {S : Type 0} (o : Object) (made mid : State S)
    (is : mid ≡ stepped (calls.phdrs_mut o.phdrs) made) where
  pub segments_empty : made.o.sections ≡ [] → mid.o.sections ≡ []
  segments_empty empty =
      ap (λ (s : State S). s.o.sections) is ∙ (with_segments_same made.o o.phdrs).0 ∙ empty

  pub segments_count : made.o.header.shnum ≡ 0 → mid.o.header.shnum ≡ 0
  segments_count count =
      ap (λ (s : State S). s.o.header.shnum) is ∙ (with_segments_same made.o o.phdrs).1 ∙ count

  pub segments_class : made.o.header.class ≡ o.header.class
      → mid.o.header.class ≡ o.header.class
  segments_class class =
      ap (λ (s : State S). s.o.header.class) is ∙ (with_segments_same made.o o.phdrs).2 ∙ class

pub header_states : (m : Object) (h : Ehdr) → IfSome (update_ehdr_refusal m h) IsRefusal
unfolding update_ehdr_refusal
header_states m h =
    by (not (h.shstrndx == 0) && nat_le (length m.sections) h.shstrndx)
    (not (ehdr_fits (stored_ehdr m.header h)))
  where
    by : (a b : Bool) → IfSome (first_refusal
        (refused_if a (NoSection h.shstrndx (length m.sections))
        ∷ refused_if b (Unfit part.Header 0) ∷ [])) IsRefusal
    by true b = tt
    by false true = tt
    by false false = tt

-- what an answer refuses is no want of memory and no fault
module _ (q : Option ElfError) (states : IfSome q IsRefusal) where
  pub stated_answer : (e : ElfError) → ◌≡◌ {A = Result (Unit {0}) ElfError} (Err e) (answered q tt)
      → IsRefusal e
  stated_answer e answer =
      subst (λ (x : Option ElfError). IfSome x IsRefusal) (answered_refusal q tt e (sym answer))
      states

  pub rose_on : (r : Result (Unit {0}) ElfError) (a b : ℕ) → r ≡ answered q tt → ReadRose r a b
  rose_on (Ok u) a b answer = tt
  rose_on (Err e) a b answer =
      quiet_rose (Unit {0}) e a b (stated_quiet e (stated_answer e answer))
