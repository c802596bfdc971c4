-- The section that is made of one of the debug half.
use Rattle.std.proofs.Common.{◌≡◌, ℕ, ◌+◌, ◌^◌, ◌<◌, ◌≤◌, ◌&&◌, Bool, true, false, List, [], ◌∷◌, length, Option, Some, None, Result, Ok, Err, if◌then◌else◌, sym, ap, ◌∙◌, subst, arith, lit<}
use Rattle.std.specs.Prelude.{OnOk, slice_get}
use Rattle.std.specs.Option.{option_map}
use Rattle.std.proofs.lemmas.Bool.{and_parts, ne_eqb}
use Rattle.elf_types.specs.declared.constants.TheConstants.{MAX_SECTIONS}
use Rattle.elf_types.specs.declared.records.Shdr.{Shdr}
use Rattle.elf_types.specs.declared.errors.ElfError.{ElfError}
use Rattle.elf_outside.specs.declared.sources.Source.{Ghosts}
use Rattle.elf_xlate.specs.declared.content.Items.TheVariants as items
use Rattle.rebuild_keep.specs.elf_object.Object.{Object, Section, section_at, new_section}
use Rattle.rebuild_keep.specs.elf_object.Answers.{raw_refusal}
use Rattle.rebuild_keep.specs.elf_object.Due.{homes_due}
use Rattle.rebuild_keep.specs.elf_object.Valid.{IsObject}
use Rattle.rebuild_keep.specs.elf_descriptor.State.{State}
use Rattle.rebuild_keep.specs.elf_object.Sections.{is_allocated, header_at}
use Rattle.rebuild_keep.specs.rebuild_model.Rebuilt.{made_section}
use Rattle.rebuild_keep.specs.rebuild_model.Split.{UnstripFault, allocated, counterpart, loaded_header, combined_section, combined_raw_refusal, matches}
use Rattle.rebuild_keep.specs.rebuild_model.Split.{UnstripFault as stated}
use Rattle.rebuild_keep.specs.rebuild_making.Refused.{UnreadBy}
use Rattle.rebuild_keep.specs.Homes.{bytes_at_home}
use Rattle.rebuild_keep.specs.Makes.{AsksFor}
use Rattle.rebuild_keep.proofs.AskLaws.{asks_nothing}
use Rattle.rebuild_join.specs.declared.joined.faults.UnstripFault.TheVariants as faults
use Rattle.rebuild_join.specs.Joined.Joined.{allocated_below, stripped_reads, debug_reads, HasMoreSections, AddsNext}
use Rattle.rebuild_join.proofs.joined.FaultLaws.{elf_fault, debug_fault, fault_as}
use Rattle.rebuild_join.proofs.joined.LoadedLaws.{below_count, below_few, below_counts, below_stays, counterpart_some, counterpart_none, stripped_some, debug_none}
use Rattle.rebuild_join.proofs.joined.MatchLaws.{match_many}
use Rattle.rebuild_join.proofs.joined.MoreLaws.{more_as, more_told}

-- ---- What is stated of one

module _ (a b : Object) (s : ℕ) (first : 1 ≤ s) where
  abbrev pub section_by : Option ℕ → Section
  section_by found = elim found [
    | None ↦ made_section (header_at b s) (items.Bytes (section_at b s).raw)
    | Some t ↦ made_section
        (loaded_header (header_at b s) (header_at a t))
        (items.Bytes (section_at a t).raw)
  ]

  pub combined_by : (found : Option ℕ) → counterpart a b s ≡ found
      → combined_section a b s ≡ section_by found
  unfolding combined_section
  combined_by found is =
      ap (λ (t : Bool). if t then new_section else section_by (counterpart a b s))
      (ne_eqb s 0 (λ none. omega (arith, none, first)))
      ∙ ap section_by is

  abbrev pub refusal_by : Option ℕ → Option UnstripFault
  refusal_by found = elim found [
    | None ↦ option_map stated.Debug (raw_refusal b s)
    | Some t ↦ option_map stated.Elf (raw_refusal a t)
  ]

  pub refused_by : (found : Option ℕ) → counterpart a b s ≡ found
      → combined_raw_refusal a b s ≡ refusal_by found
  unfolding combined_raw_refusal
  refused_by found is = ap refusal_by is

-- the i-th allocated section of the one half is there
pub taken_there : (a b : Object) (s taken : ℕ) (l : List ℕ) → matches a b ≡ true → 1 ≤ s
    → s < length b.sections → is_allocated (header_at b s) ≡ true
    → taken ≡ length (allocated_below b s) → l ≡ allocated a → taken < length l
taken_there a b s taken l same first there is count at =
    let many = match_many a b same in
    let below = below_count b s first there is in
    let long : length l ≡ length (allocated a) = ap (λ (x : List ℕ). length x) at in
    omega (arith, many, below, long, count)

pub taken_few : (b : Object) (s taken : ℕ) → 1 ≤ s → s < length b.sections → IsObject b
    → taken ≡ length (allocated_below b s) → taken + 1 < 2 ^ 32
taken_few b s taken first there is count =
    let limit : MAX_SECTIONS < 2 ^ 32 = lit< tt in
    omega (arith, count, below_few b s, first, there, limit, is.section_count)

pub section_room_left : (b made : Object) (s : ℕ) → IsObject b → s < length b.sections
    → length made.sections ≡ s → length made.sections < MAX_SECTIONS
section_room_left b made s is there long = omega (arith, is.section_count, there, long)

pub some_made : (made : Object) (s : ℕ) → 0 < s → length made.sections ≡ s
    → 0 < length made.sections
some_made made s first long = omega (arith, first, long)

-- the header of the stripped half, as it was told
pub adds_joined : {M : Type 0} (r : Result (Unit {0}) ElfError) (told : Bool) (a : Object) (t : ℕ)
    (h own joined : Shdr) (made grown : State M) → own ≡ header_at a t
    → joined ≡ loaded_header h own
    → OnOk r (HasMoreSections told (made_section joined (bytes_at_home a t) ∷ []) made grown)
    → OnOk r (HasMoreSections told (made_section (loaded_header h (header_at a t)) (bytes_at_home a t) ∷ [])
    made grown)
adds_joined r told a t h own joined made grown at is adds =
    subst (λ (x : Shdr). OnOk r (HasMoreSections told (made_section x (bytes_at_home a t) ∷ []) made grown))
    (is ∙ ap (loaded_header h) at) adds

-- ---- One step

module _ {S T M : Type 0} (g : Ghosts S) (h : Ghosts T) (old : State S) (debug : State T)
    (s taken : ℕ) (first : 1 ≤ s) (there : s < length debug.o.sections)
    (count : taken ≡ length (allocated_below debug.o s)) (header : Shdr)
    (head : header ≡ header_at debug.o s) (b : Bool) (test : b ≡ is_allocated header)
    (made grown : State M) where
  loads_as : (t : Bool) → b ≡ t → is_allocated (header_at debug.o s) ≡ t
  loads_as t is = sym (ap is_allocated head) ∙ sym test ∙ is

  -- ---- An allocated one
  module _ (is : b ≡ true) (l : List ℕ) (same : l ≡ allocated old.o) (t : ℕ)
      (at : slice_get l taken ≡ Some t) where
    found : counterpart old.o debug.o s ≡ Some t
    found =
        counterpart_some old.o debug.o s t first there (loads_as true is)
        (sym (ap (λ (n : ℕ). slice_get (allocated old.o) n) count)
        ∙ sym (ap (λ (x : List ℕ). slice_get x taken) same)
        ∙ at)

    pub next_loaded : (new : State S)
        → HasMoreSections old.told
        (made_section (loaded_header header (header_at old.o t)) (bytes_at_home old.o t) ∷ [])
        made grown
        → raw_refusal old.o t ≡ None
        → AsksFor {T = Unit {0}} g (Ok tt) old new (homes_due old.o [] (t ∷ []))
        → AddsNext g h s (Ok (taken + 1)) old new debug debug made grown
    next_loaded new adds passed asks = record {
      next = ap (λ (n : ℕ). n + 1) count
          ∙ sym (below_counts debug.o s first (loads_as true is));
      adds = more_told old.told (old.told && debug.told)
          (combined_section old.o debug.o s ∷ []) made grown
          (λ both. (and_parts old.told debug.told both).0)
          (more_as old.told
          (made_section (loaded_header header (header_at old.o t)) (bytes_at_home old.o t) ∷ [])
          (combined_section old.o debug.o s ∷ []) made grown
          (ap (λ (x : Shdr).
          made_section (loaded_header x (header_at old.o t)) (bytes_at_home old.o t) ∷ []) head
          ∙ ap (λ (c : Section). c ∷ [])
          (sym (combined_by old.o debug.o s first (Some t) found))) adds);
      passed = refused_by old.o debug.o s first (Some t) found
          ∙ ap (option_map stated.Elf) passed;
      fault = tt;
      asks_stripped = subst (λ (x : List ℕ).
          AsksFor {T = Unit {0}} g (Ok tt) old new (homes_due old.o [] x))
          (sym (stripped_some old.o debug.o s t found)) asks;
      asks_debug = asks_nothing h {T = Unit {0}} (Ok tt) debug
          (homes_due debug.o [] (debug_reads old.o debug.o s)) tt;
    }

    pub stop_loaded : (new : State S) (e : ElfError) → UnreadBy (raw_refusal old.o t) e
        → AsksFor {T = Unit {0}} g (Err e) old new (homes_due old.o [] (t ∷ []))
        → AddsNext g h s (Err (faults.Elf e)) old new debug debug made grown
    stop_loaded new e by asks = record {
      next = tt;
      adds = tt;
      passed = tt;
      fault = fault_as (option_map stated.Elf (raw_refusal old.o t))
          (combined_raw_refusal old.o debug.o s) (stated.Elf e)
          (sym (refused_by old.o debug.o s first (Some t) found))
          (elf_fault (raw_refusal old.o t) e by);
      asks_stripped = subst (λ (x : List ℕ).
          AsksFor {T = Unit {0}} g (Err e) old new (homes_due old.o [] x))
          (sym (stripped_some old.o debug.o s t found)) asks;
      asks_debug = asks_nothing h {T = Unit {0}} (Ok tt) debug
          (homes_due debug.o [] (debug_reads old.o debug.o s)) tt;
    }

  -- ---- Any other
  module _ (is : b ≡ false) where
    nowhere : counterpart old.o debug.o s ≡ None
    nowhere = counterpart_none old.o debug.o s (loads_as false is)

    pub next_own : (after : State T)
        → HasMoreSections debug.told (made_section header (bytes_at_home debug.o s) ∷ []) made grown
        → raw_refusal debug.o s ≡ None
        → AsksFor {T = Unit {0}} h (Ok tt) debug after (homes_due debug.o [] (s ∷ []))
        → AddsNext g h s (Ok taken) old old debug after made grown
    next_own after adds passed asks = record {
      next = count ∙ sym (below_stays debug.o s first (loads_as false is));
      adds = more_told debug.told (old.told && debug.told)
          (combined_section old.o debug.o s ∷ []) made grown
          (λ both. (and_parts old.told debug.told both).1)
          (more_as debug.told (made_section header (bytes_at_home debug.o s) ∷ [])
          (combined_section old.o debug.o s ∷ []) made grown
          (ap (λ (x : Shdr). made_section x (bytes_at_home debug.o s) ∷ []) head
          ∙ ap (λ (c : Section). c ∷ [])
          (sym (combined_by old.o debug.o s first None nowhere))) adds);
      passed = refused_by old.o debug.o s first None nowhere
          ∙ ap (option_map stated.Debug) passed;
      fault = tt;
      asks_stripped = asks_nothing g {T = Unit {0}} (Ok tt) old
          (homes_due old.o [] (stripped_reads old.o debug.o s)) tt;
      asks_debug = subst (λ (x : List ℕ).
          AsksFor {T = Unit {0}} h (Ok tt) debug after (homes_due debug.o [] x))
          (sym (debug_none old.o debug.o s nowhere)) asks;
    }

    pub stop_own : (after : State T) (e : ElfError) → UnreadBy (raw_refusal debug.o s) e
        → AsksFor {T = Unit {0}} h (Err e) debug after (homes_due debug.o [] (s ∷ []))
        → AddsNext g h s (Err (faults.Debug e)) old old debug after made grown
    stop_own after e by asks = record {
      next = tt;
      adds = tt;
      passed = tt;
      fault = fault_as (option_map stated.Debug (raw_refusal debug.o s))
          (combined_raw_refusal old.o debug.o s) (stated.Debug e)
          (sym (refused_by old.o debug.o s first None nowhere))
          (debug_fault (raw_refusal debug.o s) e by);
      asks_stripped = asks_nothing g {T = Unit {0}} (Ok tt) old
          (homes_due old.o [] (stripped_reads old.o debug.o s)) tt;
      asks_debug = subst (λ (x : List ℕ).
          AsksFor {T = Unit {0}} h (Err e) debug after (homes_due debug.o [] x))
          (sym (debug_none old.o debug.o s nowhere)) asks;
    }
