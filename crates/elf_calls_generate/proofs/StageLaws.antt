-- Stages of the self test's image, one after another, up to its header.
use Rattle.std.proofs.Common.{◌≡◌, ◌+◌, ◌<◌, ◌≤◌, ◌==◌, ◌&&◌, ℕ, Bool, true, false, not, List, [], ◌∷◌, ◌++◌, length, length-append, Option, None, Result, Ok, Err, OnOk, IfErr, refl, sym, ap, ◌∙◌, subst, arith, if◌then◌else◌}
use Rattle.std.specs.Prelude.{codes, map, nat_le}
use Rattle.std.specs.List.{range_with_len}
use Rattle.std.proofs.lemmas.Bool.{lt-leb}
use Rattle.std.proofs.lemmas.List.FromFn.{length-map-range_with_len}
use Rattle.elf_types.specs.declared.records.Class.TheVariants.{C64}
use Rattle.elf_types.specs.declared.records.Order.TheVariants.{Least}
use Rattle.elf_types.specs.declared.records.Ehdr.{Ehdr}
use Rattle.elf_types.specs.declared.records.Sym.{Sym}
use Rattle.elf_types.specs.declared.errors.ElfError.{ElfError}
use Rattle.elf_types.specs.declared.errors.ElfError.TheVariants.{Memory, NoSection}
use Rattle.elf_types.specs.Answers.{refused_if, first_refusal, answered}
use Rattle.elf_xlate.specs.Headers.{ehdr_fits}
use Rattle.strtab_build.specs.Table.{distinct}
use Rattle.elf_object.specs.Object.{Object, Section, new_section, header_of}
use Rattle.elf_object.specs.Open.{created_over, created, new_ehdr}
use Rattle.elf_object.specs.Steps.{with_sections, with_null_section, with_ehdr, stored_ehdr}
use Rattle.elf_object.specs.Words.{Edits}
use Rattle.elf_object.specs.Calls as calls
use Rattle.elf_object.specs.Calls.{update_ehdr_refusal}
use Rattle.elf_descriptor.specs.State.{State}
use Rattle.elf_descriptor.specs.Edits.{stepped, grown, nulled, StepsTo}
use Rattle.rebuild_model.specs.Generated.{numbered_name, zero_sym, generated, generated_sections, generated_data, generated_sym, generated_symtab, generated_strtab, generated_symbol_names, generated_section_names}
use Rattle.law_files.proofs.commands.RowLemmas.{three_in_one}
use Rattle.elf_calls_generate.specs.Stages.{StandsFor, staged, IsStage, data_sections, data_names, symtab_sections, strtab_sections, named_sections, symbols_to, symbol_names_to, AreSymbols}
use Rattle.elf_calls_generate.proofs.NameFronts.{numbered_next}

-- ---- The next stage

module _ {S : Type 0} where
  -- the same section
  pub added_as : {T : Type 0} (r : Result T ElfError) (new : State S) (sections : List Section)
      (a b : Section) → a ≡ b → OnOk r (StandsFor (staged (sections ++ a ∷ [])) new)
      → OnOk r (StandsFor (staged (sections ++ b ∷ [])) new)
  added_as r new sections a b same h =
      subst (λ (c : Section). OnOk r (StandsFor (staged (sections ++ c ∷ [])) new)) same h

  -- with its name, it is the next stage
  pub stage_is : {T : Type 0} (r : Result T ElfError) (e : State S) (mid : List (List ℕ))
      (sections to : List Section) (used after : List (List ℕ)) → sections ≡ to → used ≡ after
      → mid ≡ distinct used → OnOk r (StandsFor (staged sections) e)
      → OnOk r (IsStage to after e mid)
  stage_is (Ok x) e mid sections to used after same names is h = record {
    made = subst (λ (l : List Section). StandsFor (staged l) e) same h;
    named = is ∙ ap distinct names;
  }
  stage_is (Err d) e mid sections to used after same names is h = tt

  -- section 0 is there
  some_sections : (l : List Section) (e : State S) → StandsFor (staged (new_section ∷ l)) e
      → 0 < length e.o.sections
  some_sections l e at =
      let there : 0 < length (new_section ∷ l) = omega arith in
      subst (λ (o : Object). 0 < length o.sections) (sym at.object) there

  pub some_data : (n k : ℕ) (e : State S) → StandsFor (staged (data_sections n k)) e
      → 0 < length e.o.sections
  some_data n k e at = some_sections (map (generated_data n) (range_with_len 1 k)) e at

  pub some_symtab : (n : ℕ) (e : State S) → StandsFor (staged (symtab_sections n)) e
      → 0 < length e.o.sections
  some_symtab n e at =
      some_sections (map (generated_data n) (range_with_len 1 n) ++ generated_symtab n ∷ []) e at

  pub some_strtab : (n : ℕ) (e : State S) → StandsFor (staged (strtab_sections n)) e
      → 0 < length e.o.sections
  some_strtab n e at =
      some_sections ((map (generated_data n) (range_with_len 1 n) ++ generated_symtab n ∷ [])
      ++ generated_strtab n (codes ".strtab") (generated_symbol_names n) ∷ []) e at

-- ---- How many there are

pub data_next : (n k : ℕ) → data_sections n k ++ generated_data n (k + 1) ∷ []
    ≡ data_sections n (k + 1)
data_next n k =
    ap (λ (l : List Section). new_section ∷ l) (sym (numbered_next (generated_data n) k))

pub data_count : (n k : ℕ) → length (data_sections n k) ≡ k + 1
data_count n k =
    let numbered = length-map-range_with_len (generated_data n) 1 k in omega (arith, numbered)

pub symtab_count : (n : ℕ) → length (symtab_sections n) ≡ n + 2
symtab_count n =
    let more = length-append (data_sections n n) (generated_symtab n ∷ []) in
    omega (arith, more, data_count n n)

pub strtab_count : (n : ℕ) → length (strtab_sections n) ≡ n + 3
strtab_count n =
    let more = length-append (symtab_sections n)
    (generated_strtab n (codes ".strtab") (generated_symbol_names n) ∷ []) in
    omega (arith, more, symtab_count n)

named_count : (n : ℕ) → length (named_sections n) ≡ n + 4
named_count n =
    let more = length-append (strtab_sections n)
    (generated_strtab n (codes ".shstrtab") (generated_section_names n) ∷ []) in
    omega (arith, more, strtab_count n)

sections_are : (n : ℕ) → named_sections n ≡ generated_sections n
unfolding generated_sections
sections_are n =
    three_in_one (data_sections n n) (generated_symtab n)
    (generated_strtab n (codes ".strtab") (generated_symbol_names n))
    (generated_strtab n (codes ".shstrtab") (generated_section_names n))

-- ---- Symbols

pub distinct_none : distinct [] ≡ []
unfolding distinct
distinct_none = refl

pub symbol_added : {T : Type 0} (r : Result T ElfError) (n k : ℕ) (old new : List Sym) (x : Sym)
    (mid : List (List ℕ)) → x ≡ generated_sym n (k + 1) → old ≡ symbols_to n k
    → mid ≡ distinct (symbol_names_to k ++ numbered_name (codes "y") (k + 1) ∷ [])
    → OnOk r (new ≡ old ++ x ∷ []) → OnOk r (AreSymbols n (k + 1) new mid)
symbol_added (Ok t) n k old new x mid is were named h = record {
  symbols_are =
      h ∙ ap (λ (l : List Sym). l ++ x ∷ []) were
      ∙ ap (λ (y : Sym). symbols_to n k ++ y ∷ []) is
      ∙ ap (λ (l : List Sym). zero_sym ∷ l) (sym (numbered_next (generated_sym n) k));
  named = named ∙ ap distinct (sym (numbered_next (numbered_name (codes "y")) k));
}
symbol_added (Err e) n k old new x mid is were named h = tt

-- ---- The first stage

null_added : (o : Object) → (length o.sections == 0) ≡ true
    → with_null_section o ≡ with_sections o (new_section ∷ [])
unfolding with_null_section
null_added o none =
    ap (λ (b : Bool). if b then with_sections o (new_section ∷ []) else o) none

no_sections : (length (created C64 Least).sections == 0) ≡ true
unfolding created_over
no_sections = refl

pub null_stage : {S : Type 0} (old new : State S) (names : List (List ℕ)) (n : ℕ)
    → StandsFor (created C64 Least) old → names ≡ [] → new ≡ nulled old
    → IsStage (data_sections n 0) (data_names 0) new names
null_stage {S} old new names n at empty is =
    let none : (length old.o.sections == 0) ≡ true =
    ap (λ (o : Object). length o.sections == 0) at.object ∙ no_sections in
    record {
      made = record {
        object =
            ap (λ (s : State S). s.o) is
            ∙ ap (λ (b : Bool). (if b then grown calls.newnull old else old).o) none
            ∙ null_added old.o none
            ∙ ap (λ (o : Object). with_sections o (new_section ∷ [])) at.object;
        told =
            ap (λ (s : State S). s.told) is
            ∙ ap (λ (b : Bool). (if b then grown calls.newnull old else old).told) none
            ∙ at.told;
      };
      named = empty ∙ sym distinct_none;
    }

pub null_wants : {S : Type 0} (e : ElfError) (old new stepped : S)
    → Edits {A = Unit {0}} (Err e) old new (Ok tt) stepped → e ≡ Memory
null_wants Memory old new stepped h = refl
null_wants e old new stepped h =
    let never : ◌≡◌ {A = Result (Unit {0}) ElfError} (Ok tt) (Err e) = h.0 in cc

-- ---- The header

-- a header with the fields of the self test's image
abbrev header_from : ℕ → Ehdr → Ehdr
header_from n h = record h { etype = 1; machine = 62; shstrndx = n + 3 }

made_header : (n : ℕ) → with_ehdr (staged (named_sections n))
    (header_from n (header_of (staged (named_sections n))))
    ≡ generated n
unfolding generated with_ehdr stored_ehdr header_of created_over
made_header n =
    ap (λ (l : List Section). with_ehdr (staged l) (header_from n (new_ehdr C64 Least)))
    (sections_are n)

not_both : (b : Bool) (e : ElfError) → refused_if (b && false) e ≡ None
not_both true e = refl
not_both false e = refl

header_passes : (n : ℕ) → n ≤ 60000 → update_ehdr_refusal (staged (named_sections n))
    (header_from n (header_of (staged (named_sections n))))
    ≡ None
unfolding update_ehdr_refusal stored_ehdr header_of created_over ehdr_fits
header_passes n small =
    let below : nat_le (length (named_sections n)) (n + 3) ≡ false =
    lt-leb (length (named_sections n)) (n + 3) (omega (arith, named_count n)) in
    let e = NoSection (n + 3) (length (named_sections n)) in
    ap (λ (b : Bool). first_refusal (refused_if (not (n + 3 == 0) && b) e ∷ None ∷ [])) below
    ∙ ap (λ (r : Option ElfError). first_refusal (r ∷ None ∷ []))
    (not_both (not (n + 3 == 0)) e)

module _ {S : Type 0} (n : ℕ) (old new : State S) (stored : Ehdr)
    (at : StandsFor (staged (named_sections n)) old)
    (is : ◌≡◌ {A = Result Ehdr ElfError} (Ok stored) (calls.ehdr.answer old.o)) where
  stored_is : header_from n stored ≡ header_from n (header_of (staged (named_sections n)))
  stored_is =
      let same : stored ≡ header_of old.o = cc in
      ap (header_from n) same ∙ ap (λ (o : Object). header_from n (header_of o)) at.object

  passes : n ≤ 60000 → update_ehdr_refusal old.o (header_from n stored) ≡ None
  passes small =
      ap (λ (h : Ehdr). update_ehdr_refusal old.o h) stored_is
      ∙ ap (λ (o : Object). update_ehdr_refusal o
      (header_from n (header_of (staged (named_sections n))))) at.object
      ∙ header_passes n small

  pub header_made : (r : Result (Unit {0}) ElfError)
      → StepsTo r old new (stepped (calls.update_ehdr (header_from n stored)) old)
      → OnOk r (StandsFor (generated n) new)
  header_made (Ok x) steps = record {
    object =
        ap (λ (s : State S). s.o) steps
        ∙ ap (λ (h : Ehdr). with_ehdr old.o h) stored_is
        ∙ ap (λ (o : Object). with_ehdr o
        (header_from n (header_of (staged (named_sections n))))) at.object
        ∙ made_header n;
    told = ap (λ (s : State S). s.told) steps ∙ at.told;
  }
  header_made (Err e) steps = tt

  pub header_wants : (r : Result (Unit {0}) ElfError) → n ≤ 60000
      → r ≡ (calls.update_ehdr (header_from n stored)).answer old.o → IfErr r (λ e. e ≡ Memory)
  header_wants (Ok x) small came = tt
  header_wants (Err e) small came =
      let never : ◌≡◌ {A = Result (Unit {0}) ElfError} (Err e) (Ok tt) =
      came ∙ ap (λ (r : Option ElfError). answered r (tt {0})) (passes small) in cc
