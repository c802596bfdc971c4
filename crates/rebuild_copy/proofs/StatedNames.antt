-- What becomes of the names, as it is stated.
use Rattle.std.proofs.Common.{◌≡◌, ◌==◌, ◌++◌, ℕ, zero, suc, Bool, true, false, List, [], ◌∷◌, map, drop, Option, Some, None, Result, Ok, Err, refl, sym, ap, ◌∙◌, subst, inl, inr, arith}
use Rattle.std.specs.Prelude.{slice_get, slice_index_or, unwrap_or, if◌then◌else◌}
use Rattle.std.specs.List.{enumerate_from}
use Rattle.elf_types.specs.declared.errors.ElfError.{ElfError}
use Rattle.elf_types.specs.declared.errors.ElfError.TheVariants as errors
use Rattle.elf_types.specs.Answers.{answered, ◌>>=◌}
use Rattle.elf_xlate.specs.declared.content.Items.TheVariants as items
use Rattle.strtab_build.specs.Table.{place_of}
use Rattle.elf_object.specs.Object.{Object, Section}
use Rattle.elf_object.specs.Steps.{with_own}
use Rattle.elf_object.specs.Strings.{or_empty_name}
use Rattle.rebuild_object.specs.elf_descriptor.State.{State}
use Rattle.elf_object.specs.Sections.{in_turn}
use Rattle.rebuild_model.specs.Rebuilt.{table_refusal}
use Rattle.rebuild_model.specs.Copied.{CopyFault as StatedFault, or_strip, with_added, with_section_flags, named_section, with_names, named, changes_names}
use Rattle.rebuild_edits.specs.declared.naming.NewNameTable.{NewNameTable}
use Rattle.rebuild_changes.specs.declared.changes.ChangeLists.{ChangeLists}
use Rattle.rebuild_changes.specs.declared.faults.CopyFault.{CopyFault}
use Rattle.rebuild_changes.specs.Stated.{stated_changes}
use Rattle.rebuild_edits.specs.Edits.Names.{names_now}
use Rattle.rebuild_edits.specs.Edits.Steps.{IsPresentSection, KeepsIndex, Alters}
use Rattle.rebuild_edits.proofs.edits.StepLaws.{find_then, alter_as}
use Rattle.rebuild_edits.specs.declared.naming.Naming.{Naming}
use Rattle.rebuild_edits.specs.declared.naming.Naming.TheVariants.{Stay, NoTable, TooLarge, Anew}
use Rattle.rebuild_edits.specs.Texts.{all_texts, IsTableOf}
use Rattle.rebuild_edits.specs.Stores.{IsNaming, with_name_place, with_places, with_table, named_by, HasNameTable}
use Rattle.rebuild_copy.specs.Changing.{added_named, flagged_named, changed_names_stored, after_names, IsUsable}

-- ---- A new table

-- a place among those of a list, where the empty name has the place 0
place_among : (f : List ℕ → ℕ) (l : List (List ℕ)) (s : ℕ) → f [] ≡ 0
    → unwrap_or (slice_get (map f l) s) 0 ≡ f (slice_index_or l s [])
place_among f [] s empty = sym empty
place_among f (x ∷ l) zero empty = refl
place_among f (x ∷ l) (suc s) empty = place_among f l s empty

place_empty : (texts : List (List ℕ)) → place_of [] texts ≡ 0
unfolding place_of
place_empty texts = refl

place_is : (texts : List (List ℕ)) (places : List ℕ) (s : ℕ)
    → places ≡ 0 ∷ map (λ text. place_of text texts) texts
    → unwrap_or (slice_get places s) 0 ≡ place_of (slice_index_or ([] ∷ texts) s []) texts
place_is texts places s is =
    ap (λ (l : List ℕ). unwrap_or (slice_get l s) 0)
    (is ∙ ap (λ (n : ℕ). n ∷ map (λ text. place_of text texts) texts) (sym (place_empty texts)))
    ∙ place_among (λ text. place_of text texts) ([] ∷ texts) s (place_empty texts)

map_alike : {A B : Type 0} (f g : A → B) → ((x : A) → f x ≡ g x) → (l : List A)
    → map f l ≡ map g l
map_alike f g same [] = refl
map_alike {A} {B} f g same (x ∷ l) =
    ap (λ (y : B). y ∷ map f l) (same x)
    ∙ ap (λ (m : List B). g x ∷ m) (map_alike f g same l)

section_alike : (texts : List (List ℕ)) (places : List ℕ)
    → places ≡ 0 ∷ map (λ text. place_of text texts) texts
    → (row : ℕ × Section) → with_name_place places row.0 row.1 ≡ named_section texts row.0 row.1
section_alike texts places is row =
    ap (λ (n : ℕ).
    if row.0 == 0 then row.1
    else (record row.1 { header = record row.1.header { name = n }; marked = true }))
    (place_is texts places row.0 is)

sections_alike : (o : Object) (texts : List (List ℕ)) (places : List ℕ)
    → places ≡ 0 ∷ map (λ text. place_of text texts) texts
    → map (λ row. with_name_place places row.0 row.1) (enumerate_from 0 o.sections)
    ≡ map (λ row. named_section texts row.0 row.1) (enumerate_from 0 o.sections)
sections_alike o texts places is =
    map_alike (λ (row : ℕ × Section). with_name_place places row.0 row.1)
    (λ (row : ℕ × Section). named_section texts row.0 row.1) (section_alike texts places is)
    (enumerate_from 0 o.sections)

table_is : (o : Object) (texts : List (List ℕ)) (names : NewNameTable) → IsTableOf texts names
    → with_table o names ≡ with_names o texts
unfolding with_table with_places with_names
table_is o texts names is =
    ap (λ (l : List Section).
    with_own (record o { sections = l }) o.header.shstrndx 0 (items.Bytes names.table))
    (sections_alike o texts names.places is.places_are)
    ∙ ap (λ (bytes : List ℕ).
    with_own
    (record o {
      sections = map (λ row. named_section texts row.0 row.1) (enumerate_from 0 o.sections);
    }) o.header.shstrndx 0 (items.Bytes bytes)) is.table_is

-- ---- As it is stated

module _ (o : Object) (names : List (Option (List ℕ))) where
  named_without : named false o names ≡ Err StatedFault.NoTable
  unfolding named
  named_without = refl

  named_with : named true o names
      ≡ or_strip (answered (table_refusal (map or_empty_name (drop 1 names)))
      (with_names o (map or_empty_name (drop 1 names))))
  unfolding named
  named_with = refl

module _ (o : Object) (marks : List ℕ) (ch : ChangeLists) (renewed : Bool) where
  abbrev all_names : List (Option (List ℕ))
  all_names =
      names_now o marks ch.rename ++ map (λ change. Some change.0) (stated_changes ch).add

  texts_are : all_texts o marks ch ≡ map or_empty_name (drop 1 all_names)
  unfolding all_texts
  texts_are = refl

  -- with a table or without one
  renewed_as : (b : Bool) (p : Object) → renewed ≡ b
      → named renewed p all_names ≡ named b p all_names
  renewed_as b p is = ap (λ (r : Bool). named r p all_names) is

  changed_as : (b : Bool) (p : Object) → changes_names (stated_changes ch) ≡ b
      → changed_names_stored (stated_changes ch) renewed (names_now o marks ch.rename) p
      ≡ (if b then named renewed p all_names else Ok p)
  changed_as b p is = ap (λ (r : Bool). if r then named renewed p all_names else Ok p) is

  -- by the refusal of the table
  with_texts : (p : Object) (refusal : Option ElfError)
      → table_refusal (all_texts o marks ch) ≡ refusal
      → named true p all_names
      ≡ or_strip (answered refusal (with_names p (all_texts o marks ch)))
  with_texts p refusal is =
      named_with p all_names
      ∙ ap (λ (texts : List (List ℕ)).
      or_strip (answered (table_refusal texts) (with_names p texts))) (sym texts_are)
      ∙ ap (λ (r : Option ElfError).
      or_strip (answered r (with_names p (all_texts o marks ch)))) is

  naming_is : (naming : Naming)
      → IsNaming (changes_names (stated_changes ch)) renewed (all_texts o marks ch) naming
      → (p : Object)
      → named_by naming p
      ≡ changed_names_stored (stated_changes ch) renewed (names_now o marks ch.rename) p
  naming_is Stay is p = sym (changed_as false p is)
  naming_is NoTable is p =
      sym (changed_as true p is.0 ∙ renewed_as false p is.1 ∙ named_without p all_names)
  naming_is TooLarge is p =
      sym (changed_as true p is.0 ∙ renewed_as true p is.1
      ∙ with_texts p (Some errors.TooLarge) is.2)
  naming_is (Anew names) is p =
      sym (changed_as true p is.0 ∙ renewed_as true p is.1 ∙ with_texts p None is.2.passed
      ∙ ap (λ (q : Object). Ok q) (sym (table_is p (all_texts o marks ch) names is.2)))

-- ---- One step after another

bind_alike : {A B E : Type 0} (r : Result A E) (f g : A → Result B E)
    → ((x : A) → f x ≡ g x) → (r >>= f) ≡ (r >>= g)
bind_alike (Ok x) f g same = same x
bind_alike (Err e) f g same = refl

flagged_is : (o : Object) (marks : List ℕ) (ch : ChangeLists) (renewed : Bool) (naming : Naming)
    → IsNaming (changes_names (stated_changes ch)) renewed (all_texts o marks ch) naming
    → flagged_named (stated_changes ch) (names_now o marks ch.rename) naming o
    ≡ after_names (stated_changes ch) renewed o (names_now o marks ch.rename)
flagged_is o marks ch renewed naming is =
    let c = stated_changes ch in
    let names = names_now o marks ch.rename in
    bind_alike (in_turn (with_section_flags names) o c.flags) (added_named c naming)
    (λ (p : Object). in_turn with_added p c.add >>= changed_names_stored c renewed names)
    (λ p. bind_alike (in_turn with_added p c.add) (named_by naming)
    (changed_names_stored c renewed names) (naming_is o marks ch renewed naming is))

-- behind the plan
pub naming_planned : {S : Type 0} (ch : ChangeLists) (renewed : Bool) (marks : List ℕ)
    (naming : Naming)
    (q : Result (Unit {0}) CopyFault) (old mid new : State S)
    → IsNaming (changes_names (stated_changes ch)) renewed (all_texts old.o marks ch) naming
    → mid.o ≡ old.o → mid.told ≡ old.told
    → Alters (flagged_named (stated_changes ch) (names_now mid.o marks ch.rename) naming mid.o)
    q mid new
    → Alters (after_names (stated_changes ch) renewed old.o (names_now old.o marks ch.rename))
    q old new
naming_planned {S} ch renewed marks naming q old mid new is same told flagged =
    find_then (λ (n : Naming). tt {0}) (Ok tt)
    (λ (o : Object) (u : Unit {0}).
    after_names (stated_changes ch) renewed o (names_now o marks ch.rename))
    naming q old mid new
    (record { object = same; told = told; unread = tt; found = λ t. refl })
    (alter_as (flagged_named (stated_changes ch) (names_now mid.o marks ch.rename) naming mid.o)
    (after_names (stated_changes ch) renewed mid.o (names_now mid.o marks ch.rename))
    q mid new
    (flagged_is mid.o marks ch renewed naming
    (subst (λ (o : Object).
    IsNaming (changes_names (stated_changes ch)) renewed (all_texts o marks ch) naming)
    (sym same) is)) flagged)

-- ---- The section of the names

there_stays : (o p : Object) → KeepsIndex o p → IsPresentSection o o.header.shstrndx
    → IsPresentSection p p.header.shstrndx
there_stays o p keeps there =
    let index = keeps.index in
    let count = keeps.count in
    let from = there.0 in
    let below = there.1 in
    (omega (arith, index, from), omega (arith, index, count, below))

pub usable_stays : (o p : Object) (renewed : Bool) → KeepsIndex o p → IsUsable o renewed
    → IsUsable p renewed
usable_stays o p renewed keeps (inl none) = inl (keeps.index ∙ none.0, none.1)
usable_stays o p renewed keeps (inr there) = inr (there_stays o p keeps there)

pub usable_as : (o p : Object) (renewed : Bool) → p ≡ o → IsUsable o renewed → IsUsable p renewed
usable_as o p renewed same is = subst (λ (q : Object). IsUsable q renewed) (sym same) is

named_there : (o : Object) → IsUsable o true → IsPresentSection o o.header.shstrndx
named_there o (inl none) = let never : true ≡ false = none.1 in cc
named_there o (inr there) = there

pub name_table_there : (change renewed : Bool) (texts : List (List ℕ)) (naming : Naming)
    (o : Object)
    → IsNaming change renewed texts naming → IsUsable o renewed → HasNameTable naming o
name_table_there change renewed texts Stay o is usable = tt
name_table_there change renewed texts NoTable o is usable = tt
name_table_there change renewed texts TooLarge o is usable = tt
name_table_there change renewed texts (Anew names) o is usable =
    named_there o (subst (λ (r : Bool). IsUsable o r) is.1 usable)

pub table_stays : (naming : Naming) (o p : Object) → KeepsIndex o p → HasNameTable naming o
    → HasNameTable naming p
table_stays Stay o p keeps has = tt
table_stays NoTable o p keeps has = tt
table_stays TooLarge o p keeps has = tt
table_stays (Anew names) o p keeps has = there_stays o p keeps has
