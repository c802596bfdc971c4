-- The names of all sections, added to a new table one after another.
use Rattle.std.proofs.Common.{◌≡◌, ◌≢◌, ◌==◌, ◌<◌, ◌≤◌, ◌+◌, ◌-◌, ℕ, Bool, true, false, not, List, [], ◌∷◌, length, drop, Option, Some, None, refl, sym, ap, ◌∙◌, subst, if◌then◌else◌, arith}
use Rattle.std.specs.Prelude.{All, IfOk, Result, take_while}
use Rattle.std.proofs.lemmas.List.Elements.{All-nil, All-cons}
use Rattle.std.proofs.lemmas.List.Sums.{take_while-cons}
use Rattle.std.proofs.lemmas.Bool.{eqb-false}
use Rattle.elf_types.specs.declared.errors.ElfError.{ElfError}
use Rattle.elf_object.specs.Object.{Object}
use Rattle.elf_object.specs.Strings.{or_empty_name, has_nul}
use Rattle.rebuild_edits.specs.gelf_view.Records.{string_front}
use Rattle.rebuild_edits.specs.rebuild_names.Names.{IsAddedAt}
use Rattle.rebuild_plan.specs.declared.arranged.Arranged.{Arranged}
use Rattle.rebuild_changes.specs.declared.changes.ChangeLists.{ChangeLists}
use Rattle.rebuild_changes.specs.declared.changes.NameBytes.{NameBytes}
use Rattle.rebuild_edits.specs.Edits.Names.{mark_of, new_name, name_now}
use Rattle.rebuild_edits.specs.Texts.{all_texts, AreTextsAdded, AddsTo}
use Rattle.rebuild_edits.proofs.PlaceLaws.{name_new, name_stored}
use Rattle.rebuild_edits.proofs.TextLaws.{none_added, one_added, too_large, texts_long, text_at}
use Rattle.rebuild_copy.specs.Rows.{gathered_header, Origin, IsContents, HasNamesIn}

-- ---- A name that is found holds no NUL

plain_with : (x : ℕ) (rest : List ℕ) (b : Bool) → (x == 0) ≡ b → All (λ b. b ≢ 0) rest
    → All (λ b. b ≢ 0) (if not b then x ∷ rest else [])
plain_with x rest true at plain = All-nil (λ b. b ≢ 0)
plain_with x rest false at plain = All-cons (λ b. b ≢ 0) x rest (eqb-false x 0 at) plain

plain_front : (l : List ℕ) → All (λ b. b ≢ 0) (take_while (λ b. not (b == 0)) l)
plain_front [] = All-nil (λ b. b ≢ 0)
plain_front (x ∷ l) =
    subst (λ (m : List ℕ). All (λ b. b ≢ 0) m) (sym (take_while-cons (λ b. not (b == 0)) x l))
    (plain_with x (take_while (λ b. not (b == 0)) l) (x == 0) refl (plain_front l))

pub front_plain : (l : List ℕ) → All (λ b. b ≢ 0) (or_empty_name (string_front l))
unfolding string_front
front_plain l = by_test (has_nul l)
  where
    by_test : (b : Bool) → All (λ b. b ≢ 0) (or_empty_name
        (if b then Some (take_while (λ b. not (b == 0)) l) else None))
    by_test true = plain_front l
    by_test false = All-nil (λ b. b ≢ 0)

pub front_plain_as : (found : Option (List ℕ)) (l : List ℕ) → found ≡ string_front l
    → All (λ b. b ≢ 0) (or_empty_name found)
front_plain_as found l is =
    subst (λ (n : Option (List ℕ)). All (λ b. b ≢ 0) (or_empty_name n)) (sym is) (front_plain l)

-- ---- The name of a section

-- what was added is its name by now
module _ (x : Arranged) (marks : List ℕ) (renames : List NameBytes) (s : ℕ)
    (strings after : List (List ℕ)) (places more : List ℕ) (r : Result Bool ElfError) where
  abbrev Adds : List ℕ → Type 0
  Adds text = IfOk r (λ fits. IsAddedAt strings after places more text fits)

  pub new_placed : (name text : List ℕ) → text ≡ name
      → Some name ≡ new_name renames (mark_of marks s) → Adds text → (p : Object)
      → Adds (or_empty_name (name_now p marks renames s))
  new_placed name text at is adds p =
      subst Adds (at ∙ name_new p marks renames s name is) adds

  pub old_placed : (table : List ℕ) (found : Option (List ℕ)) (place : ℕ)
      → None ≡ new_name renames (mark_of marks s) → place ≡ (gathered_header x s).name
      → found ≡ string_front (drop place table) → Adds (or_empty_name found) → (o : Origin)
      (p : Object) → IsContents o p x → HasNamesIn x table → s < length p.sections
      → Adds (or_empty_name (name_now p marks renames s))
  old_placed table found place none place_is is adds o p contents has below =
      subst Adds
      (ap or_empty_name (is ∙ ap (λ (n : ℕ). string_front (drop n table)) place_is
      ∙ sym (has o p contents s below))
      ∙ name_stored p marks renames s none) adds

-- ---- One after another

-- the names of the sections from 1 on and below a number were added
pub record PlacedTo (p : Object) (marks : List ℕ) (changes : ChangeLists) (strings : List (List ℕ))
    (places : List ℕ) (s : ℕ) : Type 0 where
  pub within : s - 1 ≤ length p.sections - 1
  pub added : AreTextsAdded (all_texts p marks changes) strings places (s - 1)

module _ (p : Object) (marks : List ℕ) (changes : ChangeLists) (strings : List (List ℕ))
    (places : List ℕ) where
  pub placed_none : strings ≡ [] → places ≡ 0 ∷ [] → PlacedTo p marks changes strings places 1
  placed_none none first = record {
    within = omega arith;
    added = none_added (all_texts p marks changes) strings places none first;
  }

  module _ (s : ℕ) (so_far : PlacedTo p marks changes strings places s) (after : List (List ℕ))
      (more : List ℕ) (from : 1 ≤ s) (below : s < length p.sections) where
    abbrev text : List ℕ
    text = or_empty_name (name_now p marks changes.rename s)

    pub placed_more : IsAddedAt strings after places more text true
        → PlacedTo p marks changes after more (s + 1)
    placed_more adds =
        let long = texts_long p marks changes in
        record {
          within = omega (arith, from, below);
          added = subst (λ (n : ℕ). AreTextsAdded (all_texts p marks changes) after more n)
              (let next : s - 1 + 1 ≡ s + 1 - 1 = omega (arith, from) in next)
              (one_added (all_texts p marks changes) strings after places more (s - 1) text
              (omega (arith, long, from, below))
              (text_at p marks changes s (omega (arith, from)) below) so_far.added adds);
        }

    pub placed_large : IsAddedAt strings after places more text false
        → AddsTo (all_texts p marks changes) after more (length p.sections - 1) false
    placed_large adds =
        let long = texts_long p marks changes in
        too_large (all_texts p marks changes) strings after places more (s - 1) text
        (omega (arith, long, from, below))
        (text_at p marks changes s (omega (arith, from)) below) so_far.added adds

  pub placed_all : (s : ℕ) → PlacedTo p marks changes strings places s → length p.sections ≤ s
      → AddsTo (all_texts p marks changes) strings places (length p.sections - 1) true
  placed_all s so_far all =
      let within = so_far.within in
      subst (λ (n : ℕ). AreTextsAdded (all_texts p marks changes) strings places n)
      (let same : s - 1 ≡ length p.sections - 1 = omega (arith, within, all) in same)
      so_far.added
