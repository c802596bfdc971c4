-- A section that is found by its name.
use Rattle.std.proofs.Common.{◌≡◌, ◌&&◌, ◌||◌, ◌+◌, ◌++◌, map, ℕ, Bool, true, false, not, List, [], ◌∷◌, Option, Some, None, Result, Ok, Err, refl, sym, ap, ◌∙◌, subst}
use Rattle.std.specs.Prelude.{IsTrue, IfOk, OnOk}
use Rattle.std.specs.List.{list_any, range_with_len}
use Rattle.std.proofs.lemmas.Bool.{and_right}
use Rattle.elf_types.specs.declared.errors.ElfError.{ElfError}
use Rattle.rebuild_model.specs.elf_object.Object.{Object}
use Rattle.rebuild_model.specs.elf_object.Words.{Wants, Answers}
use Rattle.rebuild_model.specs.elf_object.Strings.{section_name, is_name}
use Rattle.rebuild_model.specs.elf_object.Sections.{is_allocated, header_at, is_among}
use Rattle.rebuild_model.specs.Removed.{is_named, is_debug_data, has_debug_name, is_debug_name}
use Rattle.rebuild_select.specs.Sought.Names.{is_sought}
use Rattle.rebuild_select.specs.Steps.{goes_by_name, goes, may_go, AreMarksRemovable}
use Rattle.rebuild_select.specs.Calls.{found_by}
use Rattle.rebuild_select.proofs.StepLaws.{apart_more, apart_none, marks_more}

-- ---- What a name tells

and_assoc : (a b c : Bool) → ((a && b) && c) ≡ (a && (b && c))
and_assoc true b c = refl
and_assoc false b c = refl

none_is : (names : List (List ℕ)) → list_any (λ name. is_name name None) names ≡ false
none_is [] = refl
none_is (name ∷ names) = none_is names

module _ (debug_too : Bool) (names : List (List ℕ)) (o : Object) (s : ℕ) where
  name_tells : (name : Option (List ℕ)) → section_name o s ≡ name
      → goes_by_name debug_too names o s
      ≡ (list_any (λ wanted. is_name wanted name) names
      || (debug_too && (not (is_allocated (header_at o s)) && has_debug_name name)))
  unfolding goes_by_name is_named is_debug_data
  name_tells name is =
      ap (λ (n : Option (List ℕ)). list_any (λ wanted. is_name wanted n) names
      || (debug_too && (not (is_allocated (header_at o s)) && has_debug_name n))) is

  found_is : (debug : Bool) (name : Option (List ℕ)) → section_name o s ≡ name
      → debug ≡ (debug_too && not (is_allocated (header_at o s)))
      → found_by names debug name ≡ goes_by_name debug_too names o s
  found_is debug (Some name) is may =
      ap (λ (b : Bool). list_any (λ wanted. is_name wanted (Some name)) names
      || (b && is_debug_name name)) may
      ∙ ap (λ (b : Bool). list_any (λ wanted. is_name wanted (Some name)) names || b)
      (and_assoc debug_too (not (is_allocated (header_at o s))) (is_debug_name name))
      ∙ sym (name_tells (Some name) is)
  found_is debug None is may =
      sym (name_tells None is
      ∙ ap (λ (b : Bool). b
      || (debug_too && (not (is_allocated (header_at o s)) && false))) (none_is names)
      ∙ ap (λ (b : Bool). debug_too && b)
      (and_right (not (is_allocated (header_at o s))) false refl)
      ∙ and_right debug_too false refl)

  -- what a look at a section answered
  pub found_told : (told : Bool) (wants : Wants) (debug : Bool) (r : Result Bool ElfError)
      → debug ≡ (debug_too && not (is_allocated (header_at o s)))
      → Answers told wants r (Ok (found_by names debug (section_name o s))) → IsTrue told
      → IfOk r (λ found. found ≡ goes_by_name debug_too names o s)
  found_told told wants debug (Ok x) may came tells =
      let same : ◌≡◌ {A = Result Bool ElfError}
      (Ok (found_by names debug (section_name o s))) (Ok x) = came.1 tells in
      let one : x ≡ found_by names debug (section_name o s) = cc in
      one ∙ found_is debug (section_name o s) refl may
  found_told told wants debug (Err e) may came tells = tt

-- names that are alike tell the same of a section
abbrev debug_told : Bool → Object → ℕ → Option (List ℕ) → Bool
debug_told debug_too o s name =
    debug_too && (not (is_allocated (header_at o s)) && has_debug_name name)

pub goes_alike : (debug_too : Bool) (a b : List (List ℕ)) (o : Object) (s : ℕ)
    → ((q : List ℕ) → is_sought a q ≡ is_sought b q)
    → goes_by_name debug_too a o s ≡ goes_by_name debug_too b o s
goes_alike debug_too a b o s same = by_name (section_name o s) refl
  where
    by_name : (name : Option (List ℕ)) → section_name o s ≡ name
        → goes_by_name debug_too a o s ≡ goes_by_name debug_too b o s
    by_name None is =
        name_tells debug_too a o s None is
        ∙ ap (λ (t : Bool). t || debug_told debug_too o s None) (none_is a ∙ sym (none_is b))
        ∙ sym (name_tells debug_too b o s None is)
    by_name (Some q) is =
        name_tells debug_too a o s (Some q) is
        ∙ ap (λ (t : Bool). t || debug_told debug_too o s (Some q)) (same q)
        ∙ sym (name_tells debug_too b o s (Some q) is)

-- ---- What goes

module _ (o : Object) (finds : ℕ → Bool) (s : ℕ) where
  pub goes_not : may_go o s ≡ false → false ≡ goes o finds [] s
  unfolding goes
  goes_not is = sym (ap (λ (b : Bool). b && (is_among [] s || finds s)) is)

  goes_when : may_go o s ≡ true → goes o finds [] s ≡ finds s
  unfolding goes is_among
  goes_when is = ap (λ (b : Bool). b && (is_among [] s || finds s)) is

  pub goes_found : (r : Result Bool ElfError) → may_go o s ≡ true
      → IfOk r (λ found. found ≡ finds s) → IfOk r (λ found. found ≡ goes o finds [] s)
  goes_found (Ok found) is one = one ∙ sym (goes_when is)
  goes_found (Err e) is one = tt

  pub may_when : (r : Result Bool ElfError) → may_go o s ≡ true
      → IfOk r (λ found. found ≡ true → may_go o s ≡ true)
  may_when (Ok found) is = λ goes_too. is
  may_when (Err e) is = tt

-- ---- A mark that is appended

pub on_told : {T : Type 0} (r : Result T ElfError) (marks new : List Bool) (found stated : Bool)
    → found ≡ stated → OnOk r (new ≡ marks ++ found ∷ []) → OnOk r (new ≡ marks ++ stated ∷ [])
on_told r marks new found stated is came =
    subst (λ (b : Bool). OnOk r (new ≡ marks ++ b ∷ [])) is came

pub on_apart : {T : Type 0} (r : Result T ElfError) (o : Object) (marks new : List Bool) (s : ℕ)
    (found : Bool) → AreMarksRemovable o marks s → (found ≡ true → may_go o s ≡ true)
    → OnOk r (new ≡ marks ++ found ∷ []) → OnOk r (AreMarksRemovable o new (s + 1))
on_apart (Ok x) o marks new s found are may is =
    subst (λ (l : List Bool). AreMarksRemovable o l (s + 1)) (sym is) (apart_more o marks s found are may)
on_apart (Err e) o marks new s found are may is = tt

-- ---- The loop

module _ (o p : Object) (same : p ≡ o) (marks new : List Bool) (s : ℕ) where
  pub mark_told : (debug_too : Bool) (names : List (List ℕ))
      → new ≡ marks ++ goes p (goes_by_name debug_too names p) [] s ∷ []
      → marks ≡ map (goes o (goes_by_name debug_too names o) []) (range_with_len 0 s)
      → new ≡ map (goes o (goes_by_name debug_too names o) []) (range_with_len 0 (s + 1))
  mark_told debug_too names is so_far =
      is
      ∙ ap (λ (q : Object). marks ++ goes q (goes_by_name debug_too names q) [] s ∷ []) same
      ∙ marks_more (goes o (goes_by_name debug_too names o) []) marks s _ so_far refl

  pub mark_apart : (AreMarksRemovable p marks s → AreMarksRemovable p new (s + 1))
      → AreMarksRemovable o marks s → AreMarksRemovable o new (s + 1)
  mark_apart step are =
      subst (λ (q : Object). AreMarksRemovable q new (s + 1)) same
      (step (subst (λ (q : Object). AreMarksRemovable q marks s) (sym same) are))

pub marks_none : (o : Object) (marks : List Bool) → marks ≡ [] → AreMarksRemovable o marks 0
marks_none o marks is = subst (λ (l : List Bool). AreMarksRemovable o l 0) (sym is) (apart_none o)
