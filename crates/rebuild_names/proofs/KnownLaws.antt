-- Names of which the place is known: they have it, whatever is added to the table.
use Rattle.std.proofs.Common.{◌≡◌, ◌==◌, ◌||◌, ◌-◌, ◌^◌, ◌≤◌, ◌++◌, ℕ, Bool, true, false, cond, List, [], ◌∷◌, length, Option, Some, None, Result, Ok, Err, refl, sym, ap, ◌∙◌, subst, arith}
use Rattle.std.specs.Prelude.{IfOk, OnOk, IfSome, if◌then◌else◌}
use Rattle.std.specs.List.{list_any}
use Rattle.std.specs.Ordering.{nat_cmp}
use Rattle.std.specs.Cmp.{unsigned_tied}
use Rattle.std.specs.BTreeMap.{BTreeMap, Updates, get}
use Rattle.std.specs.Str.{bytes_eq}
use Rattle.std.proofs.lemmas.Bool.{eqb-true, or_left, or_right}
use Rattle.std.proofs.lemmas.List.Folds.{list_any-append}
use Rattle.elf_types.specs.declared.errors.ElfError.{ElfError}
use Rattle.strtab_shared.specs.strtab_build.Names.{IsHeld}
use Rattle.strtab_shared.specs.strtab_build.Table.{distinct, table, place_of}
use Rattle.strtab_shared.proofs.strtab_build.DistinctLemmas.{same_refl, with_name, distinct-push, distinct-distinct, list_any-distinct}
use Rattle.strtab_shared.proofs.strtab_build.TableLemmas.{place_of-append, place_of-distinct, table_same}
use Rattle.rebuild_numbers.specs.elf_object.Object.{Object, section_at}
use Rattle.rebuild_numbers.specs.elf_object.Strings.{section_name, or_empty_name, readable, string_answer}
use Rattle.rebuild_names.specs.declared.known.KnownPlaces.{KnownPlaces}
use Rattle.rebuild_names.specs.Known.{known_at, KnowsMore, NotesIf, AreHeld}
use Rattle.rebuild_names.specs.Names.{old_name, IsAdded, IsPlaceAppended, IsAddedAt}

-- ---- One more is noted

pub name_place_noted : (old new : BTreeMap ℕ ℕ) (at place : ℕ) → Updates nat_cmp old new at (Some place)
    → (q : ℕ) → get nat_cmp new q ≡ (if at == q then Some place else get nat_cmp old q)
name_place_noted old new at place updates q =
    updates.0 q
    ∙ ap (λ (b : Bool). if b then Some place else get nat_cmp old q) (unsigned_tied at q)

-- ---- A name that is one of some names, or empty

abbrev IsThereIn : List ℕ → List (List ℕ) → Type 0
IsThereIn [] names = Unit {0}
IsThereIn (b ∷ bs) names = list_any (bytes_eq (b ∷ bs)) names ≡ true

pub any_last : (p : List ℕ → Bool) (l : List (List ℕ)) (x : List ℕ) → p x ≡ true
    → list_any p (l ++ x ∷ []) ≡ true
any_last p [] x is = or_left (p x) false is
any_last p (y ∷ l) x is = or_right (p y) (list_any p (l ++ x ∷ [])) (any_last p l x is)

there_last : (name : List ℕ) (names : List (List ℕ)) → IsThereIn name (names ++ name ∷ [])
there_last [] names = tt
there_last (b ∷ bs) names =
    any_last (bytes_eq (b ∷ bs)) names (b ∷ bs) (same_refl (b ∷ bs))

there_more : (name other : List ℕ) (names : List (List ℕ)) → IsThereIn name names
    → IsThereIn name (names ++ other ∷ [])
there_more [] other names there = tt
there_more (b ∷ bs) other names there =
    list_any-append (bytes_eq (b ∷ bs)) names (other ∷ [])
    ∙ ap (λ (t : Bool). t || list_any (bytes_eq (b ∷ bs)) (other ∷ [])) there

there_distinct : (name : List ℕ) (names : List (List ℕ)) → IsThereIn name names
    → IsThereIn name (distinct names)
there_distinct [] names there = tt
there_distinct (b ∷ bs) names there = list_any-distinct b bs names ∙ there

-- one that leaves the names as they are
there_kept : (name : List ℕ) (names : List (List ℕ)) → distinct (names ++ name ∷ []) ≡ names
    → IsThereIn name names
there_kept [] names kept = tt
there_kept (b ∷ bs) names kept =
    ap (λ (l : List (List ℕ)). list_any (bytes_eq (b ∷ bs)) l) (sym kept)
    ∙ list_any-distinct b bs (names ++ (b ∷ bs) ∷ [])
    ∙ any_last (bytes_eq (b ∷ bs)) names (b ∷ bs) (same_refl (b ∷ bs))

kept_there : (name : List ℕ) (names : List (List ℕ)) → distinct names ≡ names
    → IsThereIn name names → distinct (names ++ name ∷ []) ≡ names
kept_there [] names once there = distinct-push names [] ∙ once
kept_there (b ∷ bs) names once there =
    distinct-push names (b ∷ bs)
    ∙ ap (λ (l : List (List ℕ)). with_name l (b ∷ bs)) once
    ∙ ap (λ (t : Bool). cond t names (names ++ (b ∷ bs) ∷ [])) there

place_more : (name other : List ℕ) (names : List (List ℕ)) → IsThereIn name names
    → place_of name (names ++ other ∷ []) ≡ place_of name names
unfolding place_of
place_more [] other names there = refl
place_more (b ∷ bs) other names there = place_of-append (b ∷ bs) names (other ∷ []) there

-- ---- A name that has its place in a table

held_in : (name : List ℕ) (used : List (List ℕ)) (place : ℕ) → IsThereIn name used
    → place ≡ place_of name used → length (table used) ≤ 2 ^ 32 - 1
    → IsHeld name (distinct used) place
held_in name used place there at fits =
    let kept : distinct (distinct used ++ name ∷ []) ≡ distinct used =
    kept_there name (distinct used) (distinct-distinct used) (there_distinct name used there) in
    let same : length (table (distinct used ++ name ∷ [])) ≡ length (table used) =
    ap (λ (l : List ℕ). length l) (table_same (distinct used ++ name ∷ []) used kept) in
    record {
      place = at ∙ sym (place_of-distinct name used);
      kept = kept;
      small = omega (arith, same, fits);
    }

-- it was added
now_held : (name : List ℕ) (old new : List (List ℕ)) → new ≡ distinct (old ++ name ∷ [])
    → length (table (old ++ name ∷ [])) ≤ 2 ^ 32 - 1 → IsHeld name new (place_of name new)
now_held name old new is fits =
    let used = old ++ name ∷ [] in
    subst (λ (l : List (List ℕ)). IsHeld name l (place_of name new)) (sym is)
    (held_in name used (place_of name new) (there_last name old)
    (ap (place_of name) is ∙ place_of-distinct name used) fits)

-- and another one is
more_held : (name other : List ℕ) (old new : List (List ℕ)) (place : ℕ) → IsHeld name old place
    → new ≡ distinct (old ++ other ∷ []) → length (table (old ++ other ∷ [])) ≤ 2 ^ 32 - 1
    → IsHeld name new place
more_held name other old new place held is fits =
    let there = there_kept name old held.kept in
    subst (λ (l : List (List ℕ)). IsHeld name l place) (sym is)
    (held_in name (old ++ other ∷ []) place (there_more name other old there)
    (held.place ∙ sym (place_more name other old there)) fits)

-- to add it again leaves the names as they are
pub held_placed : (names : List (List ℕ)) (name places more : List ℕ) (place : ℕ)
    (r : Result Bool ElfError) → IsHeld name names place
    → IfOk r (IsPlaceAppended places more (Some place))
    → IfOk r (λ fits. IsAddedAt names names places more name fits)
held_placed names name places more place (Err e) held pushed = tt
held_placed names name places more place (Ok fits) held pushed =
    let small = held.small in
    let fit : length (table (names ++ name ∷ [])) ≤ 2 ^ 32 - 1 = omega (arith, small) in
    subst (λ (b : Bool). IsAddedAt names names places more name b) (sym pushed.0)
    (sym held.kept, pushed.1 ∙ ap (λ (k : ℕ). places ++ k ∷ []) held.place, fit)

-- ---- All of which the places are known

module _ (name_at : ℕ → List ℕ) where
  pub none_known : (known : KnownPlaces) (names : List (List ℕ))
      → ((at : ℕ) → known_at known at ≡ None) → AreHeld name_at known names
  none_known known names none = record {
    held = λ at.
        subst (λ (o : Option ℕ). IfSome o (IsHeld (name_at at) names)) (sym (none at)) tt;
  }

  pub known_held : (known : KnownPlaces) (names : List (List ℕ)) (at place : ℕ)
      → AreHeld name_at known names → Some place ≡ known_at known at
      → IsHeld (name_at at) names place
  known_held known names at place are is =
      subst (λ (o : Option ℕ). IfSome o (IsHeld (name_at at) names)) (sym is) (are.held at)

  more_if : (at : ℕ) (other : List ℕ) (old new : List (List ℕ)) (place : Option ℕ)
      → new ≡ distinct (old ++ other ∷ []) → length (table (old ++ other ∷ [])) ≤ 2 ^ 32 - 1
      → IfSome place (IsHeld (name_at at) old) → IfSome place (IsHeld (name_at at) new)
  more_if at other old new None is fits held = tt
  more_if at other old new (Some place) is fits held =
      more_held (name_at at) other old new place held is fits

  more_known : (known : KnownPlaces) (other : List ℕ) (old new : List (List ℕ))
      → new ≡ distinct (old ++ other ∷ []) → length (table (old ++ other ∷ [])) ≤ 2 ^ 32 - 1
      → AreHeld name_at known old → AreHeld name_at known new
  more_known known other old new is fits are = record {
    held = λ at. more_if at other old new (known_at known at) is fits (are.held at);
  }

  noted_if : (known : KnownPlaces) (names : List (List ℕ)) (at place q : ℕ) (b : Bool)
      → (at == q) ≡ b → IsHeld (name_at at) names place
      → IfSome (known_at known q) (IsHeld (name_at q) names)
      → IfSome (if b then Some place else known_at known q) (IsHeld (name_at q) names)
  noted_if known names at place q true same held other =
      subst (λ (n : ℕ). IsHeld (name_at n) names place) (eqb-true at q same) held
  noted_if known names at place q false same held other = other

  noted_known : (known next : KnownPlaces) (names : List (List ℕ)) (at place : ℕ)
      → KnowsMore known next at place → IsHeld (name_at at) names place
      → AreHeld name_at known names → AreHeld name_at next names
  noted_known known next names at place more held are = record {
    held = λ q.
        subst (λ (o : Option ℕ). IfSome o (IsHeld (name_at q) names)) (sym (more q))
        (noted_if known names at place q (at == q) refl held (are.held q));
  }

  -- a name was added
  pub known_more : (known : KnownPlaces) (old new : List (List ℕ)) (places more name : List ℕ)
      (r : Result Bool ElfError) → AreHeld name_at known old
      → IfOk r (λ fits. IsAddedAt old new places more name fits)
      → IfOk r (λ fits. fits ≡ true → AreHeld name_at known new)
  known_more known old new places more name (Err e) are added = tt
  known_more known old new places more name (Ok fits) are added = λ yes.
      let has : IsAddedAt old new places more name true =
      subst (λ (b : Bool). IsAddedAt old new places more name b) yes added in
      more_known known name old new has.0 has.2 are

  -- and its place noted
  pub known_after : (known next : KnownPlaces) (old new : List (List ℕ))
      (places more name : List ℕ) (at : ℕ) (r : Result Bool ElfError) → name_at at ≡ name
      → AreHeld name_at known old
      → IfOk r (λ fits. IsAddedAt old new places more name fits)
      → IfOk r (λ fits. fits ≡ true → KnowsMore known next at (place_of name new))
      → IfOk r (λ fits. fits ≡ true → AreHeld name_at next new)
  known_after known next old new places more name at (Err e) is are added notes = tt
  known_after known next old new places more name at (Ok fits) is are added notes = λ yes.
      let has : IsAddedAt old new places more name true =
      subst (λ (b : Bool). IsAddedAt old new places more name b) yes added in
      let held : IsHeld (name_at at) new (place_of name new) =
      subst (λ (l : List ℕ). IsHeld l new (place_of name new)) (sym is)
      (now_held name old new has.0 has.2) in
      noted_known known next new at (place_of name new) (notes yes) held
      (more_known known name old new has.0 has.2 are)

-- ---- What holds whatever a step answers

pub still_ok : {P : Type 0} (r : Result Bool ElfError) → P → IfOk r (λ fits. fits ≡ true → P)
still_ok (Ok fits) p = λ yes. p
still_ok (Err e) p = tt

pub any_ok : {P : Type 0} (r : Result Bool ElfError) → P → OnOk r P
any_ok (Ok fits) p = p
any_ok (Err e) p = tt

-- the place that was noted is that of the name
pub noted_at : (at place : ℕ) (name : List ℕ) (new : List (List ℕ)) (known next : KnownPlaces)
    (r : Result Bool ElfError) → place ≡ place_of name new
    → OnOk r (KnowsMore known next at place)
    → IfOk r (λ fits. fits ≡ true → KnowsMore known next at (place_of name new))
noted_at at place name new known next (Err e) is notes = tt
noted_at at place name new known next (Ok fits) is notes = λ yes.
    subst (λ (k : ℕ). KnowsMore known next at k) is notes

pub noted_name : (at : ℕ) (name places more : List ℕ) (old new : List (List ℕ))
    (known next : KnownPlaces) (place : Option ℕ) (r : Result Bool ElfError)
    → IsAdded old new name place → IfOk r (IsPlaceAppended places more place)
    → OnOk r (NotesIf at place known next)
    → IfOk r (λ fits. fits ≡ true → KnowsMore known next at (place_of name new))
noted_name at name places more old new known next place (Err e) added pushed notes = tt
noted_name at name places more old new known next None (Ok fits) added pushed notes = λ yes.
    absurd (let no : false ≡ true = sym pushed ∙ yes in cc)
noted_name at name places more old new known next (Some place) (Ok fits) added pushed notes =
    noted_at at place name new known next (Ok fits) added.1 notes

-- ---- The name of a section

-- it is that at its place of the old table
pub old_name_is : (o : Object) (s at : ℕ) → at ≡ (section_at o s).header.name
    → old_name o at ≡ or_empty_name (section_name o s)
unfolding old_name section_name
old_name_is o s at is =
    ap (λ (n : ℕ). or_empty_name (if o.header.shstrndx == 0 then None
    else readable (string_answer o o.header.shstrndx n))) is
