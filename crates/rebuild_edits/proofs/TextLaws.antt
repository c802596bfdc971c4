-- All names, added one after another.
use Rattle.std.proofs.Common.{◌≡◌, ◌+◌, ◌-◌, ◌^◌, ◌<◌, ◌≤◌, ◌++◌, ℕ, suc, Bool, true, false, List, [], ◌∷◌, length, length-append, map, take, drop, get_or, Option, Some, None, refl, sym, ap, ◌∙◌, subst, arith}
use Rattle.std.specs.Prelude.{◌||◌}
use Rattle.std.specs.List.{list_any, flat_map}
use Rattle.std.specs.Str.{bytes_eq}
use Rattle.std.proofs.lemmas.Bool.{lt-ltb, or_left, or_right}
use Rattle.std.proofs.lemmas.Grind.{flat_map-append}
use Rattle.std.proofs.lemmas.List.{length-map, length-drop, take_more, map_more, take-append-drop, get_or-map, get_or-drop, get_or_append_left, map-append}
use Rattle.std.proofs.lemmas.List.Folds.{list_any-append}
use Rattle.std.proofs.lemmas.List.FromFn.{length-map-range_with_len, get_or-map-range_with_len}
use Rattle.elf_types.specs.declared.errors.ElfError.TheVariants.{TooLarge}
use Rattle.elf_types.specs.Answers.{refused_if}
use Rattle.strtab_build.specs.Table.{distinct, strings, table, place_of}
use Rattle.strtab_build.proofs.DistinctLemmas.{same_refl, distinct-append, distinct-append_left, fold-behind}
use Rattle.strtab_build.proofs.TableLemmas.{place_of-append, place_of-distinct, table_same}
use Rattle.rebuild_changes.specs.elf_object.Object.{Object}
use Rattle.rebuild_changes.specs.elf_object.Layout.{section_numbers}
use Rattle.rebuild_changes.specs.elf_object.Strings.{or_empty_name}
use Rattle.rebuild_changes.specs.rebuild_model.Rebuilt.{table_refusal}
use Rattle.rebuild_names.specs.Names.{IsAddedAt}
use Rattle.rebuild_changes.specs.declared.changes.NameBytes.{NameBytes}
use Rattle.rebuild_changes.specs.declared.changes.ChangeLists.{ChangeLists}
use Rattle.rebuild_changes.specs.Stated.{bytes_pair}
use Rattle.rebuild_edits.specs.Edits.Names.{name_now, names_now}
use Rattle.rebuild_edits.specs.Texts.{all_texts, AreTextsAdded}

-- ---- Tables

-- with more names a table is no shorter
longer : (names more : List (List ℕ)) → length (table names) ≤ length (table (names ++ more))
unfolding table strings
longer names more =
    let behind = fold-behind (distinct names) more in
    let each = λ (l : List (List ℕ)). length (flat_map (λ name. name ++ 0 ∷ []) l) in
    let both = ap each (distinct-append names more ∙ behind.1) in
    let parts = ap length (flat_map-append (λ name. name ++ 0 ∷ []) (distinct names) behind.0)
    ∙ length-append (flat_map (λ name. name ++ 0 ∷ []) (distinct names))
    (flat_map (λ name. name ++ 0 ∷ []) behind.0) in
    let all : each (distinct (names ++ more)) ≡ each (distinct names) + each behind.0 =
    both ∙ parts in
    let less : suc (each (distinct names)) ≤ suc (each (distinct (names ++ more))) =
    omega (arith, all) in
    less

-- the table of no name
none_distinct : distinct [] ≡ []
unfolding distinct
none_distinct = refl

none_long : length (table []) ≡ 1
unfolding table strings distinct
none_long = refl

-- ---- One text more

module _ (texts : List (List ℕ)) where
  pub none_added : (old : List (List ℕ)) (places : List ℕ) → old ≡ [] → places ≡ 0 ∷ []
      → AreTextsAdded texts old places 0
  none_added old places strings_none places_one = record {
    strings_are = strings_none ∙ sym none_distinct;
    places_are = places_one;
    fits = let one = none_long in omega (arith, one);
  }

  module _ (old new : List (List ℕ)) (places more : List ℕ) (n : ℕ) (text : List ℕ)
      (below : n < length texts) (is : get_or texts n [] ≡ text)
      (so_far : AreTextsAdded texts old places n) where
    next : take (n + 1) texts ≡ take n texts ++ text ∷ []
    next = take_more texts n [] below ∙ ap (λ (t : List ℕ). take n texts ++ t ∷ []) is

    next_distinct : distinct (old ++ text ∷ []) ≡ distinct (take (n + 1) texts)
    next_distinct =
        ap (λ (l : List (List ℕ)). distinct (l ++ text ∷ [])) so_far.strings_are
        ∙ distinct-append_left (take n texts) (text ∷ [])
        ∙ ap distinct (sym next)

    next_table : table (old ++ text ∷ []) ≡ table (take (n + 1) texts)
    next_table = table_same (old ++ text ∷ []) (take (n + 1) texts) next_distinct

    whole : take (n + 1) texts ++ drop (n + 1) texts ≡ texts
    whole = take-append-drop (n + 1) texts

    used : list_any (bytes_eq text) (take (n + 1) texts) ≡ true
    used =
        ap (λ (l : List (List ℕ)). list_any (bytes_eq text) l) next
        ∙ list_any-append (bytes_eq text) (take n texts) (text ∷ [])
        ∙ or_right (list_any (bytes_eq text) (take n texts)) (bytes_eq text text || false)
        (or_left (bytes_eq text text) false (same_refl text))

    place_is : place_of text (distinct (take (n + 1) texts)) ≡ place_of text texts
    place_is =
        place_of-distinct text (take (n + 1) texts)
        ∙ sym (place_of-append text (take (n + 1) texts) (drop (n + 1) texts) used)
        ∙ ap (place_of text) whole

    pub one_added : IsAddedAt old new places more text true → AreTextsAdded texts new more (n + 1)
    one_added has =
        let strings_are : new ≡ distinct (take (n + 1) texts) = has.0 ∙ next_distinct in
        record {
          strings_are = strings_are;
          places_are = has.1
              ∙ ap (λ (l : List ℕ). l ++ place_of text new ∷ []) so_far.places_are
              ∙ ap (λ (k : ℕ).
              0 ∷ (map (λ (t : List ℕ). place_of t texts) (take n texts) ++ k ∷ []))
              (ap (place_of text) strings_are ∙ place_is)
              ∙ ap (λ (l : List ℕ). 0 ∷ l)
              (ap (λ (t : List ℕ).
              map (λ (t : List ℕ). place_of t texts) (take n texts) ++ place_of t texts ∷ [])
              (sym is)
              ∙ sym (map_more (λ (t : List ℕ). place_of t texts) texts n [] below));
          fits = subst (λ (l : List ℕ). length l ≤ 2 ^ 32 - 1) next_table has.2;
        }

    pub too_large : IsAddedAt old new places more text false
        → table_refusal texts ≡ Some TooLarge
    unfolding table_refusal
    too_large large =
        let here : 2 ^ 32 - 1 < length (table (take (n + 1) texts)) =
        subst (λ (l : List ℕ). 2 ^ 32 - 1 < length l) next_table large in
        let less = longer (take (n + 1) texts) (drop (n + 1) texts) in
        let all = ap (λ (l : List (List ℕ)). length (table l)) whole in
        let past : 2 ^ 32 - 1 < length (table texts) = omega (arith, here, less, all) in
        ap (λ (b : Bool). refused_if b TooLarge) (lt-ltb (2 ^ 32 - 1) (length (table texts)) past)

-- ---- Which text is next

module _ (o : Object) (marks : List ℕ) (c : ChangeLists) where
  abbrev stored : List (Option (List ℕ))
  stored = map (name_now o marks c.rename) (section_numbers o)

  abbrev added : List (Option (List ℕ))
  added = map (λ (change : List ℕ × List ℕ). Some change.0) (map bytes_pair c.add)

  texts_are : all_texts o marks c ≡ map or_empty_name (stored ++ added)
  unfolding all_texts names_now
  texts_are = refl

  stored_long : length stored ≡ length o.sections - 1
  stored_long = length-map-range_with_len (name_now o marks c.rename) 1 (length o.sections - 1)

  added_long : length added ≡ length c.add
  added_long =
      length-map (map bytes_pair c.add) (λ (change : List ℕ × List ℕ). Some change.0)
      ∙ length-map c.add bytes_pair

  pub texts_long : length (all_texts o marks c) ≡ length o.sections - 1 + length c.add
  texts_long =
      ap length texts_are
      ∙ length-map (stored ++ added) or_empty_name
      ∙ length-append stored added
      ∙ ap (λ (n : ℕ). n + length added) stored_long
      ∙ ap (λ (n : ℕ). length o.sections - 1 + n) added_long

  pub text_at : (s : ℕ) → 0 < s → s < length o.sections
      → get_or (all_texts o marks c) (s - 1) [] ≡ or_empty_name (name_now o marks c.rename s)
  text_at s from below =
      let count = stored_long in
      let long = length-append stored added in
      ap (λ (l : List (List ℕ)). get_or l (s - 1) []) texts_are
      ∙ get_or-map or_empty_name (stored ++ added) (s - 1) None []
      (omega (arith, from, below, count, long))
      ∙ ap or_empty_name
      (get_or_append_left stored added None (s - 1) (omega (arith, from, below, count))
      ∙ get_or-map-range_with_len (name_now o marks c.rename) 1 (length o.sections - 1) (s - 1) s
      None (omega (arith, from, below)) (omega (arith, from)))

  added_texts : (l : List NameBytes)
      → map or_empty_name
      (map (λ (change : List ℕ × List ℕ). Some change.0) (map bytes_pair l))
      ≡ map (λ a. a.name) l
  added_texts [] = refl
  added_texts (x ∷ l) = ap (λ (m : List (List ℕ)). x.name ∷ m) (added_texts l)

  drop_front : {X : Type 0} (a b : List X) → drop (length a) (a ++ b) ≡ b
  drop_front [] b = refl
  drop_front (x ∷ a) b = drop_front a b

  pub texts_behind : drop (length o.sections - 1) (all_texts o marks c) ≡ map (λ a. a.name) c.add
  texts_behind =
      let front = map or_empty_name stored in
      let count : length front ≡ length o.sections - 1 =
      length-map stored or_empty_name ∙ stored_long in
      ap (λ (l : List (List ℕ)). drop (length o.sections - 1) l)
      (texts_are ∙ map-append or_empty_name stored added)
      ∙ ap (λ (n : ℕ). drop n (front ++ map or_empty_name added)) (sym count)
      ∙ drop_front front (map or_empty_name added)
      ∙ added_texts c.add

-- those that are to come
module _ (texts : List (List ℕ)) (n : ℕ) (adds : List NameBytes)
    (behind : drop n texts ≡ map (λ a. a.name) adds) where
  pub behind_long : length texts - n ≡ length adds
  behind_long =
      sym (length-drop n texts) ∙ ap length behind ∙ length-map adds (λ (a : NameBytes). a.name)

  pub behind_at : (i : ℕ) (change : NameBytes) → i < length adds → change ≡ get_or adds i change
      → get_or texts (n + i) [] ≡ change.name
  behind_at i change below is =
      sym (get_or-drop n texts i [])
      ∙ ap (λ (l : List (List ℕ)). get_or l i []) behind
      ∙ get_or-map (λ (a : NameBytes). a.name) adds i change [] below
      ∙ ap (λ (a : NameBytes). a.name) (sym is)

  -- one of them more
  module _ (old new : List (List ℕ)) (places more : List ℕ) (i : ℕ) (change : NameBytes)
      (text : List ℕ) (fits : Bool) (below : i < length adds) (is : change ≡ get_or adds i change)
      (same : text ≡ change.name) (so_far : AreTextsAdded texts old places (n + i)) where
    inside : n + i < length texts
    inside = let long = behind_long in omega (arith, long, below)

    pub added_more : fits ≡ true → IsAddedAt old new places more text fits
        → AreTextsAdded texts new more (n + (i + 1))
    added_more all has =
        subst (λ (k : ℕ). AreTextsAdded texts new more k)
        (let next : n + i + 1 ≡ n + (i + 1) = omega arith in next)
        (one_added texts old new places more (n + i) text inside
        (behind_at i change below is ∙ sym same) so_far
        (subst (λ (b : Bool). IsAddedAt old new places more text b) all has))

    pub added_large : fits ≡ false → IsAddedAt old new places more text fits
        → table_refusal texts ≡ Some TooLarge
    added_large past has =
        too_large texts old new places more (n + i) text inside
        (behind_at i change below is ∙ sym same) so_far
        (subst (λ (b : Bool). IsAddedAt old new places more text b) past has)

pub first_texts_added : (texts old : List (List ℕ)) (places : List ℕ) (n : ℕ)
    → AreTextsAdded texts old places n → AreTextsAdded texts old places (n + 0)
first_texts_added texts old places n are =
    subst (λ (k : ℕ). AreTextsAdded texts old places k)
    (let same : n ≡ n + 0 = omega arith in same) are
