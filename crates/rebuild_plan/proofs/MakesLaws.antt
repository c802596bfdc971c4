-- What was arranged without some sections is over the stated base and of the stated kinds, and an
-- object is made of it within what may be asked for.
use Rattle.std.proofs.Common.{◌≡◌, ◌≢◌, ◌+◌, ◌≤◌, ◌==◌, ◌&&◌, ◌||◌, ℕ, zero, suc, Bool, true, false, List, [], ◌∷◌, length, map, Option, Ok, if◌then◌else◌, refl, sym, ap, ◌∙◌, arith}
use Rattle.std.specs.Prelude.{sum_by, unwrap_or}
use Rattle.std.proofs.lemmas.Bool.{eq-eqb, ne_eqb}
use Rattle.elf_types.specs.declared.records.Kind.{Kind}
use Rattle.elf_types.specs.declared.records.Kind.TheVariants as kinds
use Rattle.law_rebuild.specs.elf_object.Object.{Object, is_dirty}
use Rattle.law_rebuild.specs.elf_object.Due.{home_due, homes_due}
use Rattle.law_rebuild.specs.elf_object.Valid.{IsObject}
use Rattle.law_rebuild.specs.elf_object.Sections.{is_among}
use Rattle.law_rebuild.specs.rebuild_model.Followed.{kept_from_1, kept_sections, symbols_follow}
use Rattle.law_rebuild.specs.rebuild_model.Rebuilt.{rebuilt_tail, renews_names, items_follow}
use Rattle.rebuild_tables.specs.rebuild_keep.declared.naming.Names.{Names}
use Rattle.rebuild_tables.specs.rebuild_keep.declared.naming.Names.TheVariants.{Stay, Anew, TooLarge}
use Rattle.rebuild_tables.specs.rebuild_keep.declared.keepers.Keeper.{Keeper}
use Rattle.rebuild_tables.specs.rebuild_keep.Answers.{ChecksNames, kept_reads, homes_asked, rebuild_due}
use Rattle.rebuild_tables.specs.rebuild_keep.Keepers.{follows_by, is_renewed, makes_by, kind_by, RenewsAs, KeepsFor}
use Rattle.rebuild_tables.proofs.rebuild_keep.KeptLaws.{among_any, kept_parts, follows_told, map_members}
use Rattle.rebuild_tables.proofs.rebuild_keep.NumberLaws.{kept_with_0}
use Rattle.rebuild_plan.specs.declared.arranged.Arranged.{Arranged}
use Rattle.rebuild_plan.specs.declared.contents.Contents.{Contents}
use Rattle.rebuild_plan.specs.Ranges.{base_due_by}
use Rattle.rebuild_plan.specs.Reading.{ranges_due, rebuilt_kind, rebuilt_kinds}
use Rattle.rebuild_plan.specs.Contents.{IsReadBy}
use Rattle.rebuild_plan.specs.Plans.{is_made, kept_due, stream_due, KeepsRanges, MakesRebuilt}
use Rattle.rebuild_plan.proofs.DueLaws.{sums_both, homes_flat, reads_have}

-- the names are made anew where they are to be
renewed_told : (names : Names) (renews b : Bool) → RenewsAs renews names
    → ChecksNames names (Ok tt) → is_renewed names b ≡ (renews && b)
renewed_told Stay renews b known fits = sym (ap (λ (r : Bool). r && b) known)
renewed_told (Anew names) renews b known fits = sym (ap (λ (r : Bool). r && b) known)
renewed_told TooLarge renews b known fits = cc

module _ (told : Bool) (o : Object) (k : Keeper) (keeps : KeepsFor told o k) (is : IsObject o)
    (clean : is_dirty o ≡ false) (checked : ChecksNames k.names (Ok tt)) where
  abbrev gone : List ℕ
  gone = k.removed.now

  names_told : (s : ℕ) → is_renewed k.names (s == o.header.shstrndx)
      ≡ (renews_names o k.removed.now && s == o.header.shstrndx)
  names_told s =
      renewed_told k.names (renews_names o k.removed.now) (s == o.header.shstrndx) keeps.renews
      checked

  -- ---- Kinds

  kind_told : (s : ℕ) → s ≢ 0 → kind_by k o s ≡ rebuilt_kind o k.removed.now s
  unfolding kind_by rebuilt_kind
  kind_told s some =
      let renewed = renews_names o k.removed.now && s == o.header.shstrndx in
      let follow = items_follow o k.removed.now s in
      let others : Bool → Bool → Kind = λ a b. if a then kinds.Bytes
      else (if symbols_follow o s then kinds.Sym
      else (if b then kinds.Word else kinds.Bytes)) in
      ap (λ (a : Bool). others a (follows_by k o s)) (names_told s)
      ∙ ap (λ (b : Bool). others renewed b) (follows_told told o k keeps is clean s some)
      ∙ sym (ap (λ (a : Bool). if a then kinds.Empty else others renewed follow)
      (ne_eqb s 0 some))

  numbers_told : map (kind_by k o) (kept_from_1 o k.removed.now)
      ≡ map (rebuilt_kind o k.removed.now) (kept_from_1 o k.removed.now)
  numbers_told =
      map_members (kind_by k o) (rebuilt_kind o k.removed.now) (kept_from_1 o k.removed.now)
      (λ s any.
      kind_told s (kept_parts o k.removed.now s (sym (among_any o k.removed.now s) ∙ any)).0)

  kinds_told : (x : Contents) → is_among k.removed.now 0 ≡ false → IsReadBy k o x
      → x.kinds ≡ rebuilt_kinds o k.removed.now
  unfolding rebuilt_kinds rebuilt_kind
  kinds_told x stays read = by (length o.sections) refl
    where
      kept_as : (b : Bool) → (length o.sections == 0) ≡ b
          → map (rebuilt_kind o k.removed.now) (kept_sections o k.removed.now)
          ≡ map (rebuilt_kind o k.removed.now) (if b then [] else 0 ∷ kept_from_1 o k.removed.now)
      kept_as b at =
          ap (map (rebuilt_kind o k.removed.now)) (kept_with_0 o k.removed.now stays
          ∙ ap (λ (t : Bool). if t then [] else 0 ∷ kept_from_1 o k.removed.now) at)

      by : (n : ℕ) → length o.sections ≡ n
          → x.kinds ≡ map (rebuilt_kind o k.removed.now) (kept_sections o k.removed.now)
      by zero none = (read.none none).0 ∙ sym (kept_as true (eq-eqb (length o.sections) 0 none))
      by (suc n) at =
          let some : length o.sections ≡ 0 → ⊥ = λ none. omega (arith, at, none) in
          (read.some some).kinds_are
          ∙ ap (λ (l : List Kind). kinds.Empty ∷ l) numbers_told
          ∙ sym (kept_as false (ne_eqb (length o.sections) 0 some))

  -- ---- What is read

  made_told : (s : ℕ) → s ≢ 0 → makes_by k o s ≡ is_made o k.removed.now s
  unfolding makes_by
  made_told s some =
      ap (λ (b : Bool). b || follows_by k o s) (names_told s)
      ∙ ap (λ (b : Bool). (renews_names o k.removed.now && s == o.header.shstrndx) || b)
      (follows_told told o k keeps is clean s some)

  one_within : (s : ℕ) → is_among (kept_from_1 o k.removed.now) s ≡ true
      → kept_due o k.removed.now s + base_due_by k o s
      ≤ homes_due o [] (kept_reads o k.removed.now s)
  unfolding kept_due
  one_within s kept =
      by (makes_by k o s) (is_made o k.removed.now s)
      (made_told s (kept_parts o k.removed.now s kept).0)
    where
      by : (a b : Bool) → a ≡ b
          → (if b then homes_due o [] (kept_reads o k.removed.now s) else 0)
          + (if a then 0 else home_due o [] s)
          ≤ homes_due o [] (kept_reads o k.removed.now s)
      by true true same = omega arith
      by true false same = cc
      by false true same = cc
      by false false same = let has = reads_have o k.removed.now s in omega (arith, has)

  all_within : sum_by (kept_due o k.removed.now) (kept_from_1 o k.removed.now)
      + sum_by (base_due_by k o) (kept_from_1 o k.removed.now)
      ≤ homes_asked o k.removed.now
  all_within =
      let both = sums_both (kept_due o k.removed.now) (base_due_by k o)
      (λ s. homes_due o [] (kept_reads o k.removed.now s)) (kept_from_1 o k.removed.now)
      (λ s any. one_within s (sym (among_any o k.removed.now s) ∙ any)) in
      let same = homes_flat o k.removed.now in
      omega (arith, both, same)

  ranges_within : (x : Contents) → IsReadBy k o x
      → ranges_due x.ranges ≤ sum_by (base_due_by k o) (kept_from_1 o k.removed.now)
  ranges_within x read = by (length o.sections) refl
    where
      by : (n : ℕ) → length o.sections ≡ n
          → ranges_due x.ranges ≤ sum_by (base_due_by k o) (kept_from_1 o k.removed.now)
      by zero none =
          let nothing : ranges_due x.ranges ≡ 0 = ap ranges_due (read.none none).1 in
          omega (arith, nothing)
      by (suc n) at = (read.some (λ none. omega (arith, at, none))).within

  -- ---- All of it

  pub makes_rebuilt : (x : Contents) (tail : Option ℕ) (next : Arranged)
      → is_among k.removed.now 0 ≡ false → IsReadBy k o x → tail ≡ rebuilt_tail o k.removed.now
      → KeepsRanges x tail next → MakesRebuilt o k.removed.now next
  unfolding stream_due rebuild_due
  makes_rebuilt x tail next stays read tail_as kept = record {
    tail_is = kept.tail_is ∙ tail_as;
    kinds_are = kept.kinds_are ∙ kinds_told x stays read;
    within =
        let front = ap (λ (t : Option ℕ). unwrap_or t 0) (kept.tail_is ∙ tail_as) in
        let same : ranges_due next.ranges ≡ ranges_due x.ranges = ap ranges_due kept.ranges in
        let ranges = ranges_within x read in
        let all = all_within in
        omega (arith, front, same, ranges, all);
  }
