-- What is asked for, by a keeper, is at most what is stated of the object.
use Rattle.std.proofs.Common.{◌≡◌, ◌≢◌, ◌+◌, ◌≤◌, ◌==◌, ◌&&◌, ◌||◌, ℕ, Bool, true, false, List, [], ◌∷◌, if◌then◌else◌, refl, sym, ap, ◌∙◌, arith}
use Rattle.std.specs.Prelude.{nat_eq, sum_by}
use Rattle.std.specs.List.{flat_map, list_any}
use Rattle.std.proofs.lemmas.Bool.{eq-eqb, or_right}
use Rattle.std.proofs.lemmas.List.Sums.{sum_by-append, sum_by-cons}
use Rattle.std.proofs.lemmas.List.Concat.{flat_map-cons}
use Rattle.law_rebuild.specs.elf_object.Object.{Object, is_dirty}
use Rattle.law_rebuild.specs.elf_object.Due.{home_due, homes_due}
use Rattle.law_rebuild.specs.elf_object.Valid.{IsObject}
use Rattle.law_rebuild.specs.elf_object.Sections.{header_at, is_among, number_or_0}
use Rattle.law_rebuild.specs.rebuild_model.Followed.{kept_from_1, extended_table, indexes_follow, members_follow, symbols_follow}
use Rattle.law_rebuild.specs.rebuild_model.Rebuilt.{renews_names, items_follow}
use Rattle.rebuild_tables.specs.rebuild_select.Calls.{names_home}
use Rattle.rebuild_tables.specs.rebuild_keep.declared.naming.Names.{Names}
use Rattle.rebuild_tables.specs.rebuild_keep.declared.naming.Names.TheVariants.{Stay, Anew, TooLarge}
use Rattle.rebuild_tables.specs.rebuild_keep.declared.keepers.Keeper.{Keeper}
use Rattle.rebuild_tables.specs.rebuild_keep.Answers.{homes_asked, kept_homes, kept_reads, rebuild_due}
use Rattle.rebuild_tables.specs.rebuild_keep.Keepers.{follows_by, is_renewed, makes_by, reads_by, RenewsAs, KeepsFor}
use Rattle.rebuild_tables.proofs.rebuild_keep.KeptLaws.{among_any, kept_parts, follows_told, reads_told}
use Rattle.rebuild_plan.specs.Ranges.{making_due}
use Rattle.rebuild_plan.specs.Contents.{sections_due}
use Rattle.rebuild_plan.specs.Plans.{is_made, kept_due, stream_due}

-- sums over the members of a list
sums_less : (f h : ℕ → ℕ) (l : List ℕ)
    → ((s : ℕ) → list_any (nat_eq s) l ≡ true → f s ≤ h s) → sum_by f l ≤ sum_by h l
sums_less f h [] less = omega arith
sums_less f h (x ∷ l) less =
    let here = less x (ap (λ (b : Bool). b || list_any (nat_eq x) l) (eq-eqb x x refl)) in
    let rest = sums_less f h l
    (λ s is. less s (or_right (nat_eq s x) (list_any (nat_eq s) l) is)) in
    let one = sum_by-cons f x l in
    let other = sum_by-cons h x l in
    omega (arith, here, rest, one, other)

-- of two numbers each
pub sums_both : (f g h : ℕ → ℕ) (l : List ℕ)
    → ((s : ℕ) → list_any (nat_eq s) l ≡ true → f s + g s ≤ h s)
    → sum_by f l + sum_by g l ≤ sum_by h l
sums_both f g h [] less = omega arith
sums_both f g h (x ∷ l) less =
    let here = less x (ap (λ (b : Bool). b || list_any (nat_eq x) l) (eq-eqb x x refl)) in
    let rest = sums_both f g h l
    (λ s is. less s (or_right (nat_eq s x) (list_any (nat_eq s) l) is)) in
    let one = sum_by-cons f x l in
    let two = sum_by-cons g x l in
    let all = sum_by-cons h x l in
    omega (arith, here, rest, one, two, all)

-- a sum over the members of lists
flat_sum : (f : ℕ → ℕ) (r : ℕ → List ℕ) (l : List ℕ)
    → sum_by f (flat_map r l) ≡ sum_by (λ s. sum_by f (r s)) l
flat_sum f r [] = refl
flat_sum f r (x ∷ l) =
    ap (sum_by f) (flat_map-cons r x l)
    ∙ sum_by-append f (r x) (flat_map r l)
    ∙ ap (λ (n : ℕ). sum_by f (r x) + n) (flat_sum f r l)
    ∙ sym (sum_by-cons (λ s. sum_by f (r s)) x l)

-- ---- The homes that are looked at

pub homes_flat : (o : Object) (removed : List ℕ)
    → homes_asked o removed
    ≡ sum_by (λ s. homes_due o [] (kept_reads o removed s)) (kept_from_1 o removed)
unfolding homes_due kept_homes
homes_flat o removed =
    flat_sum (home_due o []) (kept_reads o removed) (kept_from_1 o removed)

-- the section's own is one of them
pub reads_have : (o : Object) (removed : List ℕ) (s : ℕ)
    → home_due o [] s ≤ homes_due o [] (kept_reads o removed s)
unfolding homes_due kept_reads
reads_have o removed s =
    by (symbols_follow o s) (members_follow o s) (indexes_follow o removed s)
  where
    alone : home_due o [] s ≤ sum_by (home_due o []) (s ∷ [])
    alone = let one = sum_by-cons (home_due o []) s [] in omega (arith, one)

    first : (t : ℕ) → home_due o [] s ≤ sum_by (home_due o []) (s ∷ t ∷ [])
    first t = let one = sum_by-cons (home_due o []) s (t ∷ []) in omega (arith, one)

    second : (t : ℕ) → home_due o [] s ≤ sum_by (home_due o []) (t ∷ s ∷ [])
    second t =
        let one = sum_by-cons (home_due o []) t (s ∷ []) in
        let other = alone in
        omega (arith, one, other)

    by : (a b c : Bool) → home_due o [] s ≤ sum_by (home_due o [])
        (if a then number_or_0 (extended_table o removed s) ∷ s ∷ []
        else (if b then s ∷ []
        else (if c then s ∷ (header_at o s).link ∷ [] else s ∷ [])))
    by true b c = second (number_or_0 (extended_table o removed s))
    by false true c = alone
    by false false true = first (header_at o s).link
    by false false false = alone

-- what is asked for while it is arranged is asked for at most
pub stream_less : (o : Object) (removed : List ℕ) → stream_due o removed ≤ rebuild_due o removed
unfolding stream_due kept_due rebuild_due
stream_less o removed =
    let less = sums_less (kept_due o removed) (λ s. homes_due o [] (kept_reads o removed s))
    (kept_from_1 o removed) (λ s any. by (is_made o removed s) s) in
    let same = homes_flat o removed in
    omega (arith, less, same)
  where
    by : (b : Bool) (s : ℕ) → (if b then homes_due o [] (kept_reads o removed s) else 0)
        ≤ homes_due o [] (kept_reads o removed s)
    by true s = omega arith
    by false s = omega arith

-- ---- By a keeper

renewed_made : (names : Names) (renews b : Bool) → RenewsAs renews names
    → is_renewed names b ≡ true → (renews && b) ≡ true
renewed_made Stay renews b known is = cc
renewed_made (Anew names) renews b known is = ap (λ (r : Bool). r && b) known ∙ is
renewed_made TooLarge renews b known is = cc

either : (a b c d : Bool) → (a ≡ true → c ≡ true) → b ≡ d → (a || b) ≡ true → (c || d) ≡ true
either true b c d one same is = ap (λ (x : Bool). x || d) (one refl)
either false b true d one same is = refl
either false b false d one same is = sym same ∙ is

module _ (told : Bool) (o : Object) (k : Keeper) (keeps : KeepsFor told o k) (is : IsObject o)
    (clean : is_dirty o ≡ false) where
  made_too : (s : ℕ) → s ≢ 0 → makes_by k o s ≡ true → is_made o k.removed.now s ≡ true
  unfolding makes_by
  made_too s some makes =
      either (is_renewed k.names (s == o.header.shstrndx)) (follows_by k o s)
      (renews_names o k.removed.now && s == o.header.shstrndx) (items_follow o k.removed.now s)
      (renewed_made k.names (renews_names o k.removed.now) (s == o.header.shstrndx) keeps.renews)
      (follows_told told o k keeps is clean s some) makes

  section_less : (s : ℕ) → is_among (kept_from_1 o k.removed.now) s ≡ true
      → making_due k o s ≤ kept_due o k.removed.now s
  unfolding kept_due
  section_less s kept =
      by_test (makes_by k o s) (made_too s (kept_parts o k.removed.now s kept).0)
      (is_made o k.removed.now s)
      (ap (λ (l : List ℕ). homes_due o [] l) (reads_told told o k keeps is clean s kept))
    where
      by_test : (a : Bool) → (a ≡ true → is_made o k.removed.now s ≡ true) → (b : Bool)
          → homes_due o [] (reads_by k o s) ≡ homes_due o [] (kept_reads o k.removed.now s)
          → (if a then homes_due o [] (reads_by k o s) else 0)
          ≤ (if is_made o k.removed.now s then homes_due o [] (kept_reads o k.removed.now s) else 0)
      by_test false made b same = omega arith
      by_test true made b same =
          let all : (if is_made o k.removed.now s
          then homes_due o [] (kept_reads o k.removed.now s) else 0)
          ≡ homes_due o [] (kept_reads o k.removed.now s) =
          ap (λ (x : Bool). if x then homes_due o [] (kept_reads o k.removed.now s) else 0)
          (made refl) in
          omega (arith, same, all)

  pub sections_less : sections_due k o (kept_from_1 o k.removed.now)
      ≤ sum_by (kept_due o k.removed.now) (kept_from_1 o k.removed.now)
  sections_less =
      sums_less (making_due k o) (kept_due o k.removed.now) (kept_from_1 o k.removed.now)
      (λ s any. section_less s (sym (among_any o k.removed.now s) ∙ any))

  pub all_less : homes_due o [] (names_home o) + sections_due k o (kept_from_1 o k.removed.now)
      ≤ stream_due o k.removed.now
  unfolding stream_due
  all_less = let less = sections_less in omega (arith, less)

pub names_due_less : (o : Object) (removed : List ℕ)
    → homes_due o [] (names_home o) ≤ stream_due o removed
unfolding stream_due
names_due_less o removed = omega arith
