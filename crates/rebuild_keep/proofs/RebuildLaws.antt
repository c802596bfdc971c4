-- The object that is made anew: what it is answered with, and what is asked for.
use Rattle.std.proofs.Common.{◌≡◌, ◌≢◌, ◌⊎◌, inl, inr, ◌≤◌, ◌==◌, ◌&&◌, ℕ, Bool, true, false, not, List, [], ◌∷◌, length, map, Option, Some, None, Result, Ok, Err, if◌then◌else◌, refl, sym, ap, ◌∙◌, subst, arith}
use Rattle.std.specs.Prelude.{IsTrue, IfSome, nat_le, min}
use Rattle.elf_types.specs.declared.errors.ElfError.{ElfError}
use Rattle.elf_types.specs.declared.errors.ElfError.TheVariants.{Memory, Read, Write, TooLarge, NoSection, NoData, OutOfFile, Ragged, TooMany, Unfit}
use Rattle.elf_types.specs.declared.constants.TheConstants.{PN_XNUM}
use Rattle.elf_types.specs.declared.records.Part.TheVariants as part
use Rattle.elf_types.specs.Answers.{refused_if, first_refusal, answered, err_of, ◌>>=◌}
use Rattle.rebuild_names.specs.elf_xlate.declared.content.Items.{Items}
use Rattle.rebuild_names.specs.elf_xlate.Headers.{ehdr_fits}
use Rattle.rebuild_names.specs.elf_xlate.Translation.{decoded}
use Rattle.rebuild_making.specs.elf_object.Object.{Object, Section, section_at, piece_at, is_dirty}
use Rattle.rebuild_making.specs.elf_object.Open.{created_over}
use Rattle.rebuild_making.specs.elf_object.Answers.{content, no_section, no_data, no_content, out_of_file, piece_count, raw_refusal, data_refusal}
use Rattle.rebuild_making.specs.elf_object.Calls.{newphdr_refusal, update_ehdr_refusal}
use Rattle.rebuild_making.specs.elf_object.Steps.{stored_ehdr}
use Rattle.rebuild_making.specs.elf_object.Valid.{IsObject}
use Rattle.rebuild_making.proofs.elf_object.StepLaws.{first_refusal-met, first_refusal-more}
use Rattle.elf_update_plan.specs.elf_descriptor.State.{State}
use Rattle.rebuild_making.specs.rebuild_model.Arranged.{over_base, base_end, tail_of, tail_refusal, placed_from, arranged}
use Rattle.rebuild_making.specs.elf_object.Sections.{is_among, is_program}
use Rattle.rebuild_making.specs.rebuild_model.Followed.{kept_from_1}
use Rattle.rebuild_making.specs.rebuild_model.Rebuilt.{assembled, rebuilt, rebuild_refusal, rebuilt_object, rebuilt_sections, rebuilt_index, rebuilt_tail, renews_names, kept_names, table_refusal, kept_refusal, items_follow, index_refusal}
use Rattle.rebuild_making.specs.Based.{IsMadeOver}
use Rattle.rebuild_making.specs.Placing.{made_of, arranged_refusal, arranged_state}
use Rattle.rebuild_making.specs.Refused.{UnreadBy}
use Rattle.rebuild_numbers.specs.rebuild_select.Steps.{IsRemovable}
use Rattle.rebuild_keep.specs.declared.naming.Names.{Names}
use Rattle.rebuild_keep.specs.declared.naming.Names.TheVariants as names
use Rattle.rebuild_keep.specs.declared.keepers.Keeper.{Keeper}
use Rattle.rebuild_keep.specs.Keepers.{index_by, RenewsAs, AreNames, KeepsFor}
use Rattle.rebuild_keep.specs.Answers.{RebuildAnswers, EarlyBy, early_refusal, sections_of, refusal_of, ChecksNames}
use Rattle.rebuild_keep.proofs.NumberLaws.{zero_stays}
use Rattle.rebuild_keep.proofs.KeptLaws.{none_among, among_any, early_told, index_told}
use Rattle.rebuild_keep.proofs.SectionLaws.{sections_told}

-- ---- No early refusal is TooLarge

abbrev pub IsSmall : ElfError → Type 0
IsSmall TooLarge = ⊥
IsSmall e = Unit {0}

abbrev pub AreSmall : Option ElfError → Type 0
AreSmall r = IfSome r IsSmall

pub small_if : (b : Bool) (e : ElfError) → IsSmall e → AreSmall (refused_if b e)
small_if true e is = is
small_if false e is = tt

small_then : (r : Option ElfError) (rest : List (Option ElfError)) → AreSmall r
    → AreSmall (first_refusal rest) → AreSmall (first_refusal (r ∷ rest))
small_then None rest one others = others
small_then (Some e) rest one others = one

small_content : (o : Object) (s : ℕ) → AreSmall (err_of (content o s))
unfolding content
small_content o s =
    by (section_at o s).home.out
    (decoded (section_at o s).home.kind o.header.class o.header.order (section_at o s).raw)
  where
    by : (b : Bool) (d : Option Items)
        → AreSmall (err_of {A = Items} (if b then Err (OutOfFile s)
        else (elim d [ None ↦ Err (Ragged s) | Some x ↦ Ok x ])))
    by true d = tt
    by false None = tt
    by false (Some x) = tt

small_data : (o : Object) (s : ℕ) → AreSmall (data_refusal o s 0)
unfolding data_refusal no_content
small_data o s =
    small_then (no_section o s) (no_data o s 0 ∷ no_content o s 0 ∷ [])
    (small_if (nat_le (length o.sections) s) (NoSection s (length o.sections)) tt)
    (small_then (no_data o s 0) (no_content o s 0 ∷ [])
    (small_if (nat_le (piece_count o s) 0) (NoData 0 (piece_count o s)) tt)
    (small_then (no_content o s 0) [] (by (piece_at o s 0).own) tt))
  where
    by : (own : Option Items)
        → AreSmall (elim own [ None ↦ err_of (content o s) | Some items ↦ None ])
    by None = small_content o s
    by (Some items) = tt

pub small_raw : (o : Object) (s : ℕ) → AreSmall (raw_refusal o s)
unfolding raw_refusal
small_raw o s =
    small_then (no_section o s) (out_of_file o s ∷ [])
    (small_if (nat_le (length o.sections) s) (NoSection s (length o.sections)) tt)
    (small_then (out_of_file o s) []
    (small_if (section_at o s).home.out (OutOfFile s) tt) tt)

small_kept : (o : Object) (removed : List ℕ) (s : ℕ) → AreSmall (kept_refusal o removed s)
unfolding kept_refusal
small_kept o removed s =
    small_then (raw_refusal o s)
    ((if items_follow o removed s then data_refusal o s 0 else None) ∷ []) (small_raw o s)
    (small_then (if items_follow o removed s then data_refusal o s 0 else None) []
    (by (items_follow o removed s)) tt)
  where
    by : (b : Bool) → AreSmall (if b then data_refusal o s 0 else None)
    by true = small_data o s
    by false = tt

small_all : (f : ℕ → Option ElfError) (l : List ℕ) → ((s : ℕ) → AreSmall (f s))
    → AreSmall (first_refusal (map f l))
small_all f [] each = tt
small_all f (s ∷ l) each = small_then (f s) (map f l) (each s) (small_all f l each)

pub small_index : (o : Object) (sections : List Section) (index : ℕ)
    → AreSmall (index_refusal o sections index)
unfolding index_refusal update_ehdr_refusal
small_index o sections index =
    by (not (index == 0) && nat_le (length sections) index)
    (not (ehdr_fits (stored_ehdr (record o.header { shnum = length sections })
    (record o.header { shstrndx = index }))))
  where
    by : (a b : Bool) → AreSmall (first_refusal (refused_if a (NoSection index (length sections))
        ∷ refused_if b (Unfit part.Header 0) ∷ []))
    by true b = tt
    by false true = tt
    by false false = tt

small_early : (o : Object) (removed : List ℕ) → AreSmall (early_refusal o removed)
unfolding early_refusal
small_early o removed =
    let all = first_refusal (map (kept_refusal o removed) (kept_from_1 o removed)) in
    let last = index_refusal o (rebuilt_sections o removed) (rebuilt_index o removed) in
    small_then (newphdr_refusal (length o.phdrs)) (all ∷ last ∷ [])
    (small_if (nat_le PN_XNUM (length o.phdrs)) TooMany tt)
    (small_then all (last ∷ []) (small_all (kept_refusal o removed) (kept_from_1 o removed)
    (small_kept o removed))
    (small_then last [] (small_index o (rebuilt_sections o removed) (rebuilt_index o removed)) tt))

-- ---- Answers

early_by : (r : Option ElfError) (e : ElfError) → AreSmall r → UnreadBy r e → EarlyBy r e
early_by r Memory small by = tt
early_by r Read small by = tt
early_by r Write small by = by
early_by r TooLarge small by = absurd (subst (λ (x : Option ElfError). IfSome x IsSmall) by small)
early_by r e small by = by

module _ (o : Object) (removed : List ℕ) where
  abbrev names_refusal : Option ElfError
  names_refusal = if renews_names o removed then table_refusal (kept_names o removed) else None

  refused_early : (e : ElfError) → early_refusal o removed ≡ Some e
      → rebuild_refusal o removed ≡ Some e
  unfolding early_refusal rebuild_refusal
  refused_early e is =
      first_refusal-met (newphdr_refusal (length o.phdrs)
      ∷ first_refusal (map (kept_refusal o removed) (kept_from_1 o removed))
      ∷ index_refusal o (rebuilt_sections o removed) (rebuilt_index o removed) ∷ [])
      (names_refusal ∷ []) e is

  refused_late : early_refusal o removed ≡ None
      → rebuild_refusal o removed ≡ first_refusal (names_refusal ∷ [])
  unfolding early_refusal rebuild_refusal
  refused_late is =
      first_refusal-more (newphdr_refusal (length o.phdrs)
      ∷ first_refusal (map (kept_refusal o removed) (kept_from_1 o removed))
      ∷ index_refusal o (rebuilt_sections o removed) (rebuilt_index o removed) ∷ [])
      names_refusal is

  rebuilt_refused : (e : ElfError) → rebuild_refusal o removed ≡ Some e
      → rebuilt o removed ≡ Err e
  unfolding rebuilt
  rebuilt_refused e is =
      ap (λ (r : Option ElfError). answered r (made_of (rebuilt_object o removed)
      (rebuilt_tail o removed)) >>= arranged) is

  rebuilt_passed : rebuild_refusal o removed ≡ None
      → rebuilt o removed ≡ arranged (made_of (rebuilt_object o removed) (rebuilt_tail o removed))
  unfolding rebuilt
  rebuilt_passed is =
      ap (λ (r : Option ElfError). answered r (made_of (rebuilt_object o removed)
      (rebuilt_tail o removed)) >>= arranged) is

  pub answers_early : (e : ElfError) → UnreadBy (early_refusal o removed) e
      → RebuildAnswers (Err e) (rebuilt o removed)
  answers_early Memory by = tt
  answers_early Read by = tt
  answers_early Write by = by
  answers_early e by = rebuilt_refused e (refused_early e by)

  pub early_error : (e : ElfError) → UnreadBy (early_refusal o removed) e
      → EarlyBy (early_refusal o removed) e
  early_error e by = early_by (early_refusal o removed) e (small_early o removed) by

-- want of memory and failed reads come at any time
pub faults_early : (e : ElfError) (stated : Option ElfError) → (e ≡ Memory) ⊎ (e ≡ Read)
    → EarlyBy stated e
faults_early e stated (inl is) = subst (λ (x : ElfError). EarlyBy stated x) (sym is) tt
faults_early e stated (inr is) = subst (λ (x : ElfError). EarlyBy stated x) (sym is) tt

-- ---- A created object

over_fresh : (o : Object) (tail : Option ℕ)
    → ((over_base o tail).sections ≡ []) × ((over_base o tail).header.shnum ≡ 0)
    × ((over_base o tail).header.class ≡ o.header.class)
unfolding over_base created_over
over_fresh o None = (refl, refl, refl)
over_fresh o (Some n) = (refl, refl, refl)

pub fresh : {S : Type 0} (told : Bool) (o : Object) (tail : Option ℕ) (made : State S)
    → IsMadeOver told o tail made
    → (made.o.sections ≡ []) × (made.o.header.shnum ≡ 0) × (made.o.header.class ≡ o.header.class)
fresh told o tail made is =
    let parts = over_fresh o tail in (
      ap (λ (m : Object). m.sections) is.made_is.object ∙ parts.0,
      ap (λ (m : Object). m.header.shnum) is.made_is.object ∙ parts.1,
      ap (λ (m : Object). m.header.class) is.made_is.object ∙ parts.2,
    )

least : (b : Bool) (n m : ℕ) → IfSome (if b then Some (min n m) else None) (λ k. k ≤ n)
least true n m = omega arith
least false n m = tt

pub tail_within : (o : Object) (removed : List ℕ) (tail : Option ℕ)
    → tail ≡ rebuilt_tail o removed → IfSome tail (λ n. n ≤ length o.base)
unfolding rebuilt_tail tail_of base_end
tail_within o removed tail is =
    subst (λ (t : Option ℕ). IfSome t (λ n. n ≤ length o.base)) (sym is)
    (least (is_program o) (length o.base) _)

-- ---- Places

-- a refusal of a place is that it is too large
pub arrange_large : (o : Object) (t : Option ℕ) (e : ElfError)
    → ◌≡◌ {A = Result (Unit {0}) ElfError} (Err e) (answered (arranged_refusal o t) tt)
    → e ≡ TooLarge
unfolding tail_refusal
arrange_large o None e came = cc
arrange_large o (Some n) e came = by _ came
  where
    by : (b : Bool)
        → ◌≡◌ {A = Result (Unit {0}) ElfError} (Err e) (answered (refused_if b TooLarge) tt)
        → e ≡ TooLarge
    by true same = cc
    by false same = cc

pub placed_told : {M : Type 0} (s : State M) (t : Option ℕ) → (arranged_state s t).told ≡ s.told
placed_told s None = refl
placed_told s (Some n) = by (length s.o.sections == 0)
  where
    by : (b : Bool)
        → (if b then s else record s { o = placed_from s.o n; ready = false }).told ≡ s.told
    by true = refl
    by false = refl

-- ---- By a keeper

module _ (told : Bool) (o : Object) (k : Keeper) (is : IsObject o) (clean : is_dirty o ≡ false)
    (removable : IsRemovable o k.removed.now) (keeps : KeepsFor told o k) where
  stays : is_among k.removed.now 0 ≡ false
  stays = zero_stays o k.removed.now removable

  pub early_is : refusal_of k o ≡ early_refusal o k.removed.now
  early_is = early_told told o k keeps stays is clean

  -- nothing is refused before the names are
  module _ (passed : refusal_of k o ≡ None) (t : IsTrue told) where
    passes : early_refusal o k.removed.now ≡ None
    passes = sym early_is ∙ passed

    -- by what becomes of the names
    large_refused : (n : Names) → RenewsAs (renews_names o k.removed.now) n
        → AreNames o k.removed.now n → n ≡ names.TooLarge
        → rebuild_refusal o k.removed.now ≡ Some TooLarge
    large_refused names.TooLarge renews are same =
        refused_late o k.removed.now passes
        ∙ ap (λ (b : Bool). first_refusal
        ((if b then table_refusal (kept_names o k.removed.now) else None) ∷ [])) renews
        ∙ ap (λ (r : Option ElfError). first_refusal (r ∷ [])) are
    large_refused names.Stay renews are same = cc
    large_refused (names.Anew n) renews are same = cc

    names_passed : (n : Names) → RenewsAs (renews_names o k.removed.now) n
        → AreNames o k.removed.now n → n ≢ names.TooLarge
        → rebuild_refusal o k.removed.now ≡ None
    names_passed names.TooLarge renews are fits = absurd (fits refl)
    names_passed names.Stay renews are fits =
        refused_late o k.removed.now passes
        ∙ ap (λ (b : Bool). first_refusal
        ((if b then table_refusal (kept_names o k.removed.now) else None) ∷ [])) renews
    names_passed (names.Anew n) renews are fits =
        refused_late o k.removed.now passes
        ∙ ap (λ (b : Bool). first_refusal
        ((if b then table_refusal (kept_names o k.removed.now) else None) ∷ [])) renews
        ∙ ap (λ (r : Option ElfError). first_refusal (r ∷ [])) are.0

    checked_large : (n : Names) (e : ElfError) → ChecksNames n (Err e)
        → (n ≡ names.TooLarge) × (e ≡ TooLarge)
    checked_large names.Stay e came = cc
    checked_large (names.Anew n) e came = cc
    checked_large names.TooLarge e came = (refl, let same : e ≡ TooLarge = cc in same)

    checked_fits : (n : Names) → ChecksNames n (Ok tt) → n ≢ names.TooLarge
    checked_fits n came large =
        let clash : ◌≡◌ {A = Result (Unit {0}) ElfError} (Ok tt) (Err TooLarge) =
        subst (λ (m : Names). ChecksNames m (Ok tt)) large came in cc

    -- their table is too large
    pub names_refused : (e : ElfError) → ChecksNames k.names (Err e)
        → (e ≡ TooLarge) × (rebuilt o k.removed.now ≡ Err TooLarge)
    names_refused e came =
        let large = checked_large k.names e came in (
          large.1,
          rebuilt_refused o k.removed.now TooLarge
              (large_refused k.names keeps.renews (keeps.names_are t) large.0),
        )

    -- ---- What is stated, by what the keeper makes

    kept_pass : (s : ℕ) → is_among (kept_from_1 o k.removed.now) s ≡ true
        → kept_refusal o k.removed.now s ≡ None
    unfolding early_refusal
    kept_pass s kept =
        none_among (kept_refusal o k.removed.now) (kept_from_1 o k.removed.now) s
        (second_none (newphdr_refusal (length o.phdrs))
        (first_refusal (map (kept_refusal o k.removed.now)
        (kept_from_1 o k.removed.now))) _ passes)
        (among_any o k.removed.now s ∙ kept)
      where
        second_none : (a b : Option ElfError) (rest : List (Option ElfError))
            → first_refusal (a ∷ b ∷ rest) ≡ None → b ≡ None
        second_none None None rest none = refl
        second_none None (Some e) rest none = cc
        second_none (Some e) b rest none = cc

    made_sections_are : ChecksNames k.names (Ok tt) → (b : Bool) → IsTrue b → KeepsFor b o k
        → sections_of k o ≡ rebuilt_sections o k.removed.now
    made_sections_are checked true tells keeps_too =
        sections_told o k keeps_too is clean kept_pass stays (checked_fits k.names checked)
    made_sections_are checked false tells keeps_too = cc

    pub stated_is : (tail : Option ℕ) → tail ≡ rebuilt_tail o k.removed.now
        → ChecksNames k.names (Ok tt)
        → rebuilt o k.removed.now
        ≡ arranged (made_of (assembled (over_base o tail) o (index_by k o) (sections_of k o)) tail)
    unfolding rebuilt_object
    stated_is tail tail_is checked =
        rebuilt_passed o k.removed.now
        (names_passed k.names keeps.renews (keeps.names_are t) (checked_fits k.names checked))
        ∙ ap (λ (l : List Section). arranged (made_of
        (assembled (over_base o (rebuilt_tail o k.removed.now)) o (rebuilt_index o k.removed.now) l)
        (rebuilt_tail o k.removed.now))) (sym (made_sections_are checked told t keeps))
        ∙ ap (λ (i : ℕ). arranged (made_of
        (assembled (over_base o (rebuilt_tail o k.removed.now)) o i (sections_of k o))
        (rebuilt_tail o k.removed.now))) (sym (index_told told o k keeps stays))
        ∙ ap (λ (n : Option ℕ). arranged (made_of
        (assembled (over_base o n) o (index_by k o) (sections_of k o)) n)) (sym tail_is)
