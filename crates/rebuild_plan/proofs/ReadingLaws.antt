-- As what the bytes of sections are read, one after another.
use Rattle.std.proofs.Common.{◌≡◌, ◌+◌, ◌≤◌, ℕ, Bool, true, false, List, [], ◌∷◌, ◌++◌, Result, Ok, Err, if◌then◌else◌, sym, ap, ◌∙◌, arith}
use Rattle.std.specs.Prelude.{OnOk}
use Rattle.std.proofs.lemmas.List.{map-append}
use Rattle.std.proofs.lemmas.List.Sums.{sum_by_push}
use Rattle.elf_types.specs.declared.records.Kind.{Kind}
use Rattle.elf_types.specs.declared.records.Kind.TheVariants as kinds
use Rattle.elf_types.specs.declared.records.Shdr.{Shdr}
use Rattle.elf_types.specs.declared.records.TheConstants.{NULL_SECTION}
use Rattle.elf_types.specs.declared.errors.ElfError.{ElfError}
use Rattle.law_rebuild.specs.elf_object.Object.{Object, section_at}
use Rattle.law_rebuild.specs.elf_object.Due.{is_loaded, home_due}
use Rattle.rebuild_tables.specs.rebuild_image.declared.ranges.ranges.ByteRange.{ByteRange}
use Rattle.rebuild_tables.specs.rebuild_image.Ranges.Ranges.{range_due}
use Rattle.rebuild_tables.specs.rebuild_keep.declared.keepers.Keeper.{Keeper}
use Rattle.rebuild_tables.specs.rebuild_keep.Keepers.{makes_by}
use Rattle.rebuild_plan.specs.declared.contents.Contents.{Contents}
use Rattle.rebuild_plan.specs.Contents.{IsPushed}
use Rattle.rebuild_plan.specs.Ranges.{home_range, base_due_by}
use Rattle.rebuild_plan.specs.Reading.{ranges_due, IsReadAs, AreReadAs, IsFirstRead}

-- ---- One section more

pub pushed_read : (h : Shdr) (size : ℕ) (range : ByteRange) (kind : Kind) (due : ℕ)
    (old new : Contents) → range_due range ≤ due → (q : Result (Unit {0}) ElfError)
    → OnOk q (IsPushed h size range kind old new) → OnOk q (IsReadAs kind due old new)
pushed_read h size range kind due old new less (Ok x) pushed = record {
  kinds_are = pushed.kinds_are;
  within =
      let all = ap ranges_due pushed.ranges in
      let one = sum_by_push range_due old.ranges range in
      omega (arith, all, one, less);
}
pushed_read h size range kind due old new less (Err e) pushed = tt

-- section 0 alone
abbrev nothing : ByteRange
nothing = record { held = true; at = 0; len = 0 }

pub first_read : (start now : Contents) (q : Result (Unit {0}) ElfError) → start.ranges ≡ []
    → start.kinds ≡ [] → OnOk q (IsPushed NULL_SECTION 0 nothing kinds.Empty start now)
    → OnOk q (IsFirstRead now)
first_read start now (Ok x) ranges no_kinds pushed = λ kind due. record {
  kinds_are = pushed.kinds_are ∙ ap (λ (l : List Kind). l ++ kinds.Empty ∷ []) no_kinds;
  within =
      let none : ranges_due now.ranges ≡ 0 =
      ap ranges_due (pushed.ranges ∙ ap (λ (l : List ByteRange). l ++ nothing ∷ []) ranges) in
      omega (arith, none);
}
first_read start now (Err e) ranges no_kinds pushed = tt

-- with a greater bound
pub read_less : (kind : Kind) (a b : ℕ) (x y : Contents) → a ≤ b → IsReadAs kind a x y
    → IsReadAs kind b x y
read_less kind a b x y less is = record {
  kinds_are = is.kinds_are;
  within = let within = is.within in omega (arith, within, less);
}

module _ (kind : ℕ → Kind) (due : ℕ → ℕ) (ms : List ℕ) (s : ℕ) (x y : Contents)
    (are : AreReadAs kind due ms x) (more : IsReadAs (kind s) (due s) x y) where
  pub read_more : AreReadAs kind due (ms ++ s ∷ []) y
  read_more = record {
    kinds_are = more.kinds_are
        ∙ ap (λ (l : List Kind). l ++ kind s ∷ []) are.kinds_are
        ∙ ap (λ (l : List Kind). kinds.Empty ∷ l) (sym (map-append kind ms (s ∷ [])));
    within =
        let before = are.within in
        let one = more.within in
        let all = sum_by_push due ms s in
        omega (arith, before, one, all);
  }

-- ---- How many bytes of the base a range has

pub held_range_due : (range : ByteRange) (n : ℕ) → range.held ≡ true → range_due range ≤ n
held_range_due range n held =
    let none : range_due range ≡ 0 = ap (λ (b : Bool). if b then 0 else range.len) held in
    omega (arith, none)

inside_due : (o : Object) (s : ℕ) → (section_at o s).home.out ≡ false
    → home_due o [] s ≡ (section_at o s).home.len
unfolding home_due is_loaded
inside_due o s inside = ap (λ (b : Bool). if b then 0 else (section_at o s).home.len) inside

pub home_within : (o : Object) (s : ℕ) (range : ByteRange) → (section_at o s).home.out ≡ false
    → range ≡ home_range o s → range_due range ≤ home_due o [] s
home_within o s range inside at =
    let long : range_due range ≡ (section_at o s).home.len =
    ap (λ (r : ByteRange). range_due r) at in
    let home = inside_due o s inside in
    omega (arith, long, home)

pub taken_due : (k : Keeper) (o : Object) (s : ℕ) (range : ByteRange) → makes_by k o s ≡ false
    → (section_at o s).home.out ≡ false → range ≡ home_range o s
    → range_due range ≤ base_due_by k o s
taken_due k o s range taken inside at =
    let home = home_within o s range inside at in
    let due : base_due_by k o s ≡ home_due o [] s =
    ap (λ (b : Bool). if b then 0 else home_due o [] s) taken in
    omega (arith, home, due)
