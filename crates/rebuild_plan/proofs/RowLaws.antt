-- What is made of rows that lie in the base is what a section has in the new image.
use Rattle.std.proofs.Common.{◌≡◌, ◌⊎◌, ◌-◌, ◌≤◌, ℕ, Bool, true, List, [], ◌++◌, length, Option, None, Result, if◌then◌else◌, inl, inr, sym, ap, ◌∙◌, subst, arith}
use Rattle.std.specs.Prelude.{IsTrue, IfOk, IfErr}
use Rattle.std.proofs.lemmas.Result.{IfOk-weaker, IfErr-weaker}
use Rattle.elf_types.specs.declared.records.Class.{Class}
use Rattle.elf_types.specs.declared.records.Order.{Order}
use Rattle.elf_types.specs.declared.errors.ElfError.{ElfError}
use Rattle.elf_types.specs.declared.errors.ElfError.TheVariants.{Memory, Read}
use Rattle.elf_outside.specs.declared.sources.Source.{Ghosts}
use Rattle.elf_xlate.specs.Translation.{encoded}
use Rattle.law_rebuild.specs.elf_object.Due.{homes_due}
use Rattle.rebuild_tables.specs.elf_descriptor.State.{State}
use Rattle.rebuild_tables.specs.rebuild_making.Refused.{UnreadBy}
use Rattle.rebuild_tables.proofs.rebuild_making.MakingLaws.{passes_on}
use Rattle.rebuild_tables.specs.rebuild_image.declared.ranges.ranges.ByteRange.{ByteRange}
use Rattle.rebuild_tables.specs.rebuild_keep.declared.keepers.Keeper.{Keeper}
use Rattle.rebuild_tables.specs.rebuild_keep.Keepers.{makes_by, refusal_by, reads_by}
use Rattle.rebuild_tables.specs.rebuild_keep.Makes.{AsksFor}
use Rattle.rebuild_tables.proofs.rebuild_keep.AskLaws.{asks_more}
use Rattle.rebuild_tables.specs.rebuild_image.Fronts.{HoldsAppended}
use Rattle.rebuild_tables.proofs.rebuild_image.FrontLaws.{appended_bytes_held, behind, held_bytes_stay}
use Rattle.rebuild_tables.specs.declared.rows.FollowedRows.{FollowedRows}
use Rattle.rebuild_tables.specs.Rows.{rows_made, tables_due, HoldsMade}
use Rattle.rebuild_tables.specs.Finding.{AreRowsOf}
use Rattle.rebuild_tables.specs.rebuild_image.Ranges.Ranges.{range_due}
use Rattle.rebuild_plan.specs.Ranges.{bytes_by, IsRangeOf, making_due, base_due_by, FindsRange}
use Rattle.rebuild_plan.proofs.ReadingLaws.{held_range_due}

-- ---- What was held

module _ (told : Bool) (bytes old new : List ℕ) (at : ℕ) (holds : HoldsMade told bytes old new)
    (first : at ≡ length old) where
  pub begins_before : at ≤ length new
  begins_before = behind holds.added old new at holds.all first

  -- a range of it
  pub made_behind : (base : List ℕ) (range : ByteRange) → range.held ≡ true → range.at ≡ at
      → range.len ≡ length new - at → IsRangeOf told base bytes old new range
  made_behind base range held place len = record {
    added = holds.added;
    all = holds.all;
    long = λ t. (more t).len;
    is = λ t later. held_bytes_stay bytes old new later base range (more t);
  }
    where
      more : IsTrue told → HoldsAppended bytes old new range
      more t =
          let all : new ≡ old ++ bytes =
          holds.all ∙ ap (λ (l : List ℕ). old ++ l) (holds.is t) in
          appended_bytes_held bytes old new at range all first held place len

-- ---- What a section has

-- want of memory and a failed read are free
free_unread : (stated : Option ElfError) (e : ElfError) → (e ≡ Memory) ⊎ (e ≡ Read)
    → UnreadBy stated e
free_unread stated e (inl is) = subst (λ (d : ElfError). UnreadBy stated d) (sym is) tt
free_unread stated e (inr is) = subst (λ (d : ElfError). UnreadBy stated d) (sym is) tt

module _ {S : Type 0} (g : Ghosts S) (k : Keeper) (s : ℕ) (x : FollowedRows) (old new : State S)
    (makes : makes_by k old.o s ≡ true) (are : AreRowsOf k old.told old.o s x) where
  rows_bytes : IsTrue old.told
      → encoded x.class x.order (rows_made k.numbering old.o.base x) ≡ bytes_by k old.o s
  unfolding bytes_by
  rows_bytes t =
      ap (λ (c : Class). encoded c x.order (rows_made k.numbering old.o.base x)) are.form.class_is
      ∙ ap (λ (r : Order). encoded old.o.header.class r (rows_made k.numbering old.o.base x))
      are.form.order_is
      ∙ ap (encoded old.o.header.class old.o.header.order) (sym (are.made t))

  rows_ask : tables_due x ≤ making_due k old.o s
  rows_ask =
      let due = are.due in
      let same : homes_due old.o [] (reads_by k old.o s) ≡ making_due k old.o s =
      sym (ap (λ (b : Bool). if b then homes_due old.o [] (reads_by k old.o s) else 0) makes) in
      omega (arith, due, same)

  pub rows_found : (q : Result ByteRange ElfError) (held next : List ℕ)
      → IfOk q (IsRangeOf old.told old.o.base
      (encoded x.class x.order (rows_made k.numbering old.o.base x)) held next)
      → IfOk q (λ range. range.held ≡ true) → AsksFor g q old new (tables_due x)
      → IfErr q (λ e. (e ≡ Memory) ⊎ (e ≡ Read)) → FindsRange g k s q old new held next
  rows_found q held next ranges are_held asks only = record {
    ok = IfOk-weaker q (IsRangeOf old.told old.o.base
        (encoded x.class x.order (rows_made k.numbering old.o.base x)) held next)
        (IsRangeOf old.told old.o.base (bytes_by k old.o s) held next)
        (λ range is. record {
          added = is.added;
          all = is.all;
          long = λ t. is.long t ∙ ap (λ (l : List ℕ). length l) (rows_bytes t);
          is = λ t later. is.is t later ∙ rows_bytes t;
        }) ranges;
    within = IfOk-weaker q (λ (range : ByteRange). range.held ≡ true)
        (λ range. range_due range ≤ base_due_by k old.o s)
        (λ range is. held_range_due range (base_due_by k old.o s) is) are_held;
    passed = passes_on q (refusal_by k old.o s ≡ None) are.passed;
    err = IfErr-weaker q (λ e. (e ≡ Memory) ⊎ (e ≡ Read)) (UnreadBy (refusal_by k old.o s))
        (free_unread (refusal_by k old.o s)) only;
    asks = asks_more g q old new (tables_due x) (making_due k old.o s) rows_ask asks;
  }
