-- What comes of a plan whose table of names is held, over a source that tells its bytes and over
-- every one.
use Rattle.std.proofs.Common.{◌≡◌, ◌⊎◌, inl, inr, ◌≤◌, ◌+◌, ℕ, Bool, List, Option, Result, Ok, Err, refl, sym, ap, ◌∙◌, arith}
use Rattle.std.specs.Prelude.{IfOk}
use Rattle.elf_types.specs.declared.errors.ElfError.{ElfError}
use Rattle.elf_types.specs.declared.errors.ElfError.TheVariants.{Memory}
use Rattle.elf_outside.specs.declared.sources.Source.{Ghosts}
use Rattle.elf_object.specs.Object.{Object}
use Rattle.elf_object.specs.Valid.{IsObject}
use Rattle.rebuild_edits.specs.elf_descriptor.State.{State}
use Rattle.rebuild_model.specs.Arranged.{Rebuilt}
use Rattle.rebuild_model.specs.Copied.{Changes, CopyFault as StatedFault}
use Rattle.rebuild_edits.specs.rebuild_making.Placing.{made_of}
use Rattle.rebuild_plan.proofs.rebuild_keep.AskLaws.{asks_as, asks_nothing}
use Rattle.rebuild_plan.specs.declared.arranged.Arranged.{Arranged}
use Rattle.rebuild_plan.specs.Reading.{ranges_due}
use Rattle.rebuild_object.specs.Objects.{Bases, bases_of, AreBasesOf, object_over}
use Rattle.rebuild_object.specs.Fitting.{IsArrangementReady}
use Rattle.rebuild_changes.specs.declared.faults.CopyFault.{CopyFault}
use Rattle.rebuild_changes.specs.declared.faults.CopyFault.TheVariants as faults
use Rattle.rebuild_changes.specs.Stated.{outer_result}
use Rattle.rebuild_copy.specs.Changing.{changed_placed, changed_anew, IsUsable, EndsEarly}
use Rattle.rebuild_copy.specs.Rows.{origin, IsContents}
use Rattle.rebuild_copy.specs.Plans.{seen_over, origin_over, ArrangesAs, EndsArranged, IsUnusable, ArrangesUsable, HoldsTable, ArrangesHeld, ArrangesReady}
use Rattle.rebuild_copy.proofs.ListLaws.{listed_over}
use Rattle.rebuild_copy.proofs.MadeLaws.{made_over}
use Rattle.rebuild_copy.proofs.OuterLaws.{unread_rose, outer_given, outer_early}

-- ---- Bases

-- the object's own base suits it
pub own_bases : (o : Object) → IsObject o → AreBasesOf o (bases_of o.base)
own_bases o is = record {
  front_bytes = is.base;
  front_long = refl;
  bytes = λ s. is.base;
  long = λ s. refl;
}

-- ---- An index that is not usable

unusable_early : (o : Object) (removed : List ℕ) (f : CopyFault)
    → IsUnusable {T = Arranged} (Err f) → EndsEarly {T = Arranged} o removed (Err f)
unusable_early o removed (faults.Strip e) is = inr is
unusable_early o removed (faults.NoSection name) is = absurd is
unusable_early o removed (faults.NoBytes name) is = absurd is
unusable_early o removed (faults.Allocated name) is = absurd is
unusable_early o removed (faults.Fixed name) is = absurd is
unusable_early o removed faults.NoTable is = absurd is

-- ---- The table is held, and the changes are made

module _ {S : Type 0} (g : Ghosts S) (c : Changes) (renewed : Bool) (x : Arranged)
    (old mid : State S) (object : IsObject old.o) (ready : IsArrangementReady old.o x)
    (y : Arranged) where
  module _ (holds : HoldsTable {S = S} g x y (Ok tt) old mid) where
    -- an object that has what is held, over some bytes
    held_over : (b : Bases) → AreBasesOf old.o b
        → (q : Object) × IsContents (origin_over old.o b x.tail) q y
    held_over b suit =
        holds.every b (object_over b old.o x) x.tail suit
        (listed_over old.o b x object suit ready)

    module _ (r : Result Arranged CopyFault) (changes : ArrangesUsable c renewed y r) where
      -- what comes of it
      comes_over : (b : Bases) (suit : AreBasesOf old.o b)
          → ArrangesAs (origin_over old.o b x.tail)
          (changed_placed c renewed x.tail (held_over b suit).0) r
          ⊎ ((IsUsable (held_over b suit).0 renewed → ⊥) × IsUnusable r)
      comes_over b suit =
          let some = held_over b suit in
          changes.each (origin_over old.o b x.tail) some.0 some.1

    module _ (z : Arranged) (changes : ArrangesUsable c renewed y (Ok z)) where
      arranged_over : (b : Bases) (suit : AreBasesOf old.o b)
          → ArrangesAs (origin_over old.o b x.tail)
          (changed_placed c renewed x.tail (held_over b suit).0) (Ok z)
      arranged_over b suit = elim (comes_over (Ok z) changes b suit) [
        | inl arranged ↦ arranged
        | inr refused ↦ absurd refused.1
      ]

      tail_stays : z.tail ≡ x.tail
      tail_stays = (arranged_over (bases_of old.o.base) (own_bases old.o object)).2.tail_is

      over_seen : (b : Bases) → AreBasesOf old.o b
          → changed_anew c renewed (seen_over b old.o y) ≡ Ok (seen_over b old.o z)
      over_seen b suit =
          let some = held_over b suit in
          let arranged = arranged_over b suit in
          let tail : y.tail ≡ x.tail = holds.tail_is in
          let by_object : Object → Result Rebuilt StatedFault = λ q. Ok (made_of q x.tail) in
          let by_tail : Option ℕ → Result Rebuilt StatedFault =
          λ t. Ok (made_of (object_over b old.o z) t) in
          ap (λ (t : Option ℕ). changed_placed c renewed t (object_over b old.o y)) tail
          ∙ ap (changed_placed c renewed x.tail)
          (made_over (origin_over old.o b x.tail) some.0 y some.1.listed)
          ∙ arranged.1
          ∙ ap by_object
          (sym (made_over (origin_over old.o b x.tail) arranged.0 z arranged.2))
          ∙ ap by_tail (sym tail_stays)

    changed_from : (r : Result Arranged CopyFault) → ArrangesUsable c renewed y r
        → (removed : List ℕ) → EndsArranged old.o c renewed removed r
    changed_from (Ok z) changes removed = inr (y, λ b suit. over_seen z changes b suit)
    changed_from (Err f) changes removed =
        let b = bases_of old.o.base in
        let suit = own_bases old.o object in
        elim (comes_over (Err f) changes b suit) [
          | inl faulted ↦ inr (made_of (held_over b suit).0 x.tail, faulted)
          | inr refused ↦ inl (unusable_early old.o removed f refused.1)
        ]

    tail_from : (r : Result Arranged CopyFault) → ArrangesUsable c renewed y r
        → IfOk r (λ z. z.tail ≡ x.tail)
    tail_from (Ok z) changes = tail_stays z changes
    tail_from (Err f) changes = tt

    less_from : (r : Result Arranged CopyFault) → ArrangesUsable c renewed y r
        → IfOk r (λ z. holds.due + ranges_due z.ranges ≤ ranges_due x.ranges)
    less_from (Ok z) changes =
        let first = holds.less in let second = changes.less in omega (arith, first, second)
    less_from (Err f) changes = tt

    pub held_arranged : (r : Result Arranged CopyFault) → ArrangesUsable c renewed y r
        → ArrangesHeld g c renewed x r old mid
    held_arranged r changes = record {
      told = λ t p listed usable.
          elim (changes.each (origin old.o x.tail) p (holds.ok t p x.tail (listed tt))) [
            | inl arranged ↦ arranged
            | inr refused ↦ absurd (refused.0 usable)
          ];
      ends = λ removed. changed_from r changes removed;
      small = changes.small;
      tail_is = tail_from r changes;
      due = holds.due;
      few = holds.few;
      some = holds.some;
      less = less_from r changes;
      asks = asks_as g (Ok (tt {0})) (outer_result r) old mid holds.due
          (unread_rose r (g.faults old.source) (g.faults mid.source) changes.unread) holds.asks;
    }

  pub not_held : (e : ElfError) → HoldsTable g x y (Err e) old mid
      → ArrangesHeld g c renewed x (Err (faults.Strip e)) old mid
  not_held e holds = record {
    told = λ t p listed usable. outer_given e holds.err (changed_placed c renewed x.tail p);
    ends = λ removed. inl (inl (outer_early e holds.err old.o removed));
    small = tt;
    tail_is = tt;
    due = holds.due;
    few = holds.few;
    some = holds.some;
    less = tt;
    asks = holds.asks;
  }

-- ---- A plan that may be none

module _ {S : Type 0} (g : Ghosts S) (c : Changes) (renewed : Bool) (x : Arranged)
    (old : State S) where
  pub not_ready : ArrangesReady g c renewed x (Err (faults.Strip Memory)) old old
  not_ready = record {
    told = λ t p listed usable. tt;
    ends = λ removed. inl (inl tt);
    small = tt;
    tail_is = tt;
    due = 0;
    few = omega arith;
    some = omega arith;
    less = tt;
    asks = asks_nothing g (Err Memory) old 0 tt;
  }

  pub ready_arranged : (r : Result Arranged CopyFault) (new : State S)
      → IsArrangementReady old.o x → ArrangesHeld g c renewed x r old new
      → ArrangesReady g c renewed x r old new
  ready_arranged r new ready held = record {
    told = λ t p listed usable. held.told t p (λ u. listed ready) usable;
    ends = held.ends;
    small = held.small;
    tail_is = held.tail_is;
    due = held.due;
    few = held.few;
    some = held.some;
    less = held.less;
    asks = held.asks;
  }
