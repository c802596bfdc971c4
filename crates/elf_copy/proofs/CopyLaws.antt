-- The object of the plan with the changes answers as is stated.
use Rattle.std.proofs.Common.{◌≡◌, ◌⊎◌, inl, inr, ◌+◌, ℕ, Bool, true, List, Result, Ok, Err, sym, ap, ◌∙◌, subst}
use Rattle.std.specs.Prelude.{IsTrue, IfSome}
use Rattle.elf_types.specs.declared.errors.ElfError.{ElfError}
use Rattle.elf_outside.specs.declared.sources.Source.{Ghosts}
use Rattle.elf_object.specs.Object.{Object}
use Rattle.rebuild_object.specs.elf_descriptor.State.{State}
use Rattle.rebuild_model.specs.Arranged.{Rebuilt}
use Rattle.rebuild_model.specs.Copied.{Changes, CopyFault as StatedFault, copied}
use Rattle.rebuild_model.specs.Rebuilt.{renews_names}
use Rattle.rebuild_object.specs.rebuild_keep.declared.rebuilding.Rebuilt.{Rebuilt as Made}
use Rattle.rebuild_object.specs.rebuild_keep.Answers.{EarlyBy, early_refusal}
use Rattle.rebuild_object.specs.rebuild_keep.Makes.{AsksFor}
use Rattle.rebuild_object.proofs.rebuild_keep.AskLaws.{asks_more, asks_stop, asks_twice, asks_as}
use Rattle.rebuild_object.specs.Objects.{IsUnstated, AreBasesOf, IsObjectRead, object_over, object_from_arranged, object_due}
use Rattle.rebuild_plan.specs.declared.arranged.Arranged.{Arranged}
use Rattle.rebuild_changes.specs.declared.faults.CopyFault.{CopyFault}
use Rattle.rebuild_changes.specs.declared.faults.CopyFault.TheVariants as faults
use Rattle.rebuild_changes.specs.Stated.{stated_copy_fault, outer_result}
use Rattle.rebuild_edits.specs.rebuild_making.Placing.{made_of}
use Rattle.rebuild_copy.specs.Changing.{EndsEarly}
use Rattle.rebuild_copy.specs.Plans.{seen_over, EndsArranged, ArrangesCopied, copy_due}
use Rattle.elf_copy.specs.Copies.{CopyAnswers, EndsChanged, Copies}

module _ {S : Type 0} (g : Ghosts S) (c : Changes) (old mid new : State S) where
  -- ---- The object was made

  module _ (x : Arranged) (arranged : ArrangesCopied g c (Ok x) old mid) (made : Made)
      (tail : made.tail ≡ x.tail)
      (told_is : IsTrue mid.told → made.elf.o ≡ object_from_arranged mid.o x)
      (read : IsObjectRead mid.o x made.elf.o) (told : made.elf.told ≡ true)
      (asks : AsksFor {T = Made} g (Ok made) mid new (object_due x)) where
    same : mid.o ≡ old.o
    same = arranged.asks.object

    made_told : IsTrue old.told → CopyAnswers (Ok made) (copied c old.o)
    made_told t =
        let known = arranged.answer t in
        let at : IsTrue mid.told =
        subst (λ (b : Bool). IsTrue b) (sym arranged.asks.told) t in
        let answer : Object → Result Rebuilt StatedFault = λ q. Ok (made_of q x.tail) in
        known.1
        ∙ ap answer (sym (told_is at ∙ ap (λ (o : Object). object_from_arranged o x) same
        ∙ known.3))
        ∙ ap (λ t. Ok (made_of made.elf.o t)) (sym tail)

    ends_made : (removed : List ℕ)
        → EndsArranged old.o c (renews_names old.o removed) removed (Ok x)
        → EndsEarly old.o removed (Ok made)
        ⊎ EndsChanged c (renews_names old.o removed) (Ok made)
    ends_made removed (inl never) = absurd never
    ends_made removed (inr changed) =
        let b = read.bases in
        let is : made.elf.o ≡ object_over b old.o x =
        read.is ∙ ap (λ (o : Object). object_over b o x) same in
        let answer : Object → Result Rebuilt StatedFault = λ q. Ok (made_of q x.tail) in
        inr (record {
          anew = seen_over b old.o changed.0;
          answer = changed.1 b (subst (λ (o : Object). AreBasesOf o b) same read.suit)
              ∙ ap answer (sym is)
              ∙ ap (λ t. Ok (made_of made.elf.o t)) (sym tail);
        })

    pub copy_made : Copies g c (Ok made) old new
    copy_made = record {
      answer = made_told;
      removed = arranged.removed;
      removable = arranged.removable;
      exact = arranged.exact;
      ends = ends_made arranged.removed arranged.ends;
      made = told;
      asks =
          asks_more g (Ok (tt {0})) old new (arranged.due + object_due x)
          (copy_due old.o arranged.removed) arranged.less
          (asks_twice g (Ok (tt {0})) (Ok (tt {0})) old mid new arranged.due (object_due x)
          arranged.asks
          (asks_as g (Ok made) (Ok (tt {0})) mid new (object_due x) tt asks));
    }

  -- ---- It could not be made

  unstated_given : {A : Type 0} (e : ElfError) (r : Result A StatedFault) → IsUnstated e
      → IfSome (stated_copy_fault (faults.Strip e)) (λ d. r ≡ Err d)
  unstated_given e r (inl is) =
      subst (λ (b : ElfError). IfSome (stated_copy_fault (faults.Strip b)) (λ d. r ≡ Err d))
      (sym is) tt
  unstated_given e r (inr is) =
      subst (λ (b : ElfError). IfSome (stated_copy_fault (faults.Strip b)) (λ d. r ≡ Err d))
      (sym is) tt

  unstated_early : (e : ElfError) (o : Object) (removed : List ℕ) → IsUnstated e
      → EarlyBy (early_refusal o removed) e
  unstated_early e o removed (inl is) =
      subst (EarlyBy (early_refusal o removed)) (sym is) tt
  unstated_early e o removed (inr is) =
      subst (EarlyBy (early_refusal o removed)) (sym is) tt

  pub copy_unmade : (x : Arranged) → ArrangesCopied g c (Ok x) old mid → (e : ElfError)
      → IsUnstated e → AsksFor {T = Made} g (Err e) mid new (object_due x)
      → Copies g c (Err (faults.Strip e)) old new
  copy_unmade x arranged e is asks = record {
    answer = λ t. unstated_given e (copied c old.o) is;
    removed = arranged.removed;
    removable = arranged.removable;
    exact = arranged.exact;
    ends = inl (inl (unstated_early e old.o arranged.removed is));
    made = tt;
    asks =
        asks_more g (Err e) old new (arranged.due + object_due x)
        (copy_due old.o arranged.removed) arranged.less
        (asks_twice g (Ok (tt {0})) (Err e) old mid new arranged.due (object_due x)
        arranged.asks
        (asks_stop g {T = Made} {U = Unit {0}} e mid new (object_due x) asks));
  }

-- ---- It was not arranged

module _ {S : Type 0} (g : Ghosts S) (c : Changes) (old new : State S) where
  ends_fault : (f : CopyFault) (removed : List ℕ)
      → EndsArranged old.o c (renews_names old.o removed) removed (Err f)
      → EndsEarly {T = Made} old.o removed (Err f)
      ⊎ EndsChanged c (renews_names old.o removed) (Err f)
  ends_fault f removed (inl early) = inl (early_as f early)
    where
      early_as : (d : CopyFault) → EndsEarly {T = Arranged} old.o removed (Err d)
          → EndsEarly {T = Made} old.o removed (Err d)
      early_as (faults.Strip e) is = is
      early_as d is = absurd is
  ends_fault f removed (inr changed) =
      inr (record { anew = changed.0; answer = changed.1 })

  pub copy_fault : (f : CopyFault) → ArrangesCopied g c (Err f) old new
      → Copies g c (Err f) old new
  copy_fault f arranged = record {
    answer = arranged.answer;
    removed = arranged.removed;
    removable = arranged.removable;
    exact = arranged.exact;
    ends = ends_fault f arranged.removed arranged.ends;
    made = tt;
    asks =
        asks_more g (outer_result {T = Made} (Err f)) old new arranged.due
        (copy_due old.o arranged.removed) arranged.some arranged.asks;
  }
