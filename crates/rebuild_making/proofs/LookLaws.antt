-- What steps in a row look at, that leave an object.
use Rattle.std.proofs.Common.{◌≡◌, ℕ, ◌+◌, Bool, List, [], ◌++◌, Result, Ok, Err, refl, sym, ◌∙◌, subst, arith}
use Rattle.std.specs.Prelude.{IfErr}
use Rattle.std.proofs.lemmas.List.Sums.{sum_by-append}
use Rattle.elf_types.specs.declared.errors.ElfError.{ElfError}
use Rattle.elf_types.specs.declared.errors.ElfError.TheVariants.{Memory}
use Rattle.rebuild_model.specs.elf_outside.declared.sources.Source.{Ghosts}
use Rattle.rebuild_model.proofs.elf_outside.AskLemmas.{read_rose_on}
use Rattle.rebuild_model.specs.elf_object.Object.{Object}
use Rattle.rebuild_model.specs.elf_object.Due.{home_due, homes_due}
use Rattle.elf_update_plan.specs.elf_descriptor.State.{State}
use Rattle.elf_update_plan.specs.elf_descriptor.Reads.{Reads, Looks}
use Rattle.elf_update_plan.proofs.elf_descriptor.ReadsLaws.{reads_then, reads_nothing, reads_both, reads_within, reads_wider, dues_stay}
use Rattle.rebuild_making.specs.Making.{reading_homes}

-- a step left the object, and looked at the homes of these sections
pub record LooksAt {S T : Type 0} (g : Ghosts S) (r : Result T ElfError) (old new : State S)
    (sections : List ℕ) : Type 0 where
  pub object : new.o ≡ old.o
  pub reads : Reads g r old new sections sections (homes_due old.o old.loaded sections)

dues_append : (o : Object) (loaded : List Bool) (a b : List ℕ)
    → homes_due o loaded (a ++ b) ≡ homes_due o loaded a + homes_due o loaded b
unfolding homes_due
dues_append o loaded a b = sum_by-append (home_due o loaded) a b

module _ {S : Type 0} (g : Ghosts S) where
  pub looks_at : {T : Type 0} (r : Result T ElfError) (old new : State S) (reads : Object → List ℕ)
      → Looks g (reading_homes reads) r old new → LooksAt g r old new (reads old.o)
  looks_at r old new reads q = record { object = q.object; reads = q.reads }

  pub looks_as : {T : Type 0} (r : Result T ElfError) (old new : State S) (reads : Object → List ℕ)
      (l : List ℕ) → l ≡ reads old.o → LooksAt g r old new l
      → Looks g (reading_homes reads) r old new
  looks_as r old new reads l same q = record {
    object = q.object;
    reads = subst (λ (m : List ℕ). Reads g r old new m m (homes_due old.o old.loaded m)) same
        q.reads;
  }

  pub at_none : {T : Type 0} (x : T) (s : State S) → LooksAt g (Ok x) s s []
  at_none x s = record {
    object = refl;
    reads = reads_nothing g (Ok x) s [] [] (homes_due s.o s.loaded []) tt;
  }

  -- an answer behind a value: it is no fault
  pub at_value : {T U : Type 0} (x : T) (q : Result U ElfError) (old new : State S) (l : List ℕ)
      → IfErr q (λ e. e ≡ Memory) → LooksAt g (Ok x) old new l → LooksAt g q old new l
  at_value x (Ok y) old new l only is = record {
    object = is.object;
    reads = reads_then g (Ok x) (Ok y) old new l l (homes_due old.o old.loaded l) (λ r. tt) tt
        is.reads;
  }
  at_value {T} {U} x (Err e) old new l only is =
      subst (λ (d : ElfError). LooksAt {T = U} g (Err d) old new l) (sym only) (record {
        object = is.object;
        reads = reads_then g (Ok x) (Err Memory) old new l l (homes_due old.o old.loaded l)
            (λ r. tt) tt is.reads;
      })

  -- an error is passed on
  pub at_error : {T U : Type 0} (e : ElfError) (old new : State S) (l : List ℕ)
      → LooksAt {T = T} g (Err e) old new l → LooksAt {T = U} g (Err e) old new l
  at_error {T} {U} e old new l is =
      let r : Result T ElfError = Err e in
      let q : Result U ElfError = Err e in record {
        object = is.object;
        reads = reads_then g r q old new l l (homes_due old.o old.loaded l) (λ settled. settled)
            (read_rose_on T U e (g.faults old.source) (g.faults new.source) is.reads.source.read)
            is.reads;
      }

  -- more may be read
  pub at_wider : {T : Type 0} (r : Result T ElfError) (old new : State S) (a b : List ℕ)
      → LooksAt g r old new a → LooksAt g r old new (a ++ b)
  at_wider r old new a b is = record {
    object = is.object;
    reads = reads_within g r old new (a ++ b) (a ++ b)
        (homes_due old.o old.loaded a + homes_due old.o old.loaded b)
        (homes_due old.o old.loaded (a ++ b))
        (omega (arith, dues_append old.o old.loaded a b))
        (reads_wider g r old new a b a b (homes_due old.o old.loaded a)
        (homes_due old.o old.loaded b) is.reads);
  }

  -- one step after another
  pub at_both : {T U : Type 0} (x : T) (q : Result U ElfError) (old mid new : State S)
      (a b : List ℕ) → LooksAt g (Ok x) old mid a → LooksAt g q mid new b
      → LooksAt g q old new (a ++ b)
  at_both x q old mid new a b first second =
      let same = first.object in
      let later : Reads g q mid new b b (homes_due old.o mid.loaded b) =
      subst (λ (o : Object). Reads g q mid new b b (homes_due o mid.loaded b)) same
      second.reads in
      record {
        object = second.object ∙ same;
        reads = reads_within g q old new (a ++ b) (a ++ b)
            (homes_due old.o old.loaded a + homes_due old.o mid.loaded b)
            (homes_due old.o old.loaded (a ++ b))
            (omega (
              arith,
              dues_append old.o old.loaded a b,
              dues_stay old.o old.loaded mid.loaded b first.reads.stays,
            ))
            (reads_both g (Ok x) q old mid new a b a b (homes_due old.o old.loaded a)
            (homes_due old.o mid.loaded b) tt same first.reads later);
      }
