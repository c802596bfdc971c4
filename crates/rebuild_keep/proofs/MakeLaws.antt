-- Steps that make something of an object that they leave, one after another.
use Rattle.std.proofs.Common.{◌≡◌, ℕ, Bool, List, [], ◌++◌, Option, Some, None, Result, Ok, Err, refl, sym, ap, subst}
use Rattle.std.specs.Prelude.{IsTrue, IfOk, IfErr, OnOk}
use Rattle.elf_types.specs.declared.records.Class.{Class}
use Rattle.elf_types.specs.declared.errors.ElfError.{ElfError}
use Rattle.elf_types.specs.declared.errors.ElfError.TheVariants.{Memory, Read, Write}
use Rattle.elf_types.specs.Answers.{IsRefusal}
use Rattle.rebuild_making.specs.elf_outside.Asks.{ReadRose}
use Rattle.rebuild_making.specs.elf_outside.declared.sources.Source.{Ghosts}
use Rattle.rebuild_making.specs.elf_object.Object.{Object}
use Rattle.rebuild_making.specs.elf_object.Due.{homes_due}
use Rattle.elf_update_plan.specs.elf_descriptor.State.{State}
use Rattle.elf_update_plan.specs.elf_descriptor.Reads.{Looks}
use Rattle.elf_update_plan.proofs.elf_descriptor.ReadsLaws.{reads_then}
use Rattle.rebuild_making.specs.Making.{reading_homes}
use Rattle.rebuild_making.specs.Refused.{RefusedBy, UnreadBy}
use Rattle.rebuild_making.proofs.LookLaws.{LooksAt, looks_at, looks_as, at_none, at_error, at_wider, at_both}
use Rattle.rebuild_making.proofs.MakingLaws.{memory_unread, passes_on, read_then_memory}
use Rattle.rebuild_keep.specs.Makes.{MakesStated, FitsAny}
use Rattle.rebuild_keep.specs.Homes.{list_none_if_refused, NoneIfRefused}

-- ---- Refusals

-- where nothing is stated it is want of memory or a failed read, which any statement allows
pub unread_any : (stated : Option ElfError) (e : ElfError) → UnreadBy None e → UnreadBy stated e
unread_any stated Memory by = tt
unread_any stated Read by = tt
unread_any stated Write by = by
unread_any stated e by = let clash : ◌≡◌ {A = Option ElfError} None (Some e) = by in cc

-- a refusal that a definition states
pub unread_stated : (stated : Option ElfError) (e : ElfError) → IsRefusal e → stated ≡ Some e
    → UnreadBy stated e
unread_stated stated Memory is same = tt
unread_stated stated Read is same = tt
unread_stated stated Write is same = absurd is
unread_stated stated e is same = same

-- an error that is neither a failed read nor a failed write
abbrev pub IsQuiet : ElfError → Type 0
IsQuiet Read = ⊥
IsQuiet Write = ⊥
IsQuiet e = Unit {0}

pub refused_quiet : (stated : Option ElfError) (e : ElfError) → RefusedBy stated e → IsQuiet e
refused_quiet stated Read by = by
refused_quiet stated Write by = by
refused_quiet stated e by = tt

pub stated_quiet : (e : ElfError) → IsRefusal e → IsQuiet e
stated_quiet Read is = is
stated_quiet Write is = is
stated_quiet e is = tt

pub refused_unread : (stated : Option ElfError) (e : ElfError) → RefusedBy stated e
    → UnreadBy stated e
refused_unread stated Memory by = tt
refused_unread stated Read by = tt
refused_unread stated Write by = by
refused_unread stated e by = by

pub quiet_rose : (T : Type 0) (e : ElfError) (a b : ℕ) → IsQuiet e → ReadRose {T = T} (Err e) a b
quiet_rose T Read a b is = absurd is
quiet_rose T Write a b is = absurd is
quiet_rose T e a b is = tt

-- what is looked at for a value, which is then refused or not
pub looks_quiet : {S T U : Type 0} (g : Ghosts S) (x : T) (q : Result U ElfError)
    (old new : State S) (reads : Object → List ℕ) → IfErr q IsQuiet
    → Looks g (reading_homes reads) (Ok x) old new → Looks g (reading_homes reads) q old new
looks_quiet {S} {T} {U} g x q old new reads quiet is = record {
  object = is.object;
  reads = reads_then g (Ok x) q old new (reads old.o) (reads old.o)
      (homes_due old.o old.loaded (reads old.o)) (λ settled. tt) (rose q quiet) is.reads;
}
  where
    rose : (r : Result U ElfError) → IfErr r IsQuiet
        → ReadRose r (g.faults old.source) (g.faults new.source)
    rose (Ok y) silent = tt
    rose (Err e) silent = quiet_rose U e (g.faults old.source) (g.faults new.source) silent

-- ---- One step

module _ {S : Type 0} (g : Ghosts S) (old new : State S) where
  -- its value is worked on further, for which memory may be wanted
  pub makes_then : {T U : Type 0} (stated : Object → T) (other : Object → U)
      (Fits : Class → T → Type 0) (FitsToo : Class → U → Type 0)
      (refusal : Object → Option ElfError) (reads : Object → List ℕ) (x : T)
      (q : Result U ElfError) → MakesStated g stated Fits refusal reads (Ok x) old new
      → (x ≡ stated old.o → IfOk q (λ y. y ≡ other old.o))
      → (Fits old.o.header.class x → IfOk q (FitsToo old.o.header.class))
      → IfErr q (λ e. e ≡ Memory)
      → MakesStated g other FitsToo refusal reads q old new
  makes_then stated other Fits FitsToo refusal reads x q is told fits only = record {
    told = λ t. told (is.told t);
    fits = fits is.fits;
    passed = passes_on q (refusal old.o ≡ None) is.passed;
    err = memory_unread q (refusal old.o) only;
    looks = read_then_memory g x q old new reads only is.looks;
  }

  -- the same, stated otherwise of the object that it had
  pub makes_as : {T : Type 0} (stated other : Object → T) (Fits : Class → T → Type 0)
      (refusal later : Object → Option ElfError) (reads more : Object → List ℕ)
      (r : Result T ElfError) → stated old.o ≡ other old.o → refusal old.o ≡ later old.o
      → reads old.o ≡ more old.o
      → MakesStated g stated Fits refusal reads r old new → MakesStated g other Fits later more r old new
  makes_as {T} stated other Fits refusal later reads more r same same_refusal same_reads is =
      record {
        told = λ t. subst (λ (v : T). IfOk r (λ x. x ≡ v)) same (is.told t);
        fits = is.fits;
        passed = subst (λ (x : Option ElfError). OnOk r (x ≡ None)) same_refusal is.passed;
        err = subst (λ (x : Option ElfError). IfErr r (UnreadBy x)) same_refusal is.err;
        looks = looks_as g r old new more (reads old.o) same_reads
            (looks_at g r old new reads is.looks);
      }

  settled_looks : {A B : Type 0} (e : ElfError) (y : B) (reads : Object → List ℕ) → IsRefusal e
      → Looks {T = A} g (reading_homes reads) (Err e) old new
      → Looks {T = B} g (reading_homes reads) (Ok y) old new
  settled_looks {A} {B} e y reads settled is =
      let r : Result A ElfError = Err e in
      let q : Result B ElfError = Ok y in
      let at = looks_at g r old new reads is in
      looks_as g q old new reads (reads old.o) refl (record {
        object = at.object;
        reads = reads_then g r q old new (reads old.o) (reads old.o)
            (homes_due old.o old.loaded (reads old.o)) (λ same. settled) tt at.reads;
      })

  none_settled : {A : Type 0} (stated : Object → List A) (Fits : Class → List A → Type 0)
      (refusal : Object → Option ElfError) (reads : Object → List ℕ) (e : ElfError)
      (q : Result (List A) ElfError) → IsRefusal e → refusal old.o ≡ Some e → q ≡ Ok []
      → MakesStated {T = List A} g stated Fits refusal reads (Err e) old new
      → MakesStated g (λ o. list_none_if_refused (refusal o) (stated o)) FitsAny (λ o. None) reads q old new
  none_settled {A} stated Fits refusal reads e q settled refused none is =
      subst (λ (r : Result (List A) ElfError).
      MakesStated g (λ o. list_none_if_refused (refusal o) (stated o)) FitsAny (λ o. None) reads r old new)
      (sym none) (record {
        told = λ t. sym (ap (λ (x : Option ElfError). list_none_if_refused x (stated old.o)) refused);
        fits = tt;
        passed = refl;
        err = tt;
        looks = settled_looks {A = List A} e [] reads settled is.looks;
      })

  none_stopped : {A : Type 0} (stated : Object → List A) (Fits : Class → List A → Type 0)
      (refusal : Object → Option ElfError) (reads : Object → List ℕ) (e : ElfError)
      (q : Result (List A) ElfError) → UnreadBy None e → q ≡ Err e
      → MakesStated {T = List A} g stated Fits refusal reads (Err e) old new
      → MakesStated g (λ o. list_none_if_refused (refusal o) (stated o)) FitsAny (λ o. None) reads q old new
  none_stopped {A} stated Fits refusal reads e q by stops is =
      subst (λ (r : Result (List A) ElfError).
      MakesStated g (λ o. list_none_if_refused (refusal o) (stated o)) FitsAny (λ o. None) reads r old new)
      (sym stops) (record {
        told = λ t. tt;
        fits = tt;
        passed = tt;
        err = by;
        looks = is.looks;
      })

  pub makes_none : {A : Type 0} (stated : Object → List A) (Fits : Class → List A → Type 0)
      (refusal : Object → Option ElfError) (reads : Object → List ℕ) (e : ElfError)
      (q : Result (List A) ElfError) → NoneIfRefused e q
      → MakesStated {T = List A} g stated Fits refusal reads (Err e) old new
      → MakesStated g (λ o. list_none_if_refused (refusal o) (stated o)) FitsAny (λ o. None) reads q old new
  makes_none stated Fits refusal reads Memory q came is =
      none_stopped stated Fits refusal reads Memory q tt came is
  makes_none stated Fits refusal reads Read q came is =
      none_stopped stated Fits refusal reads Read q tt came is
  makes_none stated Fits refusal reads Write q came is = absurd is.err
  makes_none stated Fits refusal reads e q came is =
      none_settled stated Fits refusal reads e q tt is.err came is

-- nothing is read
pub makes_nothing : {S T : Type 0} (g : Ghosts S) (s : State S) (stated : Object → T)
    (reads : Object → List ℕ) (x : T) → x ≡ stated s.o
    → MakesStated g stated FitsAny (λ o. None) reads (Ok x) s s
makes_nothing g s stated reads x is = record {
  told = λ t. is;
  fits = tt;
  passed = refl;
  err = tt;
  looks = looks_as g (Ok x) s s reads (reads s.o) refl
      (at_wider g (Ok x) s s [] (reads s.o) (at_none g x s));
}

-- ---- Two steps

module _ {S : Type 0} (g : Ghosts S) (old mid new : State S) {T U : Type 0}
    (stated : Object → T) (Fits : Class → T → Type 0) (refusal : Object → Option ElfError)
    (reads : Object → List ℕ) (other both : Object → U) (FitsToo : Class → U → Type 0)
    (later all : Object → Option ElfError) (more : Object → List ℕ) where
  pub makes_both : (x : T) (q : Result U ElfError)
      → (x ≡ stated old.o → other old.o ≡ both old.o)
      → (refusal old.o ≡ None → later old.o ≡ all old.o)
      → MakesStated g stated Fits refusal reads (Ok x) old mid
      → MakesStated g other FitsToo later more q mid new
      → MakesStated g both FitsToo all (λ o. reads o ++ more o) q old new
  makes_both x q same same_refusal first second =
      let object = first.looks.object in
      let told_is = first.looks.reads.told in
      let joined = same_refusal first.passed in
      record {
        told = λ t.
            subst (λ (v : U). IfOk q (λ y. y ≡ v)) (same (first.told t))
            (subst (λ (o : Object). IfOk q (λ y. y ≡ other o)) object
            (second.told (subst (λ (b : Bool). IsTrue b) (sym told_is) t)));
        fits = subst (λ (o : Object). IfOk q (FitsToo o.header.class)) object second.fits;
        passed = subst (λ (r : Option ElfError). OnOk q (r ≡ None)) joined
            (subst (λ (o : Object). OnOk q (later o ≡ None)) object second.passed);
        err = subst (λ (r : Option ElfError). IfErr q (UnreadBy r)) joined
            (subst (λ (o : Object). IfErr q (UnreadBy (later o))) object second.err);
        looks = looks_as g q old new (λ (o : Object). reads o ++ more o)
            (reads old.o ++ more old.o) refl
            (at_both g x q old mid new (reads old.o) (more old.o)
            (looks_at g (Ok x) old mid reads first.looks)
            (subst (λ (o : Object). LooksAt g q mid new (more o)) object
            (looks_at g q mid new more second.looks)));
      }

  -- the first is refused
  pub makes_early : (e : ElfError) → (UnreadBy (refusal old.o) e → UnreadBy (all old.o) e)
      → MakesStated {T = T} g stated Fits refusal reads (Err e) old mid
      → MakesStated {T = U} g both FitsToo all (λ o. reads o ++ more o) (Err e) old mid
  makes_early e as_all is =
      let r : Result T ElfError = Err e in
      let q : Result U ElfError = Err e in
      record {
        told = λ t. tt;
        fits = tt;
        passed = tt;
        err = as_all is.err;
        looks = looks_as g q old mid (λ (o : Object). reads o ++ more o)
            (reads old.o ++ more old.o) refl
            (at_wider g q old mid (reads old.o) (more old.o)
            (at_error g {T = T} {U = U} e old mid (reads old.o)
            (looks_at g r old mid reads is.looks)));
      }
