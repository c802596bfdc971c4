-- Steps of copy, one after another.
use Rattle.std.proofs.Common.{◌≡◌, Bool, length, Option, Some, None, Result, Ok, Err, refl, sym, ap, ◌∙◌, subst, arith}
use Rattle.std.specs.Prelude.{IsTrue, IfSome}
use Rattle.elf_types.specs.Answers.{◌>>=◌}
use Rattle.law_rebuild.specs.elf_object.Object.{Object}
use Rattle.rebuild_making.specs.elf_descriptor.State.{State}
use Rattle.rebuild_changes.specs.rebuild_model.Copied.{CopyFault as StatedFault}
use Rattle.rebuild_changes.specs.declared.faults.CopyFault.{CopyFault}
use Rattle.rebuild_changes.specs.Stated.{stated_copy_fault, IsWithoutDeviceFault}
use Rattle.rebuild_edits.specs.Edits.Steps.{KeepsIndex, Finds, IsAltered, Alters}
use Rattle.rebuild_edits.proofs.edits.FaultLaws.{unread_on}

-- ---- What stays

pub told_on : {S : Type 0} (old mid : State S) → mid.told ≡ old.told → IsTrue old.told
    → IsTrue mid.told
told_on old mid same told = subst (λ (b : Bool). IsTrue b) (sym same) told

pub keeps_same : (a b : Object) → b ≡ a → KeepsIndex a b
keeps_same a b same =
    let count = ap (λ (o : Object). length o.sections) same in
    record { index = ap (λ (o : Object). o.header.shstrndx) same; count = omega (arith, count) }

pub keeps_both : (a b c : Object) → KeepsIndex a b → KeepsIndex b c → KeepsIndex a c
keeps_both a b c first second =
    let few = first.count in
    let more = second.count in
    record { index = second.index ∙ first.index; count = omega (arith, few, more) }

pub keeps_as : (a b c : Object) → c ≡ b → KeepsIndex a b → KeepsIndex a c
keeps_as a b c same keeps = subst (λ (o : Object). KeepsIndex a o) (sym same) keeps

-- a fault of the first of two steps is that of both
pub refused_bind : {A B : Type 0} (answer : Result A StatedFault)
    (next : A → Result B StatedFault) (o : Option StatedFault)
    → IfSome o (λ d. answer ≡ Err d) → IfSome o (λ d. (answer >>= next) ≡ Err d)
refused_bind answer next None is = tt
refused_bind {A} answer next (Some d) is = ap (λ (r : Result A StatedFault). r >>= next) is

pub same_answer_refused : {A : Type 0} (a b : Result A StatedFault) (o : Option StatedFault) → a ≡ b
    → IfSome o (λ d. b ≡ Err d) → IfSome o (λ d. a ≡ Err d)
same_answer_refused a b None same is = tt
same_answer_refused a b (Some d) same is = same ∙ is

-- ---- A step that finds something, and then one that alters the object

pub find_then : {S A T U : Type 0} (see : T → A) (answer : Result A StatedFault)
    (next : Object → A → Result Object StatedFault) (x : T) (q : Result U CopyFault)
    (old mid new : State S) → Finds see answer (Ok x) old mid
    → Alters (next mid.o (see x)) q mid new
    → Alters (answer >>= λ a. next old.o a) q old new
find_then {S} {A} see answer next x q old mid new first second = record {
  told = second.told ∙ first.told;
  keeps = keeps_both old.o mid.o new.o (keeps_same old.o mid.o first.object) second.keeps;
  unread = second.unread;
  altered = λ t.
      subst (λ (r : Result A StatedFault). IsAltered q (r >>= λ a. next old.o a) new.o)
      (sym (first.found t))
      (subst (λ (o : Object). IsAltered q (next o (see x)) new.o) first.object
      (second.altered (told_on old mid first.told t)));
}

pub find_end : {S A T : Type 0} (U : Type 0) (see : T → A) (answer : Result A StatedFault)
    (next : A → Result Object StatedFault) (f : CopyFault) (old new : State S)
    → Finds {T = T} see answer (Err f) old new → Alters {T = U} (answer >>= next) (Err f) old new
find_end {S} {A} {T} U see answer next f old new first = record {
  told = first.told;
  keeps = keeps_same old.o new.o first.object;
  unread = unread_on T U f first.unread;
  altered = λ t. refused_bind answer next (stated_copy_fault f) (first.found t);
}

-- ---- A step that alters the object, and then another

pub alter_then : {S T U : Type 0} (answer : Result Object StatedFault)
    (next : Object → Result Object StatedFault) (x : T) (q : Result U CopyFault)
    (old mid new : State S) → Alters answer (Ok x) old mid → Alters (next mid.o) q mid new
    → Alters (answer >>= next) q old new
alter_then answer next x q old mid new first second = record {
  told = second.told ∙ first.told;
  keeps = keeps_both old.o mid.o new.o first.keeps second.keeps;
  unread = second.unread;
  altered = λ t.
      subst (λ (r : Result Object StatedFault). IsAltered q (r >>= next) new.o)
      (sym (first.altered t)) (second.altered (told_on old mid first.told t));
}

pub alter_end : {S : Type 0} (T U : Type 0) (answer : Result Object StatedFault)
    (next : Object → Result Object StatedFault) (f : CopyFault) (old new : State S)
    → Alters {T = T} answer (Err f) old new → Alters {T = U} (answer >>= next) (Err f) old new
alter_end T U answer next f old new first = record {
  told = first.told;
  keeps = first.keeps;
  unread = unread_on T U f first.unread;
  altered = λ t. refused_bind answer next (stated_copy_fault f) (first.altered t);
}

-- the same under another name
pub alter_as : {S T : Type 0} (a b : Result Object StatedFault) (r : Result T CopyFault)
    (old new : State S) → a ≡ b → Alters a r old new → Alters b r old new
alter_as a b r old new same alters =
    subst (λ (x : Result Object StatedFault). Alters x r old new) same alters

-- where there is nothing to do
pub alter_none : {S : Type 0} (s : State S) → Alters {T = Unit {0}} (Ok s.o) (Ok tt) s s
alter_none s = record {
  told = refl;
  keeps = keeps_same s.o s.o refl;
  unread = tt;
  altered = λ t. refl;
}

-- a fault before anything is done
pub alter_stop : {S : Type 0} (T : Type 0) (f : CopyFault) (answer : Result Object StatedFault)
    (s : State S) → IsWithoutDeviceFault {T = T} (Err f)
    → IfSome (stated_copy_fault f) (λ d. answer ≡ Err d)
    → Alters {T = T} answer (Err f) s s
alter_stop T f answer s unread is = record {
  told = refl;
  keeps = keeps_same s.o s.o refl;
  unread = unread;
  altered = λ t. is;
}
