-- Steps of rehash, one after another.
use Rattle.std.proofs.Common.{◌≡◌, ◌≤◌, ℕ, Bool, List, Option, Some, None, Result, Ok, Err, refl, sym, ap, ◌∙◌, subst, inl, inr, arith}
use Rattle.std.specs.Prelude.{IsTrue, IfSome, IsOk}
use Rattle.elf_types.specs.declared.errors.ElfError.{ElfError}
use Rattle.elf_types.specs.declared.errors.ElfError.TheVariants.{Memory, Read}
use Rattle.elf_types.specs.Answers.{Follows, stated_refusal, answered, ◌>>=◌}
use Rattle.elf_outside.specs.declared.sources.Source.{Ghosts}
use Rattle.elf_outside.specs.Asks.{ReadRose}
use Rattle.elf_outside.proofs.AskLemmas.{read_rose_before, read_rose_on}
use Rattle.elf_object.specs.Words.{Wants, Answers, AnswersRead, Refusals}
use Rattle.elf_object.specs.Object.{Object}
use Rattle.tool_files.specs.elf_descriptor.State.{State}
use Rattle.tool_files.specs.elf_descriptor.Reads.{Reads}
use Rattle.rehash_tool.specs.Steps.{KeepsSource, Gives, TurnsObject, IsTurned}

-- ---- Answers

-- a refusal that is stated, as one that follows
pub refusal_given : {A : Type 0} (stated : Result A ElfError) (d : ElfError) → stated ≡ Err d
    → IfSome (stated_refusal d) (λ x. stated ≡ Err x)
refusal_given stated Memory is = tt
refusal_given stated Read is = tt
refusal_given stated d is = is

pub answers_given : {A : Type 0} (told : Bool) (w : Wants) (r stated : Result A ElfError)
    → Answers told w r stated → IsTrue told → Follows r stated
answers_given told w (Ok x) stated came t = came.1 t
answers_given told w (Err Memory) stated came t = tt
answers_given told w (Err Read) stated came t = tt
answers_given told w (Err e) stated came t = refusal_given stated e came

pub answers_read_given : {A : Type 0} (told : Bool) (w : Wants) (refusals : Refusals)
    (r stated : Result A ElfError) → AnswersRead told w refusals r stated → IsTrue told
    → Follows r stated
answers_read_given told w refusals (Ok x) stated came t = came.1 t
answers_read_given told w refusals (Err Memory) stated came t = tt
answers_read_given told w refusals (Err Read) stated came t = tt
answers_read_given told w refusals (Err e) stated (inl (early, is)) t = refusal_given stated e is
answers_read_given told w refusals (Err e) stated (inr (early, met, is)) t =
    refusal_given stated e (is t)

-- a value comes where nothing refuses it
pub ok_passed : {A : Type 0} (refusal : Option ElfError) (v : A) → IsOk (answered refusal v)
    → refusal ≡ None
ok_passed None v is = refl
ok_passed (Some e) v is = cc

-- ---- What steps leave

module _ {S : Type 0} (g : Ghosts S) where
  pub keeps_none : {T : Type 0} (r : Result T ElfError) (state : State S)
      → ReadRose r (g.faults state.source) (g.faults state.source) → KeepsSource g r state state
  keeps_none r state read = record {
    told = refl;
    leaves = record { same_len = refl; same_bytes = refl; same_rest = refl };
    later = omega arith;
    read = read;
  }

  pub keeps_both : {T U : Type 0} (r : Result T ElfError) (q : Result U ElfError)
      (old mid new : State S) → KeepsSource g r old mid → KeepsSource g q mid new → KeepsSource g q old new
  keeps_both r q old mid new first second = record {
    told = second.told ∙ first.told;
    leaves = record {
      same_len = second.leaves.same_len ∙ first.leaves.same_len;
      same_bytes = second.leaves.same_bytes ∙ first.leaves.same_bytes;
      same_rest = second.leaves.same_rest ∙ first.leaves.same_rest;
    };
    later = omega (arith, first.later, second.later);
    read = read_rose_before q (g.faults old.source) (g.faults mid.source) (g.faults new.source)
        first.later second.read;
  }

  -- a step that reads, by another answer
  pub keeps_reads : {T U : Type 0} (r : Result T ElfError) (q : Result U ElfError)
      (old new : State S) (a b : List ℕ) (n : ℕ)
      → ReadRose q (g.faults old.source) (g.faults new.source) → Reads g r old new a b n
      → KeepsSource g q old new
  keeps_reads r q old new a b n read reads = record {
    told = reads.told;
    leaves = reads.source.leaves;
    later = reads.source.later;
    read = read;
  }

  pub keeps_end : {T U : Type 0} (e : ElfError) (old new : State S)
      → KeepsSource {T = T} g (Err e) old new → KeepsSource {T = U} g (Err e) old new
  keeps_end {T} {U} e old new keeps = record {
    told = keeps.told;
    leaves = keeps.leaves;
    later = keeps.later;
    read = read_rose_on T U e _ _ keeps.read;
  }

  pub keeps_ok : {T U : Type 0} (x : T) (y : U) (old new : State S)
      → KeepsSource {T = T} g (Ok x) old new → KeepsSource {T = U} g (Ok y) old new
  keeps_ok x y old new keeps = record {
    told = keeps.told;
    leaves = keeps.leaves;
    later = keeps.later;
    read = tt;
  }

  -- a later state of the same source
  pub keeps_state : {T : Type 0} (r : Result T ElfError) (old new later : State S)
      → later.told ≡ new.told → later.source ≡ new.source → KeepsSource g r old new → KeepsSource g r old later
  keeps_state r old new later told source keeps = record {
    told = told ∙ keeps.told;
    leaves = record {
      same_len = ap g.size source ∙ keeps.leaves.same_len;
      same_bytes = ap g.holds source ∙ keeps.leaves.same_bytes;
      same_rest = ap g.rest source ∙ keeps.leaves.same_rest;
    };
    later = subst (λ (s : S). g.faults old.source ≤ g.faults s) (sym source) keeps.later;
    read = subst (λ (s : S). ReadRose r (g.faults old.source) (g.faults s)) (sym source) keeps.read;
  }

  told_then : {T : Type 0} (r : Result T ElfError) (old mid : State S) → KeepsSource g r old mid
      → IsTrue old.told → IsTrue mid.told
  told_then r old mid keeps told = subst (λ (b : Bool). IsTrue b) (sym keeps.told) told

  -- ---- What steps do

  refused_then : {A : Type 0} (stated : Result A ElfError) (next : A → Result Object ElfError)
      (o : Option ElfError) → IfSome o (λ d. stated ≡ Err d)
      → IfSome o (λ d. (stated >>= next) ≡ Err d)
  refused_then stated next None is = tt
  refused_then {A} stated next (Some d) is =
      ap (λ (r : Result A ElfError). r >>= next) is

  -- a step that finds something, and then one that does something with it
  module _ {A T : Type 0} (see : T → A) (stated : Result A ElfError)
      (next : A → Result Object ElfError) where
    pub turns_then : {U : Type 0} (x : T) (q : Result U ElfError) (old mid new : State S)
        → Gives g see stated (Ok x) old mid → TurnsObject g (next (see x)) q mid new
        → TurnsObject g (stated >>= next) q old new
    turns_then x q old mid new first second = record {
      keeps = keeps_both (Ok x) q old mid new first.keeps second.keeps;
      turned = λ told. subst (λ (r : Result A ElfError). IsTurned q (r >>= next) new.o)
          (sym (first.given told)) (second.turned (told_then (Ok x) old mid first.keeps told));
    }

    pub turns_end : {U : Type 0} (e : ElfError) (old new : State S)
        → Gives {T = T} g see stated (Err e) old new → TurnsObject {T = U} g (stated >>= next) (Err e)
        old new
    turns_end e old new first = record {
      keeps = keeps_end e old new first.keeps;
      turned = λ told. refused_then stated next (stated_refusal e) (first.given told);
    }

  -- a step that leaves an object, and then another
  module _ (stated : Result Object ElfError) (next : Object → Result Object ElfError) where
    pub object_then : {T U : Type 0} (x : T) (q : Result U ElfError) (old mid new : State S)
        → TurnsObject g stated (Ok x) old mid → TurnsObject g (next mid.o) q mid new
        → TurnsObject g (stated >>= next) q old new
    object_then x q old mid new first second = record {
      keeps = keeps_both (Ok x) q old mid new first.keeps second.keeps;
      turned = λ told. subst (λ (r : Result Object ElfError). IsTurned q (r >>= next) new.o)
          (sym (first.turned told)) (second.turned (told_then (Ok x) old mid first.keeps told));
    }

    pub object_end : {T U : Type 0} (e : ElfError) (old new : State S)
        → TurnsObject {T = T} g stated (Err e) old new → TurnsObject {T = U} g (stated >>= next) (Err e) old new
    object_end e old new first = record {
      keeps = keeps_end e old new first.keeps;
      turned = λ told. refused_then stated next (stated_refusal e) (first.turned told);
    }

  -- where there is nothing to do
  pub turns_none : (state : State S) → TurnsObject {T = Unit {0}} g (Ok state.o) (Ok tt) state state
  turns_none state = record { keeps = keeps_none (Ok (tt {0})) state tt; turned = λ told. refl }

  -- the same under another name
  pub turns_as : {T : Type 0} (a b : Result Object ElfError) (r : Result T ElfError)
      (old new : State S) → a ≡ b → TurnsObject g a r old new → TurnsObject g b r old new
  turns_as a b r old new same turns =
      subst (λ (x : Result Object ElfError). TurnsObject g x r old new) same turns

  -- the object was found to be another name of the one that it is
  pub turns_of : {T : Type 0} (stated : Object → Result Object ElfError) (o : Object)
      (r : Result T ElfError) (old new : State S) → old.o ≡ o → TurnsObject g (stated old.o) r old new
      → TurnsObject g (stated o) r old new
  turns_of stated o r old new same turns = turns_as (stated old.o) (stated o) r old new
      (ap stated same) turns
