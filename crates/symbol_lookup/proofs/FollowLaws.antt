-- Answers of steps one after another: each follows what is stated of it, on an object that stays.
use Rattle.std.proofs.Common.{◌≡◌, Result, Ok, Err, refl, sym, ap, ◌∙◌, subst}
use Rattle.std.specs.Prelude.{IsTrue}
use Rattle.elf_types.specs.declared.errors.ElfError.{ElfError}
use Rattle.elf_types.specs.declared.errors.ElfError.TheVariants.{Memory, Read}
use Rattle.elf_types.specs.Answers.{Follows, ◌>>=◌}
use Rattle.hash_model.specs.elf_object.Words.{result_map}
use Rattle.hash_model.specs.elf_object.Object.{Object}
use Rattle.gelf_view.specs.elf_descriptor.State.{State}

-- a step that came, and then another
pub then_follows : {A B : Type 0} (x : A) (first : Result A ElfError) (q : Result B ElfError) (next : A → Result B ElfError) → Follows (Ok x) first → Follows q (next x) → Follows q (first >>= next)
then_follows {A} {B} x first q next came later = subst (λ (r : Result A ElfError). Follows q (r >>= next)) (sym came) later

-- one that did not
pub then_ends : {A B : Type 0} (e : ElfError) (first : Result A ElfError) (next : A → Result B ElfError) → Follows {T = A} (Err e) first → Follows {T = B} (Err e) (first >>= next)
then_ends Memory first next came = tt
then_ends Read first next came = tt
then_ends e first next came = ap (λ r. r >>= next) came

-- in another form
pub mapped_follows : {A B : Type 0} (f : A → B) (x : A) (first : Result A ElfError) → Follows (Ok x) first → Follows (Ok (f x)) (result_map f first)
mapped_follows f x first came = ap (result_map f) came

pub mapped_ends : {A B : Type 0} (f : A → B) (e : ElfError) (first : Result A ElfError) → Follows {T = A} (Err e) first → Follows {T = B} (Err e) (result_map f first)
mapped_ends f Memory first came = tt
mapped_ends f Read first came = tt
mapped_ends f e first came = ap (result_map f) came

-- where a value is stated, only Memory and Read end a step
pub free_ends : {A B : Type 0} (e : ElfError) (x : A) (stated : Result B ElfError) → Follows {T = A} (Err e) (Ok x) → Follows {T = B} (Err e) stated
free_ends Memory x stated came = tt
free_ends Read x stated came = tt
free_ends e x stated came = cc

-- a step on the object as another step left it
pub later_follows : {S B : Type 0} (old mid : State S) (q : Result B ElfError) (stated : Object → Result B ElfError) → mid.o ≡ old.o → mid.told ≡ old.told
    → (IsTrue mid.told → Follows q (stated mid.o)) → IsTrue old.told → Follows q (stated old.o)
later_follows old mid q stated same same_told later = λ told. subst (λ (o : Object). Follows q (stated o)) same (later (same_told ∙ told))

-- a pure answer is as it is stated
pub same_follows : {A : Type 0} (q stated : Result A ElfError) → q ≡ stated → Follows q stated
same_follows {A} q stated is = subst (λ (r : Result A ElfError). Follows q r) is (itself q)
  where
    itself : (q : Result A ElfError) → Follows q q
    itself (Ok x) = refl
    itself (Err Memory) = tt
    itself (Err Read) = tt
    itself (Err e) = refl
