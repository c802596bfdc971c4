-- Faults that came, and those that are stated.
use Rattle.std.proofs.Common.{◌≡◌, ℕ, List, Option, Some, None, Result, Ok, Err, refl, sym, ap, ◌∙◌, subst}
use Rattle.std.specs.Prelude.{IfSome, IfOk}
use Rattle.elf_types.specs.declared.errors.ElfError.{ElfError}
use Rattle.elf_types.specs.declared.errors.ElfError.TheVariants.{Memory, Read, Write}
use Rattle.elf_types.specs.Answers.{stated_refusal, answered, or_refused, FollowsBy, ◌>>=◌}
use Rattle.rebuild_changes.specs.rebuild_model.Copied.{CopyFault as StatedFault}
use Rattle.rebuild_changes.specs.declared.faults.CopyFault.{CopyFault}
use Rattle.rebuild_changes.specs.declared.faults.CopyFault.TheVariants as faults
use Rattle.rebuild_changes.specs.Stated.{stated_copy_fault, strip_fault, IsFault, IsWithoutDeviceFault}
use Rattle.rebuild_edits.specs.Edits.Steps.{IsFaultIf, IsNumber}

-- ---- A fault that is passed on

pub unread_on : (T U : Type 0) (f : CopyFault) → IsWithoutDeviceFault {T = T} (Err f)
    → IsWithoutDeviceFault {T = U} (Err f)
unread_on T U (faults.Strip Read) unread = unread
unread_on T U (faults.Strip Write) unread = unread
unread_on T U f unread = tt

-- ---- A fault with a name

some_given : {A D : Type 0} (o : Option D) (d : D) (r : Result A D) → o ≡ Some d → r ≡ Err d
    → IfSome o (λ x. r ≡ Err x)
some_given None d r is same = tt
some_given {A} {D} (Some x) d r is same =
    let one : x ≡ d = cc in
    same ∙ ap (λ (y : D). Err y) (sym one)

pub fault_given : {A : Type 0} (fault : StatedFault) (f : CopyFault) → IsFault fault f
    → (r : Result A StatedFault) → r ≡ Err fault → IfSome (stated_copy_fault f) (λ d. r ≡ Err d)
fault_given fault (faults.Strip e) is r same =
    subst (λ (x : ElfError). IfSome (strip_fault (stated_refusal x)) (λ d. r ≡ Err d)) (sym is) tt
fault_given fault f is r same = some_given (stated_copy_fault f) fault r is same

pub fault_unread : (T : Type 0) (fault : StatedFault) (f : CopyFault) → IsFault fault f
    → IsWithoutDeviceFault {T = T} (Err f)
fault_unread T fault (faults.Strip e) is =
    subst (λ (x : ElfError). IsWithoutDeviceFault {T = T} (Err (faults.Strip x))) (sym is) tt
fault_unread T fault f is = tt

-- want of memory
pub memory_fault_unread : (T : Type 0) (e : ElfError) → e ≡ Memory
    → IsWithoutDeviceFault {T = T} (Err (faults.Strip e))
memory_fault_unread T e is =
    subst (λ (x : ElfError). IsWithoutDeviceFault {T = T} (Err (faults.Strip x))) (sym is) tt

pub memory_given : {A : Type 0} (e : ElfError) → e ≡ Memory → (r : Result A StatedFault)
    → IfSome (stated_copy_fault (faults.Strip e)) (λ d. r ≡ Err d)
memory_given e is r =
    subst (λ (x : ElfError). IfSome (stated_copy_fault (faults.Strip x)) (λ d. r ≡ Err d)) (sym is)
    tt

-- ---- A fault that may come

pub fault_none : (fault : Option StatedFault) → IsFaultIf fault None → fault ≡ None
fault_none None is = refl
fault_none (Some d) is = absurd is

-- where none is stated the next step counts
pub no_fault_passes_on : {A B : Type 0} (fault : Option StatedFault) (x : A)
    (next : A → Result B StatedFault) → fault ≡ None → (answered fault x >>= next) ≡ next x
no_fault_passes_on fault x next is =
    ap (λ (r : Option StatedFault). answered r x >>= next) is

-- ---- The number of a section

pub number_given : (number : Option ℕ) (name : List ℕ) (r : Result ℕ CopyFault)
    → IsNumber number name r → (answer : Option ℕ) → number ≡ answer
    → FollowsBy (λ s. s) stated_copy_fault r (or_refused answer (StatedFault.NoSection name))
number_given (Some s) name r is answer same =
    subst (λ (q : Result ℕ CopyFault).
    FollowsBy (λ s. s) stated_copy_fault q (or_refused answer (StatedFault.NoSection name)))
    (sym is)
    (ap (λ (n : Option ℕ). or_refused n (StatedFault.NoSection name)) (sym same))
number_given None name (Ok s) is answer same = absurd is
number_given None name (Err f) is answer same =
    fault_given (StatedFault.NoSection name) f is (or_refused answer (StatedFault.NoSection name))
    (ap (λ (n : Option ℕ). or_refused n (StatedFault.NoSection name)) (sym same))

pub number_unread : (number : Option ℕ) (name : List ℕ) (r : Result ℕ CopyFault)
    → IsNumber number name r → IsWithoutDeviceFault r
number_unread (Some s) name r is =
    subst (λ (q : Result ℕ CopyFault). IsWithoutDeviceFault q) (sym is) tt
number_unread None name (Ok s) is = tt
number_unread None name (Err f) is = fault_unread ℕ (StatedFault.NoSection name) f is

-- what holds of it
pub number_there : (P : ℕ → Type 0) (number : Option ℕ) (name : List ℕ) (r : Result ℕ CopyFault)
    → IsNumber number name r → IfSome number P → IfOk r P
number_there P (Some s) name r is there =
    subst (λ (q : Result ℕ CopyFault). IfOk q P) (sym is) there
number_there P None name (Ok s) is there = absurd is
number_there P None name (Err f) is there = tt
