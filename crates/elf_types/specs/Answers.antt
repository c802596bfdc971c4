-- How a call's answer compares with the stated one, and how a stated answer is made: by the first
-- of several refusals, by a value, by one step after another. The errors of an answer are ElfError
-- or those of a crate.
use Rattle.std.specs.Prelude.{◌≡◌, Bool, true, false, List, [], ◌∷◌, Option, Some, None, IfSome, Result, Ok, Err}
use Rattle.elf_types.specs.declared.errors.ElfError.{ElfError}
use Rattle.elf_types.specs.declared.errors.ElfError.TheVariants.{Memory, Read, Write}

-- ---- Stated answers

-- the refusal, where the test holds
abbrev pub refused_if : {E : Type 0} → Bool → E → Option E
refused_if true e = Some e
refused_if false e = None

-- the first refusal of a list, or none: several tests refuse in their order
abbrev pub first_refusal : {E : Type 0} → List (Option E) → Option E
first_refusal [] = None
first_refusal (None ∷ later) = first_refusal later
first_refusal (Some e ∷ later) = Some e

-- the refusal, or else the value
abbrev pub answered : {A E : Type 0} → Option E → A → Result A E
answered None value = Ok value
answered (Some e) value = Err e

-- the value, or else the refusal
abbrev pub or_refused : {A E : Type 0} → Option A → E → Result A E
or_refused (Some x) e = Ok x
or_refused None e = Err e

-- the refusal of an answer
abbrev pub err_of : {A E : Type 0} → Result A E → Option E
err_of (Ok x) = None
err_of (Err e) = Some e

-- a step that needs what the steps before it gave
infixl 10 ◌>>=◌
abbrev pub ◌>>=◌ : {A B E : Type 0} → Result A E → (A → Result B E) → Result B E
(Ok x) >>= next = next x
(Err e) >>= next = Err e

-- ---- Answers that came

-- the answer, seen by view, is the stated one. An error that no definition states, of which
-- stated_by tells none, is free.
abbrev pub FollowsBy : {X Y E D : Type 0} → (X → Y) → (E → Option D) → Result X E → Result Y D
    → Type 0
FollowsBy view stated_by (Ok x) stated = stated ≡ Ok (view x)
FollowsBy view stated_by (Err e) stated = IfSome (stated_by e) (λ d. stated ≡ Err d)

-- a refusal that a definition states: Memory is free, and the cause of Read is a count
abbrev pub stated_refusal : ElfError → Option ElfError
stated_refusal Memory = None
stated_refusal Read = None
stated_refusal e = Some e

-- the answer is the stated one, but for Memory, which is free, and Read, whose cause is a count
abbrev pub Follows : {T : Type 0} → Result T ElfError → Result T ElfError → Type 0
Follows result stated = FollowsBy (λ x. x) stated_refusal result stated

-- a refusal that a definition states: none of those whose cause lies outside, Memory, Read, Write
abbrev pub IsRefusal : ElfError → Type 0
IsRefusal Memory = ⊥
IsRefusal Read = ⊥
IsRefusal Write = ⊥
IsRefusal e = Unit {0}
