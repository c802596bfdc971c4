-- Refusals on one of two halves.
use Rattle.std.proofs.Common.{◌≡◌, List, [], ◌∷◌, ◌++◌, Option, Some, None, Result, Err, refl, sym, ap, subst}
use Rattle.std.specs.Prelude.{IfSome}
use Rattle.std.specs.Option.{option_map}
use Rattle.elf_types.specs.declared.errors.ElfError.{ElfError}
use Rattle.elf_types.specs.declared.errors.ElfError.TheVariants.{Memory, Read, Write, TooLarge}
use Rattle.elf_types.specs.Answers.{first_refusal}
use Rattle.rebuild_keep.specs.rebuild_model.Split.{UnstripFault}
use Rattle.rebuild_keep.specs.rebuild_model.Split.{UnstripFault as stated}
use Rattle.rebuild_keep.specs.rebuild_making.Refused.{UnreadBy}
use Rattle.rebuild_keep.proofs.RebuildLaws.{AreSmall}
use Rattle.rebuild_join.specs.Joined.Answers.{UnstripAnswers, FaultBy, EarlyFault}

-- ---- Of one half

pub elf_fault : (r : Option ElfError) (e : ElfError) → UnreadBy r e
    → FaultBy (option_map stated.Elf r) (stated.Elf e)
elf_fault r Memory by = tt
elf_fault r Read by = tt
elf_fault r Write by = by
elf_fault r e by = ap (option_map stated.Elf) by

pub debug_fault : (r : Option ElfError) (e : ElfError) → UnreadBy r e
    → FaultBy (option_map stated.Debug r) (stated.Debug e)
debug_fault r Memory by = tt
debug_fault r Read by = tt
debug_fault r Write by = by
debug_fault r e by = ap (option_map stated.Debug) by

pub fault_as : (r q : Option UnstripFault) (f : UnstripFault) → r ≡ q → FaultBy r f → FaultBy q f
fault_as r q f same by = subst (λ (x : Option UnstripFault). FaultBy x f) same by

-- a refusal that is the first of others
pub fault_on : (r q : Option UnstripFault) (f : UnstripFault) → (r ≡ Some f → q ≡ Some f)
    → FaultBy r f → FaultBy q f
fault_on r q (stated.Elf Memory) on by = tt
fault_on r q (stated.Elf Read) on by = tt
fault_on r q (stated.Elf Write) on by = by
fault_on r q (stated.Debug Memory) on by = tt
fault_on r q (stated.Debug Read) on by = tt
fault_on r q (stated.Debug Write) on by = by
fault_on r q f on by = on by

-- want of memory is free
pub fault_memory : (r : Option UnstripFault) (e : ElfError) → e ≡ Memory → FaultBy r (stated.Elf e)
fault_memory r e is = subst (λ (x : ElfError). FaultBy r (stated.Elf x)) (sym is) tt

-- ---- One of several

pub met_later : {E : Type 0} (before later : List (Option E)) (e : E)
    → first_refusal before ≡ None → first_refusal (before ++ Some e ∷ later) ≡ Some e
met_later [] later e none = refl
met_later (None ∷ before) later e none = met_later before later e none
met_later {E} (Some d ∷ before) later e none =
    let clash : ◌≡◌ {A = Option E} (Some d) None = none in cc

pub passed_later : {E : Type 0} (before : List (Option E)) (r : Option E)
    → first_refusal before ≡ None → r ≡ None → first_refusal (before ++ r ∷ []) ≡ None
passed_later {E} [] r none is = ap (λ (x : Option E). first_refusal (x ∷ [])) is
passed_later (None ∷ before) r none is = passed_later before r none is
passed_later {E} (Some d ∷ before) r none is =
    let clash : ◌≡◌ {A = Option E} (Some d) None = none in cc

-- ---- No early refusal is TooLarge

abbrev pub IsSmallFault : UnstripFault → Type 0
IsSmallFault (stated.Elf TooLarge) = ⊥
IsSmallFault f = Unit {0}

abbrev pub AreSmallFaults : Option UnstripFault → Type 0
AreSmallFaults r = IfSome r IsSmallFault

pub small_on_elf : (r : Option ElfError) → AreSmall r → AreSmallFaults (option_map stated.Elf r)
small_on_elf None small = tt
small_on_elf (Some TooLarge) small = small
small_on_elf (Some e) small = tt

pub small_on_debug : (r : Option ElfError) → AreSmallFaults (option_map stated.Debug r)
small_on_debug None = tt
small_on_debug (Some e) = tt

pub small_first : (r : Option UnstripFault) (rest : List (Option UnstripFault)) → AreSmallFaults r
    → AreSmallFaults (first_refusal rest) → AreSmallFaults (first_refusal (r ∷ rest))
small_first None rest one others = others
small_first (Some f) rest one others = one

pub early_fault : (r : Option UnstripFault) (f : UnstripFault) → AreSmallFaults r → FaultBy r f
    → EarlyFault r f
early_fault r (stated.Elf TooLarge) small by =
    absurd (subst (λ (x : Option UnstripFault). IfSome x IsSmallFault) by small)
early_fault r f small by = by

-- ---- Answers

-- a refusal that is stated is answered
pub fault_answers : {A : Type 0} (r : Option UnstripFault) (f : UnstripFault)
    (came : Result A UnstripFault) → (r ≡ Some f → came ≡ Err f) → FaultBy r f
    → UnstripAnswers (Err f) came
fault_answers r (stated.Elf Memory) came on by = tt
fault_answers r (stated.Elf Read) came on by = tt
fault_answers r (stated.Elf Write) came on by = by
fault_answers r (stated.Debug Memory) came on by = tt
fault_answers r (stated.Debug Read) came on by = tt
fault_answers r (stated.Debug Write) came on by = by
fault_answers r f came on by = on by
