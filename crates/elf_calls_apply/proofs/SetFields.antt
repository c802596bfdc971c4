-- The lines of `set` that name a field of a record, by the kind of the record.
use Rattle.std.proofs.Common.{◌≡◌, ℕ, Bool, true, false, Result, refl, sym, subst}
use Rattle.elf_types.specs.declared.records.DataId.{DataId}
use Rattle.elf_types.specs.declared.errors.ElfError.{ElfError}
use Rattle.elf_outside.specs.declared.sources.Source.{Ghosts}
use Rattle.symbol_lookup.specs.elf_object.Calls as calls
use Rattle.elf_update_plan.specs.elf_descriptor.State.{State}
use Rattle.elf_calls_script.specs.declared.calls.ItemSet.{ItemSet}
use Rattle.elf_calls_script.specs.declared.calls.ItemSet.TheVariants.{SymName, SymValue, SymSize, SymInfo, SymOther, SymShndx, RelOffset, RelSym, RelType, RelaOffset, RelaSym, RelaType, RelaAddend, DynTag, DynVal}
use Rattle.elf_calls_apply.specs.Stated.{item_set_call, sym_set, rel_set, rela_set, dyn_set}
use Rattle.elf_calls_apply.specs.Applies.{Sets, keeps_fields}

-- what a line with a field of a record is
abbrev IsBy : ItemSet → (ℕ → ℕ → ℕ → calls.Call (Unit {0})) → Type 0
IsBy set by = ((s p i : ℕ) → item_set_call set s p i ≡ by s p i) × (keeps_fields set ≡ true)

sets_by : {S : Type 0} (g : Ghosts S) (d : DataId) (i : ℕ) (r : Result (Unit {0}) ElfError) (old new : State S) (set : ItemSet) (by : ℕ → ℕ → ℕ → calls.Call (Unit {0}))
    → IsBy set by → Sets g (by d.section d.piece i) true d i r old new → Sets g (item_set_call set d.section d.piece i) (keeps_fields set) d i r old new
sets_by g d i r old new set by is sets =
    subst (λ (keeps : Bool). Sets g (item_set_call set d.section d.piece i) keeps d i r old new) (sym is.1)
    (subst (λ (c : calls.Call (Unit {0})). Sets g c true d i r old new) (sym (is.0 d.section d.piece i)) sets)

abbrev pub of_sym : ItemSet → Bool
of_sym (SymName v) = true
of_sym (SymValue v) = true
of_sym (SymSize v) = true
of_sym (SymInfo v) = true
of_sym (SymOther v) = true
of_sym (SymShndx v) = true
of_sym _ = false

sym_is : (set : ItemSet) → of_sym set ≡ true → IsBy set (sym_set set)
unfolding item_set_call
sym_is (SymName v) is = (λ s p i. refl, refl)
sym_is (SymValue v) is = (λ s p i. refl, refl)
sym_is (SymSize v) is = (λ s p i. refl, refl)
sym_is (SymInfo v) is = (λ s p i. refl, refl)
sym_is (SymOther v) is = (λ s p i. refl, refl)
sym_is (SymShndx v) is = (λ s p i. refl, refl)
sym_is set is = cc

abbrev pub of_rel : ItemSet → Bool
of_rel (RelOffset v) = true
of_rel (RelSym v) = true
of_rel (RelType v) = true
of_rel _ = false

rel_is : (set : ItemSet) → of_rel set ≡ true → IsBy set (rel_set set)
unfolding item_set_call
rel_is (RelOffset v) is = (λ s p i. refl, refl)
rel_is (RelSym v) is = (λ s p i. refl, refl)
rel_is (RelType v) is = (λ s p i. refl, refl)
rel_is set is = cc

abbrev pub of_rela : ItemSet → Bool
of_rela (RelaOffset v) = true
of_rela (RelaSym v) = true
of_rela (RelaType v) = true
of_rela (RelaAddend v) = true
of_rela _ = false

rela_is : (set : ItemSet) → of_rela set ≡ true → IsBy set (rela_set set)
unfolding item_set_call
rela_is (RelaOffset v) is = (λ s p i. refl, refl)
rela_is (RelaSym v) is = (λ s p i. refl, refl)
rela_is (RelaType v) is = (λ s p i. refl, refl)
rela_is (RelaAddend v) is = (λ s p i. refl, refl)
rela_is set is = cc

abbrev pub of_dyn : ItemSet → Bool
of_dyn (DynTag v) = true
of_dyn (DynVal v) = true
of_dyn _ = false

dyn_is : (set : ItemSet) → of_dyn set ≡ true → IsBy set (dyn_set set)
unfolding item_set_call
dyn_is (DynTag v) is = (λ s p i. refl, refl)
dyn_is (DynVal v) is = (λ s p i. refl, refl)
dyn_is set is = cc

module _ {S : Type 0} (g : Ghosts S) (d : DataId) (i : ℕ) (r : Result (Unit {0}) ElfError) (old new : State S) (set : ItemSet) where
  pub sym_sets : of_sym set ≡ true → Sets g (sym_set set d.section d.piece i) true d i r old new → Sets g (item_set_call set d.section d.piece i) (keeps_fields set) d i r old new
  sym_sets is sets = sets_by g d i r old new set (sym_set set) (sym_is set is) sets

  pub rel_sets : of_rel set ≡ true → Sets g (rel_set set d.section d.piece i) true d i r old new → Sets g (item_set_call set d.section d.piece i) (keeps_fields set) d i r old new
  rel_sets is sets = sets_by g d i r old new set (rel_set set) (rel_is set is) sets

  pub rela_sets : of_rela set ≡ true → Sets g (rela_set set d.section d.piece i) true d i r old new → Sets g (item_set_call set d.section d.piece i) (keeps_fields set) d i r old new
  rela_sets is sets = sets_by g d i r old new set (rela_set set) (rela_is set is) sets

  pub dyn_sets : of_dyn set ≡ true → Sets g (dyn_set set d.section d.piece i) true d i r old new → Sets g (item_set_call set d.section d.piece i) (keeps_fields set) d i r old new
  dyn_sets is sets = sets_by g d i r old new set (dyn_set set) (dyn_is set is) sets
