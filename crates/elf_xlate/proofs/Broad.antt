-- Each item fits class 64.
use Rattle.std.proofs.Common.{◌≡◌, Bool, true, List, refl}
use Rattle.std.specs.Prelude.{None}
use Rattle.elf_types.specs.declared.records.Class.TheVariants.{C64}
use Rattle.elf_xlate.specs.declared.content.Items.{Items}
use Rattle.elf_xlate.specs.declared.content.Items.TheVariants.{Empty, Bytes, Half, Word, Addr, Sym, Rel, Rela, Dyn}
use Rattle.elf_xlate.specs.Fields.{fits}
use Rattle.elf_xlate.specs.Items.{sym_fits, rel_fits, rela_fits, dyn_fits}
use Rattle.elf_xlate.specs.Translation.{first_not, first_unfit}
use Rattle.elf_xlate.proofs.Pieces.{all_pass}

-- where all pass, none is the first that does not
first_not_none : {X : Type 0} (passes : X → Bool) (l : List X) → ((x : X) → passes x ≡ true) → first_not passes l ≡ None
first_not_none passes l h = all_pass passes l (λ k d low. h _)

pub none_unfit : (items : Items) → first_unfit C64 items ≡ None
unfolding first_unfit sym_fits rel_fits rela_fits dyn_fits
none_unfit Empty = refl
none_unfit (Bytes l) = refl
none_unfit (Half l) = refl
none_unfit (Word l) = refl
none_unfit (Addr l) = first_not_none (fits C64) l (λ n. refl)
none_unfit (Sym l) = first_not_none (sym_fits C64) l (λ s. refl)
none_unfit (Rel l) = first_not_none (rel_fits C64) l (λ r. refl)
none_unfit (Rela l) = first_not_none (rela_fits C64) l (λ r. refl)
none_unfit (Dyn l) = first_not_none (dyn_fits C64) l (λ d. refl)
