-- A refusal of a call that reads is one of the same cause, whatever the call would have answered.
use Rattle.std.proofs.Common.{◌≡◌, ℕ, List, Result, Ok, Err, subst}
use Rattle.elf_types.specs.declared.errors.ElfError.{ElfError}
use Rattle.elf_types.specs.declared.errors.ElfError.TheVariants.{Read, Write}
use Rattle.elf_outside.specs.Asks.{ReadRose}

of_text : (B : Type 0) (d : ElfError) → ReadRose {T = B} (Err d) 0 0
    → ReadRose {T = List ℕ} (Err d) 0 0
of_text B Read rose = rose
of_text B Write rose = rose
of_text B d rose = tt

pub text_refused : {B : Type 0} (r : Result B ElfError) (e : ElfError) → r ≡ Err e
    → ReadRose r 0 0 → ReadRose {T = List ℕ} (Err e) 0 0
text_refused (Ok x) e is rose = cc
text_refused {B} (Err d) e is rose =
    let same : d ≡ e = cc in
    subst (λ (x : ElfError). ReadRose {T = List ℕ} (Err x) 0 0) same (of_text B d rose)
