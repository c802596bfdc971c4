-- What was tested of a plan.
use Rattle.std.proofs.Common.{◌≡◌, ℕ, ◌+◌, ◌<◌, ◌≤◌, ◌==◌, Bool, true, false, length, get_or, Option, None, refl, sym, ap, ◌∙◌, subst, arith}
use Rattle.std.specs.Prelude.{slice_index}
use Rattle.std.specs.Option.{option_map}
use Rattle.std.proofs.lemmas.Bool.{eqb-true, eq-eqb}
use Rattle.std.proofs.lemmas.List.Elements.{All-from_get_or}
use Rattle.elf_types.specs.declared.records.Phdr.{Phdr}
use Rattle.elf_types.specs.declared.records.Part.TheVariants as part
use Rattle.elf_types.specs.declared.errors.ElfError.TheVariants.{Unfit}
use Rattle.elf_xlate.specs.Headers.{phdr_fits}
use Rattle.elf_xlate.proofs.Pieces.{all_pass}
use Rattle.elf_object.specs.Object.{Object, no_phdr}
use Rattle.elf_object.specs.Refusal.{unfit_segment}
use Rattle.rebuild_plan.specs.Contents.{kept_size}
use Rattle.rebuild_plan.specs.declared.arranged.Arranged.{Arranged}
use Rattle.rebuild_object.specs.Objects.{arranged_header, range_in, arranged_kind}
use Rattle.rebuild_object.specs.Fitting.{IsSectionReady, AreSectionsReady, AreSizesReady}

-- what holds below a number and at it holds below the next one
more_below : (P : ℕ → Type 0) (s : ℕ) → ((n : ℕ) → n < s → P n) → P s
    → (n : ℕ) → n < s + 1 → P n
more_below P s before at n below = by (n == s) refl
  where
    by : (b : Bool) → (n == s) ≡ b → P n
    by true is = subst P (sym (eqb-true n s is)) at
    by false is =
        let apart : n ≡ s → ⊥ = λ same.
        let clash : true ≡ false = sym (eq-eqb n s same) ∙ is in cc in
        before n (omega (arith, below, apart))

-- ---- Sections

pub more_ready : (o : Object) (x : Arranged) (s : ℕ) → AreSectionsReady o x s
    → IsSectionReady o x.held (arranged_header x s) (range_in x s) (arranged_kind x s)
    → AreSectionsReady o x (s + 1)
more_ready o x s before at =
    more_below (λ (n : ℕ). IsSectionReady o x.held (arranged_header x n) (range_in x n)
    (arranged_kind x n)) s before at

pub more_sized : (x : Arranged) (s : ℕ) → AreSizesReady x s
    → slice_index x.listed.sizes s ≡ kept_size (arranged_header x s) (range_in x s).len
    → AreSizesReady x (s + 1)
more_sized x s before at =
    more_below (λ (n : ℕ). slice_index x.listed.sizes n
    ≡ kept_size (arranged_header x n) (range_in x n).len) s before at

-- ---- Program headers

-- those before a number fit
abbrev pub FitBelow : Object → ℕ → Type 0
FitBelow o s =
    (n : ℕ) → n < s → phdr_fits o.header.class (get_or o.phdrs n no_phdr) ≡ true

pub none_fit : (o : Object) → FitBelow o 0
none_fit o n below = absurd (omega (arith, below))

pub more_fit : (o : Object) (s : ℕ) → FitBelow o s
    → phdr_fits o.header.class (get_or o.phdrs s no_phdr) ≡ true → FitBelow o (s + 1)
more_fit o s before at =
    more_below (λ (n : ℕ). phdr_fits o.header.class (get_or o.phdrs n no_phdr) ≡ true) s before at

pub all_fit : (o : Object) (s : ℕ) → length o.phdrs ≤ s → FitBelow o s
    → unfit_segment o ≡ None
unfolding unfit_segment
all_fit o s past before =
    ap (λ (r : Option ℕ). option_map (Unfit part.Segments) r)
    (all_pass (λ (p : Phdr). phdr_fits o.header.class p) o.phdrs
    (All-from_get_or (λ (p : Phdr). phdr_fits o.header.class p ≡ true) o.phdrs no_phdr
    (λ n there. before n (omega (arith, there, past)))))
