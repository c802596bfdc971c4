-- Both hash sections, built anew.
use Rattle.std.proofs.Common.{◌≡◌, ℕ, Bool, true, false, Option, Some, None, Result, Ok, Err, refl, sym, ap, ◌∙◌}
use Rattle.std.specs.Prelude.{IfSome, is_none, ◌&&◌}
use Rattle.elf_types.specs.declared.errors.ElfError.{ElfError}
use Rattle.elf_types.specs.Answers.{◌>>=◌}
use Rattle.elf_types.specs.declared.records.Part.TheVariants as part
use Rattle.elf_types.specs.declared.records.TheConstants.{LAYOUT}
use Rattle.elf_types.specs.Answers.{answered}
use Rattle.elf_outside.specs.declared.sources.Source.{Ghosts}
use Rattle.elf_object.specs.Object.{Object}
use Rattle.elf_object.specs.Answers.{part_refusal}
use Rattle.elf_object.specs.Steps.{with_layout, with_flags}
use Rattle.elf_object.specs.Calls.{flag_refusal}
use Rattle.elf_object.specs.Calls as calls
use Rattle.tool_files.specs.elf_descriptor.State.{State}
use Rattle.tool_files.specs.elf_descriptor.Edits.{flagged}
use Rattle.rebuild_model.specs.Rehashed.{dynamic_symbols, gnu_section, sysv_section, laid_out, or_fault, RehashFault, rehashed, rehashed_at}
use Rattle.rebuild_model.specs.Rehashed.RehashFault.{NoDynamicHash, Refused}
use Rattle.rehash_tool.specs.Steps.{both_hashes, TurnsObject}
use Rattle.rehash_tool.proofs.StepLemmas.{keeps_state, keeps_ok}

-- ---- The layout

layout_flag : (o : Object) → with_flags o part.Object true LAYOUT ≡ with_layout o true
unfolding with_flags
layout_flag o = refl

pub layout_set : {S : Type 0} (old new : State S)
    → new ≡ flagged (calls.flag part.Object true LAYOUT) old
    → new ≡ record old { o = with_layout old.o true }
layout_set old new is = is ∙ ap (λ (q : Object). record old { o = q }) (layout_flag old.o)

passes_flag : (o : Object) → flag_refusal o part.Object true LAYOUT ≡ None
unfolding flag_refusal part_refusal
passes_flag o = refl

pub layout_allowed : (o : Object) (n : ℕ) (e : ElfError)
    → ◌≡◌ {A = Result ℕ ElfError} (Err e)
    (answered (flag_refusal o part.Object true LAYOUT) n) → ⊥
layout_allowed o n e came =
    let clash : ◌≡◌ {A = Result ℕ ElfError} (Err e) (Ok n) =
    came ∙ ap (λ (r : Option ElfError). answered r n) (passes_flag o) in
    cc

pub turns_laid_out : {S T : Type 0} (g : Ghosts S) (stated : Result Object ElfError) (x : T)
    (old mid new : State S) → new ≡ record mid { o = laid_out mid.o }
    → TurnsObject {T = T} g stated (Ok x) old mid
    → TurnsObject {T = Unit {0}} g (stated >>= λ q. Ok (laid_out q)) (Ok tt) old new
turns_laid_out {S} g stated x old mid new is turns = record {
  keeps = keeps_state g (Ok tt) old mid new (ap (λ (y : State S). y.told) is)
      (ap (λ (y : State S). y.source) is) (keeps_ok g x tt old mid turns.keeps);
  turned = λ told.
      ap (λ (r : Result Object ElfError). r >>= λ q. Ok (laid_out q)) (turns.turned told)
      ∙ ap (λ (o : Object). Ok o) (sym (ap (λ (y : State S). y.o) is));
}

-- ---- The sections

pub neither : (o : Object) (s : ℕ) (gnu words : Option ℕ) → (is_none gnu && is_none words) ≡ true
    → rehashed_at o s gnu words ≡ Err NoDynamicHash
unfolding rehashed_at
neither o s None None is = refl
neither o s None (Some h) is = cc
neither o s (Some g) h is = cc

pub either : (o : Object) (s : ℕ) (gnu words : Option ℕ) → (is_none gnu && is_none words) ≡ false
    → rehashed_at o s gnu words ≡ or_fault (both_hashes o s gnu words)
unfolding rehashed_at
either o s None None is = cc
either o s None (Some h) is = refl
either o s (Some g) None is = refl
either o s (Some g) (Some h) is = refl

module _ (o : Object) (s : ℕ) (gnu words : Option ℕ)
    (there : (is_none gnu && is_none words) ≡ false) where
  pub both_done : (p : Object) → both_hashes o s gnu words ≡ Ok p
      → rehashed_at o s gnu words ≡ Ok p
  both_done p is =
      either o s gnu words there ∙ ap (λ (r : Result Object ElfError). or_fault r) is

  pub both_refused : (c : Option ElfError) → IfSome c (λ d. both_hashes o s gnu words ≡ Err d)
      → IfSome c (λ d. rehashed_at o s gnu words ≡ Err (Refused d))
  both_refused None is = tt
  both_refused (Some d) is =
      either o s gnu words there ∙ ap (λ (r : Result Object ElfError). or_fault r) is

-- an answer that sections were built anew, and a refusal, do not say that none is there
pub never_done : ◌≡◌ {A = Result Bool ElfError} (Ok true) (Ok false) → ⊥
never_done is = cc

pub never_refused : (e : ElfError) → ◌≡◌ {A = Result Bool ElfError} (Err e) (Ok false) → ⊥
never_refused e is = cc

-- ---- The whole

pub no_table : (o : Object) → None ≡ dynamic_symbols o → rehashed o ≡ Err NoDynamicHash
unfolding rehashed
no_table o none =
    ap (λ (s : Option ℕ). elim s as (λ (x : Option ℕ). Result Object RehashFault) [
      | None ↦ Err NoDynamicHash
      | Some s ↦ rehashed_at o s (gnu_section o s) (sysv_section o s)
    ]) (sym none)

pub one_table : (o : Object) (s : ℕ) (gnu words : Option ℕ) → Some s ≡ dynamic_symbols o
    → gnu ≡ gnu_section o s → words ≡ sysv_section o s
    → rehashed o ≡ rehashed_at o s gnu words
unfolding rehashed
one_table o s gnu words some gnu_is words_is =
    ap (λ (s : Option ℕ). elim s as (λ (x : Option ℕ). Result Object RehashFault) [
      | None ↦ Err NoDynamicHash
      | Some s ↦ rehashed_at o s (gnu_section o s) (sysv_section o s)
    ]) (sym some)
    ∙ ap (λ (x : Option ℕ). rehashed_at o s x (sysv_section o s)) (sym gnu_is)
    ∙ ap (λ (x : Option ℕ). rehashed_at o s gnu x) (sym words_is)
