-- The entries of a dynamic section, one after another.
use Rattle.std.proofs.Common.{◌≡◌, ◌||◌, ◌<◌, ◌≤◌, ℕ, zero, suc, Bool, true, false, List, [], ◌∷◌, length, Ok, Err, refl, sym, ap, ◌∙◌, arith}
use Rattle.std.specs.Prelude.{slice_get}
use Rattle.std.specs.List.{list_any}
use Rattle.elf_types.specs.declared.records.Dyn.{Dyn}
use Rattle.elf_types.specs.declared.records.Kind.TheVariants as kinds
use Rattle.elf_types.specs.declared.errors.ElfError.{ElfError}
use Rattle.elf_types.specs.Answers.{answered}
use Rattle.elf_lint_findings.specs.elf_object.Object.{Object}
use Rattle.elf_lint_findings.specs.elf_object.Answers.{count_at, items_at, dyns_of, lend_refusal}
use Rattle.elf_lint_findings.proofs.tool_objects.ListCounts.{dyns_of_length}
use Rattle.elf_lint_findings.specs.Looking.{dyns}
use Rattle.elf_lint_findings.proofs.LentLemmas.{lent, lent_count, no_count}
use Rattle.elf_lint_links.specs.Dynamic.{is_null_tag, is_dynamic_end}

abbrev pub ends : Dyn → Bool
ends x = is_null_tag x.tag

-- ---- One of them ends the section, or none does

pub any_ends : (l : List Dyn) (i : ℕ) → true ≡ is_dynamic_end (slice_get l i) → true ≡ list_any ends l
any_ends [] i is = cc
any_ends (x ∷ l) zero is = by_first (ends x) is
  where
    by_first : (b : Bool) → true ≡ b → true ≡ (b || list_any ends l)
    by_first true is = refl
    by_first false is = cc
any_ends (x ∷ l) (suc i) is = by_first (ends x) (any_ends l i is)
  where
    by_first : (b : Bool) → true ≡ list_any ends l → true ≡ (b || list_any ends l)
    by_first true is = refl
    by_first false is = is

pub none_ends : (l : List Dyn) (n : ℕ) → length l ≤ n → ((k : ℕ) → k < n → false ≡ is_dynamic_end (slice_get l k)) → false ≡ list_any ends l
none_ends [] n le none = refl
none_ends (x ∷ l) zero le none = absurd (omega arith)
none_ends (x ∷ l) (suc n) le none =
    none_ends l n (omega arith) (λ k lt. none (suc k) (omega arith)) ∙ ap (λ (b : Bool). b || list_any ends l) (none 0 (omega arith))

-- ---- The entries that can be told

module _ (o : Object) (s : ℕ) where
  pub dyns_count : (n : ℕ) → Ok n ≡ answered (lend_refusal o kinds.Dyn s 0) (count_at o s 0) → n ≡ length (dyns o s)
  unfolding dyns
  dyns_count n is =
      let count = lent_count o s kinds.Dyn dyns_of dyns_of_length n is in
      count.1 ∙ ap length (sym (lent (lend_refusal o kinds.Dyn s 0) (dyns_of (items_at o s 0)) count.0))

  pub no_dyns : (e : ElfError) → Err e ≡ answered (lend_refusal o kinds.Dyn s 0) (count_at o s 0) → false ≡ list_any ends (dyns o s)
  unfolding dyns
  no_dyns e is = ap (list_any ends) (sym (no_count o s kinds.Dyn dyns_of e is))
