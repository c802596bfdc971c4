-- A walk over the entries of a section behind the names of one entry.
use Rattle.std.proofs.Common.{◌≡◌, ℕ, true, false, Option, Some, None, Ok, IsTrue, sym}
use Rattle.std.specs.Prelude.{is_some}
use Rattle.elf_outside.specs.declared.sources.Source.{Ghosts as SourceGhosts}
use Rattle.elf_lint_findings.specs.elf_object.Object.{Object}
use Rattle.elf_lint_findings.specs.elf_descriptor.State.{State}
use Rattle.elf_lint_findings.specs.gelf_view.Chains.{Chain, entry_then, next_place}
use Rattle.elf_lint_findings.specs.tool_objects.Steps.{LeavesElf, Learns}
use Rattle.elf_lint_findings.proofs.tool_objects.LearnLemmas.{learns_after, learns_by}
use Rattle.elf_lint_links.specs.Chains.Chains.{entries_bad}
use Rattle.elf_lint_links.proofs.chains.ChainLemmas.{names_go_bad, entry_last, entry_goes}
use Rattle.elf_lint_links.proofs.chains.WalkLemmas.{Walking, walk_goes, walk_ends}

module _ {S A : Type 0} {s : SourceGhosts S} {a b : State S} {whole : Object → Option ℕ}
    (bad : Object → (ℕ × A) → Option ℕ) (entries : Object → ℕ → Chain (ℕ × A))
    (at n : ℕ) (x : A)
    (h : Walking s a b whole (λ o. entries_bad (bad o) (entries o at)))
    (c : State S) (left : LeavesElf s b c)
    (chain : IsTrue b.told → entries b.o at ≡ entry_then at x n (entries b.o))
    (v : Option ℕ) (d : State S) (names : Learns s (λ o. bad o (at, x)) (Ok v) c d) where
  -- what is known of the names, of the object before the entry was read
  known : Learns s (λ o. bad o (at, x)) (Ok v) b d
  known = learns_after s (λ o. bad o (at, x)) (Ok v) b c d left names

  -- the names of the entry go bad
  pub names_end : is_some v ≡ true → Learns s whole (Ok v) a d
  names_end some =
      walk_ends h (Ok v) d (learns_by s (λ o. entries_bad (bad o) (entries o at)) v b d
      known.reads.elf
      (λ told. names_go_bad (bad b.o) at n x (entries b.o) (entries b.o at) (chain told) v
      (known.value told) some))

  -- it is the last entry
  pub entries_end : is_some v ≡ false → None ≡ next_place at n → Learns s whole (Ok None) a d
  entries_end none last =
      walk_ends h (Ok None) d (learns_by s (λ o. entries_bad (bad o) (entries o at)) None b d
      known.reads.elf
      (λ told. sym (entry_last (bad b.o) at n x (entries b.o) (entries b.o at) (chain told) v
      (known.value told) none last)))

  -- the walk goes on at the next entry
  pub entries_go : (place : ℕ) → is_some v ≡ false → Some place ≡ next_place at n
      → Walking s a d whole (λ o. entries_bad (bad o) (entries o place))
  entries_go place none next =
      walk_goes h d (λ o. entries_bad (bad o) (entries o place)) known.reads.elf
      (λ told. entry_goes (bad b.o) at n x (entries b.o) (entries b.o at) (chain told) v
      (known.value told) place none next)
