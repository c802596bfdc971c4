-- A hash section that holds what is built has no finding of the rule of its kind.
use Rattle.std.proofs.Common.{◌≡◌, ◌&&◌, not, ℕ, Bool, true, false, Option, ap, ◌∙◌, lit<, arith}
use Rattle.std.specs.Prelude.{codes}
use Rattle.std.proofs.lemmas.Bool.{and_right, not_from_true}
use Rattle.elf_types.specs.declared.records.Kind.TheVariants as kinds
use Rattle.elf_types.specs.declared.errors.ElfError.{ElfError}
use Rattle.elf_object.specs.Object.{Object}
use Rattle.elf_object.specs.Due.{all_sections}
use Rattle.elf_object.specs.Answers.{bytes_of, words_of, items_at, lend_refusal}
use Rattle.hash_model.specs.HashSections.{is_whole_sysv, is_whole_gnu}
use Rattle.hash_model.specs.Listed.{listed_names}
use Rattle.hash_model.specs.BuiltHashes.{GnuShape}
use Rattle.rebuild_model.specs.Laws.{BuiltHashesAreWhole}
use Rattle.symbol_lookup.specs.Lookups.{link_of}
use Rattle.elf_lint_findings.specs.Looking.{if_lent, section_words, data_bytes}
use Rattle.elf_lint_hashes.specs.Hashes.{has_words_of_symbols, has_bytes_of_symbols, is_broken_hash, is_broken_gnu_hash, hashes_not_whole, gnu_hashes_not_whole}
use Rattle.elf_lint.specs.Reach.{finds_nothing_at}
use Rattle.law_hash.specs.Built.{HoldsSysv, HoldsGnu}
use Rattle.law_hash.specs.Find.Built.{BuiltHaveNoFinding}
use Rattle.law_hash.proofs.find.Forms.{sections_none}
use Rattle.law_hash.proofs.find.Rules.{findings_none}

-- ---- No finding where the test of the rule fails

hash_passes : (o : Object) (h : ℕ) → is_broken_hash o h ≡ false → finds_nothing_at 31 o h ≡ true
unfolding hashes_not_whole gnu_hashes_not_whole
hash_passes o h whole =
    ap not
    (findings_none 31 h (lit< tt) o
    (sections_none 31 h 31 (codes "hash is not whole") (is_broken_hash o) (all_sections o)
    (λ _. whole))
    (sections_none 31 h 32 (codes "hash is not whole") (is_broken_gnu_hash o) (all_sections o)
    (λ same. absurd (omega (arith, same)))))

gnu_passes : (o : Object) (h : ℕ) → is_broken_gnu_hash o h ≡ false
    → finds_nothing_at 32 o h ≡ true
unfolding hashes_not_whole gnu_hashes_not_whole
gnu_passes o h whole =
    ap not
    (findings_none 32 h (lit< tt) o
    (sections_none 32 h 31 (codes "hash is not whole") (is_broken_hash o) (all_sections o)
    (λ same. absurd (omega (arith, same))))
    (sections_none 32 h 32 (codes "hash is not whole") (is_broken_gnu_hash o) (all_sections o)
    (λ _. whole)))

-- ---- What is built is whole

not_broken : (looked whole : Bool) → whole ≡ true → (looked && not whole) ≡ false
not_broken looked whole is = and_right looked (not whole) (not_from_true whole is)

module _ (built : BuiltHashesAreWhole) where
  sysv_not_broken : (o : Object) (h nbucket : ℕ) → HoldsSysv o h nbucket
      → is_broken_hash o h ≡ false
  unfolding is_broken_hash section_words
  sysv_not_broken o h nbucket holds =
      not_broken (has_words_of_symbols o h)
      (is_whole_sysv (if_lent (lend_refusal o kinds.Word h 0) (words_of (items_at o h 0)))
      (listed_names o (link_of o h)))
      (ap (λ (r : Option ElfError). is_whole_sysv (if_lent r (words_of (items_at o h 0)))
      (listed_names o (link_of o h))) holds.readable
      ∙ built.sysv o (link_of o h) nbucket (words_of (items_at o h 0)) holds.some holds.few
      holds.built)

  gnu_not_broken : (o : Object) (h : ℕ) (shape : GnuShape) → HoldsGnu o h shape
      → is_broken_gnu_hash o h ≡ false
  unfolding is_broken_gnu_hash data_bytes
  gnu_not_broken o h shape holds =
      not_broken (has_bytes_of_symbols o h)
      (is_whole_gnu o.header.class o.header.order
      (if_lent (lend_refusal o kinds.Bytes h 0) (bytes_of (items_at o h 0)))
      (listed_names o (link_of o h)))
      (ap (λ (r : Option ElfError). is_whole_gnu o.header.class o.header.order
      (if_lent r (bytes_of (items_at o h 0))) (listed_names o (link_of o h))) holds.readable
      ∙ built.gnu o (link_of o h) shape (bytes_of (items_at o h 0)) holds.usable holds.built)

  pub built_have_no_finding : BuiltHaveNoFinding
  built_have_no_finding = record {
    sysv = λ o h nbucket holds. hash_passes o h (sysv_not_broken o h nbucket holds);
    gnu = λ o h shape holds. gnu_passes o h (gnu_not_broken o h shape holds);
  }
