use Rattle.std.proofs.Common.{ℕ, [], refl, sym, ap, ◌∙◌, arith}
use Rattle.elf_lint_hashes.specs.Sysv.{has_end, sysv_section_of}
use Rattle.elf_lint_hashes.proofs.AllSteps.{all_more, all_fails, all_passed}
use Rattle.elf_lint_hashes.proofs.SysvWhole.{buckets_len}
use Rattle.elf_lint_hashes.proofs.paths.chains_end.Goals as goal

pub loop-bucket-init : goal.loop-bucket-init
loop-bucket-init c = record { left = refl; are = c.requires.are }

pub loop-bucket-preserved : goal.loop-bucket-preserved
loop-bucket-preserved c =
    let t = c.args.t in
    let w = c.args.words.now in
    let count = buckets_len w t [] c.requires.takes.some c.requires.takes.count in record {
      left = all_more (has_end w t) (sysv_section_of t w).buckets c.loop-bucket.bucket
          c.loop-bucket.invariant.left 0 (omega (arith, count, c.loop-bucket-test.true))
          (sym (c.in_ok-ended.ensures.value ∙ ap (λ (k : ℕ). has_end w t k) c.bucket_at-first.ensures)
          ∙ (cc));
      are = c.has_end.ensures.are;
    }

pub returns-then-not-ended-clause-value : goal.returns-then-not-ended-clause-value
returns-then-not-ended-clause-value c =
    let t = c.args.t in
    let w = c.args.words.now in
    let count = buckets_len w t [] c.requires.takes.some c.requires.takes.count in
    all_fails (has_end w t) (sysv_section_of t w).buckets c.loop-bucket.bucket
    c.loop-bucket.invariant.left 0 (omega (arith, count, c.loop-bucket-test.true))
    (sym (c.in_ok-ended.ensures.value ∙ ap (λ (k : ℕ). has_end w t k) c.bucket_at-first.ensures)
    ∙ (cc))

pub returns-clause-value : goal.returns-clause-value
returns-clause-value c =
    let t = c.args.t in
    let w = c.args.words.now in
    let count = buckets_len w t [] c.requires.takes.some c.requires.takes.count in
    all_passed (has_end w t) (sysv_section_of t w).buckets c.loop-bucket.bucket
    c.loop-bucket.invariant.left (omega (arith, count, c.loop-bucket-test.false))
