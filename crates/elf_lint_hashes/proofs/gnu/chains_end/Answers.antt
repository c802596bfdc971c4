use Rattle.std.proofs.Common.{ℕ, sym, ap, ◌∙◌, arith}
use Rattle.hash_model.specs.HashSections.{ends, gnu_chain_from}
use Rattle.elf_lint_hashes.specs.Gnu.{gnu_section_of}
use Rattle.elf_lint_hashes.proofs.AllSteps.{all_more, all_fails, all_passed}
use Rattle.elf_lint_hashes.proofs.GnuWords.{bucket_count}
use Rattle.elf_lint_hashes.proofs.GnuChains.{ends_is}
use Rattle.elf_lint_hashes.proofs.gnu.chains_end.Goals as goal

pub returns-then-not-ends_before : goal.returns-then-not-ends_before
unfolding gnu_section_of
returns-then-not-ends_before c =
    let t = c.args.t.now in
    let h = gnu_section_of t c.args.bytes.now in
    let count = bucket_count t c.args.bytes.now in
    let here = ap (λ (k : ℕ). ends (gnu_chain_from h t.count k)) (sym c.bucket_at.ensures) in
    all_fails (λ (first : ℕ). ends (gnu_chain_from h t.count first)) h.buckets c.loop-bucket.bucket c.loop-bucket.invariant 0 (omega (arith, count, c.loop-bucket-test.true))
    (here ∙ sym (ends_is h t.count c.end_of-end.result c.bucket_at.result c.end_of-end.ensures) ∙ sym c.ends_before.ensures ∙ (cc))

pub loop-bucket-preserved : goal.loop-bucket-preserved
unfolding gnu_section_of
loop-bucket-preserved c =
    let t = c.args.t.now in
    let h = gnu_section_of t c.args.bytes.now in
    let count = bucket_count t c.args.bytes.now in
    let here = ap (λ (k : ℕ). ends (gnu_chain_from h t.count k)) (sym c.bucket_at.ensures) in
    all_more (λ (first : ℕ). ends (gnu_chain_from h t.count first)) h.buckets c.loop-bucket.bucket c.loop-bucket.invariant 0 (omega (arith, count, c.loop-bucket-test.true))
    (here ∙ sym (ends_is h t.count c.end_of-end.result c.bucket_at.result c.end_of-end.ensures) ∙ sym c.ends_before.ensures ∙ (cc))

pub returns : goal.returns
returns c =
    let t = c.args.t.now in
    let h = gnu_section_of t c.args.bytes.now in
    let count = bucket_count t c.args.bytes.now in
    all_passed (λ (first : ℕ). ends (gnu_chain_from h t.count first)) h.buckets c.loop-bucket.bucket c.loop-bucket.invariant (omega (arith, count, c.loop-bucket-test.false))
