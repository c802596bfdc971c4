-- One section header more is added.
use Rattle.std.proofs.Common.{◌≡◌, ◌^◌, ℕ, length, ap, arith}
use Rattle.std.specs.Prelude.{◌/◌}
use Rattle.elf_xlate.specs.Headers.{shdr_size}
use Rattle.size_tool.proofs.SumLemmas.{adds_within}
use Rattle.size_tool.proofs.TableSums.{headers_in, no_header_added, header_added, headers_added, count_in}
use Rattle.size_tool.proofs.headers.add_headers.Goals as goal

pub loop-i-init : goal.loop-i-init
loop-i-init c = no_header_added c.args.h.now c.args.bytes.now c.args.sums

pub with_section-sums-requires : goal.with_section-sums-requires
with_section-sums-requires c =
    let i = c.loop-i.i in
    let bytes = c.args.bytes.now in
    let long = count_in c.args.h.now i bytes in
    let same : length bytes / c.shdr_size-size.result ≡ length bytes / shdr_size c.args.h.now.class =
    ap (λ (n : ℕ). length bytes / n) c.shdr_size-size.ensures in
    adds_within (headers_in c.args.h.now i bytes) c.args.sums c.loop-i.sums (2 ^ 20) (2 ^ 32)
    c.loop-i.invariant c.requires.within
    (omega (arith, long, same, c.loop-i-test.true, c.requires.few))

pub loop-i-preserved : goal.loop-i-preserved
loop-i-preserved c =
    header_added c.args.h.now c.loop-i.i c.shdr_size-size.result _ c.args.bytes.now c.args.sums
    c.loop-i.sums _ _ c.loop-i.invariant c.shdr_size-size.ensures (omega arith)
    c.get_shdr.ensures.value c.with_section-sums.ensures.sums c.with_section-sums.ensures.within

pub returns : goal.returns
returns c =
    headers_added c.args.h.now c.loop-i.i (length c.args.bytes.now) c.shdr_size-size.result
    c.args.bytes.now c.args.sums c.loop-i.sums (omega (arith, c.loop-i-test.false))
    c.shdr_size-size.ensures c.loop-i.invariant
