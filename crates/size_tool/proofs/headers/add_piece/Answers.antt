use Rattle.std.proofs.Common.{◌≡◌, ◌∙◌, ℕ, length, Ok, ap, arith}
use Rattle.std.specs.Prelude.{◌/◌, ◌%◌}
use Rattle.elf_outside.proofs.AskLemmas.{asks_then}
use Rattle.elf_xlate.specs.Headers.{shdr_size}
use Rattle.size_tool.specs.declared.sums.Sums.{Sums}
use Rattle.size_tool.proofs.TableSums.{buffer_added, asks_as}
use Rattle.size_tool.proofs.headers.add_piece.Goals as goal

pub add_headers-requires-clause-whole : goal.add_headers-requires-clause-whole
add_headers-requires-clause-whole g c =
    let long : length c.read.new.buf ≡ length c.args.bytes.now = omega (arith, c.read.auto.buf) in
    ap (λ (n : ℕ). n % shdr_size c.args.h.now.class) long ∙ c.requires.whole

pub add_headers-requires-clause-few : goal.add_headers-requires-clause-few
add_headers-requires-clause-few g c =
    let size = shdr_size c.args.h.now.class in
    let long : length c.read.new.buf ≡ length c.args.bytes.now = omega (arith, c.read.auto.buf) in
    let same : length c.read.new.buf / size ≡ length c.args.bytes.now / size =
    ap (λ (n : ℕ). n / size) long in
    omega (arith, same, c.requires.few)

pub returns-clause-adds : goal.returns-clause-adds
returns-clause-adds g c =
    buffer_added c.args.h.now (length c.read.new.buf) (length c.args.bytes.now) c.read.new.buf
    c.args.sums c.add_headers.result (omega (arith, c.read.auto.buf)) c.add_headers.ensures

pub returns-clause-asks : goal.returns-clause-asks
returns-clause-asks g c =
    asks_then {T = Unit {0}} {U = Sums} g.S.Source (Ok tt) (Ok c.add_headers.result)
    c.args.src.now c.read.new.src (length c.args.bytes.now) c.in_default.ensures.asks tt

pub returns-in-Err-clause-asks : goal.returns-in-Err-clause-asks
returns-in-Err-clause-asks g c =
    asks_as g.S.Source (Unit {0}) Sums c.in-Err.e c.args.src.now c.read.new.src
    (length c.args.bytes.now) c.in-Err.ensures.asks
