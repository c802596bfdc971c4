use Rattle.std.proofs.Common.{sym, ◌∙◌, arith}
use Rattle.gelf_view.proofs.HomeLemmas.{below_count}
use Rattle.gelf_view.proofs.StringLemmas.{strings_none, strings_more, strings_all}
use Rattle.gelf_view.proofs.string_calls.are_of_bytes.Goals as goal

pub loop-piece-init : goal.loop-piece-init
loop-piece-init g c = c.first_pieces-first.ensures.first.bytes

pub is_of_bytes-requires : goal.is_of_bytes-requires
is_of_bytes-requires g c = below_count c.args.elf.now.o c.args.s.0 c.loop-piece.piece c.requires.section (omega arith)

pub returns-then-not-is_of_bytes : goal.returns-then-not-is_of_bytes
returns-then-not-is_of_bytes g c = sym (strings_none c.args.elf.now.o c.args.s.0 c.loop-piece.piece (omega arith) (sym c.is_of_bytes.ensures ∙ c.if-not-is_of_bytes.true))

pub loop-piece-preserved : goal.loop-piece-preserved
loop-piece-preserved g c = strings_more c.args.elf.now.o c.args.s.0 c.loop-piece.piece (omega arith) c.loop-piece.invariant (sym c.is_of_bytes.ensures ∙ c.if-not-is_of_bytes.false)

pub returns : goal.returns
returns g c = sym (strings_all c.args.elf.now.o c.args.s.0 c.loop-piece.piece (omega arith) c.loop-piece.invariant)
