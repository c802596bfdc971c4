use Rattle.std.proofs.Common.{sym, ◌∙◌, arith}
use Rattle.std.proofs.lemmas.Bool.{leb-true, leb-false}
use Rattle.std.proofs.lemmas.Option.{IfSome_then}
use Rattle.elf_types.proofs.AnswerLemmas.{follows_same}
use Rattle.ar_members.proofs.Told.{told_both}
use Rattle.ar_members.proofs.HeaderLemmas.{header_cut, header_whole}
use Rattle.ar_members.proofs.headers.read_header.Goals as goal

pub returns-then-not-is_whole-clause-header : goal.returns-then-not-is_whole-clause-header
returns-then-not-is_whole-clause-header g c =
    let cut = leb-false _ _ (sym c.is_whole.ensures ∙ c.if-not-is_whole.true) in
    IfSome_then _ (g.met.S.Source.sized c.args.src.now)
    (λ image len. header_cut image c.args.at (omega (arith, len, c.len-size.ensures.size, cut)))

pub returns-clause-header : goal.returns-clause-header
returns-clause-header g c =
    let whole = leb-true _ _ (sym c.is_whole.ensures ∙ c.if-not-is_whole.false) in
    told_both _ _ (g.S.Source.holds c.args.src.now) (g.met.S.Source.sized c.args.src.now) c.in_ok-bytes.ensures.bytes
    (λ image len is. follows_same c.header_in.result _
    (header_whole image _ c.args.at _ (omega (arith, len, c.len-size.ensures.size, whole)) is
    (omega (arith, len, c.len-size.ensures.size)) ∙ sym c.header_in.ensures.value))
