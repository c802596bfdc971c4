use Rattle.std.proofs.Common.{sym}
use Rattle.std.proofs.lemmas.Result.{err_from_is_err_and}
use Rattle.elf_ident.proofs.CountLemmas.{first_lies, counts_refused, counts_done}
use Rattle.elf_outside.proofs.ToldLengths.{told_len}
use Rattle.elf_ident.proofs.counts.read_counts.Goals as goal

pub returns-in_err-check_header-clause-counts : goal.returns-in_err-check_header-clause-counts
returns-in_err-check_header-clause-counts g c =
    let p = err_from_is_err_and c.from_residual.result c.from_residual.ensures.1 in
    rw (p.1, p.2) (counts_refused (g.S.Source.holds c.args.src.now) c.args.h.now c.len-len.result _ (told_len _ _ _ c.len-len.ensures.size (g.met.S.Source.sized c.args.src.now)) c.in_err-check_header.ensures.refusal)

pub read_first_section-requires : goal.read_first_section-requires
read_first_section-requires g c =
    λ needed. rw (← c.len-len.ensures.size) (first_lies c.args.h.now c.len-len.result (sym c.in_ok-check_header.ensures.refusal) needed)

pub returns-clause-counts : goal.returns-clause-counts
returns-clause-counts g c =
    counts_done (g.S.Source.holds c.args.src.now) c.args.h.now _ c.len-len.result _ (told_len _ _ _ c.len-len.ensures.size (g.met.S.Source.sized c.args.src.now)) c.in_ok-check_header.ensures.refusal
    c.in_ok-first.ensures.first c.counts_by.ensures.counts
