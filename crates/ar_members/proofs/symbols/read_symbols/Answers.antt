use Rattle.std.proofs.Common.{◌≡◌, ℕ, List, length, IfSome, Ok, Err, sym, ap, ◌∙◌, arith}
use Rattle.std.proofs.lemmas.Result.{err_from_is_err_and}
use Rattle.elf_types.specs.Answers.{Follows}
use Rattle.ar_members.specs.Headers.{header_at}
use Rattle.ar_members.specs.Symbols.{first_symbols, arsyms}
use Rattle.ar_members.specs.declared.symbols.ArSym.{ArSym}
use Rattle.ar_members.proofs.Told.{told_then, told_both, told_as}
use Rattle.ar_members.proofs.HeaderLemmas.{header_asks_low}
use Rattle.ar_members.proofs.SymbolLemmas.{arsyms_none, arsyms_refused, arsyms_with, due_with, due_low}
use Rattle.ar_members.proofs.symbols.read_symbols.Goals as goal

pub returns-then-len-le-FIRST-clause-symbols : goal.returns-then-len-le-FIRST-clause-symbols
returns-then-len-le-FIRST-clause-symbols g c =
    told_then (λ image. length image ≡ g.S.Source.size c.args.src.now) (g.S.Source.holds c.args.src.now) (g.met.S.Source.sized c.args.src.now)
    (λ image len. arsyms_none image (omega (arith, len, c.len.ensures.size, c.if-len-le-FIRST.true)) ∙ ap (λ (l : List ArSym). Ok l) (sym c.new.ensures))

pub returns-in_err-header-clause-symbols : goal.returns-in_err-header-clause-symbols
returns-in_err-header-clause-symbols g c =
    let p = err_from_is_err_and c.from_residual.result c.from_residual.ensures.1 in
    let e = c.in_err-header.field-0.0 in
    rw (p.1, p.2) (told_both (λ image. length image ≡ g.S.Source.size c.args.src.now) (λ image. Follows (Err e) (header_at image 8)) (g.S.Source.holds c.args.src.now)
    (g.met.S.Source.sized c.args.src.now) c.in_err-header.ensures.header
    (λ image len refused. arsyms_refused image (omega (arith, len, c.len.ensures.size, c.if-len-le-FIRST.false)) e refused))

pub returns-in_err-header-clause-due : goal.returns-in_err-header-clause-due
returns-in_err-header-clause-due g c =
    let low = header_asks_low (g.S.Source.size c.args.src.now) 8 in
    told_then (λ image. length image ≡ g.S.Source.size c.args.src.now) (g.S.Source.holds c.args.src.now) (g.met.S.Source.sized c.args.src.now)
    (λ image len. omega (arith, due_low image (omega (arith, len, c.len.ensures.size, c.if-len-le-FIRST.false)), low, c.in_err-header.ensures.asks.taken.no_more))

pub returns-clause-symbols : goal.returns-clause-symbols
returns-clause-symbols g c =
    let header = c.in_ok-header.header in
    let Named = λ (image : List ℕ). Follows c.first_symbols.result (first_symbols image header) in
    let First = λ (image : List ℕ). arsyms image ≡ first_symbols image header in
    let first : IfSome (g.S.Source.holds c.args.src.now) First = told_both (λ image. length image ≡ g.S.Source.size c.args.src.now) (λ image. header_at image 8 ≡ Ok header) (g.S.Source.holds c.args.src.now)
    (g.met.S.Source.sized c.args.src.now) c.in_ok-header.ensures.header
    (λ image len is. arsyms_with image (omega (arith, len, c.len.ensures.size, c.if-len-le-FIRST.false)) header is) in
    told_both First Named (g.S.Source.holds c.args.src.now) first
    (told_as Named _ _ c.in_ok-header.ensures.asks.leaves.same_bytes c.first_symbols.ensures.symbols)
    (λ image is named. rw is named)

pub returns-clause-due : goal.returns-clause-due
returns-clause-due g c =
    let header = c.in_ok-header.header in
    let low = header_asks_low (g.S.Source.size c.args.src.now) 8 in
    told_both (λ image. length image ≡ g.S.Source.size c.args.src.now) (λ image. header_at image 8 ≡ Ok header) (g.S.Source.holds c.args.src.now)
    (g.met.S.Source.sized c.args.src.now) c.in_ok-header.ensures.header
    (λ image len is. omega (arith, due_with image (omega (arith, len, c.len.ensures.size, c.if-len-le-FIRST.false)) header is, low, c.in_ok-header.ensures.asks.taken.no_more, c.first_symbols.ensures.asks.taken.no_more))
