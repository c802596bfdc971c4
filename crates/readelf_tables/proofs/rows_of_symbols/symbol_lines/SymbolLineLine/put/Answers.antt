use Rattle.std.proofs.Common.{◌≡◌, ◌++◌, List, ℕ, OnOk, subst}
use Rattle.readelf_rows.proofs.TextLemmas.{text_then, texts_end}
use Rattle.readelf_tables.proofs.rows_of_symbols.LineLemmas.{front_named, front_unnamed}
use Rattle.readelf_tables.proofs.rows_of_symbols.symbol_lines.SymbolLineLine.put.Goals as goal

pub returns-in_ok-put_bytes-in-Some-clause-ok : goal.returns-in_ok-put_bytes-in-Some-clause-ok
returns-in_ok-put_bytes-in-Some-clause-ok c =
    let l = c.args.self.now in
    let p = c.args.page.now in
    let two = text_then p _ _ _ _ c.in_ok-put_front-in-Some.ensures.ok
    c.in_ok-put_bytes-in-Some.ensures.ok in
    let all = texts_end c.put_text.result p _ _ _ _ two c.put_text.ensures.ok in
    rw c.in-Some.is
    (subst (λ (t : List ℕ). OnOk c.put_text.result (c.put_text.new.out ≡ p ++ t))
    (front_named l.index l.symbol l.place c.in-Some.name.now) all)

pub returns-in-None-clause-ok : goal.returns-in-None-clause-ok
returns-in-None-clause-ok c =
    let l = c.args.self.now in
    let p = c.args.page.now in
    rw c.in-None.is
    (subst (λ (t : List ℕ). OnOk c.put_front-in-None.result
    (c.put_front-in-None.new.page ≡ p ++ t)) (front_unnamed l.index l.symbol l.place)
    c.put_front-in-None.ensures.ok)
