use Rattle.std.proofs.Common.{◌≡◌, ◌++◌, List, ℕ, OnOk, subst}
use Rattle.readelf_rows.proofs.TextLemmas.{text_then, texts_end}
use Rattle.readelf_headers.proofs.SectionLemmas.{named, unnamed}
use Rattle.readelf_headers.proofs.sections.SectionLineLine.put.Goals as goal

pub returns-in_ok-put_bytes-in-Some-clause-ok : goal.returns-in_ok-put_bytes-in-Some-clause-ok
returns-in_ok-put_bytes-in-Some-clause-ok c =
    let l = c.args.self.now in
    let p = c.args.page.now in
    let two = text_then p _ _ _ _ c.in_ok-put_front-in-Some.ensures.ok
    c.in_ok-put_bytes-in-Some.ensures.ok in
    let all = texts_end c.put_end.result p _ _ _ _ two c.put_end.ensures.ok in
    rw c.in-Some.is
    (subst (λ (t : List ℕ). OnOk c.put_end.result (c.put_end.new.page ≡ p ++ t))
    (named l.index l.header c.in-Some.name.now) all)

pub returns-in_ok-put_front-in-None-clause-ok : goal.returns-in_ok-put_front-in-None-clause-ok
returns-in_ok-put_front-in-None-clause-ok c =
    let l = c.args.self.now in
    let p = c.args.page.now in
    let all = texts_end c.put_end-in-None.result p _ _ _ _ c.in_ok-put_front-in-None.ensures.ok c.put_end-in-None.ensures.ok in
    rw c.in-None.is
    (subst (λ (t : List ℕ). OnOk c.put_end-in-None.result (c.put_end-in-None.new.page ≡ p ++ t))
    (unnamed l.index l.header) all)
