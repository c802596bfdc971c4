use Rattle.std.proofs.Common.{◌≡◌, ◌++◌, ℕ, List, OnOk, sym, subst, arith}
use Rattle.readelf_chains.proofs.HexLemmas.{bytes_by_halves}
use Rattle.readelf_chains.proofs.notes.put_hex_bytes.Goals as goal

pub returns-clause-ok : goal.returns-clause-ok
returns-clause-ok c =
    let written = c.put_hex_pairs in
    subst (λ (l : List ℕ). OnOk written.result (written.new.page ≡ c.args.page.now ++ l))
    (sym (bytes_by_halves c.args.bytes.now (λ i. let h = c.type_inv.bytes i in omega (arith, h))))
    written.ensures.ok
