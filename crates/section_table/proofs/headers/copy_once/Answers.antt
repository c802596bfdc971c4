use Rattle.std.proofs.Common.{◌≡◌, true, false, List, length, sym, ap, ◌∙◌, arith}
use Rattle.std.specs.Prelude.{is_ok, vec_len}
use Rattle.std.proofs.lemmas.Bool.{eqb-true}
use Rattle.elf_types.specs.declared.records.Shdr.{Shdr}
use Rattle.section_table.proofs.Present.{once_some, copied}
use Rattle.section_table.proofs.headers.copy_once.Goals as goal

pub returns-then-not-is_empty-clause-items : goal.returns-then-not-is_empty-clause-items
returns-then-not-is_empty-clause-items c =
    let no : c.is_empty.result ≡ false = cc in
    sym (once_some c.args.opened.now c.args.own.now.items (vec_len c.args.own.now)
    c.args.own.now.ok.0 (sym c.is_empty.ensures ∙ no))

pub returns-clause-items : goal.returns-clause-items
returns-clause-items c =
    let yes : c.is_empty.result ≡ true = cc in
    let none = eqb-true (vec_len c.args.own.now) 0 (sym c.is_empty.ensures ∙ yes) in
    let long = ap (λ (l : List Shdr). length l) c.as_slice-headers.ensures in
    copied c.args.opened.now c.args.own.now.items c.as_slice-headers.result.now
    c.extend_from_slice-copied.new.self.items (vec_len c.args.own.now) (is_ok c.extend_from_slice-copied.result)
    c.args.own.now.ok.0 (sym c.is_empty.ensures ∙ yes) c.as_slice-headers.ensures
    (c.extend_from_slice-copied.ensures.succeeds (omega (arith, none, long, c.requires)))
    c.extend_from_slice-copied.ensures.items
