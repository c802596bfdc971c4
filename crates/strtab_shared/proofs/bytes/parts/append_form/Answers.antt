use Rattle.std.proofs.Common.{◌≡◌, ℕ, List, length, ap, subst, arith}
use Rattle.std.specs.Prelude.{OnOk, OnErr}
use Rattle.elf_xlate.specs.Translation.{encoded}
use Rattle.strtab_shared.proofs.bytes.PartLaws.{cut_is}
use Rattle.strtab_shared.proofs.bytes.parts.append_form.Goals as goal

pub returns-in-Ok-clause-ok : goal.returns-in-Ok-clause-ok
returns-in-Ok-clause-ok c =
    subst (λ (l : List ℕ). OnOk c.cut_if_long.result (c.cut_if_long.new.text ≡ l))
    c.in-Ok.ensures.ok c.cut_if_long.ensures.ok

pub returns-in-Ok-clause-unchanged : goal.returns-in-Ok-clause-unchanged
returns-in-Ok-clause-unchanged c =
    subst (λ (l : List ℕ). OnErr c.cut_if_long.result (c.cut_if_long.new.text ≡ l))
    (cut_is c.args.text.now (encoded c.args.class c.args.order c.args.items.now)
    c.to_file.new.out c.len-before.result c.in-Ok.ensures.ok c.len-before.ensures)
    c.cut_if_long.ensures.cut

pub returns-in-Err-clause-most : goal.returns-in-Err-clause-most
returns-in-Err-clause-most c =
    let long = ap (λ (l : List ℕ). length l) c.in-Err.ensures.unchanged in
    omega (arith, long, c.requires)
