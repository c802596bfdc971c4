use Rattle.std.proofs.Common.{◌≡◌, ◌++◌, ◌-◌, List, ℕ, take, drop, length, subst, ◌∙◌, length-drop, arith}
use Rattle.std.proofs.lemmas.List.{take_all}
use Rattle.std.specs.Result.{OnOk}
use Rattle.elf_types.proofs.texts.put_hex_by.Goals as goal

pub returns-clause-ok : goal.returns-clause-ok
returns-clause-ok c =
    let filled = c.fill_hex-start.new.buffer in
    let start = c.fill_hex-start.result in
    let whole : take (length filled - start) (drop start filled) ≡ drop start filled =
    take_all (length filled - start) (drop start filled) (omega (arith, length-drop start filled)) in
    subst (λ (l : List ℕ). OnOk c.put_bytes.result (c.put_bytes.new.out ≡ c.args.out.now ++ l))
    (whole ∙ c.fill_hex-start.ensures.digits) c.put_bytes.ensures.ok

pub returns-clause-err : goal.returns-clause-err
returns-clause-err c = c.put_bytes.ensures.err
