use Rattle.std.proofs.Common.{◌≡◌, ◌++◌, ℕ, List, subst}
use Rattle.std.specs.Prelude.{OnOk}
use Rattle.strtab_shared.specs.Bytes.Parts.{whole}
use Rattle.strtab_shared.proofs.bytes.ShareLaws.{text_behind, base_inside}
use Rattle.strtab_shared.proofs.bytes.sharing.put_shared.Goals as goal

pub share_held-requires-clause-kept : goal.share_held-requires-clause-kept
share_held-requires-clause-kept c = c.in-Ok.ensures.kept

pub share_held-requires-clause-base : goal.share_held-requires-clause-base
share_held-requires-clause-base c =
    base_inside c.args.parts.now.text c.as_slice.result.now c.hold_text.new.parts.text
    c.len-base.result c.in-Ok.ensures.text_is c.len-base.ensures

pub share_held-requires-clause-text : goal.share_held-requires-clause-text
share_held-requires-clause-text c =
    text_behind c.args.parts.now.text c.as_slice.result.now c.args.more.now.text
    c.hold_text.new.parts.text c.len-base.result c.in-Ok.ensures.text_is c.as_slice.ensures
    c.len-base.ensures

pub returns-in-Ok-clause-ok : goal.returns-in-Ok-clause-ok
returns-in-Ok-clause-ok c =
    subst (λ (l : List ℕ). OnOk c.share_held.result (whole c.share_held.new.parts
    ≡ l ++ whole c.args.more.now)) c.in-Ok.ensures.same c.share_held.ensures.ok

pub returns-in-Err-clause-kept : goal.returns-in-Err-clause-kept
returns-in-Err-clause-kept c = c.in-Err.ensures.kept

pub returns-in-Err-clause-err : goal.returns-in-Err-clause-err
returns-in-Err-clause-err c = c.in-Err.ensures.err
