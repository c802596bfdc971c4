use Rattle.std.proofs.Common.{◌≡◌, ℕ, List, length, drop, take, ap, ◌∙◌, arith}
use Rattle.strtab_shared.proofs.bytes.PartLaws.{puts_as}
use Rattle.strtab_shared.proofs.bytes.ShareLaws.{closes_not, on_ok}
use Rattle.strtab_shared.proofs.bytes.sharing.share_range.Goals as goal

pub returns-in-Err-clause-puts : goal.returns-in-Err-clause-puts
returns-in-Err-clause-puts c =
    closes_not c.args.parts.now.text (take c.args.len (drop c.args.at c.args.parts.now.text))
    c.in-Err.e c.args.parts.now c.close_tail.new.parts c.in-Err.ensures

pub push_stretch-requires-clause-inside : goal.push_stretch-requires-clause-inside
push_stretch-requires-clause-inside c =
    let same = ap (λ (l : List ℕ). length l) c.in_default.ensures.text_is in
    omega (arith, same, c.requires.inside)

pub push_stretch-requires-clause-kept : goal.push_stretch-requires-clause-kept
push_stretch-requires-clause-kept c = c.in_default.ensures.kept

pub push_stretch-requires-clause-closed : goal.push_stretch-requires-clause-closed
push_stretch-requires-clause-closed c = c.in_default.ensures.closed

pub returns-clause-puts : goal.returns-clause-puts
returns-clause-puts c =
    puts_as (take c.args.len (drop c.args.at c.close_tail.new.parts.text))
    (take c.args.len (drop c.args.at c.args.parts.now.text)) c.push_stretch.result
    c.args.parts.now c.close_tail.new.parts c.push_stretch.new.parts c.in_default.ensures.same
    (ap (λ (l : List ℕ). take c.args.len (drop c.args.at l)) c.in_default.ensures.text_is)
    c.push_stretch.ensures.puts

pub returns-clause-text : goal.returns-clause-text
returns-clause-text c =
    on_ok (c.push_stretch.new.parts.text ≡ c.args.parts.now.text) c.push_stretch.result
    (c.push_stretch.ensures.text ∙ c.in_default.ensures.text_is)
