use Rattle.std.proofs.Common.{◌≡◌, ℕ, List, Ok, Err, sym, ap, ◌∙◌, arith}
use Rattle.std.proofs.lemmas.Result.{err_from_is_err_and}
use Rattle.elf_types.specs.Answers.{Follows, FollowsBy, stated_refusal}
use Rattle.ar_members.specs.Headers.{next_at, header_at}
use Rattle.ar_members.specs.Members.{named_entry}
use Rattle.ar_members.specs.Steps.{entry_of}
use Rattle.ar_members.proofs.Told.{told_then, told_both, told_as}
use Rattle.ar_members.proofs.HeaderLemmas.{header_asks_low}
use Rattle.ar_members.proofs.StepLemmas.{made, entry_with, step_refused, step_due_with}
use Rattle.ar_members.proofs.entries.step_at.Goals as goal

pub returns-in_err-header-clause-entry : goal.returns-in_err-header-clause-entry
returns-in_err-header-clause-entry g c =
    let p = err_from_is_err_and c.from_residual.result c.from_residual.ensures.1 in
    let e = c.in_err-header.field-0.0 in
    rw (p.1, p.2) (told_then (λ image. Follows (Err e) (header_at image c.args.at)) (g.S.Source.holds c.args.src.now) c.in_err-header.ensures.header
    (λ image refused. step_refused image c.args.names.now c.args.at e refused))

pub returns-in_err-entry-clause-entry : goal.returns-in_err-entry-clause-entry
returns-in_err-entry-clause-entry g c =
    let p = err_from_is_err_and c.from_residual-in_err-entry.result c.from_residual-in_err-entry.ensures.1 in
    let header = c.in_ok-header.header in
    let e = c.in_err-entry.field-0.0 in
    let Named = λ (image : List ℕ). FollowsBy (entry_of c.args.names.now (next_at c.args.at header.numbers.size)) stated_refusal (Err e) (named_entry image c.args.names.now c.args.at header) in
    rw (p.1, p.2) (told_both (λ image. header_at image c.args.at ≡ Ok header) Named (g.S.Source.holds c.args.src.now) c.in_ok-header.ensures.header
    (told_as Named _ _ c.in_ok-header.ensures.asks.leaves.same_bytes c.in_err-entry.ensures.entry)
    (λ image is refused. rw (entry_with image c.args.names.now c.args.at header is) refused))

pub returns-in_err-entry-clause-due : goal.returns-in_err-entry-clause-due
returns-in_err-entry-clause-due g c =
    let header = c.in_ok-header.header in
    let low = header_asks_low (g.S.Source.size c.args.src.now) c.args.at in
    told_then (λ image. header_at image c.args.at ≡ Ok header) (g.S.Source.holds c.args.src.now) c.in_ok-header.ensures.header
    (λ image is. omega (arith, step_due_with image c.args.names.now c.args.at header is, c.in_ok-header.ensures.asks.taken.no_more, low, c.in_err-entry.ensures.asks.taken.no_more))

pub returns-clause-entry : goal.returns-clause-entry
returns-clause-entry g c =
    let header = c.in_ok-header.header in
    let Named = λ (image : List ℕ). named_entry image c.args.names.now c.args.at header ≡ Ok (entry_of c.args.names.now (next_at c.args.at header.numbers.size) c.in_ok-entry.entry) in
    told_both (λ image. header_at image c.args.at ≡ Ok header) Named (g.S.Source.holds c.args.src.now) c.in_ok-header.ensures.header
    (told_as Named _ _ c.in_ok-header.ensures.asks.leaves.same_bytes c.in_ok-entry.ensures.entry)
    (λ image is named. entry_with image c.args.names.now c.args.at header is ∙ named ∙ ap (λ n. made (entry_of c.args.names.now n c.in_ok-entry.entry)) (sym c.next_place-next.ensures))

pub returns-clause-due : goal.returns-clause-due
returns-clause-due g c =
    let header = c.in_ok-header.header in
    let low = header_asks_low (g.S.Source.size c.args.src.now) c.args.at in
    told_then (λ image. header_at image c.args.at ≡ Ok header) (g.S.Source.holds c.args.src.now) c.in_ok-header.ensures.header
    (λ image is. omega (arith, step_due_with image c.args.names.now c.args.at header is, c.in_ok-header.ensures.asks.taken.no_more, low, c.in_ok-entry.ensures.asks.taken.no_more))
