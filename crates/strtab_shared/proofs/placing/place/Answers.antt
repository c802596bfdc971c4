use Rattle.std.proofs.Common.{◌≡◌, eqb, cond, Some, None, length, refl, sym, ap, ◌∙◌}
use Rattle.std.specs.Ordering.{nat_cmp}
use Rattle.std.specs.BTreeMap.{get}
use Rattle.strtab_build.proofs.KeptLemmas.{IsHeld-empty}
use Rattle.strtab_shared.specs.Hashes.{quick_hash_of}
use Rattle.strtab_shared.specs.Kept.{names_of}
use Rattle.strtab_shared.proofs.KeptLaws.{new_hash}
use Rattle.strtab_shared.proofs.PlaceLaws.{with_new_hash, places_last, places_held, places_none, kept_noting, noted_free, noted_taken}
use Rattle.strtab_shared.proofs.placing.place.Goals as goal

pub returns-then-is_empty-clause-places : goal.returns-then-is_empty-clause-places
returns-then-is_empty-clause-places c =
    places_held c.args.parts.now c.args.name.now 0 c.requires.kept
    (IsHeld-empty (names_of c.args.parts.now) c.args.name.now c.requires.kept.names_are
    (sym c.is_empty.ensures ∙ c.if-is_empty.true))

pub returns-in_err-noted-clause-places : goal.returns-in_err-noted-clause-places
returns-in_err-noted-clause-places c =
    places_none c.args.parts.now _ c.args.name.now c.from_residual.result
    c.from_residual.ensures.0
    (kept_noting c.args.parts.now (get nat_cmp c.note_first.new.first) c.requires.kept
    c.in_err-noted.ensures.unchanged) refl

pub place_follower-requires-clause-kept : goal.place_follower-requires-clause-kept
place_follower-requires-clause-kept c =
    let first = get nat_cmp c.args.parts.now.first in
    let taken = sym c.in_ok-noted.ensures.noted ∙ c.in-Some.is in
    kept_noting c.args.parts.now (get nat_cmp c.note_first.new.first) c.requires.kept
    (λ q. c.in_ok-noted.ensures.notes q
    ∙ noted_taken first c.hash_of.result c.next_index-index.result c.in-Some.first q taken)

pub place_follower-requires-clause-full : goal.place_follower-requires-clause-full
place_follower-requires-clause-full c = sym c.is_empty.ensures ∙ c.if-is_empty.false

pub place_follower-requires-clause-first : goal.place_follower-requires-clause-first
place_follower-requires-clause-first c =
    let first = get nat_cmp c.args.parts.now.first in
    let taken = sym c.in_ok-noted.ensures.noted ∙ c.in-Some.is in
    sym (ap (get nat_cmp c.note_first.new.first) c.hash_of.ensures)
    ∙ c.in_ok-noted.ensures.notes c.hash_of.result
    ∙ noted_taken first c.hash_of.result c.next_index-index.result c.in-Some.first
    c.hash_of.result taken ∙ taken

pub returns-in-None-clause-places : goal.returns-in-None-clause-places
returns-in-None-clause-places c =
    let p = c.args.parts.now in
    let free : get nat_cmp p.first c.hash_of.result ≡ None =
    sym c.in_ok-noted.ensures.noted ∙ c.in-None.is in
    let free_hash : get nat_cmp p.first (quick_hash_of c.args.name.now) ≡ None =
    sym (ap (get nat_cmp p.first) c.hash_of.ensures) ∙ free in
    places_last p c.args.name.now None (get nat_cmp c.note_first.new.first)
    (get nat_cmp p.newest) c.requires.kept
    (new_hash p c.args.name.now c.requires.kept (sym c.is_empty.ensures ∙ c.if-is_empty.false)
    free_hash) c.requires.fits
    (λ entries start is. with_new_hash p c.args.name.now
    (record { start = start; len = length c.args.name.now; older = None }) entries
    c.requires.kept is (get nat_cmp c.note_first.new.first) free_hash
    (λ q. c.in_ok-noted.ensures.notes q
    ∙ noted_free (get nat_cmp p.first) c.hash_of.result c.next_index-index.result q free
    ∙ (λ j. cond (eqb (c.hash_of.ensures j) q) (Some (c.next_index-index.ensures j))
    (get nat_cmp p.first q))))
    (record p { first = c.note_first.new.first }) c.put_last.new.parts c.put_last.result refl refl
    refl refl c.put_last.ensures.ok c.put_last.ensures.none
