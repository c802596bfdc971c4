use Rattle.std.proofs.Common.{◌≡◌, ◌<◌, ℕ, List, length, inr, refl, ap, subst, arith}
use Rattle.elf_types.specs.declared.records.Shdr.{Shdr}
use Rattle.rebuild_image.proofs.listed.StoreLaws.{row_listed}
use Rattle.rebuild_image.specs.Arranging.{ArePlacedBehind}
use Rattle.rebuild_image.proofs.ArrangeLaws.{first_behind, next_behind_is, some_is_above, first_as_many, next_as_many}
use Rattle.rebuild_image.proofs.arranging.place_sections.Goals as goal

pub loop-s-init : goal.loop-s-init
loop-s-init c = record {
  placed = λ o is limit.
      first_behind o c.args.x.now c.args.tail c.args.limit c.as_slice-listed.result.now _
      c.push.new.self _ c.as_slice-listed.ensures c.requires.some c.in_ok-headers.ensures.ok
      c.in_ok-push.ensures.ok is;
  within = omega (arith, c.requires.some);
  count = first_as_many _ _ _ c.in_ok-headers.ensures.ok c.in_ok-push.ensures.ok;
}

pub loop-s-preserved : goal.loop-s-preserved
loop-s-preserved c =
    let long : length c.as_slice-listed.result.now ≡ length c.args.x.now.headers =
    ap (λ (l : List Shdr). length l) c.as_slice-listed.ensures in
    let there : c.loop-s.s < length c.args.x.now.headers = omega
    (arith, long, c.loop-s-test.true) in
    record {
      placed = λ o is limit.
          next_behind_is o c.args.tail c.args.limit c.loop-s.s c.loop-s.end c.in-Some.after
          c.loop-s.headers c.push-in-Some.new.self c.in-Some.h c.loop-s.auto.s
          (let count = is.count in omega (arith, there, count))
          (c.loop-s.invariant.placed o is limit)
          (c.in-Some.ensures o c.loop-s.s
          (row_listed o c.args.x.now c.loop-s.s c.as_slice-listed.result.now
          c.as_slice-sizes.result.now _ _ c.as_slice-listed.ensures c.as_slice-sizes.ensures there
          is)
          (let first = c.loop-s.auto.s in omega (arith, first)) limit)
          c.in_ok-push-in-Some.ensures.ok;
      within = omega (arith, there);
      count =
          next_as_many _ _ _ c.loop-s.s c.loop-s.invariant.count c.in_ok-push-in-Some.ensures.ok;
    }

pub returns-in-None-clause-err : goal.returns-in-None-clause-err
returns-in-None-clause-err c =
    let long : length c.as_slice-listed.result.now ≡ length c.args.x.now.headers =
    ap (λ (l : List Shdr). length l) c.as_slice-listed.ensures in
    let there : c.loop-s.s < length c.args.x.now.headers = omega
    (arith, long, c.loop-s-test.true) in
    inr (record {
      error = refl;
      above = λ o is limit.
          some_is_above o c.args.tail c.args.limit c.loop-s.s c.loop-s.end c.loop-s.headers
          c.loop-s.auto.s (let count = is.count in omega (arith, there, count))
          (c.loop-s.invariant.placed o is limit)
          (c.in-None.ensures o c.loop-s.s
          (row_listed o c.args.x.now c.loop-s.s c.as_slice-listed.result.now
          c.as_slice-sizes.result.now _ _ c.as_slice-listed.ensures c.as_slice-sizes.ensures there
          is)
          (let first = c.loop-s.auto.s in omega (arith, first)) limit);
    })

pub returns-clause-ok : goal.returns-clause-ok
returns-clause-ok c = λ o is limit.
    let long : length c.as_slice-listed.result.now ≡ length c.args.x.now.headers =
    ap (λ (l : List Shdr). length l) c.as_slice-listed.ensures in
    let count = is.count in
    let last : c.loop-s.s ≡ length o.sections =
    omega (arith, long, count, c.loop-s-test.false, c.loop-s.invariant.within) in
    subst (λ (n : ℕ). ArePlacedBehind o c.args.tail c.args.limit n c.loop-s.headers c.loop-s.end)
    last (c.loop-s.invariant.placed o is limit)

pub returns-clause-count : goal.returns-clause-count
returns-clause-count c =
    let long : length c.as_slice-listed.result.now ≡ length c.args.x.now.headers =
    ap (λ (l : List Shdr). length l) c.as_slice-listed.ensures in
    let so_far = c.loop-s.invariant.count in
    let within = c.loop-s.invariant.within in
    omega (arith, long, so_far, within, c.loop-s-test.false)
