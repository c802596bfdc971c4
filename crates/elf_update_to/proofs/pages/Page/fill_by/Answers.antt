use Rattle.std.proofs.Common.{◌≡◌, ◌+◌, ◌-◌, ◌++◌, List, ℕ, length, take, drop, ap, ◌∙◌, arith, length-take, length-drop}
use borrow.Rule.Slice.PartMut.{put_mid}
use Rattle.std.proofs.lemmas.Slice.{take-put_mid}
use Rattle.std.proofs.lemmas.List.{with_items_is}
use Rattle.elf_update_to.specs.Emits.{origin_text}
use Rattle.elf_update_to.proofs.PageLaws.{length_mid}
use Rattle.elf_update_to.proofs.pages.Page.fill_by.Goals as goal

pub returns-clause-waits : goal.returns-clause-waits
returns-clause-waits g c =
    let used = c.self.inside.used in
    let count = c.args.count in
    let items = c.deref_mut.result.now in
    let stated = origin_text g.P.ImageParts c.args.parts.now c.args.of in
    let part = length-take (used + count - used) (drop used items) in
    let rest = length-drop used items in
    let all = length-drop c.args.from stated in
    let some = length-take count (drop c.args.from stated) in
    let room = ap length c.deref_mut.ensures.value in
    let fits = c.self.invariant in
    let waits = ap length c.self.view_is in
    let front = length-take used c.self.inside.bytes.items in
    let long : length c.copy.new.buf ≡ count =
    omega (arith, c.copy.auto.buf, part, rest, room, fits.0, fits.1, c.requires.room, waits, front) in
    let whole : List ℕ = put_mid used (used + count - used) items c.copy.new.buf in
    let all_long = length_mid used (used + count - used) items c.copy.new.buf (omega (arith, long))
    (omega (arith, room, fits.0, fits.1, c.requires.room, waits, front)) in
    record {
      text = c.copy.new.buf;
      is = record {
        long = omega (arith, long, all, some, c.requires.there);
        exact = λ told. c.in_default.ensures.bytes told
            ∙ ap (λ (n : ℕ). take n (drop c.args.from stated))
            (omega (arith, part, rest, room, fits.0, fits.1, c.requires.room, waits, front));
      };
      all =
          ap (take (used + count)) (with_items_is c.self.inside.bytes whole
          (omega (arith, all_long, c.self.inside.bytes.ok.0, room, part, rest, long)))
          ∙ take-put_mid used (used + count - used) items c.copy.new.buf (used + count)
          (omega (arith, long)) (omega (arith, room, fits.0, fits.1))
          ∙ ap (λ (l : List ℕ). l ++ c.copy.new.buf) (ap (take used) c.deref_mut.ensures.value ∙ c.self.view_is);
    }
