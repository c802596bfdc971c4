use Rattle.std.proofs.Common.{List, ℕ, Option, length, take, inl, inr, ap, subst, ◌∙◌, arith}
use Rattle.elf_object.specs.Answers.{bytes_of}
use Rattle.section_data.specs.Nuls.{IsLastEnd, IsEndNoted}
use Rattle.section_data.proofs.raw.RawBytes.ended.Goals as goal

pub first_bytes-requires : goal.first_bytes-requires
first_bytes-requires c =
    let last =
    subst (λ (e : Option ℕ). IsEndNoted (bytes_of c.self.inside.items) e) c.in-Some.is
    c.self.invariant in
    let within = last.within in
    let same = ap (λ (l : List ℕ). length l) (ap bytes_of c.self.view_is) in
    let long = ap (λ (l : List ℕ). length l) c.bytes.ensures in
    omega (arith, within, same, long)

pub returns-in-Some : goal.returns-in-Some
returns-in-Some c =
    let last =
    subst (λ (e : Option ℕ). IsEndNoted (bytes_of c.self.inside.items) e) c.in-Some.is
    c.self.invariant in
    inr (record {
      count = c.in-Some.n;
      last = subst (λ (l : List ℕ). IsLastEnd l c.in-Some.n) (ap bytes_of c.self.view_is) last;
      is = c.first_bytes.ensures ∙ ap (λ (l : List ℕ). take c.in-Some.n l) c.bytes.ensures;
    })

pub returns-in-None : goal.returns-in-None
returns-in-None c = inl c.bytes-in-None.ensures
