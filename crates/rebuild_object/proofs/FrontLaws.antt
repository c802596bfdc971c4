-- The bytes before a tail, as those of a base.
use Rattle.std.proofs.Common.{◌≡◌, ℕ, ◌-◌, ◌^◌, ◌<◌, ◌≤◌, List, [], ◌++◌, length, Option, None, Some, sym, ap, ◌∙◌, arith}
use Rattle.std.specs.Prelude.{IfSome}
use Rattle.std.proofs.Math.ListN.{replicate}
use Rattle.std.proofs.lemmas.List.{length-append, length-take-le, nil_from_length, take_at}
use Rattle.std.proofs.lemmas.List.Elements.{All-append}
use Rattle.elf_types.specs.Lists.{AreBytes}
use Rattle.elf_object.specs.Object.{Object}
use Rattle.elf_object.specs.Open.{created_over}
use Rattle.rebuild_model.specs.Arranged.{over_base}
use Rattle.rebuild_plan.specs.rebuild_making.Based.{created_with_layout}
use Rattle.rebuild_object.proofs.ReadLaws.{zeros_are, zeros_long}

-- zeros stand behind them
abbrev pub front_of : Object → List ℕ → List ℕ
front_of o base = base ++ replicate (length o.base - length base) 0

pub front_suits : (o : Object) (base : List ℕ) → AreBytes base → AreBytes (front_of o base)
front_suits o base are =
    All-append (λ b. b < 2 ^ 8) base (replicate (length o.base - length base) 0) are
    (zeros_are (length o.base - length base))

short : (o : Object) (tail : Option ℕ) (base : List ℕ) → IfSome tail (λ n. n ≤ length o.base)
    → length base ≡ length (over_base o tail).base → length base ≤ length o.base
unfolding over_base created_over
short o None base below long = let none : length base ≡ 0 = long in omega (arith, none)
short o (Some n) base below long =
    let many : length base ≡ n = long ∙ length-take-le n o.base below in
    omega (arith, many, below)

pub front_long : (o : Object) (tail : Option ℕ) (base : List ℕ)
    → IfSome tail (λ n. n ≤ length o.base) → length base ≡ length (over_base o tail).base
    → length (front_of o base) ≡ length o.base
front_long o tail base below long =
    let less = short o tail base below long in
    let whole = length-append {A = ℕ} base (replicate (length o.base - length base) 0) in
    let rest = zeros_long (length o.base - length base) in
    omega (arith, less, whole, rest)

-- created over them is created over that base up to the tail
pub front_over : (o : Object) (tail : Option ℕ) (base : List ℕ)
    → IfSome tail (λ n. n ≤ length o.base) → length base ≡ length (over_base o tail).base
    → record (over_base o tail) { base = base }
    ≡ over_base (record o { base = front_of o base }) tail
unfolding over_base created_over
front_over o None base below long =
    ap (λ (l : List ℕ). record (created_over o.header.class o.header.order []) { base = l })
    (nil_from_length base long)
front_over o (Some n) base below long =
    ap (λ (l : List ℕ). created_with_layout o.header.class o.header.order l)
    (sym (take_at {A = ℕ} base (replicate (length o.base - length base) 0) n
    (long ∙ length-take-le n o.base below)))
