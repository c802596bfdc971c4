-- Ranges of a text that are put behind the others.
use Rattle.std.proofs.Common.{◌≡◌, ◌+◌, ◌-◌, ◌<◌, ◌≤◌, ◌^◌, ℕ, List, [], ◌∷◌, ◌++◌, length, get_or, take, drop, true, Option, Some, Result, Ok, Err, refl, sym, ap, ◌∙◌, subst, arith, append_assoc, append-nil, length-append}
use Rattle.std.specs.Prelude.{OnOk}
use Rattle.std.specs.Option.{SomeIff}
use Rattle.std.specs.Str.{bytes_eq}
use Rattle.std.proofs.lemmas.List.{length-drop, drop_all, drop_at, drop-drop, take_all, take_more}
use Rattle.std.proofs.lemmas.Slice.Eq.{bytes_eq-Decides}
use Rattle.elf_types.specs.declared.errors.ElfError.{ElfError}
use Rattle.elf_types.specs.declared.errors.ElfError.TheVariants.{Memory}
use Rattle.strtab_shared.specs.declared.bytes.stretches.Stretch.{Stretch}
use Rattle.strtab_shared.specs.declared.bytes.parts.StretchParts.{StretchParts}
use Rattle.strtab_shared.specs.Bytes.Stretches.{no_stretch, stretch_bytes, stretched, StandFrom}
use Rattle.strtab_shared.specs.Bytes.Parts.{whole, AreKept, PutsBehind, ClosesStretches}
use Rattle.strtab_shared.proofs.bytes.StretchLaws.{stretch_long, stretched_same, stand_same, stretched_push, stand_push, stretched_none, lies_at}
use Rattle.strtab_shared.proofs.bytes.PartLaws.{whole_long, whole_small, same_kept, same_whole}

-- ---- The tail, closed

pub closed_already : (p : StretchParts) → AreKept p → p.tail ≡ length p.text → ClosesStretches p.text (Ok tt) p p
closed_already p kept closed = record {
  kept = kept;
  same = refl;
  text_is = refl;
  closed = closed;
  err = tt;
}

module _ (p : StretchParts) (stretches : List Stretch) (end held : ℕ) (kept : AreKept p)
    (held_is : held ≡ length p.text) (end_is : end ≡ length (whole p)) where
  abbrev last : Stretch
  last = record { at = p.tail; len = held - p.tail; end = end }

  last_bytes : stretch_bytes p.text last ≡ drop p.tail p.text
  last_bytes =
      let rest = length-drop p.tail p.text in
      take_all (held - p.tail) (drop p.tail p.text) (omega (arith, rest, held_is))

  module _ (is : stretches ≡ p.stretches ++ last ∷ []) where
    all_is : stretched p.text stretches ≡ whole p
    all_is =
        ap (stretched p.text) is ∙ stretched_push p.text p.stretches last
        ∙ ap (λ (b : List ℕ). stretched p.text p.stretches ++ b) last_bytes

    pub tail_closed : ClosesStretches p.text (Ok tt) p
        (record p { stretches = stretches; count = end; tail = held })
    tail_closed =
        let inside = kept.inside in
        let all = whole_long p kept in
        let small = whole_small p kept in
        let count = kept.count in
        let none : drop held p.text ≡ [] = drop_all held p.text (omega (arith, held_is)) in
        record {
          kept = record {
            stand = subst (λ (l : List Stretch). StandFrom p.text 0 l) (sym is)
                (stand_push p.text 0 p.stretches last kept.stand (omega (arith, inside, held_is))
                (omega (arith, all, inside, count, held_is, end_is)));
            count = end_is ∙ ap (λ (l : List ℕ). length l) (sym all_is);
            inside = omega (arith, held_is);
            small = omega (arith, held_is, end_is, small);
          };
          same = (λ j. all_is j ++ none j) ∙ append-nil (whole p);
          text_is = refl;
          closed = held_is;
          err = tt;
        }

pub not_pushed_kept : (p : StretchParts) (stretches : List Stretch) → AreKept p
    → stretches ≡ p.stretches → AreKept (record p { stretches = stretches })
not_pushed_kept p stretches kept is =
    subst (λ (l : List Stretch). AreKept (record p { stretches = l })) (sym is) kept

pub not_pushed_whole : (p : StretchParts) (stretches : List Stretch) → stretches ≡ p.stretches
    → whole (record p { stretches = stretches }) ≡ whole p
not_pushed_whole p stretches is =
    ap (λ (l : List Stretch). stretched p.text l ++ drop p.tail p.text) is

pub tail_open : (p : StretchParts) (stretches : List Stretch) (e : ElfError) → AreKept p
    → stretches ≡ p.stretches → e ≡ Memory
    → ClosesStretches p.text (Err e) p (record p { stretches = stretches })
tail_open p stretches e kept is want = record {
  kept = not_pushed_kept p stretches kept is;
  same = not_pushed_whole p stretches is;
  text_is = tt;
  closed = tt;
  err = want;
}

-- ---- A stretch more

pub stretch_put : (p : StretchParts) (stretches : List Stretch) (at len end : ℕ) → AreKept p
    → p.tail ≡ length p.text → at + len ≤ length p.text → end ≡ p.count + len → end < 2 ^ 64
    → stretches ≡ p.stretches ++ record { at = at; len = len; end = end } ∷ []
    → PutsBehind (take len (drop at p.text)) (Ok tt) p
    (record p { stretches = stretches; count = end })
stretch_put p stretches at len end kept closed lies end_is fits is =
    let last : Stretch = record { at = at; len = len; end = end } in
    let bytes : List ℕ = take len (drop at p.text) in
    let count = kept.count in
    let none : drop p.tail p.text ≡ [] = drop_all p.tail p.text (omega (arith, closed)) in
    let front : List ℕ = stretched p.text p.stretches in
    let all : stretched p.text stretches ≡ front ++ bytes =
    ap (stretched p.text) is ∙ stretched_push p.text p.stretches last in
    let rest = length-drop at p.text in
    let long : length (stretched p.text stretches) ≡ length front + length bytes =
    ap (λ (l : List ℕ). length l) all ∙ length-append front bytes in
    let cut : length bytes ≡ len = stretch_long p.text last lies in
    record {
      kept = record {
        stand = subst (λ (l : List Stretch). StandFrom p.text 0 l) (sym is)
            (stand_push p.text 0 p.stretches last kept.stand lies (omega (arith, count, end_is)));
        count = omega (arith, long, cut, count, end_is);
        inside = kept.inside;
        small = omega (arith, closed, fits);
      };
      ok = (λ j. all j ++ none j) ∙ append-nil (front ++ bytes)
          ∙ sym (ap (λ (b : List ℕ). (front ++ b) ++ bytes) none
          ∙ ap (λ (b : List ℕ). b ++ bytes) (append-nil front));
      unchanged = tt;
      err = tt;
    }

pub stretch_not_put : (p : StretchParts) (stretches : List Stretch) (bytes : List ℕ) (e : ElfError)
    → AreKept p → stretches ≡ p.stretches → e ≡ Memory
    → PutsBehind bytes (Err e) p (record p { stretches = stretches })
stretch_not_put p stretches bytes e kept is want = record {
  kept = not_pushed_kept p stretches kept is;
  ok = tt;
  unchanged = not_pushed_whole p stretches is;
  err = want;
}

pub some_is : (r : Option ℕ) (fits : Type 0) (n x : ℕ) → r ≡ Some n → SomeIff r fits x → n ≡ x
some_is r fits n x is sum = (subst (λ (o : Option ℕ). SomeIff o fits x) is sum).1

-- a step that left the bytes and refused puts nothing
pub closes_not : (text bytes : List ℕ) (e : ElfError) (old new : StretchParts)
    → ClosesStretches text (Err e) old new → PutsBehind bytes (Err e) old new
closes_not text bytes e old new closes = record {
  kept = closes.kept;
  ok = tt;
  unchanged = closes.same;
  err = closes.err;
}

pub on_ok : (P : Type 0) (r : Result (Unit {0}) ElfError) → P → OnOk r P
on_ok P (Ok x) is = is
on_ok P (Err e) is = tt

-- ---- More text is held

pub text_held : (p : StretchParts) (text bytes : List ℕ) (tail : ℕ) → AreKept p
    → p.tail ≡ length p.text → text ≡ p.text ++ bytes → tail ≡ length text
    → ClosesStretches (p.text ++ bytes) (Ok tt) p (record p { text = text; tail = tail })
text_held p text bytes tail kept closed is tail_is =
    let same : stretched text p.stretches ≡ stretched p.text p.stretches =
    ap (λ (t : List ℕ). stretched t p.stretches) is
    ∙ stretched_same p.text bytes 0 p.stretches kept.stand in
    let none : drop tail text ≡ [] = drop_all tail text (omega (arith, tail_is)) in
    let before : drop p.tail p.text ≡ [] = drop_all p.tail p.text (omega (arith, closed)) in
    let empty : drop tail text ≡ drop p.tail p.text = none ∙ sym before in
    let small = kept.small in
    record {
      kept = record {
        stand = subst (λ (t : List ℕ). StandFrom t 0 p.stretches) (sym is)
            (stand_same p.text bytes 0 p.stretches kept.stand);
        count = kept.count ∙ ap (λ (l : List ℕ). length l) (sym same);
        inside = omega (arith, tail_is);
        small = omega (arith, small, closed, tail_is);
      };
      same = λ j. same j ++ empty j;
      text_is = is;
      closed = tail_is;
      err = tt;
    }

pub text_not_held : (p : StretchParts) (text more : List ℕ) (e : ElfError) → AreKept p → text ≡ p.text
    → e ≡ Memory → ClosesStretches more (Err e) p (record p { text = text })
text_not_held p text more e kept is want = record {
  kept = same_kept p text kept is;
  same = same_whole p text is;
  text_is = tt;
  closed = tt;
  err = want;
}

pub closes_stop : (text more : List ℕ) (e : ElfError) (old new : StretchParts)
    → ClosesStretches text (Err e) old new → ClosesStretches more (Err e) old new
closes_stop text more e old new closes = record {
  kept = closes.kept;
  same = closes.same;
  text_is = tt;
  closed = tt;
  err = closes.err;
}

pub closes_then : (bytes : List ℕ) (r : Result (Unit {0}) ElfError) (old mid new : StretchParts)
    → whole mid ≡ whole old → mid.text ≡ old.text → ClosesStretches (mid.text ++ bytes) r mid new
    → ClosesStretches (old.text ++ bytes) r old new
closes_then bytes r old mid new same text closes = record {
  kept = closes.kept;
  same = closes.same ∙ same;
  text_is = subst (λ (t : List ℕ). OnOk r (new.text ≡ t ++ bytes)) text closes.text_is;
  closed = closes.closed;
  err = closes.err;
}

-- ---- Bytes that stand in a text

pub stands_is : (text bytes : List ℕ) (at len : ℕ) → len ≡ length bytes
    → bytes_eq bytes (take (at + len - at) (drop at text)) ≡ true
    → take (length bytes) (drop at text) ≡ bytes
stands_is text bytes at len long same =
    let count : length bytes ≡ at + len - at = omega (arith, long) in
    ap (λ (n : ℕ). take n (drop at text)) count
    ∙ sym ((bytes_eq-Decides bytes (take (at + len - at) (drop at text))).0 same)

pub range_is : (text slice bytes : List ℕ) (near len : ℕ) → slice ≡ text → len ≡ length bytes
    → take (length bytes) (drop near slice) ≡ bytes → take len (drop near text) ≡ bytes
range_is text slice bytes near len is long same =
    (λ j. take (long j) (drop near (sym is j))) ∙ same

-- ---- All stretches of other parts

-- the first of them were put behind
pub record SharedBelow (p q : StretchParts) (base : ℕ) (l : List Stretch) (n : ℕ) : Type 0 where
  pub kept : AreKept q
  pub text : q.text ≡ p.text
  pub is : whole q ≡ whole p ++ stretched (drop base p.text) (take n l)

pub shared_none : (p : StretchParts) (base : ℕ) (l : List Stretch) → AreKept p
    → SharedBelow p p base l 0
shared_none p base l kept = record {
  kept = kept;
  text = refl;
  is = sym (ap (λ (b : List ℕ). whole p ++ b) (stretched_none (drop base p.text))
      ∙ append-nil (whole p));
}

-- the next one lies in the text
pub lies_behind : (p q : StretchParts) (base : ℕ) (l : List Stretch) (i : ℕ) → base ≤ length p.text
    → StandFrom (drop base p.text) 0 l → i < length l → q.text ≡ p.text
    → base + (get_or l i no_stretch).at + (get_or l i no_stretch).len ≤ length q.text
lies_behind p q base l i inside stand below text =
    let lies = lies_at (drop base p.text) 0 l i no_stretch stand below in
    let rest = length-drop base p.text in
    let same = ap (λ (t : List ℕ). length t) text in
    omega (arith, lies, rest, same, inside)

pub shared_more : (p q new : StretchParts) (base : ℕ) (l : List Stretch) (i : ℕ)
    → SharedBelow p q base l i → i < length l
    → PutsBehind (take (get_or l i no_stretch).len
    (drop (base + (get_or l i no_stretch).at) q.text)) (Ok tt) q new
    → new.text ≡ q.text → SharedBelow p new base l (i + 1)
shared_more p q new base l i so_far below puts text =
    let s = get_or l i no_stretch in
    let bytes : take s.len (drop (base + s.at) q.text) ≡ stretch_bytes (drop base p.text) s =
    ap (λ (t : List ℕ). take s.len (drop (base + s.at) t)) so_far.text
    ∙ ap (take s.len) (sym (drop-drop s.at base p.text)) in
    let more : stretched (drop base p.text) (take (i + 1) l)
    ≡ stretched (drop base p.text) (take i l) ++ stretch_bytes (drop base p.text) s =
    ap (stretched (drop base p.text)) (take_more l i no_stretch below)
    ∙ stretched_push (drop base p.text) (take i l) s in
    record {
      kept = puts.kept;
      text = text ∙ so_far.text;
      is = puts.ok ∙ (λ j. so_far.is j ++ bytes j)
          ∙ append_assoc (whole p) (stretched (drop base p.text) (take i l))
          (stretch_bytes (drop base p.text) s)
          ∙ ap (λ (b : List ℕ). whole p ++ b) (sym more);
    }

pub shared_all : (p q : StretchParts) (base : ℕ) (l : List Stretch) (i : ℕ) → length l ≤ i
    → SharedBelow p q base l i → whole q ≡ whole p ++ stretched (drop base p.text) l
shared_all p q base l i all so_far =
    so_far.is
    ∙ ap (λ (m : List Stretch). whole p ++ stretched (drop base p.text) m) (take_all i l all)

-- ---- And their tail

pub stand_behind : (text other : List ℕ) (l slice : List Stretch) → text ≡ other → slice ≡ l
    → StandFrom other 0 l → StandFrom text 0 slice
stand_behind text other l slice text_is l_is stand =
    subst (λ (t : List ℕ). StandFrom t 0 slice) (sym text_is)
    (subst (λ (m : List Stretch). StandFrom other 0 m) (sym l_is) stand)

pub tail_inside : (text other : List ℕ) (base tail len : ℕ) → base ≤ length text
    → drop base text ≡ other → tail ≤ length other → len ≡ length other - tail
    → base + tail + len ≤ length text
tail_inside text other base tail len inside is lies long =
    let rest = length-drop base text in
    let same = ap (λ (t : List ℕ). length t) is in
    omega (arith, rest, same, inside, lies, long)

pub all_put : (old mid new more : StretchParts) (base len : ℕ) (slice : List Stretch)
    (r : Result (Unit {0}) ElfError) → drop base old.text ≡ more.text → slice ≡ more.stretches
    → mid.text ≡ old.text → len ≡ length more.text - more.tail
    → whole mid ≡ whole old ++ stretched (drop base old.text) slice
    → PutsBehind (take len (drop (base + more.tail) mid.text)) r mid new
    → OnOk r (whole new ≡ whole old ++ whole more)
all_put old mid new more base len slice r text slice_is same long front puts =
    let rest = length-drop more.tail more.text in
    let tail : take len (drop (base + more.tail) mid.text) ≡ drop more.tail more.text =
    ap (λ (t : List ℕ). take len (drop (base + more.tail) t)) same
    ∙ ap (take len) (sym (drop-drop more.tail base old.text))
    ∙ ap (λ (t : List ℕ). take len (drop more.tail t)) text
    ∙ take_all len (drop more.tail more.text) (omega (arith, rest, long)) in
    let before : whole mid ≡ whole old ++ stretched more.text more.stretches =
    front ∙ (λ j. whole old ++ stretched (text j) (slice_is j)) in
    subst (λ (b : List ℕ). OnOk r (whole new ≡ b))
    ((λ j. before j ++ tail j)
    ∙ append_assoc (whole old) (stretched more.text more.stretches) (drop more.tail more.text))
    puts.ok

pub text_behind : (old slice other mid : List ℕ) (base : ℕ) → mid ≡ old ++ slice
    → slice ≡ other → base ≡ length old → drop base mid ≡ other
text_behind old slice other mid base is same at =
    ap (drop base) is ∙ drop_at old slice base (sym at) ∙ same

pub base_inside : (old slice mid : List ℕ) (base : ℕ) → mid ≡ old ++ slice → base ≡ length old
    → base ≤ length mid
base_inside old slice mid base is at =
    let long = ap (λ (l : List ℕ). length l) is ∙ length-append old slice in
    omega (arith, long, at)
