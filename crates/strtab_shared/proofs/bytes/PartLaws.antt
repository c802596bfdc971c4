-- Parts that get more text behind them.
use Rattle.std.proofs.Common.{◌≡◌, ◌+◌, ◌-◌, ◌<◌, ◌≤◌, ◌^◌, ℕ, List, [], ◌∷◌, ◌++◌, length, take, drop, Result, Ok, Err, refl, sym, ap, ◌∙◌, subst, arith, append_assoc, append-nil, length-append}
use Rattle.std.specs.Prelude.{OnOk, OnErr, IfErr}
use Rattle.std.proofs.lemmas.List.{length-drop, drop-append-le, drop_all, drop-drop, take_at}
use Rattle.std.proofs.lemmas.List.Elements.{All-nil, All-append, All-take, All-drop}
use Rattle.elf_types.specs.Lists.{AreBytes}
use Rattle.elf_types.specs.declared.errors.ElfError.{ElfError}
use Rattle.elf_types.specs.declared.errors.ElfError.TheVariants.{Memory}
use Rattle.strtab_shared.specs.declared.bytes.stretches.Stretch.{Stretch}
use Rattle.strtab_shared.specs.declared.bytes.parts.StretchParts.{StretchParts}
use Rattle.strtab_shared.specs.Bytes.Stretches.{stretch_bytes, stretched, StandFrom}
use Rattle.strtab_shared.specs.Bytes.Pieces.{IsPieceAt}
use Rattle.strtab_shared.specs.Bytes.Parts.{whole, AreKept, PutsBehind}
use Rattle.strtab_shared.proofs.bytes.StretchLaws.{stretched_same, stand_same, stretched_none, drop_past}

-- ---- None

pub none_kept : (p : StretchParts) → p.text ≡ [] → p.stretches ≡ [] → p.count ≡ 0 → p.tail ≡ 0
    → AreKept p
none_kept p text stretches count tail =
    let long = ap (λ (l : List ℕ). length l) text in
    record {
      stand = subst (λ (l : List Stretch). StandFrom p.text 0 l) (sym stretches) tt;
      count = count
          ∙ sym (ap (λ (l : List Stretch). length (stretched p.text l)) stretches
          ∙ ap (λ (l : List ℕ). length l) (stretched_none p.text));
      inside = omega (arith, tail);
      small = omega (arith, count, tail, long);
    }

pub none_whole : (p : StretchParts) → p.text ≡ [] → p.stretches ≡ [] → whole p ≡ []
none_whole p text stretches =
    let none : ◌≡◌ {A = List ℕ} (drop p.tail []) [] = drop_all p.tail [] (omega arith) in
    (λ j. stretched p.text (stretches j) ++ drop p.tail (text j))
    ∙ (λ j. stretched_none p.text j ++ none j)

-- ---- Their number

pub whole_long : (p : StretchParts) → AreKept p → p.count + (length p.text - p.tail) ≡ length (whole p)
whole_long p kept =
    let all = length-append (stretched p.text p.stretches) (drop p.tail p.text) in
    let rest = length-drop p.tail p.text in
    let count = kept.count in
    omega (arith, all, rest, count)

pub whole_small : (p : StretchParts) → AreKept p → length (whole p) < 2 ^ 64
whole_small p kept =
    let long = whole_long p kept in
    let small = kept.small in
    let inside = kept.inside in
    omega (arith, long, small, inside)

-- ---- A longer text

pub grown_kept : (p : StretchParts) (text bytes : List ℕ) → AreKept p → text ≡ p.text ++ bytes
    → length (whole p) + length bytes < 2 ^ 64 → AreKept (record p { text = text })
grown_kept p text bytes kept is room =
    let inside = kept.inside in
    let long = length-append p.text bytes in
    let all = whole_long p kept in
    subst (λ (t : List ℕ). AreKept (record p { text = t })) (sym is) (record {
      stand = stand_same p.text bytes 0 p.stretches kept.stand;
      count = kept.count
          ∙ ap (λ (l : List ℕ). length l)
          (sym (stretched_same p.text bytes 0 p.stretches kept.stand));
      inside = omega (arith, inside, long);
      small = omega (arith, room, all, inside, long);
    })

pub grown_whole : (p : StretchParts) (text bytes : List ℕ) → AreKept p → text ≡ p.text ++ bytes
    → whole (record p { text = text }) ≡ whole p ++ bytes
grown_whole p text bytes kept is =
    (λ j. stretched (is j) p.stretches ++ drop p.tail (is j))
    ∙ (λ j. stretched_same p.text bytes 0 p.stretches kept.stand j
    ++ drop-append-le p.tail p.text bytes kept.inside j)
    ∙ sym (append_assoc (stretched p.text p.stretches) (drop p.tail p.text) bytes)

-- the same text
pub same_kept : (p : StretchParts) (text : List ℕ) → AreKept p → text ≡ p.text
    → AreKept (record p { text = text })
same_kept p text kept is =
    subst (λ (t : List ℕ). AreKept (record p { text = t })) (sym is) kept

pub same_whole : (p : StretchParts) (text : List ℕ) → text ≡ p.text
    → whole (record p { text = text }) ≡ whole p
same_whole p text is = λ j. stretched (is j) p.stretches ++ drop p.tail (is j)

-- ---- What is put behind

pub not_put : (p : StretchParts) (bytes : List ℕ) (e : ElfError) → AreKept p → e ≡ Memory
    → PutsBehind bytes (Err e) p p
not_put p bytes e kept want = record { kept = kept; ok = tt; unchanged = refl; err = want }

pub text_put : (p : StretchParts) (text bytes : List ℕ) (r : Result (Unit {0}) ElfError) → AreKept p
    → length (whole p) + length bytes < 2 ^ 64 → OnOk r (text ≡ p.text ++ bytes)
    → OnErr r (text ≡ p.text) → IfErr r (λ e. e ≡ Memory)
    → PutsBehind bytes r p (record p { text = text })
text_put p text bytes (Ok x) kept room ok unchanged err = record {
  kept = grown_kept p text bytes kept ok room;
  ok = grown_whole p text bytes kept ok;
  unchanged = tt;
  err = tt;
}
text_put p text bytes (Err e) kept room ok unchanged err = record {
  kept = same_kept p text kept unchanged;
  ok = tt;
  unchanged = same_whole p text unchanged;
  err = err;
}

-- where the text may have so many bytes
pub form_put : (p : StretchParts) (text form : List ℕ) (most : ℕ) (r : Result (Unit {0}) ElfError)
    → AreKept p → p.count + most < 2 ^ 64 + p.tail → length text ≤ most
    → OnOk r (text ≡ p.text ++ form) → OnErr r (text ≡ p.text) → IfErr r (λ e. e ≡ Memory)
    → PutsBehind form r p (record p { text = text })
form_put p text form most (Ok x) kept within long ok unchanged err =
    let all = whole_long p kept in
    let inside = kept.inside in
    let grown = ap (λ (l : List ℕ). length l) ok ∙ length-append p.text form in
    text_put p text form (Ok x) kept (omega (arith, within, long, all, inside, grown)) ok unchanged
    err
form_put p text form most (Err e) kept within long ok unchanged err = record {
  kept = same_kept p text kept unchanged;
  ok = tt;
  unchanged = same_whole p text unchanged;
  err = err;
}

-- over other words for what was before and for what is put
pub puts_as : (b c : List ℕ) (r : Result (Unit {0}) ElfError) (old mid new : StretchParts)
    → whole mid ≡ whole old → b ≡ c → PutsBehind b r mid new → PutsBehind c r old new
puts_as b c r old mid new same is puts = record {
  kept = puts.kept;
  ok = subst (λ (l : List ℕ). OnOk r (whole new ≡ l)) (λ j. same j ++ is j) puts.ok;
  unchanged = subst (λ (l : List ℕ). OnErr r (whole new ≡ l)) same puts.unchanged;
  err = puts.err;
}

-- ---- Text that is cut

pub cut_is : (old form new : List ℕ) (before : ℕ) → new ≡ old ++ form → before ≡ length old
    → take before new ≡ old
cut_is old form new before is at = ap (take before) is ∙ take_at old form before (sym at)

-- ---- Pieces

pub closed_piece : (p : StretchParts) (text piece : List ℕ) (l : List Stretch) (at : ℕ) → AreKept p
    → text ≡ p.text → l ≡ p.stretches → at < p.count → IsPieceAt at (stretched text l) piece
    → IsPieceAt at (whole p) piece
closed_piece p text piece l at kept text_is l_is below found =
    let count = kept.count in
    let here : IsPieceAt at (stretched p.text p.stretches) piece =
    subst (λ (b : List ℕ). IsPieceAt at b piece) (λ j. stretched (text_is j) (l_is j)) found in
    record {
      some = here.some;
      rest = here.rest ++ drop p.tail p.text;
      is = drop-append-le at (stretched p.text p.stretches) (drop p.tail p.text)
          (omega (arith, count, below))
          ∙ ap (λ (b : List ℕ). b ++ drop p.tail p.text) here.is
          ∙ append_assoc piece here.rest (drop p.tail p.text);
    }

pub open_inside : (p : StretchParts) (at : ℕ) → AreKept p → p.count ≤ at → at < length (whole p)
    → p.tail + (at - p.count) < length p.text
open_inside p at kept from below =
    let all = whole_long p kept in
    let inside = kept.inside in
    omega (arith, all, inside, from, below)

pub open_piece : (p : StretchParts) (text piece : List ℕ) (at : ℕ) → AreKept p → text ≡ p.text
    → p.count ≤ at → at < length (whole p) → piece ≡ drop (p.tail + (at - p.count)) text
    → IsPieceAt at (whole p) piece
open_piece p text piece at kept text_is from below is =
    let inside = open_inside p at kept from below in
    let cut = length-drop (p.tail + (at - p.count)) text in
    let same = ap (λ (l : List ℕ). length l) text_is in
    let long = ap (λ (l : List ℕ). length l) is in
    let count = kept.count in
    let place : at ≡ length (stretched p.text p.stretches) + (at - p.count) =
    omega (arith, count, from) in
    record {
      some = omega (arith, inside, cut, same, long);
      rest = [];
      is = ap (λ (n : ℕ). drop n (stretched p.text p.stretches ++ drop p.tail p.text)) place
          ∙ drop_past (stretched p.text p.stretches) (drop p.tail p.text) (at - p.count)
          ∙ drop-drop (at - p.count) p.tail p.text
          ∙ ap (drop (p.tail + (at - p.count))) (sym text_is)
          ∙ sym is ∙ sym (append-nil piece);
    }

-- ---- Bytes

stretched_bytes : (text : List ℕ) (l : List Stretch) → AreBytes text → AreBytes (stretched text l)
unfolding stretched
stretched_bytes text [] are = All-nil (λ n. n < 2 ^ 8)
stretched_bytes text (s ∷ l) are =
    All-append (λ n. n < 2 ^ 8) (stretch_bytes text s) (stretched text l)
    (All-take (λ n. n < 2 ^ 8) s.len (drop s.at text) (All-drop (λ n. n < 2 ^ 8) s.at text are))
    (stretched_bytes text l are)

pub whole_bytes : (p : StretchParts) (text : List ℕ) → text ≡ p.text → AreBytes text
    → AreBytes (whole p)
whole_bytes p text is are =
    let held : AreBytes p.text = subst (λ (l : List ℕ). AreBytes l) is are in
    All-append (λ n. n < 2 ^ 8) (stretched p.text p.stretches) (drop p.tail p.text)
    (stretched_bytes p.text p.stretches held) (All-drop (λ n. n < 2 ^ 8) p.tail p.text held)
