-- What was written by one call after another.
use Rattle.std.proofs.Common.{◌≡◌, ◌⊎◌, ◌+◌, ◌-◌, ◌<◌, ◌≤◌, ℕ, List, ◌++◌, Option, Some, None, length, take, drop, min, slice_index, [], inl, inr, refl, sym, ap, ◌∙◌, subst, append_assoc, length-append, arith}
use Rattle.std.specs.Option.{option_map}
use Rattle.std.proofs.Math.Seq.{take-append-add}
use Rattle.std.proofs.lemmas.Bool.{cases_lt}
use Rattle.std.proofs.lemmas.Grind.{common_steps}
use Rattle.std.proofs.lemmas.List.{append-nil, take-append-le, take_min, take_at, length-take-le}
use Rattle.std.proofs.lemmas.Slice.{drop-append-drop}
use Rattle.elf_outside.specs.Writes.{Appends, AppendsFront, written_over, IsTornBy}

-- ---- Texts that were appended

-- nothing was appended
pub appends_none : (a : Option (List ℕ)) → Appends a a []
appends_none None = refl
appends_none (Some w) = ap Some (sym (append-nil w))

-- so a front of any text was
pub front_none : (a : Option (List ℕ)) (text : List ℕ) → AppendsFront a a text
front_none a text = (0, appends_none a)

-- one text after another
pub appends_both : (a b c : Option (List ℕ)) (x y : List ℕ) → Appends a b x → Appends b c y → Appends a c (x ++ y)
appends_both None b c x y first second = second ∙ ap (λ (o : Option (List ℕ)). option_map (λ t. t ++ y) o) first
appends_both (Some w) b c x y first second =
    second ∙ ap (λ (o : Option (List ℕ)). option_map (λ t. t ++ y) o) first ∙ ap Some (append_assoc w x y)

-- a front after a whole text is a front of both
pub front_after : (a b c : Option (List ℕ)) (x y : List ℕ) → Appends a b x → AppendsFront b c y → AppendsFront a c (x ++ y)
front_after a b c x y first front =
    (length x + front.0, subst (Appends a c) (sym (take-append-add x y front.0)) (appends_both a b c x (take front.0 y) first front.1))

-- a front of a text is one of a longer text
pub front_before : (a b : Option (List ℕ)) (x y : List ℕ) → AppendsFront a b x → AppendsFront a b (x ++ y)
front_before a b x y front =
    let same : take front.0 x ≡ take (min front.0 (length x)) (x ++ y) =
    sym (take_min front.0 x) ∙ sym (take-append-le (min front.0 (length x)) x y (omega arith)) in
    (min front.0 (length x), subst (Appends a b) same front.1)

-- ---- Pieces that were put over bytes

-- a piece behind another
pub written_over_both : (bytes : List ℕ) (at : ℕ) (p q : List ℕ) → at + length p ≤ length bytes →
    written_over (written_over bytes at p) (at + length p) q ≡ written_over bytes at (p ++ q)
written_over_both bytes at p q within =
    let start : List ℕ = take at bytes ++ p in
    let long : length start ≡ at + length p = omega (arith, length-append (take at bytes) p, length-take-le at bytes (omega arith)) in
    ap (λ (l : List ℕ). (l ++ q) ++ drop ((at + length p) + length q) (start ++ drop (at + length p) bytes)) (take_at start (drop (at + length p) bytes) (at + length p) long)
    ∙ ap (λ (l : List ℕ). (start ++ q) ++ l) (drop-append-drop (at + length p) bytes start ((at + length p) + length q) (omega arith) long)
    ∙ ap (λ (l : List ℕ). l ++ drop ((at + length p) + length q) bytes) (append_assoc (take at bytes) p q)
    ∙ ap (λ (n : ℕ). (take at bytes ++ (p ++ q)) ++ drop n bytes) (omega (arith, length-append p q))

pub length-written_over : (bytes : List ℕ) (at : ℕ) (p : List ℕ) → at + length p ≤ length bytes → length (written_over bytes at p) ≡ length bytes
length-written_over bytes at p within = grind (arith, common_steps)

-- what stands at a place of the bytes with a piece over them
pub written_at : (bytes : List ℕ) (at : ℕ) (p : List ℕ) (k : ℕ) → at + length p ≤ length bytes →
    (slice_index (written_over bytes at p) k ≡ slice_index bytes k)
    ⊎ ((at ≤ k) × (k < at + length p) × (slice_index (written_over bytes at p) k ≡ slice_index p (k - at)))
written_at bytes at p k within =
    elim (cases_lt k at) [
      | inl low ↦ inl (grind (arith, common_steps))
      | inr past ↦ elim (cases_lt k (at + length p)) [
        | inl inside ↦ inr (past, inside, grind (arith, common_steps))
        | inr high ↦ inl (grind (arith, common_steps))
      ]
    ]

-- bytes with a piece over them are torn by it
pub written_is_torn : (bytes : List ℕ) (at : ℕ) (p : List ℕ) → at + length p ≤ length bytes → IsTornBy bytes (written_over bytes at p) at p
written_is_torn bytes at p within = record {
  same_len = length-written_over bytes at p within;
  old_or_new = λ k. written_at bytes at p k within;
}

-- torn by a piece, so torn by that and another behind it
pub torn_before : (old torn : List ℕ) (at : ℕ) (p q : List ℕ) → IsTornBy old torn at p → IsTornBy old torn at (p ++ q)
torn_before old torn at p q is = record {
  same_len = is.same_len;
  old_or_new = λ k. elim (is.old_or_new k) [
    | inl same ↦ inl same
    | inr new ↦ inr (new.0, omega (arith, new.1, length-append p q), grind (arith, common_steps, new.0, new.1, new.2))
  ];
}

-- torn by a piece after another, whole or torn
pub torn_after : (old mid torn : List ℕ) (at : ℕ) (p q : List ℕ) → IsTornBy old mid at p → IsTornBy mid torn (at + length p) q → IsTornBy old torn at (p ++ q)
torn_after old mid torn at p q first second = record {
  same_len = second.same_len ∙ first.same_len;
  old_or_new = λ k. elim (second.old_or_new k) [
    | inl same ↦ elim ((torn_before old mid at p q first).old_or_new k) [
      | inl older ↦ inl (same ∙ older)
      | inr new ↦ inr (new.0, new.1, same ∙ new.2)
    ]
    | inr new ↦ inr (omega (arith, new.0), omega (arith, new.1, length-append p q), grind (arith, common_steps, new.0, new.1, new.2))
  ];
}
