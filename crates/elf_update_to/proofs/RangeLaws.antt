-- A range of bytes of parts, by what was put of it and what is left.
use Rattle.std.proofs.Common.{◌≡◌, inl, ℕ, ◌+◌, ◌-◌, ◌≤◌, List, [], ◌++◌, Result, Ok, Err, length, take, drop, sym, ap, ◌∙◌, subst, arith, drop-drop, take-add}
use Rattle.std.proofs.lemmas.List.{append-nil}
use Rattle.elf_types.specs.declared.errors.ElfError.{ElfError}
use Rattle.elf_types.specs.declared.errors.ElfError.TheVariants.{Read, Write}
use Rattle.elf_update_plan.specs.elf_outside.declared.sinks.Sink.{Ghosts as SinkGhosts}
use Rattle.elf_update_plan.specs.law_object.Writing.Plan.{places_below}
use Rattle.elf_update_to.specs.declared.parts.ImageParts.{Ghosts}
use Rattle.elf_update_to.specs.Texts.{Flows}
use Rattle.elf_update_to.specs.declared.parts.Origin.{Origin}
use Rattle.elf_update_to.specs.Origins.{origin_bytes, origin_due, ReadyFor}
use Rattle.elf_update_to.specs.Emits.{origin_text, due_in, UsesParts, Emits, WaitsMore}
use Rattle.elf_update_to.proofs.FlowLaws.{text_same, text_both, flows_waits, flows_leave}
use Rattle.elf_update_to.proofs.EmitLaws.{uses_both, uses_stop, emits_none, emits_both, emits_stop, emits_as, emits_still}

-- ---- Ranges of a list

abbrev pub range : ℕ → ℕ → List ℕ → List ℕ
range from to bytes = take (to - from) (drop from bytes)

pub range_none : (from : ℕ) (bytes : List ℕ) → [] ≡ range from from bytes
range_none from bytes =
    let none : 0 ≡ from - from = omega arith in
    ap (λ (n : ℕ). take n (drop from bytes)) none

pub range_both : (from at to : ℕ) (bytes : List ℕ) → from ≤ at → at ≤ to
    → range from at bytes ++ range at to bytes ≡ range from to bytes
range_both from at to bytes low high =
    let place : from + (at - from) ≡ at = omega arith in
    let count : at - from + (to - at) ≡ to - from = omega arith in
    ap (λ (l : List ℕ). range from at bytes ++ take (to - at) l)
    (ap (λ (n : ℕ). drop n bytes) (sym place) ∙ sym (drop-drop (at - from) from bytes))
    ∙ sym (take-add (at - from) (to - at) (drop from bytes))
    ∙ ap (λ (n : ℕ). take n (drop from bytes)) count

-- ---- A copy

-- a step that copies bytes behind what waits
pub emits_waits : {P K : Type 0} (p : Ghosts P) (k : SinkGhosts K) (o o' : P) (s : K)
    (w v a : List ℕ) (n : ℕ) → WaitsMore (p.told (p.kept o)) a w v
    → UsesParts p (Ok (tt {0})) o o' n → Emits p k (Ok (tt {0})) o o' s s w v a n
emits_waits p k o o' s w v a n more uses = record {
  text = more.text;
  is = more.is;
  flows = subst (λ (l : List ℕ). Flows k (Ok tt) s s w l more.text) (sym more.all) (flows_waits k tt s w more.text);
  parts = uses;
  err = tt;
}

-- a copy that was refused, after what was put
pub emits_unread : {P K : Type 0} (p : Ghosts P) (k : SinkGhosts K) (e : ElfError)
    (o o' o'' : P) (s t : K) (w v v' a b : List ℕ) (n m all : ℕ) → n + m ≤ all → e ≡ Read
    → Emits p k (Ok (tt {0})) o o' s t w v a n → UsesParts {T = Unit {0}} p (Err e) o' o'' m
    → Emits {T = Unit {0}} p k (Err e) o o'' s t w v' (a ++ b) all
emits_unread p k e o o' o'' s t w v v' a b n m all more is done uses = record {
  text = done.text ++ b;
  is = text_both (p.told (p.kept o)) a b done.text b done.is (text_same (p.told (p.kept o)) b);
  flows = flows_leave k e s t w v v' done.text b is done.flows;
  parts = uses_stop p e o o'' (n + m) all more (uses_both p (Ok tt) (Err e) o o' o'' n m done.parts uses);
  err = inl is;
}

-- ---- The loop

module _ {P K : Type 0} (p : Ghosts P) (k : SinkGhosts K) (bytes : List ℕ) (due from to : ℕ) where
  -- from its beginning up to a place it was put
  abbrev pub IsPut : P → P → K → K → List ℕ → List ℕ → ℕ → Type 0
  IsPut o o' s t w v at =
      Emits p k (Ok (tt {0})) o o' s t w v (range from at bytes) (places_below due from at)

  pub range_starts : (o : P) (s : K) (w : List ℕ) → IsPut o o s s w w from
  range_starts o s w =
      emits_as p k (Ok tt) o o s s w w [] (range from from bytes) 0 (places_below due from from)
      (range_none from bytes) (omega arith) (emits_none p k o s w)

  -- the page could not be put
  pub range_stops : (e : ElfError) (o o' : P) (s t u : K) (w v v' : List ℕ) (at : ℕ) → from ≤ at → at ≤ to
      → e ≡ Write → IsPut o o' s t w v at → Flows {T = Unit {0}} k (Err e) t u v v' []
      → Emits {T = Unit {0}} p k (Err e) o o' s u w v' (range from to bytes) (places_below due from to)
  range_stops e o o' s t u w v v' at low high is done turn =
      let all : (range from at bytes ++ []) ++ range at to bytes ≡ range from to bytes =
      ap (λ (l : List ℕ). l ++ range at to bytes) (append-nil (range from at bytes))
      ∙ range_both from at to bytes low high in
      emits_as p k (Err e) o o' s u w v' ((range from at bytes ++ []) ++ range at to bytes) (range from to bytes)
      (places_below due from to) (places_below due from to) all (omega arith)
      (emits_stop p k e o o' s u w v' v' (range from at bytes ++ []) (range at to bytes)
      (places_below due from at + 0) (places_below due from to)
      (omega (arith, low, high))
      (emits_both p k tt (Err e) o o' o' s t u w v v' (range from at bytes) [] (places_below due from at) 0 done
      (emits_still p k (Err e) o' t u v v' [] 0 is turn)))

  -- after the page has room
  pub range_turned : (o o' : P) (s t u : K) (w v v' : List ℕ) (at : ℕ) → IsPut o o' s t w v at
      → Flows k (Ok (tt {0})) t u v v' [] → IsPut o o' s u w v' at
  range_turned o o' s t u w v v' at done turn =
      emits_as p k (Ok tt) o o' s u w v' (range from at bytes ++ []) (range from at bytes)
      (places_below due from at + 0) (places_below due from at) (append-nil (range from at bytes)) (omega arith)
      (emits_both p k tt (Ok tt) o o' o' s t u w v v' (range from at bytes) [] (places_below due from at) 0 done
      (emits_still p k (Ok tt) o' t u v v' [] 0 tt turn))

  -- the next bytes could not be copied
  pub range_unread : (e : ElfError) (o o' o'' : P) (s t u : K) (w v v' v'' : List ℕ) (at some : ℕ)
      → from ≤ at → at + some ≤ to → e ≡ Read → IsPut o o' s t w v at
      → Flows k (Ok (tt {0})) t u v v' []
      → UsesParts {T = Unit {0}} p (Err e) o' o'' (places_below due at (at + some))
      → Emits {T = Unit {0}} p k (Err e) o o'' s u w v'' (range from to bytes) (places_below due from to)
  range_unread e o o' o'' s t u w v v' v'' at some low high is done turn uses =
      emits_as p k (Err e) o o'' s u w v'' (range from at bytes ++ range at to bytes) (range from to bytes)
      (places_below due from to) (places_below due from to)
      (range_both from at to bytes low (omega (arith, high))) (omega arith)
      (emits_unread p k e o o' o'' s u w v' v'' (range from at bytes) (range at to bytes) (places_below due from at)
      (places_below due at (at + some)) (places_below due from to) (omega (arith, low, high)) is
      (range_turned o o' s t u w v v' at done turn) uses)

  -- the next bytes wait
  pub range_goes_on : (o o' o'' : P) (s t u : K) (w v v' v'' : List ℕ) (at some : ℕ) → from ≤ at
      → IsPut o o' s t w v at → Flows k (Ok (tt {0})) t u v v' []
      → WaitsMore (p.told (p.kept o')) (take some (drop at bytes)) v' v''
      → UsesParts p (Ok (tt {0})) o' o'' (places_below due at (at + some))
      → IsPut o o'' s u w v'' (at + some)
  range_goes_on o o' o'' s t u w v v' v'' at some low done turn more uses =
      let count : some ≡ at + some - at = omega arith in
      emits_as p k (Ok tt) o o'' s u w v'' (range from at bytes ++ take some (drop at bytes))
      (range from (at + some) bytes)
      (places_below due from at + places_below due at (at + some)) (places_below due from (at + some))
      (ap (λ (n : ℕ). range from at bytes ++ take n (drop at bytes)) count
      ∙ range_both from at (at + some) bytes low (omega arith))
      (omega (arith, low))
      (emits_both p k tt (Ok tt) o o' o'' s u u w v' v'' (range from at bytes)
      (take some (drop at bytes)) (places_below due from at)
      (places_below due at (at + some)) (range_turned o o' s t u w v v' at done turn)
      (emits_waits p k o' o'' u v' v'' (take some (drop at bytes)) (places_below due at (at + some)) more uses))

  -- all is put
  pub range_ends : (o o' : P) (s t : K) (w v : List ℕ) (at : ℕ) → at ≡ to → IsPut o o' s t w v at
      → Emits p k (Ok (tt {0})) o o' s t w v (range from to bytes) (places_below due from to)
  range_ends o o' s t w v at is done =
      subst (λ (n : ℕ). Emits p k (Ok tt) o o' s t w v (range from n bytes) (places_below due from n)) is done

-- ---- Parts that are kept

-- what is stated of the parts later on is stated of them as they were
pub same_due : {P T : Type 0} (p : Ghosts P) (r : Result T ElfError) (o o' o'' : P) (of : Origin) (a b : ℕ)
    → p.kept o' ≡ p.kept o → UsesParts p r o' o'' (due_in p o' of a b)
    → UsesParts p r o' o'' (places_below (origin_due (p.due (p.kept o)) (length (p.base (p.kept o))) of) a b)
same_due p r o o' o'' of a b same uses =
    subst (λ (x : p.Kept). UsesParts p r o' o''
    (places_below (origin_due (p.due x) (length (p.base x)) of) a b)) same uses

pub same_waits : {P : Type 0} (p : Ghosts P) (o o' : P) (of : Origin) (n a : ℕ) (w v : List ℕ)
    → p.kept o' ≡ p.kept o → WaitsMore (p.told (p.kept o')) (take n (drop a (origin_text p o' of))) w v
    → WaitsMore (p.told (p.kept o')) (take n (drop a (origin_text p o of))) w v
same_waits p o o' of n a w v same waits =
    subst (λ (x : p.Kept). WaitsMore (p.told (p.kept o'))
    (take n (drop a (origin_bytes (p.pieces x) (p.base x) of))) w v) same waits

pub range_ready : {P : Type 0} (p : Ghosts P) (of : Origin) (o o' : P) → p.kept o' ≡ p.kept o
    → ReadyFor (p.ready (p.kept o)) of → ReadyFor (p.ready (p.kept o')) of
range_ready p of o o' same is = subst (λ (x : p.Kept). ReadyFor (p.ready x) of) (sym same) is
