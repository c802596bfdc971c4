-- Steps that write an image from its parts, one after another.
use Rattle.std.proofs.Common.{◌≡◌, ◌⊎◌, inr, ℕ, ◌+◌, ◌≤◌, List, [], ◌++◌, Result, Ok, Err, refl, sym, ap, ◌∙◌, subst, arith}
use Rattle.std.specs.Prelude.{Bool, IfErr}
use Rattle.std.proofs.lemmas.List.{append-nil}
use Rattle.elf_types.specs.declared.errors.ElfError.{ElfError}
use Rattle.elf_types.specs.declared.errors.ElfError.TheVariants.{Read, Write}
use Rattle.elf_update_plan.specs.elf_outside.Asks.{DeviceReadRose}
use Rattle.elf_update_plan.specs.elf_outside.declared.sinks.Sink.{Ghosts as SinkGhosts}
use Rattle.elf_update_plan.proofs.elf_outside.PutLemmas.{device_read_rose_before, device_read_rose_on}
use Rattle.elf_update_to.specs.Texts.{IsText, Flows}
use Rattle.elf_update_to.specs.Emits.{UsesParts, Emits}
use Rattle.elf_update_to.specs.declared.parts.ImageParts.{Ghosts}
use Rattle.elf_update_to.proofs.FlowLaws.{text_same, text_both, flows_none, flows_both, flows_stop}

-- ---- The parts

pub uses_none : {P : Type 0} (p : Ghosts P) (s : P) → UsesParts p (Ok (tt {0})) s s 0
uses_none p s = record {
  kept = refl;
  later = omega arith;
  read = tt;
  taken = record { later = omega arith; no_more = omega arith };
}

pub uses_both : {P T U : Type 0} (p : Ghosts P) (r : Result T ElfError) (q : Result U ElfError)
    (s t u : P) (n m : ℕ) → UsesParts p r s t n → UsesParts p q t u m → UsesParts p q s u (n + m)
uses_both p r q s t u n m first second = record {
  kept = second.kept ∙ first.kept;
  later = omega (arith, first.later, second.later);
  read = device_read_rose_before q (p.faults s) (p.faults t) (p.faults u) first.later second.read;
  taken = record {
    later = omega (arith, first.taken.later, second.taken.later);
    no_more = omega (arith, first.taken.no_more, second.taken.no_more);
  };
}

pub uses_more : {P T : Type 0} (p : Ghosts P) (r : Result T ElfError) (s t : P) (n m : ℕ) → n ≤ m
    → UsesParts p r s t n → UsesParts p r s t m
uses_more p r s t n m more uses = record {
  kept = uses.kept;
  later = uses.later;
  read = uses.read;
  taken = record { later = uses.taken.later; no_more = omega (arith, uses.taken.no_more) };
}

pub uses_stop : {P T U : Type 0} (p : Ghosts P) (e : ElfError) (s t : P) (n m : ℕ) → n ≤ m
    → UsesParts {T = T} p (Err e) s t n → UsesParts {T = U} p (Err e) s t m
uses_stop {T = T} {U = U} p e s t n m more uses = record {
  kept = uses.kept;
  later = uses.later;
  read = device_read_rose_on T U e (p.faults s) (p.faults t) uses.read;
  taken = record { later = uses.taken.later; no_more = omega (arith, uses.taken.no_more) };
}

-- a step that leaves the parts as they are
pub uses_still : {P T : Type 0} (p : Ghosts P) (r : Result T ElfError) (s : P) (n : ℕ)
    → IfErr r (λ e. e ≡ Write) → UsesParts p r s s n
uses_still p (Ok x) s n is = record {
  kept = refl;
  later = omega arith;
  read = tt;
  taken = record { later = omega arith; no_more = omega arith };
}
uses_still {T = T} p (Err e) s n is = record {
  kept = refl;
  later = omega arith;
  read = subst (λ (x : ElfError). DeviceReadRose {T = T} (Err x) (p.faults s) (p.faults s)) (sym is) tt;
  taken = record { later = omega arith; no_more = omega arith };
}

-- ---- Steps

pub emits_none : {P K : Type 0} (p : Ghosts P) (k : SinkGhosts K) (o : P) (s : K) (w : List ℕ)
    → Emits p k (Ok (tt {0})) o o s s w w [] 0
emits_none p k o s w = record {
  text = [];
  is = text_same (p.told (p.kept o)) [];
  flows = flows_none k s w;
  parts = uses_none p o;
  err = tt;
}

pub emits_both : {P K T U : Type 0} (p : Ghosts P) (k : SinkGhosts K) (x : T) (q : Result U ElfError)
    (o o' o'' : P) (s t u : K) (w1 w2 w3 a b : List ℕ) (n m : ℕ)
    → Emits p k (Ok x) o o' s t w1 w2 a n → Emits p k q o' o'' t u w2 w3 b m
    → Emits p k q o o'' s u w1 w3 (a ++ b) (n + m)
emits_both p k x q o o' o'' s t u w1 w2 w3 a b n m first second =
    let told : p.told (p.kept o') ≡ p.told (p.kept o) = ap p.told first.parts.kept in
    record {
      text = first.text ++ second.text;
      is = text_both (p.told (p.kept o)) a b first.text second.text first.is
          (subst (λ (c : Bool). IsText c b second.text) told second.is);
      flows = flows_both k x q s t u w1 w2 w3 first.text second.text first.flows second.flows;
      parts = uses_both p (Ok x) q o o' o'' n m first.parts second.parts;
      err = second.err;
    }

-- a step that was refused, after which more was to come
pub emits_stop : {P K T U : Type 0} (p : Ghosts P) (k : SinkGhosts K) (e : ElfError)
    (o o' : P) (s t : K) (w v v' a b : List ℕ) (n m : ℕ) → n ≤ m
    → Emits {T = T} p k (Err e) o o' s t w v a n
    → Emits {T = U} p k (Err e) o o' s t w v' (a ++ b) m
emits_stop p k e o o' s t w v v' a b n m more first = record {
  text = first.text ++ b;
  is = text_both (p.told (p.kept o)) a b first.text b first.is (text_same (p.told (p.kept o)) b);
  flows = flows_stop k e s t w v v' first.text b first.flows;
  parts = uses_stop p e o o' n m more first.parts;
  err = first.err;
}

-- the same text by another name, and more that may be asked for
pub emits_as : {P K T : Type 0} (p : Ghosts P) (k : SinkGhosts K) (r : Result T ElfError)
    (o o' : P) (s t : K) (w v a b : List ℕ) (n m : ℕ) → a ≡ b → n ≤ m
    → Emits p k r o o' s t w v a n → Emits p k r o o' s t w v b m
emits_as p k r o o' s t w v a b n m same more step = record {
  text = step.text;
  is = subst (λ (l : List ℕ). IsText (p.told (p.kept o)) l step.text) same step.is;
  flows = step.flows;
  parts = uses_more p r o o' n m more step.parts;
  err = step.err;
}

-- a step that reads nothing
pub emits_still : {P K T : Type 0} (p : Ghosts P) (k : SinkGhosts K) (r : Result T ElfError)
    (o : P) (s t : K) (w v a : List ℕ) (n : ℕ) → IfErr r (λ e. e ≡ Write)
    → Flows k r s t w v a → Emits p k r o o s t w v a n
emits_still p k r o s t w v a n is flows = record {
  text = a;
  is = text_same (p.told (p.kept o)) a;
  flows = flows;
  parts = uses_still p r o n is;
  err = write_alone r is;
}
  where
    write_alone : {T : Type 0} (r : Result T ElfError) → IfErr r (λ e. e ≡ Write)
        → IfErr r (λ e. (e ≡ Read) ⊎ (e ≡ Write))
    write_alone (Ok x) is = tt
    write_alone (Err e) is = inr is

-- an Ok with another value
pub emits_value : {P K T U : Type 0} (p : Ghosts P) (k : SinkGhosts K) (x : T) (y : U)
    (o o' : P) (s t : K) (w v a : List ℕ) (n : ℕ)
    → Emits p k (Ok x) o o' s t w v a n → Emits p k (Ok y) o o' s t w v a n
emits_value p k x y o o' s t w v a n step = record {
  text = step.text;
  is = step.is;
  flows = record {
    uses = record { rest = step.flows.uses.rest; later = step.flows.uses.later; write = tt };
    ok = step.flows.ok;
    err = tt;
  };
  parts = record { kept = step.parts.kept; later = step.parts.later; read = tt; taken = step.parts.taken };
  err = tt;
}

-- what waits is put
pub emits_flushed : {P K : Type 0} (p : Ghosts P) (k : SinkGhosts K) (r : Result (Unit {0}) ElfError)
    (o o' : P) (s t u : K) (w v v' a : List ℕ) (n : ℕ) → IfErr r (λ e. e ≡ Write)
    → Emits p k (Ok (tt {0})) o o' s t w v a n → Flows k r t u v v' []
    → Emits p k r o o' s u w v' a n
emits_flushed p k r o o' s t u w v v' a n err step flows =
    emits_as p k r o o' s u w v' (a ++ []) a (n + 0) n (append-nil a) (omega arith)
    (emits_both p k tt r o o' o' s t u w v v' a [] n 0 step (emits_still p k r o' t u v v' [] 0 err flows))
