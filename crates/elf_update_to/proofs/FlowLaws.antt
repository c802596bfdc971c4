-- Texts that go through a page, one after another.
use Rattle.std.proofs.Common.{◌≡◌, ℕ, ◌+◌, List, [], ◌++◌, Option, Some, None, Result, Ok, Err, length, refl, sym, ap, ◌∙◌, subst, append_assoc, arith}
use Rattle.std.specs.Prelude.{Bool}
use Rattle.std.specs.Option.{option_map}
use Rattle.std.proofs.lemmas.List.{append-nil, length-append, take_all}
use Rattle.elf_types.specs.declared.errors.ElfError.{ElfError}
use Rattle.elf_update_plan.specs.elf_outside.Writes.{Appends, AppendsFront}
use Rattle.elf_types.specs.declared.errors.ElfError.TheVariants.{Read}
use Rattle.elf_update_plan.specs.elf_outside.Puts.{WriteRose, Puts}
use Rattle.elf_update_plan.specs.elf_outside.declared.sinks.Sink.{Ghosts}
use Rattle.elf_update_plan.proofs.elf_outside.WriteLemmas.{appends_both, front_after, front_before}
use Rattle.elf_update_plan.proofs.elf_outside.PutLemmas.{write_rose_on, uses_sink_both}
use Rattle.elf_update_to.specs.Texts.{IsText, Streams, Flows}

-- ---- Texts

pub text_same : (told : Bool) (stated : List ℕ) → IsText told stated stated
text_same told stated = record { long = refl; exact = λ is. refl }

pub text_both : (told : Bool) (a b x y : List ℕ) → IsText told a x → IsText told b y
    → IsText told (a ++ b) (x ++ y)
text_both told a b x y first second = record {
  long = length-append x y ∙ ap (λ (n : ℕ). n + length y) first.long
      ∙ ap (λ (n : ℕ). length a + n) second.long ∙ sym (length-append a b);
  exact = λ is. ap (λ (l : List ℕ). l ++ y) (first.exact is) ∙ ap (λ (l : List ℕ). a ++ l) (second.exact is);
}

-- ---- Streams

pub no_appends : (o : Option (List ℕ)) → o ≡ option_map (λ bytes. bytes ++ []) o
no_appends None = refl
no_appends (Some l) = ap Some (sym (append-nil l))

-- a text that waits
pub stream_waits : (o : Option (List ℕ)) (waited text : List ℕ) → Streams o o waited (waited ++ text) text
stream_waits o waited text = record { put = []; appends = no_appends o; all = refl }

-- what waited is put
pub stream_put : (a b : Option (List ℕ)) (waited : List ℕ) → Appends a b waited → Streams a b waited [] []
stream_put a b waited done = record { put = waited; appends = done; all = refl }

pub stream_both : (a b c : Option (List ℕ)) (w1 w2 w3 x y : List ℕ)
    → Streams a b w1 w2 x → Streams b c w2 w3 y → Streams a c w1 w3 (x ++ y)
stream_both a b c w1 w2 w3 x y first second = record {
  put = first.put ++ second.put;
  appends = appends_both a b c first.put second.put first.appends second.appends;
  all = sym (append_assoc w1 x y)
      ∙ ap (λ (l : List ℕ). l ++ y) first.all
      ∙ append_assoc first.put w2 y
      ∙ ap (λ (l : List ℕ). first.put ++ l) second.all
      ∙ sym (append_assoc first.put second.put w3);
}

-- a front of what waits after a text is one of what waited before it and of the text
pub front_through : (a b c : Option (List ℕ)) (w1 w2 x y : List ℕ)
    → Streams a b w1 w2 x → AppendsFront b c (w2 ++ y) → AppendsFront a c (w1 ++ (x ++ y))
front_through a b c w1 w2 x y first front =
    let all : w1 ++ (x ++ y) ≡ first.put ++ (w2 ++ y) =
    sym (append_assoc w1 x y) ∙ ap (λ (l : List ℕ). l ++ y) first.all ∙ append_assoc first.put w2 y in
    subst (AppendsFront a c) (sym all) (front_after a b c first.put (w2 ++ y) first.appends front)

-- ---- Steps

pub flows_none : {K : Type 0} (k : Ghosts K) (s : K) (w : List ℕ) → Flows k (Ok (tt {0})) s s w w []
flows_none k s w = record {
  uses = record { rest = refl; later = omega arith; write = tt };
  ok = subst (λ (l : List ℕ). Streams (k.wrote s) (k.wrote s) w l []) (append-nil w) (stream_waits (k.wrote s) w []);
  err = tt;
}

pub flows_both : {K T U : Type 0} (k : Ghosts K) (x : T) (q : Result U ElfError) (s t u : K) (w1 w2 w3 a b : List ℕ)
    → Flows k (Ok x) s t w1 w2 a → Flows k q t u w2 w3 b → Flows k q s u w1 w3 (a ++ b)
flows_both k x (Ok y) s t u w1 w2 w3 a b first second = record {
  uses = uses_sink_both k (Ok x) (Ok y) s t u first.uses second.uses;
  ok = stream_both (k.wrote s) (k.wrote t) (k.wrote u) w1 w2 w3 a b first.ok second.ok;
  err = tt;
}
flows_both k x (Err e) s t u w1 w2 w3 a b first second = record {
  uses = uses_sink_both k (Ok x) (Err e) s t u first.uses second.uses;
  ok = tt;
  err = front_through (k.wrote s) (k.wrote t) (k.wrote u) w1 w2 a b first.ok second.err;
}

-- a text whose front was refused, of which more was to come
pub flows_stop : {K T U : Type 0} (k : Ghosts K) (e : ElfError) (s t : K) (w v v' a b : List ℕ)
    → Flows {T = T} k (Err e) s t w v a → Flows {T = U} k (Err e) s t w v' (a ++ b)
flows_stop {T = T} {U = U} k e s t w v v' a b first = record {
  uses = record {
    rest = first.uses.rest;
    later = first.uses.later;
    write = write_rose_on T U e (k.faults s) (k.faults t) first.uses.write;
  };
  ok = tt;
  err = subst (AppendsFront (k.wrote s) (k.wrote t)) (append_assoc w a b)
      (front_before (k.wrote s) (k.wrote t) (w ++ a) b first.err);
}

-- the same text by another name
pub flows_as : {K T : Type 0} (k : Ghosts K) (r : Result T ElfError) (s t : K) (w v a b : List ℕ)
    → a ≡ b → Flows k r s t w v a → Flows k r s t w v b
flows_as {T = T} k r s t w v a b same flows = subst (λ (l : List ℕ). Flows k r s t w v l) same flows

-- a step that puts what waits
pub flows_put : {K : Type 0} (k : Ghosts K) (r : Result (Unit {0}) ElfError) (s t : K) (w : List ℕ)
    → Puts k r s t w → Flows k r s t w [] []
flows_put k (Ok x) s t w puts = record {
  uses = puts.uses;
  ok = stream_put (k.wrote s) (k.wrote t) w puts.ok;
  err = tt;
}
flows_put k (Err e) s t w puts = record {
  uses = puts.uses;
  ok = tt;
  err = subst (AppendsFront (k.wrote s) (k.wrote t)) (sym (append-nil w)) puts.err;
}

-- a text that waits
pub flows_waits : {K T : Type 0} (k : Ghosts K) (x : T) (s : K) (w a : List ℕ) → Flows k (Ok x) s s w (w ++ a) a
flows_waits k x s w a = record {
  uses = record { rest = refl; later = omega arith; write = tt };
  ok = stream_waits (k.wrote s) w a;
  err = tt;
}

-- a step after which another failed that is none of the sink's
pub flows_leave : {K U : Type 0} (k : Ghosts K) (e : ElfError) (s t : K) (w v v' a b : List ℕ) → e ≡ Read
    → Flows k (Ok (tt {0})) s t w v a → Flows {T = U} k (Err e) s t w v' (a ++ b)
flows_leave {U = U} k e s t w v v' a b is first = record {
  uses = record {
    rest = first.uses.rest;
    later = first.uses.later;
    write = subst (λ (x : ElfError). WriteRose {T = U} (Err x) (k.faults s) (k.faults t)) (sym is) tt;
  };
  ok = tt;
  err =
      let all : w ++ (a ++ b) ≡ first.ok.put ++ (v ++ b) =
      sym (append_assoc w a b) ∙ ap (λ (l : List ℕ). l ++ b) first.ok.all ∙ append_assoc first.ok.put v b in
      subst (AppendsFront (k.wrote s) (k.wrote t)) (sym all)
      (front_before (k.wrote s) (k.wrote t) first.ok.put (v ++ b) (
        length first.ok.put,
        subst (Appends (k.wrote s) (k.wrote t))
            (sym (take_all (length first.ok.put) first.ok.put (omega arith))) first.ok.appends,
      ));
}

-- a text that is put while nothing waits
pub flows_past : {K : Type 0} (k : Ghosts K) (r : Result (Unit {0}) ElfError) (s t : K) (a : List ℕ)
    → Puts k r s t a → Flows k r s t [] [] a
flows_past k (Ok x) s t a puts = record {
  uses = puts.uses;
  ok = record { put = a; appends = puts.ok; all = sym (append-nil a) };
  err = tt;
}
flows_past k (Err e) s t a puts = record { uses = puts.uses; ok = tt; err = puts.err }
