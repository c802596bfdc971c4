-- A page that is filled, and the fill byte that goes through it.
use Rattle.std.proofs.Common.{◌≡◌, ℕ, ◌+◌, ◌-◌, ◌≤◌, List, [], ◌++◌, Result, Ok, Err, length, take, drop, replicate, sym, ap, ◌∙◌, subst, arith}
use borrow.Rule.Slice.PartMut.{put_mid}
use Rattle.std.proofs.lemmas.List.{append-nil, length-append, length-take, length-drop}
use Rattle.std.proofs.lemmas.List.{replicate-append-replicate}
use Rattle.elf_types.specs.declared.errors.ElfError.{ElfError}
use Rattle.elf_update_plan.specs.elf_outside.Puts.{Puts}
use Rattle.elf_update_plan.specs.elf_outside.declared.sinks.Sink.{Ghosts}
use Rattle.elf_update_to.specs.Texts.{Flows}
use Rattle.elf_update_to.proofs.FlowLaws.{flows_none, flows_both, flows_stop, flows_as, flows_waits, flows_past}

-- writing over bytes in the middle keeps their number
pub length_mid : (a k : ℕ) (xs ys : List ℕ) → length ys ≡ k → a + k ≤ length xs
    → length (put_mid a k xs ys) ≡ length xs
length_mid a k xs ys same fits =
    let front = length-take a xs in
    let behind = length-drop a xs in
    let rest = length-drop k (drop a xs) in
    let second = length-append ys (drop k (drop a xs)) in
    let whole = length-append (take a xs) (ys ++ drop k (drop a xs)) in
    omega (arith, front, behind, rest, second, whole, same, fits)

-- ---- The fill byte

replicate_both : (n m byte : ℕ) → replicate n byte ++ replicate m byte ≡ replicate (n + m) byte
replicate_both n m byte = replicate-append-replicate n m byte

module _ {K : Type 0} (k : Ghosts K) (byte count : ℕ) where
  pub fill_starts : (s : K) (w : List ℕ) → Flows k (Ok (tt {0})) s s w w (replicate (count - count) byte)
  fill_starts s w =
      let none : 0 ≡ count - count = omega arith in
      flows_as k (Ok tt) s s w w [] (replicate (count - count) byte) (ap (λ (n : ℕ). replicate n byte) none)
      (flows_none k s w)

  pub fill_stops : (e : ElfError) (s t u : K) (w1 w2 w3 : List ℕ) (left : ℕ) → left ≤ count
      → Flows k (Ok (tt {0})) s t w1 w2 (replicate (count - left) byte)
      → Flows {T = Unit {0}} k (Err e) t u w2 w3 []
      → Flows {T = Unit {0}} k (Err e) s u w1 w3 (replicate count byte)
  fill_stops e s t u w1 w2 w3 left within done turn =
      let all : count - left + left ≡ count = omega arith in
      flows_as k (Err e) s u w1 w3 ((replicate (count - left) byte ++ []) ++ replicate left byte) (replicate count byte)
      (ap (λ (l : List ℕ). l ++ replicate left byte) (append-nil (replicate (count - left) byte))
      ∙ replicate_both (count - left) left byte ∙ ap (λ (n : ℕ). replicate n byte) all)
      (flows_stop k e s u w1 w3 w3 (replicate (count - left) byte ++ []) (replicate left byte)
      (flows_both k tt (Err e) s t u w1 w2 w3 (replicate (count - left) byte) [] done turn))

  pub fill_goes_on : (s t u : K) (w1 w2 w3 w4 : List ℕ) (left some : ℕ) → left ≤ count → some ≤ left
      → w4 ≡ w3 ++ replicate some byte
      → Flows k (Ok (tt {0})) s t w1 w2 (replicate (count - left) byte)
      → Flows k (Ok (tt {0})) t u w2 w3 []
      → Flows k (Ok (tt {0})) s u w1 w4 (replicate (count - (left - some)) byte)
  fill_goes_on s t u w1 w2 w3 w4 left some within fits is done turn =
      let all : count - left + some ≡ count - (left - some) = omega arith in
      subst (λ (w : List ℕ). Flows k (Ok (tt {0})) s u w1 w (replicate (count - (left - some)) byte)) (sym is)
      (flows_as k (Ok tt) s u w1 (w3 ++ replicate some byte)
      (replicate (count - left) byte ++ ([] ++ replicate some byte))
      (replicate (count - (left - some)) byte)
      (replicate_both (count - left) some byte ∙ ap (λ (n : ℕ). replicate n byte) all)
      (flows_both k tt (Ok tt) s t u w1 w2 (w3 ++ replicate some byte)
      (replicate (count - left) byte) ([] ++ replicate some byte) done
      (flows_both k tt (Ok tt) t u u w2 w3 (w3 ++ replicate some byte) [] (replicate some byte) turn
      (flows_waits k tt u w3 (replicate some byte)))))

  pub fill_ends : (s t : K) (w1 w2 : List ℕ) (left : ℕ) → left ≤ 0
      → Flows k (Ok (tt {0})) s t w1 w2 (replicate (count - left) byte)
      → Flows k (Ok (tt {0})) s t w1 w2 (replicate count byte)
  fill_ends s t w1 w2 left none done =
      let all : count - left ≡ count = omega arith in
      flows_as k (Ok tt) s t w1 w2 (replicate (count - left) byte) (replicate count byte)
      (ap (λ (n : ℕ). replicate n byte) all) done

-- ---- Zeros that go to the sink by themselves

module _ {K : Type 0} (k : Ghosts K) (count : ℕ) where
  pub hole_stops : (e : ElfError) (s t : K) (w v : List ℕ) → Flows {T = Unit {0}} k (Err e) s t w v []
      → Flows {T = Unit {0}} k (Err e) s t w v (replicate count 0)
  hole_stops e s t w v flows = flows_stop k e s t w v v [] (replicate count 0) flows

  pub hole_ends : (r : Result (Unit {0}) ElfError) (s t u : K) (w v : List ℕ) → v ≡ []
      → Flows k (Ok (tt {0})) s t w v [] → Puts k r t u (replicate count 0)
      → Flows k r s u w v (replicate count 0)
  hole_ends r s t u w v empty flows puts =
      flows_both k tt r s t u w v v [] (replicate count 0) flows
      (subst (λ (l : List ℕ). Flows k r t u l l (replicate count 0)) (sym empty)
      (flows_past k r t u (replicate count 0) puts))
