-- The plan as it is made: what the last section gets comes first.
use Rattle.std.proofs.Common.{◌≡◌, ◌+◌, ◌-◌, ◌<◌, ◌≤◌, ◌⊎◌, ℕ, Bool, true, false, not, List, [], ◌∷◌, ◌++◌, length, get_or, None, Result, Ok, Err, refl, sym, ap, ◌∙◌, subst, inl, inr, arith}
use Rattle.std.specs.Prelude.{OnOk, nat_lt, ◌==◌, ◌&&◌, if◌then◌else◌}
use Rattle.std.proofs.lemmas.Bool.{cases_lt, eq-eqb}
use Rattle.std.proofs.lemmas.List.{get_or_append_left, get_or_push, length_push}
use Rattle.elf_types.specs.declared.errors.ElfError.{ElfError}
use Rattle.elf_types.specs.declared.records.Kind.{Kind}
use Rattle.elf_xlate.specs.Translation.{items_kind}
use Rattle.elf_outside.specs.declared.sources.Source.{Ghosts}
use Rattle.symbol_lookup.specs.elf_object.Object.{Object, piece_at}
use Rattle.symbol_lookup.specs.elf_object.Answers.{lend_refusal}
use Rattle.symbol_lookup.specs.elf_object.Calls.{update_shdr_refusal}
use Rattle.symbol_lookup.specs.elf_object.Valid.{IsObject}
use Rattle.symbol_lookup.specs.elf_descriptor.State.{State}
use Rattle.symbol_lookup.specs.hash_model.Reordered.{new_index}
use Rattle.hash_build.specs.Rows.{IsOrder}
use Rattle.hash_order.specs.Indexes.{AreBelow}
use Rattle.hash_order.specs.declared.nexts.Next.{Next}
use Rattle.hash_order.specs.declared.nexts.Next.TheVariants as nexts
use Rattle.hash_order.specs.Plans.{signed, planned_next, planned_signature, given_by, IsStatedNext, IsPlan, IsAtHand, IsReadyNext, AreReady, AppendsNext}
use Rattle.hash_order.specs.Reading.{ReadsHomes}
use Rattle.hash_order.proofs.FollowLaws.{signed_passes}

-- an order has indexes below its length
pub order_below : (order : List ℕ) (count : ℕ) → IsOrder order count → AreBelow order
order_below order count is = λ k within.
    omega (arith, is.long, is.below k (omega (arith, within, is.long)))

-- ---- The signature of a group

module _ (order : List ℕ) (info : ℕ) where
  by_signature : (P : Next → Type 0) → P nexts.Stay → P (nexts.Signature (new_index order info))
      → P (planned_signature order info)
  by_signature P stay signature = by (nat_lt info (length order))
    where
      by : (b : Bool) → P (if b then nexts.Signature (new_index order info) else nexts.Stay)
      by true = signature
      by false = stay

  pub signature_next : (told : Bool)
      → IsStatedNext told (planned_signature order info) (planned_signature order info)
  signature_next told = by_signature (λ x. IsStatedNext told x x) tt refl

  pub signature_ready : {S : Type 0} (state : State S) (n : ℕ) → IsObject state.o
      → n < length state.o.sections → (n ≡ 0 → ⊥)
      → IsReadyNext state n (planned_signature order info)
  signature_ready state n is below other =
      by_signature (λ x. IsReadyNext state n x) tt
      (signed_passes state.o n (new_index order info) is below other)

pub not_first : (b : Bool) (n : ℕ) → (b && not (n == 0)) ≡ true → n ≡ 0 → ⊥
not_first true n is same =
    let never : false ≡ true = sym (ap not (eq-eqb n 0 same)) ∙ is in cc
not_first false n is same = cc

pub appended : {S : Type 0} (old new : State S) (s : ℕ) (order : List ℕ) (n : ℕ)
    (before after : List Next) (x : Next) (r : Result (Unit {0}) ElfError)
    → OnOk r (after ≡ before ++ x ∷ []) → IsStatedNext old.told x (planned_next old.o s order n)
    → IsReadyNext new n x → OnOk r (AppendsNext old new s order n before after)
appended old new s order n before after x (Err e) items is ready = tt
appended old new s order n before after x (Ok y) items is ready =
    record { next = x; items = items; is = is; ready = ready }

-- ---- What is at hand stays so while more is read

module _ {S T : Type 0} (g : Ghosts S) (homes : List ℕ) (r : Result T ElfError) (old new : State S)
    (reads : ReadsHomes g homes r old new) where
  pub hand_stays : (n : ℕ) (kind : Kind) → IsAtHand old n kind → IsAtHand new n kind
  hand_stays n kind hand = record {
    passed = ap (λ (o : Object). lend_refusal o kind n 0) reads.object ∙ hand.passed;
    holds = reads.reads.holds_on n 0 hand.holds;
    loaded = λ clean. reads.reads.stays n (hand.loaded
        (subst (λ (o : Object). (piece_at o n 0).own ≡ None) reads.object clean));
  }

  pub ready_stays : (n : ℕ) (x : Next) → IsReadyNext old n x → IsReadyNext new n x
  ready_stays n nexts.Stay ready = tt
  ready_stays n (nexts.Items l) ready = (ready.0, hand_stays n (items_kind l) ready.1)
  ready_stays n (nexts.Signature info) ready =
      ap (λ (o : Object). update_shdr_refusal o n (signed o n info)) reads.object ∙ ready

-- ---- One section more

pushed : (P : ℕ → Next → Type 0) (l : List Next) (x : Next) (done : ℕ) → length l ≡ done
    → ((k : ℕ) → k < done → P k (get_or l k nexts.Stay)) → P done x
    → (k : ℕ) → k < done + 1 → P k (get_or (l ++ x ∷ []) k nexts.Stay)
pushed P l x done long so_far last k below = by (cases_lt k done)
  where
    by : (k < done) ⊎ (done ≤ k) → P k (get_or (l ++ x ∷ []) k nexts.Stay)
    by (inl low) =
        subst (λ (y : Next). P k y)
        (sym (get_or_append_left l (x ∷ []) nexts.Stay k (omega (arith, low, long))))
        (so_far k low)
    by (inr high) =
        let same : k ≡ done = omega (arith, below, high) in
        subst (λ (y : Next). P k y)
        (sym (get_or_push l x nexts.Stay k (omega (arith, long, same))))
        (subst (λ (j : ℕ). P j x) (sym same) last)

module _ {S : Type 0} (old : State S) (s : ℕ) (order : List ℕ) where
  abbrev number_of : ℕ → ℕ
  number_of k = length old.o.sections - 1 - k

  -- the last sections are planned, so many
  pub record ArePlanned (new : State S) (done : ℕ) (plan : List Next) : Type 0 where
    pub long : length plan ≡ done
    pub each : (k : ℕ) → k < done
        → IsStatedNext old.told (get_or plan k nexts.Stay) (planned_next old.o s order (number_of k))
    pub ready : (k : ℕ) → k < done → IsReadyNext new (number_of k) (get_or plan k nexts.Stay)

  pub none_planned : (plan : List Next) → plan ≡ [] → ArePlanned old 0 plan
  none_planned plan is = record {
    long = ap (λ (l : List Next). length l) is;
    each = λ k below. absurd (omega (arith, below));
    ready = λ k below. absurd (omega (arith, below));
  }

  pub more_planned : {T : Type 0} (g : Ghosts S) (homes : List ℕ) (r : Result T ElfError)
      (mid new : State S) (done n : ℕ) (plan plan' : List Next) → mid.o ≡ old.o
      → mid.told ≡ old.told → n ≡ number_of done → ReadsHomes g homes r mid new
      → ArePlanned mid done plan → AppendsNext mid new s order n plan plan'
      → ArePlanned new (done + 1) plan'
  more_planned g homes r mid new done n plan plan' same told is reads are more =
      let long' : length (plan ++ more.next ∷ []) ≡ done + 1 =
      omega (arith, length_push plan more.next, are.long) in
      subst (λ (l : List Next). ArePlanned new (done + 1) l) (sym more.items) (record {
        long = long';
        each = pushed (λ k x. IsStatedNext old.told x (planned_next old.o s order (number_of k))) plan
            more.next done are.long are.each
            (subst (λ (b : Bool). IsStatedNext b more.next (planned_next old.o s order (number_of done))) told
            (subst (λ (o : Object). IsStatedNext mid.told more.next
            (planned_next o s order (number_of done))) same
            (subst (λ (m : ℕ). IsStatedNext mid.told more.next (planned_next mid.o s order m)) is more.is)));
        ready = pushed (λ k x. IsReadyNext new (number_of k) x) plan more.next done are.long
            (λ k below. ready_stays g homes r mid new reads (number_of k) _ (are.ready k below))
            (subst (λ (m : ℕ). IsReadyNext new m more.next) is more.ready);
      })

  module _ (new : State S) (done : ℕ) (plan : List Next) (all : done ≡ length old.o.sections)
      (are : ArePlanned new done plan) where
    turned : (n : ℕ) → n < length old.o.sections → number_of (number_of n) ≡ n
    turned n below = omega (arith, below)

    within : (n : ℕ) → n < length old.o.sections → number_of n < done
    within n below = omega (arith, below, all)

    pub is_plan : IsPlan old.told old.o s order plan
    is_plan = record {
      long = are.long ∙ all;
      each = λ n below.
          subst (λ (m : ℕ). IsStatedNext old.told (given_by plan (length old.o.sections) n)
          (planned_next old.o s order m)) (turned n below) (are.each (number_of n) (within n below));
    }

    pub plan_ready : new.o ≡ old.o → AreReady new plan
    plan_ready same =
        subst (λ (c : ℕ). (n : ℕ) → n < c → IsReadyNext new n (given_by plan c n))
        (sym (ap (λ (o : Object). length o.sections) same))
        (λ n below.
        subst (λ (m : ℕ). IsReadyNext new m (given_by plan (length old.o.sections) n))
        (turned n below) (are.ready (number_of n) (within n below)))
