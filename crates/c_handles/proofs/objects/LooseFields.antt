-- A loose box by value: its machine value, and what it owns beside it.
use Rattle.std.proofs.Common.{◌≡◌, ℕ, List, [], ◌∷◌, ◌++◌, refl, subst}
use Rattle.std.proofs.alloc.Calls.{Fits, handle_tells}
use Rattle.std.proofs.BoxSteps.Form as box
use seplogic.Ra.Ura.{Ura}
use mir.Raw.{raw as bare}
use mir.Val.{Val, vptr, vstruct, of_list}
use base.Logic.{never, fst∗}
use types.Logic.{Logic, sem}
use types.Kit.{Item, Goal, Seq, Step, step, ‵, ◌$◌, move, drop, fsplit, fjoin, fpick, fpack, feq_i, feq_l}
use denote.RattleType.{RattleType, Valss}
use denote.RawPtr.{Ptr, RawPtr, block_ptr, null_ptr, ptr_val, in_a_block}
use denote.Steps.{nothing}
use denote.Struct.Struct.{within}
use denote.Struct.Owning.{shape}
use Rattle.std.specs.Box.Ownership.{box_owns}
use Rattle.c_handles.specs.contracts.objects.loose.Loose as loose

module _ (E : box.Bx) where
  abbrev pub L : RattleType
  L = loose.the_row (box.R E) (box.P E) E.al.g

  module _ {M : Type 1} {𝓤 : Ura M} {𝓛 : Logic 𝓤} {K : Type 0} {Γ : List (Item 𝓤)}
      {G : Goal 𝓤 𝓛.H} where
    -- [what the box owns; the allocator]
    pub loose_out : K → (d : L.Denot) (vs : List Val)
        → ((b o : ℕ) (h : Val) → d.at ≡ block_ptr b o → vs ≡ box.word E h b o ∷ [] → Fits E.al h
        → Seq K 𝓛 (‵ (box_owns (E.al.g.dealloc_token d.alloc) (box.R E) (block_ptr b o) d.value)
        ∷ ‵ (E.al.row.own_val d.alloc (h ∷ [])) ∷ Γ) G)
        → Seq K 𝓛 (‵ (L.own_val d vs) ∷ Γ) G
    loose_out t d vs k =
        fsplit t $ fpick t (λ vss. fsplit t $ feq_l t (λ is. fsplit t $ feq_l t (λ is_at. fsplit t $
        handle_tells E.al t d.alloc vss.1.0 (λ h is_alloc fits.
        move t (1 ∷ []) $ drop t $ move t (1 ∷ []) $
        in_a_block t d.at (λ p. box_owns (E.al.g.dealloc_token d.alloc) (box.R E) p d.value)
        (fst∗ 𝓤 (never 𝓤) (sem 𝓛 (E.al.g.dealloc_token d.alloc (bare (box.τ E)) null_ptr)))
        (λ b o e.
        k b o h e
        (subst (λ (p : Ptr). vs ≡ vstruct (of_list (ptr_val p ∷ h ∷ [])) ∷ []) e
        (subst (λ (ws : List Val). vs ≡ vstruct (of_list (ptr_val d.at ∷ (ws ++ []))) ∷ []) is_alloc
        (subst (λ (ps : List Val). vs ≡ vstruct (of_list (ps ++ (vss.1.0 ++ []))) ∷ []) is_at is)))
        fits)))))

    pub loose_in : K → (b o : ℕ) (h : Val) (a : E.al.row.Denot) (x : E.row.Denot)
        → Step K 𝓛 (‵ (L.own_val (record { at = block_ptr b o; alloc = a; value = x })
        (box.word E h b o ∷ [])) ∷ Γ) G
        (‵ (box_owns (E.al.g.dealloc_token a) (box.R E) (block_ptr b o) x)
        ∷ ‵ (E.al.row.own_val a (h ∷ [])) ∷ Γ)
        G
    loose_in t b o h a x = step (λ s. let v : Val = box.word E h b o in
        nothing t $ move t (2 ∷ 0 ∷ []) $ fjoin t $
        feq_i t (List Val) (vptr b o ∷ []) (vptr b o ∷ []) refl $ fjoin t $
        feq_i t (List Val) (v ∷ []) (v ∷ []) refl $ fjoin t $
        fpack t (Valss (RawPtr ∷ box.P E ∷ []))
        (within (shape (loose.the_type (box.R E) (box.P E) E.al.g)) (block_ptr b o, (a, tt))
        (v ∷ []))
        (vptr b o ∷ [], (h ∷ [], tt)) $ fjoin t $ s)
