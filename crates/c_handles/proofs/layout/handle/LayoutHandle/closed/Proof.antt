-- `closed` moves the two fields, and what they own goes with them.
use Rattle.std.proofs.Common.{true, List, [], ◌∷◌, ◌++◌, refl, sym, subst}
use Rattle.std.proofs.raw_atomic.Walks.{proved_at}
use Rattle.std.proofs.BoxSteps.Form.{D, B, word, box_typed}
use Rattle.std.proofs.BoxSteps.Steps.{box_out, box_in}
use mir.Val.{Val}
use base.Logic.{SProp, ent, emp, id⊢}
use base.Fml.{ftrue, fsep}
use prog.Wp.{WpFn}
use contract.Running.{tables}
use types.Kit.{‵, raw, ◌⊛◌, ◌$◌, ◌∵◌, !, qed, done, move, drop, use1, join, split, fsplit, fjoin, suffices}
use types.Part.{whole, sub, agg}
use types.Run.{enter, stop, fld, no_more, and_then, of_opd, returns}
use types.ByLocal.{alloc_all, pass_all, free_all, look_at, get, get_in, sets}
use denote.Steps.{nothing}
use denote.Triple.Walked.{says, Stays, stay_dropped, walk_of, ends_at, Goes-dropped}
use Rattle.c_handles.proofs.layout.Boxes.{E, FromLoose}
use Rattle.c_handles.specs.contracts.layout.handle.LayoutHandle as handle
use Rattle.c_handles.specs.contracts.layout.handle.LayoutHandle.closed as f
use Rattle.c_handles.proofs.layout.handle.LayoutHandle.closed.Statement.{statement}
use Rattle.c_handles.proofs.layout.handle.LayoutHandle.closed.Code as code

abbrev stayed : Stays f.ended.signature.params f.ended.kept
stayed = (stay_dropped FromLoose f.ended.kept.0, tt)

pub closed_spec : {M : Type 1} → statement M
closed_spec 𝓤 𝓛 𝓜 𝓡 wired =
    let H = 𝓛.H in let 𝓣 = tables 𝓤 H 𝓜 𝓡 𝓡.env in
    let c = f.clauses 𝓛 𝓜.mem 𝓡.returns in let W = walk_of 𝓛 f.ended stayed c in
    let fn = code.function in
    proved_at 𝓛 f.ended stayed c 𝓜 𝓡 (
      Goes-dropped 𝓛 0 FromLoose f.ended.kept.0
          (λ κs x w. refl),
      tt,
    )
    f.Key.name fn (code.unfolded 𝓤 H 𝓜 𝓡 wired) (λ z are.
    let Post : Val → SProp 𝓤 = W.post z in
    let Run : List Val → SProp 𝓤 = λ us. WpFn 𝓤 H 𝓣.C 𝓣.Λ fn us Post in
    let d : D E = record { ptr = z.0.3.0.at; alloc = z.0.3.0.alloc; value = z.0.3.0.value } in
    let made : handle.the_row.Denot =
    record { ptr = d.ptr; alloc = d.alloc; full = true; held = d.value } in
    qed 𝓛 ((‵ ftrue ⊛ ‵ (fsep ((B E).own_val d z.0.4.0) ftrue)) ∷ raw (emp 𝓤) ∷ []) ∵
    split ! $ drop ! $ fsplit ! $
    box_out E ! d z.0.4.0 (λ b o h e ws fits. box_in E ! d b o d.value e refl $
    let w : Val = word E h b o in let good = box_typed E h b o fits in
    use1 𝓛 (‵ (handle.the_row.own_val made (w ∷ []))) (id⊢ 𝓤 _) $
    move ! (1 ∷ 2 ∷ []) $ drop ! $ drop ! $
    suffices ! (Run (w ∷ []))
    (subst (λ (us : List Val). ent 𝓤 (Run (w ∷ [])) (Run us)) (sym (λ i. ws i ++ []))
    (id⊢ 𝓤 (Run (w ∷ [])))) $
    enter ! 𝓣.C 𝓣.Λ fn (w ∷ []) Post $ alloc_all ! (λ l. pass_all ! refl (good, tt) $
    sets ! (of_opd ! (get_in ! (fld ! refl (stop !)) (sub ! 0 refl (whole !)))) refl (tt, tt) $
    sets ! (of_opd ! (get_in ! (fld ! refl (stop !)) (sub ! 1 refl (whole !)))) refl fits $
    sets ! (of_opd ! (get ! refl)) refl (tt, tt) $
    sets ! (agg ! (and_then ! (get ! refl) (and_then ! (get ! refl) (no_more !)))) refl good $
    returns ! (look_at ! 0 refl) $ free_all ! refl $
    suffices ! _ (ends_at 𝓛 f.ended stayed c z w made (tt, tt) (tt, tt)) $ says ! (refl, refl) $
    nothing ! $ nothing ! $ fjoin ! $ join ! $ nothing ! $ join ! $ done !)))
